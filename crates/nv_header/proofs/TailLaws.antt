-- The steps that move the tail.
use Rattle.std.proofs.Common.{[], ◌∷◌, take, inl, inr, refl}
use Rattle.nv_pmem.specs.Runs.{run, grown}
use Rattle.nv_pmem.specs.Steps.{after_line_step, durable_store}
use Rattle.nv_pmem.proofs.DurableLaws.{durable_value, quiet_settled}
use Rattle.nv_pmem.proofs.ImageLaws.{image_comes_from}
use Rattle.nv_pmem.proofs.RowLaws.{stored_by-take}
use Rattle.nv_header.specs.Laws.{TailIsOldOrNew, TailIsMoved, TailEndsQuiet}
use Rattle.nv_header.proofs.FormatLaws.{only_stores}

pub tail_is_old_or_new : TailIsOldOrNew
tail_is_old_or_new tail count part image is =
    let steps = durable_store 1 0 tail in
    let from = image_comes_from (take count steps) part image is in
    record {
      before = from.before;
      is = from.is;
      stored = elim (from.words 1 0) [
        | inl kept ↦ inl kept
        | inr one ↦ inr (only_stores 1 0 tail 1 0 (image 1 0) (stored_by-take count steps 1 0 (image 1 0) one)).2
      ];
      others = λ i j other. elim (from.words i j) [
        | inl kept ↦ kept
        | inr one ↦
            let here = only_stores 1 0 tail i j (image i j) (stored_by-take count steps i j (image i j) one) in
            elim other [ inl apart ↦ absurd (apart here.0) | inr apart ↦ absurd (apart here.1) ]
      ];
    }

pub tail_is_moved : TailIsMoved
unfolding run durable_store
tail_is_moved tail part inside =
    durable_value 1 0 tail {old = part ∷ []} {new = run (grown after_line_step) (durable_store 1 0 tail) (part ∷ [])} inside (record { states = refl })

pub tail_ends_quiet : TailEndsQuiet
tail_ends_quiet tail part quiet = quiet_settled 1 0 tail part quiet

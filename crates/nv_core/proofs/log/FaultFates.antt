-- The fate of a write that a fault ended.
use Rattle.std.proofs.Common.{◌≡◌, ◌↔◌, ◌+◌, ◌≤◌, nat_le, ◌==◌, ◌&&◌, ◌||◌, not, Bool, true, false, inl, inr, refl, sym, ap, subst, arith, add-zero}
use Rattle.std.proofs.lemmas.Bool.{and_from, and_parts, eq-eqb, eqb-true, leb-true}
use Rattle.nv_plain.specs.Images.{entry_of}
use Rattle.nv_plain.specs.Recovered.{recovered}
use Rattle.nv_core.specs.state.Passes.{IsOneOf}
use Rattle.nv_core.specs.state.Words.{slot_of_entry}
use Rattle.nv_core.specs.log.InFlight.{IsFlying}
use Rattle.nv_core.specs.log.Unready.{group_of_fault}
use Rattle.nv_core.specs.log.Faults.{IsRecorded}
use Rattle.nv_core.specs.log.LivePieces.{is_ready}
use Rattle.nv_core.specs.log.Written.{commit_length}
use Rattle.nv_core.specs.log.EntryImages.{ReadsOpen}
use Rattle.nv_core.specs.log.LogContent.{GroupsComeLate}
use Rattle.nv_core.specs.crash.CrashImages.{is_in_flight, is_committed, is_added, Survives, IsFated, KeptInImage, Stored, StatesSurviveCrashes, FaultsAreFated, FaultsAreLost}
use Rattle.nv_core.proofs.state.PageLaws.{write_pages}
use Rattle.nv_core.proofs.crash.CrashGroups.{some_entries}
use Rattle.nv_core.proofs.crash.CrashHeader.{which_tail}

pub faults_are_fated : StatesSurviveCrashes → FaultsAreFated
faults_are_fated survive sizes first opened names tails log placed core by fault image bytes sound content region is left ended write = go (survives.fates fault.first known.unready.within flight)
  where
    survives : Survives sizes opened log placed core image bytes
    survives = survive sizes first opened names tails log placed core sound content region image bytes is left

    known : IsRecorded sizes log placed core fault
    known = content.faults.each by fault ended write

    flight : is_in_flight log placed fault.first ≡ true
    flight = and_from ((log.group fault.first).first == fault.first) (not (placed fault.first)) (eq-eqb (log.group fault.first).first fault.first known.unready.leads) (ap not known.unplaced)

    go : IsFated sizes log placed core image (recovered image bytes).first (recovered image bytes).groups fault.first
        → ((recovered image bytes).first ≤ fault.first) × (IsOneOf (recovered image bytes).groups fault.first ↔ (is_added sizes log placed core image fault.first ≡ true)) × (log.group fault.first ≡ group_of_fault fault)
    go (KeptInImage low exactly) = (low, exactly, known.group)
    go (Stored less number waiting) = absurd (known.other number (subst (IsFlying (core.passes number)) (sym waiting.control) waiting.write) waiting.first)

-- ---- a commit that failed early

-- what a number adds that wasn't made ready reads as committed
committed_if : (flies ready_ committed : Bool) → (flies && (ready_ || committed)) ≡ true → (ready_ ≡ true → ⊥) → committed ≡ true
committed_if flies true committed adds unready = absurd (unready refl)
committed_if flies false committed adds unready = (and_parts flies committed adds).1

pub faults_are_lost : GroupsComeLate → FaultsAreFated → FaultsAreLost
faults_are_lost late fated sizes first opened names tails log placed core by fault image bytes sound content region is left ended write few among =
    open_ 0 (write_pages sizes fault.call write) (subst (λ n. (entry_of (image (1 + slot_of_entry sizes n))).commit ≡ n + 1) (sym (add-zero fault.first)) counts)
  where
    known : IsRecorded sizes log placed core fault
    known = content.faults.each by fault ended write

    adds : is_added sizes log placed core image fault.first ≡ true
    adds = (fated sizes first opened names tails log placed core by fault image bytes sound content region is left ended write).1.0 among

    committed : is_committed sizes image fault.first ≡ true
    committed = committed_if (is_in_flight log placed fault.first) (is_ready sizes core fault.first) (is_committed sizes image fault.first) adds known.unready.unready

    parts : (nat_le (image 0 1 0) fault.first ≡ true) × (((entry_of (image (1 + slot_of_entry sizes fault.first))).commit == fault.first + 1) ≡ true)
    parts = and_parts (nat_le (image 0 1 0) fault.first) ((entry_of (image (1 + slot_of_entry sizes fault.first))).commit == fault.first + 1) committed

    counts : (entry_of (image (1 + slot_of_entry sizes fault.first))).commit ≡ fault.first + 1
    counts = eqb-true (entry_of (image (1 + slot_of_entry sizes fault.first))).commit (fault.first + 1) parts.1

    low : tails.least ≤ fault.first
    low = let t = leb-true (image 0 1 0) fault.first parts.0 in let o = content.retired.order in
        elim (which_tail sizes first names tails log core content.header region image is) [ inl e ↦ omega (arith, e, t) | inr e ↦ omega (arith, e, o, t) ]

    open_ : ReadsOpen sizes fault.call fault.first image
    open_ = subst (λ g. ReadsOpen sizes g.call fault.first image) known.group
        (late sizes first opened tails log placed core fault.first (some_entries sizes names (image 0 1 0) image (region.header image is)) sound content known.unready.within low known.unready.leads
        (subst (λ g. log.calls fault.first + 3 ≤ commit_length sizes g.call fault.first) (sym known.group) few) image is)

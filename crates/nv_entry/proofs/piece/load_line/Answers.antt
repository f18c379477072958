use Rattle.std.proofs.Common.{◌≡◌, ◌*◌, length, ap, subst, ◌∙◌, arith}
use Rattle.nv_pmem.specs.Part.{part_word}
use Rattle.nv_pmem.specs.Moments.{Tells}
use Rattle.nv_pmem.specs.Steps.{PartHistory}
use Rattle.nv_pmem.proofs.Ranges.{length-put_mid}
use Rattle.nv_entry.proofs.Filling.{told_word_put}
use Rattle.nv_pmem.proofs.Rooms.{Keeps-more}
use Rattle.nv_entry.proofs.piece.load_line.Goals as goal

pub loop-word-preserved : goal.loop-word-preserved
loop-word-preserved g c =
    let copy = c.copy_from_slice.ensures.after ∙ c.to_le_bytes.ensures in
    let Loaded : PartHistory → Type 0 = λ history. Tells history (λ now. c.in_ok-value.value ≡ part_word now c.args.line c.loop-word.word) in
    record {
      size = length-put_mid (8 * c.loop-word.word) _ c.loop-word.bytes c.copy_from_slice.new.self (omega arith) (omega (arith, ap length copy)) ∙ c.loop-word.invariant.size;
      loaded =
          told_word_put (g.L.Lines.history c.args.part.now) c.args.line c.loop-word.word c.in_ok-value.value c.loop-word.bytes c.copy_from_slice.new.self
          _ (omega arith) copy c.loop-word.invariant.loaded (subst Loaded c.loop-word.invariant.history c.in_ok-value.ensures.value);
      history = c.in_ok-value.ensures.history ∙ c.loop-word.invariant.history;
      room = Keeps-more c.loop-word.invariant.room c.in_ok-value.ensures.room;
      same_room = c.in_ok-value.ensures.same_room ∙ c.loop-word.invariant.same_room;
      faults = c.in_ok-value.ensures.cause ∙ c.loop-word.invariant.faults;
      device = c.in_ok-value.ensures.device ∙ c.loop-word.invariant.device;
    }

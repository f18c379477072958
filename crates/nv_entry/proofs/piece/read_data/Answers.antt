use Rattle.std.proofs.Common.{◌≡◌, ◌+◌, subst, ◌∙◌, arith}
use Rattle.nv_plain.specs.Images.{line_bytes}
use Rattle.nv_pmem.specs.Part.{part_word}
use Rattle.nv_pmem.specs.Moments.{Tells}
use Rattle.nv_pmem.specs.Steps.{PartHistory}
use Rattle.nv_entry.proofs.Filling.{told_line_put}
use Rattle.nv_pmem.proofs.Rooms.{Keeps-more}
use Rattle.nv_entry.proofs.piece.read_data.Goals as goal

pub loop-k-preserved : goal.loop-k-preserved
loop-k-preserved g c =
    let Loaded : PartHistory → Type 0 = λ history. Tells history (λ now. c.in_ok-line.line ≡ line_bytes (part_word now (1 + c.loop-k.k))) in
    record {
      read =
          told_line_put (g.L.Lines.history c.args.part.now) c.loop-k.k c.min-end.result c.loop-k.into c.copy_from_slice.new.self c.in_ok-line.line
          (omega arith) (omega arith) c.copy_from_slice.ensures.after c.copy_from_slice.ensures.len
          (subst Loaded c.loop-k.invariant.history c.in_ok-line.ensures.bytes) c.loop-k.invariant.read;
      history = c.in_ok-line.ensures.history ∙ c.loop-k.invariant.history;
      room = Keeps-more c.loop-k.invariant.room c.in_ok-line.ensures.room;
      same_room = c.in_ok-line.ensures.same_room ∙ c.loop-k.invariant.same_room;
      faults = c.in_ok-line.ensures.cause ∙ c.loop-k.invariant.faults;
      device = c.in_ok-line.ensures.device ∙ c.loop-k.invariant.device;
    }

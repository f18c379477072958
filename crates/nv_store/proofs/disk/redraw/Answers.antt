use Rattle.std.proofs.Common.{◌%◌, arith, sym, ap, ◌∙◌}
use Rattle.nv_pmem.specs.Draws.{next_word, after_draw}
use Rattle.nv_store.proofs.Choices.{replaced_none, replaced_more_set, replaced_more_clear, replaced_all, after_draws-none, draws_more_set, draws_more_clear}
use Rattle.nv_store.proofs.disk.redraw.Goals as goal
use Rattle.nv_store.proofs.disk.redraw.Goals.{then-unsynced-i, else-unsynced-i}

pub loop-i-init : goal.loop-i-init
loop-i-init c = record { bytes = replaced_none _ _ _; draws = sym (after_draws-none c.args.picker.now) }

pub loop-i-preserved : goal.loop-i-preserved
loop-i-preserved c = elim c.if-unsynced-i.branch [
  | then-unsynced-i w ↦ record {
    bytes =
        rw w.bytes-is
        (replaced_more_set _ _ _ _ c.loop-i.i _ (omega arith) w.if-unsynced-i.true
        (ap (λ word. word % 256) (w.draw.ensures.word ∙ ap next_word c.loop-i.invariant.draws)) c.loop-i.invariant.bytes);
    draws =
        w.picker-is ∙ w.draw.ensures.after ∙ ap after_draw c.loop-i.invariant.draws
        ∙ sym (draws_more_set c.args.unsynced.now c.loop-i.i c.args.picker.now (omega arith) w.if-unsynced-i.true);
  }
  | else-unsynced-i w ↦ record {
    bytes = rw w.bytes-is (replaced_more_clear _ _ _ _ c.loop-i.i w.if-unsynced-i.false c.loop-i.invariant.bytes);
    draws =
        w.picker-is ∙ c.loop-i.invariant.draws
        ∙ sym (draws_more_clear c.args.unsynced.now c.loop-i.i c.args.picker.now (omega arith) w.if-unsynced-i.false);
  }
]

pub returns-clause-bytes : goal.returns-clause-bytes
returns-clause-bytes c = replaced_all _ _ _ _ c.loop-i.i (omega arith) (omega arith) c.loop-i.invariant.bytes

use Rattle.std.proofs.Common.{refl, sym, ap, ◌∙◌, arith}
use Rattle.nv_pmem.specs.Picked.{picked_line, picked}
use Rattle.nv_pmem.proofs.PickedLaws.{picks_more, picks_all, picks_all_draws}
use Rattle.nv_pmem.proofs.PastLaws.{noted_before}
use Rattle.nv_pmem.proofs.told.Told.lose_power.Goals as goal

pub loop-line-init : goal.loop-line-init
unfolding picked
loop-line-init c = record { are = refl; draws_are = refl }

pub loop-line-preserved : goal.loop-line-preserved
loop-line-preserved c =
    picks_more c.args.picker.now c.deref_mut-line-items.result.now c.loop-line.line-index c.loop-line.line-items c.loop-line.picker c.line-item.result
    c.lose_power.new.self c.lose_power.new.picker c.loop-line-test.true c.loop-line.invariant c.line-item.is
    (c.lose_power.ensures ∙ ap (picked_line c.loop-line.picker) (sym c.line-item.is))

pub returns : goal.returns
returns c =
    let part = c.args.self.now.lines.items in
    let so_far = rw c.deref_mut-line-items.ensures.value at c.loop-line.invariant in
    let over = rw c.deref_mut-line-items.ensures.value at c.loop-line-test.false in
    let after = picks_all c.args.picker.now part c.loop-line.line-index c.args.self.now.lines.len c.loop-line.line-items c.loop-line.picker over (omega arith) so_far in
    record {
      history = noted_before (λ lines. lines.items) after c.note.ensures;
      draws = picks_all_draws c.args.picker.now part c.loop-line.line-index c.loop-line.line-items c.loop-line.picker over so_far;
    }

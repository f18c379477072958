use Rattle.std.proofs.Common.{◌<◌, length, sym, ap, ◌∙◌, arith}
use Rattle.nv_open.proofs.NewNames.{added_new, added_old}
use Rattle.nv_open.proofs.Openings.{item_at}
use Rattle.nv_open.proofs.adding.missing_names.Goals as goal
use Rattle.nv_open.proofs.adding.missing_names.Goals.{then-not-contains+in_ok-bytes+in_ok-push, else-not-contains}

pub loop-name-preserved : goal.loop-name-preserved
loop-name-preserved c =
    let wanted = c.args.wanted.now in
    let i = c.loop-name.name-index in
    let below : i < length wanted = omega (arith, ap length c.as_slice-name-items.ensures) in
    let is = c.as_slice.ensures ∙ item_at c.as_slice-name-items.result.now wanted i c.name-item.result c.as_slice-name-items.ensures c.loop-name-test.true c.name-item.is in
    elim c.if-not-contains.branch [
      | then-not-contains+in_ok-bytes+in_ok-push w ↦
          added_new c.args.known.now wanted i c.as_slice.result.now w.from_vec.result c.contains.result c.loop-name.missing c.if-not-contains.missing below is c.contains.ensures
          w.if-not-contains.true (w.from_vec.ensures ∙ w.in_ok-bytes.ensures.items ∙ w.as_slice-then-not-contains.ensures ∙ sym c.as_slice.ensures) c.loop-name.invariant (w.missing-is ∙ w.in_ok-push.ensures.ok)
      | else-not-contains w ↦
          added_old c.args.known.now wanted i c.as_slice.result.now c.contains.result c.loop-name.missing c.if-not-contains.missing below is c.contains.ensures w.if-not-contains.false c.loop-name.invariant w.missing-is
    ]

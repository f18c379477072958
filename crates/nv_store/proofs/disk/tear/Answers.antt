use Rattle.std.proofs.Common.{arith, refl}
use Rattle.nv_store.proofs.Choices.{replaced_none, replaced_more_set, replaced_more_clear, replaced_all}
use Rattle.nv_store.proofs.disk.tear.Goals as goal
use Rattle.nv_store.proofs.disk.tear.Goals.{then-unsynced-i, else-unsynced-i}

pub loop-i-init : goal.loop-i-init
loop-i-init c = replaced_none _ _ _

pub loop-i-preserved : goal.loop-i-preserved
loop-i-preserved c = elim c.if-unsynced-i.branch [
  | then-unsynced-i w ↦
      rw w.bytes-is (replaced_more_set _ _ _ _ c.loop-i.i 0xa5 (omega arith) w.if-unsynced-i.true refl c.loop-i.invariant)
  | else-unsynced-i w ↦ rw w.bytes-is (replaced_more_clear _ _ _ _ c.loop-i.i w.if-unsynced-i.false c.loop-i.invariant)
]

pub returns : goal.returns
returns c = replaced_all _ _ _ _ c.loop-i.i (omega arith) (omega arith) c.loop-i.invariant

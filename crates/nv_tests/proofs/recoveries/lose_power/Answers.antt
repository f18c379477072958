use Rattle.std.proofs.Common.{arith}
use Rattle.nv_tests.proofs.LostPower.{quiet_row, quiet_stores}
use Rattle.nv_tests.proofs.recoveries.lose_power.Goals as goal

pub returns-clause-quiet : goal.returns-clause-quiet
returns-clause-quiet c =
    quiet_row c.loop-part.part-items
    (λ i none below.
    c.loop-part.invariant.lost i none (omega (arith, c.loop-part.auto.part-items, c.loop-part.auto.part-index-end, c.loop-part-test.false)))

pub returns-clause-synced : goal.returns-clause-synced
returns-clause-synced c =
    quiet_stores c.loop-store.store-items
    (λ i none below.
    c.loop-store.invariant.lost i none (omega (arith, c.loop-store.auto.store-items, c.loop-store.auto.store-index-end, c.loop-store-test.false)))

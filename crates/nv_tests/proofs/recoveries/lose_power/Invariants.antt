use Rattle.nv_tests.proofs.LostPower.{First, HasLostPower, StoreHasLostPower}
use Rattle.nv_tests.proofs.recoveries.lose_power.Given as goal

-- the parts before this one have lost power
abbrev pub invariant-loop-part : goal.invariant-loop-part
invariant-loop-part l = record { lost : First HasLostPower l.part-index l.part-items }

-- and so have the stores before this one
abbrev pub invariant-loop-store : goal.invariant-loop-store
invariant-loop-store l = record { lost : First StoreHasLostPower l.store-index l.store-items }

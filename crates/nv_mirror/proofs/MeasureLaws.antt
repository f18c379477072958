-- Measures: the front of a read comes to its end.
use Rattle.std.proofs.Common.{◌≡◌, ℕ, zero, suc, ◌+◌, ◌-◌, ◌*◌, ◌<◌, ◌≤◌, ◌==◌, ◌^◌, ◌&&◌, nat_lt, Bool, true, false, if◌then◌else◌, arith}
use Rattle.std.specs.Prelude.{not}
use Rattle.nv_core.specs.state.Words.{Sizes}
use Rattle.nv_mirror.specs.declared.answers.Refusal.{Refusal}
use Rattle.nv_mirror.specs.declared.front.FrontControl.{FrontControl}
use Rattle.nv_mirror.specs.declared.front.FrontControl.TheVariants.{Passed, Over}
use Rattle.nv_mirror.specs.declared.front.FrontControl.TheVariants as fronts
use Rattle.nv_mirror.specs.declared.front.FrontMachine.{FrontMachine}
use Rattle.nv_mirror.specs.Fronts.{size_in, front_measure_at, IsOpen, FitsAt, rest, refuse, locked, front_after_at}
use Rattle.nv_core.specs.invariant.Ownership.{one_if}

left_measure : (m : FrontMachine) (size : Bool) (held : ℕ) (refusal : Refusal) (most : ℕ) → 1 + one_if size + held < most → front_measure_at (refuse m size held refusal) (rest size held refusal) < most
left_measure m true held refusal most low = low
left_measure m false zero refusal most low = omega (arith, low)
left_measure m false (suc held) refusal most low = low

few : (b : Bool) → one_if b ≤ 1
few true = omega arith
few false = omega arith

locked_less : (sizes : Sizes) (m : FrontMachine) (b c : Bool) → m.first + m.held < m.last → m.sized ≡ false
    → front_measure_at (record m { held = m.held + 1 }) (if c then fronts.LoadLength else fronts.TakePage) < 10 + (m.last - m.first) + (m.last - (m.first + m.held))
locked_less sizes m b true low unsized = omega (arith, low)
locked_less sizes m b false low unsized = omega (arith, low)

pub front_less : (sizes : Sizes) (m : FrontMachine) (control : FrontControl) (found : ℕ) → m.first + m.held ≤ m.last → FitsAt m control → IsOpen control → front_measure_at (front_after_at sizes m control found) (front_after_at sizes m control found).control < front_measure_at m control
front_less sizes m fronts.Begin found within at runs = by (found == 0)
  where
    by : (b : Bool) → front_measure_at (locked sizes m b) (locked sizes m b).control < front_measure_at m fronts.Begin
    by true = locked_less sizes m true (m.first + m.held + 1 == m.last) at.3 at.1
    by false = left_measure m false m.held _ _ (let low = at.3 in omega (arith, low))
front_less sizes m fronts.TakePage found within at runs = by (found == 0)
  where
    by : (b : Bool) → front_measure_at (locked sizes m b) (locked sizes m b).control < front_measure_at m fronts.TakePage
    by true = locked_less sizes m true (m.first + m.held + 1 == m.last) at.1 at.0
    by false = left_measure m false m.held _ _ (let low = at.1 in omega (arith, low))
front_less sizes m fronts.LoadLength found within at runs = by (nat_lt 0 (size_in m) && nat_lt found m.end) m.sized
  where
    by : (a b : Bool) → front_measure_at (record m { length = found; sized = b }) (if a && not b then fronts.TakeSize else fronts.LoadStop) < 9 + (m.last - m.first) - 2 * one_if b
    by true true = omega arith
    by true false = omega arith
    by false true = omega arith
    by false false = omega arith
front_less sizes m fronts.TakeSize found within at runs = by _ (found == 0)
  where
    by : (refusal : Refusal) (b : Bool) → front_measure_at (if b then record m { sized = true; control = fronts.LoadLength } else refuse m false m.held refusal) (if b then record m { sized = true; control = fronts.LoadLength } else refuse m false m.held refusal).control < front_measure_at m fronts.TakeSize
    by refusal true = omega arith
    by refusal false = left_measure m false m.held refusal _ (omega (arith, within))
front_less sizes m fronts.LoadStop found within at runs = by _ (found == 0)
  where
    by : (refusal : Refusal) (b : Bool) → front_measure_at (if b then record m { control = fronts.LoadOrder } else refuse m m.sized m.held refusal) (if b then record m { control = fronts.LoadOrder } else refuse m m.sized m.held refusal).control < front_measure_at m fronts.LoadStop
    by refusal true = omega arith
    by refusal false = left_measure m m.sized m.held refusal _ (let one = few m.sized in omega (arith, within, one))
front_less sizes m fronts.LoadOrder found within at runs = by _ (nat_lt found (2 ^ 60))
  where
    by : (refusal : Refusal) (b : Bool) → front_measure_at (if b then record m { control = Passed } else refuse m m.sized m.held refusal) (if b then record m { control = Passed } else refuse m m.sized m.held refusal).control < front_measure_at m fronts.LoadOrder
    by refusal true = omega arith
    by refusal false = left_measure m m.sized m.held refusal _ (let one = few m.sized in omega (arith, within, one))
front_less sizes m (fronts.GiveBack true refusal) found within at runs = left_measure m false m.held refusal _ (omega arith)
front_less sizes m (fronts.GiveBack false refusal) found within at runs = left_measure m false (m.held - 1) refusal _ (omega (arith, at))
front_less sizes m Passed found within at runs = absurd runs
front_less sizes m (Over refusal) found within at runs = absurd runs

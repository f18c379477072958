-- Measures: a search comes to its end.
use Rattle.std.proofs.Common.{ℕ, ◌+◌, ◌-◌, ◌*◌, ◌<◌, ◌==◌, nat_lt, Bool, true, false, if◌then◌else◌, arith}
use Rattle.std.specs.Prelude.{Option, Some, None}
use Rattle.nv_core.specs.invariant.Ownership.{is_among}
use Rattle.nv_core.specs.state.Words.{Sizes}
use Rattle.nv_cache.specs.declared.search.SearchControl.{SearchControl}
use Rattle.nv_cache.specs.declared.search.SearchControl.TheVariants.{Found, NotFound}
use Rattle.nv_cache.specs.declared.search.SearchControl.TheVariants as searches
use Rattle.nv_cache.specs.declared.search.SearchMachine.{SearchMachine}
use Rattle.nv_cache.specs.Searches.{FitsAt, IsOpen, search_after_at, search_measure_at}

module _ (sizes : Sizes) (m : SearchMachine) where
  -- another try is less than what is left of one
  again_less : (given : Option ℕ) (more : Bool) (left : ℕ) → 1 < left
      → search_measure_at sizes (record m { control = if more then searches.TurnHand given else NotFound given }) (if more then searches.TurnHand given else NotFound given) < 4 * (2 * sizes.buffers - m.tries) + left
  again_less given true left some = omega (arith, some)
  again_less given false left some = omega (arith, some)

  pub search_less : (control : SearchControl) (found : ℕ) (lacks : Bool) → FitsAt sizes m control → IsOpen control
      → search_measure_at sizes (search_after_at sizes m control found lacks) (search_after_at sizes m control found lacks).control < search_measure_at sizes m control
  search_less (searches.Begin from) found lacks at runs = let none = at.1 in let some = at.2 in omega (arith, none, some)
  search_less (searches.TurnHand given) found lacks at runs = omega (arith, at)
  search_less (searches.LoadHint buffer) found lacks at runs = by (is_among m.first (m.first + m.pages) found)
    where
      by : (own : Bool)
          → search_measure_at sizes (if own then record m { control = if nat_lt m.tries (2 * sizes.buffers) then searches.TurnHand None else NotFound None } else record m { control = searches.TakeVictim buffer found })
          (if own then record m { control = if nat_lt m.tries (2 * sizes.buffers) then searches.TurnHand None else NotFound None } else record m { control = searches.TakeVictim buffer found }).control < 4 * (2 * sizes.buffers - m.tries) + 4
      by true = again_less None (nat_lt m.tries (2 * sizes.buffers)) 4 (omega arith)
      by false = omega arith
  search_less (searches.TakeVictim buffer victim) found lacks at runs = by (found == 0)
    where
      by : (free : Bool)
          → search_measure_at sizes (if free then record m { control = searches.GiveVictim buffer victim } else record m { control = if nat_lt m.tries (2 * sizes.buffers) then searches.TurnHand None else NotFound None })
          (if free then record m { control = searches.GiveVictim buffer victim } else record m { control = if nat_lt m.tries (2 * sizes.buffers) then searches.TurnHand None else NotFound None }).control < 4 * (2 * sizes.buffers - m.tries) + 3
      by true = omega arith
      by false = again_less None (nat_lt m.tries (2 * sizes.buffers)) 3 (omega arith)
  search_less (searches.GiveVictim buffer victim) found true at runs = again_less (Some buffer) (nat_lt m.tries (2 * sizes.buffers)) 2 (omega arith)
  search_less (searches.GiveVictim buffer victim) found false at runs = omega arith
  search_less (searches.SetHint buffer) found lacks at runs = omega arith
  search_less (Found buffer) found lacks at runs = absurd runs
  search_less (NotFound given) found lacks at runs = absurd runs

-- Each event keeps the numbers.
use Rattle.std.proofs.Common.{ℕ, ◌+◌, ◌<◌, ◌≤◌, inl, inr, sym, subst, arith}
use Rattle.nv_core.specs.state.Words.{Sizes}
use Rattle.nv_core.specs.state.Passes.{Pass}
use Rattle.nv_core.specs.steps.Ops.{Op, Split, Join}
use Rattle.nv_core.specs.steps.Order.{Values}
use Rattle.nv_core.specs.state.Core.{Core, with_number, after_step}
use Rattle.nv_core.proofs.steps.ByKind.{StepEnabledByKind}
use Rattle.nv_core.specs.invariant.Numbers.{IsUnborn, Numbers}
use Rattle.nv_core.proofs.state.Changes.{by_number}

unborn_else : (f : ℕ → Pass) (at made now : ℕ) (pass : Pass) → at ≤ now → made ≤ now → ((n : ℕ) → made < n → IsUnborn (f n)) → (n : ℕ) → now < n → IsUnborn (with_number f at pass n)
unborn_else f at made now pass here up unborn = by_number (λ n p. now < n → IsUnborn p) f at pass (λ less. absurd (omega arith)) (λ n ne less. unborn n (omega arith))

pub numbers_step : (sizes : Sizes) (by : ℕ) (core : Core) (op : Op) (found : ℕ) → Numbers core → by ≤ core.made → StepEnabledByKind sizes by core op → Numbers (after_step sizes by op found core)
numbers_step sizes by core Split found numbers here may = record {
  unborn = unborn_else core.passes (core.made + 1) core.made (core.made + 1) _ (omega arith) (omega arith) numbers.unborn;
  ended = λ n is. let e = numbers.ended n is in let f = e.1 in (e.0, omega (arith, f));
}
numbers_step sizes by core (Join number) found numbers here may = record {
  unborn = unborn_else core.passes by core.made core.made _ here (omega arith) numbers.unborn;
  ended = λ n is. elim is [ inl e ↦ subst (λ m. (1 ≤ m) × (m ≤ core.made)) (sym e) (let ne = may.1 in (omega arith, may.2)) | inr old ↦ numbers.ended n old ];
}
numbers_step sizes by core op found numbers here may = record {
  unborn = unborn_else core.passes by core.made core.made _ here (omega arith) numbers.unborn;
  ended = numbers.ended;
}

pub numbers_one : (core : Core) (by : ℕ) (pass : Pass) (values : Values) → Numbers core → by ≤ core.made → Numbers record core { values = values; passes = with_number core.passes by pass }
numbers_one core by pass values numbers here = record { unborn = unborn_else core.passes by core.made core.made pass here (omega arith) numbers.unborn; ended = numbers.ended }

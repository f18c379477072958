-- Told rounds: what a run has shown of the rounds before its last, whatever it was ended by.
use Rattle.std.specs.Prelude.{◌⊎◌, Bool, List, map}
use Rattle.nv_core.specs.state.Passes.{IsOneOf}
use Rattle.nv_trace.specs.Traced.{Traced}
use Rattle.nv_trace.specs.declared.report.Refusal.{Refusal}
use Rattle.nv_trace.specs.declared.trace_call.TracedCall.{TracedCall}
use Rattle.nv_runner.specs.Faithful.{Basis, IsAllowedRefusal, RetiresNothing, descriptors_in}
use Rattle.nv_runner.specs.Histories.{PlacedCall}
use Rattle.nv_runner.specs.KeptRounds.{AreOfLastRound, IsOfEarlierRound}

-- A call was refused where no device failed: for what bars it; or for the room, or the number, that it lacked behind the calls that were shown.
abbrev pub WasRefusedBehind : (worker : Bool) → Basis → Traced → (shown : List PlacedCall) → TracedCall → Type 0
WasRefusedBehind worker basis trace shown call =
    (refusal : Refusal) × IsAllowedRefusal ⊥ (RetiresNothing worker basis) basis (descriptors_in basis.names trace) (map (λ p. p.call) shown) call refusal

-- A run of a trace has told of the rounds before its last: a call that has its place behind those that were shown is of the last round; and unless devices failed each call of the others was shown, or refused with a cause.
pub record TellsRounds (failed : Type 0) (worker : Bool) (basis : Basis) (trace : Traced) (shown later : List PlacedCall) : Type 0 where
  pub late : AreOfLastRound trace.calls later
  pub told : ¬ failed → (call : TracedCall) → IsOfEarlierRound trace.calls call → IsOneOf (map (λ p. p.call) shown) call ⊎ WasRefusedBehind worker basis trace shown call

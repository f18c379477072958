-- Rounds: the trace that was read of an input, round by round.
use Rattle.std.specs.Prelude.{◌≢◌, ◌⊎◌, ℕ, List, Option, Some, None}
use Rattle.nv_trace.specs.FirstRounds.{AreFirstRounds, NoneIsLonger}
use Rattle.nv_trace.specs.Traced.{Traced}
use Rattle.nv_trace.specs.declared.trace.Form.TheVariants as forms
use Rattle.nv_top.specs.Endings.{IsTrace, OfRead}
use Rattle.nv_top.specs.declared.ending.Stop.{Stop}
use Rattle.nv_top.specs.declared.ending.Stop.TheVariants.{Read}

-- Something is so of the trace that some first rounds of the input are; or, where the source doesn't tell its input, of one that they may have been.
abbrev pub OfRounds : (input : Option (List ℕ)) → (Traced → Type 0) → Type 0
OfRounds None P = OfRead forms.Run None P
OfRounds (Some input) P = (bytes : List ℕ) × AreFirstRounds input bytes × OfRead forms.Run (Some bytes) P

-- It is so of the trace that a run has read: of the whole input, or of some first rounds of it.
abbrev pub OfReadSoFar : (input : Option (List ℕ)) → (Traced → Type 0) → Type 0
OfReadSoFar input P = OfRead forms.Run input P ⊎ OfRounds input P

-- ---- where the reading ends a run

-- Something is so of the trace that was run of an input before its reading stopped the run so: that of the longest first rounds that are one, for a bad line or for its length; where the source failed, that of some first rounds.
abbrev pub OfRunRounds : Stop → (input : Option (List ℕ)) → (Traced → Type 0) → Type 0
OfRunRounds stop None P = OfRead forms.Run None P
OfRunRounds stop (Some input) P = (bytes : List ℕ) × AreFirstRounds input bytes × (stop ≢ Read → NoneIsLonger forms.Run input bytes) × OfRead forms.Run (Some bytes) P

-- None was run: no first rounds of it are a trace, unless the source failed.
abbrev pub HasNoRounds : Stop → (input : Option (List ℕ)) → Type 0
HasNoRounds stop None = Unit {0}
HasNoRounds stop (Some input) = stop ≢ Read → (bytes : List ℕ) → AreFirstRounds input bytes → ¬ (IsTrace forms.Run bytes)

-- Steps that place no call leave the history.
use Rattle.std.proofs.Common.{◌≡◌, ℕ, [], ◌++◌, refl, ap, ◌∙◌, append-nil}
use Rattle.nv_core.specs.state.Passes.{Pass}
use Rattle.nv_core.specs.steps.Ops.{Op, Place}
use Rattle.nv_core.specs.steps.PassSteps.{added}
use Rattle.nv_core.specs.state.Core.{Core}

abbrev pub IsUnplaced : Op → Type 0
IsUnplaced (Place reply) = ⊥
IsUnplaced op = Unit {0}

pub adds_none : (by : ℕ) (pass : Pass) (op : Op) → IsUnplaced op → added by pass op ≡ []
adds_none by pass (Place reply) un = absurd un
adds_none by pass op un = refl

pub same_history : (by : ℕ) (core : Core) (op : Op) → IsUnplaced op → core.history ++ added by (core.passes by) op ≡ core.history
same_history by core op un = ap (λ a. core.history ++ a) (adds_none by (core.passes by) op un) ∙ append-nil core.history

-- Over: a call that is over is that which its pass was asked.
use Rattle.std.proofs.Common.{◌≡◌, ℕ, sym, subst, ◌∙◌}
use Rattle.std.specs.Prelude.{Option}
use Rattle.nv_plain.specs.declared.call.FileCall.{FileCall}
use Rattle.nv_table.specs.state.States.{PassState}
use Rattle.nv_table.specs.state.Views.{pass_of}
use Rattle.nv_mirror.specs.declared.answers.Refusal.{Refusal}
use Rattle.nv_mirror.specs.Controls.{IsMadeOver, IsOver}

pub over_asked : (made : FileCall) (refusal : Option Refusal) (place : Option ℕ) (start now : PassState) (asked : FileCall) → IsMadeOver made refusal place start now → (pass_of now.view).asked ≡ asked → IsOver asked refusal place start now
over_asked made refusal place start now asked over asks = subst (λ one. IsOver one refusal place start now) (sym over.2.asks ∙ asks) over.2

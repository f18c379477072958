-- Lone words: what pass 0 knows of the words while no other pass is out.
use Rattle.std.specs.Prelude.{◌≡◌, ◌≢◌, ℕ, Option}
use Rattle.nv_plain.specs.declared.call.FileCall.{FileCall}
use Rattle.nv_core.specs.state.Words.{Word}
use Rattle.nv_core.specs.steps.Opening.{IsMount}
use Rattle.nv_core.specs.steps.Ops.{Op, word_of, value_after}
use Rattle.nv_table.specs.invariant.BetweenSteps.{KnowsTaken}
use Rattle.nv_table.specs.passes.Alone.{IsAlone}
use Rattle.nv_table.specs.state.Opened.{mount_of, state_of}
use Rattle.nv_table.specs.state.States.{PassState}
use Rattle.nv_table.specs.state.Views.{PassView}
use Rattle.nv_table.specs.steps.SeatSteps.{pass_before}
use Rattle.nv_table.specs.steps.StepContracts.{Postcondition}

-- a word after the last step that a pass has seen
abbrev pub word_then : PassView → Word → ℕ
word_then view word = (state_of view.opened view.run).words word

-- After a step its word is what the step makes of it: of a load, what it found.
abbrev pub StepsTellTheirWord : Type 0
StepsTellTheirWord =
    (old new : PassState) (opens : Option FileCall) (op : Op) (found : ℕ) → IsMount (mount_of old.view.opened) → (stepped : Postcondition old opens op found new)
    → word_then new.view (word_of old.view.opened.sizes (pass_before old.view opens stepped.works) op) ≡ value_after old.view.opened.sizes (pass_before old.view opens stepped.works) op found

-- While no other pass is out, a step of pass 0 leaves each other word as it is.
abbrev pub OtherWordsStay : Type 0
OtherWordsStay =
    (old new : PassState) (opens : Option FileCall) (op : Op) (found : ℕ) (word : Word) → IsMount (mount_of old.view.opened) → KnowsTaken old.view → IsAlone old.view
    → (stepped : Postcondition old opens op found new) → word ≢ word_of old.view.opened.sizes (pass_before old.view opens stepped.works) op
    → word_then new.view word ≡ word_then old.view word

-- Laws of what pass 0 knows of the words while no other pass is out.
use Rattle.std.proofs.Common.{◌≡◌, ℕ, ap, ◌∙◌}
use Rattle.std.specs.Prelude.{Option}
use Rattle.nv_plain.specs.declared.call.FileCall.{FileCall}
use Rattle.nv_core.specs.invariant.InvariantLaws.{RunsAreSound}
use Rattle.nv_core.specs.state.Core.{Core, with_value}
use Rattle.nv_core.specs.state.Passes.{Pass}
use Rattle.nv_core.specs.state.Words.{Word}
use Rattle.nv_core.specs.steps.Frames.{OwnEventsTell}
use Rattle.nv_core.specs.steps.Opening.{IsMount}
use Rattle.nv_core.specs.steps.Ops.{Op, word_of, value_after}
use Rattle.nv_core.proofs.state.Changes.{word_here, word_else}
use Rattle.nv_table.specs.state.Opened.{mount_of, state_of}
use Rattle.nv_table.specs.state.States.{PassState}
use Rattle.nv_table.specs.state.Views.{PassView}
use Rattle.nv_table.specs.steps.SeatSteps.{pass_before}
use Rattle.nv_table.specs.steps.StepContracts.{Postcondition}
use Rattle.nv_table.proofs.invariant.StepAt.{IsMadeAt, made_at}
use Rattle.nv_table.proofs.passes.AloneLaws.{nothing_comes_between}
use Rattle.nv_mount.specs.LoneWords.{word_then, StepsTellTheirWord, OtherWordsStay}

module _ (sound : RunsAreSound) (tell : OwnEventsTell) where
  module _ (old new : PassState) (opens : Option FileCall) (op : Op) (found : ℕ) (mount : IsMount (mount_of old.view.opened)) (stepped : Postcondition old opens op found new) where
    abbrev pass : Pass
    pass = pass_before old.view opens stepped.works

    at : IsMadeAt old.view stepped.steps.run stepped.works opens op found
    at = made_at sound tell old.view new.view stepped.works opens op found mount stepped.steps

    -- the words then are those before the step, but for its own
    then_ : (word : Word) → word_then new.view word ≡ with_value at.core.words (word_of old.view.opened.sizes pass op) (value_after old.view.opened.sizes pass op found) word
    then_ word =
        ap (λ (v : PassView). word_then v word) stepped.steps.is ∙ ap (λ (c : Core). c.words word) at.next
        ∙ ap (λ p. with_value at.core.words (word_of old.view.opened.sizes p op) (value_after old.view.opened.sizes p op found) word) at.own

  pub steps_tell_their_word : StepsTellTheirWord
  steps_tell_their_word old new opens op found mount stepped =
      let p = pass old new opens op found mount stepped in
      then_ old new opens op found mount stepped (word_of old.view.opened.sizes p op)
      ∙ word_here (at old new opens op found mount stepped).core.words (word_of old.view.opened.sizes p op) (value_after old.view.opened.sizes p op found)

  pub other_words_stay : OtherWordsStay
  other_words_stay old new opens op found word mount knows alone stepped ne =
      let p = pass old new opens op found mount stepped in
      let one = at old new opens op found mount stepped in
      then_ old new opens op found mount stepped word
      ∙ word_else one.core.words (word_of old.view.opened.sizes p op) (value_after old.view.opened.sizes p op found) word ne
      ∙ ap (λ words. words word) one.words
      ∙ ap (λ run. (state_of old.view.opened run).words word) (nothing_comes_between sound tell old new opens op found mount knows alone stepped)

-- Laws about the one history of the passes of a mount that is closed.
use Rattle.std.proofs.Common.{◌≡◌, ℕ, false, List, length, sym, ap, subst, ◌∙◌}
use Rattle.nv_core.specs.state.Values.{Value}
use Rattle.nv_core.specs.state.Passes.{Pass, IsOneOf}
use Rattle.nv_core.specs.invariant.InvariantLaws.{RunsAreSound}
use Rattle.nv_core.specs.content.Content.{RunsKeepContent}
use Rattle.nv_core.specs.invariant.OneHistory.{IsPrefix}
use Rattle.nv_core.specs.steps.Opening.{IsMount}
use Rattle.nv_core.specs.steps.Frames.{OwnEventsTell}
use Rattle.nv_core.specs.invariant.Sound.{Sound}
use Rattle.nv_table.specs.invariant.BetweenSteps.{KnowsTaken}
use Rattle.nv_table.specs.state.Opened.{mount_of, IsRunOf, state_of}
use Rattle.nv_table.specs.state.Views.{Past, PassView, past_pass, made_of}
use Rattle.nv_mount.specs.OneHistories.{HasOneHistory}
use Rattle.nv_mount.specs.WholeRuns.{IsWholeRun, history_then}
use Rattle.nv_mount.proofs.WholeRunLaws.{not_made, joined_then}

module _ (sound : RunsAreSound) (view : PassView) (mount : IsMount (mount_of view.opened)) (is_run : IsRunOf view.opened view.run) (zero_is : view.number ≡ 0)
    (knows : KnowsTaken view) (all : length view.ended ≡ made_of view) (tell : OwnEventsTell) (content : RunsKeepContent)
    (parts stores : List Value) (placed tail : ℕ) (whole : IsWholeRun view parts stores placed tail) where
  is_sound : Sound view.opened.sizes (mount_of view.opened).values (state_of view.opened view.run)
  is_sound = sound (mount_of view.opened) view.run mount is_run

  joined : (past : Past) → IsOneOf view.ended past → (state_of view.opened view.run).passes past.number ≡ past_pass view.opened past
  joined = joined_then sound view mount is_run zero_is knows all tell

  pub one_history : HasOneHistory view placed
  one_history = record {
    count = whole.count;
    own = sym (is_sound.history.mine view.number);
    joined = λ past one. sym (is_sound.history.mine past.number) ∙ ap (λ (p : Pass). p.mine) (joined past one);
    others = λ number ne none.
        sym (is_sound.history.mine number) ∙ (is_sound.numbers.unborn number (not_made sound view mount is_run zero_is knows all number ne none)).mine;
    seen = is_sound.history.seen view.number;
    seen_joined = λ past one. subst (λ (p : Pass). IsPrefix p.seen (history_then view)) (joined past one) (is_sound.history.seen past.number);
    legal = λ files first log opens. (content (mount_of view.opened) files first is_sound.grouped.log (λ _. false) view.run mount log opens is_run).legal.legal;
  }

-- One history: what a mount that is closed tells of the calls of all its passes.
use Rattle.std.specs.Prelude.{◌≡◌, ◌≢◌, ℕ, [], length}
use Rattle.nv_plain.specs.Files.{Files}
use Rattle.nv_plain.specs.Histories.{IsLegal}
use Rattle.nv_core.specs.state.Passes.{IsOneOf}
use Rattle.nv_core.specs.invariant.OneHistory.{IsPrefix, calls_by}
use Rattle.nv_core.specs.log.LogContent.{OpensLog}
use Rattle.nv_core.specs.content.Content.{Opens}
use Rattle.nv_table.specs.state.Opened.{mount_of}
use Rattle.nv_table.specs.state.Views.{Past, PassView, pass_of, past_pass}
use Rattle.nv_mount.specs.WholeRuns.{history_then}

-- There is one history, as pass 0 saw it last, of so many calls. The calls of each pass in it are that pass's own, in their order, and nobody else
-- has any. It begins with what each pass has seen, and is legal from the files that the mount opened.
pub record HasOneHistory (view : PassView) (placed : ℕ) : Type 0 where
  pub count : placed ≡ length (history_then view)
  pub own : calls_by view.number (history_then view) ≡ (pass_of view).mine
  pub joined : (past : Past) → IsOneOf view.ended past → calls_by past.number (history_then view) ≡ (past_pass view.opened past).mine
  pub others : (number : ℕ) → number ≢ view.number → ((past : Past) → IsOneOf view.ended past → past.number ≢ number) → calls_by number (history_then view) ≡ []
  pub seen : IsPrefix (pass_of view).seen (history_then view)
  pub seen_joined : (past : Past) → IsOneOf view.ended past → IsPrefix (past_pass view.opened past).seen (history_then view)
  pub legal : (files : Files) (tail : ℕ) → OpensLog (mount_of view.opened) tail → Opens (mount_of view.opened) files → IsLegal (history_then view) files

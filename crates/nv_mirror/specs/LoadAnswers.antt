-- Load answers: what the load of a page is answered, by the steps that it has made, and what it has loaded.
use Rattle.std.specs.Prelude.{◌≡◌, ◌⊎◌, ℕ, List, Option, Some, None}
use Rattle.nv_plain.specs.Files.{Files}
use Rattle.nv_core.specs.content.Content.{Opens}
use Rattle.nv_core.specs.content.PagesAfter.{page_now}
use Rattle.nv_core.specs.log.LogContent.{OpensLog}
use Rattle.nv_core.specs.state.Words.{Sizes, STORE, CLEANUP, place}
use Rattle.nv_table.specs.state.Opened.{mount_of, state_of}
use Rattle.nv_table.specs.state.States.{PassState}
use Rattle.nv_mirror.specs.declared.answers.Refusal.{Refusal}
use Rattle.nv_mirror.specs.declared.answers.Refusal.TheVariants.{Busy, RegionFault, StoreFault}
use Rattle.nv_mirror.specs.declared.load.LoadMachine.{LoadMachine}
use Rattle.nv_mirror.specs.Loads.{KeepsOthers, bytes_had, load_call_of, load_refusal_at}
use Rattle.nv_mirror.specs.PassSteps.{PassStep, HasMade, refusal_in}

-- why it may not be loaded: CLEANUP of the page was found held, or the lock of its store; or a device has failed
abbrev pub IsCause : Sizes → LoadMachine → Refusal → Type 0
IsCause sizes m (Busy cell) = (cell ≡ place sizes (CLEANUP m.page)) ⊎ (cell ≡ place sizes (STORE m.file))
IsCause sizes m RegionFault = Unit {0}
IsCause sizes m StoreFault = Unit {0}
IsCause sizes m refusal = ⊥

abbrev pub IsCaused : Sizes → LoadMachine → Option Refusal → Type 0
IsCaused sizes m None = Unit {0}
IsCaused sizes m (Some refusal) = IsCause sizes m refusal

-- The load has made these steps, the last of them first, and they tell why it isn't loaded, if it isn't. It is that of the same page, and the read has of each other page what it had.
pub record HasRun (m next : LoadMachine) (was now : PassState) : Type 0 where
  pub steps : List PassStep
  pub made : HasMade steps was now
  pub refused : refusal_in was.view.opened.sizes (load_call_of m) steps ≡ load_refusal_at next.control
  pub cause : IsCaused was.view.opened.sizes m (load_refusal_at next.control)
  pub same : next ≡ record m { head = next.head; control = next.control }
  pub others : KeepsOthers m was now

-- A page is loaded: its bytes lie in a room, and are what the read has of it. Where the mount opened files over an empty log they are what plain files have there after the history so far.
pub record HasLoaded (page : ℕ) (room : List ℕ) (now : PassState) : Type 0 where
  pub had : bytes_had now page ≡ room
  pub right : (files : Files) (tail : ℕ) → OpensLog (mount_of now.view.opened) tail → Opens (mount_of now.view.opened) files
      → room ≡ page_now now.view.opened.sizes files (state_of now.view.opened now.view.run) page

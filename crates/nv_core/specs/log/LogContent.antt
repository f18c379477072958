-- Content of the log: the parts of the invariant about what the devices hold, where all of them tell.
use Rattle.std.specs.Prelude.{◌≡◌, ℕ, ◌+◌, ◌<◌, ◌≤◌, Bool, List, [], ◌∷◌, length}
use Rattle.nv_plain.specs.Files.{Files}
use Rattle.nv_pmem.specs.Limits.{IsPageSize}
use Rattle.nv_pmem.specs.Part.{Part, part_word}
use Rattle.nv_pmem.specs.Images.{IsQuietPart}
use Rattle.nv_core.specs.state.Words.{Sizes, HEADER, ENTRY}
use Rattle.nv_core.specs.state.Values.{Value}
use Rattle.nv_core.specs.steps.Order.{Values}
use Rattle.nv_core.specs.state.Core.{Core}
use Rattle.nv_core.specs.steps.Events.{Event, EventEnabled, after_event, after_run, IsRun}
use Rattle.nv_core.specs.steps.Opening.{Mount, IsMount, opening}
use Rattle.nv_core.specs.invariant.Sound.{Sound}
use Rattle.nv_core.specs.log.Groups.{Log, log_after, Groups}
use Rattle.nv_core.specs.log.Written.{IsPart, IsBlankEntry, Written, commit_length}
use Rattle.nv_core.specs.log.EntryImages.{EntryImages, InEachImageOf, ReadsOpen}
use Rattle.nv_core.specs.invariant.LogWindow.{InWindow}
use Rattle.nv_core.specs.log.StaleWords.{StaleWords}
use Rattle.nv_core.specs.log.HeaderStays.{HeaderStays}
use Rattle.nv_core.specs.log.Pieces.{Pieces}
use Rattle.nv_core.specs.log.InFlight.{placed_after, InFlight}
use Rattle.nv_core.specs.log.Unready.{Unready}
use Rattle.nv_core.specs.log.LivePieces.{LivePieces}
use Rattle.nv_core.specs.log.Tails.{Tails, still, tails_after}
use Rattle.nv_core.specs.log.Progress.{Progress}
use Rattle.nv_core.specs.log.Retiring.{Retired}
use Rattle.nv_core.specs.content.StorePages.{StoresTell, HasFiles}
use Rattle.nv_core.specs.log.Leaders.{Leaders}
use Rattle.nv_core.specs.log.Faults.{Faults}

-- These parts, over the cells' values and the files at opening, the tails that the header has, the log, and which writes are placed.
pub record LogContent (sizes : Sizes) (first : Values) (opened : Files) (tails : Tails) (log : Log) (placed : ℕ → Bool) (core : Core) : Type 0 where
  pub groups : Groups sizes core log
  pub written : Written sizes tails.least log core
  pub header : HeaderStays first tails core.values
  pub pieces : Pieces sizes log core
  pub flight : InFlight sizes log placed core
  pub unready : Unready sizes log placed core
  pub live : LivePieces sizes log opened core
  pub progress : Progress sizes log core
  pub retired : Retired sizes tails log core
  pub leaders : Leaders sizes log core
  pub faults : Faults sizes log placed core
  pub tell : StoresTell sizes core.values

-- ---- events

-- Every event that may come to a sound core keeps them, over the log and the placed writes after it.
abbrev pub EventsKeepTheLog : Type 0
EventsKeepTheLog =
    (sizes : Sizes) (first : Values) (opened : Files) (tails : Tails) (log : Log) (placed : ℕ → Bool) (core : Core) (event : Event)
    → IsPageSize sizes.page → Sound sizes first core → LogContent sizes first opened tails log placed core
    → EventEnabled sizes event core
    → LogContent sizes first opened (tails_after event core tails) (log_after sizes event core log) (placed_after sizes event core placed) (after_event sizes event core)

-- ---- at opening

-- a cell keeps the header's part: it is quiet and has a line 1, and reads this tail
pub record HasTail (value : Value) (tail : ℕ) : Type 0 where
  pub part : Part
  pub is : IsPart value part
  pub quiet : IsQuietPart part
  pub long : 1 < length part
  pub tail_is : part_word part 1 0 ≡ tail

-- A mount opens an empty log: its header has a tail that is no higher than its next number, and the part of each entry is blank.
pub record OpensLog (mount : Mount) (tail : ℕ) : Type 0 where
  pub page : IsPageSize mount.sizes.page
  pub low : tail ≤ mount.next
  pub header : HasTail (mount.values HEADER) tail
  pub blank : (slot : ℕ) → slot < mount.sizes.entries → IsBlankEntry mount.sizes (mount.values (ENTRY slot)) tail slot

-- They hold at opening, whatever log and placed writes one begins with, since the window is empty.
abbrev pub OpeningHasTheLog : Type 0
OpeningHasTheLog =
    (mount : Mount) (files : Files) (tail : ℕ) (log : Log) (placed : ℕ → Bool)
    → OpensLog mount tail → HasFiles mount.sizes mount.values files
    → LogContent mount.sizes mount.values files (still tail) log placed (opening mount)

-- ---- runs

-- the header's tails after a run, the log, and which writes are placed
abbrev pub tails_after_run : Sizes → Core → List Event → Tails → Tails
tails_after_run sizes core [] tails = tails
tails_after_run sizes core (event ∷ later) tails = tails_after_run sizes (after_event sizes event core) later (tails_after event core tails)

abbrev pub log_after_run : Sizes → Core → List Event → Log → Log
log_after_run sizes core [] log = log
log_after_run sizes core (event ∷ later) log = log_after_run sizes (after_event sizes event core) later (log_after sizes event core log)

abbrev pub placed_after_run : Sizes → Core → List Event → (ℕ → Bool) → (ℕ → Bool)
placed_after_run sizes core [] placed = placed
placed_after_run sizes core (event ∷ later) placed = placed_after_run sizes (after_event sizes event core) later (placed_after sizes event core placed)

-- So they hold after every run from the opening.
abbrev pub RunsKeepTheLog : Type 0
RunsKeepTheLog =
    (mount : Mount) (files : Files) (tail : ℕ) (log : Log) (placed : ℕ → Bool) (events : List Event)
    → IsMount mount → OpensLog mount tail → HasFiles mount.sizes mount.values files → IsRun mount.sizes (opening mount) events
    → LogContent mount.sizes mount.values files (tails_after_run mount.sizes (opening mount) events (still tail)) (log_after_run mount.sizes (opening mount) events log) (placed_after_run mount.sizes (opening mount) events placed) (after_run mount.sizes (opening mount) events)

-- ---- what a power failure may leave

-- Where they hold, each image of the region has each group that recovery may look at as a whole or not at all.
abbrev pub GroupsAreInImages : Type 0
GroupsAreInImages =
    (sizes : Sizes) (first : Values) (opened : Files) (tails : Tails) (log : Log) (placed : ℕ → Bool) (core : Core)
    → 1 ≤ sizes.entries → Sound sizes first core → LogContent sizes first opened tails log placed core → EntryImages sizes tails.least log core

-- And no image has a commit word of an earlier turn that would count.
abbrev pub NoOldWordCounts : Type 0
NoOldWordCounts =
    (sizes : Sizes) (first : Values) (opened : Files) (tails : Tails) (log : Log) (placed : ℕ → Bool) (core : Core)
    → 1 ≤ sizes.entries → Sound sizes first core → LogContent sizes first opened tails log placed core → StaleWords sizes tails.least log core

-- A group is in no image before the store of its commit word, the third device call from the end of its commit.
abbrev pub GroupsComeLate : Type 0
GroupsComeLate =
    (sizes : Sizes) (first : Values) (opened : Files) (tails : Tails) (log : Log) (placed : ℕ → Bool) (core : Core) (number : ℕ)
    → 1 ≤ sizes.entries → Sound sizes first core → LogContent sizes first opened tails log placed core
    → InWindow core number → tails.least ≤ number → (log.group number).first ≡ number → log.calls number + 3 ≤ commit_length sizes (log.group number).call number
    → InEachImageOf sizes core.values (ReadsOpen sizes (log.group number).call number)

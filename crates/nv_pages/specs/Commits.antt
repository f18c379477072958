-- Commits: a pass that makes the device calls of a write's commit on the parts of its entries.
use Rattle.std.specs.Prelude.{◌≡◌, ◌≢◌, ℕ, zero, suc, ◌≤◌, ◌<◌, List, [], Result, OnOk, OnErr, slice_index_or}
use Rattle.nv_plain.specs.declared.call.FileCall.TheVariants.{Write}
use Rattle.nv_pmem.specs.declared.lines.RegionFault.{RegionFault}
use Rattle.nv_core.specs.state.Words.{Word}
use Rattle.nv_core.specs.state.Values.{Value, Bare}
use Rattle.nv_core.specs.state.Passes.{CommitGroup, PledgePage, SetStopAfterCommit, first_page, page_count, times}
use Rattle.nv_core.specs.steps.Order.{Values, Work}
use Rattle.nv_core.specs.state.Core.{with_value}
use Rattle.nv_core.specs.invariant.Rooms.{KeepsReady}
use Rattle.nv_table.specs.steps.SeatSteps.{AreDue, pass_worked, values_before}
use Rattle.nv_table.specs.passes.PassesMade.{IsShownStill}
use Rattle.nv_table.specs.state.Views.{PassView, pass_of, values_of, still_owned, OwnsSlots}
use Rattle.nv_table.specs.state.States.{PassState}
use Rattle.nv_pages.specs.CommitCalls.{entry_cell}

-- ---- the parts of a write's entries, out of their slots

-- so many cells, one after another, keep something else
abbrev pub laid_parts : (cells : ℕ → Word) (count : ℕ) (values : ℕ → Value) → Values → Values
laid_parts cells zero values kept = kept
laid_parts cells (suc before) values kept = with_value (laid_parts cells before values kept) (cells before) (values before)

-- what lies in a row at a place
abbrev pub in_row : List Value → (i : ℕ) → Value
in_row row i = slice_index_or row i Bare

-- The cells of so many entries from a number on are that a pass owns, and kept parts that are ready for a write's pieces at its last step.
pub record HasEntries (view : PassView) (first count : ℕ) : Type 0 where
  pub few : count ≤ view.opened.sizes.entries
  pub here : (i : ℕ) → i < count → times (entry_cell view.opened.sizes first i) (still_owned (pass_of view)) ≡ 1
  pub ready : (i : ℕ) → i < count → KeepsReady view.opened.sizes (values_of view (entry_cell view.opened.sizes first i))

-- No more has changed of a pass than what some of its cells keep: those of so many entries from a number on, as it saw them last.
pub record HasLaid (first count : ℕ) (values : ℕ → Value) (old new : PassState) : Type 0 where
  pub table : new.table ≡ old.table
  pub view : new.view ≡ old.view
  pub spare : new.spare ≡ old.spare
  pub owns_slots : OwnsSlots old.view.opened.sizes (λ value. value) (laid_parts (entry_cell old.view.opened.sizes first) count values (values_of old.view)) (still_owned (pass_of old.view)) new.now

-- ---- the commit

-- A pass stands before the first device call of its write's commit, and has made none since its last step.
pub record IsAtCommit (pass : PassState) (first file at : ℕ) (bytes : List ℕ) : Type 0 where
  pub still : IsShownStill pass
  pub staying : (pass_of pass.view).left ≡ []
  pub control : (pass_of pass.view).control ≡ CommitGroup 0
  pub call : (pass_of pass.view).call ≡ Write file at bytes
  pub number : (pass_of pass.view).first ≡ first

-- It has made device calls that are due, one after another, and what it owns shows what they leave: cells other than those of its entries keep what they
-- kept. Behind them its first page is pledged next, or STOP set.
pub record HasMadeCommit (old new : PassState) (result : Result (Unit {0}) RegionFault) : Type 0 where
  pub works : List Work
  pub due : AreDue old.view.opened.sizes (values_of old.view) (pass_of old.view) works
  pub table : new.table ≡ old.table
  pub view : new.view ≡ old.view
  pub spare : new.spare ≡ old.spare
  pub owns_slots : OwnsSlots old.view.opened.sizes (λ value. value) (values_before old.view works) (still_owned (pass_of old.view)) new.now
  pub others : (cell : Word)
      → ((i : ℕ) → i < page_count old.view.opened.sizes (pass_of old.view).call → cell ≢ entry_cell old.view.opened.sizes (pass_of old.view).first i)
      → values_before old.view works cell ≡ values_of old.view cell
  pub pledging : OnOk result ((pass_worked old.view.opened.sizes works (pass_of old.view)).control ≡ PledgePage (first_page old.view.opened.sizes (pass_of old.view).call))
  pub failing : OnErr result ((pass_worked old.view.opened.sizes works (pass_of old.view)).control ≡ SetStopAfterCommit)

-- Ways: how a read goes on with a search where it misses a page, and with the load of the page where that is over.
use Rattle.std.specs.Prelude.{◌≡◌, ℕ, ◌<◌, ◌≤◌, true}
use Rattle.nv_core.specs.state.Passes.{end_read}
use Rattle.nv_core.specs.state.Values.{lacks_buffer}
use Rattle.nv_core.specs.state.Words.{PAGE}
use Rattle.nv_core.specs.steps.StepKinds.{AreValid}
use Rattle.nv_table.specs.state.States.{PassState}
use Rattle.nv_table.specs.state.Views.{values_of}
use Rattle.nv_mirror.specs.declared.load.LoadControl.TheVariants.{LoadDirty}
use Rattle.nv_mirror.specs.declared.load.LoadMachine.{LoadMachine}
use Rattle.nv_mirror.specs.Loads.{load_call_of}
use Rattle.nv_cache.specs.declared.search.SearchControl.TheVariants.{Begin}
use Rattle.nv_cache.specs.declared.search.SearchMachine.{SearchMachine}

-- the search for a buffer for the page of a load, by a read that stands at a page
abbrev pub search_for : LoadMachine → (from : ℕ) → SearchMachine
search_for m from = record {
  file = m.file;
  at = m.at;
  len = m.len;
  first = m.first;
  pages = m.pages;
  sized = m.sized;
  length = m.length;
  page = m.page;
  tries = 0;
  control = Begin from;
}

-- The read has bytes of the page, has valid buffers from where it stands up to that, and lacks one there; and the mount has some buffers.
pub record LacksBuffer (m : LoadMachine) (from : ℕ) (now : PassState) : Type 0 where
  pub behind : from ≤ m.page
  pub within : m.page < end_read now.view.opened.sizes (load_call_of m) m.length
  pub passed : AreValid (values_of now.view) from m.page
  pub lacks : lacks_buffer (values_of now.view (PAGE m.page)) ≡ true
  pub some : 0 < now.view.opened.sizes.buffers

-- the load of the page that a search was for
abbrev pub load_of : SearchMachine → LoadMachine
load_of m = record {
  file = m.file;
  at = m.at;
  len = m.len;
  first = m.first;
  pages = m.pages;
  sized = m.sized;
  length = m.length;
  page = m.page;
  head = 0;
  control = LoadDirty;
}

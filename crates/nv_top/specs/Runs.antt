-- Runs: what one over a region begins with, and what it leaves.
use Rattle.std.specs.Prelude.{◌≡◌, ℕ, ◌+◌, ◌*◌, min, Bool, List, ◌++◌, All}
use Rattle.nv_pmem.specs.Images.{IsQuietPart}
use Rattle.nv_pmem.specs.Part.{Part}
use Rattle.nv_pmem.specs.Steps as lines
use Rattle.nv_store.specs.Steps as stores
use Rattle.nv_header.specs.declared.region.Region.{Region}
use Rattle.nv_plain.specs.Files.{Files}
use Rattle.nv_plain.specs.Layouts.{mount_version}
use Rattle.nv_core.specs.crash.CrashImages.{OpensRegion}
use Rattle.nv_core.specs.log.Written.{IsPart}
use Rattle.nv_core.specs.state.Values.{Value}
use Rattle.nv_table.specs.state.Opened.{mount_of}
use Rattle.nv_table.specs.state.States.{PassState}
use Rattle.nv_mount.specs.Mounts.{MountState}
use Rattle.nv_mount.specs.Telling.{HasLongParts, IsTelling}
use Rattle.nv_trace.specs.Traced.{Traced}
use Rattle.nv_runner.specs.Entries.{entries_of_calls}
use Rattle.nv_runner.specs.Faithful.{Basis, IsFaithful, drawing_calls, files_shown}
use Rattle.nv_runner.specs.FaithfulRuns.{IsMountOf}
use Rattle.nv_runner.specs.Histories.{PlacedCall}
use Rattle.nv_runner.specs.Reports.{Report, history_lines}
use Rattle.nv_top.specs.Leaving.{AreLeft}
use Rattle.nv_top.specs.Readings.{HavePlainNames}
use Rattle.nv_top.specs.Shows.{text_as}
use Rattle.nv_top.specs.declared.show.Show.{Show}
use Rattle.nv_top.specs.declared.show.Show.TheVariants as shows

-- the basis that a region is, with files of so many pages, and with these
abbrev pub basis_over : {L : Type 0} {g : _} → Region L g → (pages : ℕ) → Files → Basis
basis_over region pages files = record {
  sizes = record { page = region.geometry.page; entries = region.geometry.entries; pages = pages };
  names = region.names;
  files = files;
  next = region.next;
}

-- it shows a part that tells, and is quiet
abbrev pub IsQuietSpare : Value → Type 0
IsQuietSpare value = (part : Part) × IsPart value part × IsQuietPart part

-- a mount has a buffer for each page of its files, up to so many
abbrev pub HasCache : (cache : ℕ) → MountState → Type 0
HasCache cache mount = mount.board.opened.sizes.buffers ≡ min cache (mount.board.opened.sizes.files * mount.board.opened.sizes.pages)

-- A mount and its pass 0 begin a run of the trace from this basis, whose names are those of the region. All devices tell, and the parts of the header and of the entries have their lines.
pub record BeginsMount (basis : Basis) (trace : Traced) (mount : MountState) (pass : PassState) : Type 0 where
  pub is_mount : IsMountOf basis trace mount.board.opened mount.fds
  pub region : OpensRegion (mount_of mount.board.opened) basis.names
  pub spare : All IsTelling pass.spare
  pub long : HasLongParts (mount_of mount.board.opened)

-- the number behind the last that the calls of a report drew
abbrev pub next_behind : Basis → Report → ℕ
next_behind basis report = basis.next + entries_of_calls basis.sizes.page (drawing_calls report)

-- A trace was run from a basis, with a worker or not, by which no device failed: the text shows a faithful report, and the devices are
-- left with the files of it, the region with its sizes, and its log goes on behind what was drawn.
pub record HasRunOver {X Y : Type 0} (history : X → lines.PartHistory) (held : Y → stores.StoreHistory) (show : Show) (worker : Bool) (basis : Basis) (trace : Traced) (text : List ℕ) (parts : List X) (backing : List Y) : Type 0 where
  pub report : Report
  pub faithful : IsFaithful ⊥ worker basis trace report
  pub plain : HavePlainNames report.files
  pub text_is : text ≡ text_as show report
  pub left : AreLeft mount_version history held basis.names (files_shown basis trace report) parts backing
  pub page_is : left.page ≡ basis.sizes.page
  pub entries_is : left.entries ≡ basis.sizes.entries
  pub next_is : left.next ≡ next_behind basis report

-- The text shows the rest of such a report, behind the lines of these calls; where the report is shown they are all that have a place.
abbrev pub HasRunBehind : {X Y : Type 0} (history : X → lines.PartHistory) (held : Y → stores.StoreHistory) (show : Show) (worker : Bool) (basis : Basis) (trace : Traced) (shown : List PlacedCall) (text : List ℕ) (parts : List X) (backing : List Y) → Type 0
HasRunBehind history held show worker basis trace shown text parts backing =
    (run : HasRunOver history held show worker basis trace (history_lines 0 shown ++ text) parts backing) × (show ≡ shows.Report → run.report.history ≡ shown)

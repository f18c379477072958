-- Commands: what each makes of a bench.
use Rattle.std.specs.Prelude.{◌≡◌, ℕ, Bool, true, false, List, [], ◌++◌, length, Option, Some, None}
use Rattle.nv_plain.specs.Images.{header_of, layout_in, version_in}
use Rattle.nv_plain.specs.Layouts.{mount_version}
use Rattle.nv_plain.specs.Recovered.{Fits, recovered}
use Rattle.nv_pmem.specs.Rows.{row_words}
use Rattle.nv_pmem.specs.declared.geometry.Geometry.{Geometry}
use Rattle.nv_bench.specs.Benches.{BenchState, with_faults}
use Rattle.nv_bench.specs.Holding.{Holding}
use Rattle.nv_open.specs.Adding.{all_names}
use Rattle.nv_open.specs.Begun.{IsOpeningBegun, IsNotOpened, files_with}
use Rattle.nv_open.specs.declared.error.Refusal.{Refusal}
use Rattle.nv_open.specs.Held.{files_named, header_names}
use Rattle.nv_open.specs.Lending.{stores_named}
use Rattle.nv_open.specs.Looking.{ShowsFiles, ShowsRegion, names_until, told_by}
use Rattle.nv_open.specs.Refusals.{AreLong, CanBeRead, IsBadHeader, IsRefusedFor, head_image}
use Rattle.nv_open.specs.Unopened.{RestsUnopened, TellsOf}
use Rattle.nv_recover.specs.Standing.{files_of}
use Rattle.nv_trace.specs.Traced.{Traced}
use Rattle.nv_runner.specs.Faithful.{Basis, IsFaithful, files_shown, named}
use Rattle.nv_runner.specs.Histories.{PlacedCall}
use Rattle.nv_runner.specs.Reports.{Report, history_lines}
use Rattle.nv_top.specs.Leaving.{Leaves}
use Rattle.nv_top.specs.Readings.{HavePlainNames}
use Rattle.nv_top.specs.Reports.{RecoveryReport, recovery_text}
use Rattle.nv_top.specs.Runs.{next_behind}
use Rattle.nv_top.specs.Shows.{text_as}
use Rattle.nv_top.specs.declared.show.Show.{Show}
use Rattle.nv_top.specs.declared.show.Show.TheVariants as shows
use Rattle.nv_words.specs.declared.words.RunOptions.{RunOptions}

-- the bench is as it was, but for what it holds and its count of faults
abbrev pub IsGivenBack : (old new : BenchState) → Type 0
IsGivenBack old new = new ≡ record old { told = new.told; faults = new.faults }

-- ---- a run

-- What a run begins with, on a bench that held this: the region as it stood there, or a blank one formatted with the sizes asked for, with its own
-- names and behind them the new ones of the trace; the files that it stood for, and behind them what the stores of the new names held.
pub record IsBasis (options : RunOptions) (holding : Holding) (wanted : List (List ℕ)) (basis : Basis) : Type 0 where
  pub geometry : Geometry
  pub page_is : geometry.page ≡ options.page
  pub entries_are : geometry.entries ≡ options.entries
  pub known : List (List ℕ)
  pub begun : IsOpeningBegun holding.parts geometry basis.sizes.page basis.sizes.entries known basis.next
  pub pages_are : basis.sizes.pages ≡ options.pages
  pub names_are : basis.names ≡ all_names known wanted
  pub files_are : basis.files ≡ files_with holding.parts known wanted holding.stores

-- why a run is not made on a bench that held this: its region is refused, or would have too many files
pub record IsNotRun (options : RunOptions) (holding : Holding) (wanted : List (List ℕ)) (why : Refusal) : Type 0 where
  pub geometry : Geometry
  pub page_is : geometry.page ≡ options.page
  pub entries_are : geometry.entries ≡ options.entries
  pub not_opened : IsNotOpened holding.parts geometry wanted why

-- What a run leaves on a bench that held this, where there would be too many files: the region rests with an empty log, formatted with the sizes asked for where it was blank, and else recovered, with the files that it stood for; and the
-- stores of other names are as they were.
pub record RestsNotRun (options : RunOptions) (was : Holding) (wanted : List (List ℕ)) (told : Option Holding) : Type 0 where
  pub geometry : Geometry
  pub page_is : geometry.page ≡ options.page
  pub entries_are : geometry.entries ≡ options.entries
  pub rests : TellsOf (RestsUnopened was geometry wanted) told

-- The text shows a faithful report of a run of the trace, as itself or by its summary, and the bench is left with the files of the report: its region is of the version of a mount, and has the sizes that it began with, and its log goes on
-- behind what was drawn.
pub record HasRunOn (show : Show) (options : RunOptions) (holding : Holding) (told : Option Holding) (trace : Traced) (text : List ℕ) : Type 0 where
  pub basis : Basis
  pub begun : IsBasis options holding trace.names basis
  pub report : Report
  pub faithful : IsFaithful ⊥ options.worker basis trace report
  pub plain : HavePlainNames report.files
  pub text_is : text ≡ text_as show report
  pub left : Leaves mount_version (Some begun.geometry) basis.names (files_shown basis trace report) holding told
  pub page_is : left.left.page ≡ basis.sizes.page
  pub entries_is : left.left.entries ≡ basis.sizes.entries
  pub next_is : left.left.next ≡ next_behind basis report

-- The text shows the rest of such a report, behind the lines of these calls; where the report is shown they are all that have a place.
abbrev pub HasRunOnBehind : Show → RunOptions → Holding → (told : Option Holding) → Traced → (shown : List PlacedCall) → (text : List ℕ) → Type 0
HasRunOnBehind show options holding told trace shown text = (run : HasRunOn show options holding told trace (history_lines 0 shown ++ text)) × (show ≡ shows.Report → run.report.history ≡ shown)

-- ---- a recovery

-- What a recovery shows of a bench that held this: the first number of its log, the one that it goes on with, how many groups it has;
-- and the files that the bench stood for.
abbrev pub recovery_of : Holding → RecoveryReport
recovery_of holding =
    let names = header_names holding.parts in
    let found = recovered (row_words holding.parts) (files_of (stores_named names holding.stores)) in
    record {
      first = found.first;
      next = found.next;
      groups = length found.groups;
      files = named names (files_named holding.parts names holding.stores);
    }

-- The region of a bench that held this could be recovered: the text is that of the report, and the bench is left with the files that
-- it shows. The region has the version and the sizes that its header said, and its log goes on with the number that is shown.
pub record HasRecovered (holding : Holding) (told : Option Holding) (text : List ℕ) : Type 0 where
  pub readable : CanBeRead holding.parts
  pub long : AreLong holding.parts
  pub fits : Fits (layout_in (row_words holding.parts)) (row_words holding.parts)
  pub plain : HavePlainNames (recovery_of holding).files
  pub text_is : text ≡ recovery_text (recovery_of holding)
  pub left : Leaves (version_in (head_image holding.parts)) None (header_names holding.parts) (files_named holding.parts (header_names holding.parts) holding.stores) holding told
  pub page_is : left.left.page ≡ (header_of (head_image holding.parts)).page
  pub entries_is : left.left.entries ≡ (header_of (head_image holding.parts)).entries
  pub next_is : left.left.next ≡ (recovery_of holding).next

-- ---- a look

-- How a look leaves a bench: as it was, but for its count of faults. Where files were asked for, the stores that were opened for them
-- stand behind the others, each as it was.
abbrev pub IsLookedAt : (files : Bool) → (old new : BenchState) → Type 0
IsLookedAt false old new = new ≡ with_faults new.faults old
IsLookedAt true old new = IsGivenBack old new × ((count : ℕ) × (new.told ≡ told_by (names_until count) old.told))

-- what it shows of a bench that held this: the region, and maybe the files that a recovery would leave
abbrev pub HasLooked : (files : Bool) → Holding → (text : List ℕ) → Type 0
HasLooked false holding text = ShowsRegion holding.parts [] text
HasLooked true holding text = ShowsFiles holding.parts (files_named holding.parts (header_names holding.parts) holding.stores) text

-- Why it is refused: for the header, or the lines that this says; where files were asked for, for what a recovery is.
abbrev pub IsNotShown : (files : Bool) → Holding → (why : Refusal) → Type 0
IsNotShown false holding why = IsRefusedFor holding.parts why × IsBadHeader why
IsNotShown true holding why = IsRefusedFor holding.parts why

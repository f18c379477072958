-- Lives: what a command leaves of a bench, whatever it was ended by.
use Rattle.std.specs.Prelude.{◌≡◌, ◌⊎◌, ℕ, Bool, false, List, [], map, Option, Some}
use Rattle.nv_pmem.specs.Rows.{RowTells}
use Rattle.nv_pmem.specs.Steps as lines
use Rattle.nv_store.specs.Steps as stores
use Rattle.nv_pmem.specs.declared.geometry.Geometry.{Geometry}
use Rattle.nv_bench.specs.Holding.{Holding, NamedStore}
use Rattle.nv_bench.specs.Opening.{is_blank, opened}
use Rattle.nv_open.specs.Unopened.{HasHeader, HasRest, InEachImage, IsGood, IsUntouched, StandForFiles, StandsAsBefore, StandsOpening, StaysUntouched, TellsOf, line_counts}
use Rattle.nv_recover.specs.Telling.{AllTell}
use Rattle.nv_core.specs.invariant.OneHistory.{IsPrefix}
use Rattle.nv_runner.specs.Faithful.{Basis}
use Rattle.nv_runner.specs.Histories.{PlacedCall}
use Rattle.nv_runner.specs.Lives.{IsHistoryOf, RecoversBehind}
use Rattle.nv_runner.specs.ShownLives.{LeaveLifeBehind}
use Rattle.nv_runner.specs.ToldRounds.{TellsRounds}
use Rattle.nv_trace.specs.Traced.{Traced}
use Rattle.nv_top.specs.Commands.{IsBasis}
use Rattle.nv_top.specs.declared.show.Show.{Show}
use Rattle.nv_top.specs.declared.show.Show.TheVariants.{Report, Summary}
use Rattle.nv_words.specs.declared.words.RunOptions.{RunOptions}

-- ---- what is told of rounds

-- Nothing need be told, before its end, of the rounds of a trace whose calls have these places behind those that were shown.
abbrev pub TellsNothing : Basis → Traced → (shown later : List PlacedCall) → Type 0
TellsNothing = λ basis trace shown later. Unit {0}

-- A run that shows its report tells of the rounds before its last.
abbrev pub tells_as : Show → (failed : Type 0) (worker : Bool) → Basis → Traced → (shown later : List PlacedCall) → Type 0
tells_as Report failed worker = TellsRounds failed worker
tells_as (Summary load) failed worker = TellsNothing

-- ---- a life

-- Calls of a trace were made from a basis: some of them have their place, in a legal history that begins with those that were shown and tells so of its rounds, and whatever a power failure leaves of what the bench tells recovers to the
-- files after it and then some others, each whole. The bench has parts of so many lines each, and each store of another name is as it was among these.
pub record HasLived (Tells : Basis → Traced → (shown later : List PlacedCall) → Type 0) (basis : Basis) (trace : Traced) (shown : List PlacedCall) (counts : List ℕ) (stores : List NamedStore) (told : Option Holding) : Type 0 where
  pub history : List PlacedCall
  pub begins : IsPrefix shown history
  pub rounds : Tells basis trace shown begins.0
  pub is : IsHistoryOf basis trace history
  pub images : TellsOf (λ now. InEachImage (RecoversBehind basis trace history) now × HasRest counts basis.names stores now) told

-- They were made from what the bench had held; its parts have the lines that they had when it was opened.
pub record HasLivedOn (Tells : Basis → Traced → (shown later : List PlacedCall) → Type 0) (options : RunOptions) (was : Holding) (trace : Traced) (shown : List PlacedCall) (told : Option Holding) : Type 0 where
  pub basis : Basis
  pub begun : IsBasis options was trace.names basis
  pub lived : HasLived Tells basis trace shown (line_counts (opened (Some begun.geometry) was.parts)) was.stores told

-- No call has its place, on a bench whose region was given out, with the parts that a run asks for where it was blank: it stands for what it stood for, with the new stores' files maybe.
pub record HasMadeParts (options : RunOptions) (was : Holding) (wanted : List (List ℕ)) (told : Option Holding) : Type 0 where
  pub geometry : Geometry
  pub page_is : geometry.page ≡ options.page
  pub entries_are : geometry.entries ≡ options.entries
  pub left : TellsOf (StandsOpening (line_counts (opened (Some geometry) was.parts)) geometry was wanted) told

-- So it does where it is as it was.
abbrev pub HasMadeNoCall : RunOptions → (was : Holding) → (wanted : List (List ℕ)) → (told : Option Holding) → Type 0
HasMadeNoCall options was wanted told = (told ≡ Some was) ⊎ HasMadeParts options was wanted told

-- The bench holds what it did, or that with the lines that it gave the header when it opened the region with the sizes that a run asks for.
pub record StaysAsOpened (options : RunOptions) (was : Holding) (told : Option Holding) : Type 0 where
  pub geometry : Geometry
  pub page_is : geometry.page ≡ options.page
  pub entries_are : geometry.entries ≡ options.entries
  pub left : TellsOf (StaysUntouched geometry was) told

-- What a run of a trace, or a schedule of it, leaves of a bench, of which it has shown these calls before its end, and tells so of its rounds. Where that stood for files, no call has its place, nor was one shown, or calls were made; and its other stores are as they
-- were. A region that isn't good, nor blank, is untouched, but for lines of zeros that the bench may have given its header, and no call was shown.
pub record LeavesRun (Tells : Basis → Traced → (shown later : List PlacedCall) → Type 0) (options : RunOptions) (was : Holding) (trace : Traced) (shown : List PlacedCall) (told : Option Holding) : Type 0 where
  pub stands : StandForFiles was.parts → ((shown ≡ []) × HasMadeNoCall options was trace.names told) ⊎ HasLivedOn Tells options was trace shown told
  pub untouched : is_blank was.parts ≡ false → ¬ (IsGood was.parts) → (shown ≡ []) × (TellsOf (IsUntouched was) told ⊎ StaysAsOpened options was told)

-- What a recovery leaves of a bench that had a header: it can be made again, and comes to the same. A region that isn't good is untouched.
pub record LeavesRecovery (was : Holding) (told : Option Holding) : Type 0 where
  pub stands : HasHeader was.parts → TellsOf (StandsAsBefore was) told
  pub untouched : ¬ (IsGood was.parts) → TellsOf (IsUntouched was) told

-- Parts and stores tell, and were left so by a run, or a schedule, of a trace from a basis, whose history begins with these calls and tells so of its rounds. The parts have so many lines each.
pub record AreLeftSo {X Y : Type 0} (Tells : Basis → Traced → (shown later : List PlacedCall) → Type 0) (history : X → lines.PartHistory) (held : Y → stores.StoreHistory) (basis : Basis) (trace : Traced) (shown : List PlacedCall) (counts : List ℕ) (parts : List X) (backing : List Y) : Type 0 where
  pub parts_tell : AllTell (map history parts)
  pub stores_tell : AllTell (map held backing)
  pub lines_are : RowTells (map history parts) (λ now. line_counts now ≡ counts)
  pub life : LeaveLifeBehind basis trace shown (map history parts) (map held backing)
  pub rounds : Tells basis trace shown life.later

-- How an opening begins: with a blank region, or with one that is recovered.
use Rattle.std.proofs.Common.{◌≡◌, ℕ, Bool, true, false, cond, List, [], map, sym, ap, ◌∙◌, subst, arith}
use Rattle.std.specs.Prelude.{Option, Some, None, IfSome, Result, Ok, Err, IfErr, IfOk}
use Rattle.nv_plain.specs.Layouts.{mount_layout}
use Rattle.nv_plain.specs.Recovered.{recovered}
use Rattle.nv_pmem.specs.Laws.{QuietPartHasOneImage}
use Rattle.nv_pmem.specs.Part.{Part}
use Rattle.nv_pmem.specs.RowStates.{AreNow, row_tells_from, row_tells_at}
use Rattle.nv_pmem.specs.Rows.{RowTells, AreQuiet, row_words}
use Rattle.nv_pmem.specs.Steps as lines
use Rattle.nv_pmem.specs.declared.geometry.Geometry.{Geometry}
use Rattle.nv_store.specs.Steps.{StoreHistory}
use Rattle.nv_bench.specs.Benches.{BenchState, with_faults}
use Rattle.nv_bench.specs.Holding.{Holding}
use Rattle.nv_bench.specs.Opening.{is_blank}
use Rattle.nv_header.specs.Needs.{HasLines}
use Rattle.nv_header.specs.Regions.{IsBlankRow}
use Rattle.nv_recover.specs.Standing.{files_of}
use Rattle.nv_recover.specs.declared.recovering.Recovered.{Recovered}
use Rattle.nv_open.specs.Begun.{IsFormatted, IsOpeningBegun}
use Rattle.nv_open.specs.Held.{HoldFiles, IsRecovered, files_named, names_opened, AreUnwritten}
use Rattle.nv_open.specs.Layers.{HasMountLines}
use Rattle.nv_open.specs.Lending.{stores_named, stores_lent}
use Rattle.nv_open.specs.Refusals.{rooms_of, IsRefusedFor, IsBadHeader}
use Rattle.nv_open.specs.declared.error.Refusal.{Refusal}
use Rattle.nv_open.proofs.BlankLaws.{blank_row}
use Rattle.nv_open.proofs.Returns.{HasOpened, has_opened, names_of_header}

pub if_some_map : {P Q : Type 0} (told : Option Holding) → IfSome told (λ holding. P) → (P → Q) → IfSome told (λ holding. Q)
if_some_map None has step = tt
if_some_map (Some holding) has step = step has

pub if_some_any : {P : Type 0} (told : Option Holding) → P → IfSome told (λ holding. P)
if_some_any None has = tt
if_some_any (Some holding) has = has

pub if_err_map : {T E : Type 0} (P Q : E → Type 0) (result : Result T E) → ((error : E) → P error → Q error) → IfErr result P → IfErr result Q
if_err_map P Q (Ok value) step has = tt
if_err_map P Q (Err error) step has = step error has

-- what holds whatever something is
pub if_ok_all : {A T E : Type 0} (result : Result T E) (P : A → T → Type 0) → ((x : A) → IfOk result (P x)) → IfOk result (λ value. (x : A) → P x value)
if_ok_all (Ok value) P each = each
if_ok_all (Err error) P each = tt

pub if_err_all : {A T E : Type 0} (result : Result T E) (P : A → E → Type 0) → ((x : A) → IfErr result (P x)) → IfErr result (λ error. (x : A) → P x error)
if_err_all (Ok value) P each = tt
if_err_all (Err error) P each = each

pub if_err_both : {T E : Type 0} (P Q R : E → Type 0) (result : Result T E) → ((error : E) → P error → Q error → R error) → IfErr result P → IfErr result Q → IfErr result R
if_err_both P Q R (Ok value) step one other = tt
if_err_both P Q R (Err error) step one other = step error one other

-- what the test has told of the parts
pub tells_test : (was row : List lines.PartHistory) (answer is : Bool) → was ≡ row → RowTells was (λ told. answer ≡ is_blank told) → answer ≡ is → RowTells row (λ told. is_blank told ≡ is)
tells_test was row answer is same told test =
    subst (λ (these : List lines.PartHistory). RowTells these (λ parts. is_blank parts ≡ is)) same
    (row_tells_from was (λ parts. is_blank parts ≡ is) (λ parts are. sym (row_tells_at was (λ these. answer ≡ is_blank these) parts are told) ∙ test))

pub blank_rows : QuietPartHasOneImage → (row : List lines.PartHistory) → RowTells row AreQuiet → RowTells row (λ told. is_blank told ≡ true) → RowTells row IsBlankRow
blank_rows one row quiet blank = row_tells_from row IsBlankRow (λ told are. blank_row one told (row_tells_at row AreQuiet told are quiet) (row_tells_at row (λ these. is_blank these ≡ true) told are blank))

never : {A : Type 0} (b : Bool) → b ≡ true → b ≡ false → A
never b yes_is no_is = absurd (let both : true ≡ false = sym yes_is ∙ no_is in cc)

pub begun_formatted : (row : List lines.PartHistory) (geometry : Geometry) (page entries : ℕ) (names : List (List ℕ)) (next : ℕ) → RowTells row (λ told. is_blank told ≡ true)
    → IsFormatted geometry page entries names next → RowTells row (λ told. IsOpeningBegun told geometry page entries names next)
begun_formatted row geometry page entries names next blank formatted =
    row_tells_from row (λ told. IsOpeningBegun told geometry page entries names next) (λ told are. record {
      formatted = λ yes_is. formatted;
      kept = λ no_is. never (is_blank told) (row_tells_at row (λ these. is_blank these ≡ true) told are blank) no_is;
    })

pub begun_kept : (row : List lines.PartHistory) (geometry : Geometry) (page entries : ℕ) (names : List (List ℕ)) (next : ℕ) (found : Recovered) → RowTells row (λ told. is_blank told ≡ false)
    → RowTells row (λ told. IsRecovered told page entries names next found) → RowTells row (λ told. IsOpeningBegun told geometry page entries names next)
begun_kept row geometry page entries names next found blank is =
    row_tells_from row (λ told. IsOpeningBegun told geometry page entries names next) (λ told are. record {
      formatted = λ yes_is. never (is_blank told) yes_is (row_tells_at row (λ these. is_blank these ≡ false) told are blank);
      kept = λ no_is. record { found = found; recovered = row_tells_at row (λ these. IsRecovered these page entries names next found) told are is };
    })

-- no store holds the files of a blank region with no name
none_held : (parts : List Part) → is_blank parts ≡ true → HoldFiles [] (files_named parts [] [])
none_held parts blank = record {
  held = [];
  are = tt;
  files_are = ap (λ (test : Bool). cond test (files_of []) (recovered (row_words parts) (files_of [])).files) (sym blank);
  quiet = λ k d inside. absurd (omega arith);
}

pub files_blank : (row : List lines.PartHistory) (stores : List StoreHistory) (told : Option Holding) (names : List (List ℕ)) → names ≡ [] → stores ≡ [] → RowTells row (λ parts. is_blank parts ≡ true)
    → IfSome told (λ holding. RowTells row (λ parts. HoldFiles stores (files_named parts names holding.stores)))
files_blank row stores None names no_name no_store blank = tt
files_blank row stores (Some holding) names no_name no_store blank =
    row_tells_from row (λ parts. HoldFiles stores (files_named parts names holding.stores)) (λ parts are.
    subst (λ (these : List (List ℕ)). HoldFiles stores (files_named parts these holding.stores)) (sym no_name)
    (subst (λ (these : List StoreHistory). HoldFiles these (files_named parts [] holding.stores)) (sym no_store)
    (none_held parts (row_tells_at row (λ these. is_blank these ≡ true) parts are blank))))

-- A blank region isn't refused, where a bench tells what it gave.
pub not_short : (row : List lines.PartHistory) (geometry : Geometry) (P : List Part → Type 0) → RowTells row (λ told. is_blank told ≡ true)
    → RowTells row (HasMountLines geometry)
    → RowTells row (λ told. ¬ (HasLines mount_layout geometry.page geometry.entries (rooms_of told))) → RowTells row P
not_short row geometry P blank long short =
    row_tells_from row P (λ told are.
    absurd (row_tells_at row (λ these. ¬ (HasLines mount_layout geometry.page geometry.entries (rooms_of these))) told are short
    ((row_tells_at row (HasMountLines geometry) told are long).blank (row_tells_at row (λ these. is_blank these ≡ true) told are blank))))

pub opened_short : (row : List lines.PartHistory) (why : Refusal) → IsBadHeader why → HasOpened why [] row
opened_short row why bad = has_opened why [] row (row_tells_from row (λ told. names_opened why told ≡ []) (λ told are. names_of_header why told bad))

pub refused_kept : (row : List lines.PartHistory) (why : Refusal) → RowTells row (λ told. is_blank told ≡ false) → RowTells row (λ told. IsRefusedFor told why)
    → RowTells row (λ told. (is_blank told ≡ false) × IsRefusedFor told why)
refused_kept row why blank refused =
    row_tells_from row (λ told. (is_blank told ≡ false) × IsRefusedFor told why) (λ told are.
    (row_tells_at row (λ these. is_blank these ≡ false) told are blank, row_tells_at row (λ these. IsRefusedFor these why) told are refused))

-- the same of parts that tell the same
pub unwritten_since : {X Y : Type 0} (part_history : X → lines.PartHistory) (store_history : Y → StoreHistory) (why : Refusal) (old new : BenchState) (before was now : List X) (stores : List Y)
    → map part_history was ≡ map part_history before → AreUnwritten part_history store_history why old new was now stores → AreUnwritten part_history store_history why old new before now stores
unwritten_since part_history store_history why old new before was now stores same are = record {
  parts = are.parts ∙ same;
  lent = subst (λ (row : List lines.PartHistory). RowTells row (λ told. new ≡ with_faults new.faults (stores_lent (names_opened why told) old))) same are.lent;
  held = subst (λ (row : List lines.PartHistory). IfSome old.told (λ holding. RowTells row (λ told. AreNow (map store_history stores) (stores_named (names_opened why told) holding.stores)))) same are.held;
}

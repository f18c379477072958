-- What is opened of the parts that a bench makes those of a geometry, said of what it held.
use Rattle.std.proofs.Common.{◌≡◌, ℕ, Bool, true, false, cond, List, [], refl, sym, ap, ◌∙◌, subst}
use Rattle.std.specs.Prelude.{Option, Some, None, IfSome, option_map}
use Rattle.nv_plain.specs.Files.{Files}
use Rattle.nv_plain.specs.Images.{Image}
use Rattle.nv_plain.specs.Recovered.{recovered, region_files}
use Rattle.nv_pmem.specs.Part.{Part}
use Rattle.nv_pmem.specs.RowStates.{AreNow}
use Rattle.nv_pmem.specs.Rows.{RowTells, row_words}
use Rattle.nv_pmem.specs.Steps as lines
use Rattle.nv_pmem.specs.declared.geometry.Geometry.{Geometry}
use Rattle.nv_store.specs.Steps.{StoreHistory}
use Rattle.nv_bench.specs.Holding.{Holding, NamedStore}
use Rattle.nv_bench.specs.Opening.{is_blank, opened}
use Rattle.nv_recover.specs.Standing.{files_of}
use Rattle.nv_open.specs.Begun.{IsOpeningBegun, IsRegionOpened, IsNotOpened, files_behind}
use Rattle.nv_open.specs.Adding.{new_names}
use Rattle.nv_open.specs.Held.{HoldFiles, files_named}
use Rattle.nv_open.specs.Lending.{stores_named}
use Rattle.nv_open.specs.Layers.{HasMountLines}
use Rattle.nv_open.specs.declared.error.Refusal.{Refusal}
use Rattle.nv_open.proofs.Regions.{row_has}
use Rattle.nv_open.proofs.Lengthened.{recovered_before}
use Rattle.nv_open.proofs.Sized.{opened_reads, blank_stays, long_opened}

pub given_long : (geometry : Geometry) (told mid : Option Holding) (row : List lines.PartHistory) → mid ≡ option_map (λ (holding : Holding). record { parts = []; stores = holding.stores }) told
    → IfSome told (λ holding. AreNow row (opened (Some geometry) holding.parts))
    → IfSome mid (λ holding. RowTells row (HasMountLines geometry))
given_long geometry None mid row is are = subst (λ (one : Option Holding). IfSome one (λ holding. RowTells row (HasMountLines geometry))) (sym is) tt
given_long geometry (Some holding) mid row is are =
    subst (λ (one : Option Holding). IfSome one (λ held. RowTells row (HasMountLines geometry))) (sym is)
    (row_has row (opened (Some geometry) holding.parts) (HasMountLines geometry) are (long_opened geometry holding.parts))

pub some_map : (told : Option Holding) (P Q : Holding → Type 0) → ((holding : Holding) → P holding → Q holding) → IfSome told P → IfSome told Q
some_map None P Q step has = tt
some_map (Some holding) P Q step has = step holding has

pub begun_before : (geometry asked : Geometry) (parts : List Part) (page entries : ℕ) (names : List (List ℕ)) (next : ℕ) → IsOpeningBegun (opened (Some geometry) parts) asked page entries names next → IsOpeningBegun parts asked page entries names next
begun_before geometry asked parts page entries names next begun = record {
  formatted = λ is. begun.formatted (blank_stays geometry parts ∙ is);
  kept = λ is.
      let kept = begun.kept (blank_stays geometry parts ∙ is) in
      record { found = kept.found; recovered = recovered_before parts (opened (Some geometry) parts) page entries names next kept.found (opened_reads geometry parts is) kept.recovered };
}

-- a blank region stands for what the stores hold
blank_files : (parts : List Part) (names : List (List ℕ)) (stores : List NamedStore) → is_blank parts ≡ true → files_named parts names stores ≡ files_of (stores_named names stores)
blank_files parts names stores is = ap (λ (test : Bool). cond test (files_of (stores_named names stores)) (recovered (row_words parts) (files_of (stores_named names stores))).files) is

pub files_cases : (geometry : Geometry) (parts : List Part) (names : List (List ℕ)) (stores : List NamedStore) (blank : Bool) → blank ≡ is_blank parts → files_named (opened (Some geometry) parts) names stores ≡ files_named parts names stores
files_cases geometry parts names stores true is =
    blank_files (opened (Some geometry) parts) names stores (blank_stays geometry parts ∙ sym is) ∙ sym (blank_files parts names stores (sym is))
files_cases geometry parts names stores false is = ap (λ (image : Image). region_files image (files_of (stores_named names stores))) (opened_reads geometry parts (sym is)).words

pub opened_before : (geometry : Geometry) (holding : Holding) (wanted : List (List ℕ)) (page entries : ℕ) (names : List (List ℕ)) (next : ℕ) (row : List StoreHistory)
    → IsRegionOpened (record { parts = opened (Some geometry) holding.parts; stores = holding.stores }) geometry wanted page entries names next row → IsRegionOpened holding geometry wanted page entries names next row
opened_before geometry holding wanted page entries names next row is = record {
  known = is.known;
  begun = begun_before geometry geometry holding.parts page entries is.known next is.begun;
  names_are = is.names_are;
  files =
      subst (λ (files : Files). HoldFiles row (files_behind files (new_names is.known wanted) holding.stores)) (files_cases geometry holding.parts is.known holding.stores (is_blank holding.parts) refl) is.files;
}

pub not_opened_before : (geometry : Geometry) (parts : List Part) (wanted : List (List ℕ)) (why : Refusal) → IsNotOpened (opened (Some geometry) parts) geometry wanted why → IsNotOpened parts geometry wanted why
not_opened_before geometry parts wanted why is = record {
  not_blank = λ other.
      let (blank, refused) = is.not_blank other in
      let kept : is_blank parts ≡ false = sym (blank_stays geometry parts) ∙ blank in
      (kept, (opened_reads geometry parts kept).refused why refused);
  many = λ same.
      let too = is.many same in
      record { page = too.page; entries = too.entries; known = too.known; next = too.next; begun = begun_before geometry geometry parts too.page too.entries too.known too.next too.begun; many = too.many };
}

-- A region that is looked at: what is shown of it, and what a bench tells to which it came back.
use Rattle.std.proofs.Common.{◌≡◌, ℕ, ◌≤◌, List, [], ◌∷◌, ◌++◌, length, map, sym, ap, ◌∙◌, subst, arith}
use Rattle.std.proofs.lemmas.List.{append-nil, length-map}
use Rattle.std.specs.Prelude.{false, Option, Some, None, IfSome, option_map, Result, Ok, Err, IfOk, OnOk}
use Rattle.nv_plain.specs.Files.{Files}
use Rattle.nv_plain.specs.Images.{layout_in}
use Rattle.nv_plain.specs.Layouts.{layout_of}
use Rattle.nv_plain.specs.Recovered.{Fits, recovered, region_files}
use Rattle.nv_pmem.specs.Moments.{Tells}
use Rattle.nv_pmem.specs.Part.{Part}
use Rattle.nv_pmem.specs.Room.{Room}
use Rattle.nv_pmem.specs.RowStates.{AreNow, row_tells_from, row_tells_at}
use Rattle.nv_pmem.specs.Rows.{RowTells, row_words}
use Rattle.nv_pmem.specs.Steps.{PartHistory}
use Rattle.nv_store.specs.Steps as stores
use Rattle.nv_store.specs.Store.{Store}
use Rattle.nv_bench.specs.Benches.{BenchState, with_faults, region_lent, taken_back, told_back}
use Rattle.nv_bench.specs.Holding.{Holding, named_stores}
use Rattle.nv_header.specs.Heads.{IsHeadOf, header_image}
use Rattle.nv_header.specs.Needs.{HasLines, header_history, header_lines_in}
use Rattle.nv_header.specs.declared.head.Head.{Head}
use Rattle.nv_look.specs.Texts.{IsLookText}
use Rattle.nv_recover.specs.Standing.{ReadableStandsForRecovered}
use Rattle.nv_open.specs.Held.{files_named, header_names}
use Rattle.nv_recover.specs.Standing.{files_of}
use Rattle.nv_open.specs.Lending.{AreOpened, HasLent, stores_named, without_stores, without_named, stores_lent}
use Rattle.nv_look.specs.declared.error.LookError.{LookError}
use Rattle.nv_look.specs.declared.error.LookError.TheVariants as looks
use Rattle.nv_open.specs.Looking.{HasLentBy, ShowsFiles, ShowsRegion, of_looking, told_by}
use Rattle.nv_open.specs.Refusals.{head_layout, header_part}
use Rattle.nv_open.specs.declared.error.OpenError.TheVariants as error
use Rattle.nv_open.specs.declared.error.Refusal.{Refusal}
use Rattle.nv_open.proofs.HeadLaws.{can_told, head_told, long_told}
use Rattle.nv_open.proofs.LogLaws.{whole_image}
use Rattle.nv_open.proofs.Regions.{lent_told}

-- ---- what is read

-- a header that can be read is one of lines enough, as a look or a recovery asks of it
pub head_needs : (row : List PartHistory) (lines : ℕ) (one : Head) → Tells (header_history row) (λ now. IsHeadOf (layout_of one.version) lines (header_image now) one)
    → Tells (header_history row) (λ now. IsHeadOf (layout_of one.version) (layout_of one.version).header_lines (header_image now) one)
head_needs [] lines one is = tt
head_needs ([] ∷ row) lines one is = tt
head_needs ((now ∷ past) ∷ row) lines one is = record {
  readable = record { long_enough = omega arith; fields = is.readable.fields; names = is.readable.names };
  page = is.page;
  entries = is.entries;
  names = is.names;
  tail = is.tail;
}

-- a look refuses no region
pub no_refusal : (one : LookError) (why : Refusal) → of_looking one ≡ error.Refused why → ⊥
no_refusal looks.RegionFault why is = cc
no_refusal looks.NoMemory why is = cc

-- ---- what is shown

module _ {X : Type 0} (history : X → PartHistory) (room : X → Room) (told_lines : (p : X) (now : Part) (past : PartHistory) → history p ≡ now ∷ past → length now ≡ (room p).lines)
    (parts : List X) (one : Head) (some : 1 ≤ length parts) (has : HasLines (layout_of one.version) one.geometry.page one.geometry.entries (map room parts))
    (is : Tells (header_history (map history parts)) (λ now. IsHeadOf (layout_of one.version) (header_lines_in (map room parts)) (header_image now) one)) where
  shown_one : (files : List (List ℕ)) (text : List ℕ) (told : List Part) → AreNow (map history parts) told → IsLookText one (row_words told) files text → ShowsRegion told files text
  shown_one files text told are shows = record {
    head = one;
    says = head_told history room told_lines parts told one some are is;
    long = long_told history room told_lines parts told one some are is has;
    text_is = shows;
  }

  pub region_shown : (files : List (List ℕ)) (text : List ℕ) → RowTells (map history parts) (λ told. IsLookText one (row_words told) files text) → RowTells (map history parts) (λ told. ShowsRegion told files text)
  region_shown files text shows =
      row_tells_from (map history parts) (λ told. ShowsRegion told files text) (λ told are. shown_one files text told are (row_tells_at (map history parts) _ told are shows))

  -- the files that a recovery would leave are those that the region stands for
  pub files_shown : ReadableStandsForRecovered → (base : Files) (text : List ℕ) → RowTells (map history parts) (λ told. Fits (layout_in (row_words told)) (row_words told))
      → RowTells (map history parts) (λ told. IsLookText one (row_words told) (recovered (row_words told) base).files.contents text)
      → RowTells (map history parts) (λ told. ShowsFiles told (region_files (row_words told) base) text)
  files_shown readable base text fits shows =
      row_tells_from (map history parts) (λ told. ShowsFiles told (region_files (row_words told) base) text) (λ told are.
      let can = can_told history room told_lines parts told one some are is in
      let same : region_files (row_words told) base ≡ (recovered (row_words told) base).files = readable (head_layout told) (length (header_part told)) (row_words told) base (whole_image told can) in
      let Shows : Files → Type 0 = λ files. ShowsFiles told files text in
      subst Shows (sym same) (record { fits = row_tells_at (map history parts) _ told are fits; shown = shown_one _ text told are (row_tells_at (map history parts) _ told are shows) }))

-- the files of the stores that were opened of those names
pub text_passed : {E : Type 0} (result : Result (List ℕ) E) (told : Option Holding) (row new_row : List PartHistory) (store_row : List stores.StoreHistory) (names : List (List ℕ))
    → new_row ≡ row → RowTells row (λ parts. header_names parts ≡ names) → IfSome told (λ holding. AreNow store_row (stores_named names holding.stores))
    → ((was : List Store) → AreNow store_row was → IfOk result (λ text. RowTells new_row (λ parts. ShowsFiles parts (region_files (row_words parts) (files_of was)) text)))
    → IfOk result (λ text. IfSome told (λ holding. RowTells row (λ parts. ShowsFiles parts (files_named parts (header_names parts) holding.stores) text)))
text_passed (Err e) told row new_row store_row names same says are shows = tt
text_passed (Ok text) None row new_row store_row names same says are shows = tt
text_passed (Ok text) (Some holding) row new_row store_row names same says are shows =
    row_tells_from row (λ parts. ShowsFiles parts (files_named parts (header_names parts) holding.stores) text) (λ parts now.
    subst (λ (these : List (List ℕ)). ShowsFiles parts (files_named parts these holding.stores) text) (sym (row_tells_at row (λ parts. header_names parts ≡ names) parts now says))
    (row_tells_at row (λ parts. ShowsFiles parts (files_named parts names holding.stores) text) parts now
    (subst (λ (these : List PartHistory). RowTells these (λ parts. ShowsFiles parts (files_named parts names holding.stores) text)) same (shows (stores_named names holding.stores) are))))

-- ---- all comes back

-- a bench to which its region came back, and which tells what it did
pub given_alone : (old mid final : BenchState) (faults : ℕ) → mid ≡ with_faults mid.faults (region_lent old) → old.is_open ≡ false → old.lent ≡ []
    → final ≡ taken_back final.told faults mid → final.told ≡ old.told → final ≡ with_faults final.faults old
given_alone old mid final faults mid_is closed home taken told =
    let via = taken ∙ ap (taken_back final.told faults) mid_is in
    via ∙ (λ i. record old { told = told i; is_open = sym closed i; lent = sym home i; faults = sym (ap (λ (state : BenchState). state.faults) via) i })

pub on_ok : {T E P : Type 0} (result : Result T E) → P → OnOk result P
on_ok (Ok value) has = has
on_ok (Err e) has = tt

module _ {X Y : Type 0} (part_history : X → PartHistory) (store_history : Y → stores.StoreHistory) where
  -- the stores of these names were opened alone, and only read since
  pub lent_by : (fault_count : Y → ℕ) (names : List (List ℕ)) (which : List Part → List (List ℕ)) (faults : ℕ) (old new : BenchState) (parts : List X) (before now after : List Y)
      → RowTells (map part_history parts) (λ told. names ≡ which told) → before ≡ [] → AreOpened store_history fault_count names faults old new before now
      → map store_history after ≡ map store_history now → HasLentBy part_history store_history which old new parts after
  lent_by fault_count names which faults old new parts before now after are none opened same =
      let alone : now ≡ opened.stores = opened.behind ∙ ap (λ (front : List Y). front ++ opened.stores) none in
      let kept : map store_history after ≡ map store_history opened.stores = same ∙ ap (map store_history) alone in
      let Held : List stores.StoreHistory → Type 0 = λ row. IfSome old.told (λ holding. AreNow row (stores_named names holding.stores)) in
      record {
        lent_names = names;
        are = are;
        lent = opened.lent;
        one_each = sym (length-map after store_history) ∙ ap length kept ∙ length-map opened.stores store_history ∙ opened.count;
        told = subst Held (sym kept) opened.told;
      }

  pub has_lent : (which : List Part → List (List ℕ)) (old new : BenchState) (parts : List X) (stores : List Y) → HasLentBy part_history store_history which old new parts stores → HasLent (length stores) old new
  has_lent which old new parts stores by = record { names = by.lent_names; lent = by.lent; one_each = by.one_each }

  pub came_back : (which : List Part → List (List ℕ)) (old mid new : BenchState) (then told : Option Holding) (before now : List X) (lent : List Y)
      → mid ≡ with_faults mid.faults (region_lent old) → old.lent ≡ [] → old.told ≡ told
      → IfSome told (λ holding. AreNow (map part_history before) holding.parts)
      → HasLentBy part_history store_history which mid new before lent → map part_history now ≡ map part_history before
      → ((parts : List Part) (held : List Store) → AreNow (map part_history now) parts → AreNow (map store_history lent) held → then ≡ told_back parts held new)
      → (old.told ≡ None → then ≡ None)
      → then ≡ told_by which told
  came_back which old mid new then None before now lent mid_is home is are by same back untold = untold is
  came_back which old mid new then (Some holding) before now lent mid_is home is are by same back untold =
      let names = which holding.parts in
      let named : by.lent_names ≡ names = row_tells_at (map part_history before) _ holding.parts are by.are in
      let held = stores_named names holding.stores in
      let mid_told : mid.told ≡ Some (record { parts = []; stores = holding.stores }) =
      lent_told old mid mid_is ∙ ap (λ (one : Option Holding). option_map (λ (these : Holding). record { parts = []; stores = these.stores }) one) is in
      let mid_lent : mid.lent ≡ [] = ap (λ (state : BenchState). state.lent) mid_is ∙ home in
      let new_is : new ≡ with_faults new.faults (stores_lent names mid) = by.lent ∙ ap (λ (these : List (List ℕ)). with_faults new.faults (stores_lent these mid)) named in
      let new_told : new.told ≡ Some (record { parts = []; stores = without_stores names holding.stores }) =
      ap (λ (state : BenchState). state.told) new_is ∙ ap (λ (one : Option Holding). option_map (without_named names) one) mid_told in
      let new_lent : new.lent ≡ names = ap (λ (state : BenchState). state.lent) new_is ∙ ap (λ (front : List (List ℕ)). front ++ names) mid_lent in
      let stores_are : AreNow (map store_history lent) held =
      subst (λ (these : List (List ℕ)). AreNow (map store_history lent) (stores_named these holding.stores)) named
      (subst (λ (one : Option Holding). IfSome one (λ these. AreNow (map store_history lent) (stores_named by.lent_names these.stores))) mid_told by.told) in
      back holding.parts held (subst (λ (row : List PartHistory). AreNow row holding.parts) (sym same) are) stores_are
      ∙ (λ i. option_map (λ (these : Holding). record { parts = holding.parts; stores = these.stores ++ named_stores (new_lent i) held }) (new_told i))

  -- a region without its stores
  pub alone_back : (old mid : BenchState) (then told : Option Holding) (before now : List X) (none : List Y) → none ≡ []
      → mid ≡ with_faults mid.faults (region_lent old) → old.lent ≡ [] → old.told ≡ told
      → IfSome told (λ holding. AreNow (map part_history before) holding.parts) → map part_history now ≡ map part_history before
      → ((parts : List Part) (held : List Store) → AreNow (map part_history now) parts → AreNow (map store_history none) held → then ≡ told_back parts held mid)
      → (mid.told ≡ None → then ≡ None)
      → then ≡ told
  alone_back old mid then None before now none empty mid_is home is are same back untold =
      untold (lent_told old mid mid_is ∙ ap (λ (one : Option Holding). option_map (λ (these : Holding). record { parts = []; stores = these.stores }) one) is)
  alone_back old mid then (Some holding) before now none empty mid_is home is are same back untold =
      let mid_told : mid.told ≡ Some (record { parts = []; stores = holding.stores }) =
      lent_told old mid mid_is ∙ ap (λ (one : Option Holding). option_map (λ (these : Holding). record { parts = []; stores = these.stores }) one) is in
      let mid_lent : mid.lent ≡ [] = ap (λ (state : BenchState). state.lent) mid_is ∙ home in
      back holding.parts [] (subst (λ (row : List PartHistory). AreNow row holding.parts) (sym same) are) (subst (λ (these : List Y). AreNow {S = Store} (map store_history these) []) (sym empty) tt)
      ∙ (λ i. option_map (λ (these : Holding). record { parts = holding.parts; stores = these.stores ++ named_stores (mid_lent i) [] }) (mid_told i))
      ∙ ap (λ left. Some (record { parts = holding.parts; stores = left })) (append-nil holding.stores)

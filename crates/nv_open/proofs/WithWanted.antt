-- A region that is opened, with the wanted names.
use Rattle.std.proofs.Common.{◌≡◌, ℕ, ◌<◌, Bool, true, false, cond, not, List, [], ◌∷◌, ◌++◌, length, map, refl, sym, ap, ◌∙◌, subst, arith, append_assoc, length-append}
use Rattle.std.proofs.lemmas.List.Elements.{All-cons, All-head, All-tail}
use Rattle.std.proofs.lemmas.List.Sums.{fold-append}
use Rattle.std.specs.Prelude.{All, Contains, Option, Some, None, IfSome, option_map, Result, Ok, Err, IfOk}
use Rattle.std.proofs.lemmas.List.{get_or_default}
use Rattle.nv_plain.specs.Files.{Files}
use Rattle.nv_pmem.specs.Part.{Part}
use Rattle.nv_pmem.specs.RowStates.{row_tells_from, row_tells_at}
use Rattle.nv_pmem.specs.Rows.{RowTells}
use Rattle.nv_pmem.specs.Steps as lines
use Rattle.nv_pmem.specs.declared.geometry.Geometry.{Geometry}
use Rattle.nv_store.specs.Steps.{StoreHistory}
use Rattle.nv_store.specs.Store.{Store, IsQuietStore}
use Rattle.nv_bench.specs.Benches.{BenchState, with_faults}
use Rattle.nv_bench.specs.Holding.{Holding, NamedStore, store_of, without_store, is_named}
use Rattle.nv_bench.specs.Opening.{is_blank}
use Rattle.nv_open.specs.Adding.{is_known, new_names, all_names}
use Rattle.nv_open.specs.Begun.{IsOpeningBegun, IsRegionOpened, IsNotOpened, files_behind}
use Rattle.nv_open.specs.Held.{HoldFiles, files_named}
use Rattle.nv_open.specs.Lending.{stores_named, without_stores, without_named, stores_lent, HasLent, HasLentMore}
use Rattle.nv_open.specs.Refusals.{IsRefusedFor}
use Rattle.nv_open.specs.declared.error.Refusal.{Refusal}
use Rattle.nv_open.specs.declared.error.Refusal.TheVariants.{TooManyFiles}
use Rattle.nv_open.proofs.NewNames.{known_at}
use Rattle.nv_open.proofs.Openings.{store_of_others}

-- ---- what is left of a holding

quiet_left : (first : NamedStore) (rest left : List NamedStore) (takes : Bool) → IsQuietStore first.store → All (λ (named : NamedStore). IsQuietStore named.store) rest → All (λ (named : NamedStore). IsQuietStore named.store) left
    → All (λ (named : NamedStore). IsQuietStore named.store) (cond takes rest (first ∷ left))
quiet_left first rest left true one others more = others
quiet_left first rest left false one others more = All-cons (λ (named : NamedStore). IsQuietStore named.store) first left one more

quiet_without : (name : List ℕ) (stores : List NamedStore) → All (λ (named : NamedStore). IsQuietStore named.store) stores → All (λ (named : NamedStore). IsQuietStore named.store) (without_store name stores)
quiet_without name [] quiet = quiet
quiet_without name (first ∷ rest) quiet =
    let others = All-tail (λ (named : NamedStore). IsQuietStore named.store) first rest quiet in
    quiet_left first rest (without_store name rest) (is_named name first) (All-head (λ (named : NamedStore). IsQuietStore named.store) first rest quiet) others (quiet_without name rest others)

quiet_others : (names : List (List ℕ)) (stores : List NamedStore) → All (λ (named : NamedStore). IsQuietStore named.store) stores → All (λ (named : NamedStore). IsQuietStore named.store) (without_stores names stores)
quiet_others [] stores quiet = quiet
quiet_others (name ∷ names) stores quiet = quiet_others names (without_store name stores) (quiet_without name stores quiet)

quiet_map : (names : List (List ℕ)) (told mid : Option Holding) → mid ≡ option_map (without_named names) told → IfSome told (λ holding. All (λ (named : NamedStore). IsQuietStore named.store) holding.stores)
    → IfSome mid (λ holding. All (λ (named : NamedStore). IsQuietStore named.store) holding.stores)
quiet_map names None mid is quiet = subst (λ (one : Option Holding). IfSome one (λ holding. All (λ (named : NamedStore). IsQuietStore named.store) holding.stores)) (sym is) tt
quiet_map names (Some holding) mid is quiet = subst (λ (one : Option Holding). IfSome one (λ held. All (λ (named : NamedStore). IsQuietStore named.store) held.stores)) (sym is) (quiet_others names holding.stores quiet)

pub still_quiet : (count : ℕ) (old new : BenchState) → HasLent count old new → IfSome old.told (λ holding. All (λ (named : NamedStore). IsQuietStore named.store) holding.stores)
    → IfSome new.told (λ holding. All (λ (named : NamedStore). IsQuietStore named.store) holding.stores)
still_quiet count old new lent quiet = quiet_map lent.names old.told new.told (ap (λ (state : BenchState). state.told) lent.lent) quiet

-- ---- more stores are lent

abbrev with_parts : List Part → List NamedStore → Option Holding
with_parts parts stores = Some (record { parts = parts; stores = stores })

told_both : (names more : List (List ℕ)) (told : Option Holding) → option_map (without_named more) (option_map (without_named names) told) ≡ option_map (without_named (names ++ more)) told
told_both names more None = refl
told_both names more (Some holding) =
    ap (λ (left : List NamedStore). with_parts holding.parts left) (sym (fold-append (λ left one. without_store one left) holding.stores names more))

pub lent_both : (names more : List (List ℕ)) (old mid new : BenchState) → mid ≡ with_faults mid.faults (stores_lent names old) → new ≡ with_faults new.faults (stores_lent more mid)
    → new ≡ with_faults new.faults (stores_lent (names ++ more) old)
lent_both names more old mid new lent then =
    then ∙ ap (λ (state : BenchState). with_faults new.faults (stores_lent more state)) lent
    ∙ (λ i. record old { told = told_both names more old.told i; lent = append_assoc old.lent names more i; faults = new.faults })

pub lent_more : (count all : ℕ) (old mid new : BenchState) → HasLent count old mid → HasLentMore count all mid new → HasLent all old new
lent_more count all old mid new lent more = record {
  names = lent.names ++ more.names;
  lent = lent_both lent.names more.names old mid new lent.lent more.lent;
  one_each = omega (arith, more.one_each, lent.one_each, length-append lent.names more.names);
}

-- ---- the new names

pub not_contained : (known : List (List ℕ)) (name : List ℕ) → is_known known name ≡ false → ¬ (Contains known name)
not_contained known name absent (k, inside, is) =
    let found = known_at known k name inside (get_or_default known k [] name inside ∙ is) in
    let never : true ≡ false = sym found ∙ absent in
    cc

new_stores_cases : (known : List (List ℕ)) (name : List ℕ) (rest : List (List ℕ)) (stores : List NamedStore) (found : Bool) → found ≡ is_known known name
    → stores_named rest (without_stores known stores) ≡ stores_named rest stores
    → stores_named (cond (not found) (name ∷ rest) rest) (without_stores known stores) ≡ stores_named (cond (not found) (name ∷ rest) rest) stores
new_stores_cases known name rest stores true test same = same
new_stores_cases known name rest stores false test same =
    ap (λ (one : Store). one ∷ stores_named rest (without_stores known stores)) (store_of_others name known stores (not_contained known name (sym test)))
    ∙ ap (λ (others : List Store). store_of name stores ∷ others) same

-- their stores are none of those that are known
pub new_stores : (known wanted : List (List ℕ)) (stores : List NamedStore) → stores_named (new_names known wanted) (without_stores known stores) ≡ stores_named (new_names known wanted) stores
new_stores known [] stores = refl
new_stores known (name ∷ wanted) stores =
    new_stores_cases known name (new_names known wanted) stores (is_known known name) refl (new_stores known wanted stores)

-- ---- opened

abbrev files_all : Files → List Store → Files
files_all files stores = record { contents = files.contents ++ map (λ (store : Store). store.seen) stores }

opened_at : (parts : List Part) (holding : Holding) (geometry : Geometry) (wanted : List (List ℕ)) (page entries at_page at_entries : ℕ) (known names : List (List ℕ)) (next at_next : ℕ) (old_row new_row : List StoreHistory)
    → IsOpeningBegun parts geometry page entries known next
    → HoldFiles new_row (files_behind (files_named parts known holding.stores) (new_names known wanted) (without_stores known holding.stores))
    → names ≡ all_names known wanted → at_page ≡ page → at_entries ≡ entries → at_next ≡ next
    → IsRegionOpened (record { parts = parts; stores = holding.stores }) geometry wanted at_page at_entries names at_next new_row
opened_at parts holding geometry wanted page entries at_page at_entries known names next at_next old_row new_row begun files names_are page_is entries_is next_is = record {
  known = known;
  begun =
      subst (λ (n : ℕ). IsOpeningBegun parts geometry n at_entries known at_next) (sym page_is)
      (subst (λ (n : ℕ). IsOpeningBegun parts geometry page n known at_next) (sym entries_is)
      (subst (λ (n : ℕ). IsOpeningBegun parts geometry page entries known n) (sym next_is) begun));
  names_are = names_are;
  files =
      subst (λ (stores : List Store). HoldFiles new_row (files_all (files_named parts known holding.stores) stores)) (new_stores known wanted holding.stores) files;
}

pub opened_passed : {T E : Type 0} (page_of entries_of next_of : T → ℕ) (names_of : T → List (List ℕ)) (result : Result T E) (told mid : Option Holding) (row : List lines.PartHistory)
    (geometry : Geometry) (wanted : List (List ℕ)) (page entries : ℕ) (known : List (List ℕ)) (next : ℕ) (old_row new_row : List StoreHistory)
    → mid ≡ option_map (without_named known) told
    → RowTells row (λ parts. IsOpeningBegun parts geometry page entries known next)
    → IfSome told (λ holding. RowTells row (λ parts. HoldFiles old_row (files_named parts known holding.stores)))
    → ((files : Files) → HoldFiles old_row files → IfOk result (λ value. IfSome mid (λ holding. HoldFiles new_row (files_behind files (new_names known wanted) holding.stores))))
    → IfOk result (λ value. names_of value ≡ all_names known wanted) → IfOk result (λ value. page_of value ≡ page) → IfOk result (λ value. entries_of value ≡ entries) → IfOk result (λ value. next_of value ≡ next)
    → IfOk result (λ value. IfSome told (λ holding. RowTells row (λ parts.
    IsRegionOpened (record { parts = parts; stores = holding.stores }) geometry wanted (page_of value) (entries_of value) (names_of value) (next_of value) new_row)))
opened_passed page_of entries_of next_of names_of (Err error) told mid row geometry wanted page entries known next old_row new_row is begun files more names pages entry nexts = tt
opened_passed page_of entries_of next_of names_of (Ok value) None mid row geometry wanted page entries known next old_row new_row is begun files more names pages entry nexts = tt
opened_passed page_of entries_of next_of names_of (Ok value) (Some holding) mid row geometry wanted page entries known next old_row new_row is begun files more names pages entry nexts =
    row_tells_from row (λ parts. IsRegionOpened (record { parts = parts; stores = holding.stores }) geometry wanted (page_of value) (entries_of value) (names_of value) (next_of value) new_row) (λ parts are.
    let held = row_tells_at row (λ these. HoldFiles old_row (files_named these known holding.stores)) parts are files in
    opened_at parts holding geometry wanted page entries (page_of value) (entries_of value) known (names_of value) next (next_of value) old_row new_row
    (row_tells_at row (λ these. IsOpeningBegun these geometry page entries known next) parts are begun)
    (subst (λ (one : Option Holding). IfSome one (λ left. HoldFiles new_row (files_behind (files_named parts known holding.stores) (new_names known wanted) left.stores))) is (more (files_named parts known holding.stores) held))
    names pages entry nexts)

-- ---- not opened

pub too_many : (row : List lines.PartHistory) (geometry : Geometry) (wanted : List (List ℕ)) (page entries : ℕ) (known : List (List ℕ)) (next : ℕ) (why : Refusal) → RowTells row (λ told. IsOpeningBegun told geometry page entries known next)
    → why ≡ TooManyFiles → 64 < length (all_names known wanted) → RowTells row (λ told. IsNotOpened told geometry wanted why)
too_many row geometry wanted page entries known next why begun is many =
    row_tells_from row (λ told. IsNotOpened told geometry wanted why) (λ told are. record {
      not_blank = λ other. absurd (other is);
      many = λ same. record { page = page; entries = entries; known = known; next = next; begun = row_tells_at row (λ these. IsOpeningBegun these geometry page entries known next) told are begun; many = many };
    })

pub not_opened : (row : List lines.PartHistory) (geometry : Geometry) (wanted : List (List ℕ)) (why : Refusal) → RowTells row (λ told. (is_blank told ≡ false) × IsRefusedFor told why) → RowTells row (λ told. IsNotOpened told geometry wanted why)
not_opened row geometry wanted why refused =
    row_tells_from row (λ told. IsNotOpened told geometry wanted why) (λ told are. record {
      not_blank = λ other. row_tells_at row (λ these. (is_blank these ≡ false) × IsRefusedFor these why) told are refused;
      many = λ same. absurd (subst (λ (one : Refusal). IsRefusedFor told one) same (row_tells_at row (λ these. (is_blank these ≡ false) × IsRefusedFor these why) told are refused).1);
    })

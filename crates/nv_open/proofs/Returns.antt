-- What parts and stores are that were lent, and what a bench is to which they come back.
use Rattle.std.proofs.Common.{◌≡◌, ℕ, ◌<◌, List, [], ◌∷◌, ◌++◌, length, map, take, drop, Bool, true, false, cond, refl, sym, ap, ◌∙◌, subst, arith}
use Rattle.std.proofs.Math.Seq.{take-append_seam}
use Rattle.std.proofs.lemmas.List.Elements.{All-nil, All-cons, All-head, All-tail}
use Rattle.std.specs.Prelude.{All, Option, Some, None, IfSome, Result, Ok, Err, IfOk}
use Rattle.nv_plain.specs.Recovered.{region_files}
use Rattle.nv_pmem.specs.RowStates.{AreNow, row_tells_from, row_tells_at}
use Rattle.nv_pmem.specs.Rows.{RowTells, row_words}
use Rattle.nv_pmem.specs.Part.{Part}
use Rattle.nv_pmem.specs.Steps as lines
use Rattle.nv_store.specs.Steps.{StoreHistory}
use Rattle.nv_store.specs.Store.{Store, IsQuietStore, quiet_store}
use Rattle.nv_bench.specs.Benches.{BenchState, with_faults}
use Rattle.nv_bench.specs.Holding.{Holding, NamedStore, store_of, is_named}
use Rattle.nv_recover.specs.Standing.{AreQuietStores, files_of}
use Rattle.nv_recover.specs.Telling.{AllTell}
use Rattle.nv_open.specs.Held.{HoldFiles, files_named, header_names, names_opened, AreUnwritten}
use Rattle.nv_open.specs.Lending.{stores_named, stores_lent}
use Rattle.nv_open.specs.Refusals.{IsRefusedFor, IsBadHeader, IsBadLog}
use Rattle.nv_open.specs.declared.error.Refusal.{Refusal}
use Rattle.nv_open.specs.declared.error.Refusal.TheVariants.{Truncated, BadMagic, BadVersion, BadGeometry, BadName, BadEntry, TooManyFiles}

-- what was written back to a vector
pub written_back : {X : Type 0} (count : ℕ) (new old : List X) → length new ≡ count → take count (new ++ drop (length new) old) ≡ new
written_back {X} count new old is = subst (λ (n : ℕ). take n (new ++ drop (length new) old) ≡ new) is (take-append_seam new (drop (length new) old))

-- a row that has present states tells
pub states_tell : {S : Type 0} (row : List (List S)) (states : List S) → AreNow row states → AllTell row
states_tell {S} [] states are = All-nil (λ (history : List S). 0 < length history)
states_tell (history ∷ row) [] are = absurd are
states_tell {S} (history ∷ row) (now ∷ states) are =
    All-cons (λ (history : List S). 0 < length history) history row (omega (arith, ap length are.0.is)) (states_tell row states are.1)

-- ---- quiet stores

empty_is_quiet : IsQuietStore (quiet_store [])
empty_is_quiet = record { none = λ i. refl; durable = refl }

quiet_cases : (name : List ℕ) (first : NamedStore) (rest : List NamedStore) (is : Bool) → IsQuietStore first.store → IsQuietStore (store_of name rest) → IsQuietStore (cond is first.store (store_of name rest))
quiet_cases name first rest true one others = one
quiet_cases name first rest false one others = others

pub store_of_quiet : (name : List ℕ) (stores : List NamedStore) → All (λ (named : NamedStore). IsQuietStore named.store) stores → IsQuietStore (store_of name stores)
store_of_quiet name [] quiet = empty_is_quiet
store_of_quiet name (first ∷ rest) quiet =
    quiet_cases name first rest (is_named name first) (All-head (λ (named : NamedStore). IsQuietStore named.store) first rest quiet)
    (store_of_quiet name rest (All-tail (λ (named : NamedStore). IsQuietStore named.store) first rest quiet))

pub named_quiet : (names : List (List ℕ)) (stores : List NamedStore) → All (λ (named : NamedStore). IsQuietStore named.store) stores → AreQuietStores (stores_named names stores)
named_quiet [] stores quiet = All-nil IsQuietStore
named_quiet (name ∷ names) stores quiet = All-cons IsQuietStore (store_of name stores) (stores_named names stores) (store_of_quiet name stores quiet) (named_quiet names stores quiet)

cons_same : {S : Type 0} (a b : S) (past other : List S) → a ∷ past ≡ b ∷ other → a ≡ b
cons_same a b past other is = cc

one_state : (row : List StoreHistory) (one other : List Store) → AreNow row one → AreNow row other → one ≡ other
one_state [] [] [] a b = refl
one_state [] [] (y ∷ other) a b = absurd b
one_state [] (x ∷ one) other a b = absurd a
one_state (history ∷ row) [] other a b = absurd a
one_state (history ∷ row) (x ∷ one) [] a b = absurd b
one_state (history ∷ row) (x ∷ one) (y ∷ other) a b =
    ap (λ (s : Store). s ∷ one) (cons_same x y a.0.past b.0.past (sym a.0.is ∙ b.0.is)) ∙ ap (λ (rest : List Store). y ∷ rest) (one_state row one other a.1 b.1)

-- Stores that are lent by a bench whose stores are quiet are quiet, where they tell.
pub lent_quiet : {Y : Type 0} (history : Y → StoreHistory) (told : Option Holding) (names : List (List ℕ)) (stores : List Y)
    → IfSome told (λ holding. All (λ (named : NamedStore). IsQuietStore named.store) holding.stores)
    → IfSome told (λ holding. AreNow (map history stores) (stores_named names holding.stores))
    → (told ≡ None → All (λ store. history store ≡ []) stores)
    → RowTells (map history stores) AreQuietStores
lent_quiet history None names [] quiet are untold = All-nil IsQuietStore
lent_quiet history None names (store ∷ stores) quiet are untold =
    subst (λ (first : StoreHistory). RowTells (first ∷ map history stores) AreQuietStores) (sym (All-head (λ one. history one ≡ []) store stores (untold refl))) tt
lent_quiet history (Some holding) names stores quiet are untold =
    row_tells_from (map history stores) AreQuietStores (λ states now. subst AreQuietStores (one_state (map history stores) (stores_named names holding.stores) states are now) (named_quiet names holding.stores quiet))

-- stores that were opened where none was
pub opened_alone : {Y : Type 0} (before now stores : List Y) → before ≡ [] → now ≡ before ++ stores → stores ≡ now
opened_alone before now stores none behind = sym (behind ∙ ap (λ (front : List _). front ++ stores) none)

-- ---- a recovery, passed on

-- what is recovered of the stores that were opened
pub files_passed : {T E : Type 0} (names_of : T → List (List ℕ)) (result : Result T E) (told : Option Holding) (row_old row : List lines.PartHistory) (store_row new_row : List StoreHistory) (names : List (List ℕ))
    → row ≡ row_old → IfOk result (λ done. names_of done ≡ names)
    → IfSome told (λ holding. AreNow store_row (stores_named names holding.stores))
    → IfSome told (λ holding. AllTell row_old)
    → ((was : List Store) → AreNow store_row was → AllTell row → IfOk result (λ done. RowTells row (λ parts. HoldFiles new_row (region_files (row_words parts) (files_of was)))))
    → IfOk result (λ done. IfSome told (λ holding. RowTells row_old (λ parts. HoldFiles new_row (files_named parts (names_of done) holding.stores))))
files_passed names_of (Err e) told row_old row store_row new_row names same named are tell files = tt
files_passed names_of (Ok done) None row_old row store_row new_row names same named are tell files = tt
files_passed names_of (Ok done) (Some holding) row_old row store_row new_row names same named are tell files =
    subst (λ (these : List (List ℕ)). RowTells row_old (λ parts. HoldFiles new_row (files_named parts these holding.stores))) (sym named)
    (subst (λ (these : List lines.PartHistory). RowTells these (λ parts. HoldFiles new_row (files_named parts names holding.stores))) same
    (files (stores_named names holding.stores) are (subst AllTell (sym same) tell)))

-- ---- a refusal, passed on

pub names_of_header : (why : Refusal) (told : List Part) → IsBadHeader why → names_opened why told ≡ []
names_of_header (Truncated found wanted) told is = refl
names_of_header BadMagic told is = refl
names_of_header (BadVersion found) told is = refl
names_of_header (BadGeometry field found) told is = refl
names_of_header (BadName i) told is = refl
names_of_header (BadEntry number) told is = absurd is
names_of_header TooManyFiles told is = absurd is

pub names_of_log : (why : Refusal) (told : List Part) → IsBadLog why → names_opened why told ≡ header_names told
names_of_log (Truncated found wanted) told is = absurd is
names_of_log BadMagic told is = absurd is
names_of_log (BadVersion found) told is = absurd is
names_of_log (BadGeometry field found) told is = absurd is
names_of_log (BadName i) told is = absurd is
names_of_log (BadEntry number) told is = refl
names_of_log TooManyFiles told is = absurd is

-- which stores were opened before a refusal
pub HasOpened : (why : Refusal) (names : List (List ℕ)) → List lines.PartHistory → Type 0
HasOpened why names row = RowTells row (λ told. names_opened why told ≡ names)

pub has_opened : (why : Refusal) (names : List (List ℕ)) (row : List lines.PartHistory) → RowTells row (λ told. names_opened why told ≡ names) → HasOpened why names row
unfolding HasOpened
has_opened why names row has = has

pub opened_by_header : (row : List lines.PartHistory) (why : Refusal) → RowTells row (λ told. IsRefusedFor told why × IsBadHeader why) → HasOpened why [] row
unfolding HasOpened
opened_by_header row why refused =
    row_tells_from row (λ told. names_opened why told ≡ []) (λ told are. names_of_header why told (row_tells_at row _ told are refused).1)

pub opened_by_bad : (row : List lines.PartHistory) (why : Refusal) → RowTells row (λ told. IsBadHeader why) → HasOpened why [] row
unfolding HasOpened
opened_by_bad row why bad =
    row_tells_from row (λ told. names_opened why told ≡ []) (λ told are. names_of_header why told (row_tells_at row (λ told. IsBadHeader why) told are bad))

pub opened_by_log : (row : List lines.PartHistory) (why : Refusal) (names : List (List ℕ)) → RowTells row (λ told. header_names told ≡ names)
    → RowTells row (λ told. IsRefusedFor told why × IsBadLog why) → HasOpened why names row
unfolding HasOpened
opened_by_log row why names says refused =
    row_tells_from row (λ told. names_opened why told ≡ names) (λ told are. names_of_log why told (row_tells_at row _ told are refused).1 ∙ row_tells_at row _ told are says)

pub refused_alone : (row : List lines.PartHistory) (why : Refusal) (P : Refusal → Type 0) → RowTells row (λ told. IsRefusedFor told why × P why) → RowTells row (λ told. IsRefusedFor told why)
refused_alone row why P refused = row_tells_from row (λ told. IsRefusedFor told why) (λ told are. (row_tells_at row _ told are refused).0)

held_passed : (row : List lines.PartHistory) (why : Refusal) (names : List (List ℕ)) (bench : Option Holding) (opened stores : List StoreHistory)
    → RowTells row (λ told. names_opened why told ≡ names) → IfSome bench (λ holding. AreNow opened (stores_named names holding.stores)) → RowTells row (λ told. stores ≡ opened)
    → IfSome bench (λ holding. RowTells row (λ told. AreNow stores (stores_named (names_opened why told) holding.stores)))
held_passed row why names None opened stores has held kept = tt
held_passed row why names (Some holding) opened stores has held kept =
    row_tells_from row (λ told. AreNow stores (stores_named (names_opened why told) holding.stores)) (λ told are.
    subst (λ (these : List (List ℕ)). AreNow stores (stores_named these holding.stores)) (sym (row_tells_at row _ told are has))
    (subst (λ (these : List StoreHistory). AreNow these (stores_named names holding.stores)) (sym (row_tells_at row _ told are kept)) held))

-- the stores of those names are lent, and as they were
pub unwritten_by : {X Y : Type 0} (part_history : X → lines.PartHistory) (store_history : Y → StoreHistory) (why : Refusal) (names : List (List ℕ)) (old new : BenchState) (before now : List X) (opened stores : List Y)
    → HasOpened why names (map part_history before) → map part_history now ≡ map part_history before
    → new ≡ with_faults new.faults (stores_lent names old)
    → IfSome old.told (λ holding. AreNow (map store_history opened) (stores_named names holding.stores))
    → RowTells (map part_history before) (λ told. map store_history stores ≡ map store_history opened)
    → AreUnwritten part_history store_history why old new before now stores
unfolding HasOpened
unwritten_by part_history store_history why names old new before now opened stores has parts lent held kept =
    let row = map part_history before in
    record {
      parts = parts;
      lent =
          row_tells_from row (λ told. new ≡ with_faults new.faults (stores_lent (names_opened why told) old)) (λ told are.
          subst (λ (these : List (List ℕ)). new ≡ with_faults new.faults (stores_lent these old)) (sym (row_tells_at row _ told are has)) lent);
      held = held_passed row why names old.told (map store_history opened) (map store_history stores) has held kept;
    }

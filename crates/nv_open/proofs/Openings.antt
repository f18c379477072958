-- Stores that are opened, one behind another.
use Rattle.std.proofs.Common.{◌≡◌, ◌≢◌, ℕ, ◌+◌, ◌<◌, ◌≤◌, suc, Bool, cond, true, false, List, [], ◌∷◌, ◌++◌, length, map, take, drop, get_or, IsTrue, refl, sym, ap, ◌∙◌, subst, arith, length-append, append_assoc}
use Rattle.std.specs.Prelude.{Contains, IfSome, Option, Some, None, option_map, Result, Err}
use Rattle.std.proofs.lemmas.List.{append-nil, get_or_append_left, get_or-append-add, map_push, length_push, length-take-le, get_or_default, take-append-drop}
use Rattle.std.proofs.lemmas.List.Elements.{All-push, All-nil}
use Rattle.std.proofs.lemmas.List.Sums.{fold-append, sum_by_push}
use Rattle.std.specs.Cmp.Lexicographic.{same_text}
use Rattle.nv_plain.specs.Faults.{Rose, saturated}
use Rattle.nv_plain.specs.Names.{is_name}
use Rattle.nv_plain.specs.Layouts.{Layout}
use Rattle.nv_pmem.specs.RowStates.{AreNow, IsNow}
use Rattle.nv_pmem.specs.Part.{Part}
use Rattle.nv_store.specs.Steps.{StoreHistory}
use Rattle.nv_store.specs.Store.{Store}
use Rattle.nv_bench.specs.Benches.{BenchState, with_faults, store_lent}
use Rattle.nv_bench.specs.Holding.{Holding, NamedStore, store_of, without_store, is_named}
use Rattle.nv_bench.specs.declared.bench.BenchError.{BenchError}
use Rattle.nv_bench.specs.declared.bench.BenchError.TheVariants.{Failed, NoMemory}
use Rattle.nv_header.specs.FileNames.{AreFileNames}
use Rattle.nv_open.specs.Lending.{AreOpened, AreBegun, OpeningHasCause, stores_named, without_stores, without_named}

-- ---- the store of a name, where others were taken

-- the store of a name stays where one of another name is taken
other_cases : (name other : List ℕ) (first : NamedStore) (rest : List NamedStore) → other ≢ name → store_of name (without_store other rest) ≡ store_of name rest
    → (takes is : Bool) → takes ≡ is_named other first → is ≡ is_named name first
    → store_of name (cond takes rest (first ∷ without_store other rest)) ≡ cond is first.store (store_of name rest)
other_cases name other first rest differ more true true takes is = absurd (differ (sym (same_text first.name other takes) ∙ same_text first.name name is))
other_cases name other first rest differ more true false takes is = refl
other_cases name other first rest differ more false true takes is = ap (λ this. cond this first.store (store_of name (without_store other rest))) (sym is)
other_cases name other first rest differ more false false takes is = ap (λ this. cond this first.store (store_of name (without_store other rest))) (sym is) ∙ more

store_of_other : (name other : List ℕ) (stores : List NamedStore) → other ≢ name → store_of name (without_store other stores) ≡ store_of name stores
store_of_other name other [] differ = refl
store_of_other name other (first ∷ rest) differ =
    other_cases name other first rest differ (store_of_other name other rest differ) (is_named other first) (is_named name first) refl refl

pub store_of_others : (name : List ℕ) (names : List (List ℕ)) (stores : List NamedStore) → ¬ (Contains names name) → store_of name (without_stores names stores) ≡ store_of name stores
store_of_others name [] stores new = refl
store_of_others name (other ∷ names) stores new =
    store_of_others name names (without_store other stores) (λ later. new (suc later.0, omega (arith, later.1), later.2))
    ∙ store_of_other name other stores (λ same. new (0, omega arith, same))

-- ---- a row, and one more

are_now_push : {S : Type 0} (row : List (List S)) (states : List S) (history : List S) (now : S) → AreNow row states → IsNow history now → AreNow (row ++ history ∷ []) (states ++ now ∷ [])
are_now_push [] [] history now are is = (is, tt)
are_now_push [] (state ∷ states) history now are is = absurd are
are_now_push (first ∷ row) [] history now are is = absurd are
are_now_push (first ∷ row) (state ∷ states) history now are is = (are.0, are_now_push row states history now are.1 is)

-- ---- names that may be opened

-- a name of those that are opened isn't lent yet
pub not_lent : (layout : Layout) (lent names : List (List ℕ)) (i : ℕ) → i < length names → AreFileNames layout (lent ++ names) → ¬ (Contains (lent ++ take i names) (get_or names i []))
not_lent layout lent names i below are (k, inside, at) =
    let whole : (lent ++ take i names) ++ drop i names ≡ lent ++ names = append_assoc lent (take i names) (drop i names) ∙ ap (λ rest. lent ++ rest) (take-append-drop i names) in
    let short : length (take i names) ≡ i = length-take-le i names (omega arith) in
    let both : length (lent ++ take i names) ≡ length lent + i = length-append lent (take i names) ∙ ap (λ n. length lent + n) short in
    let all : length (lent ++ names) ≡ length lent + length names = length-append lent names in
    let first : get_or (lent ++ names) k [] ≡ get_or (lent ++ take i names) k [] =
    ap (λ (these : List (List ℕ)). get_or these k []) (sym whole) ∙ get_or_append_left (lent ++ take i names) (drop i names) [] k inside in
    let there : get_or (lent ++ take i names) k [] ≡ get_or names i [] = get_or_default (lent ++ take i names) k [] (get_or names i []) inside ∙ at in
    let last : get_or (lent ++ names) (length lent + i) [] ≡ get_or names i [] = get_or-append-add lent names i [] in
    are.distinct k (length lent + i) (omega arith) (omega arith) (first ∙ there ∙ sym last)

-- and is allowed
pub is_allowed : (layout : Layout) (lent names : List (List ℕ)) (i : ℕ) → i < length names → AreFileNames layout (lent ++ names) → IsTrue (is_name layout.name_limit (get_or names i []))
is_allowed layout lent names i below are =
    let Allowed : List ℕ → Type 0 = λ name. IsTrue (is_name layout.name_limit name) in
    subst Allowed (get_or-append-add lent names i []) (are.allowed (length lent + i) (omega (arith, length-append lent names)))

-- the name that a loop has come to
pub item_at : (items names : List (List ℕ)) (i : ℕ) (name : List ℕ) → items ≡ names → i < length items → name ≡ get_or items i name → name ≡ get_or names i []
item_at items names i name same below is =
    is ∙ get_or_default items i name [] below ∙ ap (λ (these : List (List ℕ)). get_or these i []) same

told_none : (told : Option Holding) → told ≡ option_map (without_named []) told
told_none None = refl
told_none (Some holding) = refl

pub some_nil : (told : Option Holding) → IfSome told (λ holding. AreNow {S = Store} [] [])
some_nil None = tt
some_nil (Some holding) = tt

-- ---- one more store

-- without one store
abbrev one_taken : List ℕ → Holding → Holding
one_taken name holding = record { parts = holding.parts; stores = without_store name holding.stores }

abbrev with_parts : List Part → List NamedStore → Option Holding
with_parts parts stores = Some (record { parts = parts; stores = stores })

told_more : (names : List (List ℕ)) (name : List ℕ) (told : Option Holding)
    → option_map (one_taken name) (option_map (without_named names) told)
    ≡ option_map (without_named (names ++ name ∷ [])) told
told_more names name None = refl
told_more names name (Some holding) =
    ap (λ (left : List NamedStore). with_parts holding.parts left) (sym (fold-append (λ left one. without_store one left) holding.stores names (name ∷ [])))

none_left : (names : List (List ℕ)) (told : Option Holding) → told ≡ None → option_map (without_named names) told ≡ None
none_left names None none = refl
none_left names (Some holding) none = cc

told_push : {Y : Type 0} (history : Y → StoreHistory) (names : List (List ℕ)) (name : List ℕ) (told then : Option Holding) (stores : List Y) (store : Y)
    → then ≡ option_map (without_named names) told
    → ¬ (Contains names name)
    → IfSome told (λ holding. AreNow (map history stores) (stores_named names holding.stores))
    → IfSome then (λ holding. IsNow (history store) (store_of name holding.stores))
    → IfSome told (λ holding. AreNow (map history (stores ++ store ∷ [])) (stores_named (names ++ name ∷ []) holding.stores))
told_push history names name None then stores store is apart are this = tt
told_push history names name (Some holding) then stores store is apart are this =
    let At : Option Holding → Type 0 = λ these. IfSome these (λ held. IsNow (history store) (store_of name held.stores)) in
    let left = store_of_others name names holding.stores apart in
    let Now : Store → Type 0 = λ one. IsNow (history store) one in
    let all = are_now_push (map history stores) (stores_named names holding.stores) (history store) (store_of name holding.stores) are (subst Now left (subst At is this)) in
    let Row : List StoreHistory → Type 0 = λ row. AreNow row (stores_named names holding.stores ++ store_of name holding.stores ∷ []) in
    let States : List Store → Type 0 = λ states. AreNow (map history (stores ++ store ∷ [])) states in
    subst States (sym (map_push (λ (one : List ℕ). store_of one holding.stores) names name)) (subst Row (sym (map_push history stores store)) all)

-- one more store is opened
pub opened_more : {Y : Type 0} (history : Y → StoreHistory) (fault_count : Y → ℕ) (names : List (List ℕ)) (name : List ℕ) (old was new : BenchState) (before now : List Y) (store : Y)
    → ¬ (Contains names name)
    → AreOpened history fault_count names was.faults old was before now
    → new ≡ with_faults new.faults (store_lent name was)
    → IfSome was.told (λ holding. IsNow (history store) (store_of name holding.stores))
    → (was.told ≡ None → history store ≡ [])
    → was.faults ≡ saturated (new.faults + fault_count store)
    → AreOpened history fault_count (names ++ name ∷ []) new.faults old new before (now ++ store ∷ [])
opened_more {Y} history fault_count names name old was new before now store apart opened lent told untold counts =
    let was_told : was.told ≡ option_map (without_named names) old.told = ap (λ (state : BenchState). state.told) opened.lent in
    record {
      stores = opened.stores ++ store ∷ [];
      behind = ap (λ (these : List Y). these ++ store ∷ []) opened.behind ∙ append_assoc before opened.stores (store ∷ []);
      count = length_push opened.stores store ∙ ap (λ n. n + 1) opened.count ∙ sym (length_push names name);
      lent =
          lent ∙ ap (λ (state : BenchState). with_faults new.faults (store_lent name state)) opened.lent
          ∙ (λ i. record old { told = told_more names name old.told i; lent = append_assoc old.lent names (name ∷ []) i; faults = new.faults });
      told = told_push history names name old.told was.told opened.stores store was_told apart opened.told told;
      untold = λ none. All-push (λ (one : Y). history one ≡ []) opened.stores store (opened.untold none) (untold (was_told ∙ none_left names old.told none));
      counts = omega (arith, opened.counts, sum_by_push fault_count opened.stores store);
    }

pub failed_cause : {Y : Type 0} (was new : BenchState) (result : Result Y BenchError) (error : BenchError) → result ≡ Err error
    → (result ≡ Err Failed → Rose was.faults new.faults) → (result ≡ Err NoMemory → new ≡ was) → OpeningHasCause was.faults new.faults error
failed_cause was new result Failed is failed memory = failed is
failed_cause was new result NoMemory is failed memory = ap (λ (state : BenchState). state.faults) (memory is)

-- the first ones were opened, and then an opening failed
pub opened_until : {Y : Type 0} (history : Y → StoreHistory) (fault_count : Y → ℕ) (names : List (List ℕ)) (number : ℕ) (old was new : BenchState) (before now : List Y) (error : BenchError)
    → number ≤ length names → AreOpened history fault_count (take number names) was.faults old was before now
    → new ≡ with_faults new.faults was → OpeningHasCause was.faults new.faults error
    → AreBegun history fault_count names old new before now error
opened_until history fault_count names number old was new before now error fits opened kept cause = record {
  number = number;
  no_more = fits;
  faults = was.faults;
  opened = record {
    stores = opened.stores;
    behind = opened.behind;
    count = opened.count;
    lent = kept ∙ ap (with_faults new.faults) opened.lent;
    told = opened.told;
    untold = opened.untold;
    counts = opened.counts;
  };
  cause = cause;
}

-- none was opened yet
pub opened_none : {Y : Type 0} (history : Y → StoreHistory) (fault_count : Y → ℕ) (old : BenchState) (before now : List Y) → now ≡ before → AreOpened history fault_count [] old.faults old old before now
opened_none {Y} history fault_count old before now same = record {
  stores = [];
  behind = same ∙ sym (append-nil before);
  count = refl;
  lent = ap (λ (state : Option Holding × List (List ℕ)). record old { told = state.0; lent = state.1 }) (λ i. (told_none old.told i, sym (append-nil old.lent) i));
  told = some_nil old.told;
  untold = λ none. All-nil (λ (store : Y). history store ≡ []);
  counts = ap saturated (omega arith);
}

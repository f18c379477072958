-- Homes: which store a name finds at a bench to which stores came back behind those that were there.
use Rattle.std.proofs.Common.{◌≡◌, ◌≢◌, ◌⊎◌, ℕ, ◌<◌, Bool, true, false, cond, zero, suc, All, List, [], ◌∷◌, ◌++◌, length, slice_index_or, inl, inr, refl, sym, ap, subst, ◌∙◌, arith}
use Rattle.std.specs.Prelude.{nat_eq, Contains, if◌then◌else◌}
use Rattle.std.specs.Cmp.Lexicographic.{same_text, other_text}
use Rattle.std.proofs.lemmas.List.Elements.{All-nil, All-cons, All-head, All-tail}
use lib.Pointwise.{pointwise}
use Rattle.nv_store.specs.Store.{Store, quiet_store}
use Rattle.nv_bench.specs.Holding.{NamedStore, is_named, named_stores, store_of, without_store}
use Rattle.nv_bench.specs.Naming.{AreDistinct, names_of}
use Rattle.nv_bench.proofs.NameLaws.{distinct_without, none_left}
use Rattle.nv_open.specs.Lending.{stores_named, without_stores}
use Rattle.nv_open.proofs.Openings.{store_of_others}

abbrev pub NotNamed : List ℕ → NamedStore → Type 0
NotNamed name named = is_named name named ≡ false

-- ---- names

true_unless : (b : Bool) → ¬ (false ≡ b) → b ≡ true
true_unless true never = refl
true_unless false never = absurd (never refl)

false_unless : (b : Bool) → ¬ (true ≡ b) → b ≡ false
false_unless false never = refl
false_unless true never = absurd (never refl)

own_name : (name : List ℕ) → pointwise nat_eq name name ≡ true
own_name name = true_unless (pointwise nat_eq name name) (λ other. other_text name name other refl)

pub other_name : (one other : List ℕ) → one ≢ other → pointwise nat_eq one other ≡ false
other_name one other differ = false_unless (pointwise nat_eq one other) (λ same. differ (same_text one other same))

pub none_in : (name : List ℕ) → ¬ (Contains [] name)
none_in name (k, inside, is) = absurd (omega (arith, inside))

-- a name is one of some, or none
pub one_or_none : (names : List (List ℕ)) (name : List ℕ) → Contains names name ⊎ (¬ (Contains names name))
one_or_none [] name = inr (none_in name)
one_or_none (first ∷ rest) name = by (pointwise nat_eq first name) refl (one_or_none rest name)
  where
    first_or_later : pointwise nat_eq first name ≡ false → (¬ (Contains rest name)) → ¬ (Contains (first ∷ rest) name)
    first_or_later is absent (zero, inside, same) = other_text first name (sym is) same
    first_or_later is absent (suc k, inside, same) = absent (k, omega (arith, inside), same)

    by : (is : Bool) → pointwise nat_eq first name ≡ is → Contains rest name ⊎ (¬ (Contains rest name)) → Contains (first ∷ rest) name ⊎ (¬ (Contains (first ∷ rest) name))
    by true is later = inl (0, omega arith, same_text first name (sym is))
    by false is (inl (k, inside, same)) = inl (suc k, omega (arith, inside), same)
    by false is (inr absent) = inr (first_or_later is absent)

-- ---- stores one behind the other

-- where none in front has the name
pub behind : (name : List ℕ) (home given : List NamedStore) → All (NotNamed name) home → store_of name (home ++ given) ≡ store_of name given
behind name [] given away = refl
behind name (first ∷ home) given away =
    ap (λ is. cond is first.store (store_of name (home ++ given))) (All-head (NotNamed name) first home away)
    ∙ behind name home given (All-tail (NotNamed name) first home away)

pub all_behind : (names : List (List ℕ)) (home given : List NamedStore) → All (λ name. All (NotNamed name) home) names → stores_named names (home ++ given) ≡ stores_named names given
all_behind [] home given away = refl
all_behind (name ∷ names) home given away =
    ap (λ store. store ∷ stores_named names (home ++ given)) (behind name home given (All-head (λ name. All (NotNamed name) home) name names away))
    ∙ ap (λ others. store_of name given ∷ others) (all_behind names home given (All-tail (λ name. All (NotNamed name) home) name names away))

-- where none has the name there is an empty one
none_found : (name : List ℕ) (stores : List NamedStore) → All (NotNamed name) stores → store_of name stores ≡ quiet_store []
none_found name [] none = refl
none_found name (first ∷ rest) none =
    ap (λ is. cond is first.store (store_of name rest)) (All-head (NotNamed name) first rest none) ∙ none_found name rest (All-tail (NotNamed name) first rest none)

-- where none behind has the name
pub in_front : (name : List ℕ) (home given : List NamedStore) → All (NotNamed name) given → store_of name (home ++ given) ≡ store_of name home
in_front name [] given none = none_found name given none
in_front name (first ∷ home) given none = ap (λ others. cond (is_named name first) first.store others) (in_front name home given none)

pub all_in_front : (names : List (List ℕ)) (home given : List NamedStore) → All (λ name. All (NotNamed name) given) names → stores_named names (home ++ given) ≡ stores_named names home
all_in_front [] home given none = refl
all_in_front (name ∷ names) home given none =
    ap (λ store. store ∷ stores_named names (home ++ given)) (in_front name home given (All-head (λ name. All (NotNamed name) given) name names none))
    ∙ ap (λ others. store_of name home ∷ others) (all_in_front names home given (All-tail (λ name. All (NotNamed name) given) name names none))

-- ---- stores under names

-- one under another name hasn't this one
pub not_given : (name : List ℕ) (names : List (List ℕ)) (stores : List Store) → ¬ (Contains names name) → All (NotNamed name) (named_stores names stores)
not_given name [] stores absent = All-nil (NotNamed name)
not_given name (first ∷ names) [] absent = All-nil (NotNamed name)
not_given name (first ∷ names) (store ∷ stores) absent =
    All-cons (NotNamed name) (record { name = first; store = store }) (named_stores names stores) (other_name first name (λ same. absent (0, omega arith, same)))
    (not_given name names stores (λ later. absent (suc later.0, (let below = later.1 in omega (arith, below)), later.2)))

-- a store under one name is no store of other ones
away_from : (first : List ℕ) (names : List (List ℕ)) (store : Store) → ((j : ℕ) → j < length names → first ≢ slice_index_or names j [])
    → All (λ name. All (NotNamed name) (record { name = first; store = store } ∷ [])) names
away_from first [] store differ = All-nil (λ name. All (NotNamed name) (record { name = first; store = store } ∷ []))
away_from first (name ∷ names) store differ =
    All-cons (λ name. All (NotNamed name) (record { name = first; store = store } ∷ [])) name names
    (All-cons (NotNamed name) (record { name = first; store = store }) [] (other_name first name (differ zero (omega arith))) (All-nil (NotNamed name)))
    (away_from first names store (λ j below. differ (suc j) (omega arith)))

-- stores under names of their own are found by these
pub own_stores : (names : List (List ℕ)) (stores : List Store) → length names ≡ length stores
    → ((i j : ℕ) → i < j → j < length names → slice_index_or names i [] ≢ slice_index_or names j []) → stores_named names (named_stores names stores) ≡ stores
own_stores [] [] long distinct = refl
own_stores [] (store ∷ stores) long distinct = absurd (omega (arith, long))
own_stores (name ∷ names) [] long distinct = absurd (omega (arith, long))
own_stores (name ∷ names) (store ∷ stores) long distinct =
    let first : NamedStore = record { name = name; store = store } in
    let given = named_stores names stores in
    ap (λ is. cond is store (store_of name given) ∷ stores_named names (first ∷ given)) (own_name name)
    ∙ ap (λ others. store ∷ others) (all_behind names (first ∷ []) given (away_from name names store (λ j below. distinct zero (suc j) (omega arith) (omega (arith, below)))))
    ∙ ap (λ others. store ∷ others) (own_stores names stores (omega (arith, long)) (λ i j less below. distinct (suc i) (suc j) (omega (arith, less)) (omega (arith, below))))

-- stores that are those that the names find elsewhere
pub found_same : (name : List ℕ) (names : List (List ℕ)) (stores : List NamedStore) → Contains names name → store_of name (named_stores names (stores_named names stores)) ≡ store_of name stores
found_same name [] stores there = absurd (none_in name there)
found_same name (first ∷ names) stores there = by (pointwise nat_eq first name) refl (λ later. found_same name names stores later)
  where
    given : List NamedStore
    given = named_stores names (stores_named names stores)

    later : pointwise nat_eq first name ≡ false → Contains (first ∷ names) name → Contains names name
    later is (zero, inside, same) = absurd (other_text first name (sym is) same)
    later is (suc k, inside, same) = (k, omega (arith, inside), same)

    by : (is : Bool) → pointwise nat_eq first name ≡ is → (Contains names name → store_of name given ≡ store_of name stores)
        → cond (pointwise nat_eq first name) (store_of first stores) (store_of name given) ≡ store_of name stores
    by true is rest = ap (λ test. cond test (store_of first stores) (store_of name given)) is ∙ ap (λ one. store_of one stores) (same_text first name (sym is))
    by false is rest = ap (λ test. cond test (store_of first stores) (store_of name given)) is ∙ rest (later is there)

-- ---- stores that are away

kept_by : (P : NamedStore → Type 0) (is : Bool) (first : NamedStore) (rest others : List NamedStore) → P first → All P rest → All P others → All P (if is then rest else first ∷ others)
kept_by P true first rest others one all_rest all_others = all_rest
kept_by P false first rest others one all_rest all_others = All-cons P first others one all_others

kept_in : (P : NamedStore → Type 0) (name : List ℕ) (stores : List NamedStore) → All P stores → All P (without_store name stores)
kept_in P name [] all = all
kept_in P name (first ∷ rest) all =
    kept_by P (is_named name first) first rest (without_store name rest) (All-head P first rest all) (All-tail P first rest all) (kept_in P name rest (All-tail P first rest all))

pub kept_in_all : (P : NamedStore → Type 0) (names : List (List ℕ)) (stores : List NamedStore) → All P stores → All P (without_stores names stores)
kept_in_all P [] stores all = all
kept_in_all P (name ∷ names) stores all = kept_in_all P names (without_store name stores) (kept_in P name stores all)

-- of stores whose names differ none has a name any more whose store is away
pub all_away : (names : List (List ℕ)) (stores : List NamedStore) → AreDistinct (names_of stores) → All (λ name. All (NotNamed name) (without_stores names stores)) names
all_away [] stores distinct = All-nil (λ (name : List ℕ). All (NotNamed name) (without_stores [] stores))
all_away (name ∷ names) stores distinct =
    All-cons (λ other. All (NotNamed other) (without_stores names (without_store name stores))) name names
    (kept_in_all (NotNamed name) names (without_store name stores) (none_left name stores distinct)) (all_away names (without_store name stores) (distinct_without name stores distinct))

-- ---- stores that came back as they were

pub same_again : (name : List ℕ) (lent : List (List ℕ)) (stores : List NamedStore) → AreDistinct (names_of stores)
    → store_of name (without_stores lent stores ++ named_stores lent (stores_named lent stores)) ≡ store_of name stores
same_again name lent stores distinct =
    let home = without_stores lent stores in
    let given = named_stores lent (stores_named lent stores) in
    elim (one_or_none lent name) [
      | inl there ↦
          let Away : List ℕ → Type 0 = λ one. All (NotNamed one) home in
          behind name home given (subst Away there.2 (all_away lent stores distinct there.0 name there.1)) ∙ found_same name lent stores there
      | inr absent ↦ in_front name home given (not_given name lent (stores_named lent stores) absent) ∙ store_of_others name lent stores absent
    ]

pub all_same_again : (names lent : List (List ℕ)) (stores : List NamedStore) → AreDistinct (names_of stores)
    → stores_named names (without_stores lent stores ++ named_stores lent (stores_named lent stores)) ≡ stores_named names stores
all_same_again [] lent stores distinct = refl
all_same_again (name ∷ names) lent stores distinct =
    let back = without_stores lent stores ++ named_stores lent (stores_named lent stores) in
    ap (λ (store : Store). store ∷ stores_named names back) (same_again name lent stores distinct)
    ∙ ap (λ (others : List Store). store_of name stores ∷ others) (all_same_again names lent stores distinct)

-- a store of another name, where some came back
pub others_again : (name : List ℕ) (lent : List (List ℕ)) (stores : List NamedStore) (held : List Store) → ¬ (Contains lent name) → store_of name (without_stores lent stores ++ named_stores lent held) ≡ store_of name stores
others_again name lent stores held absent =
    in_front name (without_stores lent stores) (named_stores lent held) (not_given name lent held absent) ∙ store_of_others name lent stores absent

-- stores of names that differ, as they came back
pub back_again : (names : List (List ℕ)) (stores : List NamedStore) (held : List Store) → AreDistinct (names_of stores) → length names ≡ length held
    → ((i j : ℕ) → i < j → j < length names → slice_index_or names i [] ≢ slice_index_or names j [])
    → stores_named names (without_stores names stores ++ named_stores names held) ≡ held
back_again names stores held distinct long differ =
    all_behind names (without_stores names stores) (named_stores names held) (all_away names stores distinct) ∙ own_stores names held long differ

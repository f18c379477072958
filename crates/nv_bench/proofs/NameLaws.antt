-- Laws about the names of stores: what keeps them apart.
use Rattle.std.proofs.Common.{◌≡◌, ℕ, zero, suc, Bool, true, false, List, [], ◌∷◌, ◌++◌, length, map, inl, inr, refl, sym, ap, ◌∙◌, subst, arith}
use Rattle.std.specs.Prelude.{if◌then◌else◌, All, Contains}
use Rattle.std.specs.Cmp.Lexicographic.{same_text, other_text}
use Rattle.std.proofs.lemmas.List.{append-nil, append_assoc, map-append}
use Rattle.std.proofs.lemmas.List.Elements.{All-cons, All-nil, Contains-append_left, Contains-append_right, Contains-append_cases}
use Rattle.nv_store.specs.Store.{Store}
use Rattle.nv_bench.specs.Holding.{NamedStore, is_named, without_store, named_stores}
use Rattle.nv_bench.specs.Naming.{AreDistinct, names_of}

-- ---- a name among others

none_in : (name : List ℕ) → ¬ (Contains [] name)
none_in name (k, inside, is) = absurd (omega (arith, inside))

only_itself : (one name : List ℕ) → Contains (one ∷ []) name → one ≡ name
only_itself one name (zero, inside, is) = is
only_itself one name (suc k, inside, is) = absurd (omega (arith, inside))

first_in : (first : List ℕ) (rest : List (List ℕ)) → Contains (first ∷ rest) first
first_in first rest = (0, omega arith, refl)

later_in : (first : List ℕ) (rest : List (List ℕ)) (name : List ℕ) → Contains rest name → Contains (first ∷ rest) name
later_in first rest name (k, inside, is) = (suc k, omega (arith, inside), is)

apart_push : (first name : List ℕ) (rest : List (List ℕ)) → ¬ (Contains rest first) → ¬ (name ≡ first) → ¬ (Contains (rest ++ name ∷ []) first)
apart_push first name rest apart other there =
    elim (Contains-append_cases rest (name ∷ []) first there) [ inl before ↦ apart before | inr here ↦ other (only_itself name first here) ]

-- one that is none of these may stand behind them
pub distinct_push : (names : List (List ℕ)) (name : List ℕ) → AreDistinct names → ¬ (Contains names name) → AreDistinct (names ++ name ∷ [])
distinct_push [] name distinct new = (none_in name, tt)
distinct_push (first ∷ rest) name distinct new = (
  apart_push first name rest distinct.0 (λ same. new (subst (λ one. Contains (first ∷ rest) one) (sym same) (first_in first rest))),
  distinct_push rest name distinct.1 (λ there. new (later_in first rest name there)),
)

-- ---- a store that is lent

kept_by : (is : Bool) (first : NamedStore) (rest others : List NamedStore) (name : List ℕ) → (Contains (names_of others) name → Contains (names_of rest) name)
    → Contains (names_of (if is then rest else first ∷ others)) name → Contains (names_of (first ∷ rest)) name
kept_by true first rest others name kept there = later_in first.name (names_of rest) name there
kept_by false first rest others name kept (zero, inside, is) = (0, omega arith, is)
kept_by false first rest others name kept (suc k, inside, is) = later_in first.name (names_of rest) name (kept (k, omega (arith, inside), is))

-- the other stores have no new name
kept_in : (gone : List ℕ) (stores : List NamedStore) (name : List ℕ) → Contains (names_of (without_store gone stores)) name → Contains (names_of stores) name
kept_in gone [] name there = there
kept_in gone (first ∷ rest) name there = kept_by (is_named gone first) first rest (without_store gone rest) name (kept_in gone rest name) there

apart_left : (first : NamedStore) (rest : List NamedStore) (lent : List (List ℕ)) (name : List ℕ) → ¬ (Contains (names_of rest ++ lent) first.name) → ¬ (name ≡ first.name)
    → ¬ (Contains (names_of (without_store name rest) ++ (lent ++ name ∷ [])) first.name)
apart_left first rest lent name apart other there =
    elim (Contains-append_cases (names_of (without_store name rest)) (lent ++ name ∷ []) first.name there) [
      | inl at_home ↦ apart (Contains-append_left (names_of rest) lent first.name (kept_in name rest first.name at_home))
      | inr away ↦ apart_push first.name name lent (λ before. apart (Contains-append_right (names_of rest) lent first.name before)) other away
    ]

lent_by : (is : Bool) (name : List ℕ) (first : NamedStore) (rest : List NamedStore) (lent : List (List ℕ)) → is_named name first ≡ is → AreDistinct (names_of (first ∷ rest) ++ lent)
    → AreDistinct (names_of (without_store name rest) ++ (lent ++ name ∷ [])) → AreDistinct (names_of (if is then rest else first ∷ without_store name rest) ++ (lent ++ name ∷ []))
lent_by true name first rest lent is distinct others =
    let same : first.name ≡ name = same_text first.name name (sym is) in
    subst AreDistinct (append_assoc (names_of rest) lent (name ∷ []))
    (distinct_push (names_of rest ++ lent) name distinct.1 (subst (λ one. ¬ (Contains (names_of rest ++ lent) one)) same distinct.0))
lent_by false name first rest lent is distinct others = (apart_left first rest lent name distinct.0 (λ same. other_text first.name name (sym is) (sym same)), others)

-- where the store of a name that isn't lent is lent, the names stay apart
pub distinct_lent : (name : List ℕ) (stores : List NamedStore) (lent : List (List ℕ)) → AreDistinct (names_of stores ++ lent) → ¬ (Contains lent name)
    → AreDistinct (names_of (without_store name stores) ++ (lent ++ name ∷ []))
distinct_lent name [] lent distinct new = distinct_push lent name distinct new
distinct_lent name (first ∷ rest) lent distinct new = lent_by (is_named name first) name first rest lent refl distinct (distinct_lent name rest lent distinct.1 new)

-- ---- the stores that are left

without_by : (is : Bool) (first : NamedStore) (rest others : List NamedStore) → ¬ (Contains (names_of others) first.name) → AreDistinct (names_of rest) → AreDistinct (names_of others)
    → AreDistinct (names_of (if is then rest else first ∷ others))
without_by true first rest others apart all_rest all_others = all_rest
without_by false first rest others apart all_rest all_others = (apart, all_others)

-- the names of the others differ as before
pub distinct_without : (name : List ℕ) (stores : List NamedStore) → AreDistinct (names_of stores) → AreDistinct (names_of (without_store name stores))
distinct_without name [] distinct = distinct
distinct_without name (first ∷ rest) distinct =
    without_by (is_named name first) first rest (without_store name rest) (λ there. distinct.0 (kept_in name rest first.name there)) distinct.1 (distinct_without name rest distinct.1)

not_named : (is : Bool) (name : List ℕ) (first : NamedStore) (rest : List NamedStore) → is_named name first ≡ is → ¬ (Contains (names_of (first ∷ rest)) name) → is_named name first ≡ false
not_named true name first rest is apart =
    absurd (apart (subst (λ one. Contains (names_of (first ∷ rest)) one) (same_text first.name name (sym is)) (first_in first.name (names_of rest))))
not_named false name first rest is apart = is

-- a name that isn't among theirs is none of theirs
none_named : (name : List ℕ) (stores : List NamedStore) → ¬ (Contains (names_of stores) name) → All (λ named. is_named name named ≡ false) stores
none_named name [] apart = All-nil (λ (named : NamedStore). is_named name named ≡ false)
none_named name (first ∷ rest) apart =
    All-cons (λ (named : NamedStore). is_named name named ≡ false) first rest (not_named (is_named name first) name first rest refl apart)
    (none_named name rest (λ there. apart (later_in first.name (names_of rest) name there)))

left_by : (is : Bool) (name : List ℕ) (first : NamedStore) (rest others : List NamedStore) → is_named name first ≡ is → ¬ (Contains (names_of rest) first.name)
    → All (λ named. is_named name named ≡ false) others → All (λ named. is_named name named ≡ false) (if is then rest else first ∷ others)
left_by true name first rest others is apart away =
    none_named name rest (subst (λ one. ¬ (Contains (names_of rest) one)) (same_text first.name name (sym is)) apart)
left_by false name first rest others is apart away = All-cons (λ (named : NamedStore). is_named name named ≡ false) first others is away

-- and none of them has the name of the one that is gone
pub none_left : (name : List ℕ) (stores : List NamedStore) → AreDistinct (names_of stores) → All (λ named. is_named name named ≡ false) (without_store name stores)
none_left name [] distinct = All-nil (λ (named : NamedStore). is_named name named ≡ false)
none_left name (first ∷ rest) distinct = left_by (is_named name first) name first rest (without_store name rest) refl distinct.0 (none_left name rest distinct.1)

-- ---- stores that are given back

-- stores under their names have these names
pub names_of_named : (names : List (List ℕ)) (stores : List Store) → length names ≡ length stores → names_of (named_stores names stores) ≡ names
names_of_named [] stores long = refl
names_of_named (name ∷ names) [] long = absurd (omega (arith, long))
names_of_named (name ∷ names) (store ∷ stores) long = ap (λ rest. name ∷ rest) (names_of_named names stores (omega (arith, long)))

-- where all are back, the names are the same as before
pub distinct_back : (now was : List NamedStore) (lent : List (List ℕ)) (stores : List Store) → now ≡ was ++ named_stores lent stores → length lent ≡ length stores
    → AreDistinct (names_of was ++ lent) → AreDistinct (names_of now ++ [])
distinct_back now was lent stores is long distinct =
    let Distinct : List (List ℕ) → Type 0 = λ names. AreDistinct names in
    let names : names_of now ++ [] ≡ names_of was ++ lent =
    append-nil (names_of now) ∙ ap names_of is ∙ map-append (λ (named : NamedStore). named.name) was (named_stores lent stores)
    ∙ ap (λ rest. names_of was ++ rest) (names_of_named lent stores long) in
    subst Distinct (sym names) distinct

-- ---- stores that are made

abbrev made_as : {A : Type 0} → (A → List ℕ) → (A → Store) → A → NamedStore
made_as name_of store_of x = record { name = name_of x; store = store_of x }

names_of_made : {A : Type 0} (name_of : A → List ℕ) (store_of : A → Store) (xs : List A) → names_of (map (made_as name_of store_of) xs) ≡ map name_of xs
names_of_made name_of store_of [] = refl
names_of_made name_of store_of (x ∷ xs) = ap (λ rest. name_of x ∷ rest) (names_of_made name_of store_of xs)

-- where the names that stores are made with differ, so do those of the stores, of which none is lent
pub made_distinct : {A : Type 0} (name_of : A → List ℕ) (store_of : A → Store) (made : List NamedStore) (xs : List A) → made ≡ map (made_as name_of store_of) xs
    → AreDistinct (map name_of xs) → AreDistinct (names_of made ++ [])
made_distinct name_of store_of made xs is distinct =
    subst AreDistinct (sym (append-nil (names_of made) ∙ ap names_of is ∙ names_of_made name_of store_of xs)) distinct

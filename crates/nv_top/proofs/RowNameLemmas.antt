-- Names that are wanted again: none of them is new.
use Rattle.std.proofs.Common.{◌≡◌, ℕ, Bool, true, false, not, ◌||◌, cond, All, List, [], ◌∷◌, ◌++◌, filter, refl, ap, subst, ◌∙◌, append_assoc, append-nil, arith}
use Rattle.std.proofs.lemmas.List.Elements.{All-nil, All-cons, All-head, All-tail}
use Rattle.std.proofs.lemmas.List.Folds.{list_any-append}
use Rattle.std.specs.Prelude.{nat_eq}
use lib.Pointwise.{pointwise}
use Rattle.nv_open.specs.Adding.{all_names, is_known, new_names}
use Rattle.nv_open.proofs.NewNames.{known_at}

filter_none : {X : Type 0} (keep : X → Bool) (xs : List X) → All (λ x. keep x ≡ false) xs → filter keep xs ≡ []
filter_none keep [] none = refl
filter_none keep (x ∷ xs) none =
    ap (λ kept. cond kept (x ∷ filter keep xs) (filter keep xs)) (All-head (λ x. keep x ≡ false) x xs none) ∙ filter_none keep xs (All-tail (λ x. keep x ≡ false) x xs none)

-- a name that is one of some is one of them and others
known_first : (known more : List (List ℕ)) (name : List ℕ) → is_known known name ≡ true → is_known (known ++ more) name ≡ true
known_first known more name is = list_any-append (λ (one : List ℕ). pointwise nat_eq one name) known more ∙ ap (λ here. here || is_known more name) is

or_true : (b : Bool) → (b || true) ≡ true
or_true true = refl
or_true false = refl

known_last : (known : List (List ℕ)) (name : List ℕ) → is_known (known ++ name ∷ []) name ≡ true
known_last known name =
    list_any-append (λ (one : List ℕ). pointwise nat_eq one name) known (name ∷ []) ∙ ap (λ there. is_known known name || there) (known_at (name ∷ []) 0 name (omega arith) refl) ∙ or_true (is_known known name)

all_known : (names : List (List ℕ)) (wanted more : List (List ℕ)) → ((name : List ℕ) → is_known names name ≡ true → is_known more name ≡ true)
    → All (λ (name : List ℕ). is_known (more ++ new_names names wanted) name ≡ true) wanted
all_known names [] more know = All-nil (λ (name : List ℕ). is_known (more ++ new_names names []) name ≡ true)
all_known names (first ∷ wanted) more know = by (is_known names first) refl (all_known names wanted)
  where
    rest : List (List ℕ)
    rest = new_names names wanted

    by : (here : Bool) → is_known names first ≡ here
        → ((more : List (List ℕ)) → ((name : List ℕ) → is_known names name ≡ true → is_known more name ≡ true) → All (λ (name : List ℕ). is_known (more ++ rest) name ≡ true) wanted)
        → All (λ (name : List ℕ). is_known (more ++ cond (not here) (first ∷ rest) rest) name ≡ true) (first ∷ wanted)
    by true is later = All-cons (λ (name : List ℕ). is_known (more ++ rest) name ≡ true) first wanted (known_first more rest first (know first is)) (later more know)
    by false is later =
        subst (λ (all : List (List ℕ)). All (λ (name : List ℕ). is_known all name ≡ true) (first ∷ wanted)) (append_assoc more (first ∷ []) rest)
        (All-cons (λ (name : List ℕ). is_known ((more ++ first ∷ []) ++ rest) name ≡ true) first wanted (known_first (more ++ first ∷ []) rest first (known_last more first))
        (later (more ++ first ∷ []) (λ name known. known_first more (first ∷ []) name (know name known))))

not_new : (known : List (List ℕ)) (wanted : List (List ℕ)) → All (λ (name : List ℕ). is_known known name ≡ true) wanted → All (λ (name : List ℕ). not (is_known known name) ≡ false) wanted
not_new known [] all = All-nil (λ (name : List ℕ). not (is_known known name) ≡ false)
not_new known (first ∷ wanted) all =
    let Known : List ℕ → Type 0 = λ name. is_known known name ≡ true in
    All-cons (λ (name : List ℕ). not (is_known known name) ≡ false) first wanted (ap not (All-head Known first wanted all)) (not_new known wanted (All-tail Known first wanted all))

-- Of names that are wanted once more none is new.
pub none_new : (names wanted : List (List ℕ)) → new_names (all_names names wanted) wanted ≡ []
none_new names wanted =
    let all = all_names names wanted in
    filter_none (λ name. not (is_known all name)) wanted (not_new all wanted (all_known names wanted names (λ name known. known)))

pub same_names : (names wanted : List (List ℕ)) → all_names (all_names names wanted) wanted ≡ all_names names wanted
same_names names wanted = ap (λ more. all_names names wanted ++ more) (none_new names wanted) ∙ append-nil (all_names names wanted)

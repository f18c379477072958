-- Devices that lose power one after another, in a loop.
use Rattle.std.proofs.Common.{◌≡◌, ℕ, ◌+◌, ◌<◌, ◌≤◌, List, [], ◌∷◌, ◌++◌, length, map, get_or, set, take, drop, suc, refl, sym, ap, subst, ◌∙◌, arith, append_assoc}
use Rattle.std.proofs.lemmas.List.{take_more, drop_more, get_or_at, set_at, map-set, length-map, length-take, take_all, drop_all, append-nil}
use Rattle.std.proofs.Math.ListN.{get_or-map}

-- each element goes through a state, which it changes
unfoldable pub through : {X S : Type 0} → (S → X → X × S) → S → List X → List X × S
through f state [] = ([], state)
through f state (x ∷ xs) =
    let one = f state x in
    let rest = through f one.1 xs in
    (one.0 ∷ rest.0, rest.1)

through-append : {X S : Type 0} (f : S → X → X × S) (state : S) (xs ys : List X) → through f state (xs ++ ys) ≡ ((through f state xs).0 ++ (through f (through f state xs).1 ys).0, (through f (through f state xs).1 ys).1)
unfolding through
through-append f state [] ys = refl
through-append {X} {S} f state (x ∷ xs) ys =
    let one = f state x in
    ap (λ (more : List X × S). let all : List X × S = (one.0 ∷ more.0, more.1) in all) (through-append f one.1 xs ys)

through-one : {X S : Type 0} (f : S → X → X × S) (state : S) (x : X) → through f state (x ∷ []) ≡ ((f state x).0 ∷ [], (f state x).1)
unfolding through
through-one f state x = refl

pub length-through : {X S : Type 0} (f : S → X → X × S) (state : S) (xs : List X) → length (through f state xs).0 ≡ length xs
unfolding through
length-through f state [] = refl
length-through f state (x ∷ xs) = ap suc (length-through f (f state x).1 xs)

-- the first so many elements and one more
through-more : {X S : Type 0} (f : S → X → X × S) (state : S) (xs : List X) (i : ℕ) (x : X) → i < length xs → x ≡ get_or xs i x → through f state (take (i + 1) xs) ≡ ((through f state (take i xs)).0 ++ (f (through f state (take i xs)).1 x).0 ∷ [], (f (through f state (take i xs)).1 x).1)
through-more {X} {S} f state xs i x inside is =
    ap (through f state) (take_more xs i x inside ∙ ap (λ one. take i xs ++ one ∷ []) (sym is))
    ∙ through-append f state (take i xs) (x ∷ [])
    ∙ ap (λ (more : List X × S). let all : List X × S = ((through f state (take i xs)).0 ++ more.0, more.1) in all)
    (through-one f (through f state (take i xs)).1 x)

-- A loop over elements, of which the first i went through.
pub record Went {X S : Type 0} (f : S → X → X × S) (state : S) (xs : List X) (i : ℕ) (now : List X) (after : S) : Type 0 where
  pub are : now ≡ (through f state (take i xs)).0 ++ drop i xs
  pub state_is : after ≡ (through f state (take i xs)).1

pub went_none : {X S : Type 0} (f : S → X → X × S) (state : S) (xs : List X) → Went f state xs 0 xs state
unfolding through
went_none f state xs = record { are = refl; state_is = refl }

pub went_more : {X S : Type 0} (f : S → X → X × S) (state : S) (xs : List X) (i : ℕ) (now : List X) (before : S) (x left : X) (after : S)
    → i < length xs → Went f state xs i now before → x ≡ get_or now i x → (left, after) ≡ f before x → Went f state xs (i + 1) (set now i left) after
went_more {X} {S} f state xs i now before x left after inside so_far is one =
    let front = (through f state (take i xs)).0 in
    let long : length front ≡ i = length-through f state (take i xs) ∙ omega (arith, length-take i xs) in
    let parts : now ≡ front ++ get_or xs i x ∷ drop (i + 1) xs = so_far.are ∙ ap (λ rest. front ++ rest) (drop_more xs i x inside) in
    let read : x ≡ get_or xs i x = is ∙ ap (λ these. get_or these i x) parts ∙ get_or_at front _ _ x i long in
    let more = through-more f state xs i x inside read in
    let here : (left, after) ≡ f (through f state (take i xs)).1 x = one ∙ ap (λ these. f these x) so_far.state_is in
    record {
      are =
          ap (λ these. set these i left) parts ∙ set_at front _ _ left i long ∙ sym (append_assoc front (left ∷ []) _)
          ∙ ap (λ these. these ++ drop (i + 1) xs)
          (ap (λ (p : X × S). front ++ p.0 ∷ []) here ∙ sym (ap (λ (p : List X × S). p.0) more));
      state_is = ap (λ (p : X × S). p.1) here ∙ sym (ap (λ (p : List X × S). p.1) more);
    }

-- after the last
pub went_all : {X S : Type 0} (f : S → X → X × S) (state : S) (xs : List X) (i : ℕ) (now : List X) (after : S)
    → length xs ≤ i → Went f state xs i now after → now ≡ (through f state xs).0
went_all f state xs i now after over so_far = so_far.are ∙ rw (take_all i xs over, drop_all i xs over, append-nil)

pub went_all_state : {X S : Type 0} (f : S → X → X × S) (state : S) (xs : List X) (i : ℕ) (now : List X) (after : S)
    → length xs ≤ i → Went f state xs i now after → after ≡ (through f state xs).1
went_all_state f state xs i now after over so_far = so_far.state_is ∙ ap (λ these. (through f state these).1) (take_all i xs over)

pair_is : {A B : Type 0} (a : A) (b : B) (p : A × B) → a ≡ p.0 → b ≡ p.1 → (a, b) ≡ p
pair_is a b (x, y) first second = cc

-- A device of a list goes through: its state is what the loop goes over.
pub device_went : {D X S : Type 0} (state_of : D → X) (f : S → X → X × S) (first : S) (was now : List D) (i : ℕ) (before after : S) (device new : D)
    → i < length was → Went f first (map state_of was) i (map state_of now) before → device ≡ get_or now i device
    → state_of new ≡ (f before (state_of (get_or now i device))).0 → after ≡ (f before (state_of (get_or now i device))).1
    → Went f first (map state_of was) (i + 1) (map state_of (set now i new)) after
device_went {D} {X} {S} state_of f first was now i before after device new inside so_far is left state =
    let Goal : List X → Type 0 = λ these. Went f first (map state_of was) (i + 1) these after in
    let within : i < length (map state_of was) = omega (arith, length-map was state_of) in
    let read : state_of device ≡ get_or (map state_of now) i (state_of device) = ap state_of is ∙ sym (get_or-map state_of now i device) in
    subst Goal (sym (map-set state_of now i new))
    (went_more f first (map state_of was) i (map state_of now) before (state_of device) (state_of new) after within so_far read (pair_is (state_of new) after (f before (state_of device)) (left ∙ ap (λ (one : D). (f before (state_of one)).0) (sym is)) (state ∙ ap (λ (one : D). (f before (state_of one)).1) (sym is))))

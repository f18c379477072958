-- The first calls of each thread are dropped in place, and what that keeps.
use Rattle.std.proofs.Common.{◌≡◌, ◌⊎◌, ◌+◌, ◌-◌, ◌<◌, ◌≤◌, ℕ, zero, suc, Bool, true, false, cond, ltb, eqb, List, [], ◌∷◌, ◌++◌, length, get_or, set, take, drop, map, inl, inr, refl, sym, ap, subst, ◌∙◌, arith}
use Rattle.std.specs.Prelude.{All, filter}
use Rattle.std.specs.List.{SwappedAt}
use Rattle.std.specs.List.Sorted.{IsNonDecreasingBy, IsStrictlyIncreasing}
use Rattle.std.proofs.lemmas.Bool.{cases_lt, eqb-false, eqb-true, lt-ltb, ltb-false, ltb-true}
use Rattle.std.proofs.lemmas.List.{append_assoc, at_drop_more, drop-set-lt, drop_all, get_or-set_same, get_or-set_other, get_or_past, length-set, take-set-le, take_more}
use Rattle.std.proofs.lemmas.List.Elements.{All-cons, All-head, All-nil, All-tail, All-weaker}
use Rattle.nv_trace.specs.Grammar.{last_thread}
use Rattle.nv_trace.specs.Lives.{behind_begun, one_passed}
use Rattle.nv_trace.specs.Shape.{IsCallWithin, IsWellFormed}
use Rattle.nv_trace.specs.Traced.{Traced, lines_in}
use Rattle.nv_trace.specs.declared.trace_call.TracedCall.{TracedCall}

pub swapped_rest : (calls new : List TracedCall) (kept i : ℕ) (d : TracedCall) → kept ≤ i → SwappedAt calls new kept i → drop (i + 1) new ≡ drop (i + 1) calls
swapped_rest calls new kept i d few swapped =
    ap (drop (i + 1)) (swapped.3 d) ∙ drop-set-lt (i + 1) (set calls kept (get_or calls i d)) i (get_or calls kept d) (omega arith) ∙ drop-set-lt (i + 1) calls kept (get_or calls i d) (omega arith)

pub swapped_long : (calls new : List TracedCall) (kept i : ℕ) (d : TracedCall) → SwappedAt calls new kept i → length new ≡ length calls
swapped_long calls new kept i d swapped = ap length (swapped.3 d) ∙ length-set (set calls kept (get_or calls i d)) i (get_or calls kept d) ∙ length-set calls kept (get_or calls i d)

pub swapped_front : (calls new : List TracedCall) (kept i : ℕ) (d : TracedCall) → kept ≤ i → i < length calls → SwappedAt calls new kept i → take (kept + 1) new ≡ take kept calls ++ get_or calls i d ∷ []
swapped_front calls new kept i d few inside swapped =
    let long = swapped_long calls new kept i d swapped in
    take_more new kept d (omega (arith, long))
    ∙ ap (λ call. take kept new ++ call ∷ []) (swapped.0 d)
    ∙ ap (λ front. front ++ get_or calls i d ∷ [])
    (ap (take kept) (swapped.3 d) ∙ take-set-le kept (set calls kept (get_or calls i d)) i (get_or calls kept d) few ∙ take-set-le kept calls kept (get_or calls i d) (omega arith))

module _ (left : List ℕ) (calls : List TracedCall) (kept i : ℕ) (call : TracedCall) (inside : i < length calls) (read : call ≡ get_or calls i call) where
  abbrev pub rest : List TracedCall
  rest = drop (i + 1) calls

  at_call : (is : Bool) → ltb 0 (get_or left call.thread 0) ≡ is → behind_begun left (drop i calls) ≡ cond is (behind_begun (one_passed call.thread left) rest) (call ∷ behind_begun left rest)
  at_call is test = at_drop_more (behind_begun left) calls i call inside ∙ ap (λ call. behind_begun left (call ∷ rest)) (sym read)
      ∙ ap (λ test. cond test (behind_begun (one_passed call.thread left) rest) (call ∷ behind_begun left rest)) test

  -- one more is passed
  pub one_dropped : 0 < get_or left call.thread 0 → take kept calls ++ behind_begun left (drop i calls) ≡ take kept calls ++ behind_begun (one_passed call.thread left) rest
  one_dropped some = ap (λ behind. take kept calls ++ behind) (at_call true (lt-ltb 0 (get_or left call.thread 0) some))

  -- or it is kept, and stands behind those that were
  pub one_kept : (new : List TracedCall) → kept ≤ i → ltb 0 (get_or left call.thread 0) ≡ false → SwappedAt calls new kept i → take kept calls ++ behind_begun left (drop i calls) ≡ take (kept + 1) new ++ behind_begun left (drop (i + 1) new)
  one_kept new few none swapped =
      ap (λ behind. take kept calls ++ behind) (at_call false none)
      ∙ sym (append_assoc (take kept calls) (call ∷ []) (behind_begun left rest))
      ∙ ap (λ call. (take kept calls ++ call ∷ []) ++ behind_begun left rest) read
      ∙ ap (λ front. front ++ behind_begun left rest) (sym (swapped_front calls new kept i call few inside swapped))
      ∙ ap (λ rest. take (kept + 1) new ++ behind_begun left rest) (sym (swapped_rest calls new kept i call few swapped))

-- some elements of a list, in their order
abbrev pub IsPart : {X : Type 0} → (some all : List X) → Type 0
IsPart some [] = some ≡ []
IsPart some (x ∷ all) = IsPart some all ⊎ ((rest : List _) × (some ≡ x ∷ rest) × IsPart rest all)

part_on : {X : Type 0} (is : Bool) (x : X) (dropped kept all : List X) → IsPart dropped all → IsPart kept all → IsPart (cond is dropped (x ∷ kept)) (x ∷ all)
part_on true x dropped kept all one two = inl one
part_on false x dropped kept all one two = inr (kept, refl, two)

pub behind_is_part : (counts : List ℕ) (calls : List TracedCall) → IsPart (behind_begun counts calls) calls
behind_is_part counts [] = refl
behind_is_part counts (call ∷ calls) =
    part_on (ltb 0 (get_or counts call.thread 0)) call _ _ calls (behind_is_part (one_passed call.thread counts) calls) (behind_is_part counts calls)

pub All-part : {X : Type 0} (P : X → Type 0) (some all : List X) → IsPart some all → All P all → All P some
All-part P some [] is each = subst (All P) (sym is) (All-nil P)
All-part P some (x ∷ all) (inl is) each = All-part P some all is (All-tail P x all each)
All-part P some (x ∷ all) (inr is) each = subst (All P) (sym is.1) (All-cons P x is.0 (All-head P x all each) (All-part P is.0 all is.2 (All-tail P x all each)))

pub length-part : {X : Type 0} (some all : List X) → IsPart some all → length some ≤ length all
length-part some [] is = omega (arith, ap length is)
length-part some (x ∷ all) (inl is) = omega (arith, length-part some all is)
length-part some (x ∷ all) (inr is) = omega (arith, ap length is.1, length-part is.0 all is.2)

pub map-part : {X Y : Type 0} (f : X → Y) (some all : List X) → IsPart some all → IsPart (map f some) (map f all)
map-part f some [] is = ap (map f) is
map-part f some (x ∷ all) (inl is) = inl (map-part f some all is)
map-part f some (x ∷ all) (inr is) = inr (map f is.0, ap (map f) is.1, map-part f is.0 all is.2)

-- numbers that don't fall
nondecreasing_tail : {X : Type 0} (f : X → ℕ) (x : X) (xs : List X) → IsNonDecreasingBy f (x ∷ xs) → IsNonDecreasingBy f xs
nondecreasing_tail f x xs up i j d before inside = up (suc i) (suc j) d (omega arith) (omega arith)

nondecreasing_cons : {X : Type 0} (f : X → ℕ) (x : X) (xs : List X) → All (λ y. f x ≤ f y) xs → IsNonDecreasingBy f xs → IsNonDecreasingBy f (x ∷ xs)
nondecreasing_cons f x xs above up zero zero d before inside = omega arith
nondecreasing_cons f x xs above up zero (suc j) d before inside = above j d (omega arith)
nondecreasing_cons f x xs above up (suc i) zero d before inside = absurd (omega arith)
nondecreasing_cons f x xs above up (suc i) (suc j) d before inside = up i j d (omega arith) (omega arith)

pub IsNonDecreasingBy-part : {X : Type 0} (f : X → ℕ) (some all : List X) → IsPart some all → IsNonDecreasingBy f all → IsNonDecreasingBy f some
IsNonDecreasingBy-part f some [] is up = subst (IsNonDecreasingBy f) (sym is) up
IsNonDecreasingBy-part f some (x ∷ all) (inl is) up = IsNonDecreasingBy-part f some all is (nondecreasing_tail f x all up)
IsNonDecreasingBy-part f some (x ∷ all) (inr is) up =
    subst (IsNonDecreasingBy f) (sym is.1) (nondecreasing_cons f x is.0 (All-part (λ y. f x ≤ f y) is.0 all is.2 (λ k d inside. up zero (suc k) d (omega arith) (omega arith)))
    (IsNonDecreasingBy-part f is.0 all is.2 (nondecreasing_tail f x all up)))

-- numbers that rise
next_but_one : (x : ℕ) (xs : List ℕ) (k : ℕ) → get_or (x ∷ xs) (suc k + 1) 0 ≡ get_or xs (k + 1) 0
next_but_one x xs k = let same : suc k + 1 ≡ suc (k + 1) = omega arith in ap (λ n. get_or (x ∷ xs) n 0) same

rising_tail : (x : ℕ) (xs : List ℕ) → IsStrictlyIncreasing (x ∷ xs) → IsStrictlyIncreasing xs
rising_tail x xs up k inside = omega (arith, next_but_one x xs k, up (suc k) (omega arith))

rising_above : (x : ℕ) (xs : List ℕ) → IsStrictlyIncreasing (x ∷ xs) → All (λ y. x < y) xs
rising_above x [] up = All-nil (λ y. x < y)
rising_above x (y ∷ ys) up = let first : x < y = up 0 (omega arith) in
    All-cons (λ y. x < y) y ys first (All-weaker (λ z. y < z) (λ z. x < z) (λ z more. omega arith) ys (rising_above y ys (rising_tail x (y ∷ ys) up)))

rising_cons : (x : ℕ) (xs : List ℕ) → All (λ y. x < y) xs → IsStrictlyIncreasing xs → IsStrictlyIncreasing (x ∷ xs)
rising_cons x xs above up zero inside = above zero 0 (omega arith)
rising_cons x xs above up (suc k) inside = omega (arith, next_but_one x xs k, up k (omega arith))

pub IsStrictlyIncreasing-part : (some all : List ℕ) → IsPart some all → IsStrictlyIncreasing all → IsStrictlyIncreasing some
IsStrictlyIncreasing-part some [] is up = subst IsStrictlyIncreasing (sym is) up
IsStrictlyIncreasing-part some (x ∷ all) (inl is) up = IsStrictlyIncreasing-part some all is (rising_tail x all up)
IsStrictlyIncreasing-part some (x ∷ all) (inr is) up =
    subst IsStrictlyIncreasing (sym is.1) (rising_cons x is.0 (All-part (λ y. x < y) is.0 all is.2 (rising_above x all up)) (IsStrictlyIncreasing-part is.0 all is.2 (rising_tail x all up)))

module _ (trace : Traced) (counts : List ℕ) where
  pub lines_behind : IsStrictlyIncreasing (lines_in trace) → IsStrictlyIncreasing (lines_in (record trace { calls = behind_begun counts trace.calls }))
  lines_behind = IsStrictlyIncreasing-part _ _ (map-part (λ (call : TracedCall). call.line) _ trace.calls (behind_is_part counts trace.calls))

  pub formed_behind : IsWellFormed trace → IsWellFormed (record trace { calls = behind_begun counts trace.calls })
  formed_behind is =
      let part = behind_is_part counts trace.calls in
      record {
        names = is.names;
        allowed = is.allowed;
        distinct = is.distinct;
        descriptors = is.descriptors;
        files = is.files;
        calls = All-part (λ (call : TracedCall). IsCallWithin (length trace.descriptors) call.call) _ trace.calls part is.calls;
        threads = All-part (λ (call : TracedCall). call.thread ≤ last_thread) _ trace.calls part is.threads;
        rounds = All-part (λ (call : TracedCall). call.round ≤ trace.rounds) _ trace.calls part is.rounds;
        round_order = IsNonDecreasingBy-part (λ (call : TracedCall). call.round) _ trace.calls part is.round_order;
        no_rounds = is.no_rounds;
        tokens = is.tokens;
        no_tokens = is.no_tokens;
        lives = is.lives;
        no_lives = is.no_lives;
      }

counted_within : (counts : List ℕ) (thread : ℕ) → 0 < get_or counts thread 0 → thread < length counts
counted_within counts thread some = elim (cases_lt thread (length counts)) [
  | inl inside ↦ inside
  | inr past ↦ absurd (omega (arith, get_or_past counts thread 0 past))
]

-- each thread's calls but the first
module _ (thread : ℕ) where
  abbrev pub its : List TracedCall → List TracedCall
  its calls = filter (λ (call : TracedCall). eqb call.thread thread) calls

  dropped_one : (own : Bool) (counts : List ℕ) (call : TracedCall) (calls : List TracedCall) → eqb call.thread thread ≡ own → 0 < get_or counts call.thread 0
      → drop (get_or (one_passed call.thread counts) thread 0) (its calls) ≡ drop (get_or counts thread 0) (cond own (call ∷ its calls) (its calls))
  dropped_one true counts call calls is some =
      let same : call.thread ≡ thread = eqb-true call.thread thread is in
      let n = get_or counts thread 0 in
      let whole : get_or counts call.thread 0 ≡ n = ap (λ t. get_or counts t 0) same in
      let more : n ≡ suc (n - 1) = omega (arith, whole) in
      let less : get_or (one_passed call.thread counts) thread 0 ≡ n - 1 =
      ap (λ t. get_or (one_passed call.thread counts) t 0) (sym same) ∙ get_or-set_same counts call.thread (get_or counts call.thread 0 - 1) 0 (counted_within counts call.thread some) ∙ ap (λ n. n - 1) whole in
      ap (λ n. drop n (its calls)) less ∙ ap (λ n. drop n (call ∷ its calls)) (sym more)
  dropped_one false counts call calls is some =
      ap (λ n. drop n (its calls)) (get_or-set_other counts call.thread thread (get_or counts call.thread 0 - 1) 0 (λ same. eqb-false call.thread thread is (sym same)))

  kept_one : (own : Bool) (counts : List ℕ) (call : TracedCall) (calls behind : List TracedCall) → eqb call.thread thread ≡ own → get_or counts call.thread 0 ≡ 0
      → behind ≡ drop (get_or counts thread 0) (its calls) → cond own (call ∷ behind) behind ≡ drop (get_or counts thread 0) (cond own (call ∷ its calls) (its calls))
  kept_one true counts call calls behind is none same =
      let none_so : get_or counts thread 0 ≡ 0 = ap (λ t. get_or counts t 0) (sym (eqb-true call.thread thread is)) ∙ none in
      ap (λ behind. call ∷ behind) (same ∙ ap (λ n. drop n (its calls)) none_so) ∙ ap (λ n. drop n (call ∷ its calls)) (sym none_so)
  kept_one false counts call calls behind is none same = same

  pub each_behind : (counts : List ℕ) (calls : List TracedCall) → its (behind_begun counts calls) ≡ drop (get_or counts thread 0) (its calls)
  each_behind counts [] = sym (drop_all (get_or counts thread 0) [] (omega arith))
  each_behind counts (call ∷ calls) =
      go (ltb 0 (get_or counts call.thread 0)) refl (each_behind (one_passed call.thread counts) calls) (each_behind counts calls)
    where
      go : (test : Bool) → ltb 0 (get_or counts call.thread 0) ≡ test
          → its (behind_begun (one_passed call.thread counts) calls) ≡ drop (get_or (one_passed call.thread counts) thread 0) (its calls)
          → its (behind_begun counts calls) ≡ drop (get_or counts thread 0) (its calls)
          → its (cond test (behind_begun (one_passed call.thread counts) calls) (call ∷ behind_begun counts calls)) ≡ drop (get_or counts thread 0) (its (call ∷ calls))
      go true some passed kept = passed ∙ dropped_one (eqb call.thread thread) counts call calls refl (ltb-true 0 _ some)
      go false none passed kept = kept_one (eqb call.thread thread) counts call calls (its (behind_begun counts calls)) refl (let few = ltb-false 0 _ none in omega arith) kept

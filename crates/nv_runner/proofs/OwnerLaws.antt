-- Owners: the shares of threads.
use Rattle.std.proofs.Common.{◌≡◌, ℕ, suc, ◌+◌, List, [], ◌∷◌, ◌++◌, length, sym, ap, subst, ◌∙◌, arith, append_assoc, append-nil, cond, eq-eqb}
use Rattle.std.specs.Prelude.{IsPermutation, Option}
use Rattle.std.specs.List.{flat_map}
use Rattle.std.proofs.lemmas.List.Concat.{flat_map-append}
use Rattle.std.proofs.lemmas.List.Sorted.{IsPermutation-append_comm, IsPermutation-append_right, IsPermutation-trans}
use Rattle.nv_trace.specs.declared.trace_call.TracedCall.{TracedCall}
use Rattle.nv_runner.specs.Lists.{MadeCall}
use Rattle.nv_runner.specs.Owners.{IsAtOwn, AreShares, if_owner}
use Rattle.nv_runner.specs.Shifts.{calls_of_thread}

-- one more share, behind the others
pub shares_push : (calls : List TracedCall) (thread : ℕ) (shares : List (List TracedCall)) (share : List TracedCall) → AreShares calls thread shares → share ≡ calls_of_thread (thread + length shares) calls
    → AreShares calls thread (shares ++ share ∷ [])
shares_push calls thread [] share are is = (let none : thread + 0 ≡ thread = omega arith in is ∙ ap (λ n. calls_of_thread n calls) none, tt)
shares_push calls thread (first ∷ later) share are is =
    (are.0, shares_push calls (thread + 1) later share are.1 (let next : thread + suc (length later) ≡ thread + 1 + length later = omega arith in is ∙ ap (λ n. calls_of_thread n calls) next))

-- ---- what owners have made, one of them more

-- an owner that comes back brings what it has made
pub owner_back : {C W : Type 0} (made_by : C → List MadeCall) (made_of : W → List MadeCall) (owners owners_now : List C) (owner : Option C) (front before : List W) (w : W) (all : List MadeCall)
    → before ≡ front ++ w ∷ [] → made_of w ≡ if_owner made_by owner → flat_map made_by owners_now ≡ flat_map made_by owners ++ if_owner made_by owner
    → IsPermutation (flat_map made_by owners ++ flat_map made_of before) all → IsPermutation (flat_map made_by owners_now ++ flat_map made_of front) all
owner_back made_by made_of owners owners_now owner front before w all is its back so_far =
    let there = flat_map made_by owners in
    let one = if_owner made_by owner in
    let rest = flat_map made_of front in
    let split : flat_map made_of before ≡ rest ++ one =
    ap (flat_map made_of) is ∙ flat_map-append made_of front (w ∷ []) ∙ ap (λ l. rest ++ l) (append-nil (made_of w) ∙ its) in
    IsPermutation-trans (flat_map made_by owners_now ++ rest) (there ++ (rest ++ one)) all
    (subst (λ l. IsPermutation (l ++ rest) (there ++ (rest ++ one))) (sym back)
    (subst (λ l. IsPermutation l (there ++ (rest ++ one))) (sym (append_assoc there one rest))
    (IsPermutation-append_right there (one ++ rest) (rest ++ one) (IsPermutation-append_comm one rest))))
    (subst (λ l. IsPermutation (there ++ l) all) split so_far)

-- ---- a list

-- the calls of a thread among some that begin with one of its own
pub own_first : (thread : ℕ) (calls : List TracedCall) (call : TracedCall) (later : List TracedCall) → IsAtOwn thread calls → calls ≡ call ∷ later → calls_of_thread thread calls ≡ call ∷ calls_of_thread thread later
own_first thread calls call later own is =
    ap (calls_of_thread thread) is ∙ ap (λ b. cond b (call ∷ calls_of_thread thread later) (calls_of_thread thread later)) (eq-eqb call.thread thread (subst (IsAtOwn thread) is own))

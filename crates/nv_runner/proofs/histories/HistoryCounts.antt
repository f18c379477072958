-- Counts: how many calls of a history are a pass's own, and at which places.
use Rattle.std.proofs.Common.{◌≡◌, ℕ, zero, suc, ◌+◌, ◌<◌, ◌≤◌, Bool, true, false, cond, eqb, List, [], ◌∷◌, ◌++◌, length, get_or, inl, inr, refl, sym, ap, ◌∙◌, arith}
use Rattle.std.proofs.lemmas.Bool.{cases_eq}
use Rattle.std.proofs.lemmas.List.{length-append}
use Rattle.std.proofs.lemmas.List.Elements.{filter-append}
use Rattle.nv_plain.specs.Histories.{Answered}
use Rattle.nv_core.specs.invariant.OneHistory.{calls_by}
use Rattle.nv_mount.specs.declared.fds.Fd.{Fd}
use Rattle.nv_runner.specs.Lists.{StandsBehind, as_placed}
use Rattle.nv_runner.specs.Histories.{PlacedCall}
use Rattle.nv_runner.proofs.histories.HistorySums.{added, if_same, same_counts, other_counts}
use Rattle.nv_runner.proofs.histories.HistoryRows.{AreRow}

-- ---- how many

-- how many calls of a history are a pass's own
abbrev pub own_count : (number : ℕ) → List Answered → ℕ
own_count number history = length (calls_by number history)

own_append : (number : ℕ) (xs ys : List Answered) → own_count number (xs ++ ys) ≡ own_count number xs + own_count number ys
own_append number xs ys = ap length (filter-append (λ (answered : Answered). eqb answered.caller number) xs ys) ∙ length-append (calls_by number xs) (calls_by number ys)

one_kept : (test : Bool) (first : Answered) (later : List Answered) → length (cond test (first ∷ later) later) ≡ cond test 1 0 + length later
one_kept true first later = omega arith
one_kept false first later = omega arith

own_more : (number : ℕ) (first : Answered) (later : List Answered) → own_count number (first ∷ later) ≡ if_same first.caller number + own_count number later
own_more number first later = one_kept (eqb first.caller number) first (calls_by number later)

-- one more placed call of a pass, with some calls between
own_upto : (fds : List Fd) (number : ℕ) (seen upto : List Answered) (p : PlacedCall) (is : StandsBehind fds number seen p.call.call p.place p.reply upto)
    → own_count number upto ≡ own_count number seen + own_count number is.between + 1
own_upto fds number seen upto p is =
    let entry : Answered = as_placed number p.call.call is.file p.reply in
    let same = ap (own_count number) is.upto_is in
    let whole = own_append number (seen ++ is.between) (entry ∷ []) in
    let parts = own_append number seen is.between in
    let one = own_more number entry [] in
    let here = same_counts number number refl in
    omega arith

-- A history has as many calls of a pass as stand there.
own_few : (fds : List Fd) (number : ℕ) (seen : List Answered) (row : List PlacedCall) (history : List Answered) → AreRow fds number seen row history
    → own_count number seen + length row ≤ own_count number history
own_few fds number seen [] history are = let whole = ap (own_count number) are.1 in let parts = own_append number seen are.0 in omega arith
own_few fds number seen (p ∷ later) history are =
    let few = own_few fds number are.0 later history are.2 in
    let more = own_upto fds number seen are.0 p are.1 in
    omega arith

-- ---- at which places

-- 1 at the places of a pass's own calls, and else 0
abbrev pub hits : (number : ℕ) → List Answered → (place : ℕ) → ℕ
hits number [] place = 0
hits number (first ∷ later) zero = if_same first.caller number
hits number (first ∷ later) (suc place) = hits number later place

pub hits_at : (number : ℕ) (history : List Answered) (place : ℕ) (d : Answered) → place < length history → hits number history place ≡ if_same (get_or history place d).caller number
hits_at number [] place d within = absurd (omega arith)
hits_at number (first ∷ later) zero d within = refl
hits_at number (first ∷ later) (suc place) d within = hits_at number later place d (omega arith)

pub hits_past : (number : ℕ) (history : List Answered) (place : ℕ) → length history ≤ place → hits number history place ≡ 0
hits_past number [] place past = refl
hits_past number (first ∷ later) zero past = absurd (omega arith)
hits_past number (first ∷ later) (suc place) past = hits_past number later place (omega arith)

pub hits_none : (number : ℕ) (history : List Answered) (place : ℕ) → own_count number history ≡ 0 → hits number history place ≡ 0
hits_none number [] place none = refl
hits_none number (first ∷ later) zero none = let more = own_more number first later in omega arith
hits_none number (first ∷ later) (suc place) none = let more = own_more number first later in hits_none number later place (omega arith)

hits_between : (number : ℕ) (xs ys : List Answered) (place : ℕ) → own_count number ys ≡ 0 → hits number (xs ++ ys) place ≡ hits number xs place
hits_between number [] ys place none = hits_none number ys place none
hits_between number (first ∷ later) ys zero none = refl
hits_between number (first ∷ later) ys (suc place) none = hits_between number later ys place none

same_next : (a b : ℕ) → if_same (suc a) (suc b) ≡ if_same a b
same_next a b = elim (cases_eq a b) [
  | inl is ↦ same_counts (suc a) (suc b) (ap (λ n. suc n) is) ∙ sym (same_counts a b is)
  | inr ne ↦ other_counts (suc a) (suc b) (λ is. ne (omega arith)) ∙ sym (other_counts a b ne)
]

hits_entry : (number : ℕ) (xs : List Answered) (entry : Answered) (place : ℕ) → entry.caller ≡ number → hits number (xs ++ entry ∷ []) place ≡ hits number xs place + if_same (length xs) place
hits_entry number [] entry zero own = let here = same_counts entry.caller number own in let there = same_counts 0 0 refl in omega arith
hits_entry number [] entry (suc place) own = let there = other_counts 0 (suc place) (λ is. omega arith) in omega arith
hits_entry number (first ∷ later) entry zero own = let there = other_counts (suc (length later)) 0 (λ is. omega arith) in omega arith
hits_entry number (first ∷ later) entry (suc place) own =
    let rest = hits_entry number later entry place own in
    let there = same_next (length later) place in
    omega arith

-- Where a pass has no other calls in a history, those that stand there are at the places of its own, and at no other.
pub row_hits : (fds : List Fd) (number : ℕ) (seen : List Answered) (row : List PlacedCall) (history : List Answered) → AreRow fds number seen row history
    → own_count number history ≡ own_count number seen + length row
    → (place : ℕ) → added (λ p. if_same p.place place) row + hits number seen place ≡ hits number history place
row_hits fds number seen [] history are all place =
    let whole = ap (own_count number) are.1 in
    let parts = own_append number seen are.0 in
    let none : own_count number are.0 ≡ 0 = omega arith in
    let same : hits number history place ≡ hits number seen place =
    ap (λ (l : List Answered). hits number l place) are.1 ∙ hits_between number seen are.0 place none in
    omega arith
row_hits fds number seen (p ∷ later) history are all place =
    let is = are.1 in
    let entry : Answered = as_placed number p.call.call is.file p.reply in
    let few = own_few fds number are.0 later history are.2 in
    let more = own_upto fds number seen are.0 p is in
    let none : own_count number is.between ≡ 0 = omega arith in
    let upto : hits number are.0 place ≡ hits number seen place + if_same p.place place =
    ap (λ (l : List Answered). hits number l place) is.upto_is
    ∙ hits_entry number (seen ++ is.between) entry place refl
    ∙ ap (λ n. n + if_same (length (seen ++ is.between)) place) (hits_between number seen is.between place none)
    ∙ ap (λ n. hits number seen place + if_same n place) (sym is.at) in
    let rest = row_hits fds number are.0 later history are.2 (omega arith) place in
    omega arith

-- the same, where nothing is said of those before
pub own_hits : (fds : List Fd) (number : ℕ) (seen : List Answered) (row : List PlacedCall) (history : List Answered) → AreRow fds number seen row history
    → own_count number history ≡ length row → (place : ℕ) → added (λ p. if_same p.place place) row ≡ hits number history place
own_hits fds number seen row history are all place =
    let few = own_few fds number seen row history are in
    let none : own_count number seen ≡ 0 = omega arith in
    let before = hits_none number seen place none in
    let rest = row_hits fds number seen row history are (omega arith) place in
    omega arith

-- The calls of rounds, parted by what they were answered, and what is kept of them.
use Rattle.std.proofs.Common.{◌≡◌, ℕ, ◌+◌, ◌^◌, ◌<◌, ◌≤◌, List, [], ◌∷◌, ◌++◌, length, map, inl, inr, refl, sym, ap, subst, ◌∙◌, arith, length-append}
use Rattle.std.specs.Prelude.{All, IsPermutation, Option, Some, None}
use Rattle.std.specs.Global.{Global, Vec}
use Rattle.std.specs.List.{flat_map}
use Rattle.std.specs.List.Sorted.{IsNonDecreasingBy}
use Rattle.std.proofs.lemmas.List.{length-map}
use Rattle.std.proofs.lemmas.List.Concat.{flat_map-append}
use Rattle.std.proofs.lemmas.List.Sorted.{IsPermutation-append, IsPermutation-append_comm, IsPermutation-sym, IsPermutation-trans, length_permutation}
use denote.RawPtr.{null_ptr}
use Rattle.nv_core.specs.state.Passes.{IsOneOf}
use Rattle.nv_trace.specs.declared.report.Refusal.{Refusal}
use Rattle.nv_trace.specs.declared.trace_call.TracedCall.{TracedCall}
use Rattle.nv_runner.specs.declared.answer.Answer.{Answer}
use Rattle.nv_runner.specs.declared.answer.Answer.TheVariants as answers
use Rattle.nv_runner.specs.declared.sorted.Open.{Open}
use Rattle.nv_runner.specs.declared.sorted.Placed.{Placed}
use Rattle.nv_runner.specs.declared.sorted.Refused.{Refused}
use Rattle.nv_runner.specs.declared.sorted.SortedCalls.{SortedCalls}
use Rattle.nv_runner.specs.FaithfulRuns.{shown_as, shown_refusal, shown_refusals}
use Rattle.nv_runner.specs.Histories.{PlacedCall, placed_calls, placed_in_answer}
use Rattle.nv_runner.specs.Lists.{MadeCall}
use Rattle.nv_runner.specs.Sorted.{AreSortedOut, OpenedCall, RefusedCall, opened_call, opened_calls, opened_in_answer, opened_made, placed_call, placed_made, refused_call, refused_calls, refused_in_answer, refused_made}
use Rattle.nv_runner.specs.StreamRounds.{ArePartedAs, StandInTurn}
use Rattle.nv_runner.proofs.histories.HistoryMembers.{of_each, of_one, one_moved, one_of_joined}
use Rattle.nv_runner.proofs.LifeLaws.{opened_among, placed_among}
use Rattle.nv_runner.proofs.SortedLaws.{listed}
use Rattle.nv_runner.proofs.streams.StreamLists.{falls_not_joined, turn_by_place, turn_joined}

-- ---- parts

pub refused_among : (call : TracedCall) (answer : Answer) (r : RefusedCall) → IsOneOf (refused_in_answer call answer) r → r.call ≡ call
refused_among call (answers.Placed place reply) r one = absurd one
refused_among call (answers.Refused refusal) r (inl is) = ap (λ (r : RefusedCall). r.call) is
refused_among call (answers.Refused refusal) r (inr none) = absurd none
refused_among call (answers.Open number) r one = absurd one

-- what holds of each call holds of each that a part lists
of_part : {X : Type 0} (f : MadeCall → List X) (call_of : X → TracedCall) (same : (m : MadeCall) (x : X) → IsOneOf (f m) x → call_of x ≡ m.call) (P : TracedCall → Type 0) (made : List MadeCall) (xs : List X)
    → All (λ m. P m.call) made → IsPermutation (flat_map f made) xs → All (λ x. P (call_of x)) xs
of_part f call_of same P made xs all moved =
    of_each (λ x. P (call_of x)) xs (λ x one.
    let from = one_of_joined f made x (one_moved xs (flat_map f made) x (IsPermutation-sym (flat_map f made) xs moved) one) in
    subst P (sym (same from.0 x from.2)) (of_one (λ (m : MadeCall). P m.call) made from.0 all from.1))

-- those of a round come behind those of the rounds before it
part_joined : {X : Type 0} (f : MadeCall → List X) (earlier later : List MadeCall) (xs ys : List X) → IsPermutation (flat_map f earlier) xs → IsPermutation (flat_map f later) ys → IsPermutation (flat_map f (later ++ earlier)) (xs ++ ys)
part_joined f earlier later xs ys first second =
    subst (λ l. IsPermutation l (xs ++ ys)) (sym (flat_map-append f later earlier))
    (IsPermutation-trans (flat_map f later ++ flat_map f earlier) (ys ++ xs) (xs ++ ys) (IsPermutation-append (flat_map f later) ys (flat_map f earlier) xs second first) (IsPermutation-append_comm ys xs))

abbrev placed_in : MadeCall → List PlacedCall
placed_in m = placed_in_answer m.call m.answer

abbrev refused_in : MadeCall → List RefusedCall
refused_in m = refused_in_answer m.call m.answer

abbrev opened_in : MadeCall → List OpenedCall
opened_in m = opened_in_answer m.call m.answer

lower : {X : Type 0} (key : X → ℕ) (n : ℕ) (xs : List X) → All (λ x. key x < n) xs → All (λ x. key x ≤ n) xs
lower key n xs low k d within = (let below = low k d within in omega (arith, below))

module _ (round from : ℕ) (earlier later : List MadeCall) (before : All (λ m. m.call.round < round) earlier) (here : All (λ m. m.call.round ≡ round) later) (low : All (λ m. m.call.line < from) earlier) (high : All (λ m. from ≤ m.call.line) later) where
  pub placed_joined : (xs ys : List PlacedCall) → IsPermutation (placed_calls earlier) xs → StandInTurn xs → IsPermutation (placed_calls later) ys → StandInTurn ys
      → IsPermutation (placed_calls (later ++ earlier)) (xs ++ ys) × StandInTurn (xs ++ ys)
  placed_joined xs ys first turn second other = (
    part_joined placed_in earlier later xs ys first second,
    turn_joined round xs ys turn other (of_part placed_in (λ (p : PlacedCall). p.call) (λ m p one. placed_among m.call m.answer p one) (λ call. call.round < round) earlier xs before first)
        (of_part placed_in (λ (p : PlacedCall). p.call) (λ m p one. placed_among m.call m.answer p one) (λ call. call.round ≡ round) later ys here second),
  )

  -- the parts of both
  pub parts_joined : (p1 p2 : List PlacedCall) (r1 r2 : List RefusedCall) (o1 o2 : List OpenedCall) → ArePartedAs earlier p1 r1 o1 → ArePartedAs later p2 r2 o2 → ArePartedAs (later ++ earlier) (p1 ++ p2) (r1 ++ r2) (o1 ++ o2)
  parts_joined p1 p2 r1 r2 o1 o2 first second =
      let placed = placed_joined p1 p2 first.placed_are first.in_turn second.placed_are second.in_turn in
      let refused : (m : MadeCall) (r : RefusedCall) → IsOneOf (refused_in m) r → r.call ≡ m.call = λ m r one. refused_among m.call m.answer r one in
      let opened : (m : MadeCall) (o : OpenedCall) → IsOneOf (opened_in m) o → o.call ≡ m.call = λ m o one. opened_among m.call m.answer o one in
      record {
        placed_are = placed.0;
        in_turn = placed.1;
        refused_are = part_joined refused_in earlier later r1 r2 first.refused_are second.refused_are;
        by_line =
            falls_not_joined (λ (r : RefusedCall). r.call.line) from r1 r2 first.by_line second.by_line
            (lower (λ (r : RefusedCall). r.call.line) from r1 (of_part refused_in (λ (r : RefusedCall). r.call) refused (λ call. call.line < from) earlier r1 low first.refused_are))
            (of_part refused_in (λ (r : RefusedCall). r.call) refused (λ call. from ≤ call.line) later r2 high second.refused_are);
        opened_are = part_joined opened_in earlier later o1 o2 first.opened_are second.opened_are;
        open_by_line =
            falls_not_joined (λ (o : OpenedCall). o.call.line) from o1 o2 first.open_by_line second.open_by_line
            (lower (λ (o : OpenedCall). o.call.line) from o1 (of_part opened_in (λ (o : OpenedCall). o.call) opened (λ call. call.line < from) earlier o1 low first.opened_are))
            (of_part opened_in (λ (o : OpenedCall). o.call) opened (λ call. from ≤ call.line) later o2 high second.opened_are);
      }

-- those of one round, which were sorted out
pub parted_so : (made : List MadeCall) (sorted : SortedCalls) → AreSortedOut made sorted → ArePartedAs made (map placed_call sorted.placed.items) (map refused_call sorted.refused.items) (map opened_call sorted.open_calls.items)
parted_so made sorted out = record {
  placed_are = out.placed;
  in_turn = turn_by_place (map placed_call sorted.placed.items) out.by_place;
  refused_are = out.refused;
  by_line = out.by_line;
  opened_are = out.left_open;
  open_by_line = out.open_by_line;
}

-- ---- how many

parted_long : (made : List MadeCall) (placed : List PlacedCall) (refused : List RefusedCall) (opened : List OpenedCall) → IsPermutation (placed_calls made) placed → IsPermutation (refused_calls made) refused → IsPermutation (opened_calls made) opened
    → length made ≡ length placed + length refused + length opened
parted_long made placed refused opened ones others left =
    let all = map placed_made placed ++ map refused_made refused in
    let long = length_permutation made (all ++ map opened_made opened) (listed made placed refused opened ones others left) in
    let two = length-append all (map opened_made opened) in
    let one = length-append (map placed_made placed) (map refused_made refused) in
    let of_placed = length-map placed placed_made in
    let of_refused = length-map refused refused_made in
    let of_opened = length-map opened opened_made in
    omega (arith, long, two, one, of_placed, of_refused, of_opened)

pub parts_few : (made : List MadeCall) (placed : List PlacedCall) (refused : List RefusedCall) (opened : List OpenedCall) → ArePartedAs made placed refused opened → (length placed ≤ length made) × (length refused ≤ length made) × (length opened ≤ length made)
parts_few made placed refused opened parted =
    let long = parted_long made placed refused opened parted.placed_are parted.refused_are parted.opened_are in
    (omega (arith, long), omega (arith, long), omega (arith, long))

one_shown : (call : TracedCall) (shown : Option Refusal) → length (shown_as call shown) ≤ 1
one_shown call None = omega arith
one_shown call (Some refusal) = omega arith

-- not each refusal need be shown
pub few_shown : (refused : List RefusedCall) → length (shown_refusals refused) ≤ length refused
few_shown [] = omega arith
few_shown (r ∷ refused) =
    let one = one_shown r.call (shown_refusal r.refusal) in
    let rest = few_shown refused in
    let both = length-append (shown_as r.call (shown_refusal r.refusal)) (shown_refusals refused) in
    omega (arith, one, rest, both)

-- ---- as a sort would list them

-- a list that nobody keeps
abbrev listed_by : {X : Type 0} → Global → (items : List X) → length items < 2 ^ 63 → Vec X
listed_by alloc items few = record { ptr = null_ptr; len = length items; cap = length items; alloc = alloc; items = items; ok = (refl, omega arith); small = few }

abbrev as_placed : PlacedCall → Placed
as_placed p = record { place = p.place; call = record { ref_ptr = (0, 0); now = p.call }; reply = p.reply }

abbrev as_refused : RefusedCall → Refused
as_refused r = record { call = record { ref_ptr = (0, 0); now = r.call }; refusal = r.refusal }

abbrev as_open : OpenedCall → Open
as_open o = record { call = record { ref_ptr = (0, 0); now = o.call }; number = o.number }

there_and_back : {X Y : Type 0} (f : X → Y) (back : Y → X) → ((x : X) → back (f x) ≡ x) → (xs : List X) → map back (map f xs) ≡ xs
there_and_back f back same [] = refl
there_and_back f back same (x ∷ xs) = ap (λ y. y ∷ map back (map f xs)) (same x) ∙ ap (λ l. x ∷ l) (there_and_back f back same xs)

-- Calls that were made are sorted out to these, though nobody lists them.
pub record Sorting (made : List MadeCall) (placed : List PlacedCall) (refused : List RefusedCall) (opened : List OpenedCall) : Type 0 where
  pub sorted : SortedCalls
  pub out : AreSortedOut made sorted
  pub placed_are : map placed_call sorted.placed.items ≡ placed
  pub refused_are : map refused_call sorted.refused.items ≡ refused
  pub opened_are : map opened_call sorted.open_calls.items ≡ opened

pub sorted_so : Global → (made : List MadeCall) (placed : List PlacedCall) (refused : List RefusedCall) (opened : List OpenedCall) → length made < 2 ^ 63 → IsPermutation (placed_calls made) placed → IsNonDecreasingBy (λ p. p.place) placed
    → IsPermutation (refused_calls made) refused → IsNonDecreasingBy (λ r. r.call.line) refused → IsPermutation (opened_calls made) opened → IsNonDecreasingBy (λ o. o.call.line) opened → Sorting made placed refused opened
sorted_so alloc made placed refused opened few ones by_place others by_line left open_by_line =
    let long = parted_long made placed refused opened ones others left in
    let back_placed : map placed_call (map as_placed placed) ≡ placed = there_and_back as_placed placed_call (λ p. refl) placed in
    let back_refused : map refused_call (map as_refused refused) ≡ refused = there_and_back as_refused refused_call (λ r. refl) refused in
    let back_opened : map opened_call (map as_open opened) ≡ opened = there_and_back as_open opened_call (λ o. refl) opened in
    let sorted : SortedCalls = record {
      placed = listed_by alloc (map as_placed placed) (let many = length-map placed as_placed in omega (arith, few, long, many));
      refused = listed_by alloc (map as_refused refused) (let many = length-map refused as_refused in omega (arith, few, long, many));
      open_calls = listed_by alloc (map as_open opened) (let many = length-map opened as_open in omega (arith, few, long, many));
    } in
    record {
      sorted = sorted;
      out = record {
        placed = subst (IsPermutation (placed_calls made)) (sym back_placed) ones;
        by_place = subst (IsNonDecreasingBy (λ (p : PlacedCall). p.place)) (sym back_placed) by_place;
        refused = subst (IsPermutation (refused_calls made)) (sym back_refused) others;
        by_line = subst (IsNonDecreasingBy (λ (r : RefusedCall). r.call.line)) (sym back_refused) by_line;
        left_open = subst (IsPermutation (opened_calls made)) (sym back_opened) left;
        open_by_line = subst (IsNonDecreasingBy (λ (o : OpenedCall). o.call.line)) (sym back_opened) open_by_line;
        listed =
            listed made (map placed_call (map as_placed placed)) (map refused_call (map as_refused refused)) (map opened_call (map as_open opened)) (subst (IsPermutation (placed_calls made)) (sym back_placed) ones)
            (subst (IsPermutation (refused_calls made)) (sym back_refused) others) (subst (IsPermutation (opened_calls made)) (sym back_opened) left);
      };
      placed_are = back_placed;
      refused_are = back_refused;
      opened_are = back_opened;
    }

-- Laws about calls: lists of calls joined, those of one step and of a line, those on one part of a row, and which steps they made.
use Rattle.std.proofs.Common.{◌≡◌, ◌⊎◌, inl, inr, ℕ, ◌+◌, ◌<◌, ◌≤◌, List, [], ◌∷◌, ◌++◌, length, take, map, get_or, slice_index_or, slice_set, Result, Ok, Err, zero, suc, refl, sym, ap, ◌∙◌, subst, arith, append_assoc, length-set, get_or-set_same}
use Rattle.std.specs.Prelude.{OnOk, IsErr}
use Rattle.std.proofs.Math.Seq.{map-set_same}
use Rattle.std.proofs.lemmas.List.{get_or-map, map-set, set-set, set-get_or, length-map}
use Rattle.std.proofs.lemmas.Simd.{map-map}
use Rattle.nv_plain.specs.Faults.{Rose, HasCause}
use Rattle.nv_pmem.specs.Calls.{Seen, seen_of, EndedWell, EndedBadly, OnOne, Through, EachEnded, OneFailed, CallsEnded}
use Rattle.nv_pmem.specs.Room.{Room, Takes, Keeps, Frees}
use Rattle.nv_pmem.specs.RoomSteps.{IsOnLine, RoomAfter, RoomAfterFault, RoomThrough}
use Rattle.nv_pmem.specs.Rows.{RowStep, on_part, row_grown, DidRow, DidSomeRow}
use Rattle.nv_pmem.specs.Runs.{run, Ran, RanSome, grown}
use Rattle.nv_pmem.specs.Steps.{LineStep, StoreWord, Fence, PartHistory, DidLineStep, DidSome, after_line_step, line_stores, word_in}
use Rattle.nv_pmem.proofs.LineRooms.{line_is_its_stores}
use Rattle.nv_pmem.proofs.RowLaws.{on_part-append}
use Rattle.nv_pmem.proofs.StepLaws.{did_did_some, did_some_front, did_some_all, did_one}

-- ---- lists of calls joined

through_each : {T S : Type 0} (One : T → S → S → Type 0) (first rest : List T) (old between new : S) → Through One first old between → Through One rest between new → Through One (first ++ rest) old new
through_each {S = S} One [] rest old between new is later =
    let From : S → Type 0 = λ state. Through One rest state new in subst From is later
through_each One (call ∷ calls) rest old between new before later =
    (before.0, before.1, through_each One calls rest before.0 between new before.2 later)

pub each_none : {T S : Type 0} {One : T → S → S → Type 0} {state : S} → EachEnded One [] state state
each_none = record { each = refl }

pub each_each : {T S : Type 0} {One : T → S → S → Type 0} {first rest : List T} {old between new : S} → EachEnded One first old between → EachEnded One rest between new → EachEnded One (first ++ rest) old new
each_each {One = One} {first} {rest} {old} {between} {new} before later =
    record { each = through_each One first rest old between new before.each later.each }

pub failed_front : {T S : Type 0} {Well Badly : T → S → S → Type 0} {first : List T} (rest : List T) {old new : S} → OneFailed Well Badly first old new → OneFailed Well Badly (first ++ rest) old new
failed_front rest one = record {
  made = one.made;
  failed = one.failed;
  rest = one.rest ++ rest;
  are = ap (λ calls. calls ++ rest) one.are ∙ append_assoc one.made (one.failed ∷ one.rest) rest;
  between = one.between;
  before = one.before;
  last = one.last;
}

pub each_failed : {T S : Type 0} {Well Badly : T → S → S → Type 0} {first rest : List T} {old between new : S} → EachEnded Well first old between → OneFailed Well Badly rest between new → OneFailed Well Badly (first ++ rest) old new
each_failed {first = first} before one = record {
  made = first ++ one.made;
  failed = one.failed;
  rest = one.rest;
  are = ap (λ calls. first ++ calls) one.are ∙ sym (append_assoc first one.made (one.failed ∷ one.rest));
  between = one.between;
  before = each_each before one.before;
  last = one.last;
}

-- the answer is that of the last of them
pub each_then : {T S A E : Type 0} {Well Badly : T → S → S → Type 0} {first rest : List T} {old between new : S} {result : Result A E} → EachEnded Well first old between → CallsEnded Well Badly rest between new result
    → CallsEnded Well Badly (first ++ rest) old new result
each_then {result = Ok value} before later = record { well = each_each before later.well; failed = tt }
each_then {result = Err error} before later = record { well = tt; failed = each_failed before later.failed }

pub calls_failed : {T S A E : Type 0} {Well Badly : T → S → S → Type 0} {calls : List T} {old new : S} (result : Result A E) → IsErr result → OneFailed Well Badly calls old new → CallsEnded Well Badly calls old new result
calls_failed (Ok value) never one = cc
calls_failed (Err error) failed one = record { well = tt; failed = one }

pub all_well : {T S A E : Type 0} {Well Badly : T → S → S → Type 0} {calls : List T} {old new : S} (value : A) → EachEnded Well calls old new → CallsEnded {A = A} {E = E} Well Badly calls old new (Ok value)
all_well value each = record { well = each; failed = tt }

-- ---- one call of a part

pub one_well : {step : LineStep} {old new : Seen} → IsOnLine step old.room → DidLineStep (step ∷ []) old.history new.history → RoomAfter step old.room new.room → new.faults ≡ old.faults → EachEnded EndedWell (step ∷ []) old new
unfolding run
one_well {step} {old} {new} line did room faults =
    record { each = (new, record { line = line; history = did.states; room = room; faults = faults }, refl) }

came_or_not : (step : LineStep) (old new : PartHistory) (count : ℕ) → count ≤ 1 → new ≡ run (grown after_line_step) (take count (step ∷ [])) old → (new ≡ old) ⊎ (new ≡ grown after_line_step step old)
unfolding run
came_or_not step old new zero few is = inl is
came_or_not step old new (suc zero) few is = inr is
came_or_not step old new (suc (suc count)) few is = absurd (omega arith)

pub one_failed : {step : LineStep} {old new : Seen} → DidSome (step ∷ []) old.history new.history → RoomAfterFault step old.room new.room → Rose old.faults new.faults → OneFailed EndedWell EndedBadly (step ∷ []) old new
one_failed {step} {old} {new} did room faults = record {
  made = [];
  failed = step;
  rest = [];
  are = refl;
  between = old;
  before = each_none;
  last = record { history = came_or_not step old.history new.history did.count (omega (arith, did.no_more)) did.states; room = room; faults = faults };
}

-- a fence, whatever its answer
pub fence_call : {A E : Type 0} (result : Result A E) (old new : Seen) → DidSome (Fence ∷ []) old.history new.history → OnOk result (DidLineStep (Fence ∷ []) old.history new.history)
    → Keeps old.room new.room → OnOk result (Frees old.room new.room) → HasCause old.faults new.faults result → CallsEnded EndedWell EndedBadly (Fence ∷ []) old new result
fence_call (Ok value) old new begun done keeps frees faults = record { well = one_well tt done (keeps, frees) faults; failed = tt }
fence_call (Err error) old new begun done keeps frees faults = record { well = tt; failed = one_failed begun keeps faults }

-- a store that ended well may take nothing
takes_nothing : (line : ℕ) (room : Room) → Takes 1 line room room
takes_nothing line room = record {
  lines = refl;
  spare = omega arith;
  after_fence = omega arith;
  other_spare = λ other ne. omega arith;
  other_after_fence = λ other ne. omega arith;
}

-- ---- a line is stored

-- what is seen, of its three parts
same_seen : {one other : Seen} → one.history ≡ other.history → one.room ≡ other.room → one.faults ≡ other.faults → one ≡ other
same_seen {one} {other} history room faults =
    let First : PartHistory → Seen = λ h. record { history = h; room = one.room; faults = one.faults } in
    let Second : Room → Seen = λ r. record { history = other.history; room = r; faults = one.faults } in
    let Third : ℕ → Seen = λ f. record { history = other.history; room = other.room; faults = f } in
    ap First history ∙ ap Second room ∙ ap Third faults

stores_of : ℕ → (ℕ → ℕ) → List ℕ → List LineStep
stores_of line value words = map (λ word. StoreWord line word (value word)) words

stores_well : (line : ℕ) (value : ℕ → ℕ) (words : List ℕ) (old new : Seen) → line < old.room.lines → new.history ≡ run (grown after_line_step) (stores_of line value words) old.history
    → RoomThrough (stores_of line value words) old.room new.room → new.faults ≡ old.faults → Through EndedWell (stores_of line value words) old new
unfolding run stores_of
stores_well line value [] old new inside is room faults = same_seen is (sym room) faults
stores_well line value (word ∷ words) old new inside is room faults =
    let next : Seen = record { history = grown after_line_step (StoreWord line word (value word)) old.history; room = room.0; faults = old.faults } in (
      next,
      record { line = inside; history = refl; room = room.1; faults = refl },
      stores_well line value words next new (omega (arith, inside, room.1.lines)) is room.2 faults,
    )

stores_failed : (line : ℕ) (value : ℕ → ℕ) (word : ℕ) (words : List ℕ) (old new : Seen) (count : ℕ) → count ≤ 1 + length words → line < old.room.lines
    → new.history ≡ run (grown after_line_step) (take count (stores_of line value (word ∷ words))) old.history → Takes 1 line old.room new.room → Rose old.faults new.faults
    → OneFailed EndedWell EndedBadly (stores_of line value (word ∷ words)) old new
unfolding run stores_of
stores_failed line value word words old new zero few inside is room faults = record {
  made = [];
  failed = StoreWord line word (value word);
  rest = stores_of line value words;
  are = refl;
  between = old;
  before = each_none;
  last = record { history = inl is; room = room; faults = faults };
}
stores_failed line value word words old new (suc zero) few inside is room faults = record {
  made = [];
  failed = StoreWord line word (value word);
  rest = stores_of line value words;
  are = refl;
  between = old;
  before = each_none;
  last = record { history = inr is; room = room; faults = faults };
}
stores_failed line value word [] old new (suc (suc count)) few inside is room faults = absurd (omega arith)
stores_failed line value word (other ∷ words) old new (suc (suc count)) few inside is room faults =
    let step = StoreWord line word (value word) in
    let next : Seen = record { history = grown after_line_step step old.history; room = old.room; faults = old.faults } in
    let first : EachEnded EndedWell (step ∷ []) old next = record { each = (next, record { line = inside; history = refl; room = takes_nothing line old.room; faults = refl }, refl) } in
    each_failed first (stores_failed line value other words next new (suc count) (omega arith) inside is room faults)

pub line_well : (line : ℕ) (bytes : List ℕ) (old new : Seen) → line < old.room.lines → DidLineStep (line_stores line bytes) old.history new.history → Takes 1 line old.room new.room → new.faults ≡ old.faults
    → EachEnded EndedWell (line_stores line bytes) old new
unfolding line_stores stores_of
line_well line bytes old new inside did room faults =
    record { each = stores_well line (word_in bytes) (0 ∷ 1 ∷ 2 ∷ 3 ∷ 4 ∷ 5 ∷ 6 ∷ 7 ∷ []) old new inside did.states (line_is_its_stores line bytes old.room new.room room) faults }

pub line_failed : (line : ℕ) (bytes : List ℕ) (old new : Seen) → line < old.room.lines → DidSome (line_stores line bytes) old.history new.history → Takes 1 line old.room new.room → Rose old.faults new.faults
    → OneFailed EndedWell EndedBadly (line_stores line bytes) old new
unfolding line_stores stores_of
line_failed line bytes old new inside did room faults =
    stores_failed line (word_in bytes) 0 (1 ∷ 2 ∷ 3 ∷ 4 ∷ 5 ∷ 6 ∷ 7 ∷ []) old new did.count (omega (arith, did.no_more)) inside did.states room faults

-- ---- which steps were made

-- where each call that ended well makes its step of what is looked at
module _ {T S H : Type 0} (Well Badly : T → S → S → Type 0) (after : T → H → H) (view : S → H) (well : (call : T) (old new : S) → Well call old new → view new ≡ after call (view old)) where
  through_ran : (calls : List T) (old new : S) → Through Well calls old new → view new ≡ run after calls (view old)
  unfolding run
  through_ran [] old new is = ap view is
  through_ran (call ∷ calls) old new ended = through_ran calls ended.0 new ended.2 ∙ ap (run after calls) (well call old ended.0 ended.1)

  pub each_ran : {calls : List T} {old new : S} → EachEnded Well calls old new → Ran after calls (view old) (view new)
  each_ran {calls} {old} {new} ended = record { states = through_ran calls old new ended.each }

  pub failed_ran : ((call : T) (old new : S) → Badly call old new → (view new ≡ view old) ⊎ (view new ≡ after call (view old))) → {calls : List T} {old new : S} → OneFailed Well Badly calls old new → RanSome after calls (view old) (view new)
  failed_ran badly {calls} {old} {new} one =
      let Some : List T → Type 0 = λ these. RanSome after these (view old) (view new) in
      let before = each_ran one.before in
      subst Some (sym one.are)
      (elim (badly one.failed one.between new one.last) [
        | inl still ↦
            let To : H → Type 0 = λ state. RanSome after (one.made ++ one.failed ∷ one.rest) (view old) state in
            subst To (sym still) (did_some_front (one.failed ∷ one.rest) (did_some_all before))
        | inr came ↦ did_did_some before (did_some_front one.rest (did_some_all (did_one came)))
      ])

-- ---- a row

each_on : (i : ℕ) (steps : List LineStep) (row : List Seen) (was new : Seen) → i < length row → slice_index_or row i was ≡ was → Through EndedWell steps was new → Through (OnOne EndedWell) (on_part i steps) row (slice_set row i new)
each_on i [] row was new inside before is =
    let To : Seen → Type 0 = λ seen. slice_set row i seen ≡ row in
    let Is : Seen → Type 0 = λ seen. slice_set row i seen ≡ row in
    subst To (sym is) (subst Is before (set-get_or row i was))
each_on i (step ∷ steps) row was new inside before ended =
    let next = slice_set row i ended.0 in
    let rest = each_on i steps next ended.0 new (omega (arith, inside, length-set row i ended.0)) (get_or-set_same row i ended.0 ended.0 inside) ended.2 in
    let To : List Seen → Type 0 = λ last. Through (OnOne EndedWell) (on_part i steps) next last in (
      next,
      record { was = was; now = ended.0; there = inside; before = before; after = refl; one = ended.1 },
      subst To (set-set row i ended.0 new) rest,
    )

failed_on : (i : ℕ) (steps : List LineStep) (row : List Seen) (was new : Seen) → i < length row → slice_index_or row i was ≡ was → OneFailed EndedWell EndedBadly steps was new
    → OneFailed (OnOne EndedWell) (OnOne EndedBadly) (on_part i steps) row (slice_set row i new)
failed_on i steps row was new inside before one = record {
  made = on_part i one.made;
  failed = record { part = i; step = one.failed };
  rest = on_part i one.rest;
  are = ap (on_part i) one.are ∙ on_part-append i one.made (one.failed ∷ one.rest);
  between = slice_set row i one.between;
  before = record { each = each_on i one.made row was one.between inside before one.before.each };
  last = record {
    was = one.between;
    now = new;
    there = omega (arith, inside, length-set row i one.between);
    before = get_or-set_same row i one.between one.between inside;
    after = sym (set-set row i one.between new);
    one = one.last;
  };
}

-- calls on one of some parts are calls on the row of them
module _ {X : Type 0} (view : X → Seen) (parts : List X) (i : ℕ) (was new d : X) (inside : i < length parts) (is : was ≡ get_or parts i d) where
  seen_there : i < length (map view parts)
  seen_there = omega (arith, inside, length-map parts view)

  seen_is : slice_index_or (map view parts) i (view was) ≡ view was
  seen_is = get_or-map view parts i d (view was) inside ∙ ap view (sym is)

  pub each_in_row : {steps : List LineStep} → EachEnded EndedWell steps (view was) (view new) → EachEnded (OnOne EndedWell) (on_part i steps) (map view parts) (map view (slice_set parts i new))
  each_in_row {steps} ended =
      let To : List Seen → Type 0 = λ row. EachEnded (OnOne EndedWell) (on_part i steps) (map view parts) row in
      subst To (sym (map-set view parts i new)) (record { each = each_on i steps (map view parts) (view was) (view new) seen_there seen_is ended.each })

  pub failed_in_row : {steps : List LineStep} → OneFailed EndedWell EndedBadly steps (view was) (view new) → OneFailed (OnOne EndedWell) (OnOne EndedBadly) (on_part i steps) (map view parts) (map view (slice_set parts i new))
  failed_in_row {steps} one =
      let To : List Seen → Type 0 = λ row. OneFailed (OnOne EndedWell) (OnOne EndedBadly) (on_part i steps) (map view parts) row in
      subst To (sym (map-set view parts i new)) (failed_on i steps (map view parts) (view was) (view new) seen_there seen_is one)

-- ---- the steps of calls

pub part_did : {steps : List LineStep} {old new : Seen} → EachEnded EndedWell steps old new → DidLineStep steps old.history new.history
part_did ended = each_ran EndedWell EndedBadly (grown after_line_step) (λ seen. seen.history) (λ step old new one. one.history) ended

pub part_began : {A E : Type 0} {steps : List LineStep} {old new : Seen} {result : Result A E} → CallsEnded EndedWell EndedBadly steps old new result → DidSome steps old.history new.history
part_began {result = Ok value} ended = did_some_all (part_did ended.well)
part_began {result = Err error} ended =
    failed_ran EndedWell EndedBadly (grown after_line_step) (λ seen. seen.history) (λ step old new did. did.history) (λ step old new did. did.history) ended.failed

pub part_done : {A E : Type 0} {steps : List LineStep} {old new : Seen} {result : Result A E} → CallsEnded EndedWell EndedBadly steps old new result → OnOk result (DidLineStep steps old.history new.history)
part_done {result = Ok value} ended = part_did ended.well
part_done {result = Err error} ended = tt

-- what a row of parts has been
histories_of : List Seen → List PartHistory
histories_of row = map (λ seen. seen.history) row

history_on : (call : RowStep) (old new : List Seen) {One : LineStep → Seen → Seen → Type 0} (on : OnOne One call old new) → on.was.history ≡ slice_index_or (histories_of old) call.part []
unfolding histories_of
history_on call old new on = ap (λ (seen : Seen). seen.history) (sym on.before) ∙ sym (get_or-map (λ (seen : Seen). seen.history) old call.part on.was [] on.there)

row_came : (call : RowStep) (old new : List Seen) {One : LineStep → Seen → Seen → Type 0} (on : OnOne One call old new) → on.now.history ≡ grown after_line_step call.step on.was.history → histories_of new ≡ row_grown call (histories_of old)
unfolding histories_of
row_came call old new on came =
    let To : PartHistory → List PartHistory = λ now. slice_set (histories_of old) call.part now in
    ap (map (λ (seen : Seen). seen.history)) on.after
    ∙ map-set (λ (seen : Seen). seen.history) old call.part on.now
    ∙ ap To (came ∙ ap (grown after_line_step call.step) (history_on call old new on))

row_still : (call : RowStep) (old new : List Seen) {One : LineStep → Seen → Seen → Type 0} (on : OnOne One call old new) → on.now.history ≡ on.was.history → histories_of new ≡ histories_of old
unfolding histories_of
row_still call old new on still =
    ap (map (λ (seen : Seen). seen.history)) on.after
    ∙ map-set_same (λ (seen : Seen). seen.history) old call.part on.now on.was (still ∙ ap (λ (seen : Seen). seen.history) (sym on.before))

row_did : {calls : List RowStep} {old new : List Seen} → EachEnded (OnOne EndedWell) calls old new → DidRow calls (histories_of old) (histories_of new)
row_did ended =
    each_ran (OnOne EndedWell) (OnOne EndedBadly) row_grown histories_of (λ call old new on. row_came call old new on on.one.history) ended

row_failed : {calls : List RowStep} {old new : List Seen} → OneFailed (OnOne EndedWell) (OnOne EndedBadly) calls old new → DidSomeRow calls (histories_of old) (histories_of new)
row_failed one =
    failed_ran (OnOne EndedWell) (OnOne EndedBadly) row_grown histories_of (λ call old new on. row_came call old new on on.one.history)
    (λ call old new on. elim on.one.history [ inl still ↦ inl (row_still call old new on still) | inr came ↦ inr (row_came call old new on came) ])
    one

-- of parts of one type
module _ {X : Type 0} (history : X → PartHistory) (room : X → Room) (faults : X → ℕ) where
  row_of : List X → List Seen
  row_of parts = map (seen_of history room faults) parts

  told : (parts : List X) → histories_of (row_of parts) ≡ map history parts
  unfolding histories_of row_of
  told parts = map-map (λ (seen : Seen). seen.history) (seen_of history room faults) parts

  pub parts_did : {calls : List RowStep} (old new : List X) → EachEnded (OnOne EndedWell) calls (map (seen_of history room faults) old) (map (seen_of history room faults) new) → DidRow calls (map history old) (map history new)
  unfolding row_of
  parts_did {calls} old new ended =
      let From : List PartHistory → Type 0 = λ row. DidRow calls row (map history new) in
      let To : List PartHistory → Type 0 = λ row. DidRow calls (histories_of (row_of old)) row in
      subst From (told old) (subst To (told new) (row_did ended))

  pub parts_failed : {calls : List RowStep} (old new : List X) → OneFailed (OnOne EndedWell) (OnOne EndedBadly) calls (map (seen_of history room faults) old) (map (seen_of history room faults) new)
      → DidSomeRow calls (map history old) (map history new)
  unfolding row_of
  parts_failed {calls} old new one =
      let From : List PartHistory → Type 0 = λ row. DidSomeRow calls row (map history new) in
      let To : List PartHistory → Type 0 = λ row. DidSomeRow calls (histories_of (row_of old)) row in
      subst From (told old) (subst To (told new) (row_failed one))

  pub parts_began : {A E : Type 0} {calls : List RowStep} {result : Result A E} (old new : List X) → CallsEnded (OnOne EndedWell) (OnOne EndedBadly) calls (map (seen_of history room faults) old) (map (seen_of history room faults) new) result
      → DidSomeRow calls (map history old) (map history new)
  parts_began {result = Ok value} old new ended = did_some_all (parts_did old new ended.well)
  parts_began {result = Err error} old new ended = parts_failed old new ended.failed

  pub parts_done : {A E : Type 0} {calls : List RowStep} {result : Result A E} (old new : List X) → CallsEnded (OnOne EndedWell) (OnOne EndedBadly) calls (map (seen_of history room faults) old) (map (seen_of history room faults) new) result
      → OnOk result (DidRow calls (map history old) (map history new))
  parts_done {result = Ok value} old new ended = parts_did old new ended.well
  parts_done {result = Err error} old new ended = tt

-- Nothing is lost by the spares of a room.
use Rattle.std.proofs.Common.{◌≡◌, ℕ, ◌+◌, ◌<◌, ◌≤◌, length, inl, inr, refl, ap, arith}
use Rattle.std.specs.Prelude.{slice_index_or}
use Rattle.std.proofs.lemmas.Bool.{cases_lt}
use Rattle.std.proofs.lemmas.List.{get_or_past}
use Rattle.std.proofs.lemmas.List.FromFn.{get_or-map-range_with_len, length-map-range_with_len}
use Rattle.nv_pmem.specs.Room.{Room, Keeps, Takes, Frees}
use Rattle.nv_pmem.specs.RoomSteps.{IsOnLine, RoomAfter, RoomAfterFault}
use Rattle.nv_pmem.specs.Steps.{LineStep, StoreWord, Flush, Fence}
use Rattle.nv_core.specs.state.Spares.{room_of_spares, spares_of, SparesKeepSteps, SparesTell}

-- how many lines there are, and what each that is there can take; no other can take any
lines_told : (room : Room) → length (spares_of room) ≡ room.lines
lines_told room = length-map-range_with_len (λ line. (room.spare line, room.after_fence line)) 0 room.lines

told : (room : Room) (line : ℕ) → line < room.lines → slice_index_or (spares_of room) line (0, 0) ≡ (room.spare line, room.after_fence line)
told room line less = get_or-map-range_with_len (λ line. (room.spare line, room.after_fence line)) 0 room.lines line line (0, 0) less (omega arith)

untold : (room : Room) (line : ℕ) → room.lines ≤ line → slice_index_or (spares_of room) line (0, 0) ≡ (0, 0)
untold room line past = get_or_past (spares_of room) line (0, 0) (let e = lines_told room in omega (arith, e, past))

-- what a line could take is at most what one can of another room, and so much more
module _ (old new : Room) (lines : new.lines ≡ old.lines) where
  most : (p q : ℕ × ℕ → ℕ) → p (0, 0) ≡ 0 → (line count : ℕ) → (line < old.lines → p (old.spare line, old.after_fence line) ≤ q (new.spare line, new.after_fence line) + count)
      → p (slice_index_or (spares_of old) line (0, 0)) ≤ q (slice_index_or (spares_of new) line (0, 0)) + count
  most p q none line count is = elim (cases_lt line old.lines) [
    | inl there ↦
        let was : p (slice_index_or (spares_of old) line (0, 0)) ≡ p (old.spare line, old.after_fence line) = ap p (told old line there) in
        let now : q (slice_index_or (spares_of new) line (0, 0)) ≡ q (new.spare line, new.after_fence line) = ap q (told new line (omega (arith, there, lines))) in
        let h = is there in omega (arith, was, now, h)
    | inr past ↦ let was : p (slice_index_or (spares_of old) line (0, 0)) ≡ p (0, 0) = ap p (untold old line past) in omega (arith, was, none)
  ]

  same_lines : (room_of_spares (spares_of new)).lines ≡ (room_of_spares (spares_of old)).lines
  same_lines = let a = lines_told new in let b = lines_told old in omega (arith, a, b, lines)

  spare_least : (line count : ℕ) → old.spare line ≤ new.spare line + count → (room_of_spares (spares_of old)).spare line ≤ (room_of_spares (spares_of new)).spare line + count
  spare_least line count is = most (λ one. one.0) (λ one. one.0) refl line count (λ _. is)

  fence_least : (line count : ℕ) → old.after_fence line ≤ new.after_fence line + count → (room_of_spares (spares_of old)).after_fence line ≤ (room_of_spares (spares_of new)).after_fence line + count
  fence_least line count is = most (λ one. one.1) (λ one. one.1) refl line count (λ _. is)

keeps_told : (old new : Room) → Keeps old new → Keeps (room_of_spares (spares_of old)) (room_of_spares (spares_of new))
keeps_told old new keeps = record {
  lines = same_lines old new keeps.lines;
  spare = λ line. let k = keeps.spare line in let h = spare_least old new keeps.lines line 0 (omega (arith, k)) in omega (arith, h);
  after_fence = λ line. let k = keeps.after_fence line in let h = fence_least old new keeps.lines line 0 (omega (arith, k)) in omega (arith, h);
}

takes_told : (count line : ℕ) (old new : Room) → Takes count line old new → Takes count line (room_of_spares (spares_of old)) (room_of_spares (spares_of new))
takes_told count line old new takes = record {
  lines = same_lines old new takes.lines;
  spare = spare_least old new takes.lines line count takes.spare;
  after_fence = fence_least old new takes.lines line count takes.after_fence;
  other_spare = λ other ne. let k = takes.other_spare other ne in let h = spare_least old new takes.lines other 0 (omega (arith, k)) in omega (arith, h);
  other_after_fence = λ other ne. let k = takes.other_after_fence other ne in let h = fence_least old new takes.lines other 0 (omega (arith, k)) in omega (arith, h);
}

frees_told : (old new : Room) → new.lines ≡ old.lines → Frees old new → Frees (room_of_spares (spares_of old)) (room_of_spares (spares_of new))
frees_told old new lines frees = record {
  spare = λ line. let k = frees.spare line in let h = most old new lines (λ one. one.1) (λ one. one.0) refl line 0 (λ _. omega (arith, k)) in omega (arith, h);
}

after_told : (step : LineStep) (old new : Room) → IsOnLine step old → RoomAfter step old new → RoomAfter step (room_of_spares (spares_of old)) (room_of_spares (spares_of new))
after_told (StoreWord line word value) old new there after = takes_told 1 line old new after
after_told (Flush line) old new there after = (
  keeps_told old new after.0,
  let lines = after.0.lines in let k = after.1 in let e = ap (λ (one : ℕ × ℕ). one.1) (told new line (omega (arith, there, lines))) in omega (arith, k, e),
)
after_told Fence old new there after = (keeps_told old new after.0, frees_told old new after.0.lines after.1)

fault_told : (step : LineStep) (old new : Room) → RoomAfterFault step old new → RoomAfterFault step (room_of_spares (spares_of old)) (room_of_spares (spares_of new))
fault_told (StoreWord line word value) old new after = takes_told 1 line old new after
fault_told (Flush line) old new after = keeps_told old new after
fault_told Fence old new after = keeps_told old new after

pub spares_keep_steps : SparesKeepSteps
spares_keep_steps step old new = record { after = after_told step old new; after_fault = fault_told step old new }

pub spares_tell : SparesTell
spares_tell room = record {
  lines_are = lines_told room;
  spare_is = spare_is;
  after_fence_is = λ line there. ap (λ (one : ℕ × ℕ). one.1) (told room line there);
  ready = λ page is. let l = is.lines in let t = lines_told room in record {
    lines = omega (arith, l, t);
    spare = λ line less. let e = spare_is line (omega (arith, l, less)) in let s = is.spare line less in omega (arith, e, s);
  };
  was_ready = λ page is. let l = is.lines in let t = lines_told room in record {
    lines = omega (arith, l, t);
    spare = λ line less. let e = spare_is line (omega (arith, l, t, less)) in let s = is.spare line less in omega (arith, e, s);
  };
  roomy = λ count is. let l = is.there in let t = lines_told room in record {
    there = omega (arith, l, t);
    spare = λ line less. let e = spare_is line (omega (arith, l, less)) in let s = is.spare line less in omega (arith, e, s);
  };
  was_roomy = λ count is. let l = is.there in let t = lines_told room in record {
    there = omega (arith, l, t);
    spare = λ line less. let e = spare_is line (omega (arith, l, t, less)) in let s = is.spare line less in omega (arith, e, s);
  };
}
  where
    spare_is : (line : ℕ) → line < room.lines → (room_of_spares (spares_of room)).spare line ≡ room.spare line
    spare_is line there = ap (λ (one : ℕ × ℕ). one.0) (told room line there)

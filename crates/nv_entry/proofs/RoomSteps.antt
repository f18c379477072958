-- Room after the steps of a group.
use Rattle.std.proofs.Common.{◌≡◌, ℕ, ◌<◌, ◌≤◌, List, [], ◌∷◌, inl, inr, subst, sym, arith}
use Rattle.std.proofs.lemmas.Bool.{cases_eq, eq-eqb, ne_eqb}
use Rattle.nv_pmem.specs.Limits.{entry_lines}
use Rattle.nv_pmem.specs.Room.{Room}
use Rattle.nv_pmem.specs.RoomSteps.{RoomAfter, EndWith}
use Rattle.nv_pmem.specs.Steps.{LineStep, StoreWord, Flush, Fence}
use Rattle.nv_pmem.proofs.ImageLaws.{Mark, open_line, noted_line, quiet_line, noted_more, fenced_more, mark_after, mark_after_all}
use Rattle.nv_entry.specs.Commits.{GroupsEndReady}
use Rattle.nv_entry.specs.Group.{IsReady}
use Rattle.nv_entry.proofs.GroupSteps.{group_still}

-- what a line's mark says of its room
abbrev HasSpare : ℕ → Mark → Room → Type 0
HasSpare line open_line room = Unit {0}
HasSpare line noted_line room = 15 ≤ room.after_fence line
HasSpare line quiet_line room = 15 ≤ room.spare line

-- after one step
kept : (line : ℕ) (mark : Mark) (old new : Room) → old.spare line ≤ new.spare line → old.after_fence line ≤ new.after_fence line → HasSpare line mark old → HasSpare line mark new
kept line open_line old new spare later has = tt
kept line noted_line old new spare later has = omega (arith, later, has)
kept line quiet_line old new spare later has = omega (arith, spare, has)

noted : (line : ℕ) (mark : Mark) (old new : Room) → old.spare line ≤ new.spare line → 15 ≤ new.after_fence line → HasSpare line mark old → HasSpare line (noted_more mark) new
noted line open_line old new spare later has = later
noted line noted_line old new spare later has = later
noted line quiet_line old new spare later has = omega (arith, spare, has)

fenced : (line : ℕ) (mark : Mark) (old new : Room) → old.spare line ≤ new.spare line → old.after_fence line ≤ new.spare line → HasSpare line mark old → HasSpare line (fenced_more mark) new
fenced line open_line old new spare later has = tt
fenced line noted_line old new spare later has = omega (arith, later, has)
fenced line quiet_line old new spare later has = omega (arith, spare, has)

spare_after : (line : ℕ) (step : LineStep) (mark : Mark) (old new : Room) → RoomAfter step old new → HasSpare line mark old → HasSpare line (mark_after line step mark) new
spare_after line (StoreWord at word value) mark old new after has = elim (cases_eq line at) [
  | inl same ↦ rw (eq-eqb line at same) tt
  | inr other ↦ rw (ne_eqb line at other) (kept line mark old new (after.other_spare line other) (after.other_after_fence line other) has)
]
spare_after line (Flush at) mark old new after has = elim (cases_eq line at) [
  | inl same ↦
      let At : ℕ → Type 0 = λ k. 15 ≤ new.after_fence k in
      rw (eq-eqb line at same) (noted line mark old new (after.0.spare line) (subst At (sym same) after.1) has)
  | inr other ↦ rw (ne_eqb line at other) (kept line mark old new (after.0.spare line) (after.0.after_fence line) has)
]
spare_after line Fence mark old new after has = fenced line mark old new (after.0.spare line) (after.1.spare line) has

lines_after : (step : LineStep) (old new : Room) → RoomAfter step old new → new.lines ≡ old.lines
lines_after (StoreWord line word value) old new after = after.lines
lines_after (Flush line) old new after = after.0.lines
lines_after Fence old new after = after.0.lines

-- after all of them, where the mark of each line ends quiet
ends_ready : (page : ℕ) (steps : List LineStep) (marks : ℕ → Mark) (room : Room) → entry_lines page ≤ room.lines
    → ((line : ℕ) → line < entry_lines page → HasSpare line (marks line) room) → ((line : ℕ) → mark_after_all line steps (marks line) ≡ quiet_line) → EndWith (IsReady page) steps room
ends_ready page [] marks room lines has ends = record { lines = lines; spare = λ line below. subst (λ mark. HasSpare line mark room) (ends line) (has line below) }
ends_ready page (step ∷ steps) marks room lines has ends = λ next after.
    ends_ready page steps (λ line. mark_after line step (marks line)) next (omega (arith, lines, lines_after step room next after))
    (λ line below. spare_after line step (marks line) room next after (has line below)) ends

pub groups_end_ready : GroupsEndReady
groups_end_ready page first file at bytes i room below ready =
    ends_ready page _ (λ line. quiet_line) room ready.lines ready.spare (λ line. group_still page first file at bytes i line below)

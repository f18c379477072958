-- Room while lines are stored and flushed, and after the fence.
use Rattle.std.proofs.Common.{◌≡◌, ℕ, ◌+◌, ◌≤◌, inl, inr, refl, sym, ◌∙◌, subst, arith}
use Rattle.std.proofs.lemmas.Bool.{cases_eq}
use Rattle.nv_pmem.specs.Room.{Room, Keeps, Takes, Frees}
use Rattle.nv_header.specs.Noted.{NotesLines}
use Rattle.nv_header.specs.Regions.{StaysRoomy}

pub notes_none : (end : ℕ) (room : Room) → NotesLines end room room
notes_none end room = record { lines_are = refl; noted = λ line has. has; rest = λ line behind. omega arith }

-- more lines, behind those before
pub notes_more : {old between new : Room} (end next : ℕ) → end ≤ next → NotesLines end old between → NotesLines next between new → NotesLines next old new
notes_more {old} {between} {new} end next further before more = record {
  lines_are = more.lines_are ∙ before.lines_are;
  noted = λ line has. more.noted line (before.noted line has);
  rest = λ line behind. omega (arith, before.rest line (omega arith), more.rest line behind);
}

-- one line
pub notes_line : {old new : Room} (line next : ℕ) → next ≡ line + 1 → Takes 1 line old new → 15 ≤ new.after_fence line → NotesLines next old new
notes_line {old} {new} line next next_is takes flushed = record {
  lines_are = takes.lines;
  noted = λ other has. elim (cases_eq other line) [
    | inl same ↦ let At : ℕ → Type 0 = λ k. 15 ≤ new.after_fence k in inr (subst At (sym same) flushed)
    | inr differs ↦ elim has [
      | inl spare ↦ inl (omega (arith, takes.other_spare other differs))
      | inr noted ↦ inr (omega (arith, takes.other_after_fence other differs))
    ]
  ];
  rest = λ other behind. takes.other_spare other (omega arith);
}

-- the fence behind them
pub stays_noted : {old noted new : Room} (end : ℕ) → NotesLines end old noted → Keeps noted new → Frees noted new → StaysRoomy old new
stays_noted {old} {noted} {new} end notes fence frees = record {
  lines_are = fence.lines ∙ notes.lines_are;
  spare = λ line enough. elim (notes.noted line (inl enough)) [
    | inl spare ↦ omega (arith, fence.spare line)
    | inr flushed ↦ omega (arith, frees.spare line)
  ];
}

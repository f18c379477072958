-- Room after the steps of an entry.
use Rattle.std.proofs.Common.{◌≡◌, ℕ, ◌+◌, ◌-◌, ◌≤◌, inl, inr, subst, sym, arith}
use Rattle.std.proofs.lemmas.Bool.{cases_eq, cases_lt}
use Rattle.nv_pmem.specs.Room.{Room, Takes, Settles}
use Rattle.nv_entry.specs.Group.{IsReady}
use Rattle.nv_entry.specs.Ready.{WritesLines, FencesHead, StaysReady}

-- one data line more
pub writes_lines_more : {old between new : Room} (k : ℕ) → WritesLines k old between → Takes 1 (1 + k) between new → 15 ≤ new.after_fence (1 + k) → WritesLines (k + 1) old new
writes_lines_more {old} {between} {new} k before line flushed = record {
  written = λ j below. elim (cases_eq j k) [
    | inl same ↦ let At : ℕ → Type 0 = λ i. 15 ≤ new.after_fence (1 + i) in subst At (sym same) flushed
    | inr differs ↦ omega (arith, before.written j (omega arith), line.other_after_fence (1 + j) (omega arith))
  ];
  head = omega (arith, before.head, line.other_spare 0 (omega arith));
  rest = λ other above. omega (arith, before.rest other (omega arith), line.other_spare other (omega arith));
}

-- the data lines written, and the head fenced with them
pub stays_ready : {old written new : Room} (count : ℕ) → WritesLines count old written → FencesHead written new → StaysReady old new
stays_ready {old} {written} {new} count lines head = record {
  spare = λ line ready. elim (cases_eq line 0) [
    | inl first ↦ let At : ℕ → Type 0 = λ i. 15 ≤ new.spare i in subst At (sym first) head.head
    | inr differs ↦ elim (cases_lt count line) [
      | inl above ↦ omega (arith, ready, lines.rest line above, head.rest line differs)
      | inr below ↦
          let index : 1 + (line - 1) ≡ line = omega arith in
          let At : ℕ → Type 0 = λ i. 15 ≤ written.after_fence i in
          omega (arith, subst At index (lines.written (line - 1) (omega arith)), head.freed line differs)
    ]
  ];
}

-- a part stays ready for an entry
pub ready_still : (page : ℕ) (old new : Room) → new.lines ≡ old.lines → StaysReady old new → IsReady page old → IsReady page new
ready_still page old new lines stays ready = record {
  lines = omega (arith, ready.lines, lines);
  spare = λ line below. stays.spare line (ready.spare line below);
}

-- a durable store leaves it ready
pub ready_settled : (page line : ℕ) (old new : Room) → new.lines ≡ old.lines → Settles line old new → IsReady page old → IsReady page new
ready_settled page line old new lines settled ready = record {
  lines = omega (arith, ready.lines, lines);
  spare = λ other below. elim (cases_eq other line) [
    | inl same ↦ let At : ℕ → Type 0 = λ i. 15 ≤ new.spare i in subst At (sym same) settled.spare
    | inr differs ↦ omega (arith, ready.spare other below, settled.other_spare other differs)
  ];
}

-- What stores, flushes and fences do to the room of a part.
use Rattle.std.proofs.Common.{refl, sym, ap, subst, ◌∙◌, ◌⊎◌, inl, inr, rules, ◌≡◌, ◌≢◌, ℕ, zero, suc, ◌+◌, ◌<◌, ◌≤◌, max, [], ◌∷◌, length, map, slice_set, Option, Some, None, arith, length-append, length-drop, length-set, get_or-set_same, get_or-set_other}
use Rattle.std.proofs.Math.ListN.{get_or-map}
use Rattle.std.proofs.Math.Nat.{le-max_left, le-max_right}
use Rattle.std.proofs.lemmas.Bool.{cases_eq}
use Rattle.std.proofs.lemmas.List.{length-map}
use Rattle.nv_pmem.specs.Part.{Word, Line, Part, blank_line, word_of, stored_value, fenced_at, fenced_word, line_of, stored, flushed, fenced}
use Rattle.nv_pmem.specs.Room.{Room, Keeps, Takes, Frees}
use Rattle.nv_pmem.specs.Told.{most_later, spare_of, room_of}
use Rattle.nv_pmem.proofs.ImageLaws.{noted_flushed}
use Rattle.nv_pmem.proofs.LineLaws.{word_of-stored_same, word_of-stored_other, word_of-fenced}
use Rattle.nv_pmem.proofs.PickedLaws.{quiet_line_spare}

-- ---- one line

-- no word had more values than the line's greatest number,
pub most_at : (line : Line) (word : ℕ) → length (word_of line word).later ≤ most_later line
most_at [] word = omega arith
most_at (first ∷ line) zero = le-max_left (length first.later) (most_later line)
most_at (first ∷ line) (suc word) = omega (arith, most_at line word, le-max_right (length first.later) (most_later line))

-- so each can take a value where the line can take a store,
pub word_spare : (line : Line) (word : ℕ) → 1 ≤ spare_of line → length (word_of line word).later < 15
word_spare line word spare = omega (arith, spare, most_at line word)

-- and it is the least such number
most_least : (line : Line) (most : ℕ) → ((word : ℕ) → length (word_of line word).later ≤ most) → most_later line ≤ most
most_least [] most each = omega arith
most_least (first ∷ line) most each = omega (arith, each 0, most_least line most (λ word. each (suc word)))

fewer_fenced_at : (word : Word) (noted : Option ℕ) → length (fenced_at word noted).later ≤ length word.later
fewer_fenced_at word None = omega arith
fewer_fenced_at word (Some count) = simp length-drop (omega arith)

-- A word has one value more, now and after a fence, or has as many.
pub record IsOneMore (was now : Word) : Type 0 where
  pub later : length now.later ≤ length was.later + 1
  pub fenced : length (fenced_word now).later ≤ length (fenced_word was).later + 1

pub none_more : (word : Word) → IsOneMore word word
none_more word = record { later = omega arith; fenced = omega arith }

fenced_one_more : (value : ℕ) (word : Word) (noted : Option ℕ) → length (fenced_at (stored_value value word) noted).later ≤ length (fenced_at word noted).later + 1
fenced_one_more value word None = simp length-append (omega arith)
fenced_one_more value word (Some count) = simp (length-drop, length-append) (omega arith)

pub one_more_stored : (value : ℕ) (word : Word) → IsOneMore word (stored_value value word)
one_more_stored value word = record { later = simp length-append (omega arith); fenced = fenced_one_more value word word.flushed }

-- a line of which each word has
spare-more : (was now : Line) → ((word : ℕ) → IsOneMore (word_of was word) (word_of now word)) → spare_of was ≤ spare_of now + 1
spare-more was now each =
    let fewer : most_later now ≤ most_later was + 1 = most_least now (most_later was + 1) (λ word. omega (arith, (each word).later, most_at was word)) in omega arith

spare-fenced-more : (was now : Line) → ((word : ℕ) → IsOneMore (word_of was word) (word_of now word)) → spare_of (fenced was) ≤ spare_of (fenced now) + 1
spare-fenced-more was now each =
    let fewer : most_later (fenced now) ≤ most_later (fenced was) + 1 =
    most_least (fenced now) (most_later (fenced was) + 1) (λ word.
    let Fewer : Word → Type 0 = λ one. length one.later ≤ most_later (fenced was) + 1 in
    let most : length (fenced_word (word_of was word)).later ≤ most_later (fenced was) = subst (λ (one : Word). length one.later ≤ most_later (fenced was)) (word_of-fenced was word) (most_at (fenced was) word) in
    subst Fewer (sym (word_of-fenced now word)) (omega (arith, (each word).fenced, most))) in
    omega arith

stored_more : (word value : ℕ) (line : Line) (other : ℕ) → IsOneMore (word_of line other) (word_of (stored word value line) other)
stored_more word value line other = elim (cases_eq other word) [
  | inl same ↦
      let At : ℕ → Type 0 = λ k. IsOneMore (word_of line k) (word_of (stored word value line) k) in
      subst At (sym same) (subst (IsOneMore (word_of line word)) (sym (word_of-stored_same word value line)) (one_more_stored value (word_of line word)))
  | inr differs ↦ subst (IsOneMore (word_of line other)) (sym (word_of-stored_other word value line other differs)) (none_more (word_of line other))
]

most-flushed : (line : Line) → most_later (flushed line) ≡ most_later line
unfolding flushed
most-flushed [] = refl
most-flushed (word ∷ line) = ap (max (length word.later)) (most-flushed line)

spare-flushed : (line : Line) → spare_of line ≤ spare_of (flushed line)
spare-flushed line = omega (arith, most-flushed line)

pub spare-fenced-flushed : (line : Line) → 15 ≤ spare_of (fenced (flushed line))
spare-fenced-flushed line = omega (arith, quiet_line_spare (fenced (flushed line)) (noted_flushed line))

spare-fenced : (line : Line) → spare_of line ≤ spare_of (fenced line)
spare-fenced line =
    let fewer : most_later (fenced line) ≤ most_later line =
    most_least (fenced line) (most_later line) (λ word.
    let Fewer : Word → Type 0 = λ one. length one.later ≤ most_later line in
    subst Fewer (sym (word_of-fenced line word)) (omega (arith, fewer_fenced_at (word_of line word) (word_of line word).flushed, most_at line word))) in
    omega arith

-- a part with one line changed
takes_set : (count : ℕ) (part : Part) (at : ℕ) (line : Line) → at < length part → spare_of (line_of part at) ≤ spare_of line + count
    → spare_of (fenced (line_of part at)) ≤ spare_of (fenced line) + count → Takes count at (room_of part) (room_of (slice_set part at line))
takes_set count part at line inside now later = record {
  lines = length-set part at line;
  spare = rw get_or-set_same now;
  after_fence = rw get_or-set_same later;
  other_spare = λ other ne. rw get_or-set_other (omega arith);
  other_after_fence = λ other ne. rw get_or-set_other (omega arith);
}

pub takes_stored : (part : Part) (at word value : ℕ) → at < length part → Takes 1 at (room_of part) (room_of (slice_set part at (stored word value (line_of part at))))
takes_stored part at word value inside =
    let line = line_of part at in
    takes_set 1 part at (stored word value line) inside (spare-more line (stored word value line) (stored_more word value line))
    (spare-fenced-more line (stored word value line) (stored_more word value line))

-- a part of which one line is another, of which each word has one value more at most
pub takes_words : (part new : Part) (at : ℕ) → length new ≡ length part → ((other : ℕ) → other ≢ at → line_of new other ≡ line_of part other)
    → ((word : ℕ) → IsOneMore (word_of (line_of part at) word) (word_of (line_of new at) word)) → Takes 1 at (room_of part) (room_of new)
takes_words part new at lines others each = record {
  lines = lines;
  spare = spare-more (line_of part at) (line_of new at) each;
  after_fence = spare-fenced-more (line_of part at) (line_of new at) each;
  other_spare = λ other ne. omega (arith, ap spare_of (others other ne));
  other_after_fence = λ other ne. omega (arith, ap (λ line. spare_of (fenced line)) (others other ne));
}

at_or_other : (at line : ℕ) → (line ≡ at) ⊎ (line ≢ at)
at_or_other at line = search rules

-- what takes nothing of one line keeps the room
Keeps-from_takes : (at : ℕ) (old new : Room) → Takes 0 at old new → Keeps old new
Keeps-from_takes at old new t = record {
  lines = t.lines;
  spare = λ line. elim (at_or_other at line) [ inl e ↦ rw e (omega arith) | inr ne ↦ t.other_spare line ne ];
  after_fence = λ line. elim (at_or_other at line) [ inl e ↦ rw e (omega arith) | inr ne ↦ t.other_after_fence line ne ];
}

pub keeps_flushed : (part : Part) (at : ℕ) → at < length part → Keeps (room_of part) (room_of (slice_set part at (flushed (line_of part at))))
keeps_flushed part at inside =
    let line = flushed (line_of part at) in
    let one = takes_set 0 part at line inside (omega (arith, spare-flushed (line_of part at))) (omega (arith, spare-fenced-flushed (line_of part at))) in
    Keeps-from_takes at _ _ one

pub freed_flushed : (part : Part) (at : ℕ) → at < length part → 15 ≤ spare_of (fenced (line_of (slice_set part at (flushed (line_of part at))) at))
freed_flushed part at inside = rw get_or-set_same (spare-fenced-flushed (line_of part at))

-- all lines fenced
line_of-fenced : (part : Part) (at : ℕ) → line_of (map fenced part) at ≡ fenced (line_of part at)
unfolding fenced
line_of-fenced part at = get_or-map fenced part at blank_line

pub frees_fenced : (part : Part) → Frees (room_of part) (room_of (map fenced part))
frees_fenced part = record { spare = λ line. rw line_of-fenced (omega arith) }

pub keeps_fenced : (part : Part) → Keeps (room_of part) (room_of (map fenced part))
keeps_fenced part = record {
  lines = length-map part fenced;
  spare = λ line. rw line_of-fenced (spare-fenced _);
  after_fence = λ line. rw line_of-fenced (spare-fenced _);
}

-- several changes of one line
pub Takes-none : (at : ℕ) (room : Room) → Takes 0 at room room
Takes-none at room = record {
  lines = refl;
  spare = omega arith;
  after_fence = omega arith;
  other_spare = λ other ne. omega arith;
  other_after_fence = λ other ne. omega arith;
}

pub Takes-more : {m n at : ℕ} {a b c : Room} → Takes m at a b → Takes n at b c → Takes (m + n) at a c
Takes-more {at = at} p q = record {
  lines = q.lines ∙ p.lines;
  spare = omega (arith, p.spare, q.spare);
  after_fence = omega (arith, p.after_fence, q.after_fence);
  other_spare = λ other ne. omega (arith, p.other_spare other ne, q.other_spare other ne);
  other_after_fence = λ other ne. omega (arith, p.other_after_fence other ne, q.other_after_fence other ne);
}

-- what is kept, twice too
pub Keeps-none : (room : Room) → Keeps room room
Keeps-none room = record { lines = refl; spare = λ line. omega arith; after_fence = λ line. omega arith }

pub Keeps-more : {a b c : Room} → Keeps a b → Keeps b c → Keeps a c
Keeps-more p q = record {
  lines = q.lines ∙ p.lines;
  spare = λ line. omega (arith, p.spare line, q.spare line);
  after_fence = λ line. omega (arith, p.after_fence line, q.after_fence line);
}

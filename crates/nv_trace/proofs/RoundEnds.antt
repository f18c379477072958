-- Which bytes end a round, as they come.
use Rattle.std.proofs.Common.{◌≡◌, ◌≢◌, ℕ, suc, ◌<◌, Bool, true, false, eqb, ltb, min, List, [], ◌∷◌, ◌++◌, codes, length, get_or, take, drop, ◌||◌, inl, inr, refl, sym, ap, ◌∙◌, arith}
use Rattle.std.specs.List.{list_any}
use Rattle.std.proofs.lemmas.Bool.{false≢true, ltb-true, cases_lt, cond-false, ne_eqb}
use Rattle.std.proofs.lemmas.List.{append-nil, append_assoc, take-append-drop, take_all, length-append}
use Rattle.std.specs.Cmp.Lexicographic.{same_text}
use Rattle.nv_trace.specs.Lines.{but_last, parts_between}
use Rattle.nv_trace.specs.Pending.{HasEndedRound, HasTaken, IsStuckIn, EndsAt, onto_line, has_round_behind, lines_end, room_for}
use Rattle.nv_trace.specs.Reading.{Whole, longest_line}
use Rattle.nv_trace.specs.Rounds.{ends_round}
use Rattle.nv_trace.specs.Traced.{Traced}
use Rattle.nv_trace.specs.declared.pending_line.PendingLine.{PendingLine}
use Rattle.nv_trace.specs.declared.read_error.LineError.{LineError}
use Rattle.nv_trace.specs.declared.read_error.LineError.TheVariants as line_errors
use Rattle.nv_trace.proofs.Endings.{cut_off, is_settled, kept_settled}
use Rattle.nv_trace.proofs.Parts.{onto_line-append, onto_line_some, parts-append, parts_some}

no_round_by : (test : Bool) (line more : List ℕ) → ends_round (line ++ more) ≡ test → is_settled line ≡ true → test ≡ false
no_round_by false line more is settled = refl
no_round_by true [] more is settled = absurd (false≢true settled)
no_round_by true (first ∷ rest) more is settled =
    let text : (first ∷ rest) ++ more ≡ codes "round" = same_text ((first ∷ rest) ++ more) (codes "round") (sym is) in
    let letter : first ≡ 114 = ap (λ line. get_or line 0 0) text in
    let size : suc (length (rest ++ more)) ≡ 5 = ap length text in
    let long : ltb longest_line (length (first ∷ rest)) ≡ true = sym (cond-false (eqb first 35) true (ltb longest_line (length (first ∷ rest))) (ne_eqb first 35 (λ e. omega arith))) ∙ settled in
    absurd (omega (arith, ltb-true longest_line (length (first ∷ rest)) long, length-append rest more))

-- a line that is settled ends no round, whatever follows
settled_ends_none : (line more : List ℕ) → is_settled line ≡ true → ends_round (line ++ more) ≡ false
settled_ends_none line more settled = no_round_by (ends_round (line ++ more)) line more refl settled

same_first : (line other : List ℕ) (rest : List (List ℕ)) → ends_round line ≡ ends_round other → list_any ends_round (but_last (line ∷ rest)) ≡ list_any ends_round (but_last (other ∷ rest))
same_first line other [] same = refl
same_first line other (second ∷ rest) same = ap (λ test. test || list_any ends_round (but_last (second ∷ rest))) same

settled_round : (line more rest : List ℕ) → is_settled line ≡ true → has_round_behind line rest ≡ list_any ends_round (but_last (onto_line line (onto_line more (parts_between 10 rest))))
settled_round line more rest settled =
    let parts = parts_some 10 rest in
    let put : onto_line line (parts_between 10 rest) ≡ (line ++ parts.first) ∷ parts.rest = ap (onto_line line) parts.whole ∙ onto_line_some line parts.first parts.rest in
    let put_more : onto_line line (onto_line more (parts_between 10 rest)) ≡ (line ++ (more ++ parts.first)) ∷ parts.rest =
    ap (λ all. onto_line line (onto_line more all)) parts.whole ∙ ap (onto_line line) (onto_line_some more parts.first parts.rest) ∙ onto_line_some line (more ++ parts.first) parts.rest in
    ap (λ all. list_any ends_round (but_last all)) put
    ∙ same_first (line ++ parts.first) (line ++ (more ++ parts.first)) parts.rest (settled_ends_none line parts.first settled ∙ sym (settled_ends_none line (more ++ parts.first) settled))
    ∙ ap (λ all. list_any ends_round (but_last all)) (sym put_more)

-- keeping so much of more bytes of a line does
pub kept_round : (line part rest : List ℕ) → ((k : ℕ) → k < length part → get_or part k 0 ≢ 10)
    → has_round_behind (line ++ take (min (length part) (room_for line part)) part) rest ≡ has_round_behind line (part ++ rest)
kept_round line part rest none =
    let room = room_for line part in
    let parts = parts_between 10 rest in
    let all : onto_line line (onto_line part parts) ≡ onto_line line (parts_between 10 (part ++ rest)) = ap (onto_line line) (sym (parts-append 10 part rest none)) in
    elim (cases_lt room (length part)) [
      | inl less ↦
          let front = take room part in
          let behind = drop room part in
          let kept : take (min (length part) room) part ≡ front = ap (λ count. take count part) (omega arith) in
          let joined : onto_line (line ++ front) (onto_line behind parts) ≡ onto_line line (onto_line part parts) =
          onto_line-append line front (onto_line behind parts) ∙ ap (onto_line line) (sym (onto_line-append front behind parts)) ∙ ap (λ bytes. onto_line line (onto_line bytes parts)) (take-append-drop room part) in
          ap (λ bytes. has_round_behind (line ++ bytes) rest) kept
          ∙ settled_round (line ++ front) behind rest (kept_settled line part (eqb (get_or (line ++ part) 0 0) 35) refl less)
          ∙ ap (λ lines. list_any ends_round (but_last lines)) (joined ∙ all)
      | inr fits ↦
          let kept : take (min (length part) room) part ≡ part = take_all (min (length part) room) part (omega arith) in
          ap (λ bytes. has_round_behind (line ++ bytes) rest) kept
          ∙ ap (λ lines. list_any ends_round (but_last lines)) (onto_line-append line part parts ∙ all)
    ]

-- a line feed ends the pending line
pub round_ended : (line rest : List ℕ) → has_round_behind line (10 ∷ rest) ≡ (ends_round line || has_round_behind [] rest)
unfolding parts_between
round_ended line rest =
    let parts = parts_some 10 rest in
    let put : onto_line line ([] ∷ parts_between 10 rest) ≡ line ∷ parts_between 10 rest = onto_line_some line [] (parts_between 10 rest) ∙ ap (λ first. first ∷ parts_between 10 rest) (append-nil line) in
    let more : but_last (line ∷ parts_between 10 rest) ≡ line ∷ but_last (parts_between 10 rest) =
    ap (λ all. but_last (line ∷ all)) parts.whole ∙ ap (λ all. line ∷ but_last all) (sym parts.whole) in
    ap (λ all. list_any ends_round (but_last all)) put ∙ ap (list_any ends_round) more

pub none_ended : (line : List ℕ) → has_round_behind line [] ≡ false
unfolding parts_between
none_ended line = ap (λ parts. list_any ends_round (but_last parts)) (onto_line_some line [] [])

pub none_taken : (trace : Traced) (pending : PendingLine) → HasTaken trace pending [] trace pending
none_taken trace pending = record { lines = λ whole rest. refl; no_round = λ rest. refl }

pub taken_on : {first middle last : Traced} {old mid new : PendingLine} {front bytes : List ℕ} → HasTaken first old front middle mid → HasTaken middle mid bytes last new → HasTaken first old (front ++ bytes) last new
taken_on {first = first} {old = old} {front = front} {bytes = bytes} one two = record {
  lines = λ whole rest. two.lines whole rest ∙ one.lines whole (bytes ++ rest) ∙ ap (lines_end whole first old) (sym (append_assoc front bytes rest));
  no_round = λ rest. two.no_round rest ∙ one.no_round (bytes ++ rest) ∙ ap (has_round_behind old.line.items) (sym (append_assoc front bytes rest));
}

-- what a line feed does to a line that ends no round
pub line_taken : {trace next : Traced} {pending new : PendingLine} → ((whole : Bool) (rest : List ℕ) → lines_end whole next new rest ≡ lines_end whole trace pending (10 ∷ rest))
    → ends_round pending.line.items ≡ false → new.line.items ≡ [] → HasTaken trace pending (10 ∷ []) next new
line_taken {pending = pending} lines other bare = record {
  lines = lines;
  no_round = λ rest. ap (λ line. has_round_behind line rest) bare ∙ sym (round_ended pending.line.items rest ∙ ap (λ test. test || has_round_behind [] rest) other);
}

-- and to one that does
pub round_taken : {first trace next : Traced} {old pending new : PendingLine} {front : List ℕ} → HasTaken first old front trace pending
    → ((whole : Bool) (rest : List ℕ) → lines_end whole next new rest ≡ lines_end whole trace pending (10 ∷ rest))
    → ends_round pending.line.items ≡ true → new.line.items ≡ [] → HasEndedRound first old (front ++ 10 ∷ []) next new
round_taken {first = first} {old = old} {pending = pending} {front = front} taken lines this bare = record {
  lines = λ whole rest. lines whole rest ∙ taken.lines whole (10 ∷ rest) ∙ ap (lines_end whole first old) (sym (append_assoc front (10 ∷ []) rest));
  bare = bare;
  before = front;
  is = refl;
  first = sym (taken.no_round [] ∙ ap (has_round_behind old.line.items) (append-nil front)) ∙ none_ended pending.line.items;
  ended = sym (taken.no_round (10 ∷ [])) ∙ round_ended pending.line.items [] ∙ ap (λ test. test || has_round_behind [] []) this;
}

-- a line that is bad, behind bytes that end no round
pub stuck_at : {first trace : Traced} {old pending : PendingLine} {front : List ℕ} (bytes behind : List ℕ) (next : Traced) (error : LineError) → HasTaken first old front trace pending → next ≡ trace → bytes ≡ front ++ 10 ∷ behind
    → ((whole : Bool) (rest : List ℕ) → EndsAt error (lines_end whole trace pending (10 ∷ rest))) → IsStuckIn first old bytes next error
stuck_at {first = first} {trace = trace} {old = old} {pending = pending} {front = front} bytes behind next (line_errors.Bad bad) taken same is ends = record {
  front = front;
  behind = behind;
  is = is;
  no_round = sym (taken.no_round [] ∙ ap (has_round_behind old.line.items) (append-nil front)) ∙ none_ended pending.line.items;
  line = λ whole rest. sym (taken.lines whole (10 ∷ rest)) ∙ ends whole rest;
  kept = ap (lines_end false first old) (sym (append-nil front)) ∙ sym (taken.lines false []) ∙ cut_off trace pending.number pending.line.items ∙ ap Whole (sym same);
}
stuck_at bytes behind next line_errors.NoMemory taken same is ends = tt

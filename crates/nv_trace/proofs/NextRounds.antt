-- How a reader comes to the end of a round, as its source gives the input in pieces.
use Rattle.std.proofs.Common.{◌≡◌, ℕ, ◌+◌, ◌-◌, ◌<◌, ◌≤◌, Bool, true, false, List, [], ◌∷◌, ◌++◌, length, take, drop, Option, Some, None, IfSome, inl, inr, refl, sym, ap, subst, ◌∙◌, arith}
use Rattle.std.proofs.lemmas.Bool.{cases_lt, false≢true}
use Rattle.std.proofs.lemmas.List.{append-nil, append_assoc, drop_all, length-append, length-take, take-append-drop, take-append-le}
use Rattle.nv_trace.specs.Ahead.{HasFilled, HasTakenAhead, IsAheadRefused}
use Rattle.nv_trace.specs.Lines.{ended_lines}
use Rattle.nv_trace.specs.NextRound.{IsBadRound, IsLastRound, IsLongRound, IsNextRound, IsRoundRefused, ahead, input_ends}
use Rattle.nv_trace.specs.Pending.{EndsAt, HasTaken, IsStuckAt, ending_after, has_round_behind, lines_end}
use Rattle.nv_trace.specs.Reading.{Bad, Whole, after_lines, largest_input, long_unless_bad}
use Rattle.nv_trace.specs.Refused.{read_error}
use Rattle.nv_trace.specs.Rounds.{has_round}
use Rattle.nv_trace.specs.Traced.{Traced}
use Rattle.nv_trace.specs.declared.bad_line.BadLine.{BadLine}
use Rattle.nv_trace.specs.declared.pending_line.PendingLine.{PendingLine}
use Rattle.nv_trace.specs.declared.read_error.LineError.{LineError}
use Rattle.nv_trace.specs.declared.read_error.LineError.TheVariants as line_errors
use Rattle.nv_trace.specs.declared.read_error.ReadError.{ReadError}
use Rattle.nv_trace.specs.declared.read_error.ReadError.TheVariants as read_errors
use Rattle.nv_trace.specs.declared.reader.LineReader.{LineReader}
use Rattle.nv_trace.proofs.Endings.{at_end, continued, cut_off, ends_from, open_ended, past_limit, stopped, take_past}
use Rattle.nv_trace.proofs.Refusals.{last_line}
use Rattle.nv_trace.proofs.RoundEnds.{none_ended, none_taken, taken_on}

-- so far these bytes of the input were taken, which end no round; where the source tells, those ahead and those that are left follow them
pub record ReadsOn (old_trace : Traced) (old : LineReader) (told : Option (List ℕ)) (trace : Traced) (reader : LineReader) (left : Option (List ℕ)) : Type 0 where
  pub front : List ℕ
  pub taken : HasTaken old_trace old.pending front trace reader.pending
  pub count : reader.taken ≡ old.taken + length front
  pub rest : IfSome told (λ input. (rest : List ℕ) × (left ≡ Some rest) × (ahead old ++ input ≡ front ++ (ahead reader ++ rest)))

pub none_ahead : (reader : LineReader) → reader.start ≡ reader.end → ahead reader ≡ []
none_ahead reader is =
    ap (λ start. drop start (take reader.end reader.buffer.items)) is
    ∙ drop_all reader.end (take reader.end reader.buffer.items) (omega (arith, length-take reader.end reader.buffer.items))

starts : (reader : LineReader) (told : Option (List ℕ)) → IfSome told (λ input. (rest : List ℕ) × (told ≡ Some rest) × (ahead reader ++ input ≡ ahead reader ++ rest))
starts reader None = tt
starts reader (Some input) = (input, refl, refl)

pub at_start : (trace : Traced) (reader : LineReader) (told : Option (List ℕ)) → ReadsOn trace reader told trace reader told
at_start trace reader told = record { front = []; taken = none_taken trace reader.pending; count = omega arith; rest = starts reader told }

-- from the start of a line on, the lines that some bytes end are those that are read
as_lines : (trace : Traced) (pending : PendingLine) (bytes : List ℕ) → pending.line.items ≡ [] → after_lines trace pending.number (ended_lines bytes) ≡ lines_end false trace pending bytes
unfolding ending_after
as_lines trace pending bytes bare = ap (λ line. ending_after false trace pending.number line bytes) (sym bare)

-- the trace behind some bytes is the one behind the lines that they end
lines_kept : {old_trace trace : Traced} {old pending : PendingLine} {bytes : List ℕ} → HasTaken old_trace old bytes trace pending → lines_end false old_trace old bytes ≡ Whole trace
lines_kept {old_trace = old_trace} {trace = trace} {old = old} {pending = pending} {bytes = bytes} taken =
    ap (lines_end false old_trace old) (sym (append-nil bytes)) ∙ sym (taken.lines false []) ∙ cut_off trace pending.number pending.line.items

no_round_behind : {old_trace trace : Traced} {old pending : PendingLine} {bytes : List ℕ} → old.line.items ≡ [] → HasTaken old_trace old bytes trace pending → has_round bytes ≡ false
no_round_behind {old = old} {pending = pending} {bytes = bytes} bare taken =
    ap (λ line. has_round_behind line bytes) (sym bare) ∙ ap (has_round_behind old.line.items) (sym (append-nil bytes)) ∙ sym (taken.no_round []) ∙ none_ended pending.line.items

no_round_in : {old_trace trace : Traced} {old reader : LineReader} {told left : Option (List ℕ)} → old.pending.line.items ≡ [] → (reads : ReadsOn old_trace old told trace reader left) → has_round reads.front ≡ false
no_round_in bare reads = no_round_behind bare reads.taken

-- where the bytes at hand end a round, one at least is at hand
pub some_ahead : (first reader : LineReader) → reader ≡ first → has_round (ahead first) ≡ true → reader.start ≤ reader.end → reader.start < reader.end
some_ahead first reader same has order = elim (cases_lt reader.start reader.end) [
  | inl less ↦ less
  | inr more ↦ absurd (false≢true (sym (none_ended []) ∙ ap has_round (sym (none_ahead reader (omega arith))) ∙ ap (λ (reader : LineReader). has_round (ahead reader)) same ∙ has))
]

-- and they aren't all taken
pub not_taken : (trace next : Traced) (first reader : LineReader) (new : PendingLine) → reader ≡ first → first.pending.line.items ≡ [] → HasTaken trace reader.pending (ahead reader) next new → has_round (ahead first) ≡ true → ⊥
not_taken trace next first reader new same bare taken has =
    false≢true (sym (no_round_behind bare (subst (λ (reader : LineReader). HasTaken trace reader.pending (ahead reader) next new) same taken)) ∙ has)

module _ (old_trace : Traced) (old : LineReader) (trace : Traced) (reader : LineReader) where
  rest_filled : (told left next : Option (List ℕ)) (filled : LineReader) (some : Bool) (front : List ℕ)
      → IfSome told (λ input. (rest : List ℕ) × (left ≡ Some rest) × (ahead old ++ input ≡ front ++ (ahead reader ++ rest))) → HasFilled left next reader filled some
      → IfSome told (λ input. (rest : List ℕ) × (next ≡ Some rest) × (ahead old ++ input ≡ front ++ (ahead filled ++ rest)))
  rest_filled None left next filled some front reads fills = tt
  rest_filled (Some input) left next filled some front reads fills =
      let fill : (rest : List ℕ) × (next ≡ Some rest) × (ahead reader ++ reads.0 ≡ ahead filled ++ rest) =
      subst (λ left. IfSome left (λ input. (rest : List ℕ) × (next ≡ Some rest) × (ahead reader ++ input ≡ ahead filled ++ rest))) reads.1 fills.rest in
      (fill.0, fill.1, reads.2 ∙ ap (λ bytes. front ++ bytes) fill.2)

  -- the source was read once more, where no byte was ahead
  pub on_filled : (told left next : Option (List ℕ)) (filled : LineReader) (some : Bool) → filled.pending ≡ reader.pending → filled.taken ≡ reader.taken
      → ReadsOn old_trace old told trace reader left → HasFilled left next reader filled some → ReadsOn old_trace old told trace filled next
  on_filled told left next filled some same count reads fills = record {
    front = reads.front;
    taken = subst (λ pending. HasTaken old_trace old.pending reads.front trace pending) (sym same) reads.taken;
    count = count ∙ reads.count;
    rest = rest_filled told left next filled some reads.front reads.rest fills;
  }

  -- and gave none
  pub on_ended : (told left next : Option (List ℕ)) (filled : LineReader) (some : Bool) → some ≡ false → ReadsOn old_trace old told trace reader left → HasFilled left next reader filled some → IfSome told (λ _. next ≡ Some [])
  on_ended None left next filled some none reads fills = tt
  on_ended (Some input) left next filled some none reads fills = subst (λ left. IfSome left (λ _. next ≡ Some [])) reads.rest.1 (fills.at_end none)

  rest_taken : (told left : Option (List ℕ)) (new : LineReader) (front : List ℕ) → new.start ≡ new.end
      → IfSome told (λ input. (rest : List ℕ) × (left ≡ Some rest) × (ahead old ++ input ≡ front ++ (ahead reader ++ rest)))
      → IfSome told (λ input. (rest : List ℕ) × (left ≡ Some rest) × (ahead old ++ input ≡ (front ++ ahead reader) ++ (ahead new ++ rest)))
  rest_taken None left new front none reads = tt
  rest_taken (Some input) left new front none reads =
      (reads.0, reads.1, reads.2 ∙ sym (append_assoc front (ahead reader) reads.0) ∙ ap (λ bytes. (front ++ ahead reader) ++ (bytes ++ reads.0)) (sym (none_ahead new none)))

  -- all bytes ahead were taken
  pub on_taken : (told left : Option (List ℕ)) (next : Traced) (new : LineReader) → ReadsOn old_trace old told trace reader left → HasTakenAhead trace reader next new false → ReadsOn old_trace old told next new left
  on_taken told left next new reads all = record {
    front = reads.front ++ ahead reader;
    taken = taken_on reads.taken all.1;
    count = omega (arith, all.2, reads.count, length-append reads.front (ahead reader));
    rest = rest_taken told left new reads.front all.0 reads.rest;
  }

  -- Some of them end the round, whatever is behind it.
  round_of : (front : List ℕ) (next : Traced) (new : LineReader) → old.pending.line.items ≡ [] → new.taken ≤ largest_input → HasTaken old_trace old.pending front trace reader.pending → reader.taken ≡ old.taken + length front
      → (ended : HasTakenAhead trace reader next new true) (behind : List ℕ) → IsNextRound old_trace old ((front ++ ended.0) ++ behind) next new behind
  round_of front next new bare fits taken count more_taken behind =
      let bytes = more_taken.0 in
      let ended = more_taken.2 in
      let more = more_taken.3 in
      let lines : (whole : Bool) (rest : List ℕ) → lines_end whole next new.pending rest ≡ lines_end whole old_trace old.pending ((front ++ bytes) ++ rest) =
      λ whole rest. ended.lines whole rest ∙ taken.lines whole (bytes ++ rest) ∙ ap (lines_end whole old_trace old.pending) (sym (append_assoc front bytes rest)) in
      let has : (bytes : List ℕ) → has_round (front ++ bytes) ≡ has_round_behind reader.pending.line.items bytes =
      λ bytes. ap (λ line. has_round_behind line (front ++ bytes)) (sym bare) ∙ sym (taken.no_round bytes) in
      record {
        bytes = front ++ bytes;
        round = record {
          before = front ++ ended.before;
          is = ap (λ bytes. front ++ bytes) ended.is ∙ sym (append_assoc front ended.before (10 ∷ []));
          first = has ended.before ∙ ended.first;
          ended = has bytes ∙ ended.ended;
        };
        rest = refl;
        read = as_lines old_trace old.pending (front ++ bytes) bare ∙ ap (lines_end false old_trace old.pending) (sym (append-nil (front ++ bytes))) ∙ sym (lines false []) ∙ cut_off next new.pending.number new.pending.line.items;
        goes_on = λ more_bytes. continued old_trace next old.pending new.pending old.taken new.taken (front ++ bytes) more_bytes fits (omega (arith, more, count, length-append front bytes)) lines;
      }

  -- some of them end the round
  pub round_at : (told left : Option (List ℕ)) (next : Traced) (new : LineReader) → old.pending.line.items ≡ [] → new.taken ≤ largest_input → ReadsOn old_trace old told trace reader left → HasTakenAhead trace reader next new true
      → IfSome told (λ input. (rest : List ℕ) × (left ≡ Some rest) × IsNextRound old_trace old (ahead old ++ input) next new (ahead new ++ rest))
  round_at None left next new bare fits reads ended = tt
  round_at (Some input) left next new bare fits reads ended =
      let front = reads.front in
      let bytes = ended.0 in
      let rest = reads.rest.0 in
      let all : ahead old ++ input ≡ (front ++ bytes) ++ (ahead new ++ rest) =
      reads.rest.2 ∙ ap (λ ahead. front ++ (ahead ++ rest)) ended.1 ∙ ap (λ bytes. front ++ bytes) (append_assoc bytes (ahead new) rest) ∙ sym (append_assoc front bytes (ahead new ++ rest)) in (
        rest,
        reads.rest.1,
        subst (λ input. IsNextRound old_trace old input next new (ahead new ++ rest)) (sym all) (round_of front next new bare fits reads.taken reads.count ended (ahead new ++ rest)),
      )

  -- the input ends behind what was taken of it, and so does the round
  last_of : (front input : List ℕ) (next : Traced) (new : PendingLine) → old.pending.line.items ≡ [] → reader.taken ≤ largest_input → HasTaken old_trace old.pending front trace reader.pending → reader.taken ≡ old.taken + length front → input ≡ front
      → lines_end true trace reader.pending [] ≡ lines_end true next new [] → new.line.items ≡ [] → IsLastRound old_trace old input next
  last_of front input next new bare fits taken count all whole cleared =
      let goes_on : ends_from trace reader.pending reader.taken [] ≡ ends_from old_trace old.pending old.taken (front ++ []) = continued old_trace trace old.pending reader.pending old.taken reader.taken front [] fits count taken.lines in
      record {
        no_round = ap has_round all ∙ no_round_behind bare taken;
        whole = ap (input_ends old_trace old) (all ∙ sym (append-nil front)) ∙ sym goes_on ∙ at_end trace reader.pending reader.taken fits ∙ whole ∙ ap (λ line. ending_after true next new.number line []) cleared ∙ open_ended next new.number [];
      }

  -- whether the source tells or not, a round was read of some input
  pub round_alone : (told left : Option (List ℕ)) (next : Traced) (new : LineReader) → old.pending.line.items ≡ [] → new.taken ≤ largest_input → ReadsOn old_trace old told trace reader left → HasTakenAhead trace reader next new true
      → (input : List ℕ) × IsNextRound old_trace old input next new [] × (new.taken ≡ old.taken + length input)
  round_alone told left next new bare fits reads ended =
      let bytes = reads.front ++ ended.0 in
      let input = bytes ++ [] in
      (input, round_of reads.front next new bare fits reads.taken reads.count ended [], omega (arith, reads.count, ended.3, length-append reads.front ended.0, length-append bytes []))

  -- so was the last one
  pub last_alone : (told left : Option (List ℕ)) (next : Traced) (new : PendingLine) → old.pending.line.items ≡ [] → reader.taken ≤ largest_input → ReadsOn old_trace old told trace reader left
      → lines_end true trace reader.pending [] ≡ lines_end true next new [] → new.line.items ≡ [] → (input : List ℕ) × IsLastRound old_trace old input next × (reader.taken ≡ old.taken + length input)
  last_alone told left next new bare fits reads whole cleared = (reads.front, last_of reads.front reads.front next new bare fits reads.taken reads.count refl whole cleared, reads.count)

  -- a round has a byte
  pub further : (next : Traced) (new : LineReader) → old.taken ≤ reader.taken → HasTakenAhead trace reader next new true → old.taken < new.taken
  further next new before taken = omega (arith, before, taken.3, ap length taken.2.is, length-append taken.2.before (10 ∷ []))

  -- the input is at its end, and so is the round
  pub last_at : (told left : Option (List ℕ)) (next : Traced) (new : PendingLine) → old.pending.line.items ≡ [] → reader.taken ≤ largest_input → reader.start ≡ reader.end → ReadsOn old_trace old told trace reader left
      → IfSome told (λ _. left ≡ Some []) → lines_end true trace reader.pending [] ≡ lines_end true next new [] → new.line.items ≡ []
      → IfSome told (λ input. (left ≡ Some []) × IsLastRound old_trace old (ahead old ++ input) next)
  last_at None left next new bare fits none reads ends whole cleared = tt
  last_at (Some input) left next new bare fits none reads ends whole cleared =
      let ended : reads.rest.0 ≡ [] = subst (λ left. IfSome left (λ input. input ≡ [])) (sym ends ∙ reads.rest.1) refl in
      let all : ahead old ++ input ≡ reads.front = reads.rest.2 ∙ ap (λ bytes. reads.front ++ (bytes ++ reads.rest.0)) (none_ahead reader none) ∙ ap (λ bytes. reads.front ++ bytes) ended ∙ append-nil reads.front in
      (reads.rest.1 ∙ ap Some ended, last_of reads.front (ahead old ++ input) next new bare fits reads.taken reads.count all whole cleared)

  -- the last line is bad, which no line feed ends
  pub bad_last : (told left : Option (List ℕ)) (next : Traced) (error : LineError) → next ≡ trace → old.pending.line.items ≡ [] → reader.taken ≤ largest_input → reader.start ≡ reader.end → ReadsOn old_trace old told trace reader left
      → IfSome told (λ _. left ≡ Some []) → 0 < length reader.pending.line.items → ((whole : Bool) (rest : List ℕ) → EndsAt error (lines_end whole trace reader.pending (10 ∷ rest)))
      → IfSome told (λ input. IsRoundRefused old_trace old (ahead old ++ input) next (read_error error))
  bad_last None left next error same bare fits none reads ends some bad = tt
  bad_last (Some input) left next line_errors.NoMemory same bare fits none reads ends some bad = tt
  bad_last (Some input) left next (line_errors.Bad line) same bare fits none reads ends some bad =
      let front = reads.front in
      let ended : reads.rest.0 ≡ [] = subst (λ left. IfSome left (λ input. input ≡ [])) (sym ends ∙ reads.rest.1) refl in
      let all : ahead old ++ input ≡ front ++ [] = reads.rest.2 ∙ ap (λ bytes. front ++ (bytes ++ reads.rest.0)) (none_ahead reader none) ∙ ap (λ bytes. front ++ bytes) ended in
      let goes_on : ends_from trace reader.pending reader.taken [] ≡ ends_from old_trace old.pending old.taken (front ++ []) = continued old_trace trace old.pending reader.pending old.taken reader.taken front [] fits reads.count reads.taken.lines in
      record {
        front = front;
        rest = [];
        is = all;
        ends = inl refl;
        no_round = no_round_in bare reads;
        line = as_lines old_trace old.pending (front ++ 10 ∷ []) bare ∙ sym (reads.taken.lines false (10 ∷ [])) ∙ bad false [];
        kept = as_lines old_trace old.pending front bare ∙ lines_kept reads.taken ∙ ap Whole (sym same);
        whole = ap (input_ends old_trace old) all ∙ sym goes_on ∙ at_end trace reader.pending reader.taken fits ∙ last_line trace reader.pending some ∙ bad true [];
      }

  -- a line that is ended is bad
  pub bad_at : (told left : Option (List ℕ)) (next : Traced) (bad : BadLine) → old.pending.line.items ≡ [] → reader.taken ≤ largest_input → ReadsOn old_trace old told trace reader left
      → IsStuckAt trace reader.pending (take (largest_input - reader.taken) (ahead reader)) next bad → IfSome told (λ input. IsBadRound old_trace old (ahead old ++ input) next bad)
  bad_at None left next bad bare fits reads stuck = tt
  bad_at (Some input) left next bad bare fits reads stuck =
      let front = reads.front in
      let room = largest_input - reader.taken in
      let within = take room (ahead reader) in
      let later = drop room (ahead reader) ++ reads.rest.0 in
      let lines : (whole : Bool) (rest : List ℕ) → lines_end whole old_trace old.pending (front ++ (stuck.front ++ 10 ∷ rest)) ≡ Bad bad = λ whole rest. sym (reads.taken.lines whole (stuck.front ++ 10 ∷ rest)) ∙ stuck.line whole rest in
      let parts : within ++ later ≡ ahead reader ++ reads.rest.0 = sym (append_assoc within (drop room (ahead reader)) reads.rest.0) ∙ ap (λ bytes. bytes ++ reads.rest.0) (take-append-drop room (ahead reader)) in
      let all : ahead old ++ input ≡ (front ++ within) ++ later = reads.rest.2 ∙ ap (λ bytes. front ++ bytes) (sym parts) ∙ sym (append_assoc front within later) in
      let split : within ++ later ≡ stuck.front ++ (10 ∷ (stuck.behind ++ later)) = ap (λ bytes. bytes ++ later) stuck.is ∙ append_assoc stuck.front (10 ∷ stuck.behind) later in
      let said : (whole : Bool) (rest : List ℕ) → lines_end whole old_trace old.pending ((front ++ within) ++ rest) ≡ Bad bad =
      λ whole rest. ap (lines_end whole old_trace old.pending) (append_assoc front within rest ∙ ap (λ bytes. front ++ (bytes ++ rest)) stuck.is ∙ ap (λ bytes. front ++ bytes) (append_assoc stuck.front (10 ∷ stuck.behind) rest)) ∙ lines whole (stuck.behind ++ rest) in
      record {
        front = front ++ stuck.front;
        rest = 10 ∷ (stuck.behind ++ later);
        is = all ∙ append_assoc front within later ∙ ap (λ bytes. front ++ bytes) split ∙ sym (append_assoc front stuck.front (10 ∷ (stuck.behind ++ later)));
        ends = inr (stuck.behind ++ later, refl);
        no_round = ap (λ line. has_round_behind line (front ++ stuck.front)) (sym bare) ∙ sym (reads.taken.no_round stuck.front) ∙ stuck.no_round;
        line = as_lines old_trace old.pending ((front ++ stuck.front) ++ 10 ∷ []) bare ∙ ap (lines_end false old_trace old.pending) (append_assoc front stuck.front (10 ∷ [])) ∙ lines false [];
        kept = as_lines old_trace old.pending (front ++ stuck.front) bare ∙ sym (reads.taken.lines false stuck.front) ∙ stuck.kept;
        whole = ap (input_ends old_trace old) all ∙ stopped old_trace old.pending old.taken (front ++ within) later bad (omega (arith, fits, reads.count, length-append front within, length-take room (ahead reader))) said;
      }

  -- the bytes within the limit end no round, and others follow
  pub long_at : (told left : Option (List ℕ)) (next : Traced) → old.pending.line.items ≡ [] → reader.taken ≤ largest_input → ReadsOn old_trace old told trace reader left → IsAheadRefused trace reader next read_errors.InputLong
      → IfSome told (λ input. IsLongRound old_trace old (ahead old ++ input) next)
  long_at None left next bare fits reads past = tt
  long_at (Some input) left next bare fits reads past_ahead =
      let front = reads.front in
      let past = past_ahead.0 in
      let new = past_ahead.1 in
      let taken = past_ahead.2 in
      let room = largest_input - reader.taken in
      let within = take room (ahead reader) in
      let behind = taken_on reads.taken taken in
      let cut : take (largest_input - old.taken) (ahead old ++ input) ≡ front ++ within =
      ap (take (largest_input - old.taken)) reads.rest.2
      ∙ take_past (largest_input - old.taken) front (ahead reader ++ reads.rest.0) (omega (arith, fits, reads.count))
      ∙ ap (λ n. front ++ take n (ahead reader ++ reads.rest.0)) (omega (arith, reads.count))
      ∙ ap (λ bytes. front ++ bytes) (take-append-le room (ahead reader) reads.rest.0 (omega (arith, past))) in
      let size : length (ahead old ++ input) ≡ length front + (length (ahead reader) + length reads.rest.0) = ap length reads.rest.2 ∙ length-append front (ahead reader ++ reads.rest.0) ∙ ap (λ n. length front + n) (length-append (ahead reader) reads.rest.0) in
      let ends : lines_end false old_trace old.pending (front ++ within) ≡ Whole next = ap (lines_end false old_trace old.pending) (sym (append-nil (front ++ within))) ∙ sym (behind.lines false []) ∙ cut_off next new.number new.line.items in
      record {
        no_round = ap has_round cut ∙ no_round_behind bare behind;
        kept = ap (λ bytes. after_lines old_trace old.pending.number (ended_lines bytes)) cut ∙ as_lines old_trace old.pending (front ++ within) bare ∙ ends;
        whole = past_limit old_trace old.pending old.taken (ahead old ++ input) (omega (arith, size, past, reads.count)) ∙ ap (λ bytes. long_unless_bad (lines_end false old_trace old.pending bytes)) cut ∙ ap long_unless_bad ends;
      }

  -- what is ahead is refused
  pub refused_at : (told left : Option (List ℕ)) (next : Traced) (error : ReadError) → old.pending.line.items ≡ [] → reader.taken ≤ largest_input → ReadsOn old_trace old told trace reader left → IsAheadRefused trace reader next error
      → IfSome told (λ input. IsRoundRefused old_trace old (ahead old ++ input) next error)
  refused_at told left next (read_errors.Bad bad) bare fits reads refused = bad_at told left next bad bare fits reads refused
  refused_at told left next read_errors.InputLong bare fits reads refused = long_at told left next bare fits reads refused
  refused_at None left next read_errors.Failed bare fits reads refused = tt
  refused_at (Some input) left next read_errors.Failed bare fits reads refused = tt
  refused_at None left next read_errors.NoMemory bare fits reads refused = tt
  refused_at (Some input) left next read_errors.NoMemory bare fits reads refused = tt

-- a failed read tells nothing
pub failed_tells : (trace next : Traced) (reader : LineReader) (told : Option (List ℕ)) → IfSome told (λ input. IsRoundRefused trace reader (ahead reader ++ input) next read_errors.Failed)
failed_tells trace next reader None = tt
failed_tells trace next reader (Some input) = tt

-- Calls that were dropped change nothing of what later lines say, once a round has ended.
use Rattle.std.proofs.Common.{◌≡◌, ℕ, ◌+◌, ◌-◌, ◌<◌, Bool, true, false, ◌||◌, ◌==◌, cond, leb, ltb, List, [], ◌∷◌, codes, length, take, Result, Ok, Err, refl, sym, ap, subst, ◌∙◌, arith}
use Rattle.std.specs.Prelude.{IfOk}
use Rattle.std.specs.List.{list_any}
use Rattle.std.specs.Cmp.Lexicographic.{same_text}
use Rattle.std.proofs.lemmas.Bool.{false≢true, lt-ltb}
use Rattle.std.proofs.lemmas.List.{append_assoc}
use Rattle.nv_trace.specs.Forms.{has_rounds}
use Rattle.nv_trace.specs.Grammar.{and_then, says}
use Rattle.nv_trace.specs.Lines.{parts_between}
use Rattle.nv_trace.specs.Pending.{counted_lines, ending_after, ending_from, onto_line}
use Rattle.nv_trace.specs.ReadRounds.{behind_calls, ends_behind}
use Rattle.nv_trace.specs.Reading.{Ending, Whole, Bad, Long, after_fields, after_line, after_lines, fields_said, is_skipped, largest_input, long_unless_bad, unless_bad, with_statement, with_tokens}
use Rattle.nv_trace.specs.Rounds.{ends_round}
use Rattle.nv_trace.specs.Said.{call_on, is_schedule, new_descriptor, new_name, said, said_by, said_file, tokens_said}
use Rattle.nv_trace.specs.Traced.{Traced, has_begun, has_tokens}
use Rattle.nv_trace.specs.declared.bad_line.Why.{Why}
use Rattle.nv_trace.specs.declared.bad_line.Why.TheVariants.{Form as BadForm, Late}
use Rattle.nv_trace.specs.declared.statement.Statement.{Statement}
use Rattle.nv_trace.specs.declared.statement.Statement.TheVariants.{File, Opened, Call, Round}
use Rattle.nv_trace.specs.declared.token.LineToken.{LineToken}
use Rattle.nv_trace.specs.declared.trace_call.TracedCall.{TracedCall}

-- a trace with a round behind it has begun, whatever calls it holds
or_middle : (first middle last : Bool) → middle ≡ true → (first || middle || last) ≡ true
or_middle true true last is = refl
or_middle false true last is = refl
or_middle first false last is = absurd (false≢true is)

pub has_round_begun : (trace : Traced) → 0 < trace.rounds → has_begun trace ≡ true
has_round_begun trace some = or_middle (ltb 0 (length trace.calls)) (ltb 0 trace.rounds) (has_tokens trace) (lt-ltb 0 trace.rounds some)

abbrev pub result_behind : List TracedCall → Result Traced Why → Result Traced Why
result_behind calls (Ok trace) = Ok (behind_calls calls trace)
result_behind calls (Err why) = Err why

late_alike : {A : Type 0} {a b : Bool} (other : Result A Why) → a ≡ b → cond a (Err Late) other ≡ cond b (Err Late) other
late_alike other same = ap (λ begun. cond begun (Err Late) other) same

module _ (calls : List TracedCall) (trace : Traced) (some : 0 < trace.rounds) where
  same_begun : has_begun (behind_calls calls trace) ≡ has_begun trace
  same_begun = has_round_begun (behind_calls calls trace) some ∙ sym (has_round_begun trace some)

  same_name : (name : List ℕ) → new_name (behind_calls calls trace) name ≡ new_name trace name
  unfolding new_name
  same_name name = late_alike _ same_begun

  same_descriptor : (number name mode : List ℕ) → new_descriptor (behind_calls calls trace) number name mode ≡ new_descriptor trace number name mode
  unfolding new_descriptor said_file
  same_descriptor number name mode = late_alike _ same_begun

  same_said_by : (fields : List (List ℕ)) → said_by (behind_calls calls trace) fields ≡ said_by trace fields
  unfolding said_by call_on
  same_said_by [] = refl
  same_said_by (word ∷ []) = refl
  same_said_by (word ∷ name ∷ []) = ap (λ name. cond (says word (codes "file")) (and_then (λ name. Ok (File name)) name) (Err BadForm)) (same_name name)
  same_said_by (thread ∷ word ∷ fd ∷ []) = refl
  same_said_by (word ∷ number ∷ name ∷ mode ∷ []) = ap (λ statement. cond (says word (codes "fd")) statement (Err BadForm)) (same_descriptor number name mode)
  same_said_by (thread ∷ word ∷ fd ∷ at ∷ last ∷ []) = refl
  same_said_by (thread ∷ word ∷ fd ∷ at ∷ len ∷ byte ∷ []) = refl
  same_said_by (one ∷ two ∷ three ∷ four ∷ five ∷ six ∷ seven ∷ more) = refl

  same_said : (fields : List (List ℕ)) → said (behind_calls calls trace) fields ≡ said trace fields
  unfolding said
  same_said fields = ap (λ said. cond (list_any (λ field. length field == 0) fields) (Err BadForm) said) (same_said_by fields)

  same_tokens : (fields : List (List ℕ)) → tokens_said (behind_calls calls trace) fields ≡ tokens_said trace fields
  unfolding tokens_said
  same_tokens [] = refl
  same_tokens (word ∷ []) = refl
  same_tokens (word ∷ field ∷ fields) = refl

  tokens_on : (tokens : Result (List LineToken) Why) → and_then (λ tokens. Ok (with_tokens (behind_calls calls trace) tokens)) tokens ≡ result_behind calls (and_then (λ tokens. Ok (with_tokens trace tokens)) tokens)
  tokens_on (Ok tokens) = refl
  tokens_on (Err why) = refl

  statement_on : (number : ℕ) (statement : Result Statement Why) → and_then (λ statement. Ok (with_statement (behind_calls calls trace) number statement)) statement ≡ result_behind calls (and_then (λ statement. Ok (with_statement trace number statement)) statement)
  statement_on number (Ok (File name)) = refl
  statement_on number (Ok (Opened descriptor)) = refl
  statement_on number (Ok (Call thread call)) = ap (λ calls. Ok (record trace { calls = calls })) (append_assoc calls trace.calls (record { line = number; round = trace.rounds; thread = thread; call = call } ∷ []))
  statement_on number (Ok Round) = refl
  statement_on number (Err why) = refl

  either_on : (test : Bool) (a b c d : Result Traced Why) → a ≡ result_behind calls c → b ≡ result_behind calls d → cond test a b ≡ result_behind calls (cond test c d)
  either_on true a b c d p q = p
  either_on false a b c d p q = q

  fields_on : (number : ℕ) (fields : List (List ℕ)) → after_fields (behind_calls calls trace) number fields ≡ result_behind calls (after_fields trace number fields)
  unfolding after_fields
  fields_on number fields = either_on (is_schedule fields) _ _ _ _
      (ap (and_then (λ tokens. Ok (with_tokens (behind_calls calls trace) tokens))) (same_tokens fields) ∙ tokens_on (tokens_said trace fields))
      (ap (and_then (λ statement. Ok (with_statement (behind_calls calls trace) number statement))) (same_said fields) ∙ statement_on number (said trace fields))

  said_on : (number : ℕ) (read : Result (List (List ℕ)) Why) → and_then (after_fields (behind_calls calls trace) number) read ≡ result_behind calls (and_then (after_fields trace number) read)
  said_on number (Ok fields) = fields_on number fields
  said_on number (Err why) = refl

  line_on : (number : ℕ) (line : List ℕ) → after_line (behind_calls calls trace) number line ≡ result_behind calls (after_line trace number line)
  unfolding after_line
  line_on number line = either_on (is_skipped line) _ _ _ _ refl (said_on number (fields_said line))

-- the rounds that ended stay
module _ (trace : Traced) where
  tokens_stay : (tokens : Result (List LineToken) Why) → 0 < trace.rounds → IfOk (and_then (λ tokens. Ok (with_tokens trace tokens)) tokens) (λ next. 0 < next.rounds)
  tokens_stay (Ok tokens) some = some
  tokens_stay (Err why) some = tt

  statement_stays : (number : ℕ) (statement : Result Statement Why) → 0 < trace.rounds → IfOk (and_then (λ statement. Ok (with_statement trace number statement)) statement) (λ next. 0 < next.rounds)
  statement_stays number (Ok (File name)) some = some
  statement_stays number (Ok (Opened descriptor)) some = some
  statement_stays number (Ok (Call thread call)) some = some
  statement_stays number (Ok Round) some = omega arith
  statement_stays number (Err why) some = tt

  either_stays : (test : Bool) (a b : Result Traced Why) → IfOk a (λ next. 0 < next.rounds) → IfOk b (λ next. 0 < next.rounds) → IfOk (cond test a b) (λ next. 0 < next.rounds)
  either_stays true a b p q = p
  either_stays false a b p q = q

  fields_stay : (number : ℕ) (read : Result (List (List ℕ)) Why) → 0 < trace.rounds → IfOk (and_then (after_fields trace number) read) (λ next. 0 < next.rounds)
  unfolding after_fields
  fields_stay number (Ok fields) some = either_stays (is_schedule fields) _ _ (tokens_stay (tokens_said trace fields) some) (statement_stays number (said trace fields) some)
  fields_stay number (Err why) some = tt

  pub line_stays : (number : ℕ) (line : List ℕ) → 0 < trace.rounds → IfOk (after_line trace number line) (λ next. 0 < next.rounds)
  unfolding after_line
  line_stays number line some = either_stays (is_skipped line) _ _ some (fields_stay number (fields_said line) some)

-- where the lines end well, a round ended
abbrev pub HasEnded : Ending → Type 0
HasEnded (Whole trace) = 0 < trace.rounds
HasEnded (Bad bad) = Unit {0}
HasEnded Long = Unit {0}

ended_on : (number : ℕ) (lines : List (List ℕ)) (after : Result Traced Why) → ((next : Traced) → 0 < next.rounds → HasEnded (after_lines next (number + 1) lines)) → IfOk after (λ next. 0 < next.rounds)
    → HasEnded (unless_bad number (λ next. after_lines next (number + 1) lines) after)
ended_on number lines (Ok next) on some = on next some
ended_on number lines (Err why) on some = tt

lines_stay : (trace : Traced) (number : ℕ) (lines : List (List ℕ)) → 0 < trace.rounds → HasEnded (after_lines trace number lines)
unfolding after_lines
lines_stay trace number [] some = some
lines_stay trace number (line ∷ lines) some = ended_on number lines (after_line trace number line) (λ next. lines_stay next (number + 1) lines) (line_stays trace number line some)

round_cases : (trace : Traced) (number : ℕ) (may : Bool) → IfOk (and_then (λ statement. Ok (with_statement trace number statement)) (cond may (Ok Round) (Err BadForm))) (λ next. 0 < next.rounds)
round_cases trace number true = omega arith
round_cases trace number false = tt

round_word : (trace : Traced) (number : ℕ) → IfOk (after_line trace number (codes "round")) (λ next. 0 < next.rounds)
unfolding after_line fields_said after_fields said said_by parts_between
round_word trace number = round_cases trace number (has_rounds trace.form)

round_line : (trace : Traced) (number : ℕ) (line : List ℕ) → ends_round line ≡ true → IfOk (after_line trace number line) (λ next. 0 < next.rounds)
round_line trace number line this = subst (λ line. IfOk (after_line trace number line) (λ next. 0 < next.rounds)) (sym (same_text line (codes "round") (sym this))) (round_word trace number)

any_on : (number : ℕ) (lines : List (List ℕ)) (after : Result Traced Why) → ((next : Traced) → HasEnded (after_lines next (number + 1) lines)) → HasEnded (unless_bad number (λ next. after_lines next (number + 1) lines) after)
any_on number lines (Ok next) on = on next
any_on number lines (Err why) on = tt

by_first : (trace : Traced) (number : ℕ) (line : List ℕ) (lines : List (List ℕ)) (test : Bool) → ends_round line ≡ test → (test || list_any ends_round lines) ≡ true
    → (list_any ends_round lines ≡ true → (next : Traced) → HasEnded (after_lines next (number + 1) lines)) → HasEnded (unless_bad number (λ next. after_lines next (number + 1) lines) (after_line trace number line))
by_first trace number line lines true this any on = ended_on number lines (after_line trace number line) (λ next. lines_stay next (number + 1) lines) (round_line trace number line this)
by_first trace number line lines false other any on = any_on number lines (after_line trace number line) (on any)

-- one of them is a `round` line
round_counts : (trace : Traced) (number : ℕ) (lines : List (List ℕ)) → list_any ends_round lines ≡ true → HasEnded (after_lines trace number lines)
unfolding after_lines
round_counts trace number [] any = absurd (false≢true any)
round_counts trace number (line ∷ lines) any = by_first trace number line lines (ends_round line) refl any (λ any next. round_counts next (number + 1) lines any)

pub round_ends : (trace next : Traced) (number : ℕ) (lines : List (List ℕ)) → list_any ends_round lines ≡ true → after_lines trace number lines ≡ Whole next → 0 < next.rounds
round_ends trace next number lines any whole = subst HasEnded whole (round_counts trace number lines any)

behind_on : (calls : List TracedCall) (number : ℕ) (lines : List (List ℕ)) (after : Result Traced Why)
    → ((next : Traced) → 0 < next.rounds → after_lines (behind_calls calls next) (number + 1) lines ≡ ends_behind calls (after_lines next (number + 1) lines)) → IfOk after (λ next. 0 < next.rounds)
    → unless_bad number (λ next. after_lines next (number + 1) lines) (result_behind calls after) ≡ ends_behind calls (unless_bad number (λ next. after_lines next (number + 1) lines) after)
behind_on calls number lines (Ok next) on some = on next some
behind_on calls number lines (Err why) on some = refl

lines_behind : (calls : List TracedCall) (trace : Traced) (number : ℕ) (lines : List (List ℕ)) → 0 < trace.rounds → after_lines (behind_calls calls trace) number lines ≡ ends_behind calls (after_lines trace number lines)
unfolding after_lines
lines_behind calls trace number [] some = refl
lines_behind calls trace number (line ∷ lines) some =
    ap (unless_bad number (λ next. after_lines next (number + 1) lines)) (line_on calls trace some number line)
    ∙ behind_on calls number lines (after_line trace number line) (λ next. lines_behind calls next (number + 1) lines) (line_stays trace number line some)

long_on : (calls : List TracedCall) (ending : Ending) → long_unless_bad (ends_behind calls ending) ≡ ends_behind calls (long_unless_bad ending)
long_on calls (Whole trace) = refl
long_on calls (Bad bad) = refl
long_on calls Long = refl

limit_on : (calls : List TracedCall) (test : Bool) (a b c d : Ending) → a ≡ ends_behind calls c → b ≡ ends_behind calls d → cond test a (long_unless_bad b) ≡ ends_behind calls (cond test c (long_unless_bad d))
limit_on calls true a b c d p q = p
limit_on calls false a b c d p q = ap long_unless_bad q ∙ long_on calls d

-- the rest of an input ends alike, with those calls before those of its trace
pub input_behind : (calls : List TracedCall) (trace : Traced) (number : ℕ) (line : List ℕ) (taken : ℕ) (rest : List ℕ) → 0 < trace.rounds → ending_from (behind_calls calls trace) number line taken rest ≡ ends_behind calls (ending_from trace number line taken rest)
unfolding ending_from ending_after
input_behind calls trace number line taken rest some =
    limit_on calls (leb (taken + length rest) largest_input) _ _ _ _
    (lines_behind calls trace number (counted_lines true (onto_line line (parts_between 10 rest))) some)
    (lines_behind calls trace number (counted_lines false (onto_line line (parts_between 10 (take (largest_input - taken) rest)))) some)

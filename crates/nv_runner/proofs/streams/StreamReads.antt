-- Which rounds of an input were read so far, and which trace they are.
use Rattle.std.proofs.Common.{◌≡◌, ℕ, Bool, true, false, List, [], ◌∷◌, ◌++◌, inl, inr, refl, sym, ap, subst, ◌∙◌, append_assoc, append-nil}
use Rattle.std.specs.Prelude.{Option, Some, None, IfSome, Result, Ok, Err}
use Rattle.std.proofs.lemmas.Bool.{false≢true}
use Rattle.nv_trace.specs.NextRound.{IsAtLine, IsLastRound, IsNextRound, IsRoundRefused, ahead}
use Rattle.nv_trace.specs.ReadRounds.{AreReadFrom, ReadRound, behind_calls, calls_read, without_calls}
use Rattle.nv_trace.specs.Traced.{Traced}
use Rattle.nv_trace.specs.declared.read_error.ReadError.{ReadError}
use Rattle.nv_trace.specs.declared.read_error.ReadError.TheVariants as read_errors
use Rattle.nv_trace.specs.declared.reader.LineReader.{LineReader}
use Rattle.nv_trace.specs.declared.trace_call.TracedCall.{TracedCall}
use Rattle.nv_runner.specs.declared.stream.StreamError.{StreamError}
use Rattle.nv_runner.specs.declared.stream.StreamError.TheVariants.{NoMemory, Read, Write}
use Rattle.nv_runner.specs.Streams.{AreRoundsOf, IsAllRead, IsEndOfRounds, NoneWasRead, ReadNoMore, stream_error}

-- ---- rounds, one behind the other

-- what is said of where they go on
pub read_more : (rounds : List ReadRound) (trace : Traced) (reader : LineReader) (input : List ℕ) (P Q : Traced → LineReader → List ℕ → Type 0)
    → ((trace : Traced) (reader : LineReader) (input : List ℕ) → P trace reader input → Q trace reader input) → AreReadFrom trace reader input rounds P → AreReadFrom trace reader input rounds Q
read_more [] trace reader input P Q more read = more trace reader input read
read_more (round ∷ rounds) trace reader input P Q more read = (read.0, read_more rounds (without_calls round.trace) round.reader round.behind P Q more read.1)

-- one round more
pub read_next : (rounds : List ReadRound) (trace : Traced) (reader : LineReader) (input : List ℕ) (next : ReadRound) (P Q : Traced → LineReader → List ℕ → Type 0)
    → ((trace : Traced) (reader : LineReader) (input : List ℕ) → P trace reader input → IsNextRound trace reader input next.trace next.reader next.behind × Q (without_calls next.trace) next.reader next.behind)
    → AreReadFrom trace reader input rounds P → AreReadFrom trace reader input (rounds ++ next ∷ []) Q
read_next [] trace reader input next P Q more read = more trace reader input read
read_next (round ∷ rounds) trace reader input next P Q more read = (read.0, read_next rounds (without_calls round.trace) round.reader round.behind next P Q more read.1)

pub calls_next : (rounds : List ReadRound) (next : ReadRound) → calls_read (rounds ++ next ∷ []) ≡ calls_read rounds ++ next.trace.calls
calls_next [] next = append-nil next.trace.calls
calls_next (round ∷ rounds) next = ap (λ calls. round.trace.calls ++ calls) (calls_next rounds next) ∙ sym (append_assoc round.trace.calls (calls_read rounds) next.trace.calls)

-- ---- the round at hand

-- here the reading goes on
abbrev pub GoesOnAt : Traced → LineReader → (behind : List ℕ) → Traced → LineReader → List ℕ → Type 0
GoesOnAt now reader behind trace at input = (trace ≡ without_calls now) × (at ≡ reader) × (input ≡ behind)

-- Of an input these rounds were read behind the first one, the one at hand among them, where a line ended it.
pub record AreEnded (first : Traced) (start : LineReader) (input : List ℕ) (now : Traced) (reader : LineReader) (behind : List ℕ) (before : List TracedCall) : Type 0 where
  pub rounds : List ReadRound
  pub read : AreReadFrom (without_calls first) start input rounds (GoesOnAt now reader behind)
  pub calls : first.calls ++ calls_read rounds ≡ before ++ now.calls

-- The one at hand is the last.
pub record IsLastOf (first : Traced) (start : LineReader) (input : List ℕ) (now : Traced) (before : List TracedCall) : Type 0 where
  pub rounds : List ReadRound
  pub read : AreReadFrom (without_calls first) start input rounds (λ trace reader input. IsLastRound trace reader input now)
  pub calls : first.calls ++ calls_read rounds ≡ before

-- the round at hand, where a line ended the first one or not, and where one ended it or not
abbrev pub IsHandOf : (first_more more : Bool) → (first : Traced) → LineReader → (input : List ℕ) → (now : Traced) → LineReader → (behind : List ℕ) → (before : List TracedCall) → Type 0
IsHandOf false more first start input now reader behind before = (more ≡ false) × (before ≡ []) × (now ≡ first)
IsHandOf true true first start input now reader behind before = AreEnded first start input now reader behind before
IsHandOf true false first start input now reader behind before = IsLastOf first start input now before

-- where the source tells
abbrev pub HandIs : (first_more more : Bool) → (first : Traced) → LineReader → (told : Option (List ℕ)) → (now : Traced) → LineReader → (left : Option (List ℕ)) → (before : List TracedCall) → Type 0
HandIs first_more more first start told now reader left before =
    IfSome told (λ input. (rest : List ℕ) × (left ≡ Some rest) × IsHandOf first_more more first start (ahead start ++ input) now reader (ahead reader ++ rest) before)

-- so the first one is
first_is : (more : Bool) (first : Traced) (start : LineReader) (input : List ℕ) → IsHandOf more more first start (ahead start ++ input) first start (ahead start ++ input) []
first_is false first start input = (refl, refl, refl)
first_is true first start input = record { rounds = []; read = (refl, refl, refl); calls = append-nil first.calls }

pub first_hand : (more : Bool) (first : Traced) (start : LineReader) (told : Option (List ℕ)) → HandIs more more first start told first start told []
first_hand more first start None = tt
first_hand more first start (Some input) = (input, refl, first_is more first start input)

-- ---- one more is read

module _ (first : Traced) (start : LineReader) (now : Traced) (reader : LineReader) (next : Traced) (new : LineReader) (before : List TracedCall) where
  -- a line ended it
  ended_next : (input behind later : List ℕ) → AreEnded first start input now reader behind before → IsNextRound (without_calls now) reader behind next new later → AreEnded first start input next new later (before ++ now.calls)
  ended_next input behind later ended round =
      let one : ReadRound = record { trace = next; reader = new; behind = later } in
      record {
        rounds = ended.rounds ++ one ∷ [];
        read = read_next ended.rounds (without_calls first) start input one (GoesOnAt now reader behind) (GoesOnAt next new later)
            (λ trace at rest is. (subst (λ t. IsNextRound t at rest next new later) (sym is.0) (subst (λ r. IsNextRound (without_calls now) r rest next new later) (sym is.1) (subst (λ i. IsNextRound (without_calls now) reader i next new later) (sym is.2) round)), (refl, refl, refl)))
            ended.read;
        calls = ap (λ calls. first.calls ++ calls) (calls_next ended.rounds one) ∙ sym (append_assoc first.calls (calls_read ended.rounds) next.calls) ∙ ap (λ calls. calls ++ next.calls) ended.calls;
      }

  -- it is the last
  ended_last : (input behind : List ℕ) → AreEnded first start input now reader behind before → IsLastRound (without_calls now) reader behind next → IsLastOf first start input next (before ++ now.calls)
  ended_last input behind ended last = record {
    rounds = ended.rounds;
    read = read_more ended.rounds (without_calls first) start input (GoesOnAt now reader behind) (λ trace reader input. IsLastRound trace reader input next)
        (λ trace at rest is. subst (λ t. IsLastRound t at rest next) (sym is.0) (subst (λ r. IsLastRound (without_calls now) r rest next) (sym is.1) (subst (λ i. IsLastRound (without_calls now) reader i next) (sym is.2) last))) ended.read;
    calls = ended.calls;
  }

  -- a round was read where a line had ended the one before it
  pub hand_next : (first_more more : Bool) (told left new_left : Option (List ℕ)) → HandIs first_more true first start told now reader left before
      → (more ≡ true → IfSome left (λ rest. (later : List ℕ) × (new_left ≡ Some later) × IsNextRound (without_calls now) reader (ahead reader ++ rest) next new (ahead new ++ later)))
      → (more ≡ false → IfSome left (λ rest. (new_left ≡ Some []) × IsLastRound (without_calls now) reader (ahead reader ++ rest) next))
      → HandIs first_more more first start told next new new_left (before ++ now.calls)
  hand_next first_more more None left new_left hand round last = tt
  hand_next false more (Some input) left new_left hand round last = absurd (false≢true (sym hand.2.0))
  hand_next true true (Some input) left new_left hand round last =
      let read : (later : List ℕ) × (new_left ≡ Some later) × IsNextRound (without_calls now) reader (ahead reader ++ hand.0) next new (ahead new ++ later) =
      subst (λ left. IfSome left (λ rest. (later : List ℕ) × (new_left ≡ Some later) × IsNextRound (without_calls now) reader (ahead reader ++ rest) next new (ahead new ++ later))) hand.1 (round refl) in
      (read.0, read.1, ended_next (ahead start ++ input) (ahead reader ++ hand.0) (ahead new ++ read.0) hand.2 read.2)
  hand_next true false (Some input) left new_left hand round last =
      let read : (new_left ≡ Some []) × IsLastRound (without_calls now) reader (ahead reader ++ hand.0) next =
      subst (λ left. IfSome left (λ rest. (new_left ≡ Some []) × IsLastRound (without_calls now) reader (ahead reader ++ rest) next)) hand.1 (last refl) in
      ([], read.0, ended_last (ahead start ++ input) (ahead reader ++ hand.0) hand.2 read.1)

-- ---- no more is read

-- the reading was cut short by no reading
abbrev pub IsCutShort : Result (Unit {0}) StreamError → Type 0
IsCutShort (Ok done) = ⊥
IsCutShort (Err NoMemory) = Unit {0}
IsCutShort (Err (Read error)) = ⊥
IsCutShort (Err Write) = Unit {0}

module _ (first : Traced) (start : LineReader) (now : Traced) (reader : LineReader) (before : List TracedCall) where
  -- all calls so far
  all_ended : (input behind : List ℕ) (ended : AreEnded first start input now reader behind before) → behind_calls before now ≡ behind_calls (first.calls ++ calls_read ended.rounds) (without_calls now)
  all_ended input behind ended = ap (λ calls. record now { calls = calls }) (sym ended.calls ∙ sym (append-nil (first.calls ++ calls_read ended.rounds)))

  none_more : IsAtLine reader → (behind : List ℕ) (trace : Traced) (at : LineReader) (rest : List ℕ) → GoesOnAt now reader behind trace at rest → ReadNoMore (without_calls now) trace at
  none_more at_line behind trace at rest is = record { at_line = subst IsAtLine (sym is.1) at_line; last_is = sym is.0 }

  cut_end : (ended : Result (Unit {0}) StreamError) → IsCutShort ended → (trace : Traced) (at : LineReader) (rest : List ℕ) → ReadNoMore (without_calls now) trace at → IsEndOfRounds ended (without_calls now) trace at rest
  cut_end (Ok done) cut trace at rest none = absurd cut
  cut_end (Err NoMemory) cut trace at rest none = inl none
  cut_end (Err (Read error)) cut trace at rest none = absurd cut
  cut_end (Err Write) cut trace at rest none = inl none

  last_end : (ended : Result (Unit {0}) StreamError) → NoneWasRead ended → (trace : Traced) (at : LineReader) (rest : List ℕ) → IsLastRound trace at rest now → IsEndOfRounds ended now trace at rest
  last_end (Ok done) none trace at rest last = last
  last_end (Err NoMemory) none trace at rest last = inr last
  last_end (Err (Read error)) none trace at rest last = absurd none
  last_end (Err Write) none trace at rest last = inr last

  rounds_cut : (input behind : List ℕ) (ended : Result (Unit {0}) StreamError) → IsAtLine reader → IsCutShort ended → AreEnded first start input now reader behind before → AreRoundsOf first start input ended (behind_calls before now)
  rounds_cut input behind ended at_line cut hand = record {
    rounds = hand.rounds;
    last = without_calls now;
    read = read_more hand.rounds (without_calls first) start input (GoesOnAt now reader behind) (IsEndOfRounds ended (without_calls now)) (λ trace at rest is. cut_end ended cut trace at rest (none_more at_line behind trace at rest is)) hand.read;
    all_is = all_ended input behind hand;
  }

  -- where the run ended behind the round at hand
  pub hand_ended : (first_more more : Bool) (told left : Option (List ℕ)) (ended : Result (Unit {0}) StreamError) → IsAtLine reader → HandIs first_more more first start told now reader left before → NoneWasRead ended
      → (more ≡ true → IsCutShort ended) → IfSome told (λ input. IsAllRead first_more first start (ahead start ++ input) ended (behind_calls before now))
  hand_ended first_more more None left ended at_line hand none cut = tt
  hand_ended false more (Some input) left ended at_line hand none cut = (ap (λ calls. behind_calls calls now) hand.2.1 ∙ hand.2.2, none)
  hand_ended true true (Some input) left ended at_line hand none cut = rounds_cut (ahead start ++ input) (ahead reader ++ hand.0) ended at_line (cut refl) hand.2
  hand_ended true false (Some input) left ended at_line hand none cut = record {
    rounds = hand.2.rounds;
    last = now;
    read = read_more hand.2.rounds (without_calls first) start (ahead start ++ input) (λ trace reader input. IsLastRound trace reader input now) (IsEndOfRounds ended now) (last_end ended none) hand.2.read;
    all_is = ap (λ calls. behind_calls calls now) (sym hand.2.calls);
  }

  refused_so : (input behind : List ℕ) (next : Traced) (error : ReadError) → IsAtLine reader → AreEnded first start input now reader behind before → IsRoundRefused (without_calls now) reader behind next error
      → AreRoundsOf first start input (Err (Read error)) (behind_calls before now)
  refused_so input behind next error at_line hand refused = record {
    rounds = hand.rounds;
    last = without_calls now;
    read = read_more hand.rounds (without_calls first) start input (GoesOnAt now reader behind) (IsEndOfRounds (Err (Read error)) (without_calls now))
        (λ trace at rest is.
        (none_more at_line behind trace at rest is, next, subst (λ t. IsRoundRefused t at rest next error) (sym is.0) (subst (λ r. IsRoundRefused (without_calls now) r rest next error) (sym is.1) (subst (λ i. IsRoundRefused (without_calls now) reader i next error) (sym is.2) refused))))
        hand.read;
    all_is = all_ended input behind hand;
  }

  refused_as : (input behind : List ℕ) (next : Traced) (error : ReadError) → IsAtLine reader → AreEnded first start input now reader behind before → IsRoundRefused (without_calls now) reader behind next error
      → AreRoundsOf first start input (Err (stream_error error)) (behind_calls before now)
  refused_as input behind next (read_errors.Bad bad) at_line hand refused = refused_so input behind next (read_errors.Bad bad) at_line hand refused
  refused_as input behind next read_errors.InputLong at_line hand refused = refused_so input behind next read_errors.InputLong at_line hand refused
  refused_as input behind next read_errors.Failed at_line hand refused = refused_so input behind next read_errors.Failed at_line hand refused
  refused_as input behind next read_errors.NoMemory at_line hand refused = rounds_cut input behind (Err NoMemory) at_line tt hand

  -- where no further one was read
  pub hand_refused : (first_more : Bool) (told left : Option (List ℕ)) (next : Traced) (error : ReadError) → IsAtLine reader → HandIs first_more true first start told now reader left before
      → IfSome left (λ rest. IsRoundRefused (without_calls now) reader (ahead reader ++ rest) next error) → IfSome told (λ input. IsAllRead first_more first start (ahead start ++ input) (Err (stream_error error)) (behind_calls before now))
  hand_refused first_more None left next error at_line hand refused = tt
  hand_refused false (Some input) left next error at_line hand refused = absurd (false≢true (sym hand.2.0))
  hand_refused true (Some input) left next error at_line hand refused =
      refused_as (ahead start ++ input) (ahead reader ++ hand.0) next error at_line hand.2 (subst (λ left. IfSome left (λ rest. IsRoundRefused (without_calls now) reader (ahead reader ++ rest) next error)) hand.1 refused)

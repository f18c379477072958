-- The trace of the rounds of an input that were read, by the whole input.
use Rattle.std.proofs.Common.{◌≡◌, ◌⊎◌, ℕ, Bool, true, false, List, [], ◌∷◌, ◌++◌, Option, Some, None, Result, Ok, Err, inl, inr, length, refl, sym, ap, subst, ◌∙◌, arith}
use Rattle.std.specs.Prelude.{◌≢◌, IfErr, IfSome}
use Rattle.std.proofs.lemmas.List.{length-append}
use Rattle.std.specs.Result.{IsErrAnd}
use Rattle.nv_trace.specs.FirstRounds.{AreFirstRounds, NoneIsLonger, TellsOfInput}
use Rattle.nv_trace.specs.NextRound.{IsAtLine, IsLastRound, IsNextRound, IsRoundRefused, ahead}
use Rattle.nv_trace.specs.ReadRounds.{AreReadFrom, ReadRound}
use Rattle.nv_trace.specs.Reading.{ending_of, Whole}
use Rattle.nv_trace.specs.Refused.{IsRefusedAs}
use Rattle.nv_trace.specs.Traced.{Traced, empty_trace}
use Rattle.nv_trace.specs.declared.read_error.ReadError.{ReadError}
use Rattle.nv_trace.specs.declared.read_error.ReadError.TheVariants as read_errors
use Rattle.nv_trace.specs.declared.reader.LineReader.{LineReader}
use Rattle.nv_trace.specs.declared.trace.Form.TheVariants as forms
use Rattle.nv_trace.proofs.ReadEnds.{read_either, read_weaker}
use Rattle.nv_trace.proofs.ReadFirst.{rounds_read_are_first}
use Rattle.nv_trace.proofs.RefusedRounds.{refused_rounds_are_the_last}
use Rattle.nv_trace.proofs.RoundChains.{made_refused, made_whole}
use Rattle.nv_runner.specs.Streams.{AreRoundsOf, IsAllRead, IsEndOfRounds, NoneWasRead, ReadNoMore}
use Rattle.nv_runner.specs.declared.stream.StreamError.{StreamError}
use Rattle.nv_runner.specs.declared.stream.StreamError.TheVariants.{NoMemory, Read, Write}
use Rattle.nv_top.specs.Endings.{OfRead}
use Rattle.nv_top.specs.Ran.{IsBegunOf, IsFirstRound}
use Rattle.nv_top.specs.Ready.{IsRunnable}
use Rattle.nv_top.specs.Rounds.{HasNoRounds, OfReadSoFar, OfRounds, OfRunRounds}
use Rattle.nv_top.specs.Stops.{ComesFromInput, stop_of_read}
use Rattle.nv_top.specs.declared.ending.Stop.TheVariants as stops
use Rattle.nv_top.specs.declared.input.Input.{Input}

-- some first rounds of an input are this trace
abbrev pub IsFrontOf : List ℕ → Traced → Type 0
IsFrontOf bytes all = (front : List ℕ) × AreFirstRounds bytes front × (ending_of forms.Run front ≡ Whole all)

-- So are those before a round that is refused, of which none that are a trace are longer where the input itself is the cause.
abbrev pub IsRefusedFront : ReadError → List ℕ → Traced → Type 0
IsRefusedFront error bytes all = (front : List ℕ) × AreFirstRounds bytes front × (ending_of forms.Run front ≡ Whole all) × (TellsOfInput error → NoneIsLonger forms.Run bytes front)

-- So is what was read of it, by how its rounds ended: the whole, or first rounds of it.
abbrev pub IsReadAs : Result (Unit {0}) StreamError → (bytes : List ℕ) → (all : Traced) → Type 0
IsReadAs (Ok done) bytes all = ending_of forms.Run bytes ≡ Whole all
IsReadAs (Err NoMemory) bytes all = (ending_of forms.Run bytes ≡ Whole all) ⊎ IsFrontOf bytes all
IsReadAs (Err (Read error)) bytes all = IsRefusedFront error bytes all × IsRefusedAs forms.Run error bytes
IsReadAs (Err Write) bytes all = (ending_of forms.Run bytes ≡ Whole all) ⊎ IsFrontOf bytes all

module _ (bytes : List ℕ) (input : Input) (rest : List ℕ) (first : IsFirstRound bytes input rest) (all : Traced) where
  abbrev one : ReadRound
  one = record { trace = input.trace; reader = input.reader; behind = ahead input.reader ++ rest }

  whole_from : (rounds : List ReadRound) (last : Traced) (ended : Result (Unit {0}) StreamError) (of : AreRoundsOf input.trace input.reader (ahead input.reader ++ rest) ended all)
      → AreReadFrom (record input.trace { calls = [] }) input.reader (ahead input.reader ++ rest) of.rounds (λ trace reader input. IsLastRound trace reader input of.last) → ending_of forms.Run bytes ≡ Whole all
  whole_from rounds last ended of read =
      made_whole forms.Run first.reader bytes first.at_line.bare first.number first.taken (one ∷ of.rounds) of.last (first.round, read) ∙ ap Whole (sym of.all_is)

  front_from : (ended : Result (Unit {0}) StreamError) (of : AreRoundsOf input.trace input.reader (ahead input.reader ++ rest) ended all)
      → AreReadFrom (record input.trace { calls = [] }) input.reader (ahead input.reader ++ rest) of.rounds (λ trace reader input. ReadNoMore of.last trace reader) → IsFrontOf bytes all
  front_from ended of read =
      let behind = read_weaker of.rounds (record input.trace { calls = [] }) input.reader (ahead input.reader ++ rest) (λ trace reader input. ReadNoMore of.last trace reader) (λ trace reader input. IsAtLine reader × (trace ≡ of.last))
      (λ trace reader input no. (no.at_line, sym no.last_is)) read in
      let front = rounds_read_are_first forms.Run first.reader bytes one of.rounds of.last first.at_line first.number first.taken (first.round, behind) in
      (front.0, front.1, front.2 ∙ ap Whole (sym of.all_is))

  module _ (next : Traced) where
    abbrev Refused : ReadError → (last : Traced) → Traced → LineReader → List ℕ → Type 0
    Refused error last trace reader input = (IsAtLine reader × (trace ≡ last)) × IsRoundRefused trace reader input next error

    told_front : (error : ReadError) (of : AreRoundsOf input.trace input.reader (ahead input.reader ++ rest) (Err (Read error)) all) → TellsOfInput error
        → AreReadFrom (record input.trace { calls = [] }) input.reader (ahead input.reader ++ rest) of.rounds (Refused error of.last) → IsRefusedFront error bytes all
    told_front error of told read =
        let front = refused_rounds_are_the_last forms.Run first.reader bytes (one ∷ of.rounds) of.last next error first.at_line first.number first.taken (first.round, read) told in
        (front.0, front.1, front.2 ∙ ap Whole (sym of.all_is), λ told. front.3)

    untold_front : (error : ReadError) (of : AreRoundsOf input.trace input.reader (ahead input.reader ++ rest) (Err (Read error)) all) → ¬ (TellsOfInput error)
        → AreReadFrom (record input.trace { calls = [] }) input.reader (ahead input.reader ++ rest) of.rounds (Refused error of.last) → IsRefusedFront error bytes all
    untold_front error of untold read =
        let behind = read_weaker of.rounds (record input.trace { calls = [] }) input.reader (ahead input.reader ++ rest) (Refused error of.last) (λ trace reader input. IsAtLine reader × (trace ≡ of.last)) (λ trace reader input both. both.0) read in
        let front = rounds_read_are_first forms.Run first.reader bytes one of.rounds of.last first.at_line first.number first.taken (first.round, behind) in
        (front.0, front.1, front.2 ∙ ap Whole (sym of.all_is), λ told. absurd (untold told))

  refused_front : (error : ReadError) (of : AreRoundsOf input.trace input.reader (ahead input.reader ++ rest) (Err (Read error)) all) (next : Traced)
      → AreReadFrom (record input.trace { calls = [] }) input.reader (ahead input.reader ++ rest) of.rounds (λ trace reader input. (IsAtLine reader × (trace ≡ of.last)) × IsRoundRefused trace reader input next error) → IsRefusedFront error bytes all
  refused_front (read_errors.Bad bad) of next read = told_front next (read_errors.Bad bad) of tt read
  refused_front read_errors.InputLong of next read = told_front next read_errors.InputLong of tt read
  refused_front read_errors.Failed of next read = untold_front next read_errors.Failed of (λ told. told) read
  refused_front read_errors.NoMemory of next read = untold_front next read_errors.NoMemory of (λ told. told) read

  read_as : (ended : Result (Unit {0}) StreamError) → AreRoundsOf input.trace input.reader (ahead input.reader ++ rest) ended all → IsReadAs ended bytes all
  read_as (Ok done) of = whole_from of.rounds of.last (Ok done) of of.read
  read_as (Err NoMemory) of = elim (read_either of.rounds (record input.trace { calls = [] }) input.reader (ahead input.reader ++ rest) (λ trace reader input. ReadNoMore of.last trace reader) (λ trace reader input. IsLastRound trace reader input of.last) of.read) [
    | inl none ↦ inr (front_from (Err NoMemory) of none)
    | inr last ↦ inl (whole_from of.rounds of.last (Err NoMemory) of last)
  ]
  read_as (Err Write) of = elim (read_either of.rounds (record input.trace { calls = [] }) input.reader (ahead input.reader ++ rest) (λ trace reader input. ReadNoMore of.last trace reader) (λ trace reader input. IsLastRound trace reader input of.last) of.read) [
    | inl none ↦ inr (front_from (Err Write) of none)
    | inr last ↦ inl (whole_from of.rounds of.last (Err Write) of last)
  ]
  read_as (Err (Read error)) of =
      let next = refused_at of.rounds (record input.trace { calls = [] }) input.reader (ahead input.reader ++ rest) of.last error of.read in
      let refused = read_weaker of.rounds (record input.trace { calls = [] }) input.reader (ahead input.reader ++ rest) (λ trace reader input. (IsAtLine reader × (trace ≡ of.last)) × IsRoundRefused trace reader input next.0 error)
      (λ trace reader input. IsRoundRefused trace reader input next.0 error) (λ trace reader input both. both.1) next.1 in
      (refused_front error of next.0 next.1, made_refused forms.Run first.reader bytes first.at_line.bare first.number first.taken (one ∷ of.rounds) next.0 error (first.round, refused))
    where
      -- the refused round is the same one, whichever it is
      refused_at : (rounds : List ReadRound) (trace : Traced) (reader : LineReader) (input : List ℕ) (last : Traced) (error : ReadError) → AreReadFrom trace reader input rounds (λ trace reader input. IsEndOfRounds (Err (Read error)) last trace reader input)
          → (next : Traced) × AreReadFrom trace reader input rounds (λ trace reader input. (IsAtLine reader × (trace ≡ last)) × IsRoundRefused trace reader input next error)
      refused_at [] trace reader input last error read = (read.1, ((read.0.at_line, sym read.0.last_is), read.2))
      refused_at (round ∷ rounds) trace reader input last error read =
          let later = refused_at rounds (record round.trace { calls = [] }) round.reader round.behind last error read.1 in
          (later.0, (read.0, later.1))

-- what was read of an input whose first round was at hand
module _ (input : Input) (left : Option (List ℕ)) (ended : Result (Unit {0}) StreamError) (all : Traced) where
  by_more : (more : Bool) (bytes : List ℕ) → IsBegunOf more bytes input left → IfSome left (λ rest. IsAllRead more input.trace input.reader (ahead input.reader ++ rest) ended all) → IsReadAs ended bytes all
  by_more true bytes begun read =
      let rest = begun.0 in
      read_as bytes input rest begun.2 all ended (subst (λ left. IfSome left (λ rest. IsAllRead true input.trace input.reader (ahead input.reader ++ rest) ended all)) begun.1 read)
  by_more false bytes begun read =
      let last = subst (λ left. IfSome left (λ rest. IsAllRead false input.trace input.reader (ahead input.reader ++ rest) ended all)) begun.0 read in
      at_last ended last.1 (begun.1 ∙ ap Whole (sym last.0))
    where
      at_last : (ended : Result (Unit {0}) StreamError) → NoneWasRead ended → ending_of forms.Run bytes ≡ Whole all → IsReadAs ended bytes all
      at_last (Ok done) none whole = whole
      at_last (Err NoMemory) none whole = inl whole
      at_last (Err (Read error)) none whole = absurd none
      at_last (Err Write) none whole = inl whole

  pub was_all_read : (given : Option (List ℕ)) → IfSome given (λ bytes. IsBegunOf input.more bytes input left) → IfSome left (λ rest. IsAllRead input.more input.trace input.reader (ahead input.reader ++ rest) ended all)
      → IfSome given (λ bytes. IsReadAs ended bytes all)
  was_all_read None begun read = tt
  was_all_read (Some bytes) begun read = by_more input.more bytes begun read

-- ---- what is so of the trace that was read

module _ (all : Traced) (P : Traced → Type 0) (is_form : all.form ≡ forms.Run) (runnable : IsRunnable all) (holds : P all) where
  of_whole : (bytes : List ℕ) → ending_of forms.Run bytes ≡ Whole all → OfRead forms.Run (Some bytes) P
  of_whole bytes whole = (all, whole, holds)

  of_front : (bytes : List ℕ) → IsFrontOf bytes all → OfRounds (Some bytes) P
  of_front bytes front = (front.0, front.1, (all, front.2, holds))

  pub read_so_far : (given : Option (List ℕ)) (ended : Result (Unit {0}) StreamError) → IfSome given (λ bytes. IsReadAs ended bytes all) → OfReadSoFar given P
  read_so_far None ended read = inl (all, is_form, runnable, holds)
  read_so_far (Some bytes) (Ok done) read = inl (of_whole bytes read)
  read_so_far (Some bytes) (Err NoMemory) read = elim read [ inl whole ↦ inl (of_whole bytes whole) | inr front ↦ inr (of_front bytes front) ]
  read_so_far (Some bytes) (Err (Read error)) read = inr (of_front bytes (read.0.0, read.0.1, read.0.2))
  read_so_far (Some bytes) (Err Write) read = elim read [ inl whole ↦ inl (of_whole bytes whole) | inr front ↦ inr (of_front bytes front) ]

  -- of the longest rounds that are a trace, where the input itself is the cause
  longest : (error : ReadError) (bytes front : List ℕ) → ComesFromInput (stop_of_read error) → (TellsOfInput error → NoneIsLonger forms.Run bytes front) → stop_of_read error ≢ stops.Read → NoneIsLonger forms.Run bytes front
  longest (read_errors.Bad bad) bytes front first none other = none tt
  longest read_errors.InputLong bytes front first none other = none tt
  longest read_errors.Failed bytes front first none other = absurd (other refl)
  longest read_errors.NoMemory bytes front first none other = absurd first

  pub read_rounds : (given : Option (List ℕ)) (error : ReadError) → ComesFromInput (stop_of_read error) → IfSome given (λ bytes. IsReadAs (Err (Read error)) bytes all) → OfRunRounds (stop_of_read error) given P
  read_rounds None error first read = (all, is_form, runnable, holds)
  read_rounds (Some bytes) error first read = (read.0.0, read.0.1, longest error bytes read.0.0 first read.0.3, (all, read.0.2, holds))

  pub read_whole : (given : Option (List ℕ)) → IfSome given (λ bytes. IsReadAs (Ok tt) bytes all) → OfRead forms.Run given P
  read_whole None read = (all, is_form, runnable, holds)
  read_whole (Some bytes) read = of_whole bytes read

-- ---- the first round

-- a result that is this error
pub if_err : {T E : Type 0} (result : Result T E) (error : E) (P : E → Type 0) → IsErrAnd result (λ e. e ≡ error) → P error → IfErr result P
if_err (Ok value) error P is holds = tt
if_err (Err other) error P is holds = subst P (sym is) holds

module _ (reader : LineReader) (at_line : IsAtLine reader) (number : reader.pending.number ≡ 1) (taken : reader.taken ≡ 0) (none : ahead reader ≡ []) where
  -- an input whose first round is refused is refused so
  pub first_refused : (given : Option (List ℕ)) (next : Traced) (error : ReadError) → IfSome given (λ left. IsRoundRefused (empty_trace forms.Run) reader (ahead reader ++ left) next error) → IfSome given (IsRefusedAs forms.Run error)
  first_refused None next error refused = tt
  first_refused (Some bytes) next error refused =
      made_refused forms.Run reader bytes at_line.bare number taken [] next error (subst (λ before. IsRoundRefused (empty_trace forms.Run) reader (before ++ bytes) next error) none refused)

  -- and none of its first rounds are a trace
  pub none_first : (given : Option (List ℕ)) (next : Traced) (error : ReadError) → IfSome given (λ left. IsRoundRefused (empty_trace forms.Run) reader (ahead reader ++ left) next error) → TellsOfInput error → HasNoRounds (stop_of_read error) given
  none_first None next error refused told = tt
  none_first (Some bytes) next error refused told = λ other first rounds trace.
      let here = subst (λ before. IsRoundRefused (empty_trace forms.Run) reader (before ++ bytes) next error) none refused in
      let front = refused_rounds_are_the_last forms.Run reader bytes [] (empty_trace forms.Run) next error at_line number taken ((at_line, refl), here) told in
      let short = front.3 first trace.0 rounds trace.1 in
      let long = ap (λ (bytes : List ℕ). length bytes) rounds.is ∙ length-append rounds.before (10 ∷ []) in
      omega (arith, short, long, ap (λ (bytes : List ℕ). length bytes) front.1)

  pub begun_of : (more : Bool) (input : Input) (given left : Option (List ℕ))
      → (more ≡ true → IfSome given (λ bytes. (rest : List ℕ) × (left ≡ Some rest) × IsNextRound (empty_trace forms.Run) reader (ahead reader ++ bytes) input.trace input.reader (ahead input.reader ++ rest)))
      → (more ≡ false → IfSome given (λ bytes. (left ≡ Some []) × IsLastRound (empty_trace forms.Run) reader (ahead reader ++ bytes) input.trace))
      → IfSome given (λ bytes. IsBegunOf more bytes input left)
  begun_of more input None left round last = tt
  begun_of true input (Some bytes) left round last =
      let next = round refl in (
        next.0,
        next.1,
        record {
          reader = reader;
          at_line = at_line;
          number = number;
          taken = taken;
          round = subst (λ before. IsNextRound (empty_trace forms.Run) reader (before ++ bytes) input.trace input.reader (ahead input.reader ++ next.0)) none next.2;
        },
      )
  begun_of false input (Some bytes) left round last =
      let whole = last refl in
      (whole.0, made_whole forms.Run reader bytes at_line.bare number taken [] input.trace (subst (λ before. IsLastRound (empty_trace forms.Run) reader (before ++ bytes) input.trace) none whole.1))

-- An input read round by round ends as it does where it is read at once.
use Rattle.std.proofs.Common.{◌≡◌, ℕ, List, [], ◌++◌, Option, Some, None, IfSome, refl, sym, ap, subst, ◌∙◌}
use Rattle.nv_trace.specs.NextRound.{IsLastRound, IsNextRound, IsRoundRefused, ahead, input_ends}
use Rattle.nv_trace.specs.Pending.{ending_from}
use Rattle.nv_trace.specs.Reading.{Whole, ending_of}
use Rattle.nv_trace.specs.Refused.{IsRefusedAs, RefusalTells}
use Rattle.nv_trace.specs.Traced.{Traced, empty_trace}
use Rattle.nv_trace.specs.declared.read_error.ReadError.{ReadError}
use Rattle.nv_trace.specs.declared.read_error.ReadError.TheVariants as read_errors
use Rattle.nv_trace.specs.declared.reader.LineReader.{LineReader}
use Rattle.nv_trace.specs.declared.trace.Form.{Form}
use Rattle.nv_trace.proofs.Endings.{ending_at_start}

-- the input, where it was told, ends as the bytes say that are still to be taken
abbrev pub EndsAlike : Form → (told left : Option (List ℕ)) → Traced → LineReader → Type 0
EndsAlike form told left trace reader = IfSome told (λ input. (rest : List ℕ) × (left ≡ Some rest) × (input_ends trace reader (ahead reader ++ rest) ≡ ending_of form input))

pub at_first : (form : Form) (told : Option (List ℕ)) (trace : Traced) (reader : LineReader) → trace ≡ empty_trace form → reader.pending.number ≡ 1 → reader.pending.line.items ≡ [] → reader.taken ≡ 0 → ahead reader ≡ [] → EndsAlike form told told trace reader
at_first form None trace reader start number bare taken none = tt
at_first form (Some input) trace reader start number bare taken none = (
  input,
  refl,
  ap (λ bytes. input_ends trace reader (bytes ++ input)) none
      ∙ ap (λ (trace : Traced). ending_from trace reader.pending.number reader.pending.line.items reader.taken input) start
      ∙ ap (λ number. ending_from (empty_trace form) number reader.pending.line.items reader.taken input) number
      ∙ ap (λ line. ending_from (empty_trace form) 1 line reader.taken input) bare
      ∙ ap (λ taken. ending_from (empty_trace form) 1 [] taken input) taken
      ∙ ending_at_start form input,
)

module _ (form : Form) (left : Option (List ℕ)) (trace : Traced) (reader : LineReader) where
  -- behind a round
  pub behind_round : (told next_left : Option (List ℕ)) (next : Traced) (new : LineReader) → EndsAlike form told left trace reader
      → IfSome left (λ input. (rest : List ℕ) × (next_left ≡ Some rest) × IsNextRound trace reader (ahead reader ++ input) next new (ahead new ++ rest)) → EndsAlike form told next_left next new
  behind_round None next_left next new ends came = tt
  behind_round (Some input) next_left next new ends came =
      let round = subst (λ left. IfSome left (λ input. (rest : List ℕ) × (next_left ≡ Some rest) × IsNextRound trace reader (ahead reader ++ input) next new (ahead new ++ rest))) ends.1 came in
      (round.0, round.1, round.2.goes_on (ahead new ++ round.0) ∙ ap (input_ends trace reader) (sym round.2.rest) ∙ ends.2)

  -- behind the last
  pub whole_end : (told next_left : Option (List ℕ)) (next : Traced) → EndsAlike form told left trace reader → IfSome left (λ input. (next_left ≡ Some []) × IsLastRound trace reader (ahead reader ++ input) next) → IfSome told (λ input. ending_of form input ≡ Whole next)
  whole_end None next_left next ends came = tt
  whole_end (Some input) next_left next ends came =
      let last = subst (λ left. IfSome left (λ input. (next_left ≡ Some []) × IsLastRound trace reader (ahead reader ++ input) next)) ends.1 came in
      sym ends.2 ∙ last.1.whole

  pub told_end : (told next_left : Option (List ℕ)) (next : Traced) → EndsAlike form told left trace reader → IfSome left (λ input. (next_left ≡ Some []) × IsLastRound trace reader (ahead reader ++ input) next) → IfSome told (λ _. next_left ≡ Some [])
  told_end None next_left next ends came = tt
  told_end (Some input) next_left next ends came =
      let last = subst (λ left. IfSome left (λ input. (next_left ≡ Some []) × IsLastRound trace reader (ahead reader ++ input) next)) ends.1 came in
      last.0

  tells : (next : Traced) (error : ReadError) (input : List ℕ) → IsRoundRefused trace reader input next error → RefusalTells error (input_ends trace reader input)
  tells next (read_errors.Bad bad) input refused = refused.whole
  tells next read_errors.InputLong input refused = refused.whole
  tells next read_errors.Failed input refused = tt
  tells next read_errors.NoMemory input refused = tt

  -- a round that is refused
  pub refused_end : (told : Option (List ℕ)) (next : Traced) (error : ReadError) → EndsAlike form told left trace reader → IfSome left (λ input. IsRoundRefused trace reader (ahead reader ++ input) next error) → IfSome told (IsRefusedAs form error)
  refused_end None next error ends refused = tt
  refused_end (Some input) next error ends refused =
      let round = subst (λ left. IfSome left (λ input. IsRoundRefused trace reader (ahead reader ++ input) next error)) ends.1 refused in
      subst (RefusalTells error) ends.2 (tells next error (ahead reader ++ ends.0) round)

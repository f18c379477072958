-- What a bad line tells of the ending.
use Rattle.std.proofs.Common.{◌≡◌, ℕ, ◌+◌, ◌<◌, Bool, true, eqb, List, [], ◌∷◌, length, Result, Ok, Err, refl, sym, ap, ◌∙◌, arith}
use Rattle.std.proofs.lemmas.Bool.{cond-false, ne_eqb}
use Rattle.nv_trace.specs.Reading.{Whole, Bad, after_line, unless_bad}
use Rattle.nv_trace.specs.Refused.{IsBadLine}
use Rattle.nv_trace.specs.Pending.{ending_after, lines_end, EndsAt}
use Rattle.nv_trace.specs.Traced.{Traced}
use Rattle.nv_trace.specs.declared.bad_line.BadLine.{BadLine}
use Rattle.nv_trace.specs.declared.bad_line.Why.{Why}
use Rattle.nv_trace.specs.declared.pending_line.PendingLine.{PendingLine}
use Rattle.nv_trace.specs.declared.read_error.LineError.{LineError}
use Rattle.nv_trace.specs.declared.read_error.LineError.TheVariants as line_errors
use Rattle.nv_trace.proofs.Endings.{line_ended, open_ended}

named : (bad : BadLine) (number : ℕ) → bad.number ≡ number → Bad (record { number = number; why = bad.why }) ≡ Bad bad
named bad number is = ap (λ number. Bad (record { number = number; why = bad.why })) (sym is)

pub bad_line : (trace : Traced) (pending : PendingLine) (error : LineError) → IsBadLine trace pending.number pending.line.items error → (whole : Bool) (rest : List ℕ) → EndsAt error (lines_end whole trace pending (10 ∷ rest))
bad_line trace pending (line_errors.Bad bad) refused whole rest =
    line_ended whole trace pending.number pending.line.items rest
    ∙ ap (λ after. unless_bad pending.number (λ next. ending_after whole next (pending.number + 1) [] rest) after) refused.0
    ∙ named bad pending.number refused.1
bad_line trace pending line_errors.NoMemory refused whole rest = tt

end_of_last : (number : ℕ) (after : Result Traced Why) → unless_bad number (λ next. ending_after true next (number + 1) [] []) after ≡ unless_bad number Whole after
end_of_last number (Ok next) = open_ended next (number + 1) []
end_of_last number (Err why) = refl

-- at the end of the input an pending line that has a byte is read as if a line feed ended it
pub last_line : (trace : Traced) (pending : PendingLine) → 0 < length pending.line.items → lines_end true trace pending [] ≡ lines_end true trace pending (10 ∷ [])
last_line trace pending some =
    open_ended trace pending.number pending.line.items
    ∙ cond-false (eqb (length pending.line.items) 0) _ _ (ne_eqb (length pending.line.items) 0 (λ e. omega arith))
    ∙ sym (line_ended true trace pending.number pending.line.items []
    ∙ end_of_last pending.number (after_line trace pending.number pending.line.items))

-- The fields of a `steps` line, and those of others.
use Rattle.std.proofs.Common.{◌≡◌, ◌≢◌, ℕ, Bool, true, false, eqb, cond, ltb, length, not, List, [], ◌∷◌, ◌++◌, codes, Option, Some, None, Bor, Result, Err, Ok, refl, sym, ap, ◌∙◌, subst, ◌&&◌}
use Rattle.std.specs.List.{list_all}
use Rattle.std.specs.Option.{MatchOption, is_some, ok_or}
use Rattle.std.proofs.lemmas.Bool.{eqb-true, false≢true}
use Rattle.std.proofs.lemmas.Slice.Eq.{bytes_eq-Decides}
use Rattle.nv_trace.specs.Lines.{fields_of, onto_first, parts_between}
use Rattle.nv_trace.specs.Forms.{has_steps}
use Rattle.nv_trace.specs.Grammar.{and_then, is_printable, says}
use Rattle.nv_trace.specs.Tokens.{tokens_of}
use Rattle.nv_trace.specs.Said.{IsUnsaid, is_schedule, said, said_by, tokens_said}
use Rattle.nv_trace.specs.Reading.{after_fields, after_line, after_schedule, after_steps, fields_said, is_skipped, longest_line, with_statement, with_tokens}
use Rattle.nv_trace.specs.Traced.{Traced}
use Rattle.nv_trace.specs.declared.bad_line.Unsaid.{Unsaid}
use Rattle.nv_trace.specs.declared.bad_line.Unsaid.TheVariants as unsaids
use Rattle.nv_trace.specs.declared.bad_line.Why.{Why}
use Rattle.nv_trace.specs.declared.bad_line.Why.TheVariants.{Form, Long as LongLine, Bytes as OddBytes}
use Rattle.nv_trace.specs.declared.token.LineToken.{LineToken}
use Rattle.nv_trace.proofs.Parts.{parts_some}

-- a line is its only field, or goes on behind the first
pub data IsCut (line : List ℕ) : Type 0 where
  Only : fields_of line ≡ line ∷ [] → IsCut line
  More : (first more : List ℕ) → line ≡ first ++ 32 ∷ more → fields_of line ≡ first ∷ fields_of more → IsCut line

cut_on : (byte : ℕ) (line : List ℕ) (space : Bool) → eqb byte 32 ≡ space → IsCut line → IsCut (byte ∷ line)
unfolding parts_between
cut_on byte line true is cut =
    More [] line (ap (λ byte. byte ∷ line) (eqb-true byte 32 is)) (ap (λ test. cond test ([] ∷ fields_of line) (onto_first byte (fields_of line))) is)
cut_on byte line false is (Only alone) =
    Only (ap (λ test. cond test ([] ∷ fields_of line) (onto_first byte (fields_of line))) is ∙ ap (onto_first byte) alone)
cut_on byte line false is (More first more whole fields) =
    More (byte ∷ first) more (ap (λ line. byte ∷ line) whole) (ap (λ test. cond test ([] ∷ fields_of line) (onto_first byte (fields_of line))) is ∙ ap (onto_first byte) fields)

pub cut_of : (line : List ℕ) → IsCut line
unfolding parts_between
cut_of [] = Only refl
cut_of (byte ∷ line) = cut_on byte line (eqb byte 32) refl (cut_of line)

-- what a `steps` line says
pub steps_said : (trace : Traced) (rest : List ℕ) → tokens_said trace (fields_of (codes "steps " ++ rest)) ≡ cond (has_steps trace.form) (ok_or (tokens_of (fields_of rest)) Form) (Err Form)
unfolding parts_between tokens_said
steps_said trace rest =
    let parts = parts_some 32 rest in
    ap (λ fields. tokens_said trace (codes "steps" ∷ fields)) parts.whole
    ∙ ap (λ fields. cond (has_steps trace.form) (ok_or (tokens_of fields) Form) (Err Form)) (sym parts.whole)

is_word : (field : List ℕ) → says field (codes "steps") ≡ true → field ≡ codes "steps"
is_word field = (bytes_eq-Decides field (codes "steps")).0

-- no other line says tokens
pub none_said : (trace : Traced) (line : List ℕ) → ((rest : List ℕ) → line ≢ codes "steps " ++ rest) → tokens_said trace (fields_of line) ≡ Err Form
unfolding tokens_said
none_said trace line none = by_cut (cut_of line)
  where
    by_word : (first more : List ℕ) (is : Bool) → says first (codes "steps") ≡ is → line ≡ first ++ 32 ∷ more → fields_of line ≡ first ∷ fields_of more → tokens_said trace (fields_of line) ≡ Err Form
    by_word first more true word whole fields = absurd (none more (whole ∙ ap (λ first. first ++ 32 ∷ more) (is_word first word)))
    by_word first more false word whole fields =
        let parts = parts_some 32 more in
        ap (tokens_said trace) (fields ∙ ap (λ fields. first ∷ fields) parts.whole)
        ∙ ap (λ test. cond (test && has_steps trace.form) (ok_or (tokens_of (parts.first ∷ parts.rest)) Form) (Err Form)) word

    by_cut : IsCut line → tokens_said trace (fields_of line) ≡ Err Form
    by_cut (Only alone) = ap (tokens_said trace) alone
    by_cut (More first more whole fields) = by_word first more (says first (codes "steps")) refl whole fields

-- what any other line says
pub other_said : (trace : Traced) (number : ℕ) (line : List ℕ) → ((rest : List ℕ) → line ≢ codes "steps " ++ rest)
    → after_fields trace number (fields_of line) ≡ and_then (λ statement. Ok (with_statement trace number statement)) (said trace (fields_of line))
unfolding after_fields tokens_said said said_by
other_said trace number line none = by_cut (cut_of line)
  where
    other : List (List ℕ) → Result Traced Why
    other fields = and_then (λ statement. Ok (with_statement trace number statement)) (said trace fields)

    by_word : (first : List ℕ) (rest : List (List ℕ)) (is : Bool) → says first (codes "steps") ≡ is → (first ≡ codes "steps" → after_fields trace number (first ∷ rest) ≡ other (first ∷ rest))
        → after_fields trace number (first ∷ rest) ≡ other (first ∷ rest)
    by_word first rest true word same = same (is_word first word)
    by_word first rest false word same = ap (λ test. cond test (after_steps trace (first ∷ rest)) (other (first ∷ rest))) word

    alone_none : (field : List ℕ) → field ≡ codes "steps" → after_fields trace number (field ∷ []) ≡ other (field ∷ [])
    alone_none field is = subst (λ field. after_fields trace number (field ∷ []) ≡ other (field ∷ [])) (sym is) refl

    by_cut : IsCut line → after_fields trace number (fields_of line) ≡ other (fields_of line)
    by_cut (Only alone) = subst (λ fields. after_fields trace number fields ≡ other fields) (sym alone) (by_word line [] (says line (codes "steps")) refl (alone_none line))
    by_cut (More first more whole fields) = subst (λ fields. after_fields trace number fields ≡ other fields) (sym fields)
        (by_word first (fields_of more) (says first (codes "steps")) refl (λ is. absurd (none more (whole ∙ ap (λ first. first ++ 32 ∷ more) is))))

are_fields : (line : List ℕ) (fields : List (List ℕ)) → fields_said line ≡ Ok fields → fields ≡ fields_of line
unfolding fields_said
are_fields line fields said = by_tests (ltb longest_line (length line)) (not (list_all is_printable line)) said
  where
    by_tests : (long odd : Bool) → cond long (Err LongLine) (cond odd (Err OddBytes) (Ok (fields_of line))) ≡ Ok fields → fields ≡ fields_of line
    by_tests true odd said = cc
    by_tests false true said = cc
    by_tests false false said = cc

are_steps : (rest : List ℕ) (fields : List (List ℕ)) → fields_said (codes "steps " ++ rest) ≡ Ok fields → is_schedule fields ≡ true
unfolding parts_between
are_steps rest fields said = ap is_schedule (are_fields (codes "steps " ++ rest) fields said) ∙ steps_first (fields_of rest)
  where
    steps_first : (rest : List (List ℕ)) → is_schedule (codes "steps" ∷ rest) ≡ true
    steps_first rest = refl

-- a `steps` line is read as one
as_steps : (trace : Traced) (number : ℕ) (read : Result (List (List ℕ)) Why) → ((fields : List (List ℕ)) → read ≡ Ok fields → is_schedule fields ≡ true) → and_then (after_fields trace number) read ≡ and_then (after_steps trace) read
unfolding after_fields
as_steps trace number (Ok fields) are = ap (λ test. cond test (after_steps trace fields) (and_then (λ statement. Ok (with_statement trace number statement)) (said trace fields))) (are fields refl)
as_steps trace number (Err why) are = refl

pub as_schedule : (trace : Traced) (number : ℕ) (line rest : List ℕ) → line ≡ codes "steps " ++ rest → after_line trace number line ≡ after_schedule trace line
unfolding after_line after_schedule
as_schedule trace number line rest is =
    subst (λ line. after_line trace number line ≡ after_schedule trace line) (sym is) (as_steps trace number (fields_said (codes "steps " ++ rest)) (are_steps rest))

-- what a line says that is to be a `steps` line, where it may have tokens
pub steps_read : (trace : Traced) (line rest : List ℕ) → line ≡ codes "steps " ++ rest → fields_said line ≡ Ok (fields_of line) → has_steps trace.form ≡ true
    → after_schedule trace line ≡ and_then (λ tokens. Ok (with_tokens trace tokens)) (ok_or (tokens_of (fields_of rest)) Form)
unfolding after_schedule
steps_read trace line rest is clear has =
    let put : List LineToken → Result Traced Why = λ tokens. Ok (with_tokens trace tokens) in
    ap (and_then (after_steps trace)) clear ∙ ap (λ line. and_then put (tokens_said trace (fields_of line))) is
    ∙ ap (and_then put) (steps_said trace rest ∙ ap (λ has. cond has (ok_or (tokens_of (fields_of rest)) Form) (Err Form)) has)

-- where it may not
pub steps_refused : (trace : Traced) (line rest : List ℕ) → line ≡ codes "steps " ++ rest → fields_said line ≡ Ok (fields_of line) → has_steps trace.form ≡ false → after_schedule trace line ≡ Err Form
unfolding after_schedule
steps_refused trace line rest is clear has =
    ap (and_then (after_steps trace)) clear ∙ ap (λ line. and_then (λ tokens. Ok (with_tokens trace tokens)) (tokens_said trace (fields_of line))) is
    ∙ ap (and_then (λ tokens. Ok (with_tokens trace tokens))) (steps_said trace rest ∙ ap (λ has. cond has (ok_or (tokens_of (fields_of rest)) Form) (Err Form)) has)

-- and where it is none
pub no_steps_read : (trace : Traced) (line : List ℕ) → ((rest : List ℕ) → line ≢ codes "steps " ++ rest) → fields_said line ≡ Ok (fields_of line) → after_schedule trace line ≡ Err Form
unfolding after_schedule
no_steps_read trace line none clear = ap (and_then (after_steps trace)) clear ∙ ap (and_then (λ tokens. Ok (with_tokens trace tokens))) (none_said trace line none)

-- what any other line says that isn't skipped
pub other_read : (trace : Traced) (number : ℕ) (line : List ℕ) → ((rest : List ℕ) → line ≢ codes "steps " ++ rest) → is_skipped line ≡ false → fields_said line ≡ Ok (fields_of line)
    → after_line trace number line ≡ and_then (λ statement. Ok (with_statement trace number statement)) (said trace (fields_of line))
unfolding after_line
other_read trace number line none skipped clear =
    ap (λ skipped. cond skipped (Ok trace) (and_then (after_fields trace number) (fields_said line))) skipped ∙ ap (and_then (after_fields trace number)) clear ∙ other_said trace number line none

-- a reason goes on
pub unsaid_on : {A B : Type 0} (told : Result A Why) (f : A → Result B Why) (unsaid : Unsaid) → IsUnsaid told unsaid → IsUnsaid (and_then f told) unsaid
unsaid_on told f (unsaids.Bad why) is = ap (and_then f) is
unsaid_on told f unsaids.NoMemory is = tt

-- the bytes that stand behind the first field, where there are some
pub some_rest : (line : List ℕ) (found : Option (Bor (List ℕ))) → MatchOption found ((rest : List ℕ) → line ≢ codes "steps " ++ rest) (λ rest. line ≡ codes "steps " ++ rest.now) → is_some found ≡ true
    → (rest : List ℕ) × (line ≡ codes "steps " ++ rest)
some_rest line (Some rest) is some = (rest.now, is)
some_rest line None is some = absurd (false≢true some)

pub no_rest : (line : List ℕ) (found : Option (Bor (List ℕ))) → MatchOption found ((rest : List ℕ) → line ≢ codes "steps " ++ rest) (λ rest. line ≡ codes "steps " ++ rest.now) → is_some found ≡ false
    → (rest : List ℕ) → line ≢ codes "steps " ++ rest
no_rest line (Some rest) is none = absurd (false≢true (sym none))
no_rest line None is none = is

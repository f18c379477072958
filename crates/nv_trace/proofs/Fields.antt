-- The fields of a line: they are the parts that `split` gives, and some counts of them are of no form.
use Rattle.std.proofs.Common.{◌≡◌, ◌||◌, ℕ, Bool, true, false, map, ◌==◌, ◌<◌, Result, arith, eqb, cond, List, [], ◌∷◌, length, Err, ◌≢◌, refl, ap, ◌∙◌}
use Rattle.std.specs.List as list
use Rattle.std.specs.List.{list_any}
use Rattle.nv_trace.specs.Grammar.{most_parts}
use Rattle.nv_trace.specs.Said.{said, said_by}
use Rattle.nv_trace.specs.Traced.{Traced}
use Rattle.nv_trace.specs.declared.bad_line.Why.TheVariants.{Form}
use Rattle.nv_trace.specs.declared.bad_line.Why.{Why}
use Rattle.nv_trace.specs.declared.statement.Statement.{Statement}
use Rattle.nv_trace.specs.Lines.{onto_first, parts_between}

onto_same : (byte : ℕ) (parts : List (List ℕ)) → list.onto_first byte parts ≡ onto_first byte parts
onto_same byte [] = refl
onto_same byte (first ∷ rest) = refl

pub parts_are : (separator : ℕ) (bytes : List ℕ) → list.slice_split (λ byte. eqb byte separator) bytes ≡ parts_between separator bytes
unfolding parts_between
parts_are separator [] = refl
parts_are separator (byte ∷ rest) =
    ap (λ parts. cond (eqb byte separator) ([] ∷ parts) (list.onto_first byte parts)) (parts_are separator rest)
    ∙ ap (cond (eqb byte separator) ([] ∷ parts_between separator rest)) (onto_same byte (parts_between separator rest))

pub no_form : (trace : Traced) (fields : List (List ℕ)) → length fields ≢ 1 → length fields ≢ 2 → length fields ≢ 3 → length fields ≢ 4 → length fields ≢ 5 → length fields ≢ 6 → said_by trace fields ≡ Err Form
unfolding said_by
no_form trace [] one two three four five six = refl
no_form trace (a ∷ []) one two three four five six = absurd (one refl)
no_form trace (a ∷ b ∷ []) one two three four five six = absurd (two refl)
no_form trace (a ∷ b ∷ c ∷ []) one two three four five six = absurd (three refl)
no_form trace (a ∷ b ∷ c ∷ d ∷ []) one two three four five six = absurd (four refl)
no_form trace (a ∷ b ∷ c ∷ d ∷ e ∷ []) one two three four five six = absurd (five refl)
no_form trace (a ∷ b ∷ c ∷ d ∷ e ∷ f ∷ []) one two three four five six = absurd (six refl)
no_form trace (a ∷ b ∷ c ∷ d ∷ e ∷ f ∷ g ∷ more) one two three four five six = refl

pub any_mapped : {A B : Type 0} (test : B → Bool) (f : A → B) (xs : List A) → list_any (λ x. test (f x)) xs ≡ list_any test (map f xs)
any_mapped test f [] = refl
any_mapped test f (x ∷ xs) = ap (λ more. test (f x) || more) (any_mapped test f xs)

pub many_fields : (trace : Traced) (fields : List (List ℕ)) → most_parts < length fields → said trace fields ≡ Err Form
unfolding said
many_fields trace fields many =
    either (list_any (λ field. length field == 0) fields) (said_by trace fields)
    (no_form trace fields (λ e. omega arith) (λ e. omega arith) (λ e. omega arith) (λ e. omega arith) (λ e. omega arith) (λ e. omega arith))
  where
    either : (test : Bool) (read : Result Statement Why) → read ≡ Err Form → cond test (Err Form) read ≡ Err Form
    either true read is = refl
    either false read is = is

pub empty_field : (trace : Traced) (fields : List (List ℕ)) → list_any (λ field. length field == 0) fields ≡ true → said trace fields ≡ Err Form
unfolding said
empty_field trace fields any = ap (λ test. cond test (Err Form) (said_by trace fields)) any

pub no_empty_field : (trace : Traced) (fields : List (List ℕ)) → list_any (λ field. length field == 0) fields ≡ false → said trace fields ≡ said_by trace fields
unfolding said
no_empty_field trace fields any = ap (λ test. cond test (Err Form) (said_by trace fields)) any

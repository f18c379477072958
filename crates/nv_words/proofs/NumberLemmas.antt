-- Which numbers a text is.
use Rattle.std.proofs.Common.{◌≡◌, ℕ, ◌<◌, ◌^◌, Bool, true, false, List, Option, Some, None, Result, Ok, Err, refl, sym, ap, ◌∙◌, ◌≤◌, subst, nat_le, ◌&&◌, if◌then◌else◌}
use Rattle.std.proofs.lemmas.Bool.{and_parts, and_from, false≢true, leb-true, le-leb}
use Rattle.std.specs.Str.Parse.{IsNumeral, ParsesUnsigned, digits_value, without_leading_plus}
use Rattle.clap.specs.Values.{IsUnsignedIn}
use Rattle.clap.specs.ValueTests.{is_unsigned_in}
use Rattle.clap.specs.declared.builder.value_parser.ValueParser.TheVariants as vp
use Rattle.clap.proofs.ValueTestLemmas.{accepts-Accepts, Accepts-accepts}
use Rattle.nv_words.specs.Words.{number_in, number_or}

-- a text of a number within the bounds is that number
pub number_some : (least most : ℕ) (text : List ℕ) → IsUnsignedIn least most text → number_in least most text ≡ Some (digits_value 10 (without_leading_plus text))
number_some least most text within = rw (Accepts-accepts false (vp.Unsigned least most) text within) refl

-- every other text is none
pub number_none : (least most : ℕ) (text : List ℕ) → (IsUnsignedIn least most text → ⊥) → number_in least most text ≡ None
number_none least most text out = by_test (is_unsigned_in least most text) refl where
  by_test : (test : Bool) → is_unsigned_in least most text ≡ test → number_in least most text ≡ None
  by_test true is = absurd (out (accepts-Accepts false (vp.Unsigned least most) text is))
  by_test false is = rw is refl

module _ {E : Type 0} (least most : ℕ) (text : List ℕ) (r : Result ℕ E) (parsed : ParsesUnsigned 64 10 text r) where
  -- a text that is read as a number is it, where it is within the bounds
  pub read_number : (number : ℕ) → r ≡ Ok number → number_in least most text ≡ (if nat_le least number && nat_le number most then Some number else None)
  read_number number is = by_test (nat_le least number && nat_le number most) refl where
    read : (IsNumeral 10 (without_leading_plus text) × (digits_value 10 (without_leading_plus text) < 2 ^ 64)) × (number ≡ digits_value 10 (without_leading_plus text))
    read = subst (λ (r : Result ℕ E). ParsesUnsigned 64 10 text r) is parsed

    by_test : (test : Bool) → (nat_le least number && nat_le number most) ≡ test → number_in least most text ≡ (if test then Some number else None)
    by_test true within =
        let bounds = and_parts (nat_le least number) (nat_le number most) within in
        let low : least ≤ digits_value 10 (without_leading_plus text) = rw (← read.1) (leb-true least number bounds.0) in
        let high : digits_value 10 (without_leading_plus text) ≤ most = rw (← read.1) (leb-true number most bounds.1) in
        number_some least most text (read.0.0, read.0.1, low, high) ∙ ap Some (sym read.1)
    by_test false out =
        number_none least most text (λ within. absurd (false≢true (sym out ∙ both_true within)))
      where
        both_true : IsUnsignedIn least most text → (nat_le least number && nat_le number most) ≡ true
        both_true within = rw read.1 (and_from _ _ (le-leb least _ within.2) (le-leb _ most within.3))

  -- a text that isn't read as a number is none
  pub read_none : (e : E) → r ≡ Err e → number_in least most text ≡ None
  read_none e is = number_none least most text (λ within. subst (λ (r : Result ℕ E). ParsesUnsigned 64 10 text r) is parsed (within.0, within.1))

-- a number that a text is, is within the bounds
pub number_between : (least most : ℕ) (text : List ℕ) (number : ℕ) → number_in least most text ≡ Some number → (least ≤ number) × (number ≤ most)
number_between least most text number found = by_test (is_unsigned_in least most text) refl found where
  by_test : (test : Bool) → is_unsigned_in least most text ≡ test → (if test then Some (digits_value 10 (without_leading_plus text)) else None) ≡ Some number
      → (least ≤ number) × (number ≤ most)
  by_test true is found =
      let within : IsUnsignedIn least most text = accepts-Accepts false (vp.Unsigned least most) text is in
      let same : digits_value 10 (without_leading_plus text) ≡ number = cc in
      let Between : ℕ → Type 0 = λ number. (least ≤ number) × (number ≤ most) in
      subst Between same (within.2, within.3)
  by_test false is found = cc

-- and so is what an option says whose usual number is
pub option_between : (usual least most : ℕ) (value : Option (List ℕ)) (number : ℕ) → least ≤ usual → usual ≤ most → number_or usual least most value ≡ Some number
    → (least ≤ number) × (number ≤ most)
option_between usual least most None number low high found =
    let same : usual ≡ number = cc in
    let Between : ℕ → Type 0 = λ number. (least ≤ number) × (number ≤ most) in
    subst Between same (low, high)
option_between usual least most (Some text) number low high found = number_between least most text number found

-- The number that decimal digits stand for.
use Rattle.std.proofs.Common.{◌≡◌, ℕ, ◌+◌, ◌-◌, ◌*◌, ◌<◌, ◌≤◌, List, [], ◌∷◌, length, get_or, take, drop, fold, arith, sym, ap, ◌∙◌}
use Rattle.std.proofs.lemmas.Grind.{fold-append}
use Rattle.std.proofs.lemmas.List.{take-append-drop}
use Rattle.std.proofs.lemmas.List.Sums.{fold_more}
use Rattle.nv_trace.specs.Grammar.{value_of}

-- one more digit
abbrev pub with_digit : ℕ → ℕ → ℕ
with_digit value digit = 10 * value + (digit - 48)

grows : (value : ℕ) (digits : List ℕ) → value ≤ fold with_digit value digits
grows value [] = omega arith
grows value (digit ∷ digits) = omega (arith, grows (with_digit value digit) digits)

-- the digits so far stand for no more than all
front_value : (digits : List ℕ) (i : ℕ) → value_of (take i digits) ≤ value_of digits
front_value digits i =
    let all : value_of digits ≡ fold with_digit (value_of (take i digits)) (drop i digits) =
    ap value_of (sym (take-append-drop i digits)) ∙ fold-append with_digit 0 (take i digits) (drop i digits) in
    omega (arith, all, grows (value_of (take i digits)) (drop i digits))

-- and neither do those with the next
pub next_value : (digits : List ℕ) (i : ℕ) → i < length digits → with_digit (value_of (take i digits)) (get_or digits i 0) ≤ value_of digits
next_value digits i h = omega (arith, front_value digits (i + 1), fold_more with_digit 0 digits i 0 h)

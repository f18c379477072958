-- Blank parts.
use Rattle.std.proofs.Common.{◌≡◌, ◌==◌, ℕ, ◌≤◌, Bool, true, List, [], ◌∷◌, length, map, refl, sym, ap, ◌∙◌, arith}
use Rattle.std.proofs.lemmas.Bool.Decides.{nat_tests}
use Rattle.std.specs.Prelude.{Result, Ok, Err, IfOk}
use Rattle.nv_plain.specs.Images.{header_of}
use Rattle.nv_pmem.specs.Laws.{BlankIsZeros, QuietPartHasOneImage}
use Rattle.nv_pmem.specs.Moments.{Tells}
use Rattle.nv_pmem.specs.Part.{Part, part_word}
use Rattle.nv_pmem.specs.Room.{Room}
use Rattle.nv_pmem.specs.RowStates.{AreNow, row_tells_from, tells_at}
use Rattle.nv_pmem.specs.Rows.{RowTells, AreQuiet, row_words}
use Rattle.nv_pmem.specs.Steps.{PartHistory}
use Rattle.nv_bench.specs.Opening.{is_blank}
use Rattle.nv_header.specs.Heads.{header_image}
use Rattle.nv_header.specs.Needs.{header_history, header_lines_in}
use Rattle.nv_header.specs.Regions.{IsBlankRow}

zero_is_blank : (n : ℕ) → n ≡ 0 → true ≡ (n == 0)
zero_is_blank n is = ap (λ (k : ℕ). k == 0) (sym is)

pub blank_is_zero : (n : ℕ) → (n == 0) ≡ true → n ≡ 0
blank_is_zero n is = grind (arith, nat_tests)

module _ {X : Type 0} (zeros : BlankIsZeros) (history : X → PartHistory) (room : X → Room) (lines : (p : X) (now : Part) (past : PartHistory) → history p ≡ now ∷ past → length now ≡ (room p).lines) where
  blank_cases : (parts : List X) (told : List Part) (blank : Bool) → AreNow (map history parts) told
      → (header_lines_in (map room parts) ≡ 0 → blank ≡ true)
      → (1 ≤ header_lines_in (map room parts) → Tells (header_history (map history parts)) (λ now. blank ≡ ((header_of (header_image now)).magic == 0)))
      → blank ≡ is_blank told
  blank_cases [] [] blank are none says = none refl ∙ zero_is_blank (part_word [] 0 0) (zeros [] 0 0 refl)
  blank_cases [] (now ∷ told) blank are none says = absurd are
  blank_cases (part ∷ parts) [] blank are none says = absurd are
  blank_cases (part ∷ parts) ([] ∷ told) blank are none says =
      none (sym (lines part [] are.0.past are.0.is)) ∙ zero_is_blank (part_word [] 0 0) (zeros [] 0 0 refl)
  blank_cases (part ∷ parts) ((line ∷ now) ∷ told) blank are none says =
      tells_at (history part) (λ (state : Part). blank ≡ ((header_of (header_image state)).magic == 0)) (line ∷ now) are.0
      (says (omega (arith, lines part (line ∷ now) are.0.past are.0.is)))

  -- what the header's part reads as is what the parts tell
  pub blank_told : (parts : List X) (blank : Bool)
      → (header_lines_in (map room parts) ≡ 0 → blank ≡ true)
      → (1 ≤ header_lines_in (map room parts) → Tells (header_history (map history parts)) (λ now. blank ≡ ((header_of (header_image now)).magic == 0)))
      → RowTells (map history parts) (λ told. blank ≡ is_blank told)
  blank_told parts blank none says = row_tells_from (map history parts) (λ told. blank ≡ is_blank told) (λ told are. blank_cases parts told blank are none says)

  pub blank_answer : {E : Type 0} (parts : List X) (result : Result Bool E)
      → (header_lines_in (map room parts) ≡ 0 → result ≡ Ok true)
      → (1 ≤ header_lines_in (map room parts) → IfOk result (λ blank. Tells (header_history (map history parts)) (λ now. blank ≡ ((header_of (header_image now)).magic == 0))))
      → IfOk result (λ blank. RowTells (map history parts) (λ told. blank ≡ is_blank told))
  blank_answer parts (Ok blank) none says = blank_told parts blank (λ no. let same = none no in cc) says
  blank_answer parts (Err error) none says = tt

-- Blank parts that are quiet are those of a blank region.
pub blank_row : QuietPartHasOneImage → (told : List Part) → AreQuiet told → is_blank told ≡ true → IsBlankRow told
blank_row one told quiet blank = record {
  quiet = quiet;
  blank = λ image is. one _ (image 0) 0 0 ((quiet.each 0).lines 0) (is.each 0) ∙ blank_is_zero (row_words told 0 0 0) blank;
}

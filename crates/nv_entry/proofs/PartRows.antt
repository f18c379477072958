-- Rows of parts, of which one is changed.
use Rattle.std.proofs.Common.{◌≡◌, ℕ, ◌<◌, ◌≤◌, List, [], ◌∷◌, All, length, get_or, map, zero, suc, subst, arith}
use Rattle.std.proofs.lemmas.List.{length-map}
use Rattle.std.proofs.lemmas.List.Elements.{All-head, All-tail}
use Rattle.nv_pmem.specs.Moments.{Tells}
use Rattle.nv_pmem.specs.Part.{Part}
use Rattle.nv_pmem.specs.Rows.{RowTells}
use Rattle.nv_pmem.specs.Steps.{PartHistory}
use Rattle.nv_pmem.proofs.RowLaws.{EachPart, row_tells_each}
use Rattle.nv_pmem.proofs.StepLaws.{tells_told}

-- parts that have so many lines tell it
part_tells_lines : {X : Type 0} (history : X → PartHistory) (lines : X → ℕ) (least : ℕ) → ((x : X) (now : Part) (past : PartHistory) → history x ≡ now ∷ past → length now ≡ lines x)
    → (parts : List X) → All (λ x. least ≤ lines x) parts → (i : ℕ) → i < length (map history parts) → Tells (get_or (map history parts) i []) (λ now. least ≤ length now)
part_tells_lines history lines least told [] each i below = absurd (omega arith)
part_tells_lines history lines least told (x ∷ xs) each zero below =
    let enough = All-head (λ y. least ≤ lines y) x xs each in
    tells_told (history x) (λ now. least ≤ length now) (λ now past is. omega (arith, told x now past is))
part_tells_lines history lines least told (x ∷ xs) each (suc i) below =
    part_tells_lines history lines least told xs (All-tail (λ y. least ≤ lines y) x xs each) i (omega arith)

pub row_tells_lines : {X : Type 0} (history : X → PartHistory) (lines : X → ℕ) (least count : ℕ) → ((x : X) (now : Part) (past : PartHistory) → history x ≡ now ∷ past → length now ≡ lines x)
    → (parts : List X) → length parts ≡ count → All (λ x. least ≤ lines x) parts → RowTells (map history parts) (EachPart (λ i now. least ≤ length now) count)
row_tells_lines history lines least count told parts long each =
    let At : ℕ → Type 0 = λ n. RowTells (map history parts) (EachPart (λ i now. least ≤ length now) n) in
    let size : length (map history parts) ≡ count = omega (arith, length-map parts history) in
    subst At size (row_tells_each (map history parts) (λ i now. least ≤ length now) (part_tells_lines history lines least told parts each))

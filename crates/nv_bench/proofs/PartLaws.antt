-- Laws about parts in memory: blank ones, and those that lose power.
use Rattle.std.proofs.Common.{◌≡◌, ℕ, ◌+◌, true, List, [], ◌∷◌, ◌++◌, length, map, get_or, refl, sym, ap, ◌∙◌, arith, eq-eqb, sum_by}
use Rattle.std.specs.Prelude.{All, Some, None, slice_get}
use Rattle.std.specs.List.{range_with_len}
use Rattle.std.proofs.lemmas.List.{map-append}
use Rattle.std.proofs.lemmas.List.FromFn.{map-range_with_len_more}
use Rattle.std.proofs.lemmas.List.Sums.{sum_by-append, sum_by-cons}
use Rattle.nv_pmem.specs.Draws.{Draws}
use Rattle.nv_pmem.specs.MemPart.{part_now, part_history, part_room, part_faults}
use Rattle.nv_pmem.specs.Part.{Part, part_word}
use Rattle.nv_pmem.specs.Picked.{picked}
use Rattle.nv_pmem.specs.Steps.{PartHistory}
use Rattle.nv_pmem.specs.RowStates.{IsNow, AreNow}
use Rattle.nv_pmem.specs.declared.mem_part.MemPart.{MemPart}
use Rattle.nv_pmem.proofs.MadeLaws.{now_of_first}
use Rattle.nv_pmem.proofs.PickedLaws.{quiet_spare}
use Rattle.nv_pmem.proofs.RowLaws.{blank_word}
use Rattle.nv_bench.specs.Opening.{is_blank, IsFreshWhereQuiet}
use Rattle.nv_bench.specs.Powered.{powered_parts}
use Rattle.nv_bench.proofs.Through.{through}

nothing : (part : Part) → length part ≡ 0 → part_word part 0 0 ≡ 0
nothing [] none = blank_word 0
nothing (line ∷ part) none = absurd (omega (arith, none))

-- parts of which the first has no line are blank
pub blank_without : (parts : List Part) → length (get_or parts 0 []) ≡ 0 → true ≡ is_blank parts
blank_without parts none = sym (eq-eqb (part_word (get_or parts 0 []) 0 0) 0 (nothing (get_or parts 0 []) none))

pub blank_none : (parts : List MemPart) → None ≡ slice_get parts 0 → true ≡ is_blank (map part_now parts)
blank_none [] is = blank_without [] refl
blank_none (part ∷ parts) is = cc

pub blank_some : (parts : List MemPart) (header : MemPart) → Some header ≡ slice_get parts 0 → length (part_now header) ≡ 0 → true ≡ is_blank (map part_now parts)
blank_some [] header is none = cc
blank_some (part ∷ parts) header is none =
    let same : part ≡ header = cc in blank_without (map part_now (part ∷ parts)) (ap (λ (one : MemPart). length (part_now one)) same ∙ none)

-- the header and the first entries, and one entry more
pub sized_more : (f : ℕ → Part) (first : Part) (made new : List MemPart) (entry : MemPart) (i : ℕ) → new ≡ made ++ entry ∷ []
    → map part_now made ≡ first ∷ map f (range_with_len 1 i) → part_history entry ≡ f (1 + i) ∷ [] → map part_now new ≡ first ∷ map f (range_with_len 1 (i + 1))
sized_more f first made new entry i is so_far one =
    ap (map part_now) is ∙ map-append part_now made (entry ∷ [])
    ∙ ap (λ front. front ++ part_now entry ∷ []) so_far
    ∙ ap (λ last. first ∷ (map f (range_with_len 1 i) ++ last ∷ [])) (now_of_first _ _ _ one)
    ∙ ap (λ rest. first ∷ rest) (sym (map-range_with_len_more f 1 i (1 + i) refl))

pub faults_more : (made new : List MemPart) (part : MemPart) → new ≡ made ++ part ∷ [] → sum_by part_faults made ≡ 0 → part_faults part ≡ 0 → sum_by part_faults new ≡ 0
faults_more made new part is so_far one =
    ap (sum_by part_faults) is ∙ sum_by-append part_faults made (part ∷ []) ∙ omega (arith, so_far, one, sum_by-cons part_faults part [])

-- a state that was put before others
pub first_of : (a b : Part) (p q : PartHistory) → a ∷ p ≡ b ∷ q → a ≡ b
first_of a b p q same = cc

-- parts lose power one after another
pub powered_through : (draws : Draws) (parts : List Part) → through picked draws parts ≡ powered_parts draws parts
unfolding through powered_parts
powered_through draws [] = refl
powered_through draws (part ∷ parts) =
    let one = picked draws part in
    ap (λ (rest : List Part × Draws). let all : List Part × Draws = (one.0 ∷ rest.0, rest.1) in all) (powered_through one.1 parts)

-- ---- what parts in memory tell

pub parts_are_now : (parts : List MemPart) → AreNow (map part_history parts) (map part_now parts)
parts_are_now [] = tt
parts_are_now (part ∷ parts) = (record { past = _; is = refl }, parts_are_now parts)

fresh : (part : MemPart) → IsFreshWhereQuiet (part_history part) (part_room part)
fresh part = λ quiet. record { spare = λ line inside. let all = quiet_spare (part_now part) line quiet in omega (arith, all) }

pub parts_are_fresh : (parts : List MemPart) → All (λ part. IsFreshWhereQuiet (part_history part) (part_room part)) parts
parts_are_fresh parts k d inside = fresh (get_or parts k d)

now_is : (history : PartHistory) (now at_home : Part) (past : PartHistory) → history ≡ at_home ∷ past → IsNow history now → now ≡ at_home
now_is history now at_home past same is = let other = is.is in cc

-- what they tell is their present state
pub are_parts : (parts : List MemPart) (now : List Part) → AreNow (map part_history parts) now → now ≡ map part_now parts
are_parts [] [] are = refl
are_parts [] (one ∷ now) are = absurd are
are_parts (part ∷ parts) [] are = absurd are
are_parts (part ∷ parts) (one ∷ now) are =
    let first : one ≡ part_now part = now_is (part_history part) one (part_now part) _ refl are.0 in
    let rest = are_parts parts now are.1 in
    cc

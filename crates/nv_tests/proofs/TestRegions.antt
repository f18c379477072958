-- Regions in memory whose parts have lost power.
use Rattle.std.proofs.Common.{◌≡◌, ℕ, ◌++◌, ◌<◌, List, [], ◌∷◌, All, length, map, take, sym, subst, arith}
use Rattle.std.proofs.Math.Seq.{take-append_seam}
use Rattle.std.proofs.lemmas.List.{get_or-map, length-map}
use Rattle.std.proofs.lemmas.List.Elements.{AllZip-get_or, length_all_zip}
use Rattle.std.specs.List.{AllZip}
use Rattle.nv_pmem.specs.MemPart.{part_room}
use Rattle.nv_pmem.specs.Room.{Room, Keeps}
use Rattle.nv_pmem.specs.declared.mem_part.MemPart.{MemPart}
use Rattle.nv_header.specs.Laws.{HasSpare}

-- Parts that have lost power, and were only read since, have room in each line.
pub all_spare : (lost parts : List MemPart) → All (λ part. (line : ℕ) → (part_room part).spare line ≡ 15) lost
    → AllZip (λ old new. Keeps (part_room old) (part_room new)) lost parts → All HasSpare (map part_room parts)
all_spare lost [] spare keeps i none below = absurd (omega arith)
all_spare lost (first ∷ rest) spare keeps i none below =
    let parts = first ∷ rest in
    let At : Room → Type 0 = HasSpare in
    let inside : i < length parts = omega (arith, length-map parts part_room) in
    let was_inside : i < length lost = omega (arith, length_all_zip (λ old new. Keeps (part_room old) (part_room new)) lost parts keeps) in
    let kept = AllZip-get_or (λ old new. Keeps (part_room old) (part_room new)) lost parts i first first keeps was_inside in
    subst At (sym (get_or-map part_room parts i first none inside)) (λ line under. omega (arith, spare i first was_inside line, kept.spare line))

-- what was written back to a vector
pub written_back : (count : ℕ) (new old : List MemPart) → length new ≡ count → take count (new ++ old) ≡ new
written_back count new old is = subst (λ n. take n (new ++ old) ≡ new) is (take-append_seam new old)

-- The parts of a region, by their lines and their room.
use Rattle.std.proofs.Common.{ℕ, ◌≤◌, All, List, [], ◌∷◌, slice_index_or, zero, suc, ap, arith}
use Rattle.std.proofs.lemmas.List.{get_or-take, length-take}
use Rattle.std.proofs.lemmas.List.Elements.{All-head, All-tail}
use Rattle.nv_plain.specs.Layouts.{Layout}
use Rattle.nv_pmem.specs.Limits.{entry_lines}
use Rattle.nv_pmem.specs.Room.{Room}
use Rattle.nv_header.specs.Laws.{HasSpare, LinesMakeParts}
use Rattle.nv_header.specs.Needs.{HasLines}
use Rattle.nv_header.specs.Regions.{part_lines, IsRoomy}

-- a part with its lines, each of which can take 15 stores
roomy : (lines : ℕ) (room : Room) → lines ≤ room.lines → HasSpare room → IsRoomy lines room
roomy lines room enough spare = record { there = enough; spare = λ line below. spare line (omega arith) }

roomy_at : (layout : Layout) (page entries : ℕ) (rooms : List Room) → HasLines layout page entries rooms → All HasSpare rooms → (i : ℕ) (none : Room) → i ≤ entries → IsRoomy (part_lines layout page i) (slice_index_or rooms i none)
roomy_at layout page entries [] has spare i none within = absurd (omega (arith, has.count))
roomy_at layout page entries (header ∷ others) has spare zero none within = roomy layout.header_lines header has.header (All-head HasSpare header others spare)
roomy_at layout page entries (header ∷ others) has spare (suc i) none within =
    let room = slice_index_or others i none in
    let enough : entry_lines page ≤ room.lines =
    omega (
      arith,
      has.each i none (omega (arith, has.count, length-take entries others)),
      ap (λ (one : Room). one.lines) (get_or-take entries others i none (omega arith)),
    ) in
    roomy (entry_lines page) room enough (All-tail HasSpare header others spare i none (omega (arith, has.count)))

pub lines_make_parts : LinesMakeParts
lines_make_parts layout page entries rooms has spare = record { count = has.count; each = roomy_at layout page entries rooms has spare }

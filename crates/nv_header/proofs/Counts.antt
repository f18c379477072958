-- The lines that parts have, of those that are needed.
use Rattle.std.proofs.Common.{◌≡◌, ℕ, ◌+◌, ◌*◌, ◌≤◌, min, List, [], ◌∷◌, zero, suc, length, map, take, drop, get_or, refl, sym, ap, ◌∙◌, arith}
use Rattle.std.specs.Prelude.{All, sum_by}
use Rattle.std.proofs.lemmas.List.{take_min}
use Rattle.std.proofs.lemmas.List.Elements.{All-cons, All-nil}
use Rattle.std.proofs.lemmas.List.Sums.{sum_by-cons}
use Rattle.nv_plain.specs.Layouts.{Layout}
use Rattle.nv_pmem.specs.Room.{Room}
use Rattle.nv_pmem.specs.Limits.{entry_lines}
use Rattle.nv_header.specs.Needs.{HasLines, lines_found, lines_wanted}

-- the same count, of the parts and of their numbers of lines
pub sum_by-take-map : {X : Type 0} (room : X → Room) → (most count : ℕ) (parts : List X) → sum_by (λ part. min most (room part).lines) (take count parts) ≡ sum_by (λ have. min most have.lines) (take count (map room parts))
sum_by-take-map room most zero parts = refl
sum_by-take-map room most (suc count) [] = refl
sum_by-take-map room most (suc count) (part ∷ parts) =
    sum_by-cons (λ one. min most (room one).lines) part (take count parts)
    ∙ ap (λ rest. min most (room part).lines + rest) (sum_by-take-map room most count parts)
    ∙ sym (sum_by-cons (λ have. min most have.lines) (room part) (take count (map room parts)))

-- parts that are cut off count for nothing
pub sum_by-take_min : {X : Type 0} (room : X → Room) → (most count : ℕ) (parts : List X) → sum_by (λ part. min most (room part).lines) (take (min (length parts) count) parts) ≡ sum_by (λ have. min most have.lines) (take count (map room parts))
sum_by-take_min room most count parts =
    let swapped : min (length parts) count ≡ min count (length parts) = omega arith in
    ap (λ n. sum_by (λ part. min most (room part).lines) (take n parts)) swapped
    ∙ ap (sum_by (λ part. min most (room part).lines)) (take_min count parts)
    ∙ sum_by-take-map room most count parts

-- what is there of so many parts of so many lines each
record IsFull (most count : ℕ) (rooms : List Room) : Type 0 where
  pub count_is : count ≤ length rooms
  pub each : All (λ have. most ≤ have.lines) (take count rooms)

sum-le : (most count : ℕ) (rooms : List Room) → sum_by (λ have. min most have.lines) (take count rooms) ≤ count * most
sum-le most zero rooms = omega arith
sum-le most (suc count) [] = omega arith
sum-le most (suc count) (have ∷ rooms) = omega (arith, sum_by-cons (λ one. min most one.lines) have (take count rooms), sum-le most count rooms)

full_of_sum : (most count : ℕ) (rooms : List Room) → 1 ≤ most → sum_by (λ have. min most have.lines) (take count rooms) ≡ count * most → IsFull most count rooms
full_of_sum most zero rooms some is = record { count_is = omega arith; each = All-nil _ }
full_of_sum most (suc count) [] some is = absurd (omega (arith))
full_of_sum most (suc count) (have ∷ rooms) some is =
    let front = sum_by-cons (λ one. min most one.lines) have (take count rooms) in
    let rest = full_of_sum most count rooms some (omega (arith, front, sum-le most count rooms)) in
    record { count_is = omega (arith, rest.count_is); each = All-cons (λ one. most ≤ one.lines) have (take count rooms) (omega (arith, front, sum-le most count rooms)) rest.each }

sum_of_full : (most count : ℕ) (rooms : List Room) → count ≤ length rooms → All (λ have. most ≤ have.lines) (take count rooms) → sum_by (λ have. min most have.lines) (take count rooms) ≡ count * most
sum_of_full most zero rooms fits each = omega arith
sum_of_full most (suc count) [] fits each = absurd (omega arith)
sum_of_full most (suc count) (have ∷ rooms) fits each =
    let first : most ≤ have.lines = each 0 have (omega arith) in
    let others : All (λ room. most ≤ room.lines) (take count rooms) = λ k d inside. each (suc k) d (omega arith) in
    omega (arith, sum_by-cons (λ one. min most one.lines) have (take count rooms), sum_of_full most count rooms (omega arith) others)

-- the parts have the needed lines where all of these are found
pub has_lines : (layout : Layout) (page entries : ℕ) (rooms : List Room) → 1 ≤ layout.header_lines → lines_found layout page entries rooms ≡ lines_wanted layout page entries → HasLines layout page entries rooms
has_lines layout page entries [] some is = absurd (omega arith)
has_lines layout page entries (header ∷ others) some is =
    let others_full = full_of_sum (entry_lines page) entries others (omega arith) (omega (arith, sum-le (entry_lines page) entries others)) in
    record {
      header = omega (arith, sum-le (entry_lines page) entries others);
      count = omega (arith, others_full.count_is);
      each = others_full.each;
    }

-- and only there
pub found-has_lines : (layout : Layout) (page entries : ℕ) (rooms : List Room) → HasLines layout page entries rooms → lines_found layout page entries rooms ≡ lines_wanted layout page entries
found-has_lines layout page entries [] has = absurd (omega (arith, has.count))
found-has_lines layout page entries (header ∷ others) has =
    omega (arith, has.header, sum_of_full (entry_lines page) entries others (omega (arith, has.count)) has.each)

-- the header's lines, and those of the entries' parts behind it
pub found-first : {X : Type 0} (room : X → Room) → (layout : Layout) (page entries : ℕ) (parts others : List X) (header : X) (first rest count : ℕ) → 1 ≤ length parts → header ≡ get_or parts 0 header → others ≡ drop 1 parts → first ≡ min layout.header_lines (room header).lines → count ≡ min (length others) entries → rest ≡ sum_by (λ part. min (entry_lines page) (room part).lines) (take count others) → first + rest ≡ lines_found layout page entries (map room parts)
found-first room layout page entries [] others header first rest count some header_is others_are first_is count_is rest_is = absurd (omega arith)
found-first {X} room layout page entries (one ∷ behind) others header first rest count some header_is others_are first_is count_is rest_is =
    let same : (room header).lines ≡ (room one).lines = ap (λ part. (room part).lines) header_is in
    let front : first ≡ min layout.header_lines (room one).lines = first_is ∙ ap (min layout.header_lines) same in
    let back =
    rest_is
    ∙ ap (λ n. sum_by (λ part. min (entry_lines page) (room part).lines) (take n others)) count_is
    ∙ sum_by-take_min room (entry_lines page) entries others
    ∙ ap (λ these. sum_by (λ have. min (entry_lines page) have.lines) (take entries (map room these))) others_are in
    ap (λ n. n + rest) front ∙ ap (λ n. min layout.header_lines (room one).lines + n) back

-- few lines of few parts
pub sum_by-min-small : {X : Type 0} (lines : X → ℕ) → (most bound : ℕ) (parts : List X) → most ≤ bound → sum_by (λ part. min most (lines part)) parts ≤ length parts * bound
sum_by-min-small lines most bound [] low = omega arith
sum_by-min-small lines most bound (part ∷ parts) low =
    omega (arith, sum_by-cons (λ one. min most (lines one)) part parts, sum_by-min-small lines most bound parts low)

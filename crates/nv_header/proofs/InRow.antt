-- Calls on one part of a row: what they are of the row.
use Rattle.std.proofs.Common.{◌≡◌, ℕ, ◌<◌, ◌≤◌, inl, inr, List, [], ◌∷◌, length, map, get_or, slice_index_or, slice_set, zero, suc, sym, ap, ◌∙◌, subst, arith}
use Rattle.std.proofs.lemmas.Bool.{cases_eq}
use Rattle.std.proofs.lemmas.List.{get_or_default, get_or-map, map-set, length-map, length-set, get_or-set_same, get_or-set_other}
use Rattle.nv_plain.specs.Layouts.{Layout, layout_of}
use Rattle.nv_plain.specs.declared.limits.Version.{Version}
use Rattle.nv_pmem.specs.Moments.{Tells}
use Rattle.nv_pmem.specs.Part.{Part}
use Rattle.nv_pmem.specs.Room.{Room, Keeps, Takes, Frees, Settles}
use Rattle.nv_pmem.specs.Rows.{RowTells}
use Rattle.nv_pmem.specs.Steps.{PartHistory}
use Rattle.nv_pmem.proofs.StepLaws.{tells_told}
use Rattle.nv_pmem.proofs.RowLaws.{EachPart, row_tells_each, row_tells_more}
use Rattle.nv_header.proofs.VersionLaws.{sizes}
use Rattle.nv_header.specs.Regions.{part_lines, IsRoomy, StaysRoomy, HasParts, IsRegion}

-- ---- room

-- a word of a line stored and made durable
pub stays_settled : {old new : Room} (count line : ℕ) → Takes count line old new → Settles line old new → StaysRoomy old new
stays_settled {old} {new} count line takes settles = record {
  lines_are = takes.lines;
  spare = λ other enough. elim (cases_eq other line) [
    | inl same ↦ let At : ℕ → Type 0 = λ k. 15 ≤ new.spare k in subst At (sym same) settles.spare
    | inr differs ↦ omega (arith, settles.other_spare other differs)
  ];
}

pub stays_stays : {old between new : Room} → StaysRoomy old between → StaysRoomy between new → StaysRoomy old new
stays_stays a b = record { lines_are = b.lines_are ∙ a.lines_are; spare = λ line enough. b.spare line (a.spare line enough) }

pub stays_roomy : {old new : Room} (lines : ℕ) → StaysRoomy old new → IsRoomy lines old → IsRoomy lines new
stays_roomy lines stays roomy = record {
  there = omega (arith, stays.lines_are, roomy.there);
  spare = λ line below. stays.spare line (roomy.spare line below);
}

-- the part of the header, or of an entry, has its lines, and room in them
pub roomy_part : {X : Type 0} (room : X → Room) (layout : Layout) (page entries : ℕ) (parts : List X) (i : ℕ) (was d : X) → HasParts layout page entries (map room parts) → i ≤ entries → was ≡ get_or parts i d → IsRoomy (part_lines layout page i) (room was)
roomy_part room layout page entries parts i was d has within is =
    let At : Room → Type 0 = IsRoomy (part_lines layout page i) in
    let none = room d in
    subst At (get_or-map room parts i d none (omega (arith, has.count, length-map parts room)) ∙ ap room (sym is)) (has.each i none within)

-- a region's parts stay so when one of them keeps its room
pub has_parts_set : {X : Type 0} (room : X → Room) (layout : Layout) (page entries : ℕ) (parts : List X) (i : ℕ) (was new d : X) → i < length parts → was ≡ get_or parts i d → StaysRoomy (room was) (room new)
    → HasParts layout page entries (map room parts) → HasParts layout page entries (map room (slice_set parts i new))
has_parts_set room layout page entries parts i was new d inside is stays has =
    let There : List Room → Type 0 = HasParts layout page entries in
    let all : i < length (map room parts) = omega (arith, length-map parts room) in
    subst There (sym (map-set room parts i new))
    (record {
      count = omega (arith, length-set (map room parts) i (room new), has.count);
      each = λ k none below. elim (cases_eq k i) [
        | inl same ↦
            let At : Room → Type 0 = IsRoomy (part_lines layout page k) in
            let Here : ℕ → Type 0 = λ j. IsRoomy (part_lines layout page j) (room was) in
            subst At (sym (ap (λ j. slice_index_or (slice_set (map room parts) i (room new)) j none) same ∙ get_or-set_same (map room parts) i (room new) none all))
            (stays_roomy (part_lines layout page k) stays
            (subst Here (sym same) (roomy_part room layout page entries parts i was d has (omega arith) is)))
        | inr differs ↦
            let At : Room → Type 0 = IsRoomy (part_lines layout page k) in
            subst At (sym (get_or-set_other (map room parts) i k (room new) none differs)) (has.each k none below)
      ];
    })

-- ---- versions

-- a region of a version that is known
pub region_as : {version other : Version} {page entries : ℕ} {names : List (List ℕ)} {next : ℕ} {rooms : List Room} {row : List PartHistory} → version ≡ other
    → IsRegion (layout_of version) page entries names next rooms row → IsRegion (layout_of other) page entries names next rooms row
region_as {page = page} {entries} {names} {next} {rooms} {row} same region = subst (λ (one : Version). IsRegion (layout_of one) page entries names next rooms row) same region

-- ---- what the parts tell

-- The parts of the header and of each entry have their lines.
pub record HaveLines (layout : Layout) (page entries : ℕ) (parts : List Part) : Type 0 where
  pub has : (i : ℕ) → i ≤ entries → part_lines layout page i ≤ length (slice_index_or parts i [])

told_lines_at : {X : Type 0} (history : X → PartHistory) (room : X → Room) (layout : Layout) (page entries : ℕ) (parts : List X) (i : ℕ) (was : X)
    → ((part : X) (now : Part) (past : PartHistory) → history part ≡ now ∷ past → length now ≡ (room part).lines)
    → HasParts layout page entries (map room parts) → i < length parts → was ≡ get_or parts i was → Tells (slice_index_or (map history parts) i []) (λ now. i ≤ entries → part_lines layout page i ≤ length now)
told_lines_at history room layout page entries parts i was told has inside is =
    tells_told (slice_index_or (map history parts) i []) (λ now. i ≤ entries → part_lines layout page i ≤ length now) (λ now past now_is within.
    let roomy = roomy_part room layout page entries parts i was was has within is in
    omega (arith, roomy.there, told was now past (ap history is ∙ sym (get_or-map history parts i was [] inside) ∙ now_is)))

-- where the parts tell, they have their lines
pub told_room : {X : Type 0} (history : X → PartHistory) (room : X → Room) (layout : Layout) (page entries : ℕ) (parts : List X)
    → ((part : X) (now : Part) (past : PartHistory) → history part ≡ now ∷ past → length now ≡ (room part).lines)
    → HasParts layout page entries (map room parts) → RowTells (map history parts) (HaveLines layout page entries)
told_room history room layout page entries [] told has = absurd (omega (arith, has.count))
told_room history room layout page entries (first ∷ rest) told has =
    let parts = first ∷ rest in
    let row = map history parts in
    let P : ℕ → Part → Type 0 = λ i now. i ≤ entries → part_lines layout page i ≤ length now in
    row_tells_more row (EachPart P (length row)) (HaveLines layout page entries)
    (λ now each. record {
      has = λ i within. each.has i (omega (arith, has.count, length-map parts history, length-map parts room)) within;
    })
    (row_tells_each row P (λ i below.
    let inside : i < length parts = omega (arith, length-map parts history) in
    let was = get_or parts i first in
    told_lines_at history room layout page entries parts i was told has inside (get_or_default parts i first was inside)))

-- line 0 of any part is there, and can be stored to
pub roomy_line_0 : (version : Version) (page i : ℕ) (room : Room) → IsRoomy (part_lines (layout_of version) page i) room → (0 < room.lines) × (1 ≤ room.spare 0)
roomy_line_0 version page zero room roomy =
    let some : 0 < (layout_of version).header_lines = omega (arith, (sizes version).first, (sizes version).names) in
    (omega (arith, roomy.there), omega (arith, roomy.spare 0 some))
roomy_line_0 version page (suc i) room roomy = (omega (arith, roomy.there), omega (arith, roomy.spare 0 (omega arith)))

-- a line stored to, flushed and fenced
pub stays_stored : {old stored flushed new : Room} (count line : ℕ) → Takes count line old stored → Keeps stored flushed → 15 ≤ flushed.after_fence line → Keeps flushed new → Frees flushed new → StaysRoomy old new
stays_stored {old} {stored} {flushed} {new} count line takes flush ready fence frees = record {
  lines_are = fence.lines ∙ flush.lines ∙ takes.lines;
  spare = λ other enough. elim (cases_eq other line) [
    | inl same ↦ let At : ℕ → Type 0 = λ k. 15 ≤ new.spare k in subst At (sym same) (omega (arith, ready, frees.spare line))
    | inr differs ↦ omega (arith, takes.other_spare other differs, flush.spare other, fence.spare other)
  ];
}

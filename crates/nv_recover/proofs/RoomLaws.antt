-- The lines of a region's parts, as each call asks for them.
use Rattle.std.proofs.Common.{◌≡◌, ℕ, ◌+◌, ◌<◌, ◌≤◌, All, List, [], ◌∷◌, length, take, drop, map, get_or, slice_set, suc, refl, sym, ap, ◌∙◌, subst, arith}
use Rattle.std.proofs.lemmas.List.{length-map, get_or-map, get_or-take, get_or-drop, length-take}
use Rattle.std.proofs.lemmas.List.Elements.{All-weaker, AllZip-get_or, length_all_zip}
use Rattle.std.specs.List.{AllZip}
use Rattle.nv_plain.specs.Layouts.{Layout, layout_of}
use Rattle.nv_plain.specs.declared.limits.Version.{Version}
use Rattle.nv_plain.specs.declared.limits.Version.TheVariants.{One, Two}
use Rattle.nv_pmem.specs.Limits.{entry_lines}
use Rattle.nv_pmem.specs.Room.{Room, Keeps}
use Rattle.nv_header.specs.Regions.{part_lines, IsRoomy, StaysRoomy, HasParts}
use Rattle.nv_header.proofs.InRow.{roomy_line_0, roomy_part, has_parts_set}
use Rattle.nv_recover.specs.Changes.{StayParts}

still_each : {X : Type 0} (room : X → Room) (layout : Layout) (page entries : ℕ) (old new : List X) → AllZip (λ before now. Keeps (room before) (room now)) old new → HasParts layout page entries (map room old) → length old ≡ length new
    → (i : ℕ) (none : Room) → i ≤ entries → IsRoomy (part_lines layout page i) (get_or (map room new) i none)
still_each room layout page entries [] new rooms has long i none within = absurd (omega (arith, has.count))
still_each room layout page entries (x ∷ old) [] rooms has long i none within = absurd (omega (arith, long))
still_each room layout page entries (x ∷ old) (y ∷ new) rooms has long i none within =
    let At : Room → Type 0 = IsRoomy (part_lines layout page i) in
    let was = roomy_part room layout page entries (x ∷ old) i (get_or (x ∷ old) i x) x has within refl in
    let inside : i < length (x ∷ old) = omega (arith, has.count, length-map (x ∷ old) room) in
    let kept = AllZip-get_or (λ before now. Keeps (room before) (room now)) (x ∷ old) (y ∷ new) i x y rooms inside in
    subst At (sym (get_or-map room (y ∷ new) i y none (omega (arith, long)))) (record {
      there = omega (arith, was.there, kept.lines);
      spare = λ line below. omega (arith, was.spare line below, kept.spare line);
    })

-- parts that are only read stay those of a region
pub parts_read : {X : Type 0} (room : X → Room) (old new : List X) → AllZip (λ before now. Keeps (room before) (room now)) old new → StayParts (map room old) (map room new)
parts_read room old new rooms layout page entries has =
    let long : length old ≡ length new = length_all_zip (λ before now. Keeps (room before) (room now)) old new rooms in
    record {
      count = omega (arith, length-map new room, long, has.count, length-map old room);
      each = still_each room layout page entries old new rooms has long;
    }

-- and so where one of them keeps its room
pub parts_set : {X : Type 0} (room : X → Room) (parts : List X) (i : ℕ) (was new d : X) → i < length parts → was ≡ get_or parts i d → StaysRoomy (room was) (room new) → StayParts (map room parts) (map room (slice_set parts i new))
parts_set room parts i was new d inside is stays layout page entries = has_parts_set room layout page entries parts i was new d inside is stays

pub parts_stay : {old between new : List Room} → StayParts old between → StayParts between new → StayParts old new
parts_stay first then layout page entries has = then layout page entries (first layout page entries has)

-- no header has fewer lines than that of version 1
least_lines : (version : Version) → 18 ≤ (layout_of version).header_lines
least_lines One = omega arith
least_lines Two = omega arith

module _ {X : Type 0} (room : X → Room) (page entries : ℕ) where
  pub parts_count : {layout : Layout} (parts : List X) → HasParts layout page entries (map room parts) → 1 + entries ≤ length parts
  parts_count parts has = omega (arith, has.count, length-map parts room)

  roomy_at : (layout : Layout) (parts : List X) (i : ℕ) (d : X) → HasParts layout page entries (map room parts) → i ≤ entries → IsRoomy (part_lines layout page i) (room (get_or parts i d))
  roomy_at layout parts i d has within =
      roomy_part room layout page entries parts i (get_or parts i d) d has within refl

  -- an entry has a part,
  pub entry_inside : {layout : Layout} (parts : List X) (entry : ℕ) → HasParts layout page entries (map room parts) → entry < entries → 1 + entry < length parts
  entry_inside parts entry has below = omega (arith, parts_count parts has)

  -- whose first line can be stored to
  pub entry_line : (version : Version) (parts : List X) (entry : ℕ) (d : X) → HasParts (layout_of version) page entries (map room parts) → entry < entries
      → (0 < (room (get_or parts (1 + entry) d)).lines) × (1 ≤ (room (get_or parts (1 + entry) d)).spare 0)
  entry_line version parts entry d has below = roomy_line_0 version page (1 + entry) _ (roomy_at (layout_of version) parts (1 + entry) d has (omega arith))

  -- so can the line of the tail, in the header's part
  pub tail_line : (version : Version) (parts : List X) (d : X) → HasParts (layout_of version) page entries (map room parts)
      → (18 ≤ (room (get_or parts 0 d)).lines) × (1 ≤ (room (get_or parts 0 d)).spare 1)
  tail_line version parts d has =
      let roomy = roomy_at (layout_of version) parts 0 d has (omega arith) in
      let least = least_lines version in
      (omega (arith, roomy.there, least), omega (arith, roomy.spare 1 (omega (arith, least))))

  -- each entry's part has those of an entry
  pub parts_slots : {layout : Layout} (parts : List X) → HasParts layout page entries (map room parts) → All (λ part. entry_lines page ≤ (room part).lines) (take entries (drop 1 parts))
  parts_slots {layout} parts has i d inside =
      let slots = drop 1 parts in
      let below : i < entries = omega (arith, length-take entries slots) in
      let at : 1 + i ≡ suc i = omega arith in
      let is : get_or (take entries slots) i d ≡ get_or parts (1 + i) d = get_or-take entries slots i d below ∙ get_or-drop 1 parts i d in
      let slot : IsRoomy (entry_lines page) (room (get_or parts (suc i) d)) = roomy_at layout parts (suc i) d has (omega arith) in
      omega (arith, slot.there, ap (λ part. (room part).lines) (is ∙ ap (λ k. get_or parts k d) at))

  -- and so a line
  pub slots_some : {layout : Layout} (parts : List X) → HasParts layout page entries (map room parts) → All (λ part. 1 ≤ (room part).lines) (take entries (drop 1 parts))
  slots_some parts has =
      All-weaker (λ part. entry_lines page ≤ (room part).lines) (λ part. 1 ≤ (room part).lines) (λ part enough. omega arith) (take entries (drop 1 parts)) (parts_slots parts has)

  -- parts that are only read stay so
  pub parts_still : {layout : Layout} (old new : List X) → AllZip (λ before now. Keeps (room before) (room now)) old new → HasParts layout page entries (map room old) → HasParts layout page entries (map room new)
  parts_still {layout} old new rooms = parts_read room old new rooms layout page entries

  -- and have as many lines
  pub lines_same : (old new : List X) → AllZip (λ before now. Keeps (room before) (room now)) old new → map (λ part. (room part).lines) new ≡ map (λ part. (room part).lines) old
  lines_same [] [] rooms = refl
  lines_same [] (y ∷ new) rooms = absurd rooms
  lines_same (x ∷ old) [] rooms = absurd rooms
  lines_same (x ∷ old) (y ∷ new) rooms =
      ap (λ count. count ∷ map (λ part. (room part).lines) new) rooms.0.lines ∙ ap (λ others. (room x).lines ∷ others) (lines_same old new rooms.1)

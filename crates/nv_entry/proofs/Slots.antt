-- The lines of a region's slots, in the row of its parts.
use Rattle.std.proofs.Common.{◌≡◌, ℕ, ◌+◌, ◌<◌, ◌≤◌, All, List, length, take, drop, get_or, ap, ◌∙◌, arith}
use Rattle.std.proofs.lemmas.List.{get_or-take, get_or-drop, length-take, length-drop}
use Rattle.std.proofs.lemmas.List.Elements.{AllZip-get_or, length_all_zip}
use Rattle.std.specs.List.{AllZip}
use Rattle.nv_pmem.specs.Room.{Room, Keeps}

module _ {P : Type 0} (room : P → Room) (lines entries : ℕ) where
  -- the slot of a number has as many lines as each has
  pub slot_lines : (parts : List P) (i : ℕ) (d : P) → i < entries → 1 + i < length parts → All (λ part. lines ≤ (room part).lines) (take entries (drop 1 parts))
      → lines ≤ (room (get_or parts (1 + i) d)).lines
  slot_lines parts i d below inside each =
      let slots = drop 1 parts in
      let is : get_or (take entries slots) i d ≡ get_or parts (1 + i) d = get_or-take entries slots i d below ∙ get_or-drop 1 parts i d in
      omega (
        arith,
        each i d (omega (arith, length-take entries slots, length-drop 1 parts)),
        ap (λ part. (room part).lines) is,
      )

  -- and still has them after a read
  pub slots_still : (old new : List P) → AllZip (λ before now. Keeps (room before) (room now)) old new → All (λ part. lines ≤ (room part).lines) (take entries (drop 1 old))
      → All (λ part. lines ≤ (room part).lines) (take entries (drop 1 new))
  slots_still old new rooms each k d inside =
      let slots = drop 1 new in
      let long : length old ≡ length new = length_all_zip (λ before now. Keeps (room before) (room now)) old new rooms in
      let taken = length-take entries slots in
      let dropped = length-drop 1 new in
      let below : k < entries = omega arith in
      let there : 1 + k < length old = omega arith in
      let is : get_or (take entries slots) k d ≡ get_or new (1 + k) d = get_or-take entries slots k d below ∙ get_or-drop 1 new k d in
      let kept = AllZip-get_or (λ before now. Keeps (room before) (room now)) old new (1 + k) d d rooms (omega arith) in
      omega (arith, kept.lines, ap (λ part. (room part).lines) is, slot_lines old k d below there each)

-- Beginnings: the table's invariant holds of what was made for a mount from the parts of a region at rest, its stores and the lengths of these.
use Rattle.std.proofs.Common.{None, ◌≡◌, ℕ, ◌+◌, ◌^◌, ◌≤◌, List, [], length, map, refl, sym, arith}
use Rattle.std.proofs.lemmas.List.{length-map}
use Rattle.atomic_table.specs.Table.{opening as laid}
use Rattle.nv_plain.specs.Layouts.{mount_layout}
use Rattle.nv_pmem.specs.Part.{Part}
use Rattle.nv_pmem.specs.Room.{Room}
use Rattle.nv_header.specs.Regions.{HasParts}
use Rattle.nv_core.specs.state.Spares.{SparesTell}
use Rattle.nv_core.specs.state.Values.{Value}
use Rattle.nv_core.specs.steps.Opening.{IsMount}
use Rattle.nv_table.specs.declared.rule.Opening.{Opening}
use Rattle.nv_table.specs.declared.slot.Slot.{Slot}
use Rattle.nv_table.specs.state.SlotValues.{part_value, slot_value}
use Rattle.nv_table.specs.state.Keys.{sizes_of, opened_of}
use Rattle.nv_table.specs.state.Layout.{slot_total}
use Rattle.nv_table.specs.state.Limits.{MountIsWithinLimits}
use Rattle.nv_table.specs.state.Opened.{Opened, mount_of}
use Rattle.nv_table.specs.ends.OpeningSlots.{AreOpeningSlots}
use Rattle.nv_table.specs.ends.OpeningWords.{AreOpeningWords}
use Rattle.nv_table.specs.invariant.BetweenSteps.{IsPass}
use Rattle.nv_table.specs.invariant.TableInvariant.{TableInvariant}
use Rattle.nv_table.specs.state.Views.{first_view}
use Rattle.nv_table.proofs.ends.MountLaws.{is_mount, slots_counted}
use Rattle.nv_table.proofs.ends.OpenLaws.{knows_nothing, opens_shows}

pub begins : SparesTell → {L B : Type 0} (device : L → ℕ) (history : L → List Part) (faults : L → ℕ) (room : L → Room) (store : B → Value) (opening : Opening (Slot L B))
    (parts : List L) (stores : List B) (words : List ℕ)
    → MountIsWithinLimits (sizes_of opening.layout) → length stores ≡ opening.layout.files
    → HasParts mount_layout opening.layout.page opening.layout.entries (map room parts) → opening.next ≤ 2 ^ 60
    → AreOpeningSlots (sizes_of opening.layout) parts stores opening.slots.items
    → AreOpeningWords (sizes_of opening.layout) opening.next opening.lengths.items words
    → TableInvariant (slot_value (part_value device history faults room) store) (opened_of (slot_value (part_value device history faults room) store) opening)
    (laid words opening.slots.items (first_view (opened_of (slot_value (part_value device history faults room) store) opening)))
begins tell {L = L} {B = B} device history faults room store opening parts stores words limits many has small are words_are =
    let enough : 1 + opening.layout.entries ≤ length parts = omega (arith, has.count, length-map parts room) in
    let shown : Slot L B → Value = slot_value (part_value device history faults room) store in
    opens_shows shown (opened_of shown opening) words opening.slots.items refl
    (is_mount device history faults room store tell (opened_of shown opening) parts stores opening.slots.items refl limits many has small are)
    words_are (slots_counted (sizes_of opening.layout) parts stores opening.slots.items are enough many)

-- The first pass has seen nothing and owns nothing.
pub first_pass : {S : Type 0} (opened : Opened) (held : List ℕ) (room : ℕ) → IsMount (mount_of opened) → held ≡ [] → slot_total opened.sizes ≤ room
    → IsPass {S = S} (first_view opened) [] 0 0 0 held room None None
first_pass opened held room mount none places = record {
  live = refl;
  number_is = refl;
  mount = mount;
  run = tt;
  known = knows_nothing opened;
  keeper = λ zero_is. record { made_is = refl; seated = refl; few = omega arith; taken = record { same = refl; made = λ past one. absurd one; behind = λ past one. absurd one }; count = refl };
  within = λ slot more. refl;
  each = λ slot less. refl;
  written = sym none;
  drawn_is = refl;
  lost_is = refl;
  roomy = places;
}

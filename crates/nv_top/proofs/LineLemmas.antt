-- Lines: parts that have those of their region.
use Rattle.std.proofs.Common.{◌≡◌, ℕ, zero, suc, ◌+◌, ◌<◌, ◌≤◌, List, [], ◌∷◌, ◌++◌, length, map, get_or, refl, sym, ap, subst, ◌∙◌, arith, length-append}
use Rattle.std.proofs.lemmas.List.{get_or-map, get_or-take, get_or_append_left, length-map, length-take}
use Rattle.std.proofs.lemmas.List.FromFn.{get_or-map-range_with_len, length-map-range_with_len}
use Rattle.std.specs.List.{range_with_len}
use Rattle.nv_plain.specs.Images.{layout_in}
use Rattle.nv_plain.specs.Layouts.{Layout, mount_layout}
use Rattle.nv_pmem.specs.Limits.{entry_lines}
use Rattle.nv_pmem.specs.Part.{Part}
use Rattle.nv_pmem.specs.Room.{Room}
use Rattle.nv_pmem.specs.RowStates.{AreNow, row_tells_at}
use Rattle.nv_pmem.specs.Rows.{row_words}
use Rattle.nv_pmem.specs.Steps.{PartHistory}
use Rattle.nv_store.proofs.RowReads.{length_now}
use Rattle.nv_header.specs.Needs.{HasLines}
use Rattle.nv_header.specs.Regions.{HasParts, part_lines}
use Rattle.nv_open.specs.Refusals.{head_layout, rooms_of}
use Rattle.nv_table.specs.state.Layout.{cell_of}
use Rattle.nv_table.specs.state.Opened.{mount_of}
use Rattle.nv_table.specs.state.States.{PassState}
use Rattle.nv_mount.specs.Telling.{HasLongParts, KeepLines, lines_kept, mounted_lines}

-- the layout that the header's part says is the one that the parts' words say
pub head_layout_is : (parts : List Part) → head_layout parts ≡ layout_in (row_words parts)
unfolding layout_in
head_layout_is parts = refl

-- the room of so many lines, as far as it is their count
abbrev pub room_with : ℕ → Room
room_with count = record { lines = count; spare = λ line. 0; after_fence = λ line. 0 }

abbrev pub room_of : Part → Room
room_of part = room_with (length part)

-- parts that have their lines
pub have_lines : (layout : Layout) (page entries : ℕ) (parts : List Part) → 1 + entries ≤ length parts → ((slot : ℕ) → slot ≤ entries → part_lines layout page slot ≤ length (get_or parts slot []))
    → HasLines layout page entries (rooms_of parts)
have_lines layout page entries [] many each = absurd (omega (arith, many))
have_lines layout page entries (part ∷ others) many each = record {
  header = each 0 (omega arith);
  count = let long = length-map (part ∷ others) room_of in omega (arith, many, long);
  each = λ k none inside.
      let below : k < entries = omega (arith, inside, length-take entries (rooms_of others)) in
      let there : k < length others = omega (arith, many, below) in
      let Long : Room → Type 0 = λ room. entry_lines page ≤ room.lines in
      subst Long (sym (get_or-take entries (rooms_of others) k none below ∙ get_or-map room_of others k [] none there)) (each (suc k) (omega (arith, below)));
}

-- what stands at a place of parts that tell has the lines of its room
module _ {L : Type 0} (history : L → PartHistory) (room : L → Room) (told_lines : (part : L) (now : Part) (past : PartHistory) → history part ≡ now ∷ past → length now ≡ (room part).lines) where
  line_at : (parts : List L) (states : List Part) → AreNow (map history parts) states → (slot : ℕ) (none : Room) → slot < length parts → (get_or (map room parts) slot none).lines ≡ length (get_or states slot [])
  line_at [] states are slot none less = absurd (omega (arith, less))
  line_at (part ∷ parts) [] are slot none less = absurd are
  line_at (part ∷ parts) (now ∷ states) are zero none less = sym (told_lines part now are.0.past are.0.is)
  line_at (part ∷ parts) (now ∷ states) are (suc slot) none less = line_at parts states are.1 slot none (omega (arith, less))

  -- so those of a region have its lines
  pub region_lines : (layout : Layout) (page entries : ℕ) (parts : List L) → HasParts layout page entries (map room parts) → (states : List Part) → AreNow (map history parts) states → HasLines layout page entries (rooms_of states)
  region_lines layout page entries parts has states are =
      let many = has.count in
      let long = length-map parts room in
      let rows = length-map parts history in
      let as_many = length_now (map history parts) states are in
      have_lines layout page entries states (omega (arith, many, long, rows, as_many))
      (λ slot least.
      let there = (has.each slot (room_with 0) least).there in
      let same = line_at parts states are slot (room_with 0) (omega (arith, least, many, long)) in
      omega (arith, there, same))

-- parts that come out of a mount have its lines
pub kept_long : (pass : PassState) (parts : List PartHistory) (states : List Part) → KeepLines pass parts → HasLongParts (mount_of pass.view.opened) → AreNow parts states
    → HasLines mount_layout pass.view.opened.sizes.page pass.view.opened.sizes.entries (rooms_of states)
kept_long pass parts states keeps long are =
    let opened = pass.view.opened in
    let many = 1 + opened.sizes.entries in
    let of_slot : ℕ → ℕ = λ slot. lines_kept ((mount_of opened).values (cell_of opened.sizes slot)) in
    let front = map of_slot (range_with_len 0 many) in
    let rest = map (λ value. lines_kept value) pass.spare in
    let counted : map (λ part. length part) states ≡ front ++ rest = row_tells_at parts (λ now. map (λ part. length part) now ≡ mounted_lines (mount_of opened) pass.spare) states are keeps in
    let counts = length-map states (λ part. length part) in
    let fronts = length-map-range_with_len of_slot 0 many in
    let enough : many ≤ length states = omega (arith, counts, ap length counted, length-append front rest, fronts) in
    have_lines mount_layout opened.sizes.page opened.sizes.entries states enough (λ slot least.
    let below : slot < many = omega (arith, least) in
    let same : length (get_or states slot []) ≡ of_slot slot =
    sym (get_or-map (λ part. length part) states slot [] 0 (omega (arith, below, enough))) ∙ ap (λ (counts : List ℕ). get_or counts slot 0) counted
    ∙ get_or_append_left front rest 0 slot (omega (arith, below, fronts)) ∙ get_or-map-range_with_len of_slot 0 many slot slot 0 below (omega arith) in
    omega (arith, long slot least, same))

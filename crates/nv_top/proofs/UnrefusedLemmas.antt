-- Regions that aren't refused: the header can be read, the lines are there, and the groups are whole. So it is with one that power was lost of.
use Rattle.std.proofs.Common.{◌≡◌, ℕ, ◌≤◌, All, List, [], ◌∷◌, Option, Some, IfSome, option_map, length, map, sym, ap, subst, ◌∙◌, inl, inr, arith}
use Rattle.std.proofs.lemmas.List.Elements.{All-nil, All-cons, All-head, All-tail}
use Rattle.nv_plain.specs.Images.{header_of, layout_in, version_in}
use Rattle.nv_plain.specs.Layouts.{Layout, mount_layout, mount_version}
use Rattle.nv_plain.proofs.OwnLayouts.{layout_is}
use Rattle.nv_header.specs.Heads.{IsHead}
use Rattle.nv_plain.specs.Recovered.{Fits}
use Rattle.nv_pmem.specs.Draws.{draws_of}
use Rattle.nv_pmem.specs.Part.{Part}
use Rattle.nv_pmem.specs.RowStates.{AreNow}
use Rattle.nv_pmem.specs.Rows.{row_words}
use Rattle.nv_pmem.specs.Steps as lines
use Rattle.nv_pmem.specs.declared.picker.Pick.{Pick}
use Rattle.nv_store.specs.Steps as stores
use Rattle.nv_store.specs.Store.{IsWholeStore, Store}
use Rattle.nv_store.proofs.RowReads.{length_now}
use Rattle.nv_bench.specs.Holding.{Holding, NamedStore, named_stores}
use Rattle.nv_bench.specs.Laws.{AreWholeStores, PowerLeavesAnImage}
use Rattle.nv_bench.specs.Powered.{powered}
use Rattle.nv_header.specs.Needs.{HasLines, header_lines_in}
use Rattle.nv_header.specs.Refusals.{SpeaksOfImage}
use Rattle.nv_header.specs.Unread.{HeadIsNotUnread}
use Rattle.nv_header.specs.Regions.{ReadsAs}
use Rattle.nv_header.specs.declared.head.HeadError.{HeadError}
use Rattle.nv_header.specs.declared.head.HeadError.TheVariants as head
use Rattle.nv_recover.specs.Groups.{FittingHasNoBad}
use Rattle.nv_recover.proofs.AlikeLaws.{fits_own}
use Rattle.nv_open.proofs.Stands.{durable_images}
use Rattle.nv_core.specs.state.Values.{Value}
use Rattle.nv_table.specs.state.Opened.{Opened, mount_of}
use Rattle.nv_table.specs.state.States.{PassState}
use Rattle.nv_mount.specs.Mounts.{MountState}
use Rattle.nv_mount.specs.Telling.{HasLongParts}
use Rattle.nv_open.specs.Refusals.{AreLong, CanBeRead, IsBadHeader, IsHeadRefused, IsRefusedFor, head_image, head_layout, header_part, rooms_of}
use Rattle.nv_open.specs.declared.error.Refusal.{Refusal}
use Rattle.nv_open.specs.declared.error.Refusal.TheVariants.{Truncated, BadMagic, BadVersion, BadGeometry, BadName, BadEntry, TooManyFiles}
use Rattle.nv_trace.specs.Traced.{Traced}
use Rattle.nv_runner.specs.Faithful.{Basis}
use Rattle.nv_open.proofs.LineCounts.{long_alike}
use Rattle.nv_open.proofs.Versions.{own_layout}
use Rattle.nv_top.proofs.LineLemmas.{head_layout_is, kept_long}
use Rattle.nv_top.proofs.PoweredHomes.{powered_lines}
use Rattle.nv_top.proofs.RowLemmas.{present}
use Rattle.nv_top.proofs.StoppingLemmas.{HasClosedOver, all_right, at_some, devices_tell, home_with, power_leaves, still_opened}

-- ---- a region that can be read, and has its lines

module _ (read_so : HeadIsNotUnread) (parts : List Part) (readable : CanBeRead parts) (long : AreLong parts) where
  good_head : (refusal : HeadError) → SpeaksOfImage refusal → ¬ (IsHeadRefused parts refusal)
  good_head refusal speaks =
      let lines = length (header_part parts) in
      let image = head_image parts in
      read_so (version_in image) lines image refusal (subst (λ (layout : Layout). IsHead layout lines image) (own_layout image) readable) speaks

  -- it isn't refused for its header
  pub header_allowed : (why : Refusal) → IsBadHeader why → ¬ (IsRefusedFor parts why)
  header_allowed (Truncated found wanted) bad is = elim is [
    | inl short ↦ good_head (head.Truncated found wanted) tt short
    | inr lacks ↦ lacks.short long
  ]
  header_allowed BadMagic bad is = good_head head.BadMagic tt is
  header_allowed (BadVersion found) bad is = good_head (head.BadVersion found) tt is
  header_allowed (BadGeometry field found) bad is = good_head (head.BadGeometry field found) tt is
  header_allowed (BadName i) bad is = good_head (head.BadName i) tt is
  header_allowed (BadEntry number) bad is = bad
  header_allowed TooManyFiles bad is = bad

  -- nor for an entry, where its groups are whole
  pub region_allowed : FittingHasNoBad → Fits (layout_in (row_words parts)) (row_words parts) → (why : Refusal) → ¬ (IsRefusedFor parts why)
  region_allowed good_so fits (Truncated found wanted) is = header_allowed (Truncated found wanted) tt is
  region_allowed good_so fits BadMagic is = header_allowed BadMagic tt is
  region_allowed good_so fits (BadVersion found) is = header_allowed (BadVersion found) tt is
  region_allowed good_so fits (BadGeometry field found) is = header_allowed (BadGeometry field found) tt is
  region_allowed good_so fits (BadName i) is = header_allowed (BadName i) tt is
  region_allowed good_so fits (BadEntry number) is = good_so (layout_in (row_words parts)) (row_words parts) number fits is.2
  region_allowed good_so fits TooManyFiles is = is

-- ---- one that power was lost of

module _ (good_so : FittingHasNoBad) (read_so : HeadIsNotUnread) (page entries first : ℕ) (names : List (List ℕ)) (parts : List Part)
    (header : ReadsAs mount_layout page entries names first (row_words parts)) (fits : Fits mount_layout (row_words parts)) (long : HasLines mount_layout page entries (rooms_of parts)) where
  long_first : (parts : List Part) → mount_layout.header_lines ≤ header_lines_in (rooms_of parts) → mount_layout.header_lines ≤ length (header_part parts)
  long_first [] enough = enough
  long_first (part ∷ parts) enough = enough

  own : head_layout parts ≡ mount_layout
  own = head_layout_is parts ∙ layout_is mount_version (row_words parts) header.readable.fields.version_is

  can_be_read : CanBeRead parts
  can_be_read =
      let read : IsHead mount_layout (length (header_part parts)) (head_image parts) =
      record {
        long_enough = long_first parts long.header;
        fields = header.readable.fields;
        names = λ i below. let good = header.readable.names i below in record { whole = good.whole; new = good.new };
      } in
      subst (λ (layout : Layout). IsHead layout (length (header_part parts)) (head_image parts)) (sym own) read

  are_long : AreLong parts
  are_long =
      let Long : ℕ → ℕ → Type 0 = λ page entries. HasLines (head_layout parts) page entries (rooms_of parts) in
      let Of : ℕ → Type 0 = λ page. Long page (header_of (head_image parts)).entries in
      subst Of (sym header.page_is) (subst (Long page) (sym header.entries_is) (subst (λ (layout : Layout). HasLines layout page entries (rooms_of parts)) (sym own) long))

  pub not_refused : (why : Refusal) → ¬ (IsRefusedFor parts why)
  not_refused = region_allowed read_so parts can_be_read are_long good_so (fits_own mount_version (row_words parts) header.readable.fields.version_is fits)

-- ---- an image that stores may be left with

whole_named : (names : List (List ℕ)) (disks : List Store) → length names ≡ length disks → All (λ (named : NamedStore). IsWholeStore named.store) (named_stores names disks) → All IsWholeStore disks
whole_named names [] long all = All-nil IsWholeStore
whole_named [] (store ∷ disks) long all = absurd (omega (arith, long))
whole_named (name ∷ names) (store ∷ disks) long all =
    let Whole : NamedStore → Type 0 = λ named. IsWholeStore named.store in
    let first : NamedStore = record { name = name; store = store } in
    All-cons IsWholeStore store disks (All-head Whole first (named_stores names disks) all) (whole_named names disks (omega (arith, long)) (All-tail Whole first (named_stores names disks) all))

-- ---- power went off over a mount that was closed

module _ (basis : Basis) (trace : Traced) (mount : MountState) (pass zero : PassState) (part_values store_values : List Value)
    (parts : List lines.PartHistory) (held : List stores.StoreHistory) (faults placed tail : ℕ)
    (over : HasClosedOver basis trace mount pass zero part_values store_values parts held faults placed tail)
    (power_so : PowerLeavesAnImage) (good_so : FittingHasNoBad) (read_so : HeadIsNotUnread)
    (many : length held ≡ mount.board.opened.sizes.files) (pick : Pick) (left : Holding) (given off : Option Holding)
    (gives : (now : List Part) (disks : List Store) → AreNow parts now → AreNow held disks → given ≡ Some (home_with left basis.names now disks))
    (powers : off ≡ option_map (powered pick) given) (whole : (holding : Holding) → given ≡ Some holding → AreWholeStores holding) where
  slots_long : (states : List Part) → AreNow parts states → HasLines mount_layout zero.view.opened.sizes.page zero.view.opened.sizes.entries (rooms_of states)
  slots_long states are =
      let long : HasLongParts (mount_of zero.view.opened) =
      subst (λ (o : Opened). HasLongParts (mount_of o)) (sym (still_opened basis trace mount pass zero part_values store_values parts held faults placed tail over)) over.begins.long in
      kept_long zero parts states over.closed.lines long are

  pub never_refused : (why : Refusal) → ¬ (IfSome off (λ holding. IsRefusedFor holding.parts why))
  never_refused why refused =
      let tell = devices_tell basis trace mount pass zero part_values store_values parts held faults placed tail over in
      let states = present parts tell.0 in
      let disks = present held tell.1 in
      let before = home_with left basis.names states.states disks.states in
      let after = powered pick before in
      let given_is : given ≡ Some before = gives states.states disks.states states.are disks.are in
      let off_is : off ≡ Some after = powers ∙ ap (option_map (powered pick)) given_is in
      let all_whole = whole before given_is in
      let image = (power_so pick before all_whole).0 in
      let long : length basis.names ≡ length disks.states = over.begins.is_mount.names ∙ sym many ∙ sym (length_now held disks.states disks.are) in
      let each_whole : All IsWholeStore disks.states =
      whole_named basis.names disks.states long (all_right (λ (named : NamedStore). IsWholeStore named.store) left.stores (named_stores basis.names disks.states) all_whole) in
      let left_whole =
      power_leaves basis trace mount pass zero part_values store_values parts held faults placed tail over states.states disks.states states.are disks.are
      (row_words after.parts) (record { contents = map (λ (store : Store). store.durable) disks.states }) image.parts (durable_images disks.states each_whole) in
      not_refused good_so read_so zero.view.opened.sizes.page zero.view.opened.sizes.entries _ basis.names after.parts left_whole.header left_whole.fits
      (long_alike mount_layout zero.view.opened.sizes.page zero.view.opened.sizes.entries states.states after.parts (sym (powered_lines (draws_of pick) states.states)) (slots_long states.states states.are))
      why (at_some off (λ holding. IsRefusedFor holding.parts why) after off_is refused)

-- Headers that are read of parts, and of what these tell.
use Rattle.std.proofs.Common.{◌≡◌, ℕ, ◌<◌, ◌≤◌, List, [], ◌∷◌, length, map, Result, Err, refl, sym, ap, ◌∙◌, subst, arith, inl}
use Rattle.nv_plain.specs.Images.{header_of, version_in}
use Rattle.nv_plain.proofs.OwnLayouts.{layout_is}
use Rattle.nv_plain.specs.Layouts.{Layout, layout_of, version_1}
use Rattle.nv_pmem.specs.Moments.{Tells}
use Rattle.nv_pmem.specs.Part.{Part}
use Rattle.nv_pmem.specs.Room.{Room}
use Rattle.nv_pmem.specs.RowStates.{AreNow, tells_at, row_tells_from}
use Rattle.nv_pmem.specs.Rows.{RowTells}
use Rattle.nv_pmem.specs.Steps.{PartHistory}
use Rattle.nv_header.specs.Heads.{IsHead, IsHeadOf, first_names, header_image}
use Rattle.nv_header.specs.Needs.{HasLines, header_history, header_lines_in, lines_found, lines_wanted}
use Rattle.nv_header.specs.Unread.{IsUnread}
use Rattle.nv_header.specs.declared.head.Head.{Head}
use Rattle.nv_header.specs.declared.head.HeadError.{HeadError}
use Rattle.nv_header.specs.declared.head.HeadError.TheVariants as head
use Rattle.nv_open.specs.Held.{header_names}
use Rattle.nv_open.specs.Refusals.{of_head, header_part, head_image, head_layout, rooms_of, AreLong, CanBeRead, LackLines, IsHeadRefused, IsRefusedFor, IsBadHeader}
use Rattle.nv_open.specs.declared.error.OpenError.TheVariants as error
use Rattle.nv_open.specs.declared.error.Refusal.{Refusal}
use Rattle.nv_open.specs.declared.error.Refusal.TheVariants.{Truncated, BadMagic, BadVersion, BadGeometry, BadName}
use Rattle.nv_open.proofs.LineCounts.{counts_of, found_same, has_lines_same, told_counts}
use Rattle.nv_plain.specs.declared.limits.Version.{Version}
use Rattle.nv_plain.specs.declared.limits.Version.TheVariants.{One, Two}
use Rattle.nv_open.specs.Layers.{HasMountHeader}
use Rattle.nv_open.proofs.Lengthened.{IsOld, are_old}
use Rattle.nv_open.proofs.Versions.{version_is}

pub refused_is : (one why : Refusal) → error.Refused one ≡ error.Refused why → one ≡ why
refused_is one why same = cc

-- the error of an answer
pub error_is : {T E : Type 0} (result : Result T E) (one other : E) → result ≡ Err one → result ≡ Err other → one ≡ other
error_is result one other is are = cc

-- a region with no part has no line
pub some_part : {X : Type 0} (room : X → Room) (parts : List X) → ¬ (header_lines_in (map room parts) < version_1.header_lines) → 1 ≤ length parts
some_part room [] long = absurd (long (omega arith))
some_part room (part ∷ parts) long = omega arith

-- a refusal of the header is one of the region
refused_for : (parts : List Part) (refusal : HeadError) (why : Refusal) → of_head refusal ≡ error.Refused why → IsHeadRefused parts refusal → IsRefusedFor parts why × IsBadHeader why
refused_for parts (head.Truncated found wanted) why is refused = subst (λ (one : Refusal). IsRefusedFor parts one × IsBadHeader one) (refused_is (Truncated found wanted) why is) (inl refused, tt)
refused_for parts head.BadMagic why is refused = subst (λ (one : Refusal). IsRefusedFor parts one × IsBadHeader one) (refused_is BadMagic why is) (refused, tt)
refused_for parts (head.BadVersion found) why is refused = subst (λ (one : Refusal). IsRefusedFor parts one × IsBadHeader one) (refused_is (BadVersion found) why is) (refused, tt)
refused_for parts (head.BadGeometry field found) why is refused = subst (λ (one : Refusal). IsRefusedFor parts one × IsBadHeader one) (refused_is (BadGeometry field found) why is) (refused, tt)
refused_for parts (head.BadName i) why is refused = subst (λ (one : Refusal). IsRefusedFor parts one × IsBadHeader one) (refused_is (BadName i) why is) (refused, tt)
refused_for parts head.RegionFault why is refused = cc
refused_for parts head.NoMemory why is refused = cc

module _ {X : Type 0} (history : X → PartHistory) (room : X → Room) (lines : (p : X) (now : Part) (past : PartHistory) → history p ≡ now ∷ past → length now ≡ (room p).lines) where
  -- the header that is read of parts is refused
  head_refused : (parts : List X) (told : List Part) (refusal : HeadError) → AreNow (map history parts) told
      → (header_lines_in (map room parts) < version_1.header_lines → refusal ≡ head.Truncated (header_lines_in (map room parts)) version_1.header_lines)
      → Tells (header_history (map history parts)) (λ now. IsUnread (header_lines_in (map room parts)) (header_image now) refusal) → IsHeadRefused told refusal
  head_refused [] [] refusal are truncated refused =
      subst (IsHeadRefused []) (sym (truncated (omega arith))) (inl (omega arith, refl, refl))
  head_refused [] (now ∷ told) refusal are truncated refused = absurd are
  head_refused (part ∷ parts) [] refusal are truncated refused = absurd are
  head_refused (part ∷ parts) (now ∷ told) refusal are truncated refused =
      subst (λ (count : ℕ). IsUnread count (header_image now) refusal) (sym (lines part now are.0.past are.0.is))
      (tells_at (history part) (λ (state : Part). IsUnread (room part).lines (header_image state) refusal) now are.0 refused)

  pub refused_by_head : (parts : List X) (refusal : HeadError) (why : Refusal) → of_head refusal ≡ error.Refused why
      → (header_lines_in (map room parts) < version_1.header_lines → refusal ≡ head.Truncated (header_lines_in (map room parts)) version_1.header_lines)
      → Tells (header_history (map history parts)) (λ now. IsUnread (header_lines_in (map room parts)) (header_image now) refusal)
      → RowTells (map history parts) (λ told. IsRefusedFor told why × IsBadHeader why)
  refused_by_head parts refusal why is truncated refused =
      row_tells_from (map history parts) (λ told. IsRefusedFor told why × IsBadHeader why) (λ told are. refused_for told refusal why is (head_refused parts told refusal are truncated refused))

  -- The header that is read of parts is the one that they tell.
  pub head_told : (parts : List X) (told : List Part) (one : Head) → 1 ≤ length parts → AreNow (map history parts) told
      → Tells (header_history (map history parts)) (λ now. IsHeadOf (layout_of one.version) (header_lines_in (map room parts)) (header_image now) one)
      → IsHeadOf (layout_of one.version) (length (header_part told)) (head_image told) one
  head_told [] told one some are is = absurd (omega arith)
  head_told (part ∷ parts) [] one some are is = absurd are
  head_told (part ∷ parts) (now ∷ told) one some are is =
      subst (λ (count : ℕ). IsHeadOf (layout_of one.version) count (header_image now) one) (sym (lines part now are.0.past are.0.is))
      (tells_at (history part) (λ (state : Part). IsHeadOf (layout_of one.version) (room part).lines (header_image state) one) now are.0 is)

  lines_told : (parts : List X) (told : List Part) → AreNow (map history parts) told → header_lines_in (map room parts) ≡ length (header_part told)
  lines_told [] [] are = refl
  lines_told [] (now ∷ told) are = absurd are
  lines_told (part ∷ parts) [] are = absurd are
  lines_told (part ∷ parts) (now ∷ told) are = sym (lines part now are.0.past are.0.is)

  module _ (parts : List X) (told : List Part) (one : Head) (some : 1 ≤ length parts) (are : AreNow (map history parts) told)
      (is : Tells (header_history (map history parts)) (λ now. IsHeadOf (layout_of one.version) (header_lines_in (map room parts)) (header_image now) one)) where
    says : IsHeadOf (layout_of one.version) (length (header_part told)) (head_image told) one
    says = head_told parts told one some are is

    -- They are of its version,
    pub version_told : one.version ≡ version_in (head_image told)
    version_told = sym (version_is one.version (head_image told) says.readable.fields.version_is)

    pub layout_told : head_layout told ≡ layout_of one.version
    layout_told = layout_is one.version (head_image told) says.readable.fields.version_is

    -- can be read
    pub can_told : CanBeRead told
    can_told = subst (λ (layout : Layout). IsHead layout (length (header_part told)) (head_image told)) (sym layout_told) says.readable

    -- and have its names.
    pub names_told : header_names told ≡ one.names
    names_told = ap (λ (layout : Layout). first_names layout (head_image told) (header_of (head_image told)).files) layout_told ∙ sym says.names

    -- Its lines are there,
    pub long_told : HasLines (layout_of one.version) one.geometry.page one.geometry.entries (map room parts) → AreLong told
    long_told has =
        let Long : Layout → ℕ → ℕ → Type 0 = λ layout page entries. HasLines layout page entries (rooms_of told) in
        subst (λ (layout : Layout). Long layout (header_of (head_image told)).page (header_of (head_image told)).entries) (sym layout_told)
        (subst (λ (page : ℕ). Long (layout_of one.version) page (header_of (head_image told)).entries) says.page
        (subst (λ (entries : ℕ). Long (layout_of one.version) one.geometry.page entries) says.entries
        (has_lines_same (layout_of one.version) one.geometry.page one.geometry.entries (map room parts) (rooms_of told) (told_counts history room lines parts told are) has)))

    -- or some are wanting.
    lack_at : (rooms : List Room) (found wanted : ℕ) → counts_of rooms ≡ counts_of (map room parts)
        → ¬ (HasLines (layout_of one.version) one.geometry.page one.geometry.entries rooms)
        → found ≡ lines_found (layout_of one.version) one.geometry.page one.geometry.entries rooms → wanted ≡ lines_wanted (layout_of one.version) one.geometry.page one.geometry.entries
        → LackLines told found wanted
    lack_at rooms found wanted same short found_is wanted_is =
        let layout = layout_of one.version in
        let counts : counts_of rooms ≡ counts_of (rooms_of told) = same ∙ told_counts history room lines parts told are in
        let page = (header_of (head_image told)).page in
        let entries = (header_of (head_image told)).entries in
        let Lacks : Layout → ℕ → ℕ → Type 0 = λ layout page entries. ¬ (HasLines layout page entries rooms) in
        let lacks : Lacks (head_layout told) page entries =
        subst (λ (layout : Layout). Lacks layout page entries) (sym layout_told)
        (subst (λ (n : ℕ). Lacks layout n entries) says.page (subst (λ (n : ℕ). Lacks layout one.geometry.page n) says.entries short)) in
        record {
          readable = can_told;
          short = λ long. lacks (has_lines_same (head_layout told) page entries (rooms_of told) rooms (sym counts) long);
          found_is = found_is ∙ found_same layout one.geometry.page one.geometry.entries rooms (rooms_of told) counts ∙ (λ i. lines_found (sym layout_told i) (says.page i) (says.entries i) (rooms_of told));
          wanted_is = wanted_is ∙ (λ i. lines_wanted (sym layout_told i) (says.page i) (says.entries i));
        }

    -- A header that can be read has the lines of a mount's, where one of version 1 has.
    pub never_short : HasMountHeader told → header_lines_in (map room parts) < 274 → ⊥
    never_short given short = by one.version refl
      where
        long : (layout_of one.version).header_lines ≤ length (header_part told)
        long = says.readable.long_enough

        by : (version : Version) → one.version ≡ version → ⊥
        by Two is = omega (arith, short, long, lines_told parts told are, ap (λ (of : Version). (layout_of of).header_lines) is)
        by One is =
            let same = ap (λ (of : Version). (layout_of of).version) is in
            let old : IsOld told = record {
              magic = says.readable.fields.magic;
              version = says.readable.fields.version_is ∙ same;
              lines = omega (arith, long, ap (λ (of : Version). (layout_of of).header_lines) is);
            } in
            omega (arith, short, given (are_old told old), lines_told parts told are)

  pub lack_told : (parts : List X) (rooms : List Room) (one : Head) (found wanted : ℕ) → 1 ≤ length parts → counts_of rooms ≡ counts_of (map room parts)
      → Tells (header_history (map history parts)) (λ now. IsHeadOf (layout_of one.version) (header_lines_in (map room parts)) (header_image now) one)
      → ¬ (HasLines (layout_of one.version) one.geometry.page one.geometry.entries rooms)
      → found ≡ lines_found (layout_of one.version) one.geometry.page one.geometry.entries rooms → wanted ≡ lines_wanted (layout_of one.version) one.geometry.page one.geometry.entries
      → RowTells (map history parts) (λ told. LackLines told found wanted)
  lack_told parts rooms one found wanted some same is short found_is wanted_is =
      row_tells_from (map history parts) (λ told. LackLines told found wanted) (λ told are. lack_at parts told one some are is rooms found wanted same short found_is wanted_is)

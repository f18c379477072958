-- Parts that a bench makes those of a geometry.
use Rattle.std.proofs.Common.{◌≡◌, ◌==◌, ℕ, ◌≤◌, zero, suc, Bool, true, false, cond, List, [], ◌∷◌, ◌++◌, length, map, max, take, replicate, refl, sym, ap, ◌∙◌, subst, arith}
use Rattle.std.proofs.lemmas.List.{length-map}
use Rattle.std.proofs.lemmas.List.Elements.{All-map, All-take}
use Rattle.std.proofs.lemmas.List.FromFn.{length-range_with_len}
use Rattle.std.specs.List.{range_with_len}
use Rattle.std.specs.Prelude.{Some, IfSome, Option, None, slice_index_or}
use Rattle.nv_plain.specs.Images.{Image, header_of, version_in}
use Rattle.nv_plain.specs.Layouts.{Layout, layout_of, mount_layout, version_1}
use Rattle.nv_plain.specs.declared.limits.Version.{Version}
use Rattle.nv_plain.specs.declared.limits.Version.TheVariants.{One, Two}
use Rattle.nv_pmem.specs.Images.{IsQuietPart, IsQuietLine}
use Rattle.nv_pmem.specs.Laws.{BlankIsQuiet}
use Rattle.nv_pmem.specs.Limits.{entry_lines}
use Rattle.nv_pmem.specs.Made.{resized}
use Rattle.nv_pmem.specs.Part.{Part, Line, blank_line, line_of, word_at, newest}
use Rattle.nv_pmem.specs.Room.{Room}
use Rattle.nv_pmem.specs.Rows.{AreQuiet, row_words}
use Rattle.nv_pmem.specs.declared.geometry.Geometry.{Geometry}
use Rattle.nv_bench.specs.Holding.{Holding}
use Rattle.nv_bench.specs.Opening.{is_blank, is_of_version_1, lengthened, sized, opened}
use Rattle.nv_header.specs.Needs.{HasLines}
use Rattle.nv_open.specs.Layers.{HasMountHeader, HasMountLines}
use Rattle.nv_open.specs.Refusals.{AreLong, CanBeRead, head_image, head_layout, header_part, rooms_of}
use Rattle.nv_open.proofs.Versions.{own_layout}
use Rattle.nv_open.proofs.BlankLaws.{blank_is_zero}
use Rattle.nv_open.proofs.Lengthened.{ReadOn, are_old, made_lines, old_parts, reads_longer, reads_same, resized_length}

-- ---- which they are

-- by what they were: blank ones, ones of version 1, and others
abbrev made_of : Geometry → List Part → (blank old : Bool) → List Part
made_of geometry parts blank old = cond blank (sized mount_layout geometry parts) (cond old (lengthened mount_layout parts) parts)

opened_sized : (geometry : Geometry) (parts : List Part) → is_blank parts ≡ true → opened (Some geometry) parts ≡ sized mount_layout geometry parts
opened_sized geometry parts is = ap (λ (blank : Bool). made_of geometry parts blank (is_of_version_1 parts)) is

pub opened_longer : (geometry : Geometry) (parts : List Part) → is_blank parts ≡ false → is_of_version_1 parts ≡ true → opened (Some geometry) parts ≡ lengthened mount_layout parts
opened_longer geometry parts kept old = (λ i. made_of geometry parts (kept i) (old i))

pub opened_kept : (geometry : Geometry) (parts : List Part) → is_blank parts ≡ false → is_of_version_1 parts ≡ false → opened (Some geometry) parts ≡ parts
opened_kept geometry parts kept other = (λ i. made_of geometry parts (kept i) (other i))

-- Those that aren't blank read on as they did.
reads_cases : (geometry : Geometry) (parts : List Part) (old : Bool) → is_of_version_1 parts ≡ old → is_blank parts ≡ false → ReadOn parts (opened (Some geometry) parts)
reads_cases geometry parts true old kept = subst (ReadOn parts) (sym (opened_longer geometry parts kept old)) (reads_longer parts (old_parts parts old))
reads_cases geometry parts false other kept = subst (ReadOn parts) (sym (opened_kept geometry parts kept other)) (reads_same parts)

pub opened_reads : (geometry : Geometry) (parts : List Part) → is_blank parts ≡ false → ReadOn parts (opened (Some geometry) parts)
opened_reads geometry parts kept = reads_cases geometry parts (is_of_version_1 parts) refl kept

-- the first line stays
first_line : (count : ℕ) (part : Part) → line_of (resized (suc count) part) 0 ≡ line_of part 0
first_line count [] = refl
first_line count (line ∷ part) = refl

sized_blank : (geometry : Geometry) (parts : List Part) → is_blank (sized mount_layout geometry parts) ≡ is_blank parts
sized_blank geometry parts = ap (λ (line : Line). word_at (newest line) 0 == 0) (first_line 273 (slice_index_or parts 0 []))

blank_cases : (geometry : Geometry) (parts : List Part) (blank : Bool) → blank ≡ is_blank parts → is_blank (opened (Some geometry) parts) ≡ is_blank parts
blank_cases geometry parts true is = ap is_blank (opened_sized geometry parts (sym is)) ∙ sized_blank geometry parts
blank_cases geometry parts false is = ap (λ (image : Image). (header_of image).magic == 0) (opened_reads geometry parts (sym is)).words

pub blank_stays : (geometry : Geometry) (parts : List Part) → is_blank (opened (Some geometry) parts) ≡ is_blank parts
blank_stays geometry parts = blank_cases geometry parts (is_blank parts) refl

-- ---- they are quiet

resized_lines : (P : Line → Type 0) (count : ℕ) (part : Part) (more line : ℕ) → P blank_line → ((k : ℕ) → P (line_of part k)) → P (line_of (take count (part ++ replicate more blank_line)) line)
resized_lines P zero part more line blank each = blank
resized_lines P (suc count) [] zero line blank each = blank
resized_lines P (suc count) [] (suc more) zero blank each = blank
resized_lines P (suc count) [] (suc more) (suc line) blank each = resized_lines P count [] more line blank each
resized_lines P (suc count) (first ∷ part) more zero blank each = each 0
resized_lines P (suc count) (first ∷ part) more (suc line) blank each = resized_lines P count part more line blank (λ k. each (suc k))

quiet_resized : BlankIsQuiet → (count : ℕ) (part : Part) → IsQuietPart part → IsQuietPart (resized count part)
quiet_resized blank count part quiet = record { lines = λ line. resized_lines IsQuietLine count part count line blank quiet.lines }

each_quiet : (make : ℕ → Part) (places : List ℕ) (i : ℕ) → ((k : ℕ) → IsQuietPart (make k)) → IsQuietPart [] → IsQuietPart (slice_index_or (map make places) i [])
each_quiet make [] i quiet none = none
each_quiet make (place ∷ places) zero quiet none = quiet place
each_quiet make (place ∷ places) (suc i) quiet none = each_quiet make places i quiet none

sized_each : BlankIsQuiet → (geometry : Geometry) (parts : List Part) → AreQuiet parts → (i : ℕ) → IsQuietPart (slice_index_or (sized mount_layout geometry parts) i [])
sized_each blank geometry parts quiet zero = quiet_resized blank 274 (slice_index_or parts 0 []) (quiet.each 0)
sized_each blank geometry parts quiet (suc i) =
    each_quiet (λ (k : ℕ). resized (entry_lines geometry.page) (slice_index_or parts k [])) (range_with_len 1 geometry.entries) i
    (λ k. quiet_resized blank (entry_lines geometry.page) (slice_index_or parts k []) (quiet.each k)) (record { lines = λ line. blank })

longer_each : BlankIsQuiet → (parts : List Part) → AreQuiet parts → (i : ℕ) → IsQuietPart (slice_index_or (lengthened mount_layout parts) i [])
longer_each blank [] quiet i = quiet.each i
longer_each blank (header ∷ others) quiet zero = quiet_resized blank (max 274 (length header)) header (quiet.each 0)
longer_each blank (header ∷ others) quiet (suc i) = quiet.each (suc i)

quiet_cases : BlankIsQuiet → (geometry : Geometry) (parts : List Part) (is old : Bool) → AreQuiet parts → AreQuiet (made_of geometry parts is old)
quiet_cases blank geometry parts true old quiet = record { each = sized_each blank geometry parts quiet }
quiet_cases blank geometry parts false true quiet = record { each = longer_each blank parts quiet }
quiet_cases blank geometry parts false false quiet = quiet

pub quiet_opened : BlankIsQuiet → (geometry : Geometry) (told : Option Holding) → IfSome told (λ holding. AreQuiet holding.parts) → IfSome told (λ holding. AreQuiet (opened (Some geometry) holding.parts))
quiet_opened blank geometry None quiet = tt
quiet_opened blank geometry (Some holding) quiet = quiet_cases blank geometry holding.parts (is_blank holding.parts) (is_of_version_1 holding.parts) quiet

-- ---- they have the lines of the geometry

abbrev room_of : Part → Room
room_of part = record { lines = length part; spare = λ line. 0; after_fence = λ line. 0 }

sized_long : (geometry : Geometry) (parts : List Part) → HasLines mount_layout geometry.page geometry.entries (rooms_of (sized mount_layout geometry parts))
sized_long geometry parts =
    let make : ℕ → Part = λ k. resized (entry_lines geometry.page) (slice_index_or parts k []) in
    let places = range_with_len 1 geometry.entries in
    record {
      header = omega (arith, resized_length 274 (slice_index_or parts 0 []));
      count = omega (arith, length-map (map make places) room_of, length-map places make, length-range_with_len 1 geometry.entries);
      each =
          All-take (λ (room : Room). entry_lines geometry.page ≤ room.lines) geometry.entries (map room_of (map make places))
          (All-map (λ (room : Room). entry_lines geometry.page ≤ room.lines) room_of (map make places)
          (All-map (λ (part : Part). entry_lines geometry.page ≤ length part) make places
          (λ k d inside. omega (arith, resized_length (entry_lines geometry.page) (slice_index_or parts (slice_index_or places k d) [])))));
    }

blank_long : (geometry : Geometry) (parts : List Part) → is_blank parts ≡ true → HasLines mount_layout geometry.page geometry.entries (rooms_of (opened (Some geometry) parts))
blank_long geometry parts blank =
    subst (λ (these : List Part). HasLines mount_layout geometry.page geometry.entries (rooms_of these)) (sym (opened_sized geometry parts blank)) (sized_long geometry parts)

never_old : (parts : List Part) → is_blank parts ≡ true → is_of_version_1 parts ≡ true → ⊥
never_old parts blank is =
    let magic = (old_parts parts is).magic in
    let none = blank_is_zero (header_of (row_words parts)).magic blank in
    omega (arith, magic, none)

-- a header of version 1 was given its lines
header_long : (geometry : Geometry) (parts : List Part) (blank old : Bool) → is_blank parts ≡ blank → is_of_version_1 parts ≡ old → HasMountHeader (opened (Some geometry) parts)
header_long geometry parts true old blank_is old_is is =
    absurd (never_old (opened (Some geometry) parts) (blank_stays geometry parts ∙ blank_is) is)
header_long geometry parts false true kept old is =
    subst (λ (these : List Part). 274 ≤ length (header_part these)) (sym (opened_longer geometry parts kept old)) (made_lines parts (old_parts parts old).lines)
header_long geometry parts false false kept other is =
    let never : false ≡ true = sym other ∙ ap is_of_version_1 (sym (opened_kept geometry parts kept other)) ∙ is in
    cc

pub long_opened : (geometry : Geometry) (parts : List Part) → HasMountLines geometry (opened (Some geometry) parts)
long_opened geometry parts = record {
  blank = λ blank. blank_long geometry parts (sym (blank_stays geometry parts) ∙ blank);
  header = header_long geometry parts (is_blank parts) (is_of_version_1 parts) refl refl;
}

-- ---- a good region's parts have the lines of a mount, once it is opened

-- and with these they have those of any version
pub either_long : (version : Version) (page entries : ℕ) (rooms : List Room) → HasLines mount_layout page entries rooms → HasLines (layout_of version) page entries rooms
either_long One page entries rooms has = record { header = omega (arith, has.header); count = has.count; each = has.each }
either_long Two page entries rooms has = has

longer_long : (page entries : ℕ) (parts : List Part) → 18 ≤ length (header_part parts) → HasLines version_1 page entries (rooms_of parts) → HasLines mount_layout page entries (rooms_of (lengthened mount_layout parts))
longer_long page entries [] some has = absurd (omega (arith, some))
longer_long page entries (header ∷ others) some has = record { header = made_lines (header ∷ others) some; count = has.count; each = has.each }

abbrev LongAs : Image → Layout → List Part → Type 0
LongAs image layout these = HasLines layout (header_of image).page (header_of image).entries (rooms_of these)

pub mount_long : (geometry : Geometry) (parts : List Part) → is_blank parts ≡ false → CanBeRead parts → AreLong parts
    → HasLines mount_layout (header_of (head_image parts)).page (header_of (head_image parts)).entries (rooms_of (opened (Some geometry) parts))
mount_long geometry parts kept can has = by (version_in image) refl
  where
    image : Image
    image = head_image parts

    layout : (version : Version) → version_in image ≡ version → head_layout parts ≡ layout_of version
    layout version is = own_layout image ∙ ap layout_of is

    of : (version : Version) → version_in image ≡ version → (header_of image).version ≡ (layout_of version).version
    of version is = can.fields.version_is ∙ ap (λ (one : Layout). one.version) (layout version is)

    long : (version : Version) → version_in image ≡ version → LongAs (head_image parts) (layout_of version) parts
    long version is = subst (λ (one : Layout). LongAs (head_image parts) one parts) (layout version is) has

    not_old : version_in image ≡ Two → (old : Bool) → is_of_version_1 parts ≡ old → is_of_version_1 parts ≡ false
    not_old is true old = absurd (let first = (old_parts parts old).version in let second = of Two is in omega (arith, first, second))
    not_old is false other = other

    by : (version : Version) → version_in image ≡ version → LongAs (head_image parts) mount_layout (opened (Some geometry) parts)
    by One is =
        let some : 18 ≤ length (header_part parts) = omega (arith, (let enough = can.long_enough in enough), ap (λ (one : Layout). one.header_lines) (layout One is)) in
        let old = are_old parts (record { magic = can.fields.magic; version = of One is; lines = some }) in
        subst (LongAs (head_image parts) mount_layout) (sym (opened_longer geometry parts kept old)) (longer_long (header_of image).page (header_of image).entries parts some (long One is))
    by Two is = subst (LongAs (head_image parts) mount_layout) (sym (opened_kept geometry parts kept (not_old is (is_of_version_1 parts) refl))) (long Two is)

-- The header in images: a region's header tells, each image has one of two tails, and what else it reads stays.
use Rattle.std.proofs.Common.{◌≡◌, ◌≢◌, ◌⊎◌, ℕ, zero, suc, ◌+◌, ◌-◌, ◌*◌, ◌/◌, ◌%◌, ◌^◌, ◌<◌, ◌≤◌, List, Option, Some, None, take, inl, refl, sym, ap, ap₂, subst, ◌∙◌, arith}
use Rattle.std.specs.Prelude.{map, IsTrue}
use Rattle.std.specs.Int.{to_le_bytes, w64}
use Rattle.std.specs.List.{flat_map, range_with_len}
use Rattle.nv_plain.specs.Images.{Image, PartImage, header_of, name_of}
use Rattle.nv_plain.specs.Layouts.{mount_layout}
use Rattle.nv_pmem.specs.Limits.{IsPageSize, IsEntryCount}
use Rattle.nv_pmem.specs.Part.{Part}
use Rattle.nv_header.specs.Heads.{first_names, is_record, length_of, record_line, room_of_name}
use Rattle.nv_header.specs.Regions.{ReadsAs}
use Rattle.nv_core.specs.state.Words.{Sizes, HEADER, ENTRY}
use Rattle.nv_core.specs.state.Spares.{Spares}
use Rattle.nv_core.specs.state.Values.{Value, Bare, APart, AStore, ABuffer, Device}
use Rattle.nv_core.specs.steps.Order.{Values}
use Rattle.nv_core.specs.state.Core.{Core}
use Rattle.nv_core.specs.log.Groups.{Log}
use Rattle.nv_core.specs.log.Written.{IsPart}
use Rattle.nv_core.specs.log.Tails.{Tails}
use Rattle.nv_core.specs.log.HeaderStays.{HeaderStays}
use Rattle.nv_core.specs.log.EntryImages.{IsImageOfValue, IsRegionImage}
use Rattle.nv_core.specs.crash.CrashImages.{HasRegion}

-- ---- which tail an image has

-- the image with another header
abbrev with_header : PartImage → Image → Image
with_header header image zero = header
with_header header image (suc slot) = image (suc slot)

module _ (sizes : Sizes) (names : List (List ℕ)) (tails : Tails) (log : Log) (core : Core) (region : HasRegion sizes names tails log core) (image : Image) (is : IsRegionImage sizes core.values image) where
  unreadable : ReadsAs mount_layout sizes.page sizes.entries names 0 (with_header (λ line word. 0) image) → ⊥
  unreadable reads = let e = reads.readable.fields.page.least in omega (arith, e)

  -- else an image could have a header that can't be read
  tells_not : ((part : Part) → IsPart (core.values HEADER) part → ⊥) → ⊥
  tells_not none = unreadable (region.header (with_header (λ line word. 0) image) record {
    header = λ part told. absurd (none part told);
    entries = λ slot less. let next : suc slot ≡ 1 + slot = omega arith in subst (λ i. IsImageOfValue (core.values (ENTRY slot)) (with_header (λ line word. 0) image i)) next
        (let back : 1 + slot ≡ suc slot = omega arith in subst (λ i. IsImageOfValue (core.values (ENTRY slot)) (image i)) back (is.entries slot less));
  })

  -- The header's cell tells a part.
  pub header_tells : (part : Part) × IsPart (core.values HEADER) part
  header_tells = go (core.values HEADER) refl
    where
      told : (device : Device Part) (spares : Spares) → core.values HEADER ≡ APart device spares → (tells : Option Part) → device.told ≡ tells → (part : Part) × IsPart (core.values HEADER) part
      told device spares e (Some part) t = (part, subst (λ v. IsPart v part) (sym e) t)
      told device spares e None t = absurd (tells_not (λ part has. let p : device.told ≡ Some part = subst (λ v. IsPart v part) e has in absurd (cc)))

      go : (value : Value) → core.values HEADER ≡ value → (part : Part) × IsPart (core.values HEADER) part
      go (APart device spares) e = told device spares e device.told refl
      go Bare e = absurd (tells_not (λ part has. subst (λ v. IsPart v part) e has))
      go (AStore device) e = absurd (tells_not (λ part has. subst (λ v. IsPart v part) e has))
      go (ABuffer buffer) e = absurd (tells_not (λ part has. subst (λ v. IsPart v part) e has))

pub which_tail : (sizes : Sizes) (first : Values) (names : List (List ℕ)) (tails : Tails) (log : Log) (core : Core) → HeaderStays first tails core.values → HasRegion sizes names tails log core
    → (image : Image) → IsRegionImage sizes core.values image → (image 0 1 0 ≡ tails.least) ⊎ (image 0 1 0 ≡ tails.next)
which_tail sizes first names tails log core stays region image is =
    let told = header_tells sizes names tails log core region image is in stays.tail_is told.0 told.1 (image 0) (is.header told.0 told.1)

-- ---- headers that differ in their tails alone

module _ (image other : Image) (same : (line word : ℕ) → (line ≢ 1) ⊎ (word ≢ 0) → image 0 line word ≡ other 0 line word) where
  in_first : (word : ℕ) → image 0 0 word ≡ other 0 0 word
  in_first word = same 0 word (inl (λ e. omega (arith, e)))

  in_names : (line word : ℕ) → 2 ≤ line → image 0 line word ≡ other 0 line word
  in_names line word low = same line word (inl (λ e. omega (arith, e, low)))

  -- the bytes of name i's record, from words of its line and those behind it
  room_same : (i : ℕ) → flat_map (λ (k : ℕ). to_le_bytes w64 (image 0 (record_line mount_layout i + k / 8) (k % 8))) (range_with_len 1 (mount_layout.lines_per_name * 8 - 1)) ≡ flat_map (λ (k : ℕ). to_le_bytes w64 (other 0 (record_line mount_layout i + k / 8) (k % 8))) (range_with_len 1 (mount_layout.lines_per_name * 8 - 1))
  room_same i =
      let words : (k : ℕ) → image 0 (record_line mount_layout i + k / 8) (k % 8) ≡ other 0 (record_line mount_layout i + k / 8) (k % 8) = λ k. in_names (record_line mount_layout i + k / 8) (k % 8) (omega arith) in
      let bytes : ◌≡◌ {A = ℕ → List ℕ} (λ (k : ℕ). to_le_bytes w64 (image 0 (record_line mount_layout i + k / 8) (k % 8))) (λ (k : ℕ). to_le_bytes w64 (other 0 (record_line mount_layout i + k / 8) (k % 8))) = λ at k. to_le_bytes w64 (words k at) in
      ap (λ f. flat_map f (range_with_len 1 (mount_layout.lines_per_name * 8 - 1))) bytes

  name_same : (i : ℕ) → name_of mount_layout image i ≡ name_of mount_layout other i
  name_same i = ap₂ take (in_names (record_line mount_layout i) 0 (omega arith)) (room_same i)

  names_same : ◌≡◌ {A = ℕ → List ℕ} (name_of mount_layout image) (name_of mount_layout other)
  names_same = λ at i. name_same i at

  record_same : (i : ℕ) → is_record mount_layout.name_limit (length_of mount_layout image i) (room_of_name mount_layout image i) ≡ is_record mount_layout.name_limit (length_of mount_layout other i) (room_of_name mount_layout other i)
  record_same i = ap₂ (is_record mount_layout.name_limit) (in_names (record_line mount_layout i) 0 (omega arith)) (room_same i)

  firsts_same : first_names mount_layout image (header_of image).files ≡ first_names mount_layout other (header_of other).files
  unfolding first_names
  firsts_same = ap₂ (λ f n. map f (range_with_len 0 n)) names_same (in_first 4)

  -- The one reads as the other does, but for its own tail.
  pub reads_but_tail : (sizes : Sizes) (names : List (List ℕ)) (tail : ℕ) → image 0 1 0 ≤ 2 ^ 60 → ReadsAs mount_layout sizes.page sizes.entries names tail other → ReadsAs mount_layout sizes.page sizes.entries names (image 0 1 0) image
  reads_but_tail sizes names tail small reads = record {
    readable = record {
      long_enough = reads.readable.long_enough;
      fields = record {
        magic = in_first 0 ∙ reads.readable.fields.magic;
        version_is = in_first 1 ∙ reads.readable.fields.version_is;
        page = subst IsPageSize (sym (in_first 2)) reads.readable.fields.page;
        entries = subst IsEntryCount (sym (in_first 3)) reads.readable.fields.entries;
        files = subst (λ n. n ≤ mount_layout.file_limit) (sym (in_first 4)) reads.readable.fields.files;
        tail = small;
      };
      names = λ i less. let good = reads.readable.names i (subst (λ n. i < n) (in_first 4) less) in record {
        whole = subst IsTrue (sym (record_same i)) good.whole;
        new = λ j below e. good.new j below (sym (name_same j) ∙ e ∙ name_same i);
      };
    };
    page_is = in_first 2 ∙ reads.page_is;
    entries_is = in_first 3 ∙ reads.entries_is;
    names_are = firsts_same ∙ reads.names_are;
    tail_is = refl;
  }

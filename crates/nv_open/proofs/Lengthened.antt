-- Parts of version 1 to whose header a bench gives more lines: they read as before.
use Rattle.std.proofs.Common.{◌≡◌, ◌+◌, ◌==◌, ◌&&◌, ℕ, ◌≤◌, max, min, zero, suc, Bool, true, false, nat_le, inl, inr, List, [], ◌∷◌, ◌++◌, length, take, replicate, refl, sym, ap, ◌∙◌, subst, arith, length-append}
use Rattle.std.proofs.Math.Nat.{le-max_left, le-max_right}
use Rattle.std.proofs.lemmas.Bool.Decides.{nat_tests}
use Rattle.std.proofs.lemmas.List.{length-replicate, length-take-le}
use Rattle.std.specs.Prelude.{sum_by, slice_index_or}
use Rattle.nv_plain.specs.Images.{Image, header_magic, header_of, layout_in}
use Rattle.nv_plain.specs.Layouts.{Layout, layout_of, mount_layout, version_1}
use Rattle.nv_plain.specs.Recovered.{Fits}
use Rattle.nv_plain.specs.declared.limits.Version.{Version}
use Rattle.nv_plain.specs.declared.limits.Version.TheVariants.{One, Two}
use Rattle.nv_plain.proofs.OwnLayouts.{layout_is}
use Rattle.nv_pmem.specs.Limits.{entry_lines}
use Rattle.nv_pmem.specs.Made.{resized}
use Rattle.nv_pmem.specs.Part.{Part, blank_line, line_of, newest, word_at}
use Rattle.nv_pmem.specs.Rows.{row_words}
use Rattle.nv_bench.specs.Opening.{is_of_version_1, lengthened}
use Rattle.nv_header.specs.Heads.{IsHead, first_names}
use Rattle.nv_header.specs.Needs.{HasLines, lines_found, lines_wanted}
use Rattle.nv_header.specs.Refusals.{IsOurs, IsRefused}
use Rattle.nv_header.specs.Unread.{IsOfNoVersion, IsRefusedAsOurs}
use Rattle.nv_header.specs.declared.head.HeadError.{HeadError}
use Rattle.nv_header.specs.declared.head.HeadError.TheVariants as head
use Rattle.nv_recover.specs.Groups.{IsLeastBad}
use Rattle.nv_recover.specs.Recovering.{HasFoundAll}
use Rattle.nv_recover.specs.declared.recovering.Recovered.{Recovered}
use Rattle.nv_open.specs.Held.{IsRecovered, header_names}
use Rattle.nv_open.specs.Refusals.{AreLong, CanBeRead, IsHeadRefused, IsRefusedFor, LackLines, head_image, head_layout, header_part, rooms_of}
use Rattle.nv_open.specs.Unopened.{IsGood}
use Rattle.nv_open.specs.declared.error.Refusal.{Refusal}
use Rattle.nv_open.specs.declared.error.Refusal.TheVariants.{Truncated, BadMagic, BadVersion, BadGeometry, BadName, BadEntry, TooManyFiles}

-- ---- lines of zeros behind those of a part

pub resized_length : (count : ℕ) (part : Part) → length (resized count part) ≡ count
resized_length count part =
    length-take-le count (part ++ replicate count blank_line) (omega (arith, length-append part (replicate count blank_line), length-replicate count blank_line))

blank_lines : (count more line : ℕ) → line_of (take count (replicate more blank_line)) line ≡ blank_line
blank_lines zero more line = refl
blank_lines (suc count) zero line = refl
blank_lines (suc count) (suc more) zero = refl
blank_lines (suc count) (suc more) (suc line) = blank_lines count more line

longer_line : (count more : ℕ) (part : Part) (line : ℕ) → length part ≤ count → line_of (take count (part ++ replicate more blank_line)) line ≡ line_of part line
longer_line count more [] line fits = blank_lines count more line
longer_line zero more (first ∷ part) line fits = absurd (omega (arith, fits))
longer_line (suc count) more (first ∷ part) zero fits = refl
longer_line (suc count) more (first ∷ part) (suc line) fits = longer_line count more part line (omega (arith, fits))

same_line : (layout : Layout) (parts : List Part) (i line : ℕ) → line_of (slice_index_or (lengthened layout parts) i []) line ≡ line_of (slice_index_or parts i []) line
same_line layout [] i line = refl
same_line layout (header ∷ others) zero line =
    longer_line (max layout.header_lines (length header)) (max layout.header_lines (length header)) header line (le-max_right layout.header_lines (length header))
same_line layout (header ∷ others) (suc i) line = refl

-- each word is as it was
pub same_words : (layout : Layout) (parts : List Part) → row_words (lengthened layout parts) ≡ row_words parts
same_words layout parts = λ k i line word. word_at (newest (same_line layout parts i line k)) word

-- ---- what reads on as before

-- Other parts say all that these say, and are refused for nothing else.
pub record ReadOn (parts made : List Part) : Type 0 where
  pub words : row_words made ≡ row_words parts
  pub refused : (why : Refusal) → IsRefusedFor made why → IsRefusedFor parts why
  pub readable : CanBeRead made → CanBeRead parts
  pub long : AreLong made → AreLong parts

pub reads_head : (parts made : List Part) → ReadOn parts made → head_image made ≡ head_image parts
reads_head parts made reads = ap (λ (image : Image). λ (part : ℕ). image 0) reads.words

pub reads_names : (parts made : List Part) → ReadOn parts made → header_names made ≡ header_names parts
reads_names parts made reads = ap (λ (image : Image). first_names (layout_in image) image (header_of image).files) (reads_head parts made reads)

pub good_before : (parts made : List Part) → ReadOn parts made → IsGood made → IsGood parts
good_before parts made reads good = record {
  readable = reads.readable good.readable;
  long = reads.long good.long;
  fits = subst (λ (image : Image). Fits (layout_in image) image) reads.words good.fits;
}

pub recovered_before : (parts made : List Part) (page entries : ℕ) (names : List (List ℕ)) (next : ℕ) (found : Recovered) → ReadOn parts made → IsRecovered made page entries names next found → IsRecovered parts page entries names next found
recovered_before parts made page entries names next found reads is =
    let head = reads_head parts made reads in
    record {
      readable = reads.readable is.readable;
      long = reads.long is.long;
      page_is = is.page_is ∙ ap (λ (image : Image). (header_of image).page) head;
      entries_is = is.entries_is ∙ ap (λ (image : Image). (header_of image).entries) head;
      names_are = is.names_are ∙ reads_names parts made reads;
      log = subst (λ (image : Image). HasFoundAll image found) reads.words is.log;
      next_is = is.next_is;
    }

pub reads_same : (parts : List Part) → ReadOn parts parts
reads_same parts = record { words = refl; refused = λ why is. is; readable = λ can. can; long = λ has. has }

-- ---- a header of version 1

three : (a b c : Bool) → (a && b && c) ≡ true → (a ≡ true) × ((b ≡ true) × (c ≡ true))
three true true true is = (refl, (refl, refl))
three true true false is = cc
three true false c is = cc
three false b c is = cc

three_from : (a b c : Bool) → a ≡ true → b ≡ true → c ≡ true → (a && b && c) ≡ true
three_from a b c is that other = rw (is, that, other) refl

-- what the test says
pub record IsOld (parts : List Part) : Type 0 where
  pub magic : (header_of (row_words parts)).magic ≡ header_magic
  pub version : (header_of (row_words parts)).version ≡ 1
  pub lines : 18 ≤ length (header_part parts)

same_number : (n m : ℕ) → (n == m) ≡ true → n ≡ m
same_number n m is = grind (arith, nat_tests)

own_number : (n m : ℕ) → n ≡ m → (n == m) ≡ true
own_number n m is = grind (arith, nat_tests)

enough_lines : (n m : ℕ) → nat_le n m ≡ true → n ≤ m
enough_lines n m is = grind (arith, nat_tests)

are_enough : (n m : ℕ) → n ≤ m → nat_le n m ≡ true
are_enough n m is = grind (arith, nat_tests)

pub old_parts : (parts : List Part) → is_of_version_1 parts ≡ true → IsOld parts
old_parts parts is =
    let all = three ((header_of (row_words parts)).magic == header_magic) ((header_of (row_words parts)).version == 1) (nat_le 18 (length (header_part parts))) is in
    record {
      magic = same_number (header_of (row_words parts)).magic header_magic all.0;
      version = same_number (header_of (row_words parts)).version 1 all.1.0;
      lines = enough_lines 18 (length (header_part parts)) all.1.1;
    }

pub are_old : (parts : List Part) → IsOld parts → is_of_version_1 parts ≡ true
are_old parts old =
    three_from ((header_of (row_words parts)).magic == header_magic) ((header_of (row_words parts)).version == 1) (nat_le 18 (length (header_part parts)))
    (own_number (header_of (row_words parts)).magic header_magic old.magic) (own_number (header_of (row_words parts)).version 1 old.version) (are_enough 18 (length (header_part parts)) old.lines)

-- ---- it reads on with more lines

-- the shorter header's lines are all that a header of version 1 needs
least_of : (n : ℕ) → 18 ≤ n → min 18 n ≡ 18
least_of n some = omega (arith, some)

only_one : (version : Version) → (layout_of version).version ≡ 1 → version ≡ One
only_one One is = refl
only_one Two is = absurd (omega (arith, is))

pub made_lines : (these : List Part) → 18 ≤ length (header_part these) → 274 ≤ length (header_part (lengthened mount_layout these))
made_lines [] some = absurd (omega (arith, some))
made_lines (header ∷ others) some = omega (arith, resized_length (max 274 (length header)) header, le-max_left 274 (length header))

module _ (parts : List Part) (old : IsOld parts) where
  abbrev made : List Part
  made = lengthened mount_layout parts

  same_head : head_image made ≡ head_image parts
  same_head = ap (λ (image : Image). λ (part : ℕ). image 0) (same_words mount_layout parts)

  layout : head_layout parts ≡ version_1
  layout = layout_is One (head_image parts) old.version

  made_layout : head_layout made ≡ version_1
  made_layout = ap (λ (image : Image). layout_in image) same_head ∙ layout

  readable : CanBeRead made → CanBeRead parts
  readable can =
      let at : IsHead (head_layout parts) (length (header_part made)) (head_image parts) = subst (λ (image : Image). IsHead (layout_in image) (length (header_part made)) image) same_head can in
      record { long_enough = (let lines = old.lines in let least = ap (λ (one : Layout). one.header_lines) layout in omega (arith, lines, least)); fields = at.fields; names = at.names }

  -- the lines that are needed were there
  lines_before : (page entries : ℕ) (these : List Part) → 18 ≤ length (header_part these) → HasLines version_1 page entries (rooms_of (lengthened mount_layout these)) → HasLines version_1 page entries (rooms_of these)
  lines_before page entries [] some has = absurd (omega (arith, some))
  lines_before page entries (header ∷ others) some has = record { header = some; count = has.count; each = has.each }

  lines_after : (page entries : ℕ) (these : List Part) → 18 ≤ length (header_part these) → HasLines version_1 page entries (rooms_of these) → HasLines version_1 page entries (rooms_of (lengthened mount_layout these))
  lines_after page entries [] some has = absurd (omega (arith, some))
  lines_after page entries (header ∷ others) some has = record {
    header = omega (arith, some, resized_length (max 274 (length header)) header, le-max_right 274 (length header));
    count = has.count;
    each = has.each;
  }

  same_found : (page entries : ℕ) (these : List Part) → 18 ≤ length (header_part these) → lines_found version_1 page entries (rooms_of (lengthened mount_layout these)) ≡ lines_found version_1 page entries (rooms_of these)
  same_found page entries [] some = absurd (omega (arith, some))
  same_found page entries (header ∷ others) some =
      let more : 18 ≤ length (resized (max 274 (length header)) header) = omega (arith, some, resized_length (max 274 (length header)) header, le-max_right 274 (length header)) in
      ap (λ (n : ℕ). n + sum_by (λ room. min (entry_lines page) room.lines) (take entries (rooms_of others))) (least_of (length (resized (max 274 (length header)) header)) more ∙ sym (least_of (length header) some))

  long : AreLong made → AreLong parts
  long has =
      let At : Layout → Image → List Part → Type 0 = λ one image these. HasLines one (header_of image).page (header_of image).entries (rooms_of these) in
      let of : At version_1 (head_image parts) made = subst (λ (image : Image). At version_1 image made) same_head (subst (λ (one : Layout). At one (head_image made) made) made_layout has) in
      subst (λ (one : Layout). At one (head_image parts) parts) (sym layout) (lines_before (header_of (head_image parts)).page (header_of (head_image parts)).entries parts old.lines of)

  still_long : AreLong parts → AreLong made
  still_long has =
      let At : Layout → Image → List Part → Type 0 = λ one image these. HasLines one (header_of image).page (header_of image).entries (rooms_of these) in
      let of : At version_1 (head_image parts) parts = subst (λ (one : Layout). At one (head_image parts) parts) layout has in
      subst (λ (one : Layout). At one (head_image made) made) (sym made_layout)
      (subst (λ (image : Image). At version_1 image made) (sym same_head) (lines_after (header_of (head_image parts)).page (header_of (head_image parts)).entries parts old.lines of))

  lack : (found wanted : ℕ) → LackLines made found wanted → LackLines parts found wanted
  lack found wanted is =
      let Found : Layout → Image → List Part → ℕ = λ one image these. lines_found one (header_of image).page (header_of image).entries (rooms_of these) in
      record {
        readable = readable is.readable;
        short = λ has. is.short (still_long has);
        found_is =
            is.found_is ∙ (λ i. Found (made_layout i) (same_head i) made) ∙ same_found (header_of (head_image parts)).page (header_of (head_image parts)).entries parts old.lines
            ∙ ap (λ (one : Layout). Found one (head_image parts) parts) (sym layout);
        wanted_is = is.wanted_is ∙ (λ i. lines_wanted ((made_layout ∙ sym layout) i) (header_of (same_head i)).page (header_of (same_head i)).entries);
      }

  -- a refusal as one of its version
  as_ours : (refusal : HeadError) → IsRefusedAsOurs (length (header_part made)) (head_image made) refusal → IsOurs version_1 (header_of (head_image parts)) × IsRefused version_1 (length (header_part made)) (head_image parts) refusal
  as_ours refusal is =
      let At : Version → Image → Type 0 = λ version image. IsOurs (layout_of version) (header_of image) × IsRefused (layout_of version) (length (header_part made)) image refusal in
      let there : At is.version (head_image parts) = subst (At is.version) same_head (is.ours, is.refused) in
      let one : is.version ≡ One = only_one is.version (sym there.0.version_is ∙ old.version) in
      subst (λ (version : Version). At version (head_image parts)) one there

  of_head : (refusal : HeadError) → IsHeadRefused made refusal → IsHeadRefused parts refusal
  of_head (head.Truncated found wanted) (inl short) = absurd (omega (arith, short.0, made_lines parts old.lines))
  of_head (head.Truncated found wanted) (inr (some, is)) = absurd (let short = (as_ours (head.Truncated found wanted) is).1 in omega (arith, short.0, made_lines parts old.lines))
  of_head head.BadMagic (some, is) = (old.lines, subst (λ (image : Image). IsOfNoVersion (header_of image) head.BadMagic) same_head is)
  of_head (head.BadVersion found) (some, is) = (old.lines, subst (λ (image : Image). IsOfNoVersion (header_of image) (head.BadVersion found)) same_head is)
  of_head (head.BadGeometry field found) is =
      let both = as_ours (head.BadGeometry field found) is in
      record { version = One; ours = both.0; refused = (old.lines, both.1.1) }
  of_head (head.BadName i) is =
      let both = as_ours (head.BadName i) is in
      record { version = One; ours = both.0; refused = (old.lines, both.1.1, both.1.2) }
  of_head head.RegionFault is = tt
  of_head head.NoMemory is = tt

  of_region : (why : Refusal) → IsRefusedFor made why → IsRefusedFor parts why
  of_region (Truncated found wanted) (inl is) = inl (of_head (head.Truncated found wanted) is)
  of_region (Truncated found wanted) (inr is) = inr (lack found wanted is)
  of_region BadMagic is = of_head head.BadMagic is
  of_region (BadVersion found) is = of_head (head.BadVersion found) is
  of_region (BadGeometry field found) is = of_head (head.BadGeometry field found) is
  of_region (BadName i) is = of_head (head.BadName i) is
  of_region (BadEntry number) (can, has, bad) =
      (readable can, long has, subst (λ (image : Image). IsLeastBad (layout_in image) image number) (same_words mount_layout parts) bad)
  of_region TooManyFiles is = absurd is

  pub reads_longer : ReadOn parts made
  reads_longer = record { words = same_words mount_layout parts; refused = of_region; readable = readable; long = long }

-- The device calls that write a region's header, one after another.
use Rattle.std.specs.Prelude.{ℕ, ◌+◌, ◌-◌, ◌*◌, List, [], ◌∷◌, ◌++◌, length, take, drop, slice_index_or}
use Rattle.std.specs.Int.{to_le_bytes, w64}
use Rattle.std.specs.List.{flat_map, range_with_len}
use Rattle.nv_plain.specs.Files.{padded}
use Rattle.nv_plain.specs.Images.{header_magic}
use Rattle.nv_plain.specs.Layouts.{Layout, version_2}
use Rattle.nv_plain.specs.declared.limits.Version.{Version}
use Rattle.nv_plain.specs.declared.limits.Version.TheVariants.{One, Two}
use Rattle.nv_pmem.specs.Rows.{RowStep, on_part}
use Rattle.nv_pmem.specs.Steps.{LineStep, StoreWord, Flush, Fence, line_stores, durable_store}
use Rattle.nv_header.specs.Heads.{record_line}

-- the tail is stored and made durable
abbrev pub tail_steps : ℕ → List LineStep
tail_steps tail = durable_store 1 0 tail

-- the commit word of each entry is cleared, part by part
unfoldable pub clear_steps : (entries : ℕ) → List RowStep
clear_steps entries = flat_map (λ i. on_part i (durable_store 0 0 0)) (range_with_len 1 entries)

-- the fields of a header of this version with no file and tail 0, durable before the magic is stored
unfoldable pub field_steps : Layout → (page entries : ℕ) → List LineStep
field_steps layout page entries =
    StoreWord 0 1 layout.version ∷ StoreWord 0 2 page ∷ StoreWord 0 3 entries ∷ StoreWord 0 4 0 ∷ StoreWord 1 0 0 ∷ Flush 0 ∷ Flush 1 ∷ Fence ∷ []

-- the fields, and then the magic by itself
unfoldable pub blank_header_steps : Layout → (page entries : ℕ) → List LineStep
blank_header_steps layout page entries = field_steps layout page entries ++ durable_store 0 0 header_magic

-- A blank region is formatted: the entries first, and then the header.
unfoldable pub format_steps : Layout → (page entries : ℕ) → List RowStep
format_steps layout page entries = clear_steps entries ++ on_part 0 (blank_header_steps layout page entries)

-- a name's record: its length, its bytes, and zeros behind them
unfoldable pub name_record : Layout → List ℕ → List ℕ
name_record layout name = to_le_bytes w64 (length name) ++ padded name (64 * layout.lines_per_name - 8)

-- line k of a name's record
abbrev pub record_part : Layout → List ℕ → ℕ → List ℕ
record_part layout name k = take 64 (drop (64 * k) (name_record layout name))

-- line k of the record of name i is stored and flushed
unfoldable pub record_line_steps : Layout → (i : ℕ) → List ℕ → (k : ℕ) → List LineStep
record_line_steps layout i name k =
    line_stores (record_line layout i + k) (record_part layout name k) ++ Flush (record_line layout i + k) ∷ []

-- and so is each of its lines
unfoldable pub record_lines_steps : Layout → (i : ℕ) → List ℕ → List LineStep
record_lines_steps layout i name = flat_map (record_line_steps layout i name) (range_with_len 0 layout.lines_per_name)

-- The record of name i is made durable: a fence comes last.
unfoldable pub record_steps : Layout → (i : ℕ) → List ℕ → List LineStep
record_steps layout i name = record_lines_steps layout i name ++ Fence ∷ []

-- A name is added as name i: its record first, and then the count of the names.
unfoldable pub add_file_steps : Layout → (i : ℕ) → List ℕ → List LineStep
add_file_steps layout i name = record_steps layout i name ++ durable_store 0 4 (i + 1)

-- the records of some names, from the first on: each of their lines is stored and flushed
unfoldable pub records_lines_steps : Layout → List (List ℕ) → List LineStep
records_lines_steps layout names =
    flat_map (λ i. record_lines_steps layout i (slice_index_or names i [])) (range_with_len 0 (length names))

-- They are made durable: one fence comes last.
unfoldable pub records_steps : Layout → List (List ℕ) → List LineStep
records_steps layout names = records_lines_steps layout names ++ Fence ∷ []

-- A header of version 1 with these names becomes one of version 2: the records of that version first, and then the version.
unfoldable pub version_2_steps : List (List ℕ) → List LineStep
version_2_steps names = records_steps version_2 names ++ durable_store 0 1 version_2.version

-- A region with these names is migrated; one of version 2 is left alone.
abbrev pub migrate_steps : Version → List (List ℕ) → List LineStep
migrate_steps One names = version_2_steps names
migrate_steps Two names = []

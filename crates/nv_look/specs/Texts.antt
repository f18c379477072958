-- Texts: how a region is shown.
use Rattle.std.specs.Prelude.{◌≡◌, ℕ, ◌+◌, ◌-◌, nat_lt, Bool, true, false, if◌then◌else◌, List, [], ◌∷◌, ◌++◌, length, count_by, codes}
use Rattle.std.specs.Fmt.{decimal}
use Rattle.nv_plain.specs.Layouts.{layout_of}
use Rattle.nv_header.specs.declared.head.Head.{Head}
use Rattle.nv_trace.specs.Report.{line_text, file_text}
use Rattle.nv_plain.specs.Images.{Image}
use Rattle.nv_look.specs.Listings.{IsListing}
use Rattle.nv_look.specs.Rows.{row_start, row_end}
use Rattle.nv_look.specs.declared.listing.Row.{Row}
use Rattle.nv_look.specs.declared.listing.Row.TheVariants.{Group, Bad}

-- `region VERSION PAGE N FILES TAIL`
abbrev pub walk_region_text : Head → List ℕ
walk_region_text head =
    line_text (codes "region" ∷ decimal (layout_of head.version).version ∷ decimal head.geometry.page ∷ decimal head.geometry.entries ∷ decimal (length head.names) ∷ decimal head.tail ∷ [])

-- `name I NAME`
abbrev pub name_text : ℕ → (name : List ℕ) → List ℕ
name_text i name = line_text (codes "name" ∷ decimal i ∷ name ∷ [])

-- the lines of some names, the first of which has this number
abbrev pub names_text : ℕ → List (List ℕ) → List ℕ
names_text i [] = []
names_text i (name ∷ rest) = name_text i name ++ names_text (i + 1) rest

-- `group S COUNT FILE OFFSET LENGTH`, or `bad S`
abbrev pub row_text : Row → List ℕ
row_text (Group leader count file at len) = line_text (codes "group" ∷ decimal leader ∷ decimal count ∷ decimal file ∷ decimal at ∷ decimal len ∷ [])
row_text (Bad number) = line_text (codes "bad" ∷ decimal number ∷ [])

-- `hole A B`, where there are numbers from A on below B
abbrev pub hole_text : (from to : ℕ) → List ℕ
hole_text from to = if nat_lt from to then line_text (codes "hole" ∷ decimal from ∷ decimal to ∷ []) else []

-- the rows from a number on, and between them the numbers that are in none
abbrev pub log_text : (from : ℕ) → List Row → List ℕ
log_text from [] = []
log_text from (row ∷ rest) = hole_text from (row_start row) ++ (row_text row ++ log_text (row_end row) rest)

-- the lines of files with their names
abbrev pub files_text : List (List ℕ) → List (List ℕ) → List ℕ
files_text (name ∷ names) (bytes ∷ rest) = file_text name bytes ++ files_text names rest
files_text names contents = []

-- how many of some rows are groups, and how many are bad
abbrev pub is_group : Row → Bool
is_group (Group leader count file at len) = true
is_group (Bad number) = false

abbrev pub groups_in : List Row → ℕ
groups_in rows = count_by is_group rows

abbrev pub bad_in : List Row → ℕ
bad_in rows = length rows - groups_in rows

-- `end GROUPS BAD`
abbrev pub walk_end_text : List Row → List ℕ
walk_end_text rows = line_text (codes "end" ∷ decimal (groups_in rows) ∷ decimal (bad_in rows) ∷ [])

-- What is shown of a region whose header says this and whose log is listed so, with these files.
unfoldable pub look_text : Head → List Row → (files : List (List ℕ)) → List ℕ
look_text head rows files =
    walk_region_text head ++ (names_text 0 head.names ++ (log_text head.tail rows ++ (files_text head.names files ++ walk_end_text rows)))

-- The text shows the region that the image is, with these files.
pub record IsLookText (head : Head) (image : Image) (files : List (List ℕ)) (text : List ℕ) : Type 0 where
  pub rows : List Row
  pub listing : IsListing image rows
  pub is : text ≡ look_text head rows files

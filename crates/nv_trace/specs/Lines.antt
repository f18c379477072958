-- Lines and fields: what stands between the line feeds of an input, and between the spaces of a line.
use Rattle.std.specs.Prelude.{ℕ, ◌==◌, if◌then◌else◌, List, [], ◌∷◌}

-- a byte more at the front of the first part
abbrev pub onto_first : ℕ → List (List ℕ) → List (List ℕ)
onto_first byte [] = (byte ∷ []) ∷ []
onto_first byte (first ∷ rest) = (byte ∷ first) ∷ rest

-- the parts between the separators: one more than there are separators
unfoldable pub parts_between : ℕ → List ℕ → List (List ℕ)
parts_between separator [] = [] ∷ []
parts_between separator (byte ∷ rest) =
    if byte == separator then [] ∷ parts_between separator rest else onto_first byte (parts_between separator rest)

-- the fields of a line: each is ended by a space or the line's end
abbrev pub fields_of : List ℕ → List (List ℕ)
fields_of line = parts_between 32 line

-- the parts but the last
abbrev pub but_last : List (List ℕ) → List (List ℕ)
but_last [] = []
but_last (last ∷ []) = []
but_last (first ∷ second ∷ rest) = first ∷ but_last (second ∷ rest)

-- the last part, where it has a byte
abbrev pub last_if_some : List (List ℕ) → List (List ℕ)
last_if_some [] = []
last_if_some ([] ∷ []) = []
last_if_some ((byte ∷ bytes) ∷ []) = (byte ∷ bytes) ∷ []
last_if_some (first ∷ second ∷ rest) = last_if_some (second ∷ rest)

-- the lines that their line feed ends
abbrev pub ended_lines : List ℕ → List (List ℕ)
ended_lines input = but_last (parts_between 10 input)

-- the last line, where it lacks its line feed
abbrev pub open_line : List ℕ → List (List ℕ)
open_line input = last_if_some (parts_between 10 input)

-- File names: what the names of a region's files are.
use Rattle.std.specs.Prelude.{◌≢◌, ℕ, ◌<◌, ◌≤◌, IsTrue, List, [], length, slice_index_or}
use Rattle.nv_plain.specs.Layouts.{Layout}
use Rattle.nv_plain.specs.Names.{is_name}

-- They are few, each is allowed, and no two are the same.
pub record AreFileNames (layout : Layout) (names : List (List ℕ)) : Type 0 where
  pub few : length names ≤ layout.file_limit
  pub allowed : (i : ℕ) → i < length names → IsTrue (is_name layout.name_limit (slice_index_or names i []))
  pub distinct : (i j : ℕ) → i < j → j < length names → slice_index_or names i [] ≢ slice_index_or names j []

-- A name may stand behind these: it is allowed, and none of them is the same.
pub record IsNewName (layout : Layout) (names : List (List ℕ)) (name : List ℕ) : Type 0 where
  pub allowed : IsTrue (is_name layout.name_limit name)
  pub new : (j : ℕ) → j < length names → slice_index_or names j [] ≢ name

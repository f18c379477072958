-- Additions: a name put behind a region's names, and why it isn't.
use Rattle.std.specs.Prelude.{◌≡◌, ℕ, ◌<◌, ◌≤◌, ◌⊎◌, List, [], ◌∷◌, ◌++◌, length, Result, Ok, Err}
use Rattle.nv_plain.specs.Faults.{Rose}
use Rattle.nv_plain.specs.Images.{Image}
use Rattle.nv_plain.specs.Layouts.{Layout}
use Rattle.nv_header.specs.FileNames.{IsNewName}
use Rattle.nv_header.specs.Regions.{HasEmptyLog}
use Rattle.nv_header.specs.declared.adding.AddError.{AddError}
use Rattle.nv_header.specs.declared.adding.AddError.TheVariants.{TooManyFiles, BadName, NoMemory, RegionFault}

-- There is room for a name, and this may be it.
pub record CanAdd (layout : Layout) (names : List (List ℕ)) (name : List ℕ) : Type 0 where
  pub few : length names < layout.file_limit
  pub is_new : IsNewName layout names name

-- Why a name isn't added, in the order of the tests. Want of memory and a fault come only after these.
abbrev pub IsNotAdded : Layout → (names : List (List ℕ)) → (name : List ℕ) → AddError → Type 0
IsNotAdded layout names name TooManyFiles = layout.file_limit ≤ length names
IsNotAdded layout names name (BadName i) =
    (length names < layout.file_limit) × ¬ (IsNewName layout names name) × (i ≡ length names)
IsNotAdded layout names name NoMemory = CanAdd layout names name
IsNotAdded layout names name RegionFault = CanAdd layout names name

-- nothing of the region was written
abbrev pub IsUnwritten : AddError → Type 0
IsUnwritten TooManyFiles = Unit {0}
IsUnwritten (BadName i) = Unit {0}
IsUnwritten NoMemory = Unit {0}
IsUnwritten RegionFault = ⊥

-- A fault is answered only where the count rose, and any other answer leaves it.
abbrev pub AddHasCause : {T P : Type 0} → (before now : ℕ) → Result T (P × AddError) → Type 0
AddHasCause before now (Ok _) = now ≡ before
AddHasCause before now (Err (parts, TooManyFiles)) = now ≡ before
AddHasCause before now (Err (parts, BadName i)) = now ≡ before
AddHasCause before now (Err (parts, NoMemory)) = now ≡ before
AddHasCause before now (Err (parts, RegionFault)) = Rose before now

-- the names, or one more
abbrev pub HasNamesOrOneMore : Layout → (page entries : ℕ) → (names : List (List ℕ)) → (name : List ℕ) → (next : ℕ) → Image → Type 0
HasNamesOrOneMore layout page entries names name next image =
    HasEmptyLog layout page entries names next image ⊎ HasEmptyLog layout page entries (names ++ name ∷ []) next image

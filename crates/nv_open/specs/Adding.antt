-- Adding: the names that a region gets beside its own.
use Rattle.std.specs.Prelude.{◌≢◌, ℕ, ◌<◌, not, nat_eq, Bool, IsTrue, List, [], ◌++◌, length, filter, slice_index_or}
use Rattle.std.specs.List.{list_any}
use lib.Pointwise.{pointwise}
use Rattle.nv_plain.specs.Layouts.{Layout}
use Rattle.nv_plain.specs.Names.{is_name}
use Rattle.nv_header.specs.declared.adding.AddError.{AddError}
use Rattle.nv_header.specs.declared.adding.AddError.TheVariants as adding
use Rattle.nv_open.specs.declared.error.OpenError.{OpenError}
use Rattle.nv_open.specs.declared.error.OpenError.TheVariants as error
use Rattle.nv_open.specs.declared.error.Refusal.TheVariants.{BadName, TooManyFiles}

-- Names that are asked for: each is allowed, and no two are the same.
pub record AreWanted (layout : Layout) (names : List (List ℕ)) : Type 0 where
  pub allowed : (i : ℕ) → i < length names → IsTrue (is_name layout.name_limit (slice_index_or names i []))
  pub distinct : (i j : ℕ) → i < j → j < length names → slice_index_or names i [] ≢ slice_index_or names j []

-- whether a name is one of these
abbrev pub is_known : List (List ℕ) → List ℕ → Bool
is_known known name = list_any (λ one. pointwise nat_eq one name) known

-- of the names that are wanted those that aren't known, in their order
abbrev pub new_names : (known wanted : List (List ℕ)) → List (List ℕ)
new_names known wanted = filter (λ name. not (is_known known name)) wanted

-- the known names, and then the new ones
abbrev pub all_names : (known wanted : List (List ℕ)) → List (List ℕ)
all_names known wanted = known ++ new_names known wanted

-- the error of an addition
abbrev pub of_adding : AddError → OpenError
of_adding adding.TooManyFiles = error.Refused TooManyFiles
of_adding (adding.BadName i) = error.Refused (BadName i)
of_adding adding.NoMemory = error.NoMemory
of_adding adding.RegionFault = error.Fault

-- Commuting writes: which calls may be made in another order with the same files.
use Rattle.std.specs.Prelude.{◌≡◌, ◌≢◌, ◌⊎◌, ℕ, ◌+◌, ◌≤◌, List, [], ◌∷◌, ◌++◌, length}
use Rattle.std.specs.List.{concat}
use Rattle.nv_plain.specs.declared.call.FileCall.{FileCall}
use Rattle.nv_plain.specs.declared.call.FileCall.TheVariants.{Write, Writev}

-- two runs of bytes that don't meet
abbrev pub AreDisjoint : (at len from count : ℕ) → Type 0
AreDisjoint at len from count = (at + len ≤ from) ⊎ (from + count ≤ at)

-- two writes are of two files, or don't meet
abbrev pub AreApart : (file at len other from count : ℕ) → Type 0
AreApart file at len other from count = (file ≢ other) ⊎ AreDisjoint at len from count

-- Two calls are apart where they are no writes of one file that touch one byte.
abbrev pub Commute : FileCall → FileCall → Type 0
Commute (Write file at bytes) (Write other from others) = AreApart file at (length bytes) other from (length others)
Commute (Write file at bytes) (Writev other from parts) = AreApart file at (length bytes) other from (length (concat parts))
Commute (Writev file at parts) (Write other from others) = AreApart file at (length (concat parts)) other from (length others)
Commute (Writev file at parts) (Writev other from others) = AreApart file at (length (concat parts)) other from (length (concat others))
Commute one other = Unit {0}

-- the same calls in another order: each of them stands somewhere, and the others are the same without it
abbrev pub IsReordered : (calls others : List FileCall) → Type 0
IsReordered [] others = others ≡ []
IsReordered (call ∷ rest) others = (before behind : List FileCall) × (others ≡ before ++ call ∷ behind) × IsReordered rest (before ++ behind)

-- Names of files.
use Rattle.std.specs.Prelude.{ℕ, ◌==◌, ◌&&◌, ◌||◌, nat_le, not, Bool, List, length, slice_index}
use Rattle.std.specs.List.{list_all}

-- a to z, 0 to 9, `_`, `.` or `-`
abbrev pub is_name_byte : ℕ → Bool
is_name_byte byte =
    (nat_le 97 byte && nat_le byte 122) || (nat_le 48 byte && nat_le byte 57) || byte == 95 || byte == 46 || byte == 45

-- a name has at least one byte and at most so many, and doesn't begin with a dot
abbrev pub is_name : ℕ → List ℕ → Bool
is_name most name =
    nat_le 1 (length name) && nat_le (length name) most && not (slice_index name 0 == 46) && list_all is_name_byte name

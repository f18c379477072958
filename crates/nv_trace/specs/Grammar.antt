-- The grammar of traces: how the fields of a line are spelled.
use Rattle.std.specs.Prelude.{ℕ, ◌≤◌, ◌+◌, ◌-◌, ◌*◌, ◌^◌, ◌==◌, ◌&&◌, ◌||◌, nat_eq, nat_le, not, Bool, if◌then◌else◌, List, [], ◌∷◌, length, slice_index, codes, Option, Some, None, Result, Ok, Err, fold}
use Rattle.std.specs.List.{concat, list_all, sum}
use Rattle.std.specs.Option.{option_and_then, ok_or}
use Rattle.std.specs.Result.{result_ok}
use lib.Pointwise.{pointwise}
use Rattle.hex.specs.Hex.{decode_of}
use Rattle.nv_plain.specs.Layouts.{mount_layout}
use Rattle.nv_plain.specs.declared.mode.Mode.{Mode}
use Rattle.nv_plain.specs.declared.mode.Mode.TheVariants.{R, W, Rw}
use Rattle.nv_trace.specs.declared.bad_line.Why.{Why}
use Rattle.nv_trace.specs.Lines.{parts_between}
use Rattle.nv_trace.specs.declared.bad_line.Why.TheVariants.{Number, Mode as BadMode, Hex, Many}

-- the largest number of a thread
abbrev pub last_thread : ℕ
last_thread = 7

-- the largest offset of a call, and the most bytes that one moves
abbrev pub largest_offset : ℕ
largest_offset = 2 ^ 62 - 1

abbrev pub largest_count : ℕ
largest_count = 131072

-- the most parts of a vectored call
abbrev pub most_parts : ℕ
most_parts = 16

-- a vectored call may have so many parts
abbrev pub IsPartCount : ℕ → Type 0
IsPartCount count = (1 ≤ count) × (count ≤ most_parts)

-- the most files and descriptors of a trace
abbrev pub most_files : ℕ
most_files = mount_layout.file_limit

abbrev pub most_descriptors : ℕ
most_descriptors = 64

-- goes on with what was read, unless there was a reason not to
abbrev pub and_then : {A B : Type 0} → (A → Result B Why) → Result A Why → Result B Why
and_then f (Ok read) = f read
and_then f (Err why) = Err why

-- whether a field is this word
abbrev pub says : List ℕ → List ℕ → Bool
says field word = pointwise nat_eq field word

-- a byte that a line may have: one that prints, in ASCII
abbrev pub is_printable : ℕ → Bool
is_printable byte = nat_le 32 byte && nat_le byte 126

abbrev pub is_digit : ℕ → Bool
is_digit byte = nat_le 48 byte && nat_le byte 57

-- decimal digits, the first of them no zero where there are more
abbrev pub is_numeral : List ℕ → Bool
is_numeral field = nat_le 1 (length field) && list_all is_digit field && (length field == 1 || not (slice_index field 0 == 48))

-- the number that decimal digits stand for
abbrev pub value_of : List ℕ → ℕ
value_of digits = fold (λ value digit. 10 * value + (digit - 48)) 0 digits

-- the number that a field spells, up to the greatest that may stand there
unfoldable pub number_of : (most : ℕ) → List ℕ → Result ℕ Why
number_of most field = if is_numeral field && nat_le (value_of field) most then Ok (value_of field) else Err Number

-- some bytes, where a call may move so many
abbrev pub movable : List ℕ → Option (List ℕ)
movable bytes = if nat_le (length bytes) largest_count then Some bytes else None

-- the bytes that two hexadecimal digits of either case spell for each
unfoldable pub hex_of : List ℕ → Option (List ℕ)
hex_of field = option_and_then movable (result_ok (decode_of field))

-- the bytes that a field spells, `-` for none
unfoldable pub bytes_of : List ℕ → Result (List ℕ) Why
bytes_of field = if says field (codes "-") then Ok [] else ok_or (hex_of field) Hex

-- the parts of a list, a comma between each two: so many as a call may have
unfoldable pub parts_of : List ℕ → Result (List (List ℕ)) Why
parts_of field = if nat_le (length (parts_between 44 field)) most_parts then Ok (parts_between 44 field) else Err Many

-- what each of some parts spells, in order, or why the first that spells nothing doesn't
unfoldable pub each_of : {A : Type 0} → (List ℕ → Result A Why) → List (List ℕ) → Result (List A) Why
each_of read [] = Ok []
each_of read (part ∷ parts) = and_then (λ first. and_then (λ rest. Ok (first ∷ rest)) (each_of read parts)) (read part)

-- the bytes that a part spells, `-` for none: an empty part spells none
unfoldable pub part_of : List ℕ → Result (List ℕ) Why
part_of part = if length part == 0 then Err Hex else bytes_of part

-- some lists of bytes, where a call may move so many together
abbrev pub all_movable : List (List ℕ) → Result (List (List ℕ)) Why
all_movable parts = if nat_le (length (concat parts)) largest_count then Ok parts else Err Hex

-- the lists of bytes that a field spells, a comma between each two
unfoldable pub byte_lists_of : List ℕ → Result (List (List ℕ)) Why
byte_lists_of field = and_then all_movable (and_then (each_of part_of) (parts_of field))

-- some lengths, where a call may move so many bytes together
abbrev pub all_countable : List ℕ → Result (List ℕ) Why
all_countable lens = if nat_le (sum lens) largest_count then Ok lens else Err Number

-- the lengths that a field spells, a comma between each two
unfoldable pub lens_of : List ℕ → Result (List ℕ) Why
lens_of field = and_then all_countable (and_then (each_of (number_of largest_count)) (parts_of field))

-- the mode that a field spells
unfoldable pub mode_of : List ℕ → Result Mode Why
mode_of field =
    if says field (codes "r") then Ok R
    else if says field (codes "w") then Ok W
    else if says field (codes "rw") then Ok Rw
    else Err BadMode

-- What the fields of a line say behind the lines of a trace, or the first reason why they say nothing.
use Rattle.std.specs.Prelude.{◌≡◌, ℕ, ◌-◌, ◌==◌, ◌&&◌, ◌||◌, nat_eq, nat_le, nat_lt, not, Bool, false, if◌then◌else◌, List, [], ◌∷◌, length, codes, replicate, Result, Ok, Err}
use Rattle.std.specs.List.{list_any, position_or_len}
use Rattle.std.specs.Option.{ok_or}
use lib.Pointwise.{pointwise}
use Rattle.nv_plain.specs.Layouts.{mount_layout}
use Rattle.nv_plain.specs.Names.{is_name}
use Rattle.nv_trace.specs.Forms.{has_rounds, has_steps}
use Rattle.nv_trace.specs.Grammar.{and_then, byte_lists_of, bytes_of, largest_count, largest_offset, last_thread, lens_of, mode_of, most_descriptors, most_files, number_of, says}
use Rattle.nv_trace.specs.Tokens.{tokens_of}
use Rattle.nv_trace.specs.Traced.{Traced, has_begun, has_tokens}
use Rattle.nv_trace.specs.declared.bad_line.Why.{Why}
use Rattle.nv_trace.specs.declared.bad_line.Why.TheVariants.{Form, Late, Number, Name, Many, Repeat, Unknown}
use Rattle.nv_trace.specs.declared.bad_line.Unsaid.{Unsaid}
use Rattle.nv_trace.specs.declared.bad_line.Unsaid.TheVariants as unsaid
use Rattle.nv_trace.specs.declared.call_lines.CallPlace.{CallPlace}
use Rattle.nv_trace.specs.declared.statement.Statement.{Statement}
use Rattle.nv_trace.specs.declared.statement.Statement.TheVariants.{File, Opened, Call, Round}
use Rattle.nv_trace.specs.declared.token.LineToken.{LineToken}
use Rattle.nv_trace.specs.declared.trace_call.TraceCall.{TraceCall}
use Rattle.nv_trace.specs.declared.trace_call.TraceCall.TheVariants.{Pread, Pwrite, Preadv, Pwritev, Fsync}

-- the place of a name among some names, or how many there are
abbrev pub said_place : List ℕ → List (List ℕ) → ℕ
said_place name names = position_or_len (λ known. pointwise nat_eq known name) names

-- the name of a file that is declared: no call, no round and no token may stand before it, nor 64 files, nor the same name
unfoldable pub new_name : Traced → List ℕ → Result (List ℕ) Why
new_name trace name =
    if has_begun trace then Err Late
    else if nat_le most_files (length trace.names) then Err Many
    else if not (is_name mount_layout.name_limit name) then Err Name
    else if nat_lt (said_place name trace.names) (length trace.names) then Err Repeat
    else Ok name

-- a descriptor's number: it is that of the earlier ones
abbrev pub turn_of : Traced → List ℕ → Result ℕ Why
turn_of trace field =
    and_then (λ number. if number == length trace.descriptors then Ok number else Err Number) (number_of (most_descriptors - 1) field)

-- the place of a file that is declared, by its name
unfoldable pub said_file : Traced → List ℕ → Result ℕ Why
said_file trace name =
    if not (is_name mount_layout.name_limit name) then Err Name
    else if nat_lt (said_place name trace.names) (length trace.names) then Ok (said_place name trace.names)
    else Err Unknown

-- a descriptor that is declared: no call, no round and no token may stand before it, nor 64 descriptors
unfoldable pub new_descriptor : Traced → (number name mode : List ℕ) → Result Statement Why
new_descriptor trace number name mode =
    if has_begun trace then Err Late
    else if nat_le most_descriptors (length trace.descriptors) then Err Many
    else and_then (λ _. and_then (λ file. and_then (λ mode. Ok (Opened (record { file = file; mode = mode }))) (mode_of mode)) (said_file trace name)) (turn_of trace number)

-- the descriptor of a call, by its number
unfoldable pub call_on : Traced → (fd : List ℕ) → Result ℕ Why
call_on trace fd =
    and_then (λ fd. if nat_lt fd (length trace.descriptors) then Ok fd else Err Unknown) (number_of (most_descriptors - 1) fd)

-- where a call reads or writes: its descriptor and its offset
abbrev pub call_at : Traced → (fd at : List ℕ) → Result CallPlace Why
call_at trace fd at =
    and_then (λ fd. and_then (λ at. Ok (record { fd = fd; at = at })) (number_of largest_offset at)) (call_on trace fd)

-- `pread FD OFF LEN`
abbrev pub read_of : Traced → (fd at len : List ℕ) → Result TraceCall Why
read_of trace fd at len =
    and_then (λ place. and_then (λ len. Ok (Pread place.fd place.at len)) (number_of largest_count len)) (call_at trace fd at)

-- `pwrite FD OFF HEX`
abbrev pub write_of : Traced → (fd at hex : List ℕ) → Result TraceCall Why
write_of trace fd at hex =
    and_then (λ place. and_then (λ bytes. Ok (Pwrite place.fd place.at bytes)) (bytes_of hex)) (call_at trace fd at)

-- `preadv FD OFF LEN,LEN,..`
abbrev pub vectored_read_of : Traced → (fd at lens : List ℕ) → Result TraceCall Why
vectored_read_of trace fd at lens =
    and_then (λ place. and_then (λ lens. Ok (Preadv place.fd place.at lens)) (lens_of lens)) (call_at trace fd at)

-- `pwritev FD OFF HEX,HEX,..`
abbrev pub vectored_write_of : Traced → (fd at parts : List ℕ) → Result TraceCall Why
vectored_write_of trace fd at parts =
    and_then (λ place. and_then (λ parts. Ok (Pwritev place.fd place.at parts)) (byte_lists_of parts)) (call_at trace fd at)

-- `pfill FD OFF LEN BYTE`: a write of so many bytes that are alike
abbrev pub fill_of : Traced → (fd at len byte : List ℕ) → Result TraceCall Why
fill_of trace fd at len byte =
    and_then (λ place. and_then (λ len. and_then (λ byte. Ok (Pwrite place.fd place.at (replicate len byte))) (number_of 255 byte)) (number_of largest_count len))
    (call_at trace fd at)

-- `fsync FD`
abbrev pub sync_of : Traced → (fd : List ℕ) → Result TraceCall Why
sync_of trace fd = and_then (λ fd. Ok (Fsync fd)) (call_on trace fd)

-- the number of a call's thread: no token may stand before a call
abbrev pub thread_of : Traced → (thread : List ℕ) → Result ℕ Why
thread_of trace thread = if has_tokens trace then Err Late else number_of last_thread thread

-- a call behind the number of its thread
abbrev pub made_by : Traced → (thread : List ℕ) → Result TraceCall Why → Result Statement Why
made_by trace thread called = and_then (λ thread. and_then (λ call. Ok (Call thread call)) called) (thread_of trace thread)

-- the words that a line begins with that is no call's
abbrev pub is_keyword : List ℕ → Bool
is_keyword field = says field (codes "file") || says field (codes "fd") || says field (codes "round") || says field (codes "steps")

-- What some fields say, none of them empty: `round`, `file NAME`, `fd N NAME MODE` or a call.
unfoldable pub said_by : Traced → List (List ℕ) → Result Statement Why
said_by trace (word ∷ []) =
    if says word (codes "round") && has_rounds trace.form then Ok Round else Err Form
said_by trace (word ∷ name ∷ []) =
    if says word (codes "file") then and_then (λ name. Ok (File name)) (new_name trace name) else Err Form
said_by trace (thread ∷ word ∷ fd ∷ []) =
    if not (is_keyword thread) && says word (codes "fsync") then made_by trace thread (sync_of trace fd) else Err Form
said_by trace (word ∷ number ∷ name ∷ mode ∷ []) =
    if says word (codes "fd") then new_descriptor trace number name mode else Err Form
said_by trace (thread ∷ word ∷ fd ∷ at ∷ last ∷ []) =
    if is_keyword thread then Err Form
    else if says word (codes "pwrite") then made_by trace thread (write_of trace fd at last)
    else if says word (codes "pread") then made_by trace thread (read_of trace fd at last)
    else if says word (codes "pwritev") then made_by trace thread (vectored_write_of trace fd at last)
    else if says word (codes "preadv") then made_by trace thread (vectored_read_of trace fd at last)
    else Err Form
said_by trace (thread ∷ word ∷ fd ∷ at ∷ len ∷ byte ∷ []) =
    if not (is_keyword thread) && says word (codes "pfill") then made_by trace thread (fill_of trace fd at len byte) else Err Form
said_by trace _ = Err Form

-- what the fields of a line say
unfoldable pub said : Traced → List (List ℕ) → Result Statement Why
said trace fields = if list_any (λ field. length field == 0) fields then Err Form else said_by trace fields

-- whether the fields are those of a `steps` line
abbrev pub is_schedule : List (List ℕ) → Bool
is_schedule [] = false
is_schedule (word ∷ fields) = says word (codes "steps")

-- what the fields of a `steps` line say: a token each, and one at least
unfoldable pub tokens_said : Traced → List (List ℕ) → Result (List LineToken) Why
tokens_said trace [] = Err Form
tokens_said trace (word ∷ []) = Err Form
tokens_said trace (word ∷ fields) = if says word (codes "steps") && has_steps trace.form then ok_or (tokens_of fields) Form else Err Form

-- the reason why nothing was read is so; want of memory has none
abbrev pub IsUnsaid : {A : Type 0} → Result A Why → Unsaid → Type 0
IsUnsaid told (unsaid.Bad why) = told ≡ Err why
IsUnsaid told unsaid.NoMemory = Unit {0}

-- what was read is so, or the reason why it wasn't
abbrev pub IsRead : {A : Type 0} → Result A Unsaid → Result A Why → Type 0
IsRead (Ok read) told = told ≡ Ok read
IsRead (Err unsaid) told = IsUnsaid told unsaid

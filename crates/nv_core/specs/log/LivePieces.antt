-- Live pieces: the files after the history and the writes that are to be placed are the stores, overwritten by what the log has of them.
use Rattle.std.specs.Prelude.{◌≡◌, ℕ, zero, suc, ◌+◌, ◌-◌, ◌==◌, ◌&&◌, ◌||◌, not, Bool, false, if◌then◌else◌, List, [], ◌∷◌, ◌++◌, length, map, Option, Some, None}
use Rattle.std.specs.List.{range_with_len}
use Rattle.nv_plain.specs.Files.{Files}
use Rattle.nv_plain.specs.Made.{after_calls, made_calls}
use Rattle.nv_plain.specs.Pieces.{piece_of, piece_bytes}
use Rattle.nv_plain.specs.declared.call.FileCall.{FileCall}
use Rattle.nv_plain.specs.declared.call.FileCall.TheVariants.{Write, Sync}
use Rattle.nv_store.specs.Store.{Store}
use Rattle.nv_core.specs.state.Words.{Sizes, HEAD, TAIL, STORE, kind_of, cleaned, was_readied}
use Rattle.nv_core.specs.state.Values.{Value, AStore}
use Rattle.nv_core.specs.state.Passes.{Control, TakePlace, Pass, file_of, is_write}
use Rattle.nv_core.specs.steps.Order.{Values}
use Rattle.nv_core.specs.state.Core.{Core}
use Rattle.nv_core.specs.invariant.LogWindow.{entry_word_at}
use Rattle.nv_core.specs.log.Groups.{Group, Log}

-- the calls that numbers have, so many of them from one on, in rising number
abbrev pub rising : (ℕ → List FileCall) → (from count : ℕ) → List FileCall
rising calls from zero = []
rising calls from (suc count) = calls from ++ rising calls (suc from) count

-- a call where a test holds
abbrev pub call_if : Bool → FileCall → List FileCall
call_if test call = if test then call ∷ [] else []

-- ---- the live pieces

-- piece i of a write, as a write of its own; any other call has no piece, and writes nothing by it
abbrev pub piece_write : Sizes → FileCall → (i : ℕ) → FileCall
piece_write sizes (Write file at bytes) i =
    let piece = piece_of at (length bytes) sizes.page i in
    Write file piece.at (piece_bytes bytes piece)
piece_write sizes call i = Sync (file_of call)

-- the piece of a number of a group
abbrev pub piece_call : Sizes → Group → (number : ℕ) → FileCall
piece_call sizes group number = piece_write sizes group.call (number - group.first)

-- whether a number's entry was made ready
abbrev pub is_ready : Sizes → Core → (number : ℕ) → Bool
is_ready sizes core number = was_readied (entry_word_at sizes core number)

-- whether a number's entry is cleaned
abbrev pub is_cleaned : Sizes → Core → (number : ℕ) → Bool
is_cleaned sizes core number = kind_of (entry_word_at sizes core number) == cleaned

-- an entry is live where it was made ready, and its leader too, or is cleaned: the leader may be freed by then
abbrev pub is_live : Sizes → Log → Core → (number : ℕ) → Bool
is_live sizes log core number = is_ready sizes core number && (is_ready sizes core (log.group number).first || is_cleaned sizes core number)

abbrev pub live_pieces : Sizes → Log → Core → List FileCall
live_pieces sizes log core =
    rising (λ number. call_if (is_live sizes log core number) (piece_call sizes (log.group number) number)) (core.words TAIL) (core.words HEAD - core.words TAIL)

-- those of them whose entries aren't cleaned
abbrev pub uncleaned_pieces : Sizes → Log → Core → List FileCall
uncleaned_pieces sizes log core =
    rising (λ number. call_if (is_live sizes log core number && not (is_cleaned sizes core number)) (piece_call sizes (log.group number) number))
    (core.words TAIL) (core.words HEAD - core.words TAIL)

-- ---- the writes that are to be placed

-- whether a pass's write is placed next: its leader was made ready, though it may be cleaned and freed by then
abbrev pub is_waiting : Pass → Control → Bool
is_waiting pass TakePlace = is_write pass.call
is_waiting pass control = false

-- those of all passes, which hold their pages and so are apart from one another
abbrev pub to_place : Core → List FileCall
to_place core = rising (λ by. call_if (is_waiting (core.passes by) (core.passes by).control) (core.passes by).call) 0 (core.made + 1)

-- ---- both

-- the bytes that a store reads as
abbrev pub told_bytes : Option Store → List ℕ
told_bytes (Some store) = store.seen
told_bytes None = []

abbrev pub store_bytes : Value → List ℕ
store_bytes (AStore device) = told_bytes device.told
store_bytes value = []

-- the files that the stores read as
abbrev pub store_files : Sizes → Values → Files
store_files sizes values = record { contents = map (λ file. store_bytes (values (STORE file))) (range_with_len 0 sizes.files) }

-- From the files at opening, the history and then the writes that are to be placed leave the files that the stores read
-- as, overwritten by the live pieces in rising number; and so they do by those alone whose entries aren't cleaned.
pub record LivePieces (sizes : Sizes) (log : Log) (opened : Files) (core : Core) : Type 0 where
  pub files : after_calls (made_calls opened core.history ++ to_place core) opened
      ≡ after_calls (live_pieces sizes log core) (store_files sizes core.values)
  pub uncleaned : after_calls (made_calls opened core.history ++ to_place core) opened
      ≡ after_calls (uncleaned_pieces sizes log core) (store_files sizes core.values)

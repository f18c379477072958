-- Writes of descriptors: which are refused before their first step, and what one tells when it is over.
use Rattle.std.specs.Prelude.{◌≡◌, ℕ, Bool, true, false, List, [], ◌∷◌, length, Result, Ok, Err}
use Rattle.std.specs.List.{concat}
use Rattle.nv_plain.specs.Modes.{can_write}
use Rattle.nv_plain.specs.declared.call.FileCall.{FileCall}
use Rattle.nv_plain.specs.declared.call.FileCall.TheVariants.{Write, Writev}
use Rattle.nv_plain.specs.declared.call.Reply.TheVariants.{Count}
use Rattle.nv_table.specs.state.States.{PassState}
use Rattle.nv_table.specs.state.Views.{PassView}
use Rattle.nv_mount.specs.declared.fds.Fd.{Fd}
use Rattle.nv_mirror.specs.declared.answers.Done.{Done}
use Rattle.nv_mirror.specs.declared.answers.Refusal.{Refusal}
use Rattle.nv_mirror.specs.declared.answers.Refusal.TheVariants.{Busy, Raced}
use Rattle.nv_mirror.specs.Answers.{IsPlacedAs}
use Rattle.nv_calls.specs.calls.Asks.{asks_write, asks_writev}
use Rattle.nv_calls.specs.fsync.SyncRuns.{file_of_fd}
use Rattle.nv_calls.specs.histories.Heeds.{HasSeenStop, HeedsStop}
use Rattle.nv_calls.specs.histories.Unmoved.{LeavesWords}
use Rattle.nv_calls.specs.calls.EarlyRefusals.{early_refusal}
use Rattle.nv_calls.specs.calls.EndedCalls.{IsCallOver}

-- A write of a file has its place, and all its bytes.
pub record IsWritePlaced (file at : ℕ) (bytes : List ℕ) (old new : PassView) (answer : Done) : Type 0 where
  pub count : answer.len ≡ length bytes
  pub placed : IsPlacedAs old new (Write file at bytes) (Count (length bytes)) answer.place

-- It is over: what it asks for, so many bytes, is refused before any step, or it was what its descriptor's file was asked for, over by its steps.
abbrev pub IsWriteOverAs : (asks : (file : ℕ) → FileCall) → List Fd → (fd at len : ℕ) → (start now : PassState) → Result Done Refusal → Type 0
IsWriteOverAs asks fds fd at len start now result = IsCallOver (early_refusal can_write start.view.opened.sizes fds fd at len) (file_of_fd fds fd) asks start now result

-- so a write
abbrev pub IsWriteOver : List Fd → (fd at : ℕ) → List ℕ → (start now : PassState) → Result Done Refusal → Type 0
IsWriteOver fds fd at bytes start now result = IsWriteOverAs (asks_write at bytes) fds fd at (length bytes) start now result

-- ---- a vectored write

-- It has its place, and all bytes of its parts.
pub record IsWritevPlaced (file at : ℕ) (parts : List (List ℕ)) (old new : PassView) (answer : Done) : Type 0 where
  pub count : answer.len ≡ length (concat parts)
  pub placed : IsPlacedAs old new (Writev file at parts) (Count (length (concat parts))) answer.place

abbrev pub IsWritevOver : List Fd → (fd at : ℕ) → List (List ℕ) → (start now : PassState) → Result Done Refusal → Type 0
IsWritevOver fds fd at parts start now result = IsWriteOverAs (asks_writev at parts) fds fd at (length (concat parts)) start now result

-- ---- a write that is made again

-- It is made again where a lock was found held, or another write drew its numbers.
abbrev pub is_made_again : Refusal → Bool
is_made_again (Busy cell) = true
is_made_again (Raced seen found) = true
is_made_again refusal = false

abbrev pub ends_to_be_made_again : Result Done Refusal → Bool
ends_to_be_made_again (Ok done) = false
ends_to_be_made_again (Err refusal) = is_made_again refusal

-- Writes of so many bytes, asked so, came one after another, the last of them first, and each was refused so.
abbrev pub WereMadeAgainAs : (asks : (file : ℕ) → FileCall) → List Fd → (fd at len : ℕ) → List Refusal → (start now : PassState) → Type 0
WereMadeAgainAs asks fds fd at len [] start now = now ≡ start
WereMadeAgainAs asks fds fd at len (last ∷ earlier) start now =
    (middle : PassState) × WereMadeAgainAs asks fds fd at len earlier start middle × (is_made_again last ≡ true) × IsWriteOverAs asks fds fd at len middle now (Err last)
    × LeavesWords middle now (Err last)

-- After some that were, each of which left words as they were but those of locks, one more write came, which was answered so; and the pass kept what it had seen of STOP.
pub record IsWriteTriedAs (asks : (file : ℕ) → FileCall) (fds : List Fd) (fd at len : ℕ) (start now : PassState) (result : Result Done Refusal) : Type 0 where
  pub tries : List Refusal
  pub last : PassState
  pub again : WereMadeAgainAs asks fds fd at len tries start last
  pub over : IsWriteOverAs asks fds fd at len last now result
  pub left : LeavesWords last now result
  pub stays : HasSeenStop start → HasSeenStop last
  pub heeds : HeedsStop last now result

-- so writes of these bytes
abbrev pub WereMadeAgain : List Fd → (fd at : ℕ) → List ℕ → List Refusal → (start now : PassState) → Type 0
WereMadeAgain fds fd at bytes tries start now = WereMadeAgainAs (asks_write at bytes) fds fd at (length bytes) tries start now

abbrev pub IsWriteTried : List Fd → (fd at : ℕ) → List ℕ → (start now : PassState) → Result Done Refusal → Type 0
IsWriteTried fds fd at bytes start now result = IsWriteTriedAs (asks_write at bytes) fds fd at (length bytes) start now result

-- and vectored writes of these parts
abbrev pub IsWritevTried : List Fd → (fd at : ℕ) → List (List ℕ) → (start now : PassState) → Result Done Refusal → Type 0
IsWritevTried fds fd at parts start now result = IsWriteTriedAs (asks_writev at parts) fds fd at (length (concat parts)) start now result

-- Reads of descriptors: what one tells when it is over.
use Rattle.std.specs.Prelude.{◌≡◌, ℕ, ◌≤◌, false, List, length, take, None, Result, Ok, Err}
use Rattle.std.specs.List.{concat, sum}
use Rattle.nv_plain.specs.Calls.{filled}
use Rattle.nv_plain.specs.Modes.{can_read}
use Rattle.nv_plain.specs.declared.call.FileCall.{FileCall}
use Rattle.nv_plain.specs.declared.call.FileCall.TheVariants.{Read, Readv}
use Rattle.nv_plain.specs.declared.call.Reply.TheVariants.{Parts}
use Rattle.nv_table.specs.state.States.{PassState}
use Rattle.nv_table.specs.state.Views.{PassView}
use Rattle.nv_mount.specs.declared.fds.Fd.{Fd}
use Rattle.nv_mirror.specs.declared.answers.Done.{Done}
use Rattle.nv_mirror.specs.declared.answers.Refusal.{Refusal}
use Rattle.nv_mirror.specs.Answers.{HasTold, IsPlacedAs, place_in_answer, refusal_in_answer}
use Rattle.nv_mirror.specs.Controls.{IsOver}
use Rattle.nv_mirror.specs.OwnSteps.{ArePassing}
use Rattle.nv_mirror.specs.PassSteps.{PassStep, is_fault, stops_in}
use Rattle.nv_calls.specs.calls.Asks.{asks_read, asks_readv}
use Rattle.nv_calls.specs.calls.EarlyRefusals.{early_refusal}
use Rattle.nv_calls.specs.calls.EndedCalls.{IsOverBy}
use Rattle.nv_calls.specs.calls.Scattered.{Scattered}
use Rattle.nv_calls.specs.fsync.SyncRuns.{file_of_fd}

-- A refused read whose devices have not failed changed nothing that stays.
abbrev pub LeftAlone : List PassStep → Result Done Refusal → Type 0
LeftAlone steps result = place_in_answer result ≡ None → is_fault (refusal_in_answer result) ≡ false → ArePassing steps

-- What was asked as a read is over by its steps; one of them has set STOP exactly where a device has failed; and the list has its reply, if it has its place.
pub record IsReadDoneAs (asked : FileCall) (list : List ℕ) (start now : PassState) (result : Result Done Refusal) : Type 0 where
  pub over : IsOver asked (refusal_in_answer result) (place_in_answer result) start now
  pub stopped : stops_in over.steps ≡ is_fault (refusal_in_answer result)
  pub alone : LeftAlone over.steps result
  pub told : HasTold asked list start.view now.view result

-- so a read of a file
abbrev pub IsReadDone : (file at : ℕ) → (list : List ℕ) → (start now : PassState) → Result Done Refusal → Type 0
IsReadDone file at list start now result = IsReadDoneAs (Read file at (length list)) list start now result

-- It is over: what it asks for is refused before any step, or it was what its descriptor's file was asked for.
abbrev pub IsReadOverAs : (asks : (len file : ℕ) → FileCall) → List Fd → (fd at : ℕ) → (list : List ℕ) → (start now : PassState) → Result Done Refusal → Type 0
IsReadOverAs asks fds fd at list start now result =
    IsOverBy (early_refusal can_read start.view.opened.sizes fds fd at (length list)) (file_of_fd fds fd) (λ file. IsReadDoneAs (asks (length list) file) list start now result) start now result

-- so a read
abbrev pub IsReadOver : List Fd → (fd at : ℕ) → (list : List ℕ) → (start now : PassState) → Result Done Refusal → Type 0
IsReadOver fds fd at list start now result = IsReadOverAs (asks_read at) fds fd at list start now result

-- ---- a vectored read

-- one of parts of these lengths, whose bytes lie in the list
abbrev pub IsReadvOver : List Fd → (fd at : ℕ) → (lens list : List ℕ) → (start now : PassState) → Result Done Refusal → Type 0
IsReadvOver fds fd at lens list start now result = IsReadOverAs (asks_readv at lens) fds fd at list start now result

-- It has its place, and what its parts got is its reply; it tells how many bytes they got together.
pub record IsReadvPlaced (file at : ℕ) (lens : List ℕ) (parts : List (List ℕ)) (old new : PassView) (answer : Done) : Type 0 where
  pub count : answer.len ≡ length (concat parts)
  pub placed : IsPlacedAs old new (Readv file at lens) (Parts parts) answer.place

-- how many bytes a read got
abbrev pub got_by : Result Done Refusal → ℕ
got_by (Ok done) = done.len
got_by (Err refusal) = 0

-- The parts have got so many bytes of their room, from its front on, each filled to its end before the next.
abbrev pub HaveGot : (got : ℕ) → (old new : Scattered) → Type 0
HaveGot got old new = (new.lens ≡ old.lens) × (length new.list ≡ sum new.lens) × (got ≤ length new.list) × (new.parts ≡ filled new.lens (take got new.list))

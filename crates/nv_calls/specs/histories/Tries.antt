-- Tries: a read that is made again as long as a lock is found held.
use Rattle.std.specs.Prelude.{◌≡◌, ℕ, List, [], ◌∷◌, length, Result, Err}
use Rattle.nv_plain.specs.declared.call.FileCall.{FileCall}
use Rattle.nv_table.specs.state.States.{PassState}
use Rattle.nv_mount.specs.declared.fds.Fd.{Fd}
use Rattle.nv_mirror.specs.declared.answers.Done.{Done}
use Rattle.nv_mirror.specs.declared.answers.Refusal.{Refusal}
use Rattle.nv_mirror.specs.declared.answers.Refusal.TheVariants.{Busy}
use Rattle.nv_calls.specs.calls.Asks.{asks_read, asks_readv}
use Rattle.nv_calls.specs.histories.Heeds.{HasSeenStop, HeedsStop}
use Rattle.nv_calls.specs.reads.Reads.{IsReadOverAs}

-- a try that found this lock held: what its buffer has then
pub record Try : Type 0 where
  pub cell : ℕ
  pub list : List ℕ

-- Reads of so many bytes, asked so, came one after another, the last of them first, and each was answered Busy.
abbrev pub WereBusyAs : (asks : (len file : ℕ) → FileCall) → List Fd → (fd at len : ℕ) → List Try → (start now : PassState) → Type 0
WereBusyAs asks fds fd at len [] start now = now ≡ start
WereBusyAs asks fds fd at len (last ∷ earlier) start now =
    (middle : PassState) × WereBusyAs asks fds fd at len earlier start middle × (length last.list ≡ len) × IsReadOverAs asks fds fd at last.list middle now (Err (Busy last.cell))

-- After some that were, one more read came, which was answered so; and the pass kept what it had seen of STOP.
pub record IsTriedAs (asks : (len file : ℕ) → FileCall) (fds : List Fd) (fd at : ℕ) (list : List ℕ) (start now : PassState) (result : Result Done Refusal) : Type 0 where
  pub tries : List Try
  pub last : PassState
  pub busy : WereBusyAs asks fds fd at (length list) tries start last
  pub over : IsReadOverAs asks fds fd at list last now result
  pub stays : HasSeenStop start → HasSeenStop last
  pub heeds : HeedsStop last now result

-- so reads
abbrev pub WereBusy : List Fd → (fd at len : ℕ) → List Try → (start now : PassState) → Type 0
WereBusy fds fd at len tries start now = WereBusyAs (asks_read at) fds fd at len tries start now

abbrev pub IsTried : List Fd → (fd at : ℕ) → (list : List ℕ) → (start now : PassState) → Result Done Refusal → Type 0
IsTried fds fd at list start now result = IsTriedAs (asks_read at) fds fd at list start now result

-- and vectored reads, of parts of these lengths
abbrev pub IsReadvTried : List Fd → (fd at : ℕ) → (lens list : List ℕ) → (start now : PassState) → Result Done Refusal → Type 0
IsReadvTried fds fd at lens list start now result = IsTriedAs (asks_readv at lens) fds fd at list start now result

-- Complete: a call is done where it finds what it needs.
use Rattle.std.specs.Prelude.{◌≡◌, ℕ, ◌+◌, ◌<◌, ◌≤◌, ◌^◌, true, List, [], ◌∷◌, length, Option, Some, None, Result, Ok}
use Rattle.nv_plain.specs.Modes.{can_read}
use Rattle.nv_plain.specs.declared.call.FileCall.{FileCall}
use Rattle.nv_plain.specs.declared.call.FileCall.TheVariants.{Read, Sync}
use Rattle.nv_core.specs.invariant.Ownership.{is_among}
use Rattle.nv_core.specs.state.Passes.{first_page, end_page, page_count, is_write, plain_call}
use Rattle.nv_core.specs.state.Words.{Sizes, STOP, ORDER, HEAD, TAIL, PAGE}
use Rattle.nv_core.specs.steps.Ops.{Op, Load, Take, Draw}
use Rattle.nv_table.specs.state.States.{PassState}
use Rattle.nv_mount.specs.declared.fds.Fd.{Fd}
use Rattle.nv_mirror.specs.declared.answers.Done.{Done}
use Rattle.nv_mirror.specs.declared.answers.Refusal.{Refusal}
use Rattle.nv_mirror.specs.PassSteps.{PassStep, HasMade, fault_in, head_in}
use Rattle.nv_calls.specs.fsync.SyncRuns.{file_of_fd, IsSyncRun}
use Rattle.nv_calls.specs.calls.Asks.{asks_readv}
use Rattle.nv_calls.specs.calls.EarlyRefusals.{early_refusal}
use Rattle.nv_calls.specs.calls.EndedCalls.{IsCallOver}
use Rattle.nv_calls.specs.reads.Reads.{IsReadOver}

-- What a step needs to find, where its call loaded HEAD as it was: a lock is free, unless it is that of a page which is no page of the call, a victim's; STOP is 0, and
-- ORDER not used up; of a write, HEAD leaves enough numbers, TAIL leaves its entries room, and HEAD is still as it was.
abbrev pub Finds : Sizes → FileCall → (head : ℕ) → Op → (found : ℕ) → Type 0
Finds sizes call head (Take (PAGE page)) found = is_among (first_page sizes call) (end_page sizes call) page ≡ true → found ≡ 0
Finds sizes call head (Take cell) found = found ≡ 0
Finds sizes call head (Load STOP) found = found ≡ 0
Finds sizes call head (Load ORDER) found = found < 2 ^ 60
Finds sizes call head (Load HEAD) found = is_write call ≡ true → found + page_count sizes call ≤ 2 ^ 60
Finds sizes call head (Load TAIL) found = is_write call ≡ true → head + page_count sizes call ≤ found + sizes.entries
Finds sizes call head Draw found = found ≡ head
Finds sizes call head op found = Unit {0}

-- each of some steps finds that, and no device call before it has failed
abbrev pub AllFind : Sizes → FileCall → List PassStep → Type 0
AllFind sizes call [] = Unit {0}
AllFind sizes call (step ∷ earlier) = Finds sizes call (head_in earlier) step.op step.found × (fault_in step.works ≡ None) × AllFind sizes call earlier

-- no device call before some steps has failed
abbrev pub NoneFailed : List PassStep → Type 0
NoneFailed [] = Unit {0}
NoneFailed (step ∷ earlier) = (fault_in step.works ≡ None) × NoneFailed earlier

-- A call of a descriptor's file that isn't refused by what it asks for is done, where its steps find what they need; and only there, where no device call has failed.
pub record IsComplete (asks : (file : ℕ) → FileCall) (early : Option Refusal) (file : Option ℕ) (start now : PassState) (result : Result Done Refusal) : Type 0 where
  pub steps : List PassStep
  pub made : HasMade steps start now
  pub done : early ≡ None → (one : ℕ) → file ≡ Some one → AllFind start.view.opened.sizes (plain_call (asks one)) steps → (answer : Done) × (result ≡ Ok answer)
  pub needed : (answer : Done) → result ≡ Ok answer → (one : ℕ) → file ≡ Some one → NoneFailed steps → AllFind start.view.opened.sizes (plain_call (asks one)) steps

-- a law: each that is over is so, whatever made its steps
abbrev pub CallsAreComplete : Type 0
CallsAreComplete =
    (early : Option Refusal) (file : Option ℕ) (asks : (file : ℕ) → FileCall) (start now : PassState) (result : Result Done Refusal)
    → IsCallOver early file asks start now result → IsComplete asks early file start now result

-- ---- reads

abbrev pub IsCompleteReadv : List Fd → (fd at : ℕ) → (lens list : List ℕ) → (start now : PassState) → Result Done Refusal → Type 0
IsCompleteReadv fds fd at lens list start now result =
    IsComplete (asks_readv at lens (length list)) (early_refusal can_read start.view.opened.sizes fds fd at (length list)) (file_of_fd fds fd) start now result

abbrev pub IsCompleteRead : List Fd → (fd at : ℕ) → (list : List ℕ) → (start now : PassState) → Result Done Refusal → Type 0
IsCompleteRead fds fd at list start now result =
    IsComplete (λ file. Read file at (length list)) (early_refusal can_read start.view.opened.sizes fds fd at (length list)) (file_of_fd fds fd) start now result

abbrev pub ReadsAreComplete : Type 0
ReadsAreComplete =
    (fds : List Fd) (fd at : ℕ) (list : List ℕ) (start now : PassState) (result : Result Done Refusal)
    → IsReadOver fds fd at list start now result → IsCompleteRead fds fd at list start now result

-- ---- syncs, which are refused by no more than their descriptor before their first step

abbrev pub IsCompleteSync : List Fd → (fd : ℕ) → (start now : PassState) → Result Done Refusal → Type 0
IsCompleteSync fds fd start now result = IsComplete (λ file. Sync file) None (file_of_fd fds fd) start now result

abbrev pub SyncsAreComplete : Type 0
SyncsAreComplete =
    (fds : List Fd) (fd : ℕ) (start now : PassState) (result : Result Done Refusal) → IsSyncRun (file_of_fd fds fd) start now result → IsCompleteSync fds fd start now result

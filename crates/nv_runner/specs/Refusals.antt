-- Refusals: why a call of a trace is refused: what bars it before its first step, or what its pass has seen of the run.
use Rattle.std.specs.Prelude.{◌≡◌, ◌⊎◌, ℕ, ◌+◌, ◌<◌, ◌≤◌, ◌^◌, List, length, Option, Some, None, MatchOption}
use Rattle.std.specs.List.{concat, sum}
use Rattle.nv_plain.specs.Modes.{can_read, can_write}
use Rattle.nv_core.specs.state.Passes.{IsOneOf}
use Rattle.nv_core.specs.state.Words.{Sizes, Word, ORDER, HEAD, TAIL}
use Rattle.nv_core.specs.steps.Events.{CallsDevice}
use Rattle.nv_core.specs.steps.Opening.{IsMount}
use Rattle.nv_core.specs.steps.Order.{Work}
use Rattle.nv_table.specs.state.Opened.{mount_of, state_of}
use Rattle.nv_table.specs.state.States.{PassState}
use Rattle.nv_mount.specs.declared.fds.Fd.{Fd}
use Rattle.nv_mirror.specs.PassSteps.{fault_by}
use Rattle.nv_mirror.specs.declared.answers.Refusal.{Refusal}
use Rattle.nv_mirror.specs.declared.answers.Refusal.TheVariants.{BadFd, TooFar, TooLong, Busy, Stopped, Spent, Again, Raced, RegionFault, StoreFault}
use Rattle.nv_calls.specs.calls.EarlyRefusals.{early_refusal}
use Rattle.nv_calls.specs.fsync.SyncRuns.{file_of_fd}
use Rattle.nv_calls.specs.histories.Heeds.{HasSeenStop}
use Rattle.nv_trace.specs.declared.trace_call.TraceCall.{TraceCall}
use Rattle.nv_trace.specs.declared.trace_call.TraceCall.TheVariants.{Pread, Pwrite, Preadv, Pwritev, Fsync}
use Rattle.nv_runner.specs.declared.answer.Answer.TheVariants.{Refused}
use Rattle.nv_runner.specs.Entries.{entries_taken}
use Rattle.nv_runner.specs.Calls.{IsAnswered}
use Rattle.nv_runner.specs.Faithful.{IsReadCall}

-- ---- what bars a call

-- there is no such descriptor
abbrev pub unless_file : Option ℕ → Option Refusal
unless_file (Some file) = None
unless_file None = Some BadFd

-- There is no such descriptor, or it was not opened for such a call, or its range is refused.
abbrev pub early_of_call : Sizes → List Fd → TraceCall → Option Refusal
early_of_call sizes fds (Pread fd at len) = early_refusal can_read sizes fds fd at len
early_of_call sizes fds (Pwrite fd at bytes) = early_refusal can_write sizes fds fd at (length bytes)
early_of_call sizes fds (Preadv fd at lens) = early_refusal can_read sizes fds fd at (sum lens)
early_of_call sizes fds (Pwritev fd at parts) = early_refusal can_write sizes fds fd at (length (concat parts))
early_of_call sizes fds (Fsync fd) = unless_file (file_of_fd fds fd)

-- ---- what its pass has seen

-- a word in the state that the run leads to, as far as the pass has seen it
abbrev pub word_seen : PassState → Word → ℕ
word_seen pass word = (state_of pass.view.opened pass.view.run).words word

-- ORDER was found so, and is used up.
pub record FoundNoPlace (now : PassState) (found : ℕ) : Type 0 where
  pub spent : 2 ^ 60 ≤ found
  pub most : found ≤ word_seen now ORDER

-- A call that takes entries found HEAD so, and too few numbers are left for them.
pub record FoundNoNumber (sizes : Sizes) (call : TraceCall) (now : PassState) (found : ℕ) : Type 0 where
  pub takes : 0 < entries_taken sizes.page call
  pub spent : 2 ^ 60 < found + entries_taken sizes.page call
  pub most : found ≤ word_seen now HEAD

-- A call that takes entries found HEAD and TAIL so, and the log has no room for them; TAIL is no lower than at opening.
pub record FoundNoRoom (sizes : Sizes) (call : TraceCall) (now : PassState) (head tail : ℕ) : Type 0 where
  pub takes : 0 < entries_taken sizes.page call
  pub full : tail + sizes.entries < head + entries_taken sizes.page call
  pub head_most : head ≤ word_seen now HEAD
  pub tail_least : now.view.opened.next ≤ tail
  pub tail_most : tail ≤ word_seen now TAIL

-- The pass made a device call that failed so: that of an entry's part, or that of a store.
pub record MetFault (now : PassState) (fault : Refusal) : Type 0 where
  pub work : Work
  pub failed : fault_by work.cell work.ending ≡ Some fault
  pub made : IsOneOf now.view.run (record { by = now.view.number; act = CallsDevice work })

-- ---- causes

-- Why a call that nothing bars was refused. No lock that was held and no number that another write drew is a cause: then it was made again. Nor is want of room where a cleaner's batch may be run; and a write that a device fault ended is not refused.
abbrev pub IsCause : Sizes → (worker : Option ℕ) → TraceCall → (now : PassState) → Refusal → Type 0
IsCause sizes worker call now BadFd = ⊥
IsCause sizes worker call now TooFar = ⊥
IsCause sizes worker call now TooLong = ⊥
IsCause sizes worker call now (Busy cell) = ⊥
IsCause sizes worker call now (Raced seen found) = ⊥
IsCause sizes worker call now Stopped = HasSeenStop now
IsCause sizes worker call now (Spent found) = FoundNoPlace now found ⊎ FoundNoNumber sizes call now found
IsCause sizes worker call now (Again head tail) = (worker ≡ None) × FoundNoRoom sizes call now head tail
IsCause sizes worker call now RegionFault = IsReadCall call × HasSeenStop now × MetFault now RegionFault
IsCause sizes worker call now StoreFault = IsReadCall call × HasSeenStop now × MetFault now StoreFault

-- What bars it is its refusal; and where nothing does, that has such a cause.
abbrev pub HasCause : List Fd → (worker : Option ℕ) → TraceCall → (now : PassState) → Refusal → Type 0
HasCause fds worker call now refusal =
    MatchOption (early_of_call now.view.opened.sizes fds call) (IsCause now.view.opened.sizes worker call now refusal) (λ bar. refusal ≡ bar)

-- Each refusal has its cause.
abbrev pub RefusalsHaveCauses : Type 0
RefusalsHaveCauses =
    (fds : List Fd) (worker : Option ℕ) (call : TraceCall) (start now : PassState) (refusal : Refusal)
    → IsMount (mount_of now.view.opened) → IsAnswered fds worker call start now (Refused refusal) → HasCause fds worker call now refusal

-- Fresh: callers that have begun nothing.
use Rattle.std.specs.Prelude.{◌≡◌, ℕ, ◌+◌, ◌<◌, false, List, [], ◌∷◌, ◌++◌, None, length, map, slice_index_or}
use Rattle.std.specs.List.{range_with_len}
use Rattle.nv_core.specs.steps.Events.{own}
use Rattle.nv_table.specs.invariant.Idle.{IsIdle}
use Rattle.nv_table.specs.state.States.{IsOf}
use Rattle.nv_table.specs.state.Views.{pass_of}
use Rattle.nv_mount.specs.Mounts.{MountState}
use Rattle.nv_calls.specs.histories.Faults.{open_writes}
use Rattle.nv_runner.specs.Shifts.{calls_of_thread}
use Rattle.nv_trace.specs.declared.trace_call.TracedCall.{TracedCall}
use Rattle.nv_schedule.specs.Growing.{number_of, run_of}
use Rattle.nv_schedule.specs.Turns.{CallerState, HasCome}
use Rattle.nv_schedule.specs.declared.caller.Work.{Work}
use Rattle.nv_schedule.specs.declared.caller.Work.TheVariants.{Calls, Batches}

-- a thread that has made none of its calls, or a cleaner that has begun no batch
abbrev pub IsFreshWork : Work → Type 0
IsFreshWork (Calls thread) = (thread.hand ≡ None) × (thread.made ≡ []) × (thread.begun ≡ false)
IsFreshWork (Batches cleaner) = cleaner.machine ≡ None

-- It has begun nothing. Its pass is the next one behind so many, has no event and has made no call yet, none that a fault ended either, and is between calls.
pub record IsFresh (mount : MountState) (passes : ℕ) (caller : CallerState) : Type 0 where
  pub board : IsOf mount.board caller.pass
  pub number : number_of caller ≡ passes + 1
  pub unborn : own (number_of caller) (run_of caller) ≡ []
  pub uncalled : (pass_of caller.pass.view).mine ≡ []
  pub unfailed : open_writes caller.pass ≡ []
  pub idle : IsIdle caller.pass
  pub fresh : IsFreshWork caller.work
  pub come : HasCome mount.fds caller.work caller.pass caller.pass

-- Some callers are fresh, each by the pass behind as many as its place.
abbrev pub AreFresh : MountState → List CallerState → Type 0
AreFresh mount callers = (i : ℕ) (d : CallerState) → i < length callers → IsFresh mount i (slice_index_or callers i d)

-- the works of a schedule's callers: a thread of each number below 8, which has all its calls left, and the cleaner behind them
abbrev pub thread_works : (calls : List TracedCall) → (count : ℕ) → List Work
thread_works calls count = map (λ number. Calls (record { left = calls_of_thread number calls; begun = false; hand = None; made = [] })) (range_with_len 0 count)

abbrev pub works_of : (calls : List TracedCall) → (batch : ℕ) → List Work
works_of calls batch = thread_works calls 8 ++ Batches (record { most = batch; machine = None }) ∷ []

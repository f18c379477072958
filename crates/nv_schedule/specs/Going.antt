-- Going: how callers go on, whatever became of the tokens that they followed.
use Rattle.std.specs.Prelude.{◌≡◌, ℕ, ◌<◌, List, ◌++◌, length, map, slice_index_or}
use Rattle.nv_table.specs.state.States.{PassState}
use Rattle.nv_mount.specs.Mounts.{MountState}
use Rattle.nv_mount.specs.declared.fds.Fd.{Fd}
use Rattle.nv_trace.specs.declared.trace_call.TracedCall.{TracedCall}
use Rattle.nv_schedule.specs.Fresh.{AreFresh, works_of}
use Rattle.nv_schedule.specs.Growing.{number_of}
use Rattle.nv_schedule.specs.Scheduled.{asked_by}
use Rattle.nv_schedule.specs.Turns.{CallerState, HasCome}
use Rattle.nv_schedule.specs.declared.caller.Work.{Work}

-- By the same pass and with the same calls, a caller has come further from wherever it has come.
pub record GoesOn (fds : List Fd) (old new : CallerState) : Type 0 where
  pub number : number_of new ≡ number_of old
  pub asked : asked_by new.work ≡ asked_by old.work
  pub come : (start : PassState) → HasCome fds old.work start old.pass → HasCome fds new.work start new.pass

-- all of them have
pub record AllGoOn (fds : List Fd) (old new : List CallerState) : Type 0 where
  pub count : length new ≡ length old
  pub each : (i : ℕ) (d : CallerState) → i < length old → GoesOn fds (slice_index_or old i d) (slice_index_or new i d)

-- Callers that had begun nothing have gone on to these: those of a trace's calls, or the first ones of them, where there was no memory for more.
pub record HaveBegun (mount : MountState) (calls : List TracedCall) (batch : ℕ) (callers : List CallerState) : Type 0 where
  pub first : List CallerState
  pub fresh : AreFresh mount first
  pub unmade : List Work
  pub works : map (λ caller. caller.work) first ++ unmade ≡ works_of calls batch
  pub on : AllGoOn mount.fds first callers

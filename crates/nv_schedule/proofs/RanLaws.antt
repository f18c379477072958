-- Ran: fresh callers stand, and what follows a schedule between two views stands in the second one.
use Rattle.std.proofs.Common.{◌≡◌, ℕ, false, List, [], ◌++◌, length, map, refl, sym, ap, subst, arith}
use Rattle.std.proofs.lemmas.Grind.{common_steps}
use Rattle.std.specs.Prelude.{All, Result, Ok, Err, drop, slice_index_or, take}
use Rattle.nv_bench.specs.Benches.{BenchState}
use Rattle.nv_core.specs.steps.Events.{Event}
use Rattle.nv_mount.specs.Mounts.{MountState}
use Rattle.nv_table.specs.state.States.{PassState}
use Rattle.nv_runner.specs.Workers.{IsZero}
use Rattle.nv_trace.specs.declared.trace_call.TracedCall.{TracedCall}
use Rattle.nv_table.specs.passes.PassesMade.{imported_by}
use Rattle.nv_schedule.specs.Following.{IsWell, ScheduleTells, Stands}
use Rattle.nv_schedule.specs.Faulted.{batch_faulted, hand_faulted}
use Rattle.nv_schedule.specs.Fresh.{AreFresh, IsFreshWork, works_of}
use Rattle.nv_schedule.specs.Going.{AllGoOn, HaveBegun}
use Rattle.nv_schedule.specs.Ran.{RunTells}
use Rattle.nv_schedule.specs.Turns.{CallerState, has_faulted}
use Rattle.nv_schedule.specs.declared.caller.Work.{Work}
use Rattle.nv_schedule.specs.declared.caller.Work.TheVariants.{Calls, Batches}
use Rattle.nv_schedule.specs.declared.schedule_error.ScheduleError.{ScheduleError}
use Rattle.nv_schedule.specs.declared.schedule_error.ScheduleError.TheVariants.{Fault, NoMemory, TurnsUsed}
use Rattle.nv_trace.specs.declared.token.Token.{Token}
use Rattle.nv_schedule.proofs.SinceLaws.{all_self}

pub fresh_stand : (mount : MountState) (callers : List CallerState) → AreFresh mount callers → All (Stands mount) callers
fresh_stand mount callers fresh i d less = let one = fresh i d less in (one.board, λ zero. (let n = one.number in omega (arith, n, zero)), (slice_index_or callers i d).pass, one.come)

pub run_tells : (mount : MountState) (tokens : List Token) (calls : List TracedCall) (batch : ℕ) (first then_ : List CallerState) (zero : PassState) (view after : List Event) (bench armed : BenchState) (done : Result (Unit {0}) ScheduleError)
    → AreFresh mount first → map (λ (caller : CallerState). caller.work) first ≡ works_of calls batch → ScheduleTells mount.fds false tokens first then_ view after bench armed done
    → RunTells mount tokens calls batch then_ (imported_by zero after) bench armed done
run_tells mount tokens calls batch first then_ zero view after bench armed (Ok done) fresh works tells =
    (record { first = first; fresh = fresh; works = works; trail = tells.0; ran = tells.1; view = after; stands = tells.2 [] tt; before = zero.view.told; told = refl }, tells.3)
run_tells mount tokens calls batch first then_ zero view after bench armed (Err TurnsUsed) fresh works tells =
    (record { first = first; fresh = fresh; works = works; trail = tells.0; ran = tells.1; view = after; stands = tells.2 [] tt; before = zero.view.told; told = refl }, tells.3)
run_tells mount tokens calls batch first then_ zero view after bench armed (Err Fault) fresh works tells =
    (record { first = first; fresh = fresh; works = works; trail = tells.0; ran = tells.1; view = after; stands = tells.2 [] tt; before = zero.view.told; told = refl }, tells.3)
run_tells mount tokens calls batch first then_ zero view after bench armed (Err NoMemory) fresh works tells = tells

-- what has begun nothing is well
fresh_work : (work : Work) → IsFreshWork work → has_faulted work ≡ false
fresh_work (Calls thread) fresh = ap hand_faulted fresh.0
fresh_work (Batches cleaner) fresh = ap batch_faulted fresh

pub fresh_well : (mount : MountState) (callers : List CallerState) → AreFresh mount callers → All IsWell callers
fresh_well mount callers fresh i d less = fresh_work (slice_index_or callers i d).work (fresh i d less).fresh

-- they have gone on from there, or not yet
pub begun_on : (mount : MountState) (calls : List TracedCall) (batch : ℕ) (first then_ : List CallerState) → AreFresh mount first → (unmade : List Work) × (map (λ (caller : CallerState). caller.work) first ++ unmade ≡ works_of calls batch)
    → AllGoOn mount.fds first then_ → HaveBegun mount calls batch then_
begun_on mount calls batch first then_ fresh works on = record { first = first; fresh = fresh; unmade = works.0; works = works.1; on = on }

pub begun_fresh : (mount : MountState) (calls : List TracedCall) (batch : ℕ) (callers : List CallerState) → AreFresh mount callers → (unmade : List Work) × (map (λ (caller : CallerState). caller.work) callers ++ unmade ≡ works_of calls batch)
    → HaveBegun mount calls batch callers
begun_fresh mount calls batch callers fresh works = begun_on mount calls batch callers callers fresh works (all_self mount.fds callers)

pub begun_none : (mount : MountState) (calls : List TracedCall) (batch : ℕ) (callers : List CallerState) → callers ≡ [] → HaveBegun mount calls batch callers
begun_none mount calls batch callers none =
    subst (HaveBegun mount calls batch) (sym none) (begun_fresh mount calls batch [] (λ i d less. absurd (omega (arith, less))) (works_of calls batch, refl))

-- pass 0 is as it was, but for what it was told
pub zero_told : (mount : MountState) (zero : PassState) (view : List Event) → IsZero mount zero → IsZero mount (imported_by zero view)
zero_told mount zero view is = record {
  board = record { same_table = is.board.same_table; same_mount = is.board.same_mount };
  number = is.number;
  idle = record { control = is.idle.control; owned = is.idle.owned; left = is.idle.left; nothing = is.idle.nothing; taken = is.idle.taken };
}

-- a list that is written through a slice of all of it
pub written_whole : {T : Type 0} (len : ℕ) (old new : List T) → len ≡ length old → length new ≡ length old → take len (new ++ drop (length new) old) ≡ new
written_whole len old new is same = grind (arith, common_steps)

-- Scheduled: what a schedule over a mount came to, behind which the mount was closed.
use Rattle.std.specs.Prelude.{◌≡◌, ◌⊎◌, ℕ, ◌<◌, List, [], ◌∷◌, ◌++◌, length, map, slice_index_or, Result, Ok, Err}
use Rattle.nv_plain.specs.Histories.{Answered}
use Rattle.nv_bench.specs.Benches.{BenchState}
use Rattle.nv_core.specs.state.Passes.{IsOneOf}
use Rattle.nv_core.specs.state.Words.{Word}
use Rattle.nv_core.specs.steps.Events.{Event, own}
use Rattle.nv_core.specs.steps.Opening.{IsMount}
use Rattle.nv_table.specs.passes.PassesMade.{PutsBack}
use Rattle.nv_table.specs.passes.Seats.{past_of}
use Rattle.nv_table.specs.state.Opened.{IsRunOf, Opened, mount_of}
use Rattle.nv_table.specs.state.States.{IsOf, PassState}
use Rattle.nv_table.specs.state.Views.{AllBegin, Past, PassView, SeesAll, made_of, pass_of}
use Rattle.nv_mount.specs.Mounts.{MountState}
use Rattle.nv_mount.specs.WholeRuns.{history_then}
use Rattle.nv_mount.specs.declared.fds.Fd.{Fd}
use Rattle.nv_plain.specs.declared.memory.NoMemory.{NoMemory as AnyNoMemory}
use Rattle.nv_runner.specs.Lists.{calls_made, made_calls}
use Rattle.nv_trace.specs.declared.token.Token.{Token}
use Rattle.nv_trace.specs.declared.trace_call.TracedCall.{TracedCall}
use Rattle.nv_schedule.specs.Cuts.{IsCutBy, IsCutBySome}
use Rattle.nv_schedule.specs.Flights.{OpenAreFlights, flights_of}
use Rattle.nv_schedule.specs.Fresh.{AreFresh, works_of}
use Rattle.nv_schedule.specs.Growing.{number_of}
use Rattle.nv_schedule.specs.Listed.{all_listed, all_unanswered}
use Rattle.nv_schedule.specs.Orders.{deeds}
use Rattle.nv_schedule.specs.Ran.{RanAs}
use Rattle.nv_schedule.specs.Told.{IsToldOf}
use Rattle.nv_schedule.specs.Turns.{CallerState, HasCome}
use Rattle.nv_schedule.specs.declared.caller.Work.{Work}
use Rattle.nv_schedule.specs.declared.caller.Work.TheVariants.{Calls, Batches}
use Rattle.nv_schedule.specs.declared.schedule_error.ScheduleError.{ScheduleError}
use Rattle.nv_schedule.specs.declared.schedule_error.ScheduleError.TheVariants.{Fault, NoMemory, TurnsUsed}
use Rattle.nv_schedule.specs.declared.scheduled.ScheduledCalls.{ScheduledCalls}

-- ---- pass 0 meanwhile

-- Pass 0 owns nothing and has put nothing back, whatever those are at that it has taken in.
pub record IsTaker (mount : MountState) (zero : PassState) : Type 0 where
  pub board : IsOf mount.board zero
  pub number : zero.view.number ≡ 0
  pub left : (pass_of zero.view).left ≡ []
  pub nothing : zero.now ≡ []

-- It made no step of a call or of a batch, has none at hand that it hadn't, and none more that a fault ended; and the parts that have no slot are with it.
pub record IsAside (old new : PassState) : Type 0 where
  pub spare : new.spare ≡ old.spare
  pub mine : (pass_of new.view).mine ≡ (pass_of old.view).mine
  pub deedless : deeds (own 0 new.view.run) ≡ deeds (own 0 old.view.run)
  pub flights : flights_of (pass_of new.view) ≡ flights_of (pass_of old.view)

-- ---- passes that are taken in as they stand

-- A pass was taken in as it stood: it has put back what it owned, and has done nothing else.
pub record IsTakenAsItStood (pass : PassState) (past : Past) : Type 0 where
  pub cells : List (Word × ℕ)
  pub last : PassView
  pub back : PutsBack cells pass.view last
  pub is : past ≡ past_of last

-- so were those of some callers, and no other
abbrev pub AreTakenAsTheyStood : List CallerState → List Past → Type 0
AreTakenAsTheyStood [] [] = Unit {0}
AreTakenAsTheyStood (caller ∷ later) (past ∷ before) = IsTakenAsItStood caller.pass past × AreTakenAsTheyStood later before
AreTakenAsTheyStood callers pasts = ⊥

-- Pass 0 has taken in those of some callers, the first one's last, and was told nothing meanwhile. The run that it has seen then begins with all that it was told before.
pub record HasTakenIn (old new : PassState) (callers : List CallerState) : Type 0 where
  pub aside : IsAside old new
  pub made : made_of new.view ≡ made_of old.view
  pub told : new.view.told ≡ old.view.told
  pub taken : AreTakenAsTheyStood callers new.view.ended
  pub behind : (callers ≡ []) ⊎ AllBegin new.view.told new.view.run

-- ---- what became of calls

-- They are all that some callers have begun.
pub record AreCallsOf (callers : List CallerState) (calls : ScheduledCalls) : Type 0 where
  pub answered : made_calls calls.answered.items ≡ all_listed callers
  pub unanswered : map (λ call. call.now) calls.unanswered.items ≡ all_unanswered callers

-- ---- the run of the mount

-- all calls of a caller, those that were answered first
abbrev pub asked_by : Work → List TracedCall
asked_by (Calls thread) = calls_made thread.made ++ thread.left
asked_by (Batches cleaner) = []

-- By the same pass, and with the same calls, a caller has come to where it is.
pub record HasComeSince (fds : List Fd) (old new : CallerState) : Type 0 where
  pub number : number_of new ≡ number_of old
  pub asked : asked_by new.work ≡ asked_by old.work
  pub come : HasCome fds new.work old.pass new.pass

abbrev pub HaveComeSince : List Fd → (first then_ : List CallerState) → Type 0
HaveComeSince fds first then_ = (i : ℕ) (d : CallerState) → i < length first → HasComeSince fds (slice_index_or first i d) (slice_index_or then_ i d)

-- the history tells of all callers what became of their calls, each by the number of its pass
abbrev pub AreAllTold : List Fd → (first then_ : List CallerState) → List Answered → Type 0
AreAllTold fds first then_ history =
    (i : ℕ) (d : CallerState) → i < length first → IsToldOf fds (number_of (slice_index_or first i d)) (slice_index_or then_ i d) (slice_index_or first i d).pass history

-- The callers of a trace's calls, which had begun nothing, followed a schedule: by the whole of it, or up to a token that used up its advances, or in whose last one a device call has failed before any cut. Then the deeds of the whole run are theirs, in the order of the
-- tokens, one after another with no event between. Their passes were taken in as they stood; their calls are those of the history, and those that are listed as open are the writes in flight. Pass 0 has made none, and no deed.
pub record HasFollowed (mount : MountState) (tokens : List Token) (calls : List TracedCall) (batch : ℕ) (done : Result (Unit {0}) ScheduleError) (then_ : List CallerState) (zero : PassState) : Type 0 where
  pub first : List CallerState
  pub fresh : AreFresh mount first
  pub works : map (λ caller. caller.work) first ≡ works_of calls batch
  pub trail : List Event
  pub ran : RanAs mount tokens first then_ trail done
  pub only : deeds zero.view.run ≡ trail
  pub count : length then_ ≡ length first
  pub come : HaveComeSince mount.fds first then_
  pub taken : AreTakenAsTheyStood then_ zero.view.ended
  pub told : AreAllTold mount.fds first then_ (history_then zero.view)
  pub none : (pass_of zero.view).mine ≡ []
  pub left_open : OpenAreFlights mount.fds then_ zero
  pub number : zero.view.number ≡ 0
  pub deedless : deeds (own 0 zero.view.run) ≡ []

-- Callers that had begun nothing have come to where they are, whatever ended the schedule: those of a trace's calls, or the first ones of them, where there was no memory for more. Their passes were taken in
-- as they stood; their calls are those of the history, and those that are listed as open are the writes in flight. Pass 0 has made none.
pub record HaveCalled (mount : MountState) (calls : List TracedCall) (batch : ℕ) (then_ : List CallerState) (zero : PassState) : Type 0 where
  pub first : List CallerState
  pub fresh : AreFresh mount first
  pub unmade : List Work
  pub works : map (λ caller. caller.work) first ++ unmade ≡ works_of calls batch
  pub count : length then_ ≡ length first
  pub come : HaveComeSince mount.fds first then_
  pub taken : AreTakenAsTheyStood then_ zero.view.ended
  pub told : AreAllTold mount.fds first then_ (history_then zero.view)
  pub none : (pass_of zero.view).mine ≡ []
  pub left_open : OpenAreFlights mount.fds then_ zero

-- What is answered: the calls that were begun; or that a token has used up its advances, or that a device call has failed before any cut. The bench was armed at each cut that was reached: all of them, or those
-- before the token that used up its advances, or none. Where memory is wanting some first tokens were reached, and nothing else is told.
abbrev pub HasTold : MountState → List Token → (calls : List TracedCall) → (batch : ℕ) → (zero : PassState) → (bench armed : BenchState) → Result ScheduledCalls ScheduleError → Type 0
HasTold mount tokens calls batch zero bench armed (Ok told) =
    (then_ : List CallerState) × HasFollowed mount tokens calls batch (Ok tt) then_ zero × AreCallsOf then_ told × IsCutBy tokens bench armed
HasTold mount tokens calls batch zero bench armed (Err TurnsUsed) =
    (then_ : List CallerState) × (followed : HasFollowed mount tokens calls batch (Err TurnsUsed) then_ zero) × IsCutBy followed.ran.before bench armed
HasTold mount tokens calls batch zero bench armed (Err Fault) = (then_ : List CallerState) × HasFollowed mount tokens calls batch (Err Fault) then_ zero × (armed ≡ bench)
HasTold mount tokens calls batch zero bench armed (Err NoMemory) = IsCutBySome tokens bench armed

-- What a pass has seen is a run of the core, from the opening of this mount on, which has as many buffers as its sizes say: each event may come where those before it came, and each word is found as they left it.
-- Each pass that it took in lies in that run with all its events.
pub record HasSeenRunOf (opened : Opened) (zero : PassView) : Type 0 where
  pub mount : IsMount (mount_of opened)
  pub is_run : IsRunOf opened zero.run
  pub joined : (past : Past) → IsOneOf zero.ended past → SeesAll past.number past.run zero.run

-- A schedule over a new mount has come to this, whatever it is answered: the mount is the same, with the same parts, its run is a run of the core, and it has the calls of callers that have come to where they
-- are.
pub record HasScheduled (mount : MountState) (tokens : List Token) (calls : List TracedCall) (batch : ℕ) (start zero : PassState) (bench armed : BenchState) (outcome : Result ScheduledCalls ScheduleError) : Type 0 where
  pub opened : zero.view.opened ≡ start.view.opened
  pub board : IsOf mount.board zero
  pub run : HasSeenRunOf mount.board.opened zero.view
  pub spare : zero.spare ≡ start.spare
  pub called : (then_ : List CallerState) × HaveCalled mount calls batch then_ zero
  pub told : HasTold mount tokens calls batch zero bench armed outcome

-- ---- what is answered

-- of two that may fail
abbrev pub IsOfBoth : (first then_ : Result (Unit {0}) AnyNoMemory) → Result (Unit {0}) AnyNoMemory → Type 0
IsOfBoth (Ok done) then_ result = result ≡ then_
IsOfBoth (Err wanting) then_ result = result ≡ Err wanting

-- the error of a schedule; or that there was no memory to put its calls down; or these
abbrev pub IsToldBy : (ran : Result (Unit {0}) ScheduleError) → (taken : Result (Unit {0}) AnyNoMemory) → ScheduledCalls → Result ScheduledCalls ScheduleError → Type 0
IsToldBy (Err error) taken calls outcome = outcome ≡ Err error
IsToldBy (Ok done) (Err wanting) calls outcome = outcome ≡ Err NoMemory
IsToldBy (Ok done) (Ok noted) calls outcome = outcome ≡ Ok calls

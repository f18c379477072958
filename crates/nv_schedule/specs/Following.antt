-- Following: the advances of callers, token after token.
use Rattle.std.specs.Prelude.{◌≡◌, ◌≢◌, ℕ, ◌<◌, ◌≤◌, zero, suc, Bool, true, false, List, [], ◌∷◌, ◌++◌, length, slice_index_or, slice_set, All, Option, None, Result, Ok, Err}
use Rattle.nv_bench.specs.Benches.{BenchState}
use Rattle.nv_core.specs.steps.Events.{Event}
use Rattle.nv_table.specs.state.States.{IsOf, PassState}
use Rattle.nv_mount.specs.Mounts.{MountState}
use Rattle.nv_mount.specs.declared.fds.Fd.{Fd}
use Rattle.nv_op.specs.declared.kinds.Kind.{Kind}
use Rattle.nv_schedule.specs.Cuts.{IsCutBy, IsCutBySome, cut_behind}
use Rattle.nv_schedule.specs.Faults.{FailOnlyCut, some_fails}
use Rattle.nv_schedule.specs.Orders.{ComeBehind}
use Rattle.nv_schedule.specs.Reaches.{has_come, is_there, place_of}
use Rattle.nv_schedule.specs.Turns.{CallerState, HasCome, HasTurned, has_faulted, next_kind_of}
use Rattle.nv_schedule.specs.declared.schedule_error.ScheduleError.{ScheduleError}
use Rattle.nv_schedule.specs.declared.schedule_error.ScheduleError.TheVariants.{Fault, NoMemory, TurnsUsed}
use Rattle.nv_schedule.specs.declared.turned.Turned.{Turned}
use Rattle.nv_trace.specs.declared.token.Reach.{Reach}
use Rattle.nv_trace.specs.declared.token.Token.{Token}
use Rattle.nv_trace.specs.declared.token.Token.TheVariants.{Advance, Cut}

-- the kind of the next step of the caller at a place; none where there is no caller, or where it has no call left
abbrev pub next_at : List CallerState → (place : ℕ) → Option Kind
next_at [] place = None
next_at (caller ∷ later) zero = next_kind_of caller
next_at (caller ∷ later) (suc place) = next_at later place

-- The caller at a place makes one advance, by these events, and the others stay as they are.
pub record OneTurns (fds : List Fd) (place : ℕ) (answered : Bool) (events : List Event) (old new : List CallerState) : Type 0 where
  pub there : place < length old
  pub caller : CallerState
  pub is : (d : CallerState) → slice_index_or old place d ≡ caller
  pub then_ : CallerState
  pub new_is : new ≡ slice_set old place then_
  pub turned : HasTurned fds answered events caller then_

-- Some advances of the caller at a place, of these events each, after none of which a token has come to its point. As long as no cut was reached, no device call has failed.
abbrev pub FallShort : List Fd → (cut : Bool) → Reach → (place : ℕ) → (callers : List CallerState) → List (List Event) → (then_ : List CallerState) → Type 0
FallShort fds cut reach place callers [] then_ = then_ ≡ callers
FallShort fds cut reach place callers (events ∷ later) then_ =
    (answered : Bool) × (middle : List CallerState) × OneTurns fds place answered events callers middle × FailOnlyCut cut events × (has_come reach answered (next_at middle place) ≡ false)
    × FallShort fds cut reach place middle later then_

-- Such advances, and one more after which it has.
pub record Comes (fds : List Fd) (cut : Bool) (reach : Reach) (place : ℕ) (callers : List CallerState) (advances : List (List Event)) (then_ : List CallerState) : Type 0 where
  pub short : List (List Event)
  pub middle : List CallerState
  pub fell : FallShort fds cut reach place callers short middle
  pub answered : Bool
  pub last : List Event
  pub one : OneTurns fds place answered last middle then_
  pub whole : FailOnlyCut cut last
  pub come : has_come reach answered (next_at then_ place) ≡ true
  pub all : advances ≡ short ++ last ∷ []

-- Or one more in which a device call has failed, before any cut.
pub record Fails (fds : List Fd) (reach : Reach) (place : ℕ) (callers : List CallerState) (advances : List (List Event)) (then_ : List CallerState) : Type 0 where
  pub short : List (List Event)
  pub middle : List CallerState
  pub fell : FallShort fds false reach place callers short middle
  pub answered : Bool
  pub last : List Event
  pub one : OneTurns fds place answered last middle then_
  pub failed : some_fails last ≡ true
  pub all : advances ≡ short ++ last ∷ []

-- the most advances of a token
abbrev pub most_advances : ℕ
most_advances = 100000

-- The advances of a token: none where it is at its point; else as few as come to it, and no more than a token may make.
abbrev pub GoesTo : (there : Bool) → List Fd → (cut : Bool) → Reach → (place : ℕ) → (callers : List CallerState) → List (List Event) → (then_ : List CallerState) → Type 0
GoesTo true fds cut reach place callers advances then_ = (advances ≡ []) × (then_ ≡ callers)
GoesTo false fds cut reach place callers advances then_ = Comes fds cut reach place callers advances then_ × (length advances ≤ most_advances)

-- the events of some advances, one after another
abbrev pub all_events : List (List Event) → List Event
all_events [] = []
all_events (events ∷ later) = events ++ all_events later

-- These events are those of a schedule's tokens, one after another, behind a cut or before any. A cut makes no advance.
abbrev pub Follows : List Fd → (cut : Bool) → List Token → (callers : List CallerState) → List Event → (then_ : List CallerState) → Type 0
Follows fds cut [] callers trail then_ = (trail ≡ []) × (then_ ≡ callers)
Follows fds cut (Cut number ∷ later) callers trail then_ = Follows fds true later callers trail then_
Follows fds cut (Advance turn reach ∷ later) callers trail then_ =
    (advances : List (List Event)) × (middle : List CallerState) × (rest : List Event) × GoesTo (is_there reach (next_at callers (place_of turn))) fds cut reach (place_of turn) callers advances middle
    × (trail ≡ all_events advances ++ rest) × Follows fds cut later middle rest then_

-- Up to a token they follow it; that one isn't at its point, and has made as many advances as it may, which all fell short.
pub record UsesUp (fds : List Fd) (cut : Bool) (tokens : List Token) (callers : List CallerState) (trail : List Event) (then_ : List CallerState) : Type 0 where
  pub before : List Token
  pub turn : Rattle.nv_trace.specs.declared.token.Turn.Turn
  pub reach : Reach
  pub after : List Token
  pub tokens_are : tokens ≡ before ++ Advance turn reach ∷ after
  pub first : List Event
  pub middle : List CallerState
  pub follows : Follows fds cut before callers first middle
  pub far : is_there reach (next_at middle (place_of turn)) ≡ false
  pub advances : List (List Event)
  pub fell : FallShort fds (cut_behind cut before) reach (place_of turn) middle advances then_
  pub count : length advances ≡ most_advances
  pub trail_is : trail ≡ first ++ all_events advances

-- Or a device call has failed in the last of its advances, and no cut was reached.
pub record MeetsFault (fds : List Fd) (cut : Bool) (tokens : List Token) (callers : List CallerState) (trail : List Event) (then_ : List CallerState) : Type 0 where
  pub before : List Token
  pub turn : Rattle.nv_trace.specs.declared.token.Turn.Turn
  pub reach : Reach
  pub after : List Token
  pub tokens_are : tokens ≡ before ++ Advance turn reach ∷ after
  pub uncut : cut_behind cut before ≡ false
  pub first : List Event
  pub middle : List CallerState
  pub follows : Follows fds cut before callers first middle
  pub far : is_there reach (next_at middle (place_of turn)) ≡ false
  pub advances : List (List Event)
  pub fails : Fails fds reach (place_of turn) middle advances then_
  pub few : length advances ≤ most_advances
  pub trail_is : trail ≡ first ++ all_events advances

-- ---- what is told meanwhile

-- each caller is one of the mount, by a pass beside pass 0, and has come to where it is since some start
abbrev pub Stands : MountState → CallerState → Type 0
Stands mount caller = IsOf mount.board caller.pass × (caller.pass.view.number ≢ 0) × (start : PassState) × HasCome mount.fds caller.work start caller.pass

-- no device call has failed in what a caller does at present
abbrev pub IsWell : CallerState → Type 0
IsWell caller = has_faulted caller.work ≡ false

-- The caller at a place makes one advance. Where all are well it tells whether a device call has failed in it, and all are well again where none has.
pub record OneTells (fds : List Fd) (place : ℕ) (turned : Turned) (events : List Event) (old new : List CallerState) : Type 0 where
  pub one : OneTurns fds place turned.answered events old new
  pub failed : All IsWell old → some_fails events ≡ turned.faulted
  pub well : turned.faulted ≡ false → All IsWell old → All IsWell new

-- what became of a token, between two views of the run
abbrev pub TokenTells : List Fd → (cut : Bool) → Reach → (place : ℕ) → (callers then_ : List CallerState) → (view after : List Event) → Result (Unit {0}) ScheduleError → Type 0
TokenTells fds cut reach place callers then_ view after (Ok done) =
    (advances : List (List Event)) × GoesTo (is_there reach (next_at callers place)) fds cut reach place callers advances then_ × ComeBehind (all_events advances) view after
TokenTells fds cut reach place callers then_ view after (Err TurnsUsed) =
    (is_there reach (next_at callers place) ≡ false) × (advances : List (List Event)) × FallShort fds cut reach place callers advances then_ × (length advances ≡ most_advances) × ComeBehind (all_events advances) view after
TokenTells fds cut reach place callers then_ view after (Err Fault) =
    (is_there reach (next_at callers place) ≡ false) × (cut ≡ false) × (advances : List (List Event)) × Fails fds reach place callers advances then_ × (length advances ≤ most_advances) × ComeBehind (all_events advances) view after
TokenTells fds cut reach place callers then_ view after (Err NoMemory) = Unit {0}

-- what became of a schedule, between two views of the run; and the bench was armed at each cut that was reached
abbrev pub ScheduleTells : List Fd → (cut : Bool) → List Token → (callers then_ : List CallerState) → (view after : List Event) → (bench armed : BenchState) → Result (Unit {0}) ScheduleError → Type 0
ScheduleTells fds cut tokens callers then_ view after bench armed (Ok done) =
    (trail : List Event) × Follows fds cut tokens callers trail then_ × ComeBehind trail view after × IsCutBy tokens bench armed
ScheduleTells fds cut tokens callers then_ view after bench armed (Err TurnsUsed) =
    (trail : List Event) × (used : UsesUp fds cut tokens callers trail then_) × ComeBehind trail view after × IsCutBy used.before bench armed
ScheduleTells fds cut tokens callers then_ view after bench armed (Err Fault) =
    (trail : List Event) × MeetsFault fds cut tokens callers trail then_ × ComeBehind trail view after × (armed ≡ bench)
ScheduleTells fds cut tokens callers then_ view after bench armed (Err NoMemory) = IsCutBySome tokens bench armed

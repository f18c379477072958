-- Growing: what advances add to what each caller's pass has in the run.
use Rattle.std.specs.Prelude.{◌≡◌, ◌≢◌, ℕ, ◌<◌, Bool, List, [], ◌++◌, length, slice_index_or}
use Rattle.nv_core.specs.steps.Events.{Event, own}
use Rattle.nv_mount.specs.declared.fds.Fd.{Fd}
use Rattle.nv_schedule.specs.Following.{Follows}
use Rattle.nv_schedule.specs.Orders.{AreDeeds, InTurn, deeds}
use Rattle.nv_schedule.specs.Turns.{CallerState}
use Rattle.nv_trace.specs.declared.token.Token.{Token}

-- the number of a caller's pass, and what that has seen of the run
abbrev pub number_of : CallerState → ℕ
number_of caller = caller.pass.view.number

abbrev pub run_of : CallerState → List Event
run_of caller = caller.pass.view.run

-- no two callers have one pass
abbrev pub AreApart : List CallerState → Type 0
AreApart callers = (i j : ℕ) (d : CallerState) → i < length callers → j < length callers → i ≢ j → number_of (slice_index_or callers i d) ≢ number_of (slice_index_or callers j d)

-- The callers are as many, with the same passes; what each pass has in the run that it has seen grew by its own events among these, and no other pass has any among them.
pub record GrowBy (old new : List CallerState) (trail : List Event) : Type 0 where
  pub count : length new ≡ length old
  pub numbers : (i : ℕ) (d : CallerState) → i < length old → number_of (slice_index_or new i d) ≡ number_of (slice_index_or old i d)
  pub each : (i : ℕ) (d : CallerState) → i < length old
      → own (number_of (slice_index_or old i d)) (run_of (slice_index_or new i d)) ≡ own (number_of (slice_index_or old i d)) (run_of (slice_index_or old i d)) ++ own (number_of (slice_index_or old i d)) trail
  pub others : (number : ℕ) → ((i : ℕ) (d : CallerState) → i < length old → number_of (slice_index_or old i d) ≢ number) → own number trail ≡ []

-- So do they by a schedule that they follow, where no two of them have one pass.
abbrev pub SchedulesGrow : Type 0
SchedulesGrow =
    (fds : List Fd) (cut : Bool) (tokens : List Token) (callers : List CallerState) (trail : List Event) (then_ : List CallerState) → AreApart callers → Follows fds cut tokens callers trail then_ → GrowBy callers then_ trail

-- Where such events stand in a run in their order, and each pass has no other deeds in it, they are its deeds, one after another, with no event between.
abbrev pub TrailsAreDeeds : Type 0
TrailsAreDeeds = (trail run : List Event) → InTurn trail run → AreDeeds trail → ((number : ℕ) → own number trail ≡ deeds (own number run)) → deeds run ≡ trail

-- Played: the advances of actors, token after token.
use Rattle.std.specs.Prelude.{◌≡◌, ℕ, ◌<◌, ◌≤◌, zero, suc, Bool, true, false, List, [], ◌∷◌, ◌++◌, length, slice_index_or, slice_set, Option, None}
use Rattle.nv_core.specs.steps.Events.{Event}
use Rattle.nv_table.specs.state.Opened.{Opened}
use Rattle.nv_mount.specs.declared.fds.Fd.{Fd}
use Rattle.nv_op.specs.declared.kinds.Kind.{Kind}
use Rattle.nv_schedule.specs.Acting.{Acts}
use Rattle.nv_schedule.specs.Actors.{Actor, next_in}
use Rattle.nv_schedule.specs.Cuts.{cut_behind}
use Rattle.nv_schedule.specs.Faults.{FailOnlyCut}
use Rattle.nv_schedule.specs.Following.{all_events, most_advances}
use Rattle.nv_schedule.specs.Reaches.{has_come, is_there, place_of}
use Rattle.nv_trace.specs.declared.token.Reach.{Reach}
use Rattle.nv_trace.specs.declared.token.Token.{Token}
use Rattle.nv_trace.specs.declared.token.Token.TheVariants.{Advance, Cut}
use Rattle.nv_trace.specs.declared.token.Turn.{Turn}

-- the kind of the next step of the actor at a place; none where there is no actor, or where it has no call left
abbrev pub next_at : Opened → List Actor → (place : ℕ) → Option Kind
next_at opened [] place = None
next_at opened (actor ∷ later) zero = next_in opened actor actor.task
next_at opened (actor ∷ later) (suc place) = next_at opened later place

-- The actor at a place makes one advance, by these events, and the others stay as they are.
pub record OneActs (opened : Opened) (fds : List Fd) (place : ℕ) (answered : Bool) (events : List Event) (old new : List Actor) : Type 0 where
  pub there : place < length old
  pub from : Actor
  pub is : (d : Actor) → slice_index_or old place d ≡ from
  pub to : Actor
  pub new_is : new ≡ slice_set old place to
  pub acts : Acts opened fds answered events from to

-- Some advances of a token, of these events each, after none of which it has come to its point. As long as no cut was reached, no device call has failed.
abbrev pub FallShort : Opened → List Fd → (cut : Bool) → Reach → (place : ℕ) → (actors : List Actor) → List (List Event) → (then_ : List Actor) → Type 0
FallShort opened fds cut reach place actors [] then_ = then_ ≡ actors
FallShort opened fds cut reach place actors (events ∷ later) then_ =
    (answered : Bool) × (middle : List Actor) × OneActs opened fds place answered events actors middle × FailOnlyCut cut events × (has_come reach answered (next_at opened middle place) ≡ false)
    × FallShort opened fds cut reach place middle later then_

-- Such advances, and one more after which it has: as few as come to it, and no more than a token may make.
pub record Comes (opened : Opened) (fds : List Fd) (cut : Bool) (reach : Reach) (place : ℕ) (actors : List Actor) (advances : List (List Event)) (then_ : List Actor) : Type 0 where
  pub short : List (List Event)
  pub middle : List Actor
  pub fell : FallShort opened fds cut reach place actors short middle
  pub answered : Bool
  pub last : List Event
  pub one : OneActs opened fds place answered last middle then_
  pub whole : FailOnlyCut cut last
  pub come : has_come reach answered (next_at opened then_ place) ≡ true
  pub all : advances ≡ short ++ last ∷ []
  pub few : length advances ≤ most_advances

-- none where it is at its point
abbrev pub GoesTo : (there : Bool) → Opened → List Fd → (cut : Bool) → Reach → (place : ℕ) → (actors : List Actor) → List (List Event) → (then_ : List Actor) → Type 0
GoesTo true opened fds cut reach place actors advances then_ = (advances ≡ []) × (then_ ≡ actors)
GoesTo false opened fds cut reach place actors advances then_ = Comes opened fds cut reach place actors advances then_

-- These events are those of a schedule's tokens, one after another, behind a cut or before any. A cut makes no advance.
abbrev pub Plays : Opened → List Fd → (cut : Bool) → List Token → (actors : List Actor) → List Event → (then_ : List Actor) → Type 0
Plays opened fds cut [] actors trail then_ = (trail ≡ []) × (then_ ≡ actors)
Plays opened fds cut (Cut number ∷ later) actors trail then_ = Plays opened fds true later actors trail then_
Plays opened fds cut (Advance turn reach ∷ later) actors trail then_ =
    (advances : List (List Event)) × (middle : List Actor) × (rest : List Event) × GoesTo (is_there reach (next_at opened actors (place_of turn))) opened fds cut reach (place_of turn) actors advances middle
    × (trail ≡ all_events advances ++ rest) × Plays opened fds cut later middle rest then_

-- So they are up to a token; that one isn't at its point, and has made as many advances as it may, which all fell short.
pub record PlaysUp (opened : Opened) (fds : List Fd) (tokens : List Token) (actors : List Actor) (trail : List Event) (then_ : List Actor) : Type 0 where
  pub before : List Token
  pub turn : Turn
  pub reach : Reach
  pub after : List Token
  pub tokens_are : tokens ≡ before ++ Advance turn reach ∷ after
  pub first : List Event
  pub middle : List Actor
  pub plays : Plays opened fds false before actors first middle
  pub far : is_there reach (next_at opened middle (place_of turn)) ≡ false
  pub advances : List (List Event)
  pub fell : FallShort opened fds (cut_behind false before) reach (place_of turn) middle advances then_
  pub count : length advances ≡ most_advances
  pub trail_is : trail ≡ first ++ all_events advances

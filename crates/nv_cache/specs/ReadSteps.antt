-- Read steps: what a running read does next and what has come of it so far, and what one step of it is.
use Rattle.std.specs.Prelude.{◌≡◌, ℕ, ◌+◌, ◌*◌, ◌≤◌, ◌==◌, false, if◌then◌else◌, Option, Some, None, option_map, Result, Ok, Err}
use Rattle.nv_plain.specs.declared.call.FileCall.{FileCall}
use Rattle.nv_core.specs.state.Passes.{len_of, page_count}
use Rattle.nv_core.specs.state.Words.{Sizes}
use Rattle.nv_table.specs.state.States.{PassState}
use Rattle.nv_op.specs.declared.kinds.Kind.{Kind}
use Rattle.nv_op.specs.declared.kinds.Kind.TheVariants.{Load as LoadKind, Take as TakeKind}
use Rattle.nv_op.specs.declared.op.Op.{Op}
use Rattle.nv_op.specs.declared.op.Op.TheVariants.{Place}
use Rattle.nv_op.specs.Kinds.{kind_of, kind_of_op}
use Rattle.nv_mirror.specs.declared.answers.Done.{Done}
use Rattle.nv_mirror.specs.declared.answers.Refusal.{Refusal}
use Rattle.nv_mirror.specs.declared.front.FrontMachine.{FrontMachine}
use Rattle.nv_mirror.specs.declared.load.LoadMachine.{LoadMachine}
use Rattle.nv_mirror.specs.declared.pageless.PagelessMachine.{PagelessMachine}
use Rattle.nv_mirror.specs.Answers.{place_in_answer, refusal_in_answer}
use Rattle.nv_mirror.specs.Fronts.{front_op, front_refusal_at}
use Rattle.nv_mirror.specs.Loads.{load_op, load_refusal_at}
use Rattle.nv_mirror.specs.Pageless.{pageless_op, pageless_place_at, pageless_refusal_at}
use Rattle.nv_mirror.specs.PassSteps.{PassStep, HasTaken, device_fault, either_of, fault_in, place_by}
use Rattle.nv_mirror.specs.Releases.{release_op}
use Rattle.nv_cache.specs.declared.read.RunningRead.{RunningRead}
use Rattle.nv_cache.specs.declared.read.RunningRead.TheVariants.{Pageless, Front, Search, Load, TakePlace, Release, Over}
use Rattle.nv_cache.specs.RunningReads.{page_steps, read_measure}
use Rattle.nv_cache.specs.Searches.{search_op}

-- ---- what comes next, and what has come of it

-- its next step, and the kind of that, where no device call before it has failed
abbrev pub read_op : Sizes → RunningRead → Op
read_op sizes (Pageless m) = pageless_op m.control
read_op sizes (Front m) = front_op m
read_op sizes (Search of m) = search_op m
read_op sizes (Load of m) = load_op sizes m false
read_op sizes (TakePlace m) = Place
read_op sizes (Release m copied) = release_op m
read_op sizes (Over result) = Place

abbrev pub read_kind : Sizes → RunningRead → Kind
read_kind sizes read = kind_of (read_op sizes read)

-- what it tells once it has its place: that, and how many bytes are its reply
abbrev pub answer_at : Option ℕ → (len : ℕ) → Option Done
answer_at place len = option_map (λ n. record { place = n; len = len }) place

-- of no bytes
abbrev pub empty_answer : Result ℕ Refusal → Result Done Refusal
empty_answer (Ok place) = Ok record { place = place; len = 0 }
empty_answer (Err refusal) = Err refusal

abbrev pub answer_of : Result Done Refusal → Option Done
answer_of (Ok done) = Some done
answer_of (Err refusal) = None

abbrev pub read_answer : RunningRead → Option Done
read_answer (Pageless m) = answer_at (pageless_place_at m.control) 0
read_answer (Release m copied) = Some record { place = m.place; len = copied }
read_answer (Over result) = answer_of result
read_answer read = None

-- its place, once it has one
abbrev pub read_place : RunningRead → Option ℕ
read_place (Pageless m) = pageless_place_at m.control
read_place (Release m copied) = Some m.place
read_place (Over result) = place_in_answer result
read_place read = None

-- why it is refused, if it is
abbrev pub pageless_refused : PagelessMachine → Option Refusal
pageless_refused m = pageless_refusal_at m.control

abbrev pub front_refused : FrontMachine → Option Refusal
front_refused m = front_refusal_at m.control

abbrev pub load_refused : LoadMachine → Option Refusal
load_refused m = load_refusal_at m.control

abbrev pub read_fault : RunningRead → Option Refusal
read_fault (Pageless m) = device_fault (pageless_refused m)
read_fault (Front m) = device_fault (front_refused m)
read_fault (Load of m) = device_fault (load_refused m)
read_fault (Over result) = device_fault (refusal_in_answer result)
read_fault read = None

-- ---- a step

-- Its pass has made one step, behind the device calls that lie before it. It was of the kind that was said, where none of these has failed; the read has
-- had a fault where it had one before, or one of them has failed; and it has its place where it had one before, or took it by this step.
pub record HasMadeOne (read next : RunningRead) (old new : PassState) : Type 0 where
  pub step : PassStep
  pub taken : HasTaken step old new
  pub kind : fault_in step.works ≡ None → kind_of_op step.op ≡ read_kind old.view.opened.sizes read
  pub fault : read_fault next ≡ either_of (read_fault read) (fault_in step.works)
  pub place : read_place next ≡ either_of (read_place read) (place_by step.op step.found)

-- ---- a read that has made no step

abbrev pub first_kind : (len : ℕ) → Kind
first_kind len = if len == 0 then LoadKind else TakeKind

-- Its first step takes a lock, or, where it has no bytes, loads STOP. Nothing has come of it yet, and no more steps than this may come.
pub record IsFresh (sizes : Sizes) (call : FileCall) (read : RunningRead) : Type 0 where
  pub kind : read_kind sizes read ≡ first_kind (len_of call)
  pub answer : read_answer read ≡ None
  pub fault : read_fault read ≡ None
  pub few : read_measure sizes read ≤ 13 + page_count sizes call * (page_steps sizes + 3)

-- Running writes: a write of a file, from its first step to its end.
use Rattle.std.specs.Prelude.{◌≡◌, ℕ, ◌+◌, ◌-◌, ◌*◌, Bool, true, false, if◌then◌else◌, Option, Some, None, Result, Ok, Err}
use Rattle.nv_plain.specs.declared.call.FileCall.{FileCall}
use Rattle.nv_plain.specs.declared.call.FileCall.TheVariants.{Sync}
use Rattle.nv_core.specs.state.Passes.{is_write}
use Rattle.nv_table.specs.state.States.{PassState}
use Rattle.nv_table.specs.state.Views.{pass_of}
use Rattle.nv_op.specs.declared.asked.Asked.{Asked}
use Rattle.nv_op.specs.declared.asked.Asked.TheVariants.{Write as AsksWrite}
use Rattle.nv_op.specs.Ops.{call_asked}
use Rattle.nv_mirror.specs.declared.answers.Refusal.{Refusal}
use Rattle.nv_mirror.specs.declared.front.FrontMachine.{FrontMachine}
use Rattle.nv_mirror.specs.declared.front.FrontControl.{FrontControl}
use Rattle.nv_mirror.specs.declared.front.FrontControl.TheVariants.{GiveBack, Over as FrontOver}
use Rattle.nv_ring.specs.declared.write.RunningWrite.{RunningWrite}
use Rattle.nv_ring.specs.declared.write.RunningWrite.TheVariants.{Pageless, Front, Draw, Append, Release, Over}
use Rattle.nv_ring.specs.Appends as append
use Rattle.nv_ring.specs.Draws as draw
use Rattle.nv_ring.specs.Draws.{draw_call_of, draw_measure}
use Rattle.nv_ring.specs.Appends.{append_call_of, append_measure}
use Rattle.nv_mirror.specs.Controls.{IsMadeOver, asked_at}
use Rattle.nv_mirror.specs.Fronts as front
use Rattle.nv_mirror.specs.Fronts.{front_call_of, front_measure_at}
use Rattle.nv_mirror.specs.Pageless as pageless
use Rattle.nv_mirror.specs.Pageless.{pageless_measure}
use Rattle.nv_mirror.specs.Releases as release
use Rattle.nv_mirror.specs.Releases.{release_call_of, release_measure}

abbrev pub AsksForWrite : Asked → Type 0
AsksForWrite (AsksWrite file at bytes) = Unit {0}
AsksForWrite asked = ⊥

-- the refusal and the place in what came of it
abbrev pub refusal_of : Result ℕ Refusal → Option Refusal
refusal_of (Ok place) = None
refusal_of (Err refusal) = Some refusal

abbrev pub place_of : Result ℕ Refusal → Option ℕ
place_of (Ok place) = Some place
place_of (Err refusal) = None

-- What is made as its call has made some steps since a start, or is over.
abbrev pub IsUnderWay : FileCall → RunningWrite → (start now : PassState) → Type 0
IsUnderWay call (Pageless m) start now = (call_asked m.asked ≡ call) × pageless.IsUnderWay m start now
IsUnderWay call (Front m) start now = (front_call_of m ≡ call) × (is_write (front_call_of m) ≡ true) × front.IsUnderWay m start now
IsUnderWay call (Draw m) start now = (draw_call_of m ≡ call) × draw.IsUnderWay m start now
IsUnderWay call (Append m) start now = (append_call_of m ≡ call) × append.IsUnderWay m start now
IsUnderWay call (Release m) start now = (release_call_of m ≡ call) × release.IsUnderWay m start now
IsUnderWay call (Over result) start now = IsMadeOver call (refusal_of result) (place_of result) start now

-- The plain call that it is made as.
abbrev pub made_call : RunningWrite → FileCall
made_call (Pageless m) = call_asked m.asked
made_call (Front m) = front_call_of m
made_call (Draw m) = draw_call_of m
made_call (Append m) = append_call_of m
made_call (Release m) = release_call_of m
made_call (Over result) = Sync 0

-- What its call is asked as, once it has begun, or will be.
abbrev pub asked_in : (asked : FileCall) → RunningWrite → (now : PassState) → FileCall
asked_in asked (Pageless m) now = asked_at asked (pageless.has_begun m.control) now
asked_in asked (Front m) now = asked_at asked (front.has_begun m.control) now
asked_in asked write now = (pass_of now.view).asked

-- A step is next in its part, or the whole is over.
abbrev pub IsSettled : RunningWrite → Type 0
IsSettled (Pageless m) = pageless.IsOpen m.control
IsSettled (Front m) = front.IsOpen m.control
IsSettled (Draw m) = draw.IsOpen m.control
IsSettled (Append m) = append.IsOpen m.control
IsSettled (Release m) = release.IsOpen m.control
IsSettled (Over result) = Unit {0}

abbrev pub IsOpen : RunningWrite → Type 0
IsOpen (Over result) = ⊥
IsOpen write = IsSettled write

-- ---- how many steps may still come

-- behind the draw for so many pages: their append, and what is given back
abbrev pub behind_draw : (pages : ℕ) → ℕ
behind_draw pages = 2 + 3 * pages + (3 + pages)

-- a front goes back, or is over
abbrev pub is_back : FrontControl → Bool
is_back (GiveBack size refusal) = true
is_back (FrontOver refusal) = true
is_back control = false

abbrev pub front_part : FrontMachine → FrontControl → ℕ
front_part m control = front_measure_at m control + (if is_back control then 0 else 4 + behind_draw (m.last - m.first))

abbrev pub write_measure : RunningWrite → ℕ
write_measure (Pageless m) = pageless_measure m.control
write_measure (Front m) = front_part m m.control
write_measure (Draw m) = draw_measure m + behind_draw m.pages
write_measure (Append m) = append_measure m + (3 + m.pages)
write_measure (Release m) = release_measure m
write_measure (Over result) = 0

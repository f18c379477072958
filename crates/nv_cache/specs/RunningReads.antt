-- Running reads: a read of a file, from its first step to its end.
use Rattle.std.specs.Prelude.{◌≡◌, ℕ, ◌+◌, ◌-◌, ◌*◌, ◌^◌, Bool, true, false, if◌then◌else◌, List, length}
use Rattle.nv_plain.specs.declared.call.FileCall.{FileCall}
use Rattle.nv_plain.specs.declared.call.FileCall.TheVariants.{Read, Sync}
use Rattle.nv_core.specs.state.Passes.{at_of, file_of}
use Rattle.nv_core.specs.state.Words.{Sizes}
use Rattle.nv_table.specs.state.States.{PassState}
use Rattle.nv_table.specs.state.Views.{pass_of}
use Rattle.nv_op.specs.Ops.{call_asked}
use Rattle.nv_mirror.specs.declared.front.FrontControl.{FrontControl}
use Rattle.nv_mirror.specs.declared.front.FrontControl.TheVariants.{GiveBack, Over as FrontOver}
use Rattle.nv_mirror.specs.declared.front.FrontMachine.{FrontMachine}
use Rattle.nv_mirror.specs.declared.visit.VisitControl.TheVariants as visits
use Rattle.nv_mirror.specs.declared.visit.VisitMachine.{VisitMachine}
use Rattle.nv_mirror.specs.Answers.{HasTold, IsListPlaced, place_in_answer, refusal_in_answer}
use Rattle.nv_mirror.specs.Controls.{IsMadeOver, asked_at}
use Rattle.nv_mirror.specs.Fronts as front
use Rattle.nv_mirror.specs.Fronts.{front_call_of, front_measure_at}
use Rattle.nv_mirror.specs.Loads as load
use Rattle.nv_mirror.specs.Loads.{is_laid, load_measure}
use Rattle.nv_mirror.specs.Pageless as pageless
use Rattle.nv_mirror.specs.Pageless.{pageless_measure}
use Rattle.nv_mirror.specs.Releases as release
use Rattle.nv_mirror.specs.Releases.{release_call_of, release_measure}
use Rattle.nv_mirror.specs.Visits as visit
use Rattle.nv_mirror.specs.Visits.{Carries, IsLoadOf, load_of, visit_call_of}
use Rattle.nv_cache.specs.declared.read.RunningRead.{RunningRead}
use Rattle.nv_cache.specs.declared.read.RunningRead.TheVariants.{Pageless, Front, Search, Load, TakePlace, Release, Over}
use Rattle.nv_cache.specs.declared.search.SearchMachine.{SearchMachine}
use Rattle.nv_cache.specs.Searches as search
use Rattle.nv_cache.specs.Searches.{search_measure}
use Rattle.nv_cache.specs.Ways.{search_for}

-- ---- where it stands

-- the search is one for the page that the read misses, wherever it stands
abbrev pub IsSearchOf : SearchMachine → VisitMachine → Type 0
IsSearchOf m visit = m ≡ record (search_for (load_of visit) visit.from) { tries = m.tries; control = m.control }

-- What is made as its call has made some steps since a start, or is over; the bytes of the page that it loads lie in a room, as far as it has them.
abbrev pub StandsAt : FileCall → RunningRead → (list room : List ℕ) → (start now : PassState) → Type 0
StandsAt call (Pageless m) list room start now = (call_asked m.asked ≡ call) × pageless.IsUnderWay m start now
StandsAt call (Front m) list room start now = (front_call_of m ≡ call) × front.IsUnderWay m start now
StandsAt call (Search of m) list room start now = (visit_call_of of ≡ call) × visit.Fits now.view.opened.sizes of × IsSearchOf m of × search.IsUnderWay m start now × Carries of list now
StandsAt call (Load of m) list room start now = (visit_call_of of ≡ call) × visit.Fits now.view.opened.sizes of × IsLoadOf m of × load.IsUnderWay m room start now × Carries of list now
StandsAt call (TakePlace m) list room start now = (visit_call_of m ≡ call) × (m.control ≡ visits.TakePlace) × visit.IsUnderWay m list start now
StandsAt call (Release m copied) list room start now =
    (release_call_of m ≡ call) × release.IsUnderWay m start now × IsListPlaced (pass_of now.view).asked list start.view now.view record { place = m.place; len = copied }
StandsAt call (Over result) list room start now =
    IsMadeOver call (refusal_in_answer result) (place_in_answer result) start now × HasTold (pass_of now.view).asked list start.view now.view result

-- The plain call that it is made as.
abbrev pub made_call : RunningRead → FileCall
made_call (Pageless m) = call_asked m.asked
made_call (Front m) = front_call_of m
made_call (Search of m) = visit_call_of of
made_call (Load of m) = visit_call_of of
made_call (TakePlace m) = visit_call_of m
made_call (Release m copied) = release_call_of m
made_call (Over result) = Sync 0

-- What its call is asked as, once it has begun, or will be.
abbrev pub asked_in : (asked : FileCall) → RunningRead → (now : PassState) → FileCall
asked_in asked (Pageless m) now = asked_at asked (pageless.has_begun m.control) now
asked_in asked (Front m) now = asked_at asked (front.has_begun m.control) now
asked_in asked read now = (pass_of now.view).asked

-- A read of a call is under way, or over, whose list has as many bytes as the call asks for.
pub record IsUnderWay (call : FileCall) (read : RunningRead) (list room : List ℕ) (start now : PassState) : Type 0 where
  pub asks : call ≡ Read (file_of call) (at_of call) (length list)
  pub stands : StandsAt call read list room start now

-- A step is next in its part, or the whole is over.
abbrev pub IsSettled : RunningRead → Type 0
IsSettled (Pageless m) = pageless.IsOpen m.control
IsSettled (Front m) = front.IsOpen m.control
IsSettled (Search of m) = search.IsOpen m.control
IsSettled (Load of m) = load.IsOpen m.control
IsSettled (TakePlace m) = Unit {0}
IsSettled (Release m copied) = release.IsOpen m.control
IsSettled (Over result) = Unit {0}

abbrev pub IsOpen : RunningRead → Type 0
IsOpen (Over result) = ⊥
IsOpen read = IsSettled read

-- ---- the rooms that it is lent

-- It is at the load of a page, and needs room for the page and for a piece of it.
abbrev pub needs_rooms : RunningRead → Bool
needs_rooms (Load of m) = true
needs_rooms read = false

-- each has as many bytes as a page
abbrev pub AreRooms : Sizes → (room piece : List ℕ) → Type 0
AreRooms sizes room piece = (length room ≡ sizes.page) × (length piece ≡ sizes.page)

-- the bytes of a page lie in the room
abbrev pub holds_page : RunningRead → Bool
holds_page (Load of m) = is_laid m.control
holds_page read = false

-- ---- how many steps may still come

-- a search for a buffer, and the load of the page
abbrev pub search_steps : Sizes → ℕ
search_steps sizes = 8 * sizes.buffers + 1

abbrev pub load_steps : ℕ
load_steps = 3 * 2 ^ 64 + 7

abbrev pub page_steps : Sizes → ℕ
page_steps sizes = search_steps sizes + load_steps

-- its place, and then what is given back
abbrev pub end_steps : (pages : ℕ) → ℕ
end_steps pages = 3 + pages

-- so many pages are looked at first
abbrev pub visit_steps : Sizes → (pages left : ℕ) → ℕ
visit_steps sizes pages left = page_steps sizes * left + end_steps pages

abbrev pub pages_left : VisitMachine → ℕ
pages_left m = m.first + m.pages - m.page

-- a front goes back, or is over
abbrev pub is_back : FrontControl → Bool
is_back (GiveBack size refusal) = true
is_back (FrontOver refusal) = true
is_back control = false

abbrev pub front_part : Sizes → FrontMachine → FrontControl → ℕ
front_part sizes m control = front_measure_at m control + (if is_back control then 0 else visit_steps sizes (m.last - m.first) (m.last - m.first))

abbrev pub read_measure : Sizes → RunningRead → ℕ
read_measure sizes (Pageless m) = pageless_measure m.control
read_measure sizes (Front m) = front_part sizes m m.control
read_measure sizes (Search of m) = search_measure sizes m + load_steps + visit_steps sizes of.pages (pages_left of - 1)
read_measure sizes (Load of m) = load_measure m + visit_steps sizes of.pages (pages_left of - 1)
read_measure sizes (TakePlace m) = end_steps m.pages
read_measure sizes (Release m copied) = release_measure m
read_measure sizes (Over result) = 0

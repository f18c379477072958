-- Drawn: the first number of a pass's open or faulted write, and what a step makes of it.
use Rattle.std.specs.Prelude.{◌≡◌, ℕ, ◌==◌, Bool, if◌then◌else◌, List, [], ◌∷◌, Option, Some, None}
use Rattle.nv_plain.specs.declared.call.FileCall.{FileCall}
use Rattle.nv_core.specs.state.Passes.{Fault, Pass, Control, SeizeEntry, CommitGroup, PledgePage, ReadyEntry, TakePlace, SetStopAfterCommit, is_write}
use Rattle.nv_core.specs.state.Cleaner as cleaner
use Rattle.nv_core.specs.steps.Ops.{Op, Draw, Place, Stop, ByCleaner}
use Rattle.nv_table.specs.state.Opened.{Opened}
use Rattle.nv_table.specs.state.Views.{Past, PassView, pass_of, past_pass}
use Rattle.nv_table.specs.declared.acting.Change.{Change}
use Rattle.nv_table.specs.declared.acting.Change.TheVariants.{Exchange}
use Rattle.nv_table.specs.declared.stepping.Marks.{Marks}
use Rattle.nv_table.specs.declared.stepping.Marks.TheVariants.{Nothing, Draws as DrawsNumbers, Places as TakesPlace, Stops as EndsCall}

-- the first number of the last write that ended by a fault
abbrev pub lost_of : List Fault → Option ℕ
lost_of [] = None
lost_of (fault ∷ before) = if is_write fault.call then Some fault.first else lost_of before

-- By where a pass stands: of a write that has drawn its numbers and has no place yet, the first one; else that of the last faulted one.
abbrev pub drawn_at : (first : ℕ) (write : Bool) (lost : Option ℕ) → Control → Option ℕ
drawn_at first write lost (SeizeEntry number) = Some first
drawn_at first write lost (CommitGroup calls) = Some first
drawn_at first write lost (PledgePage page) = Some first
drawn_at first write lost (ReadyEntry number) = Some first
drawn_at first write lost TakePlace = if write then Some first else lost
drawn_at first write lost SetStopAfterCommit = Some first
drawn_at first write lost control = lost

-- the first number of its open write, or else of its faulted one
abbrev pub drawn_of : Pass → Option ℕ
drawn_of pass = drawn_at pass.first (is_write pass.call) (lost_of pass.faulted) pass.control

-- ---- and of those that it took in

-- the one, or else the other
abbrev pub or_else : Option ℕ → Option ℕ → Option ℕ
or_else (Some number) other = Some number
or_else None other = other

-- that of the last one that has an open or faulted write
abbrev pub inherited_of : Opened → List Past → Option ℕ
inherited_of opened [] = None
inherited_of opened (past ∷ before) = or_else (drawn_of (past_pass opened past)) (inherited_of opened before)

-- its own, or else that of those that it took in
abbrev pub drawn_by : PassView → Option ℕ
drawn_by view = or_else (drawn_of (pass_of view)) (inherited_of view.opened view.ended)

-- ---- what a step makes of them

abbrev pub marks_of : Option FileCall → Op → Marks
marks_of (Some call) op = Nothing
marks_of None Draw = DrawsNumbers
marks_of None (Place reply) = TakesPlace
marks_of None Stop = EndsCall
marks_of None (ByCleaner cleaner.Stop) = EndsCall
marks_of None op = Nothing

-- A draw is an exchange from HEAD as the pass saw it last.
abbrev pub IsFromHead : Marks → Change → (head : ℕ) → Type 0
IsFromHead DrawsNumbers (Exchange old new) head = old ≡ head
IsFromHead DrawsNumbers change head = ⊥
IsFromHead marks change head = Unit {0}

-- both after the step, by what they were and what the word was found as
abbrev pub drawn_then : Marks → Change → (found : ℕ) → (drawn lost : Option ℕ) → Option ℕ
drawn_then DrawsNumbers (Exchange old new) found drawn lost = if found == old then Some found else drawn
drawn_then TakesPlace change found drawn lost = lost
drawn_then marks change found drawn lost = drawn

abbrev pub lost_then : Marks → (drawn lost : Option ℕ) → Option ℕ
lost_then EndsCall drawn lost = drawn
lost_then marks drawn lost = lost

-- Machines: a running write stands with its list put in and taken out where it stood, and an advance goes on from there.
use Rattle.std.proofs.Common.{◌≡◌, ℕ, ◌<◌, ◌≤◌, true, false, List, length, refl, sym, ap, subst, ◌∙◌, arith}
use Rattle.std.specs.Prelude.{None, Ok, Err}
use Rattle.std.specs.Borrow.{Bor}
use Rattle.std.specs.List.{concat}
use Rattle.nv_plain.specs.Modes.{can_write}
use Rattle.nv_plain.specs.declared.call.FileCall.{FileCall}
use Rattle.nv_plain.specs.declared.call.FileCall.TheVariants.{Write}
use Rattle.nv_core.specs.state.Words.{Sizes}
use Rattle.nv_table.specs.state.States.{PassState}
use Rattle.nv_mount.specs.declared.fds.Fd.{Fd}
use Rattle.nv_op.specs.declared.asked.Asked.{Asked}
use Rattle.nv_op.specs.declared.asked.Asked.TheVariants.{Read as AsksRead, Write as AsksWrite, Sync as AsksSync}
use Rattle.nv_op.specs.Ops.{asked_with}
use Rattle.nv_ring.specs.declared.numbers.DrawControl.{DrawControl}
use Rattle.nv_ring.specs.declared.numbers.DrawControl.TheVariants as draws
use Rattle.nv_ring.specs.declared.numbers.DrawMachine.{DrawMachine}
use Rattle.nv_ring.specs.declared.append.AppendMachine.{AppendMachine}
use Rattle.nv_ring.specs.declared.append.AppendControl.{AppendControl}
use Rattle.nv_ring.specs.declared.append.AppendControl.TheVariants.{Appended, Refused}
use Rattle.nv_ring.specs.declared.append.AppendControl.TheVariants as appends
use Rattle.nv_mirror.specs.declared.front.FrontMachine.{FrontMachine}
use Rattle.nv_mirror.specs.declared.front.FrontControl.{FrontControl}
use Rattle.nv_mirror.specs.declared.front.FrontControl.TheVariants.{Passed, Over as FrontOver}
use Rattle.nv_mirror.specs.declared.front.FrontControl.TheVariants as fronts
use Rattle.nv_mirror.specs.declared.release.ReleaseMachine.{ReleaseMachine}
use Rattle.nv_mirror.specs.declared.release.ReleaseControl.{ReleaseControl}
use Rattle.nv_mirror.specs.declared.release.ReleaseControl.TheVariants as releases
use Rattle.nv_ring.specs.declared.write.RunningWrite.{RunningWrite}
use Rattle.nv_ring.specs.declared.write.RunningWrite.TheVariants.{Pageless, Front, Draw, Append, Release, Over}
use Rattle.nv_ring.specs.RunningWrites.{IsOpen, IsSettled, IsUnderWay, write_measure}
use Rattle.nv_ring.proofs.AskedLaws.{asked_with_list}
use Rattle.nv_ring.proofs.ListLaws.{list_way}
use Rattle.nv_calls.proofs.calls.OverLaws.{over_asked}
use Rattle.nv_mirror.specs.PassSteps.{either_of, fault_in, place_by}
use Rattle.nv_ring.specs.WriteSteps.{HasMadeOne, with_list, write_fault, write_kind, write_place}
use Rattle.nv_calls.specs.calls.Advances.{IsFewer, IsOneStep}
use Rattle.nv_calls.specs.calls.Asks.{asks_writev}
use Rattle.nv_calls.specs.declared.writing.WriteControl.TheVariants as writes
use Rattle.nv_calls.specs.declared.writing.WriteMachine.{WriteMachine}
use Rattle.nv_calls.specs.calls.EarlyRefusals.{early_refusal}
use Rattle.nv_calls.specs.calls.EndedCalls.{IsCallOver}
use Rattle.nv_calls.specs.fsync.SyncRuns.{file_of_fd}
use Rattle.nv_calls.specs.writes.WriteMachines.{IsOfFile, IsPutInAs, IsWriteUnderWayAs, StandsAt, WriteGoesAs, fault_at, kind_at, measure, measure_at, place_at, progress_of, standing}

-- ---- the list is put in and taken out

-- It stands where it stood.
pub record StandsSame (write other : RunningWrite) : Type 0 where
  pub kind : write_kind other ≡ write_kind write
  pub place : write_place other ≡ write_place write
  pub fault : write_fault other ≡ write_fault write
  pub measure : write_measure other ≡ write_measure write

module _ (list : Bor (List ℕ)) where
  front_same : (m : FrontMachine) (control : FrontControl) → StandsSame (Front (record m { control = control })) (Front (record m { control = control; asked = asked_with list m.asked }))
  front_same m fronts.Begin = record { kind = refl; place = refl; fault = refl; measure = refl }
  front_same m fronts.TakePage = record { kind = refl; place = refl; fault = refl; measure = refl }
  front_same m fronts.LoadLength = record { kind = refl; place = refl; fault = refl; measure = refl }
  front_same m fronts.TakeSize = record { kind = refl; place = refl; fault = refl; measure = refl }
  front_same m fronts.LoadStop = record { kind = refl; place = refl; fault = refl; measure = refl }
  front_same m fronts.LoadOrder = record { kind = refl; place = refl; fault = refl; measure = refl }
  front_same m Passed = record { kind = refl; place = refl; fault = refl; measure = refl }
  front_same m (fronts.GiveBack true refusal) = record { kind = refl; place = refl; fault = refl; measure = refl }
  front_same m (fronts.GiveBack false refusal) = record { kind = refl; place = refl; fault = refl; measure = refl }
  front_same m (FrontOver refusal) = record { kind = refl; place = refl; fault = refl; measure = refl }

  draw_same : (m : DrawMachine) (control : DrawControl) → StandsSame (Draw (record m { control = control })) (Draw (record m { control = control; bytes = list }))
  draw_same m draws.LoadHead = record { kind = refl; place = refl; fault = refl; measure = refl }
  draw_same m draws.LoadTail = record { kind = refl; place = refl; fault = refl; measure = refl }
  draw_same m draws.DrawNumbers = record { kind = refl; place = refl; fault = refl; measure = refl }
  draw_same m draws.Drawn = record { kind = refl; place = refl; fault = refl; measure = refl }
  draw_same m (draws.Refused refusal) = record { kind = refl; place = refl; fault = refl; measure = refl }

  append_same : (m : AppendMachine) (control : AppendControl) → StandsSame (Append (record m { control = control })) (Append (record m { control = control; bytes = list }))
  append_same m (appends.SeizeEntry seized) = record { kind = refl; place = refl; fault = refl; measure = refl }
  append_same m appends.CommitGroup = record { kind = refl; place = refl; fault = refl; measure = refl }
  append_same m (appends.PledgePage pledged) = record { kind = refl; place = refl; fault = refl; measure = refl }
  append_same m (appends.ReadyEntry ready) = record { kind = refl; place = refl; fault = refl; measure = refl }
  append_same m appends.TakePlace = record { kind = refl; place = refl; fault = refl; measure = refl }
  append_same m appends.GrowLength = record { kind = refl; place = refl; fault = refl; measure = refl }
  append_same m (appends.BreakEntry broken) = record { kind = refl; place = refl; fault = refl; measure = refl }
  append_same m Appended = record { kind = refl; place = refl; fault = refl; measure = refl }
  append_same m (Refused refusal) = record { kind = refl; place = refl; fault = refl; measure = refl }

  release_same : (m : ReleaseMachine) (control : ReleaseControl) → StandsSame (Release (record m { control = control })) (Release (record m { control = control; asked = asked_with list m.asked }))
  release_same m releases.GiveSize = record { kind = refl; place = refl; fault = refl; measure = refl }
  release_same m (releases.GivePage given) = record { kind = refl; place = refl; fault = refl; measure = refl }
  release_same m releases.Over = record { kind = refl; place = refl; fault = refl; measure = refl }

  pub list_same : (write : RunningWrite) → StandsSame write (with_list list write)
  list_same (Pageless m) = record { kind = refl; place = refl; fault = refl; measure = refl }
  list_same (Front m) = front_same m m.control
  list_same (Draw m) = draw_same m m.control
  list_same (Append m) = append_same m m.control
  list_same (Release m) = release_same m m.control
  list_same (Over result) = record { kind = refl; place = refl; fault = refl; measure = refl }

  pub list_open : (write : RunningWrite) → IsOpen write → IsOpen (with_list list write)
  list_open (Pageless m) runs = runs
  list_open (Front m) runs = runs
  list_open (Draw m) runs = runs
  list_open (Append m) runs = runs
  list_open (Release m) runs = runs
  list_open (Over result) runs = runs

-- A list takes the place of the one before it.
asked_twice : (list other : Bor (List ℕ)) (asked : Asked) → asked_with list (asked_with other asked) ≡ asked_with list asked
asked_twice list other (AsksWrite file at bytes) = refl
asked_twice list other (AsksRead file at len) = refl
asked_twice list other (AsksSync file) = refl

list_twice : (list other : Bor (List ℕ)) (write : RunningWrite) → with_list list (with_list other write) ≡ with_list list write
list_twice list other (Pageless m) = ap (λ asked. Pageless (record m { asked = asked })) (asked_twice list other m.asked)
list_twice list other (Front m) = ap (λ asked. Front (record m { asked = asked })) (asked_twice list other m.asked)
list_twice list other (Draw m) = refl
list_twice list other (Append m) = refl
list_twice list other (Release m) = ap (λ asked. Release (record m { asked = asked })) (asked_twice list other m.asked)
list_twice list other (Over result) = refl

-- A write is under way with any list of its bytes, whichever it had before.
lent_on : (list other : Bor (List ℕ)) (file at : ℕ) (start now : PassState) (write : RunningWrite) → IsUnderWay (Write file at list.now) (with_list other write) start now
    → IsUnderWay (Write file at list.now) (with_list list write) start now
lent_on list other file at start now write way =
    subst (λ w. IsUnderWay (Write file at list.now) w start now) (list_twice list other write) (list_way list file at start now (with_list other write) way)

-- ---- an advance goes on

-- a machine whose write is so, with the list taken out
abbrev pub kept : WriteMachine → (other : Bor (List ℕ)) → RunningWrite → WriteMachine
kept m other write = record m { control = writes.Running (with_list other write) }

module _ (asked : ℕ → FileCall) (fds : List Fd) (m : WriteMachine) (list other : Bor (List ℕ)) (room : length list.now ≡ m.len) (start now : PassState) where
  runs_on : (write : RunningWrite) → IsOpen write → IsOfFile asked fds m list.now write start now → IsWriteUnderWayAs asked fds (kept m other write) list.now start now
  runs_on write runs of = record {
    room = room;
    stands = (
      list_open other write runs,
      list,
      record {
        early = of.early;
        file = of.file;
        file_is = of.file_is;
        asks = asked_with_list (asked of.file) list (with_list other write) now ∙ asked_with_list (asked of.file) other write now ∙ of.asks;
        way = subst (λ w. IsUnderWay (Write of.file m.at list.now) w start now) (sym (list_twice list other write)) (list_way list of.file m.at start now write of.way);
      },
    );
  }

  early_here : (write : RunningWrite) → IsOfFile asked fds m list.now write start now → early_refusal can_write start.view.opened.sizes fds m.fd m.at (length list.now) ≡ None
  early_here write of = ap (early_refusal can_write start.view.opened.sizes fds m.fd m.at) room ∙ of.early

  -- it goes on, or has told what a whole write tells
  pub goes_on : (write : RunningWrite) → IsSettled write → IsOfFile asked fds m list.now write start now → WriteGoesAs asked fds start (kept m other write) list.now now (progress_of m.len write)
  goes_on (Pageless part) runs of = runs_on (Pageless part) runs of
  goes_on (Front part) runs of = runs_on (Front part) runs of
  goes_on (Draw part) runs of = runs_on (Draw part) runs of
  goes_on (Append part) runs of = runs_on (Append part) runs of
  goes_on (Release part) runs of = runs_on (Release part) runs of
  goes_on (Over (Ok place)) runs of = (
    refl,
    refl,
    subst (λ by. IsCallOver by (file_of_fd fds m.fd) asked start now (Ok record { place = place; len = m.len })) (sym (early_here (Over (Ok place)) of)) (of.file, of.file_is, over_asked _ _ _ start now (asked of.file) of.way of.asks),
  )
  goes_on (Over (Err refusal)) runs of = (
    refl,
    refl,
    subst (λ by. IsCallOver by (file_of_fd fds m.fd) asked start now (Err refusal)) (sym (early_here (Over (Err refusal)) of)) (of.file, of.file_is, over_asked _ _ _ start now (asked of.file) of.way of.asks),
  )

-- so a vectored write, of whose parts the list is joined
pub goes_on_parts : (fds : List Fd) (m : WriteMachine) (list other : Bor (List ℕ)) (parts : List (List ℕ)) → list.now ≡ concat parts → length list.now ≡ m.len → (start now : PassState) (write : RunningWrite) → IsSettled write
    → IsOfFile (asks_writev m.at parts) fds m list.now write start now → WriteGoesAs (asks_writev m.at parts) fds start (kept m other write) (concat parts) now (progress_of m.len write)
goes_on_parts fds m list other parts joined room start now write settled of =
    subst (λ l. WriteGoesAs (asks_writev m.at parts) fds start (kept m other write) l now (progress_of m.len write)) joined (goes_on (asks_writev m.at parts) fds m list other room start now write settled of)

-- by fewer steps
module _ (sizes : Sizes) (m : WriteMachine) (other : Bor (List ℕ)) (before : ℕ) (within : before ≤ measure sizes m) where
  less : (write : RunningWrite) → write_measure write < before → write_measure (with_list other write) < measure sizes m
  less write falls = let same = (list_same other write).measure in omega (arith, same, falls, within)

  pub fewer : (write : RunningWrite) → write_measure write < before → IsFewer (measure sizes) m (kept m other write) (progress_of m.len write)
  fewer (Pageless part) falls = less (Pageless part) falls
  fewer (Front part) falls = less (Front part) falls
  fewer (Draw part) falls = less (Draw part) falls
  fewer (Append part) falls = less (Append part) falls
  fewer (Release part) falls = less (Release part) falls
  fewer (Over (Ok place)) falls = tt
  fewer (Over (Err refusal)) falls = tt

-- its step is the write's
pub steps_on : (sizes : Sizes) (fds : List Fd) (m : WriteMachine) (list other : Bor (List ℕ)) (first write : RunningWrite) (old new : PassState) → IsPutInAs sizes fds m list.now first → HasMadeOne first write old new
    → IsOneStep (standing m) (standing (kept m other write)) old new
steps_on sizes fds m list other first write old new put is = record {
  step = is.step;
  is = is.taken;
  kind = λ well. is.kind well ∙ put.kind;
  fault = (list_same other write).fault ∙ is.fault ∙ ap (λ fault. either_of fault (fault_in is.step.works)) put.fault;
  place = (list_same other write).place ∙ is.place ∙ ap (λ place. either_of place (place_by is.step.op is.step.found)) put.place;
}

-- ---- where it is put in

module _ (sizes : Sizes) (fds : List Fd) (m : WriteMachine) (list : Bor (List ℕ)) (room : length list.now ≡ m.len) where
  pub puts_running : (write : RunningWrite) → m.control ≡ writes.Running write → IsOpen write → IsPutInAs sizes fds m list.now (with_list list write)
  puts_running write is runs = record {
    more = list_open list write runs;
    kind = (list_same list write).kind ∙ ap (kind_at m.len) (sym is);
    place = (list_same list write).place ∙ ap place_at (sym is);
    fault = (list_same list write).fault ∙ ap fault_at (sym is);
    fewer = let same = (list_same list write).measure ∙ ap (measure_at sizes m) (sym is) in omega (arith, same);
    way = λ asked start now same way. let stands = subst (StandsAt asked fds m list.now start now) is way.stands in let of = stands.2 in
        record {
          early = of.early;
          file = of.file;
          file_is = of.file_is;
          asks = asked_with_list (asked of.file) list write now ∙ sym (asked_with_list (asked of.file) stands.1 write now) ∙ of.asks;
          way = lent_on list stands.1 of.file m.at start now write of.way;
        };
  }

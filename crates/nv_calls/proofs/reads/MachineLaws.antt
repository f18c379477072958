-- Machines: an advance of a read goes on from where its machine stood.
use Rattle.std.proofs.Common.{◌≡◌, ℕ, List, ◌++◌, length, take, refl, sym, ap, subst, ◌∙◌}
use Rattle.std.proofs.Math.Seq.{take-append_seam}
use Rattle.std.specs.List.{sum}
use Rattle.std.specs.Prelude.{Option, Some, None, option_map, Result, Ok, Err}
use Rattle.nv_plain.specs.Modes.{can_read}
use Rattle.nv_plain.specs.declared.call.FileCall.{FileCall}
use Rattle.nv_plain.specs.declared.call.FileCall.TheVariants.{Read, Readv}
use Rattle.nv_core.specs.invariant.InvariantLaws.{RunsAreSound}
use Rattle.nv_core.specs.state.Passes.{len_of, plain_call}
use Rattle.nv_core.specs.steps.Frames.{OwnEventsTell}
use Rattle.nv_core.specs.steps.Opening.{IsMount}
use Rattle.nv_table.specs.state.Opened.{Opened, mount_of}
use Rattle.nv_table.specs.state.States.{PassState}
use Rattle.nv_mount.specs.declared.fds.Fd.{Fd}
use Rattle.nv_mirror.specs.declared.answers.Done.{Done}
use Rattle.nv_mirror.specs.declared.answers.Refusal.{Refusal}
use Rattle.nv_mirror.specs.PassSteps.{either_of, fault_in, place_by}
use Rattle.nv_cache.specs.declared.read.RunningRead.{RunningRead}
use Rattle.nv_cache.specs.declared.read.RunningRead.TheVariants.{Pageless, Front, Search, Load, TakePlace, Release, Over}
use Rattle.nv_cache.specs.ReadSteps.{HasMadeOne, answer_at, answer_of, read_answer, read_place}
use Rattle.nv_cache.specs.RunningReads.{IsOpen, IsSettled, IsUnderWay, asked_in}
use Rattle.nv_mirror.specs.Pageless.{pageless_place_at}
use Rattle.nv_calls.specs.calls.Advances.{IsOneStep}
use Rattle.nv_calls.specs.calls.Asks.{IsMadeAsRead, asks_readv}
use Rattle.nv_calls.specs.calls.CallAnswers.{done_of}
use Rattle.nv_calls.specs.calls.EarlyRefusals.{early_refusal}
use Rattle.nv_calls.specs.calls.Scattered.{Scattered}
use Rattle.nv_calls.specs.declared.progress.Progress.{Progress}
use Rattle.nv_calls.specs.declared.reading.ReadControl.TheVariants as reads
use Rattle.nv_calls.specs.declared.reading.ReadMachine.{ReadMachine}
use Rattle.nv_calls.specs.reads.ReadMachines.{IsBegunAs, IsOfFile, IsReadUnderWayAs, ReadGoesAs, ReadvGoes, progress_of, standing}
use Rattle.nv_calls.specs.reads.Reads.{IsReadOverAs}
use Rattle.nv_calls.proofs.reads.OverLaws.{done_by, over_as}

-- ---- one step

answer_place : (place : Option ℕ) (len : ℕ) → option_map (λ (done : Done). done.place) (answer_at place len) ≡ place
answer_place None len = refl
answer_place (Some place) len = refl

-- the place that a read has is that of its answer
place_so : (read : RunningRead) → option_map (λ (done : Done). done.place) (read_answer read) ≡ read_place read
place_so (Pageless m) = answer_place (pageless_place_at m.control) 0
place_so (Release m copied) = refl
place_so (Over (Ok done)) = refl
place_so (Over (Err refusal)) = refl
place_so (Front m) = refl
place_so (Search visit m) = refl
place_so (Load visit m) = refl
place_so (TakePlace m) = refl

-- where its machine stands then, with this room
abbrev pub moved : ReadMachine → RunningRead → (room : List ℕ) → ReadMachine
moved m read room = record m { control = reads.Running read; room = room }

-- its machine makes the step of its read
pub steps_on : (fds : List Fd) (m : ReadMachine) (room : List ℕ) (read after : RunningRead) (old new : PassState) → IsBegunAs old.view.opened.sizes fds m read → HasMadeOne read after old new
    → IsOneStep (standing old.view.opened.sizes m) (standing old.view.opened.sizes (moved m after room)) old new
steps_on fds m room read after old new begun is = record {
  step = is.step;
  is = is.taken;
  kind = λ well. is.kind well ∙ begun.kind;
  fault = is.fault ∙ ap (λ fault. either_of fault (fault_in is.step.works)) begun.fault;
  place = place_so after ∙ is.place ∙ ap (λ place. either_of place (place_by is.step.op is.step.found)) (sym (place_so read) ∙ ap (option_map (λ (done : Done). done.place)) begun.answer);
}

-- ---- it goes on, or has told what a whole read tells

done_so : (result : Result Done Refusal) → answer_of result ≡ done_of result
done_so (Ok done) = refl
done_so (Err refusal) = refl

module _ (sound : RunsAreSound) (tell : OwnEventsTell) (asked : ℕ → ℕ → FileCall) (fds : List Fd) (m : ReadMachine) (list room : List ℕ) (start now : PassState) (is_made : IsMadeAsRead asked m.at m.len) (mount : IsMount (mount_of now.view.opened)) where
  size_so : (read : RunningRead) → IsOfFile asked fds (moved m read room) list read start now → length list ≡ m.len
  size_so read of = sym (ap len_of of.way.asks)

  goes_by : (read : RunningRead) → IsOpen read → IsOfFile asked fds (moved m read room) list read start now → IsReadUnderWayAs asked fds (moved m read room) list start now
  goes_by read runs of = record { size = size_so read of; stands = (runs, of) }

  ends_by : (result : Result Done Refusal) → IsOfFile asked fds (moved m (Over result) room) list (Over result) start now → IsReadOverAs asked fds m.fd m.at list start now result
  ends_by result of =
      let size : length list ≡ m.len = size_so (Over result) of in
      let page = take now.view.opened.sizes.page room in
      over_as asked fds m.fd m.at list start now result of.file (ap (early_refusal can_read start.view.opened.sizes fds m.fd m.at) size ∙ of.early) of.file_is
      (done_by sound tell (asked (length list) of.file) of.file m.at list page start now result (subst (λ n. plain_call (asked n of.file) ≡ Read of.file m.at n) (sym size) (is_made of.file))
      (subst (λ (o : Opened). IsMount (mount_of o)) of.way.stands.0.2.mount mount) (subst (λ n. IsUnderWay (Read of.file m.at n) (Over result) list page start now) (sym size) of.way)
      (of.asks ∙ ap (λ n. asked n of.file) (sym size)))

  goes_on : (read : RunningRead) → IsSettled read → IsOfFile asked fds (moved m read room) list read start now → ReadGoesAs asked fds start (moved m read room) list now (progress_of read)
  goes_on (Pageless part) runs of = goes_by (Pageless part) runs of
  goes_on (Front part) runs of = goes_by (Front part) runs of
  goes_on (Search visit part) runs of = goes_by (Search visit part) runs of
  goes_on (Load visit part) runs of = goes_by (Load visit part) runs of
  goes_on (TakePlace part) runs of = goes_by (TakePlace part) runs of
  goes_on (Release part copied) runs of = goes_by (Release part copied) runs of
  goes_on (Over result) runs of = (done_so result, refl, ends_by result of)

-- from an advance on, by which its read came to this, with what it has of a page in front of the room
pub goes_after : RunsAreSound → OwnEventsTell → (asked : ℕ → ℕ → FileCall) (fds : List Fd) (m : ReadMachine) (list front rest : List ℕ) (read after : RunningRead) (start old now : PassState) (progress : Progress)
    → IsMadeAsRead asked m.at m.len → IsMount (mount_of now.view.opened) → length front ≡ now.view.opened.sizes.page → progress ≡ progress_of after → IsSettled after
    → (of : (before : List ℕ) × IsOfFile asked fds m before read start old) → IsUnderWay (Read of.1.file m.at m.len) after list front start now
    → asked_in (asked m.len of.1.file) after now ≡ asked_in (asked m.len of.1.file) read old → ReadGoesAs asked fds start (moved m after (front ++ rest)) list now progress
goes_after sound tell asked fds m list front rest read after start old now progress is_made mount size is settled of way asks =
    subst (ReadGoesAs asked fds start (moved m after (front ++ rest)) list now) (sym is)
    (goes_on sound tell asked fds m list (front ++ rest) start now is_made mount after settled
    record {
      early = of.1.early;
      file = of.1.file;
      file_is = of.1.file_is;
      asks = asks ∙ of.1.asks;
      way = subst (λ room. IsUnderWay (Read of.1.file m.at m.len) after list room start now) (sym (ap (λ n. take n (front ++ rest)) (sym size) ∙ take-append_seam front rest)) way;
    })

-- so a vectored read, whose parts keep their lengths
pub goes_after_parts : RunsAreSound → OwnEventsTell → (fds : List Fd) (m : ReadMachine) (lens : List ℕ) (parts : Scattered) (front rest : List ℕ) (read after : RunningRead) (start old now : PassState) (progress : Progress)
    → parts.lens ≡ lens → sum lens ≡ m.len → IsMount (mount_of now.view.opened) → length front ≡ now.view.opened.sizes.page → progress ≡ progress_of after → IsSettled after
    → (of : (before : List ℕ) × IsOfFile (asks_readv m.at lens) fds m before read start old) → IsUnderWay (Read of.1.file m.at m.len) after parts.list front start now
    → asked_in (Readv of.1.file m.at lens) after now ≡ asked_in (Readv of.1.file m.at lens) read old → ReadvGoes fds start (moved m after (front ++ rest)) parts now progress
goes_after_parts sound tell fds m lens parts front rest read after start old now progress same total mount size is settled of way asks =
    subst (λ all. ReadGoesAs (asks_readv m.at all) fds start (moved m after (front ++ rest)) parts.list now progress) (sym same)
    (goes_after sound tell (asks_readv m.at lens) fds m parts.list front rest read after start old now progress (λ file. ap (Read file m.at) total) mount size is settled of way asks)

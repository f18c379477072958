-- Histories: the calls of a trace that have their place, in the order of their places, and the one history of a mount.
use Rattle.std.specs.Prelude.{◌≡◌, ◌≢◌, ◌⊎◌, ℕ, ◌+◌, ◌<◌, List, [], ◌∷◌, length, map, All, IsPermutation, Option, Some}
use Rattle.std.specs.List.{AllZip, flat_map}
use Rattle.std.specs.List.Sorted.{IsNonDecreasingBy}
use Rattle.nv_plain.specs.Files.{Files}
use Rattle.nv_plain.specs.Histories.{Answered, IsLegal, after}
use Rattle.nv_plain.specs.declared.call.FileCall.{FileCall}
use Rattle.nv_plain.specs.declared.call.Reply.{Reply}
use Rattle.nv_core.specs.state.Passes.{IsOneOf}
use Rattle.nv_core.specs.invariant.OneHistory.{IsPrefix, calls_by}
use Rattle.nv_table.specs.state.States.{PassState}
use Rattle.nv_table.specs.state.Views.{AreDistinctNumbers, Past, PassView, numbers, past_pass}
use Rattle.nv_mount.specs.declared.fds.Fd.{Fd}
use Rattle.nv_calls.specs.fsync.SyncRuns.{file_of_fd}
use Rattle.nv_trace.specs.declared.trace_call.TraceCall.{TraceCall}
use Rattle.nv_trace.specs.declared.trace_call.TracedCall.{TracedCall}
use Rattle.nv_runner.specs.declared.answer.Answer.{Answer}
use Rattle.nv_runner.specs.declared.answer.Answer.TheVariants.{Placed}
use Rattle.nv_runner.specs.Calls.{call_on, fd_of}
use Rattle.nv_runner.specs.Lists.{MadeCall}
use Rattle.nv_runner.specs.Shifts.{HasRun}

-- ---- order

-- a call comes before another: it is of an earlier round, or of the same thread and in an earlier line
abbrev pub ComesBefore : TracedCall → TracedCall → Type 0
ComesBefore a b = (a.round < b.round) ⊎ ((a.thread ≡ b.thread) × (a.line < b.line))

-- none of some calls stands before one that comes before it
abbrev pub KeepOrder : List TracedCall → Type 0
KeepOrder [] = Unit {0}
KeepOrder (call ∷ later) = All (λ other. ComesBefore other call → ⊥) later × KeepOrder later

-- lines of a later round stand behind those of an earlier one
abbrev pub RoundsRise : List TracedCall → Type 0
RoundsRise calls = (a b : TracedCall) → IsOneOf calls a → IsOneOf calls b → a.line < b.line → b.round < a.round → ⊥

-- ---- places

-- a call in its place, with its reply
pub record PlacedCall : Type 0 where
  pub place : ℕ
  pub call : TracedCall
  pub reply : Reply

abbrev pub placed_in_answer : TracedCall → Answer → List PlacedCall
placed_in_answer call (Placed place reply) = record { place = place; call = call; reply = reply } ∷ []
placed_in_answer call answer = []

-- those of some calls that have a place
abbrev pub placed_calls : List MadeCall → List PlacedCall
placed_calls made = flat_map (λ m. placed_in_answer m.call m.answer) made

-- the places from one on, one behind the other
abbrev pub AreAtPlaces : (from : ℕ) → List PlacedCall → Type 0
AreAtPlaces from [] = Unit {0}
AreAtPlaces from (placed ∷ later) = (placed.place ≡ from) × AreAtPlaces (from + 1) later

-- ---- the one history

-- what a closed mount tells of its history: the calls of each pass that was taken in are that pass's own, nobody else has any, and it begins with what each has seen
pub record IsHistoryOfPasses (view : PassView) (history : List Answered) : Type 0 where
  pub distinct : AreDistinctNumbers (numbers view.ended)
  pub joined : (past : Past) → IsOneOf view.ended past → calls_by past.number history ≡ (past_pass view.opened past).mine
  pub others : (number : ℕ) → ((past : Past) → IsOneOf view.ended past → past.number ≢ number) → calls_by number history ≡ []
  pub seen : (past : Past) → IsOneOf view.ended past → IsPrefix (past_pass view.opened past).seen history

-- a call stands in the history as a call of its descriptor's file, with the reply that it was given
pub record StandsAs (fds : List Fd) (placed : PlacedCall) (answered : Answered) : Type 0 where
  pub file : ℕ
  pub file_is : file_of_fd fds (fd_of placed.call.call) ≡ Some file
  pub call : answered.call ≡ call_on placed.call.call file
  pub reply : answered.reply ≡ placed.reply

-- Some calls are the whole history, one for one: at the places from 0 on, in an order that keeps each thread's lines and the rounds.
pub record AreHistory (fds : List Fd) (placed : List PlacedCall) (history : List Answered) : Type 0 where
  pub places : AreAtPlaces 0 placed
  pub each : AllZip (StandsAs fds) placed history
  pub in_order : KeepOrder (map (λ p. p.call) placed)

-- Sorted by their places, the placed calls of a run are the history of the mount that it was made on.
abbrev pub SortedAreHistory : Type 0
SortedAreHistory =
    (fds : List Fd) (worker : Option ℕ) (made : List MadeCall) (zero : PassState) (history : List Answered) (sorted : List PlacedCall)
    → HasRun fds worker made zero → IsHistoryOfPasses zero.view history → RoundsRise (map (λ m. m.call) made)
    → IsPermutation (placed_calls made) sorted → IsNonDecreasingBy (λ p. p.place) sorted
    → AreHistory fds sorted history

-- ---- the threads' history

-- it says of each descriptor's call what it is on the descriptor's file
abbrev pub CallsOnFiles : List Fd → (on_file : TraceCall → FileCall) → Type 0
CallsOnFiles fds on_file = (call : TraceCall) (file : ℕ) → file_of_fd fds (fd_of call) ≡ Some file → on_file call ≡ call_on call file

-- placed calls as calls of their threads, with the replies that they were given
abbrev pub history_of_threads : (on_file : TraceCall → FileCall) → List PlacedCall → List Answered
history_of_threads on_file placed = map (λ p. record { caller = p.call.thread; call = on_file p.call.call; reply = p.reply }) placed

-- It doesn't matter who calls: where the history of a mount is legal from some files on, so is that of the threads, as long as it is, and leaves the same files.
abbrev pub ThreadsAreLegal : Type 0
ThreadsAreLegal =
    (fds : List Fd) (on_file : TraceCall → FileCall) (placed : List PlacedCall) (history : List Answered) (files : Files)
    → CallsOnFiles fds on_file → AreHistory fds placed history → IsLegal history files
    → (length placed ≡ length history) × IsLegal (history_of_threads on_file placed) files × (after (history_of_threads on_file placed) files ≡ after history files)

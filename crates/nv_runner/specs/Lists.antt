-- Lists: what the answers of some calls tell that one pass made in their order.
use Rattle.std.specs.Prelude.{◌≡◌, ℕ, List, [], ◌∷◌, ◌++◌, length, map, Option, Some, None}
use Rattle.nv_plain.specs.Histories.{Answered}
use Rattle.nv_plain.specs.declared.call.Reply.{Reply}
use Rattle.nv_core.specs.invariant.OneHistory.{IsPrefix}
use Rattle.nv_table.specs.state.States.{PassState}
use Rattle.nv_table.specs.state.Views.{pass_of}
use Rattle.nv_mount.specs.declared.fds.Fd.{Fd}
use Rattle.nv_calls.specs.fsync.SyncRuns.{file_of_fd}
use Rattle.nv_trace.specs.declared.trace_call.TraceCall.{TraceCall}
use Rattle.nv_trace.specs.declared.trace_call.TracedCall.{TracedCall}
use Rattle.nv_runner.specs.declared.answer.Answer.{Answer}
use Rattle.nv_runner.specs.declared.answer.Answer.TheVariants.{Placed}
use Rattle.nv_runner.specs.declared.answer.AnsweredCall as declared
use Rattle.nv_runner.specs.Calls.{IsAnswered, call_on, fd_of}

-- a call of a trace, and what it was answered
pub record MadeCall : Type 0 where
  pub call : TracedCall
  pub answer : Answer

-- without where the call lies in memory
abbrev pub made_call : declared.AnsweredCall → MadeCall
made_call answered = record { call = answered.call.now; answer = answered.answer }

abbrev pub made_calls : List declared.AnsweredCall → List MadeCall
made_calls answered = map made_call answered

-- the calls alone
abbrev pub calls_made : List MadeCall → List TracedCall
calls_made made = map (λ m. m.call) made

-- These calls were made, one behind the other, and answered so: each where the one before it had left the pass.
abbrev pub AreMade : List Fd → (worker : Option ℕ) → List MadeCall → (start now : PassState) → Type 0
AreMade fds worker [] start now = now ≡ start
AreMade fds worker (m ∷ later) start now = (middle : PassState) × IsAnswered fds worker m.call.call start middle m.answer × AreMade fds worker later middle now

-- Some calls were to be made, and all of them were.
pub record AllWereMade (fds : List Fd) (worker : Option ℕ) (calls : List TracedCall) (made : List MadeCall) (start now : PassState) : Type 0 where
  pub all : calls_made made ≡ calls
  pub each : AreMade fds worker made start now

-- Some first ones were, but not all: this one is the next.
pub record SomeWereMade (fds : List Fd) (worker : Option ℕ) (calls : List TracedCall) (made : List MadeCall) (start now : PassState) : Type 0 where
  pub next : TracedCall
  pub left : List TracedCall
  pub some : calls_made made ++ next ∷ left ≡ calls
  pub each : AreMade fds worker made start now

-- Some first ones were, maybe all.
pub record FirstWereMade (fds : List Fd) (worker : Option ℕ) (calls : List TracedCall) (made : List MadeCall) (start now : PassState) : Type 0 where
  pub left : List TracedCall
  pub some : calls_made made ++ left ≡ calls
  pub each : AreMade fds worker made start now

-- ---- those that have their place

-- one, as it stands in the history
abbrev pub as_placed : (number : ℕ) → TraceCall → (file : ℕ) → Reply → Answered
as_placed number call file reply = record { caller = number; call = call_on call file; reply = reply }

abbrev pub placed_on : (file : Option ℕ) → (number : ℕ) → TraceCall → Reply → List Answered
placed_on (Some file) number call reply = as_placed number call file reply ∷ []
placed_on None number call reply = []

-- none where it has none
abbrev pub placed_by : List Fd → (number : ℕ) → TraceCall → Answer → List Answered
placed_by fds number call (Placed place reply) = placed_on (file_of_fd fds (fd_of call)) number call reply
placed_by fds number call answer = []

-- all of them, in their order
abbrev pub placed : List Fd → (number : ℕ) → List MadeCall → List Answered
placed fds number [] = []
placed fds number (m ∷ later) = placed_by fds number m.call.call m.answer ++ placed fds number later

-- The pass's own calls grew by those, in their order, and by nothing else.
abbrev pub PlacedAreMine : Type 0
PlacedAreMine =
    (fds : List Fd) (worker : Option ℕ) (made : List MadeCall) (start now : PassState) → AreMade fds worker made start now
    → (pass_of now.view).mine ≡ (pass_of start.view).mine ++ placed fds start.view.number made

-- a placed call stands in a history behind these, at the place that its answer tells, with some calls between
pub record StandsBehind (fds : List Fd) (number : ℕ) (seen : List Answered) (call : TraceCall) (place : ℕ) (reply : Reply) (upto : List Answered) : Type 0 where
  pub file : ℕ
  pub file_is : file_of_fd fds (fd_of call) ≡ Some file
  pub between : List Answered
  pub at : place ≡ length (seen ++ between)
  pub upto_is : upto ≡ (seen ++ between) ++ as_placed number call file reply ∷ []

-- what the answer of one call adds to what stands before the calls behind it
abbrev pub StandsAs : List Fd → (number : ℕ) → (seen : List Answered) → TraceCall → Answer → (LaterStand : List Answered → Type 0) → Type 0
StandsAs fds number seen call (Placed place reply) LaterStand = (upto : List Answered) × StandsBehind fds number seen call place reply upto × LaterStand upto
StandsAs fds number seen call answer LaterStand = LaterStand seen

-- They stand in a history one behind the other, each at the place that its answer tells, behind all that its pass had seen before it was made.
abbrev pub Stand : List Fd → (number : ℕ) → (seen : List Answered) → List MadeCall → (history : List Answered) → Type 0
Stand fds number seen [] history = IsPrefix seen history
Stand fds number seen (m ∷ later) history = StandsAs fds number seen m.call.call m.answer (λ upto. Stand fds number upto later history)

-- So they do in each history that begins with what the pass has seen behind them.
abbrev pub PlacedStand : Type 0
PlacedStand =
    (fds : List Fd) (worker : Option ℕ) (made : List MadeCall) (start now : PassState) → AreMade fds worker made start now
    → (history : List Answered) → IsPrefix (pass_of now.view).seen history → Stand fds start.view.number (pass_of start.view).seen made history

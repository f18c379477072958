-- Runs: how the run that a pass has seen goes on, and what the pass draws of the log meanwhile.
use Rattle.std.specs.Prelude.{◌≡◌, ℕ, ◌+◌, Bool, true, false, List, ◌++◌, All, Option, None}
use Rattle.nv_core.specs.state.Words.{Sizes}
use Rattle.nv_core.specs.steps.Ops.{Op, ByCleaner, Split, Join}
use Rattle.nv_core.specs.steps.Events.{Act, BeginsCall, TakesStep, Event}
use Rattle.nv_core.specs.invariant.Draws.{drawn_of}
use Rattle.nv_table.specs.state.States.{PassState}
use Rattle.nv_table.specs.state.Views.{pass_of}
use Rattle.nv_trace.specs.declared.trace_call.TraceCall.{TraceCall}
use Rattle.nv_runner.specs.declared.answer.Answer.{Answer}
use Rattle.nv_runner.specs.declared.answer.Answer.TheVariants.{Placed, Refused, Open}
use Rattle.nv_runner.specs.Entries.{entries_taken}

-- ---- entries

-- A call has drawn these where it has its place, or was left open.
abbrev pub has_drawn : Answer → Bool
has_drawn (Placed place reply) = true
has_drawn (Refused refusal) = false
has_drawn (Open number) = true

abbrev pub entries_if : (drew : Bool) → (entries : ℕ) → ℕ
entries_if true entries = entries
entries_if false entries = 0

-- how many it has drawn
abbrev pub entries_drawn : Sizes → TraceCall → Answer → ℕ
entries_drawn sizes call answer = entries_if (has_drawn answer) (entries_taken sizes.page call)

-- ---- batches

-- a step is one of a cleaner
abbrev pub is_cleaning_op : Op → Bool
is_cleaning_op (ByCleaner cleaner_op) = true
is_cleaning_op op = false

abbrev pub is_cleaning : Act → Bool
is_cleaning (BeginsCall call op found) = is_cleaning_op op
is_cleaning (TakesStep op found) = is_cleaning_op op
is_cleaning act = false

-- none of a pass's own events among some is one of a cleaner
abbrev pub CleansNothing : (number : ℕ) → List Event → Type 0
CleansNothing number events = All (λ event. event.by ≡ number → is_cleaning event.act ≡ false) events

-- ---- passes that are made and taken in

-- a step makes a pass, or takes one in
abbrev pub is_of_passes_op : Op → Bool
is_of_passes_op Split = true
is_of_passes_op (Join number) = true
is_of_passes_op op = false

abbrev pub is_of_passes : Act → Bool
is_of_passes (TakesStep op found) = is_of_passes_op op
is_of_passes act = false

-- A pass has seen a run go on. It made passes and took some in meanwhile, and did nothing else: it made no call, ran no batch and called no device.
pub record OnlyMakesPasses (old new : PassState) : Type 0 where
  pub more : List Event
  pub run : new.view.run ≡ old.view.run ++ more
  pub only : All (λ event. event.by ≡ old.view.number → is_of_passes event.act ≡ true) more

-- ---- how a run goes on

-- A pass has seen a run go on, and has drawn so many numbers of the log meanwhile. It made no cleaner's step where no batch may be run.
pub record GoesOn (worker : Option ℕ) (many : ℕ) (old new : PassState) : Type 0 where
  pub more : List Event
  pub run : new.view.run ≡ old.view.run ++ more
  pub drawn : drawn_of new.view.opened.sizes (pass_of new.view) ≡ drawn_of old.view.opened.sizes (pass_of old.view) + many
  pub calls : worker ≡ None → CleansNothing old.view.number more

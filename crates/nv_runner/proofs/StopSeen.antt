-- STOP as it was seen in a run: where a pass has seen it set by one of its calls, pass 0 knows of one that has.
use Rattle.std.proofs.Common.{ℕ, List, [], ◌∷◌, inr, sym, ap, subst, ◌∙◌}
use Rattle.std.specs.Prelude.{Option}
use Rattle.nv_core.specs.state.Passes.{IsOneOf}
use Rattle.nv_table.specs.passes.Seats.{past_of}
use Rattle.nv_table.specs.state.Opened.{Opened}
use Rattle.nv_table.specs.state.States.{PassState}
use Rattle.nv_table.specs.state.Views.{past_pass}
use Rattle.nv_mount.specs.RisenCounts.{SawStop}
use Rattle.nv_mount.specs.declared.fds.Fd.{Fd}
use Rattle.nv_calls.specs.histories.Heeds.{HasSeenStop}
use Rattle.nv_runner.specs.Lists.{AreMade, MadeCall}
use Rattle.nv_runner.specs.Shifts.{IsShift, Shift}

-- by all calls behind it
pub seen_on : (fds : List Fd) (worker : Option ℕ) (made : List MadeCall) (start now : PassState) → AreMade fds worker made start now → HasSeenStop start → HasSeenStop now
seen_on fds worker [] start now made seen = subst HasSeenStop (sym made) seen
seen_on fds worker (m ∷ later) start now made seen = seen_on fds worker later made.0 now made.2 (made.1.stays seen)

-- and then by pass 0, once it has taken that pass in
pub seen_by_zero : (fds : List Fd) (worker : Option ℕ) (shift : Shift) (zero : PassState) (is : IsShift fds worker zero.view.opened shift) → IsOneOf zero.view.ended (past_of shift.now.view)
    → (after : List MadeCall) (now : PassState) → AreMade fds worker after now is.last → HasSeenStop now → SawStop zero.view
seen_by_zero fds worker shift zero is taken after now made seen =
    inr (
      past_of shift.now.view,
      taken,
      ap (λ (o : Opened). (past_pass o (past_of shift.now.view)).stopped) (sym is.still_mount) ∙ is.keeps.stays (seen_on fds worker after now is.last made seen),
    )

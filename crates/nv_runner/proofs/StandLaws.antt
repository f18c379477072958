-- Stand: the calls of the shifts of a run in its history.
use Rattle.std.proofs.Common.{◌≡◌, List, sym, ap, subst, ◌∙◌}
use Rattle.nv_plain.specs.Histories.{Answered}
use Rattle.nv_core.specs.invariant.OneHistory.{IsPrefix}
use Rattle.nv_core.specs.state.Passes.{IsOneOf, Pass}
use Rattle.nv_table.specs.passes.Seats.{past_of}
use Rattle.nv_table.specs.state.Opened.{Opened, state_of}
use Rattle.nv_table.specs.state.Views.{Past, pass_of, past_pass}
use Rattle.nv_mount.specs.WholeRuns.{history_then}
use Rattle.nv_runner.specs.EndedRuns.{batch_of}
use Rattle.nv_runner.specs.Lists.{Stand}
use Rattle.nv_runner.specs.Shifts.{IsShift, Shift}
use Rattle.nv_runner.specs.Told.{ShiftsStand}
use Rattle.nv_runner.proofs.histories.HistoryMembers.{of_each, of_one, one_mapped}
use Rattle.nv_runner.proofs.ListLaws.{made_stand}

pub shifts_stand : ShiftsStand
shifts_stand fds plan calls start zero outcome part_values store_values parts stores faults placed tail out closed =
    let run = out.run_out.run in
    let history = history_then zero.view in
    of_each (λ (shift : Shift). Stand fds shift.start.view.number (pass_of shift.start.view).seen shift.made history) run.shifts
    (λ shift one.
    (let shifted : IsShift fds (batch_of plan) zero.view.opened shift = of_one (IsShift fds (batch_of plan) zero.view.opened) run.shifts shift run.each one in
    let past = past_of shift.now.view in
    let there = subst (λ (pasts : List Past). IsOneOf pasts past) run.pasts (one_mapped (λ (s : Shift). past_of s.now.view) run.shifts shift one) in
    let same : past_pass zero.view.opened past ≡ pass_of shift.now.view = ap (λ (o : Opened). (state_of o shift.now.view.run).passes shift.now.view.number) (sym shifted.still_mount) in
    let begins = subst (λ (l : List Answered). IsPrefix l history) (ap (λ (p : Pass). p.seen) same ∙ shifted.quiet.seen) (closed.history.seen_joined past there) in
    made_stand fds (batch_of plan) shift.made shift.start shifted.last shifted.made history begins))

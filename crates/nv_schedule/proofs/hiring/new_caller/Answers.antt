-- The new pass is the next one, and is between two calls.
use Rattle.std.proofs.Common.{refl, ap, ◌∙◌, rules}
use Rattle.nv_core.specs.state.Passes.{Pass}
use Rattle.nv_table.proofs.steps.CallLaws.{child_number}
use Rattle.nv_table.specs.state.States.{PassState}
use Rattle.nv_table.specs.state.Views.{pass_of}
use Rattle.nv_calls.specs.histories.Faults.{open_in, open_writes}
use Rattle.nv_runner.proofs.PassLaws.{child_of, split_ended, split_number, split_of}
use Rattle.nv_schedule.proofs.EndLaws.{aside_same, split_aside}
use Rattle.nv_schedule.proofs.FreshLaws.{fresh_come}
use Rattle.nv_schedule.proofs.hiring.new_caller.Goals as goal

pub returns-clause-zero : goal.returns-clause-zero
returns-clause-zero g c =
    let old = c.args.zero.now in
    let new = c.split_pass.new.pass in
    let made = c.in_ok-pass.ensures.made in
    record {
      board = split_of c.args.mount.now.board old new c.in_ok-pass.pass made c.requires.zero.board;
      number = split_number old new c.in_ok-pass.pass made ∙ c.requires.zero.number;
      idle = (c.passes_stay_between_calls.ensures.split old new c.in_ok-pass.pass made c.requires.zero.idle).0;
    }

pub returns-clause-caller : goal.returns-clause-caller
returns-clause-caller g c =
    let old = c.args.zero.now in
    let new = c.split_pass.new.pass in
    let other = c.in_ok-pass.pass in
    let made = c.in_ok-pass.ensures.made in (
      record {
        board = child_of c.args.mount.now.board old new other made c.requires.zero.board;
        number = child_number old new other made c.requires.zero.number;
        unborn = c.newcomers_begin_behind.ensures.unborn old new other made;
        uncalled = ap (λ (p : PassState). (pass_of p.view).mine) made.child_is ∙ ap (λ (p : Pass). p.mine) made.fresh;
        unfailed = ap open_writes made.child_is ∙ ap (λ (p : Pass). open_in p.faulted) made.fresh;
        idle = (c.passes_stay_between_calls.ensures.split old new other made c.requires.zero.idle).1;
        fresh = c.requires.fresh;
        come = fresh_come c.args.mount.now.fds c.args.work other c.requires.fresh (c.passes_stay_between_calls.ensures.split old new other made c.requires.zero.idle).1;
      },
      refl,
    )

pub returns-clause-aside : goal.returns-clause-aside
returns-clause-aside g c = split_aside c.args.zero.now c.split_pass.new.pass c.in_ok-pass.pass c.in_ok-pass.ensures.made c.requires.zero.number

pub returns-in_err-pass-clause-aside : goal.returns-in_err-pass-clause-aside
returns-in_err-pass-clause-aside g c = aside_same c.args.zero.now c.split_pass.new.pass (search rules)

pub returns-clause-ended : goal.returns-clause-ended
returns-clause-ended g c = split_ended c.args.zero.now c.split_pass.new.pass c.in_ok-pass.pass c.in_ok-pass.ensures.made

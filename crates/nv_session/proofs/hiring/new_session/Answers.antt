-- The new pass begins with all that pass 0 has taken in.
use Rattle.std.proofs.Common.{◌∙◌, subst, rules}
use Rattle.nv_table.specs.state.Opened.{Opened}
use Rattle.nv_runner.specs.Workers.{IsNewcomer}
use Rattle.nv_runner.proofs.PassLaws.{child_of, split_newcomer, split_number, split_of, split_still, still_same}
use Rattle.nv_session.proofs.hiring.new_session.Goals as goal

pub returns-clause-zero : goal.returns-clause-zero
returns-clause-zero g c =
    let old = c.args.zero.now in
    let new = c.split_pass.new.pass in
    let made = c.in_ok-pass.ensures.made in
    record {
      board = split_of c.args.mount.now.board old new c.in_ok-pass.pass made c.requires.zero.board;
      number = split_number old new c.in_ok-pass.pass made ∙ c.requires.zero.number;
      idle = (c.passes_stay_between_calls.ensures.split old new c.in_ok-pass.pass made c.requires.zero.idle).0;
    }

pub returns-clause-still : goal.returns-clause-still
returns-clause-still g c = split_still c.args.zero.now c.split_pass.new.pass c.in_ok-pass.pass c.in_ok-pass.ensures.made

pub returns-in_err-pass-clause-still : goal.returns-in_err-pass-clause-still
returns-in_err-pass-clause-still g c = still_same c.args.zero.now c.split_pass.new.pass (search rules)

pub returns-clause-newcomer : goal.returns-clause-newcomer
returns-clause-newcomer g c =
    let old = c.args.zero.now in
    let other = c.in_ok-pass.pass in
    let newcomer = split_newcomer c.passes_are_left_alone.ensures.own c.passes_are_left_alone.ensures.newcomers c.runs_are_sound.ensures.runs old c.split_pass.new.pass other c.sees_a_run.ensures.mount
    c.requires.zero.number (c.has_taken_in.ensures c.requires.zero.number) c.in_ok-pass.ensures.made in
    subst (λ (o : Opened). IsNewcomer o old.view.ended other) c.requires.zero.board.same_mount newcomer

pub invariant_of-result : goal.invariant_of-result
invariant_of-result g c =
    let old = c.args.zero.now in
    let new = c.split_pass.new.pass in
    let other = c.in_ok-pass.pass in
    let made = c.in_ok-pass.ensures.made in
    record {
      same = c.requires.named;
      ready = record {
        board = child_of c.args.mount.now.board old new other made c.requires.zero.board;
        idle = (c.passes_stay_between_calls.ensures.split old new other made c.requires.zero.idle).1;
        workspace_is = search rules;
        bare = c.in_ok-workspace.ensures.parts;
      };
      other = (split_newcomer c.passes_are_left_alone.ensures.own c.passes_are_left_alone.ensures.newcomers c.runs_are_sound.ensures.runs old new other c.sees_a_run.ensures.mount
          c.requires.zero.number (c.has_taken_in.ensures c.requires.zero.number) made).other;
    }

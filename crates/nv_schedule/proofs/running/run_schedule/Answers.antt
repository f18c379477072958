-- Pass 0 has taken in all passes, and closed the mount behind the schedule.
use Rattle.std.proofs.Common.{sym, ap, subst, ◌∙◌}
use Rattle.nv_core.specs.steps.Events.{own}
use Rattle.nv_core.specs.steps.Opening.{IsMount}
use Rattle.nv_table.proofs.steps.CallLaws.{fresh_is_idle}
use Rattle.nv_table.specs.state.Opened.{IsRunOf, Opened, mount_of}
use Rattle.nv_table.specs.state.Views.{PassView, made_of, pass_of}
use Rattle.nv_schedule.specs.Flights.{flights_of}
use Rattle.nv_schedule.specs.Orders.{deeds}
use Rattle.nv_schedule.proofs.AnswerLaws.{CallLaws}
use Rattle.nv_schedule.proofs.EndLaws.{taken_count, zero_takes}
use Rattle.nv_schedule.proofs.WholeLaws.{has_told, have_called}
use Rattle.nv_schedule.proofs.running.run_schedule.Goals as goal

pub run_on-ran-requires-clause-zero : goal.run_on-ran-requires-clause-zero
run_on-ran-requires-clause-zero g c κs within =
    record { board = c.requires.board; number = ap (λ (v : PassView). v.number) c.requires.new; idle = fresh_is_idle c.args.pass c.args.mount.board.opened c.requires.new c.requires.bare }

pub run_on-ran-requires-clause-first : goal.run_on-ran-requires-clause-first
run_on-ran-requires-clause-first g c κs within = ap made_of c.requires.new

pub take_in_all-taken-requires-clause-zero : goal.take_in_all-taken-requires-clause-zero
take_in_all-taken-requires-clause-zero g c = zero_takes c.args.mount c.run_on-ran.new.zero c.run_on-ran.ensures.zero

pub take_in_all-taken-requires-clause-none : goal.take_in_all-taken-requires-clause-none
take_in_all-taken-requires-clause-none g c = c.run_on-ran.ensures.ended ∙ ap (λ (v : PassView). v.ended) c.requires.new

pub close_bare-closed-requires-clause-all_in : goal.close_bare-closed-requires-clause-all_in
close_bare-closed-requires-clause-all_in g c =
    taken_count c.run_on-ran.new.callers.items c.take_in_all-taken.new.zero.view.ended c.take_in_all-taken.ensures.taken.taken ∙ sym (c.take_in_all-taken.ensures.taken.made ∙ c.run_on-ran.ensures.count)

pub returns : goal.returns
returns g c =
    let ran = c.run_on-ran.ensures in
    let taken = c.take_in_all-taken.ensures in
    let told = c.close_bare-closed.ensures.told in
    let first = c.requires.new in
    let zero = c.take_in_all-taken.new.zero in
    let laws : CallLaws = record {
      calls_heed = c.ended_calls_heed_stop.ensures.calls;
      syncs_heed = c.ended_calls_heed_stop.ensures.syncs;
      writes_leave = c.refused_writes_leave_words.ensures.made;
      writes_open = c.faults_open_writes.ensures.made_writes;
      reads_open = c.faults_open_writes.ensures.made_reads;
      syncs_open = c.faults_open_writes.ensures.syncs;
      reads_go = c.tries_go_on.ensures.reads;
      writes_go = c.tries_go_on.ensures.writes;
      syncs_go = c.tries_go_on.ensures.syncs;
      sound = c.runs_are_sound.ensures.runs;
      tell = c.passes_are_left_alone.ensures.own;
    } in
    record {
      ran = (
        zero,
        record {
          opened = taken.zero.board.same_mount ∙ sym c.requires.board.same_mount;
          board = taken.zero.board;
          run = record {
            mount = subst (λ (o : Opened). IsMount (mount_of o)) c.requires.board.same_mount c.sees_a_run.ensures.mount;
            is_run = subst (λ (o : Opened). IsRunOf o zero.view.run) taken.zero.board.same_mount told.whole.is_run;
            joined = told.whole.joined;
          };
          spare = taken.taken.aside.spare ∙ ran.aside.spare;
          called = (
            c.run_on-ran.new.callers.items,
            have_called c.args.mount c.args.calls.now c.args.batch c.run_on-ran.new.callers.items c.run_on-ran.new.zero zero c.close_bare-closed.result.placed laws
                (subst (λ (o : Opened). IsMount (mount_of o)) c.requires.board.same_mount c.sees_a_run.ensures.mount) taken.zero.board.same_mount ran.stand ran.begun
                (ran.aside.mine ∙ ap (λ (v : PassView). (pass_of v).mine) first) (ran.aside.flights ∙ ap (λ (v : PassView). flights_of (pass_of v)) first) taken.taken told.history,
          );
          told = has_told c.args.mount c.args.tokens.now c.args.calls.now c.args.batch c.run_on-ran.new.callers.items c.run_on-ran.new.zero zero _ _ c.close_bare-closed.result.placed c.close_bare-closed.result.tail (g.D.Bench.state c.args.bench.now) (g.D.Bench.state c.run_on-ran.new.bench) laws
              (subst (λ (o : Opened). IsMount (mount_of o)) c.requires.board.same_mount c.sees_a_run.ensures.mount) taken.zero.board.same_mount ran.stand
              (ran.aside.deedless ∙ ap (λ (v : PassView). deeds (own 0 v.run)) first) (ran.aside.mine ∙ ap (λ (v : PassView). (pass_of v).mine) first) (ran.aside.flights ∙ ap (λ (v : PassView). flights_of (pass_of v)) first)
              taken.taken taken.zero.number told.whole told.history c.run_on-ran.result c.take_in_all-taken.result c.take_in_all-taken.new.calls c.tell.result c.tell.ensures ran.tells taken.calls;
        },
        c.close_bare-closed.ensures.closed,
        told,
      );
      cut = ran.cut;
      armed = ran.armed;
    }

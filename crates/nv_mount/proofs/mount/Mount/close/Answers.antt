use Rattle.std.proofs.Common.{sym, subst, arith}
use Rattle.nv_table.specs.state.States.{IsOf}
use Rattle.nv_mount.specs.Mounts.{MountState}
use Rattle.nv_mount.proofs.ClosedLaws.{whole, has_one_history, have, reads, rests, crash, go_on_telling, lines_stay}
use Rattle.nv_mount.proofs.StoppedLaws.{counts_grew, counts_rose}
use Rattle.nv_mount.proofs.mount.Mount.close.Goals as goal

pub returns-clause-whole : goal.returns-clause-whole
returns-clause-whole g c =
    whole g.L.Lines.device g.L.Lines.history g.L.Lines.fault_count g.L.Lines.room g.B.Backing.device g.B.Backing.history g.B.Backing.fault_count
    c.self.inside.board c.args.pass c.close.result.parts.items c.close.result.stores.items c.close.result.placed c.close.result.tail (subst (λ (m : MountState). IsOf m.board c.args.pass) (sym c.self.view_is) c.requires.board) c.close.ensures
    c.runs_are_sound.ensures.runs c.sees_a_run.ensures.mount c.sees_a_run.ensures.run c.requires.zero (c.has_taken_in.ensures c.requires.zero) (omega arith)

pub returns-clause-history : goal.returns-clause-history
returns-clause-history g c =
    has_one_history g.L.Lines.device g.L.Lines.history g.L.Lines.fault_count g.L.Lines.room g.B.Backing.device g.B.Backing.history g.B.Backing.fault_count
    c.self.inside.board c.args.pass c.close.result.parts.items c.close.result.stores.items c.close.result.placed c.close.result.tail (subst (λ (m : MountState). IsOf m.board c.args.pass) (sym c.self.view_is) c.requires.board) c.close.ensures
    c.runs_are_sound.ensures.runs c.sees_a_run.ensures.mount c.sees_a_run.ensures.run c.requires.zero (c.has_taken_in.ensures c.requires.zero) (omega arith)
    c.passes_are_left_alone.ensures.own c.runs_keep_content.ensures.runs

pub returns-clause-files : goal.returns-clause-files
returns-clause-files g c =
    reads g.L.Lines.device g.L.Lines.history g.L.Lines.fault_count g.L.Lines.room g.B.Backing.device g.B.Backing.history g.B.Backing.fault_count
    c.self.inside.board c.args.pass c.close.result.parts.items c.close.result.stores.items c.close.result.placed c.close.result.tail (subst (λ (m : MountState). IsOf m.board c.args.pass) (sym c.self.view_is) c.requires.board) c.close.ensures
    c.runs_are_sound.ensures.runs c.sees_a_run.ensures.mount c.sees_a_run.ensures.run c.requires.zero (c.has_taken_in.ensures c.requires.zero) (omega arith) c.runs_keep_the_log.ensures.runs

pub returns-clause-stored : goal.returns-clause-stored
returns-clause-stored g c =
    have g.L.Lines.device g.L.Lines.history g.L.Lines.fault_count g.L.Lines.room g.B.Backing.device g.B.Backing.history g.B.Backing.fault_count
    c.self.inside.board c.args.pass c.close.result.parts.items c.close.result.stores.items c.close.result.placed c.close.result.tail (subst (λ (m : MountState). IsOf m.board c.args.pass) (sym c.self.view_is) c.requires.board) c.close.ensures
    c.runs_are_sound.ensures.runs c.sees_a_run.ensures.mount c.sees_a_run.ensures.run c.requires.zero (c.has_taken_in.ensures c.requires.zero) (omega arith)
    c.calls_are_made_right.ensures.histories c.passes_are_left_alone.ensures.own c.runs_keep_the_log.ensures.runs c.crashes_leave_whole_writes.ensures.region c.empty_logs_rest.ensures.rest c.rows_have_states.ensures.each

pub returns-clause-rest : goal.returns-clause-rest
returns-clause-rest g c =
    rests g.L.Lines.device g.L.Lines.history g.L.Lines.fault_count g.L.Lines.room g.B.Backing.device g.B.Backing.history g.B.Backing.fault_count
    c.self.inside.board c.args.pass c.close.result.parts.items c.close.result.stores.items c.close.result.placed c.close.result.tail (subst (λ (m : MountState). IsOf m.board c.args.pass) (sym c.self.view_is) c.requires.board) c.close.ensures
    c.runs_are_sound.ensures.runs c.sees_a_run.ensures.mount c.sees_a_run.ensures.run c.requires.zero (c.has_taken_in.ensures c.requires.zero) (omega arith)
    c.calls_are_made_right.ensures.histories c.passes_are_left_alone.ensures.own c.runs_keep_the_log.ensures.runs c.crashes_leave_whole_writes.ensures.region c.empty_logs_rest.ensures.rest c.rows_have_states.ensures.each

pub returns-clause-crash : goal.returns-clause-crash
returns-clause-crash g c =
    crash g.L.Lines.device g.L.Lines.history g.L.Lines.fault_count g.L.Lines.room g.B.Backing.device g.B.Backing.history g.B.Backing.fault_count
    c.self.inside.board c.args.pass c.close.result.parts.items c.close.result.stores.items c.close.result.placed c.close.result.tail (subst (λ (m : MountState). IsOf m.board c.args.pass) (sym c.self.view_is) c.requires.board) c.close.ensures
    c.runs_are_sound.ensures.runs c.sees_a_run.ensures.mount c.sees_a_run.ensures.run c.requires.zero (c.has_taken_in.ensures c.requires.zero) (omega arith)
    c.calls_are_made_right.ensures.histories c.passes_are_left_alone.ensures.own c.runs_keep_the_log.ensures.runs c.runs_keep_the_log.ensures.images c.runs_keep_the_log.ensures.old c.crashes_leave_whole_writes.ensures.region c.crashes_leave_whole_writes.ensures.states
    c.crashes_leave_whole_writes.ensures.faults c.crashes_leave_whole_writes.ensures.order c.writes_in_flight_keep_apart.ensures.numbers c.writes_in_flight_keep_apart.ensures.pages

pub returns-clause-stopped : goal.returns-clause-stopped
returns-clause-stopped g c =
    counts_rose g.L.Lines.device g.L.Lines.history g.L.Lines.fault_count g.L.Lines.room g.B.Backing.device g.B.Backing.history g.B.Backing.fault_count
    c.self.inside.board c.args.pass c.close.result.parts.items c.close.result.stores.items c.close.result.placed c.close.result.tail (subst (λ (m : MountState). IsOf m.board c.args.pass) (sym c.self.view_is) c.requires.board) c.close.ensures
    c.runs_are_sound.ensures.runs c.passes_are_left_alone.ensures.others c.passes_are_left_alone.ensures.words c.sees_a_run.ensures.mount

pub returns-clause-grew : goal.returns-clause-grew
returns-clause-grew g c =
    counts_grew g.L.Lines.device g.L.Lines.history g.L.Lines.fault_count g.L.Lines.room g.B.Backing.device g.B.Backing.history g.B.Backing.fault_count
    c.self.inside.board c.args.pass c.close.result.parts.items c.close.result.stores.items c.close.result.placed c.close.result.tail (subst (λ (m : MountState). IsOf m.board c.args.pass) (sym c.self.view_is) c.requires.board) c.close.ensures
    c.runs_are_sound.ensures.runs c.passes_are_left_alone.ensures.others c.passes_are_left_alone.ensures.words c.sees_a_run.ensures.mount

pub returns-clause-telling : goal.returns-clause-telling
returns-clause-telling g c =
    go_on_telling g.L.Lines.device g.L.Lines.history g.L.Lines.fault_count g.L.Lines.room g.B.Backing.device g.B.Backing.history g.B.Backing.fault_count
    c.self.inside.board c.args.pass c.close.result.parts.items c.close.result.stores.items c.close.result.placed c.close.result.tail (subst (λ (m : MountState). IsOf m.board c.args.pass) (sym c.self.view_is) c.requires.board) c.close.ensures
    c.runs_are_sound.ensures.runs c.sees_a_run.ensures.mount c.sees_a_run.ensures.run c.requires.zero (c.has_taken_in.ensures c.requires.zero) (omega arith) c.runs_keep_the_log.ensures.runs

pub returns-clause-lines : goal.returns-clause-lines
returns-clause-lines g c =
    lines_stay g.L.Lines.device g.L.Lines.history g.L.Lines.fault_count g.L.Lines.room g.B.Backing.device g.B.Backing.history g.B.Backing.fault_count
    c.self.inside.board c.args.pass c.close.result.parts.items c.close.result.stores.items c.close.result.placed c.close.result.tail (subst (λ (m : MountState). IsOf m.board c.args.pass) (sym c.self.view_is) c.requires.board) c.close.ensures
    c.runs_are_sound.ensures.runs c.sees_a_run.ensures.mount c.sees_a_run.ensures.run c.requires.zero (c.has_taken_in.ensures c.requires.zero) (omega arith)

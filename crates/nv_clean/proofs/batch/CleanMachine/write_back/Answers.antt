-- The piece is read and written, and what follows goes on behind that.
use Rattle.std.proofs.Common.{◌≤◌, ◌∙◌, sym, ap, subst, arith}
use Rattle.nv_plain.specs.Layouts.{mount_layout}
use Rattle.nv_core.specs.state.Words.{Sizes}
use Rattle.nv_table.specs.state.Opened.{Opened}
use Rattle.nv_store.specs.declared.backing.StoreError.TheVariants.{Fault, NoMemory}
use Rattle.nv_clean.proofs.WriteLaws.{by_error}
use Rattle.nv_clean.proofs.PieceLaws.{group_held, reads_within}
use Rattle.nv_clean.proofs.batch.CleanMachine.write_back.Goals as goal

pub fail-requires-clause-group : goal.fail-requires-clause-group
fail-requires-clause-group g c =
    let m = c.args.self.now in
    let same = c.layout-layout.ensures ∙ sym (ap (λ (o : Opened). o.sizes) c.requires.board.same_mount) in
    group_held c.runs_are_sound.ensures.runs c.args.pass.now c.sees_a_run.ensures.mount c.sees_a_run.ensures.run m c.args.at c.requires.at c.requires.way.0 c.requires.way.1
    (subst (λ (s : Sizes). s.files ≤ mount_layout.file_limit) same c.layout-layout.result.limits.most_files)

pub hold_next-requires-clause-group : goal.hold_next-requires-clause-group
hold_next-requires-clause-group g c =
    let m = c.args.self.now in
    let same = c.layout-layout.ensures ∙ sym (ap (λ (o : Opened). o.sizes) c.requires.board.same_mount) in
    group_held c.runs_are_sound.ensures.runs c.args.pass.now c.sees_a_run.ensures.mount c.sees_a_run.ensures.run m c.args.at c.requires.at c.requires.way.0 c.requires.way.1
    (subst (λ (s : Sizes). s.files ≤ mount_layout.file_limit) same c.layout-layout.result.limits.most_files)

pub fail-requires-in-Err-Fault-clause-group : goal.fail-requires-in-Err-Fault-clause-group
fail-requires-in-Err-Fault-clause-group g c =
    let m = c.args.self.now in
    let same = c.layout-layout.ensures ∙ sym (ap (λ (o : Opened). o.sizes) c.requires.board.same_mount) in
    group_held c.runs_are_sound.ensures.runs c.args.pass.now c.sees_a_run.ensures.mount c.sees_a_run.ensures.run m c.args.at c.requires.at c.requires.way.0 c.requires.way.1
    (subst (λ (s : Sizes). s.files ≤ mount_layout.file_limit) same c.layout-layout.result.limits.most_files)

pub return_first-requires-clause-group : goal.return_first-requires-clause-group
return_first-requires-clause-group g c =
    let m = c.args.self.now in
    let same = c.layout-layout.ensures ∙ sym (ap (λ (o : Opened). o.sizes) c.requires.board.same_mount) in
    group_held c.runs_are_sound.ensures.runs c.args.pass.now c.sees_a_run.ensures.mount c.sees_a_run.ensures.run m c.args.at c.requires.at c.requires.way.0 c.requires.way.1
    (subst (λ (s : Sizes). s.files ≤ mount_layout.file_limit) same c.layout-layout.result.limits.most_files)

pub fail-requires-clause-way : goal.fail-requires-clause-way
fail-requires-clause-way g c = (c.requires.way.0, c.args.pass.now, c.in-Err.ensures.failed c.requires.way.0 c.requires.way.1)

pub write_piece-requires-clause-some : goal.write_piece-requires-clause-some
write_piece-requires-clause-some g c =
    let m = c.args.self.now in
    let within = reads_within c.runs_are_sound.ensures.runs c.args.pass.now c.sees_a_run.ensures.mount c.sees_a_run.ensures.run m c.args.at c.requires.at c.requires.way.0 c.requires.way.1 in omega (arith, within)

pub write_piece-requires-clause-read : goal.write_piece-requires-clause-read
write_piece-requires-clause-read g c = (c.requires.way.0, c.args.pass.now, c.in-Ok.ensures.read c.requires.way.0 c.requires.way.1)

pub hold_next-requires-clause-way : goal.hold_next-requires-clause-way
hold_next-requires-clause-way g c = (c.requires.way.0, c.args.pass.now, c.in-Ok-write_piece.ensures.written c.requires.way.0 c.args.pass.now (c.in-Ok.ensures.read c.requires.way.0 c.requires.way.1))

pub fail-requires-in-Err-Fault-clause-way : goal.fail-requires-in-Err-Fault-clause-way
fail-requires-in-Err-Fault-clause-way g c = (c.requires.way.0, c.args.pass.now, by_error c.args.self.now c.args.at c.requires.way.0 c.args.pass.now c.write_piece.new.pass c.in-Err-Fault.field-0 Fault c.in-Err-Fault.field-0-is (c.in-Err-Fault.ensures.written c.requires.way.0 c.args.pass.now (c.in-Ok.ensures.read c.requires.way.0 c.requires.way.1)))

pub return_first-requires-clause-way : goal.return_first-requires-clause-way
return_first-requires-clause-way g c = (c.requires.way.0, c.args.pass.now, by_error c.args.self.now c.args.at c.requires.way.0 c.args.pass.now c.write_piece.new.pass c.in-Err-NoMemory.field-0 NoMemory c.in-Err-NoMemory.field-0-is (c.in-Err-NoMemory.ensures.written c.requires.way.0 c.args.pass.now (c.in-Ok.ensures.read c.requires.way.0 c.requires.way.1)))

pub returns-in-Err-clause-one : goal.returns-in-Err-clause-one
returns-in-Err-clause-one g c = c.fail.ensures.one c.requires.way.0 c.args.pass.now (c.in-Err.ensures.failed c.requires.way.0 c.requires.way.1)

pub returns-in-Err-clause-way : goal.returns-in-Err-clause-way
returns-in-Err-clause-way g c start way = c.fail.ensures.way start c.args.pass.now (c.in-Err.ensures.failed start way)

pub returns-in-Ok-write_piece-clause-one : goal.returns-in-Ok-write_piece-clause-one
returns-in-Ok-write_piece-clause-one g c = c.hold_next.ensures.one c.requires.way.0 c.args.pass.now (c.in-Ok-write_piece.ensures.written c.requires.way.0 c.args.pass.now (c.in-Ok.ensures.read c.requires.way.0 c.requires.way.1))

pub returns-in-Ok-write_piece-clause-way : goal.returns-in-Ok-write_piece-clause-way
returns-in-Ok-write_piece-clause-way g c start way = c.hold_next.ensures.way start c.args.pass.now (c.in-Ok-write_piece.ensures.written start c.args.pass.now (c.in-Ok.ensures.read start way))

pub returns-in-Err-Fault-clause-one : goal.returns-in-Err-Fault-clause-one
returns-in-Err-Fault-clause-one g c = c.fail-in-Err-Fault.ensures.one c.requires.way.0 c.args.pass.now (by_error c.args.self.now c.args.at c.requires.way.0 c.args.pass.now c.write_piece.new.pass c.in-Err-Fault.field-0 Fault c.in-Err-Fault.field-0-is (c.in-Err-Fault.ensures.written c.requires.way.0 c.args.pass.now (c.in-Ok.ensures.read c.requires.way.0 c.requires.way.1)))

pub returns-in-Err-Fault-clause-way : goal.returns-in-Err-Fault-clause-way
returns-in-Err-Fault-clause-way g c start way = c.fail-in-Err-Fault.ensures.way start c.args.pass.now (by_error c.args.self.now c.args.at start c.args.pass.now c.write_piece.new.pass c.in-Err-Fault.field-0 Fault c.in-Err-Fault.field-0-is (c.in-Err-Fault.ensures.written start c.args.pass.now (c.in-Ok.ensures.read start way)))

pub returns-in-Err-NoMemory-clause-one : goal.returns-in-Err-NoMemory-clause-one
returns-in-Err-NoMemory-clause-one g c = c.return_first.ensures.one c.requires.way.0 c.args.pass.now (by_error c.args.self.now c.args.at c.requires.way.0 c.args.pass.now c.write_piece.new.pass c.in-Err-NoMemory.field-0 NoMemory c.in-Err-NoMemory.field-0-is (c.in-Err-NoMemory.ensures.written c.requires.way.0 c.args.pass.now (c.in-Ok.ensures.read c.requires.way.0 c.requires.way.1)))

pub returns-in-Err-NoMemory-clause-way : goal.returns-in-Err-NoMemory-clause-way
returns-in-Err-NoMemory-clause-way g c start way = c.return_first.ensures.way start c.args.pass.now (by_error c.args.self.now c.args.at start c.args.pass.now c.write_piece.new.pass c.in-Err-NoMemory.field-0 NoMemory c.in-Err-NoMemory.field-0-is (c.in-Err-NoMemory.ensures.written start c.args.pass.now (c.in-Ok.ensures.read start way)))

-- The write is the core's.
use Rattle.std.proofs.Common.{◌∙◌, sym, ap, subst}
use Rattle.nv_core.specs.state.Words.{Sizes}
use Rattle.nv_core.specs.steps.CleanerSteps.{group_file}
use Rattle.nv_table.specs.state.Opened.{Opened}
use Rattle.nv_table.specs.state.Views.{PassView}
use Rattle.nv_pages.specs.DeviceCalls.{HasWritten}
use Rattle.nv_clean.proofs.PieceLaws.{has_written}
use Rattle.nv_clean.proofs.batch.CleanMachine.write_piece.Goals as goal

pub returns-clause-written : goal.returns-clause-written
returns-clause-written g c start was read =
    let m = c.args.self.now in
    let same = c.layout-layout.ensures ∙ sym (ap (λ (o : Opened). o.sizes) c.requires.board.same_mount) ∙ ap (λ (v : PassView). v.opened.sizes) read.behind.between.view in
    has_written m c.args.at c.args.offset c.args.bytes.now start was c.args.pass.now read c.write_store.new.pass c.write_store.result
    (subst (λ file. HasWritten file c.args.offset c.args.bytes.now c.write_store.result c.args.pass.now c.write_store.new.pass) (c.file.ensures ∙ ap (λ (s : Sizes). group_file s m.batch) same) c.write_store.ensures)

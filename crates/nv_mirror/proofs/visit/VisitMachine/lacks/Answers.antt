-- The page's slot is owned.
use Rattle.std.proofs.Common.{◌≡◌, ◌<◌, subst}
use Rattle.nv_core.specs.state.Words.{page_total}
use Rattle.nv_table.specs.state.Opened.{Opened}
use Rattle.nv_table.specs.state.Views.{slot_times}
use Rattle.nv_pages.specs.PageWork.{page_slot}
use Rattle.nv_mirror.specs.declared.visit.VisitControl.TheVariants as visits
use Rattle.nv_mirror.proofs.LoadSlots.{altered_self}
use Rattle.nv_mirror.proofs.VisitLaws.{visit_slot, visit_there}
use Rattle.nv_mirror.proofs.visit.VisitMachine.lacks.Goals as goal

pub lacks_buffer-requires-clause-page : goal.lacks_buffer-requires-clause-page
lacks_buffer-requires-clause-page g c =
    let m = c.args.self in
    let pass = c.args.pass.now in
    subst (λ (o : Opened). m.page < page_total o.sizes) c.requires.board.same_mount (visit_there m visits.Look c.requires.way.0 c.requires.way.1 pass c.requires.way.2 c.requires.way.3 c.requires.more)

pub lacks_buffer-requires-clause-owns_slots : goal.lacks_buffer-requires-clause-owns_slots
lacks_buffer-requires-clause-owns_slots g c =
    let m = c.args.self in
    let pass = c.args.pass.now in
    subst (λ (o : Opened). slot_times (page_slot o.sizes m.page) pass.now ≡ 1) c.requires.board.same_mount
    (visit_slot m visits.Look c.requires.way.0 c.requires.way.1 pass c.requires.way.2 c.requires.way.3 c.requires.more pass (altered_self pass))

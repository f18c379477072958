-- Each page whose buffer is valid is copied behind those before it.
use Rattle.std.proofs.Common.{◌≡◌, ◌+◌, ◌%◌, ◌<◌, ◌≤◌, refl, sym, ap, subst, ◌∙◌, arith}
use Rattle.std.specs.Prelude.{Some, None}
use Rattle.std.proofs.lemmas.Bool.{ltb-false}
use Rattle.nv_core.specs.state.Words.{Sizes, PAGE, page_total}
use Rattle.nv_core.specs.state.Passes.{covered, end_read}
use Rattle.nv_core.proofs.state.PageLaws.{read_within}
use Rattle.nv_table.specs.state.Keys.{sizes_of}
use Rattle.nv_table.specs.state.Opened.{Opened}
use Rattle.nv_table.specs.state.Views.{slot_times}
use Rattle.nv_pages.specs.PageWork.{page_slot}
use Rattle.nv_pages.proofs.AlterLaws.{altered_then}
use Rattle.nv_mirror.specs.declared.visit.VisitControl.TheVariants as visits
use Rattle.nv_mirror.specs.Copied.{IsPut}
use Rattle.nv_mirror.specs.Visits.{IsInCall, page_piece, visit_call_of}
use Rattle.nv_mirror.proofs.PieceReadLaws.{some_byte}
use Rattle.nv_mirror.proofs.VisitLaws.{before_end, of_kept, visit_fits, visit_more, visit_room, visit_slot, visit_there}
use Rattle.nv_mirror.proofs.visit.VisitMachine.copy_on.Goals as goal

-- it is at a page of its own
pub has_bytes-requires-clause-own : goal.has_bytes-requires-clause-own
has_bytes-requires-clause-own g c =
    let low = (c.loop-self.invariant.copied c.requires.way.0 c.requires.way.2).copied.from in
    let first = c.requires.way.1.first in
    omega (arith, low, first)

pub has_bytes-requires-clause-within : goal.has_bytes-requires-clause-within
has_bytes-requires-clause-within g c =
    let m = c.args.self in
    let inside = read_within c.args.pass.now.view.opened.sizes (visit_call_of m) m.length in
    let till = (c.loop-self.invariant.copied c.requires.way.0 c.requires.way.2).copied.till in
    let first = c.requires.way.1.first in
    let pages = c.requires.way.1.pages in
    omega (arith, inside, till, first, pages)

pub part_of-at-requires-clause-own : goal.part_of-at-requires-clause-own
part_of-at-requires-clause-own g c =
    let low = (c.loop-self.invariant.copied c.requires.way.0 c.requires.way.2).copied.from in
    let first = c.requires.way.1.first in
    omega (arith, low, first)

-- ---- which has bytes of the reply

pub copy_part-requires-clause-page : goal.copy_part-requires-clause-page
copy_part-requires-clause-page g c =
    let m = c.args.self in
    let pass = c.args.pass.now in
    let page = c.loop-self.page in
    let same = c.layout-layout.ensures ∙ sym (ap (λ (o : Opened). o.sizes) c.requires.board.same_mount) in
    subst (λ (o : Opened). page < page_total o.sizes) c.requires.board.same_mount
    (visit_there (record m { page = page; copied = c.loop-self.copied }) visits.Look c.loop-self.list c.requires.way.0 pass (visit_fits pass.view.opened.sizes m m.from page c.loop-self.copied m.control c.requires.way.1)
    (c.loop-self.invariant.copied c.requires.way.0 c.requires.way.2)
    (before_end m (sizes_of c.layout-layout.result) pass.view.opened.sizes page c.has_bytes.result same c.has_bytes.ensures c.loop-self-test.true))

pub copy_part-requires-clause-owns_slots : goal.copy_part-requires-clause-owns_slots
copy_part-requires-clause-owns_slots g c =
    let m = c.args.self in
    let pass = c.args.pass.now in
    let page = c.loop-self.page in
    let same = c.layout-layout.ensures ∙ sym (ap (λ (o : Opened). o.sizes) c.requires.board.same_mount) in
    subst (λ (o : Opened). slot_times (page_slot o.sizes page) c.loop-self.pass.now ≡ 1) c.requires.board.same_mount
    (visit_slot (record m { page = page; copied = c.loop-self.copied }) visits.Look c.loop-self.list c.requires.way.0 pass (visit_fits pass.view.opened.sizes m m.from page c.loop-self.copied m.control c.requires.way.1)
    (c.loop-self.invariant.copied c.requires.way.0 c.requires.way.2)
    (before_end m (sizes_of c.layout-layout.result) pass.view.opened.sizes page c.has_bytes.result same c.has_bytes.ensures c.loop-self-test.true) c.loop-self.pass c.loop-self.invariant.same)

pub copy_part-requires-clause-room : goal.copy_part-requires-clause-room
copy_part-requires-clause-room g c =
    let m = c.args.self in
    let pass = c.args.pass.now in
    let page = c.loop-self.page in
    let same = c.layout-layout.ensures ∙ sym (ap (λ (o : Opened). o.sizes) c.requires.board.same_mount) in
    visit_room (record m { page = page; copied = c.loop-self.copied }) visits.Look c.loop-self.list c.requires.way.0 pass (visit_fits pass.view.opened.sizes m m.from page c.loop-self.copied m.control c.requires.way.1)
    (c.loop-self.invariant.copied c.requires.way.0 c.requires.way.2)
    (before_end m (sizes_of c.layout-layout.result) pass.view.opened.sizes page c.has_bytes.result same c.has_bytes.ensures c.loop-self-test.true)
    (some_byte c.layout-layout.result.limits same) (page_piece pass.view.opened.sizes (visit_call_of m) m.length page).from c.part_of-at.result.1 refl
    (subst (λ s. (page_piece s (visit_call_of m) m.length page).from + c.part_of-at.result.1 ≤ covered (visit_call_of m) m.length) same c.part_of-at.ensures.inside)

pub loop-self-preserved : goal.loop-self-preserved
loop-self-preserved g c =
    let m = c.args.self in
    let pass = c.args.pass.now in
    let page = c.loop-self.page in
    let same = c.layout-layout.ensures ∙ sym (ap (λ (o : Opened). o.sizes) c.requires.board.same_mount) in
    record {
      same = altered_then (λ kept. kept) (λ kept. kept) pass c.loop-self.pass c.copy_part.new.pass c.loop-self.invariant.same c.in-Some.ensures.same;
      copied = λ start is.
          let on = c.loop-self.invariant.copied start is in
          visit_more (record m { page = page; copied = c.loop-self.copied }) visits.Look c.loop-self.list start pass (visit_fits pass.view.opened.sizes m m.from page c.loop-self.copied m.control c.requires.way.1) on
          (before_end m (sizes_of c.layout-layout.result) pass.view.opened.sizes page c.has_bytes.result same c.has_bytes.ensures c.loop-self-test.true)
          (some_byte c.layout-layout.result.limits same) c.sees_a_run.ensures.run c.part_of-at.result.0 c.part_of-at.result.1 c.in-Some.count c.copy_part.new.list
          (c.part_of-at.ensures.at ∙ ap (λ (s : Sizes). (page_piece s (visit_call_of m) m.length page).at % s.page) same)
          (c.part_of-at.ensures.size ∙ ap (λ (s : Sizes). (page_piece s (visit_call_of m) m.length page).size) same) c.copy_part.auto.list
          (of_kept pass c.loop-self.pass (λ kept. IsPut (kept (PAGE page)) c.part_of-at.result.0 c.loop-self.copied c.part_of-at.result.1 c.loop-self.list c.copy_part.new.list (Some c.in-Some.count))
          c.loop-self.invariant.same on.called.still c.in-Some.ensures.copied);
    }

-- ---- the first that isn't copied

pub returns-after-loop-self-clause-missed : goal.returns-after-loop-self-clause-missed
returns-after-loop-self-clause-missed g c more =
    let m = c.args.self in
    let same = c.layout-layout.ensures ∙ sym (ap (λ (o : Opened). o.sizes) c.requires.board.same_mount) in
    let till = (c.loop-self.invariant.copied c.requires.way.0 c.requires.way.2).copied.till in
    let past = subst (λ (s : Sizes). end_read s (visit_call_of m) m.length ≤ c.loop-self.page) same
    (ltb-false c.loop-self.page (end_read (sizes_of c.layout-layout.result) (visit_call_of m) m.length) (sym c.has_bytes.ensures ∙ c.loop-self-test.false)) in
    absurd (more (omega (arith, till, past)))

pub returns-in_default-clause-copied : goal.returns-in_default-clause-copied
returns-in_default-clause-copied g c start is =
    let m = c.args.self in
    let pass = c.args.pass.now in
    let on = c.loop-self.invariant.copied start is in
    let put = of_kept pass c.loop-self.pass (λ kept. IsPut (kept (PAGE c.loop-self.page)) c.part_of-at.result.0 c.loop-self.copied c.part_of-at.result.1 c.loop-self.list c.copy_part.new.list None)
    c.loop-self.invariant.same on.called.still c.in_default.ensures.copied in
    subst (λ list. IsInCall (record m { page = c.loop-self.page; copied = c.loop-self.copied }) visits.Look list start pass) (sym put.1) on

pub returns-in_default-clause-missed : goal.returns-in_default-clause-missed
returns-in_default-clause-missed g c more =
    (of_kept c.args.pass.now c.loop-self.pass (λ kept. IsPut (kept (PAGE c.loop-self.page)) c.part_of-at.result.0 c.loop-self.copied c.part_of-at.result.1 c.loop-self.list c.copy_part.new.list None)
    c.loop-self.invariant.same c.requires.way.2.called.still c.in_default.ensures.copied).0

-- Each part goes on where the one before it ends.
use Rattle.std.proofs.Common.{sym, ap, subst, ◌∙◌}
use Rattle.nv_core.specs.state.Passes.{len_of}
use Rattle.nv_table.specs.state.Opened.{Opened}
use Rattle.nv_mirror.specs.Visits.{visit_call_of}
use Rattle.nv_cache.specs.declared.read.RunningRead.{RunningRead}
use Rattle.nv_cache.specs.declared.read.RunningRead.TheVariants.{Over}
use Rattle.nv_mirror.specs.declared.front.FrontMachine.{FrontMachine}
use Rattle.nv_mirror.specs.Controls.{asked_at}
use Rattle.nv_mirror.specs.Fronts as front
use Rattle.nv_mirror.specs.Pageless as pageless
use Rattle.nv_cache.specs.RunningReads.{IsUnderWay, asked_in}
use Rattle.nv_cache.proofs.RunningLaws.{front_over, pageless_over, release_over, search_loads}
use Rattle.nv_cache.proofs.read.RunningRead.settle.Goals as goal

-- ---- a look at its pages

pub looked-requires-clause-way : goal.looked-requires-clause-way
looked-requires-clause-way g c =
    let start = c.requires.way.1 in
    let way = subst (λ (w : RunningRead). IsUnderWay c.requires.way.0 w c.args.list.now c.args.room.now start c.args.pass.now) c.in-Front.is c.requires.way.2 in
    (start, c.visit-visit.ensures.way c.args.list.now start c.args.pass.now (sym (ap len_of (way.stands.0 ∙ way.asks))) way.stands.1)

pub looked-requires-in-Loaded-clause-way : goal.looked-requires-in-Loaded-clause-way
looked-requires-in-Loaded-clause-way g c =
    let start = c.requires.way.1 in
    let way = subst (λ (w : RunningRead). IsUnderWay c.requires.way.0 w c.args.list.now c.args.room.now start c.args.pass.now) c.in-Load.is c.requires.way.2 in
    let same = ap (λ (o : Opened). o.sizes) c.requires.board.same_mount ∙ sym c.layout-in-Loaded.ensures in
    (start, c.pass_page-next.ensures.way c.in-Load.load start c.args.pass.now same way.stands.2 c.in-Loaded.is way.stands.3 way.stands.4)

pub returns-in-Loaded-clause-way : goal.returns-in-Loaded-clause-way
returns-in-Loaded-clause-way g c call start before =
    let way = subst (λ (w : RunningRead). IsUnderWay call w c.args.list.now c.args.room.now start c.args.pass.now) c.in-Load.is before in
    let same = ap (λ (o : Opened). o.sizes) c.requires.board.same_mount ∙ sym c.layout-in-Loaded.ensures in
    subst (λ call. IsUnderWay call c.looked-in-Loaded.result c.looked-in-Loaded.new.list c.args.room.now start c.looked-in-Loaded.new.pass) (ap visit_call_of c.pass_page-next.ensures.machine ∙ way.stands.0)
    (c.looked-in-Loaded.ensures.way c.args.room.now start (c.pass_page-next.ensures.way c.in-Load.load start c.args.pass.now same way.stands.2 c.in-Loaded.is way.stands.3 way.stands.4))

pub returns-in-Found-clause-way : goal.returns-in-Found-clause-way
returns-in-Found-clause-way g c call start way =
    search_loads c.in-Search.visit c.in-Search.search c.load-load.result call c.args.list.now c.args.room.now start c.args.pass.now c.load-load.ensures.machine (c.load-load.ensures.way c.args.room.now start c.args.pass.now)
    (subst (λ (w : RunningRead). IsUnderWay call w c.args.list.now c.args.room.now start c.args.pass.now) c.in-Search.is way)

-- ---- the end

pub returns-in-Over-control-clause-way : goal.returns-in-Over-control-clause-way
returns-in-Over-control-clause-way g c call start way =
    subst (λ result. IsUnderWay call (Over result) c.args.list.now c.args.room.now start c.args.pass.now) (sym c.empty_answer.ensures)
    (pageless_over c.in-Pageless.m c.in-Over-control.result call c.args.list.now c.args.room.now start c.args.pass.now c.in-Over-control.is
    (subst (λ (w : RunningRead). IsUnderWay call w c.args.list.now c.args.room.now start c.args.pass.now) c.in-Pageless.is way))

pub returns-in-Over-control-2-clause-way : goal.returns-in-Over-control-2-clause-way
returns-in-Over-control-2-clause-way g c call start way =
    front_over c.in-Front.m c.in-Over-control-2.refusal call c.args.list.now c.args.room.now start c.args.pass.now c.in-Over-control-2.is
    (subst (λ (w : RunningRead). IsUnderWay call w c.args.list.now c.args.room.now start c.args.pass.now) c.in-Front.is way)

pub returns-in-Over-control-3-clause-way : goal.returns-in-Over-control-3-clause-way
returns-in-Over-control-3-clause-way g c call start way =
    release_over c.in-Release.release c.in-Release.copied call c.args.list.now c.args.room.now start c.args.pass.now c.in-Over-control-3.is
    (subst (λ (w : RunningRead). IsUnderWay call w c.args.list.now c.args.room.now start c.args.pass.now) c.in-Release.is way)

-- ---- what it is asked as

pub returns-in-Over-control-clause-asks : goal.returns-in-Over-control-clause-asks
returns-in-Over-control-clause-asks g c asked =
    sym (ap (λ (w : RunningRead). asked_in asked w c.args.pass.now) c.in-Pageless.is ∙ ap (λ control. asked_at asked (pageless.has_begun control) c.args.pass.now) c.in-Over-control.is)

pub returns-in-Passed-clause-asks : goal.returns-in-Passed-clause-asks
returns-in-Passed-clause-asks g c asked =
    c.looked.ensures.asks asked
    ∙ sym (ap (λ (w : RunningRead). asked_in asked w c.args.pass.now) c.in-Front.is ∙ ap (λ control. asked_at asked (front.has_begun control) c.args.pass.now) c.in-Passed.is)

pub returns-in-Over-control-2-clause-asks : goal.returns-in-Over-control-2-clause-asks
returns-in-Over-control-2-clause-asks g c asked =
    sym (ap (λ (w : RunningRead). asked_in asked w c.args.pass.now) c.in-Front.is ∙ ap (λ control. asked_at asked (front.has_begun control) c.args.pass.now) c.in-Over-control-2.is)

pub returns-in-Loaded-clause-asks : goal.returns-in-Loaded-clause-asks
returns-in-Loaded-clause-asks g c asked = c.looked-in-Loaded.ensures.asks asked ∙ sym (ap (λ (w : RunningRead). asked_in asked w c.args.pass.now) c.in-Load.is)

pub returns-in-Refused-clause-asks : goal.returns-in-Refused-clause-asks
returns-in-Refused-clause-asks g c asked =
    ap (λ (f : FrontMachine). asked_at asked (front.has_begun f.control) c.args.pass.now) c.give_back.ensures.machine.2
    ∙ sym (ap (λ (w : RunningRead). asked_in asked w c.args.pass.now) c.in-Load.is)

pub returns-in-Found-clause-asks : goal.returns-in-Found-clause-asks
returns-in-Found-clause-asks g c asked = sym (ap (λ (w : RunningRead). asked_in asked w c.args.pass.now) c.in-Search.is)

pub returns-in-Over-control-3-clause-asks : goal.returns-in-Over-control-3-clause-asks
returns-in-Over-control-3-clause-asks g c asked = sym (ap (λ (w : RunningRead). asked_in asked w c.args.pass.now) c.in-Release.is)

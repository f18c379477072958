-- It goes on with what the look has found.
use Rattle.std.proofs.Common.{sym, ap, subst, ◌∙◌}
use Rattle.nv_mirror.specs.Visits.{IsInCall, visit_call_of}
use Rattle.nv_cache.specs.declared.read.RunningRead.TheVariants.{Search, Load, TakePlace}
use Rattle.nv_cache.specs.RunningReads.{IsUnderWay}
use Rattle.nv_cache.specs.Ways.{search_for}
use Rattle.nv_cache.proofs.AskedLaws.{asked_same}
use Rattle.nv_cache.proofs.ReadMeasures.{load_few, page_within, search_few}
use Rattle.nv_cache.proofs.RunningLaws.{looked_load, looked_place, looked_search}
use Rattle.nv_cache.proofs.read.RunningRead.looked.Goals as goal

pub returns-in-Search-clause-way : goal.returns-in-Search-clause-way
returns-in-Search-clause-way g c room start way =
    let m = c.look.new.self in
    subst (λ call. IsUnderWay call (Search m c.new.result) c.look.new.list room start c.look.new.pass) (ap visit_call_of c.look.ensures.machine)
    (subst (λ s. IsUnderWay (visit_call_of m) (Search m s) c.look.new.list room start c.look.new.pass) (sym (c.new.ensures.machine ∙ ap (λ l. search_for l m.from) c.load.ensures.machine))
    (looked_search m c.look.new.list room start c.look.new.pass (c.look.ensures.way start way) c.in-Search.is))

pub returns-in-Load-clause-way : goal.returns-in-Load-clause-way
returns-in-Load-clause-way g c room start way =
    let m = c.look.new.self in
    subst (λ call. IsUnderWay call (Load m c.load-in-Load.result) c.look.new.list room start c.look.new.pass) (ap visit_call_of c.look.ensures.machine)
    (subst (λ l. IsUnderWay (visit_call_of m) (Load m l) c.look.new.list room start c.look.new.pass) (sym c.load-in-Load.ensures.machine)
    (looked_load m c.look.new.list room start c.look.new.pass (c.look.ensures.way start way) c.in-Load.is))

pub returns-in-TakePlace-clause-way : goal.returns-in-TakePlace-clause-way
returns-in-TakePlace-clause-way g c room start way =
    let m = c.look.new.self in
    subst (λ call. IsUnderWay call (TakePlace m) c.look.new.list room start c.look.new.pass) (ap visit_call_of c.look.ensures.machine)
    (looked_place m c.look.new.list room start c.look.new.pass (c.look.ensures.way start way) c.in-TakePlace.is)

pub returns-in-Search-clause-few : goal.returns-in-Search-clause-few
returns-in-Search-clause-few g c =
    let m = c.look.new.self in
    let start = c.requires.way.0 in
    let way = c.look.ensures.way start c.requires.way.1 in
    let on = subst (λ control. IsInCall m control c.look.new.list start c.look.new.pass) c.in-Search.is way.1 in
    search_few c.args.pass.now.view.opened.sizes c.args.visit m c.look.ensures.machine way.1.later (page_within m c.look.new.pass.view.opened.sizes way.0 on.knows.0)
    c.new.result m.from (c.new.ensures.machine ∙ ap (λ l. search_for l m.from) c.load.ensures.machine)

pub returns-in-Load-clause-few : goal.returns-in-Load-clause-few
returns-in-Load-clause-few g c =
    let m = c.look.new.self in
    let start = c.requires.way.0 in
    let way = c.look.ensures.way start c.requires.way.1 in
    let on = subst (λ control. IsInCall m control c.look.new.list start c.look.new.pass) c.in-Load.is way.1 in
    load_few c.args.pass.now.view.opened.sizes c.args.visit m c.look.ensures.machine way.1.later (page_within m c.look.new.pass.view.opened.sizes way.0 on.knows.0) c.load-in-Load.result c.load-in-Load.ensures.machine

pub returns-in-Search-clause-asks : goal.returns-in-Search-clause-asks
returns-in-Search-clause-asks g c asked = asked_same c.args.pass.now c.look.new.pass c.look.ensures.same

pub returns-in-Load-clause-asks : goal.returns-in-Load-clause-asks
returns-in-Load-clause-asks g c asked = asked_same c.args.pass.now c.look.new.pass c.look.ensures.same

pub returns-in-TakePlace-clause-asks : goal.returns-in-TakePlace-clause-asks
returns-in-TakePlace-clause-asks g c asked = asked_same c.args.pass.now c.look.new.pass c.look.ensures.same

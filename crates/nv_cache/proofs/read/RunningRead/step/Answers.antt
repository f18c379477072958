-- Its part makes a step, and goes on with the same call.
use Rattle.std.proofs.Common.{◌<◌, refl, sym, ap, subst, ◌∙◌}
use Rattle.nv_core.specs.state.Passes.{plain_call}
use Rattle.nv_cache.specs.declared.read.RunningRead.{RunningRead}
use Rattle.nv_cache.specs.declared.read.RunningRead.TheVariants.{Pageless, Front, Load, Release}
use Rattle.std.specs.Prelude.{None}
use Rattle.nv_mirror.proofs.AskedLaws.{asked_taken, asked_then, front_asks, pageless_asks}
use Rattle.nv_cache.specs.RunningReads.{IsOpen, IsUnderWay, asked_in, read_measure}
use Rattle.nv_cache.specs.ReadSteps.{HasMadeOne}
use Rattle.nv_cache.proofs.ReadMeasures.{front_falls}
use Rattle.nv_cache.proofs.ReadStepLaws.{front_one, load_one, pageless_one, place_one, release_one}
use Rattle.nv_cache.proofs.RunningLaws.{front_goes, load_goes, place_goes, release_goes, search_goes}
use Rattle.nv_cache.proofs.read.RunningRead.step.Goals as goal

-- ---- a front

pub returns-in-Front-clause-way : goal.returns-in-Front-clause-way
returns-in-Front-clause-way g c call list start way =
    front_goes c.in-Front.m c.advance-in-Front.new.self c.advance-in-Front.ensures.one.0 call list c.args.room.now c.args.room.now start c.args.pass.now c.advance-in-Front.new.pass c.advance-in-Front.ensures.one.2
    (c.advance-in-Front.ensures.way start) (subst (λ (w : RunningRead). IsUnderWay call w list c.args.room.now start c.args.pass.now) c.in-Front.is way)

pub returns-in-Front-clause-one : goal.returns-in-Front-clause-one
returns-in-Front-clause-one g c =
    let pass = c.args.pass.now in
    let start = c.requires.way.1 in
    let way = subst (λ (w : RunningRead). IsUnderWay (plain_call g.A.Asks.call) w c.requires.way.0 c.args.room.now start pass) c.in-Front.is c.requires.way.2 in
    subst (λ (w : RunningRead). HasMadeOne w (Front c.advance-in-Front.new.self) pass c.advance-in-Front.new.pass) (sym c.in-Front.is)
    (front_one c.in-Front.m c.advance-in-Front.new.self start pass c.advance-in-Front.new.pass c.advance-in-Front.ensures.one.0 (subst IsOpen c.in-Front.is c.requires.open) way.stands.1 c.advance-in-Front.ensures.one.1 c.advance-in-Front.ensures.one.2)

pub returns-in-Front-clause-falls : goal.returns-in-Front-clause-falls
returns-in-Front-clause-falls g c =
    let pass = c.args.pass.now in
    let way = subst (λ (w : RunningRead). IsUnderWay (plain_call g.A.Asks.call) w c.requires.way.0 c.args.room.now c.requires.way.1 pass) c.in-Front.is c.requires.way.2 in
    subst (λ (w : RunningRead). read_measure pass.view.opened.sizes (Front c.advance-in-Front.new.self) < read_measure pass.view.opened.sizes w) (sym c.in-Front.is)
    (front_falls pass.view.opened.sizes c.in-Front.m c.advance-in-Front.new.self c.advance-in-Front.ensures.one.0 (subst IsOpen c.in-Front.is c.requires.open) c.advance-in-Front.ensures.one.2 c.advance-in-Front.ensures.falls)

-- ---- its pages

pub returns-in-Search-clause-way : goal.returns-in-Search-clause-way
returns-in-Search-clause-way g c call list start way =
    search_goes c.in-Search.visit c.in-Search.search c.advance-in-Search.new.self call list c.args.room.now c.args.room.now start c.args.pass.now c.advance-in-Search.new.pass c.advance-in-Search.ensures.one c.advance-in-Search.ensures.keeps
    (c.advance-in-Search.ensures.way start) (subst (λ (w : RunningRead). IsUnderWay call w list c.args.room.now start c.args.pass.now) c.in-Search.is way)

pub returns-in-Load-clause-way : goal.returns-in-Load-clause-way
returns-in-Load-clause-way g c call list start way =
    load_goes c.in-Load.visit c.in-Load.load c.advance-in-Load.new.self call list c.args.room.now c.advance-in-Load.new.room start c.args.pass.now c.advance-in-Load.new.pass c.advance-in-Load.ensures.one c.advance-in-Load.ensures.others
    (c.advance-in-Load.ensures.way start) (subst (λ (w : RunningRead). IsUnderWay call w list c.args.room.now start c.args.pass.now) c.in-Load.is way)

pub returns-in-Load-clause-one : goal.returns-in-Load-clause-one
returns-in-Load-clause-one g c =
    let pass = c.args.pass.now in
    subst (λ (w : RunningRead). HasMadeOne w (Load c.in-Load.visit c.advance-in-Load.new.self) pass c.advance-in-Load.new.pass) (sym c.in-Load.is)
    (load_one c.in-Load.visit c.in-Load.load c.advance-in-Load.new.self pass c.advance-in-Load.new.pass (subst IsOpen c.in-Load.is c.requires.open) c.advance-in-Load.ensures.one)

-- ---- its place, and its end

pub returns-in-TakePlace-clause-way : goal.returns-in-TakePlace-clause-way
returns-in-TakePlace-clause-way g c call list start way =
    let m = c.in-TakePlace.visit in
    let before = subst (λ (w : RunningRead). IsUnderWay call w list c.args.room.now start c.args.pass.now) c.in-TakePlace.is way in
    place_goes m c.take_place-release.result c.take_place-release.ensures.one.0 call list c.args.room.now c.args.room.now start c.args.pass.now c.take_place-release.new.pass c.take_place-release.ensures.one.2
    (c.take_place-release.ensures.way list start before.stands.2) (c.take_place-release.ensures.placed list start before.stands.2) before

pub returns-in-TakePlace-clause-one : goal.returns-in-TakePlace-clause-one
returns-in-TakePlace-clause-one g c =
    let pass = c.args.pass.now in
    let m = c.in-TakePlace.visit in
    let way = subst (λ (w : RunningRead). IsUnderWay (plain_call g.A.Asks.call) w c.requires.way.0 c.args.room.now c.requires.way.1 pass) c.in-TakePlace.is c.requires.way.2 in
    subst (λ (w : RunningRead). HasMadeOne w (Release c.take_place-release.result m.copied) pass c.take_place-release.new.pass) (sym c.in-TakePlace.is)
    (place_one m c.take_place-release.result c.requires.way.0 c.requires.way.1 pass c.take_place-release.new.pass c.take_place-release.ensures.one.0 way.stands.2 c.take_place-release.ensures.one.1 c.take_place-release.ensures.one.2)

pub returns-in-Release-clause-way : goal.returns-in-Release-clause-way
returns-in-Release-clause-way g c call list start way =
    release_goes c.in-Release.release c.advance-in-Release.new.self c.in-Release.copied c.advance-in-Release.ensures.one.0 call list c.args.room.now c.args.room.now start c.args.pass.now c.advance-in-Release.new.pass
    (subst IsOpen c.in-Release.is c.requires.open) c.advance-in-Release.ensures.one.1 c.advance-in-Release.ensures.one.2
    (c.advance-in-Release.ensures.way start) (subst (λ (w : RunningRead). IsUnderWay call w list c.args.room.now start c.args.pass.now) c.in-Release.is way)

pub returns-in-Release-clause-one : goal.returns-in-Release-clause-one
returns-in-Release-clause-one g c =
    let pass = c.args.pass.now in
    let start = c.requires.way.1 in
    let way = subst (λ (w : RunningRead). IsUnderWay (plain_call g.A.Asks.call) w c.requires.way.0 c.args.room.now start pass) c.in-Release.is c.requires.way.2 in
    subst (λ (w : RunningRead). HasMadeOne w (Release c.advance-in-Release.new.self c.in-Release.copied) pass c.advance-in-Release.new.pass) (sym c.in-Release.is)
    (release_one c.in-Release.release c.advance-in-Release.new.self c.in-Release.copied start pass c.advance-in-Release.new.pass c.advance-in-Release.ensures.one.0 (subst IsOpen c.in-Release.is c.requires.open) way.stands.1 c.advance-in-Release.ensures.one.1 c.advance-in-Release.ensures.one.2)

-- ---- a read without a page

pub returns-in-Pageless-clause-one : goal.returns-in-Pageless-clause-one
returns-in-Pageless-clause-one g c =
    let pass = c.args.pass.now in
    let start = c.requires.way.1 in
    let way = subst (λ (w : RunningRead). IsUnderWay (plain_call g.A.Asks.call) w c.requires.way.0 c.args.room.now start pass) c.in-Pageless.is c.requires.way.2 in
    subst (λ (w : RunningRead). HasMadeOne w (Pageless c.advance.new.self) pass c.advance.new.pass) (sym c.in-Pageless.is)
    (pageless_one c.in-Pageless.m c.advance.new.self start pass c.advance.new.pass c.advance.ensures.one.0 (subst IsOpen c.in-Pageless.is c.requires.open) way.stands.1 c.advance.ensures.one.1 c.advance.ensures.one.2)

-- ---- what it is asked as

pub returns-in-Pageless-clause-asks : goal.returns-in-Pageless-clause-asks
returns-in-Pageless-clause-asks g c =
    pageless_asks g.A.Asks.call c.in-Pageless.m c.advance.new.self _ c.advance.ensures.one.0 c.args.pass.now c.advance.new.pass c.advance.ensures.one.1 c.advance.ensures.one.2
    ∙ sym (ap (λ (w : RunningRead). asked_in g.A.Asks.call w c.args.pass.now) c.in-Pageless.is)

pub returns-in-Front-clause-asks : goal.returns-in-Front-clause-asks
returns-in-Front-clause-asks g c =
    front_asks g.A.Asks.call c.in-Front.m c.advance-in-Front.new.self _ c.advance-in-Front.ensures.one.0 c.args.pass.now c.advance-in-Front.new.pass (subst IsOpen c.in-Front.is c.requires.open) c.advance-in-Front.ensures.one.1
    c.advance-in-Front.ensures.one.2
    ∙ sym (ap (λ (w : RunningRead). asked_in g.A.Asks.call w c.args.pass.now) c.in-Front.is)

pub returns-in-Search-clause-asks : goal.returns-in-Search-clause-asks
returns-in-Search-clause-asks g c =
    asked_taken _ c.args.pass.now c.advance-in-Search.new.pass refl c.advance-in-Search.ensures.one.taken
    ∙ sym (ap (λ (w : RunningRead). asked_in g.A.Asks.call w c.args.pass.now) c.in-Search.is)

pub returns-in-Load-clause-asks : goal.returns-in-Load-clause-asks
returns-in-Load-clause-asks g c =
    asked_taken c.advance-in-Load.ensures.one.step c.args.pass.now c.advance-in-Load.new.pass c.advance-in-Load.ensures.one.opens c.advance-in-Load.ensures.one.taken
    ∙ sym (ap (λ (w : RunningRead). asked_in g.A.Asks.call w c.args.pass.now) c.in-Load.is)

pub returns-in-TakePlace-clause-asks : goal.returns-in-TakePlace-clause-asks
returns-in-TakePlace-clause-asks g c =
    asked_then None _ c.take_place-release.ensures.one.0 c.args.pass.now c.take_place-release.new.pass c.take_place-release.ensures.one.1
    ∙ sym (ap (λ (w : RunningRead). asked_in g.A.Asks.call w c.args.pass.now) c.in-TakePlace.is)

pub returns-in-Release-clause-asks : goal.returns-in-Release-clause-asks
returns-in-Release-clause-asks g c =
    asked_then None _ c.advance-in-Release.ensures.one.0 c.args.pass.now c.advance-in-Release.new.pass c.advance-in-Release.ensures.one.1
    ∙ sym (ap (λ (w : RunningRead). asked_in g.A.Asks.call w c.args.pass.now) c.in-Release.is)

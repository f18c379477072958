-- Its part makes a step, and goes on with the same call.
use Rattle.std.proofs.Common.{◌<◌, sym, ap, subst, ◌∙◌}
use Rattle.std.specs.Prelude.{None}
use Rattle.nv_core.specs.state.Passes.{plain_call}
use Rattle.nv_mirror.proofs.AskedLaws.{asked_taken, asked_then, front_asks, pageless_asks}
use Rattle.nv_ring.specs.declared.write.RunningWrite.{RunningWrite}
use Rattle.nv_ring.specs.RunningWrites.{IsOpen, IsUnderWay, asked_in, write_measure}
use Rattle.nv_ring.specs.WriteSteps.{HasMadeOne}
use Rattle.nv_ring.specs.declared.write.RunningWrite.TheVariants.{Pageless, Front, Draw, Append, Release}
use Rattle.nv_ring.proofs.RunningLaws.{front_goes, draw_goes, draw_falls, append_goes, append_falls}
use Rattle.nv_ring.proofs.WriteStepLaws.{pageless_one, front_one, draw_one, append_one, release_one}
use Rattle.nv_ring.proofs.write.RunningWrite.step.Goals as goal

pub returns-in-Front-clause-way : goal.returns-in-Front-clause-way
returns-in-Front-clause-way g c call start way =
    let front = subst (λ (w : RunningWrite). IsUnderWay call w start c.args.pass.now) c.in-Front.is way in
    front_goes c.args.pass.now.view.opened.sizes c.in-Front.m c.advance-in-Front.new.self c.advance-in-Front.ensures.one.0 call start c.advance-in-Front.new.pass c.advance-in-Front.ensures.one.2 front.0 front.1 (c.advance-in-Front.ensures.way start front.2)

pub returns-in-Draw-clause-way : goal.returns-in-Draw-clause-way
returns-in-Draw-clause-way g c call start way =
    let draw = subst (λ (w : RunningWrite). IsUnderWay call w start c.args.pass.now) c.in-Draw.is way in
    draw_goes c.args.pass.now.view.opened.sizes c.in-Draw.m c.advance-in-Draw.new.self c.advance-in-Draw.ensures.one.0 call start c.advance-in-Draw.new.pass c.advance-in-Draw.ensures.one.2 draw.0 (c.advance-in-Draw.ensures.way start draw.1)

pub returns-in-Draw-clause-falls : goal.returns-in-Draw-clause-falls
returns-in-Draw-clause-falls g c =
    subst (λ (w : RunningWrite). write_measure (Draw c.advance-in-Draw.new.self) < write_measure w) (sym c.in-Draw.is)
    (draw_falls c.args.pass.now.view.opened.sizes c.in-Draw.m c.advance-in-Draw.new.self c.advance-in-Draw.ensures.one.0 c.advance-in-Draw.ensures.one.2 c.advance-in-Draw.ensures.falls)

pub returns-in-Draw-clause-one : goal.returns-in-Draw-clause-one
returns-in-Draw-clause-one g c =
    let pass = c.args.pass.now in
    let start = c.requires.way.0 in
    let way = subst (λ (w : RunningWrite). IsUnderWay (plain_call g.A.Asks.call) w start pass) c.in-Draw.is c.requires.way.1 in
    subst (λ (w : RunningWrite). HasMadeOne w (Draw c.advance-in-Draw.new.self) pass c.advance-in-Draw.new.pass) (sym c.in-Draw.is)
    (draw_one c.in-Draw.m c.advance-in-Draw.new.self start pass c.advance-in-Draw.new.pass c.advance-in-Draw.ensures.one.0 (subst IsOpen c.in-Draw.is c.requires.open) way.1 c.advance-in-Draw.ensures.one.1 c.advance-in-Draw.ensures.one.2)

pub returns-in-Append-clause-way : goal.returns-in-Append-clause-way
returns-in-Append-clause-way g c call start way =
    let append = subst (λ (w : RunningWrite). IsUnderWay call w start c.args.pass.now) c.in-Append.is way in
    append_goes c.in-Append.m c.advance-in-Append.new.self c.args.pass.now c.advance-in-Append.new.pass call start c.advance-in-Append.ensures.one append.0 (c.advance-in-Append.ensures.way start append.1)

pub returns-in-Append-clause-falls : goal.returns-in-Append-clause-falls
returns-in-Append-clause-falls g c =
    subst (λ (w : RunningWrite). write_measure (Append c.advance-in-Append.new.self) < write_measure w) (sym c.in-Append.is)
    (append_falls c.in-Append.m c.advance-in-Append.new.self c.args.pass.now c.advance-in-Append.new.pass c.advance-in-Append.ensures.one c.advance-in-Append.ensures.falls)

pub returns-in-Pageless-clause-one : goal.returns-in-Pageless-clause-one
returns-in-Pageless-clause-one g c =
    let pass = c.args.pass.now in
    let start = c.requires.way.0 in
    let way = subst (λ (w : RunningWrite). IsUnderWay (plain_call g.A.Asks.call) w start pass) c.in-Pageless.is c.requires.way.1 in
    subst (λ (w : RunningWrite). HasMadeOne w (Pageless c.advance.new.self) pass c.advance.new.pass) (sym c.in-Pageless.is)
    (pageless_one c.in-Pageless.m c.advance.new.self start pass c.advance.new.pass c.advance.ensures.one.0 (subst IsOpen c.in-Pageless.is c.requires.open) way.1 c.advance.ensures.one.1 c.advance.ensures.one.2)

pub returns-in-Front-clause-one : goal.returns-in-Front-clause-one
returns-in-Front-clause-one g c =
    let pass = c.args.pass.now in
    let start = c.requires.way.0 in
    let way = subst (λ (w : RunningWrite). IsUnderWay (plain_call g.A.Asks.call) w start pass) c.in-Front.is c.requires.way.1 in
    subst (λ (w : RunningWrite). HasMadeOne w (Front c.advance-in-Front.new.self) pass c.advance-in-Front.new.pass) (sym c.in-Front.is)
    (front_one c.in-Front.m c.advance-in-Front.new.self start pass c.advance-in-Front.new.pass c.advance-in-Front.ensures.one.0 (subst IsOpen c.in-Front.is c.requires.open) way.2 c.advance-in-Front.ensures.one.1 c.advance-in-Front.ensures.one.2)

pub returns-in-Append-clause-one : goal.returns-in-Append-clause-one
returns-in-Append-clause-one g c =
    let pass = c.args.pass.now in
    subst (λ (w : RunningWrite). HasMadeOne w (Append c.advance-in-Append.new.self) pass c.advance-in-Append.new.pass) (sym c.in-Append.is)
    (append_one c.in-Append.m c.advance-in-Append.new.self pass c.advance-in-Append.new.pass (subst IsOpen c.in-Append.is c.requires.open) c.advance-in-Append.ensures.one)

pub returns-in-Release-clause-one : goal.returns-in-Release-clause-one
returns-in-Release-clause-one g c =
    let pass = c.args.pass.now in
    let start = c.requires.way.0 in
    let way = subst (λ (w : RunningWrite). IsUnderWay (plain_call g.A.Asks.call) w start pass) c.in-Release.is c.requires.way.1 in
    subst (λ (w : RunningWrite). HasMadeOne w (Release c.advance-in-Release.new.self) pass c.advance-in-Release.new.pass) (sym c.in-Release.is)
    (release_one c.in-Release.m c.advance-in-Release.new.self start pass c.advance-in-Release.new.pass c.advance-in-Release.ensures.one.0 (subst IsOpen c.in-Release.is c.requires.open) way.1 c.advance-in-Release.ensures.one.1 c.advance-in-Release.ensures.one.2)

-- ---- what it is asked as

pub returns-in-Pageless-clause-asks : goal.returns-in-Pageless-clause-asks
returns-in-Pageless-clause-asks g c =
    pageless_asks g.A.Asks.call c.in-Pageless.m c.advance.new.self _ c.advance.ensures.one.0 c.args.pass.now c.advance.new.pass c.advance.ensures.one.1 c.advance.ensures.one.2
    ∙ sym (ap (λ (w : RunningWrite). asked_in g.A.Asks.call w c.args.pass.now) c.in-Pageless.is)

pub returns-in-Front-clause-asks : goal.returns-in-Front-clause-asks
returns-in-Front-clause-asks g c =
    front_asks g.A.Asks.call c.in-Front.m c.advance-in-Front.new.self _ c.advance-in-Front.ensures.one.0 c.args.pass.now c.advance-in-Front.new.pass (subst IsOpen c.in-Front.is c.requires.open) c.advance-in-Front.ensures.one.1
    c.advance-in-Front.ensures.one.2
    ∙ sym (ap (λ (w : RunningWrite). asked_in g.A.Asks.call w c.args.pass.now) c.in-Front.is)

pub returns-in-Draw-clause-asks : goal.returns-in-Draw-clause-asks
returns-in-Draw-clause-asks g c =
    asked_then None _ c.advance-in-Draw.ensures.one.0 c.args.pass.now c.advance-in-Draw.new.pass c.advance-in-Draw.ensures.one.1
    ∙ sym (ap (λ (w : RunningWrite). asked_in g.A.Asks.call w c.args.pass.now) c.in-Draw.is)

pub returns-in-Append-clause-asks : goal.returns-in-Append-clause-asks
returns-in-Append-clause-asks g c =
    asked_taken c.advance-in-Append.ensures.one.step c.args.pass.now c.advance-in-Append.new.pass c.advance-in-Append.ensures.one.opens c.advance-in-Append.ensures.one.taken
    ∙ sym (ap (λ (w : RunningWrite). asked_in g.A.Asks.call w c.args.pass.now) c.in-Append.is)

pub returns-in-Release-clause-asks : goal.returns-in-Release-clause-asks
returns-in-Release-clause-asks g c =
    asked_then None _ c.advance-in-Release.ensures.one.0 c.args.pass.now c.advance-in-Release.new.pass c.advance-in-Release.ensures.one.1
    ∙ sym (ap (λ (w : RunningWrite). asked_in g.A.Asks.call w c.args.pass.now) c.in-Release.is)

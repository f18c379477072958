-- The reply is in front of the list.
use Rattle.std.proofs.Common.{sym, ap, subst, ◌∙◌}
use Rattle.nv_core.specs.state.Words.{Sizes}
use Rattle.nv_table.specs.state.Limits.{MountIsWithinLimits}
use Rattle.nv_table.specs.state.Opened.{Opened}
use Rattle.nv_table.specs.state.Views.{pass_of}
use Rattle.nv_mirror.specs.declared.release.ReleaseMachine.{ReleaseMachine}
use Rattle.nv_mirror.specs.Answers.{IsListPlaced}
use Rattle.nv_mirror.specs.Releases.{IsUnderWay}
use Rattle.nv_mirror.specs.Visits.{IsInCall}
use Rattle.nv_mirror.proofs.VisitPlaces.{place_due, place_told, place_on}
use Rattle.nv_mirror.proofs.visit.VisitMachine.take_place.Goals as goal

pub perform-place-requires-clause-due : goal.perform-place-requires-clause-due
perform-place-requires-clause-due g c =
    let m = c.args.self in
    let pass = c.args.pass.now in
    place_due m c.requires.way.0 c.requires.way.1 pass (subst (λ control. IsInCall m control c.requires.way.0 c.requires.way.1 pass) c.requires.at c.requires.way.2.1)

pub returns-clause-placed : goal.returns-clause-placed
returns-clause-placed g c list start way =
    let m = c.args.self in
    let pass = c.args.pass.now in
    let new = c.perform-place.new.pass in
    subst (λ (r : ReleaseMachine). IsListPlaced (pass_of new.view).asked list start.view new.view record { place = r.place; len = m.copied }) (sym c.released.ensures)
    (place_told m list start pass (subst (λ control. IsInCall m control list start pass) c.requires.at way.1) new c.perform-place.result way.0
    (record { sound = c.runs_are_sound.ensures.runs; content = c.runs_keep_content.ensures.runs; legally = c.history_goes_on.ensures.legal; mount = c.sees_a_run.ensures.mount }) c.perform-place.ensures.stepped)

pub returns-clause-way : goal.returns-clause-way
returns-clause-way g c list start way =
    let m = c.args.self in
    let pass = c.args.pass.now in
    let new = c.perform-place.new.pass in
    let same = c.layout-layout.ensures ∙ sym (ap (λ (o : Opened). o.sizes) c.requires.board.same_mount) in
    subst (λ (r : ReleaseMachine). IsUnderWay r start new) (sym c.released.ensures)
    (place_on m list start pass (subst (λ control. IsInCall m control list start pass) c.requires.at way.1) new c.perform-place.result way.0
    (record { sound = c.runs_are_sound.ensures.runs; content = c.runs_keep_content.ensures.runs; legally = c.history_goes_on.ensures.legal; mount = c.sees_a_run.ensures.mount }) c.perform-place.ensures.stepped
    (subst (λ (s : Sizes). MountIsWithinLimits s) same c.layout-layout.result.limits))

-- It is where it was, with more in its list.
use Rattle.std.proofs.Common.{sym, subst, ◌∙◌}
use Rattle.nv_table.specs.state.Views.{PassView}
use Rattle.nv_mirror.specs.declared.visit.VisitControl.TheVariants as visits
use Rattle.nv_mirror.specs.Visits.{Fits, IsInCall}
use Rattle.nv_mirror.proofs.VisitLaws.{visit_altered, visit_fits}
use Rattle.nv_mirror.proofs.visit.VisitMachine.look.Goals as goal

pub next_at-self-requires-clause-way : goal.next_at-self-requires-clause-way
next_at-self-requires-clause-way g c =
    let m = c.args.self.now in
    let pass = c.args.pass.now in
    let mid = c.copy_on.new.pass in
    let list = c.copy_on.new.list in
    let start = c.requires.way.0 in
    let page = c.copy_on.result.0 in
    let copied = c.copy_on.result.1 in
    let on = c.copy_on.ensures.copied start (subst (λ control. IsInCall m control c.args.list.now start pass) c.requires.looks c.requires.way.1.1) in (
      list,
      start,
      subst (λ (v : PassView). Fits v.opened.sizes (record m { page = page; copied = copied })) (sym c.copy_on.ensures.same.view) (visit_fits pass.view.opened.sizes m m.from page copied m.control c.requires.way.1.0),
      subst (λ control. IsInCall (record m { page = page; copied = copied; control = control }) visits.Look list start mid) (sym c.requires.looks)
          (visit_altered (record m { page = page; copied = copied }) visits.Look list start pass mid c.copy_on.ensures.same on tt),
    )

pub returns-clause-way : goal.returns-clause-way
returns-clause-way g c start way =
    let m = c.args.self.now in
    let pass = c.args.pass.now in
    let mid = c.copy_on.new.pass in
    let new = c.next_at-self.new.pass in
    let list = c.copy_on.new.list in
    let page = c.copy_on.result.0 in
    let copied = c.copy_on.result.1 in
    let control = c.next_at-self.result in
    let on = c.copy_on.ensures.copied start (subst (λ control. IsInCall m control c.args.list.now start pass) c.requires.looks way.1) in
    let there = subst (λ control. IsInCall (record m { page = page; copied = copied; control = control }) visits.Look list start mid) (sym c.requires.looks)
    (visit_altered (record m { page = page; copied = copied }) visits.Look list start pass mid c.copy_on.ensures.same on tt) in (
      subst (λ (v : PassView). Fits v.opened.sizes (record m { page = page; copied = copied; control = control })) (sym (c.next_at-self.ensures.same.view ∙ c.copy_on.ensures.same.view)) (visit_fits pass.view.opened.sizes m m.from page copied control way.0),
      visit_altered (record m { page = page; copied = copied }) control list start mid new c.next_at-self.ensures.same there c.next_at-self.ensures.knows,
    )

use Rattle.std.proofs.Common.{◌≡◌, ◌^◌, ◌≤◌, List, map, ap, ◌∙◌, subst}
use Rattle.nv_recover.specs.Groups.{leaders_of}
use Rattle.nv_recover.specs.Recovering.{end_of}
use Rattle.nv_recover.specs.declared.group.Group.{Group}
use Rattle.nv_recover.proofs.StandLaws.{none_tells, found_tells}
use Rattle.nv_recover.proofs.recovering.read_log.Goals as goal

pub returns-clause-none : goal.returns-clause-none
returns-clause-none g c =
    let bounds = c.args.bounds.now in
    let next = c.in_ok-found.found.next in
    let Next : List Group → Type 0 = λ groups. bounds.tail ≤ end_of bounds.tail groups → end_of bounds.tail groups ≤ 2 ^ 60 → next ≡ end_of bounds.tail groups in
    none_tells (map g.L.Lines.history c.args.parts.now) bounds c.in_ok-groups.groups.items c.requires.header c.in_ok-groups.ensures.found next
    (subst Next c.deref.ensures.value c.in_ok-found.ensures.next)

pub returns-clause-found : goal.returns-clause-found
returns-clause-found g c =
    let bounds = c.args.bounds.now in
    let found = c.in_ok-found.found in
    let Next : List Group → Type 0 = λ groups. bounds.tail ≤ end_of bounds.tail groups → end_of bounds.tail groups ≤ 2 ^ 60 → found.next ≡ end_of bounds.tail groups in
    found_tells (map g.L.Lines.history c.args.parts.now) bounds c.in_ok-groups.groups.items c.requires.header c.in_ok-groups.ensures.found found c.in_ok-found.ensures.first
    (c.in_ok-found.ensures.groups ∙ ap leaders_of c.deref.ensures.value) (subst Next c.deref.ensures.value c.in_ok-found.ensures.next)

-- A search that is over has found what its tries did; and all its steps keep the rest.
use Rattle.std.proofs.Common.{refl}
use Rattle.nv_cache.proofs.EndLaws.{has_found, stepped_same}
use Rattle.nv_cache.proofs.KeepsLaws.{keeps_on, keeps_rest_same}
use Rattle.nv_cache.proofs.search.SearchMachine.advance.Goals as goal

pub returns-clause-found : goal.returns-clause-found
returns-clause-found g c found began ends searched =
    let start = c.requires.way.0 in
    let is = c.step.ensures.advanced in
    has_found c.step.result start began c.step.new.pass (is.way start c.requires.way.1) (is.tries began searched) found ends

pub returns-clause-rest : goal.returns-clause-rest
returns-clause-rest g c began keeps =
    let m = c.args.self.now in
    let was = c.args.pass.now in
    let is = c.step.ensures.advanced in
    keeps_rest_same m c.step.result began c.step.new.pass (stepped_same m m c.step.result was c.step.new.pass refl is.one)
    (keeps_on m m began c.requires.way.0 was c.step.new.pass refl keeps c.requires.way.1 is.keeps)

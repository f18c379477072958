use Rattle.std.proofs.Common.{◌≡◌, ◌∙◌, Bool, Err, ap, subst, sym}
use Rattle.std.specs.Prelude.{IfSome}
use Rattle.nv_top.specs.Commands.{IsNotShown}
use Rattle.nv_top.specs.Stops.{stop_of_opening}
use Rattle.nv_top.specs.declared.ending.Stop.TheVariants.{Region}
use Rattle.nv_top.proofs.StopLemmas.{err_has, opening_refused}
use Rattle.nv_top.proofs.looking.look.Goals as goal

pub returns-in_err-text-clause-refused : goal.returns-in_err-text-clause-refused
returns-in_err-text-clause-refused g c why is =
    let error = c.in_err-text.field-0.0 in
    let stop : Region why ≡ stop_of_opening error = err_has c.from_residual.result (λ stop. stop ≡ stop_of_opening error) (Region why) is c.from_residual.ensures.1 in
    let For : Bool → Type 0 = λ files. IfSome (g.T.Bench.state c.args.bench.now).told (λ holding. IsNotShown files holding why) in
    subst For (sym c.if-files.true) (c.look_at_files.ensures.refused why (c.in_err-text.was ∙ ap Err (opening_refused error why (sym stop))))

pub returns-in_err-text-2-clause-refused : goal.returns-in_err-text-2-clause-refused
returns-in_err-text-2-clause-refused g c why is =
    let error = c.in_err-text-2.field-0.0 in
    let stop : Region why ≡ stop_of_opening error = err_has c.from_residual-in_err-text-2.result (λ stop. stop ≡ stop_of_opening error) (Region why) is c.from_residual-in_err-text-2.ensures.1 in
    let For : Bool → Type 0 = λ files. IfSome (g.T.Bench.state c.args.bench.now).told (λ holding. IsNotShown files holding why) in
    subst For (sym c.if-files.false) (c.look_at_region.ensures.refused why (c.in_err-text-2.was ∙ ap Err (opening_refused error why (sym stop))))

-- A token's advances are a schedule of one token.
use Rattle.std.proofs.Common.{◌≡◌, ℕ, [], ◌∷◌, false, refl, sym, subst}
use Rattle.std.proofs.lemmas.Bool.{true≢false}
use Rattle.std.specs.Prelude.{All, OnOk, Ok}
use Rattle.nv_schedule.specs.Cuts.{cut_behind}
use Rattle.nv_schedule.specs.Following.{IsWell, ScheduleTells, TokenTells}
use Rattle.nv_trace.specs.Shape.{IsTokenWithin}
use Rattle.nv_trace.specs.declared.token.Token.{Token}
use Rattle.nv_schedule.proofs.FollowLaws.{behind_none, token_tells}
use Rattle.nv_schedule.proofs.SinceLaws.{all_self}
use Rattle.nv_schedule.proofs.tokens.follow_one.Goals as goal

pub returns-in-Advance-clause-tells : goal.returns-in-Advance-clause-tells
returns-in-Advance-clause-tells g c =
    let fds = c.args.mount.now.fds in
    let cut = c.args.cut in
    let bench = g.D.Bench.state c.args.bench.now in
    subst (λ (token : Token). ScheduleTells fds cut (token ∷ []) c.args.callers.now c.advance_to.new.callers c.args.view.run c.advance_to.result.0.run bench bench c.advance_to.result.1) (sym c.in-Advance.is)
    (token_tells fds cut c.in-Advance.turn c.in-Advance.reach c.args.callers.now c.advance_to.new.callers c.args.view.run c.advance_to.result.0.run bench c.advance_to.result.1
    (subst (λ (at : ℕ). TokenTells fds cut c.in-Advance.reach at c.args.callers.now c.advance_to.new.callers c.args.view.run c.advance_to.result.0.run c.advance_to.result.1) c.place.ensures c.advance_to.ensures.tells))

pub returns-in-Advance-clause-well : goal.returns-in-Advance-clause-well
returns-in-Advance-clause-well g c =
    subst (λ (token : Token). OnOk c.advance_to.result.1 (cut_behind c.args.cut (token ∷ []) ≡ false → All IsWell c.advance_to.new.callers)) (sym c.in-Advance.is) c.advance_to.ensures.well

pub arm-requires-clause-k : goal.arm-requires-clause-k
arm-requires-clause-k g c = (subst IsTokenWithin c.in-Cut.is c.requires.within).0

pub returns-in-Cut-clause-tells : goal.returns-in-Cut-clause-tells
returns-in-Cut-clause-tells g c =
    subst (λ (token : Token). ScheduleTells c.args.mount.now.fds c.args.cut (token ∷ []) c.args.callers.now c.args.callers.now c.args.view.run c.args.view.run (g.D.Bench.state c.args.bench.now) (g.D.Bench.state c.arm.new.self) (Ok tt)) (sym c.in-Cut.is)
    ([], (refl, refl), behind_none c.args.view.run, c.arm.ensures)

pub returns-in-Cut-clause-well : goal.returns-in-Cut-clause-well
returns-in-Cut-clause-well g c = λ uncut. absurd (true≢false (subst (λ (token : Token). cut_behind c.args.cut (token ∷ []) ≡ false) c.in-Cut.is uncut))

pub returns-in-Cut-clause-on : goal.returns-in-Cut-clause-on
returns-in-Cut-clause-on g c = all_self c.args.mount.now.fds c.args.callers.now

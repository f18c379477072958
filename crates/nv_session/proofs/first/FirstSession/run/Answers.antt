-- There are fewer sessions than would be too many, where any was made.
use Rattle.std.proofs.Common.{◌≡◌, ◌+◌, ◌<◌, ap, ◌∙◌, arith, length}
use Rattle.std.specs.Prelude.{Result, Ok, Err}
use Rattle.nv_table.specs.state.States.{PassState}
use Rattle.nv_table.specs.state.Views.{made_of}
use Rattle.nv_session.specs.Sessions.{FirstState}
use Rattle.nv_session.specs.declared.session_error.SessionError.{SessionError}
use Rattle.nv_session.specs.declared.session_error.SessionError.TheVariants.{NoMemory, TooMany}
use Rattle.nv_session.proofs.first.FirstSession.run.Goals as goal
use Rattle.nv_session.proofs.first.FirstSession.run.Goals.{in-Ok, in-Err}

done_is_not_many : (result : Result (Unit {0}) SessionError) → result ≡ Ok tt → result ≡ Err TooMany → ⊥
done_is_not_many result done many = cc

memory_is_not_many : (result : Result (Unit {0}) SessionError) → result ≡ Err NoMemory → result ≡ Err TooMany → ⊥
memory_is_not_many result memory many = cc

pub returns-clause-many : goal.returns-clause-many
returns-clause-many g c =
    let same : c.self.inside.pass ≡ c.args.self.now.pass = ap (λ (f : FirstState). f.pass) c.self.view_is in
    let made = c.made.ensures ∙ ap (λ (p : PassState). made_of p.view) same in
    let few : made_of c.args.self.now.pass.view + length c.args.works.now.items < 4294967296 = omega (arith, made, c.saturating_sub-room.ensures, c.len.ensures, c.if-len-room.false) in
    elim c.match-do_all.branch [
      | in-Ok w ↦ (λ is. absurd (done_is_not_many c.match-do_all.result w.result-is is), λ many. absurd (omega (arith, few, many)))
      | in-Err w ↦ (λ is. absurd (memory_is_not_many c.match-do_all.result w.result-is is), λ many. absurd (omega (arith, few, many)))
    ]

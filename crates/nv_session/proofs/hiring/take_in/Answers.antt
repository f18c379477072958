-- It stands first among those that pass 0 has taken in then.
use Rattle.std.proofs.Common.{◌≡◌, ◌∷◌, sym, ap, subst, ◌∙◌}
use Rattle.nv_table.specs.passes.Seats.{past_of}
use Rattle.nv_table.specs.state.States.{IsOf, PassState}
use Rattle.nv_mount.specs.Mounts.{MountState}
use Rattle.nv_runner.proofs.PassLaws.{join_number, join_of, join_still, taken_first}
use Rattle.nv_session.proofs.hiring.take_in.Goals as goal

pub returns-clause-zero : goal.returns-clause-zero
returns-clause-zero g c =
    let old = c.args.zero.now in
    let new = c.join_pass.new.pass in
    let other = c.session.inside.pass in
    let taken = c.join_pass.ensures.taken in
    let of : IsOf c.args.mount.now.board other = subst (λ (m : MountState). IsOf m.board other) (c.session.invariant.same ∙ sym c.requires.named) c.session.invariant.ready.board in
    record {
      board = join_of c.args.mount.now.board old other new taken c.requires.zero.board;
      number = join_number old other new taken ∙ c.requires.zero.number;
      idle = c.passes_stay_between_calls.ensures.join c.args.mount.now.board old other new c.requires.zero.board of taken c.requires.zero.idle c.session.invariant.ready.idle;
    }

pub returns-clause-still : goal.returns-clause-still
returns-clause-still g c = join_still c.args.zero.now c.session.inside.pass c.join_pass.new.pass c.join_pass.ensures.taken

pub returns-clause-ended : goal.returns-clause-ended
returns-clause-ended g c =
    let same : c.session.inside.pass ≡ c.args.session = cc (c.session.view_is) in
    taken_first c.passes_are_left_alone.ensures.own c.args.zero.now c.session.inside.pass c.join_pass.new.pass c.sees_a_run.ensures.mount c.session.invariant.ready.idle c.join_pass.ensures.taken
    ∙ ap (λ (p : PassState). past_of p.view ∷ c.args.zero.now.view.ended) same

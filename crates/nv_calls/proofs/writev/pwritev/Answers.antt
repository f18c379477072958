-- The last write has its place since the start.
use Rattle.std.proofs.Common.{◌≡◌, true, ◌∷◌, refl, sym, subst, ◌∙◌}
use Rattle.std.specs.Prelude.{Result, Ok, Err, OnErr}
use Rattle.nv_table.specs.passes.Known.{known_by}
use Rattle.nv_table.proofs.passes.KnownLaws.{covers_all}
use Rattle.nv_table.proofs.steps.CallLaws.{later_on}
use Rattle.nv_mirror.specs.declared.answers.Done.{Done}
use Rattle.nv_mirror.specs.declared.answers.Refusal.{Refusal}
use Rattle.nv_mirror.specs.Answers.{IsUnplaced}
use Rattle.nv_calls.specs.histories.Unmoved.{LeavesWords}
use Rattle.nv_calls.specs.writes.Refusals.{IsWriteRefusal}
use Rattle.nv_calls.specs.writes.Writes.{IsWritevOver, ends_to_be_made_again, is_made_again}
use Rattle.nv_calls.proofs.histories.SinceLaws.{writev_ok_since}
use Rattle.nv_calls.proofs.writev.pwritev.Goals as goal

-- it was refused, so that it is made again
again_is : (result : Result Done Refusal) → ends_to_be_made_again result ≡ true → (refusal : Refusal) × (result ≡ Err refusal) × (is_made_again refusal ≡ true)
again_is (Ok done) again = absurd cc
again_is (Err refusal) again = (refusal, refl, again)

pub loop-preserved : goal.loop-preserved
loop-preserved g c =
    let old = c.loop.pass in
    let new = c.try_pwritev-result.new.pass in
    let ensures = c.try_pwritev-result.ensures in
    let again = again_is c.try_pwritev-result.result (sym c.is_made_again.ensures ∙ c.if-not-is_made_again.false) in
    let kept : IsUnplaced old.view new.view = subst (λ r. OnErr r (IsUnplaced old.view new.view)) again.1 ensures.kept in
    record {
      board = ensures.board;
      idle = ensures.idle;
      later = later_on c.args.pass.now old new c.loop.invariant.later ensures.later;
      spare = ensures.spare ∙ c.loop.invariant.spare;
      unplaced = record { seen = kept.seen ∙ c.loop.invariant.unplaced.seen; mine = kept.mine ∙ c.loop.invariant.unplaced.mine };
      again = (
        again.0 ∷ c.loop.invariant.again.0,
        (old, c.loop.invariant.again.1, again.2, subst (IsWritevOver c.args.mount.now.fds c.args.fd c.args.at c.args.parts.now old new) again.1 ensures.over, subst (LeavesWords old new) again.1 ensures.left),
      );
      stays = λ seen. ensures.stop.stays (c.loop.invariant.stays seen);
      knows = covers_all (known_by c.args.pass.now.view) (known_by old.view) (known_by new.view) c.loop.invariant.knows ensures.known.keeps;
      workspace = ensures.workspace;
      bare = ensures.bare;
      next = tt;
      finite = tt;
    }

pub returns-then-not-is_made_again-clause-tried : goal.returns-then-not-is_made_again-clause-tried
returns-then-not-is_made_again-clause-tried g c =
    let ensures = c.try_pwritev-result.ensures in
    record { tries = c.loop.invariant.again.0; last = c.loop.pass; again = c.loop.invariant.again.1; over = ensures.over; left = ensures.left; stays = c.loop.invariant.stays; heeds = ensures.stop }

pub returns-then-not-is_made_again-clause-done : goal.returns-then-not-is_made_again-clause-done
returns-then-not-is_made_again-clause-done g c =
    writev_ok_since c.args.mount.now.fds c.args.fd c.args.at c.args.parts.now c.args.pass.now c.loop.pass c.try_pwritev-result.new.pass c.try_pwritev-result.result c.loop.invariant.later c.loop.invariant.unplaced
    (c.loop.invariant.board.same_mount ∙ sym c.requires.board.same_mount) c.try_pwritev-result.ensures.done

pub returns-then-not-is_made_again-clause-known : goal.returns-then-not-is_made_again-clause-known
returns-then-not-is_made_again-clause-known g c = record { last = c.loop.pass; before = c.loop.invariant.knows; goes = c.try_pwritev-result.ensures.known }

pub returns-then-not-is_made_again-clause-stores : goal.returns-then-not-is_made_again-clause-stores
returns-then-not-is_made_again-clause-stores g c = λ is. subst (IsWriteRefusal (known_by c.loop.pass.view)) is c.try_pwritev-result.ensures.refused

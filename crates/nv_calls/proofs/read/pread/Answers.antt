-- The last try has its place since the start.
use Rattle.std.proofs.Common.{◌≡◌, ◌∷◌, length, refl, sym, ap, subst, ◌∙◌, arith}
use Rattle.std.specs.Prelude.{Err, OnErr}
use Rattle.nv_table.specs.passes.Known.{known_by}
use Rattle.nv_table.proofs.passes.KnownLaws.{covers_all}
use Rattle.nv_table.proofs.steps.CallLaws.{later_on}
use Rattle.nv_mirror.specs.declared.answers.Refusal.TheVariants.{Busy}
use Rattle.nv_mirror.specs.Answers.{IsUnplaced}
use Rattle.nv_calls.specs.reads.Reads.{IsReadOver}
use Rattle.nv_calls.specs.histories.Tries.{WereBusy}
use Rattle.nv_calls.proofs.histories.SinceLaws.{ok_since}
use Rattle.nv_calls.proofs.read.pread.Goals as goal

pub loop-preserved : goal.loop-preserved
loop-preserved g c =
    let fds = c.args.mount.now.fds in
    let start = c.args.pass.now in
    let old = c.loop.pass in
    let new = c.try_pread-result.new.pass in
    let list = c.try_pread-result.new.buf in
    let ensures = c.try_pread-result.ensures in
    let cell = c.in-Err-Busy.field-0-0 in
    let refused : c.try_pread-result.result ≡ Err c.in-Err-Busy.field-0 = c.in-Err-Busy.is in
    let held : c.in-Err-Busy.field-0 ≡ Busy cell = (rw c.in-Err-Busy.is at c.in-Err-Busy.field-0-is) in
    let busy : c.try_pread-result.result ≡ Err (Busy cell) = refused ∙ ap Err held in
    let kept : IsUnplaced old.view new.view = subst (λ r. OnErr r (IsUnplaced old.view new.view)) busy ensures.kept in
    let len : length list ≡ length c.loop.buf = omega arith in
    record {
      board = ensures.board;
      idle = ensures.idle;
      later = later_on start old new c.loop.invariant.later ensures.later;
      spare = ensures.spare ∙ c.loop.invariant.spare;
      unplaced = record { seen = kept.seen ∙ c.loop.invariant.unplaced.seen; mine = kept.mine ∙ c.loop.invariant.unplaced.mine };
      tried = (
        record { cell = cell; list = list } ∷ c.loop.invariant.tried.0,
        (
          old,
          subst (λ n. WereBusy fds c.args.fd c.args.at n c.loop.invariant.tried.0 start old) (sym len) c.loop.invariant.tried.1,
          refl,
          subst (IsReadOver fds c.args.fd c.args.at list old new) busy ensures.over,
        ),
      );
      stays = λ seen. ensures.stop.stays (c.loop.invariant.stays seen);
      knows = covers_all (known_by start.view) (known_by old.view) (known_by new.view) c.loop.invariant.knows ensures.known.keeps;
      next = tt;
      finite = tt;
    }

pub returns-in_default-clause-tried : goal.returns-in_default-clause-tried
returns-in_default-clause-tried g c =
    let len : length c.try_pread-result.new.buf ≡ length c.loop.buf = omega arith in
    record {
      tries = c.loop.invariant.tried.0;
      last = c.loop.pass;
      busy = subst (λ n. WereBusy c.args.mount.now.fds c.args.fd c.args.at n c.loop.invariant.tried.0 c.args.pass.now c.loop.pass) (sym len) c.loop.invariant.tried.1;
      over = c.try_pread-result.ensures.over;
      stays = c.loop.invariant.stays;
      heeds = c.try_pread-result.ensures.stop;
    }

pub returns-in_default-clause-done : goal.returns-in_default-clause-done
returns-in_default-clause-done g c =
    ok_since c.args.mount.now.fds c.args.fd c.args.at c.try_pread-result.new.buf c.args.pass.now c.loop.pass c.try_pread-result.new.pass c.try_pread-result.result c.loop.invariant.later c.loop.invariant.unplaced
    (c.loop.invariant.board.same_mount ∙ sym c.requires.board.same_mount) c.try_pread-result.ensures.done

pub returns-in_default-clause-known : goal.returns-in_default-clause-known
returns-in_default-clause-known g c = record { last = c.loop.pass; before = c.loop.invariant.knows; goes = c.try_pread-result.ensures.known }

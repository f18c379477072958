-- The last try has its place since the start.
use Rattle.std.proofs.Common.{◌≡◌, ◌∷◌, length, sym, ap, subst, ◌∙◌}
use Rattle.std.specs.List.{sum}
use Rattle.std.specs.Prelude.{Err, OnErr}
use Rattle.nv_table.specs.passes.Known.{known_by}
use Rattle.nv_table.proofs.passes.KnownLaws.{covers_all}
use Rattle.nv_table.proofs.steps.CallLaws.{later_on}
use Rattle.nv_mirror.specs.declared.answers.Refusal.TheVariants.{Busy}
use Rattle.nv_mirror.specs.Answers.{IsUnplaced}
use Rattle.nv_calls.specs.calls.Asks.{asks_readv}
use Rattle.nv_calls.specs.reads.Reads.{IsReadvOver}
use Rattle.nv_calls.specs.histories.Tries.{WereBusyAs}
use Rattle.nv_calls.proofs.histories.SinceLaws.{readv_ok_since}
use Rattle.nv_calls.proofs.readv.preadv.Goals as goal

pub loop-preserved : goal.loop-preserved
loop-preserved g c =
    let fds = c.args.mount.now.fds in
    let start = c.args.pass.now in
    let old = c.loop.pass in
    let new = c.try_preadv-result.new.pass in
    let parts = c.try_preadv-result.new.parts in
    let ensures = c.try_preadv-result.ensures in
    let cell = c.in-Err-Busy.field-0-0 in
    let refused : c.try_preadv-result.result ≡ Err c.in-Err-Busy.field-0 = c.in-Err-Busy.is in
    let held : c.in-Err-Busy.field-0 ≡ Busy cell = (rw c.in-Err-Busy.is at c.in-Err-Busy.field-0-is) in
    let busy : c.try_preadv-result.result ≡ Err (Busy cell) = refused ∙ ap Err held in
    let kept : IsUnplaced old.view new.view = subst (λ r. OnErr r (IsUnplaced old.view new.view)) busy ensures.kept in
    let lens = ensures.got.0 ∙ c.loop.invariant.lens in
    record {
      board = ensures.board;
      idle = ensures.idle;
      later = later_on start old new c.loop.invariant.later ensures.later;
      spare = ensures.spare ∙ c.loop.invariant.spare;
      unplaced = record { seen = kept.seen ∙ c.loop.invariant.unplaced.seen; mine = kept.mine ∙ c.loop.invariant.unplaced.mine };
      lens = lens;
      tried = (
        record { cell = cell; list = parts.list } ∷ c.loop.invariant.tried.0,
        (
          old,
          c.loop.invariant.tried.1,
          ensures.got.1 ∙ ap sum lens,
          subst (λ all. IsReadvOver fds c.args.fd c.args.at all parts.list old new (Err (Busy cell))) lens (subst (IsReadvOver fds c.args.fd c.args.at parts.lens parts.list old new) busy ensures.over),
        ),
      );
      stays = λ seen. ensures.stop.stays (c.loop.invariant.stays seen);
      knows = covers_all (known_by start.view) (known_by old.view) (known_by new.view) c.loop.invariant.knows ensures.known.keeps;
      next = tt;
      finite = tt;
    }

pub returns-in_default-clause-tried : goal.returns-in_default-clause-tried
returns-in_default-clause-tried g c =
    let ensures = c.try_preadv-result.ensures in
    let lens = ensures.got.0 ∙ c.loop.invariant.lens in
    let size : length c.try_preadv-result.new.parts.list ≡ sum c.args.parts.now.lens = ensures.got.1 ∙ ap sum lens in
    record {
      tries = c.loop.invariant.tried.0;
      last = c.loop.pass;
      busy = subst (λ n. WereBusyAs (asks_readv c.args.at c.try_preadv-result.new.parts.lens) c.args.mount.now.fds c.args.fd c.args.at n c.loop.invariant.tried.0 c.args.pass.now c.loop.pass) (sym size)
          (subst (λ all. WereBusyAs (asks_readv c.args.at all) c.args.mount.now.fds c.args.fd c.args.at (sum c.args.parts.now.lens) c.loop.invariant.tried.0 c.args.pass.now c.loop.pass) (sym lens) c.loop.invariant.tried.1);
      over = ensures.over;
      stays = c.loop.invariant.stays;
      heeds = ensures.stop;
    }

pub returns-in_default-clause-done : goal.returns-in_default-clause-done
returns-in_default-clause-done g c =
    readv_ok_since c.args.mount.now.fds c.args.fd c.args.at c.try_preadv-result.new.parts.lens c.try_preadv-result.new.parts.parts c.args.pass.now c.loop.pass c.try_preadv-result.new.pass c.try_preadv-result.result c.loop.invariant.later c.loop.invariant.unplaced
    (c.loop.invariant.board.same_mount ∙ sym c.requires.board.same_mount) c.try_preadv-result.ensures.done

pub returns-in_default-clause-got : goal.returns-in_default-clause-got
returns-in_default-clause-got g c =
    let got = c.try_preadv-result.ensures.got in
    (got.0 ∙ c.loop.invariant.lens, got.1, got.2, got.3)

pub returns-in_default-clause-known : goal.returns-in_default-clause-known
returns-in_default-clause-known g c = record { last = c.loop.pass; before = c.loop.invariant.knows; goes = c.try_preadv-result.ensures.known }

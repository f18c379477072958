-- What the call told is told of what was asked.
use Rattle.std.proofs.Common.{refl, sym, subst, ◌∙◌}
use Rattle.std.specs.Prelude.{IfOk}
use Rattle.nv_trace.specs.declared.trace_call.TraceCall.{TraceCall}
use Rattle.nv_trace.specs.declared.trace_call.TraceCall.TheVariants as calls
use Rattle.nv_runner.specs.Calls.{IsAnswered}
use Rattle.nv_runner.proofs.CallLaws.{ok_answered, ok_on}
use Rattle.nv_runner.proofs.TryLaws.{answer_on}
use Rattle.nv_runner.proofs.make.make_call.Goals as goal

pub returns-in-Pread-clause-answered : goal.returns-in-Pread-clause-answered
returns-in-Pread-clause-answered g c =
    subst (λ (call : TraceCall). IfOk c.make_read.result (λ answer. IsAnswered c.args.mount.now.fds c.args.worker call c.args.pass.now c.make_read.new.pass answer)) (sym c.in-Pread.is)
    (ok_answered c.args.mount.now.fds c.args.worker (calls.Pread c.in-Pread.fd c.in-Pread.at c.in-Pread.len) c.args.pass.now c.make_read.new.pass c.make_read.result
    (c.make_read.ensures.board.same_mount ∙ sym c.requires.board.same_mount) c.make_read.ensures.later (c.make_read.ensures.made c.args.worker) (c.make_read.ensures.told c.args.worker) c.make_read.ensures.stays c.make_read.ensures.stop c.make_read.ensures.opens
    (ok_on c.args.worker c.make_read.new.pass.view.opened.sizes (calls.Pread c.in-Pread.fd c.in-Pread.at c.in-Pread.len) c.args.pass.now c.make_read.new.pass c.make_read.result refl c.make_read.ensures.on)
    c.make_read.ensures.admitted)

pub returns-in-Preadv-clause-answered : goal.returns-in-Preadv-clause-answered
returns-in-Preadv-clause-answered g c =
    subst (λ (call : TraceCall). IfOk c.make_readv.result (λ answer. IsAnswered c.args.mount.now.fds c.args.worker call c.args.pass.now c.make_readv.new.pass answer)) (sym c.in-Preadv.is)
    (ok_answered c.args.mount.now.fds c.args.worker (calls.Preadv c.in-Preadv.fd c.in-Preadv.at c.in-Preadv.lens) c.args.pass.now c.make_readv.new.pass c.make_readv.result
    (c.make_readv.ensures.board.same_mount ∙ sym c.requires.board.same_mount) c.make_readv.ensures.later (c.make_readv.ensures.made c.args.worker) (c.make_readv.ensures.told c.args.worker) c.make_readv.ensures.stays c.make_readv.ensures.stop c.make_readv.ensures.opens
    (ok_on c.args.worker c.make_readv.new.pass.view.opened.sizes (calls.Preadv c.in-Preadv.fd c.in-Preadv.at c.in-Preadv.lens) c.args.pass.now c.make_readv.new.pass c.make_readv.result refl c.make_readv.ensures.on)
    c.make_readv.ensures.admitted)

pub returns-in-Fsync-clause-answered : goal.returns-in-Fsync-clause-answered
returns-in-Fsync-clause-answered g c =
    subst (λ (call : TraceCall). IsAnswered c.args.mount.now.fds c.args.worker call c.args.pass.now c.make_sync.new.pass c.make_sync.result) (sym c.in-Fsync.is)
    record {
      opened = c.make_sync.ensures.board.same_mount ∙ sym c.requires.board.same_mount;
      later = c.make_sync.ensures.later;
      made = c.make_sync.ensures.made c.args.worker;
      told = c.make_sync.ensures.told c.args.worker;
      stays = c.make_sync.ensures.stays;
      stop = c.make_sync.ensures.stop;
      opens = c.make_sync.ensures.opens;
      on = answer_on c.args.worker c.make_sync.new.pass.view.opened.sizes (calls.Fsync c.in-Fsync.fd) c.make_sync.result c.args.pass.now c.make_sync.new.pass refl c.make_sync.ensures.on;
      admitted = c.make_sync.ensures.admitted;
    }

-- The parts are those of its read.
use Rattle.std.proofs.Common.{sym, subst}
use Rattle.nv_calls.specs.calls.Scattered.{Scattered}
use Rattle.nv_calls.specs.reads.ReadMachines.{IsReadvUnderWay}
use Rattle.nv_schedule.proofs.hand.PartsAtHand.advance.Goals as goal

pub returns-clause-goes : goal.returns-clause-goes
returns-clause-goes g c = λ begun way.
    c.advance_parts.ensures.goes begun (subst (λ (parts : Scattered). IsReadvUnderWay c.args.mount.now.fds c.args.machine.now parts begun c.args.pass.now) (sym c.self.view_is) way)

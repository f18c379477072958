-- It may begin on an idle pass.
use Rattle.std.proofs.Common.{sym, ap, subst}
use Rattle.nv_plain.specs.declared.call.FileCall.TheVariants.{Read}
use Rattle.nv_core.specs.state.Words.{Sizes}
use Rattle.nv_op.specs.Ops.{call_asked}
use Rattle.nv_mirror.specs.Fronts.{Fits, has_begun}
use Rattle.nv_mirror.specs.declared.pageless.PagelessMachine.{PagelessMachine}
use Rattle.nv_mirror.specs.Controls.{asked_at}
use Rattle.nv_mirror.specs.Pageless as pageless
use Rattle.nv_mirror.proofs.FrontLaws.{front_begins}
use Rattle.nv_cache.proofs.read.RunningRead.new.Goals as goal

pub returns-else-len-eq0-clause-begins : goal.returns-else-len-eq0-clause-begins
returns-else-len-eq0-clause-begins c list room pass long same idle = record {
  asks = ap (Read c.args.file c.args.at) (sym long);
  stands = (
    ap call_asked c.new-else-len-eq0.ensures.asked,
    front_begins c.new-else-len-eq0.result pass (subst (λ (s : Sizes). Fits s c.new-else-len-eq0.result) (sym same) c.new-else-len-eq0.ensures.fits) c.new-else-len-eq0.ensures.begins idle,
  );
}

pub returns-else-len-eq0-clause-asks : goal.returns-else-len-eq0-clause-asks
returns-else-len-eq0-clause-asks c asked pass = ap (λ control. asked_at asked (has_begun control) pass) c.new-else-len-eq0.ensures.begins

pub returns-then-len-eq0-clause-asks : goal.returns-then-len-eq0-clause-asks
returns-then-len-eq0-clause-asks c asked pass = ap (λ (m : PagelessMachine). asked_at asked (pageless.has_begun m.control) pass) c.new.ensures.machine

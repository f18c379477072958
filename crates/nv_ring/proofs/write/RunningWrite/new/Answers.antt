-- It may begin on an idle pass.
use Rattle.std.proofs.Common.{sym, ap, subst, ◌∙◌}
use Rattle.nv_op.specs.Ops.{call_asked}
use Rattle.nv_core.specs.state.Passes.{is_write}
use Rattle.nv_core.specs.state.Words.{Sizes}
use Rattle.nv_table.specs.state.Keys.{sizes_of}
use Rattle.nv_mirror.specs.declared.pageless.PagelessMachine.{PagelessMachine}
use Rattle.nv_ring.specs.declared.write.RunningWrite.TheVariants.{Pageless}
use Rattle.nv_mirror.specs.Fronts.{Fits, has_begun}
use Rattle.nv_mirror.specs.Controls.{asked_at}
use Rattle.nv_mirror.specs.Pageless as pageless
use Rattle.nv_ring.specs.WriteSteps.{IsFresh}
use Rattle.nv_ring.proofs.WriteStepLaws.{fresh_pageless, fresh_front}
use Rattle.nv_mirror.proofs.FrontLaws.{front_begins}
use Rattle.nv_ring.proofs.RunningLaws.{asks_some}
use Rattle.nv_ring.proofs.write.RunningWrite.new.Goals as goal

pub returns-else-size-eq0-clause-begins : goal.returns-else-size-eq0-clause-begins
returns-else-size-eq0-clause-begins c pass same idle = (
  ap call_asked c.new-else-size-eq0.ensures.asked,
  ap (λ asked. is_write (call_asked asked)) c.new-else-size-eq0.ensures.asked ∙ asks_some c.args.asked c.requires.write (λ none. c.if-size-eq0.false (c.size.ensures ∙ none)),
  front_begins c.new-else-size-eq0.result pass (subst (λ (s : Sizes). Fits s c.new-else-size-eq0.result) (sym same) c.new-else-size-eq0.ensures.fits) c.new-else-size-eq0.ensures.begins idle,
)

pub returns-then-size-eq0-clause-fresh : goal.returns-then-size-eq0-clause-fresh
returns-then-size-eq0-clause-fresh c =
    subst (λ (m : PagelessMachine). IsFresh (sizes_of c.args.layout) (call_asked c.args.asked) (Pageless m)) (sym c.new.ensures.machine)
    (fresh_pageless (sizes_of c.args.layout) c.args.asked (sym c.size.ensures ∙ c.if-size-eq0.true))

pub returns-else-size-eq0-clause-fresh : goal.returns-else-size-eq0-clause-fresh
returns-else-size-eq0-clause-fresh c =
    fresh_front (sizes_of c.args.layout) c.args.asked c.new-else-size-eq0.result c.new-else-size-eq0.ensures.asked c.new-else-size-eq0.ensures.begins c.new-else-size-eq0.ensures.fits

pub returns-then-size-eq0-clause-asks : goal.returns-then-size-eq0-clause-asks
returns-then-size-eq0-clause-asks c call pass = ap (λ (m : PagelessMachine). asked_at call (pageless.has_begun m.control) pass) c.new.ensures.machine

pub returns-else-size-eq0-clause-asks : goal.returns-else-size-eq0-clause-asks
returns-else-size-eq0-clause-asks c call pass = ap (λ control. asked_at call (has_begun control) pass) c.new-else-size-eq0.ensures.begins

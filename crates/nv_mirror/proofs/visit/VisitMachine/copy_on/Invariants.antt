-- The pages up to this one are copied, and nothing else has changed.
use Rattle.std.proofs.Common.{◌-◌}
use Rattle.nv_core.specs.state.Passes.{end_read}
use Rattle.nv_pages.specs.Altered.{IsAltered}
use Rattle.nv_table.specs.state.Keys.{sizes_of}
use Rattle.nv_table.specs.state.States.{PassState}
use Rattle.nv_mirror.specs.declared.visit.VisitControl.TheVariants as visits
use Rattle.nv_mirror.specs.Visits.{IsInCall, visit_call_of}
use Rattle.nv_mirror.proofs.visit.VisitMachine.copy_on.Given as goal

abbrev pub invariant-loop-self : goal.invariant-loop-self
invariant-loop-self g l = record {
  same : IsAltered (λ kept. kept) l.fn.pass l.pass;
  copied : (start : PassState) → IsInCall l.self visits.Look l.fn.list start l.fn.pass → IsInCall (record l.self { page = l.page; copied = l.copied }) visits.Look l.list start l.fn.pass;
}

abbrev pub decreases-loop-self : goal.decreases-loop-self
decreases-loop-self g l = end_read (sizes_of l.layout) (visit_call_of l.self) l.self.length - l.page

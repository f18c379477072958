use Rattle.std.proofs.Common.{ap, ◌∙◌}
use Rattle.nv_pmem.specs.Part.{flushed}
use Rattle.nv_pmem.proofs.HeldLines.{holds_flushed, flush_held}
use Rattle.nv_pmem.proofs.mem_line.MemLine.flush.Goals as goal

pub invariant_of-self : goal.invariant_of-self
invariant_of-self c =
    let rows = c.self.inside in
    holds_flushed rows.is_flushed rows.is_behind rows.newest rows.oldest rows.counts rows.marks rows.later c.self.invariant

pub returns : goal.returns
returns c =
    let rows = c.self.inside in
    flush_held rows.oldest rows.counts rows.marks rows.later c.self.invariant.long c.self.invariant.few ∙ ap flushed c.self.view_is

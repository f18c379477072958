use Rattle.std.proofs.Common.{sym, ap, ◌∙◌}
use Rattle.nv_pmem.specs.Part.{fenced}
use Rattle.nv_pmem.proofs.HeldLines.{holds_settled, fence_held, unmarked_fence}
use Rattle.nv_pmem.proofs.mem_line.MemLine.fence.Goals as goal

pub returns-then-not-self : goal.returns-then-not-self
returns-then-not-self c =
    let rows = c.self.inside in
    sym c.self.view_is ∙ unmarked_fence rows.is_flushed rows.is_behind rows.newest rows.oldest rows.counts rows.marks rows.later c.self.invariant c.if-not-self.true
    ∙ ap fenced c.self.view_is

pub invariant_of-self : goal.invariant_of-self
invariant_of-self c = holds_settled c.self.inside.is_behind c.self.inside.newest c.self.inside.later c.self.invariant.wide.0 c.self.invariant.long c.self.invariant.rows_wide

pub returns-else-self : goal.returns-else-self
returns-else-self c =
    let rows = c.self.inside in
    fence_held rows.is_flushed rows.is_behind rows.newest rows.oldest rows.counts rows.marks rows.later c.self.invariant c.if-not-self.false c.if-self.false
    ∙ ap fenced c.self.view_is

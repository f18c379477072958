use Rattle.std.proofs.Common.{sym, ap, ◌∙◌}
use Rattle.nv_pmem.specs.MemLine.{held_line}
use Rattle.nv_pmem.specs.Part.{Line, newest, newest_value, word_at}
use Rattle.nv_pmem.proofs.HeldLines.{held_at}
use Rattle.nv_pmem.proofs.LineLaws.{word_at-newest}
use Rattle.nv_pmem.proofs.mem_line.MemLine.load.Goals as goal

pub returns : goal.returns
returns c =
    let rows = c.self.inside in
    c.self.invariant.shown c.args.word c.requires
    ∙ ap newest_value (sym (held_at rows.oldest rows.counts rows.marks rows.later c.args.word c.requires))
    ∙ sym (word_at-newest (held_line rows.oldest rows.counts rows.marks rows.later) c.args.word)
    ∙ ap (λ (line : Line). word_at (newest line) c.args.word) c.self.view_is

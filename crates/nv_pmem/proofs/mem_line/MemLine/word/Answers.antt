use Rattle.std.proofs.Common.{refl, sym, ap, ◌∙◌}
use Rattle.nv_pmem.specs.Part.{Line, word_of}
use Rattle.nv_pmem.proofs.HeldLines.{same_parts, held_by, held_at}
use Rattle.nv_pmem.proofs.mem_line.MemLine.word.Goals as goal

pub returns : goal.returns
returns c =
    let rows = c.self.inside in
    same_parts _ _ _ _ _ _ refl c.taken_from.ensures c.noted.ensures
    ∙ sym (held_by rows.oldest rows.counts rows.marks rows.later c.args.at)
    ∙ sym (held_at rows.oldest rows.counts rows.marks rows.later c.args.at c.requires)
    ∙ ap (λ (line : Line). word_of line c.args.at) c.self.view_is

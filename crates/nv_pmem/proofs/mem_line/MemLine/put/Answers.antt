use Rattle.std.proofs.Common.{◌≡◌, ◌≤◌, None, length, slice_set, ap, ◌∙◌, arith}
use Rattle.nv_pmem.specs.Part.{Word, Line}
use Rattle.nv_pmem.proofs.HeldLines.{holds_put_as, put_held_as}
use Rattle.nv_pmem.proofs.mem_line.MemLine.put.Goals as goal

pub put_into-requires-clause-wide : goal.put_into-requires-clause-wide
put_into-requires-clause-wide c = c.self.invariant.rows_wide

pub invariant_of-self : goal.invariant_of-self
invariant_of-self c =
    let rows = c.self.inside in
    let word : Word = record { oldest = c.word.inside.oldest; later = c.word.inside.later.items; flushed = c.word.inside.flushed } in
    let unflushed : word.flushed ≡ None = ap (λ (one : Word). one.flushed) c.word.view_is ∙ c.requires.unflushed in
    let short : length word.later ≤ 15 = omega (arith, c.len.ensures.value, c.len.ensures.fits) in
    holds_put_as rows.is_flushed rows.is_behind rows.newest rows.oldest rows.counts rows.marks rows.later c.put_into.new.rows c.args.at word c.len.result c.newest.result c.self.invariant
    c.requires.at short unflushed c.put_into.array_long.4 c.put_into.ensures.wide (rw c.deref.ensures.0 at c.put_into.ensures.put) c.put_into.ensures.others c.len.ensures.value
    (rw (← c.word.view_is) at c.newest.ensures)

pub returns : goal.returns
returns c =
    let rows = c.self.inside in
    let wide = c.self.invariant.wide in
    let word : Word = record { oldest = c.word.inside.oldest; later = c.word.inside.later.items; flushed = c.word.inside.flushed } in
    let unflushed : word.flushed ≡ None = ap (λ (one : Word). one.flushed) c.word.view_is ∙ c.requires.unflushed in
    put_held_as rows.oldest rows.counts rows.marks rows.later c.put_into.new.rows c.args.at word c.len.result
    c.requires.at wide.1 wide.2 wide.3 unflushed (rw c.deref.ensures.0 at c.put_into.ensures.put) c.put_into.ensures.others c.len.ensures.value
    ∙ ap (λ (line : Line). slice_set line c.args.at word) c.self.view_is
    ∙ ap (slice_set c.args.self.now c.args.at) c.word.view_is

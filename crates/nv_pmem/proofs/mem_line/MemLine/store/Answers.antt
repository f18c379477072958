use Rattle.std.proofs.Common.{◌<◌, length, [], get_or, ap, ◌∙◌, refl, arith}
use Rattle.std.proofs.lemmas.List.{get_or_default}
use Rattle.nv_pmem.specs.Part.{stored}
use Rattle.nv_pmem.proofs.HeldLines.{count_is, holds_stored, store_held}
use Rattle.nv_pmem.proofs.mem_line.MemLine.store.Goals as goal

pub bounds-self-inside-count : goal.bounds-self-inside-count
bounds-self-inside-count c =
    let rows = c.self.inside in
    omega (arith, c.requires.spare, count_is rows.oldest rows.counts rows.marks rows.later c.args.self.now c.args.word c.self.view_is c.self.invariant.long (c.self.invariant.few c.args.word) c.requires.word)

pub invariant_of-self : goal.invariant_of-self
invariant_of-self c =
    let rows = c.self.inside in
    let count = get_or rows.counts c.args.word 0 in
    let row = get_or rows.later count [] in
    let less : count < 15 = omega (arith, c.requires.spare, count_is rows.oldest rows.counts rows.marks rows.later c.args.self.now c.args.word c.self.view_is c.self.invariant.long (c.self.invariant.few c.args.word) c.requires.word) in
    let there : count < length rows.later = omega (arith, less, c.self.invariant.long) in
    holds_stored rows.is_flushed rows.is_behind rows.newest rows.oldest rows.counts rows.marks rows.later c.args.word c.args.value count row c.self.invariant
    c.requires.word refl less (get_or_default rows.later count [] row there) (c.self.invariant.rows_wide count [] less)

pub returns : goal.returns
returns c =
    let rows = c.self.inside in
    let count = get_or rows.counts c.args.word 0 in
    let row = get_or rows.later count [] in
    let less : count < 15 = omega (arith, c.requires.spare, count_is rows.oldest rows.counts rows.marks rows.later c.args.self.now c.args.word c.self.view_is c.self.invariant.long (c.self.invariant.few c.args.word) c.requires.word) in
    let there : count < length rows.later = omega (arith, less, c.self.invariant.long) in
    store_held rows.oldest rows.counts rows.marks rows.later c.args.word c.args.value count row c.requires.word c.self.invariant.wide.2 refl there
    (get_or_default rows.later count [] row there) (c.self.invariant.rows_wide count [] less)
    ∙ ap (stored c.args.word c.args.value) c.self.view_is

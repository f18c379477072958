use Rattle.std.proofs.Common.{◌<◌, [], length, get_or, set, ◌∙◌, arith}
use Rattle.std.proofs.lemmas.List.{get_or_default, length-set}
use Rattle.nv_pmem.proofs.HeldLines.{rows_put, column_other, wide_set}
use Rattle.nv_pmem.proofs.mem_line.put_into.Goals as goal

pub loop-row-preserved : goal.loop-row-preserved
loop-row-preserved c =
    let rows = c.loop-row.rows in
    let row = c.loop-row.row in
    let these = get_or rows row [] in
    let value = get_or c.args.values.now row 0 in
    let less : row < 15 = omega (arith, c.loop-row-test.true, c.requires.count) in
    let there : row < length rows = omega (arith, less, c.loop-row.invariant.long) in
    let eight = c.loop-row.invariant.wide row [] less in
    let wide : c.args.at < length these = omega (arith, c.requires.at, eight) in
    record {
      long = length-set rows row (set these c.args.at value) ∙ c.loop-row.invariant.long;
      wide = wide_set rows row c.args.at value these c.loop-row.invariant.wide c.loop-row.invariant.long less eight;
      put = rows_put rows c.args.values.now row c.args.at these c.loop-row-test.true there wide c.loop-row.invariant.put;
      others = λ other differs. column_other rows row c.args.at value other these (get_or_default rows row [] these there) differs ∙ c.loop-row.invariant.others other differs;
    }

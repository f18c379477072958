use Rattle.std.proofs.Common.{length, ap, arith}
use Rattle.std.proofs.lemmas.List.{length-map}
use Rattle.nv_trace.proofs.PartLists.{some_part}
use Rattle.nv_trace.proofs.spelling.parts_of.Goals as goal

pub returns-in-Some-clause-count : goal.returns-in-Some-clause-count
returns-in-Some-clause-count c =
    let some = some_part 44 c.args.field.now in
    let same = ap length c.in-Some.ensures.parts in
    let count = length-map c.in-Some.parts.items (λ part. part.now) in
    (omega (arith, some, same, count), c.in-Some.ensures.few)

-- The part has as many bytes as are put.
use Rattle.std.proofs.Common.{◌≡◌, ◌+◌, ◌-◌, ◌++◌, length, take, drop, ap, ◌∙◌, arith, append_assoc}
use Rattle.nv_mirror.proofs.read_ways.put_part.Goals as goal

pub returns : goal.returns
returns c =
    let list = c.args.list.now in
    let place = c.args.place in
    let from = c.args.from in
    let size = c.args.size in
    let room = c.args.room.now in
    let count : from + size - from ≡ size = omega arith in
    let rest = drop (place + length (take (from + size - from) (drop from room))) list in
    (rest, c.put.ensures ∙ append_assoc (take place list) (take (from + size - from) (drop from room)) rest ∙ ap (λ n. take place list ++ (take n (drop from room) ++ rest)) count)

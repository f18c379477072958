use Rattle.std.proofs.Common.{List, ℕ, ◌∙◌, ap}
use Rattle.std.specs.Prelude.{slice_set}
use Rattle.nv_runner.proofs.ReadvLaws.{room_filled}
use Rattle.nv_runner.proofs.parts.fill_rooms.Goals as goal

pub loop-i-preserved : goal.loop-i-preserved
loop-i-preserved c =
    ap (λ (rooms : List (List ℕ)). slice_set (slice_set rooms c.loop-i.i c.replace-room.new.dest) c.loop-i.i c.put_in.result) c.loop-i.invariant
    ∙ room_filled c.args.scatter.now.parts c.args.rooms.now c.loop-i.i c.replace-room.new.dest c.put_in.result c.loop-i-test.true c.requires.count.0 (c.put_in.ensures ∙ c.part.ensures)

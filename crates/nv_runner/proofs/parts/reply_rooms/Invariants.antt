use Rattle.std.proofs.Common.{◌≡◌, length, map, take}
use Rattle.nv_runner.proofs.parts.reply_rooms.Given as goal

abbrev pub invariant-loop-len : goal.invariant-loop-len
invariant-loop-len l = map (λ room. length room) l.rooms.items ≡ take l.len-index l.len-items

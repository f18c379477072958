use Rattle.std.proofs.Common.{◌≡◌, ◌++◌, take, drop}
use Rattle.nv_runner.proofs.parts.fill_rooms.Given as goal

-- those so far have what their parts got
abbrev pub invariant-loop-i : goal.invariant-loop-i
invariant-loop-i l = l.rooms ≡ take l.i l.scatter.parts ++ drop l.i l.initial.rooms

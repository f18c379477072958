use Rattle.std.proofs.Common.{◌≡◌, ◌++◌, take, drop}
use Rattle.nv_table.proofs.pass.turn_once.Given as goal

-- those before this place have moved down
abbrev pub invariant-loop-i : goal.invariant-loop-i
invariant-loop-i l = l.row ≡ take l.i (drop 1 l.initial.row) ++ drop l.i l.initial.row

use Rattle.std.proofs.Common.{◌≡◌, ◌++◌, take, drop}
use Rattle.nv_table.proofs.pass.turn_short.Given as goal

abbrev pub invariant-loop : goal.invariant-loop
invariant-loop l = l.row ≡ drop l.counter l.initial.row ++ take l.counter l.initial.row

use Rattle.std.proofs.Common.{◌≡◌, ◌≤◌, ◌++◌, take, drop}
use Rattle.nv_table.proofs.pass.turn.Given as goal

abbrev pub invariant-loop : goal.invariant-loop
invariant-loop g l =
    (l.seat.table_id ≡ l.initial.seat.table_id)
    × (l.seat.id ≡ l.initial.seat.id)
    × (l.counter ≤ l.count)
    × (l.seat.me ≡ (l.initial.seat.me.0, drop l.counter l.initial.seat.me.1 ++ take l.counter l.initial.seat.me.1))

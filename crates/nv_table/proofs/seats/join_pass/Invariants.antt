use Rattle.std.proofs.Common.{drop}
use Rattle.nv_table.proofs.passes.BetweenLaws.{last_taken}
use Rattle.nv_table.proofs.seats.join_pass.Given as goal

abbrev pub ghosts-join : goal.ghosts-join
ghosts-join g a = record { past = last_taken a.seat.now.me.0.ended; before = drop 1 a.seat.now.me.0.ended }

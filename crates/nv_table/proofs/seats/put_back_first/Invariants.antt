use Rattle.nv_table.specs.state.Layout.{cell_of}
use Rattle.nv_table.proofs.steps.TurnLaws.{first_slot}
use Rattle.nv_table.proofs.seats.put_back_first.Given as goal

abbrev pub ghosts-leave : goal.ghosts-leave
ghosts-leave g a = record { cell = cell_of a.seat.now.me.0.opened.sizes (first_slot a.seat.now.me.1) }

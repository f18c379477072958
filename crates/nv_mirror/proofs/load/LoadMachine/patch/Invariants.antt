-- One call was made, which read the piece, or has failed.
use Rattle.std.specs.Prelude.{◌≡◌}
use Rattle.nv_core.specs.state.Values.{Made}
use Rattle.nv_mirror.specs.PieceReads.{piece_read, HasFailedPieceRead}
use Rattle.nv_mirror.proofs.load.LoadMachine.patch.Given as goal

abbrev pub ghosts-perform_after : goal.ghosts-perform_after
ghosts-perform_after g a = record { said = HasFailedPieceRead }

abbrev pub ghosts-perform_read : goal.ghosts-perform_read
ghosts-perform_read g a = record { said = λ works. works ≡ piece_read a.pass.now.view.opened.sizes a._number a._at a._bytes.now Made }

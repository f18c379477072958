-- One call was made, which read the page, or has failed.
use Rattle.std.specs.Prelude.{◌≡◌}
use Rattle.nv_mirror.specs.PageReads.{page_read, HasFailedPageRead}
use Rattle.nv_mirror.proofs.load.LoadMachine.copy.Given as goal

abbrev pub ghosts-perform_after : goal.ghosts-perform_after
ghosts-perform_after g a = record { said = HasFailedPageRead }

abbrev pub ghosts-perform_read : goal.ghosts-perform_read
ghosts-perform_read g a = record { said = λ works. works ≡ page_read a._number a._at a._bytes.now }

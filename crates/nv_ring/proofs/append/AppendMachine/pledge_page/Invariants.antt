-- No device call before it has failed.
use Rattle.std.specs.Prelude.{◌≡◌, None}
use Rattle.nv_mirror.specs.PassSteps.{fault_in}
use Rattle.nv_ring.proofs.append.AppendMachine.pledge_page.Given as goal

abbrev pub ghosts-perform_after : goal.ghosts-perform_after
ghosts-perform_after g a = record { said = λ works. fault_in works ≡ None }

-- A part has failed where STOP is set.
use Rattle.std.specs.Prelude.{◌≡◌, Some}
use Rattle.nv_mirror.specs.declared.answers.Refusal.TheVariants.{RegionFault}
use Rattle.nv_mirror.specs.PassSteps.{fault_in}
use Rattle.nv_ring.proofs.append.AppendMachine.commit.Given as goal

abbrev pub ghosts-perform_after : goal.ghosts-perform_after
ghosts-perform_after g a = record { said = λ works. fault_in works ≡ Some RegionFault }

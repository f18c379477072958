-- By the device call that failed, in the run of the mount.
use Rattle.nv_runner.proofs.FailedLaws.{faults_are_of_their_devices}
use Rattle.nv_runner.proofs.laws.faults_are_of_their_devices.Goals as goal

pub returns : goal.returns
returns c = faults_are_of_their_devices c.runs_are_sound.ensures.runs

use Rattle.nv_load.proofs.SoundLaws.{declared_is_sound, traces_are_sound}
use Rattle.nv_load.proofs.laws.generated_traces_are_sound.Goals as goal

pub returns-clause-declared : goal.returns-clause-declared
returns-clause-declared c = declared_is_sound

pub returns-clause-generated : goal.returns-clause-generated
returns-clause-generated c = traces_are_sound

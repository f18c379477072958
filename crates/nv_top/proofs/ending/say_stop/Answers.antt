use Rattle.std.proofs.Common.{Err, inl, refl}
use Rattle.nv_top.specs.Endings.{usage_line, long_line, read_line, device_line, memory_line, turns_line}
use Rattle.nv_top.specs.declared.ending.Stop.TheVariants.{Usage, InputLong, Read, Device, NoMemory, Turns}
use Rattle.nv_top.specs.declared.ending.TheConstants.{USAGE, BAD_INPUT, READ_FAULT, DEVICE_FAULT, NO_MEMORY, TURNS_USED}
use Rattle.nv_top.proofs.SaidLemmas.{said_by}
use Rattle.nv_top.proofs.ending.say_stop.Goals as goal

pub returns-in-Usage-clause-said : goal.returns-in-Usage-clause-said
returns-in-Usage-clause-said g c other =
    rw c.in-Usage.is (said_by (Err Usage) _ _ _ _ c.say.result USAGE usage_line (λ is. cc) (inl (refl, refl)) c.say.ensures.front c.say.ensures.said c.say.ensures.fault c.say.ensures.sound)

pub returns-in-InputLong-clause-said : goal.returns-in-InputLong-clause-said
returns-in-InputLong-clause-said g c other =
    rw c.in-InputLong.is (said_by (Err InputLong) _ _ _ _ c.say-in-InputLong.result BAD_INPUT long_line (λ is. cc) (inl (refl, refl)) c.say-in-InputLong.ensures.front c.say-in-InputLong.ensures.said c.say-in-InputLong.ensures.fault c.say-in-InputLong.ensures.sound)

pub returns-in-Read-clause-said : goal.returns-in-Read-clause-said
returns-in-Read-clause-said g c other =
    rw c.in-Read.is (said_by (Err Read) _ _ _ _ c.say-in-Read.result READ_FAULT read_line (λ is. cc) (inl (refl, refl)) c.say-in-Read.ensures.front c.say-in-Read.ensures.said c.say-in-Read.ensures.fault c.say-in-Read.ensures.sound)

pub returns-in-Device-clause-said : goal.returns-in-Device-clause-said
returns-in-Device-clause-said g c other =
    rw c.in-Device.is (said_by (Err Device) _ _ _ _ c.say-in-Device.result DEVICE_FAULT device_line (λ is. cc) (inl (refl, refl)) c.say-in-Device.ensures.front c.say-in-Device.ensures.said c.say-in-Device.ensures.fault c.say-in-Device.ensures.sound)

pub returns-in-NoMemory-clause-said : goal.returns-in-NoMemory-clause-said
returns-in-NoMemory-clause-said g c other =
    rw c.in-NoMemory.is (said_by (Err NoMemory) _ _ _ _ c.say-in-NoMemory.result NO_MEMORY memory_line (λ is. cc) (inl (refl, refl)) c.say-in-NoMemory.ensures.front c.say-in-NoMemory.ensures.said c.say-in-NoMemory.ensures.fault c.say-in-NoMemory.ensures.sound)

pub returns-in-Turns-clause-said : goal.returns-in-Turns-clause-said
returns-in-Turns-clause-said g c other =
    rw c.in-Turns.is (said_by (Err Turns) _ _ _ _ c.say-in-Turns.result TURNS_USED turns_line (λ is. cc) (inl (refl, refl)) c.say-in-Turns.ensures.front c.say-in-Turns.ensures.said c.say-in-Turns.ensures.fault c.say-in-Turns.ensures.sound)

-- It owns nothing.
use denote.RattleType.{RattleType}
use denote.Param.Send.{IsSend, owning_send, sendable}
use Rattle.nv_pmem.specs.contracts.past.Past.{the_row, the_type}

pub send : (T : RattleType) → IsSend T → IsSend (the_row T)
send T t = owning_send (the_type T) (search sendable, tt) (λ _. tt) (λ _ _ _. tt)

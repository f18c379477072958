use Rattle.nv_pmem.proofs.LineRooms.{line_is_its_stores}
use Rattle.nv_pmem.proofs.laws.rooms_follow_calls.Goals as goal

pub returns : goal.returns
returns c = line_is_its_stores

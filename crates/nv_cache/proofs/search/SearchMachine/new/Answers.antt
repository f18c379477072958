use Rattle.std.proofs.Common.{refl}
use Rattle.nv_cache.proofs.KeepsLaws.{keeps_self}
use Rattle.nv_cache.proofs.search.SearchMachine.new.Goals as goal

pub returns-clause-begins : goal.returns-clause-begins
returns-clause-begins c now = (refl, keeps_self _ now)

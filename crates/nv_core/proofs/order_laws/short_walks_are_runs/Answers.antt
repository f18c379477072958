use Rattle.nv_core.proofs.walks.ShortWalked.{short_walks}
use Rattle.nv_core.proofs.order_laws.short_walks_are_runs.Goals as goal

pub returns : goal.returns
returns c = short_walks

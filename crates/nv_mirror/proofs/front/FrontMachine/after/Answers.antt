-- The page is one of the mount.
use Rattle.nv_table.specs.state.Keys.{sizes_of}
use Rattle.nv_mirror.proofs.FrontLaws.{lock_there}
use Rattle.nv_mirror.proofs.front.FrontMachine.after.Goals as goal

pub page_lock-cell-requires : goal.page_lock-cell-requires
page_lock-cell-requires c = record { there = lock_there (sizes_of c.args.layout) c.args.self c.requires c.in-Begin.is }

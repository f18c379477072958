-- The page and the file are the mount's.
use Rattle.nv_core.proofs.state.StepWords.{page_within}
use Rattle.nv_table.specs.state.Keys.{sizes_of}
use Rattle.nv_mirror.specs.Loads.{load_call_of}
use Rattle.nv_mirror.proofs.load.LoadMachine.locked.Goals as goal

pub cleanup-cell-requires : goal.cleanup-cell-requires
cleanup-cell-requires c = record { there = page_within (sizes_of c.args.layout) (load_call_of c.args.self) c.args.self.page c.requires.allowed c.requires.own }

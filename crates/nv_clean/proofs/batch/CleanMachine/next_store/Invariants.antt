use Rattle.std.proofs.Common.{◌≡◌, ◌-◌}
use Rattle.nv_table.specs.state.Keys.{sizes_of}
use Rattle.nv_clean.specs.Cleaning.{files_from}
use Rattle.nv_clean.proofs.batch.CleanMachine.next_store.Given as goal

abbrev pub invariant-loop-file : goal.invariant-loop-file
invariant-loop-file l = files_from (sizes_of l.layout) l.fn.self.batch l.file ≡ files_from (sizes_of l.layout) l.fn.self.batch l.from

abbrev pub decreases-loop-file : goal.decreases-loop-file
decreases-loop-file l = l.layout.files - l.file

-- The stores of the files before the one at hand are synced.
use Rattle.nv_table.specs.state.States.{IsOf, PassState}
use Rattle.nv_clean.specs.Cleaning.{IsUnderWay, files_from}
use Rattle.nv_clean.specs.Retiring.{IsSyncing}
use Rattle.nv_clean.proofs.batch.CleanMachine.sync_stores.Given as goal

abbrev pub invariant-loop-file : goal.invariant-loop-file
invariant-loop-file g l =
    IsOf l.board l.pass
    × ((start : PassState) → IsUnderWay l.self start l.fn.pass → IsSyncing l.self (files_from l.fn.pass.view.opened.sizes l.self.batch l.file) start l.fn.pass l.pass)

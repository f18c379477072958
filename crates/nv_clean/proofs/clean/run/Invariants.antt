-- The batch is under way, and what its machine notes is what its steps came to.
use Rattle.std.proofs.Common.{◌≡◌, length}
use Rattle.nv_table.specs.state.States.{IsOf}
use Rattle.nv_clean.specs.Answers.{IsTold}
use Rattle.nv_clean.specs.Cleaning.{IsUnderWay}
use Rattle.nv_clean.specs.Measures.{clean_measure}
use Rattle.nv_clean.proofs.clean.run.Given as goal

abbrev pub invariant-loop-machine : goal.invariant-loop-machine
invariant-loop-machine g l = IsOf l.board l.pass × (length l.piece ≡ l.board.opened.sizes.page) × IsUnderWay l.machine l.fn.pass l.pass × IsTold l.batch l.machine l.fn.pass l.pass

abbrev pub decreases-loop-machine : goal.decreases-loop-machine
decreases-loop-machine g l = clean_measure l.board.opened.sizes l.machine

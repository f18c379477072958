use Rattle.nv_store.proofs.Choices.{IsReplacedTo}
use Rattle.nv_store.proofs.disk.tear.Given as goal

abbrev pub invariant-loop-i : goal.invariant-loop-i
invariant-loop-i l = IsReplacedTo l.unsynced (λ i. 0xa5) l.initial.bytes l.bytes l.i

-- The read is under way from where the pass stood at first, it holds no page, and there are fewer and fewer steps before it.
use Rattle.std.proofs.Common.{◌≡◌, [], false}
use Rattle.nv_plain.specs.declared.call.FileCall.{FileCall}
use Rattle.nv_table.specs.state.States.{IsOf, PassState}
use Rattle.nv_cache.specs.RunningReads.{IsSettled, IsUnderWay, asked_in, holds_page, read_measure}
use Rattle.nv_cache.proofs.read_run.read_on.Given as goal

abbrev pub invariant-loop-read : goal.invariant-loop-read
invariant-loop-read g l = record {
  board : IsOf l.board l.pass;
  settled : IsSettled l.read;
  bare : holds_page l.read ≡ false;
  asks : asked_in g.A.Asks.call l.read l.pass ≡ asked_in g.A.Asks.call l.fn.read l.fn.pass;
  way : (call : FileCall) (start : PassState) → IsUnderWay call l.fn.read l.fn.list [] start l.fn.pass → IsUnderWay call l.read l.list [] start l.pass;
}

abbrev pub decreases-loop-read : goal.decreases-loop-read
decreases-loop-read g l = read_measure l.board.opened.sizes l.read

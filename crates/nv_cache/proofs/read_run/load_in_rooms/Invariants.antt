-- The read loads a page, of which it has what lies in front of the room, and there are fewer and fewer steps before it.
use Rattle.std.proofs.Common.{◌≡◌, ◌≤◌, [], length, take, true}
use Rattle.nv_plain.specs.declared.call.FileCall.{FileCall}
use Rattle.nv_table.specs.state.States.{IsOf, PassState}
use Rattle.nv_cache.specs.RunningReads.{IsSettled, IsUnderWay, asked_in, needs_rooms, read_measure}
use Rattle.nv_cache.proofs.read_run.load_in_rooms.Given as goal

abbrev pub invariant-loop-room : goal.invariant-loop-room
invariant-loop-room g l = record {
  board : IsOf l.board l.pass;
  settled : IsSettled l.read;
  needs : needs_rooms l.read ≡ true;
  few : read_measure l.board.opened.sizes l.read ≤ read_measure l.board.opened.sizes l.fn.read;
  page : l.page ≡ l.board.opened.sizes.page;
  short : l.page ≤ 4096;
  room : length l.room ≡ 4096;
  piece : length l.piece ≡ 4096;
  asks : asked_in g.A.Asks.call l.read l.pass ≡ asked_in g.A.Asks.call l.fn.read l.fn.pass;
  way : (call : FileCall) (start : PassState) → IsUnderWay call l.fn.read l.fn.list [] start l.fn.pass → IsUnderWay call l.read l.list (take l.page l.room) start l.pass;
}

abbrev pub decreases-loop-room : goal.decreases-loop-room
decreases-loop-room g l = read_measure l.board.opened.sizes l.read

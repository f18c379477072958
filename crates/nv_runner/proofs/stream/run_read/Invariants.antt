-- The rounds so far were made and their lines written, and one is at hand.
use Rattle.std.proofs.Common.{◌≡◌, ◌*◌, ◌-◌, ◌≤◌, false, true, length, if◌then◌else◌}
use Rattle.nv_table.specs.state.Views.{made_of}
use Rattle.nv_runner.specs.Workers.{IsZero, IsZeroStill}
use Rattle.nv_runner.proofs.streams.StreamSteps.{IsAmid}
use Rattle.nv_runner.proofs.stream.run_read.Given as goal

abbrev pub invariant-loop-trace : goal.invariant-loop-trace
invariant-loop-trace g l = record {
  zero : IsZero l.mount l.zero;
  still : IsZeroStill l.initial.zero l.zero;
  all_in : length l.zero.view.ended ≡ made_of l.zero.view;
  few : made_of l.zero.view ≤ 9 * 67108865;
  few_more : l.more ≡ true → made_of l.zero.view ≤ 9 * l.reader.taken;
  amid : IsAmid l.mount.fds l.batch l.fn.more l.more l.fn.trace l.fn.reader l.trace l.reader (g.I.Source.left l.fn.src) (g.I.Source.left l.src) (g.O.Sink.written l.fn.out) (g.O.Sink.written l.out) l.kept l.zero;
  unread : l.fn.more ≡ false → (l.more ≡ false) × (l.src ≡ l.fn.src);
  reads : g.I.Source.fault_count l.src ≡ g.I.Source.fault_count l.fn.src;
  writes : g.O.Sink.fault_count l.out ≡ g.O.Sink.fault_count l.fn.out;
}

abbrev pub decreases-loop-trace : goal.decreases-loop-trace
decreases-loop-trace g l = if l.more then 67108865 - l.reader.taken else 0

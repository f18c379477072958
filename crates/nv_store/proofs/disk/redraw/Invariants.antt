use Rattle.std.proofs.Common.{◌≡◌}
use Rattle.nv_store.specs.Picked.{redrawn, count_below, after_draws}
use Rattle.nv_store.proofs.Choices.{IsReplacedTo}
use Rattle.nv_store.proofs.disk.redraw.Given as goal

abbrev pub invariant-loop-i : goal.invariant-loop-i
invariant-loop-i l = record {
  bytes : IsReplacedTo l.unsynced (redrawn l.unsynced l.initial.picker) l.initial.bytes l.bytes l.i;
  draws : l.picker ≡ after_draws (count_below l.unsynced l.i) l.initial.picker;
}

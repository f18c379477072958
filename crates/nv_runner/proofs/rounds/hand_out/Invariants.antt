-- The threads so far have their shares.
use Rattle.std.proofs.Common.{◌≡◌, [], length, map}
use Rattle.std.specs.Prelude.{All}
use Rattle.nv_runner.specs.Owners.{AreShares, list_left, list_made}
use Rattle.nv_runner.proofs.rounds.hand_out.Given as goal

abbrev pub invariant-loop-thread : goal.invariant-loop-thread
invariant-loop-thread l = record {
  count : length l.lists.items ≡ l.thread;
  fresh : All (λ list. list_made list ≡ []) l.lists.items;
  shares : AreShares l.calls 0 (map list_left l.lists.items);
}

-- The threads so far have their owners.
use Rattle.std.proofs.Common.{◌≡◌, [], length, map}
use Rattle.std.specs.Prelude.{All}
use Rattle.std.specs.List.{range_with_len}
use Rattle.nv_load.specs.Generated.{thread_calls}
use Rattle.nv_load.specs.Generators.{generator_left, generator_made}
use Rattle.nv_load.proofs.running.second_owners.Given as goal

abbrev pub invariant-loop-thread : goal.invariant-loop-thread
invariant-loop-thread l = record {
  many : length l.owners.items ≡ l.thread;
  fresh : All (λ owner. generator_made owner ≡ []) l.owners.items;
  left : map generator_left l.owners.items ≡ map (thread_calls l.load) (range_with_len 0 l.thread);
}

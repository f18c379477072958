-- The threads so far have a worker each, behind the cleaner's, and the owners that are left are those of the others.
use Rattle.std.proofs.Common.{◌≡◌, ◌+◌, ◌<◌, [], List, length, map}
use Rattle.std.specs.Prelude.{All}
use Rattle.std.specs.Vec.Iter.{into_iter_items, into_iter_len}
use Rattle.nv_table.specs.state.Views.{made_of}
use Rattle.nv_trace.specs.declared.trace_call.TracedCall.{TracedCall}
use Rattle.nv_runner.specs.Owners.{AreShares}
use Rattle.nv_runner.specs.Workers.{HasShare, IsNewWorker, IsZero, IsZeroStill, crew_of, threads_of}
use Rattle.nv_runner.proofs.hiring.hire.Given as goal

abbrev pub invariant-loop-owner : goal.invariant-loop-owner
invariant-loop-owner g l = record {
  zero : IsZero l.mount l.zero;
  still : IsZeroStill l.fn.zero l.zero;
  ended : l.zero.view.ended ≡ l.fn.zero.view.ended;
  new : All (IsNewWorker l.mount l.fn.zero.view.ended) l.workers.items;
  made : made_of l.zero.view ≡ made_of l.fn.zero.view + length l.workers.items;
  threads : threads_of l.workers.items ≡ crew_of l.thread l.fn.batch;
  many : l.thread + length (into_iter_items l.owner-iterator) ≡ length l.fn.owners.items;
  count : into_iter_len l.owner-iterator ≡ length (into_iter_items l.owner-iterator);
  fresh : All (λ owner. g.C.Calls.made owner ≡ []) (into_iter_items l.owner-iterator);
  shares :
      (calls : List TracedCall) → All (λ call. call.thread < 8) calls → AreShares calls 0 (map g.C.Calls.left l.fn.owners.items)
      → All (HasShare calls) l.workers.items × AreShares calls l.thread (map g.C.Calls.left (into_iter_items l.owner-iterator));
}

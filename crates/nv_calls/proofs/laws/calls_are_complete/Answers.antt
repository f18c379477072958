use Rattle.std.proofs.Common.{length}
use Rattle.nv_calls.specs.calls.Asks.{asks_read, asks_write}
use Rattle.nv_calls.specs.fsync.SyncRuns.{file_of_fd}
use Rattle.nv_calls.proofs.histories.CompleteLaws.{over_complete, syncs_are_complete}
use Rattle.nv_calls.proofs.reads.OverLaws.{call_over}
use Rattle.nv_calls.proofs.laws.calls_are_complete.Goals as goal

pub returns : goal.returns
returns c = record {
  calls = over_complete;
  reads = λ fds fd at list start now result over. over_complete _ (file_of_fd fds fd) (asks_read at (length list)) start now result (call_over (asks_read at) fds fd at list start now result over);
  writes = λ fds fd at bytes start now result over. over_complete _ (file_of_fd fds fd) (asks_write at bytes) start now result over;
  syncs = syncs_are_complete;
}

use Rattle.std.proofs.Common.{length}
use Rattle.nv_plain.specs.Modes.{can_read, can_write}
use Rattle.nv_calls.specs.calls.Asks.{asks_read, asks_write}
use Rattle.nv_calls.specs.calls.EarlyRefusals.{early_refusal}
use Rattle.nv_calls.specs.fsync.SyncRuns.{file_of_fd}
use Rattle.nv_calls.proofs.histories.GoingOnLaws.{over_goes, syncs_go_on}
use Rattle.nv_calls.proofs.reads.OverLaws.{call_over}
use Rattle.nv_calls.proofs.writes.RefusalLaws.{made_writes_tell, writes_tell_what_is_known}
use Rattle.nv_calls.proofs.laws.calls_go_on_from_what_is_known.Goals as goal

pub returns : goal.returns
returns c =
    let sound = c.runs_are_sound.ensures.runs in
    let tell = c.passes_are_left_alone.ensures.own in
    record {
      calls = λ early file asks start now result mount taken over. over_goes sound tell start mount taken early file asks now result over;
      reads = λ fds fd at list start now result mount taken over.
          over_goes sound tell start mount taken (early_refusal can_read start.view.opened.sizes fds fd at (length list)) (file_of_fd fds fd) (asks_read at (length list)) now result
          (call_over (asks_read at) fds fd at list start now result over);
      writes = λ fds fd at bytes start now result mount taken over.
          over_goes sound tell start mount taken (early_refusal can_write start.view.opened.sizes fds fd at (length bytes)) (file_of_fd fds fd) (asks_write at bytes) now result over;
      syncs = syncs_go_on sound tell;
      refusals = writes_tell_what_is_known sound tell;
      made_refusals = made_writes_tell sound tell;
    }

use Rattle.std.proofs.Common.{length}
use Rattle.nv_plain.specs.Modes.{can_read, can_write}
use Rattle.nv_calls.specs.calls.Asks.{asks_read, asks_write}
use Rattle.nv_calls.proofs.histories.HeedsLaws.{over_heeds, syncs_heed_stop}
use Rattle.nv_calls.proofs.reads.OverLaws.{call_over}
use Rattle.nv_calls.proofs.laws.ended_calls_heed_stop.Goals as goal

pub returns : goal.returns
returns c =
    let heeds = over_heeds c.runs_are_sound.ensures.runs c.passes_are_left_alone.ensures.own in
    record {
      calls = heeds;
      reads = λ fds fd at list start now result mount over. heeds can_read fds fd at (length list) (asks_read at (length list)) start now result mount (call_over (asks_read at) fds fd at list start now result over);
      writes = λ fds fd at bytes start now result mount over. heeds can_write fds fd at (length bytes) (asks_write at bytes) start now result mount over;
      syncs = syncs_heed_stop c.runs_are_sound.ensures.runs;
    }

-- The sync goes on by its advances, and leaves its pass idle at the end.
use Rattle.std.proofs.Common.{◌≡◌, ◌<◌, List, refl}
use Rattle.std.specs.Prelude.{Result}
use Rattle.nv_table.specs.state.States.{PassState}
use Rattle.nv_mount.specs.declared.fds.Fd.{Fd}
use Rattle.nv_mirror.specs.declared.answers.Done.{Done}
use Rattle.nv_mirror.specs.declared.answers.Refusal.{Refusal}
use Rattle.nv_calls.specs.calls.Advances.{IsFewer}
use Rattle.nv_calls.specs.declared.progress.Progress.{Progress}
use Rattle.nv_calls.specs.declared.progress.Progress.TheVariants.{More, Ended}
use Rattle.nv_calls.specs.declared.syncing.SyncMachine.{SyncMachine}
use Rattle.nv_calls.specs.fsync.SyncMachines.{IsSyncUnderWay, SyncGoes, measure}
use Rattle.nv_board_tests.proofs.machines.sync_slowly.Goals as goal

-- one that isn't over is under way, by fewer steps
goes_on : (fds : List Fd) (start : PassState) (m : SyncMachine) (now : PassState) (progress : Progress) → ((result : Result Done Refusal) → progress ≡ Ended result → ⊥) → SyncGoes fds start m now progress
    → IsSyncUnderWay fds m start now
goes_on fds start m now More open_ goes = goes
goes_on fds start m now (Ended result) open_ goes = absurd (open_ result refl)

fewer : (m next : SyncMachine) (progress : Progress) → ((result : Result Done Refusal) → progress ≡ Ended result → ⊥) → IsFewer measure m next progress → measure next < measure m
fewer m next More open_ less = less
fewer m next (Ended result) open_ less = absurd (open_ result refl)

pub returns-in-Ended-clause-idle : goal.returns-in-Ended-clause-idle
returns-in-Ended-clause-idle g c = (c.in-Ended.ensures.goes c.args.pass.now c.loop-result.invariant.way).1.idle

pub returns-in-Ended-clause-later : goal.returns-in-Ended-clause-later
returns-in-Ended-clause-later g c = (c.in-Ended.ensures.goes c.args.pass.now c.loop-result.invariant.way).1.later

pub loop-result-preserved : goal.loop-result-preserved
loop-result-preserved g c = record {
  board = c.advance.ensures.board;
  way = goes_on c.args.mount.now.fds c.args.pass.now c.advance.new.self c.advance.new.pass c.advance.result c.in_default.not-Ended (c.advance.ensures.goes c.args.pass.now c.loop-result.invariant.way);
}

pub loop-result-smaller : goal.loop-result-smaller
loop-result-smaller g c = fewer c.loop-result.sync c.advance.new.self c.advance.result c.in_default.not-Ended c.advance.ensures.fewer

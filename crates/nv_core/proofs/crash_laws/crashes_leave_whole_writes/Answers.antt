use Rattle.nv_core.specs.invariant.InvariantLaws.{OpeningIsSound, EventsKeepSound}
use Rattle.nv_core.specs.log.LogContent.{OpeningHasTheLog, EventsKeepTheLog}
use Rattle.nv_core.specs.crash.CrashImages.{EventsKeepRegion, OpeningHasRegion, StatesSurviveCrashes}
use Rattle.nv_core.proofs.invariant.Reach.{opening_is_sound, events_keep_sound, runs_are_sound_all}
use Rattle.nv_core.proofs.log.OpeningLogContent.{opening_has_the_log}
use Rattle.nv_core.proofs.log.KeepsLogContent.{events_keep_the_log, groups_come_late, runs_keep_the_log_all}
use Rattle.nv_core.proofs.crash.KeepsPersistent.{persistent_goes_on}
use Rattle.nv_core.proofs.crash.CrashLaws.{states_survive}
use Rattle.nv_core.proofs.crash.AddedOrder.{added_in_any_order}
use Rattle.nv_core.proofs.crash.CrashRegions.{events_keep_region}
use Rattle.nv_core.proofs.log.FaultFates.{faults_are_fated, faults_are_lost}
use Rattle.nv_core.proofs.crash.CrashRuns.{opening_has_region, runs_survive, runs_keep_region}
use Rattle.nv_core.proofs.crash_laws.crashes_leave_whole_writes.Goals as goal

pub returns : goal.returns
returns c =
    let plain = c.files_follow_calls.ensures in
    let laws = c.parts_follow_calls.ensures in
    let opens_sound : OpeningIsSound = opening_is_sound in
    let sounds : EventsKeepSound = events_keep_sound laws.group_ready in
    let opens_log : OpeningHasTheLog = opening_has_the_log laws.one_image in
    let logs : EventsKeepTheLog = events_keep_the_log laws plain in
    let states : StatesSurviveCrashes = states_survive laws.now laws.group_atomic laws.group_whole laws.group_quiet laws.group_only plain in
    let opening : OpeningHasRegion = opening_has_region laws.one_image in
    let events : EventsKeepRegion = events_keep_region laws (persistent_goes_on laws.now laws.group_whole plain) in
    record {
      opening = opening;
      events = events;
      states = states;
      faults = faults_are_fated states;
      lost = faults_are_lost (groups_come_late laws.now laws.group_open) (faults_are_fated states);
      order = added_in_any_order laws.now laws.group_atomic laws.group_whole laws.group_quiet laws.group_only plain;
      region = runs_keep_region opens_sound sounds opens_log logs opening events;
      runs = runs_survive opens_sound sounds opens_log logs (runs_are_sound_all laws.group_ready) (runs_keep_the_log_all laws plain laws.group_ready) opening events states;
    }

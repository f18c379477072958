use Rattle.nv_core.proofs.log.OpeningLogContent.{opening_has_the_log}
use Rattle.nv_core.proofs.log.KeepsLogContent.{events_keep_the_log, runs_keep_the_log_all, groups_are_in_images, groups_come_late, no_old_word_counts}
use Rattle.nv_core.proofs.log_laws.runs_keep_the_log.Goals as goal

pub returns : goal.returns
returns c =
    let plain = c.files_follow_calls.ensures in
    let laws = c.parts_follow_calls.ensures in
    record {
      opening = opening_has_the_log laws.one_image;
      events = events_keep_the_log laws plain;
      runs = runs_keep_the_log_all laws plain laws.group_ready;
      images = groups_are_in_images laws.now laws.group_atomic laws.group_whole laws.group_quiet;
      late = groups_come_late laws.now laws.group_open;
      old = no_old_word_counts laws.now laws.group_only;
    }

use Rattle.nv_core.proofs.walks.WalkOpened.{walk_opens_files, walk_opens_log, walk_opens_region}
use Rattle.nv_core.proofs.log_laws.a_mount_opens_a_file_and_a_log.Goals as goal

pub returns : goal.returns
returns c = record {
  files = walk_opens_files;
  log = walk_opens_log c.images_follow_calls.ensures.blank c.loads_follow_calls.ensures.blank c.images_follow_calls.ensures.quiet;
  region = walk_opens_region;
}

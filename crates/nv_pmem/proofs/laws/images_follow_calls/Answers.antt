use Rattle.nv_pmem.proofs.ImageLaws.{image_of_now, image_comes_from, image_after_nothing, quiet_image, quiet_settled_line, quiet_stays, quiet_blank}
use Rattle.nv_pmem.proofs.laws.images_follow_calls.Goals as goal

pub returns : goal.returns
returns c = record {
  now = image_of_now;
  stores = image_comes_from;
  nothing = image_after_nothing;
  quiet = λ part image line word quiet is. quiet_image part image line word quiet is;
  settled = quiet_settled_line;
  stays = quiet_stays;
  blank = quiet_blank;
}

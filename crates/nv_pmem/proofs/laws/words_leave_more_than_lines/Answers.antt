use Rattle.nv_pmem.proofs.LineWiseLaws.{whole_images_are_left, later_store_is_left}
use Rattle.nv_pmem.proofs.laws.words_leave_more_than_lines.Goals as goal

pub returns : goal.returns
returns c = record { whole = whole_images_are_left; more = later_store_is_left }

use Rattle.nv_header.proofs.TailLaws.{tail_is_old_or_new, tail_is_moved, tail_ends_quiet}
use Rattle.nv_header.proofs.laws.the_tail_follows_steps.Goals as goal

pub returns : goal.returns
returns c = record { moments = tail_is_old_or_new; moved = tail_is_moved; quiet = tail_ends_quiet }

use Rattle.nv_calls.proofs.histories.LeftWordLaws.{locking_steps_leave_the_rest, passing_steps_leave_what_stays}
use Rattle.nv_calls.proofs.laws.own_steps_leave_words.Goals as goal

pub returns : goal.returns
returns c = record { passing = passing_steps_leave_what_stays; locking = locking_steps_leave_the_rest }

use Rattle.nv_table.proofs.passes.AloneLaws.{nothing_comes_between, stays_alone, no_lock_is_held, loads_tell_head, head_stays_known, no_draw_is_lost}
use Rattle.nv_table.proofs.laws.a_pass_alone_is_not_refused.Goals as goal

pub returns-clause-next : goal.returns-clause-next
returns-clause-next c = nothing_comes_between c.runs_are_sound.ensures.runs c.passes_are_left_alone.ensures.own

pub returns-clause-alone : goal.returns-clause-alone
returns-clause-alone c = stays_alone c.runs_are_sound.ensures.runs c.passes_are_left_alone.ensures.own

pub returns-clause-locks : goal.returns-clause-locks
returns-clause-locks c = no_lock_is_held c.runs_are_sound.ensures.runs c.passes_are_left_alone.ensures.own

pub returns-clause-load : goal.returns-clause-load
returns-clause-load c = loads_tell_head c.runs_are_sound.ensures.runs c.passes_are_left_alone.ensures.own

pub returns-clause-head : goal.returns-clause-head
returns-clause-head c = head_stays_known c.runs_are_sound.ensures.runs c.passes_are_left_alone.ensures.own

pub returns-clause-draw : goal.returns-clause-draw
returns-clause-draw c = no_draw_is_lost c.runs_are_sound.ensures.runs c.passes_are_left_alone.ensures.own

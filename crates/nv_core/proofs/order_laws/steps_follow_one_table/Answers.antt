use Rattle.nv_core.proofs.steps.NextSteps.{steps_are_next, next_steps_may_come, no_two_steps, no_step_beside_a_device_call}
use Rattle.nv_core.proofs.order_laws.steps_follow_one_table.Goals as goal

pub returns : goal.returns
returns c = record { next = steps_are_next; come = next_steps_may_come; one = no_two_steps; alone = no_step_beside_a_device_call }

-- By the last try of the call.
use Rattle.nv_runner.proofs.RefusalLaws.{refusals_have_causes}
use Rattle.nv_runner.proofs.laws.refusals_have_causes.Goals as goal

pub returns : goal.returns
returns c =
    let core = c.runs_are_sound.ensures in
    let heeds = c.ended_calls_heed_stop.ensures in
    λ fds worker call start now refusal.
    refusals_have_causes record { keep = core.events; sound = core.runs; on = c.histories_go_on.ensures } c.passes_are_left_alone.ensures.own heeds.syncs fds worker call start now refusal

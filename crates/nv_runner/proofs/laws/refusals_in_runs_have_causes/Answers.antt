-- By what each shift had drawn where the call was refused.
use Rattle.nv_runner.proofs.RefusalWords.{WordLaws}
use Rattle.nv_runner.proofs.RunRefusalLaws.{head_counts, refusals_in_runs, room}
use Rattle.nv_runner.proofs.ShiftRuns.{DrawnLaws}
use Rattle.nv_runner.proofs.laws.refusals_in_runs_have_causes.Goals as goal

pub returns : goal.returns
returns c =
    let sound = c.runs_are_sound.ensures in
    let draws = c.heads_count_draws.ensures in
    let words : WordLaws = record { keep = sound.events; sound = sound.runs; on = c.histories_go_on.ensures } in
    let grow : DrawnLaws = record { grow = draws.grow; own = draws.own } in
    record {
      causes = λ fds worker made zero run mount whole idle rise call refusal one.
          refusals_in_runs words draws.runs grow fds worker made zero run mount whole c.refusals_have_causes.ensures idle rise call refusal one;
      heads = λ fds worker made zero run mount whole distinct idle. head_counts words draws.runs grow fds worker made zero run mount whole draws.unmade distinct idle;
      room = λ fds worker made zero run mount whole distinct none own_clean.
          room words draws.runs grow fds worker made zero run mount whole draws.unmade distinct none own_clean;
    }

-- By when each call drew.
use Rattle.nv_runner.proofs.OneThreadLaws.{one_thread_draws_by_line}
use Rattle.nv_runner.proofs.RefusalWords.{WordLaws}
use Rattle.nv_runner.proofs.RunDrawLaws.{have_drawn}
use Rattle.nv_runner.proofs.ShiftRuns.{DrawnLaws}
use Rattle.nv_runner.proofs.laws.runs_draw_in_a_row.Goals as goal

pub returns : goal.returns
returns c =
    let sound = c.runs_are_sound.ensures in
    let draws = c.heads_count_draws.ensures in
    let words : WordLaws = record { keep = sound.events; sound = sound.runs; on = c.histories_go_on.ensures } in
    let grow : DrawnLaws = record { grow = draws.grow; own = draws.own } in
    record {
      draws = λ fds worker made zero run mount whole distinct idle rise. have_drawn words draws.runs grow draws.unmade fds worker made zero run mount whole distinct idle rise;
      alone = one_thread_draws_by_line;
    }

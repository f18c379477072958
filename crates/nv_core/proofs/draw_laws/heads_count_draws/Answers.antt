use Rattle.nv_core.proofs.invariant.KeepsDraws.{idle_passes_have_drawn, events_count_draws, runs_count_draws, unmade_have_drawn_nothing, draws_grow, only_own_events_draw, heads_are_bounded}
use Rattle.nv_core.proofs.draw_laws.heads_count_draws.Goals as goal

pub returns : goal.returns
returns c =
    let sound = c.runs_are_sound.ensures in
    record {
      events = events_count_draws;
      runs = runs_count_draws sound.opening sound.events;
      idle = idle_passes_have_drawn;
      unmade = unmade_have_drawn_nothing sound.runs;
      grow = draws_grow sound.events sound.runs;
      own = only_own_events_draw sound.events sound.runs;
      bound = heads_are_bounded sound.opening sound.events sound.runs;
    }

use Rattle.std.proofs.Common.{◌≡◌, List, length, ℕ}
use Rattle.nv_core.specs.state.Words.{Word}
use Rattle.nv_table.specs.passes.PassesMade.{IsShownStill, PutsBack}
use Rattle.nv_table.proofs.seats.put_back.Given as goal

abbrev pub invariant-loop-pass : goal.invariant-loop-pass
invariant-loop-pass g l = record {
  table : l.pass.table ≡ l.initial.pass.table;
  opened : l.pass.view.opened ≡ l.initial.pass.view.opened;
  still : IsShownStill l.pass;
  spare : l.pass.spare ≡ l.initial.pass.spare;
  back : (cells : List (Word × ℕ)) × PutsBack cells l.initial.pass.view l.pass.view;
}

abbrev pub decreases-loop-pass : goal.decreases-loop-pass
decreases-loop-pass g l = length l.pass.now

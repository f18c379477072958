use Rattle.std.proofs.Common.{◌≡◌, map, take}
use Rattle.nv_runner.specs.FaithfulRuns.{shown_call}
use Rattle.nv_top.specs.LifeLines.{line_kept, line_shown}
use Rattle.nv_top.proofs.life.shown_texts.Given as goal

abbrev pub invariant-loop-r : goal.invariant-loop-r
invariant-loop-r l = map line_kept l.lines.items ≡ map line_shown (map shown_call (take l.r-index l.shown))

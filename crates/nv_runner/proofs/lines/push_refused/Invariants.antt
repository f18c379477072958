use Rattle.std.proofs.Common.{◌≡◌, ◌++◌, map, drop}
use Rattle.nv_runner.specs.FaithfulRuns.{shown_call}
use Rattle.nv_runner.specs.Reports.{refused_lines}
use Rattle.nv_runner.proofs.lines.push_refused.Given as goal

-- what is there and what is to come are all
abbrev pub invariant-loop-r : goal.invariant-loop-r
invariant-loop-r l =
    l.text.items ++ refused_lines (map shown_call (drop l.r-index l.refused))
    ≡ l.initial.text.items ++ refused_lines (map shown_call l.refused)

use Rattle.std.proofs.Common.{◌≡◌, ◌++◌, map, drop}
use Rattle.nv_top.specs.Reports.{open_lines}
use Rattle.nv_top.specs.Outcomes.{fated_call}
use Rattle.nv_top.proofs.text.push_open.Given as goal

-- what is there and what is to come are all
abbrev pub invariant-loop-o : goal.invariant-loop-o
invariant-loop-o l =
    l.text.items ++ open_lines (map fated_call (drop l.o-index l.fated))
    ≡ l.initial.text.items ++ open_lines (map fated_call l.fated)

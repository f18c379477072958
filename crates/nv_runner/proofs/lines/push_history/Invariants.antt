use Rattle.std.proofs.Common.{◌≡◌, ◌+◌, ◌++◌, map, drop}
use Rattle.nv_runner.specs.Reports.{history_lines}
use Rattle.nv_runner.specs.Sorted.{placed_call}
use Rattle.nv_runner.proofs.lines.push_history.Given as goal

-- what is there and what is to come are all
abbrev pub invariant-loop-place : goal.invariant-loop-place
invariant-loop-place l =
    l.text.items ++ history_lines (l.from + l.place) (map placed_call (drop l.place l.placed))
    ≡ l.initial.text.items ++ history_lines l.from (map placed_call l.placed)

use Rattle.std.proofs.Common.{◌≡◌, ◌++◌, drop}
use Rattle.nv_look.specs.Texts.{log_text}
use Rattle.nv_look.proofs.showing.push_log.Given as goal

-- what is there and what is to come are all
abbrev pub invariant-loop-row : goal.invariant-loop-row
invariant-loop-row l =
    l.text.items ++ log_text l.from (drop l.row-index l.rows) ≡ l.initial.text.items ++ log_text l.tail l.rows

use Rattle.std.proofs.Common.{◌≡◌, ◌++◌, drop}
use Rattle.nv_runner.specs.Faithful.{named}
use Rattle.nv_top.specs.Reports.{file_lines}
use Rattle.nv_top.proofs.text.push_files.Given as goal

-- what is there and what is to come are all
abbrev pub invariant-loop-place : goal.invariant-loop-place
invariant-loop-place l =
    l.text.items ++ file_lines (named (drop l.place l.names) (record { contents = drop l.place l.files }))
    ≡ l.initial.text.items ++ file_lines (named l.names (record { contents = l.files }))

use Rattle.std.proofs.Common.{◌≡◌, [], map, replicate}
use Rattle.nv_plain.proofs.plain_files.PlainFiles.new.Given as goal

-- an empty file for each turn so far
abbrev pub invariant-loop : goal.invariant-loop
invariant-loop l = map (λ bytes. bytes.items) l.files.items ≡ replicate l.counter []

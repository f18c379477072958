use Rattle.std.proofs.Common.{◌≡◌, vec_len}
use Rattle.nv_pmem.proofs.file_part.read_lines.Given as goal

abbrev pub invariant-loop : goal.invariant-loop
invariant-loop g l = vec_len l.lines ≡ l.counter

use Rattle.std.proofs.Common.{◌≡◌, ℕ, map}
use Rattle.std.specs.List.{range_with_len}
use Rattle.nv_pmem.specs.Made.{words_in, line_in}
use Rattle.nv_pmem.specs.Picked.{settled}
use Rattle.nv_pmem.proofs.told.Told.of.Given as goal

abbrev pub invariant-loop-line : goal.invariant-loop-line
invariant-loop-line l = l.lines.items ≡ map (λ (line : ℕ). settled (words_in (line_in l.bytes line))) (range_with_len 0 l.line)

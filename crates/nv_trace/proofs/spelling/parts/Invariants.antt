use Rattle.std.proofs.Common.{◌≡◌, ◌≤◌, length}
use Rattle.nv_trace.specs.Grammar.{most_parts}
use Rattle.nv_trace.proofs.spelling.parts.Given as goal

abbrev pub invariant-loop-part : goal.invariant-loop-part
invariant-loop-part l = record {
  parts : l.parts.items ≡ l.yielded;
  few : length l.parts.items ≤ most_parts;
}

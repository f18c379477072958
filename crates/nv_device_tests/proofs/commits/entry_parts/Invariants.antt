use Rattle.std.proofs.Common.{◌≡◌, All, length}
use Rattle.nv_pmem.specs.MemPart.{IsBlankMemPart}
use Rattle.nv_device_tests.proofs.commits.entry_parts.Given as goal

-- so many parts of zeros
abbrev pub invariant-loop : goal.invariant-loop
invariant-loop l = record { count : length l.parts.items ≡ l.counter; blank : All (IsBlankMemPart 2) l.parts.items }

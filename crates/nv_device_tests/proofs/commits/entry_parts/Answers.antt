use Rattle.std.proofs.Common.{vec_len}
use Rattle.nv_device_tests.proofs.TestParts.{zeros_uncommitted}
use Rattle.nv_device_tests.proofs.commits.entry_parts.Goals as goal

pub returns-clause-uncommitted : goal.returns-clause-uncommitted
returns-clause-uncommitted c = zeros_uncommitted 2 5 (vec_len c.loop.parts) c.loop.parts.items c.loop.invariant.blank

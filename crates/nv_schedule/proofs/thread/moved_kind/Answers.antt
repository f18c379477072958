-- By whether it moves any byte.
use Rattle.std.proofs.Common.{sym, ◌∙◌}
use Rattle.nv_schedule.proofs.FirstKindLaws.{loaded, taken}
use Rattle.nv_schedule.proofs.thread.moved_kind.Goals as goal

pub returns-then-some : goal.returns-then-some
returns-then-some c = λ len is. taken len (sym c.if-some.true ∙ is)

pub returns-else-some : goal.returns-else-some
returns-else-some c = λ len is. loaded len (sym c.if-some.false ∙ is)

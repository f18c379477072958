use Rattle.nv_trace.proofs.RoundCalls.{last_round_adds, round_adds}
use Rattle.nv_trace.proofs.laws.rounds_hold_their_calls.Goals as goal

pub returns-clause-round : goal.returns-clause-round
returns-clause-round c = λ trace next old new input behind round. round_adds trace old input next new behind round

pub returns-clause-last : goal.returns-clause-last
returns-clause-last c = λ trace next old input at_line last. last_round_adds trace old input next at_line last

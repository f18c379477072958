use Rattle.nv_trace.proofs.RoundChains.{made_front, made_refused, made_whole}
use Rattle.nv_trace.proofs.laws.rounds_make_the_trace.Goals as goal

pub returns-clause-whole : goal.returns-clause-whole
returns-clause-whole c = λ form reader input rounds last at_line number taken read. made_whole form reader input at_line.bare number taken rounds last read

pub returns-clause-refused : goal.returns-clause-refused
returns-clause-refused c = λ form reader input rounds last error at_line number taken read. made_refused form reader input at_line.bare number taken rounds last error read

pub returns-clause-front : goal.returns-clause-front
returns-clause-front c = λ form reader input rounds last at_line number taken read. made_front form reader input at_line.bare number taken rounds last read

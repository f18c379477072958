use Rattle.nv_trace.proofs.FewTokens.{few_tokens}
use Rattle.nv_trace.proofs.laws.traces_have_few_tokens.Goals as goal

pub returns : goal.returns
returns c = few_tokens

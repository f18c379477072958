-- The call at hand is the first.
use Rattle.std.proofs.Common.{◌++◌, ap}
use Rattle.std.specs.Prelude.{Option}
use Rattle.std.specs.Option.{option_to_list}
use Rattle.nv_trace.specs.declared.trace_call.TracedCall.{TracedCall}
use Rattle.nv_load.specs.Generators.{stock_calls}
use Rattle.nv_load.proofs.generator.GeneratorCalls.present.Goals as goal

pub returns : goal.returns
returns c =
    let rest = stock_calls c.args.self.now.stock in
    (rest, ap (λ (present : Option TracedCall). option_to_list present ++ rest) c.in-Some.is)

-- Generators: the calls that one has made, and those that it has left.
use Rattle.std.specs.Prelude.{◌≡◌, List, [], ◌∷◌, ◌++◌, Option, Some, None}
use Rattle.std.specs.Option.{option_to_list}
use Rattle.nv_trace.specs.declared.trace_call.TracedCall.{TracedCall}
use Rattle.nv_runner.specs.Lists.{MadeCall}
use Rattle.nv_load.specs.Counts.{noted}
use Rattle.nv_load.specs.Stocks.{stock_list}
use Rattle.nv_load.specs.declared.generator.Generator.{Generator}
use Rattle.nv_load.specs.declared.stock.Stock.{Stock}

-- the calls of a stock
abbrev pub stock_calls : Stock → List TracedCall
stock_calls stock = stock_list stock.threads stock.thread stock.words stock.left stock.line

-- its next call was taken, and it has the others left; or it has none
abbrev pub IsTakenOf : Option TracedCall → (old new : Stock) → Type 0
IsTakenOf None old new = (stock_calls old ≡ []) × (stock_calls new ≡ [])
IsTakenOf (Some call) old new = stock_calls old ≡ call ∷ stock_calls new

abbrev pub generator_left : Generator → List TracedCall
generator_left generator = option_to_list generator.present ++ stock_calls generator.stock

abbrev pub generator_made : Generator → List MadeCall
generator_made generator = noted generator.tally.told.states

-- it has a call at hand
abbrev pub IsAtHand : Generator → Type 0
IsAtHand generator = (call : TracedCall) × (generator.present ≡ Some call)

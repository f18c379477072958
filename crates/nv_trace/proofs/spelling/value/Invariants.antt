use Rattle.std.proofs.Common.{◌≡◌, ◌<◌, ◌^◌, take}
use Rattle.nv_trace.specs.Grammar.{value_of}
use Rattle.nv_trace.proofs.spelling.value.Given as goal

abbrev pub invariant-loop-digit : goal.invariant-loop-digit
invariant-loop-digit l = record { so_far : l.value ≡ value_of (take l.digit-index l.digits); fits : l.value < 2 ^ 64 }

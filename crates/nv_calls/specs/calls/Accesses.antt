-- Accesses: which descriptors serve a call.
use Rattle.std.specs.Prelude.{Bool}
use Rattle.nv_plain.specs.Modes.{can_read, can_write}
use Rattle.nv_plain.specs.declared.mode.Mode.{Mode}
use Rattle.nv_calls.specs.declared.admit.Access.{Access}
use Rattle.nv_calls.specs.declared.admit.Access.TheVariants.{Reads, Writes}

abbrev pub serves : Access → Mode → Bool
serves Reads mode = can_read mode
serves Writes mode = can_write mode

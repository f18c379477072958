-- Devices: each cell keeps the device that came in.
use Rattle.std.specs.Prelude.{◌≡◌}
use Rattle.nv_core.specs.state.Words.{Word}
use Rattle.nv_core.specs.state.Values.{identity_of}
use Rattle.nv_core.specs.steps.Order.{Values}

pub record DevicesKept (first now : Values) : Type 0 where
  pub each : (cell : Word) → identity_of (now cell) ≡ identity_of (first cell)

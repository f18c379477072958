-- Modes: what a descriptor was opened for.
use Rattle.std.specs.Prelude.{Bool, true, false}
use Rattle.nv_plain.specs.declared.mode.Mode.{Mode}
use Rattle.nv_plain.specs.declared.mode.Mode.TheVariants.{R, W, Rw}

-- a descriptor of this mode may be read
abbrev pub can_read : Mode → Bool
can_read R = true
can_read W = false
can_read Rw = true

-- and written
abbrev pub can_write : Mode → Bool
can_write R = false
can_write W = true
can_write Rw = true

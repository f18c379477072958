-- What a trace is read for, and which lines that allows.
use Rattle.std.specs.Prelude.{Bool, true, false}
use Rattle.nv_trace.specs.declared.trace.Form.{Form}
use Rattle.nv_trace.specs.declared.trace.Form.TheVariants.{Run, Sched}

-- whether `round` is a line
abbrev pub has_rounds : Form → Bool
has_rounds Run = true
has_rounds Sched = false

-- whether `steps` is the first field of a line
abbrev pub has_steps : Form → Bool
has_steps Run = false
has_steps Sched = true

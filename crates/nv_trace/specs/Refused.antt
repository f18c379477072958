-- What the refusals of a line and of an input say.
use Rattle.std.specs.Prelude.{◌≡◌, ℕ, List, Result, Err}
use Rattle.nv_trace.specs.Traced.{Traced}
use Rattle.nv_trace.specs.Reading.{after_line, after_schedule, ending_of, Ending, Bad, Long}
use Rattle.nv_trace.specs.declared.bad_line.Why.{Why}
use Rattle.nv_trace.specs.declared.read_error.LineError.{LineError}
use Rattle.nv_trace.specs.declared.read_error.LineError.TheVariants as line_errors
use Rattle.nv_trace.specs.declared.read_error.ReadError.{ReadError}
use Rattle.nv_trace.specs.declared.read_error.ReadError.TheVariants as read_errors
use Rattle.nv_trace.specs.declared.trace.Form.{Form}

-- what a line says is bad for this reason, and it is named by its number; want of memory has no cause
abbrev pub IsBadAs : Result Traced Why → ℕ → LineError → Type 0
IsBadAs told number (line_errors.Bad bad) = (told ≡ Err bad.why) × (bad.number ≡ number)
IsBadAs told number line_errors.NoMemory = Unit {0}

-- a line is bad so
abbrev pub IsBadLine : Traced → ℕ → List ℕ → LineError → Type 0
IsBadLine trace number line error = IsBadAs (after_line trace number line) number error

-- a line that was to be a `steps` line is bad so
abbrev pub IsBadSchedule : Traced → ℕ → List ℕ → LineError → Type 0
IsBadSchedule trace number line error = IsBadAs (after_schedule trace line) number error

-- the ending that an error tells; a failed read and want of memory tell none
abbrev pub RefusalTells : ReadError → Ending → Type 0
RefusalTells (read_errors.Bad bad) ending = ending ≡ Bad bad
RefusalTells read_errors.InputLong ending = ending ≡ Long
RefusalTells read_errors.Failed ending = Unit {0}
RefusalTells read_errors.NoMemory ending = Unit {0}

-- the input ends so
abbrev pub IsRefusedAs : Form → ReadError → List ℕ → Type 0
IsRefusedAs form error input = RefusalTells error (ending_of form input)

-- the refusal of an input whose line is refused
abbrev pub read_error : LineError → ReadError
read_error (line_errors.Bad bad) = read_errors.Bad bad
read_error line_errors.NoMemory = read_errors.NoMemory

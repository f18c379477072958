-- How a program ends: the line that says why.
use Rattle.std.specs.Prelude.{◌≡◌, ℕ, List, [], ◌∷◌, ◌++◌, codes, take, Option, Some, None}
use Rattle.std.specs.Fmt.{decimal}
use Rattle.nv_open.specs.declared.error.Refusal.{Refusal}
use Rattle.nv_top.specs.Ready.{IsRunnable}
use Rattle.nv_top.specs.RegionTexts.{region_text}
use Rattle.nv_trace.specs.declared.bad_line.BadLine.{BadLine}
use Rattle.nv_trace.specs.declared.bad_line.Why.{Why}
use Rattle.nv_trace.specs.declared.bad_line.Why.TheVariants.{Long as LongLine, Bytes, Form, Late, Number, Name, Mode, Hex, Many, Repeat, Unknown}
use Rattle.nv_trace.specs.declared.trace.Form.{Form as TraceForm}
use Rattle.nv_trace.specs.Streams.{Appends}
use Rattle.nv_trace.specs.Traced.{Traced}
use Rattle.nv_trace.specs.Reading.{Ending, Whole, Bad, Long, ending_of}

-- a text and a line feed
abbrev pub as_line : List ℕ → List ℕ
as_line text = text ++ 10 ∷ []

abbrev pub usage_line : List ℕ
usage_line = as_line (codes "error usage")

abbrev pub read_line : List ℕ
read_line = as_line (codes "error read")

abbrev pub device_line : List ℕ
device_line = as_line (codes "error device")

abbrev pub memory_line : List ℕ
memory_line = as_line (codes "error no memory")

abbrev pub turns_line : List ℕ
turns_line = as_line (codes "error turns")

-- the word for why a line is bad
abbrev pub why_text : Why → List ℕ
why_text LongLine = codes "long"
why_text Bytes = codes "bytes"
why_text Form = codes "form"
why_text Late = codes "late"
why_text Number = codes "number"
why_text Name = codes "name"
why_text Mode = codes "mode"
why_text Hex = codes "hex"
why_text Many = codes "many"
why_text Repeat = codes "repeat"
why_text Unknown = codes "unknown"

-- `error line NUMBER WHY`
abbrev pub bad_line : BadLine → List ℕ
bad_line bad = codes "error line " ++ (decimal bad.number ++ 32 ∷ as_line (why_text bad.why))

abbrev pub long_line : List ℕ
long_line = as_line (codes "error input long")

-- `error region TEXT`
unfoldable pub region_line : Refusal → List ℕ
region_line refusal = codes "error region " ++ as_line (region_text refusal)

-- what is said of an input that is no trace
abbrev pub input_line : Ending → List ℕ
input_line (Whole trace) = []
input_line (Bad bad) = bad_line bad
input_line Long = long_line

-- an input that is a trace of this form
abbrev pub IsTrace : TraceForm → List ℕ → Type 0
IsTrace form input = (trace : Traced) × (ending_of form input ≡ Whole trace)

-- Something is so of the trace that was read for this: the one that the input is; or, where the source doesn't tell its input, one that it may have been, as the reader makes them.
abbrev pub OfRead : TraceForm → (input : Option (List ℕ)) → (Traced → Type 0) → Type 0
OfRead form None P = (trace : Traced) × (trace.form ≡ form) × IsRunnable trace × P trace
OfRead form (Some input) P = (trace : Traced) × (ending_of form input ≡ Whole trace) × P trace

-- what was written, where it is told, has a front of these bytes more
abbrev pub AppendsFront : Option (List ℕ) → Option (List ℕ) → List ℕ → Type 0
AppendsFront old new text = (count : ℕ) × Appends old new (take count text)

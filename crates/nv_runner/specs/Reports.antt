-- Reports: what one lists, and the lines of its calls.
use Rattle.std.specs.Prelude.{ℕ, ◌+◌, List, [], ◌∷◌, ◌++◌}
use Rattle.std.specs.List.{flat_map}
use Rattle.nv_trace.specs.Report.{history_text, refused_text}
use Rattle.nv_trace.specs.declared.trace_call.TracedCall.{TracedCall}
use Rattle.nv_trace.specs.declared.report.Fate.{Fate}
use Rattle.nv_trace.specs.declared.report.Refusal.{Refusal}
use Rattle.nv_runner.specs.Histories.{PlacedCall}

-- a call of the trace that was refused, and why
pub record ShownRefusal : Type 0 where
  pub call : TracedCall
  pub refusal : Refusal

-- a call of the trace that was left open, and what the recovery after it made of it
pub record OpenCall : Type 0 where
  pub call : TracedCall
  pub fate : Fate

-- a file's name and bytes
pub record NamedFile : Type 0 where
  pub name : List ℕ
  pub bytes : List ℕ

-- What the report of a run lists: the placed calls in the order of their places, the refused ones, those left open, and the files.
pub record Report : Type 0 where
  pub history : List PlacedCall
  pub refused : List ShownRefusal
  pub open_calls : List OpenCall
  pub files : List NamedFile

-- ---- lines

-- the lines of placed calls, the first of them at this place
abbrev pub history_lines : ℕ → List PlacedCall → List ℕ
history_lines place [] = []
history_lines place (placed ∷ later) =
    history_text place placed.call.thread placed.call.call placed.reply ++ history_lines (place + 1) later

abbrev pub refused_lines : List ShownRefusal → List ℕ
refused_lines refused = flat_map (λ r. refused_text r.call.thread r.call.call r.refusal) refused

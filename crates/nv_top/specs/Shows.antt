-- Shows: which text a run shows.
use Rattle.std.specs.Prelude.{ℕ, List, [], ◌∷◌, ◌++◌, codes}
use Rattle.std.specs.Fmt.{decimal}
use Rattle.nv_trace.specs.Report.{line_text}
use Rattle.nv_runner.specs.Reports.{Report}
use Rattle.nv_trace.specs.Traced.{Traced}
use Rattle.nv_load.specs.Generated.{IsLoad, generated_calls}
use Rattle.nv_load.specs.Summaries.{summary_shown}
use Rattle.nv_load.specs.declared.load.Load.{Load}
use Rattle.nv_load.specs.declared.summary.Summary.{Summary}
use Rattle.nv_top.specs.Reports.{report_text}
use Rattle.nv_top.specs.declared.show.Show.{Show}
use Rattle.nv_top.specs.declared.show.Show.TheVariants as shows

-- `gen SEED CALLS THREADS`
unfoldable pub load_text : Load → List ℕ
load_text load = line_text (codes "gen" ∷ decimal load.seed ∷ decimal load.calls ∷ decimal load.threads ∷ [])

-- `WORD N`
unfoldable pub count_text : (word : List ℕ) → (count : ℕ) → List ℕ
count_text word count = line_text (word ∷ decimal count ∷ [])

-- the five lines of a summary
unfoldable pub summary_text : Load → Summary → List ℕ
summary_text load summary =
    load_text load ++ count_text (codes "placed") summary.placed ++ count_text (codes "written") summary.written
    ++ count_text (codes "read") summary.read ++ count_text (codes "sum") summary.sum

-- what is shown of a run: its report, or the summary of it
abbrev pub text_as : Show → Report → List ℕ
text_as shows.Report report = report_text report
text_as (shows.Summary load) report = summary_text load (summary_shown report)

-- the trace that is run where this is shown of it: the calls are its own, or those of a load
abbrev pub trace_run : Show → Traced → Traced
trace_run shows.Report trace = trace
trace_run (shows.Summary load) trace = record trace { calls = generated_calls load; rounds = 1 }

-- a load that is shown is within its limits
abbrev pub IsShownLoad : Show → Type 0
IsShownLoad shows.Report = Unit {0}
IsShownLoad (shows.Summary load) = IsLoad load

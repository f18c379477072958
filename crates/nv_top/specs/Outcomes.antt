-- Outcomes: what contracts see of the calls of a run.
use Rattle.std.specs.Prelude.{ℕ, List, map}
use Rattle.nv_plain.specs.Files.{Files}
use Rattle.nv_runner.specs.declared.shown.Shown.{Shown}
use Rattle.nv_runner.specs.declared.sorted.Placed.{Placed}
use Rattle.nv_runner.specs.declared.sorted.SortedCalls.{SortedCalls}
use Rattle.nv_runner.specs.Faithful.{named}
use Rattle.nv_runner.specs.FaithfulRuns.{shown_call, shown_refusals}
use Rattle.nv_runner.specs.Reports.{OpenCall, Report}
use Rattle.nv_runner.specs.Sorted.{placed_call, refused_call}
use Rattle.nv_top.specs.declared.outcome.Fated.{Fated}

-- a call that was left open with its fate, without where it lies in memory
abbrev pub fated_call : Fated → OpenCall
fated_call fated = record { call = fated.call.now; fate = fated.fate }

-- the report that lists these
abbrev pub report_of : List Placed → List Shown → List Fated → (names contents : List (List ℕ)) → Report
report_of placed shown fated names contents = record {
  history = map placed_call placed;
  refused = map shown_call shown;
  open_calls = map fated_call fated;
  files = named names (record { contents = contents });
}

-- the report of the sorted calls of a run, of which those that were left open have these fates, and these files
abbrev pub shown_report : SortedCalls → List OpenCall → (names : List (List ℕ)) → Files → Report
shown_report sorted open_calls names files = record {
  history = map placed_call sorted.placed.items;
  refused = shown_refusals (map refused_call sorted.refused.items);
  open_calls = open_calls;
  files = named names files;
}

-- Fates: what a recovery made of the calls that were left open.
use Rattle.std.specs.Prelude.{◌≡◌, ℕ, ◌==◌, ◌||◌, nat_lt, if◌then◌else◌, List, [], ◌++◌, map, IsPermutation}
use Rattle.std.specs.List.{list_any}
use Rattle.std.specs.List.Sorted.{IsNonDecreasingBy}
use Rattle.nv_plain.specs.Files.{Files}
use Rattle.nv_recover.specs.declared.recovering.Recovered as recover
use Rattle.nv_trace.specs.declared.report.Fate.{Fate}
use Rattle.nv_trace.specs.declared.report.Fate.TheVariants.{Kept, Lost, Unanswered}
use Rattle.nv_trace.specs.declared.trace_call.TraceCall.{TraceCall}
use Rattle.nv_trace.specs.declared.trace_call.TraceCall.TheVariants.{Pread, Pwrite, Preadv, Pwritev, Fsync}
use Rattle.nv_trace.specs.declared.trace_call.TracedCall.{TracedCall}
use Rattle.nv_runner.specs.declared.sorted.Open.{Open}
use Rattle.nv_runner.specs.declared.sorted.SortedCalls.{SortedCalls}
use Rattle.nv_runner.specs.Reports.{OpenCall, Report}
use Rattle.nv_runner.specs.Sorted.{OpenedCall}
use Rattle.nv_top.specs.Outcomes.{shown_report}

-- A write that drew this number is kept where the number lies below the first one that recovery found, or among its groups.
abbrev pub fate_of : (first : ℕ) → (groups : List ℕ) → (number : ℕ) → Fate
fate_of first groups number = if nat_lt number first || list_any (λ leader. leader == number) groups then Kept else Lost

-- a write that was left open, with its fate
abbrev pub fated : (first : ℕ) → (groups : List ℕ) → Open → OpenCall
fated first groups write = record { call = write.call.now; fate = fate_of first groups write.number }

-- and of what is kept of it
abbrev pub fated_opened : (first : ℕ) → (groups : List ℕ) → OpenedCall → OpenCall
fated_opened first groups write = record { call = write.call; fate = fate_of first groups write.number }

-- what became of a call that was begun and drew no number: nothing of a write is in the files, and the others have no answer
abbrev pub begun_fate : TraceCall → Fate
begun_fate (Pread fd at len) = Unanswered
begun_fate (Pwrite fd at bytes) = Lost
begun_fate (Preadv fd at lens) = Unanswered
begun_fate (Pwritev fd at parts) = Lost
begun_fate (Fsync fd) = Unanswered

abbrev pub begun_call : TracedCall → OpenCall
begun_call call = record { call = call; fate = begun_fate call.call }

-- The open calls that a report shows: the writes that drew numbers, and those calls that were begun and drew none, in the order of their lines.
pub record AreShownOpen (first : ℕ) (groups : List ℕ) (writes : List Open) (begun : List TracedCall) (shown : List OpenCall) : Type 0 where
  pub all : IsPermutation (map (fated first groups) writes ++ map begun_call begun) shown
  pub by_line : IsNonDecreasingBy (λ o. o.call.line) (map (fated first groups) writes) → IsNonDecreasingBy (λ o. o.call.line) shown
  pub none : begun ≡ [] → shown ≡ map (fated first groups) writes

-- the report of a run after a recovery, which shows these files
abbrev pub fated_report : SortedCalls → recover.Recovered → (names : List (List ℕ)) → Files → Report
fated_report sorted found names files = shown_report sorted (map (fated found.first found.groups) sorted.open_calls.items) names files

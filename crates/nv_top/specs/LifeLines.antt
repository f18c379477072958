-- Life lines: what a life of a schedule shows, and the text of lives in turn.
use Rattle.std.specs.Prelude.{◌≡◌, ℕ, ◌≤◌, Bool, true, List, ◌++◌, length, map, slice_index_or, IsPermutation, Option}
use Rattle.std.specs.List.{flat_map}
use Rattle.std.specs.List.Sorted.{IsNonDecreasingBy}
use Rattle.nv_plain.specs.Faults.{saturated}
use Rattle.nv_plain.specs.Files.{Files}
use Rattle.nv_bench.specs.Holding.{Holding}
use Rattle.nv_recover.specs.declared.recovering.Recovered as recover
use Rattle.nv_trace.specs.Report.{refused_text}
use Rattle.nv_trace.specs.Grammar.{last_thread}
use Rattle.nv_trace.specs.declared.trace_call.TracedCall.{TracedCall}
use Rattle.nv_runner.specs.Faithful.{listed_calls}
use Rattle.nv_runner.specs.Reports.{OpenCall, Report, ShownRefusal, history_lines}
use Rattle.nv_runner.specs.Shifts.{calls_of_thread}
use Rattle.nv_runner.specs.declared.sorted.SortedCalls.{SortedCalls}
use Rattle.nv_top.specs.Fates.{AreShownOpen}
use Rattle.nv_top.specs.Outcomes.{shown_report}
use Rattle.nv_top.specs.Reports.{ended_lines, file_lines, lives_text, open_in_lives, open_lines, placed_in_lives, refused_in_lives}
use Rattle.nv_top.specs.Stopping.{IsShownRecovered}
use Rattle.nv_top.specs.declared.life.LifeLines.{LifeLines}
use Rattle.nv_top.specs.declared.life.LivesShown.{LivesShown}
use Rattle.nv_top.specs.declared.life.RefusedLine.{RefusedLine}

-- ---- lines with the numbers of their calls' own

pub record Numbered : Type 0 where
  pub line : ℕ
  pub text : List ℕ

abbrev pub line_kept : RefusedLine → Numbered
line_kept kept = record { line = kept.line; text = kept.text }

-- the line of a refused call
abbrev pub line_shown : ShownRefusal → Numbered
line_shown r = record { line = r.call.line; text = refused_text r.call.thread r.call.call r.refusal }

-- their texts, one behind the other
abbrev pub texts_of : List Numbered → List ℕ
texts_of lines = flat_map (λ (line : Numbered). line.text) lines

-- the same lines, in the order of their numbers
pub record AreByLine (lines sorted : List Numbered) : Type 0 where
  pub all : IsPermutation lines sorted
  pub by_line : IsNonDecreasingBy (λ (line : Numbered). line.line) sorted

-- ---- one life

-- So many calls of each thread are among some, by its number; a count stands still at 2^64 - 1.
abbrev pub AreCounts : (calls : List TracedCall) → (counts : List ℕ) → Type 0
AreCounts calls counts = (thread : ℕ) → thread ≤ last_thread → slice_index_or counts thread 0 ≡ saturated (length (calls_of_thread thread calls))

-- The lines that a life shows are those of its report, the first place being this; with those of the files, where it is the last. So many calls of each thread it lists.
pub record AreLinesOf (place : ℕ) (last : Bool) (report : Report) (lines : LifeLines) : Type 0 where
  pub placed : lines.placed ≡ length report.history
  pub history : lines.history.items ≡ history_lines place report.history
  pub refused : map line_kept lines.refused.items ≡ map line_shown report.refused
  pub opened : lines.opened ≡ length report.open_calls
  pub open_calls : lines.open_lines.items ≡ open_lines report.open_calls
  pub listed : AreCounts (listed_calls report) lines.listed
  pub files : last ≡ true → lines.files.items ≡ file_lines report.files

-- Each call that it counts has a line of its own.
pub record HaveALineEach (lines : LifeLines) : Type 0 where
  pub placed : lines.placed ≤ length lines.history.items
  pub opened : lines.opened ≤ length lines.open_lines.items

-- They are those of the report of sorted calls, and of those that were begun beside them, with what a recovery made of them, and with these files.
pub record ShowsLines (place : ℕ) (last : Bool) (sorted : SortedCalls) (begun : List TracedCall) (lines : LifeLines) (found : recover.Recovered) (names : List (List ℕ)) (files : Files) : Type 0 where
  pub open_calls : List OpenCall
  pub are_open : AreShownOpen found.first found.groups sorted.open_calls.items begun open_calls
  pub lines_are : AreLinesOf place last (shown_report sorted open_calls names files) lines

-- So they are of the report of what a recovery made of a bench that held this.
abbrev pub ShowsLife : (place : ℕ) (last : Bool) (holding : Holding) (sorted : SortedCalls) (begun : List TracedCall) (told : Option Holding) (lines : LifeLines) → Type 0
ShowsLife place last holding sorted begun told lines = IsShownRecovered (ShowsLines place last sorted begun lines) holding told

-- ---- lives in turn

-- What is kept of lives that crashes ended: their lines, but for those of the refused calls, which are kept by themselves, and the totals.
pub record AreKeptLives (kept : LivesShown) (ended : List Report) : Type 0 where
  pub placed : kept.placed ≡ placed_in_lives ended
  pub text : kept.text.items ≡ ended_lines 0 ended
  pub refused : map line_kept kept.refused.items ≡ map line_shown (refused_in_lives ended)
  pub opened : kept.opened ≡ open_in_lives ended

-- and each call that is counted has a line of its own
pub record KeepALineEach (kept : LivesShown) : Type 0 where
  pub placed : kept.placed ≤ length kept.text.items
  pub opened : kept.opened ≤ length kept.text.items

-- The text is that of the report of lives in turn, of which crashes ended these, and then the last one: the refused calls of all of them stand in the order of their lines.
pub record IsTextOfLives (ended : List Report) (last : Report) (text : List ℕ) : Type 0 where
  pub refused : List ShownRefusal
  pub all : IsPermutation (refused_in_lives ended ++ last.refused) refused
  pub by_line : IsNonDecreasingBy (λ (r : ShownRefusal). r.call.line) refused
  pub text_is : text ≡ lives_text ended refused last

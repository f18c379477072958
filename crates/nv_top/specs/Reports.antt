-- Reports: the text of one, of those of lives in turn, and what that of a recovery lists.
use Rattle.std.specs.Prelude.{ℕ, ◌+◌, List, [], ◌∷◌, ◌++◌, length, codes}
use Rattle.std.specs.List.{flat_map}
use Rattle.nv_trace.specs.Report.{open_text, recovered_text, file_text, end_text, line_text}
use Rattle.nv_runner.specs.Reports.{NamedFile, OpenCall, Report, ShownRefusal, history_lines, refused_lines}

-- What the report of a recovery lists: its first number, the one that the region goes on with, how many groups, and the files.
pub record RecoveryReport : Type 0 where
  pub first : ℕ
  pub next : ℕ
  pub groups : ℕ
  pub files : List NamedFile

abbrev pub open_lines : List OpenCall → List ℕ
open_lines open_calls = flat_map (λ o. open_text o.call.thread o.call.call o.fate) open_calls

abbrev pub file_lines : List NamedFile → List ℕ
file_lines files = flat_map (λ file. file_text file.name file.bytes) files

-- The text of a report.
unfoldable pub report_text : Report → List ℕ
report_text report =
    history_lines 0 report.history ++ refused_lines report.refused ++ open_lines report.open_calls ++ file_lines report.files
    ++ end_text (length report.history) (length report.refused) (length report.open_calls)

-- The text of a recovery's report.
unfoldable pub recovery_text : RecoveryReport → List ℕ
recovery_text report = recovered_text report.first report.next report.groups ++ file_lines report.files

-- ---- lives in turn

-- `crash`
unfoldable pub crash_text : List ℕ
crash_text = line_text (codes "crash" ∷ [])

-- how many calls of some lives have a place, and how many they left open
abbrev pub placed_in_lives : List Report → ℕ
placed_in_lives [] = 0
placed_in_lives (life ∷ later) = length life.history + placed_in_lives later

abbrev pub open_in_lives : List Report → ℕ
open_in_lives [] = 0
open_in_lives (life ∷ later) = length life.open_calls + open_in_lives later

-- those that they refused
abbrev pub refused_in_lives : List Report → List ShownRefusal
refused_in_lives [] = []
refused_in_lives (life ∷ later) = life.refused ++ refused_in_lives later

-- The lines of lives that crashes ended, the first place being this: of each its calls that have a place, those that it left open, and that power failed.
abbrev pub ended_lines : (place : ℕ) → List Report → List ℕ
ended_lines place [] = []
ended_lines place (life ∷ later) = history_lines place life.history ++ open_lines life.open_calls ++ crash_text ++ ended_lines (place + length life.history) later

-- The text of a report of lives in turn, with these refused calls: places count on through the lives, and the last one's open calls and files stand at the end, with the totals.
unfoldable pub lives_text : (ended : List Report) → (refused : List ShownRefusal) → (last : Report) → List ℕ
lives_text ended refused last =
    ended_lines 0 ended ++ history_lines (placed_in_lives ended) last.history ++ refused_lines refused ++ open_lines last.open_calls ++ file_lines last.files
    ++ end_text (placed_in_lives ended + length last.history) (length refused) (open_in_lives ended + length last.open_calls)

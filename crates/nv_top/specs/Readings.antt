-- Readings: what a reader sees in the text of a report.
use Rattle.std.specs.Prelude.{◌≡◌, ◌≢◌, ℕ, ◌+◌, ◌^◌, ◌<◌, List, [], ◌∷◌, ◌++◌, length, map, All, codes}
use Rattle.std.specs.Fmt.{decimal}
use Rattle.nv_trace.specs.declared.report.Refusal.{Refusal}
use Rattle.nv_trace.specs.declared.report.Refusal.TheVariants.{BadDescriptor, TooFar, TooLong, Stopped, Spent, Again, RegionFault, StoreFault}
use Rattle.nv_trace.specs.Report.{call_fields, reply_text, fate_text, hex_text}
use Rattle.nv_runner.specs.Histories.{PlacedCall}
use Rattle.nv_runner.specs.Reports.{NamedFile, OpenCall, Report, ShownRefusal}
use Rattle.nv_top.specs.Reports.{RecoveryReport, lives_text, open_in_lives, placed_in_lives, report_text, recovery_text}

-- a text behind the last of some fields
abbrev pub behind_last : List (List ℕ) → List ℕ → List (List ℕ)
behind_last [] text = []
behind_last (last ∷ []) text = (last ++ text) ∷ []
behind_last (first ∷ second ∷ rest) text = first ∷ behind_last (second ∷ rest) text

-- the words of a refusal
abbrev pub refusal_fields : Refusal → List (List ℕ)
refusal_fields BadDescriptor = codes "bad" ∷ codes "descriptor" ∷ []
refusal_fields TooFar = codes "too" ∷ codes "far" ∷ []
refusal_fields TooLong = codes "too" ∷ codes "long" ∷ []
refusal_fields Stopped = codes "stopped" ∷ []
refusal_fields (Spent found) = codes "spent" ∷ decimal found ∷ []
refusal_fields (Again head tail) = codes "again" ∷ decimal head ∷ decimal tail ∷ []
refusal_fields RegionFault = codes "region" ∷ codes "fault" ∷ []
refusal_fields StoreFault = codes "store" ∷ codes "fault" ∷ []

-- the fields of a placed call's line
abbrev pub placed_fields : ℕ → PlacedCall → List (List ℕ)
placed_fields place placed =
    decimal place ∷ decimal placed.call.thread ∷ (call_fields placed.call.call ++ codes "=" ∷ reply_text placed.reply ∷ [])

-- the fields of the lines of placed calls, the first of them at this place
abbrev pub history_listing : ℕ → List PlacedCall → List (List (List ℕ))
history_listing place [] = []
history_listing place (placed ∷ later) = placed_fields place placed ∷ history_listing (place + 1) later

-- the fields of a refused call's line
abbrev pub refused_fields : ShownRefusal → List (List ℕ)
refused_fields refused =
    codes "refused" ∷ decimal refused.call.thread
    ∷ (behind_last (call_fields refused.call.call) (codes ":") ++ refusal_fields refused.refusal)

-- the fields of an open call's line
abbrev pub open_fields : OpenCall → List (List ℕ)
open_fields o =
    codes "open" ∷ decimal o.call.thread ∷ (behind_last (call_fields o.call.call) (codes ":") ++ fate_text o.fate ∷ [])

-- the fields of a recovery's first line
abbrev pub recovered_fields : RecoveryReport → List (List ℕ)
recovered_fields report = codes "recovered" ∷ decimal report.first ∷ decimal report.next ∷ decimal report.groups ∷ []

-- the fields of a file's line
abbrev pub file_fields : NamedFile → List (List ℕ)
file_fields file = codes "file" ∷ file.name ∷ decimal (length file.bytes) ∷ hex_text file.bytes ∷ []

-- the fields of the last line
abbrev pub end_fields : Report → List (List ℕ)
end_fields report =
    codes "end" ∷ decimal (length report.history) ∷ decimal (length report.refused) ∷ decimal (length report.open_calls) ∷ []

-- the lines of a report, each as its fields
abbrev pub listing : Report → List (List (List ℕ))
listing report =
    history_listing 0 report.history ++ map refused_fields report.refused ++ map open_fields report.open_calls
    ++ map file_fields report.files ++ end_fields report ∷ []

-- the lines of lives that crashes ended, the first place being this
abbrev pub ended_listing : (place : ℕ) → List Report → List (List (List ℕ))
ended_listing place [] = []
ended_listing place (life ∷ later) =
    history_listing place life.history ++ map open_fields life.open_calls ++ (codes "crash" ∷ []) ∷ ended_listing (place + length life.history) later

-- the fields of the last line of lives in turn
abbrev pub lives_end_fields : (ended : List Report) → (refused : List ShownRefusal) → (last : Report) → List (List ℕ)
lives_end_fields ended refused last =
    codes "end" ∷ decimal (placed_in_lives ended + length last.history) ∷ decimal (length refused) ∷ decimal (open_in_lives ended + length last.open_calls) ∷ []

-- the lines of a report of lives in turn
abbrev pub lives_listing : (ended : List Report) → (refused : List ShownRefusal) → (last : Report) → List (List (List ℕ))
lives_listing ended refused last =
    ended_listing 0 ended ++ history_listing (placed_in_lives ended) last.history ++ map refused_fields refused ++ map open_fields last.open_calls
    ++ map file_fields last.files ++ lives_end_fields ended refused last ∷ []

-- those of a recovery's report
abbrev pub recovery_listing : RecoveryReport → List (List (List ℕ))
recovery_listing report = recovered_fields report ∷ map file_fields report.files

-- neither a space nor a line feed
abbrev pub IsPlainByte : ℕ → Type 0
IsPlainByte byte = (byte ≢ 32) × (byte ≢ 10)

-- no name of these files has a space or a line feed
abbrev pub HavePlainNames : List NamedFile → Type 0
HavePlainNames files = All (λ file. All IsPlainByte file.name) files

-- A text has one reading: reports of one text list the same lines, field by field.
abbrev pub OneReading : Type 0
OneReading =
    (report other : Report) → HavePlainNames report.files → HavePlainNames other.files
    → report_text report ≡ report_text other → listing report ≡ listing other

-- So it is with the reports of lives in turn.
abbrev pub OneLivesReading : Type 0
OneLivesReading =
    (ended others : List Report) (refused rejected : List ShownRefusal) (last final : Report) → HavePlainNames last.files → HavePlainNames final.files
    → lives_text ended refused last ≡ lives_text others rejected final → lives_listing ended refused last ≡ lives_listing others rejected final

-- And with those of recoveries.
abbrev pub OneRecoveryReading : Type 0
OneRecoveryReading =
    (report other : RecoveryReport) → HavePlainNames report.files → HavePlainNames other.files
    → recovery_text report ≡ recovery_text other → recovery_listing report ≡ recovery_listing other

-- A number's field has one reading.
abbrev pub OneNumber : Type 0
OneNumber = (number other : ℕ) → number < 2 ^ 64 → other < 2 ^ 64 → decimal number ≡ decimal other → number ≡ other

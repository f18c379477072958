-- Streams: rounds of an input that are run as they are read, each before the next is read.
use Rattle.std.specs.Prelude.{◌≡◌, ◌≢◌, ◌⊎◌, ℕ, ◌<◌, ◌≤◌, Bool, true, false, List, [], ◌++◌, length, map, take, All, Option, IfSome, Result, Ok, Err, IfOk}
use Rattle.std.specs.List.Sorted.{IsStrictlyIncreasing}
use Rattle.nv_table.specs.state.States.{PassState}
use Rattle.nv_mount.specs.declared.fds.Fd.{Fd}
use Rattle.nv_trace.specs.NextRound.{IsAtLine, IsLastRound, IsRoundRefused, ahead}
use Rattle.nv_trace.specs.ReadRounds.{AreReadFrom, ReadRound, behind_calls, calls_read, without_calls}
use Rattle.nv_trace.specs.Shape.{IsNumberedBelow, IsWellFormed}
use Rattle.nv_trace.specs.Streams.{Appends}
use Rattle.nv_trace.specs.Traced.{Traced, lines_in}
use Rattle.nv_trace.specs.declared.read_error.ReadError.{ReadError}
use Rattle.nv_trace.specs.declared.read_error.ReadError.TheVariants as read_errors
use Rattle.nv_trace.specs.declared.reader.LineReader.{LineReader}
use Rattle.nv_runner.specs.declared.kept.KeptCalls.{KeptCalls}
use Rattle.nv_runner.specs.declared.plan.Plan.{Plan}
use Rattle.nv_runner.specs.declared.run_error.RunError.{RunError}
use Rattle.nv_runner.specs.declared.running.TheConstants.{MOST_CALLS}
use Rattle.nv_runner.specs.declared.sorted.SortedCalls.{SortedCalls}
use Rattle.nv_runner.specs.declared.stream.StreamError.{StreamError}
use Rattle.nv_runner.specs.declared.stream.StreamError.TheVariants.{NoMemory, Read, Write}
use Rattle.nv_runner.specs.EndedRuns.{HasOutcome}
use Rattle.nv_runner.specs.Histories.{PlacedCall}
use Rattle.nv_runner.specs.KeptRounds.{AreFirstPlaced, AreRoundsOver, IsKeptOf}
use Rattle.nv_runner.specs.Reports.{history_lines}
use Rattle.nv_runner.specs.Sorted.{placed_call}

-- ---- what was read

-- why no further round is read, where its reading gave this error
abbrev pub stream_error : ReadError → StreamError
stream_error (read_errors.Bad bad) = Read (read_errors.Bad bad)
stream_error read_errors.InputLong = Read read_errors.InputLong
stream_error read_errors.Failed = Read read_errors.Failed
stream_error read_errors.NoMemory = NoMemory

-- A round of an input is at hand, and whether a line ended it, so that more may follow. Its calls are of one round, in the order of their lines, and no more rounds were read than bytes.
pub record IsRoundAtHand (more : Bool) (trace : Traced) (reader : LineReader) : Type 0 where
  pub at_line : IsAtLine reader
  pub numbered : IsNumberedBelow reader.pending.number trace
  pub round : ℕ
  pub one : All (λ call. call.round ≡ round) trace.calls
  pub ended : more ≡ true → round < trace.rounds
  pub few : more ≡ true → trace.rounds ≤ reader.taken

-- no further round was read
pub record ReadNoMore (last trace : Traced) (reader : LineReader) : Type 0 where
  pub at_line : IsAtLine reader
  pub last_is : last ≡ trace

-- Why no round follows where more may: the last one was read; or none was, since the next one is refused so, since memory was wanting, or since the sink had failed, behind the last one or before.
abbrev pub IsEndOfRounds : Result (Unit {0}) StreamError → (last : Traced) → Traced → LineReader → (input : List ℕ) → Type 0
IsEndOfRounds (Ok done) last trace reader input = IsLastRound trace reader input last
IsEndOfRounds (Err NoMemory) last trace reader input = ReadNoMore last trace reader ⊎ IsLastRound trace reader input last
IsEndOfRounds (Err (Read error)) last trace reader input = ReadNoMore last trace reader × (next : Traced) × IsRoundRefused trace reader input next error
IsEndOfRounds (Err Write) last trace reader input = ReadNoMore last trace reader ⊎ IsLastRound trace reader input last

-- Behind a round at hand that a line ended, these rounds of the input were read, and the last one or none behind them. The trace of all of them is this one.
pub record AreRoundsOf (first : Traced) (reader : LineReader) (input : List ℕ) (ended : Result (Unit {0}) StreamError) (all : Traced) : Type 0 where
  pub rounds : List ReadRound
  pub last : Traced
  pub read : AreReadFrom (without_calls first) reader input rounds (IsEndOfRounds ended last)
  pub all_is : all ≡ behind_calls (first.calls ++ calls_read rounds) last

-- nothing was read behind the last round, so no reading failed
abbrev pub NoneWasRead : Result (Unit {0}) StreamError → Type 0
NoneWasRead (Ok done) = Unit {0}
NoneWasRead (Err NoMemory) = Unit {0}
NoneWasRead (Err (Read error)) = ⊥
NoneWasRead (Err Write) = Unit {0}

abbrev pub IsAllRead : (more : Bool) → (first : Traced) → LineReader → (input : List ℕ) → Result (Unit {0}) StreamError → (all : Traced) → Type 0
IsAllRead true first reader input ended all = AreRoundsOf first reader input ended all
IsAllRead false first reader input ended all = (all ≡ first) × NoneWasRead ended

-- The trace of rounds that were read behind a first one has its files and descriptors, and is one that may be run, with no more calls than are run.
pub record IsTraceFrom (first all : Traced) : Type 0 where
  pub form : all.form ≡ first.form
  pub names : all.names ≡ first.names
  pub descriptors : all.descriptors ≡ first.descriptors
  pub well_formed : IsWellFormed all
  pub lines : IsStrictlyIncreasing (lines_in all)
  pub few : length all.calls ≤ MOST_CALLS

-- ---- what was written

-- What a sink took of a text: all of it, or a front, where it failed.
abbrev pub HasWritten : (before now : Option (List ℕ)) → Result (Unit {0}) StreamError → (text : List ℕ) → Type 0
HasWritten before now (Ok done) text = Appends before now text
HasWritten before now (Err NoMemory) text = Appends before now text
HasWritten before now (Err (Read error)) text = Appends before now text
HasWritten before now (Err Write) text = (count : ℕ) × Appends before now (take count text)

-- ---- what a run came to

-- The calls of a round at hand and of those that were read behind it were made, as those of one trace, and came to this. The lines of the first that have a place were written: of all, where the run was brought
-- to its end, and the sink did not fail.
pub record HasStreamed (fds : List Fd) (plan : Plan) (start : PassState) (more : Bool) (first : Traced) (reader : LineReader) (left : Option (List ℕ)) (before now : Option (List ℕ)) (ended : Result (Unit {0}) StreamError) (calls : Result KeptCalls RunError) (zero : PassState) : Type 0 where
  pub all : Traced
  pub trace : IsTraceFrom first all
  pub read : IfSome left (λ input. IsAllRead more first reader (ahead reader ++ input) ended all)
  pub outcome : Result SortedCalls RunError
  pub ran : HasOutcome fds plan all.calls start outcome zero
  pub kept : IsKeptOf calls outcome
  pub shown : List PlacedCall
  pub first_shown : AreFirstPlaced ran.made shown
  pub over : AreRoundsOver all.calls ran.made first_shown.later
  pub all_shown : IfOk outcome (λ sorted. shown ≡ map placed_call sorted.placed.items)
  pub written : HasWritten before now ended (history_lines 0 shown)
  -- a sink can fail only where there is a line to write
  pub wrote : ended ≡ Err Write → shown ≢ []

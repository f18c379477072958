-- Ran: the calls of a run, as what is shown of it needs them, and what it read and wrote meanwhile.
use Rattle.std.specs.Prelude.{◌≡◌, ◌≢◌, ℕ, Bool, true, false, List, [], ◌++◌, map, Option, Some, IfSome, Result, Ok, Err, IfOk, IsOk}
use Rattle.std.specs.Global.{Vec}
use Rattle.nv_plain.specs.Faults.{Rose}
use Rattle.nv_table.specs.state.States.{PassState}
use Rattle.nv_mount.specs.declared.fds.Fd.{Fd}
use Rattle.nv_load.specs.Counts.{counts_of_placed}
use Rattle.nv_trace.specs.NextRound.{IsAtLine, IsNextRound, ahead}
use Rattle.nv_trace.specs.Reading.{Whole, ending_of}
use Rattle.nv_trace.specs.Traced.{Traced, empty_trace}
use Rattle.nv_trace.specs.declared.read_error.ReadError.{ReadError}
use Rattle.nv_trace.specs.declared.read_error.ReadError.TheVariants as read_errors
use Rattle.nv_trace.specs.declared.reader.LineReader.{LineReader}
use Rattle.nv_trace.specs.declared.trace.Form.TheVariants as forms
use Rattle.nv_trace.specs.declared.trace_call.TracedCall.{TracedCall}
use Rattle.nv_runner.specs.EndedRuns.{HasOutcome}
use Rattle.nv_runner.specs.Histories.{PlacedCall}
use Rattle.nv_runner.specs.KeptRounds.{AreFirstPlaced, AreKeptOf, AreRoundsOver}
use Rattle.nv_runner.specs.Lists.{MadeCall}
use Rattle.nv_runner.specs.Reports.{history_lines}
use Rattle.nv_runner.specs.Sorted.{placed_call}
use Rattle.nv_runner.specs.Streams.{HasWritten, IsAllRead, IsRoundAtHand, IsTraceFrom}
use Rattle.nv_runner.specs.declared.plan.Plan.{Plan}
use Rattle.nv_runner.specs.declared.run_error.RunError.{RunError}
use Rattle.nv_runner.specs.declared.sorted.SortedCalls.{SortedCalls}
use Rattle.nv_runner.specs.declared.stream.StreamError.{StreamError}
use Rattle.nv_runner.specs.declared.stream.StreamError.TheVariants as ends
use Rattle.nv_top.specs.Ready.{IsRunnable}
use Rattle.nv_top.specs.Shows.{IsShownLoad, trace_run}
use Rattle.nv_top.specs.Stops.{stop_of_read}
use Rattle.nv_top.specs.declared.ending.Stop.{Stop}
use Rattle.nv_top.specs.declared.ending.Stop.TheVariants.{Usage, BadLine, InputLong, Read, Write, Device, Region, NoMemory, Turns}
use Rattle.nv_top.specs.declared.input.Input.{Input}
use Rattle.nv_top.specs.declared.ran.RanCalls.{RanCalls}
use Rattle.nv_top.specs.declared.ran.RanCalls.TheVariants.{Listed, Counted}
use Rattle.nv_top.specs.declared.show.Show.{Show}
use Rattle.nv_top.specs.declared.show.Show.TheVariants.{Report, Summary}

-- ---- what goes in

-- What is run where this is shown of it: the rounds of an input, the first of which is at hand, or the calls of a load, of which nothing is read.
abbrev pub IsRunInput : Show → Input → Type 0
IsRunInput Report input = IsRoundAtHand input.more input.trace input.reader
IsRunInput (Summary load) input = IsShownLoad (Summary load) × (input.more ≡ false) × IsRunnable (trace_run (Summary load) input.trace)

-- The input at hand is the first round of these bytes, of which so much is still to be read.
pub record IsFirstRound (given : List ℕ) (input : Input) (left : List ℕ) : Type 0 where
  pub reader : LineReader
  pub at_line : IsAtLine reader
  pub number : reader.pending.number ≡ 1
  pub taken : reader.taken ≡ 0
  pub round : IsNextRound (empty_trace forms.Run) reader given input.trace input.reader (ahead input.reader ++ left)

-- The source held these bytes, and their first round is at hand; or it is all of them.
abbrev pub IsBegunOf : (more : Bool) → (given : List ℕ) → Input → (left : Option (List ℕ)) → Type 0
IsBegunOf true given input left = (rest : List ℕ) × (left ≡ Some rest) × IsFirstRound given input rest
IsBegunOf false given input left = (left ≡ Some []) × (ending_of forms.Run given ≡ Whole input.trace)

-- ---- what comes of the calls

-- They are those that these are sorted out to: what is kept of them, where the report is shown, or what is counted of them, where the summary of their load is.
abbrev pub AreOf : Show → RanCalls → SortedCalls → Type 0
AreOf Report (Listed kept) sorted = AreKeptOf kept sorted
AreOf Report (Counted load counts) sorted = ⊥
AreOf (Summary load) (Listed kept) sorted = ⊥
AreOf (Summary load) (Counted counted counts) sorted = (counted ≡ load) × (counts ≡ counts_of_placed (map placed_call sorted.placed.items))

-- what a run came to tells that, or its error
abbrev pub IsToldAs : Show → Result RanCalls RunError → Result SortedCalls RunError → Type 0
IsToldAs show (Ok calls) (Ok sorted) = AreOf show calls sorted
IsToldAs show (Ok calls) (Err error) = ⊥
IsToldAs show (Err error) (Ok sorted) = ⊥
IsToldAs show (Err error) (Err other) = other ≡ error

-- the calls that are shown before the end of a run that was brought to it: all that have a place, where the report is shown
abbrev pub shown_of : Show → SortedCalls → List PlacedCall
shown_of Report sorted = map placed_call sorted.placed.items
shown_of (Summary load) sorted = []

-- These are, of the calls of a trace that were made: first ones by their places, all but some of the last round, and all of them, where the run was brought to its end.
abbrev pub AreShown : Show → (calls : List TracedCall) (made : List MadeCall) → Result SortedCalls RunError → (shown : List PlacedCall) → Type 0
AreShown Report calls made outcome shown = (first : AreFirstPlaced made shown) × AreRoundsOver calls made first.later × IfOk outcome (λ sorted. shown ≡ shown_of Report sorted)
AreShown (Summary load) calls made outcome shown = shown ≡ []

-- ---- what is read and written meanwhile

-- nothing that is read or written ended a run
abbrev pub IsUnstreamed : Result (Unit {0}) StreamError → Type 0
IsUnstreamed (Ok done) = Unit {0}
IsUnstreamed (Err ends.NoMemory) = Unit {0}
IsUnstreamed (Err (ends.Read error)) = ⊥
IsUnstreamed (Err ends.Write) = ⊥

-- The trace of the calls of a run: those of the round at hand and of the rounds that were read behind it, of which the source held so much; or those of a load.
abbrev pub IsTraceOf : Show → Input → (left : Option (List ℕ)) → Result (Unit {0}) StreamError → Traced → Type 0
IsTraceOf Report input left ended all = IsTraceFrom input.trace all × IfSome left (λ bytes. IsAllRead input.more input.trace input.reader (ahead input.reader ++ bytes) ended all)
IsTraceOf (Summary load) input left ended all = IsUnstreamed ended × (all ≡ trace_run (Summary load) input.trace)

-- of a load nothing is shown before its end
abbrev pub MayShow : Show → (shown : List PlacedCall) → Type 0
MayShow Report shown = Unit {0}
MayShow (Summary load) shown = shown ≡ []

-- What a run took of its source, and what its sink took of it: the calls that it made are of this trace, and the lines of these were written before its end, or a front of them, where the sink failed. Each count of faults rose only where
-- it was ended so.
pub record HasStreamedOn (show : Show) (input : Input) (given left : Option (List ℕ)) (reads_before reads_now : ℕ) (before now : Option (List ℕ)) (writes_before writes_now : ℕ) (ended : Result (Unit {0}) StreamError) (all : Traced) (shown : List PlacedCall) : Type 0 where
  pub trace : IsTraceOf show input given ended all
  pub may_show : MayShow show shown
  pub written : HasWritten before now ended (history_lines 0 shown)
  pub wrote : ended ≡ Err ends.Write → shown ≢ []
  pub at_end : IsOk ended → input.more ≡ true → IfSome given (λ bytes. left ≡ Some [])
  pub unread : input.more ≡ false → left ≡ given
  pub read_failed : ended ≡ Err (ends.Read read_errors.Failed) → Rose reads_before reads_now
  pub read_kept : ended ≢ Err (ends.Read read_errors.Failed) → reads_now ≡ reads_before
  pub write_failed : ended ≡ Err ends.Write → Rose writes_before writes_now
  pub write_kept : ended ≢ Err ends.Write → writes_now ≡ writes_before

-- The calls of a run were made, and came to this.
pub record HasRunCalls (show : Show) (fds : List Fd) (plan : Plan) (start : PassState) (calls : Result RanCalls RunError) (all : Traced) (shown : List PlacedCall) (zero : PassState) : Type 0 where
  pub outcome : Result SortedCalls RunError
  pub ran : HasOutcome fds plan all.calls start outcome zero
  pub told : IsToldAs show calls outcome
  pub first : AreShown show all.calls ran.made outcome shown

-- ---- how it ends

-- why a run is given up for a device or for memory, or else what its input is refused for
abbrev pub stop_or : ReadError → Stop → Stop
stop_or error Usage = stop_of_read error
stop_or error (BadLine bad) = stop_of_read error
stop_or error InputLong = stop_of_read error
stop_or error Read = stop_of_read error
stop_or error Write = stop_of_read error
stop_or error Device = Device
stop_or error (Region why) = stop_of_read error
stop_or error NoMemory = NoMemory
stop_or error Turns = stop_of_read error

-- What is answered of a run whose rounds ended so, and of which this was to be told: the sink's fault; then what it was given up for; then what its input is refused for; and else what was to be told.
abbrev pub answer_of : Result (Unit {0}) StreamError → Result (Vec ℕ) Stop → Result (Vec ℕ) Stop
answer_of (Ok done) told = told
answer_of (Err ends.NoMemory) told = told
answer_of (Err (ends.Read error)) (Ok text) = Err (stop_of_read error)
answer_of (Err (ends.Read error)) (Err stop) = Err (stop_or error stop)
answer_of (Err ends.Write) told = Err Write

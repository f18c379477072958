-- Faithful reports: what a run of a trace begins with, and when a report of it is right.
use Rattle.std.specs.Prelude.{◌≡◌, ℕ, ◌+◌, ◌*◌, ◌^◌, ◌<◌, ◌≤◌, ◌==◌, ◌&&◌, ◌||◌, not, nat_lt, min, if◌then◌else◌, Bool, true, false, List, [], ◌++◌, length, map, filter, fold, All, Option, Some, None, MatchOption, slice_index_or, IsPermutation}
use Rattle.std.specs.List.{concat, sum, zip}
use Rattle.std.specs.List.Sorted.{IsStrictlyIncreasing}
use Rattle.nv_plain.specs.declared.call.FileCall.{FileCall}
use Rattle.nv_plain.specs.declared.call.FileCall.TheVariants.{Read, Write, Readv, Writev, Sync}
use Rattle.nv_plain.specs.Calls.{files_after}
use Rattle.nv_plain.specs.Files.{Files}
use Rattle.nv_plain.specs.Histories.{Answered, IsLegal, after}
use Rattle.nv_plain.specs.Modes.{can_read, can_write}
use Rattle.nv_plain.specs.declared.mode.Mode.TheVariants.{R}
use Rattle.nv_plain.specs.Layouts.{mount_layout}
use Rattle.nv_plain.specs.Pieces.{pages_touched}
use Rattle.nv_trace.specs.declared.trace_call.TraceCall.{TraceCall}
use Rattle.nv_trace.specs.declared.trace_call.TraceCall.TheVariants.{Pread, Pwrite, Preadv, Pwritev, Fsync}
use Rattle.nv_trace.specs.declared.trace_call.TracedCall.{TracedCall}
use Rattle.nv_trace.specs.declared.report.Fate.{Fate}
use Rattle.nv_trace.specs.declared.report.Fate.TheVariants.{Kept, Lost, Unanswered}
use Rattle.nv_trace.specs.declared.report.Refusal.{Refusal}
use Rattle.nv_trace.specs.declared.report.Refusal.TheVariants.{BadDescriptor, TooFar, TooLong, Stopped, Spent, Again, RegionFault, StoreFault}
use Rattle.nv_trace.specs.Said.{said_place}
use Rattle.nv_trace.specs.Traced.{Traced}
use Rattle.nv_trace.specs.declared.trace.Descriptor.{Descriptor}
use Rattle.nv_runner.specs.Entries.{entries_of_calls, entries_taken}
use Rattle.nv_runner.specs.Histories.{KeepOrder, PlacedCall}
use Rattle.nv_runner.specs.Reports.{NamedFile, OpenCall, Report}

-- the sizes of a run: bytes of a page, entries of the log, pages of a file
pub record RunSizes : Type 0 where
  pub page : ℕ
  pub entries : ℕ
  pub pages : ℕ

-- What a run begins with: its sizes; all files of its region, by their names in the header's order and by their bytes; and the
-- number that its log begins with.
pub record Basis : Type 0 where
  pub sizes : RunSizes
  pub names : List (List ℕ)
  pub files : Files
  pub next : ℕ

-- ---- calls on files

-- a descriptor of a trace, its file by the place of its name among all names
abbrev pub placed_in : List (List ℕ) → Traced → Descriptor → Descriptor
placed_in names trace descriptor = record { file = said_place (slice_index_or trace.names descriptor.file []) names; mode = descriptor.mode }

-- the descriptors of a trace, each file by the place of its name among all names
abbrev pub descriptors_in : List (List ℕ) → Traced → List Descriptor
descriptors_in names trace = map (placed_in names trace) trace.descriptors

-- a descriptor, by its number; each call of a trace has one that is there
abbrev pub descriptor_at : List Descriptor → ℕ → Descriptor
descriptor_at descriptors fd = slice_index_or descriptors fd (record { file = 0; mode = R })

-- a descriptor's call, as a call on its file
abbrev pub file_call : List Descriptor → TraceCall → FileCall
file_call descriptors (Pread fd at len) = Read (descriptor_at descriptors fd).file at len
file_call descriptors (Pwrite fd at bytes) = Write (descriptor_at descriptors fd).file at bytes
file_call descriptors (Preadv fd at lens) = Readv (descriptor_at descriptors fd).file at lens
file_call descriptors (Pwritev fd at parts) = Writev (descriptor_at descriptors fd).file at parts
file_call descriptors (Fsync fd) = Sync (descriptor_at descriptors fd).file

-- the history of placed calls
abbrev pub history_of : List Descriptor → List PlacedCall → List Answered
history_of descriptors placed =
    map (λ p. record { caller = p.call.thread; call = file_call descriptors p.call.call; reply = p.reply }) placed

-- the files after a call of this fate: a kept one is whole in them, and nothing of a lost one is; one without an answer changes none
abbrev pub after_fate : FileCall → Files → Fate → Files
after_fate call files Kept = files_after call files
after_fate call files Lost = files
after_fate call files Unanswered = files

-- the files after some open calls, the first of them first
abbrev pub after_open : List Descriptor → List OpenCall → Files → Files
after_open descriptors open_calls files =
    fold (λ files o. after_fate (file_call descriptors o.call.call) files o.fate) files open_calls

-- names with the files' bytes
abbrev pub named : List (List ℕ) → Files → List NamedFile
named names files = map (λ pair. record { name = pair.0; bytes = pair.1 }) (zip names files.contents)

-- ---- refusals and their causes

-- why a call that moves so many bytes can't be made, where it may touch so many pages
abbrev pub barred_by : RunSizes → (most at len : ℕ) → Option Refusal
barred_by sizes most at len =
    if nat_lt (sizes.page * sizes.pages) (at + len) then Some TooFar
    else if nat_lt most (pages_touched at len sizes.page) then Some TooLong
    else None

-- why a call is barred by where it reads or writes: it ends too far, or touches more pages than a group may have entries, or than the log has
abbrev pub barred_there : RunSizes → TraceCall → Option Refusal
barred_there sizes (Pread fd at len) = barred_by sizes (min mount_layout.group_limit sizes.entries) at len
barred_there sizes (Pwrite fd at bytes) = barred_by sizes (min mount_layout.group_limit sizes.entries) at (length bytes)
barred_there sizes (Preadv fd at lens) = barred_by sizes (min mount_layout.group_limit sizes.entries) at (sum lens)
barred_there sizes (Pwritev fd at parts) = barred_by sizes (min mount_layout.group_limit sizes.entries) at (length (concat parts))
barred_there sizes (Fsync fd) = None

-- a call's descriptor was opened in a mode that allows the call
abbrev pub is_allowed : List Descriptor → TraceCall → Bool
is_allowed descriptors (Pread fd at len) = can_read (descriptor_at descriptors fd).mode
is_allowed descriptors (Pwrite fd at bytes) = can_write (descriptor_at descriptors fd).mode
is_allowed descriptors (Preadv fd at lens) = can_read (descriptor_at descriptors fd).mode
is_allowed descriptors (Pwritev fd at parts) = can_write (descriptor_at descriptors fd).mode
is_allowed descriptors (Fsync fd) = true

-- why a call can't be made, whatever the log holds
abbrev pub barred : RunSizes → List Descriptor → TraceCall → Option Refusal
barred sizes descriptors call = if is_allowed descriptors call then barred_there sizes call else Some BadDescriptor

-- a call comes later than another: it stands in a later line of its thread, or is of a later round
abbrev pub is_later : TracedCall → (other : TracedCall) → Bool
is_later call other = (other.thread == call.thread && nat_lt call.line other.line) || nat_lt call.round other.round

-- some calls but those that come later than this one
abbrev pub not_later : TracedCall → List TracedCall → List TracedCall
not_later call calls = filter (λ other. not (is_later call other)) calls

-- a number that a call may find as the next: at most the first one, and what the calls drew that don't come later than it
abbrev pub MayBeDrawn : Basis → (drew : List TracedCall) → TracedCall → ℕ → Type 0
MayBeDrawn basis drew call head = head ≤ basis.next + entries_of_calls basis.sizes.page (not_later call drew)

-- The log had no room for a call that takes entries, where it had retired up to such a tail.
pub record HadNoRoom (Retired : (tail : ℕ) → Type 0) (basis : Basis) (drew : List TracedCall) (call : TracedCall) (head tail : ℕ) : Type 0 where
  pub takes : 0 < entries_taken basis.sizes.page call.call
  pub retired : Retired tail
  pub full : tail + basis.sizes.entries < head + entries_taken basis.sizes.page call.call
  pub drawn : MayBeDrawn basis drew call head

-- The numbers were used up for a call that takes entries.
pub record HadNoNumber (basis : Basis) (drew : List TracedCall) (call : TracedCall) (found : ℕ) : Type 0 where
  pub takes : 0 < entries_taken basis.sizes.page call.call
  pub spent : 2 ^ 60 < found + entries_taken basis.sizes.page call.call
  pub drawn : MayBeDrawn basis drew call found

abbrev pub IsReadCall : TraceCall → Type 0
IsReadCall (Pread fd at len) = Unit {0}
IsReadCall (Pwrite fd at bytes) = ⊥
IsReadCall (Preadv fd at lens) = Unit {0}
IsReadCall (Pwritev fd at parts) = ⊥
IsReadCall (Fsync fd) = ⊥

-- a write of some bytes
abbrev pub IsWrite : TraceCall → Type 0
IsWrite (Pread fd at len) = ⊥
IsWrite (Pwrite fd at bytes) = 0 < length bytes
IsWrite (Preadv fd at lens) = ⊥
IsWrite (Pwritev fd at parts) = 0 < length (concat parts)
IsWrite (Fsync fd) = ⊥

-- Why a call was refused that its arguments don't bar: no number was left, or no room in the log; or, where devices failed, it was made after that, or was the read that met it.
abbrev pub WasRefused : (failed : Type 0) → (Retired : (tail : ℕ) → Type 0) → Basis → (drew : List TracedCall) → TracedCall → Refusal → Type 0
WasRefused failed Retired basis drew call BadDescriptor = ⊥
WasRefused failed Retired basis drew call TooFar = ⊥
WasRefused failed Retired basis drew call TooLong = ⊥
WasRefused failed Retired basis drew call Stopped = failed
WasRefused failed Retired basis drew call (Spent found) = HadNoNumber basis drew call found
WasRefused failed Retired basis drew call (Again head tail) = HadNoRoom Retired basis drew call head tail
WasRefused failed Retired basis drew call RegionFault = IsReadCall call.call × failed
WasRefused failed Retired basis drew call StoreFault = IsReadCall call.call × failed

-- A refusal that may be shown: the one that bars the call, or, where none does, one that has such a cause.
abbrev pub IsAllowedRefusal : (failed : Type 0) → (Retired : (tail : ℕ) → Type 0) → Basis → List Descriptor → (drew : List TracedCall) → TracedCall → Refusal → Type 0
IsAllowedRefusal failed Retired basis descriptors drew call refusal =
    MatchOption (barred basis.sizes descriptors call.call) (WasRefused failed Retired basis drew call refusal) (λ cause. refusal ≡ cause)

-- a call that may be left open: a write of some bytes that nothing bars, where devices failed
pub record IsLeftOpen (failed : Type 0) (basis : Basis) (descriptors : List Descriptor) (call : TracedCall) : Type 0 where
  pub is_write : IsWrite call.call
  pub failed_so : failed
  pub not_barred : barred basis.sizes descriptors call.call ≡ None

-- ---- reports

abbrev pub placed_calls : Report → List TracedCall
placed_calls report = map (λ p. p.call) report.history

abbrev pub open_calls_of : Report → List TracedCall
open_calls_of report = map (λ o. o.call) report.open_calls

-- the calls that drew entries
abbrev pub drawing_calls : Report → List TracedCall
drawing_calls report = placed_calls report ++ open_calls_of report

-- all calls that a report lists
abbrev pub listed_calls : Report → List TracedCall
listed_calls report = placed_calls report ++ map (λ r. r.call) report.refused ++ open_calls_of report

-- the files after the history of a report, and then the kept ones of its open calls, each whole
abbrev pub files_shown : Basis → Traced → Report → Files
files_shown basis trace report =
    after_open (descriptors_in basis.names trace) report.open_calls
    (after (history_of (descriptors_in basis.names trace) report.history) basis.files)

-- A report is faithful to a trace of which such calls were made from this basis, while the log had retired up to such a tail; devices failed only where this says so. Which calls may be left open, and what those that drew entries may have
-- drawn, is said by what made them.
pub record IsFaithfulTo (failed : Type 0) (WereMade : List TracedCall → Type 0) (Retired : (tail : ℕ) → Type 0) (MayBeOpen : TracedCall → Type 0) (MayDraw : List TracedCall → Type 0) (basis : Basis) (trace : Traced) (report : Report) : Type 0 where
  -- its history is one of plain files, from those of the basis
  pub legal : IsLegal (history_of (descriptors_in basis.names trace) report.history) basis.files
  -- each call that was made stands in it once, in the history, among the refused or among the open ones, and no other call
  pub made : WereMade (listed_calls report)
  -- the history keeps the order of each thread's lines, and that of the rounds
  pub in_order : KeepOrder (placed_calls report)
  -- the refused and the open ones stand in the order of their lines
  pub refused_in_order : IsStrictlyIncreasing (map (λ r. r.call.line) report.refused)
  pub open_in_order : IsStrictlyIncreasing (map (λ call. call.line) (open_calls_of report))
  -- a refusal has its cause, and what is barred isn't placed
  pub allowed : All (λ r. IsAllowedRefusal failed Retired basis (descriptors_in basis.names trace) (drawing_calls report) r.call r.refusal) report.refused
  pub not_barred : All (λ call. barred basis.sizes (descriptors_in basis.names trace) call.call ≡ None) (placed_calls report)
  pub left_open : All MayBeOpen (open_calls_of report)
  pub drew : MayDraw (drawing_calls report)
  -- the files are those after the history and then the kept writes, each whole
  pub files : report.files ≡ named basis.names (files_shown basis trace report)

-- ---- those of runs

-- nothing was retired, where no worker does it
abbrev pub RetiresNothing : (worker : Bool) → Basis → (tail : ℕ) → Type 0
RetiresNothing worker basis tail = (worker ≡ false) × (tail ≡ basis.next)

-- Without a worker a write for which the log has no entry left is refused. No number is drawn beyond the last one: a write whose entries would pass it is refused.
pub record HadRoom (worker : Bool) (basis : Basis) (drew : List TracedCall) : Type 0 where
  pub room : worker ≡ false → entries_of_calls basis.sizes.page drew ≤ basis.sizes.entries
  pub numbers : basis.next + entries_of_calls basis.sizes.page drew ≤ 2 ^ 60

-- A report is faithful to a trace whose threads' calls were made from this basis, all of them, with a worker beside them or not. Only a write is left open, where a device failed.
abbrev pub IsFaithful : (failed : Type 0) → (worker : Bool) → Basis → Traced → Report → Type 0
IsFaithful failed worker basis trace report =
    IsFaithfulTo failed (λ listed. IsPermutation listed trace.calls) (RetiresNothing worker basis) (IsLeftOpen failed basis (descriptors_in basis.names trace)) (HadRoom worker basis) basis trace report

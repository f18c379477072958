-- A schedule that was followed to its end, after power went off and the region was recovered: its report is faithful to the trace.
use Rattle.std.proofs.Common.{◌≡◌, ◌⊎◌, inl, inr, ℕ, ◌<◌, ◌≤◌, ◌^◌, Bool, true, false, cond, eqb, eq-eqb, All, List, [], ◌∷◌, ◌++◌, length, map, Ok, refl, sym, ap, subst, ◌∙◌, arith, IsPermutation, slice_set, slice_index_or}
use Rattle.std.specs.Prelude.{MatchOption, Option, Some, None}
use Rattle.std.specs.List.{flat_map, swap}
use Rattle.std.specs.List.Sorted.{IsNonDecreasingBy, IsStrictlyIncreasing, SwapsInRange, apply_swaps}
use Rattle.std.proofs.Math.ListN.{get_or-map}
use Rattle.std.proofs.lemmas.List.{length-map, map-set}
use Rattle.std.proofs.lemmas.Bool.{true≢false}
use Rattle.std.proofs.lemmas.List.Elements.{All-cons, All-filter, All-head, All-nil, All-tail, All-weaker}
use Rattle.std.proofs.lemmas.List.Sorted.{All-permutation, IsPermutation-map, IsPermutation-sym, IsPermutation-trans}
use Rattle.nv_plain.specs.Files.{Files}
use Rattle.nv_plain.specs.Histories.{after}
use Rattle.nv_plain.specs.Images.{Image}
use Rattle.nv_plain.specs.Layouts.{mount_layout}
use Rattle.nv_plain.specs.Recovered.{recovered}
use Rattle.nv_plain.specs.declared.call.FileCall.{FileCall}
use Rattle.nv_plain.specs.Made.{after_calls}
use Rattle.nv_pmem.specs.Rows.{row_words}
use Rattle.nv_pmem.specs.Steps as lines
use Rattle.nv_store.specs.Steps as stores
use Rattle.nv_bench.specs.Holding.{Holding}
use Rattle.nv_open.specs.Held.{files_named}
use Rattle.nv_open.specs.Lending.{stores_named}
use Rattle.nv_recover.specs.Recovering.{HasFoundAll}
use Rattle.nv_recover.specs.Standing.{ReadableStandsForRecovered, files_of}
use Rattle.nv_recover.specs.declared.recovering.Recovered as recover
use Rattle.nv_core.specs.state.Values.{Value}
use Rattle.nv_core.specs.steps.Opening.{IsMount}
use Rattle.nv_table.specs.state.Opened.{Opened, mount_of}
use Rattle.nv_table.specs.state.States.{PassState}
use Rattle.nv_mount.specs.ClosedAtRest.{files_then}
use Rattle.nv_mount.specs.Mounts.{MountState}
use Rattle.nv_mount.specs.RisenCounts.{SawStop}
use Rattle.nv_mount.specs.WholeRuns.{history_then}
use Rattle.nv_mount.specs.WholeWrites.{LeavesWholeWrites, flights_then}
use Rattle.nv_mount.specs.declared.fds.Fd.{Fd}
use Rattle.nv_trace.specs.Forms.{has_rounds}
use Rattle.nv_trace.specs.Shape.{IsCallWithin, IsWellFormed}
use Rattle.nv_trace.specs.Traced.{Traced, lines_in}
use Rattle.nv_trace.specs.declared.report.Refusal.{Refusal}
use Rattle.nv_trace.specs.declared.report.Refusal.TheVariants.{BadDescriptor, TooFar, TooLong, Stopped, Spent, Again, RegionFault, StoreFault}
use Rattle.nv_trace.specs.declared.trace.Descriptor.{Descriptor}
use Rattle.nv_trace.specs.declared.trace_call.TraceCall.{TraceCall}
use Rattle.nv_trace.specs.declared.trace_call.TraceCall.TheVariants.{Pread, Pwrite, Preadv, Pwritev, Fsync}
use Rattle.nv_trace.specs.declared.trace_call.TracedCall.{TracedCall}
use Rattle.nv_runner.specs.Faithful.{Basis, IsAllowedRefusal, WasRefused, after_fate, after_open, barred, descriptors_in, drawing_calls, file_call, files_shown, history_of, named, placed_in}
use Rattle.nv_calls.specs.histories.Faults.{open_in}
use Rattle.nv_runner.specs.FaithfulRuns.{IsMountOf}
use Rattle.nv_runner.specs.Histories.{AreHistory, CallsOnFiles}
use Rattle.nv_runner.specs.Lists.{made_calls}
use Rattle.nv_runner.specs.OpenRuns.{LeftOpenAreKept}
use Rattle.nv_runner.specs.OpenWrites.{kept_open}
use Rattle.nv_runner.specs.Reports.{OpenCall, Report, ShownRefusal}
use Rattle.nv_runner.specs.Shifts.{calls_of_thread}
use Rattle.nv_runner.specs.Sorted.{AreSortedOut, OpenedCall, opened_call, opened_calls, placed_call, refused_call}
use Rattle.nv_runner.specs.Told.{AreTold, DescriptorsSayFiles}
use Rattle.nv_runner.specs.declared.sorted.Open.{Open}
use Rattle.nv_runner.specs.declared.sorted.SortedCalls.{SortedCalls}
use Rattle.nv_runner.proofs.OpenRunLaws.{flat_moved}
use Rattle.nv_runner.proofs.SortedLaws.{falls_not}
use Rattle.nv_schedule.specs.Begun.{AreBegun, AreFirstOfThread, SchedulesBegin, listed_calls, unanswered_calls}
use Rattle.nv_schedule.specs.FaithfulSchedules.{BeginThreads, IsFaithfulSchedule, SchedulesAreFaithful, ShowsSchedule}
use Rattle.nv_schedule.specs.Scheduled.{AreCallsOf, HasFollowed}
use Rattle.nv_schedule.specs.SortedOut.{AreOfOneRound, SchedulesAreLegal, SchedulesAreTold}
use Rattle.nv_schedule.specs.Turns.{CallerState}
use Rattle.nv_schedule.specs.declared.scheduled.ScheduledCalls.{ScheduledCalls}
use Rattle.nv_top.specs.Fates.{AreShownOpen, begun_call, begun_fate, fate_of, fated}
use Rattle.nv_top.specs.Outcomes.{shown_report}
use Rattle.nv_top.specs.Stopped.{IsRunOfReport}
use Rattle.nv_top.proofs.FateLemmas.{after_fates, open_writes_are}
use Rattle.nv_top.proofs.StoppedLemmas.{left_writes}
use Rattle.nv_top.proofs.StoppingLemmas.{HasClosedOver, all_right, files_open, log_opens, same_files, still_opened, within_open}

-- ---- orders

map_swapped : {X Y : Type 0} (f : X → Y) (xs : List X) (i j : ℕ) → map f (swap xs i j) ≡ swap (map f xs) i j
map_swapped f [] i j = refl
map_swapped f (d ∷ xs) i j =
    let l = d ∷ xs in
    map-set f (slice_set l i (slice_index_or l j d)) j (slice_index_or l i d)
    ∙ ap (λ t. slice_set t j (f (slice_index_or l i d))) (map-set f l i (slice_index_or l j d))
    ∙ ap (λ y. slice_set (slice_set (map f l) i y) j (f (slice_index_or l i d))) (sym (get_or-map f l j d))
    ∙ ap (λ y. slice_set (slice_set (map f l) i (slice_index_or (map f l) j (f d))) j y) (sym (get_or-map f l i d))

mapped_moves : {X Y : Type 0} (f : X → Y) (xs : List X) (moves : List (ℕ × ℕ)) → map f (apply_swaps xs moves) ≡ apply_swaps (map f xs) moves
mapped_moves f xs [] = refl
mapped_moves f xs (p ∷ ps) = map_swapped f (apply_swaps xs ps) p.0 p.1 ∙ ap (λ l. swap l p.0 p.1) (mapped_moves f xs ps)

-- an order of what is made of some is what is made of an order of these
pub ordered : {X Y : Type 0} (f : X → Y) (xs : List X) (ys : List Y) → IsPermutation (map f xs) ys → (zs : List X) × IsPermutation xs zs × (ys ≡ map f zs)
ordered f xs ys moved = (
  apply_swaps xs moved.moves,
  record { moves = moved.moves; below = subst (λ n. SwapsInRange n moved.moves) (length-map xs f) moved.below; is = refl },
  moved.is ∙ sym (mapped_moves f xs moved.moves),
)

pub falls_before : {X Y : Type 0} (f : X → Y) (key : Y → ℕ) (xs : List X) → IsNonDecreasingBy key (map f xs) → IsNonDecreasingBy (λ x. key (f x)) xs
falls_before f key xs rises i j d before within =
    let long = length-map xs f in
    let up = rises i j (f d) before (omega (arith, long)) in
    let key_i = ap key (get_or-map f xs i d) in
    let key_j = ap key (get_or-map f xs j d) in
    omega (arith, up, key_i, key_j)

-- ---- the calls that a report shows as open

-- one of them: a write that was left open, or a call that was begun
abbrev show : (first : ℕ) (groups : List ℕ) → Open ⊎ TracedCall → OpenCall
show first groups (inl one) = fated first groups one
show first groups (inr call) = begun_call call

abbrev only_open : Open ⊎ TracedCall → List Open
only_open (inl one) = one ∷ []
only_open (inr call) = []

abbrev either : List Open → List TracedCall → List (Open ⊎ TracedCall)
either [] [] = []
either [] (call ∷ later) = inr call ∷ either [] later
either (one ∷ left) begun = inl one ∷ either left begun

either_shown : (first : ℕ) (groups : List ℕ) (left : List Open) (begun : List TracedCall) → map (show first groups) (either left begun) ≡ map (fated first groups) left ++ map begun_call begun
either_shown first groups [] [] = refl
either_shown first groups [] (call ∷ later) = ap (λ l. begun_call call ∷ l) (either_shown first groups [] later)
either_shown first groups (one ∷ left) begun = ap (λ l. fated first groups one ∷ l) (either_shown first groups left begun)

either_open : (left : List Open) (begun : List TracedCall) → flat_map only_open (either left begun) ≡ left
either_open [] [] = refl
either_open [] (call ∷ later) = either_open [] later
either_open (one ∷ left) begun = ap (λ l. one ∷ l) (either_open left begun)

-- a call that was begun and drew no number changes no file
stays : (call : TraceCall) (on_file : FileCall) (files : Files) → after_fate on_file files (begun_fate call) ≡ files
stays (Pread fd at len) on_file files = refl
stays (Pwrite fd at bytes) on_file files = refl
stays (Preadv fd at lens) on_file files = refl
stays (Pwritev fd at parts) on_file files = refl
stays (Fsync fd) on_file files = refl

order_after : (first : ℕ) (groups : List ℕ) (descriptors : List Descriptor) (these : List (Open ⊎ TracedCall)) (files : Files)
    → after_open descriptors (map (show first groups) these) files ≡ after_open descriptors (map (fated first groups) (flat_map only_open these)) files
order_after first groups descriptors [] files = refl
order_after first groups descriptors (inl one ∷ later) files =
    order_after first groups descriptors later (after_fate (file_call descriptors one.call.now.call) files (fate_of first groups one.number))
order_after first groups descriptors (inr call ∷ later) files =
    ap (after_open descriptors (map (show first groups) later)) (stays call.call (file_call descriptors call.call) files) ∙ order_after first groups descriptors later files

-- The files after all that are shown are those after the writes that were left open, in the order in which they are shown.
shown_order : (first : ℕ) (groups : List ℕ) (left : List Open) (begun : List TracedCall) (shown : List OpenCall) → AreShownOpen first groups left begun shown
    → (order : List Open) × IsPermutation left order × ((descriptors : List Descriptor) (files : Files) → after_open descriptors shown files ≡ after_open descriptors (map (fated first groups) order) files)
shown_order first groups left begun shown are =
    let all = either left begun in
    let these = ordered (show first groups) all shown (subst (λ l. IsPermutation l shown) (sym (either_shown first groups left begun)) are.all) in (
      flat_map only_open these.0,
      subst (λ l. IsPermutation l (flat_map only_open these.0)) (either_open left begun) (flat_moved only_open all these.0 these.1),
      λ descriptors files. ap (λ l. after_open descriptors l files) these.2 ∙ order_after first groups descriptors these.0 files,
    )

-- the calls of those that are shown
shown_calls : (first : ℕ) (groups : List ℕ) (left : List Open) (begun : List TracedCall)
    → map (λ (o : OpenCall). o.call) (map (fated first groups) left ++ map begun_call begun) ≡ map (λ (o : OpenedCall). o.call) (map opened_call left) ++ begun
shown_calls first groups [] [] = refl
shown_calls first groups [] (call ∷ later) = ap (λ l. call ∷ l) (shown_calls first groups [] later)
shown_calls first groups (one ∷ left) begun = ap (λ l. one.call.now ∷ l) (shown_calls first groups left begun)

-- ---- the calls that were begun

-- what is so of each thread's calls is so of all
all_threads : (P : TracedCall → Type 0) (calls : List TracedCall) → ((thread : ℕ) → All P (calls_of_thread thread calls)) → All P calls
all_threads P [] each = All-nil P
all_threads P (call ∷ later) each = All-cons P call later (first (eqb call.thread call.thread) (eq-eqb call.thread call.thread refl) (each call.thread)) (all_threads P later (λ thread. rest thread (eqb call.thread thread) (each thread)))
  where
    first : (here : Bool) → here ≡ true → All P (cond here (call ∷ calls_of_thread call.thread later) (calls_of_thread call.thread later)) → P call
    first true is all = All-head P call (calls_of_thread call.thread later) all
    first false is all = absurd (true≢false (sym is))

    rest : (thread : ℕ) (here : Bool) → All P (cond here (call ∷ calls_of_thread thread later) (calls_of_thread thread later)) → All P (calls_of_thread thread later)
    rest thread true all = All-tail P call (calls_of_thread thread later) all
    rest thread false all = all

all_left : (P : TracedCall → Type 0) (xs ys : List TracedCall) → All P (xs ++ ys) → All P xs
all_left P [] ys all = All-nil P
all_left P (x ∷ xs) ys all = All-cons P x xs (All-head P x (xs ++ ys) all) (all_left P xs ys (All-tail P x (xs ++ ys) all))

-- what is so of all calls of a trace is so of those that are listed
begun_all : (P : TracedCall → Type 0) (calls listed unanswered : List TracedCall) → ((thread : ℕ) → AreFirstOfThread calls listed unanswered thread) → All P calls → All P listed
begun_all P calls listed unanswered each all =
    all_threads P listed (λ thread.
    let first = each thread in
    all_left P (calls_of_thread thread listed) (calls_of_thread thread unanswered)
    (all_left P (calls_of_thread thread listed ++ calls_of_thread thread unanswered) first.left
    (subst (All P) first.first (All-filter (λ (call : TracedCall). eqb call.thread thread) P calls all))))

-- so it is of those of a report that are each thread's first ones
pub report_all : (P : TracedCall → Type 0) (calls some : List TracedCall) → BeginThreads calls some → All P calls → All P some
report_all P calls some begins all =
    All-permutation P begins.begun some (IsPermutation-sym some begins.begun begins.each_once)
    (all_threads P begins.begun (λ thread.
    all_left P (calls_of_thread thread begins.begun) (begins.left thread) (subst (All P) (begins.first thread) (All-filter (λ (call : TracedCall). eqb call.thread thread) P calls all))))

-- ---- where devices have failed

refused_more : (failed more : Type 0) (Retired : ℕ → Type 0) (basis : Basis) (drew : List TracedCall) (call : TracedCall) (refusal : Refusal) → (failed → more) → WasRefused failed Retired basis drew call refusal
    → WasRefused more Retired basis drew call refusal
refused_more failed more Retired basis drew call BadDescriptor on is = is
refused_more failed more Retired basis drew call TooFar on is = is
refused_more failed more Retired basis drew call TooLong on is = is
refused_more failed more Retired basis drew call Stopped on is = on is
refused_more failed more Retired basis drew call (Spent found) on is = is
refused_more failed more Retired basis drew call (Again head tail) on is = is
refused_more failed more Retired basis drew call RegionFault on is = (is.0, on is.1)
refused_more failed more Retired basis drew call StoreFault on is = (is.0, on is.1)

allowed_more : (failed more : Type 0) (Retired : ℕ → Type 0) (basis : Basis) (descriptors : List Descriptor) (drew : List TracedCall) (call : TracedCall) (refusal : Refusal) → (failed → more)
    → IsAllowedRefusal failed Retired basis descriptors drew call refusal → IsAllowedRefusal more Retired basis descriptors drew call refusal
allowed_more failed more Retired basis descriptors drew call refusal on is = go (barred basis.sizes descriptors call.call) is where
  go : (cause : Option Refusal) → MatchOption cause (WasRefused failed Retired basis drew call refusal) (λ cause. refusal ≡ cause) → MatchOption cause (WasRefused more Retired basis drew call refusal) (λ cause. refusal ≡ cause)
  go None was = refused_more failed more Retired basis drew call refusal on was
  go (Some cause) is = is

-- a report that is faithful where devices failed only so is faithful where they failed in more cases
pub schedule_more : (failed more : Type 0) (basis : Basis) (trace : Traced) (report : Report) → (failed → more) → IsFaithfulSchedule failed basis trace report → IsFaithfulSchedule more basis trace report
schedule_more failed more basis trace report on is = record {
  legal = is.legal;
  made = is.made;
  in_order = is.in_order;
  refused_in_order = is.refused_in_order;
  open_in_order = is.open_in_order;
  allowed =
      let descriptors = descriptors_in basis.names trace in
      let Retired : ℕ → Type 0 = λ tail. basis.next ≤ tail in
      All-weaker (λ (r : ShownRefusal). IsAllowedRefusal failed Retired basis descriptors (drawing_calls report) r.call r.refusal) (λ (r : ShownRefusal). IsAllowedRefusal more Retired basis descriptors (drawing_calls report) r.call r.refusal)
      (λ r allowed. allowed_more failed more Retired basis descriptors (drawing_calls report) r.call r.refusal on allowed) report.refused is.allowed;
  not_barred = is.not_barred;
  left_open = is.left_open;
  drew = is.drew;
  files = is.files;
}

-- ---- the report

-- a trace that may have no rounds has its calls in one
pub one_round : (trace : Traced) → IsWellFormed trace → has_rounds trace.form ≡ false → AreOfOneRound trace.calls
one_round trace formed no_rounds =
    let none = formed.no_rounds no_rounds in
    (0, All-weaker (λ (call : TracedCall). call.round ≤ trace.rounds) (λ (call : TracedCall). call.round ≡ 0) (λ call low. omega (arith, low, none)) trace.calls formed.rounds)

module _ (basis : Basis) (trace : Traced) (mount : MountState) (pass zero : PassState) (part_values store_values : List Value)
    (parts : List lines.PartHistory) (held : List stores.StoreHistory) (faults placed tail : ℕ)
    (over : HasClosedOver basis trace mount pass zero part_values store_values parts held faults placed tail)
    (batch : ℕ) (then_ : List CallerState) (told : ScheduledCalls) (sorted : SortedCalls) (followed : HasFollowed mount trace.tokens trace.calls batch (Ok tt) then_ zero) (calls_are : AreCallsOf then_ told)
    (out : AreSortedOut (made_calls told.answered.items) sorted)
    (formed : IsWellFormed trace) (few : length trace.calls < 2 ^ 60) (rise : IsStrictlyIncreasing (lines_in trace)) (no_rounds : has_rounds trace.form ≡ false) (is_mount : IsMount (mount_of mount.board.opened))
    (begin_so : SchedulesBegin) (told_so : SchedulesAreTold) (legal_so : SchedulesAreLegal) (faithful_so : SchedulesAreFaithful) (files_so : DescriptorsSayFiles) (kept_so : LeftOpenAreKept)
    (stand_so : ReadableStandsForRecovered) where
  abbrev descriptors : List Descriptor
  descriptors = descriptors_in basis.names trace

  abbrev items : List Open
  items = sorted.open_calls.items

  on_files : CallsOnFiles mount.fds (file_call descriptors)
  on_files = files_so mount.fds descriptors (ap (map (λ (fd : Fd). fd.file)) over.begins.is_mount.fds_are ∙ same_files descriptors)

  begun : AreBegun trace.calls (listed_calls told) (unanswered_calls told)
  begun = begin_so mount trace.tokens trace.calls batch then_ zero told followed calls_are rise

  are_told : AreTold mount.fds (listed_calls told) sorted (history_then zero.view)
  are_told = told_so mount trace.tokens trace.calls batch then_ zero told sorted part_values store_values parts held faults placed tail followed calls_are over.closed rise (one_round trace formed no_rounds) out

  within : All (λ (o : Open). IsCallWithin (length descriptors) o.call.now.call) items
  within =
      let Within : TracedCall → Type 0 = λ call. IsCallWithin (length trace.descriptors) call.call in
      let long : length descriptors ≡ length trace.descriptors = length-map trace.descriptors (placed_in basis.names trace) in
      let ones = map (λ p. p.call) (map placed_call sorted.placed.items) in
      let others = map (λ r. r.call) (map refused_call sorted.refused.items) in
      let left = map (λ (o : OpenedCall). o.call) (map opened_call items) in
      let listed : All Within (listed_calls told) = begun_all Within trace.calls (listed_calls told) (unanswered_calls told) begun.first formed.calls in
      subst (λ count. All (λ (o : Open). IsCallWithin count o.call.now.call) items) (sym long)
      (within_open (length trace.descriptors) items
      (all_right Within (ones ++ others) left (All-permutation Within (listed_calls told) ((ones ++ others) ++ left) are_told.listed listed)))

  history_files : after (history_of descriptors (map placed_call sorted.placed.items)) basis.files ≡ files_then zero.view basis.files
  history_files =
      (legal_so mount trace.tokens trace.calls batch then_ zero told sorted part_values store_values parts held faults placed tail followed calls_are over.closed rise (one_round trace formed no_rounds) out (file_call descriptors) on_files
      basis.files zero.view.opened.next (log_opens basis trace mount pass zero part_values store_values parts held faults placed tail over)
      (files_open basis trace mount pass zero part_values store_values parts held faults placed tail over)).1

  module _ (power : Holding) (left : LeavesWholeWrites zero.view basis.files basis.names (row_words power.parts) (files_of (stores_named basis.names power.stores)))
      (found : recover.Recovered) (log : HasFoundAll (row_words power.parts) found) (shown : List OpenCall) (are : AreShownOpen found.first found.groups items (unanswered_calls told) shown) where
    abbrev image : Image
    image = row_words power.parts

    abbrev bytes : Files
    bytes = files_of (stores_named basis.names power.stores)

    abbrev shown_files : Files
    shown_files = files_named power.parts basis.names power.stores

    abbrev report : Report
    report = shown_report sorted shown basis.names shown_files

    recovered_files : (recovered image bytes).files ≡ after_open descriptors shown (files_then zero.view basis.files)
    recovered_files =
        let first = (recovered image bytes).first in
        let groups = (recovered image bytes).groups in
        let files = files_then zero.view basis.files in
        let order = shown_order found.first found.groups items (unanswered_calls told) shown are in
        let these = map opened_call order.0 in
        let in_order : All (λ (o : Open). IsCallWithin (length descriptors) o.call.now.call) order.0 =
        All-permutation (λ (o : Open). IsCallWithin (length descriptors) o.call.now.call) items order.0 order.1 within in
        let moved =
        followed.left_open these
        (IsPermutation-trans _ _ _ (subst (λ made. IsPermutation (opened_calls made) (map opened_call items)) calls_are.answered out.left_open) (IsPermutation-map opened_call items order.0 order.1)) in
        kept_so mount.fds these (flights_then zero.view) files image bytes moved left.flights
        ∙ ap (λ writes. after_calls (kept_open first groups writes) files) (open_writes_are descriptors mount.fds over.begins.is_mount.fds_are on_files order.0 in_order)
        ∙ after_fates descriptors first groups order.0 files
        ∙ ap (λ first. after_open descriptors (map (fated first groups) order.0) files) (sym (log.first bytes))
        ∙ ap (λ groups. after_open descriptors (map (fated found.first groups) order.0) files) (sym (log.groups bytes))
        ∙ sym (order.2 descriptors files)

    pub files_are : shown_files ≡ files_shown basis trace report
    files_are =
        stand_so mount_layout mount_layout.header_lines image bytes left.header.readable ∙ recovered_files ∙ ap (after_open descriptors shown) (sym history_files)

    shows : ShowsSchedule basis trace sorted (unanswered_calls told) report
    shows =
        let call_of : OpenCall → TracedCall = λ o. o.call in
        record {
          history = refl;
          refused = refl;
          open_calls = subst (λ l. IsPermutation l (map call_of shown)) (shown_calls found.first found.groups items (unanswered_calls told))
              (IsPermutation-map call_of (map (fated found.first found.groups) items ++ map begun_call (unanswered_calls told)) shown are.all);
          open_by_line = falls_not call_of (λ (call : TracedCall). call.line) shown
              (are.by_line (falls_not (fated found.first found.groups) (λ (o : OpenCall). o.call.line) items (falls_before opened_call (λ (o : OpenedCall). o.call.line) items out.open_by_line)));
          files = ap (named basis.names) files_are;
        }

    pub is_faithful : IsFaithfulSchedule (SawStop zero.view) basis trace report
    is_faithful =
        faithful_so basis trace mount batch then_ zero told sorted part_values store_values parts held faults placed tail report formed few rise (one_round trace formed no_rounds) is_mount over.begins.is_mount
        (still_opened basis trace mount pass zero part_values store_values parts held faults placed tail over) followed calls_are over.closed out shows

    -- the run
    pub of_report : IsRunOfReport basis trace report (map opened_call items) zero.view
    of_report =
        let same = still_opened basis trace mount pass zero part_values store_values parts held faults placed tail over in
        let whole = over.closed.whole in
        let left_so = followed.left_open (map opened_call items) (subst (λ made. IsPermutation (opened_calls made) (map opened_call items)) calls_are.answered out.left_open) in
        record {
          opened = subst (λ fds. IsMountOf basis trace zero.view.opened fds) over.begins.is_mount.fds_are (subst (λ (o : Opened). IsMountOf basis trace o mount.fds) (sym same) over.begins.is_mount);
          passes = record { is_run = whole.is_run; joined = whole.joined; others = whole.others };
          history = subst (λ fds. AreHistory fds (map placed_call sorted.placed.items) (history_then zero.view)) over.begins.is_mount.fds_are are_told.placed;
          flights = subst (λ writes. IsPermutation writes (open_in (flights_then zero.view))) (open_writes_are descriptors mount.fds over.begins.is_mount.fds_are on_files items within ∙ left_writes descriptors items) left_so;
        }

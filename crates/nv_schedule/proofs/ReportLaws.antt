-- Reports: a report that shows the sorted calls of a schedule is faithful.
use Rattle.std.proofs.Common.{◌≡◌, ℕ, ◌+◌, ◌^◌, ◌<◌, ◌≤◌, List, [], ◌∷◌, ◌++◌, length, map, true, inl, inr, refl, sym, ap, subst, ◌∙◌, arith, append_assoc, eqb}
use Rattle.std.specs.Prelude.{All, IsPermutation, None, Ok, Option, Some, is_some}
use Rattle.std.specs.List.Sorted.{IsStrictlyIncreasing}
use Rattle.std.proofs.lemmas.List.{length-append, length-map}
use Rattle.std.proofs.lemmas.List.Elements.{filter-append}
use Rattle.std.proofs.lemmas.List.Sorted.{IsPermutation-append_left, IsPermutation-append_right, IsPermutation-map, IsPermutation-sym, IsPermutation-trans, length_permutation}
use Rattle.std.proofs.lemmas.Slice.Zip.{AllZip-long}
use Rattle.nv_core.specs.state.Passes.{IsOneOf}
use Rattle.nv_core.specs.state.Values.{Value}
use Rattle.nv_core.specs.state.Words.{Sizes}
use Rattle.nv_core.specs.steps.Opening.{IsMount}
use Rattle.nv_pmem.specs.Steps.{PartHistory}
use Rattle.nv_store.specs.Steps.{StoreHistory}
use Rattle.nv_table.specs.state.Opened.{Opened, mount_of}
use Rattle.nv_table.specs.state.States.{PassState}
use Rattle.nv_mount.specs.Mounts.{MountState}
use Rattle.nv_mount.specs.RisenCounts.{SawStop}
use Rattle.nv_mount.specs.WholeRuns.{history_then}
use Rattle.nv_mirror.specs.declared.answers.Refusal as mirror
use Rattle.nv_trace.specs.Shape.{IsCallWithin, IsWellFormed}
use Rattle.nv_trace.specs.Traced.{Traced, lines_in}
use Rattle.nv_trace.specs.declared.report.Fate.TheVariants.{Lost}
use Rattle.nv_trace.specs.declared.report.Refusal.{Refusal}
use Rattle.nv_trace.specs.declared.trace_call.TracedCall.{TracedCall}
use Rattle.nv_runner.specs.Entries.{entries_of_calls}
use Rattle.nv_runner.specs.declared.answer.Answer.TheVariants.{Open, Refused}
use Rattle.nv_runner.specs.declared.sorted.SortedCalls.{SortedCalls}
use Rattle.nv_runner.specs.EndedRuns.{IsClosedBy}
use Rattle.nv_runner.specs.Faithful as report_of
use Rattle.nv_runner.specs.Faithful.{Basis, IsAllowedRefusal, barred, descriptors_in, files_shown, named, not_later, open_calls_of}
use Rattle.nv_runner.specs.FaithfulRuns.{IsMountOf, ShowsCalls, shown_as, shown_one, shown_refusal, shown_refusals}
use Rattle.nv_runner.specs.Histories.{PlacedCall, StandsAs}
use Rattle.nv_runner.specs.Lists.{MadeCall, made_calls}
use Rattle.nv_runner.specs.Reports.{OpenCall, Report, ShownRefusal}
use Rattle.nv_runner.specs.RunRefusals.{calls_that_drew}
use Rattle.nv_runner.specs.Sorted.{AreSortedOut, HaveOwnLines, OpenedCall, RefusedCall, opened_call, opened_made, placed_call, placed_made, refused_call, refused_made}
use Rattle.nv_runner.specs.Told.{AreTold}
use Rattle.nv_runner.proofs.CauseLaws.{bar_is, drawn_before, entries_alike, shown_bar}
use Rattle.nv_runner.proofs.draws.DrawnSums.{drew_all, drew_before}
use Rattle.nv_runner.proofs.FaithfulLaws.{calls_once, history_keeps, history_legal, refused_rise}
use Rattle.nv_runner.proofs.histories.HistoryMembers.{of_each, of_one, one_left, one_mapped, one_moved, one_of_joined, one_of_mapped, one_right}
use Rattle.nv_runner.proofs.histories.HistorySums.{added, added_append, added_moved}
use Rattle.nv_schedule.specs.Begun.{AreBegun, listed_calls, unanswered_calls}
use Rattle.nv_schedule.specs.FaithfulSchedules.{IsFaithfulSchedule, SchedulesAreFaithful, ShowsSchedule}
use Rattle.nv_schedule.specs.RefusedCalls.{IsRefusedThere}
use Rattle.nv_schedule.specs.Scheduled.{AreCallsOf, HasFollowed}
use Rattle.nv_schedule.specs.SortedOut.{AreOfOneRound}
use Rattle.nv_schedule.specs.Turns.{CallerState}
use Rattle.nv_schedule.specs.declared.scheduled.ScheduledCalls.{ScheduledCalls}
use Rattle.nv_schedule.proofs.BegunLaws.{begun_within, schedules_begin}
use Rattle.nv_schedule.proofs.CallerShares.{schedules_are_told}
use Rattle.nv_schedule.proofs.FaithfulLaws.{allowed_there, few_begun, own_back, own_moved, rising_lines, shown_there}
use Rattle.nv_schedule.proofs.RefusalLaws.{RefusalLaws, refusals_have_causes}
use Rattle.nv_schedule.proofs.UnbarredLaws.{placed_are_unbarred}

-- ---- lists

of_shown : (call : TracedCall) (refusal : Option Refusal) (s : ShownRefusal) → IsOneOf (shown_as call refusal) s → (refusal ≡ Some s.refusal) × (s.call ≡ call)
of_shown call None s one = absurd one
of_shown call (Some refusal) s (inl is) = (ap (λ (t : ShownRefusal). Some t.refusal) (sym is), ap (λ (t : ShownRefusal). t.call) is)
of_shown call (Some refusal) s (inr none) = absurd none

-- an open call, whatever became of it
abbrev lost_call : OpenedCall → OpenCall
lost_call opened = record { call = opened.call; fate = Lost }

lost_are : (opened : List OpenedCall) → map (λ (o : OpenCall). o.call) (map lost_call opened) ≡ map (λ (o : OpenedCall). o.call) opened
lost_are [] = refl
lost_are (o ∷ later) = ap (λ (l : List TracedCall). o.call ∷ l) (lost_are later)

-- the entries of some calls that don't come later than one, whatever they are listed among
abbrev as_open : TracedCall → MadeCall
as_open call = record { call = call; answer = Open 0 }

drawing_open : (calls : List TracedCall) → calls_that_drew (map as_open calls) ≡ calls
drawing_open [] = refl
drawing_open (call ∷ later) = ap (λ (l : List TracedCall). call ∷ l) (drawing_open later)

before_sum : (sizes : Sizes) (call : TracedCall) (calls : List TracedCall) → entries_of_calls sizes.page (not_later call calls) ≡ added (drew_before sizes call) (map as_open calls)
before_sum sizes call calls = ap (λ (l : List TracedCall). entries_of_calls sizes.page (not_later call l)) (sym (drawing_open calls)) ∙ sym (drew_all sizes call (map as_open calls))

mapped_both : (xs ys : List TracedCall) → map as_open (xs ++ ys) ≡ map as_open xs ++ map as_open ys
mapped_both [] ys = refl
mapped_both (x ∷ xs) ys = ap (λ (l : List MadeCall). as_open x ∷ l) (mapped_both xs ys)

before_more : (sizes : Sizes) (call : TracedCall) (front some more all : List TracedCall) → IsPermutation (some ++ more) all
    → entries_of_calls sizes.page (not_later call (front ++ some)) ≤ entries_of_calls sizes.page (not_later call (front ++ all))
before_more sizes call front some more all moved =
    let count = drew_before sizes call in
    let left = before_sum sizes call (front ++ some) ∙ ap (added (drew_before sizes call)) (mapped_both front some) ∙ added_append (drew_before sizes call) (map as_open front) (map as_open some) in
    let right = before_sum sizes call (front ++ all) ∙ ap (added (drew_before sizes call)) (mapped_both front all) ∙ added_append (drew_before sizes call) (map as_open front) (map as_open all) in
    let same = added_moved (drew_before sizes call) (map as_open (some ++ more)) (map as_open all) (IsPermutation-map as_open (some ++ more) all moved) in
    let both = ap (added (drew_before sizes call)) (mapped_both some more) ∙ added_append (drew_before sizes call) (map as_open some) (map as_open more) in
    omega (arith, left, right, same, both)

-- ---- a report

module _ (laws : RefusalLaws) (basis : Basis) (trace : Traced) (mount : MountState) (batch : ℕ) (then_ : List CallerState) (end : PassState) (told : ScheduledCalls) (sorted : SortedCalls) (part_values store_values : List Value)
    (parts : List PartHistory) (stores : List StoreHistory) (faults placed tail : ℕ) (report : Report) (formed : IsWellFormed trace) (few : length trace.calls < 2 ^ 60) (lines : IsStrictlyIncreasing (lines_in trace))
    (one_round : AreOfOneRound trace.calls) (is_mount : IsMount (mount_of mount.board.opened)) (is : IsMountOf basis trace mount.board.opened mount.fds) (same : end.view.opened ≡ mount.board.opened)
    (followed : HasFollowed mount trace.tokens trace.calls batch (Ok tt) then_ end) (are : AreCallsOf then_ told) (closed : IsClosedBy end part_values store_values parts stores faults placed tail)
    (out : AreSortedOut (made_calls told.answered.items) sorted) (shows : ShowsSchedule basis trace sorted (unanswered_calls told) report) where
  abbrev made : List MadeCall
  made = made_calls told.answered.items

  abbrev placed_ones : List PlacedCall
  placed_ones = map placed_call sorted.placed.items

  abbrev refused_ones : List RefusedCall
  refused_ones = map refused_call sorted.refused.items

  abbrev open_ones : List OpenedCall
  open_ones = map opened_call sorted.open_calls.items

  are_told : AreTold mount.fds (listed_calls told) sorted (history_then end.view)
  are_told = schedules_are_told mount trace.tokens trace.calls batch then_ end told sorted part_values store_values parts stores faults placed tail followed are closed lines one_round out

  begun : AreBegun trace.calls (listed_calls told) (unanswered_calls told)
  begun = schedules_begin mount trace.tokens trace.calls batch then_ end told followed are lines

  there : IsMountOf basis trace end.view.opened mount.fds
  there = subst (λ (o : Opened). IsMountOf basis trace o mount.fds) (sym same) is

  refused_so : (call : TracedCall) (refusal : mirror.Refusal) → IsOneOf (made_calls told.answered.items) (record { call = call; answer = Refused refusal }) → IsRefusedThere mount.fds (made_calls told.answered.items) end call refusal
  refused_so call refusal one =
      refusals_have_causes laws mount trace.tokens trace.calls batch then_ end told part_values store_values parts stores faults placed tail is_mount same followed are closed lines one_round call refusal one

  -- ---- members

  abbrev each_one : List MadeCall
  each_one = map placed_made placed_ones ++ map refused_made refused_ones ++ map opened_made open_ones

  back : IsPermutation each_one (made_calls told.answered.items)
  back = IsPermutation-sym (made_calls told.answered.items) each_one out.listed

  placed_there : (p : PlacedCall) → IsOneOf placed_ones p → IsOneOf (made_calls told.answered.items) (placed_made p)
  placed_there p one =
      one_moved each_one (made_calls told.answered.items) (placed_made p) back (one_left (map placed_made placed_ones ++ map refused_made refused_ones) (map opened_made open_ones) (placed_made p)
      (one_left (map placed_made placed_ones) (map refused_made refused_ones) (placed_made p) (one_mapped placed_made placed_ones p one)))

  refused_there : (r : RefusedCall) → IsOneOf refused_ones r → IsOneOf (made_calls told.answered.items) (refused_made r)
  refused_there r one =
      one_moved each_one (made_calls told.answered.items) (refused_made r) back (one_left (map placed_made placed_ones ++ map refused_made refused_ones) (map opened_made open_ones) (refused_made r)
      (one_right (map placed_made placed_ones) (map refused_made refused_ones) (refused_made r) (one_mapped refused_made refused_ones r one)))

  within : (m : MadeCall) → IsOneOf (made_calls told.answered.items) m → IsCallWithin (length trace.descriptors) m.call.call
  within m one =
      of_one (λ (t : TracedCall). IsCallWithin (length trace.descriptors) t.call) trace.calls m.call formed.calls
      (begun_within trace.calls (listed_calls told) (unanswered_calls told) begun.first m.call
      (one_left (listed_calls told) (unanswered_calls told) m.call (one_mapped (λ (m : MadeCall). m.call) (made_calls told.answered.items) m one)))

  -- ---- the history is short

  short : length (history_then end.view) < 2 ^ 60
  short =
      let ones = map (λ (p : PlacedCall). p.call) placed_ones in
      let others = map (λ (r : RefusedCall). r.call) refused_ones in
      let left = map (λ (o : OpenedCall). o.call) open_ones in
      let long = AllZip-long (StandsAs mount.fds) placed_ones (history_then end.view) are_told.placed.each in
      let mapped = length-map placed_ones (λ (p : PlacedCall). p.call) in
      let all = length_permutation (listed_calls told) (ones ++ others ++ left) are_told.listed in
      let first = length-append (ones ++ others) left in
      let second = length-append ones others in
      let most = few_begun trace.calls (listed_calls told) (unanswered_calls told) begun.first (λ call one. of_one (λ (t : TracedCall). t.thread ≤ 7) trace.calls call formed.threads one) in
      omega (arith, long, mapped, all, first, second, most, few)

  -- ---- the report as one of the answered calls alone

  abbrev answered_trace : Traced
  answered_trace = record trace { calls = listed_calls told }

  abbrev open_report : Report
  open_report = record report { open_calls = map lost_call open_ones }

  abbrev answered_report : Report
  answered_report = record open_report { files = named basis.names (files_shown basis trace open_report) }

  shows_answered : ShowsCalls basis answered_trace sorted answered_report
  shows_answered = record { history = shows.history; refused = shows.refused; open_calls = lost_are open_ones; files = refl }

  mount_answered : IsMountOf basis answered_trace end.view.opened mount.fds
  mount_answered =
      record { page = there.page; entries = there.entries; pages = there.pages; next = there.next; names = there.names; fds_are = there.fds_are; files = there.files; log = there.log }

  -- ---- what was drawn

  head_low : (call : TracedCall) → end.view.opened.next + entries_of_calls end.view.opened.sizes.page (not_later call (calls_that_drew (made_calls told.answered.items)))
      ≤ basis.next + entries_of_calls basis.sizes.page (not_later call (report_of.drawing_calls report))
  head_low call =
      let ones = map (λ (p : PlacedCall). p.call) placed_ones in
      let left = map (λ (o : OpenedCall). o.call) open_ones in
      let drew = drawn_before end.view.opened.sizes call (made_calls told.answered.items) placed_ones refused_ones open_ones out.listed in
      let more = before_more end.view.opened.sizes call ones left (unanswered_calls told) (open_calls_of report) shows.open_calls in
      let placed_is : map (λ (p : PlacedCall). p.call) report.history ≡ ones = ap (map (λ (p : PlacedCall). p.call)) shows.history in
      let shown = ap (λ (l : List TracedCall). entries_of_calls end.view.opened.sizes.page (not_later call (l ++ open_calls_of report))) placed_is in
      let alike = entries_alike basis trace end.view.opened mount.fds there (not_later call (report_of.drawing_calls report)) in
      let next = there.next in
      omega (arith, drew, more, shown, alike, next)

  -- ---- refusals

  all_shown : (r : RefusedCall) → IsOneOf refused_ones r → is_some (shown_refusal r.refusal) ≡ true
  all_shown r one =
      let so = refused_so r.call r.refusal (refused_there r one) in
      let order = so.order in
      let low = short in
      let head = so.head in
      let most = head_low r.call in
      shown_there (SawStop end.view) basis trace end.view.opened mount.fds there (report_of.drawing_calls report) r.call so.now so.opened so.seen (omega (arith, order, low)) (omega (arith, head, most)) r.refusal so.cause

  one_allowed : (s : ShownRefusal) → IsOneOf (shown_refusals refused_ones) s → IsAllowedRefusal (SawStop end.view) (λ tail. basis.next ≤ tail) basis (descriptors_in basis.names trace) (report_of.drawing_calls report) s.call s.refusal
  one_allowed s one =
      let from = one_of_joined shown_one refused_ones s one in
      let r = from.0 in
      let shown = of_shown r.call (shown_refusal r.refusal) s from.2 in
      let so = refused_so r.call r.refusal (refused_there r from.1) in
      let order = so.order in
      let low = short in
      let head = so.head in
      let most = head_low r.call in
      subst (λ (c : TracedCall). IsAllowedRefusal (SawStop end.view) (λ tail. basis.next ≤ tail) basis (descriptors_in basis.names trace) (report_of.drawing_calls report) c s.refusal) (sym shown.1)
      (allowed_there (SawStop end.view) basis trace end.view.opened mount.fds there (report_of.drawing_calls report) r.call so.now so.opened so.seen (omega (arith, order, low)) (omega (arith, head, most)) r.refusal so.cause s.refusal
      (within (refused_made r) (refused_there r from.1)) shown.0)

  -- ---- placed calls

  abbrev IsFree : TracedCall → Type 0
  IsFree call = barred basis.sizes (descriptors_in basis.names trace) call.call ≡ None

  one_free : (call : TracedCall) → IsOneOf (map (λ (p : PlacedCall). p.call) placed_ones) call → IsFree call
  one_free call one =
      let from = one_of_mapped (λ (p : PlacedCall). p.call) placed_ones call one in
      let p = from.0 in
      let m_there = placed_there p from.1 in
      let early = placed_are_unbarred laws.calls mount trace.tokens trace.calls batch then_ end told is_mount same followed are p.call p.place p.reply m_there in
      subst IsFree from.2 (sym (bar_is basis trace end.view.opened mount.fds there p.call.call (within (placed_made p) m_there)) ∙ ap shown_bar early)

  -- ---- all calls

  abbrev front : List TracedCall
  front = map (λ (p : PlacedCall). p.call) report.history ++ map (λ (r : ShownRefusal). r.call) report.refused

  all_listed_once : IsPermutation (report_of.listed_calls report) (listed_calls told ++ unanswered_calls told)
  all_listed_once =
      let left = map (λ (o : OpenedCall). o.call) open_ones in
      let answered : IsPermutation (front ++ left) (listed_calls told) =
      subst (λ (l : List TracedCall). IsPermutation (front ++ l) (listed_calls told)) (lost_are open_ones)
      (calls_once basis answered_trace mount.fds end.view.opened end.view sorted answered_report mount_answered are_told all_shown shows_answered) in
      IsPermutation-trans (front ++ open_calls_of report) (front ++ (left ++ unanswered_calls told)) (listed_calls told ++ unanswered_calls told)
      (IsPermutation-append_right front (open_calls_of report) (left ++ unanswered_calls told) (IsPermutation-sym (left ++ unanswered_calls told) (open_calls_of report) shows.open_calls))
      (subst (λ (l : List TracedCall). IsPermutation l (listed_calls told ++ unanswered_calls told)) (append_assoc front left (unanswered_calls told))
      (IsPermutation-append_left (unanswered_calls told) (front ++ left) (listed_calls told) answered))

  own_open : HaveOwnLines (open_calls_of report)
  own_open =
      own_back front (open_calls_of report)
      (own_moved (listed_calls told ++ unanswered_calls told) (front ++ open_calls_of report) (IsPermutation-sym (front ++ open_calls_of report) (listed_calls told ++ unanswered_calls told) all_listed_once) begun.own_lines)

  pub is_faithful : IsFaithfulSchedule (SawStop end.view) basis trace report
  is_faithful = record {
    legal = history_legal basis answered_trace mount.fds end.view.opened end.view sorted answered_report mount_answered are_told all_shown shows_answered (closed.history.legal basis.files end.view.opened.next there.log there.files);
    made = record {
      begun = listed_calls told ++ unanswered_calls told;
      each_once = all_listed_once;
      left = λ thread. (begun.first thread).left;
      first = λ thread. (begun.first thread).first ∙ ap (λ (l : List TracedCall). l ++ (begun.first thread).left) (sym (filter-append (λ (call : TracedCall). eqb call.thread thread) (listed_calls told) (unanswered_calls told)));
    };
    in_order = history_keeps basis answered_trace mount.fds end.view.opened end.view sorted answered_report mount_answered are_told all_shown shows_answered;
    refused_in_order = refused_rise basis answered_trace mount.fds end.view.opened end.view sorted answered_report mount_answered are_told all_shown shows_answered;
    open_in_order = rising_lines (open_calls_of report) own_open shows.open_by_line;
    allowed = subst (λ (l : List ShownRefusal). All (λ (s : ShownRefusal). IsAllowedRefusal (SawStop end.view) (λ tail. basis.next ≤ tail) basis (descriptors_in basis.names trace) (report_of.drawing_calls report) s.call s.refusal) l) (sym shows.refused)
        (of_each (λ (s : ShownRefusal). IsAllowedRefusal (SawStop end.view) (λ tail. basis.next ≤ tail) basis (descriptors_in basis.names trace) (report_of.drawing_calls report) s.call s.refusal) (shown_refusals refused_ones) one_allowed);
    not_barred = subst (λ (l : List PlacedCall). All IsFree (map (λ (p : PlacedCall). p.call) l)) (sym shows.history) (of_each IsFree (map (λ (p : PlacedCall). p.call) placed_ones) one_free);
    left_open = of_each (λ (call : TracedCall). Unit {0}) (open_calls_of report) (λ call one. tt);
    drew = tt;
    files = shows.files;
  }

pub schedules_are_faithful : RefusalLaws → SchedulesAreFaithful
schedules_are_faithful laws basis trace mount batch then_ zero told sorted part_values store_values parts stores faults placed tail report formed few lines one_round is_mount is same followed are closed out shows =
    is_faithful laws basis trace mount batch then_ zero told sorted part_values store_values parts stores faults placed tail report formed few lines one_round is_mount is same followed are closed out shows

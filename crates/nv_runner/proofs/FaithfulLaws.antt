-- Faithful: what a report shows of the sorted calls of a run.
use Rattle.std.proofs.Common.{◌≡◌, ◌+◌, ℕ, ◌^◌, ◌<◌, ◌≤◌, List, [], ◌∷◌, ◌++◌, length, map, true, false, inl, inr, refl, sym, ap, subst, ◌∙◌, arith}
use Rattle.std.specs.Prelude.{All, IsPermutation, Ok, Option, Some, None, is_some}
use Rattle.std.specs.List.Sorted.{IsStrictlyIncreasing}
use Rattle.std.proofs.lemmas.Bool.{true≢false}
use Rattle.std.proofs.lemmas.List.{length-append, length-map}
use Rattle.std.proofs.lemmas.List.Sorted.{length_permutation, IsPermutation-sym}
use Rattle.std.proofs.lemmas.Slice.Zip.{AllZip-long}
use Rattle.nv_plain.specs.Histories.{Answered, IsLegal}
use Rattle.nv_plain.specs.declared.call.Reply.{Reply}
use Rattle.nv_pmem.specs.Steps.{PartHistory}
use Rattle.nv_store.specs.Steps.{StoreHistory}
use Rattle.nv_core.specs.invariant.InvariantLaws.{RunsAreSound}
use Rattle.nv_core.specs.state.Passes.{IsOneOf, Pass}
use Rattle.nv_core.specs.state.Values.{Value}
use Rattle.nv_core.specs.steps.Frames.{OwnEventsTell}
use Rattle.nv_core.specs.steps.Opening.{IsMount}
use Rattle.nv_table.specs.invariant.BetweenSteps.{KnowsTaken}
use Rattle.nv_table.specs.state.Opened.{IsRunOf, Opened, mount_of, state_of}
use Rattle.nv_table.specs.state.States.{PassState}
use Rattle.nv_table.specs.state.Views.{PassView, first_view}
use Rattle.nv_table.proofs.invariant.Going.{told_of}
use Rattle.nv_mount.specs.ClosedAtRest.{HasEmptiedLog}
use Rattle.nv_mount.specs.RisenCounts.{SawStop}
use Rattle.nv_mount.specs.WholeRuns.{history_then}
use Rattle.nv_mount.specs.declared.fds.Fd.{Fd}
use Rattle.nv_mirror.specs.declared.answers.Refusal as mirror
use Rattle.nv_trace.specs.Shape.{IsCallWithin, IsWellFormed}
use Rattle.nv_trace.specs.Traced.{Traced, lines_in}
use Rattle.nv_trace.specs.declared.report.Refusal.{Refusal}
use Rattle.nv_trace.specs.declared.trace.Descriptor.{Descriptor}
use Rattle.nv_trace.specs.declared.trace_call.TracedCall.{TracedCall}
use Rattle.nv_runner.specs.Entries.{entries_of_calls}
use Rattle.nv_runner.specs.declared.answer.Answer.TheVariants as answers
use Rattle.nv_runner.specs.declared.plan.Plan.{Plan}
use Rattle.nv_runner.specs.declared.sorted.Open.{Open}
use Rattle.nv_runner.specs.declared.sorted.SortedCalls.{SortedCalls}
use Rattle.nv_runner.specs.EndedRuns.{HasOutcome, IsClosedBy, IsRefusedSo, batch_of}
use Rattle.nv_runner.specs.Faithful.{Basis, IsAllowedRefusal, IsFaithful, IsLeftOpen, IsWrite, RetiresNothing, barred, descriptors_in, drawing_calls, file_call, history_of, listed_calls, not_later, open_calls_of}
use Rattle.nv_runner.specs.FaithfulRuns.{EmptiedLogsGoOn, FilesAreOfTheHistory, IsMountOf, RunsAreFaithful, ShowsCalls, UnstoppedRunsLeaveNothingOpen, as_fd, shown_as, shown_one, shown_refusal, shown_refusals}
use Rattle.nv_runner.specs.Histories.{CallsOnFiles, KeepOrder, PlacedCall, StandsAs}
use Rattle.nv_runner.specs.Reports.{Report, ShownRefusal}
use Rattle.nv_runner.specs.Lists.{MadeCall, calls_made}
use Rattle.nv_runner.specs.Refusals.{early_of_call}
use Rattle.nv_runner.specs.RunRefusals.{calls_that_drew}
use Rattle.nv_runner.specs.Sorted.{AreSortedOut, OpenedCall, RefusedCall, opened_call, opened_made, placed_call, placed_made, refused_call, refused_made}
use Rattle.nv_runner.specs.Told.{AreTold}
use Rattle.nv_runner.proofs.histories.HistoryThreads.{descriptors_say_files, threads_are_legal}
use Rattle.nv_runner.proofs.CauseLaws.{StoodSo, bar_is, drawn_before, drawn_in_all, entries_alike, is_allowed_so, is_shown, shown_bar}
use Rattle.nv_runner.proofs.histories.HistoryMembers.{of_each, of_one, one_left, one_mapped, one_moved, one_of_joined, one_of_mapped, one_right}
use Rattle.nv_runner.proofs.ToldLaws.{runs_are_told}

-- ---- descriptors

files_same : (descriptors : List Descriptor) → map (λ (fd : Fd). fd.file) (map as_fd descriptors) ≡ map (λ (d : Descriptor). d.file) descriptors
files_same [] = refl
files_same (d ∷ descriptors) = ap (λ (l : List ℕ). d.file ∷ l) (files_same descriptors)

-- the descriptors of the trace say the files of its calls
pub calls_on_files : (basis : Basis) (trace : Traced) (opened : Opened) (fds : List Fd) → IsMountOf basis trace opened fds → CallsOnFiles fds (file_call (descriptors_in basis.names trace))
calls_on_files basis trace opened fds is =
    let descriptors = descriptors_in basis.names trace in
    descriptors_say_files fds descriptors (ap (λ (l : List Fd). map (λ (fd : Fd). fd.file) l) is.fds_are ∙ files_same descriptors)

-- ---- what is shown

-- each of some refused calls has a refusal that is shown
abbrev AreShown : List RefusedCall → Type 0
AreShown refused = (r : RefusedCall) → IsOneOf refused r → is_some (shown_refusal r.refusal) ≡ true

of_shown : (call : TracedCall) (refusal : Option Refusal) (s : ShownRefusal) → IsOneOf (shown_as call refusal) s → (refusal ≡ Some s.refusal) × (s.call ≡ call)
of_shown call None s one = absurd one
of_shown call (Some refusal) s (inl is) = (ap (λ (t : ShownRefusal). Some t.refusal) (sym is), ap (λ (t : ShownRefusal). t.call) is)
of_shown call (Some refusal) s (inr none) = absurd none

one_shown : (call : TracedCall) (refusal : Option Refusal) (rest : List ShownRefusal) → is_some refusal ≡ true
    → map (λ (s : ShownRefusal). s.call) (shown_as call refusal ++ rest) ≡ call ∷ map (λ (s : ShownRefusal). s.call) rest
one_shown call None rest shown = absurd (true≢false (sym shown))
one_shown call (Some refusal) rest shown = refl

shown_calls : (refused : List RefusedCall) → AreShown refused → map (λ (s : ShownRefusal). s.call) (shown_refusals refused) ≡ map (λ (r : RefusedCall). r.call) refused
shown_calls [] shown = refl
shown_calls (r ∷ refused) shown =
    one_shown r.call (shown_refusal r.refusal) (shown_refusals refused) (shown r (inl refl))
    ∙ ap (λ (l : List TracedCall). r.call ∷ l) (shown_calls refused (λ s one. shown s (inr one)))

mapped_twice : {X Y Z : Type 0} (f : X → Y) (g : Y → Z) (xs : List X) → map (λ x. g (f x)) xs ≡ map g (map f xs)
mapped_twice f g [] = refl
mapped_twice f g (x ∷ xs) = ap (λ l. g (f x) ∷ l) (mapped_twice f g xs)

-- ---- the calls of a run

module _ (basis : Basis) (trace : Traced) (fds : List Fd) (opened : Opened) (view : PassView) (sorted : SortedCalls) (report : Report) (is : IsMountOf basis trace opened fds)
    (told : AreTold fds trace.calls sorted (history_then view)) (shown : AreShown (map refused_call sorted.refused.items)) (shows : ShowsCalls basis trace sorted report) where
  abbrev descriptors : List Descriptor
  descriptors = descriptors_in basis.names trace

  abbrev placed : List PlacedCall
  placed = map placed_call sorted.placed.items

  abbrev refused : List RefusedCall
  refused = map refused_call sorted.refused.items

  abbrev left_open : List OpenedCall
  left_open = map opened_call sorted.open_calls.items

  pub history_legal : IsLegal (history_then view) basis.files → IsLegal (history_of descriptors report.history) basis.files
  history_legal legal =
      subst (λ (l : List PlacedCall). IsLegal (history_of descriptors l) basis.files) (sym shows.history)
      (threads_are_legal fds (file_call descriptors) placed (history_then view) basis.files (calls_on_files basis trace opened fds is) told.placed legal).1

  refused_is : map (λ (s : ShownRefusal). s.call) report.refused ≡ map (λ (r : RefusedCall). r.call) refused
  refused_is = ap (λ (l : List ShownRefusal). map (λ (s : ShownRefusal). s.call) l) shows.refused ∙ shown_calls refused shown

  pub calls_once : IsPermutation (listed_calls report) trace.calls
  calls_once =
      let placed_is : map (λ (p : PlacedCall). p.call) report.history ≡ map (λ (p : PlacedCall). p.call) placed = ap (λ (l : List PlacedCall). map (λ (p : PlacedCall). p.call) l) shows.history in
      let listed_is : listed_calls report ≡ map (λ (p : PlacedCall). p.call) placed ++ map (λ (r : RefusedCall). r.call) refused ++ map (λ (o : OpenedCall). o.call) left_open =
      ap (λ (l : List TracedCall). l ++ map (λ (s : ShownRefusal). s.call) report.refused ++ open_calls_of report) placed_is
      ∙ ap (λ (l : List TracedCall). map (λ (p : PlacedCall). p.call) placed ++ l ++ open_calls_of report) refused_is
      ∙ ap (λ (l : List TracedCall). map (λ (p : PlacedCall). p.call) placed ++ map (λ (r : RefusedCall). r.call) refused ++ l) shows.open_calls in
      subst (λ (l : List TracedCall). IsPermutation l trace.calls) (sym listed_is)
      (IsPermutation-sym trace.calls (map (λ (p : PlacedCall). p.call) placed ++ map (λ (r : RefusedCall). r.call) refused ++ map (λ (o : OpenedCall). o.call) left_open) told.listed)

  pub history_keeps : KeepOrder (map (λ (p : PlacedCall). p.call) report.history)
  history_keeps = subst (λ (l : List PlacedCall). KeepOrder (map (λ (p : PlacedCall). p.call) l)) (sym shows.history) told.placed.in_order

  pub refused_rise : IsStrictlyIncreasing (map (λ (s : ShownRefusal). s.call.line) report.refused)
  refused_rise =
      let same = mapped_twice (λ (s : ShownRefusal). s.call) (λ (c : TracedCall). c.line) report.refused ∙ ap (λ (l : List TracedCall). map (λ (c : TracedCall). c.line) l) refused_is
      ∙ sym (mapped_twice (λ (r : RefusedCall). r.call) (λ (c : TracedCall). c.line) refused) in
      subst IsStrictlyIncreasing (sym same) told.in_lines

  pub open_rise : IsStrictlyIncreasing (map (λ (c : TracedCall). c.line) (open_calls_of report))
  open_rise =
      let same = ap (λ (l : List TracedCall). map (λ (c : TracedCall). c.line) l) shows.open_calls ∙ sym (mapped_twice (λ (o : OpenedCall). o.call) (λ (c : TracedCall). c.line) left_open) in
      subst IsStrictlyIncreasing (sym same) told.open_in_lines

-- ---- causes

-- what the outcome of a run tells of the causes of refusals, and of the calls that have none
pub record HaveCauses (fds : List Fd) (plan : Plan) (made : List MadeCall) (zero : PassState) : Type 0 where
  pub refused : (call : TracedCall) (refusal : mirror.Refusal) → IsOneOf made (record { call = call; answer = answers.Refused refusal }) → IsRefusedSo fds (batch_of plan) made zero call refusal
  pub placed : (call : TracedCall) (place : ℕ) (reply : Reply) → IsOneOf made (record { call = call; answer = answers.Placed place reply }) → early_of_call zero.view.opened.sizes fds call.call ≡ None
  pub left_open : (call : TracedCall) (number : ℕ) → IsOneOf made (record { call = call; answer = answers.Open number }) → SawStop zero.view × IsWrite call.call × (early_of_call zero.view.opened.sizes fds call.call ≡ None)
  pub room : plan.worker ≡ false → entries_of_calls zero.view.opened.sizes.page (calls_that_drew made) ≤ zero.view.opened.sizes.entries
  pub small : zero.view.opened.next + entries_of_calls zero.view.opened.sizes.page (calls_that_drew made) ≤ 2 ^ 60

module _ (made : List MadeCall) (sorted : SortedCalls) (sorts : AreSortedOut made sorted) where
  abbrev placed_ones : List PlacedCall
  placed_ones = map placed_call sorted.placed.items

  abbrev refused_ones : List RefusedCall
  refused_ones = map refused_call sorted.refused.items

  abbrev open_ones : List OpenedCall
  open_ones = map opened_call sorted.open_calls.items

  abbrev each_one : List MadeCall
  each_one = map placed_made placed_ones ++ map refused_made refused_ones ++ map opened_made open_ones

  back : IsPermutation each_one made
  back = IsPermutation-sym made each_one sorts.listed

  placed_there : (p : PlacedCall) → IsOneOf placed_ones p → IsOneOf made (placed_made p)
  placed_there p one =
      one_moved each_one made (placed_made p) back (one_left (map placed_made placed_ones ++ map refused_made refused_ones) (map opened_made open_ones) (placed_made p)
      (one_left (map placed_made placed_ones) (map refused_made refused_ones) (placed_made p) (one_mapped placed_made placed_ones p one)))

  pub refused_there : (r : RefusedCall) → IsOneOf refused_ones r → IsOneOf made (refused_made r)
  refused_there r one =
      one_moved each_one made (refused_made r) back (one_left (map placed_made placed_ones ++ map refused_made refused_ones) (map opened_made open_ones) (refused_made r)
      (one_right (map placed_made placed_ones) (map refused_made refused_ones) (refused_made r) (one_mapped refused_made refused_ones r one)))

  pub open_there : (o : OpenedCall) → IsOneOf open_ones o → IsOneOf made (opened_made o)
  open_there o one =
      one_moved each_one made (opened_made o) back
      (one_right (map placed_made placed_ones ++ map refused_made refused_ones) (map opened_made open_ones) (opened_made o) (one_mapped opened_made open_ones o one))

module _ (failed : Type 0) (basis : Basis) (trace : Traced) (fds : List Fd) (plan : Plan) (zero : PassState) (made : List MadeCall) (sorted : SortedCalls) (report : Report)
    (formed : IsWellFormed trace) (is : IsMountOf basis trace zero.view.opened fds) (all : IsPermutation trace.calls (calls_made made)) (sorts : AreSortedOut made sorted)
    (causes : HaveCauses fds plan made zero) (few : length (history_then zero.view) < 2 ^ 60) (shows : ShowsCalls basis trace sorted report) (stops : SawStop zero.view → failed) where
  abbrev opened : Opened
  opened = zero.view.opened

  abbrev descriptors_then : List Descriptor
  descriptors_then = descriptors_in basis.names trace

  abbrev placed_list : List PlacedCall
  placed_list = map placed_call sorted.placed.items

  abbrev refused_list : List RefusedCall
  refused_list = map refused_call sorted.refused.items

  abbrev open_list : List OpenedCall
  open_list = map opened_call sorted.open_calls.items

  within : (m : MadeCall) → IsOneOf made m → IsCallWithin (length trace.descriptors) m.call.call
  within m one =
      of_one (λ (t : TracedCall). IsCallWithin (length trace.descriptors) t.call) trace.calls m.call formed.calls
      (one_moved (calls_made made) trace.calls m.call (IsPermutation-sym trace.calls (calls_made made) all) (one_mapped (λ (m : MadeCall). m.call) made m one))

  -- ---- what was drawn

  drew_is : drawing_calls report ≡ map (λ (p : PlacedCall). p.call) placed_list ++ map (λ (o : OpenedCall). o.call) open_list
  drew_is =
      ap (λ (l : List PlacedCall). map (λ (p : PlacedCall). p.call) l ++ open_calls_of report) shows.history
      ∙ ap (λ (l : List TracedCall). map (λ (p : PlacedCall). p.call) placed_list ++ l) shows.open_calls

  drew_before_is : (call : TracedCall) → entries_of_calls opened.sizes.page (not_later call (calls_that_drew made)) ≡ entries_of_calls basis.sizes.page (not_later call (drawing_calls report))
  drew_before_is call =
      drawn_before opened.sizes call made placed_list refused_list open_list sorts.listed ∙ ap (λ (l : List TracedCall). entries_of_calls opened.sizes.page (not_later call l)) (sym drew_is)
      ∙ entries_alike basis trace opened fds is (not_later call (drawing_calls report))

  drew_all_is : entries_of_calls opened.sizes.page (calls_that_drew made) ≡ entries_of_calls basis.sizes.page (drawing_calls report)
  drew_all_is =
      drawn_in_all opened.sizes made placed_list refused_list open_list sorts.listed ∙ ap (λ (l : List TracedCall). entries_of_calls opened.sizes.page l) (sym drew_is)
      ∙ entries_alike basis trace opened fds is (drawing_calls report)

  -- ---- refusals

  told_of_refusal : (r : RefusedCall) → IsOneOf refused_list r → IsRefusedSo fds (batch_of plan) made zero r.call r.refusal
  told_of_refusal r one = causes.refused r.call r.refusal (refused_there made sorted sorts r one)

  opened_then : (r : RefusedCall) (one : IsOneOf refused_list r) → (told_of_refusal r one).now.view.opened ≡ opened
  opened_then r one = (told_of_refusal r one).opened

  stood_so : (r : RefusedCall) (one : IsOneOf refused_list r) → StoodSo failed basis (batch_of plan) (drawing_calls report) r.call (told_of_refusal r one).now
  stood_so r one =
      let told = told_of_refusal r one in
      let least = told.order in
      let most = told.head in
      let drawn = drew_before_is r.call in
      let next = is.next in record {
        stopped = λ seen. stops (told.seen seen);
        order = omega arith;
        head = omega arith;
        tail = λ none. told.tail none tt ∙ sym next;
      }

  pub all_shown : AreShown refused_list
  all_shown r one =
      is_shown failed basis trace opened fds is plan (drawing_calls report) r.call (told_of_refusal r one).now (opened_then r one) (stood_so r one) r.refusal (told_of_refusal r one).cause

  pub all_allowed : All (λ (s : ShownRefusal). IsAllowedRefusal failed (RetiresNothing plan.worker basis) basis descriptors_then (drawing_calls report) s.call s.refusal) report.refused
  all_allowed =
      subst (λ (l : List ShownRefusal). All (λ (s : ShownRefusal). IsAllowedRefusal failed (RetiresNothing plan.worker basis) basis descriptors_then (drawing_calls report) s.call s.refusal) l) (sym shows.refused)
      (of_each (λ (s : ShownRefusal). IsAllowedRefusal failed (RetiresNothing plan.worker basis) basis descriptors_then (drawing_calls report) s.call s.refusal) (shown_refusals refused_list) each)
    where
      each : (s : ShownRefusal) → IsOneOf (shown_refusals refused_list) s → IsAllowedRefusal failed (RetiresNothing plan.worker basis) basis descriptors_then (drawing_calls report) s.call s.refusal
      each s one =
          let from = one_of_joined shown_one refused_list s one in
          let r = from.0 in
          let are = of_shown r.call (shown_refusal r.refusal) s from.2 in
          subst (λ (c : TracedCall). IsAllowedRefusal failed (RetiresNothing plan.worker basis) basis descriptors_then (drawing_calls report) c s.refusal) (sym are.1)
          (is_allowed_so failed basis trace opened fds is plan (drawing_calls report) r.call (told_of_refusal r from.1).now (opened_then r from.1) (within (refused_made r) (refused_there made sorted sorts r from.1))
          (stood_so r from.1) r.refusal s.refusal are.0 (told_of_refusal r from.1).cause)

  -- ---- the others

  abbrev IsFree : TracedCall → Type 0
  IsFree call = barred basis.sizes descriptors_then call.call ≡ None

  free_where : (m : MadeCall) → IsOneOf made m → early_of_call opened.sizes fds m.call.call ≡ None → IsFree m.call
  free_where m one early = sym (bar_is basis trace opened fds is m.call.call (within m one)) ∙ ap shown_bar early

  pub none_barred : All IsFree (map (λ (p : PlacedCall). p.call) report.history)
  none_barred =
      subst (λ (l : List PlacedCall). All IsFree (map (λ (p : PlacedCall). p.call) l)) (sym shows.history) (of_each IsFree (map (λ (p : PlacedCall). p.call) placed_list) each)
    where
      each : (call : TracedCall) → IsOneOf (map (λ (p : PlacedCall). p.call) placed_list) call → IsFree call
      each call one =
          let from = one_of_mapped (λ (p : PlacedCall). p.call) placed_list call one in
          let p = from.0 in
          subst IsFree from.2 (free_where (placed_made p) (placed_there made sorted sorts p from.1) (causes.placed p.call p.place p.reply (placed_there made sorted sorts p from.1)))

  pub all_left_open : All (IsLeftOpen failed basis descriptors_then) (open_calls_of report)
  all_left_open =
      subst (λ (l : List TracedCall). All (IsLeftOpen failed basis descriptors_then) l) (sym shows.open_calls)
      (of_each (IsLeftOpen failed basis descriptors_then) (map (λ (o : OpenedCall). o.call) open_list) each)
    where
      each : (call : TracedCall) → IsOneOf (map (λ (o : OpenedCall). o.call) open_list) call → IsLeftOpen failed basis descriptors_then call
      each call one =
          let from = one_of_mapped (λ (o : OpenedCall). o.call) open_list call one in
          let o = from.0 in
          let told = causes.left_open o.call o.number (open_there made sorted sorts o from.1) in
          subst (IsLeftOpen failed basis descriptors_then) from.2
          (record { is_write = told.1; failed_so = stops told.0; not_barred = free_where (opened_made o) (open_there made sorted sorts o from.1) told.2 })

  pub has_room : plan.worker ≡ false → entries_of_calls basis.sizes.page (drawing_calls report) ≤ basis.sizes.entries
  has_room off =
      let room = causes.room off in
      let drawn = drew_all_is in
      let entries = is.entries in
      omega arith

  pub are_small : basis.next + entries_of_calls basis.sizes.page (drawing_calls report) ≤ 2 ^ 60
  are_small =
      let small = causes.small in
      let drawn = drew_all_is in
      let next = is.next in
      omega arith

-- ---- a run

-- the history is no longer than the calls
short_history : (fds : List Fd) (calls : List TracedCall) (sorted : SortedCalls) (history : List Answered) → AreTold fds calls sorted history → length calls < 2 ^ 60 → length history < 2 ^ 60
short_history fds calls sorted history told few =
    let placed : List PlacedCall = map placed_call sorted.placed.items in
    let ones = map (λ (p : PlacedCall). p.call) placed in
    let others = map (λ (r : RefusedCall). r.call) (map refused_call sorted.refused.items) in
    let left = map (λ (o : OpenedCall). o.call) (map opened_call sorted.open_calls.items) in
    let long = AllZip-long (StandsAs fds) placed history told.placed.each in
    let mapped = length-map placed (λ (p : PlacedCall). p.call) in
    let all = length_permutation calls (ones ++ others ++ left) told.listed in
    let first = length-append (ones ++ others) left in
    let second = length-append ones others in
    omega arith

-- whatever says that devices failed, where a pass has seen STOP set
pub faithful_where : (failed : Type 0) (basis : Basis) (trace : Traced) (fds : List Fd) (plan : Plan) (start zero : PassState) (sorted : SortedCalls) (part_values store_values : List Value)
    (parts : List PartHistory) (stores : List StoreHistory) (faults placed tail : ℕ) (report : Report)
    → IsWellFormed trace → length trace.calls < 2 ^ 60 → IsStrictlyIncreasing (lines_in trace) → IsMountOf basis trace start.view.opened fds → start.view ≡ first_view start.view.opened
    → HasOutcome fds plan trace.calls start (Ok sorted) zero → IsClosedBy zero part_values store_values parts stores faults placed tail
    → ShowsCalls basis trace sorted report → (SawStop zero.view → failed) → IsFaithful failed plan.worker basis trace report
faithful_where failed basis trace fds plan start zero sorted part_values store_values parts stores faults count tail report formed few lines is new out closed shows stops =
    let told = runs_are_told fds plan trace.calls start zero sorted part_values store_values parts stores faults count tail new out closed lines formed.round_order in
    let made = out.made in
    let causes : HaveCauses fds plan made zero = record { refused = out.causes; placed = out.not_barred; left_open = out.open_stopped; room = out.room; small = out.small } in
    let low = short_history fds trace.calls sorted (history_then zero.view) told few in
    let there = subst (λ (o : Opened). IsMountOf basis trace o fds) (sym out.run_out.mount) is in
    let shown = all_shown failed basis trace fds plan zero made sorted report formed there out.sorted.1 out.sorted.0 causes low shows stops in record {
      legal = history_legal basis trace fds zero.view.opened zero.view sorted report there told shown shows (closed.history.legal basis.files zero.view.opened.next there.log there.files);
      made = calls_once basis trace fds zero.view.opened zero.view sorted report there told shown shows;
      in_order = history_keeps basis trace fds zero.view.opened zero.view sorted report there told shown shows;
      refused_in_order = refused_rise basis trace fds zero.view.opened zero.view sorted report there told shown shows;
      open_in_order = open_rise basis trace fds zero.view.opened zero.view sorted report there told shown shows;
      allowed = all_allowed failed basis trace fds plan zero made sorted report formed there out.sorted.1 out.sorted.0 causes low shows stops;
      not_barred = none_barred failed basis trace fds plan zero made sorted report formed there out.sorted.1 out.sorted.0 causes low shows stops;
      left_open = all_left_open failed basis trace fds plan zero made sorted report formed there out.sorted.1 out.sorted.0 causes low shows stops;
      drew = record {
        room = has_room failed basis trace fds plan zero made sorted report formed there out.sorted.1 out.sorted.0 causes low shows stops;
        numbers = are_small failed basis trace fds plan zero made sorted report formed there out.sorted.1 out.sorted.0 causes low shows stops;
      };
      files = shows.files;
    }

pub runs_are_faithful : RunsAreFaithful
runs_are_faithful basis trace fds plan start zero sorted part_values store_values parts stores faults count tail report formed few lines is new out closed shows =
    faithful_where (SawStop zero.view) basis trace fds plan start zero sorted part_values store_values parts stores faults count tail report formed few lines is new out closed shows (λ saw. saw)

-- ---- the log

pub emptied_logs_go_on : EmptiedLogsGoOn
emptied_logs_go_on basis trace fds plan start zero sorted part_values store_values parts stores faults count tail report is out closed shows emptied =
    let opened = zero.view.opened in
    let there = subst (λ (o : Opened). IsMountOf basis trace o fds) (sym out.run_out.mount) is in
    let placed_list = map placed_call sorted.placed.items in
    let refused_list = map refused_call sorted.refused.items in
    let open_list = map opened_call sorted.open_calls.items in
    let drew_is : drawing_calls report ≡ map (λ (p : PlacedCall). p.call) placed_list ++ map (λ (o : OpenedCall). o.call) open_list =
    ap (λ (l : List PlacedCall). map (λ (p : PlacedCall). p.call) l ++ open_calls_of report) shows.history
    ∙ ap (λ (l : List TracedCall). map (λ (p : PlacedCall). p.call) placed_list ++ l) shows.open_calls in
    let drew : entries_of_calls opened.sizes.page (calls_that_drew out.made) ≡ entries_of_calls basis.sizes.page (drawing_calls report) =
    drawn_in_all opened.sizes out.made placed_list refused_list open_list out.sorted.0.listed ∙ ap (λ (l : List TracedCall). entries_of_calls opened.sizes.page l) (sym drew_is)
    ∙ entries_alike basis trace opened fds there (drawing_calls report) in
    let last = closed.whole.tail_is in
    let none = emptied.none in
    let head = out.counted in
    let next = there.next in
    omega (arith, last, none, head, next, drew)

-- ---- the files

pub files_are_of_the_history : FilesAreOfTheHistory
files_are_of_the_history basis trace fds plan start zero sorted part_values store_values parts stores faults count tail formed lines is new out closed =
    let told = runs_are_told fds plan trace.calls start zero sorted part_values store_values parts stores faults count tail new out closed lines formed.round_order in
    let there = subst (λ (o : Opened). IsMountOf basis trace o fds) (sym out.run_out.mount) is in
    let legal = closed.history.legal basis.files zero.view.opened.next there.log there.files in
    (threads_are_legal fds (file_call (descriptors_in basis.names trace)) (map placed_call sorted.placed.items) (history_then zero.view) basis.files
    (calls_on_files basis trace zero.view.opened fds there) told.placed legal).2

-- ---- STOP

none_open : (calls : List Open) → ((o : OpenedCall) → IsOneOf (map opened_call calls) o → ⊥) → calls ≡ []
none_open [] none = refl
none_open (one ∷ calls) none = absurd (none (opened_call one) (inl refl))

module _ (sound : RunsAreSound) (tell : OwnEventsTell) (view : PassView) (mount : IsMount (mount_of view.opened)) (is_run : IsRunOf view.opened view.run) (knows : KnowsTaken view)
    (emptied : HasEmptiedLog view) where
  set : (number : ℕ) → ((state_of view.opened view.run).passes number).stopped ≡ true → ⊥
  set number stopped =
      let one = (sound (mount_of view.opened) view.run mount is_run).stop.stays number stopped in
      let none = emptied.going in
      omega arith

  pub none_saw_stop : SawStop view → ⊥
  none_saw_stop saw = elim saw [
    | inl own ↦ set view.number own
    | inr other ↦ set other.0.number
        (ap (λ (p : Pass). p.stopped) (told_of tell view.opened other.0.number other.0.run view.run mount is_run (knows.behind other.0 other.1) (knows.made other.0 other.1)).pass ∙ other.2)
  ]

pub nothing_open : RunsAreSound → OwnEventsTell → UnstoppedRunsLeaveNothingOpen
nothing_open sound tell fds plan calls start zero sorted mount is_run out on =
    let none = none_saw_stop sound tell zero.view mount is_run out.run_out.taken (out.emptied on) in
    (none, none_open sorted.open_calls.items (λ o one. none (out.open_stopped o.call o.number (open_there out.made sorted out.sorted.0 o one)).0))

-- A run over a mount: what it leaves when it is closed, and the report of one that nothing stopped.
use Rattle.std.proofs.Common.{◌≡◌, ℕ, zero, suc, ◌+◌, ◌-◌, ◌<◌, ◌≤◌, All, List, [], ◌∷◌, length, get_or, map, take, drop, inl, inr, refl, sym, ap, subst, ◌∙◌, arith}
use Rattle.std.specs.Prelude.{None, Some, Ok, Option, is_none, sum_by, true}
use Rattle.std.proofs.Math.ListN.{get_or-eq_default}
use Rattle.std.specs.List.{AllZip}
use Rattle.std.specs.List.Sorted.{IsStrictlyIncreasing}
use Rattle.std.proofs.lemmas.Bool.{cases_lt}
use Rattle.std.proofs.lemmas.List.{get_or-drop, get_or_default, length-drop, length-map}
use Rattle.std.proofs.lemmas.List.Elements.{All-cons, All-head, All-tail}
use Rattle.nv_plain.specs.Files.{Files}
use Rattle.nv_plain.specs.Layouts.{mount_layout}
use Rattle.nv_pmem.specs.Images.{IsQuietPart}
use Rattle.nv_pmem.specs.Part.{Part, part_word}
use Rattle.nv_pmem.specs.Room.{Room}
use Rattle.nv_pmem.specs.Moments.{Tells}
use Rattle.nv_pmem.specs.RowStates.{AreNow, IsNow, row_tells_at, tells_at}
use Rattle.nv_pmem.specs.Steps.{PartHistory}
use Rattle.nv_pmem.proofs.ImageLaws.{image_of_now, quiet_blank}
use Rattle.nv_store.specs.Steps.{StoreHistory}
use Rattle.nv_store.specs.Store.{IsQuietStore, Store}
use Rattle.nv_header.specs.FileNames.{AreFileNames}
use Rattle.nv_header.specs.Regions.{IsAtRest}
use Rattle.nv_recover.specs.Standing.{AreQuietStores, files_of}
use Rattle.nv_core.specs.crash.CrashImages.{OpensRegion, RunsKeepRegion}
use Rattle.nv_core.specs.crash.EmptyLog.{EmptyLogsRest, HasAllInStores}
use Rattle.nv_core.specs.invariant.InvariantLaws.{RunsAreSound}
use Rattle.nv_core.specs.log.LogContent.{OpensLog, RunsKeepTheLog}
use Rattle.nv_core.specs.log.Written.{IsPart}
use Rattle.nv_core.specs.state.Core.{Core}
use Rattle.nv_core.specs.state.Values.{Bare, Value}
use Rattle.nv_core.specs.state.Words.{ENTRY, HEADER, Sizes}
use Rattle.nv_plain.specs.Images.{Image}
use Rattle.nv_core.specs.steps.Frames.{OwnEventsTell}
use Rattle.nv_core.specs.steps.Opening.{IsMount}
use Rattle.nv_core.proofs.crash.CrashGroups.{some_entries}
use Rattle.nv_core.proofs.crash.CrashHeader.{header_tells}
use Rattle.nv_core.proofs.crash.CrashRegions.{region_is, region_of}
use Rattle.nv_table.specs.ends.Closing.{IsClosed}
use Rattle.nv_table.specs.state.Layout.{cell_of}
use Rattle.nv_table.specs.state.Opened.{Opened, mount_of, state_of}
use Rattle.nv_table.specs.state.SlotValues.{part_value, present, slot_value, store_value}
use Rattle.nv_table.specs.state.States.{BoardState, PassState}
use Rattle.nv_table.specs.state.Views.{first_view, values_of}
use Rattle.nv_table.proofs.state.LayoutLaws.{cell_there}
use Rattle.nv_mount.specs.ClosedAtRest.{AreAtRest, HasEmptiedLog, files_then}
use Rattle.nv_mount.specs.RisenCounts.{SawStop}
use Rattle.nv_mount.specs.Telling.{HasLongParts, IsSeen}
use Rattle.nv_mount.specs.WholeRuns.{history_then}
use Rattle.nv_mount.specs.declared.fds.Fd.{Fd}
use Rattle.nv_mount.proofs.LastStateLaws.{LastLog, last_log, none_hold}
use Rattle.nv_mount.proofs.WholeRunLaws.{there}
use Rattle.nv_trace.specs.Shape.{IsWellFormed}
use Rattle.nv_trace.specs.Traced.{Traced, lines_in}
use Rattle.nv_runner.specs.declared.running.TheConstants.{MOST_CALLS}
use Rattle.nv_runner.specs.declared.plan.Plan.{Plan}
use Rattle.nv_runner.specs.declared.sorted.Open.{Open}
use Rattle.nv_runner.specs.declared.sorted.SortedCalls.{SortedCalls}
use Rattle.nv_runner.specs.EndedRuns.{HasOutcome, IsClosedBy}
use Rattle.nv_runner.specs.Faithful.{Basis, IsFaithful, descriptors_in, file_call, files_shown, named}
use Rattle.nv_runner.specs.FaithfulRuns.{IsMountOf, ShowsCalls, UnstoppedRunsLeaveNothingOpen}
use Rattle.nv_runner.specs.Reports.{Report}
use Rattle.nv_runner.specs.Sorted.{OpenedCall, opened_call, placed_call}
use Rattle.nv_runner.proofs.FaithfulLaws.{calls_on_files, emptied_logs_go_on, faithful_where}
use Rattle.nv_runner.proofs.histories.HistoryThreads.{threads_are_legal}
use Rattle.nv_runner.proofs.ToldLaws.{runs_are_told}
use Rattle.nv_open.proofs.LogLaws.{states_many}
use Rattle.nv_top.specs.Outcomes.{shown_report}
use Rattle.nv_top.specs.Shows.{text_as}
use Rattle.nv_top.specs.declared.show.Show.{Show}
use Rattle.nv_top.specs.Runs.{HasRunOver, IsQuietSpare}
use Rattle.nv_top.proofs.LineLemmas.{kept_long}
use Rattle.nv_top.proofs.NameLemmas.{each_allowed, names_plain}
use Rattle.nv_top.proofs.RestLemmas.{all_rest, first_states, is_longer, now_of, same_state, state_at}
use Rattle.nv_top.proofs.RowLemmas.{Present, present as present_states}

-- ---- files

-- stores that read as files, and tell, hold them
seen_files : (row : List StoreHistory) (states : List Store) (contents : List (List ℕ)) → AreNow row states → AllZip IsSeen row contents → (files_of states).contents ≡ contents
seen_files [] [] [] are have = refl
seen_files [] [] (bytes ∷ contents) are have = absurd have
seen_files [] (now ∷ states) contents are have = absurd are
seen_files (history ∷ row) [] contents are have = absurd are
seen_files (history ∷ row) (now ∷ states) [] are have = absurd have
seen_files (history ∷ row) (now ∷ states) (bytes ∷ contents) are have =
    let first : now.seen ≡ bytes = subst (λ (h : StoreHistory). IsSeen h bytes) are.0.is have.0 in
    ap (λ (b : List ℕ). b ∷ (files_of states).contents) first ∙ ap (λ (rest : List (List ℕ)). bytes ∷ rest) (seen_files row states contents are.1 have.1)

seen_tell : (row : List StoreHistory) (contents : List (List ℕ)) → AllZip IsSeen row contents → All (λ history. 0 < length history) row
seen_tell [] contents have = λ k d inside. absurd (omega arith)
seen_tell (history ∷ row) [] have = absurd have
seen_tell ([] ∷ row) (bytes ∷ contents) have = absurd have.0
seen_tell ((now ∷ past) ∷ row) (bytes ∷ contents) have = All-cons (λ history. 0 < length history) (now ∷ past) row (omega arith) (seen_tell row contents have.1)

quiet_states : (row : List StoreHistory) (states : List Store) → AreNow row states → All (λ history. Tells history IsQuietStore) row → AreQuietStores states
quiet_states [] [] are quiet = λ k d inside. absurd (omega arith)
quiet_states [] (now ∷ states) are quiet = absurd are
quiet_states (history ∷ row) [] are quiet = absurd are
quiet_states (history ∷ row) (now ∷ states) are quiet =
    All-cons IsQuietStore now states (tells_at history IsQuietStore now are.0 (All-head (λ history. Tells history IsQuietStore) history row quiet))
    (quiet_states row states are.1 (All-tail (λ history. Tells history IsQuietStore) history row quiet))

pub quiet_stores : {Y : Type 0} (held : Y → StoreHistory) (stores : List Y) (states : List Store) → AreNow (map held stores) states → All (λ store. Tells (held store) IsQuietStore) stores → AreQuietStores states
quiet_stores held [] [] are quiet = λ k d inside. absurd (omega (arith, inside))
quiet_stores held [] (now ∷ states) are quiet = absurd are
quiet_stores held (store ∷ stores) [] are quiet = absurd are
quiet_stores held (store ∷ stores) (now ∷ states) are quiet =
    All-cons IsQuietStore now states (tells_at (held store) IsQuietStore now are.0 (All-head (λ store. Tells (held store) IsQuietStore) store stores quiet))
    (quiet_stores held stores states are.1 (All-tail (λ store. Tells (held store) IsQuietStore) store stores quiet))

-- ---- what goes in

-- the parts of a quiet row behind the first so many show that they are quiet
pub quiet_behind : {L : Type 0} (device : L → ℕ) (history : L → PartHistory) (faults : L → ℕ) (room : L → Room) (n : ℕ) (parts : List L) (states : List Part)
    → AreNow (map history parts) states → ((i : ℕ) → IsQuietPart (get_or states i [])) → All IsQuietSpare (map (part_value device history faults room) (drop n parts))
quiet_behind device history faults room zero [] states are quiet = λ k d inside. absurd (omega (arith, inside))
quiet_behind device history faults room (suc n) [] states are quiet = λ k d inside. absurd (omega (arith, inside))
quiet_behind device history faults room n (part ∷ parts) [] are quiet = absurd are
quiet_behind device history faults room zero (part ∷ parts) (state ∷ states) are quiet =
    let value = part_value device history faults room in
    let first : present (history part) ≡ Some state = ap (λ (h : PartHistory). present h) are.0.is in
    All-cons IsQuietSpare (value part) (map value parts) (state, first, quiet 0) (quiet_behind device history faults room zero parts states are.1 (λ i. quiet (suc i)))
quiet_behind device history faults room (suc n) (part ∷ parts) (state ∷ states) are quiet = quiet_behind device history faults room n parts states are.1 (λ i. quiet (suc i))

-- ---- what comes out

module _ {L B : Type 0} (device : L → ℕ) (history : L → PartHistory) (faults : L → ℕ) (room : L → Room) (store_device : B → ℕ) (store_history : B → StoreHistory) (store_faults : B → ℕ)
    (basis : Basis) (trace : Traced) (fds : List Fd) (plan : Plan) (start ended : PassState) (sorted : SortedCalls) (board : BoardState) (parts : List L) (stores : List B) (placed tail : ℕ)
    (sound : RunsAreSound) (tell : OwnEventsTell) (keeps : RunsKeepTheLog) (region_stays : RunsKeepRegion) (rests : EmptyLogsRest) (unstopped : UnstoppedRunsLeaveNothingOpen)
    (same_board : ended.view.opened ≡ board.opened) (new : start.view ≡ first_view start.view.opened) (mount : IsMount (mount_of ended.view.opened)) (stop : plan.stop ≡ None)
    (formed : IsWellFormed trace) (few : length trace.calls ≤ MOST_CALLS) (lines : IsStrictlyIncreasing (lines_in trace)) (allowed : AreFileNames mount_layout basis.names)
    (is : IsMountOf basis trace start.view.opened fds) (region : OpensRegion (mount_of ended.view.opened) basis.names) (spare : All IsQuietSpare ended.spare)
    (long_parts : HasLongParts (mount_of ended.view.opened)) (out : HasOutcome fds plan trace.calls start (Ok sorted) ended)
    (closed : IsClosed device store_device (slot_value (part_value device history faults room) (store_value store_device store_history store_faults)) board ended parts stores placed tail)
    (by : IsClosedBy ended (map (part_value device history faults room) parts) (map (store_value store_device store_history store_faults) stores) (map history parts) (map store_history stores)
    (sum_by faults parts + sum_by store_faults stores) placed tail) where
  abbrev sizes : Sizes
  sizes = ended.view.opened.sizes

  abbrev at_last : Core
  at_last = state_of ended.view.opened ended.view.run

  here : IsMountOf basis trace ended.view.opened fds
  here = subst (λ (o : Opened). IsMountOf basis trace o fds) (sym out.run_out.mount) is

  log : OpensLog (mount_of ended.view.opened) ended.view.opened.next
  log = here.log

  none_stops : is_none plan.stop ≡ true
  none_stops = ap (λ (s : Option ℕ). is_none s) stop

  emptied : HasEmptiedLog ended.view
  emptied = out.emptied none_stops

  nothing : (SawStop ended.view → ⊥) × (sorted.open_calls.items ≡ [])
  nothing = unstopped fds plan trace.calls start ended sorted mount by.whole.is_run out none_stops

  rest : AreAtRest sizes basis.names (files_then ended.view basis.files) (map history parts) (map store_history stores) tail
  rest = by.rest basis.files basis.names log here.files region emptied

  many : 1 + sizes.entries ≤ length parts
  many = let n = ap (λ (o : Opened). o.sizes.entries) same_board in let m = closed.many_parts in omega (arith, n, m)

  -- ---- the parts

  last : LastLog ended.view basis.files basis.names
  last = last_log sound keeps region_stays ended.view mount by.whole.is_run basis.files basis.names log here.files region

  in_stores : HasAllInStores sizes basis.files last.tails at_last
  in_stores =
      rests sizes (mount_of ended.view.opened).values basis.files basis.names last.tails last.log last.placed at_last (sound (mount_of ended.view.opened) ended.view.run mount by.whole.is_run) last.content last.region
      record {
        none = emptied.none;
        going = emptied.going;
        idle = none_hold sound ended.view mount by.whole.is_run out.run_out.alone.zero out.run_out.taken out.run_out.alone.all tell emptied.owned emptied.taken;
      }

  abbrev image : Image
  image = region_of part_word at_last.values

  some : 1 ≤ sizes.entries
  some = some_entries sizes basis.names (image 0 1 0) image (last.region.header image (region_is sizes part_word image_of_now at_last.values))

  -- the header's part tells, and that of each entry
  part_told : (i : ℕ) → i ≤ sizes.entries → (state : Part) × IsPart (values_of ended.view (cell_of sizes i)) state
  part_told zero least =
      let told = header_tells sizes basis.names last.tails last.log at_last last.region image (region_is sizes part_word image_of_now at_last.values) in
      (told.0, subst (λ cell. IsPart (at_last.values cell) told.0) (sym (cell_there sizes HEADER 0 tt refl).1) told.1)
  part_told (suc slot) least =
      let blank = in_stores.entries slot (omega (arith, least)) in
      let next : suc slot ≡ 1 + slot = omega arith in
      let at : cell_of sizes (suc slot) ≡ ENTRY slot = ap (cell_of sizes) next ∙ (cell_there sizes (ENTRY slot) (1 + slot) (omega (arith, least)) refl).1 in
      (blank.part, subst (λ cell. IsPart (at_last.values cell) blank.part) (sym at) blank.is)

  part_now : (i : ℕ) → i ≤ sizes.entries → (state : Part) × IsNow (get_or (map history parts) i []) state
  part_now i least =
      let one = there (part_value device history faults room) history Bare [] parts i (omega (arith, many, least)) in
      let told = part_told i least in
      let has : present (history one.0) ≡ Some told.0 = subst (λ v. IsPart v told.0) (sym (by.whole.parts_show i least) ∙ one.2) told.1 in
      (told.0, subst (λ h. IsNow h told.0) (sym one.3) (now_of (history one.0) told.0 has))

  spare_is : map (part_value device history faults room) (drop (1 + sizes.entries) parts) ≡ ended.spare
  spare_is = subst (λ (o : Opened). map (part_value device history faults room) (drop (1 + o.sizes.entries) parts) ≡ ended.spare) (sym same_board) closed.same_spare

  spare_now : (j : ℕ) → 1 + sizes.entries + j < length parts → (state : Part) × IsNow (get_or (map history parts) (1 + sizes.entries + j) []) state × IsQuietPart state
  spare_now j less =
      let one = there (part_value device history faults room) history Bare [] parts (1 + sizes.entries + j) less in
      let left = length-drop (1 + sizes.entries) parts in
      let two = there (part_value device history faults room) history Bare [] (drop (1 + sizes.entries) parts) j (omega (arith, less, left)) in
      let same : two.0 ≡ one.0 = sym (two.1 two.0) ∙ get_or-drop (1 + sizes.entries) parts j two.0 ∙ one.1 two.0 in
      let long = length-map (drop (1 + sizes.entries) parts) (part_value device history faults room) in
      let shown = subst (λ (values : List Value). All IsQuietSpare values) (sym spare_is) spare j Bare (omega (arith, less, left, long)) in
      let told = subst IsQuietSpare two.2 shown in
      let has : present (history one.0) ≡ Some told.0 = subst (λ x. present (history x) ≡ Some told.0) same told.1 in
      (told.0, subst (λ h. IsNow h told.0) (sym one.3) (now_of (history one.0) told.0 has), told.2)

  parts_tell : All (λ h. 0 < length h) (map history parts)
  parts_tell k d inside =
      let long = length-map parts history in
      subst (λ (h : PartHistory). 0 < length h) (get_or_default (map history parts) k [] d inside) (elim (cases_lt k (1 + sizes.entries)) [
        | inl less ↦ let now = part_now k (omega (arith, less)) in is_longer (get_or (map history parts) k []) now.0 now.1
        | inr past ↦
            let at : 1 + sizes.entries + (k - (1 + sizes.entries)) ≡ k = omega (arith, past) in
            let now = spare_now (k - (1 + sizes.entries)) (omega (arith, past, inside, long)) in
            subst (λ i. 0 < length (get_or (map history parts) i [])) at (is_longer (get_or (map history parts) (1 + sizes.entries + (k - (1 + sizes.entries))) []) now.0 now.1)
      ])

  abbrev part_states : Present (map history parts)
  part_states = present_states (map history parts) parts_tell

  others_quiet : (i : ℕ) → 1 + sizes.entries ≤ i → IsQuietPart (get_or part_states.states i [])
  others_quiet i past =
      let long = length-map parts history in
      let as_long = states_many (map history parts) part_states.states part_states.are in
      elim (cases_lt i (length parts)) [
        | inl less ↦
            let at : 1 + sizes.entries + (i - (1 + sizes.entries)) ≡ i = omega (arith, past) in
            let now = spare_now (i - (1 + sizes.entries)) (omega (arith, past, less)) in
            let there_now = subst (λ k. IsNow (get_or (map history parts) k []) now.0) at now.1 in
            let held = state_at (map history parts) part_states.states i [] part_states.are (omega (arith, less, long)) in
            subst IsQuietPart (same_state (get_or (map history parts) i []) now.0 (get_or part_states.states i []) there_now held) now.2
        | inr behind ↦ subst IsQuietPart (sym (get_or-eq_default part_states.states [] (omega (arith, behind, long, as_long)))) (record { lines = λ line. quiet_blank })
      ]

  all_at_rest : IsAtRest mount_layout sizes.page sizes.entries basis.names tail part_states.states
  all_at_rest =
      all_rest sizes basis.names tail part_states.states some
      (row_tells_at (take (1 + sizes.entries) (map history parts)) (IsAtRest mount_layout sizes.page sizes.entries basis.names tail) (take (1 + sizes.entries) part_states.states)
      (first_states (1 + sizes.entries) (map history parts) part_states.states part_states.are) rest.region)
      others_quiet

  -- ---- the stores

  abbrev store_states : Present (map store_history stores)
  store_states = present_states (map store_history stores) (seen_tell (map store_history stores) (files_then ended.view basis.files).contents rest.have)

  stores_hold : files_of store_states.states ≡ files_then ended.view basis.files
  stores_hold =
      ap (λ (contents : List (List ℕ)). the_files contents) (seen_files (map store_history stores) store_states.states (files_then ended.view basis.files).contents store_states.are rest.have)
    where
      the_files : List (List ℕ) → Files
      the_files contents = record { contents = contents }

  -- ---- the report

  abbrev report : Report
  report = shown_report sorted [] basis.names (files_of store_states.states)

  shown_is : files_then ended.view basis.files ≡ files_shown basis trace report
  shown_is =
      let told = runs_are_told fds plan trace.calls start ended sorted (map (part_value device history faults room) parts) (map (store_value store_device store_history store_faults) stores) (map history parts)
      (map store_history stores) (sum_by faults parts + sum_by store_faults stores) placed tail new out by lines formed.round_order in
      let legal = by.history.legal basis.files ended.view.opened.next log here.files in
      let same = threads_are_legal fds (file_call (descriptors_in basis.names trace)) (map placed_call sorted.placed.items) (history_then ended.view) basis.files (calls_on_files basis trace ended.view.opened fds here) told.placed legal in
      sym same.2

  files_are : files_of store_states.states ≡ files_shown basis trace report
  files_are = stores_hold ∙ shown_is

  shows : ShowsCalls basis trace sorted report
  shows = record {
    history = refl;
    refused = refl;
    open_calls = sym (ap (λ (l : List Open). map (λ (o : OpenedCall). o.call) (map opened_call l)) nothing.1);
    files = ap (named basis.names) files_are;
  }

  is_faithful : IsFaithful ⊥ plan.worker basis trace report
  is_faithful =
      faithful_where ⊥ basis trace fds plan start ended sorted (map (part_value device history faults room) parts) (map (store_value store_device store_history store_faults) stores) (map history parts)
      (map store_history stores) (sum_by faults parts + sum_by store_faults stores) placed tail report formed (omega (arith, few)) lines is new out by shows nothing.0

  pub has_run : (show : Show) (text : List ℕ) (backing : List B) → map store_history backing ≡ map store_history stores
      → ((now : List Store) → AreNow (map store_history stores) now → text ≡ text_as show (shown_report sorted [] basis.names (files_of now)))
      → (run : HasRunOver history store_history show plan.worker basis trace text parts backing) × (run.report.history ≡ map placed_call sorted.placed.items)
  has_run show text backing same text_of = (
    record {
      report = report;
      faithful = is_faithful;
      plain = names_plain mount_layout.name_limit basis.names (files_of store_states.states).contents (each_allowed mount_layout basis.names allowed);
      text_is = text_of store_states.states store_states.are;
      left = record {
        page = sizes.page;
        entries = sizes.entries;
        next = tail;
        now = part_states.states;
        now_are = part_states.are;
        rest = all_at_rest;
        long = kept_long ended (map history parts) part_states.states by.lines long_parts part_states.are;
        disks = store_states.states;
        disks_are = subst (λ (row : List StoreHistory). AreNow row store_states.states) (sym same) store_states.are;
        files_are = files_are;
        synced = quiet_states (map store_history stores) store_states.states store_states.are rest.durable;
      };
      page_is = sym here.page;
      entries_is = sym here.entries;
      next_is =
          emptied_logs_go_on basis trace fds plan start ended sorted (map (part_value device history faults room) parts) (map (store_value store_device store_history store_faults) stores) (map history parts)
          (map store_history stores) (sum_by faults parts + sum_by store_faults stores) placed tail report is out by shows emptied;
    },
    refl,
  )

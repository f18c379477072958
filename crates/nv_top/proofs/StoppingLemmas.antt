-- A run that was stopped, after power went off and the region was recovered: its report is faithful.
use Rattle.std.proofs.Common.{◌<◌, ◌≡◌, ◌^◌, ℕ, ◌+◌, ◌≤◌, All, List, [], ◌∷◌, ◌++◌, get_or, Option, Some, None, IfSome, Result, Ok, Err, option_map, map, length, sum_by, refl, sym, ap, subst, ◌∙◌, arith, IsPermutation}
use Rattle.std.specs.List.{flat_map}
use Rattle.std.specs.List.Sorted.{IsStrictlyIncreasing}
use Rattle.std.proofs.lemmas.List.{length-map}
use Rattle.std.proofs.lemmas.List.Elements.{All-nil, All-cons, All-head, All-tail}
use Rattle.std.proofs.lemmas.List.Sorted.{All-permutation}
use Rattle.nv_plain.specs.Faults.{Rose, saturated}
use Rattle.nv_plain.specs.Files.{Files}
use Rattle.nv_plain.specs.Histories.{after}
use Rattle.nv_plain.specs.Images.{Image, header_of, version_in}
use Rattle.nv_plain.specs.Layouts.{layout_of, mount_layout, mount_version}
use Rattle.nv_plain.specs.declared.limits.Version.{Version}
use Rattle.nv_open.proofs.Versions.{version_is}
use Rattle.nv_plain.specs.Recovered.{recovered}
use Rattle.nv_plain.specs.Made.{after_calls}
use Rattle.nv_pmem.specs.Part.{Part}
use Rattle.nv_pmem.specs.Draws.{draws_of}
use Rattle.nv_pmem.specs.RowStates.{AreNow, IsNow, row_tells_at}
use Rattle.nv_pmem.specs.Rows.{InEachRowImage, IsRowImage, RowTells, row_words}
use Rattle.nv_pmem.specs.Steps as lines
use Rattle.nv_pmem.specs.declared.picker.Pick.{Pick}
use Rattle.nv_store.specs.Steps as stores
use Rattle.nv_open.proofs.Homes.{all_behind, own_stores}
use Rattle.nv_store.specs.Store.{IsQuietStore, Store}
use Rattle.nv_bench.specs.Benches.{BenchState, armed_with, told_back, with_faults, left_last}
use Rattle.nv_bench.specs.Holding.{Holding, IsQuietHolding, NamedStore, named_stores}
use Rattle.nv_bench.specs.Laws.{AreWholeStores, PowerLeavesAnImage}
use Rattle.nv_bench.specs.Powered.{powered, powered_parts}
use Rattle.nv_header.specs.FileNames.{AreFileNames}
use Rattle.nv_header.specs.Heads.{IsHead, first_names}
use Rattle.nv_header.specs.Regions.{IsAtRest}
use Rattle.nv_open.specs.Held.{HoldFiles, IsRecovered, files_named, header_names}
use Rattle.nv_open.specs.Lending.{all_lent, stores_named, without_named, without_stores}
use Rattle.nv_header.specs.Needs.{HasLines}
use Rattle.nv_open.specs.Refusals.{head_image, rooms_of}
use Rattle.nv_recover.specs.Standing.{AreStoreImages, ReadableStandsForRecovered, files_of}
use Rattle.nv_recover.specs.Recovering.{HasFoundAll}
use Rattle.nv_recover.specs.declared.recovering.Recovered as recover
use Rattle.nv_core.specs.content.Content.{Opens}
use Rattle.nv_core.specs.crash.CrashImages.{OpensRegion}
use Rattle.nv_core.specs.log.LogContent.{OpensLog}
use Rattle.nv_core.specs.content.StorePages.{store_of_value}
use Rattle.nv_core.specs.log.Written.{IsPart}
use Rattle.nv_core.specs.state.Values.{Bare, Value, faults_of}
use Rattle.nv_table.specs.state.Opened.{Opened, mount_of}
use Rattle.nv_table.specs.state.States.{PassState}
use Rattle.nv_table.specs.state.Views.{PassView, first_view}
use Rattle.nv_mount.specs.ClosedAtRest.{files_then}
use Rattle.nv_mount.specs.Mounts.{MountState}
use Rattle.nv_mount.specs.RisenCounts.{SawStop, failed_before}
use Rattle.nv_mount.specs.Telling.{AllDevicesTell, IsTelling}
use Rattle.nv_mount.specs.WholeRuns.{history_then}
use Rattle.nv_mount.specs.WholeWrites.{LeavesWholeWrites, faults_then}
use Rattle.nv_mount.specs.declared.fds.Fd.{Fd}
use Rattle.nv_calls.specs.histories.Faults.{OpenWrite, open_in}
use Rattle.nv_trace.specs.Shape.{IsCallWithin, IsWellFormed}
use Rattle.nv_trace.specs.Traced.{Traced, lines_in}
use Rattle.nv_trace.specs.declared.trace.Descriptor.{Descriptor}
use Rattle.nv_trace.specs.declared.trace_call.TracedCall.{TracedCall}
use Rattle.nv_runner.specs.declared.plan.Plan.{Plan}
use Rattle.nv_runner.specs.declared.sorted.Open.{Open}
use Rattle.nv_runner.specs.declared.sorted.SortedCalls.{SortedCalls}
use Rattle.nv_runner.specs.EndedRuns.{HasOutcome, IsClosedBy, batch_of}
use Rattle.nv_runner.specs.Faithful.{Basis, IsFaithful, after_open, descriptors_in, file_call, files_shown, history_of, named, placed_in}
use Rattle.nv_runner.specs.FaithfulRuns.{IsMountOf, RunsAreFaithful, RunsAreNumbered, ShowsCalls, as_fd}
use Rattle.nv_runner.specs.Histories.{AreHistory, CallsOnFiles, ThreadsAreLegal}
use Rattle.nv_runner.specs.KeptCalls.{OpenCallsAreKeptWhole}
use Rattle.nv_runner.specs.OpenRuns.{LeftOpenAreKept, open_of}
use Rattle.nv_runner.specs.OpenWrites.{kept_open}
use Rattle.nv_runner.specs.Reports.{OpenCall, Report}
use Rattle.nv_runner.specs.Sorted.{OpenedCall, opened_call, placed_call, refused_call}
use Rattle.nv_runner.specs.Told.{AreTold, DescriptorsSayFiles, RunsAreTold}
use Rattle.nv_top.specs.Fates.{fated, fated_report}
use Rattle.nv_top.specs.Outcomes.{shown_report}
use Rattle.nv_top.specs.Reports.{report_text}
use Rattle.nv_top.specs.Runs.{BeginsMount}
use Rattle.nv_top.specs.Behind.{HoldsCells}
use Rattle.nv_top.specs.Stopped.{HasStoppedOn, HaveFates, IsRunOfReport, left_write}
use Rattle.nv_top.specs.Stopping.{HasLostPower, IsAway, IsShownRecovered, RestsWith, ShowsRecovered, next_in}
use Rattle.nv_top.specs.Stops.{CountHasCause, StopHasCause}
use Rattle.nv_top.specs.declared.ending.Stop.{Stop}
use Rattle.nv_top.specs.declared.ending.Stop.TheVariants.{Usage, BadLine, InputLong, Read, Write, Device, Region, NoMemory, Turns}
use Rattle.nv_top.proofs.FateLemmas.{after_fates, numbers_low, open_write, open_writes_are}
use Rattle.nv_top.proofs.StoppedLemmas.{left_fates, left_low, left_writes, nothing_flies}
use Rattle.nv_top.proofs.HomeLemmas.{images_again}
use Rattle.nv_top.proofs.PoweredHomes.{others_left, powered_many}
use Rattle.nv_open.proofs.Stands.{names_read as names_said}
use Rattle.nv_top.proofs.NameLemmas.{each_allowed, mount_names, names_plain}
use Rattle.nv_top.proofs.RowLemmas.{present}
use Rattle.nv_store.proofs.RowReads.{length_now, now_at}

-- ---- what a bench may tell

pub if_some : {X : Type 0} (found : Option X) (P : X → Type 0) → ((x : X) → found ≡ Some x → P x) → IfSome found P
if_some None P each = tt
if_some (Some x) P each = each x refl

pub none_unless : {X : Type 0} (found : Option X) → ((x : X) → ¬ (found ≡ Some x)) → found ≡ None
none_unless None never = refl
none_unless (Some x) never = absurd (never x refl)

pub at_some : {X : Type 0} (found : Option X) (P : X → Type 0) (x : X) → found ≡ Some x → IfSome found P → P x
at_some {X} found P x is here =
    let At : Option X → Type 0 = λ found. IfSome found P in
    subst At is here

-- after power went off it holds quiet devices alone
pub quiet_after : (pick : Pick) (was : Option Holding) → PowerLeavesAnImage → ((holding : Holding) → was ≡ Some holding → AreWholeStores holding)
    → IfSome (option_map (powered pick) was) IsQuietHolding
quiet_after pick None law whole = tt
quiet_after pick (Some holding) law whole = (law pick holding (whole holding refl)).1

-- what a bench tells to which a region came back that was opened of it with its stores
told_again : (old lent : BenchState) (holding : Holding) (names : List (List ℕ)) (now : List Part) (disks : List Store) → old.told ≡ Some holding → old.lent ≡ []
    → lent ≡ with_faults lent.faults (all_lent names old)
    → told_back now disks lent ≡ Some (record { parts = now; stores = without_stores names holding.stores ++ named_stores names disks })
told_again old lent holding names now disks told_is home lent_is =
    ap (λ (s : BenchState). told_back now disks s) lent_is
    ∙ ap (λ (told : Option Holding). option_map (λ (h : Holding). record { parts = now; stores = h.stores ++ named_stores (old.lent ++ names) disks })
    (option_map (without_named names) (option_map (λ (h : Holding). record { parts = []; stores = h.stores }) told))) told_is
    ∙ ap (λ (lent : List (List ℕ)). Some (record { parts = now; stores = without_stores names holding.stores ++ named_stores (lent ++ names) disks })) home

-- a recovery's report shows what the bench stood for
pub shows : (old lent : BenchState) (new_told : Option Holding) (holding : Holding) (Shown : recover.Recovered → List (List ℕ) → Files → Type 0) (found : recover.Recovered) (version : Version) (page entries next : ℕ) (names shown : List (List ℕ))
    (parts_row : List lines.PartHistory) (row : List stores.StoreHistory)
    → old.told ≡ Some holding → length parts_row ≡ length holding.parts → old.lent ≡ [] → lent ≡ with_faults lent.faults (all_lent names old) → names ≡ shown
    → ((now : List Store) → AreNow row now → Shown found shown (files_of now))
    → version ≡ version_in (head_image holding.parts) → IsRecovered holding.parts page entries names next found
    → HoldFiles row (files_named holding.parts names holding.stores)
    → All (λ history. 0 < length history) parts_row → RowTells parts_row (IsAtRest (layout_of version) page entries names next)
    → ((now : List Part) → AreNow parts_row now → HasLines (layout_of version) page entries (rooms_of now))
    → ((now : List Part) (disks : List Store) → AreNow parts_row now → AreNow row disks → new_told ≡ told_back now disks lent)
    → IsShownRecovered Shown holding new_told
shows old lent new_told holding Shown found version page entries next names shown parts_row row told_is many home lent_is same text_of own recovered holds tell rest long gives =
    let now = present parts_row tell in
    let header = header_of (head_image holding.parts) in
    let Rests : List (List ℕ) → Type 0 = λ names. RestsWith (version_in (head_image holding.parts)) header.page header.entries names found.next (files_named holding.parts names holding.stores) (length holding.parts) (without_stores names holding.stores) new_told in
    let files = files_named holding.parts names holding.stores in
    let others = without_stores names holding.stores in
    let Sized : Version → ℕ → ℕ → ℕ → Type 0 = λ version page entries next. RestsWith version page entries names next files (length holding.parts) others new_told in
    record {
      found = found;
      log = recovered.log;
      shown = subst (λ names. Shown found names (files_named holding.parts names holding.stores)) recovered.names_are
          (subst (λ files. Shown found names files) holds.files_are
          (subst (λ names. Shown found names (files_of holds.held)) (sym same) (text_of holds.held holds.are)));
      left = subst Rests recovered.names_are
          (subst (λ version. Sized version header.page header.entries found.next) own (subst (λ page. Sized version page header.entries found.next) recovered.page_is (subst (λ entries. Sized version page entries found.next) recovered.entries_is (subst (λ next. Sized version page entries next) recovered.next_is (record {
            now = record { parts = now.states; stores = others ++ named_stores names holds.held };
            told_is = gives now.states holds.held now.are holds.are ∙ told_again old lent holding names now.states holds.held told_is home lent_is;
            rests = record {
              rest = row_tells_at parts_row (IsAtRest (layout_of version) page entries names next) now.states now.are rest;
              held = holds.held;
              stores_are = refl;
              files_are = holds.files_are;
              durable = holds.quiet;
            };
            long = long now.states now.are;
            many_are = length_now parts_row now.states now.are ∙ many;
          })))));
    }

-- ---- lists

pub all_right : {X : Type 0} (P : X → Type 0) (xs ys : List X) → All P (xs ++ ys) → All P ys
all_right P [] ys all = all
all_right P (x ∷ xs) ys all = all_right P xs ys (All-tail P x (xs ++ ys) all)

pub within_open : (count : ℕ) (open_calls : List Open) → All (λ (call : TracedCall). IsCallWithin count call.call) (map (λ (o : OpenedCall). o.call) (map opened_call open_calls))
    → All (λ (o : Open). IsCallWithin count o.call.now.call) open_calls
within_open count [] all = All-nil (λ (o : Open). IsCallWithin count o.call.now.call)
within_open count (one ∷ later) all =
    let Within : TracedCall → Type 0 = λ call. IsCallWithin count call.call in
    let rest = map (λ (o : OpenedCall). o.call) (map opened_call later) in
    All-cons (λ (o : Open). IsCallWithin count o.call.now.call) one later (All-head Within one.call.now rest all) (within_open count later (All-tail Within one.call.now rest all))

pub same_files : (descriptors : List Descriptor) → map (λ (fd : Fd). fd.file) (map as_fd descriptors) ≡ map (λ (d : Descriptor). d.file) descriptors
same_files [] = refl
same_files (one ∷ later) = ap (λ files. one.file ∷ files) (same_files later)

calls_again : (first : ℕ) (groups : List ℕ) (open_calls : List Open) → map (λ (o : OpenCall). o.call) (map (fated first groups) open_calls) ≡ map (λ (o : OpenedCall). o.call) (map opened_call open_calls)
calls_again first groups [] = refl
calls_again first groups (one ∷ later) = ap (λ calls. one.call.now ∷ calls) (calls_again first groups later)

-- the names that a mount's header says of parts are those that their words say
pub names_read : (parts : List Part) → IsHead mount_layout mount_layout.header_lines (row_words parts) → header_names parts ≡ first_names mount_layout (row_words parts) (header_of (row_words parts)).files
names_read parts readable = names_said parts ∙ mount_names (row_words parts) readable

-- ---- what a mount tells that was closed

-- a mount that was opened from a basis was closed by a pass that was new at the start
pub record HasClosedOver (basis : Basis) (trace : Traced) (mount : MountState) (pass zero : PassState) (part_values store_values : List Value)
    (parts : List lines.PartHistory) (held : List stores.StoreHistory) (faults placed tail : ℕ) : Type 0 where
  pub begins : BeginsMount basis trace mount pass
  pub new : pass.view ≡ first_view mount.board.opened
  pub opened : zero.view.opened ≡ pass.view.opened
  pub spare : zero.spare ≡ pass.spare
  pub closed : IsClosedBy zero part_values store_values parts held faults placed tail

module _ (basis : Basis) (trace : Traced) (mount : MountState) (pass zero : PassState) (part_values store_values : List Value)
    (parts : List lines.PartHistory) (held : List stores.StoreHistory) (faults placed tail : ℕ)
    (over : HasClosedOver basis trace mount pass zero part_values store_values parts held faults placed tail) where
  pub still_opened : zero.view.opened ≡ mount.board.opened
  still_opened = over.opened ∙ ap (λ (v : PassView). v.opened) over.new

  pub log_opens : OpensLog (mount_of zero.view.opened) zero.view.opened.next
  log_opens = subst (λ (o : Opened). OpensLog (mount_of o) o.next) (sym still_opened) over.begins.is_mount.log

  pub files_open : Opens (mount_of zero.view.opened) basis.files
  files_open = subst (λ (o : Opened). Opens (mount_of o) basis.files) (sym still_opened) over.begins.is_mount.files

  pub region_opens : OpensRegion (mount_of zero.view.opened) basis.names
  region_opens = subst (λ (o : Opened). OpensRegion (mount_of o) basis.names) (sym still_opened) over.begins.region

  pub devices_tell : AllDevicesTell parts × AllDevicesTell held
  devices_tell = over.closed.telling basis.files log_opens files_open (subst (λ values. All IsTelling values) (sym over.spare) over.begins.spare)

  -- whatever power leaves of them
  pub power_leaves : (states : List Part) (disks : List Store) → AreNow parts states → AreNow held disks → (image : Image) (bytes : Files) → IsRowImage states image → AreStoreImages disks bytes
      → LeavesWholeWrites zero.view basis.files basis.names image bytes
  power_leaves states disks are stand image bytes is images =
      row_tells_at held (λ disks. (bytes : Files) → AreStoreImages disks bytes → LeavesWholeWrites zero.view basis.files basis.names image bytes) disks stand
      (row_tells_at parts (InEachRowImage (λ image. RowTells held (λ disks. (bytes : Files) → AreStoreImages disks bytes → LeavesWholeWrites zero.view basis.files basis.names image bytes)))
      states are (over.closed.crash basis.files basis.names log_opens files_open region_opens) image is) bytes images

  -- what a recovery makes of it
  abbrev pub lost_power : ReadableStandsForRecovered → (pick : Pick) (before : List Pick) (bench : BenchState) (power : Holding) (next : ℕ) → left_last bench ≡ Some power → bench.picked ≡ pick ∷ before
      → (many : ℕ) → length power.parts ≡ many → (others : List NamedStore) → without_stores basis.names power.stores ≡ others
      → LeavesWholeWrites zero.view basis.files basis.names (row_words power.parts) (files_of (stores_named basis.names power.stores)) → next ≡ next_in power.parts basis.files
      → RestsWith (version_in (head_image power.parts)) (header_of (head_image power.parts)).page (header_of (head_image power.parts)).entries (header_names power.parts) next (files_named power.parts (header_names power.parts) power.stores)
      (length power.parts) (without_stores (header_names power.parts) power.stores) bench.told
      → HasLostPower pick before basis many others bench
  lost_power stand_so pick before bench power next power_left picked many many_so others others_so left next_so rests =
      let header = header_of (head_image power.parts) in
      let page = basis.sizes.page in
      let entries = basis.sizes.entries in
      let files : List (List ℕ) → Files = λ names. files_named power.parts names power.stores in
      let named = files basis.names in
      let ends = next_in power.parts basis.files in
      let page_so : header.page ≡ page = left.header.page_is ∙ ap (λ (o : Opened). o.sizes.page) still_opened ∙ sym over.begins.is_mount.page in
      let entries_so : header.entries ≡ entries = left.header.entries_is ∙ ap (λ (o : Opened). o.sizes.entries) still_opened ∙ sym over.begins.is_mount.entries in
      let rested =
      subst (λ version. RestsWith version header.page header.entries (header_names power.parts) next (files (header_names power.parts)) (length power.parts) (without_stores (header_names power.parts) power.stores) bench.told)
      (version_is mount_version (row_words power.parts) left.header.readable.fields.version_is) rests in
      let Rests : (page entries : ℕ) → List (List ℕ) → (next : ℕ) → (many : ℕ) → List NamedStore → Type 0 = λ page entries names next many others. RestsWith mount_version page entries names next (files names) many others bench.told in
      record {
        picked = picked;
        power = power;
        power_left = power_left;
        stands = stand_so mount_layout mount_layout.header_lines (row_words power.parts) (files_of (stores_named basis.names power.stores)) left.header.readable;
        rests = subst (λ others. Rests page entries basis.names ends many others) others_so
            (subst (λ many. Rests page entries basis.names ends many (without_stores basis.names power.stores)) many_so
            (subst (λ page. Rests page entries basis.names ends (length power.parts) (without_stores basis.names power.stores)) page_so
            (subst (λ entries. Rests header.page entries basis.names ends (length power.parts) (without_stores basis.names power.stores)) entries_so
            (subst (λ next. Rests header.page header.entries basis.names next (length power.parts) (without_stores basis.names power.stores)) next_so
            (subst (λ names. Rests header.page header.entries names next (length power.parts) (without_stores names power.stores)) (names_read power.parts left.header.readable ∙ left.header.names_are) rested)))));
      }

-- ---- what a run tells whose mount was closed

-- a run of a trace over a mount that was opened from its basis was brought to its end, and the mount closed
pub record HasRunToClose (basis : Basis) (trace : Traced) (mount : MountState) (pass zero : PassState) (plan : Plan) (sorted : SortedCalls) (part_values store_values : List Value)
    (parts : List lines.PartHistory) (held : List stores.StoreHistory) (faults placed tail : ℕ) : Type 0 where
  pub begins : BeginsMount basis trace mount pass
  pub new : pass.view ≡ first_view mount.board.opened
  pub well_formed : IsWellFormed trace
  pub few : length trace.calls < 2 ^ 60
  pub rise : IsStrictlyIncreasing (lines_in trace)
  pub out : HasOutcome mount.fds plan trace.calls pass (Ok sorted) zero
  pub closed : IsClosedBy zero part_values store_values parts held faults placed tail

module _ (basis : Basis) (trace : Traced) (mount : MountState) (pass zero : PassState) (plan : Plan) (sorted : SortedCalls) (part_values store_values : List Value)
    (parts : List lines.PartHistory) (held : List stores.StoreHistory) (faults placed tail : ℕ)
    (run : HasRunToClose basis trace mount pass zero plan sorted part_values store_values parts held faults placed tail) where
  abbrev descriptors : List Descriptor
  descriptors = descriptors_in basis.names trace

  abbrev items : List Open
  items = sorted.open_calls.items

  pub closed_over : HasClosedOver basis trace mount pass zero part_values store_values parts held faults placed tail
  closed_over = record { begins = run.begins; new = run.new; opened = run.out.run_out.mount; spare = run.out.run_out.spare; closed = run.closed }

  same_opened : zero.view.opened ≡ mount.board.opened
  same_opened = still_opened basis trace mount pass zero part_values store_values parts held faults placed tail closed_over

  opens_log : OpensLog (mount_of zero.view.opened) zero.view.opened.next
  opens_log = log_opens basis trace mount pass zero part_values store_values parts held faults placed tail closed_over

  opens_files : Opens (mount_of zero.view.opened) basis.files
  opens_files = files_open basis trace mount pass zero part_values store_values parts held faults placed tail closed_over

  begins_so : pass.view ≡ first_view pass.view.opened
  begins_so = run.new ∙ ap first_view (sym (ap (λ (v : PassView). v.opened) run.new))

  module _ (told_so : RunsAreTold) (threads_so : ThreadsAreLegal) (files_so : DescriptorsSayFiles) (kept_so : LeftOpenAreKept) where
    on_files : CallsOnFiles mount.fds (file_call descriptors)
    on_files = files_so mount.fds descriptors (ap (map (λ (fd : Fd). fd.file)) run.begins.is_mount.fds_are ∙ same_files descriptors)

    told : AreTold mount.fds trace.calls sorted (history_then zero.view)
    told = told_so mount.fds plan trace.calls pass zero sorted part_values store_values parts held faults placed tail begins_so run.out run.closed run.rise run.well_formed.round_order

    within : All (λ (o : Open). IsCallWithin (length descriptors) o.call.now.call) items
    within =
        let Within : TracedCall → Type 0 = λ call. IsCallWithin (length trace.descriptors) call.call in
        let long : length descriptors ≡ length trace.descriptors = length-map trace.descriptors (placed_in basis.names trace) in
        let ones = map (λ p. p.call) (map placed_call sorted.placed.items) in
        let others = map (λ r. r.call) (map refused_call sorted.refused.items) in
        let left = map (λ (o : OpenedCall). o.call) (map opened_call items) in
        subst (λ count. All (λ (o : Open). IsCallWithin count o.call.now.call) items) (sym long)
        (within_open (length trace.descriptors) items
        (all_right Within (ones ++ others) left (All-permutation Within trace.calls ((ones ++ others) ++ left) told.listed run.well_formed.calls)))

    writes : flat_map (open_of mount.fds) (map opened_call items) ≡ map (open_write descriptors) items
    writes = open_writes_are descriptors mount.fds run.begins.is_mount.fds_are on_files items within

    moved : IsPermutation (flat_map (open_of mount.fds) (map opened_call items)) (open_in (faults_then zero.view))
    moved = run.out.left_open (map opened_call items) run.out.sorted.0.left_open

    -- the files after the history
    history_files : after (history_of descriptors (map placed_call sorted.placed.items)) basis.files ≡ files_then zero.view basis.files
    history_files =
        (threads_so mount.fds (file_call descriptors) (map placed_call sorted.placed.items) (history_then zero.view) basis.files on_files told.placed
        (run.closed.history.legal basis.files zero.view.opened.next opens_log opens_files)).2

    module _ (image : Image) (bytes : Files) (left : LeavesWholeWrites zero.view basis.files basis.names image bytes) (found : recover.Recovered) (all : HasFoundAll image found) where
      -- and then those that are kept of the calls that were left open
      recovered_files : (recovered image bytes).files ≡ after_open descriptors (map (fated found.first found.groups) items) (files_then zero.view basis.files)
      recovered_files =
          let first = (recovered image bytes).first in
          let groups = (recovered image bytes).groups in
          let files = files_then zero.view basis.files in
          kept_so mount.fds (map opened_call items) (faults_then zero.view) files image bytes moved (left.faults run.out.run_out.idle.owned run.out.run_out.idle.taken)
          ∙ ap (λ writes. after_calls (kept_open first groups writes) files) writes
          ∙ after_fates descriptors first groups items files
          ∙ ap (λ first. after_open descriptors (map (fated first groups) items) files) (sym (all.first bytes))
          ∙ ap (λ groups. after_open descriptors (map (fated found.first groups) items) files) (sym (all.groups bytes))

      low : All (λ (o : Open). found.first ≤ o.number) items
      low =
          let Low : ℕ → Type 0 = λ first. All (λ (o : Open). first ≤ o.number) items in
          subst Low (sym (all.first bytes))
          (numbers_low descriptors (recovered image bytes).first (faults_then zero.view) items left.low (subst (λ l. IsPermutation l (open_in (faults_then zero.view))) writes moved))

    -- ---- the report

    module _ (faithful_so : RunsAreFaithful) (numbered_so : RunsAreNumbered) (stand_so : ReadableStandsForRecovered) (failed : Type 0) (saw : SawStop zero.view → failed) (allowed : AreFileNames mount_layout basis.names)
        (bench : BenchState) (text : List ℕ) (after_power : Holding) (shows_so : ShowsRecovered after_power sorted [] bench.told text) (power_left : left_last bench ≡ Some after_power) (before : List Pick)
        (picked : bench.picked ≡ plan.image ∷ before) (many : ℕ) (many_so : length after_power.parts ≡ many) (others : List NamedStore) (others_so : without_stores basis.names after_power.stores ≡ others)
        (left : LeavesWholeWrites zero.view basis.files basis.names (row_words after_power.parts) (files_of (stores_named basis.names after_power.stores)))
        (whole_so : OpenCallsAreKeptWhole) (home : Holding) (cells : HoldsCells zero.view basis.names home) (power_is : after_power ≡ powered plan.image home) where
      abbrev found : recover.Recovered
      found = shows_so.found

      abbrev image : Image
      image = row_words after_power.parts

      abbrev shown_files : Files
      shown_files = files_named after_power.parts (header_names after_power.parts) after_power.stores

      abbrev report : Report
      report = fated_report sorted found basis.names shown_files

      names_so : header_names after_power.parts ≡ basis.names
      names_so = names_read after_power.parts left.header.readable ∙ left.header.names_are

      files_are : shown_files ≡ files_shown basis trace report
      files_are =
          ap (λ names. files_named after_power.parts names after_power.stores) names_so
          ∙ stand_so mount_layout mount_layout.header_lines image (files_of (stores_named basis.names after_power.stores)) left.header.readable
          ∙ recovered_files image (files_of (stores_named basis.names after_power.stores)) left found shows_so.log
          ∙ ap (after_open descriptors (map (fated found.first found.groups) items)) (sym history_files)

      is_mount : IsMountOf basis trace pass.view.opened mount.fds
      is_mount = subst (λ (o : Opened). IsMountOf basis trace o mount.fds) (sym (ap (λ (v : PassView). v.opened) run.new)) run.begins.is_mount

      shows_calls : ShowsCalls basis trace sorted report
      shows_calls = record { history = refl; refused = refl; open_calls = calls_again found.first found.groups items; files = ap (named basis.names) files_are }

      is_faithful : IsFaithful (SawStop zero.view) plan.worker basis trace report
      is_faithful =
          faithful_so basis trace mount.fds plan pass zero sorted part_values store_values parts held faults placed tail report run.well_formed run.few run.rise is_mount begins_so run.out run.closed shows_calls

      abbrev bytes : Files
      bytes = files_of (stores_named basis.names after_power.stores)

      fates : HaveFates basis trace after_power.parts report (map opened_call items)
      fates =
          let numbered = numbered_so basis trace mount.fds plan pass zero sorted report is_mount run.out shows_calls in
          record {
            drew = numbered.0;
            own = numbered.1;
            fates = left_fates after_power.parts basis.files found items shows_so.log;
            low = left_low after_power.parts basis.files found items shows_so.log (low image bytes left found shows_so.log);
            whole = whole_so basis trace mount.fds plan pass zero sorted basis.files basis.names image bytes is_mount run.out left;
          }

      -- the run
      of_report : IsRunOfReport basis trace report (map opened_call items) zero.view
      of_report =
          let Faults : List OpenWrite → Type 0 = λ writes. IsPermutation writes (open_in (faults_then zero.view)) in
          let flown = nothing_flies mount.fds (batch_of plan) run.out.made zero run.out.run_out.run run.out.run_out.idle in
          record {
            opened = subst (λ fds. IsMountOf basis trace zero.view.opened fds) run.begins.is_mount.fds_are (subst (λ (o : Opened). IsMountOf basis trace o mount.fds) (sym same_opened) run.begins.is_mount);
            passes = record { is_run = run.closed.whole.is_run; joined = run.closed.whole.joined; others = run.closed.whole.others };
            history = subst (λ fds. AreHistory fds (map placed_call sorted.placed.items) (history_then zero.view)) run.begins.is_mount.fds_are told.placed;
            flights = subst (λ faults. IsPermutation (map (left_write descriptors) (map opened_call items)) (open_in faults)) (sym flown)
                (subst Faults (writes ∙ left_writes descriptors items) moved);
          }

      pub has_stopped : (stopped : HasStoppedOn failed plan.worker plan.image before basis trace many others bench text) × (stopped.report.history ≡ map placed_call sorted.placed.items)
      has_stopped = (
        record {
          report = report;
          last = zero.view;
          faithful = is_faithful;
          stopped = saw;
          plain = names_plain mount_layout.name_limit basis.names shown_files.contents (each_allowed mount_layout basis.names allowed);
          text_is =
              shows_so.shown.text_is
              ∙ ap (λ open_calls. report_text (shown_report sorted open_calls (header_names after_power.parts) shown_files)) (shows_so.shown.are_open.none refl)
              ∙ ap (λ names. report_text (fated_report sorted found names shown_files)) names_so;
          open_calls = map opened_call items;
          ran = of_report;
          left = record {
            lost = lost_power basis trace mount pass zero part_values store_values parts held faults placed tail closed_over stand_so plan.image before bench after_power found.next power_left picked many many_so others others_so left
                (shows_so.log.next basis.files) shows_so.left;
            home = home;
            cells = cells;
            power_is = power_is;
            whole = left;
          };
          shows = ap (λ names. files_named after_power.parts names after_power.stores) (sym names_so) ∙ files_are;
          fated = fates;
        },
        refl,
      )

-- ---- the bench

-- what a bench holds to which parts and stores came back
abbrev pub home_with : Holding → List (List ℕ) → List Part → List Store → Holding
home_with left names parts stores = record { parts = parts; stores = left.stores ++ named_stores names stores }

pub given_home : (k : ℕ) (start armed : BenchState) (home : Option Holding) (left : Holding) (parts : List lines.PartHistory) (held : List stores.StoreHistory)
    → ((now : List Part) (disks : List Store) → AreNow parts now → AreNow held disks → home ≡ told_back now disks armed)
    → armed ≡ armed_with k start → start.told ≡ Some left
    → (now : List Part) (disks : List Store) → AreNow parts now → AreNow held disks → home ≡ Some (home_with left start.lent now disks)
given_home k start armed home left parts held gives armed_is told_is now disks now_are disks_are =
    gives now disks now_are disks_are
    ∙ ap (λ (s : BenchState). told_back now disks s) armed_is
    ∙ ap (λ (told : Option Holding). option_map (λ (holding : Holding). home_with holding start.lent now disks) told) told_is

-- what power leaves of a run whose devices all came back, beside this that was left at home
pub record IsLeftBehind (basis : Basis) (zero : PassState) (parts : List lines.PartHistory) (pick : Pick) (left : Holding) (given off : Option Holding) : Type 0 where
  pub before : Holding
  pub parts_are : AreNow parts before.parts
  pub given_is : given ≡ Some before
  pub after : Holding
  pub after_is : after ≡ powered pick before
  pub off_is : off ≡ Some after
  pub whole : LeavesWholeWrites zero.view basis.files basis.names (row_words after.parts) (files_of (stores_named basis.names after.stores))
  pub cells : HoldsCells zero.view basis.names before
  pub many_are : length after.parts ≡ length parts
  pub others_are : without_stores basis.names after.stores ≡ left.stores

module _ (basis : Basis) (trace : Traced) (mount : MountState) (pass zero : PassState) (part_values store_values : List Value)
    (parts : List lines.PartHistory) (held : List stores.StoreHistory) (faults placed tail : ℕ)
    (over : HasClosedOver basis trace mount pass zero part_values store_values parts held faults placed tail)
    (power_so : PowerLeavesAnImage) (many_parts : 1 + mount.board.opened.sizes.entries ≤ length parts) (many : length held ≡ mount.board.opened.sizes.files)
    (part_shown : (slot : ℕ) (now : Part) → slot < length parts → IsNow (get_or parts slot []) now → IsPart (get_or part_values slot Bare) now)
    (store_shown : (file : ℕ) (now : Store) → file < length held → IsNow (get_or held file []) now → store_of_value (get_or store_values file Bare) ≡ Some now)
    (named_so : AreFileNames mount_layout basis.names) (pick : Pick) (left : Holding) (still : All (λ (named : NamedStore). IsQuietStore named.store) left.stores) (given off : Option Holding)
    (gives : (now : List Part) (disks : List Store) → AreNow parts now → AreNow held disks → given ≡ Some (home_with left basis.names now disks))
    (powers : off ≡ option_map (powered pick) given) (whole : (holding : Holding) → given ≡ Some holding → AreWholeStores holding) (away : IsAway basis.names left) where
  -- the cells kept what came back
  holds_cells : (states : List Part) (disks : List Store) → AreNow parts states → AreNow held disks → stores_named basis.names (left.stores ++ named_stores basis.names disks) ≡ disks
      → HoldsCells zero.view basis.names (home_with left basis.names states disks)
  holds_cells states disks are stand found =
      let opened = still_opened basis trace mount pass zero part_values store_values parts held faults placed tail over in
      let entries = ap (λ (o : Opened). o.sizes.entries) opened in
      let files = ap (λ (o : Opened). o.sizes.files) opened in
      let whole = over.closed.whole in
      record {
        parts = λ slot least. subst (λ value. IsPart value (get_or states slot [])) (whole.parts_show slot least)
            (part_shown slot (get_or states slot []) (omega (arith, least, entries, many_parts)) (now_at parts states slot [] are (omega (arith, least, entries, many_parts))));
        stores = λ file none least.
            ap store_of_value (sym (whole.stores_show file least)) ∙ store_shown file (get_or disks file none) (omega (arith, least, files, many)) (now_at held disks file none stand (omega (arith, least, files, many)))
            ∙ ap (λ (these : List Store). Some (get_or these file none)) (sym found);
      }

  pub left_behind : IsLeftBehind basis zero parts pick left given off
  left_behind =
      let tell = devices_tell basis trace mount pass zero part_values store_values parts held faults placed tail over in
      let states = present parts tell.0 in
      let disks = present held tell.1 in
      let before = home_with left basis.names states.states disks.states in
      let after = powered pick before in
      let given_is : given ≡ Some before = gives states.states disks.states states.are disks.are in
      let all_whole = whole before given_is in
      let image = (power_so pick before all_whole).0 in
      let long : length basis.names ≡ length disks.states = over.begins.is_mount.names ∙ sym many ∙ sym (length_now held disks.states disks.are) in
      let found : stores_named basis.names before.stores ≡ disks.states =
      all_behind basis.names left.stores (named_stores basis.names disks.states) away ∙ own_stores basis.names disks.states long named_so.distinct in
      let draws = draws_of pick in
      record {
        before = before;
        parts_are = states.are;
        given_is = given_is;
        after = after;
        after_is = refl;
        off_is = powers ∙ ap (option_map (powered pick)) given_is;
        whole = power_leaves basis trace mount pass zero part_values store_values parts held faults placed tail over states.states disks.states states.are disks.are
            (row_words after.parts) (files_of (stores_named basis.names after.stores)) image.parts
            (images_again basis.names left.stores disks.states before after refl long named_so.distinct away image);
        cells = holds_cells states.states disks.states states.are disks.are found;
        many_are = powered_many draws states.states ∙ length_now parts states.states states.are;
        others_are = others_left (powered_parts draws states.states).1 basis.names left.stores disks.states long away all_whole still;
      }

-- ---- counts

pub stop_grows : (before now : ℕ) (stop : Stop) → StopHasCause before now stop → before ≤ now
stop_grows before now Usage cause = absurd cause
stop_grows before now (BadLine bad) cause = absurd cause
stop_grows before now InputLong cause = absurd cause
stop_grows before now Read cause = absurd cause
stop_grows before now Write cause = absurd cause
stop_grows before now Device cause = cause.never_falls
stop_grows before now (Region refusal) cause = omega (arith, cause)
stop_grows before now NoMemory cause = omega (arith, cause)
stop_grows before now Turns cause = absurd cause

pub count_grows : {T : Type 0} (before now : ℕ) (result : Result T Stop) → CountHasCause before now result → before ≤ now
count_grows before now (Ok value) cause = omega (arith, cause)
count_grows before now (Err stop) cause = stop_grows before now stop cause

-- the counts are those of the mount when it was opened
pub failed_same : (start zero : PassState) → zero.view.opened ≡ start.view.opened → zero.spare ≡ start.spare → failed_before zero ≡ failed_before start
failed_same start zero opened spare =
    ap (λ (o : Opened). sum_by faults_of o.slots + sum_by faults_of zero.spare) opened ∙ ap (λ these. sum_by faults_of start.view.opened.slots + sum_by faults_of these) spare

-- what rose while it was lent, rose at home
pub rose_home : (home before lent now : ℕ) → saturated (home + lent) ≤ now → Rose before lent → Rose (saturated (home + before)) now
rose_home home before lent now no_less rose = record {
  never_falls = omega (arith, no_less, rose.never_falls);
  more = omega (arith, no_less, rose.never_falls, rose.more);
}

-- A run of the rounds of an input that is to be stopped: what its bench tells behind it, and what is told of it.
use Rattle.std.proofs.Common.{◌≡◌, ◌≢◌, ◌∷◌, ◌++◌, ◌+◌, ◌≤◌, ℕ, Bool, List, [], length, map, refl, sym, ap, subst, ◌∙◌, arith, Option, Some, None, Result, Ok, Err, sum_by}
use Rattle.std.specs.Prelude.{IfOk, IfSome, IsErr, IsErrAnd, is_none, false, option_map, true}
use Rattle.std.specs.Global.{Vec}
use Rattle.std.proofs.lemmas.List.{length-map}
use Rattle.std.proofs.lemmas.Result.{IfOk-weaker}
use Rattle.nv_plain.specs.Faults.{Rose, saturated}
use Rattle.nv_plain.specs.Layouts.{mount_layout}
use Rattle.nv_pmem.specs.Laws.{QuietPartHasOneImage}
use Rattle.nv_pmem.specs.Part.{Part}
use Rattle.nv_pmem.specs.Room.{Room}
use Rattle.nv_pmem.specs.RowStates.{AreNow}
use Rattle.nv_pmem.specs.Steps as lines
use Rattle.nv_pmem.specs.declared.picker.Pick.{Pick}
use Rattle.nv_store.specs.Steps as stores
use Rattle.nv_store.specs.Store.{Store}
use Rattle.nv_store.proofs.RowReads.{length_now}
use Rattle.nv_bench.specs.Benches.{BenchState, armed_with, powered_off, taken_back, told_back, left_last}
use Rattle.nv_bench.specs.Holding.{Holding, IsQuietHolding, named_stores}
use Rattle.nv_bench.specs.Laws.{AreWholeStores, PowerLeavesAnImage}
use Rattle.nv_bench.specs.Powered.{powered}
use Rattle.nv_header.specs.FileNames.{AreFileNames}
use Rattle.nv_header.specs.Unread.{HeadIsNotUnread}
use Rattle.nv_open.specs.Refusals.{IsRefusedFor}
use Rattle.nv_open.specs.Unopened.{HasHeader, StandsAsBefore, TellsOf}
use Rattle.nv_open.specs.declared.error.Refusal.{Refusal}
use Rattle.nv_open.proofs.Homes.{all_behind, own_stores}
use Rattle.nv_recover.specs.Groups.{FittingHasNoBad}
use Rattle.nv_recover.specs.Standing.{ReadableStandsForRecovered}
use Rattle.nv_core.specs.crash.CrashImages.{OpensRegion}
use Rattle.nv_core.specs.state.Values.{Value}
use Rattle.nv_table.specs.ends.Closing.{IsClosed}
use Rattle.nv_table.specs.state.Opened.{Opened, mount_of}
use Rattle.nv_table.specs.state.SlotValues.{part_value, slot_value, store_value}
use Rattle.nv_table.specs.state.States.{PassState}
use Rattle.nv_table.specs.state.Views.{PassView, first_view}
use Rattle.nv_mount.specs.Mounts.{MountState}
use Rattle.nv_mount.specs.RisenCounts.{SawStop, failed_before}
use Rattle.nv_mount.specs.Telling.{mounted_lines}
use Rattle.nv_trace.specs.Traced.{Traced}
use Rattle.nv_runner.specs.EndedRuns.{HasOutcome, IsClosedBy}
use Rattle.nv_runner.specs.Faithful.{Basis}
use Rattle.nv_runner.specs.FaithfulRuns.{IsMountOf, RunsAreFaithful, RunsAreNumbered}
use Rattle.nv_runner.specs.Histories.{PlacedCall, ThreadsAreLegal}
use Rattle.nv_runner.specs.KeptCalls.{OpenCallsAreKeptWhole}
use Rattle.nv_runner.specs.KeptRounds.{AreFirstPlaced, AreKeptOf, AreRoundsOver, IsKeptOf}
use Rattle.nv_runner.specs.OpenRuns.{LeftOpenAreKept}
use Rattle.nv_runner.specs.Reports.{history_lines}
use Rattle.nv_runner.specs.ShownLives.{RunsLeaveShownLives}
use Rattle.nv_runner.specs.ToldRounds.{TellsRounds}
use Rattle.nv_runner.specs.Sorted.{placed_call}
use Rattle.nv_runner.specs.Told.{DescriptorsSayFiles, RunsAreTold}
use Rattle.nv_runner.specs.declared.kept.KeptCalls.{KeptCalls}
use Rattle.nv_runner.specs.declared.plan.Plan.{Plan}
use Rattle.nv_runner.specs.declared.run_error.RunError.{RunError}
use Rattle.nv_runner.specs.declared.run_error.RunError.TheVariants as run_errors
use Rattle.nv_runner.specs.declared.sorted.SortedCalls.{SortedCalls}
use Rattle.nv_runner.specs.declared.stream.StreamError.{StreamError}
use Rattle.nv_runner.specs.declared.stream.StreamError.TheVariants as ends
use Rattle.nv_top.specs.Commands.{IsGivenBack}
use Rattle.nv_top.specs.Lives.{HasLived}
use Rattle.nv_top.specs.Ran.{HasStreamedOn, answer_of}
use Rattle.nv_top.specs.Ready.{IsRunnable}
use Rattle.nv_top.specs.RunInputs.{HasStoppedInput}
use Rattle.nv_top.specs.Runs.{BeginsMount}
use Rattle.nv_top.specs.Stopped.{HasStoppedBehind}
use Rattle.nv_top.specs.Stopping.{IsAway, ShowsRecovered}
use Rattle.nv_top.specs.Stops.{stop_of_run}
use Rattle.nv_top.specs.declared.ending.Stop.{Stop}
use Rattle.nv_top.specs.declared.ending.Stop.TheVariants.{NoMemory, Region}
use Rattle.nv_top.specs.declared.input.Input.{Input}
use Rattle.nv_top.specs.declared.show.Show.TheVariants.{Report}
use Rattle.nv_top.proofs.LifeLemmas.{lines_home, lived_home, lived_powered, lived_recovered}
use Rattle.nv_top.proofs.PoweredHomes.{part_shown, parts_counted, store_shown}
use Rattle.nv_top.proofs.RanLemmas.{told_failed}
use Rattle.nv_top.proofs.StoppingLemmas.{HasClosedOver, HasRunToClose, at_some, closed_over, devices_tell, failed_same, given_home, has_stopped, home_with, if_some, left_behind, none_unless, rose_home}
use Rattle.nv_top.proofs.UnrefusedLemmas.{never_refused}

-- ---- what is kept of its calls

-- it is of the calls that were sorted out
pub kept_calls : (calls : Result KeptCalls RunError) (outcome : Result SortedCalls RunError) (kept : KeptCalls) → calls ≡ Ok kept → IsKeptOf calls outcome → (sorted : SortedCalls) × (outcome ≡ Ok sorted) × AreKeptOf kept sorted
kept_calls calls outcome kept is of = by outcome (subst (λ (calls : Result KeptCalls RunError). IsKeptOf calls outcome) is of)
  where
    by : (outcome : Result SortedCalls RunError) → IsKeptOf (Ok kept) outcome → (sorted : SortedCalls) × (outcome ≡ Ok sorted) × AreKeptOf kept sorted
    by (Ok sorted) of = (sorted, refl, of)
    by (Err error) of = absurd of

-- one that is to be stopped is given up for want of memory alone
pub memory_alone : {fds : _} {calls : _} (plan : Plan) (start zero : PassState) (kept : Result KeptCalls RunError) (outcome : Result SortedCalls RunError) (k : ℕ) (error : RunError) → plan.stop ≡ Some k → HasOutcome fds plan calls start outcome zero
    → IsKeptOf kept outcome → kept ≡ Err error → stop_of_run error ≡ NoMemory
memory_alone {fds} {calls} plan start zero kept outcome k error stop ran of is = by error (told outcome (subst (λ (kept : Result KeptCalls RunError). IsKeptOf kept outcome) is of))
  where
    told : (outcome : Result SortedCalls RunError) → IsKeptOf (Err error) outcome → outcome ≡ Err error
    told (Ok sorted) of = absurd of
    told (Err other) of = ap Err of

    by : (error : RunError) → outcome ≡ Err error → stop_of_run error ≡ NoMemory
    by run_errors.NoMemory came = refl
    by run_errors.Fault came = let never : is_none plan.stop ≡ true = (ran.fault came).0 in cc

-- where its calls are told memory was not wanting
pub never_wanting : (calls : Result KeptCalls RunError) (kept : KeptCalls) (told : Result (Vec ℕ) Stop) → calls ≡ Ok kept → IsErr calls → IsErr told
never_wanting calls kept told is wanting = absurd (not_both (subst (λ (calls : Result KeptCalls RunError). IsErr calls) is wanting))
  where
    not_both : false ≡ true → ⊥
    not_both is = cc

-- what was shown of a run that was brought to its end is all that has a place
pub all_placed : (outcome : Result SortedCalls RunError) (sorted : SortedCalls) (shown : List PlacedCall) → outcome ≡ Ok sorted → IfOk outcome (λ sorted. shown ≡ map placed_call sorted.placed.items) → shown ≡ map placed_call sorted.placed.items
all_placed outcome sorted shown is all = subst (λ (outcome : Result SortedCalls RunError). IfOk outcome (λ sorted. shown ≡ map placed_call sorted.placed.items)) is all

-- ---- what its bench tells

-- whatever it came to, all that was lent came back to a bench that had been armed
pub stopped_home : {X Y : Type 0} (history : X → lines.PartHistory) (held : Y → stores.StoreHistory) (mount : MountState) (pass zero : PassState) (plan : Plan) (all : Traced) (outcome : Result SortedCalls RunError) (shown : List PlacedCall)
    (part_values store_values : List Value) (parts : List X) (backing : List Y) (faults placed tail k : ℕ) (start armed : BenchState) (home : Option Holding) (last : ℕ) → RunsLeaveShownLives → IsRunnable all → pass.view ≡ first_view mount.board.opened
    → (ran : HasOutcome mount.fds plan all.calls pass outcome zero) (first : AreFirstPlaced ran.made shown) → AreRoundsOver all.calls ran.made first.later → saturated (start.faults + faults) ≤ last → IsClosedBy zero part_values store_values (map history parts) (map held backing) faults placed tail
    → length (map held backing) ≡ mount.board.opened.sizes.files → AreFileNames mount_layout start.lent → armed ≡ armed_with k start
    → ((now : List Part) (disks : List Store) → AreNow (map history parts) now → AreNow (map held backing) disks → home ≡ told_back now disks armed) → ((holding : Holding) → home ≡ Some holding → AreWholeStores holding)
    → (basis : Basis) → BeginsMount basis all mount pass → basis.names ≡ start.lent → IfSome start.told (λ left. IsAway basis.names left → HasLived (TellsRounds (Rose (saturated (start.faults + failed_before pass)) last) plan.worker) basis all shown (mounted_lines (mount_of mount.board.opened) pass.spare) left.stores home)
stopped_home history held mount pass zero plan all outcome shown part_values store_values parts backing faults placed tail k start armed home last lives_so runnable new ran first rounds no_less closed many allowed armed_is gives whole basis begins named =
    let over : HasClosedOver basis all mount pass zero part_values store_values (map history parts) (map held backing) faults placed tail = record {
      begins = begins;
      new = new;
      opened = ran.run_out.mount;
      spare = ran.run_out.spare;
      closed = closed;
    } in
    let here : mount.board.opened ≡ pass.view.opened = sym (ap (λ (v : PassView). v.opened) new) in
    let tell = devices_tell basis all mount pass zero part_values store_values (map history parts) (map held backing) faults placed tail over in
    let both =
    lives_so basis all mount.fds plan pass zero outcome shown part_values store_values (map history parts) (map held backing) faults placed tail runnable.well_formed runnable.lines
    (subst (λ (o : Opened). IsMountOf basis all o mount.fds) here begins.is_mount) (subst (λ (o : Opened). OpensRegion (mount_of o) basis.names) here begins.region) (new ∙ ap first_view here) ran first closed in
    let failed : Type 0 = Rose (saturated (start.faults + failed_before pass)) last in
    let stops : SawStop zero.view → failed = λ seen. rose_home start.faults (failed_before pass) faults last no_less (subst (λ count. Rose count faults) (failed_same pass zero ran.run_out.mount ran.run_out.spare) (closed.stopped seen)) in
    let apart = (subst (λ names. AreFileNames mount_layout names) (sym named) allowed).distinct in
    let made = mounted_lines (mount_of mount.board.opened) pass.spare in
    let counted = lines_home (map history parts) mount.board.opened zero.view.opened pass.spare zero.spare (here ∙ sym ran.run_out.mount) ran.run_out.spare closed.lines in
    if_some start.told (λ left. IsAway basis.names left → HasLived (TellsRounds failed plan.worker) basis all shown made left.stores home) (λ left told_is away.
    lived_home basis all shown history held parts backing made home left.stores whole (record { parts_tell = tell.0; stores_tell = tell.1; lines_are = counted; life = both.1; rounds = told_failed plan.worker basis all shown both.1.later stops (both.2 (omega (arith, runnable.few)) rounds) })
    (λ disks are. all_behind basis.names left.stores (named_stores basis.names disks) away ∙ own_stores basis.names disks (begins.is_mount.names ∙ sym many ∙ sym (length_now (map held backing) disks are)) apart)
    (λ now disks now_are disks_are. given_home k start armed home left (map history parts) (map held backing) gives armed_is told_is now disks now_are disks_are ∙ ap (λ names. Some (home_with left names now disks)) (sym named)))

-- power went off
pub stopped_off : (Tells : Basis → Traced → (shown later : List PlacedCall) → Type 0) (basis : Basis) (all : Traced) (shown : List PlacedCall) (pick : Pick) (counts : List ℕ) (start home off : Option Holding) → QuietPartHasOneImage → PowerLeavesAnImage → IfSome start IsQuietHolding
    → ((holding : Holding) → home ≡ Some holding → AreWholeStores holding) → off ≡ option_map (powered pick) home
    → IfSome start (λ left. IsAway basis.names left → HasLived Tells basis all shown counts left.stores home) → IfSome start (λ left. IsAway basis.names left → HasLived Tells basis all shown counts left.stores off)
stopped_off Tells basis all shown pick counts start home off one power quiet whole powers lived =
    if_some start (λ left. IsAway basis.names left → HasLived Tells basis all shown counts left.stores off) (λ left told away.
    lived_powered basis all one power pick counts left.stores (at_some start IsQuietHolding left told quiet).stores home off whole powers
    (at_some start (λ left. IsAway basis.names left → HasLived Tells basis all shown counts left.stores home) left told lived away))

-- and then a recovery was made, whatever that came to
pub stopped_recovered : (Tells : Basis → Traced → (shown later : List PlacedCall) → Type 0) (basis : Basis) (all : Traced) (shown : List PlacedCall) (counts : List ℕ) (start off last : Option Holding) → QuietPartHasOneImage → IfSome off IsQuietHolding → IfSome off (λ was. HasHeader was.parts → TellsOf (StandsAsBefore was) last)
    → IfSome start (λ left. IsAway basis.names left → HasLived Tells basis all shown counts left.stores off) → IfSome start (λ left. IsAway basis.names left → HasLived Tells basis all shown counts left.stores last)
stopped_recovered Tells basis all shown counts start off last one quiet stands lived =
    if_some start (λ left. IsAway basis.names left → HasLived Tells basis all shown counts left.stores last) (λ left told away.
    let life = at_some start (λ left. IsAway basis.names left → HasLived Tells basis all shown counts left.stores off) left told lived away in
    lived_recovered basis all one off last quiet counts left.stores life (at_some off (λ was. HasHeader was.parts → TellsOf (StandsAsBefore was) last) life.images.now life.images.told_is stands))

-- ---- what is told of it

-- one that was given up for want of memory, whatever ended its rounds but the sink
pub memory_answered : (ended : Result (Unit {0}) StreamError) → ended ≢ Err ends.Write → Err NoMemory ≡ answer_of ended (Err NoMemory)
memory_answered (Ok done) other = refl
memory_answered (Err ends.NoMemory) other = refl
memory_answered (Err (ends.Read error)) other = refl
memory_answered (Err ends.Write) other = absurd (other refl)

abbrev pub as_told : Stop → Result (Vec ℕ) Stop
as_told stop = Err stop

pub as_error : (result : Result (Vec ℕ) Stop) (stop : Stop) → IsErrAnd result (λ error. error ≡ stop) → result ≡ as_told stop
as_error (Ok text) stop is = absurd is
as_error (Err error) stop is = ap as_told is

-- One of which there is nothing to tell, for want of memory, or since the sink has failed.
pub given_up : {IsBegun : Basis → List ℕ → Traced → Type 0} {worker : Bool} {pick : Pick} {failed : ℕ} {many : ℕ} {input : Input} {given left : Option (List ℕ)} {reads reads_now : ℕ} {before now : Option (List ℕ)} {writes writes_now : ℕ}
    {old new : BenchState} {result : Result (Vec ℕ) Stop} (ended : Result (Unit {0}) StreamError) (all : Traced) (shown : List PlacedCall)
    → HasStreamedOn Report input given left reads reads_now before now writes writes_now ended all shown → IsRunnable all → result ≡ answer_of ended (Err NoMemory) → new.faults ≤ new.settled → new.arms ≡ old.arms + 1
    → ((basis : Basis) (counts : List ℕ) → IsBegun basis counts all → IfSome old.told (λ home. IsAway basis.names home → HasLived (TellsRounds (Rose failed new.faults) worker) basis all shown counts home.stores new.told))
    → HasStoppedInput IsBegun worker pick failed many input given left reads reads_now before now writes writes_now old new result
given_up ended all shown streamed runnable answered low armed life = record {
  ended = ended;
  told = Err NoMemory;
  answered = answered;
  all = all;
  shown = shown;
  streamed = streamed;
  memory = λ is. refl;
  runnable = runnable;
  turns = λ is. cc;
  settled = λ is. low;
  cause = λ is. absurd (omega (arith, is, armed));
  never = λ why is basis counts begun. absurd (no_region why is);
  life = life;
  ran = tt;
}
  where
    no_region : (why : Refusal) → as_told NoMemory ≡ as_told (Region why) → ⊥
    no_region why is = cc

-- ---- where it is told

module _ {L B : Type 0} (device : L → ℕ) (history : L → lines.PartHistory) (faults : L → ℕ) (room : L → Room) (store_device : B → ℕ) (held : B → stores.StoreHistory) (store_faults : B → ℕ) (mount : MountState) (pass zero : PassState) (plan : Plan)
    (all : Traced) (sorted : SortedCalls) (parts : List L) (backing : List B) (placed tail k : ℕ) (start armed home off last : BenchState) (runnable : IsRunnable all) (new : pass.view ≡ first_view mount.board.opened)
    (out : HasOutcome mount.fds plan all.calls pass (Ok sorted) zero)
    (closed : IsClosed device store_device (slot_value (part_value device history faults room) (store_value store_device held store_faults)) mount.board zero parts backing placed tail)
    (by : IsClosedBy zero (map (part_value device history faults room) parts) (map (store_value store_device held store_faults) backing) (map history parts) (map held backing) (sum_by faults parts + sum_by store_faults backing) placed tail)
    (armed_is : armed ≡ armed_with k start) (taken : home ≡ taken_back home.told (sum_by faults parts + sum_by store_faults backing) armed)
    (gives : (now : List Part) (disks : List Store) → AreNow (map history parts) now → AreNow (map held backing) disks → home.told ≡ told_back now disks armed) (whole : (holding : Holding) → home.told ≡ Some holding → AreWholeStores holding)
    (off_is : off ≡ powered_off plan.image home) (back : IsGivenBack off last) (power_so : PowerLeavesAnImage) (basis : Basis) (begins : BeginsMount basis all mount pass) (named : basis.names ≡ start.lent) where
  abbrev sums : ℕ
  sums = sum_by faults parts + sum_by store_faults backing

  abbrev part_values : List Value
  part_values = map (part_value device history faults room) parts

  abbrev store_values : List Value
  store_values = map (store_value store_device held store_faults) backing

  run : HasRunToClose basis all mount pass zero plan sorted part_values store_values (map history parts) (map held backing) sums placed tail
  run = record { begins = begins; new = new; well_formed = runnable.well_formed; few = omega (arith, runnable.few); rise = runnable.lines; out = out; closed = by }

  over : HasClosedOver basis all mount pass zero part_values store_values (map history parts) (map held backing) sums placed tail
  over = closed_over basis all mount pass zero plan sorted part_values store_values (map history parts) (map held backing) sums placed tail run

  many : length (map held backing) ≡ mount.board.opened.sizes.files
  many = length-map backing held ∙ closed.many_stores

  gives_home : (left : Holding) → start.told ≡ Some left → (now : List Part) (disks : List Store) → AreNow (map history parts) now → AreNow (map held backing) disks → home.told ≡ Some (home_with left basis.names now disks)
  gives_home left told_is now disks now_are disks_are =
      given_home k start armed home.told left (map history parts) (map held backing) gives armed_is told_is now disks now_are disks_are ∙ ap (λ names. Some (home_with left names now disks)) (sym named)

  powers : off.told ≡ option_map (powered plan.image) home.told
  powers = ap (λ (s : BenchState). s.told) off_is

  -- no recovery refuses what power left
  pub never_told : FittingHasNoBad → HeadIsNotUnread → (why : Refusal) → IfSome off.told (λ holding. IsRefusedFor holding.parts why) → start.told ≡ None
  never_told good_so read_so why refused =
      none_unless start.told (λ left told_is.
      never_refused basis all mount pass zero part_values store_values (map history parts) (map held backing) sums placed tail over power_so good_so read_so many plan.image left home.told off.told (gives_home left told_is) powers whole why refused)

  -- what is told of it is its report, behind the lines of all calls that have a place
  pub told_behind : AreFileNames mount_layout start.lent → IfSome start.told IsQuietHolding → saturated (start.faults + sums) ≤ last.faults → RunsAreTold → ThreadsAreLegal → DescriptorsSayFiles → LeftOpenAreKept → RunsAreFaithful → RunsAreNumbered
      → ReadableStandsForRecovered → OpenCallsAreKeptWhole → (kept : KeptCalls) → AreKeptOf kept sorted → (shown : List PlacedCall) → shown ≡ map placed_call sorted.placed.items → (text : List ℕ)
      → IfSome off.told (λ holding. (sorted : SortedCalls) → AreKeptOf kept sorted → ShowsRecovered holding sorted [] last.told (history_lines 0 (map placed_call sorted.placed.items) ++ text))
      → IfSome start.told (λ left. IsAway basis.names left → HasStoppedBehind (Rose (saturated (start.faults + failed_before pass)) last.faults) plan.worker plan.image start.picked basis all shown (1 + mount.board.opened.sizes.entries + length pass.spare) left.stores last text)
  told_behind names quiet no_less told_so threads_so files_so kept_so faithful_so numbered_so stand_so whole_so kept of shown shown_is text shows =
      let failed : Type 0 = Rose (saturated (start.faults + failed_before pass)) last.faults in
      let count = 1 + mount.board.opened.sizes.entries + length pass.spare in
      let Behind : List PlacedCall → Holding → Type 0 = λ shown left. HasStoppedBehind failed plan.worker plan.image start.picked basis all shown count left.stores last text in
      let saw : SawStop zero.view → failed = λ seen.
      rose_home start.faults (failed_before pass) sums last.faults no_less (subst (λ count. Rose count sums) (failed_same pass zero out.run_out.mount out.run_out.spare) (by.stopped seen)) in
      let allowed : AreFileNames mount_layout basis.names = subst (λ names. AreFileNames mount_layout names) (sym named) names in
      if_some start.told (λ left. IsAway basis.names left → Behind shown left) (λ left told_is away.
      let behind =
      left_behind basis all mount pass zero part_values store_values (map history parts) (map held backing) sums placed tail over power_so (omega (arith, closed.many_parts, length-map parts history)) many
      (part_shown device history faults room parts) (store_shown store_device held store_faults backing) allowed plan.image left (at_some start.told IsQuietHolding left told_is quiet).stores home.told off.told (gives_home left told_is) powers whole away in
      subst (λ these. Behind these left) (sym shown_is)
      (has_stopped basis all mount pass zero plan sorted part_values store_values (map history parts) (map held backing) sums placed tail run told_so threads_so files_so kept_so faithful_so numbered_so stand_so failed saw allowed last
      (history_lines 0 (map placed_call sorted.placed.items) ++ text) behind.after
      (at_some off.told (λ holding. (sorted : SortedCalls) → AreKeptOf kept sorted → ShowsRecovered holding sorted [] last.told (history_lines 0 (map placed_call sorted.placed.items) ++ text)) behind.after behind.off_is shows sorted of)
      (ap left_last back ∙ ap left_last off_is ∙ ap (option_map (powered plan.image)) behind.given_is ∙ ap Some (sym behind.after_is))
      start.picked
      (ap (λ (s : BenchState). s.picked) back ∙ ap (λ (s : BenchState). s.picked) off_is ∙ ap (λ (s : BenchState). plan.image ∷ s.picked) taken ∙ ap (λ (s : BenchState). plan.image ∷ s.picked) armed_is)
      count
      (behind.many_are ∙ length-map parts history ∙ parts_counted _ parts (1 + mount.board.opened.sizes.entries) pass.spare closed.many_parts (closed.same_spare ∙ out.run_out.spare))
      left.stores behind.others_are behind.whole whole_so behind.before behind.cells behind.after_is))

-- ---- over what a bench lent

-- it began on each such basis where it began on these, by counts that are the same
pub stopped_as : {IsBegun IsOver : Basis → List ℕ → Traced → Type 0} {worker : Bool} {pick : Pick} {one failed some many : ℕ} {input : Input} {given left : Option (List ℕ)} {reads reads_now : ℕ} {before now : Option (List ℕ)}
    {writes writes_now : ℕ} {old new : BenchState} {result : Result (Vec ℕ) Stop} (ran : HasStoppedInput IsBegun worker pick one some input given left reads reads_now before now writes writes_now old new result)
    → ((basis : Basis) (counts : List ℕ) → IsOver basis counts ran.all → IsBegun basis counts ran.all) → one ≡ failed → some ≡ many
    → HasStoppedInput IsOver worker pick failed many input given left reads reads_now before now writes writes_now old new result
stopped_as {IsBegun} {IsOver} {worker} {pick} {one} {failed} {some} {many} {input} {given} {left} {reads} {reads_now} {before} {now} {writes} {writes_now} {old} {new} {result} ran begun same_failed same_many =
    let Ran : ℕ → ℕ → Type 0 = λ failed many. HasStoppedInput IsOver worker pick failed many input given left reads reads_now before now writes writes_now old new result in
    let Behind : Basis → Vec ℕ → Type 0 = λ basis text. IfSome old.told (λ home. IsAway basis.names home → HasStoppedBehind (Rose one new.faults) worker pick old.picked basis ran.all ran.shown some home.stores new text.items) in
    subst (λ many. Ran failed many) same_many (subst (λ failed. Ran failed some) same_failed (record {
      ended = ran.ended;
      told = ran.told;
      answered = ran.answered;
      all = ran.all;
      shown = ran.shown;
      streamed = ran.streamed;
      memory = ran.memory;
      runnable = ran.runnable;
      turns = ran.turns;
      settled = ran.settled;
      cause = ran.cause;
      never = λ why is basis counts over. ran.never why is basis counts (begun basis counts over);
      life = λ basis counts over. ran.life basis counts (begun basis counts over);
      ran = IfOk-weaker ran.told (λ text. (basis : Basis) (counts : List ℕ) → IsBegun basis counts ran.all → Behind basis text) (λ text. (basis : Basis) (counts : List ℕ) → IsOver basis counts ran.all → Behind basis text)
          (λ text behind basis counts over. behind basis counts (begun basis counts over)) ran.ran;
    }))

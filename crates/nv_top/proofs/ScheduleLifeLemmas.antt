-- Lives of schedules: what a bench tells to which the devices of a schedule come back, and what power and a recovery make of that.
use Rattle.std.proofs.Common.{◌≡◌, ℕ, List, [], length, map, sym, ap, subst, ◌∙◌, Option, Some}
use Rattle.std.specs.Prelude.{All, IfSome, Result, false, option_map}
use Rattle.std.specs.List.Sorted.{IsStrictlyIncreasing}
use Rattle.nv_plain.specs.Layouts.{mount_layout}
use Rattle.nv_pmem.specs.Laws.{QuietPartHasOneImage}
use Rattle.nv_pmem.specs.Part.{Part}
use Rattle.nv_pmem.specs.RowStates.{AreNow}
use Rattle.nv_pmem.specs.Steps as lines
use Rattle.nv_pmem.specs.declared.picker.Pick.{Pick}
use Rattle.nv_store.specs.Steps as stores
use Rattle.nv_store.specs.Store.{IsQuietStore, Store}
use Rattle.nv_store.proofs.RowReads.{length_now}
use Rattle.nv_bench.specs.Benches.{BenchState, told_back}
use Rattle.nv_bench.specs.Holding.{Holding, IsQuietHolding, NamedStore, named_stores}
use Rattle.nv_bench.specs.Laws.{AreWholeStores, PowerLeavesAnImage}
use Rattle.nv_bench.specs.Powered.{powered}
use Rattle.nv_header.specs.FileNames.{AreFileNames}
use Rattle.nv_open.specs.Unopened.{HasHeader, StandsAsBefore, TellsOf}
use Rattle.nv_open.proofs.Homes.{all_behind, own_stores}
use Rattle.nv_core.specs.crash.CrashImages.{OpensRegion}
use Rattle.nv_core.specs.state.Values.{Value}
use Rattle.nv_table.specs.state.Opened.{Opened, mount_of}
use Rattle.nv_table.specs.state.States.{PassState}
use Rattle.nv_table.specs.state.Views.{PassView, first_view}
use Rattle.nv_mount.specs.Mounts.{MountState}
use Rattle.nv_mount.specs.Telling.{mounted_lines}
use Rattle.nv_trace.specs.Forms.{has_rounds}
use Rattle.nv_trace.specs.Shape.{IsWellFormed}
use Rattle.nv_trace.specs.Traced.{Traced, lines_in}
use Rattle.nv_runner.specs.EndedRuns.{IsClosedBy}
use Rattle.nv_runner.specs.Faithful.{Basis}
use Rattle.nv_runner.specs.FaithfulRuns.{IsMountOf}
use Rattle.nv_schedule.specs.Cuts.{IsArmedOnly}
use Rattle.nv_schedule.specs.Lives.{SchedulesLeaveLives}
use Rattle.nv_schedule.specs.Scheduled.{HasScheduled}
use Rattle.nv_schedule.specs.declared.schedule_error.ScheduleError.{ScheduleError}
use Rattle.nv_schedule.specs.declared.scheduled.ScheduledCalls.{ScheduledCalls}
use Rattle.nv_top.specs.Lives.{HasLived, TellsNothing}
use Rattle.nv_top.specs.Runs.{BeginsMount}
use Rattle.nv_top.specs.Stopping.{IsAway}
use Rattle.nv_top.proofs.RanLemmas.{life_behind}
use Rattle.nv_top.proofs.FollowedLemmas.{one_round}
use Rattle.nv_top.proofs.LifeLemmas.{lines_home, lived_home, lived_powered, lived_recovered}
use Rattle.nv_top.proofs.StoppingLemmas.{HasClosedOver, at_some, devices_tell, home_with, if_some, quiet_after}

-- whatever a schedule came to, all that was lent came back to a bench that was at most armed meanwhile
pub scheduled_home : {X Y : Type 0} (history : X → lines.PartHistory) (held : Y → stores.StoreHistory) (trace : Traced) (mount : MountState) (pass zero : PassState) (part_values store_values : List Value) (parts : List X) (backing : List Y)
    (faults placed tail batch : ℕ) (start armed : BenchState) (outcome : Result ScheduledCalls ScheduleError) (home : Option Holding) → SchedulesLeaveLives → IsWellFormed trace → IsStrictlyIncreasing (lines_in trace) → has_rounds trace.form ≡ false
    → pass.view ≡ first_view mount.board.opened → HasScheduled mount trace.tokens trace.calls batch pass zero start armed outcome → IsClosedBy zero part_values store_values (map history parts) (map held backing) faults placed tail
    → length (map held backing) ≡ mount.board.opened.sizes.files → AreFileNames mount_layout start.lent → IsArmedOnly start armed
    → ((now : List Part) (disks : List Store) → AreNow (map history parts) now → AreNow (map held backing) disks → home ≡ told_back now disks armed) → ((holding : Holding) → home ≡ Some holding → AreWholeStores holding)
    → (basis : Basis) → BeginsMount basis trace mount pass → basis.names ≡ start.lent → IfSome start.told (λ left. IsAway basis.names left → HasLived TellsNothing basis trace [] (mounted_lines (mount_of mount.board.opened) pass.spare) left.stores home)
scheduled_home history held trace mount pass zero part_values store_values parts backing faults placed tail batch start armed outcome home lives_so formed rise no_rounds new scheduled closed many allowed armed_is gives whole basis begins named =
    let over : HasClosedOver basis trace mount pass zero part_values store_values (map history parts) (map held backing) faults placed tail = record {
      begins = begins;
      new = new;
      opened = scheduled.opened;
      spare = scheduled.spare;
      closed = closed;
    } in
    let here : mount.board.opened ≡ pass.view.opened = sym (ap (λ (v : PassView). v.opened) new) in
    let tell = devices_tell basis trace mount pass zero part_values store_values (map history parts) (map held backing) faults placed tail over in
    let life =
    lives_so basis trace mount batch pass zero start armed outcome part_values store_values (map history parts) (map held backing) faults placed tail rise (one_round trace formed no_rounds)
    (subst (λ (o : Opened). IsMountOf basis trace o mount.fds) here begins.is_mount) (subst (λ (o : Opened). OpensRegion (mount_of o) basis.names) here begins.region) scheduled closed in
    let apart = (subst (λ names. AreFileNames mount_layout names) (sym named) allowed).distinct in
    let made = mounted_lines (mount_of mount.board.opened) pass.spare in
    let counted = lines_home (map history parts) mount.board.opened zero.view.opened pass.spare zero.spare (here ∙ sym scheduled.opened) scheduled.spare closed.lines in
    if_some start.told (λ left. IsAway basis.names left → HasLived TellsNothing basis trace [] made left.stores home) (λ left told_is away.
    lived_home basis trace [] history held parts backing made home left.stores whole (record { parts_tell = tell.0; stores_tell = tell.1; lines_are = counted; life = life_behind basis trace (map history parts) (map held backing) life; rounds = tt })
    (λ disks are. all_behind basis.names left.stores (named_stores basis.names disks) away ∙ own_stores basis.names disks (begins.is_mount.names ∙ sym many ∙ sym (length_now (map held backing) disks are)) apart)
    (λ now disks now_are disks_are. gives now disks now_are disks_are
    ∙ ap (λ (s : BenchState). told_back now disks s) armed_is
    ∙ ap (λ (told : Option Holding). option_map (λ (holding : Holding). home_with holding start.lent now disks) told) told_is
    ∙ ap (λ names. Some (home_with left names now disks)) (sym named)))

-- behind the loss of power and a recovery, whatever that came to
pub scheduled_recovered : (basis : Basis) (trace : Traced) (pick : Pick) (counts : List ℕ) (stores : List NamedStore) → All (λ (named : NamedStore). IsQuietStore named.store) stores → (home off told : Option Holding) → QuietPartHasOneImage → PowerLeavesAnImage → ((holding : Holding) → home ≡ Some holding → AreWholeStores holding)
    → off ≡ option_map (powered pick) home → IfSome off (λ was. HasHeader was.parts → TellsOf (StandsAsBefore was) told) → HasLived TellsNothing basis trace [] counts stores home → HasLived TellsNothing basis trace [] counts stores told
scheduled_recovered basis trace pick counts stores still home off told one power whole powers stands lived =
    let off_lived = lived_powered basis trace one power pick counts stores still home off whole powers lived in
    lived_recovered basis trace one off told (subst (λ told. IfSome told IsQuietHolding) (sym powers) (quiet_after pick home power whole)) counts stores off_lived
    (at_some off (λ was. HasHeader was.parts → TellsOf (StandsAsBefore was) told) off_lived.images.now off_lived.images.told_is stands)

-- A schedule that was followed, after power went off and the region was recovered: what its report shows.
use Rattle.std.proofs.Common.{◌≡◌, ℕ, ◌+◌, ◌-◌, ◌^◌, ◌<◌, ◌≤◌, Bool, true, false, arith, max, length, List, [], ◌∷◌, Option, Some, Result, Ok, Err, map, refl, sym, ap, subst, ◌∙◌}
use Rattle.std.specs.Prelude.{IfSome, None, OnOk}
use Rattle.std.specs.Result.{IsErrAnd}
use Rattle.std.specs.List.Sorted.{IsStrictlyIncreasing}
use Rattle.std.proofs.lemmas.List.{append-nil}
use Rattle.nv_plain.specs.Files.{Files}
use Rattle.nv_plain.specs.Images.{header_of, version_in}
use Rattle.nv_plain.specs.Layouts.{mount_layout}
use Rattle.nv_pmem.specs.Rows.{row_words}
use Rattle.nv_pmem.specs.Steps as lines
use Rattle.nv_pmem.specs.declared.picker.Pick.{Pick}
use Rattle.nv_store.specs.Steps as backing
use Rattle.nv_bench.specs.Benches.{BenchState, armed_with, left_last}
use Rattle.nv_bench.specs.Holding.{Holding, NamedStore}
use Rattle.nv_bench.specs.Powered.{powered}
use Rattle.nv_open.specs.Held.{files_named, header_names}
use Rattle.nv_open.specs.Lending.{stores_named, without_stores}
use Rattle.nv_open.specs.Refusals.{head_image}
use Rattle.nv_recover.specs.Standing.{ReadableStandsForRecovered, files_of}
use Rattle.nv_core.specs.state.Values.{Value}
use Rattle.nv_table.specs.state.Opened.{mount_of, state_of}
use Rattle.nv_table.specs.state.States.{PassState}
use Rattle.nv_core.specs.steps.Opening.{IsMount}
use Rattle.nv_header.specs.FileNames.{AreFileNames}
use Rattle.nv_mount.specs.Mounts.{MountState}
use Rattle.nv_mount.specs.RisenCounts.{SawStop}
use Rattle.nv_mount.specs.WholeWrites.{LeavesWholeWrites}
use Rattle.nv_mount.specs.declared.fds.Fd.{Fd}
use Rattle.nv_trace.specs.Forms.{has_rounds}
use Rattle.nv_trace.specs.Shape.{IsWellFormed}
use Rattle.nv_trace.specs.Traced.{Traced, lines_in}
use Rattle.nv_trace.specs.declared.token.Token.{Token}
use Rattle.nv_trace.specs.declared.token.Token.TheVariants.{Advance}
use Rattle.nv_trace.specs.declared.trace_call.TracedCall.{TracedCall}
use Rattle.nv_runner.specs.Faithful.{Basis}
use Rattle.nv_runner.specs.FaithfulRuns.{IsMountOf}
use Rattle.nv_runner.specs.Lists.{made_calls}
use Rattle.nv_runner.specs.OpenRuns.{LeftOpenAreKept}
use Rattle.nv_runner.specs.Told.{DescriptorsSayFiles}
use Rattle.nv_schedule.specs.Begun.{SchedulesBegin}
use Rattle.nv_schedule.specs.CoreRuns.{AreListed, HasRunInCore, IsRunBy, IsRunUpTo}
use Rattle.nv_schedule.specs.FaithfulSchedules.{SchedulesAreFaithful}
use Rattle.nv_schedule.specs.SortedOut.{SchedulesAreLegal, SchedulesAreTold}
use Rattle.nv_schedule.specs.Cuts.{CutTells, armed_by, cuts_of}
use Rattle.nv_schedule.specs.Scheduled.{HasScheduled, HasTold}
use Rattle.nv_schedule.specs.declared.schedule_error.ScheduleError.{ScheduleError}
use Rattle.nv_schedule.specs.declared.schedule_error.ScheduleError.TheVariants.{Fault, NoMemory, TurnsUsed}
use Rattle.nv_schedule.specs.declared.scheduled.ScheduledCalls.{ScheduledCalls}
use Rattle.nv_top.specs.Runs.{BeginsMount, HasCache}
use Rattle.nv_top.specs.LifeLines.{AreLinesOf}
use Rattle.nv_top.specs.Outcomes.{shown_report}
use Rattle.nv_top.specs.declared.life.LifeLines.{LifeLines}
use Rattle.nv_top.specs.Commands.{HasRecovered, recovery_of}
use Rattle.nv_top.specs.Behind.{HasLostPowerBehind, HoldsCells}
use Rattle.nv_top.specs.Scheduling.{HasUsedTurns, IsArmedAt, IsArmedAtSome, IsOpenedFor, ShowsOutcome, ShowsScheduled, fds_in}
use Rattle.nv_top.specs.Stopping.{IsSettledStop, RestsWith, StopSettles}
use Rattle.nv_top.specs.declared.ending.Stop.{Stop}
use Rattle.nv_top.specs.declared.ending.Stop.TheVariants as stops
use Rattle.nv_words.specs.declared.words.RunOptions.{RunOptions}
use Rattle.nv_top.proofs.FollowedLemmas.{files_are, is_faithful, of_report, schedule_more}
use Rattle.nv_top.proofs.NameLemmas.{each_allowed, names_plain}
use Rattle.nv_top.proofs.StoppingLemmas.{HasClosedOver, lost_power, names_read}

-- the mount that a run began with
opened_for : (basis : Basis) (trace : Traced) (mount : MountState) (pass : PassState) (cache : ℕ) → BeginsMount basis trace mount pass → HasCache cache mount → IsOpenedFor basis trace cache mount.board.opened
opened_for basis trace mount pass cache begins cached = record {
  is_mount = subst (IsMountOf basis trace mount.board.opened) begins.is_mount.fds_are begins.is_mount;
  region = begins.region;
  long = begins.long;
  cached = cached;
}

module _ (basis : Basis) (trace : Traced) (mount : MountState) (pass zero : PassState) (part_values store_values : List Value)
    (parts : List lines.PartHistory) (held : List backing.StoreHistory) (faults placed tail : ℕ)
    (over : HasClosedOver basis trace mount pass zero part_values store_values parts held faults placed tail)
    (options : RunOptions) (lent armed : BenchState) (outcome : Result ScheduledCalls ScheduleError) (scheduled : HasScheduled mount trace.tokens trace.calls options.batch pass zero lent armed outcome)
    (cached : HasCache options.cache mount) (failed : Type 0) (saw : SawStop zero.view → failed) (allowed : AreFileNames mount_layout basis.names)
    (formed : IsWellFormed trace) (few : length trace.calls < 2 ^ 60) (rise : IsStrictlyIncreasing (lines_in trace)) (no_rounds : has_rounds trace.form ≡ false) (is_mount : IsMount (mount_of mount.board.opened))
    (core : HasRunInCore mount.board.opened mount.fds trace.tokens trace.calls options.batch zero.view lent armed outcome) (begin_so : SchedulesBegin) (told_so : SchedulesAreTold) (legal_so : SchedulesAreLegal) (faithful_so : SchedulesAreFaithful) (files_so : DescriptorsSayFiles) (kept_so : LeftOpenAreKept)
    (stand_so : ReadableStandsForRecovered) (before : List Pick) (bench : BenchState) (place : ℕ) (final : Bool) (lines : LifeLines) (home after_power : Holding) (shows_so : ShowsOutcome place final after_power outcome bench.told lines)
    (power_left : left_last bench ≡ Some after_power) (picked : bench.picked ≡ options.image ∷ before) (cells : HoldsCells zero.view basis.names home) (power_is : after_power ≡ powered options.image home)
    (many : ℕ) (many_so : length after_power.parts ≡ many) (others : List NamedStore) (others_so : without_stores basis.names after_power.stores ≡ others)
    (left : LeavesWholeWrites zero.view basis.files basis.names (row_words after_power.parts) (files_of (stores_named basis.names after_power.stores))) where
  abbrev begun : List TracedCall
  begun = map (λ call. call.now) shows_so.calls.unanswered.items

  names_so : header_names after_power.parts ≡ basis.names
  names_so = names_read after_power.parts left.header.readable ∙ left.header.names_are

  pub has_scheduled : ShowsScheduled failed options before basis trace many others bench place final lines
  has_scheduled =
      let found = shows_so.shown.found in
      let shown = shows_so.shown.shown in
      let followed : HasScheduled mount trace.tokens trace.calls options.batch pass zero lent armed (Ok shows_so.calls) =
      subst (λ outcome. HasScheduled mount trace.tokens trace.calls options.batch pass zero lent armed outcome) shows_so.is_ok scheduled in
      let ran : HasRunInCore mount.board.opened mount.fds trace.tokens trace.calls options.batch zero.view lent armed (Ok shows_so.calls) =
      subst (λ outcome. HasRunInCore mount.board.opened mount.fds trace.tokens trace.calls options.batch zero.view lent armed outcome) shows_so.is_ok core in
      let fds_so : mount.fds ≡ fds_in basis trace = over.begins.is_mount.fds_are in
      let files : List (List ℕ) → Files = λ names. files_named after_power.parts names after_power.stores in (
        record {
          opened = mount.board.opened;
          begins = opened_for basis trace mount pass options.cache over.begins cached;
          then_ = ran.0;
          last = zero.view;
          run = subst (λ fds. IsRunBy mount.board.opened fds trace.tokens trace.calls options.batch ran.0 zero.view) fds_so ran.1;
          listed = made_calls shows_so.calls.answered.items;
          unanswered = begun;
          told = subst (λ fds. AreListed mount.board.opened fds (state_of mount.board.opened zero.view.run).history ran.0 (made_calls shows_so.calls.answered.items) begun) fds_so ran.2;
          stopped = saw;
          sorted = shows_so.sorted;
          sorted_out = shows_so.sorted_out;
          report = shown_report shows_so.sorted shown.open_calls basis.names (files basis.names);
          faithful = schedule_more (SawStop zero.view) failed basis trace (shown_report shows_so.sorted shown.open_calls basis.names (files basis.names)) saw
              (is_faithful basis trace mount pass zero part_values store_values parts held faults placed tail over options.batch followed.told.0 shows_so.calls shows_so.sorted followed.told.1 followed.told.2 shows_so.sorted_out
              formed few rise no_rounds is_mount begin_so told_so legal_so faithful_so files_so kept_so stand_so after_power left found shows_so.shown.log shown.open_calls shown.are_open);
          ran = of_report basis trace mount pass zero part_values store_values parts held faults placed tail over options.batch followed.told.0 shows_so.calls shows_so.sorted followed.told.1 followed.told.2 shows_so.sorted_out
              formed few rise no_rounds is_mount begin_so told_so legal_so faithful_so files_so kept_so stand_so after_power left found shows_so.shown.log shown.open_calls shown.are_open;
          plain = names_plain mount_layout.name_limit basis.names (files basis.names).contents (each_allowed mount_layout basis.names allowed);
          left = record {
            lost = lost_power basis trace mount pass zero part_values store_values parts held faults placed tail over stand_so options.image before bench after_power found.next power_left picked many many_so others others_so left
                (shows_so.shown.log.next basis.files) shows_so.shown.left;
            home = home;
            cells = cells;
            power_is = power_is;
            whole = left;
          };
          shows = files_are basis trace mount pass zero part_values store_values parts held faults placed tail over options.batch followed.told.0 shows_so.calls shows_so.sorted followed.told.1 followed.told.2 shows_so.sorted_out
              formed few rise no_rounds is_mount begin_so told_so legal_so faithful_so files_so kept_so stand_so after_power left found shows_so.shown.log shown.open_calls shown.are_open;
          found = found;
          log = shows_so.shown.log;
          are_open = shown.are_open;
          report_is = refl;
        },
        subst (λ names. AreLinesOf place final (shown_report shows_so.sorted shown.open_calls names (files names)) lines) names_so shown.lines_are,
      )

-- ---- a token that has used its advances up

module _ (basis : Basis) (trace : Traced) (mount : MountState) (pass zero : PassState) (part_values store_values : List Value)
    (parts : List lines.PartHistory) (held : List backing.StoreHistory) (faults placed tail : ℕ)
    (over : HasClosedOver basis trace mount pass zero part_values store_values parts held faults placed tail)
    (options : RunOptions) (lent armed : BenchState) (core : HasRunInCore mount.board.opened mount.fds trace.tokens trace.calls options.batch zero.view lent armed (Err TurnsUsed))
    (cached : HasCache options.cache mount) (failed : Type 0) (saw : SawStop zero.view → failed) (stand_so : ReadableStandsForRecovered) (bench : BenchState) (text : List ℕ) (home power : Holding) (recovered_so : HasRecovered power bench.told text)
    (power_left : left_last bench ≡ Some power) (picked : bench.picked ≡ options.image ∷ lent.picked) (cells : HoldsCells zero.view basis.names home) (power_is : power ≡ powered options.image home)
    (many : ℕ) (many_so : length power.parts ≡ many) (others : List NamedStore) (others_so : without_stores basis.names power.stores ≡ others)
    (arms : bench.arms ≡ armed.arms) (armed_so : bench.armed ≡ armed.armed)
    (left : LeavesWholeWrites zero.view basis.files basis.names (row_words power.parts) (files_of (stores_named basis.names power.stores))) where
  -- the region rests as the recovery left it
  rests_recovered : RestsWith (version_in (head_image power.parts)) (header_of (head_image power.parts)).page (header_of (head_image power.parts)).entries (header_names power.parts) (recovery_of power).next
      (files_named power.parts (header_names power.parts) power.stores) (length power.parts) (without_stores (header_names power.parts) power.stores) bench.told
  rests_recovered =
      let now = recovered_so.left in
      let names = header_names power.parts in
      let files = files_named power.parts names power.stores in
      let others = without_stores names power.stores in
      let Sized : ℕ → ℕ → ℕ → Type 0 = λ page entries next. RestsWith (version_in (head_image power.parts)) page entries names next files (length power.parts) others bench.told in
      subst (λ page. Sized page (header_of (head_image power.parts)).entries (recovery_of power).next) recovered_so.page_is
      (subst (λ entries. Sized now.left.page entries (recovery_of power).next) recovered_so.entries_is (subst (λ next. Sized now.left.page now.left.entries next) recovered_so.next_is (record {
        now = now.now;
        told_is = now.told_is;
        rests = record { rest = now.left.rest; held = now.left.disks; stores_are = now.left.stores_are; files_are = now.left.files_are; durable = now.left.synced };
        long = now.left.long;
        many_are = now.left.many;
      })))

  -- its run, and the cuts that were armed before its end
  abbrev RunsArmed : List Fd → Type 0
  RunsArmed fds = (run : IsRunUpTo mount.board.opened fds trace.tokens trace.calls options.batch core.0 zero.view) × IsArmedAt run.played.before lent bench

  runs_armed : RunsArmed (fds_in basis trace)
  runs_armed = subst RunsArmed over.begins.is_mount.fds_are (core.1, (arms ∙ ap (λ (s : BenchState). s.arms) core.2, armed_so ∙ ap (λ (s : BenchState). s.armed) core.2))

  pub has_used : HasUsedTurns failed options basis trace many others lent bench
  has_used = record {
    opened = mount.board.opened;
    begins = opened_for basis trace mount pass options.cache over.begins cached;
    then_ = core.0;
    last = zero.view;
    run = runs_armed.0;
    stopped = saw;
    armed_at = runs_armed.1;
    left = record {
      lost = lost_power basis trace mount pass zero part_values store_values parts held faults placed tail over stand_so options.image lent.picked bench power (recovery_of power).next power_left picked many many_so others others_so left
          refl rests_recovered;
      home = home;
      cells = cells;
      power_is = power_is;
      whole = left;
    };
  }

-- ---- what a bench was armed at

module _ (mount : MountState) (tokens : List Token) (calls : List TracedCall) (batch : ℕ) (zero : PassState) (old armed : BenchState) where
  -- whatever is answered, some first tokens were reached
  pub armed_at_some : (outcome : Result ScheduledCalls ScheduleError) → HasTold mount tokens calls batch zero old armed outcome → IsArmedAtSome tokens old armed
  armed_at_some (Ok told) is = (tokens, [], sym (append-nil tokens), (ap (λ (s : BenchState). s.arms) is.3, ap (λ (s : BenchState). s.armed) is.3))
  armed_at_some (Err TurnsUsed) is =
      (is.1.ran.before, Advance is.1.ran.turn is.1.ran.reach ∷ is.1.ran.after, is.1.ran.tokens_are, (ap (λ (s : BenchState). s.arms) is.2, ap (λ (s : BenchState). s.armed) is.2))
  armed_at_some (Err Fault) is = ([], tokens, refl, (ap (λ (s : BenchState). s.arms) is.2, ap (λ (s : BenchState). s.armed) is.2))
  armed_at_some (Err NoMemory) is = (is.reached, is.later, is.tokens_are, (ap (λ (s : BenchState). s.arms) is.cut, ap (λ (s : BenchState). s.armed) is.cut))

  pub armed_at_all : (outcome : Result ScheduledCalls ScheduleError) → HasTold mount tokens calls batch zero old armed outcome → (calls : ScheduledCalls) → outcome ≡ Ok calls → IsArmedAt tokens old armed
  armed_at_all (Ok told) is calls ok = (ap (λ (s : BenchState). s.arms) is.3, ap (λ (s : BenchState). s.armed) is.3)
  armed_at_all (Err error) is calls ok = cc

-- without a cut it is as it was
pub uncut_same : (mount : MountState) (tokens : List Token) (calls : List TracedCall) (batch : ℕ) (zero : PassState) (old armed : BenchState) (outcome : Result ScheduledCalls ScheduleError) → HasTold mount tokens calls batch zero old armed outcome
    → (told : ScheduledCalls) → outcome ≡ Ok told → cuts_of tokens ≡ [] → armed ≡ old
uncut_same mount tokens calls batch zero old armed (Ok told) is calls_too ok none = is.3 ∙ ap (λ cuts. armed_by cuts old) none
uncut_same mount tokens calls batch zero old armed (Err error) is calls_too ok none = cc

-- so its devices have failed no more
pub uncut_low : (cut : Bool) (start armed home : BenchState) (before : ℕ) → CutTells cut start armed → armed ≡ start → (cut ≡ false → home.faults ≤ before) → start.settled ≤ before → home.faults ≤ 2 ^ 64 - 1 → home.faults ≤ before
uncut_low false start armed home before tells same low settled most = low refl
uncut_low true start armed home before tells same low settled most = omega (arith, tells, ap (λ (s : BenchState). s.settled) same, settled, most)

-- what is so of a value, and of a count that is settled with it
pub ok_settled : {T A B : Type 0} (result : Result T Stop) (settled now : ℕ) → OnOk result A → IsSettledStop settled now result → (A → now ≡ settled → B) → OnOk result B
ok_settled (Ok value) settled now holds cause on = on holds cause
ok_settled (Err stop) settled now holds cause on = tt

-- what is done of a bench that isn't armed again
pub still_some : (tokens : List Token) (old mid new : BenchState) → IsArmedAtSome tokens old mid → new.arms ≡ mid.arms → new.armed ≡ mid.armed → IsArmedAtSome tokens old new
still_some tokens old mid new is arms armed = (is.0, is.1, is.2, (arms ∙ is.3.0, armed ∙ is.3.1))

pub still_all : (tokens : List Token) (old mid new : BenchState) → IsArmedAt tokens old mid → new.arms ≡ mid.arms → new.armed ≡ mid.armed → IsArmedAt tokens old new
still_all tokens old mid new is arms armed = (arms ∙ is.0, armed ∙ is.1)

-- one that was armed no more
pub armed_none : (tokens : List Token) (old new : BenchState) → new.arms ≡ old.arms → new.armed ≡ old.armed → IsArmedAtSome tokens old new
armed_none tokens old new arms armed = ([], tokens, refl, (arms, armed))

pub same_arms : (numbers : List ℕ) (one other : BenchState) → one.arms ≡ other.arms → (armed_by numbers one).arms ≡ (armed_by numbers other).arms
same_arms [] one other same = same
same_arms (number ∷ later) one other same = same_arms later (armed_with number one) (armed_with number other) (ap (λ arms. arms + 1) same)

pub same_armed : (numbers : List ℕ) (one other : BenchState) → one.armed ≡ other.armed → (armed_by numbers one).armed ≡ (armed_by numbers other).armed
same_armed [] one other same = same
same_armed (number ∷ later) one other same = same_armed later (armed_with number one) (armed_with number other) refl

-- one that was lent since
pub from_lent : (tokens : List Token) (old lent new : BenchState) → lent.arms ≡ old.arms → lent.armed ≡ old.armed → IsArmedAtSome tokens lent new → IsArmedAtSome tokens old new
from_lent tokens old lent new arms armed is =
    (is.0, is.1, is.2, (is.3.0 ∙ same_arms (cuts_of is.0) lent old arms, is.3.1 ∙ same_armed (cuts_of is.0) lent old armed))

pub all_from_lent : (tokens : List Token) (old lent new : BenchState) → lent.arms ≡ old.arms → lent.armed ≡ old.armed → IsArmedAt tokens lent new → IsArmedAt tokens old new
all_from_lent tokens old lent new arms armed is = (is.0 ∙ same_arms (cuts_of tokens) lent old arms, is.1 ∙ same_armed (cuts_of tokens) lent old armed)

-- a schedule that ended in its turns, on a bench that was lent since
pub used_from_lent : (failed : Type 0) (options : RunOptions) (basis : Basis) (trace : Traced) (many : ℕ) (others : List NamedStore) (old lent new : BenchState) → lent.arms ≡ old.arms → lent.armed ≡ old.armed → lent.picked ≡ old.picked
    → HasUsedTurns failed options basis trace many others lent new → HasUsedTurns failed options basis trace many others old new
used_from_lent failed options basis trace many others old lent new arms armed picked used = record {
  opened = used.opened;
  begins = used.begins;
  then_ = used.then_;
  last = used.last;
  run = used.run;
  stopped = used.stopped;
  armed_at = all_from_lent used.run.played.before old lent new arms armed used.armed_at;
  left = subst (λ before. HasLostPowerBehind used.last options.image before basis many others new) picked used.left;
}

pub IfSome-weaker : {X : Type 0} (found : Option X) (P Q : X → Type 0) → ((x : X) → P x → Q x) → IfSome found P → IfSome found Q
IfSome-weaker None P Q on holds = tt
IfSome-weaker (Some x) P Q on holds = on x holds

-- what holds anyway holds where a value is answered
pub on_any : {T E P : Type 0} (result : Result T E) → P → OnOk result P
on_any (Ok value) holds = holds
on_any (Err error) holds = tt

-- Behind a cut the count of faults may stand anywhere; where none was reached it is no higher than it was before.
pub failed_cut : (cut : Bool) (start armed home : BenchState) (before : ℕ) → CutTells cut start armed → (cut ≡ false → home.faults ≤ before) → home.settled ≡ armed.settled → home.faults ≤ 2 ^ 64 - 1
    → home.faults ≤ max before home.settled
failed_cut false start armed home before tells low kept most = let least = low refl in omega (arith, least)
failed_cut true start armed home before tells low kept most = omega (arith, most, kept, tells)

-- what a schedule has come to is that of the trace whose tokens and calls were handed over
pub of_trace : (mount : MountState) (trace : Traced) (batch : ℕ) (pass zero : PassState) (lent armed : BenchState) (outcome : Result ScheduledCalls ScheduleError) (tokens : List Token) (calls : List TracedCall)
    → tokens ≡ trace.tokens → calls ≡ trace.calls → HasScheduled mount tokens calls batch pass zero lent armed outcome → HasScheduled mount trace.tokens trace.calls batch pass zero lent armed outcome
of_trace mount trace batch pass zero lent armed outcome tokens calls same_tokens same_calls is =
    subst (λ tokens. HasScheduled mount tokens trace.calls batch pass zero lent armed outcome) same_tokens (subst (λ calls. HasScheduled mount tokens calls batch pass zero lent armed outcome) same_calls is)

-- where power can't go off for want of memory
pub settled_memory : {T : Type 0} (result : Result T Stop) (settled now : ℕ) → IsErrAnd result (λ stop. stop ≡ stops.NoMemory) → now ≤ settled → IsSettledStop settled now result
settled_memory (Ok value) settled now is low = absurd is
settled_memory (Err stop) settled now is low = subst (StopSettles settled now) (sym is) low

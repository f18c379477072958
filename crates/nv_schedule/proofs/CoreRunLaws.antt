-- Core runs: a schedule over a mount is a run of the core that its actors play.
use Rattle.std.proofs.Common.{◌≡◌, ℕ, suc, ◌+◌, ◌<◌, Bool, true, false, List, [], ◌∷◌, ◌++◌, length, inl, inr, refl, sym, ap, subst, ◌∙◌, arith}
use Rattle.std.specs.Prelude.{IsPermutation, Option, Some, None, Result, Ok, Err, map, slice_index_or}
use Rattle.std.specs.List.{flat_map, range_with_len}
use Rattle.std.proofs.lemmas.List.{get_or-map, length-map, map-append}
use Rattle.nv_plain.specs.Histories.{Answered}
use Rattle.nv_bench.specs.Benches.{BenchState}
use Rattle.nv_core.specs.state.Passes.{IsOneOf, Pass}
use Rattle.nv_core.specs.invariant.OneHistory.{IsPrefix, calls_by}
use Rattle.nv_core.specs.steps.Events.{Event, own}
use Rattle.nv_core.specs.steps.Opening.{IsMount}
use Rattle.nv_table.specs.invariant.Drawn.{drawn_by}
use Rattle.nv_table.specs.invariant.Idle.{IsIdle}
use Rattle.nv_table.specs.state.Opened.{Opened, mount_of, state_of}
use Rattle.nv_table.specs.state.States.{PassState}
use Rattle.nv_table.specs.state.Views.{Past, SeesAll, pass_of}
use Rattle.nv_mount.specs.Mounts.{MountState}
use Rattle.nv_mount.specs.WholeRuns.{history_then}
use Rattle.nv_mount.specs.declared.fds.Fd.{Fd}
use Rattle.nv_mirror.specs.PassSteps.{either_of}
use Rattle.nv_mirror.specs.declared.answers.Done.{Done}
use Rattle.nv_calls.specs.declared.writing.WriteControl.{WriteControl}
use Rattle.nv_calls.specs.declared.writing.WriteControl.TheVariants as write_controls
use Rattle.nv_calls.specs.calls.Asks.{asks_read, asks_readv, asks_write, asks_writev}
use Rattle.nv_plain.specs.declared.call.FileCall.{FileCall}
use Rattle.std.specs.List.{concat}
use Rattle.nv_calls.specs.declared.writing.WriteMachine.{WriteMachine}
use Rattle.nv_calls.specs.fsync.SyncRuns.{file_of_fd}
use Rattle.nv_calls.specs.histories.Faults.{open_in, open_writes}
use Rattle.nv_calls.specs.writes.WriteMachines as writes
use Rattle.nv_trace.specs.declared.token.Token.{Token}
use Rattle.nv_trace.specs.declared.trace_call.TraceCall.{TraceCall}
use Rattle.nv_trace.specs.declared.trace_call.TracedCall.{TracedCall}
use Rattle.nv_runner.specs.Calls.{call_on, fd_of, opened_on}
use Rattle.nv_runner.specs.Lists.{made_calls, placed}
use Rattle.nv_runner.specs.OpenRuns.{open_of}
use Rattle.nv_runner.specs.Shifts.{calls_of_thread}
use Rattle.nv_runner.specs.Sorted.{opened_calls}
use Rattle.nv_runner.specs.declared.answer.Answer.{Answer}
use Rattle.nv_runner.specs.declared.answer.Answer.TheVariants.{Open, Placed}
use Rattle.nv_schedule.specs.Actors as actors
use Rattle.nv_schedule.specs.Actors.{Actor, AreUnbegun, Task, pass_at, tasks_of}
use Rattle.nv_schedule.specs.Callers.{IsAtCall}
use Rattle.nv_schedule.specs.CoreRuns.{AreListed, AreTakenIn, HasRunInCore, IsListed, IsListedOf, IsPresent, IsRunOfActors, IsToldAs, SchedulesRunInCore}
use Rattle.nv_schedule.specs.Cuts.{IsCutBy}
use Rattle.nv_schedule.specs.Flights.{flights_of}
use Rattle.nv_schedule.specs.Fresh.{AreFresh, works_of}
use Rattle.nv_schedule.specs.Growing.{number_of}
use Rattle.nv_schedule.specs.Hands.{IsTrying}
use Rattle.nv_schedule.specs.Listed.{all_listed, all_unanswered, has_drawn, has_drawn_at_hand, listed, listed_as, listed_by, listed_present, open_answer, placed_answer, placed_at_hand, reply_at_hand, told_at_hand, told_present, unanswered, unanswered_by, unanswered_present}
use Rattle.nv_schedule.specs.Played.{Plays, PlaysUp}
use Rattle.nv_schedule.specs.Scheduled.{AreTakenAsTheyStood, HasFollowed, HasSeenRunOf, HasTold}
use Rattle.nv_schedule.specs.Told.{IsToldOf, IsToldOfWork}
use Rattle.nv_schedule.specs.Turns.{CallerState, HasCome}
use Rattle.nv_schedule.specs.declared.caller.Work.{Work}
use Rattle.nv_schedule.specs.declared.caller.Work.TheVariants.{Calls, Batches}
use Rattle.nv_schedule.specs.declared.hand.Hand.{Hand}
use Rattle.nv_schedule.specs.declared.hand.Hand.TheVariants.{Reading, ReadingParts, Syncing, Writing, WritingParts}
use Rattle.nv_schedule.specs.declared.schedule_error.ScheduleError.{ScheduleError}
use Rattle.nv_schedule.specs.declared.schedule_error.ScheduleError.TheVariants.{Fault, NoMemory, TurnsUsed}
use Rattle.nv_schedule.specs.declared.scheduled.ScheduledCalls.{ScheduledCalls}
use Rattle.nv_schedule.proofs.ActLaws.{actor_of, task_of}
use Rattle.nv_schedule.proofs.AnswerLaws.{CallLaws}
use Rattle.nv_schedule.proofs.BegunLaws.{any_caller}
use Rattle.nv_schedule.proofs.EndLaws.{stood_number}
use Rattle.nv_schedule.proofs.GrownLaws.{puts_begin}
use Rattle.nv_schedule.proofs.MidCallLaws.{hand_opens, opened_as}
use Rattle.nv_schedule.proofs.OpenCallLaws.{caller_opens}
use Rattle.nv_schedule.proofs.PlayedLaws.{AreOn, actors_of, plays_so, plays_up}
use Rattle.nv_schedule.proofs.turns.WayLaws.{IsPresentTold, of_trying}

-- ---- those that had begun nothing

thread_tasks : (calls : List TracedCall) (numbers : List ℕ)
    → map task_of (map (λ number. Calls (record { left = calls_of_thread number calls; begun = false; hand = None; made = [] })) numbers)
    ≡ map (λ number. actors.Calls (record { left = calls_of_thread number calls; begun = false; made = [] })) numbers
thread_tasks calls [] = refl
thread_tasks calls (number ∷ later) = ap (λ l. actors.Calls (record { left = calls_of_thread number calls; begun = false; made = [] }) ∷ l) (thread_tasks calls later)

works_tasks : (calls : List TracedCall) (batch : ℕ) → map task_of (works_of calls batch) ≡ tasks_of calls batch
works_tasks calls batch =
    map-append task_of (map (λ number. Calls (record { left = calls_of_thread number calls; begun = false; hand = None; made = [] })) (range_with_len 0 8)) (Batches (record { most = batch; machine = None }) ∷ [])
    ∙ ap (λ l. l ++ actors.Batches batch ∷ []) (thread_tasks calls (range_with_len 0 8))

tasks_same : (callers : List CallerState) → map (λ (actor : Actor). actor.task) (actors_of callers) ≡ map task_of (map (λ (caller : CallerState). caller.work) callers)
tasks_same [] = refl
tasks_same (caller ∷ later) = ap (λ l. task_of caller.work ∷ l) (tasks_same later)

module _ (mount : MountState) (first : List CallerState) (fresh : AreFresh mount first) where
  unbegun_at : (c : CallerState) (i : ℕ) (d : Actor) → i < length (actors_of first) → ((slice_index_or (actors_of first) i d).number ≡ i + 1) × (own (slice_index_or (actors_of first) i d).number (slice_index_or (actors_of first) i d).seen ≡ [])
  unbegun_at c i d less =
      let n = length-map first actor_of in
      let there : i < length first = omega (arith, less, n) in
      let is = get_or-map actor_of first i c d there in
      let one = fresh i c there in
      subst (λ (actor : Actor). (actor.number ≡ i + 1) × (own actor.number actor.seen ≡ [])) (sym is) (one.number, one.unborn)

  fresh_on : AreOn mount.board.opened mount.fds first
  fresh_on i d less = let one = fresh i d less in record { same = one.board.same_mount; start = (slice_index_or first i d).pass; come = one.come }

-- ---- passes that were taken in

taken_so : (run : List Event) (callers : List CallerState) (pasts : List Past) → AreTakenAsTheyStood callers pasts → ((past : Past) → IsOneOf pasts past → SeesAll past.number past.run run) → AreTakenIn run (actors_of callers) pasts
taken_so run [] [] are joined = tt
taken_so run [] (past ∷ before) are joined = absurd are
taken_so run (caller ∷ later) [] are joined = absurd are
taken_so run (caller ∷ later) (past ∷ before) are joined =
    let stood = are.0 in (
      stood_number caller.pass past stood,
      subst (λ (p : Past). IsPrefix caller.pass.view.run p.run) (sym stood.is) (puts_begin stood.cells caller.pass.view stood.last stood.back),
      joined past (inl refl),
      taken_so run later before are.1 (λ one is. joined one (inr is)),
    )

-- ---- the present call

module _ (laws : CallLaws) (opened : Opened) (fds : List Fd) (call : TracedCall) (hand : Hand) (begun now : PassState) (task : Task) (same : now.view.opened ≡ opened) (mount : IsMount (mount_of begun.view.opened))
    (trying : IsTrying fds call.call hand begun now) where
  abbrev actor : Actor
  actor = record { number = now.view.number; seen = now.view.run; task = task }

  there : pass_at opened actor ≡ pass_of now.view
  there = ap (λ o. (state_of o now.view.run).passes now.view.number) (sym same)

  placed_there : (done : Done) → placed_at_hand hand ≡ Some done → IsToldAs opened fds call (Placed done.place (reply_at_hand hand done.len)) actor
  placed_there done is =
      let way = of_trying fds call.call hand begun now trying in
      let told = subst (λ (d : Option Done). IsPresentTold fds call.call (reply_at_hand hand) d begun now) is way.told in (
        told.file,
        told.file_is,
        record {
          before = told.placed.before;
          ends = ap (λ (p : Pass). p.seen) there ∙ told.placed.seen
              ∙ ap (λ n. told.placed.before ++ record { caller = n; call = call_on call.call told.file; reply = reply_at_hand hand done.len } ∷ []) (sym way.number);
          at = told.placed.at;
        },
      )

  -- a write that has drawn is of a file
  write_file : (asks : (file : ℕ) → FileCall) (m : WriteMachine) (bytes : List ℕ) (control : WriteControl) → has_drawn control ≡ true → writes.StandsAt asks fds m bytes begun now control
      → (file : ℕ) × (file_of_fd fds m.fd ≡ Some file)
  write_file asks m bytes write_controls.Begin is s = absurd (cc)
  write_file asks m bytes (write_controls.Running running) is s = (s.2.file, s.2.file_is)

  drawn_file : (h : Hand) → IsTrying fds call.call h begun now → has_drawn_at_hand h ≡ true → (file : ℕ) × (file_of_fd fds (fd_of call.call) ≡ Some file)
  drawn_file (Reading r) t is = absurd (cc)
  drawn_file (ReadingParts r) t is = absurd (cc)
  drawn_file (Syncing m) t is = absurd (cc)
  drawn_file (Writing m) t is = subst (λ (c : TraceCall). (file : ℕ) × (file_of_fd fds (fd_of c) ≡ Some file)) (sym t.1) (write_file (asks_write m.at t.0) m t.0 m.control is t.2.stands)
  drawn_file (WritingParts w) t is =
      subst (λ (c : TraceCall). (file : ℕ) × (file_of_fd fds (fd_of c) ≡ Some file)) (sym t.0) (write_file (asks_writev w.machine.at w.parts) w.machine (concat w.parts) w.machine.control is t.1.stands)

  opened_so : (number : ℕ) → has_drawn_at_hand hand ≡ true → told_at_hand hand (drawn_by now.view) ≡ Some (Open number) → IsToldAs opened fds call (Open number) actor
  opened_so number drew is =
      let file = drawn_file hand trying drew in (
        file.0,
        file.1,
        (
          open_writes begun,
          ap (λ (p : Pass). open_in (flights_of p)) there
              ∙ hand_opens laws.sound laws.tell fds call hand begun now mount trying
              ∙ ap (λ (told : Option Answer). opened_as fds call told ++ open_writes begun) is
              ∙ ap (λ (f : Option ℕ). (opened_on f call.call number ++ []) ++ open_writes begun) file.1,
        ),
      )

  told_as : (answer : Answer) → told_at_hand hand (drawn_by now.view) ≡ Some answer → IsToldAs opened fds call answer actor
  told_as answer is = by (placed_at_hand hand) (has_drawn_at_hand hand) (drawn_by now.view) refl refl is
    where
      some_answer : (one other : Answer) → ◌≡◌ {A = Option Answer} (Some one) (Some other) → one ≡ other
      some_answer one other both = cc

      by : (done : Option Done) (drew : Bool) (drawn : Option ℕ) → placed_at_hand hand ≡ done → has_drawn_at_hand hand ≡ drew → either_of (placed_answer done (reply_at_hand hand)) (open_answer drew drawn) ≡ Some answer → IsToldAs opened fds call answer actor
      by (Some done) drew drawn done_is drew_is told = subst (λ (a : Answer). IsToldAs opened fds call a actor) (some_answer (Placed done.place (reply_at_hand hand done.len)) answer told) (placed_there done done_is)
      by None true (Some number) done_is drew_is told =
          let answer_is = some_answer (Open number) answer told in
          subst (λ (a : Answer). IsToldAs opened fds call a actor) answer_is (opened_so number drew_is (is ∙ ap Some (sym answer_is)))
      by None true None done_is drew_is told = absurd (cc)
      by None false drawn done_is drew_is told = absurd (cc)

-- ---- a thread's calls

module _ (laws : CallLaws) (opened : Opened) (fds : List Fd) (now : PassState) (same : now.view.opened ≡ opened) (is_mount : IsMount (mount_of opened)) (task : Task) where
  abbrev thread_actor : Actor
  thread_actor = record { number = now.view.number; seen = now.view.run; task = task }

  abbrev drawn : Option ℕ
  drawn = drawn_by now.view

  at_hand_so : (call : TracedCall) (later : List TracedCall) (hand : Hand) (last : PassState) → IsAtCall fds (call ∷ later) (Some hand) last now → (told : Option Answer) → told_at_hand hand drawn ≡ told
      → IsPresent opened fds true (call ∷ later) (listed_as call told) (unanswered_present true (call ∷ later) told) thread_actor
  at_hand_so call later hand last at None is = refl
  at_hand_so call later hand last at (Some answer) is =
      let way = of_trying fds call.call hand at.0 now at.2 in
      (refl, refl, refl, told_as laws opened fds call hand at.0 now task same (subst (λ (o : Opened). IsMount (mount_of o)) (sym same ∙ way.mount) is_mount) at.2 answer is)

  present_so : (begun : Bool) (left : List TracedCall) (hand : Option Hand) (last : PassState) → IsAtCall fds left hand last now → (begun ≡ false → hand ≡ None)
      → IsPresent opened fds begun left (listed_present left (told_present hand drawn)) (unanswered_present begun left (told_present hand drawn)) thread_actor
  present_so true [] hand last at unbegun = (refl, refl)
  present_so true (call ∷ later) None last at unbegun = refl
  present_so true (call ∷ later) (Some hand) last at unbegun = at_hand_so call later hand last at (told_at_hand hand drawn) refl
  present_so false [] hand last at unbegun = (refl, refl)
  present_so false (call ∷ later) hand last at unbegun =
      subst (λ (h : Option Hand). IsPresent opened fds false (call ∷ later) (listed_present (call ∷ later) (told_present h drawn)) (unanswered_present false (call ∷ later) (told_present h drawn)) thread_actor) (sym (unbegun refl)) (refl, refl)

-- ---- a caller's

module _ (laws : CallLaws) (opened : Opened) (fds : List Fd) (is_mount : IsMount (mount_of opened)) (caller : CallerState) (same : caller.pass.view.opened ≡ opened) where
  listed_work : (start : PassState) (work : Work) → HasCome fds work start caller.pass
      → IsListed opened fds (task_of work) (listed_by work (drawn_by caller.pass.view)) (unanswered_by work (drawn_by caller.pass.view)) (actor_of caller)
  listed_work start (Calls thread) come = (
    listed_present thread.left (told_present thread.hand (drawn_by caller.pass.view)),
    refl,
    present_so laws opened fds caller.pass same is_mount (task_of caller.work) thread.begun thread.left thread.hand come.last come.at (λ not. (come.unbegun not).0),
  )
  listed_work start (Batches cleaner) come = (refl, refl)

  placed_work : (number : ℕ) (history : List Answered) (start : PassState) (work : Work) → IsToldOfWork fds number work caller.pass start history → calls_by number history ≡ placed fds number (listed_by work (drawn_by caller.pass.view))
  placed_work number history start (Calls thread) told = told.own
  placed_work number history start (Batches cleaner) none = none

  listed_caller : (start : PassState) (number : ℕ) (history : List Answered) → caller.pass.view.number ≡ number → IsMount (mount_of start.view.opened) → IsIdle start → open_writes start ≡ []
      → HasCome fds caller.work start caller.pass → IsToldOf fds number caller start history → IsListedOf opened fds history (actor_of caller) (listed caller) (unanswered caller)
  listed_caller start number history number_is mount idle none come told = record {
    calls = listed_work start caller.work come;
    placed_are = subst (λ n. calls_by n history ≡ placed fds n (listed caller)) (sym number_is) (placed_work number history start caller.work told);
    open_are =
        subst (λ (p : Pass). IsPermutation (flat_map (open_of fds) (opened_calls (listed caller))) (open_in (flights_of p))) (sym (ap (λ o. (state_of o caller.pass.view.run).passes caller.pass.view.number) (sym same)))
        (caller_opens laws fds opened caller start mount idle none come same).flights;
  }

all_so : (opened : Opened) (fds : List Fd) (history : List Answered) (callers : List CallerState)
    → ((i : ℕ) (d : CallerState) → i < length callers → IsListedOf opened fds history (actor_of (slice_index_or callers i d)) (listed (slice_index_or callers i d)) (unanswered (slice_index_or callers i d)))
    → AreListed opened fds history (actors_of callers) (all_listed callers) (all_unanswered callers)
all_so opened fds history [] each = (refl, refl)
all_so opened fds history (caller ∷ later) each = (
  all_listed later,
  listed caller,
  all_unanswered later,
  unanswered caller,
  refl,
  refl,
  each 0 caller (omega arith),
  all_so opened fds history later (λ i d less. each (suc i) d (omega (arith, less))),
)

-- ---- the whole

module _ (laws : CallLaws) (mount : MountState) (tokens : List Token) (calls : List TracedCall) (batch : ℕ) (zero_then : PassState) (seen : HasSeenRunOf mount.board.opened zero_then.view) (same : zero_then.view.opened ≡ mount.board.opened) where
  abbrev opened_so_far : Opened
  opened_so_far = mount.board.opened

  module _ (done : Result (Unit {0}) ScheduleError) (then_ : List CallerState) (followed : HasFollowed mount tokens calls batch done then_ zero_then) where
    run_of : (HavePlayed : (first : List Actor) → (trail : List Event) → Type 0) → HavePlayed (actors_of followed.first) followed.trail
        → IsRunOfActors mount.board.opened calls batch HavePlayed (actors_of then_) zero_then.view
    run_of HavePlayed played = record {
      mount = seen.mount;
      same = same;
      zero = followed.number;
      is_run = seen.is_run;
      first = actors_of followed.first;
      unbegun = unbegun_at mount followed.first followed.fresh (any_caller zero_then);
      tasks = tasks_same followed.first ∙ ap (map task_of) followed.works ∙ works_tasks calls batch;
      trail = followed.trail;
      played = played;
      only = followed.only;
      taken = taken_so zero_then.view.run then_ zero_then.view.ended followed.taken seen.joined;
    }

    first_on : AreOn mount.board.opened mount.fds followed.first
    first_on = fresh_on mount followed.first followed.fresh

    each_listed : AreOn mount.board.opened mount.fds then_ → (i : ℕ) (d : CallerState) → i < length then_
        → IsListedOf mount.board.opened mount.fds (history_then zero_then.view) (actor_of (slice_index_or then_ i d)) (listed (slice_index_or then_ i d)) (unanswered (slice_index_or then_ i d))
    each_listed on i d less =
        let n = followed.count in
        let was : i < length followed.first = omega (arith, less, n) in
        let start = (slice_index_or followed.first i d).pass in
        let fresh = followed.fresh i d was in
        let come = followed.come i d was in
        listed_caller laws mount.board.opened mount.fds seen.mount (slice_index_or then_ i d) (on i d less).same start (number_of (slice_index_or followed.first i d)) (history_then zero_then.view) come.number
        (subst (λ (o : Opened). IsMount (mount_of o)) (sym fresh.board.same_mount) seen.mount) fresh.idle fresh.unfailed come.come (followed.told i d was)

  history_is : (state_of mount.board.opened zero_then.view.run).history ≡ history_then zero_then.view
  history_is = ap (λ o. (state_of o zero_then.view.run).history) (sym same)

  told_so : (bench armed : BenchState) (outcome : Result ScheduledCalls ScheduleError) → HasTold mount tokens calls batch zero_then bench armed outcome
      → HasRunInCore mount.board.opened mount.fds tokens calls batch zero_then.view bench armed outcome
  unfolding run_of
  told_so bench armed (Ok told) has =
      let followed = has.1 in
      let played = plays_so laws mount.board.opened mount.fds seen.mount false tokens followed.first followed.trail has.0 (first_on (Ok tt) has.0 followed) followed.ran in
      let each = all_so mount.board.opened mount.fds (history_then zero_then.view) has.0 (each_listed (Ok tt) has.0 followed played.1) in (
        actors_of has.0,
        run_of (Ok tt) has.0 followed (λ first trail. Plays mount.board.opened mount.fds false tokens first trail (actors_of has.0)) played.0,
        subst (λ history. AreListed mount.board.opened mount.fds history (actors_of has.0) (made_calls told.answered.items) (map (λ call. call.now) told.unanswered.items)) (sym history_is)
            (subst (λ made. AreListed mount.board.opened mount.fds (history_then zero_then.view) (actors_of has.0) made (map (λ call. call.now) told.unanswered.items)) (sym has.2.answered)
            (subst (AreListed mount.board.opened mount.fds (history_then zero_then.view) (actors_of has.0) (all_listed has.0)) (sym has.2.unanswered) each)),
        has.3,
      )
  told_so bench armed (Err TurnsUsed) has =
      let followed = has.1 in
      let up = plays_up laws mount.board.opened mount.fds seen.mount tokens followed.first followed.trail has.0 (first_on (Err TurnsUsed) has.0 followed) followed.ran in (
        actors_of has.0,
        run_of (Err TurnsUsed) has.0 followed (λ first trail. PlaysUp mount.board.opened mount.fds tokens first trail (actors_of has.0)) up.0,
        subst (λ before. IsCutBy before bench armed) (sym up.1) has.2,
      )
  told_so bench armed (Err Fault) has = tt
  told_so bench armed (Err NoMemory) has = tt

pub schedules_run_in_core : CallLaws → SchedulesRunInCore
schedules_run_in_core laws mount tokens calls batch start zero_then bench armed outcome scheduled =
    told_so laws mount tokens calls batch zero_then scheduled.run scheduled.board.same_mount bench armed outcome scheduled.told

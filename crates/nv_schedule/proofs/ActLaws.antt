-- Acts: an advance of a caller is one of an actor, by the run of the core alone.
use Rattle.std.proofs.Common.{◌≡◌, ◌⊎◌, ℕ, ◌≤◌, ◌&&◌, not, Bool, true, false, List, [], ◌∷◌, ◌++◌, length, inl, inr, refl, sym, ap, subst, ◌∙◌, arith, length-append}
use Rattle.std.specs.Prelude.{Option, Some, None, Result, Ok, Err, MatchOption, ⊤}
use Rattle.std.proofs.lemmas.Bool.{true≢false}
use Rattle.nv_plain.specs.declared.call.FileCall.{FileCall}
use Rattle.nv_plain.specs.declared.call.Reply.{Reply}
use Rattle.nv_core.specs.state.Cleaner.{TakeCleaner}
use Rattle.nv_core.specs.state.Passes.{Control, Pass, plain_call}
use Rattle.nv_core.specs.state.Words.{Sizes}
use Rattle.nv_core.specs.steps.Events.{Event}
use Rattle.nv_core.specs.steps.Opening.{IsMount}
use Rattle.nv_core.specs.steps.Ops.{ByCleaner, Op}
use Rattle.nv_table.specs.invariant.Drawn.{drawn_by}
use Rattle.nv_table.specs.invariant.Idle.{IsIdle}
use Rattle.nv_table.specs.state.Opened.{Opened, mount_of, state_of}
use Rattle.nv_table.specs.state.States.{PassState}
use Rattle.nv_table.specs.state.Views.{pass_of}
use Rattle.nv_mount.specs.declared.fds.Fd.{Fd}
use Rattle.nv_mirror.specs.Answers.{IsPlacedAs, refusal_in_answer}
use Rattle.nv_mirror.specs.OwnSteps.{AreOwnAs, is_own}
use Rattle.nv_mirror.specs.PassSteps.{HasMade, HasTaken, PassStep, is_fault, refusal_in}
use Rattle.nv_mirror.specs.declared.answers.Done.{Done}
use Rattle.nv_mirror.specs.declared.answers.Refusal.{Refusal}
use Rattle.nv_mirror.specs.declared.answers.Refusal.TheVariants.{BadFd, RegionFault, StoreFault, TooFar, TooLong}
use Rattle.nv_calls.specs.fsync.SyncRuns.{file_of_fd}
use Rattle.nv_calls.specs.histories.Faults.{open_in, open_writes}
use Rattle.nv_clean.specs.Answers.{BeginsWith, BegunFor, HasEnded, IsBatchUnderWay}
use Rattle.nv_clean.specs.Cleaning.{CleanState, IsOpen}
use Rattle.nv_clean.specs.OwnSteps as batches
use Rattle.nv_clean.specs.declared.batch.CleanControl.{CleanControl}
use Rattle.nv_clean.specs.declared.batch.CleanControl.TheVariants as cleans
use Rattle.nv_trace.specs.declared.trace_call.TraceCall.{TraceCall}
use Rattle.nv_trace.specs.declared.trace_call.TraceCall.TheVariants.{Pread, Pwrite, Preadv, Pwritev, Fsync}
use Rattle.nv_trace.specs.declared.trace_call.TracedCall.{TracedCall}
use Rattle.nv_runner.specs.Calls.{IsAnswered, IsLasting, call_on, fd_of, opened_on}
use Rattle.nv_schedule.proofs.AskedLaws.{asked_write, asked_writev}
use Rattle.nv_runner.specs.OpenWrites.{without_place}
use Rattle.nv_runner.specs.Refusals.{early_of_call}
use Rattle.nv_runner.specs.declared.answer.Answer.{Answer}
use Rattle.nv_runner.specs.declared.answer.Answer.TheVariants.{Open, Refused}
use Rattle.nv_runner.proofs.CauseLaws.{early_such}
use Rattle.nv_schedule.specs.Acting.{Acts, CallsGo, CleanerActs, GoesOnBy, IsAnswerTo, IsBarredCall, IsLastOpen, IsOfBatch, IsPlacedLast, IsRefusedAs, IsSteppedCall, TaskActs, ThreadActs, is_anew, is_by_cleaner, is_idle, leaves_open, refusal_now}
use Rattle.nv_schedule.specs.Actors as actors
use Rattle.nv_schedule.specs.Actors.{Actor, Task, ThreadCalls, pass_at}
use Rattle.nv_schedule.specs.Barred.{IsAnsweredEarly, IsFirstAnsweredEarly}
use Rattle.nv_schedule.specs.Callers.{BatchState, CallEnds, IsAnsweredBy, IsAtBatch, IsAtCall, ThreadState}
use Rattle.nv_schedule.specs.Flights.{flights_of}
use Rattle.nv_schedule.specs.StepsMade.{StepsMade, steps_in}
use Rattle.nv_schedule.specs.Tries.{WereTried, answer_of, begins_anew, begins_anew_by, refused_answer, reply_to}
use Rattle.nv_schedule.specs.Turns.{BatchCame, BatchTurns, CallCame, CallTurns, CallerState, HasCome, HasTurned, IsBarredWork, MovesBy, WorkEnds, events_of}
use Rattle.nv_schedule.specs.declared.caller.Work.{Work}
use Rattle.nv_schedule.specs.declared.caller.Work.TheVariants.{Calls, Batches}
use Rattle.nv_schedule.specs.declared.hand.Hand.{Hand}
use Rattle.nv_schedule.proofs.AnswerLaws.{CallLaws, call_answered, tried_since}
use Rattle.nv_schedule.proofs.BusyLaws.{batch_busy}
use Rattle.nv_schedule.proofs.FlightLaws.{idle_flights}
use Rattle.nv_schedule.proofs.FollowLaws.{number_kept}
use Rattle.nv_schedule.proofs.GrownLaws.{at_call_grown, made_grown, taken_grown}
use Rattle.nv_schedule.proofs.StepsMadeLaws.{goes_on_by, made_are, same_step, taken_longer, taken_number}
use Rattle.nv_schedule.proofs.ThreadLaws.{none_tried}
use Rattle.nv_schedule.proofs.turns.TryEndLaws.{HasBegunAnew, HasEndedBy, IsTriedOn, over_ends, tried_anew, trying_on}
use Rattle.nv_schedule.proofs.turns.WayLaws.{of_trying}

-- ---- a caller as an actor

abbrev pub calls_of_thread_state : ThreadState → ThreadCalls
calls_of_thread_state thread = record { left = thread.left; begun = thread.begun; made = thread.made }

abbrev pub task_of : Work → Task
task_of (Calls thread) = actors.Calls (calls_of_thread_state thread)
task_of (Batches cleaner) = actors.Batches cleaner.most

abbrev pub actor_of : CallerState → Actor
actor_of caller = record { number = caller.pass.view.number; seen = caller.pass.view.run; task = task_of caller.work }

-- an actor whose pass this is
abbrev by_pass : PassState → Task → Actor
by_pass pass task = record { number = pass.view.number; seen = pass.view.run; task = task }

-- ---- the last of some steps

own_op : (call : FileCall) (refusal : Option Refusal) (op : Op) → is_own call refusal op ≡ true → is_by_cleaner op ≡ false
own_op call None (ByCleaner op) own_one = absurd (cc)
own_op call (Some refusal) (ByCleaner op) own_one = absurd (cc)
own_op call refusal op own_one = refl

-- it begins that call, or none, and no batch
record IsStepOf (call : FileCall) (step : PassStep) : Type 0 where
  begins : (begun : FileCall) → step.opens ≡ Some begun → begun ≡ call
  no_batch : is_by_cleaner step.op ≡ false

some_same : (one other : FileCall) → ◌≡◌ {A = Option FileCall} (Some one) (Some other) → one ≡ other
some_same one other same = cc

none_some : (call : FileCall) → ◌≡◌ {A = Option FileCall} None (Some call) → ⊥
none_some call same = absurd (cc)

last_own : (sizes : Sizes) (asked call : FileCall) (steps : List PassStep) (start old now : PassState) (step : PassStep) → AreOwnAs sizes asked call steps → HasMade steps start now → HasTaken step old now → IsStepOf asked step
last_own sizes asked call [] start old now step own_steps made taken = absurd own_steps
last_own sizes asked call (one ∷ []) start old now step own_steps made taken =
    let same = same_step step one old made.0 now (sym (taken_number one made.0 now made.2) ∙ taken_number step old now taken) taken made.2 in
    record {
      begins = λ begun is. some_same begun asked (sym is ∙ same.opens ∙ own_steps.0);
      no_batch = ap is_by_cleaner same.op ∙ own_op call None one.op own_steps.1;
    }
last_own sizes asked call (one ∷ (other ∷ earlier)) start old now step own_steps made taken =
    let same = same_step step one old made.0 now (sym (taken_number one made.0 now made.2) ∙ taken_number step old now taken) taken made.2 in
    record {
      begins = λ begun is. absurd (none_some begun (sym own_steps.0 ∙ sym same.opens ∙ is));
      no_batch = ap is_by_cleaner same.op ∙ own_op call (refusal_in sizes call (other ∷ earlier)) one.op own_steps.1;
    }

-- ---- what its pass is at since the last answer, or since its present try began

record IsBase (fds : List Fd) (call : TracedCall) (later : List TracedCall) (hand : Option Hand) (now : PassState) : Type 0 where
  base : PassState
  idle : IsIdle base
  at : IsAtCall fds (call ∷ later) hand base now
  opened : base.view.opened ≡ now.view.opened
  short : length base.view.run ≤ length now.view.run

base_of : (fds : List Fd) (call : TracedCall) (later : List TracedCall) (hand : Option Hand) (last now : PassState) → CallLaws → IsMount (mount_of now.view.opened) → IsAtCall fds (call ∷ later) hand last now → IsBase fds call later hand now
base_of fds call later None last now laws mount at = record { base = now; idle = at.1; at = (none_tried fds call.call now, at.1); opened = refl; short = omega arith }
base_of fds call later (Some hand) last now laws mount at =
    let way = of_trying fds call.call hand at.0 now at.2 in
    let there : IsAtCall fds (call ∷ later) (Some hand) at.0 now = (at.0, none_tried fds call.call at.0, at.2) in
    let grown = at_call_grown laws fds (call ∷ later) (Some hand) at.0 now (subst (λ (o : Opened). IsMount (mount_of o)) way.mount mount) there in
    record {
      base = at.0;
      idle = way.idle;
      at = there;
      opened = sym way.mount;
      short = let all = ap length grown.run ∙ length-append at.0.view.run grown.more in omega (arith, all);
    }

-- ---- a step of a call

-- a pass that has made a step is not where it was before
moved_on : (base old now : PassState) (step : PassStep) → length base.view.run ≤ length old.view.run → HasTaken step old now → now ≡ base → ⊥
moved_on base old now step short taken still = let longer = taken_longer step old now taken in let is = ap (λ (p : PassState). length p.view.run) still in omega (arith, longer, is, short)

-- Nothing barred its call, and it has made these steps of it since it was idle.
record HasStepped (fds : List Fd) (call : TraceCall) (now : PassState) : Type 0 where
  unbarred : early_of_call now.view.opened.sizes fds call ≡ None
  file : ℕ
  file_is : file_of_fd fds (fd_of call) ≡ Some file
  begun : PassState
  idle_then : IsIdle begun
  steps : List PassStep
  made : HasMade steps begun now
  own_steps : AreOwnAs now.view.opened.sizes (call_on call file) (plain_call (call_on call file)) steps

abbrev of_ended : (fds : List Fd) (call : TraceCall) (begun now : PassState) (refusal : Option Refusal) → IsIdle begun → HasEndedBy fds call begun now refusal → HasStepped fds call now
of_ended fds call begun now refusal idle ended =
    record { unbarred = ended.unbarred; file = ended.file; file_is = ended.file_is; begun = begun; idle_then = idle; steps = ended.steps; made = ended.made; own_steps = ended.own }

abbrev of_mid : (fds : List Fd) (call : TraceCall) (begun now : PassState) → IsTriedOn fds call begun now → HasStepped fds call now
of_mid fds call begun now on = record { unbarred = on.unbarred; file = on.file; file_is = on.file_is; begun = begun; idle_then = on.mid.idle; steps = on.mid.steps; made = on.mid.made; own_steps = on.mid.own }

steps_are : (fds : List Fd) (call : TraceCall) (now : PassState) (s : HasStepped fds call now) → steps_in now.view.number now.view.run ≡ s.steps
steps_are fds call now s = ap (λ (m : StepsMade). m.steps) (made_are now.view.opened.sizes (call_on call s.file) (plain_call (call_on call s.file)) s.steps s.begun now s.made s.own_steps s.idle_then.control)

-- ---- the answer of a call that is over

early_refused : (call : TraceCall) (refusal : Refusal) (drawn : Option ℕ) → leaves_open call refusal ≡ false → refused_answer call refusal drawn ≡ Refused refusal
early_refused (Pread fd at len) refusal drawn closed = refl
early_refused (Pwrite fd at bytes) RegionFault drawn closed = absurd (cc)
early_refused (Pwrite fd at bytes) StoreFault drawn closed = absurd (cc)
early_refused (Pwrite fd at bytes) refusal drawn closed = refl
early_refused (Preadv fd at lens) refusal drawn closed = refl
early_refused (Pwritev fd at parts) RegionFault drawn closed = absurd (cc)
early_refused (Pwritev fd at parts) StoreFault drawn closed = absurd (cc)
early_refused (Pwritev fd at parts) refusal drawn closed = refl
early_refused (Fsync fd) refusal drawn closed = refl

bad_closed : (call : TraceCall) → leaves_open call BadFd ≡ false
bad_closed (Pread fd at len) = refl
bad_closed (Pwrite fd at bytes) = refl
bad_closed (Preadv fd at lens) = refl
bad_closed (Pwritev fd at parts) = refl
bad_closed (Fsync fd) = refl

far_closed : (call : TraceCall) → leaves_open call TooFar ≡ false
far_closed (Pread fd at len) = refl
far_closed (Pwrite fd at bytes) = refl
far_closed (Preadv fd at lens) = refl
far_closed (Pwritev fd at parts) = refl
far_closed (Fsync fd) = refl

long_closed : (call : TraceCall) → leaves_open call TooLong ≡ false
long_closed (Pread fd at len) = refl
long_closed (Pwrite fd at bytes) = refl
long_closed (Preadv fd at lens) = refl
long_closed (Pwritev fd at parts) = refl
long_closed (Fsync fd) = refl

-- one that is barred is never open
barred_closed : (sizes : Sizes) (fds : List Fd) (call : TraceCall) (refusal : Refusal) → early_of_call sizes fds call ≡ Some refusal → leaves_open call refusal ≡ false
barred_closed sizes fds call refusal is =
    subst (λ (early : Option Refusal). MatchOption early ⊤ (λ r. leaves_open call r ≡ false)) is
    (early_such (λ r. leaves_open call r ≡ false) (bad_closed call) (far_closed call) (long_closed call) sizes fds call)

module _ (opened : Opened) (fds : List Fd) (call : TraceCall) (file : ℕ) (file_is : file_of_fd fds (fd_of call) ≡ Some file) (base now : PassState) (task : Task) (same : now.view.opened ≡ opened) (idle : IsIdle now) where
  abbrev actor : Actor
  actor = by_pass now task

  stands : pass_at opened actor ≡ pass_of now.view
  stands = ap (λ o. (state_of o now.view.run).passes now.view.number) (sym same)

  file_same : (other : ℕ) → file_of_fd fds (fd_of call) ≡ Some other → other ≡ file
  file_same other is = some_one other file (sym is ∙ file_is)
    where
      some_one : (one other : ℕ) → ◌≡◌ {A = Option ℕ} (Some one) (Some other) → one ≡ other
      some_one one other same = cc

  placed_last : (reply : Reply) (place other : ℕ) → now.view.number ≡ base.view.number → file_of_fd fds (fd_of call) ≡ Some other → IsPlacedAs base.view now.view (call_on call other) reply place
      → IsPlacedLast opened (call_on call file) reply place actor
  placed_last reply place other number is placed = record {
    before = placed.before;
    ends =
        ap (λ (p : Pass). p.seen) stands ∙ placed.seen
        ∙ ap (λ n. placed.before ++ record { caller = n; call = call_on call other; reply = reply } ∷ []) (sym number)
        ∙ ap (λ f. placed.before ++ record { caller = now.view.number; call = call_on call f; reply = reply } ∷ []) (file_same other is);
    at = placed.at;
  }

  module _ (answer : Answer) (told : IsAnswered fds None call base now answer) where
    opens_last : (number : ℕ) → answer ≡ Open number → IsLastOpen opened (call_on call file) number actor
    opens_last number is =
        let mine = subst (λ (a : Answer). IsAnswered fds None call base now a) is told in (
          open_writes base,
          ap (λ (p : Pass). open_in (flights_of p)) stands ∙ idle_flights now idle ∙ mine.opens ∙ ap (λ (f : Option ℕ). opened_on f call number ++ open_writes base) file_is,
        )

    refused_as : (refusal : Refusal) (drawn : Option ℕ) → answer ≡ refused_answer call refusal drawn → IsRefusedAs (leaves_open call refusal) opened (call_on call file) refusal answer actor
    refused_as refusal drawn is = by call refusal refl refl
      where
        -- of any write
        lasts : (fault : Refusal) → ((refusal : Refusal) → IsLasting call None refusal → is_fault (Some refusal) ≡ false) → is_fault (Some fault) ≡ true → answer ≡ Refused fault → ⊥
        lasts fault lasting faulty refused =
            let mine = subst (λ (a : Answer). IsAnswered fds None call base now a) refused told in
            true≢false (sym faulty ∙ lasting fault mine.told.lasting)

        open_so : (fault : Refusal) (drawn : Option ℕ) → ((refusal : Refusal) → IsLasting call None refusal → is_fault (Some refusal) ≡ false) → is_fault (Some fault) ≡ true → ((number : ℕ) → without_place fault (Some number) ≡ Open number)
            → without_place fault None ≡ Refused fault → answer ≡ without_place fault drawn → IsRefusedAs true opened (call_on call file) fault answer actor
        open_so fault (Some number) lasting faulty some none answer_is = (number, answer_is ∙ some number, opens_last number (answer_is ∙ some number))
        open_so fault None lasting faulty some none answer_is = absurd (lasts fault lasting faulty (answer_is ∙ none))

        of_write : ((refusal : Refusal) → IsLasting call None refusal → is_fault (Some refusal) ≡ false) → refused_answer call refusal drawn ≡ without_place refusal drawn → (r : Refusal) → refusal ≡ r → is_fault (Some r) ≡ true
            → ((number : ℕ) → without_place r (Some number) ≡ Open number) → without_place r None ≡ Refused r → IsRefusedAs true opened (call_on call file) refusal answer actor
        of_write lasting so r refusal_is faulty some none =
            subst (λ (r : Refusal). IsRefusedAs true opened (call_on call file) r answer actor) (sym refusal_is) (open_so r drawn lasting faulty some none (is ∙ so ∙ ap (λ (r : Refusal). without_place r drawn) refusal_is))

        bytes_last : (fd at : ℕ) (bytes : List ℕ) → call ≡ Pwrite fd at bytes → (refusal : Refusal) → IsLasting call None refusal → is_fault (Some refusal) ≡ false
        bytes_last fd at bytes call_is refusal lasting = (asked_write fd at bytes).lasts refusal (subst (λ (c : TraceCall). IsLasting c None refusal) call_is lasting)

        parts_last : (fd at : ℕ) (parts : List (List ℕ)) → call ≡ Pwritev fd at parts → (refusal : Refusal) → IsLasting call None refusal → is_fault (Some refusal) ≡ false
        parts_last fd at parts call_is refusal lasting = (asked_writev fd at parts).lasts refusal (subst (λ (c : TraceCall). IsLasting c None refusal) call_is lasting)

        by : (c : TraceCall) (r : Refusal) → call ≡ c → refusal ≡ r → IsRefusedAs (leaves_open c r) opened (call_on call file) refusal answer actor
        by (Pwrite fd at bytes) RegionFault call_is refusal_is =
            of_write (bytes_last fd at bytes call_is) (ap (λ (c : TraceCall). refused_answer c refusal drawn) call_is) RegionFault refusal_is refl (λ number. refl) refl
        by (Pwrite fd at bytes) StoreFault call_is refusal_is =
            of_write (bytes_last fd at bytes call_is) (ap (λ (c : TraceCall). refused_answer c refusal drawn) call_is) StoreFault refusal_is refl (λ number. refl) refl
        by (Pwritev fd at parts) RegionFault call_is refusal_is =
            of_write (parts_last fd at parts call_is) (ap (λ (c : TraceCall). refused_answer c refusal drawn) call_is) RegionFault refusal_is refl (λ number. refl) refl
        by (Pwritev fd at parts) StoreFault call_is refusal_is =
            of_write (parts_last fd at parts call_is) (ap (λ (c : TraceCall). refused_answer c refusal drawn) call_is) StoreFault refusal_is refl (λ number. refl) refl
        by (Pwrite fd at bytes) r call_is refusal_is = is ∙ early_refused call refusal drawn (ap (λ (c : TraceCall). leaves_open c refusal) call_is ∙ ap (leaves_open (Pwrite fd at bytes)) refusal_is)
        by (Pwritev fd at parts) r call_is refusal_is = is ∙ early_refused call refusal drawn (ap (λ (c : TraceCall). leaves_open c refusal) call_is ∙ ap (leaves_open (Pwritev fd at parts)) refusal_is)
        by (Pread fd at len) r call_is refusal_is = is ∙ early_refused call refusal drawn (ap (λ (c : TraceCall). leaves_open c refusal) call_is)
        by (Preadv fd at lens) r call_is refusal_is = is ∙ early_refused call refusal drawn (ap (λ (c : TraceCall). leaves_open c refusal) call_is)
        by (Fsync fd) r call_is refusal_is = is ∙ early_refused call refusal drawn (ap (λ (c : TraceCall). leaves_open c refusal) call_is)

    answers : (list : List ℕ) (result : Result Done Refusal) (drawn : Option ℕ) → answer ≡ answer_of call list result drawn → IsAnswerTo opened call (call_on call file) (refusal_in_answer result) answer actor
    answers list (Ok done) drawn is =
        let reply = reply_to call list done.len in
        let mine = subst (λ (a : Answer). IsAnswered fds None call base now a) is told in
        (done.place, reply, is, placed_last reply done.place mine.told.0 mine.later.number mine.told.1 mine.told.2)
    answers list (Err refusal) drawn is = refused_as refusal drawn is

anew_same : (call : TraceCall) (result : Result Done Refusal) → is_anew call (refusal_in_answer result) ≡ begins_anew call result
anew_same call (Ok done) = refl
anew_same call (Err refusal) = refl

pub first_same : {T : Type 0} (x y : T) (xs ys : List T) → x ∷ xs ≡ y ∷ ys → (x ≡ y) × (xs ≡ ys)
first_same x y xs ys same = (cc, cc)

-- ---- a thread's advance

module _ (laws : CallLaws) (opened : Opened) (fds : List Fd) (is_mount : IsMount (mount_of opened)) (answered : Bool) (old new : ThreadState) (pass now : PassState) (same : pass.view.opened ≡ opened) where
  abbrev from : Actor
  from = by_pass pass (actors.Calls (calls_of_thread_state old))

  abbrev to : Actor
  to = by_pass now (actors.Calls (calls_of_thread_state new))

  mounted : IsMount (mount_of pass.view.opened)
  mounted = subst (λ (o : Opened). IsMount (mount_of o)) (sym same) is_mount

  module _ (call : TracedCall) (later : List TracedCall) (present : old.left ≡ call ∷ later) (b : IsBase fds call later old.hand pass) (came : CallCame fds answered old new b.base now) (ends : CallEnds answered old new) where
    base_mount : IsMount (mount_of b.base.view.opened)
    base_mount = subst (λ (o : Opened). IsMount (mount_of o)) (sym b.opened) mounted

    -- it is answered, and what comes after it is left
    answered_one : (is : answered ≡ true) (Answers : Answer → Type 0) → ((answer : Answer) → IsAnsweredBy fds call.call b.base now answer → Answers answer) → CallsGo true call (calls_of_thread_state old) (calls_of_thread_state new) Answers
    answered_one is Answers by =
        let one = subst (λ a. CallCame fds a old new b.base now) is came in
        let end = subst (λ a. CallEnds a old new) is ends in
        let first = first_same call one.0.call later new.left (sym present ∙ one.1) in (
          one.0.answer,
          one.1 ∙ ap (λ c. c ∷ new.left) (sym first.0),
          end.3,
          one.2 ∙ ap (λ (c : TracedCall). old.made ++ record { call = c; answer = one.0.answer } ∷ []) (sym first.0),
          by one.0.answer (subst (λ (c : TracedCall). IsAnsweredBy fds c.call b.base now one.0.answer) (sym first.0) one.3),
        )

    went_on : (is : answered ≡ false) (Answers : Answer → Type 0) → CallsGo false call (calls_of_thread_state old) (calls_of_thread_state new) Answers
    went_on is Answers = let end = subst (λ a. CallEnds a old new) is ends in (end.0, end.2, end.1)

    -- ---- without a step

    barred_one : (refusal : Refusal) → early_of_call opened.sizes fds call.call ≡ Some refusal → (answer : Answer) → IsAnsweredBy fds call.call b.base now answer → answer ≡ Refused refusal
    barred_one refusal is answer by =
        let before = tried_since laws fds call.call b.base by.begun base_mount by.tried in
        let same_then : by.begun.view.opened ≡ opened = before.opened ∙ b.opened ∙ same in
        elim (over_ends fds call.call by.list by.begun now by.result by.over) [
          | inl early ↦ (
              let one : early.refusal ≡ refusal = some_refusal early.refusal refusal (sym early.early ∙ ap (λ (o : Opened). early_of_call o.sizes fds call.call) same_then ∙ is) in
              by.answer_is
              ∙ ap (λ (r : Result Done Refusal). answer_of call.call by.list r (drawn_by now.view)) (early.result_is ∙ ap Err one)
              ∙ early_refused call.call refusal (drawn_by now.view) (barred_closed opened.sizes fds call.call refusal is))
          | inr ended ↦ absurd (none_refusal refusal (sym ended.unbarred ∙ ap (λ (o : Opened). early_of_call o.sizes fds call.call) (ended.opened ∙ same_then) ∙ is))
        ]
      where
        some_refusal : (one other : Refusal) → ◌≡◌ {A = Option Refusal} (Some one) (Some other) → one ≡ other
        some_refusal one other both = cc

        none_refusal : (refusal : Refusal) → ◌≡◌ {A = Option Refusal} None (Some refusal) → ⊥
        none_refusal refusal both = absurd (cc)

    still_acts : (events : List Event) → now ≡ pass → events ≡ [] → IsAnsweredEarly pass.view.opened.sizes fds call.call answered
        → IsBarredCall opened fds answered call events (calls_of_thread_state old) (calls_of_thread_state new) from to
    still_acts events still none early = by (early_of_call opened.sizes fds call.call) refl
      where
        by : (known : Option Refusal) → early_of_call opened.sizes fds call.call ≡ known → IsBarredCall opened fds answered call events (calls_of_thread_state old) (calls_of_thread_state new) from to
        by None is = absurd (early.barred (ap (λ (o : Opened). early_of_call o.sizes fds call.call) same ∙ is))
        by (Some refusal) is = record {
          none = none;
          still = ap (λ (p : PassState). p.view.run) still;
          refusal = refusal;
          barred = is;
          over = early.over;
          goes = answered_one early.over (λ answer. answer ≡ Refused refusal) (barred_one refusal is);
        }

    -- ---- by a step

    module _ (step : PassStep) (taken : HasTaken step pass now) where
      same_then : now.view.opened ≡ opened
      same_then = (taken_grown step pass now taken).opened ∙ same

      at_now : pass_at opened to ≡ pass_of now.view
      at_now = ap (λ o. (state_of o now.view.run).passes now.view.number) (sym same_then)

      stepped : (events : List Event) → events ≡ events_of pass.view.number step → (s : HasStepped fds call.call now) (refusal : Option Refusal) → refusal_in now.view.opened.sizes (plain_call (call_on call.call s.file)) s.steps ≡ refusal
          → answered ≡ (is_idle (pass_of now.view).control && not (is_anew call.call refusal))
          → CallsGo answered call (calls_of_thread_state old) (calls_of_thread_state new) (λ answer. IsAnswerTo opened call.call (call_on call.call s.file) refusal answer to)
          → IsSteppedCall opened fds answered call events (calls_of_thread_state old) (calls_of_thread_state new) from to
      stepped events is s refusal refused how goes =
          let one = last_own now.view.opened.sizes (call_on call.call s.file) (plain_call (call_on call.call s.file)) s.steps s.begun pass now step s.own_steps s.made taken in
          let why : refusal_now opened (call_on call.call s.file) to ≡ refusal =
          ap (λ (o : Opened). refusal_in o.sizes (plain_call (call_on call.call s.file)) (steps_in now.view.number now.view.run)) (sym same_then)
          ∙ ap (refusal_in now.view.opened.sizes (plain_call (call_on call.call s.file))) (steps_are fds call.call now s) ∙ refused in
          record {
            step = step;
            events_are = is;
            on = subst (λ l. GoesOnBy pass.view.number l pass.view.run now.view.run) (sym is) (goes_on_by step pass now taken);
            unbarred = ap (λ (o : Opened). early_of_call o.sizes fds call.call) (sym same_then) ∙ s.unbarred;
            file = s.file;
            file_is = s.file_is;
            begins = one.begins;
            no_batch = one.no_batch;
            answered_is = how ∙ ap (λ (p : Pass). is_idle p.control && not (is_anew call.call refusal)) (sym at_now) ∙ ap (λ r. is_idle (pass_at opened to).control && not (is_anew call.call r)) (sym why);
            goes = subst (λ (r : Option Refusal). CallsGo answered call (calls_of_thread_state old) (calls_of_thread_state new) (λ answer. IsAnswerTo opened call.call (call_on call.call s.file) r answer to)) (sym why) goes;
          }

      -- it is answered
      answered_step : (events : List Event) → events ≡ events_of pass.view.number step → answered ≡ true → IsSteppedCall opened fds answered call events (calls_of_thread_state old) (calls_of_thread_state new) from to
      answered_step events is over =
          let one = subst (λ a. CallCame fds a old new b.base now) over came in
          let first = first_same call one.0.call later new.left (sym present ∙ one.1) in
          let by = subst (λ (c : TracedCall). IsAnsweredBy fds c.call b.base now one.0.answer) (sym first.0) one.3 in
          let told = call_answered laws fds call.call b.base now one.0.answer base_mount b.idle by in
          let before = tried_since laws fds call.call b.base by.begun base_mount by.tried in
          elim (over_ends fds call.call by.list by.begun now by.result by.over) [
            | inl early ↦ elim (tried_anew laws fds call.call b.base by.begun base_mount b.idle by.tried) [
              | inl none ↦ absurd (moved_on b.base pass now step b.short taken (early.same ∙ none))
              | inr anew ↦ absurd (both_early early.refusal (sym anew.ended.unbarred ∙ early.early))
            ]
            | inr ended ↦ (
                let s = of_ended fds call.call by.begun now (refusal_in_answer by.result) (before.idle b.idle) ended in
                stepped events is s (refusal_in_answer by.result) ended.refused
                (over
                ∙ ap not (sym (anew_same call.call by.result ∙ by.for_good))
                ∙ ap (λ (c : Control). is_idle c && not (is_anew call.call (refusal_in_answer by.result))) (sym told.1.control))
                (subst (λ a. CallsGo a call (calls_of_thread_state old) (calls_of_thread_state new) (λ answer. IsAnswerTo opened call.call (call_on call.call ended.file) (refusal_in_answer by.result) answer to)) (sym over) (
                  one.0.answer,
                  one.1 ∙ ap (λ c. c ∷ new.left) (sym first.0),
                  (subst (λ a. CallEnds a old new) over ends).3,
                  one.2 ∙ ap (λ (c : TracedCall). old.made ++ record { call = c; answer = one.0.answer } ∷ []) (sym first.0),
                  answers opened fds call.call ended.file ended.file_is b.base now (actors.Calls (calls_of_thread_state new)) same_then told.1 one.0.answer told.0 by.list by.result (drawn_by now.view) by.answer_is,
                )))
          ]
        where
          both_early : (refusal : Refusal) → ◌≡◌ {A = Option Refusal} None (Some refusal) → ⊥
          both_early refusal both = absurd (cc)

      -- it begins anew
      anew_step : (events : List Event) → events ≡ events_of pass.view.number step → answered ≡ false → HasBegunAnew fds call.call b.base now → IsIdle now
          → IsSteppedCall opened fds answered call events (calls_of_thread_state old) (calls_of_thread_state new) from to
      anew_step events is not_yet anew idle =
          let s = of_ended fds call.call anew.begun now (Some anew.refusal) anew.idle anew.ended in
          stepped events is s (Some anew.refusal) anew.ended.refused
          (not_yet
          ∙ ap not (sym anew.anew)
          ∙ ap (λ (c : Control). is_idle c && not (begins_anew_by call.call anew.refusal)) (sym idle.control))
          (subst (λ a. CallsGo a call (calls_of_thread_state old) (calls_of_thread_state new) (λ answer. IsAnswerTo opened call.call (call_on call.call anew.ended.file) (Some anew.refusal) answer to)) (sym not_yet)
          (went_on not_yet (λ answer. IsAnswerTo opened call.call (call_on call.call anew.ended.file) (Some anew.refusal) answer to)))

      -- it goes on
      mid_step : (events : List Event) → events ≡ events_of pass.view.number step → answered ≡ false → (begun : PassState) → IsTriedOn fds call.call begun now
          → IsSteppedCall opened fds answered call events (calls_of_thread_state old) (calls_of_thread_state new) from to
      mid_step events is not_yet begun on =
          let s = of_mid fds call.call begun now on in
          let refusal = refusal_in now.view.opened.sizes (plain_call (call_on call.call on.file)) on.mid.steps in
          stepped events is s refusal refl
          (not_yet ∙ ap (λ (b : Bool). b && not (is_anew call.call refusal)) (sym on.mid.busy))
          (subst (λ a. CallsGo a call (calls_of_thread_state old) (calls_of_thread_state new) (λ answer. IsAnswerTo opened call.call (call_on call.call on.file) refusal answer to)) (sym not_yet)
          (went_on not_yet (λ answer. IsAnswerTo opened call.call (call_on call.call on.file) refusal answer to)))

      -- any of these
      one_step : (events : List Event) → events ≡ events_of pass.view.number step → IsSteppedCall opened fds answered call events (calls_of_thread_state old) (calls_of_thread_state new) from to
      one_step events is = by answered refl
        where
          by_hand : answered ≡ false → (hand : Option Hand) → IsAtCall fds (call ∷ later) hand b.base now → IsSteppedCall opened fds answered call events (calls_of_thread_state old) (calls_of_thread_state new) from to
          by_hand not_yet None at = elim (tried_anew laws fds call.call b.base now base_mount b.idle at.0) [
            | inl none ↦ absurd (moved_on b.base pass now step b.short taken none)
            | inr anew ↦ anew_step events is not_yet anew at.1
          ]
          by_hand not_yet (Some hand) at = elim (trying_on fds call.call hand at.0 now at.2) [
            | inl fresh ↦ (
                let way = of_trying fds call.call hand at.0 now at.2 in
                let tried = subst (λ (p : PassState). WereTried fds call.call b.base p) (sym fresh) at.1 in
                elim (tried_anew laws fds call.call b.base now base_mount b.idle tried) [
                  | inl none ↦ absurd (moved_on b.base pass now step b.short taken none)
                  | inr anew ↦ anew_step events is not_yet anew (subst IsIdle (sym fresh) way.idle)
                ])
            | inr on ↦ mid_step events is not_yet at.0 on
          ]

          by : (known : Bool) → answered ≡ known → IsSteppedCall opened fds answered call events (calls_of_thread_state old) (calls_of_thread_state new) from to
          by true over = answered_step events is over
          by false not_yet =
              let at = subst (λ a. CallCame fds a old new b.base now) not_yet came in
              let left = (subst (λ a. CallEnds a old new) not_yet ends).0 in
              by_hand not_yet new.hand (subst (λ l. IsAtCall fds l new.hand b.base now) (left ∙ present) at)

    acts_so : (events : List Event) → MovesBy (IsFirstAnsweredEarly pass.view.opened.sizes fds old.left answered) events pass now
        → IsBarredCall opened fds answered call events (calls_of_thread_state old) (calls_of_thread_state new) from to ⊎ IsSteppedCall opened fds answered call events (calls_of_thread_state old) (calls_of_thread_state new) from to
    acts_so events (inl still) = inl (still_acts events still.0 still.1 (subst (λ l. IsFirstAnsweredEarly pass.view.opened.sizes fds l answered) present still.2))
    acts_so events (inr one) = inr (one_step one.0 one.1 events one.2)

  thread_acts : (events : List Event) (last : PassState) → IsAtCall fds old.left old.hand last pass → CallTurns fds answered (Calls old) (Calls new) pass now → CallEnds answered old new
      → MovesBy (IsFirstAnsweredEarly pass.view.opened.sizes fds old.left answered) events pass now → ThreadActs opened fds answered events (calls_of_thread_state old) (calls_of_thread_state new) from to
  thread_acts events last at turns ends moved = by old.left refl
    where
      none_left : old.left ≡ [] → (known : Bool) → answered ≡ known → MovesBy (IsFirstAnsweredEarly pass.view.opened.sizes fds old.left answered) events pass now → ⊥
      none_left none known is (inl still) = subst (λ l. IsFirstAnsweredEarly pass.view.opened.sizes fds l answered) none still.2
      none_left none true is (inr one) =
          let m = subst (λ a. CallEnds a old new) is ends in
          let few = ap length (sym none ∙ m.1) in omega (arith, few)
      none_left none false is (inr one) =
          let there = subst (λ l. IsAtCall fds l old.hand last pass) none at in
          let here = subst (λ l. IsAtCall fds l old.hand pass pass) (sym none) (there.0, refl, there.2) in
          let came = subst (λ a. CallCame fds a old new pass now) is (turns pass here) in
          let left = (subst (λ a. CallEnds a old new) is ends).0 in
          let then_ = subst (λ l. IsAtCall fds l new.hand pass now) (left ∙ none) came in
          let longer = taken_longer one.0 pass now one.1 in
          let still = ap (λ (p : PassState). length p.view.run) then_.1 in
          omega (arith, longer, still)

      by : (left : List TracedCall) → old.left ≡ left → ThreadActs opened fds answered events (calls_of_thread_state old) (calls_of_thread_state new) from to
      by [] none = absurd (none_left none answered refl moved)
      by (call ∷ later) present =
          let b = base_of fds call later old.hand last pass laws mounted (subst (λ l. IsAtCall fds l old.hand last pass) present at) in
          let came = turns b.base (subst (λ l. IsAtCall fds l old.hand b.base pass) (sym present) b.at) in
          record { call = call; later = later; present = present; how = acts_so call later present b came ends events moved }

-- ---- the cleaner's

batch_op : (most : ℕ) (steps : List PassStep) (one : PassStep) → batches.AreOwn (one ∷ steps) → BeginsWith most (one ∷ steps) → IsOfBatch most one.op
batch_op most [] one own_steps begins = subst (IsOfBatch most) (sym begins) refl
batch_op most (other ∷ earlier) one own_steps begins = by one.op own_steps.1
  where
    by : (op : Op) → batches.is_own (other ∷ earlier) op ≡ true → IsOfBatch most op
    by (ByCleaner (TakeCleaner bound)) own_one = absurd (cc)
    by (ByCleaner op) own_one = tt
    by op own_one = absurd (cc)

-- by its steps since a start, of which this one is the last
module _ (opened : Opened) (answered : Bool) (most : ℕ) (begun pass now : PassState) (task then_ : Task) (step : PassStep) (taken : HasTaken step pass now) (same : pass.view.opened ≡ opened) (short : length begun.view.run ≤ length pass.view.run) where
  abbrev cleaner_to : Actor
  cleaner_to = by_pass now then_

  cleaner_same : now.view.opened ≡ opened
  cleaner_same = (taken_grown step pass now taken).opened ∙ same

  cleaner_at : pass_at opened cleaner_to ≡ pass_of now.view
  cleaner_at = ap (λ o. (state_of o now.view.run).passes now.view.number) (sym cleaner_same)

  cleaner_moved : now ≡ begun → ⊥
  cleaner_moved still = let longer = taken_longer step pass now taken in let is = ap (λ (p : PassState). length p.view.run) still in let few = short in omega (arith, longer, is, few)

  by_batch : (events : List Event) → events ≡ events_of pass.view.number step → (steps : List PassStep) → HasMade steps begun now → batches.AreOwn steps → BeginsWith most steps → answered ≡ is_idle (pass_of now.view).control
      → CleanerActs opened answered events most (by_pass pass task) cleaner_to
  by_batch events is [] made own_steps begins how = absurd begins
  by_batch events is (one ∷ earlier) made own_steps begins how =
      let alike = same_step step one pass made.0 now (sym (taken_number one made.0 now made.2) ∙ taken_number step pass now taken) taken made.2 in
      record {
        step = step;
        events_are = is;
        on = subst (λ l. GoesOnBy pass.view.number l pass.view.run now.view.run) (sym is) (goes_on_by step pass now taken);
        begins = alike.opens ∙ own_steps.0;
        of_batch = subst (IsOfBatch most) (sym alike.op) (batch_op most earlier one own_steps begins);
        answered_is = how ∙ ap (λ (p : Pass). is_idle p.control) (sym cleaner_at);
      }

  over_acts : (events : List Event) → events ≡ events_of pass.view.number step → answered ≡ true → (result : _) → HasEnded most begun now result → CleanerActs opened answered events most (by_pass pass task) cleaner_to
  over_acts events is over result ended =
      by_batch events is ended.over.steps ended.over.made ended.over.own ended.over.begins (over ∙ ap is_idle (sym ended.idle.control))

  on_acts : (events : List Event) → events ≡ events_of pass.view.number step → answered ≡ false → (machine : CleanState) → IsOpen machine.control → IsBatchUnderWay most machine begun now
      → CleanerActs opened answered events most (by_pass pass task) cleaner_to
  on_acts events is not_yet machine runs way =
      by_batch events is way.told.steps way.told.made way.told.own (begins machine.control refl way.told.begun)
      (not_yet ∙ sym (ap is_idle way.way.called.control_is ∙ batch_busy now.view.opened.sizes machine.batch machine.control runs begun_so))
    where
      never : way.told.steps ≡ [] → ⊥
      never none = cleaner_moved (subst (λ steps. HasMade steps begun now) none way.told.made)

      begun_so : machine.control ≡ cleans.Begin → ⊥
      begun_so at = never (subst (λ control. BegunFor most machine control way.told.steps) at way.told.begun).0

      begins : (control : CleanControl) → machine.control ≡ control → BegunFor most machine control way.told.steps → BeginsWith most way.told.steps
      begins cleans.Begin at for_ = absurd (begun_so at)
      begins control at for_ = for_

-- what a batch has at hand since its pass was idle
record IsBatchBase (most : ℕ) (machine : Option CleanState) (pass : PassState) : Type 0 where
  base : PassState
  at : IsAtBatch most machine base pass
  short : length base.view.run ≤ length pass.view.run

batch_base : (most : ℕ) (machine : Option CleanState) (last pass : PassState) → IsAtBatch most machine last pass → IsBatchBase most machine pass
batch_base most None last pass at = record { base = pass; at = (refl, at.1); short = omega arith }
batch_base most (Some machine) last pass at =
    let grown = made_grown at.1.told.steps last pass at.1.told.made in
    record { base = last; at = at; short = let all = ap length grown.run ∙ length-append last.view.run grown.more in omega (arith, all) }

module _ (opened : Opened) (answered : Bool) (old new : BatchState) (pass now : PassState) (same : pass.view.opened ≡ opened) where
  cleaner_acts : (events : List Event) (last : PassState) → IsAtBatch old.most old.machine last pass → ((begun : PassState) → IsAtBatch old.most old.machine begun pass → BatchCame answered new.most new.machine begun now)
      → new.most ≡ old.most → MovesBy ⊥ events pass now → CleanerActs opened answered events old.most (by_pass pass (actors.Batches old.most)) (by_pass now (actors.Batches new.most))
  cleaner_acts events last at turns most (inl still) = absurd still.2
  cleaner_acts events last at turns most (inr one) = by answered refl
    where
      b : IsBatchBase old.most old.machine pass
      b = batch_base old.most old.machine last pass at

      came : BatchCame answered old.most new.machine b.base now
      came = subst (λ n. BatchCame answered n new.machine b.base now) most (turns b.base b.at)

      by_machine : answered ≡ false → (machine : Option CleanState) → IsAtBatch old.most machine b.base now → CleanerActs opened answered events old.most (by_pass pass (actors.Batches old.most)) (by_pass now (actors.Batches new.most))
      by_machine not_yet None none =
          absurd (cleaner_moved opened answered old.most b.base pass now (actors.Batches old.most) (actors.Batches new.most) one.0 one.1 same b.short none.0)
      by_machine not_yet (Some machine) way =
          on_acts opened answered old.most b.base pass now (actors.Batches old.most) (actors.Batches new.most) one.0 one.1 same b.short events one.2 not_yet machine way.0 way.1

      by : (known : Bool) → answered ≡ known → CleanerActs opened answered events old.most (by_pass pass (actors.Batches old.most)) (by_pass now (actors.Batches new.most))
      by true over =
          let ended = subst (λ a. BatchCame a old.most new.machine b.base now) over came in
          over_acts opened answered old.most b.base pass now (actors.Batches old.most) (actors.Batches new.most) one.0 one.1 same b.short events one.2 over ended.0 ended.1
      by false not_yet = by_machine not_yet new.machine (subst (λ a. BatchCame a old.most new.machine b.base now) not_yet came)

-- ---- any caller's

pub turned_acts : CallLaws → (opened : Opened) (fds : List Fd) → IsMount (mount_of opened) → (answered : Bool) (events : List Event) (old new : CallerState) → old.pass.view.opened ≡ opened → HasTurned fds answered events old new
    → (start : PassState) → HasCome fds old.work start old.pass → Acts opened fds answered events (actor_of old) (actor_of new)
turned_acts laws opened fds mount answered events old new same turned start come =
    record { number = number_kept events old.pass new.pass turned.moved; task = by old.work new.work come turned.ends turned.call turned.batch turned.moved }
  where
    by : (work then_ : Work) → HasCome fds work start old.pass → WorkEnds answered work then_ → CallTurns fds answered work then_ old.pass new.pass
        → BatchTurns answered work then_ old.pass new.pass → MovesBy (IsBarredWork old.pass.view.opened.sizes fds answered work) events old.pass new.pass
        → TaskActs opened fds answered events (task_of work) (task_of then_) (by_pass old.pass (task_of work)) (by_pass new.pass (task_of then_))
    by (Calls thread) (Calls after) come ends call batch moved = thread_acts laws opened fds mount answered thread after old.pass new.pass same events come.last come.at call ends moved
    by (Batches cleaner) (Batches after) come ends call batch moved = (ends.0, cleaner_acts opened answered cleaner after old.pass new.pass same events come.last come.at batch ends.0 moved)
    by (Calls thread) (Batches after) come ends call batch moved = absurd ends
    by (Batches cleaner) (Calls after) come ends call batch moved = absurd ends

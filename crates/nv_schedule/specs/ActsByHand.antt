-- Acts by hand: a small schedule, advance by advance, and what its advances are not.
use Rattle.std.specs.Prelude.{◌≡◌, ℕ, ◌+◌, Bool, true, false, List, [], ◌∷◌, ◌++◌}
use Rattle.nv_plain.specs.declared.call.FileCall.TheVariants.{Write, Sync}
use Rattle.nv_plain.specs.declared.call.Reply.{Reply}
use Rattle.nv_plain.specs.declared.call.Reply.TheVariants as replies
use Rattle.nv_plain.specs.declared.mode.Mode.TheVariants.{R, Rw}
use Rattle.nv_core.specs.state.Cleaner.{TakeCleaner}
use Rattle.nv_core.specs.state.Words.{ORDER, PAGE, STOP}
use Rattle.nv_core.specs.steps.Events.{BeginsCall, Event, TakesStep}
use Rattle.nv_core.specs.steps.Ops.{ByCleaner, Load, Place, Split, Take}
use Rattle.nv_core.specs.walks.Walks.{acts}
use Rattle.nv_table.specs.state.Opened.{IsRunOf, Opened}
use Rattle.nv_mount.specs.declared.fds.Fd.{Fd}
use Rattle.nv_mirror.specs.declared.answers.Refusal.TheVariants.{BadFd}
use Rattle.nv_trace.specs.declared.token.Reach.TheVariants.{Done, Kind, One}
use Rattle.nv_trace.specs.declared.token.StepName.TheVariants as names
use Rattle.nv_trace.specs.declared.token.Token.TheVariants.{Advance}
use Rattle.nv_trace.specs.declared.token.Turn.TheVariants.{Thread}
use Rattle.nv_trace.specs.declared.trace_call.TraceCall.{TraceCall}
use Rattle.nv_trace.specs.declared.trace_call.TraceCall.TheVariants.{Fsync, Pwrite}
use Rattle.nv_trace.specs.declared.trace_call.TracedCall.{TracedCall}
use Rattle.nv_runner.specs.Lists.{MadeCall}
use Rattle.nv_runner.specs.declared.answer.Answer.{Answer}
use Rattle.nv_runner.specs.declared.answer.Answer.TheVariants.{Open, Placed, Refused}
use Rattle.nv_schedule.specs.Acting.{Acts}
use Rattle.nv_schedule.specs.Actors.{Actor, Batches, Calls}
use Rattle.nv_schedule.specs.CoreRuns.{IsListedOf}
use Rattle.nv_schedule.specs.Played.{Plays}

-- one file of two pages, open for both, and for reading alone; of what cells keep none of these steps tells
abbrev pub hand_opened : Opened
hand_opened = record { sizes = record { page = 64; files = 1; pages = 2; entries = 4; buffers = 1 }; next = 0; lengths = 0 ∷ []; slots = [] }

abbrev pub hand_fds : List Fd
hand_fds = record { file = 0; mode = Rw } ∷ record { file = 0; mode = R } ∷ []

abbrev pub hand_call : (thread : ℕ) → TraceCall → TracedCall
hand_call thread call = record { line = 3 + thread; round = 0; thread = thread; call = call }

-- a thread's actor, by the pass behind its number
abbrev pub thread_at : (thread : ℕ) → (seen : List Event) → List TracedCall → (begun : Bool) → List MadeCall → Actor
thread_at thread seen left begun made = record { number = thread + 1; seen = seen; task = Calls (record { left = left; begun = begun; made = made }) }

-- ---- a write finds another one's page

abbrev pub write_of : (byte thread : ℕ) → TracedCall
write_of byte thread = hand_call thread (Pwrite 0 0 (byte ∷ []))

-- pass 0 makes two passes, and each begins a write of the first page, which the second one finds taken
abbrev pub made_two : List Event
made_two = acts 0 (TakesStep Split 0) ∷ acts 0 (TakesStep Split 0) ∷ []

abbrev pub first_takes : Event
first_takes = acts 1 (BeginsCall (Write 0 0 (7 ∷ [])) (Take (PAGE 0)) 0)

abbrev pub second_meets : Event
second_meets = acts 2 (BeginsCall (Write 0 0 (8 ∷ [])) (Take (PAGE 0)) 1)

abbrev pub second_before : Actor
second_before = thread_at 1 made_two (write_of 8 1 ∷ []) false []

-- ---- a sync takes its place

abbrev pub sync_call : TracedCall
sync_call = hand_call 0 (Fsync 0)

abbrev pub made_one : List Event
made_one = acts 0 (TakesStep Split 0) ∷ []

abbrev pub sync_first : Actor
sync_first = thread_at 0 made_one (sync_call ∷ []) false []

abbrev pub loads_stop : Event
loads_stop = acts 1 (BeginsCall (Sync 0) (Load STOP) 0)

abbrev pub stop_loaded : Actor
stop_loaded = thread_at 0 (made_one ++ loads_stop ∷ []) (sync_call ∷ []) true []

abbrev pub sync_steps : List Event
sync_steps = loads_stop ∷ acts 1 (TakesStep (Load ORDER) 0) ∷ []

abbrev pub sync_places : Event
sync_places = acts 1 (TakesStep (Place replies.Done) 0)

abbrev pub sync_before : Actor
sync_before = thread_at 0 (made_one ++ sync_steps) (sync_call ∷ []) true []

-- ---- a write that its descriptor bars

abbrev pub barred_call : TracedCall
barred_call = hand_call 0 (Pwrite 1 0 (7 ∷ []))

-- ---- a batch

abbrev pub cleaner_takes : (most : ℕ) → Event
cleaner_takes most = acts 1 (TakesStep (ByCleaner (TakeCleaner most)) 0)

abbrev pub cleaner_at : (seen : List Event) → Actor
cleaner_at seen = record { number = 1; seen = seen; task = Batches 2 }

-- ---- what is so of them

-- The write that finds its page taken begins anew: it is not answered, whatever it is said to be. A token that waits for the place of a sync comes to its point behind two advances, and not behind one; a token of one advance makes no two, and none of
-- another thread's pass. The sync is answered at its place, by the first one, and by nothing else; before that it has no answer, and is listed neither as placed nor as open. A write that its descriptor bars is refused for it without an event, and
-- by no event; one that nothing bars makes a step, which is none of another call, or of a batch. A batch is of the bound that is asked for, and isn't over behind its first step.
pub record ActsByHand : Type 0 where
  pub may_come : IsRunOf hand_opened (made_two ++ first_takes ∷ second_meets ∷ []) × IsRunOf hand_opened ((made_one ++ sync_steps) ++ sync_places ∷ [])
  pub meets :
      Plays hand_opened hand_fds false (Advance (Thread 0) One ∷ Advance (Thread 1) One ∷ []) (thread_at 0 made_two (write_of 7 0 ∷ []) false [] ∷ second_before ∷ []) (first_takes ∷ second_meets ∷ [])
      (thread_at 0 (made_two ++ first_takes ∷ []) (write_of 7 0 ∷ []) true [] ∷ thread_at 1 (made_two ++ first_takes ∷ second_meets ∷ []) (write_of 8 1 ∷ []) true [] ∷ [])
  pub begins_anew : (left : List TracedCall) (begun : Bool) (made : List MadeCall)
      → Acts hand_opened hand_fds true (second_meets ∷ []) second_before (thread_at 1 (made_two ++ first_takes ∷ second_meets ∷ []) left begun made) → ⊥
  pub waits :
      Plays hand_opened hand_fds false (Advance (Thread 0) (Kind names.Place) ∷ []) (sync_first ∷ []) sync_steps (sync_before ∷ [])
  pub not_sooner : Plays hand_opened hand_fds false (Advance (Thread 0) (Kind names.Place) ∷ []) (sync_first ∷ []) (loads_stop ∷ []) (stop_loaded ∷ []) → ⊥
  pub not_later : (then_ : List Actor) → Plays hand_opened hand_fds false (Advance (Thread 0) One ∷ []) (sync_first ∷ []) sync_steps then_ → ⊥
  pub by_its_own : (then_ : List Actor) → Plays hand_opened hand_fds false (Advance (Thread 0) One ∷ []) (thread_at 0 made_two (write_of 7 0 ∷ []) false [] ∷ second_before ∷ []) (second_meets ∷ []) then_ → ⊥
  pub ends :
      Plays hand_opened hand_fds false (Advance (Thread 0) Done ∷ []) (sync_before ∷ []) (sync_places ∷ [])
      (thread_at 0 ((made_one ++ sync_steps) ++ sync_places ∷ []) [] false (record { call = sync_call; answer = Placed 0 replies.Done } ∷ []) ∷ [])
  pub one_answer : (left : List TracedCall) (answer : Answer)
      → Acts hand_opened hand_fds true (sync_places ∷ []) sync_before (thread_at 0 ((made_one ++ sync_steps) ++ sync_places ∷ []) left false (record { call = sync_call; answer = answer } ∷ [])) → answer ≡ Placed 0 replies.Done
  pub unanswered : IsListedOf hand_opened hand_fds [] stop_loaded [] (sync_call ∷ [])
  pub not_placed : (place : ℕ) (reply : Reply) (unanswered : List TracedCall) → IsListedOf hand_opened hand_fds [] stop_loaded (record { call = sync_call; answer = Placed place reply } ∷ []) unanswered → ⊥
  pub not_open : (number : ℕ) (unanswered : List TracedCall) → IsListedOf hand_opened hand_fds [] stop_loaded (record { call = sync_call; answer = Open number } ∷ []) unanswered → ⊥
  pub barred : Acts hand_opened hand_fds true [] (thread_at 0 made_one (barred_call ∷ []) false []) (thread_at 0 made_one [] false (record { call = barred_call; answer = Refused BadFd } ∷ []))
  pub by_none : (answered : Bool) (events : List Event) (to : Actor) → Acts hand_opened hand_fds answered events (thread_at 0 made_one (barred_call ∷ []) false []) to → events ≡ []
  pub makes_one : (answered : Bool) (to : Actor) → Acts hand_opened hand_fds answered [] sync_first to → ⊥
  pub no_other_call : (answered : Bool) (to : Actor) → Acts hand_opened hand_fds answered (loads_stop ∷ []) (thread_at 0 made_one (write_of 7 0 ∷ []) false []) to → ⊥
  pub no_batch : (answered : Bool) (to : Actor) → Acts hand_opened hand_fds answered (cleaner_takes 2 ∷ []) sync_first to → ⊥
  pub cleans : Acts hand_opened hand_fds false (cleaner_takes 2 ∷ []) (cleaner_at made_one) (cleaner_at (made_one ++ cleaner_takes 2 ∷ []))
  pub no_other : (answered : Bool) (to : Actor) → Acts hand_opened hand_fds answered (cleaner_takes 3 ∷ []) (cleaner_at made_one) to → ⊥
  pub goes_on : Acts hand_opened hand_fds true (cleaner_takes 2 ∷ []) (cleaner_at made_one) (cleaner_at (made_one ++ cleaner_takes 2 ∷ [])) → ⊥

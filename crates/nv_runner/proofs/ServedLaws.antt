-- Served: what the workers of a round have done since their passes were made.
use Rattle.std.proofs.Common.{◌≡◌, ℕ, suc, ◌<◌, ◌≤◌, ◌==◌, inl, inr, Bool, true, false, cond, List, [], ◌∷◌, ◌++◌, length, take, drop, refl, sym, ap, subst, ◌∙◌, arith, append-nil, length-append, ne_eqb}
use Rattle.std.specs.Prelude.{All, IsPermutation, Option, Some, None, is_some, slice_index_or}
use Rattle.std.specs.List.{flat_map, sum_by}
use Rattle.std.proofs.lemmas.List.{at_drop_all, length-map, map-append, take-append-drop, take-append-le}
use Rattle.std.proofs.lemmas.List.Elements.{All-filter, All-head, All-tail, All-weaker}
use Rattle.std.proofs.lemmas.List.Concat.{length-flat_map}
use Rattle.std.proofs.lemmas.List.Sums.{sum_by-cons}
use Rattle.std.proofs.lemmas.List.Sorted.{IsPermutation-map, IsPermutation-trans, length_permutation}
use Rattle.nv_core.specs.state.Passes.{IsOneOf}
use Rattle.nv_table.specs.state.States.{PassState}
use Rattle.nv_table.specs.state.Views.{AreDistinctNumbers, Past, PassView}
use Rattle.nv_mount.specs.Mounts.{MountState}
use Rattle.nv_mount.specs.declared.fds.Fd.{Fd}
use Rattle.nv_mirror.specs.Answers.{IsUnplaced}
use Rattle.nv_trace.specs.declared.trace_call.TracedCall.{TracedCall}
use Rattle.nv_runner.specs.Lists.{AreMade, MadeCall, calls_made}
use Rattle.nv_runner.specs.OpenWrites.{KeepsFaults}
use Rattle.nv_runner.specs.Owners.{if_owner}
use Rattle.nv_runner.specs.Rounds.{AreCallsOf}
use Rattle.nv_runner.specs.Shifts.{calls_of_thread}
use Rattle.nv_runner.specs.Workers.{HasCleaned, HasDonePart, HasMadeAll, HasServed, HasShare, HasWorked, IsNewWorker, IsReady, WorkerState, crew_of, threads_of}
use Rattle.nv_runner.proofs.histories.HistoryMembers.{of_each, of_one, one_left, one_mapped, one_moved, one_of_joined}
use Rattle.nv_runner.proofs.ShiftRuns.{on_none}
use Rattle.nv_runner.proofs.TryLaws.{no_batch}
use Rattle.nv_runner.proofs.RoundLists.{all_calls, calls_of, few_calls, in_crew}

-- ---- one worker

unplaced_still : (view : PassView) → IsUnplaced view view
unplaced_still view = record { seen = refl; mine = refl }

keeps_still : (pass : PassState) → KeepsFaults pass pass
keeps_still pass = record { opens = refl; stays = λ seen. seen }

-- it has made no call
made_none : (fds : List Fd) (batch : Option ℕ) (made : List MadeCall) (start : PassState) → made ≡ [] → AreMade fds batch made start start
made_none fds batch made start none = subst (λ l. AreMade fds batch l start start) (sym none) refl

module _ {L B : Type 0} (mount : MountState) (batch : Option ℕ) (ended : List Past) (calls : List TracedCall) where
  pub served_new : (worker : WorkerState L B) → IsNewWorker mount ended worker → HasServed mount batch ended calls worker
  served_new worker new = record {
    ready = new.ready;
    start = worker.pass;
    newcomer = new.newcomer;
    left = calls_of_thread worker.thread calls;
    some = ap (λ l. calls_made l ++ calls_of_thread worker.thread calls) new.none;
    last = worker.pass;
    each = made_none mount.fds batch worker.made worker.pass new.none;
    behind = inl new.none;
    batches = no_batch batch worker.pass;
    quiet = unplaced_still worker.pass.view;
    on = on_none batch worker.pass worker.pass refl;
    keeps = keeps_still worker.pass;
    number = refl;
  }

  pub served_worked : (old new : WorkerState L B) → IsNewWorker mount ended old → HasShare calls old → HasWorked mount batch old new → HasServed mount batch ended calls new
  served_worked old new is share worked = record {
    ready = worked.ready;
    start = old.pass;
    newcomer = is.newcomer;
    left = worked.some.left;
    some = worked.some.some ∙ share ∙ ap (λ thread. calls_of_thread thread calls) (sym worked.thread);
    last = new.pass;
    each = worked.some.each;
    behind = inr refl;
    batches = no_batch batch new.pass;
    quiet = unplaced_still new.pass.view;
    on = on_none batch new.pass new.pass refl;
    keeps = keeps_still new.pass;
    number = worked.later.number;
  }

  pub served_cleaned : (old new : WorkerState L B) → IsNewWorker mount ended old → HasCleaned mount batch old new → HasServed mount batch ended calls new
  served_cleaned old new is cleaned = record {
    ready = cleaned.ready;
    start = old.pass;
    newcomer = is.newcomer;
    left = calls_of_thread new.thread calls;
    some = ap (λ l. calls_made l ++ calls_of_thread new.thread calls) (cleaned.made ∙ is.none);
    last = old.pass;
    each = made_none mount.fds batch new.made old.pass (cleaned.made ∙ is.none);
    behind = inl (cleaned.made ∙ is.none);
    batches = cleaned.batches;
    quiet = cleaned.unplaced;
    on = cleaned.on;
    keeps = cleaned.keeps;
    number = cleaned.later.number;
  }

  -- whether it says that it is done changes nothing of that
  pub served_done : (worker : WorkerState L B) (done : Bool) → HasServed mount batch ended calls worker → HasServed mount batch ended calls (record worker { done = done })
  served_done worker done served =
      let ready = served.ready in
      record {
        ready = record { board = ready.board; other = ready.other; idle = ready.idle; workspace = ready.workspace; bare = ready.bare };
        start = served.start;
        newcomer = served.newcomer;
        left = served.left;
        some = served.some;
        last = served.last;
        each = served.each;
        behind = served.behind;
        batches = served.batches;
        quiet = served.quiet;
        on = served.on;
        keeps = served.keeps;
        number = served.number;
      }

  -- its calls are some of these
  its_within : (worker : WorkerState L B) → HasServed mount batch ended calls worker → (m : MadeCall) → IsOneOf worker.made m → IsOneOf calls m.call
  its_within worker served m one =
      of_one (IsOneOf calls) (calls_of_thread worker.thread calls) m.call (All-filter (λ (c : TracedCall). c.thread == worker.thread) (IsOneOf calls) calls (of_each (IsOneOf calls) calls (λ c there. there)))
      (subst (λ l. IsOneOf l m.call) served.some (one_left (calls_made worker.made) served.left m.call (one_mapped (λ (m : MadeCall). m.call) worker.made m one)))

  -- and so are those of all workers
  pub served_within : (workers : List (WorkerState L B)) (made : List MadeCall) → All (HasServed mount batch ended calls) workers → IsPermutation made (flat_map (λ (w : WorkerState L B). w.made) workers) → AreCallsOf calls made
  served_within workers made all listed m one =
      let found = one_of_joined (λ (w : WorkerState L B). w.made) workers m (one_moved made (flat_map (λ (w : WorkerState L B). w.made) workers) m listed one) in
      its_within found.0 (of_one (HasServed mount batch ended calls) workers found.0 all found.1) m found.2

  -- ---- all of them

  pub all_served_new : (workers : List (WorkerState L B)) → All (IsNewWorker mount ended) workers → All (HasServed mount batch ended calls) workers
  all_served_new workers new = All-weaker (IsNewWorker mount ended) (HasServed mount batch ended calls) served_new workers new

-- ---- workers that have done their parts

module _ {L B : Type 0} (mount : MountState) (batch : Option ℕ) where
  abbrev AllDid : List (WorkerState L B) → List (WorkerState L B) → Type 0
  AllDid old new = (i : ℕ) (d : WorkerState L B) → i < length old → HasDonePart mount batch (slice_index_or old i d) (slice_index_or new i d)

  pub threads_stay : (old new : List (WorkerState L B)) → length new ≡ length old → AllDid old new → threads_of new ≡ threads_of old
  threads_stay [] [] long did = refl
  threads_stay [] (new ∷ more) long did = absurd (omega (arith, long))
  threads_stay (old ∷ others) [] long did = absurd (omega (arith, long))
  threads_stay (old ∷ others) (new ∷ more) long did =
      ap (λ thread. thread ∷ threads_of more) (did 0 old (omega arith)).thread
      ∙ ap (λ l. old.thread ∷ l) (threads_stay others more (omega (arith, long)) (λ i d less. did (suc i) d (omega (arith, less))))

  pub all_still_ready : (old new : List (WorkerState L B)) → length new ≡ length old → AllDid old new → All (IsReady mount) new
  all_still_ready old new long did k d inside = (did k d (omega (arith, long, inside))).ready

  pub all_did_serve : (ended : List Past) (calls : List TracedCall) (old new : List (WorkerState L B)) → length new ≡ length old → AllDid old new → All (IsNewWorker mount ended) old → All (HasShare calls) old
      → All (HasServed mount batch ended calls) new
  all_did_serve ended calls old new long did is share k d inside =
      (did k d (omega (arith, long, inside))).served ended calls (is k d (omega (arith, long, inside))) (share k d (omega (arith, long, inside)))

  pub all_did_all : (calls : List TracedCall) (old new : List (WorkerState L B)) → length new ≡ length old → AllDid old new → All (HasShare calls) old → All (λ worker. worker.done ≡ true → HasMadeAll calls worker) new
  all_did_all calls old new long did share k d inside = (did k d (omega (arith, long, inside))).all calls (share k d (omega (arith, long, inside)))

-- what a vector has whose slice was written
pub written : {X : Type 0} (count : ℕ) (items new : List X) → length new ≡ length items → count ≡ length items → take count (new ++ drop (length new) items) ≡ new
written count items new long is =
    let whole : take count new ≡ new = sym (append-nil (take count new)) ∙ ap (λ l. take count new ++ l) (sym (at_drop_all (λ l. l) new count (omega (arith, long, is)))) ∙ take-append-drop count new in
    take-append-le count new (drop (length new) items) (omega (arith, long, is)) ∙ whole

-- ---- the cleaner

-- whether it is done changes nothing else
pub cleaned_done : {L B : Type 0} (mount : MountState) (batch : Option ℕ) (old new : WorkerState L B) (done : Bool) → HasCleaned mount batch old new → HasCleaned mount batch old (record new { done = done })
cleaned_done mount batch old new done cleaned =
    let ready = cleaned.ready in
    record {
      thread = cleaned.thread;
      ready = record { board = ready.board; other = ready.other; idle = ready.idle; workspace = ready.workspace; bare = ready.bare };
      later = cleaned.later;
      unplaced = cleaned.unplaced;
      batches = cleaned.batches;
      on = cleaned.on;
      keeps = cleaned.keeps;
      made = cleaned.made;
    }

-- no call is its
pub none_of_thread : (thread : ℕ) (calls : List TracedCall) → All (λ call. call.thread < thread) calls → calls_of_thread thread calls ≡ []
none_of_thread thread [] below = refl
none_of_thread thread (call ∷ more) below =
    let less = All-head (λ (c : TracedCall). c.thread < thread) call more below in
    let rest = calls_of_thread thread more in
    ap (λ b. cond b (call ∷ rest) rest) (ne_eqb call.thread thread (λ is. omega (arith, less, is))) ∙ none_of_thread thread more (All-tail (λ (c : TracedCall). c.thread < thread) call more below)

-- one that had no calls left, and made none, has made all
pub cleaner_all : {L B : Type 0} (calls : List TracedCall) (old new : WorkerState L B) → HasShare calls old → old.left ≡ [] → new.thread ≡ old.thread → new.made ≡ [] → HasMadeAll calls new
cleaner_all calls old new share none thread made =
    ap calls_made made ∙ sym none ∙ share ∙ ap (λ number. calls_of_thread number calls) (sym thread)

-- an owner that isn't there has none
pub no_owner : {X Y : Type 0} (list : X → List Y) (owner : Option X) → is_some owner ≡ false → if_owner list owner ≡ []
no_owner list None none = refl
no_owner list (Some owner) none = absurd (cc)

-- one that made all the calls that it had left made all of its share
pub worker_all : {L B : Type 0} (calls : List TracedCall) (old new : WorkerState L B) → HasShare calls old → new.thread ≡ old.thread → calls_made new.made ≡ old.left → HasMadeAll calls new
worker_all calls old new share thread all = all ∙ share ∙ ap (λ number. calls_of_thread number calls) (sym thread)

-- ---- how many calls they made, and which

module _ {L B : Type 0} (calls : List TracedCall) where
  pub made_calls_are : (workers : List (WorkerState L B)) → All (HasMadeAll calls) workers → calls_made (flat_map (λ (w : WorkerState L B). w.made) workers) ≡ calls_of (threads_of workers) calls
  made_calls_are [] all = refl
  made_calls_are (worker ∷ more) all =
      map-append (λ (m : MadeCall). m.call) worker.made (flat_map (λ (w : WorkerState L B). w.made) more)
      ∙ ap (λ l. l ++ calls_made (flat_map (λ (w : WorkerState L B). w.made) more)) (All-head (HasMadeAll calls) worker more all)
      ∙ ap (λ l. calls_of_thread worker.thread calls ++ l) (made_calls_are more (All-tail (HasMadeAll calls) worker more all))

  few_made : (mount : MountState) (batch : Option ℕ) (ended : List Past) (workers : List (WorkerState L B)) → All (HasServed mount batch ended calls) workers
      → sum_by (λ (w : WorkerState L B). length w.made) workers ≤ length (calls_of (threads_of workers) calls)
  few_made mount batch ended [] served = omega arith
  few_made mount batch ended (worker ∷ more) served =
      let this = All-head (HasServed mount batch ended calls) worker more served in
      let rest = few_made mount batch ended more (All-tail (HasServed mount batch ended calls) worker more served) in
      let sum = sum_by-cons (λ (w : WorkerState L B). length w.made) worker more in
      omega (arith, sum, rest, ap length this.some, length-append (calls_made worker.made) this.left, length-map worker.made (λ (m : MadeCall). m.call), length-append (calls_of_thread worker.thread calls) (calls_of (threads_of more) calls))

  pub room_for_all : (mount : MountState) (batch : Option ℕ) (ended : List Past) (workers : List (WorkerState L B)) → All (HasServed mount batch ended calls) workers → AreDistinctNumbers (threads_of workers)
      → sum_by (λ (w : WorkerState L B). length w.made) workers ≤ length calls
  room_for_all mount batch ended workers served distinct = omega (arith, few_made mount batch ended workers served, few_calls (threads_of workers) calls distinct)

  -- so are they in whatever list of them
  pub few_listed : (mount : MountState) (batch : Option ℕ) (ended : List Past) (workers : List (WorkerState L B)) (made : List MadeCall) → All (HasServed mount batch ended calls) workers → AreDistinctNumbers (threads_of workers)
      → IsPermutation made (flat_map (λ (w : WorkerState L B). w.made) workers) → length made ≤ length calls
  few_listed mount batch ended workers made served distinct listed =
      omega (arith, room_for_all mount batch ended workers served distinct, length_permutation made (flat_map (λ (w : WorkerState L B). w.made) workers) listed, length-flat_map (λ (w : WorkerState L B). w.made) workers)

-- all calls of the round are made then
pub all_made : {L B : Type 0} (count : ℕ) (batch : Option ℕ) (calls : List TracedCall) (workers : List (WorkerState L B)) (made : List MadeCall) → All (λ call. call.thread < count) calls
    → threads_of workers ≡ crew_of count batch → AreDistinctNumbers (threads_of workers) → All (HasMadeAll calls) workers
    → IsPermutation made (flat_map (λ (w : WorkerState L B). w.made) workers) → IsPermutation (calls_made made) calls
all_made {L = L} {B = B} count batch calls workers made below crew distinct all listed =
    let ours = flat_map (λ (w : WorkerState L B). w.made) workers in
    let theirs : IsPermutation (calls_made ours) calls = subst (λ l. IsPermutation l calls) (sym (made_calls_are calls workers all)) (all_calls (threads_of workers) calls distinct (λ call one. subst (λ l. IsOneOf l call.thread) (sym crew) (in_crew count batch call.thread (of_one (λ (c : TracedCall). c.thread < count) calls call below one)))) in
    IsPermutation-trans (calls_made made) (calls_made ours) calls (IsPermutation-map (λ (m : MadeCall). m.call) made ours listed) theirs

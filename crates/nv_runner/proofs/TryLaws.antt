-- Tries: how the run goes on by all tries of a call.
use Rattle.std.proofs.Common.{◌≡◌, ℕ, zero, suc, ◌+◌, ◌*◌, ◌&&◌, Bool, true, false, if◌then◌else◌, nat_lt, List, [], ◌∷◌, ◌++◌, length, refl, sym, ap, subst, ◌∙◌, arith}
use Rattle.std.specs.Prelude.{Option, Some, None, Result, Ok, Err, IfOk, OnErr, min}
use Rattle.std.specs.List.{slice_get}
use Rattle.std.proofs.lemmas.Bool.{true≢false}
use Rattle.std.proofs.lemmas.List.{append_assoc}
use Rattle.std.proofs.lemmas.List.Elements.{All-append}
use Rattle.nv_plain.specs.Histories.{Answered}
use Rattle.nv_plain.specs.Layouts.{mount_layout}
use Rattle.nv_plain.specs.Modes.{can_read, can_write}
use Rattle.nv_plain.specs.Pieces.{pages_touched}
use Rattle.nv_plain.specs.declared.call.FileCall.{FileCall}
use Rattle.nv_plain.specs.declared.call.FileCall.TheVariants.{Read, Write}
use Rattle.nv_plain.specs.declared.call.Reply.{Reply}
use Rattle.nv_plain.specs.declared.mode.Mode.{Mode}
use Rattle.nv_core.specs.state.Words.{Sizes}
use Rattle.nv_core.specs.state.Passes.{plain_call}
use Rattle.nv_core.specs.steps.Events.{Event}
use Rattle.nv_core.specs.steps.Frames.{OwnEventsTell}
use Rattle.nv_core.specs.steps.Opening.{IsMount}
use Rattle.nv_core.specs.invariant.Draws.{entries_of, placed_entries}
use Rattle.nv_core.proofs.invariant.KeepsDraws.{idle_passes_have_drawn}
use Rattle.nv_table.specs.invariant.Idle.{IsIdle}
use Rattle.nv_table.specs.state.Opened.{Opened, mount_of}
use Rattle.nv_table.specs.state.States.{PassState}
use Rattle.nv_table.specs.state.Views.{pass_of}
use Rattle.nv_mount.specs.declared.fds.Fd.{Fd}
use Rattle.nv_mirror.specs.declared.answers.Done.{Done}
use Rattle.nv_mirror.specs.declared.answers.Refusal.{Refusal}
use Rattle.nv_mirror.specs.declared.answers.Refusal.TheVariants.{BadFd, TooFar, TooLong, Busy, Stopped, Spent, RegionFault, StoreFault}
use Rattle.nv_mirror.specs.Answers.{IsPlacedAs, IsSyncPlaced, IsUnplaced, place_in_answer, refusal_in_answer}
use Rattle.nv_mirror.specs.OwnSteps.{AreOwnAs}
use Rattle.nv_mirror.specs.Controls.{IsOver}
use Rattle.nv_mirror.specs.PassSteps.{is_fault, stops_in}
use Rattle.nv_mirror.proofs.StopLaws.{mild_both, sets_stop}
use Rattle.nv_calls.specs.calls.EarlyRefusals.{early_refusal, early_fd_refusal, early_range_refusal}
use Rattle.nv_calls.specs.calls.EndedCalls.{IsOverBy}
use Rattle.nv_calls.specs.fsync.SyncRuns.{IsSyncRun, file_of_fd}
use Rattle.nv_calls.specs.calls.Asks.{IsMadeAsRead, IsMadeAsWrite}
use Rattle.nv_calls.specs.histories.Tries.{IsTriedAs, Try, WereBusyAs}
use Rattle.nv_calls.specs.reads.Reads.{IsReadDoneAs, IsReadOverAs}
use Rattle.nv_calls.specs.writes.Writes.{IsWriteOverAs, IsWriteTriedAs, WereMadeAgainAs, is_made_again}
use Rattle.nv_trace.specs.declared.trace_call.TraceCall.{TraceCall}
use Rattle.nv_runner.specs.Entries.{entries_taken}
use Rattle.nv_runner.specs.declared.answer.Answer.{Answer}
use Rattle.nv_runner.specs.Calls.{IsLasting, Tells, wants_room}
use Rattle.nv_runner.specs.OpenWrites.{without_place}
use Rattle.nv_runner.specs.Runs.{CleansNothing, GoesOn, entries_drawn, entries_if, has_drawn, is_cleaning}
use Rattle.nv_runner.specs.Tries.{HasRunBatches, RanBatches}
use Rattle.nv_runner.specs.TryLaws.{BatchesFollow, BatchesGoOn, NoBatchIsRun, OneBatchIsRun, SyncsGoOn, WritesGoOn, write_drawn}
use Rattle.nv_runner.proofs.RefusalSteps.{Stands, own_any, stands}
use Rattle.nv_runner.proofs.RefusalWords.{WordLaws}
use Rattle.nv_runner.proofs.RunLaws.{Went, batch_went, plain_went, went_as, went_both, went_nowhere}

-- ---- what a pass has drawn

placed_more : (sizes : Sizes) (calls : List Answered) (one : Answered) (call : FileCall) → plain_call one.call ≡ call → placed_entries sizes (calls ++ one ∷ []) ≡ placed_entries sizes calls + entries_of sizes call
placed_more sizes [] one call made = let same = ap (entries_of sizes) made in omega (arith, same)
placed_more sizes (first ∷ rest) one call made = let again = placed_more sizes rest one call made in omega (arith, again)

-- between two calls
goes : (worker : Option ℕ) (calls : Bool) (placed many : ℕ) (old new : PassState) → IsIdle old → IsIdle new → (worker ≡ None → calls ≡ true) → Went calls many old new
    → placed_entries old.view.opened.sizes (pass_of new.view).mine ≡ placed_entries old.view.opened.sizes (pass_of old.view).mine + placed → GoesOn worker (placed + many) old new
goes worker calls placed many old new before after only went mine = record {
  more = went.more;
  run = went.run;
  drawn = (let a = idle_passes_have_drawn old.view.opened.sizes (pass_of old.view) before.control in
      let b = idle_passes_have_drawn new.view.opened.sizes (pass_of new.view) after.control in
      let c = ap (λ (o : Opened). placed_entries o.sizes (pass_of new.view).mine) went.opened in
      let d = went.faults in
      omega (arith, a, b, c, d, mine));
  calls = λ none. went.nothing (only none);
}

unplaced_mine : (sizes : Sizes) (old new : PassState) → IsUnplaced old.view new.view → placed_entries sizes (pass_of new.view).mine ≡ placed_entries sizes (pass_of old.view).mine + 0
unplaced_mine sizes old new same = let is = ap (placed_entries sizes) same.mine in omega (arith, is)

-- ---- early refusals are for no device fault

range_mild : (sizes : Sizes) (at len : ℕ) → is_fault (early_range_refusal sizes at len) ≡ false
range_mild sizes at len =
    let long = nat_lt (min mount_layout.group_limit sizes.entries) (pages_touched at len sizes.page) in
    mild_both (nat_lt (sizes.page * sizes.pages) (at + len)) (Some TooFar) (if long then Some TooLong else None) refl (mild_both long (Some TooLong) None refl refl)

early_mild : (may : Mode → Bool) (sizes : Sizes) (fd : Option Fd) (at len : ℕ) → is_fault (early_fd_refusal may sizes fd at len) ≡ false
early_mild may sizes None at len = refl
early_mild may sizes (Some one) at len = mild_both (may one.mode) (early_range_refusal sizes at len) (Some BadFd) (range_mild sizes at len) refl

-- ---- tries that are over

none_if : (b : Bool) → entries_if b 0 ≡ 0
none_if true = refl
none_if false = refl

-- what a call keeps that a fault ended
abbrev fault_if : Result Done Refusal → (entries : ℕ) → ℕ
fault_if result entries = entries_if (is_fault (refusal_in_answer result)) entries

again_mild : (refusal : Refusal) → is_made_again refusal ≡ true → is_fault (Some refusal) ≡ false
again_mild RegionFault again = absurd (cc)
again_mild StoreFault again = absurd (cc)
again_mild refusal again = refl

module _ (laws : WordLaws) (tell : OwnEventsTell) (fds : List Fd) where
  over_stands : (asked call : FileCall) → plain_call asked ≡ call → (refusal : Option Refusal) (place : Option ℕ) (last now : PassState) → IsMount (mount_of last.view.opened) → (over : IsOver asked refusal place last now)
      → Stands last.view.opened.sizes call last over.steps now
  over_stands asked call made refusal place last now mount over =
      let sizes = last.view.opened.sizes in
      stands laws tell sizes asked call made last mount over.steps now over.made (own_any sizes asked call over.steps (subst (λ (call : FileCall). AreOwnAs sizes asked call over.steps) made over.own))

  -- a read, whatever it is asked as
  read_went : (asks : (len file : ℕ) → FileCall) (fd at : ℕ) (list : List ℕ) (last now : PassState) (result : Result Done Refusal) → IsMadeAsRead asks at (length list) → IsMount (mount_of last.view.opened)
      → IsReadOverAs asks fds fd at list last now result → Went true 0 last now
  read_went asks fd at list last now result made mount over = by (early_refusal can_read last.view.opened.sizes fds fd at (length list)) over
    where
      by : (early : Option Refusal) → IsOverBy early (file_of_fd fds fd) (λ file. IsReadDoneAs (asks (length list) file) list last now result) last now result → Went true 0 last now
      by (Some bar) ended = went_nowhere true last now ended.1
      by None ended =
          let is = over_stands (asks (length list) ended.0) (Read ended.0 at (length list)) (made ended.0) (refusal_in_answer result) (place_in_answer result) last now mount ended.2.over in
          went_as true _ 0 last now (none_if (stops_in ended.2.over.steps)) is.went

  -- a write, whatever it is asked as
  write_went : (asks : (file : ℕ) → FileCall) (fd at : ℕ) (bytes : List ℕ) (last now : PassState) (result : Result Done Refusal) → IsMadeAsWrite asks at bytes → IsMount (mount_of last.view.opened)
      → IsWriteOverAs asks fds fd at (length bytes) last now result → Went true (fault_if result (pages_touched at (length bytes) last.view.opened.sizes.page)) last now
  write_went asks fd at bytes last now result made mount over =
      by (early_refusal can_write last.view.opened.sizes fds fd at (length bytes)) (early_mild can_write last.view.opened.sizes (slice_get fds fd) at (length bytes)) over
    where
      sizes : Sizes
      sizes = last.view.opened.sizes

      pages : ℕ
      pages = pages_touched at (length bytes) last.view.opened.sizes.page

      by : (early : Option Refusal) → is_fault early ≡ false → IsOverBy early (file_of_fd fds fd) (λ file. IsOver (asks file) (refusal_in_answer result) (place_in_answer result) last now) last now result
          → Went true (fault_if result pages) last now
      by (Some bar) mild ended = went_as true 0 _ last now (sym (ap (λ r. fault_if r pages) ended.0 ∙ ap (λ b. entries_if b pages) mild)) (went_nowhere true last now ended.1)
      by None mild ended =
          let asked = asks ended.0 in
          let call = Write ended.0 at bytes in
          let done = ended.2 in
          let is = over_stands asked call (made ended.0) (refusal_in_answer result) (place_in_answer result) last now mount done in
          let set = sets_stop sizes (plain_call asked) laws.sound tell last mount asked done.steps now done.made done.own in
          went_as true _ _ last now (ap (λ b. entries_if b pages) (set ∙ ap is_fault done.refused)) is.went

  -- ---- all tries

  busy_went : (asks : (len file : ℕ) → FileCall) (fd at len : ℕ) (tries : List Try) (start now : PassState) → IsMadeAsRead asks at len → IsMount (mount_of start.view.opened) → WereBusyAs asks fds fd at len tries start now
      → Went true 0 start now
  busy_went asks fd at len [] start now made mount same = went_nowhere true start now same
  busy_went asks fd at len (last ∷ earlier) start now made mount were =
      let before = busy_went asks fd at len earlier start were.0 made mount were.1 in
      went_both true 0 0 start were.0 now before
      (read_went asks fd at last.list were.0 now (Err (Busy last.cell)) (subst (IsMadeAsRead asks at) (sym were.2) made) (subst (λ (o : Opened). IsMount (mount_of o)) (sym before.opened) mount) were.3)

  again_went : (asks : (file : ℕ) → FileCall) (fd at : ℕ) (bytes : List ℕ) (tries : List Refusal) (start now : PassState) → IsMadeAsWrite asks at bytes → IsMount (mount_of start.view.opened)
      → WereMadeAgainAs asks fds fd at (length bytes) tries start now → Went true 0 start now
  again_went asks fd at bytes [] start now made mount same = went_nowhere true start now same
  again_went asks fd at bytes (last ∷ earlier) start now made mount were =
      let before = again_went asks fd at bytes earlier start were.0 made mount were.1 in
      went_both true 0 0 start were.0 now before
      (went_as true _ 0 were.0 now (ap (λ b. entries_if b (pages_touched at (length bytes) were.0.view.opened.sizes.page)) (again_mild last were.2))
      (write_went asks fd at bytes were.0 now (Err last) made (subst (λ (o : Opened). IsMount (mount_of o)) (sym before.opened) mount) were.3))

  -- ---- reads

  read_mine : (asks : (len file : ℕ) → FileCall) (at : ℕ) (list : List ℕ) (start now : PassState) (result : Result Done Refusal) → IsMadeAsRead asks at (length list)
      → IfOk result (λ done. (file : ℕ) × (reply : Reply) × IsPlacedAs start.view now.view (asks (length list) file) reply done.place) → OnErr result (IsUnplaced start.view now.view)
      → placed_entries start.view.opened.sizes (pass_of now.view).mine ≡ placed_entries start.view.opened.sizes (pass_of start.view).mine + 0
  read_mine asks at list start now (Ok done) made told kept =
      ap (placed_entries start.view.opened.sizes) told.2.mine ∙ placed_more start.view.opened.sizes (pass_of start.view).mine _ (Read told.0 at (length list)) (made told.0)
  read_mine asks at list start now (Err refusal) made told kept = unplaced_mine start.view.opened.sizes start now kept

  pub reads_go_on : (asks : (len file : ℕ) → FileCall) (fd at : ℕ) (list : List ℕ) (start now : PassState) (result : Result Done Refusal) → IsMadeAsRead asks at (length list) → IsMount (mount_of start.view.opened) → IsIdle start → IsIdle now
      → IfOk result (λ done. (file : ℕ) × (reply : Reply) × IsPlacedAs start.view now.view (asks (length list) file) reply done.place) → OnErr result (IsUnplaced start.view now.view)
      → IsTriedAs asks fds fd at list start now result → GoesOn None 0 start now
  reads_go_on asks fd at list start now result made mount before after told kept tried =
      let busy = busy_went asks fd at (length list) tried.tries start tried.last made mount tried.busy in
      goes None true 0 0 start now before after (λ _. refl)
      (went_both true 0 0 start tried.last now busy (read_went asks fd at list tried.last now result made (subst (λ (o : Opened). IsMount (mount_of o)) (sym busy.opened) mount) tried.over))
      (read_mine asks at list start now result made told kept)

  -- ---- writes

  abbrev write_placed : Result Done Refusal → (entries : ℕ) → ℕ
  write_placed (Ok done) entries = entries
  write_placed (Err refusal) entries = 0

  write_mine : (asks : (file : ℕ) → FileCall) (at : ℕ) (bytes : List ℕ) (start now : PassState) (result : Result Done Refusal) → IsMadeAsWrite asks at bytes
      → IfOk result (λ done. (file : ℕ) × (reply : Reply) × IsPlacedAs start.view now.view (asks file) reply done.place) → OnErr result (IsUnplaced start.view now.view)
      → placed_entries start.view.opened.sizes (pass_of now.view).mine
      ≡ placed_entries start.view.opened.sizes (pass_of start.view).mine + write_placed result (pages_touched at (length bytes) start.view.opened.sizes.page)
  write_mine asks at bytes start now (Ok done) made told kept =
      ap (placed_entries start.view.opened.sizes) told.2.mine ∙ placed_more start.view.opened.sizes (pass_of start.view).mine _ (Write told.0 at bytes) (made told.0)
  write_mine asks at bytes start now (Err refusal) made told kept = unplaced_mine start.view.opened.sizes start now kept

  write_both : (sizes : Sizes) (at len : ℕ) (result : Result Done Refusal)
      → write_placed result (pages_touched at len sizes.page) + (0 + fault_if result (pages_touched at len sizes.page)) ≡ write_drawn sizes at len result
  write_both sizes at len (Ok done) = omega arith
  write_both sizes at len (Err refusal) = omega arith

  pub writes_go_on : (asks : (file : ℕ) → FileCall) (fd at : ℕ) (bytes : List ℕ) (start now : PassState) (result : Result Done Refusal) → IsMadeAsWrite asks at bytes → IsMount (mount_of start.view.opened) → IsIdle start → IsIdle now
      → IfOk result (λ done. (file : ℕ) × (reply : Reply) × IsPlacedAs start.view now.view (asks file) reply done.place) → OnErr result (IsUnplaced start.view now.view)
      → IsWriteTriedAs asks fds fd at (length bytes) start now result → GoesOn None (write_drawn start.view.opened.sizes at (length bytes) result) start now
  writes_go_on asks fd at bytes start now result made mount before after told kept tried =
      let again = again_went asks fd at bytes tried.tries start tried.last made mount tried.again in
      let pages = pages_touched at (length bytes) start.view.opened.sizes.page in
      let last = write_went asks fd at bytes tried.last now result made (subst (λ (o : Opened). IsMount (mount_of o)) (sym again.opened) mount) tried.over in
      subst (λ n. GoesOn None n start now) (write_both start.view.opened.sizes at (length bytes) result)
      (goes None true (write_placed result pages) (0 + fault_if result pages) start now before after (λ _. refl)
      (went_both true 0 (fault_if result pages) start tried.last now again
      (went_as true _ _ tried.last now (ap (λ (o : Opened). fault_if result (pages_touched at (length bytes) o.sizes.page)) again.opened) last))
      (write_mine asks at bytes start now result made told kept))

-- ---- syncs

sync_went : (file : Option ℕ) (start now : PassState) (result : Result Done Refusal) → IsSyncRun file start now result → Went true 0 start now
sync_went None start now (Err BadFd) over = went_nowhere true start now over
sync_went (Some file) start now (Err Stopped) over = plain_went true start now _ _ _ (λ _. refl) refl over.stop
sync_went (Some file) start now (Err (Spent found)) over =
    went_both true 0 0 start over.begun now (plain_went true start over.begun _ _ _ (λ _. refl) refl over.stop) (plain_went true over.begun now _ _ _ (λ _. refl) refl over.order)
sync_went (Some file) start now (Ok done) over =
    went_both true 0 0 start over.loaded now
    (went_both true 0 0 start over.begun over.loaded (plain_went true start over.begun _ _ _ (λ _. refl) refl over.stop) (plain_went true over.begun over.loaded _ _ _ (λ _. refl) refl over.order))
    (plain_went true over.loaded now _ _ _ (λ _. refl) refl over.places)
sync_went file start now result over = absurd over

sync_mine : (sizes : Sizes) (file : Option ℕ) (start now : PassState) (result : Result Done Refusal) → IfOk result (λ done. IsSyncPlaced file start.view now.view done.place) → OnErr result (IsUnplaced start.view now.view)
    → placed_entries sizes (pass_of now.view).mine ≡ placed_entries sizes (pass_of start.view).mine + 0
sync_mine sizes (Some file) start now (Ok done) told kept = ap (placed_entries sizes) told.0.mine ∙ placed_more sizes (pass_of start.view).mine _ _ refl
sync_mine sizes None start now (Ok done) told kept = absurd told
sync_mine sizes file start now (Err refusal) told kept = unplaced_mine sizes start now kept

pub syncs_go_on : SyncsGoOn
syncs_go_on fds fd start now result mount before after told kept over =
    goes None true 0 0 start now before after (λ _. refl) (sync_went (file_of_fd fds fd) start now result over) (sync_mine start.view.opened.sizes (file_of_fd fds fd) start now result told kept)

-- ---- batches

pub batches_go_on : BatchesGoOn
batches_go_on worker batch start now result before after kept over =
    goes (Some worker) false 0 0 start now before after (λ none. absurd (cc)) (batch_went over.steps start now over.made over.own) (unplaced_mine start.view.opened.sizes start now kept)

pub no_batch : NoBatchIsRun
no_batch worker pass = record { count = zero; ran = refl }

pub one_batch : OneBatchIsRun
one_batch batch start now result over = record { count = suc zero; ran = (start, refl, record { most = batch; may = refl; came = result; over = over }) }

-- so many, behind others
ran_behind : (worker : Option ℕ) (count : ℕ) (start middle now : PassState) → HasRunBatches worker start middle → RanBatches worker count middle now → HasRunBatches worker start now
ran_behind worker zero start middle now first same = subst (λ (p : PassState). HasRunBatches worker start p) (sym same) first
ran_behind worker (suc count) start middle now first last =
    let before = ran_behind worker count start middle last.0 first last.1 in
    record { count = suc before.count; ran = (last.0, before.ran, last.2) }

pub batches_follow : BatchesFollow
batches_follow worker start middle now first last = ran_behind worker last.count start middle now first last.ran

-- ---- one behind another

pub on_both : (worker : Option ℕ) (one other : ℕ) (old middle new : PassState) → middle.view.number ≡ old.view.number → GoesOn worker one old middle → GoesOn worker other middle new → GoesOn worker (one + other) old new
on_both worker one other old middle new same first last = record {
  more = first.more ++ last.more;
  run = last.run ∙ ap (λ r. r ++ last.more) first.run ∙ append_assoc old.view.run first.more last.more;
  drawn = (let a = first.drawn in let b = last.drawn in omega (arith, a, b));
  calls = λ none.
      All-append (λ (event : Event). event.by ≡ old.view.number → is_cleaning event.act ≡ false) first.more last.more (first.calls none) (subst (λ n. CleansNothing n last.more) same (last.calls none));
}

-- where the second part draws nothing
pub on_still : (worker : Option ℕ) (many : ℕ) (old middle new : PassState) → middle.view.number ≡ old.view.number → GoesOn worker many old middle → GoesOn worker 0 middle new → GoesOn worker many old new
on_still worker many old middle new same first last =
    let no_more : many + 0 ≡ many = omega arith in subst (λ n. GoesOn worker n old new) no_more (on_both worker many 0 old middle new same first last)

-- what makes no cleaner's step makes none where none may be
pub on_any : (worker : Option ℕ) (one other : ℕ) (old new : PassState) → one ≡ other → GoesOn None one old new → GoesOn worker other old new
on_any worker one other old new same on =
    subst (λ n. GoesOn worker n old new) same record { more = on.more; run = on.run; drawn = on.drawn; calls = λ _. on.calls refl }

-- ---- answers

-- a call that takes no entries
pub answer_on : (worker : Option ℕ) (sizes : Sizes) (call : TraceCall) (answer : Answer) (start now : PassState) → entries_taken sizes.page call ≡ 0 → GoesOn None 0 start now → GoesOn worker (entries_drawn sizes call answer) start now
answer_on worker sizes call answer start now none on = on_any worker 0 _ start now (sym (ap (entries_if (has_drawn answer)) none ∙ none_if (has_drawn answer))) on

-- a write, behind others of its tries
pub write_on : WritesGoOn → (asks : (file : ℕ) → FileCall) (fds : List Fd) (worker : Option ℕ) (fd at : ℕ) (bytes : List ℕ) (opened : Opened) (first start now : PassState) (result : Result Done Refusal) → IsMadeAsWrite asks at bytes
    → start.view.opened ≡ opened → start.view.number ≡ first.view.number → GoesOn worker 0 first start → IsMount (mount_of start.view.opened) → IsIdle start → IsIdle now
    → IfOk result (λ done. (file : ℕ) × (reply : Reply) × IsPlacedAs start.view now.view (asks file) reply done.place) → OnErr result (IsUnplaced start.view now.view)
    → IsWriteTriedAs asks fds fd at (length bytes) start now result → GoesOn worker (write_drawn opened.sizes at (length bytes) result) first now
write_on law asks fds worker fd at bytes opened first start now result made board same before mount idle after told kept tried =
    let many = write_drawn opened.sizes at (length bytes) result in
    let same_many : 0 + many ≡ many = omega arith in
    subst (λ n. GoesOn worker n first now) same_many
    (on_both worker 0 many first start now same before
    (on_any worker _ many start now (ap (λ (o : Opened). write_drawn o.sizes at (length bytes) result) board) (law fds asks fd at bytes start now result made mount idle after told kept tried)))

-- a log without room is no fault
pub room_none : (refusal : Refusal) (more : Bool) (sizes : Sizes) (at len : ℕ) → (wants_room refusal && more) ≡ true → write_drawn sizes at len (Err refusal) ≡ 0
room_none RegionFault more sizes at len room = absurd (cc)
room_none StoreFault more sizes at len room = absurd (cc)
room_none refusal more sizes at len room = refl

-- A write without a place has drawn its numbers where it was left open: what it takes is what it draws, and a refusal that lasts is no device fault.
pub write_answer_on : (fds : List Fd) (worker : Option ℕ) (sizes : Sizes) (at len : ℕ) (call : TraceCall) (start now : PassState) (refusal : Refusal) (drawn : Option ℕ) (answer : Answer) → entries_taken sizes.page call ≡ pages_touched at len sizes.page
    → ((refusal : Refusal) → IsLasting call worker refusal → is_fault (Some refusal) ≡ false) → answer ≡ without_place refusal drawn
    → Tells fds worker call start now answer → GoesOn worker (write_drawn sizes at len (Err refusal)) start now → GoesOn worker (entries_drawn sizes call answer) start now
write_answer_on fds worker sizes at len call start now refusal drawn answer taken lasts is told on =
    subst (λ n. GoesOn worker n start now)
    (ap (entries_if (is_fault (Some refusal))) (sym taken) ∙ ap (λ b. entries_if b (entries_taken sizes.page call)) (sym (ap has_drawn is ∙ by refusal drawn (subst (Tells fds worker call start now) is told)))) on
  where
    by : (refusal : Refusal) (drawn : Option ℕ) → Tells fds worker call start now (without_place refusal drawn) → has_drawn (without_place refusal drawn) ≡ is_fault (Some refusal)
    by RegionFault (Some number) told = refl
    by StoreFault (Some number) told = refl
    by RegionFault None told = absurd (true≢false (lasts RegionFault told.lasting))
    by StoreFault None told = absurd (true≢false (lasts StoreFault told.lasting))
    by refusal drawn told = refl

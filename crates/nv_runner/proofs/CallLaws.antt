-- Calls: what the answer of a call tells that is over.
use Rattle.std.proofs.Common.{◌≡◌, ℕ, List, [], ◌∷◌, length, replicate, refl, sym, ap, subst, ◌∙◌}
use Rattle.std.proofs.lemmas.Bool.{true≢false}
use Rattle.std.proofs.lemmas.List.{length-replicate}
use Rattle.std.specs.List.{slice_get}
use Rattle.std.specs.Prelude.{true, false, Option, Some, None, Result, Ok, Err, IfOk, OnOk}
use Rattle.nv_plain.specs.Modes.{can_read, can_write}
use Rattle.nv_plain.specs.declared.call.FileCall.{FileCall}
use Rattle.nv_plain.specs.declared.memory.NoMemory.{NoMemory}
use Rattle.nv_core.specs.state.Words.{Sizes}
use Rattle.nv_table.specs.invariant.Idle.{IsLater}
use Rattle.nv_table.specs.state.Opened.{Opened}
use Rattle.nv_table.specs.state.States.{PassState}
use Rattle.nv_mount.specs.declared.fds.Fd.{Fd}
use Rattle.nv_mirror.specs.declared.answers.Done.{Done}
use Rattle.nv_mirror.specs.declared.answers.Refusal.{Refusal}
use Rattle.nv_mirror.specs.declared.answers.Refusal.TheVariants.{Again, Stopped, RegionFault, StoreFault}
use Rattle.nv_mirror.specs.Answers.{IsUnplaced}
use Rattle.nv_mirror.specs.Controls.{IsOver}
use Rattle.nv_calls.specs.calls.EarlyRefusals.{early_refusal}
use Rattle.nv_calls.specs.calls.EndedCalls.{IsOverBy}
use Rattle.nv_calls.specs.fsync.SyncRuns.{file_of_fd}
use Rattle.nv_calls.specs.reads.Reads.{IsReadDoneAs, IsReadOverAs}
use Rattle.nv_calls.specs.writes.Writes.{IsWriteTriedAs}
use Rattle.nv_calls.proofs.reads.AloneLaws.{early_other, other_of}
use Rattle.nv_calls.specs.histories.Heeds.{HasSeenStop, HeedsStop, tells_stop}
use Rattle.nv_calls.proofs.histories.HeedsLaws.{early_tells, refusal_tells, untold_mild}
use Rattle.nv_trace.specs.declared.trace_call.TraceCall.{TraceCall}
use Rattle.nv_runner.specs.Entries.{entries_taken}
use Rattle.nv_runner.specs.declared.answer.Answer.{Answer}
use Rattle.nv_runner.specs.Calls.{IsAdmitted, IsAnswered, IsLastingRead, OpensAs, Tells, says_stop, wants_room}
use Rattle.nv_runner.specs.OpenWrites.{without_place}
use Rattle.nv_runner.specs.Tries.{AnswersAs, FoundNoRoom, FullTry, HasRunBatch, IsMadeFor, IsReadMade}
use Rattle.nv_runner.specs.Runs.{GoesOn, entries_drawn}
use Rattle.nv_runner.proofs.TryLaws.{answer_on}

-- a refusal by what a call asks for tells nothing of STOP
silent_tells : (refusal : Refusal) → refusal_tells (Some refusal) ≡ false → tells_stop (Err refusal) ≡ true → ⊥
silent_tells Stopped silent tells = true≢false silent
silent_tells RegionFault silent tells = true≢false silent
silent_tells StoreFault silent tells = true≢false silent
silent_tells refusal silent tells = true≢false (sym tells)

-- and its pass has made no step
early_heeds : (refusal : Refusal) (start : PassState) → refusal_tells (Some refusal) ≡ false → HeedsStop start start (Err refusal)
early_heeds refusal start silent = record {
  steps = [];
  made = refl;
  stays = λ seen. seen;
  told = λ tells. absurd (silent_tells refusal silent tells);
  heeds = λ seen loads. absurd (true≢false (sym loads));
  looked = λ stopped. absurd (silent_tells refusal silent (ap tells_stop stopped));
  sets = sym (untold_mild (Some refusal) silent);
}

-- a read that is refused so made no step, whatever its list, and whatever it is asked as
pub read_refused_early : (fds : List Fd) (worker : Option ℕ) (fd at len : ℕ) (opened : Opened) (start : PassState) (refusal : Refusal)
    → early_refusal can_read opened.sizes fds fd at len ≡ Some refusal → IsUnplaced start.view start.view × IsLastingRead refusal
read_refused_early fds worker fd at len opened start refusal is =
    (record { seen = refl; mine = refl }, λ cell busy. other_of (early_refusal can_read opened.sizes fds fd at len) cell (early_other opened.sizes fds fd at len) (is ∙ ap (λ r. Some r) busy))

pub read_made_early : (asks : (len file : ℕ) → FileCall) (fds : List Fd) (fd at len : ℕ) (opened : Opened) (start : PassState) (refusal : Refusal) → start.view.opened ≡ opened
    → early_refusal can_read opened.sizes fds fd at len ≡ Some refusal → IsReadMade asks fds fd at len start start (Err refusal)
read_made_early asks fds fd at len opened start refusal same is =
    let list : List ℕ = replicate len 0 in
    let size : length list ≡ len = length-replicate len 0 in
    let early : early_refusal can_read start.view.opened.sizes fds fd at (length list) ≡ Some refusal =
    ap (early_refusal can_read start.view.opened.sizes fds fd at) size ∙ ap (λ (o : Opened). early_refusal can_read o.sizes fds fd at len) same ∙ is in
    let silent : refusal_tells (Some refusal) ≡ false = ap refusal_tells (sym is) ∙ early_tells can_read opened.sizes (slice_get fds fd) at len in (
      list,
      size,
      record {
        tries = [];
        last = start;
        busy = refl;
        over = subst (λ e. IsOverBy e (file_of_fd fds fd) (λ file. IsReadDoneAs (asks (length list) file) list start start (Err refusal)) start start (Err refusal)) (sym early) (refl, refl);
        stays = λ seen. seen;
        heeds = early_heeds refusal start silent;
      },
    )

-- what a write without a place is answered its last try was
pub without_answers : (refusal : Refusal) (drawn : Option ℕ) → AnswersAs (without_place refusal drawn) (Err refusal)
without_answers RegionFault (Some number) = refl
without_answers RegionFault None = refl
without_answers StoreFault (Some number) = refl
without_answers StoreFault None = refl
without_answers refusal drawn = refl

-- one more try for which the log had no room, and the batch behind it
pub full_more : (asks : (file : ℕ) → FileCall) (fds : List Fd) (worker : Option ℕ) (fd at len : ℕ) (earlier : List FullTry) (start middle full now : PassState) (refusal : Refusal) → FoundNoRoom asks fds worker fd at len earlier start middle
    → IsWriteTriedAs asks fds fd at len middle full (Err refusal) → wants_room refusal ≡ true → HasRunBatch worker full now → (more : List FullTry) × FoundNoRoom asks fds worker fd at len more start now
full_more asks fds worker fd at len earlier start middle full now (Again head tail) before tried room batch = (record { head = head; tail = tail } ∷ earlier, (middle, before, full, tried, batch))
full_more asks fds worker fd at len earlier start middle full now refusal before tried room batch = absurd (true≢false (sym room))

-- ---- a call that has its place was not barred

admitted_over : (early : Option Refusal) (file : Option ℕ) (IsDone : ℕ → Type 0) (last now : PassState) (done : Done) → ((one : ℕ) → IsDone one → now.view.opened ≡ last.view.opened)
    → IsOverBy early file IsDone last now (Ok done) → (early ≡ None) × (now.view.opened ≡ last.view.opened)
admitted_over (Some bar) file IsDone last now done same over = absurd (differ over.0)
  where
    differ : ◌≡◌ {A = Result Done Refusal} (Ok done) (Err bar) → ⊥
    differ is = cc
admitted_over None file IsDone last now done same over = (refl, same over.0 over.2)

pub read_admitted : (asks : (len file : ℕ) → FileCall) (fds : List Fd) (fd at len : ℕ) (list : List ℕ) (last now : PassState) (done : Done) → length list ≡ len → IsReadOverAs asks fds fd at list last now (Ok done)
    → early_refusal can_read now.view.opened.sizes fds fd at len ≡ None
read_admitted asks fds fd at len list last now done size over =
    let early = early_refusal can_read last.view.opened.sizes fds fd at (length list) in
    let both = admitted_over early (file_of_fd fds fd) (λ file. IsReadDoneAs (asks (length list) file) list last now (Ok done)) last now done (λ one is. is.over.mount) over in
    ap (λ (o : Opened). early_refusal can_read o.sizes fds fd at len) both.1 ∙ ap (early_refusal can_read last.view.opened.sizes fds fd at) (sym size) ∙ both.0

pub write_admitted : (asks : (file : ℕ) → FileCall) (fds : List Fd) (fd at len : ℕ) (start now : PassState) (done : Done) → IsWriteTriedAs asks fds fd at len start now (Ok done)
    → early_refusal can_write now.view.opened.sizes fds fd at len ≡ None
write_admitted asks fds fd at len start now done tried =
    let last = tried.last in
    let early = early_refusal can_write last.view.opened.sizes fds fd at len in
    let Over : ℕ → Type 0 = λ file. IsOver (asks file) None (Some done.place) last now in
    let both = admitted_over early (file_of_fd fds fd) Over last now done (λ one is. is.mount) tried.over in
    ap (λ (o : Opened). early_refusal can_write o.sizes fds fd at len) both.1 ∙ both.0

-- ---- an answered call, by its parts

pub ok_answered : (fds : List Fd) (worker : Option ℕ) (call : TraceCall) (start now : PassState) (result : Result Answer NoMemory) → now.view.opened ≡ start.view.opened → IsLater start now
    → IfOk result (λ answer. IsMadeFor fds worker call start now answer) → IfOk result (λ answer. Tells fds worker call start now answer) → (HasSeenStop start → HasSeenStop now) → IfOk result (λ answer. says_stop answer ≡ true → HasSeenStop now)
    → IfOk result (λ answer. OpensAs fds call start now answer) → IfOk result (λ answer. GoesOn worker (entries_drawn now.view.opened.sizes call answer) start now)
    → IfOk result (λ answer. IsAdmitted now.view.opened.sizes fds call answer)
    → IfOk result (λ answer. IsAnswered fds worker call start now answer)
ok_answered fds worker call start now (Ok answer) opened later made told stays stop opens on admitted = record { opened = opened; later = later; made = made; told = told; stays = stays; stop = stop; opens = opens; on = on; admitted = admitted }
ok_answered fds worker call start now (Err error) opened later made told stays stop opens on admitted = tt

-- what draws nothing, whatever its answer
pub ok_on : (worker : Option ℕ) (sizes : Sizes) (call : TraceCall) (start now : PassState) (result : Result Answer NoMemory) → entries_taken sizes.page call ≡ 0 → OnOk result (GoesOn None 0 start now)
    → IfOk result (λ answer. GoesOn worker (entries_drawn sizes call answer) start now)
ok_on worker sizes call start now (Ok answer) none on = answer_on worker sizes call answer start now none on
ok_on worker sizes call start now (Err error) none on = tt

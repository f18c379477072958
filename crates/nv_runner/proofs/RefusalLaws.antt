-- Refusals: each has its cause.
use Rattle.std.proofs.Common.{◌≡◌, ℕ, true, false, List, length, inl, inr, refl, sym, ap, subst, ◌∙◌, arith}
use Rattle.std.specs.Prelude.{Option, Some, None, Result, Err, is_some, MatchOption}
use Rattle.std.proofs.lemmas.Bool.{true≢false}
use Rattle.std.specs.List.{concat, sum}
use Rattle.nv_plain.specs.Modes.{can_read, can_write}
use Rattle.nv_plain.specs.Pieces.{pages_touched}
use Rattle.nv_plain.specs.declared.call.FileCall.{FileCall}
use Rattle.nv_plain.specs.declared.call.FileCall.TheVariants.{Read, Write}
use Rattle.nv_core.specs.state.Passes.{plain_call}
use Rattle.nv_core.specs.state.Words.{Sizes, ORDER}
use Rattle.nv_core.specs.steps.Frames.{OwnEventsTell}
use Rattle.nv_core.specs.steps.Opening.{IsMount}
use Rattle.nv_core.proofs.state.PageLaws.{write_pages}
use Rattle.nv_table.specs.state.Opened.{Opened, mount_of}
use Rattle.nv_table.specs.state.States.{PassState}
use Rattle.nv_mount.specs.declared.fds.Fd.{Fd}
use Rattle.nv_mirror.specs.declared.answers.Done.{Done}
use Rattle.nv_mirror.specs.declared.answers.Refusal.{Refusal}
use Rattle.nv_mirror.specs.declared.answers.Refusal.TheVariants.{BadFd, TooFar, TooLong, Busy, Stopped, Spent, Again, Raced, RegionFault, StoreFault}
use Rattle.nv_mirror.specs.Controls.{IsOver}
use Rattle.nv_mirror.specs.OwnSteps.{AreOwnAs}
use Rattle.nv_mirror.specs.PassSteps.{refusal_in}
use Rattle.nv_mirror.proofs.StepLaws.{opened_same}
use Rattle.nv_calls.specs.calls.EarlyRefusals.{early_refusal}
use Rattle.nv_calls.specs.calls.EndedCalls.{IsOverBy}
use Rattle.nv_calls.specs.fsync.SyncRuns.{IsSyncRun, file_of_fd}
use Rattle.nv_calls.specs.calls.Asks.{IsMadeAsRead, IsMadeAsWrite, asks_read, asks_readv, asks_write, asks_writev}
use Rattle.nv_calls.specs.histories.Heeds.{HasSeenStop, SyncsHeedStop, tells_stop}
use Rattle.nv_calls.specs.reads.Reads.{IsReadDoneAs, IsReadOverAs}
use Rattle.nv_calls.specs.writes.Writes.{IsWriteTriedAs}
use Rattle.nv_trace.specs.declared.trace_call.TraceCall.{TraceCall}
use Rattle.nv_trace.specs.declared.trace_call.TraceCall.TheVariants.{Pread, Pwrite, Preadv, Pwritev, Fsync}
use Rattle.nv_runner.specs.declared.answer.Answer.TheVariants.{Refused}
use Rattle.nv_runner.specs.Calls.{IsAnswered, IsLasting, IsLastingRead, IsLastingWrite}
use Rattle.nv_runner.specs.Entries.{entries_taken}
use Rattle.nv_runner.specs.Faithful.{IsReadCall}
use Rattle.nv_runner.specs.Refusals.{HasCause, IsCause, early_of_call, unless_file}
use Rattle.nv_runner.specs.Tries.{IsMade}
use Rattle.nv_runner.proofs.RefusalWords.{WordLaws, load_found}
use Rattle.nv_runner.proofs.RefusalSteps.{Shows, own_any, stands}

-- ---- of a read and a write

read_cause : (sizes : Sizes) (worker : Option ℕ) (call : TraceCall) → IsReadCall call → (file at len : ℕ) (now : PassState) (refusal : Refusal) → Shows sizes (Read file at len) now (Some refusal) → ((cell : ℕ) → refusal ≡ Busy cell → ⊥)
    → (tells_stop (Err refusal) ≡ true → HasSeenStop now) → IsCause sizes worker call now refusal
read_cause sizes worker call is_read file at len now BadFd shown lasting told = shown
read_cause sizes worker call is_read file at len now TooFar shown lasting told = shown
read_cause sizes worker call is_read file at len now TooLong shown lasting told = shown
read_cause sizes worker call is_read file at len now (Busy cell) shown lasting told = lasting cell refl
read_cause sizes worker call is_read file at len now (Raced seen found) shown lasting told = shown
read_cause sizes worker call is_read file at len now Stopped shown lasting told = told refl
read_cause sizes worker call is_read file at len now (Spent found) shown lasting told = elim shown [
  | inl order ↦ inl record { spent = order.0; most = order.1 }
  | inr numbers ↦ absurd (true≢false (sym numbers.0))
]
read_cause sizes worker call is_read file at len now (Again head tail) shown lasting told = absurd (true≢false (sym shown.0))
read_cause sizes worker call is_read file at len now RegionFault shown lasting told = (is_read, told refl, shown)
read_cause sizes worker call is_read file at len now StoreFault shown lasting told = (is_read, told refl, shown)

no_worker : (worker : Option ℕ) → is_some worker ≡ false → worker ≡ None
no_worker None none = refl
no_worker (Some most) none = absurd (true≢false none)

write_cause : (sizes : Sizes) (worker : Option ℕ) (call : TraceCall) (file at : ℕ) (bytes : List ℕ) → entries_taken sizes.page call ≡ pages_touched at (length bytes) sizes.page → (now : PassState) (refusal : Refusal) → Shows sizes (Write file at bytes) now (Some refusal) → IsLastingWrite worker refusal
    → (tells_stop (Err refusal) ≡ true → HasSeenStop now) → IsCause sizes worker call now refusal
write_cause sizes worker call file at bytes taken now BadFd shown lasting told = shown
write_cause sizes worker call file at bytes taken now TooFar shown lasting told = shown
write_cause sizes worker call file at bytes taken now TooLong shown lasting told = shown
write_cause sizes worker call file at bytes taken now (Busy cell) shown lasting told = true≢false lasting.0
write_cause sizes worker call file at bytes taken now (Raced seen found) shown lasting told = true≢false lasting.0
write_cause sizes worker call file at bytes taken now Stopped shown lasting told = told refl
write_cause sizes worker call file at bytes taken now (Spent found) shown lasting told = elim shown [
  | inl order ↦ inl record { spent = order.0; most = order.1 }
  | inr numbers ↦ inr record { takes = omega (arith, taken, write_pages sizes (Write file at bytes) numbers.0); spent = omega (arith, taken, numbers.1); most = numbers.2 }
]
write_cause sizes worker call file at bytes taken now (Again head tail) shown lasting told =
    (no_worker worker lasting.1, record { takes = omega (arith, taken, write_pages sizes (Write file at bytes) shown.0); full = omega (arith, taken, shown.1); head_most = shown.2; tail_least = shown.3; tail_most = shown.4 })
write_cause sizes worker call file at bytes taken now RegionFault shown lasting told = absurd (true≢false lasting.2)
write_cause sizes worker call file at bytes taken now StoreFault shown lasting told = absurd (true≢false lasting.2)

-- ---- a call that is over

-- it is one of the same mount
over_opened : (early : Option Refusal) (file : Option ℕ) (IsDone : ℕ → Type 0) (last now : PassState) (refusal : Refusal) → ((one : ℕ) → IsDone one → now.view.opened ≡ last.view.opened)
    → IsOverBy early file IsDone last now (Err refusal) → now.view.opened ≡ last.view.opened
over_opened (Some bar) file IsDone last now refusal done over = ap (λ (p : PassState). p.view.opened) over.1
over_opened None file IsDone last now refusal done over = done over.0 over.2

over_cause : (early : Option Refusal) (file : Option ℕ) (IsDone : ℕ → Type 0) (last now : PassState) (refusal : Refusal) (Causes : Type 0) → ((one : ℕ) → IsDone one → Causes)
    → IsOverBy early file IsDone last now (Err refusal) → MatchOption early Causes (λ bar. refusal ≡ bar)
over_cause (Some bar) file IsDone last now refusal Causes done over = err_is over.0
  where
    err_is : ◌≡◌ {A = Result Done Refusal} (Err refusal) (Err bar) → refusal ≡ bar
    err_is is = cc
over_cause None file IsDone last now refusal Causes done over = done over.0 over.2

module _ (laws : WordLaws) (tell : OwnEventsTell) (syncs_heed : SyncsHeedStop) (fds : List Fd) (worker : Option ℕ) where
  over_shows : (asked call : FileCall) (last now : PassState) (refusal : Refusal) → plain_call asked ≡ call → IsMount (mount_of last.view.opened) → IsOver asked (Some refusal) None last now → Shows last.view.opened.sizes call now (Some refusal)
  over_shows asked call last now refusal made mount over =
      let sizes = last.view.opened.sizes in
      subst (Shows sizes call now) (ap (λ (call : FileCall). refusal_in sizes call over.steps) (sym made) ∙ over.refused)
      (stands laws tell sizes asked call made last mount over.steps now over.made (own_any sizes asked call over.steps (subst (λ (call : FileCall). AreOwnAs sizes asked call over.steps) made over.own))).why

  -- sizes at the try are those behind it
  sizes_on : (call : TraceCall) (last now : PassState) (refusal : Refusal) → now.view.opened ≡ last.view.opened
      → MatchOption (early_of_call last.view.opened.sizes fds call) (IsCause last.view.opened.sizes worker call now refusal) (λ bar. refusal ≡ bar) → HasCause fds worker call now refusal
  sizes_on call last now refusal opened cause =
      subst (λ (o : Opened). MatchOption (early_of_call o.sizes fds call) (IsCause o.sizes worker call now refusal) (λ bar. refusal ≡ bar)) (sym opened) cause

  of_read : (asks : (len file : ℕ) → FileCall) (call : TraceCall) (fd at len : ℕ) (list : List ℕ) (last now : PassState) (refusal : Refusal) → IsReadCall call → IsMadeAsRead asks at len
      → ((sizes : Sizes) → early_refusal can_read sizes fds fd at len ≡ early_of_call sizes fds call) → IsMount (mount_of now.view.opened) → length list ≡ len → IsLastingRead refusal → (tells_stop (Err refusal) ≡ true → HasSeenStop now)
      → IsReadOverAs asks fds fd at list last now (Err refusal) → HasCause fds worker call now refusal
  of_read asks call fd at len list last now refusal is_read made bars mount size lasting told over =
      let sizes = last.view.opened.sizes in
      let IsDone : ℕ → Type 0 = λ file. IsReadDoneAs (asks (length list) file) list last now (Err refusal) in
      let early = early_refusal can_read sizes fds fd at (length list) in
      let opened = over_opened early (file_of_fd fds fd) IsDone last now refusal (λ one done. done.over.mount) over in
      let mount_then = subst (λ (o : Opened). IsMount (mount_of o)) opened mount in
      let made_so = subst (IsMadeAsRead asks at) (sym size) made in
      sizes_on call last now refusal opened
      (subst (λ early. MatchOption early (IsCause sizes worker call now refusal) (λ bar. refusal ≡ bar)) (ap (early_refusal can_read sizes fds fd at) size ∙ bars sizes)
      (over_cause early (file_of_fd fds fd) IsDone last now refusal (IsCause sizes worker call now refusal)
      (λ one done. read_cause sizes worker call is_read one at (length list) now refusal
      (over_shows (asks (length list) one) (Read one at (length list)) last now refusal (made_so one) mount_then done.over) lasting told) over))

  of_write : (asks : (file : ℕ) → FileCall) (call : TraceCall) (fd at : ℕ) (bytes : List ℕ) (start now : PassState) (refusal : Refusal) → IsMadeAsWrite asks at bytes
      → ((sizes : Sizes) → early_refusal can_write sizes fds fd at (length bytes) ≡ early_of_call sizes fds call) → ((sizes : Sizes) → entries_taken sizes.page call ≡ pages_touched at (length bytes) sizes.page)
      → IsMount (mount_of now.view.opened) → IsLastingWrite worker refusal → IsWriteTriedAs asks fds fd at (length bytes) start now (Err refusal) → HasCause fds worker call now refusal
  of_write asks call fd at bytes start now refusal made bars taken mount lasting tried =
      let last = tried.last in
      let sizes = last.view.opened.sizes in
      let IsDone : ℕ → Type 0 = λ file. IsOver (asks file) (Some refusal) None last now in
      let early = early_refusal can_write sizes fds fd at (length bytes) in
      let opened = over_opened early (file_of_fd fds fd) IsDone last now refusal (λ one done. done.mount) tried.over in
      let mount_then = subst (λ (o : Opened). IsMount (mount_of o)) opened mount in
      sizes_on call last now refusal opened
      (subst (λ early. MatchOption early (IsCause sizes worker call now refusal) (λ bar. refusal ≡ bar)) (bars sizes)
      (over_cause early (file_of_fd fds fd) IsDone last now refusal (IsCause sizes worker call now refusal)
      (λ one done. write_cause sizes worker call one at bytes (taken sizes) now refusal (over_shows (asks one) (Write one at bytes) last now refusal (made one) mount_then done) lasting tried.heeds.told) tried.over))

  -- ---- a sync

  sync_cause : (fd : ℕ) (file : Option ℕ) (last now : PassState) (refusal : Refusal) → IsSyncRun file last now (Err refusal) → (tells_stop (Err refusal) ≡ true → HasSeenStop now)
      → MatchOption (unless_file file) (IsCause now.view.opened.sizes worker (Fsync fd) now refusal) (λ bar. refusal ≡ bar)
  sync_cause fd None last now BadFd over told = refl
  sync_cause fd (Some file) last now Stopped over told = told refl
  sync_cause fd (Some file) last now (Spent found) over told =
      inl record { spent = over.spent; most = (let same = load_found over.begun now None ORDER found over.order in omega (arith, same)) }
  sync_cause fd file last now refusal over told = absurd over

  sync_opened : (file : Option ℕ) (last now : PassState) (refusal : Refusal) → IsSyncRun file last now (Err refusal) → now.view.opened ≡ last.view.opened
  sync_opened None last now BadFd over = ap (λ (p : PassState). p.view.opened) over
  sync_opened (Some file) last now Stopped over = opened_same last now _ _ _ over.stop
  sync_opened (Some file) last now (Spent found) over = opened_same over.begun now _ _ _ over.order ∙ opened_same last over.begun _ _ _ over.stop
  sync_opened file last now refusal over = absurd over

  of_sync : (fd : ℕ) (start now : PassState) (refusal : Refusal) → IsMount (mount_of now.view.opened) → IsSyncRun (file_of_fd fds fd) start now (Err refusal) → HasCause fds worker (Fsync fd) now refusal
  of_sync fd start now refusal mount over =
      let mount_then = subst (λ (o : Opened). IsMount (mount_of o)) (sync_opened (file_of_fd fds fd) start now refusal over) mount in
      sync_cause fd (file_of_fd fds fd) start now refusal over (syncs_heed fds fd start now (Err refusal) mount_then over).told

  -- ---- a refused call

  made_causes : (call : TraceCall) (start now : PassState) (refusal : Refusal) → IsMount (mount_of now.view.opened) → IsLasting call worker refusal → IsMade fds worker call start now (Err refusal) → HasCause fds worker call now refusal
  made_causes (Pread fd at len) start now refusal mount lasting made =
      of_read (asks_read at) (Pread fd at len) fd at len made.0 made.2.last now refusal tt (λ file. refl) (λ sizes. refl) mount made.1 lasting made.2.heeds.told made.2.over
  made_causes (Pwrite fd at bytes) start now refusal mount lasting made =
      of_write (asks_write at bytes) (Pwrite fd at bytes) fd at bytes made.last now refusal (λ file. refl) (λ sizes. refl) (λ sizes. refl) mount lasting made.tried
  made_causes (Preadv fd at lens) start now refusal mount lasting made =
      of_read (asks_readv at lens) (Preadv fd at lens) fd at (sum lens) made.0 made.2.last now refusal tt (λ file. refl) (λ sizes. refl) mount made.1 lasting made.2.heeds.told made.2.over
  made_causes (Pwritev fd at parts) start now refusal mount lasting made =
      of_write (asks_writev at parts) (Pwritev fd at parts) fd at (concat parts) made.last now refusal (λ file. refl) (λ sizes. refl) (λ sizes. refl) mount lasting made.tried
  made_causes (Fsync fd) start now refusal mount lasting made = of_sync fd start now refusal mount made

  pub refusals_have_causes : (call : TraceCall) (start now : PassState) (refusal : Refusal) → IsMount (mount_of now.view.opened) → IsAnswered fds worker call start now (Refused refusal) → HasCause fds worker call now refusal
  refusals_have_causes call start now refusal mount answered =
      made_causes call start now refusal mount answered.told.lasting (subst (IsMade fds worker call start now) answered.made.answers answered.made.by)

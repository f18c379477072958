-- Asked: what is alike in reads and vectored reads, and in writes and vectored writes.
use Rattle.std.proofs.Common.{◌≡◌, ℕ, true, false, List, [], ◌∷◌, ◌++◌, length, take, refl, sym, ap, subst, ◌∙◌}
use Rattle.std.proofs.lemmas.Bool.{true≢false}
use Rattle.std.specs.List.{concat, sum}
use Rattle.std.specs.Prelude.{Option, Some, None, Result, Ok, IfOk}
use Rattle.nv_plain.specs.Calls.{filled}
use Rattle.nv_plain.specs.Modes.{can_read, can_write}
use Rattle.nv_plain.specs.Pieces.{pages_touched}
use Rattle.nv_plain.specs.declared.call.FileCall.{FileCall}
use Rattle.nv_plain.specs.declared.call.FileCall.TheVariants.{Read, Readv}
use Rattle.nv_plain.specs.declared.call.Reply.{Reply}
use Rattle.nv_plain.specs.declared.call.Reply.TheVariants as replies
use Rattle.nv_core.specs.state.Words.{Sizes}
use Rattle.nv_table.specs.invariant.Idle.{IsLater}
use Rattle.nv_table.specs.state.States.{PassState}
use Rattle.nv_table.specs.state.Views.{PassView}
use Rattle.nv_mount.specs.declared.fds.Fd.{Fd}
use Rattle.nv_mirror.specs.Answers.{IsListPlaced, IsPlacedAs, IsUnplaced}
use Rattle.nv_mirror.specs.Controls.{IsReplyTo}
use Rattle.nv_mirror.specs.PassSteps.{is_fault}
use Rattle.nv_mirror.specs.declared.answers.Done.{Done}
use Rattle.nv_mirror.specs.declared.answers.Refusal.{Refusal}
use Rattle.nv_mirror.specs.declared.answers.Refusal.TheVariants.{Busy}
use Rattle.nv_calls.specs.calls.Asks.{IsMadeAsRead, IsMadeAsWrite, asks_read, asks_readv, asks_write, asks_writev}
use Rattle.nv_calls.specs.calls.EarlyRefusals.{early_refusal}
use Rattle.nv_calls.specs.fsync.SyncRuns.{file_of_fd}
use Rattle.nv_calls.specs.histories.Tries.{Try, WereBusyAs}
use Rattle.nv_calls.specs.reads.Reads.{IsReadOverAs}
use Rattle.nv_calls.specs.writes.Writes.{IsWriteOverAs, WereMadeAgainAs, is_made_again}
use Rattle.nv_calls.proofs.histories.SinceLaws.{ok_since, readv_ok_since, write_ok_since, writev_ok_since}
use Rattle.nv_trace.specs.declared.trace_call.TraceCall.{TraceCall}
use Rattle.nv_trace.specs.declared.trace_call.TraceCall.TheVariants.{Pread, Pwrite, Preadv, Pwritev}
use Rattle.nv_runner.specs.declared.answer.Answer.{Answer}
use Rattle.nv_runner.specs.declared.answer.Answer.TheVariants.{Placed}
use Rattle.nv_runner.specs.Calls.{IsLasting, IsUnbarred, Tells, call_on, fd_of}
use Rattle.nv_runner.specs.Entries.{entries_taken}
use Rattle.nv_runner.specs.OpenWrites.{without_place}
use Rattle.nv_runner.specs.Refusals.{early_of_call}
use Rattle.nv_runner.specs.Tries.{IsMade, IsReadMade, IsWriteMade}
use Rattle.nv_runner.proofs.OpenLaws.{IsWriteOf, is_write_of_bytes, is_write_of_parts}
use Rattle.nv_schedule.specs.Tries.{IsTryOver, WereTried, begins_anew_by, refused_answer, reply_to}

-- ---- the reply of a read

first_bytes : (bytes rest : List ℕ) → take (length bytes) (bytes ++ rest) ≡ bytes
first_bytes [] rest = refl
first_bytes (x ∷ bytes) rest = ap (λ l. x ∷ l) (first_bytes bytes rest)

-- it lies in front of its list
pub listed_bytes : (asked : FileCall) (list : List ℕ) (old new : PassView) (done : Done) (is : IsListPlaced asked list old new done) → take done.len list ≡ is.bytes
listed_bytes asked list old new done is = ap (λ l. take done.len l) is.list_is ∙ ap (λ n. take n (is.bytes ++ is.rest)) is.count ∙ first_bytes is.bytes is.rest

pub readv_placed : (file at : ℕ) (lens list : List ℕ) (old new : PassView) (done : Done) → IsListPlaced (Readv file at lens) list old new done
    → IsPlacedAs old new (Readv file at lens) (replies.Parts (filled lens (take done.len list))) done.place
readv_placed file at lens list old new done is =
    subst (λ bytes. IsPlacedAs old new (Readv file at lens) (replies.Parts (filled lens bytes)) done.place) (sym (listed_bytes (Readv file at lens) list old new done is)) is.placed

-- ---- reads

-- The call is a read of so many bytes of its descriptor's file, asked so.
pub record IsAskedRead (call : TraceCall) (asks : (len file : ℕ) → FileCall) (fd at len : ℕ) : Type 0 where
  pub fd_is : fd_of call ≡ fd
  pub asks_is : (file : ℕ) → asks len file ≡ call_on call file
  pub made : IsMadeAsRead asks at len
  pub bars : (sizes : Sizes) (fds : List Fd) → early_of_call sizes fds call ≡ early_refusal can_read sizes fds fd at len
  pub admits : (sizes : Sizes) (fds : List Fd) → early_refusal can_read sizes fds fd at len ≡ None → IsUnbarred sizes fds call
  pub made_is : (fds : List Fd) (start now : PassState) (result : Result Done Refusal) → IsReadMade asks fds fd at len start now result → IsMade fds None call start now result
  pub takes : (page : ℕ) → entries_taken page call ≡ 0
  pub busy : (cell : ℕ) → begins_anew_by call (Busy cell) ≡ true
  pub lasting : (refusal : Refusal) → begins_anew_by call refusal ≡ false → IsLasting call None refusal
  pub tried_is : (fds : List Fd) (start now : PassState) (tries : List Try) → WereBusyAs asks fds fd at len tries start now → WereTried fds call start now
  pub over_is : (fds : List Fd) (list : List ℕ) (start now : PassState) (result : Result Done Refusal) → length list ≡ len → IsReadOverAs asks fds fd at list start now result → IsTryOver fds call list start now result
  -- what it tells, where nothing was placed since an earlier pass
  pub tells : (fds : List Fd) (list : List ℕ) (first old new : PassState) (done : Done) → length list ≡ len → IsLater first old → IsUnplaced first.view old.view → old.view.opened ≡ first.view.opened
      → (file : ℕ) × (file_of_fd fds fd ≡ Some file) × IsListPlaced (asks (length list) file) list old.view new.view done → Tells fds None call first new (Placed done.place (reply_to call list done.len))

pub asked_read : (fd at len : ℕ) → IsAskedRead (Pread fd at len) (asks_read at) fd at len
asked_read fd at len = record {
  fd_is = refl;
  asks_is = λ file. refl;
  made = λ file. refl;
  bars = λ sizes fds. refl;
  admits = λ sizes fds is. is;
  made_is = λ fds start now result is. is;
  takes = λ page. refl;
  busy = λ cell. refl;
  lasting = λ refusal good cell is. true≢false (sym (ap (begins_anew_by (Pread fd at len)) is) ∙ good);
  tried_is = λ fds start now tries are. (tries, are);
  over_is = λ fds list start now result size over. (size, over);
  tells = λ fds list first old new done size later still same told.
      let placed = ok_since fds fd at list first old new (Ok done) later still same told in (
        placed.0,
        placed.1,
        subst (λ bytes. IsPlacedAs first.view new.view (Read placed.0 at len) (replies.Bytes bytes) done.place) (sym (listed_bytes (Read placed.0 at (length list)) list first.view new.view done placed.2))
            (subst (λ n. IsPlacedAs first.view new.view (Read placed.0 at n) (replies.Bytes placed.2.bytes) done.place) size placed.2.placed),
      );
}

pub asked_readv : (fd at : ℕ) (lens : List ℕ) → IsAskedRead (Preadv fd at lens) (asks_readv at lens) fd at (sum lens)
asked_readv fd at lens = record {
  fd_is = refl;
  asks_is = λ file. refl;
  made = λ file. refl;
  bars = λ sizes fds. refl;
  admits = λ sizes fds is. is;
  made_is = λ fds start now result is. is;
  takes = λ page. refl;
  busy = λ cell. refl;
  lasting = λ refusal good cell is. true≢false (sym (ap (begins_anew_by (Preadv fd at lens)) is) ∙ good);
  tried_is = λ fds start now tries are. (tries, are);
  over_is = λ fds list start now result size over. (size, over);
  tells = λ fds list first old new done size later still same told.
      let parts = filled lens (take done.len list) in
      let placed = readv_ok_since fds fd at lens parts first old new (Ok record { place = done.place; len = length (concat parts) }) later still same
      (told.0, told.1, record { count = refl; placed = readv_placed told.0 at lens list old.view new.view done told.2 }) in
      (placed.0, placed.1, placed.2.placed);
}

-- ---- writes

-- The call is a write of these bytes of its descriptor's file, asked so.
pub record IsAskedWrite (call : TraceCall) (asks : (file : ℕ) → FileCall) (fd at : ℕ) (bytes : List ℕ) : Type 0 where
  pub write : IsWriteOf call fd at bytes
  pub asks_is : (file : ℕ) → asks file ≡ call_on call file
  pub made : IsMadeAsWrite asks at bytes
  pub bars : (sizes : Sizes) (fds : List Fd) → early_of_call sizes fds call ≡ early_refusal can_write sizes fds fd at (length bytes)
  pub admits : (sizes : Sizes) (fds : List Fd) → early_refusal can_write sizes fds fd at (length bytes) ≡ None → IsUnbarred sizes fds call
  pub made_is : (fds : List Fd) (start now : PassState) (result : Result Done Refusal) → IsWriteMade asks fds None fd at (length bytes) start now result → IsMade fds None call start now result
  pub takes : (page : ℕ) → entries_taken page call ≡ pages_touched at (length bytes) page
  pub lasts : (refusal : Refusal) → IsLasting call None refusal → is_fault (Some refusal) ≡ false
  pub anew : (refusal : Refusal) → begins_anew_by call refusal ≡ is_made_again refusal
  pub tried_is : (fds : List Fd) (start now : PassState) (tries : List Refusal) → WereMadeAgainAs asks fds fd at (length bytes) tries start now → WereTried fds call start now
  pub over_is : (fds : List Fd) (list : List ℕ) (start now : PassState) (result : Result Done Refusal) → IfOk result (λ (done : Done). done.len ≡ length bytes) → IsWriteOverAs asks fds fd at (length bytes) start now result
      → IsTryOver fds call list start now result
  pub counts : (file : ℕ) (reply : Reply) → IsReplyTo (asks file) reply → reply ≡ replies.Count (length bytes)
  pub replies_so : (list : List ℕ) (len : ℕ) → reply_to call list len ≡ replies.Count len
  pub refused_so : (refusal : Refusal) (drawn : Option ℕ) → refused_answer call refusal drawn ≡ without_place refusal drawn
  -- what it tells, where nothing was placed since an earlier pass
  pub tells : (fds : List Fd) (first old new : PassState) (done : Done) → done.len ≡ length bytes → IsLater first old → IsUnplaced first.view old.view → old.view.opened ≡ first.view.opened
      → (file : ℕ) × (file_of_fd fds fd ≡ Some file) × IsPlacedAs old.view new.view (asks file) (replies.Count (length bytes)) done.place → Tells fds None call first new (Placed done.place (replies.Count (length bytes)))

pub asked_write : (fd at : ℕ) (bytes : List ℕ) → IsAskedWrite (Pwrite fd at bytes) (asks_write at bytes) fd at bytes
asked_write fd at bytes = record {
  write = is_write_of_bytes fd at bytes;
  asks_is = λ file. refl;
  made = λ file. refl;
  bars = λ sizes fds. refl;
  admits = λ sizes fds is. is;
  made_is = λ fds start now result is. is;
  takes = λ page. refl;
  lasts = λ refusal is. is.2;
  anew = λ refusal. refl;
  tried_is = λ fds start now tries are. (tries, are);
  over_is = λ fds list start now result size over. (size, over);
  counts = λ file reply is. is;
  replies_so = λ list len. refl;
  refused_so = λ refusal drawn. refl;
  tells = λ fds first old new done count later still same told.
      let placed = write_ok_since fds fd at bytes first old new (Ok done) later still same (told.0, told.1, record { count = count; placed = told.2 }) in
      (placed.0, placed.1, placed.2.placed);
}

pub asked_writev : (fd at : ℕ) (parts : List (List ℕ)) → IsAskedWrite (Pwritev fd at parts) (asks_writev at parts) fd at (concat parts)
asked_writev fd at parts = record {
  write = is_write_of_parts fd at parts;
  asks_is = λ file. refl;
  made = λ file. refl;
  bars = λ sizes fds. refl;
  admits = λ sizes fds is. is;
  made_is = λ fds start now result is. is;
  takes = λ page. refl;
  lasts = λ refusal is. is.2;
  anew = λ refusal. refl;
  tried_is = λ fds start now tries are. (tries, are);
  over_is = λ fds list start now result size over. (size, over);
  counts = λ file reply is. is;
  replies_so = λ list len. refl;
  refused_so = λ refusal drawn. refl;
  tells = λ fds first old new done count later still same told.
      let placed = writev_ok_since fds fd at parts first old new (Ok done) later still same (told.0, told.1, record { count = count; placed = told.2 }) in
      (placed.0, placed.1, placed.2.placed);
}

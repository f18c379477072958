-- Since: a call that has its place has it since an earlier start, where nothing was placed in between.
use Rattle.std.proofs.Common.{◌≡◌, ℕ, List, [], ◌∷◌, ◌++◌, length, sym, ap, subst, ◌∙◌}
use Rattle.std.specs.List.{concat}
use Rattle.std.specs.Prelude.{Some, Result, Ok, Err, IfOk}
use Rattle.nv_plain.specs.declared.call.FileCall.{FileCall}
use Rattle.nv_plain.specs.declared.call.FileCall.TheVariants.{Read, Write, Readv, Writev}
use Rattle.nv_plain.specs.declared.call.Reply.{Reply}
use Rattle.nv_plain.specs.declared.call.Reply.TheVariants.{Bytes, Count, Parts}
use Rattle.nv_core.specs.content.Content.{Opens}
use Rattle.nv_core.specs.log.LogContent.{OpensLog}
use Rattle.nv_core.specs.invariant.OneHistory.{IsPrefix}
use Rattle.nv_table.specs.invariant.Idle.{IsLater}
use Rattle.nv_table.specs.state.Opened.{Opened, mount_of}
use Rattle.nv_table.specs.state.Views.{pass_of}
use Rattle.nv_table.specs.state.States.{PassState}
use Rattle.nv_mount.specs.declared.fds.Fd.{Fd}
use Rattle.nv_mirror.specs.declared.answers.Done.{Done}
use Rattle.nv_mirror.specs.declared.answers.Refusal.{Refusal}
use Rattle.nv_mirror.specs.Answers.{answered_by, IsPlacedAs, IsUnplaced, IsReadPlaced}
use Rattle.nv_calls.specs.reads.Reads.{IsReadvPlaced}
use Rattle.nv_calls.specs.writes.Writes.{IsWritePlaced, IsWritevPlaced}
use Rattle.nv_calls.specs.fsync.SyncRuns.{file_of_fd}

placed_since : (call : FileCall) (reply : Reply) (place : ℕ) (first old new : PassState) → IsLater first old → IsUnplaced first.view old.view → old.view.opened ≡ first.view.opened
    → IsPlacedAs old.view new.view call reply place → IsPlacedAs first.view new.view call reply place
placed_since call reply place first old new later still same placed =
    let answer : answered_by old.view call reply ≡ answered_by first.view call reply = ap (λ (n : ℕ). record (answered_by first.view call reply) { caller = n }) later.number in
    record {
      before = placed.before;
      begins = subst (λ l. IsPrefix l placed.before) still.seen placed.begins;
      at = placed.at;
      seen = placed.seen ∙ ap (λ a. placed.before ++ a ∷ []) answer;
      mine = placed.mine ∙ ap (λ a. (pass_of old.view).mine ++ a ∷ []) answer ∙ ap (λ l. l ++ answered_by first.view call reply ∷ []) still.mine;
      plain = λ files tail log opens. placed.plain files tail (subst (λ (o : Opened). OpensLog (mount_of o) tail) (sym same) log) (subst (λ (o : Opened). Opens (mount_of o) files) (sym same) opens);
    }

done_since : (file at : ℕ) (list : List ℕ) (first old new : PassState) (done : Done) → IsLater first old → IsUnplaced first.view old.view → old.view.opened ≡ first.view.opened
    → IsReadPlaced file at list old.view new.view done → IsReadPlaced file at list first.view new.view done
done_since file at list first old new done later still same read = record {
  bytes = read.bytes;
  rest = read.rest;
  list_is = read.list_is;
  count = read.count;
  placed = placed_since (Read file at (length list)) (Bytes read.bytes) done.place first old new later still same read.placed;
}

write_since : (file at : ℕ) (bytes : List ℕ) (first old new : PassState) (done : Done) → IsLater first old → IsUnplaced first.view old.view → old.view.opened ≡ first.view.opened
    → IsWritePlaced file at bytes old.view new.view done → IsWritePlaced file at bytes first.view new.view done
write_since file at bytes first old new done later still same write =
    record { count = write.count; placed = placed_since (Write file at bytes) (Count (length bytes)) done.place first old new later still same write.placed }

pub ok_since : (fds : List Fd) (fd at : ℕ) (list : List ℕ) (first old new : PassState) (result : Result Done Refusal) → IsLater first old → IsUnplaced first.view old.view → old.view.opened ≡ first.view.opened
    → IfOk result (λ done. (file : ℕ) × (file_of_fd fds fd ≡ Some file) × IsReadPlaced file at list old.view new.view done)
    → IfOk result (λ done. (file : ℕ) × (file_of_fd fds fd ≡ Some file) × IsReadPlaced file at list first.view new.view done)
ok_since fds fd at list first old new (Ok done) later still same told = (told.0, told.1, done_since told.0 at list first old new done later still same told.2)
ok_since fds fd at list first old new (Err refusal) later still same told = tt

pub write_ok_since : (fds : List Fd) (fd at : ℕ) (bytes : List ℕ) (first old new : PassState) (result : Result Done Refusal) → IsLater first old → IsUnplaced first.view old.view → old.view.opened ≡ first.view.opened
    → IfOk result (λ done. (file : ℕ) × (file_of_fd fds fd ≡ Some file) × IsWritePlaced file at bytes old.view new.view done)
    → IfOk result (λ done. (file : ℕ) × (file_of_fd fds fd ≡ Some file) × IsWritePlaced file at bytes first.view new.view done)
write_ok_since fds fd at bytes first old new (Ok done) later still same is = (is.0, is.1, write_since is.0 at bytes first old new done later still same is.2)
write_ok_since fds fd at bytes first old new (Err refusal) later still same is = tt

-- so vectored calls
pub readv_ok_since : (fds : List Fd) (fd at : ℕ) (lens : List ℕ) (parts : List (List ℕ)) (first old new : PassState) (result : Result Done Refusal) → IsLater first old → IsUnplaced first.view old.view
    → old.view.opened ≡ first.view.opened → IfOk result (λ done. (file : ℕ) × (file_of_fd fds fd ≡ Some file) × IsReadvPlaced file at lens parts old.view new.view done)
    → IfOk result (λ done. (file : ℕ) × (file_of_fd fds fd ≡ Some file) × IsReadvPlaced file at lens parts first.view new.view done)
readv_ok_since fds fd at lens parts first old new (Ok done) later still same told =
    (told.0, told.1, record { count = told.2.count; placed = placed_since (Readv told.0 at lens) (Parts parts) done.place first old new later still same told.2.placed })
readv_ok_since fds fd at lens parts first old new (Err refusal) later still same told = tt

pub writev_ok_since : (fds : List Fd) (fd at : ℕ) (parts : List (List ℕ)) (first old new : PassState) (result : Result Done Refusal) → IsLater first old → IsUnplaced first.view old.view → old.view.opened ≡ first.view.opened
    → IfOk result (λ done. (file : ℕ) × (file_of_fd fds fd ≡ Some file) × IsWritevPlaced file at parts old.view new.view done)
    → IfOk result (λ done. (file : ℕ) × (file_of_fd fds fd ≡ Some file) × IsWritevPlaced file at parts first.view new.view done)
writev_ok_since fds fd at parts first old new (Ok done) later still same is =
    (is.0, is.1, record { count = is.2.count; placed = placed_since (Writev is.0 at parts) (Count (length (concat parts))) done.place first old new later still same is.2.placed })
writev_ok_since fds fd at parts first old new (Err refusal) later still same is = tt

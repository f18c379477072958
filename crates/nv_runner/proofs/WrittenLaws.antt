-- Written: a write of bytes and one of parts are alike but for what they are asked as.
use Rattle.std.proofs.Common.{◌≡◌, ℕ, false, List, length, refl}
use Rattle.std.specs.Prelude.{Option, None, Some, Result, Ok, Err, IfOk}
use Rattle.nv_plain.specs.declared.call.Reply.{Reply}
use Rattle.nv_plain.specs.declared.call.Reply.TheVariants.{Count}
use Rattle.nv_plain.specs.Modes.{can_write}
use Rattle.nv_plain.specs.Pieces.{pages_touched}
use Rattle.nv_core.specs.state.Words.{Sizes}
use Rattle.nv_table.specs.invariant.Idle.{IsLater}
use Rattle.nv_table.specs.state.States.{PassState}
use Rattle.nv_mount.specs.declared.fds.Fd.{Fd}
use Rattle.nv_mirror.specs.declared.answers.Done.{Done}
use Rattle.nv_mirror.specs.declared.answers.Refusal.{Refusal}
use Rattle.nv_mirror.specs.Answers.{IsPlacedAs, IsUnplaced}
use Rattle.nv_mirror.specs.PassSteps.{is_fault}
use Rattle.nv_calls.specs.calls.Asks.{IsMadeAsWrite}
use Rattle.nv_calls.specs.calls.EarlyRefusals.{early_refusal}
use Rattle.nv_calls.proofs.histories.SinceLaws.{write_ok_since, writev_ok_since}
use Rattle.nv_runner.specs.declared.written.Written.{Written}
use Rattle.nv_runner.specs.declared.written.Written.TheVariants.{Bytes, Parts}
use Rattle.nv_runner.specs.Calls.{IsLasting, IsUnbarred, call_on}
use Rattle.nv_runner.specs.Entries.{entries_taken}
use Rattle.nv_runner.specs.Tries.{IsMade, IsWriteMade}
use Rattle.nv_runner.specs.Written.{IsWritten, asks_in, bytes_in, call_in}
use Rattle.nv_runner.proofs.OpenLaws.{IsWriteOf, is_write_of_bytes, is_write_of_parts}

pub made_as : (written : Written) (at : ℕ) → IsMadeAsWrite (asks_in written at) at (bytes_in written)
made_as (Bytes bytes) at = λ file. refl
made_as (Parts parts) at = λ file. refl

pub is_write_of : (written : Written) (fd at : ℕ) → IsWriteOf (call_in written fd at) fd at (bytes_in written)
is_write_of (Bytes bytes) fd at = is_write_of_bytes fd at bytes.now
is_write_of (Parts parts) fd at = is_write_of_parts fd at parts.now

pub call_asks : (written : Written) (fd at file : ℕ) → call_on (call_in written fd at) file ≡ asks_in written at file
call_asks (Bytes bytes) fd at file = refl
call_asks (Parts parts) fd at file = refl

pub takes : (written : Written) (sizes : Sizes) (fd at : ℕ) → entries_taken sizes.page (call_in written fd at) ≡ pages_touched at (length (bytes_in written)) sizes.page
takes (Bytes bytes) sizes fd at = refl
takes (Parts parts) sizes fd at = refl

pub lasts : (written : Written) (fd at : ℕ) (worker : Option ℕ) (refusal : Refusal) → IsLasting (call_in written fd at) worker refusal → is_fault (Some refusal) ≡ false
lasts (Bytes bytes) fd at worker refusal is = is.2
lasts (Parts parts) fd at worker refusal is = is.2

pub is_unbarred : (written : Written) (sizes : Sizes) (fds : List Fd) (fd at : ℕ) → early_refusal can_write sizes fds fd at (length (bytes_in written)) ≡ None → IsUnbarred sizes fds (call_in written fd at)
is_unbarred (Bytes bytes) sizes fds fd at is = is
is_unbarred (Parts parts) sizes fds fd at is = is

pub is_made : (written : Written) (fds : List Fd) (worker : Option ℕ) (fd at : ℕ) (start now : PassState) (result : Result Done Refusal)
    → IsWriteMade (asks_in written at) fds worker fd at (length (bytes_in written)) start now result → IsMade fds worker (call_in written fd at) start now result
is_made (Bytes bytes) fds worker fd at start now result is = is
is_made (Parts parts) fds worker fd at start now result is = is

-- and so it is of the pass as it was before, where nothing was placed since
pub written_since : (written : Written) (fds : List Fd) (fd at : ℕ) (first old new : PassState) (done : Done) → IsLater first old → IsUnplaced first.view old.view → old.view.opened ≡ first.view.opened
    → IsWritten fds fd at written old.view new.view done → IsWritten fds fd at written first.view new.view done
written_since (Bytes bytes) fds fd at first old new done later still same is =
    let all = write_ok_since fds fd at bytes.now first old new (Ok done) later still same (is.0, is.1, record { count = is.2; placed = is.3 }) in
    (all.0, all.1, all.2.count, all.2.placed)
written_since (Parts parts) fds fd at first old new done later still same is =
    let all = writev_ok_since fds fd at parts.now first old new (Ok done) later still same (is.0, is.1, record { count = is.2; placed = is.3 }) in
    (all.0, all.1, all.2.count, all.2.placed)

-- what a law of tries asks of its place
pub as_placed : (written : Written) (fds : List Fd) (fd at : ℕ) (old new : PassState) (result : Result Done Refusal) → IfOk result (IsWritten fds fd at written old.view new.view)
    → IfOk result (λ done. (file : ℕ) × (reply : Reply) × IsPlacedAs old.view new.view (asks_in written at file) reply done.place)
as_placed written fds fd at old new (Ok done) is = (is.0, Count (length (bytes_in written)), is.3)
as_placed written fds fd at old new (Err refusal) is = tt

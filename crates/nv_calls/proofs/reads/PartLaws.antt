-- Parts: what the parts of a vectored read got is its reply.
use Rattle.std.proofs.Common.{◌≡◌, ℕ, ◌≤◌, List, length, take, refl, sym, ap, subst, ◌∙◌, arith}
use Rattle.std.proofs.Math.Seq.{take-append_seam}
use Rattle.std.proofs.lemmas.List.{length-append}
use Rattle.std.specs.List.{concat, sum}
use Rattle.std.specs.Prelude.{Some, Result, Ok, Err, IfOk}
use Rattle.nv_plain.specs.Calls.{filled}
use Rattle.nv_plain.specs.declared.call.FileCall.{FileCall}
use Rattle.nv_plain.specs.declared.call.FileCall.TheVariants.{Read, Readv}
use Rattle.nv_plain.specs.declared.call.Reply.TheVariants.{Parts}
use Rattle.nv_core.specs.state.Passes.{at_of, file_of}
use Rattle.nv_table.specs.state.Views.{PassView}
use Rattle.nv_mount.specs.declared.fds.Fd.{Fd}
use Rattle.nv_mirror.specs.declared.answers.Done.{Done}
use Rattle.nv_mirror.specs.declared.answers.Refusal.{Refusal}
use Rattle.nv_mirror.specs.Answers.{HasTold, IsListPlaced, IsPlacedAs}
use Rattle.nv_cache.specs.declared.read.RunningRead.{RunningRead}
use Rattle.nv_cache.specs.declared.read.RunningRead.TheVariants.{Pageless, Front, Search, Load, TakePlace, Release, Over}
use Rattle.nv_calls.specs.calls.Scattered.{Scattered}
use Rattle.nv_calls.specs.fsync.SyncRuns.{file_of_fd}
use Rattle.nv_calls.specs.reads.Reads.{HaveGot, IsReadvPlaced, got_by}
use Rattle.nv_calls.specs.reads.ReadMachines.{got_now, got_so_far, progress_of}
use Rattle.nv_calls.proofs.FilledLemmas.{concat-filled-within}

-- a read tells no more bytes than its list has
pub got_within : (asked : FileCall) (list : List ℕ) (old new : PassView) (result : Result Done Refusal) → HasTold asked list old new result → got_by result ≤ length list
got_within asked list old new (Ok done) told = let both = length-append told.bytes told.rest in let whole = ap length told.list_is in let count = told.count in omega (arith, both, whole, count)
got_within asked list old new (Err refusal) told = omega arith

-- what they got of their room is what the read told
placed_so : (file at : ℕ) (before now : Scattered) (old new : PassView) (done : Done) → HaveGot done.len before now → IsListPlaced (Readv file at now.lens) now.list old new done → IsReadvPlaced file at now.lens now.parts old new done
placed_so file at before now old new done got told =
    let front : take done.len now.list ≡ told.bytes = ap (λ n. take n now.list) told.count ∙ ap (take (length told.bytes)) told.list_is ∙ take-append_seam told.bytes told.rest in
    let parts : now.parts ≡ filled now.lens told.bytes = got.3 ∙ ap (filled now.lens) front in
    let both = length-append told.bytes told.rest in
    let whole = ap length told.list_is in
    let size = got.1 in
    let low : length told.bytes ≤ sum now.lens = omega (arith, both, whole, size) in
    record {
      count = told.count ∙ sym (ap length (ap concat parts ∙ concat-filled-within now.lens told.bytes low));
      placed = subst (λ p. IsPlacedAs old new (Readv file at now.lens) (Parts p) done.place) (sym parts) told.placed;
    }

pub parts_placed : (fds : List Fd) (fd at : ℕ) (before now : Scattered) (old new : PassView) (result : Result Done Refusal) → HaveGot (got_by result) before now
    → IfOk result (λ done. (file : ℕ) × (file_of_fd fds fd ≡ Some file) × IsListPlaced (Readv file at now.lens) now.list old new done)
    → IfOk result (λ done. (file : ℕ) × (file_of_fd fds fd ≡ Some file) × IsReadvPlaced file at now.lens now.parts old new done)
parts_placed fds fd at before now old new (Ok done) got told = (told.0, told.1, placed_so told.0 at before now old new done got told.2)
parts_placed fds fd at before now old new (Err refusal) got told = tt

-- ---- one step at a time

-- the machine's read is asked as a vectored read of these parts, of what it is made as
pub asked_is : (made : FileCall) (file at len : ℕ) (lens : List ℕ) → made ≡ Read file at len → Readv (file_of made) (at_of made) lens ≡ Readv file at lens
asked_is made file at len lens is = ap (λ call. Readv (file_of call) (at_of call) lens) is

-- what they have got behind a step
pub got_so : (read : RunningRead) → got_so_far (progress_of read) ≡ got_now read
got_so (Pageless m) = refl
got_so (Front m) = refl
got_so (Search of m) = refl
got_so (Load of m) = refl
got_so (TakePlace m) = refl
got_so (Release m copied) = refl
got_so (Over result) = refl

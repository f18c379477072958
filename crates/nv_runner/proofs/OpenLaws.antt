-- Open writes: what a write tells that has no place, and the open writes of some calls.
use Rattle.std.proofs.Common.{◌≡◌, ℕ, ◌==◌, nat_lt, ◌&&◌, ◌||◌, Bool, true, false, if◌then◌else◌, List, [], ◌∷◌, ◌++◌, length, map, refl, sym, ap, subst, ◌∙◌}
use Rattle.std.specs.Prelude.{Option, None, Some, Err, filter, is_some}
use Rattle.std.specs.List.{concat, list_any}
use Rattle.std.proofs.lemmas.List.{append_assoc}
use Rattle.nv_plain.specs.Modes.{can_write}
use Rattle.nv_plain.specs.declared.call.FileCall.{FileCall}
use Rattle.nv_plain.specs.declared.call.FileCall.TheVariants.{Write}
use Rattle.nv_core.specs.state.Passes.{Control, Fault, is_write, plain_call}
use Rattle.nv_core.specs.state.Words.{Sizes}
use Rattle.nv_table.specs.invariant.Drawn.{drawn_at, drawn_by, inherited_of, lost_of, or_else}
use Rattle.nv_table.specs.invariant.Idle.{IsIdle}
use Rattle.nv_table.specs.state.Opened.{Opened}
use Rattle.nv_table.specs.state.States.{PassState}
use Rattle.nv_table.specs.state.Views.{pass_of}
use Rattle.nv_mount.specs.WholeWrites.{is_kept}
use Rattle.nv_mount.specs.declared.fds.Fd.{Fd}
use Rattle.nv_mirror.specs.declared.answers.Refusal.{Refusal}
use Rattle.nv_mirror.specs.declared.answers.Refusal.TheVariants.{RegionFault, StoreFault}
use Rattle.nv_mirror.specs.Answers.{IsUnplaced}
use Rattle.nv_mirror.specs.PassSteps.{is_fault}
use Rattle.nv_calls.specs.calls.EarlyRefusals.{early_refusal}
use Rattle.nv_calls.specs.fsync.SyncRuns.{file_of_fd}
use Rattle.nv_calls.specs.histories.Faults.{IsOpened, OpenWrite, OpensBy, open_in, open_writes}
use Rattle.nv_calls.specs.histories.Heeds.{HasSeenStop, tells_stop}
use Rattle.nv_calls.specs.writes.Writes.{IsWriteTriedAs, is_made_again}
use Rattle.nv_trace.specs.declared.trace_call.TraceCall.TheVariants.{Pwrite, Pwritev}
use Rattle.nv_trace.specs.declared.trace_call.TraceCall.{TraceCall}
use Rattle.nv_runner.specs.declared.answer.Answer.{Answer}
use Rattle.nv_runner.specs.declared.answer.Answer.TheVariants.{Open}
use Rattle.nv_runner.specs.Calls.{IsLasting, IsLastingWrite, IsUnbarredWrite, OpensAs, Tells, call_on, fd_of, opened_by, opened_on, says_stop, wants_room}
use Rattle.nv_runner.specs.OpenWrites.{KeptAreOpen, OpenAreFaults, is_kept_open, opened, without_place}

-- ---- the number of the last one

-- among some faults
lost_first : (faults : List Fault) (one : OpenWrite) (others : List OpenWrite) → open_in faults ≡ one ∷ others → lost_of faults ≡ Some one.first
lost_first [] one others is = absurd (cc)
lost_first (fault ∷ before) one others is = go (is_write fault.call) is (lost_first before one others)
  where
    go : (write : Bool) → (if write then record { call = fault.call; first = fault.first } ∷ open_in before else open_in before) ≡ one ∷ others → (open_in before ≡ one ∷ others → lost_of before ≡ Some one.first)
        → (if write then Some fault.first else lost_of before) ≡ Some one.first
    go true here later = let same : ◌≡◌ {A = OpenWrite} record { call = fault.call; first = fault.first } one = cc in ap (λ (o : OpenWrite). Some o.first) same
    go false here later = later here

-- of an idle pass
drawn_first : (now : PassState) (one : OpenWrite) (others : List OpenWrite) → IsIdle now → open_writes now ≡ one ∷ others → drawn_by now.view ≡ Some one.first
drawn_first now one others idle is =
    let pass = pass_of now.view in
    ap (λ (control : Control). or_else (drawn_at pass.first (is_write pass.call) (lost_of pass.faulted) control) (inherited_of now.view.opened now.view.ended)) idle.control
    ∙ ap (λ lost. or_else lost (inherited_of now.view.opened now.view.ended)) (lost_first pass.faulted one others is)

-- ---- a write without a place

pub record IsToldSo (fds : List Fd) (worker : Option ℕ) (call : TraceCall) (start now : PassState) (answer : Answer) : Type 0 where
  pub told : Tells fds worker call start now answer
  pub stop : says_stop answer ≡ true → HasSeenStop now
  pub opens : OpensAs fds call start now answer

-- What the call is: a write of these bytes of its descriptor's file, whatever it is asked as.
pub record IsWriteOf (call : TraceCall) (fd at : ℕ) (bytes : List ℕ) : Type 0 where
  pub fd_is : fd_of call ≡ fd
  pub made : (file : ℕ) → plain_call (call_on call file) ≡ Write file at bytes
  pub write : (file : ℕ) → is_write (Write file at bytes) ≡ true → is_write (plain_call (call_on call file)) ≡ true
  pub unbarred : (sizes : Sizes) (fds : List Fd) → early_refusal can_write sizes fds fd at (length bytes) ≡ None → IsUnbarredWrite sizes fds call
  pub lasting : (worker : Option ℕ) (refusal : Refusal) → IsLastingWrite worker refusal → IsLasting call worker refusal

pub is_write_of_bytes : (fd at : ℕ) (bytes : List ℕ) → IsWriteOf (Pwrite fd at bytes) fd at bytes
is_write_of_bytes fd at bytes = record { fd_is = refl; made = λ file. refl; write = λ file is. is; unbarred = λ sizes fds is. is; lasting = λ worker refusal is. is }

pub is_write_of_parts : (fd at : ℕ) (parts : List (List ℕ)) → IsWriteOf (Pwritev fd at parts) fd at (concat parts)
is_write_of_parts fd at parts = record { fd_is = refl; made = λ file. refl; write = λ file is. is; unbarred = λ sizes fds is. is; lasting = λ worker refusal is. is }

module _ (fds : List Fd) (worker : Option ℕ) (call : TraceCall) (fd at : ℕ) (bytes : List ℕ) (is_call : IsWriteOf call fd at bytes) (start last now : PassState) (idle : IsIdle now) (same : last.view.opened ≡ start.view.opened)
    (kept : IsUnplaced start.view now.view) (opens : open_writes last ≡ open_writes start) where
  -- a device fault ended it
  left_open : (is : IsOpened fds fd at bytes last now) → HasSeenStop now → IsToldSo fds worker call start now (Open is.first)
  left_open is seen =
      let file_is = ap (file_of_fd fds) is_call.fd_is ∙ is.file_is in
      record {
        told = record {
          kept = kept;
          seen = seen;
          unbarred = is_call.unbarred start.view.opened.sizes fds (ap (λ (o : Opened). early_refusal can_write o.sizes fds fd at (length bytes)) (sym same) ∙ is.early);
          file = is.file;
          file_is = file_is;
          write = is_call.write is.file is.write;
        };
        stop = λ says. seen;
        opens = is.opens ∙ ap (λ others. record { call = Write is.file at bytes; first = is.first } ∷ others) opens
            ∙ ap (λ (made : FileCall). record { call = made; first = is.first } ∷ open_writes start) (sym (is_call.made is.file))
            ∙ ap (λ file. opened_on file call is.first ++ open_writes start) (sym file_is);
      }

  -- its number is the one that its pass drew
  module _ (answer_of : Option ℕ → Answer) (is_open : (number : ℕ) → answer_of (Some number) ≡ Open number) where
    faulted : IsOpened fds fd at bytes last now → HasSeenStop now → IsToldSo fds worker call start now (answer_of (drawn_by now.view))
    faulted is seen =
        subst (IsToldSo fds worker call start now)
        (sym (ap answer_of (drawn_first now record { call = Write is.file at bytes; first = is.first } (open_writes last) idle is.opens) ∙ is_open is.first)) (left_open is seen)

  -- what its refusal tells
  told_without_place : (refusal : Refusal) → (tells_stop (Err refusal) ≡ true → HasSeenStop now) → OpensBy (is_fault (Some refusal)) fds fd at bytes last now → is_made_again refusal ≡ false
      → (wants_room refusal && is_some worker) ≡ false → IsToldSo fds worker call start now (without_place refusal (drawn_by now.view))
  told_without_place RegionFault tells by lasting room = faulted (without_place RegionFault) (λ number. refl) by (tells refl)
  told_without_place StoreFault tells by lasting room = faulted (without_place StoreFault) (λ number. refl) by (tells refl)
  told_without_place refusal tells by lasting room = record {
    told = record { kept = kept; lasting = is_call.lasting worker refusal (lasting, room, refl) };
    stop = tells;
    opens = by ∙ opens;
  }

-- a write that the log had no room for was ended by no device fault
pub no_room_opens_nothing : (fds : List Fd) (fd at : ℕ) (bytes : List ℕ) (last now : PassState) (refusal : Refusal) (more : Bool) → (wants_room refusal && more) ≡ true → OpensBy (is_fault (Some refusal)) fds fd at bytes last now
    → open_writes now ≡ open_writes last
no_room_opens_nothing fds fd at bytes last now RegionFault more room by = absurd (cc)
no_room_opens_nothing fds fd at bytes last now StoreFault more room by = absurd (cc)
no_room_opens_nothing fds fd at bytes last now refusal more room by = by

-- so it is behind the writes of before, and told where the pass is left, where no room was to be made
pub told_behind : (asks : (file : ℕ) → FileCall) (fds : List Fd) (worker : Option ℕ) (call : TraceCall) (fd at : ℕ) (bytes : List ℕ) (mount : Opened) (start last now left : PassState) (refusal : Refusal) (room : Bool) (answer : Answer)
    → IsWriteOf call fd at bytes → IsIdle now
    → start.view.opened ≡ mount → last.view.opened ≡ mount → IsUnplaced start.view last.view → IsUnplaced last.view now.view → open_writes last ≡ open_writes start
    → IsWriteTriedAs asks fds fd at (length bytes) last now (Err refusal) → OpensBy (is_fault (Some refusal)) fds fd at bytes last now → is_made_again refusal ≡ false
    → room ≡ (wants_room refusal && is_some worker) → room ≡ false → (room ≡ false → left ≡ now) → answer ≡ without_place refusal (drawn_by left.view) → IsToldSo fds worker call start left answer
told_behind asks fds worker call fd at bytes mount start last now left refusal room answer is_call idle at_start at_last before after opens tried by lasting asked none stays is =
    let kept : IsUnplaced start.view now.view = record { seen = after.seen ∙ before.seen; mine = after.mine ∙ before.mine } in
    subst (IsToldSo fds worker call start left) (sym is)
    (subst (λ (p : PassState). IsToldSo fds worker call start p (without_place refusal (drawn_by p.view))) (sym (stays none))
    (told_without_place fds worker call fd at bytes is_call start last now idle (at_last ∙ sym at_start) kept opens refusal tried.heeds.told by lasting (sym asked ∙ none)))

-- ---- the calls of a pass

pub open_are_faults : OpenAreFaults
open_are_faults fds worker [] start now made = ap open_writes made
open_are_faults fds worker (m ∷ later) start now made =
    open_are_faults fds worker later made.0 now made.2 ∙ ap (λ others. opened fds later ++ others) made.1.opens
    ∙ sym (append_assoc (opened fds later) (opened_by fds m.call.call m.answer) (open_writes start))

-- ---- what a power failure keeps of them

pub kept_are_open : KeptAreOpen
kept_are_open first groups [] = refl
kept_are_open first groups (fault ∷ before) = by (is_write fault.call) (kept_are_open first groups before)
  where
    one : OpenWrite
    one = record { call = fault.call; first = fault.first }

    found : Bool
    found = nat_lt fault.first first || list_any (λ leader. leader == fault.first) groups

    kept : List Fault
    kept = filter (is_kept first groups) before

    open_kept : List OpenWrite
    open_kept = filter (is_kept_open first groups) (open_in before)

    by_found : (b : Bool) → map (λ (f : Fault). f.call) kept ≡ map (λ (w : OpenWrite). w.call) open_kept → map (λ (f : Fault). f.call) (if b then fault ∷ kept else kept) ≡ map (λ (w : OpenWrite). w.call) (if b then one ∷ open_kept else open_kept)
    by_found true same = ap (λ calls. fault.call ∷ calls) same
    by_found false same = same

    by : (write : Bool) → map (λ (f : Fault). f.call) kept ≡ map (λ (w : OpenWrite). w.call) open_kept → map (λ (f : Fault). f.call) (if write && found then fault ∷ kept else kept)
        ≡ map (λ (w : OpenWrite). w.call) (filter (is_kept_open first groups) (if write then one ∷ open_in before else open_in before))
    by true same = by_found found same
    by false same = same

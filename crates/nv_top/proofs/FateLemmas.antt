-- What a recovery makes of the writes that were left open, and so of the files.
use Rattle.std.proofs.Common.{◌≡◌, ℕ, zero, suc, ◌<◌, ◌≤◌, ◌==◌, ◌||◌, nat_lt, Bool, true, false, if◌then◌else◌, All, List, [], ◌∷◌, ◌++◌, length, map, Some, option_map, refl, sym, ap, ◌∙◌, arith, inl, inr, IsPermutation, subst}
use Rattle.std.specs.Prelude.{filter}
use Rattle.std.specs.List.Sorted.{IsNonDecreasingBy}
use Rattle.std.specs.List.{flat_map, list_any, slice_get}
use Rattle.std.proofs.lemmas.Bool.{eqb-true}
use Rattle.std.proofs.lemmas.List.{append-nil, length-map}
use Rattle.std.proofs.lemmas.List.Elements.{All-nil, All-cons, All-head, All-tail}
use Rattle.std.proofs.lemmas.List.Sorted.{All-permutation, IsPermutation-refl, IsPermutation-sym}
use Rattle.nv_plain.specs.Files.{Files}
use Rattle.nv_plain.specs.declared.call.FileCall.{FileCall}
use Rattle.nv_plain.specs.Made.{after_calls}
use Rattle.nv_plain.specs.Calls.{files_after}
use Rattle.nv_core.specs.state.Passes.{Fault, IsOneOf, is_write, plain_call}
use Rattle.nv_runner.proofs.LifeLaws.{leaves_alike}
use Rattle.nv_mount.specs.declared.fds.Fd.{Fd}
use Rattle.nv_calls.specs.fsync.SyncRuns.{file_of_fd}
use Rattle.nv_calls.specs.histories.Faults.{OpenWrite, open_in}
use Rattle.nv_trace.specs.Shape.{IsCallWithin}
use Rattle.nv_trace.specs.declared.trace.Descriptor.{Descriptor}
use Rattle.nv_trace.specs.declared.trace_call.TraceCall.{TraceCall}
use Rattle.nv_trace.specs.declared.trace_call.TraceCall.TheVariants.{Pread, Pwrite, Preadv, Pwritev, Fsync}
use Rattle.nv_trace.specs.declared.report.Fate.TheVariants.{Kept, Lost}
use Rattle.nv_runner.specs.declared.sorted.Open.{Open}
use Rattle.nv_runner.specs.Calls.{fd_of, opened_on}
use Rattle.nv_runner.specs.Faithful.{after_fate, after_open, file_call}
use Rattle.nv_runner.specs.FaithfulRuns.{as_fd}
use Rattle.nv_runner.specs.Histories.{CallsOnFiles}
use Rattle.nv_runner.specs.OpenRuns.{open_of}
use Rattle.nv_runner.specs.OpenWrites.{is_kept_open, kept_open}
use Rattle.nv_runner.specs.Sorted.{OpenedCall, opened_call}
use Rattle.nv_trace.specs.declared.trace_call.TracedCall.{TracedCall}
use Rattle.nv_runner.specs.Reports.{OpenCall}
use Rattle.nv_top.specs.Fates.{AreShownOpen, begun_call, fated, fated_opened}

-- ---- the calls that were left open, as writes of their files

-- a call of a trace is on a descriptor that is there
within_fds : (call : TraceCall) (count : ℕ) → IsCallWithin count call → fd_of call < count
within_fds (Pread fd at len) count is = is.0
within_fds (Pwrite fd at bytes) count is = is.0
within_fds (Preadv fd at lens) count is = is.0
within_fds (Pwritev fd at parts) count is = is.0
within_fds (Fsync fd) count is = is

got : {X : Type 0} (xs : List X) (k : ℕ) → k < length xs → (x : X) × (slice_get xs k ≡ Some x)
got [] k less = absurd (omega arith)
got (x ∷ xs) zero less = (x, refl)
got (x ∷ xs) (suc k) less = got xs k (omega arith)

abbrev pub open_write : List Descriptor → Open → OpenWrite
open_write descriptors one = record { call = plain_call (file_call descriptors one.call.now.call); first = one.number }

abbrev pub AreWithin : List Descriptor → List Open → Type 0
AreWithin descriptors open_calls = All (λ (o : Open). IsCallWithin (length descriptors) o.call.now.call) open_calls

module _ (descriptors : List Descriptor) (fds : List Fd) (fds_are : fds ≡ map as_fd descriptors) (files_so : CallsOnFiles fds (file_call descriptors)) where
  one_write : (one : Open) → IsCallWithin (length descriptors) one.call.now.call → open_of fds (opened_call one) ≡ open_write descriptors one ∷ []
  one_write one within =
      let call = one.call.now.call in
      let long : length fds ≡ length descriptors = ap (λ (these : List Fd). length these) fds_are ∙ length-map descriptors as_fd in
      let less : fd_of call < length fds = let low = within_fds call (length descriptors) within in omega (arith, long, low) in
      let at = got fds (fd_of call) less in
      let is : file_of_fd fds (fd_of call) ≡ Some at.0.file = ap (option_map (λ (fd : Fd). fd.file)) at.1 in
      ap (λ file. opened_on file call one.number) is
      ∙ ap (λ call. record { call = plain_call call; first = one.number } ∷ []) (sym (files_so call at.0.file is))

  pub open_writes_are : (open_calls : List Open) → AreWithin descriptors open_calls → flat_map (open_of fds) (map opened_call open_calls) ≡ map (open_write descriptors) open_calls
  open_writes_are [] within = refl
  open_writes_are (one ∷ later) within =
      let Within : Open → Type 0 = λ o. IsCallWithin (length descriptors) o.call.now.call in
      ap (λ writes. writes ++ flat_map (open_of fds) (map opened_call later)) (one_write one (All-head Within one later within))
      ∙ ap (λ writes. open_write descriptors one ∷ writes) (open_writes_are later (All-tail Within one later within))

-- ---- the files after them

-- those that are kept of some writes, one after another, are those whose fate is to be kept
pub after_fates : (descriptors : List Descriptor) (first : ℕ) (groups : List ℕ) (open_calls : List Open) (files : Files)
    → after_calls (kept_open first groups (map (open_write descriptors) open_calls)) files ≡ after_open descriptors (map (fated first groups) open_calls) files
after_fates descriptors first groups [] files = refl
after_fates descriptors first groups (one ∷ later) files =
    by (nat_lt one.number first || list_any (λ leader. leader == one.number) groups) (λ files. after_fates descriptors first groups later files)
  where
    call : FileCall
    call = file_call descriptors one.call.now.call

    rest : List OpenWrite
    rest = filter (is_kept_open first groups) (map (open_write descriptors) later)

    by : (kept : Bool) → ((files : Files) → after_calls (map (λ (w : OpenWrite). w.call) rest) files ≡ after_open descriptors (map (fated first groups) later) files)
        → after_calls (map (λ (w : OpenWrite). w.call) (if kept then open_write descriptors one ∷ rest else rest)) files
        ≡ after_open descriptors (map (fated first groups) later) (after_fate call files (if kept then Kept else Lost))
    by true same = same (files_after (plain_call call) files) ∙ ap (after_open descriptors (map (fated first groups) later)) (leaves_alike call files)
    by false same = same files

-- ---- their numbers

not_below : (first : ℕ) (faults : List Fault) → ((fault : Fault) → IsOneOf faults fault → is_write fault.call ≡ true → first ≤ fault.first) → All (λ (w : OpenWrite). first ≤ w.first) (open_in faults)
not_below first [] low = All-nil (λ (w : OpenWrite). first ≤ w.first)
not_below first (fault ∷ before) low = by (is_write fault.call) refl (not_below first before (λ other one write. low other (inr one) write))
  where
    one : OpenWrite
    one = record { call = fault.call; first = fault.first }

    by : (write : Bool) → is_write fault.call ≡ write → All (λ (w : OpenWrite). first ≤ w.first) (open_in before)
        → All (λ (w : OpenWrite). first ≤ w.first) (if write then one ∷ open_in before else open_in before)
    by true is rest = All-cons (λ (w : OpenWrite). first ≤ w.first) one (open_in before) (low fault (inl refl) is) rest
    by false is rest = rest

-- nor does one of the calls that these are
pub numbers_low : (descriptors : List Descriptor) (first : ℕ) (faults : List Fault) (open_calls : List Open)
    → ((fault : Fault) → IsOneOf faults fault → is_write fault.call ≡ true → first ≤ fault.first) → IsPermutation (map (open_write descriptors) open_calls) (open_in faults)
    → All (λ (o : Open). first ≤ o.number) open_calls
numbers_low descriptors first faults open_calls low moved =
    go open_calls
    (All-permutation (λ (w : OpenWrite). first ≤ w.first) (open_in faults) (map (open_write descriptors) open_calls) (IsPermutation-sym (map (open_write descriptors) open_calls) (open_in faults) moved)
    (not_below first faults low))
  where
    go : (these : List Open) → All (λ (w : OpenWrite). first ≤ w.first) (map (open_write descriptors) these) → All (λ (o : Open). first ≤ o.number) these
    go [] all = All-nil (λ (o : Open). first ≤ o.number)
    go (one ∷ later) all =
        let Low : OpenWrite → Type 0 = λ w. first ≤ w.first in
        All-cons (λ (o : Open). first ≤ o.number) one later (All-head Low (open_write descriptors one) (map (open_write descriptors) later) all)
        (go later (All-tail Low (open_write descriptors one) (map (open_write descriptors) later) all))

-- ---- what a report shows of them

-- where no other call was begun
pub shown_none : (first : ℕ) (groups : List ℕ) (left : List Open) (begun : List TracedCall) (shown : List OpenCall) → begun ≡ [] → shown ≡ map (fated first groups) left → AreShownOpen first groups left begun shown
shown_none first groups left begun shown none is = record {
  all = subst (λ all. IsPermutation all shown) (sym (ap (λ begun. map (fated first groups) left ++ map begun_call begun) none ∙ append-nil (map (fated first groups) left) ∙ sym is)) (IsPermutation-refl shown);
  by_line = λ order. subst (IsNonDecreasingBy (λ (o : OpenCall). o.call.line)) (sym is) order;
  none = λ same. is;
}

-- and where some were
pub shown_some : (first : ℕ) (groups : List ℕ) (left : List Open) (begun : List TracedCall) (shown : List OpenCall) → (begun ≡ [] → ⊥) → IsPermutation (map (fated first groups) left ++ map begun_call begun) shown
    → IsNonDecreasingBy (λ (o : OpenCall). o.call.line) shown → AreShownOpen first groups left begun shown
shown_some first groups left begun shown some all order = record { all = all; by_line = λ before. order; none = λ none. absurd (some none) }

-- whether some were
pub none_begun : {X Y : Type 0} (f : X → Y) (xs : List X) → (length xs == 0) ≡ true → map f xs ≡ []
none_begun f [] is = refl
none_begun f (x ∷ xs) is = absurd (let none : length (x ∷ xs) ≡ 0 = eqb-true (length (x ∷ xs)) 0 is in omega (arith, none))

pub some_begun : {X Y : Type 0} (f : X → Y) (xs : List X) → (length xs == 0) ≡ false → map f xs ≡ [] → ⊥
some_begun f [] is none = cc
some_begun f (x ∷ xs) is none = cc

-- ---- what is kept of them

-- those that are kept have the fates of those that they are
pub fated_these : (first : ℕ) (groups : List ℕ) (these : List Open) (kept : List OpenedCall) → kept ≡ map opened_call these → map (fated_opened first groups) kept ≡ map (fated first groups) these
fated_these first groups these kept same = ap (map (fated_opened first groups)) same ∙ each these
  where
    each : (these : List Open) → map (fated_opened first groups) (map opened_call these) ≡ map (fated first groups) these
    each [] = refl
    each (one ∷ later) = ap (λ rest. fated first groups one ∷ rest) (each later)

-- Open runs: the open writes of all passes of a run, as the calls that were left open.
use Rattle.std.proofs.Common.{◌≡◌, ℕ, zero, suc, ◌<◌, Bool, true, false, if◌then◌else◌, List, [], ◌∷◌, ◌++◌, length, map, get_or, refl, sym, ap, subst, ◌∙◌, arith}
use Rattle.std.specs.Prelude.{All, IsPermutation, Option, Result, slice_set}
use Rattle.std.specs.List.{flat_map, swap}
use Rattle.std.proofs.lemmas.Grind.{flat_map-append}
use Rattle.std.proofs.lemmas.List.{append_assoc, append-nil}
use Rattle.std.proofs.lemmas.List.Sorted.{IsPermutation-append, IsPermutation-append_comm, IsPermutation-append_left, IsPermutation-append_right, IsPermutation-keeps, IsPermutation-refl, IsPermutation-sym, IsPermutation-trans}
use Rattle.nv_core.specs.state.Passes.{Fault, is_write}
use Rattle.nv_table.specs.passes.Seats.{past_of}
use Rattle.nv_table.specs.state.Opened.{Opened}
use Rattle.nv_table.specs.state.States.{PassState}
use Rattle.nv_table.specs.state.Views.{Past, pass_of, past_pass}
use Rattle.nv_mount.specs.WholeWrites.{faults_then}
use Rattle.nv_mount.specs.declared.fds.Fd.{Fd}
use Rattle.nv_calls.specs.histories.Faults.{OpenWrite, open_in, open_writes}
use Rattle.nv_clean.specs.Answers.{IsCleanOver}
use Rattle.nv_clean.specs.declared.batch.CleanRefusal.{CleanRefusal}
use Rattle.nv_clean.specs.declared.clean.Cleaned.{Cleaned}
use Rattle.nv_trace.specs.declared.trace_call.TracedCall.{TracedCall}
use Rattle.nv_runner.specs.declared.answer.Answer.{Answer}
use Rattle.nv_runner.specs.declared.answer.Answer.TheVariants.{Placed, Refused, Open}
use Rattle.nv_runner.specs.Calls.{opened_by}
use Rattle.nv_runner.specs.Lists.{AreMade, MadeCall}
use Rattle.nv_runner.specs.OpenRuns.{OpenInRun, open_of}
use Rattle.nv_runner.specs.OpenWrites.{KeepsFaults, opened}
use Rattle.nv_runner.specs.Shifts.{IsShift, Shift}
use Rattle.nv_runner.proofs.OpenLaws.{open_are_faults}
use Rattle.nv_runner.specs.Sorted.{OpenedCall, opened_calls, opened_in_answer}

-- ---- what each of some gives, in whatever order they are

exchanged : {Y : Type 0} (one other rest : List Y) → IsPermutation (one ++ (other ++ rest)) (other ++ (one ++ rest))
exchanged one other rest =
    subst (λ l. IsPermutation l (other ++ (one ++ rest))) (append_assoc one other rest)
    (subst (λ l. IsPermutation ((one ++ other) ++ rest) l) (append_assoc other one rest) (IsPermutation-append_left rest (one ++ other) (other ++ one) (IsPermutation-append_comm one other)))

module _ {X Y : Type 0} (f : X → List Y) where
  -- one that takes another's place
  set_moved : (d : X) (xs : List X) (k : ℕ) (x : X) → k < length xs → IsPermutation (f (get_or xs k d) ++ flat_map f (slice_set xs k x)) (f x ++ flat_map f xs)
  set_moved d [] k x within = absurd (omega arith)
  set_moved d (y ∷ xs) zero x within = exchanged (f y) (f x) (flat_map f xs)
  set_moved d (y ∷ xs) (suc k) x within =
      IsPermutation-trans (f (get_or xs k d) ++ (f y ++ flat_map f (slice_set xs k x))) (f y ++ (f (get_or xs k d) ++ flat_map f (slice_set xs k x))) (f x ++ (f y ++ flat_map f xs))
      (exchanged (f (get_or xs k d)) (f y) (flat_map f (slice_set xs k x)))
      (IsPermutation-trans (f y ++ (f (get_or xs k d) ++ flat_map f (slice_set xs k x))) (f y ++ (f x ++ flat_map f xs)) (f x ++ (f y ++ flat_map f xs))
      (IsPermutation-append_right (f y) (f (get_or xs k d) ++ flat_map f (slice_set xs k x)) (f x ++ flat_map f xs) (set_moved d xs k x (omega arith))) (exchanged (f y) (f x) (flat_map f xs)))

  both_moved : (d : X) (xs : List X) (i j : ℕ) → i < length xs → j < length xs → IsPermutation (flat_map f (slice_set (slice_set xs i (get_or xs j d)) j (get_or xs i d))) (flat_map f xs)
  both_moved d [] i j within also = absurd (omega arith)
  both_moved d (x ∷ xs) zero zero within also = IsPermutation-refl (flat_map f (x ∷ xs))
  both_moved d (x ∷ xs) zero (suc j) within also = set_moved d xs j x (omega arith)
  both_moved d (x ∷ xs) (suc i) zero within also = set_moved d xs i x (omega arith)
  both_moved d (x ∷ xs) (suc i) (suc j) within also =
      IsPermutation-append_right (f x) (flat_map f (slice_set (slice_set xs i (get_or xs j d)) j (get_or xs i d))) (flat_map f xs) (both_moved d xs i j (omega arith) (omega arith))

  swap_moved : (xs : List X) (i j : ℕ) → i < length xs → j < length xs → IsPermutation (flat_map f (swap xs i j)) (flat_map f xs)
  swap_moved [] i j within also = absurd (omega arith)
  swap_moved (d ∷ xs) i j within also = both_moved d (d ∷ xs) i j within also

  pub flat_moved : (xs ys : List X) → IsPermutation xs ys → IsPermutation (flat_map f xs) (flat_map f ys)
  flat_moved xs ys moved =
      IsPermutation-keeps xs (λ l. IsPermutation (flat_map f xs) (flat_map f l)) (IsPermutation-refl (flat_map f xs))
      (λ l i j within also so_far. IsPermutation-trans (flat_map f xs) (flat_map f l) (flat_map f (swap l i j)) so_far (IsPermutation-sym (flat_map f (swap l i j)) (flat_map f l) (swap_moved l i j within also))) ys moved

-- ---- the open writes of some passes

pub open_append : (one other : List Fault) → open_in (one ++ other) ≡ open_in one ++ open_in other
open_append [] other = refl
open_append (fault ∷ before) other = by (is_write fault.call) (open_append before other)
  where
    first : OpenWrite
    first = record { call = fault.call; first = fault.first }

    by : (write : Bool) → open_in (before ++ other) ≡ open_in before ++ open_in other
        → (if write then first ∷ open_in (before ++ other) else open_in (before ++ other)) ≡ (if write then first ∷ open_in before else open_in before) ++ open_in other
    by true same = ap (λ writes. first ∷ writes) same
    by false same = same

-- A shift has its own, where it began with none, and what came behind its calls left them.
pub own_of : (fds : List Fd) (worker : Option ℕ) (made : List MadeCall) (start last now : PassState) → open_writes start ≡ [] → AreMade fds worker made start last → open_writes now ≡ open_writes last
    → open_writes now ≡ opened fds made
own_of fds worker made start last now none are still =
    still ∙ open_are_faults fds worker made start last are ∙ ap (λ before. opened fds made ++ before) none ∙ append-nil (opened fds made)

module _ (fds : List Fd) (worker : Option ℕ) (mount : Opened) where
  abbrev faults_of : Past → List Fault
  faults_of past = (past_pass mount past).faulted

  shifts_open : (shifts : List Shift) → All (IsShift fds worker mount) shifts
      → open_in (flat_map faults_of (map (λ shift. past_of shift.now.view) shifts)) ≡ flat_map (λ shift. opened fds shift.made) shifts
  shifts_open [] each = refl
  shifts_open (shift ∷ earlier) each =
      let is = each 0 shift (omega arith) in
      let here : open_in (faults_of (past_of shift.now.view)) ≡ opened fds shift.made =
      ap (λ (o : Opened). open_in ((past_pass o (past_of shift.now.view)).faulted)) (sym is.still_mount)
      ∙ own_of fds worker shift.made shift.start is.last shift.now is.unfailed is.made is.keeps.opens in
      open_append (faults_of (past_of shift.now.view)) (flat_map faults_of (map (λ s. past_of s.now.view) earlier))
      ∙ ap (λ writes. writes ++ open_in (flat_map faults_of (map (λ s. past_of s.now.view) earlier))) here
      ∙ ap (λ writes. opened fds shift.made ++ writes) (shifts_open earlier (λ k d within. each (suc k) d (omega arith)))

-- ---- the calls that were left open

module _ (fds : List Fd) where
  abbrev opened_in : MadeCall → List OpenWrite
  opened_in m = opened_by fds m.call.call m.answer

  -- the first of them first
  opened_moved : (made : List MadeCall) → IsPermutation (flat_map opened_in made) (opened fds made)
  opened_moved [] = IsPermutation-refl []
  opened_moved (m ∷ later) =
      IsPermutation-trans (opened_in m ++ flat_map opened_in later) (opened_in m ++ opened fds later) (opened fds later ++ opened_in m)
      (IsPermutation-append_right (opened_in m) (flat_map opened_in later) (opened fds later) (opened_moved later)) (IsPermutation-append_comm (opened_in m) (opened fds later))

  shifts_moved : (shifts : List Shift) → IsPermutation (flat_map opened_in (flat_map (λ shift. shift.made) shifts)) (flat_map (λ shift. opened fds shift.made) shifts)
  shifts_moved [] = IsPermutation-refl []
  shifts_moved (shift ∷ earlier) =
      let rest = flat_map (λ (s : Shift). s.made) earlier in
      subst (λ l. IsPermutation l (opened fds shift.made ++ flat_map (λ (s : Shift). opened fds s.made) earlier)) (sym (flat_map-append opened_in shift.made rest))
      (IsPermutation-append (flat_map opened_in shift.made) (opened fds shift.made) (flat_map opened_in rest) (flat_map (λ (s : Shift). opened fds s.made) earlier) (opened_moved shift.made) (shifts_moved earlier))

  one_left : (call : TracedCall) (answer : Answer) (later : List OpenedCall) → flat_map (open_of fds) (opened_in_answer call answer ++ later) ≡ opened_by fds call.call answer ++ flat_map (open_of fds) later
  one_left call (Placed place reply) later = refl
  one_left call (Refused refusal) later = refl
  one_left call (Open number) later = refl

  left_are : (made : List MadeCall) → flat_map (open_of fds) (opened_calls made) ≡ flat_map opened_in made
  left_are [] = refl
  left_are (m ∷ later) = one_left m.call m.answer (opened_calls later) ∙ ap (λ writes. opened_in m ++ writes) (left_are later)

pub open_in_run : OpenInRun
open_in_run fds worker made end run none left moved =
    let all = flat_map (λ (shift : Shift). shift.made) run.shifts in
    let writes = flat_map (λ (shift : Shift). opened fds shift.made) run.shifts in
    let ended : open_in (faults_then end.view) ≡ writes =
    open_append (pass_of end.view).faulted (flat_map (faults_of fds worker end.view.opened) end.view.ended)
    ∙ ap (λ first. first ++ open_in (flat_map (faults_of fds worker end.view.opened) end.view.ended)) none
    ∙ ap (λ pasts. open_in (flat_map (faults_of fds worker end.view.opened) pasts)) (sym run.pasts)
    ∙ shifts_open fds worker end.view.opened run.shifts run.each in
    subst (λ l. IsPermutation (flat_map (open_of fds) left) l) (sym ended)
    (IsPermutation-trans (flat_map (open_of fds) left) (flat_map (opened_in fds) made) writes
    (subst (λ l. IsPermutation (flat_map (open_of fds) left) l) (left_are fds made)
    (IsPermutation-sym (flat_map (open_of fds) (opened_calls made)) (flat_map (open_of fds) left) (flat_moved (open_of fds) (opened_calls made) left moved)))
    (IsPermutation-trans (flat_map (opened_in fds) made) (flat_map (opened_in fds) all) writes (flat_moved (opened_in fds) made all run.listed) (shifts_moved fds run.shifts)))

-- ---- batches

-- a cleaner's batch leaves the writes that faults ended
pub cleaning_keeps : (first start now : PassState) (batch : ℕ) (result : Result Cleaned CleanRefusal) → KeepsFaults first start → IsCleanOver batch start now result → KeepsFaults first now
cleaning_keeps first start now batch result before over = record { opens = ap open_in over.faults ∙ before.opens; stays = λ seen. over.stays (before.stays seen) }

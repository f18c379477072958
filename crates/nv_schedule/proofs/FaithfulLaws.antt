-- Faithful: what a report shows of the sorted calls of a schedule.
use Rattle.std.proofs.Common.{◌≡◌, ◌⊎◌, ℕ, ◌+◌, ◌^◌, ◌<◌, ◌≤◌, List, [], ◌∷◌, ◌++◌, length, map, true, inl, inr, refl, sym, ap, subst, ◌∙◌, arith}
use Rattle.std.specs.Prelude.{IsPermutation, MatchOption, None, Option, Some, is_some}
use Rattle.std.specs.List.{range_with_len}
use Rattle.std.specs.List.Sorted.{IsNonDecreasingBy, IsStrictlyIncreasing}
use Rattle.std.proofs.lemmas.Bool.{true≢false}
use Rattle.std.proofs.lemmas.List.{get_or-map, length-append, length-map, map-append}
use Rattle.std.proofs.lemmas.List.Sorted.{IsPermutation-map, IsPermutation-refl, length_permutation}
use Rattle.std.proofs.lemmas.Option.{none-some}
use Rattle.nv_core.specs.state.Passes.{IsOneOf}
use Rattle.nv_core.specs.state.Words.{HEAD, ORDER, Sizes}
use Rattle.nv_pmem.specs.declared.picker.Pick.TheVariants.{Old}
use Rattle.nv_table.specs.state.Opened.{Opened}
use Rattle.nv_table.specs.state.States.{PassState}
use Rattle.nv_table.specs.state.Views.{AreDistinctNumbers}
use Rattle.nv_mount.specs.declared.fds.Fd.{Fd}
use Rattle.nv_mirror.specs.declared.answers.Refusal as mirror
use Rattle.nv_mirror.specs.declared.answers.Refusal.TheVariants as why
use Rattle.nv_calls.specs.histories.Heeds.{HasSeenStop}
use Rattle.nv_trace.specs.Shape.{IsCallWithin}
use Rattle.nv_trace.specs.Traced.{Traced}
use Rattle.nv_trace.specs.declared.report.Refusal.{Refusal}
use Rattle.nv_trace.specs.declared.report.Refusal.TheVariants.{Again}
use Rattle.nv_trace.specs.declared.trace_call.TraceCall.{TraceCall}
use Rattle.nv_trace.specs.declared.trace_call.TracedCall.{TracedCall}
use Rattle.nv_runner.specs.Entries.{entries_of_calls, entries_taken}
use Rattle.nv_runner.specs.declared.answer.Answer.TheVariants.{Open}
use Rattle.nv_runner.specs.declared.plan.Plan.{Plan}
use Rattle.nv_runner.specs.Faithful.{Basis, HadNoRoom as Short, IsAllowedRefusal, RetiresNothing, WasRefused, barred, descriptors_in, not_later}
use Rattle.nv_runner.specs.FaithfulRuns.{IsMountOf, shown_refusal}
use Rattle.nv_runner.specs.Lists.{MadeCall, calls_made}
use Rattle.nv_runner.specs.Refusals.{FoundNoRoom, HasCause, IsCause, early_of_call, word_seen}
use Rattle.nv_runner.specs.Shifts.{calls_of_thread}
use Rattle.nv_runner.specs.Sorted.{HaveOwnLines, OpenedCall, opened_calls}
use Rattle.nv_runner.proofs.CauseLaws.{StoodSo, bar_is, is_allowed_so, is_shown, shown_bar, taken_is}
use Rattle.nv_runner.proofs.histories.HistoryMembers.{one_left}
use Rattle.nv_runner.proofs.LineLaws.{distinct_moved, open_in_lines}
use Rattle.nv_runner.proofs.RoundLists.{all_calls, calls_of, distinct_range, few_calls, in_range}
use Rattle.nv_schedule.specs.Begun.{AreFirstOfThread}
use Rattle.nv_schedule.proofs.BegunLaws.{begun_within}

-- ---- how many calls are begun

few_by_thread : (calls some : List TracedCall) → ((thread : ℕ) → length (calls_of_thread thread some) ≤ length (calls_of_thread thread calls)) → (threads : List ℕ) → length (calls_of threads some) ≤ length (calls_of threads calls)
few_by_thread calls some few [] = omega arith
few_by_thread calls some few (thread ∷ more) =
    let one = few thread in
    let others = few_by_thread calls some few more in
    let left = length-append (calls_of_thread thread some) (calls_of more some) in
    let right = length-append (calls_of_thread thread calls) (calls_of more calls) in
    omega (arith, one, others, left, right)

-- no more than a trace has, of threads below 8
pub few_begun : (calls told untold : List TracedCall) → ((thread : ℕ) → AreFirstOfThread calls told untold thread) → ((call : TracedCall) → IsOneOf calls call → call.thread ≤ 7) → length told ≤ length calls
few_begun calls told untold first low =
    let threads = range_with_len 0 8 in
    let there = all_calls threads told (distinct_range 0 8)
    (λ call one. (let most = low call (begun_within calls told untold first call (one_left told untold call one)) in in_range 0 8 call.thread (omega arith) (omega (arith, most)))) in
    let same = length_permutation (calls_of threads told) told there in
    let few = few_by_thread calls told (λ thread. (
    let is = ap length (first thread).first in
    let one = length-append (calls_of_thread thread told ++ calls_of_thread thread untold) (first thread).left in
    let other = length-append (calls_of_thread thread told) (calls_of_thread thread untold) in
    omega (arith, is, one, other))) threads in
    let most = few_calls threads calls (distinct_range 0 8) in
    omega (arith, same, few, most)

-- ---- lines of the open ones

distinct_back : (xs ys : List ℕ) → AreDistinctNumbers (xs ++ ys) → AreDistinctNumbers ys
distinct_back [] ys distinct = distinct
distinct_back (x ∷ xs) ys distinct = distinct_back xs ys distinct.1

pub own_back : (front calls : List TracedCall) → HaveOwnLines (front ++ calls) → HaveOwnLines calls
own_back front calls own =
    distinct_back (map (λ (call : TracedCall). call.line) front) (map (λ (call : TracedCall). call.line) calls) (subst AreDistinctNumbers (map-append (λ (call : TracedCall). call.line) front calls) own)

pub own_moved : (calls others : List TracedCall) → IsPermutation calls others → HaveOwnLines calls → HaveOwnLines others
own_moved calls others moved own =
    distinct_moved (map (λ (call : TracedCall). call.line) calls) (map (λ (call : TracedCall). call.line) others) (IsPermutation-map (λ (call : TracedCall). call.line) calls others moved) own

-- as calls that were left open
abbrev as_open : TracedCall → MadeCall
as_open call = record { call = call; answer = Open 0 }

abbrev as_opened : TracedCall → OpenedCall
as_opened call = record { call = call; number = 0 }

made_open : (calls : List TracedCall) → calls_made (map as_open calls) ≡ calls
made_open [] = refl
made_open (call ∷ later) = ap (λ l. call ∷ l) (made_open later)

opened_open : (calls : List TracedCall) → opened_calls (map as_open calls) ≡ map as_opened calls
opened_open [] = refl
opened_open (call ∷ later) = ap (λ l. as_opened call ∷ l) (opened_open later)

opened_lines : (calls : List TracedCall) → map (λ (o : OpenedCall). o.call.line) (map as_opened calls) ≡ map (λ (call : TracedCall). call.line) calls
opened_lines [] = refl
opened_lines (call ∷ later) = ap (λ l. call.line ∷ l) (opened_lines later)

falls_as : (calls : List TracedCall) → IsNonDecreasingBy (λ call. call.line) calls → IsNonDecreasingBy (λ (o : OpenedCall). o.call.line) (map as_opened calls)
falls_as [] rises i j d before within = absurd (omega (arith, within))
falls_as (first ∷ later) rises i j d before within =
    let long = length-map (first ∷ later) as_opened in
    let at_i = ap (λ (o : OpenedCall). o.call.line) (get_or-map as_opened (first ∷ later) i first d (omega (arith, before, within, long))) in
    let at_j = ap (λ (o : OpenedCall). o.call.line) (get_or-map as_opened (first ∷ later) j first d (omega (arith, within, long))) in
    let up = rises i j first before (omega (arith, within, long)) in
    omega (arith, at_i, at_j, up)

-- calls that don't fall by line rise by it, where each is of a line of its own
pub rising_lines : (calls : List TracedCall) → HaveOwnLines calls → IsNonDecreasingBy (λ call. call.line) calls → IsStrictlyIncreasing (map (λ call. call.line) calls)
rising_lines calls own rises =
    subst IsStrictlyIncreasing (opened_lines calls)
    (open_in_lines (map as_open calls) (map as_opened calls) (subst HaveOwnLines (sym (made_open calls)) own)
    (subst (λ l. IsPermutation l (map as_opened calls)) (sym (opened_open calls)) (IsPermutation-refl (map as_opened calls))) (falls_as calls rises))

-- ---- causes

-- a plan with a worker: where a call isn't refused for want of room its cause is one there too
abbrev beside : Plan
beside = record { batch = 0; worker = true; stop = None; image = Old }

abbrev IsBarOrCause : Sizes → (worker : Option ℕ) → TraceCall → (now : PassState) → mirror.Refusal → Option mirror.Refusal → Type 0
IsBarOrCause sizes worker call now refusal early = MatchOption early (IsCause sizes worker call now refusal) (λ bar. refusal ≡ bar)

record HadNoRoom (sizes : Sizes) (call : TraceCall) (now : PassState) (refusal : mirror.Refusal) (early : Option mirror.Refusal) : Type 0 where
  pub free : early ≡ None
  pub head : ℕ
  pub tail : ℕ
  pub is : refusal ≡ why.Again head tail
  pub found : FoundNoRoom sizes call now head tail

cause_beside : (sizes : Sizes) (call : TraceCall) (now : PassState) (refusal : mirror.Refusal) (early : Option mirror.Refusal) → IsBarOrCause sizes None call now refusal early
    → IsBarOrCause sizes (Some 0) call now refusal early ⊎ HadNoRoom sizes call now refusal early
cause_beside sizes call now refusal (Some bar) cause = inl cause
cause_beside sizes call now (why.Again head tail) None cause = inr record { free = refl; head = head; tail = tail; is = refl; found = cause.1 }
cause_beside sizes call now refusal None cause = inl cause

-- such a cause of a refusal that is shown
allowed_as : (failed : Type 0) (basis : Basis) (drew : List TracedCall) (call : TracedCall) (shown : Refusal) (bar : Option Refusal) → MatchOption bar (WasRefused failed (RetiresNothing true basis) basis drew call shown) (λ cause. shown ≡ cause)
    → MatchOption bar (WasRefused failed (λ tail. basis.next ≤ tail) basis drew call shown) (λ cause. shown ≡ cause)
allowed_as failed basis drew call shown (Some bar) allowed = allowed
allowed_as failed basis drew call (Again head tail) None allowed = absurd (true≢false allowed.retired.0)
allowed_as failed basis drew call shown None allowed = allowed

module _ (failed : Type 0) (basis : Basis) (trace : Traced) (opened : Opened) (fds : List Fd) (is : IsMountOf basis trace opened fds) (drew : List TracedCall) (call : TracedCall) (now : PassState) (same : now.view.opened ≡ opened)
    (stopped : HasSeenStop now → failed) (order : word_seen now ORDER < 2 ^ 60) (head_low : word_seen now HEAD ≤ basis.next + entries_of_calls basis.sizes.page (not_later call drew)) (refusal : mirror.Refusal)
    (cause : HasCause fds None call.call now refusal) where
  stood : StoodSo failed basis (Some 0) drew call now
  stood = record { stopped = stopped; order = order; head = head_low; tail = λ none. absurd (none-some 0 (sym none)) }

  either : IsBarOrCause now.view.opened.sizes (Some 0) call.call now refusal (early_of_call now.view.opened.sizes fds call.call) ⊎ HadNoRoom now.view.opened.sizes call.call now refusal (early_of_call now.view.opened.sizes fds call.call)
  either = cause_beside now.view.opened.sizes call.call now refusal (early_of_call now.view.opened.sizes fds call.call) cause

  pub shown_there : is_some (shown_refusal refusal) ≡ true
  shown_there = elim either [
    | inl so ↦ is_shown failed basis trace opened fds is beside drew call now same stood refusal so
    | inr room ↦ ap (λ (r : mirror.Refusal). is_some (shown_refusal r)) room.is
  ]

  pub allowed_there : (shown : Refusal) → IsCallWithin (length trace.descriptors) call.call → shown_refusal refusal ≡ Some shown → IsAllowedRefusal failed (λ tail. basis.next ≤ tail) basis (descriptors_in basis.names trace) drew call shown
  allowed_there shown within shows = elim either [
    | inl so ↦ allowed_as failed basis drew call shown (barred basis.sizes (descriptors_in basis.names trace) call.call) (is_allowed_so failed basis trace opened fds is beside drew call now same within stood refusal shown shows so)
    | inr room ↦ (
        let free : barred basis.sizes (descriptors_in basis.names trace) call.call ≡ None =
        sym (bar_is basis trace opened fds is call.call within) ∙ ap shown_bar (ap (λ (o : Opened). early_of_call o.sizes fds call.call) (sym same) ∙ room.free) in
        let shown_is : shown ≡ Again room.head room.tail = some_same (sym shows ∙ ap shown_refusal room.is) in
        let taken = taken_is basis trace opened fds is call.call in
        let sizes_same = ap (λ (o : Opened). entries_taken o.sizes.page call.call) same in
        let takes = room.found.takes in
        let full = room.found.full in
        let entries_same = ap (λ (o : Opened). o.sizes.entries) same in
        let most = room.found.head_most in
        let least = room.found.tail_least in
        let next_same = ap (λ (o : Opened). o.next) same in
        let next = is.next in
        let entries = is.entries in
        let so : Short (λ tail. basis.next ≤ tail) basis drew call room.head room.tail = record {
          takes = omega (arith, taken, sizes_same, takes);
          retired = omega (arith, least, next_same, next);
          full = omega (arith, full, taken, sizes_same, entries_same, entries);
          drawn = omega (arith, most, head_low);
        } in
        subst (λ (bar : Option Refusal). MatchOption bar (WasRefused failed (λ tail. basis.next ≤ tail) basis drew call shown) (λ cause. shown ≡ cause)) (sym free) (subst (WasRefused failed (λ tail. basis.next ≤ tail) basis drew call) (sym shown_is) so)
        )
  ]
    where
      some_same : {head tail : ℕ} → Some shown ≡ Some (Again head tail) → shown ≡ Again head tail
      some_same is = cc

-- Commits: each call that was told part by part is a device call that is due.
use Rattle.std.proofs.Common.{◌≡◌, ◌≢◌, ◌⊎◌, inl, inr, ℕ, ◌+◌, ◌%◌, ◌<◌, ◌≤◌, ◌==◌, if◌then◌else◌, Bool, true, false, List, [], ◌∷◌, ◌++◌, length, slice_index_or, refl, sym, ap, subst, ◌∙◌, arith, append_assoc, length-append, length-set, get_or-set_same, get_or-set_other, eq-eqb, ne_eqb}
use Rattle.std.specs.Prelude.{option_map, Ok, Err}
use Rattle.std.proofs.lemmas.Bool.{cases_order}
use Rattle.nv_plain.specs.Faults.{Rose}
use Rattle.nv_pmem.specs.Calls.{Seen, EndedWell, EndedBadly, OnOne, Through}
use Rattle.nv_pmem.specs.Rows.{RowStep}
use Rattle.nv_pmem.specs.Runs.{grown}
use Rattle.nv_pmem.specs.Steps.{LineStep, PartHistory, after_line_step}
use Rattle.nv_core.specs.state.Words.{Sizes, Word, index}
use Rattle.nv_core.specs.state.Spares.{spares_of}
use Rattle.nv_core.specs.state.Values.{Value, APart, PartStep, CallEnding, Made, Failed, called, part_after, has_come, faults_after}
use Rattle.nv_core.specs.state.Passes.{Control, CommitGroup, PledgePage, SetStopAfterCommit, Pass, first_page, times}
use Rattle.nv_core.specs.steps.Order.{Values, Work, commit_steps, CallDue, CallMayEnd, CallMayLeave, CallEnabled}
use Rattle.nv_core.specs.state.Core.{control_worked, worked, values_worked}
use Rattle.nv_core.proofs.state.Changes.{word_here, word_else}
use Rattle.nv_core.proofs.state.SlotLaws.{apart}
use Rattle.nv_core.proofs.state.SparesLaws.{spares_keep_steps}
use Rattle.nv_table.specs.steps.SeatSteps.{AreDue, pass_worked, values_after}
use Rattle.nv_pages.specs.CommitCalls.{told_of, KeepsPart, entry_cell, KeepCommitRow, IsCommitting, CommitsAreDue}

-- ---- what is told of a part

told_grown : (step : LineStep) (history : PartHistory) → told_of (grown after_line_step step history) ≡ option_map (after_line_step step) (told_of history)
told_grown step [] = refl
told_grown step (now ∷ past) = refl

-- parts of a row have cells of their own
pub cells_differ : (sizes : Sizes) (first i j count : ℕ) → i < count → j < count → count ≤ sizes.entries → i ≢ j → entry_cell sizes first i ≢ entry_cell sizes first j
cells_differ sizes first i j count low high few ne e = by (cases_order i j)
  where
    slots : (first + i) % sizes.entries ≡ (first + j) % sizes.entries
    slots = ap index e

    by : (i ≡ j) ⊎ ((i < j) ⊎ (j < i)) → ⊥
    by (inl same) = ne same
    by (inr (inl below)) = apart sizes.entries (first + i) (first + j) (omega arith) (omega arith) slots
    by (inr (inr above)) = apart sizes.entries (first + j) (first + i) (omega arith) (omega arith) (sym slots)

-- ---- one call

-- the device call that a call on a part of a row is
work_of : Sizes → (first : ℕ) → RowStep → (now : Seen) → CallEnding → Work
work_of sizes first call now ending = record { cell = entry_cell sizes first call.part; job = PartStep call.step (spares_of now.room); ending = ending }

module _ (sizes : Sizes) (values : Values) (pass : Pass) (row next : List Seen) (call : RowStep) (One : LineStep → Seen → Seen → Type 0) (on : OnOne One call row next) (few : length row ≤ sizes.entries) (kept : KeepCommitRow sizes values pass.first row)
    (ending : CallEnding) where
  cell : Word
  cell = entry_cell sizes pass.first call.part

  keeps : KeepsPart (values (entry_cell sizes pass.first call.part)) on.was
  keeps = subst (KeepsPart (values (entry_cell sizes pass.first call.part))) on.before (kept.each call.part on.was on.there)

  work_may : (k : ℕ) → pass.control ≡ CommitGroup k → k < length (commit_steps sizes pass pass.call) → slice_index_or (commit_steps sizes pass pass.call) k call ≡ call → times (entry_cell sizes pass.first call.part) pass.owned ≡ 1
      → CallMayEnd (APart keeps.device (spares_of on.was.room)) ending → CallMayLeave (APart keeps.device (spares_of on.was.room)) (PartStep call.step (spares_of on.now.room)) ending
      → CallEnabled sizes values pass (work_of sizes pass.first call on.now ending)
  unfolding work_of
  work_may k control there at here ends leaves = record {
    due = subst (CallDue sizes values pass (work_of sizes pass.first call on.now ending)) (sym control)
        record { row = call; there = there; at = at; cell = refl; spares = spares_of on.now.room; job = refl };
    ends = subst (λ (v : Value). CallMayEnd v ending) (sym keeps.is) ends;
    leaves = subst (λ (v : Value). CallMayLeave v (PartStep call.step (spares_of on.now.room)) ending) (sym keeps.is) leaves;
    here = here;
  }

  values_then : Values
  values_then = values_worked pass (work_of sizes pass.first call on.now ending) values

  kept_here : part_after (PartStep call.step (spares_of on.now.room)) (has_come ending) keeps.device.told ≡ told_of on.now.history → faults_after ending keeps.device.faults ≡ on.now.faults
      → KeepsPart (values_then (entry_cell sizes pass.first call.part)) on.now
  unfolding work_of values_then
  kept_here told faults = record {
    device = record keeps.device { told = part_after (PartStep call.step (spares_of on.now.room)) (has_come ending) keeps.device.told; faults = faults_after ending keeps.device.faults };
    is = word_here values (entry_cell sizes pass.first call.part) _ ∙ ap (called (PartStep call.step (spares_of on.now.room)) ending) keeps.is;
    told = told;
    faults = faults;
  }

  values_else : (other : Word) → other ≢ entry_cell sizes pass.first call.part → values_then other ≡ values other
  unfolding work_of values_then
  values_else other ne = word_else values (entry_cell sizes pass.first call.part) _ other ne

  same_length : length next ≡ length row
  same_length = ap length on.after ∙ length-set row call.part on.now

  row_kept : KeepsPart (values_then (entry_cell sizes pass.first call.part)) on.now → KeepCommitRow sizes values_then pass.first next
  row_kept here = record {
    each = λ i default low. by i default (let e = same_length in omega (arith, e, low)) (cases_order i call.part);
  }
    where
      else_ : (i : ℕ) (default : Seen) → i < length row → i ≢ call.part → KeepsPart (values_then (entry_cell sizes pass.first i)) (slice_index_or next i default)
      else_ i default low ne =
          let seen : slice_index_or next i default ≡ slice_index_or row i default = ap (λ (r : List Seen). slice_index_or r i default) on.after ∙ get_or-set_other row call.part i on.now default ne in
          let value = values_else (entry_cell sizes pass.first i) (cells_differ sizes pass.first i call.part (length row) low on.there few ne) in
          subst (λ (s : Seen). KeepsPart (values_then (entry_cell sizes pass.first i)) s) (sym seen) (subst (λ (v : Value). KeepsPart v (slice_index_or row i default)) (sym value) (kept.each i default low))

      by : (i : ℕ) (default : Seen) → i < length row → (i ≡ call.part) ⊎ ((i < call.part) ⊎ (call.part < i)) → KeepsPart (values_then (entry_cell sizes pass.first i)) (slice_index_or next i default)
      by i default low (inl same) =
          let seen : slice_index_or next call.part default ≡ on.now = ap (λ (r : List Seen). slice_index_or r call.part default) on.after ∙ get_or-set_same row call.part on.now default on.there in
          subst (λ (j : ℕ). KeepsPart (values_then (entry_cell sizes pass.first j)) (slice_index_or next j default)) (sym same)
          (subst (λ (s : Seen). KeepsPart (values_then (entry_cell sizes pass.first call.part)) s) (sym seen) here)
      by i default low (inr (inl below)) = else_ i default low (λ e. omega (arith, e, below))
      by i default low (inr (inr above)) = else_ i default low (λ e. omega (arith, e, above))

-- ---- several calls

-- where a pass stands in its commit behind so many calls
control_at : Sizes → Pass → ℕ → Control
control_at sizes pass calls = if calls == length (commit_steps sizes pass pass.call) then PledgePage (first_page sizes pass.call) else CommitGroup calls

at_call : (before : List RowStep) (call : RowStep) (rest : List RowStep) → slice_index_or (before ++ call ∷ rest) (length before) call ≡ call
at_call [] call rest = refl
at_call (first ∷ before) call rest = at_call before call rest

-- What some device calls came to.
record Out (sizes : Sizes) (values : Values) (pass : Pass) (count : ℕ) (last : List Seen) (control : Control) : Type 0 where
  works : List Work
  due : AreDue sizes values pass works
  kept : KeepCommitRow sizes (values_after sizes works pass values) pass.first last
  others : (cell : Word) → ((i : ℕ) → i < count → cell ≢ entry_cell sizes pass.first i) → values_after sizes works pass values cell ≡ values cell
  control_is : (pass_worked sizes works pass).control ≡ control

-- The pass is in its commit, with so many calls behind it and these before it.
record Amid (sizes : Sizes) (values : Values) (pass : Pass) (count : ℕ) (row : List Seen) (calls : List RowStep) : Type 0 where
  before : List RowStep
  are : commit_steps sizes pass pass.call ≡ before ++ calls
  control : pass.control ≡ control_at sizes pass (length before)
  long : length row ≡ count
  few : count ≤ sizes.entries
  here : (i : ℕ) → i < count → times (entry_cell sizes pass.first i) pass.owned ≡ 1
  kept : KeepCommitRow sizes values pass.first row

module _ (sizes : Sizes) (values : Values) (pass : Pass) (count : ℕ) (row next : List Seen) (call : RowStep) (rest : List RowStep) (One : LineStep → Seen → Seen → Type 0) (on : OnOne One call row next) (amid : Amid sizes values pass count row (call ∷ rest)) (ending : CallEnding) where
  few_here : length row ≤ sizes.entries
  few_here = let a = amid.long in let b = amid.few in omega (arith, a, b)

  there_here : call.part < count
  there_here = let a = amid.long in let b = on.there in omega (arith, a, b)

  within : length amid.before < length (commit_steps sizes pass pass.call)
  within = let e = ap length amid.are ∙ length-append amid.before (call ∷ rest) in omega (arith, e)

  committing : pass.control ≡ CommitGroup (length amid.before)
  unfolding control_at
  committing =
      amid.control ∙ ap (λ (b : Bool). if b then PledgePage (first_page sizes pass.call) else CommitGroup (length amid.before))
      (ne_eqb (length amid.before) (length (commit_steps sizes pass pass.call)) (λ e. let w = within in omega (arith, e, w)))

  the_keeps : KeepsPart (values (entry_cell sizes pass.first call.part)) on.was
  the_keeps = keeps sizes values pass row next call One on few_here amid.kept ending

  may_come : CallMayEnd (APart the_keeps.device (spares_of on.was.room)) ending → CallMayLeave (APart the_keeps.device (spares_of on.was.room)) (PartStep call.step (spares_of on.now.room)) ending
      → CallEnabled sizes values pass (work_of sizes pass.first call on.now ending)
  unfolding the_keeps
  may_come ends leaves =
      work_may sizes values pass row next call One on few_here amid.kept ending (length amid.before) committing within
      (ap (λ (l : List RowStep). slice_index_or l (length amid.before) call) amid.are ∙ at_call amid.before call rest) (amid.here call.part there_here) ends leaves

  row_then : part_after (PartStep call.step (spares_of on.now.room)) (has_come ending) the_keeps.device.told ≡ told_of on.now.history → faults_after ending the_keeps.device.faults ≡ on.now.faults
      → KeepCommitRow sizes (values_worked pass (work_of sizes pass.first call on.now ending) values) pass.first next
  unfolding the_keeps values_then
  row_then told faults =
      row_kept sizes values pass row next call One on few_here amid.kept ending (kept_here sizes values pass row next call One on few_here amid.kept ending told faults)

  else_then : (other : Word) → ((i : ℕ) → i < count → other ≢ entry_cell sizes pass.first i) → values_worked pass (work_of sizes pass.first call on.now ending) values other ≡ values other
  unfolding values_then
  else_then other none = values_else sizes values pass row next call One on few_here amid.kept ending other (none call.part there_here)

-- a call that ended well, and what comes behind it
module _ (sizes : Sizes) (values : Values) (pass : Pass) (count : ℕ) (row next : List Seen) (call : RowStep) (rest : List RowStep) (on : OnOne EndedWell call row next) (amid : Amid sizes values pass count row (call ∷ rest)) where
  abbrev made_work : Work
  made_work = work_of sizes pass.first call on.now Made

  made_keeps : KeepsPart (values (entry_cell sizes pass.first call.part)) on.was
  made_keeps = the_keeps sizes values pass count row next call rest EndedWell on amid Made

  made_may : CallEnabled sizes values pass made_work
  unfolding made_keeps
  made_may =
      may_come sizes values pass count row next call rest EndedWell on amid Made tt ((spares_keep_steps call.step on.was.room on.now.room).after on.one.line on.one.room)

  made_row : KeepCommitRow sizes (values_worked pass made_work values) pass.first next
  unfolding made_keeps
  made_row =
      row_then sizes values pass count row next call rest EndedWell on amid Made
      (ap (option_map (after_line_step call.step)) made_keeps.told ∙ sym (told_grown call.step on.was.history) ∙ ap told_of (sym on.one.history)) (made_keeps.faults ∙ sym on.one.faults)

  next_amid : Amid sizes (values_worked pass made_work values) (worked sizes made_work pass) count next rest
  unfolding work_of control_at
  next_amid = record {
    before = amid.before ++ call ∷ [];
    are = amid.are ∙ sym (append_assoc amid.before (call ∷ []) rest);
    control = ap (control_worked sizes pass Made) (committing sizes values pass count row next call rest EndedWell on amid Made) ∙ ap (λ (n : ℕ). if n == length (commit_steps sizes pass pass.call) then PledgePage (first_page sizes pass.call) else CommitGroup n) one;
    long = same_length sizes values pass row next call EndedWell on (few_here sizes values pass count row next call rest EndedWell on amid Made) amid.kept Made ∙ amid.long;
    few = amid.few;
    here = amid.here;
    kept = made_row;
  }
    where
      one : length amid.before + 1 ≡ length (amid.before ++ call ∷ [])
      one = sym (length-append amid.before (call ∷ []))

  out_more : (last : List Seen) (control : Control) → Out sizes (values_worked pass made_work values) (worked sizes made_work pass) count last control → Out sizes values pass count last control
  unfolding work_of
  out_more last control out = record {
    works = made_work ∷ out.works;
    due = (made_may, out.due);
    kept = out.kept;
    others = λ cell none. out.others cell none ∙ else_then sizes values pass count row next call rest EndedWell on amid Made cell none;
    control_is = out.control_is;
  }

-- ---- all of them

no_more : (count : ℕ) (before : List RowStep) → count ≡ length (before ++ []) → count ≡ length before
no_more count before e = let n = length-append before [] in omega (arith, e, n)

go_well : (sizes : Sizes) (count : ℕ) (calls : List RowStep) (values : Values) (pass : Pass) (row last : List Seen) → Amid sizes values pass count row calls → Through (OnOne EndedWell) calls row last
    → Out sizes values pass count last (PledgePage (first_page sizes pass.call))
unfolding control_at
go_well sizes count [] values pass row last amid same = record {
  works = [];
  due = tt;
  kept = subst (λ (r : List Seen). KeepCommitRow sizes values pass.first r) (sym same) amid.kept;
  others = λ cell none. refl;
  control_is = amid.control ∙ ap (λ (b : Bool). if b then PledgePage (first_page sizes pass.call) else CommitGroup (length amid.before))
      (eq-eqb (length amid.before) (length (commit_steps sizes pass pass.call)) (sym (no_more (length (commit_steps sizes pass pass.call)) amid.before (ap length amid.are))));
}
go_well sizes count (call ∷ calls) values pass row last amid ended =
    let on = ended.1 in
    out_more sizes values pass count row ended.0 call calls on amid last (PledgePage (first_page sizes pass.call))
    (go_well sizes count calls (values_worked pass (made_work sizes values pass count row ended.0 call calls on amid) values) (worked sizes (made_work sizes values pass count row ended.0 call calls on amid) pass) ended.0 last
    (next_amid sizes values pass count row ended.0 call calls on amid) ended.2)

-- the call that failed
module _ (sizes : Sizes) (values : Values) (pass : Pass) (count : ℕ) (row last : List Seen) (call : RowStep) (rest : List RowStep) (on : OnOne EndedBadly call row last) (amid : Amid sizes values pass count row (call ∷ rest)) (came : Bool) where
  abbrev failed_work : Work
  failed_work = work_of sizes pass.first call on.now (Failed came on.now.faults)

  failed_keeps : KeepsPart (values (entry_cell sizes pass.first call.part)) on.was
  failed_keeps = the_keeps sizes values pass count row last call rest EndedBadly on amid (Failed came on.now.faults)

  out_failed : part_after (PartStep call.step (spares_of on.now.room)) came failed_keeps.device.told ≡ told_of on.now.history → Out sizes values pass count last SetStopAfterCommit
  unfolding failed_keeps work_of
  out_failed told = record {
    works = failed_work ∷ [];
    due = (
      may_come sizes values pass count row last call rest EndedBadly on amid (Failed came on.now.faults) (subst (λ (n : ℕ). Rose n on.now.faults) (sym failed_keeps.faults) on.one.faults)
          ((spares_keep_steps call.step on.was.room on.now.room).after_fault on.one.room),
      tt,
    );
    kept = row_then sizes values pass count row last call rest EndedBadly on amid (Failed came on.now.faults) told refl;
    others = λ cell none. else_then sizes values pass count row last call rest EndedBadly on amid (Failed came on.now.faults) cell none;
    control_is = ap (control_worked sizes pass (Failed came on.now.faults)) (committing sizes values pass count row last call rest EndedBadly on amid (Failed came on.now.faults));
  }

fails : (sizes : Sizes) (values : Values) (pass : Pass) (count : ℕ) (row last : List Seen) (call : RowStep) (rest : List RowStep) (on : OnOne EndedBadly call row last) → Amid sizes values pass count row (call ∷ rest)
    → (on.now.history ≡ on.was.history) ⊎ (on.now.history ≡ grown after_line_step call.step on.was.history) → Out sizes values pass count last SetStopAfterCommit
unfolding failed_keeps
fails sizes values pass count row last call rest on amid (inl still) =
    out_failed sizes values pass count row last call rest on amid false ((failed_keeps sizes values pass count row last call rest on amid false).told ∙ ap told_of (sym still))
fails sizes values pass count row last call rest on amid (inr came) =
    out_failed sizes values pass count row last call rest on amid true
    (ap (option_map (after_line_step call.step)) (failed_keeps sizes values pass count row last call rest on amid true).told ∙ sym (told_grown call.step on.was.history) ∙ ap told_of (sym came))

go_failed : (sizes : Sizes) (count : ℕ) (made : List RowStep) (failed : RowStep) (rest : List RowStep) (values : Values) (pass : Pass) (row between last : List Seen) → Amid sizes values pass count row (made ++ failed ∷ rest)
    → Through (OnOne EndedWell) made row between → OnOne EndedBadly failed between last → Out sizes values pass count last SetStopAfterCommit
go_failed sizes count [] failed rest values pass row between last amid same on =
    let here : OnOne EndedBadly failed row last = subst (λ (r : List Seen). OnOne EndedBadly failed r last) same on in
    fails sizes values pass count row last failed rest here amid here.one.history
go_failed sizes count (call ∷ made) failed rest values pass row between last amid ended on =
    let first = ended.1 in
    let later = made ++ failed ∷ rest in
    out_more sizes values pass count row ended.0 call later first amid last SetStopAfterCommit
    (go_failed sizes count made failed rest (values_worked pass (made_work sizes values pass count row ended.0 call later first amid) values) (worked sizes (made_work sizes values pass count row ended.0 call later first amid) pass) ended.0 between last
    (next_amid sizes values pass count row ended.0 call later first amid) ended.2 on)

-- ---- a commit

amid_first : (sizes : Sizes) (values : Values) (pass : Pass) (row : List Seen) → IsCommitting sizes values pass row → Amid sizes values pass (length row) row (commit_steps sizes pass pass.call)
unfolding control_at
amid_first sizes values pass row is = record {
  before = [];
  are = refl;
  control = is.control ∙ sym (ap (λ (b : Bool). if b then PledgePage (first_page sizes pass.call) else CommitGroup 0) (ne_eqb 0 (length (commit_steps sizes pass pass.call)) (λ e. let s = is.some in omega (arith, e, s))));
  long = refl;
  few = is.few;
  here = is.here;
  kept = is.kept;
}

pub commits_are_due : CommitsAreDue
commits_are_due sizes values pass old new (Ok done) is ended =
    let out = go_well sizes (length old) (commit_steps sizes pass pass.call) values pass old new (amid_first sizes values pass old is) ended.well.each in
    record { works = out.works; due = out.due; kept = out.kept; others = out.others; pledging = out.control_is; failing = tt }
commits_are_due sizes values pass old new (Err fault) is ended =
    let one = ended.failed in
    let amid = subst (Amid sizes values pass (length old) old) one.are (amid_first sizes values pass old is) in
    let out = go_failed sizes (length old) one.made one.failed one.rest values pass old one.between new amid one.before.each one.last in
    record { works = out.works; due = out.due; kept = out.kept; others = out.others; pledging = tt; failing = out.control_is }

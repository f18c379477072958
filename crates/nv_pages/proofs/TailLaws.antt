-- Tails: each call of a move of the header's tail is a device call that is due.
use Rattle.std.proofs.Common.{◌≡◌, ◌⊎◌, inl, inr, ℕ, ◌<◌, ◌==◌, if◌then◌else◌, Bool, true, false, List, [], ◌∷◌, ◌++◌, length, slice_index_or, refl, sym, ap, ap₂, subst, ◌∙◌, arith, append_assoc, length-append, eq-eqb, ne_eqb}
use Rattle.std.specs.Prelude.{option_map, Ok, Err}
use Rattle.nv_pmem.specs.Calls.{Seen, EndedWell, EndedBadly, Through}
use Rattle.nv_pmem.specs.Runs.{grown}
use Rattle.nv_pmem.specs.Steps.{LineStep, after_line_step, durable_store}
use Rattle.nv_header.specs.HeaderSteps.{tail_steps}
use Rattle.nv_core.specs.state.Words.{Sizes, Word, HEADER, same}
use Rattle.nv_core.specs.state.Spares.{spares_of}
use Rattle.nv_core.specs.state.Cleaner.{Batch, MoveHeaderTail, FreeEntry, SetStop}
use Rattle.nv_core.specs.state.Values.{Value, APart, PartStep, CallEnding, Made, Failed, called}
use Rattle.nv_core.specs.state.Passes.{Control, Cleaning, Pass, times}
use Rattle.nv_core.specs.steps.Order.{Values, Work, CallDue, CallMayEnd, CallMayLeave, CallEnabled}
use Rattle.nv_core.specs.state.Core.{control_worked, with_value, worked, values_worked}
use Rattle.nv_core.proofs.state.Changes.{by_word, word_here}
use Rattle.nv_core.proofs.state.SparesLaws.{spares_keep_steps}
use Rattle.nv_table.specs.state.SlotValues.{present}
use Rattle.nv_table.specs.steps.SeatSteps.{AreDue, pass_worked, values_after}
use Rattle.nv_pages.specs.DeviceCalls.{part_seen, TailCallsAreDue}
use Rattle.nv_pages.proofs.CalledLaws.{present_grown}

-- where a cleaner stands behind so many calls
control_at : Batch → ℕ → Control
control_at batch calls = if calls == length (tail_steps batch.reached) then Cleaning batch (FreeEntry batch.tail) else Cleaning batch (MoveHeaderTail calls)

abbrev work_of : LineStep → (now : Seen) → CallEnding → Work
work_of step now ending = record { cell = HEADER; job = PartStep step (spares_of now.room); ending = ending }

-- a cell that was changed twice keeps the second value
twice : (values : Values) (first next : Value) (cell : Word) → with_value (with_value values HEADER first) HEADER next cell ≡ with_value values HEADER next cell
twice values first next cell = go (same cell HEADER)
  where
    go : (b : Bool) → (if b then next else (if b then first else values cell)) ≡ (if b then next else values cell)
    go true = refl
    go false = refl

-- What some calls came to.
record Out (sizes : Sizes) (values : Values) (pass : Pass) (identity : ℕ) (last : Seen) (control : Control) : Type 0 where
  works : List Work
  due : AreDue sizes values pass works
  kept : (cell : Word) → values_after sizes works pass values cell ≡ with_value values HEADER (part_seen identity last) cell
  control_is : (pass_worked sizes works pass).control ≡ control

-- The cleaner moves the tail, with so many calls behind it and these before it.
record Amid (values : Values) (pass : Pass) (batch : Batch) (identity : ℕ) (seen : Seen) (calls : List LineStep) : Type 0 where
  before : List LineStep
  are : tail_steps batch.reached ≡ before ++ calls
  control : pass.control ≡ control_at batch (length before)
  here : times HEADER pass.owned ≡ 1
  kept : values HEADER ≡ part_seen identity seen

at_call : (before : List LineStep) (call : LineStep) (rest : List LineStep) → slice_index_or (before ++ call ∷ rest) (length before) call ≡ call
at_call [] call rest = refl
at_call (first ∷ before) call rest = at_call before call rest

module _ (sizes : Sizes) (values : Values) (pass : Pass) (batch : Batch) (identity : ℕ) (seen next : Seen) (call : LineStep) (rest : List LineStep) (amid : Amid values pass batch identity seen (call ∷ rest)) (ending : CallEnding) where
  within : length amid.before < length (tail_steps batch.reached)
  within = let e = ap length amid.are ∙ length-append amid.before (call ∷ rest) in omega (arith, e)

  moving : pass.control ≡ Cleaning batch (MoveHeaderTail (length amid.before))
  unfolding control_at
  moving =
      amid.control ∙ ap (λ (b : Bool). if b then Cleaning batch (FreeEntry batch.tail) else Cleaning batch (MoveHeaderTail (length amid.before)))
      (ne_eqb (length amid.before) (length (tail_steps batch.reached)) (λ e. let w = within in omega (arith, e, w)))

  may_come : CallMayEnd (part_seen identity seen) ending → CallMayLeave (part_seen identity seen) (PartStep call (spares_of next.room)) ending → CallEnabled sizes values pass (work_of call next ending)
  may_come ends leaves = record {
    due = subst (CallDue sizes values pass (work_of call next ending)) (sym moving)
        record { step = call; there = within; at = ap (λ (l : List LineStep). slice_index_or l (length amid.before) call) amid.are ∙ at_call amid.before call rest; cell = refl; spares = spares_of next.room; job = refl };
    ends = subst (λ (v : Value). CallMayEnd v ending) (sym amid.kept) ends;
    leaves = subst (λ (v : Value). CallMayLeave v (PartStep call (spares_of next.room)) ending) (sym amid.kept) leaves;
    here = amid.here;
  }

  keeps : called (PartStep call (spares_of next.room)) ending (part_seen identity seen) ≡ part_seen identity next → values_worked pass (work_of call next ending) values HEADER ≡ part_seen identity next
  keeps is = word_here values HEADER _ ∙ ap (called (PartStep call (spares_of next.room)) ending) amid.kept ∙ is

  others : (last : Seen) (cell : Word) → with_value (values_worked pass (work_of call next ending) values) HEADER (part_seen identity last) cell ≡ with_value values HEADER (part_seen identity last) cell
  others last cell = twice values (called (PartStep call (spares_of next.room)) ending (values HEADER)) (part_seen identity last) cell

-- what a part is seen as after a step
step_seen : (identity : ℕ) (step : LineStep) (was now : Seen) (faults : ℕ) → now.history ≡ grown after_line_step step was.history → faults ≡ now.faults
    → APart record { told = option_map (after_line_step step) (present was.history); faults = faults; identity = identity } (spares_of now.room) ≡ part_seen identity now
step_seen identity step was now faults history same =
    ap₂ (λ told count. APart record { told = told; faults = count; identity = identity } (spares_of now.room)) (sym (ap present history ∙ present_grown after_line_step step was.history)) same

-- a call that ended well, and what comes behind it
module _ (sizes : Sizes) (values : Values) (pass : Pass) (batch : Batch) (identity : ℕ) (seen next : Seen) (call : LineStep) (rest : List LineStep) (amid : Amid values pass batch identity seen (call ∷ rest)) (well : EndedWell call seen next) where
  next_amid : Amid (values_worked pass (work_of call next Made) values) (worked sizes (work_of call next Made) pass) batch identity next rest
  unfolding control_at
  next_amid = record {
    before = amid.before ++ call ∷ [];
    are = amid.are ∙ sym (append_assoc amid.before (call ∷ []) rest);
    control = ap (control_worked sizes pass Made) (moving sizes values pass batch identity seen next call rest amid Made)
        ∙ ap (λ (n : ℕ). if n == length (tail_steps batch.reached) then Cleaning batch (FreeEntry batch.tail) else Cleaning batch (MoveHeaderTail n)) (sym (length-append amid.before (call ∷ [])));
    here = amid.here;
    kept = keeps sizes values pass batch identity seen next call rest amid Made (step_seen identity call seen next seen.faults well.history (sym well.faults));
  }

  out_more : (last : Seen) (control : Control) → Out sizes (values_worked pass (work_of call next Made) values) (worked sizes (work_of call next Made) pass) identity last control → Out sizes values pass identity last control
  out_more last control out = record {
    works = work_of call next Made ∷ out.works;
    due = (may_come sizes values pass batch identity seen next call rest amid Made tt ((spares_keep_steps call seen.room next.room).after well.line well.room), out.due);
    kept = λ cell. out.kept cell ∙ others sizes values pass batch identity seen next call rest amid Made last cell;
    control_is = out.control_is;
  }

no_more : (count : ℕ) (before : List LineStep) → count ≡ length (before ++ []) → count ≡ length before
no_more count before e = let n = length-append before [] in omega (arith, e, n)

go_well : (sizes : Sizes) (batch : Batch) (identity : ℕ) (calls : List LineStep) (values : Values) (pass : Pass) (seen last : Seen) → Amid values pass batch identity seen calls → Through EndedWell calls seen last
    → Out sizes values pass identity last (Cleaning batch (FreeEntry batch.tail))
unfolding control_at
go_well sizes batch identity [] values pass seen last amid same_seen = record {
  works = [];
  due = tt;
  kept = λ cell. by_word (λ other value. values other ≡ value) values HEADER (part_seen identity last) (amid.kept ∙ ap (part_seen identity) (sym same_seen)) (λ other ne. refl) cell;
  control_is = amid.control ∙ ap (λ (b : Bool). if b then Cleaning batch (FreeEntry batch.tail) else Cleaning batch (MoveHeaderTail (length amid.before)))
      (eq-eqb (length amid.before) (length (tail_steps batch.reached)) (sym (no_more (length (tail_steps batch.reached)) amid.before (ap length amid.are))));
}
go_well sizes batch identity (call ∷ calls) values pass seen last amid ended =
    out_more sizes values pass batch identity seen ended.0 call calls amid ended.1 last (Cleaning batch (FreeEntry batch.tail))
    (go_well sizes batch identity calls _ _ ended.0 last (next_amid sizes values pass batch identity seen ended.0 call calls amid ended.1) ended.2)

-- the call that failed
module _ (sizes : Sizes) (values : Values) (pass : Pass) (batch : Batch) (identity : ℕ) (seen last : Seen) (call : LineStep) (rest : List LineStep) (amid : Amid values pass batch identity seen (call ∷ rest)) (badly : EndedBadly call seen last) where
  out_failed : (came : Bool) → called (PartStep call (spares_of last.room)) (Failed came last.faults) (part_seen identity seen) ≡ part_seen identity last → Out sizes values pass identity last (Cleaning batch (SetStop 0))
  out_failed came is = record {
    works = work_of call last (Failed came last.faults) ∷ [];
    due = (may_come sizes values pass batch identity seen last call rest amid (Failed came last.faults) badly.faults ((spares_keep_steps call seen.room last.room).after_fault badly.room), tt);
    kept = λ cell. ap (λ value. with_value values HEADER value cell) (ap (called (PartStep call (spares_of last.room)) (Failed came last.faults)) amid.kept ∙ is);
    control_is = ap (control_worked sizes pass (Failed came last.faults)) (moving sizes values pass batch identity seen last call rest amid (Failed came last.faults));
  }

  fails : (last.history ≡ seen.history) ⊎ (last.history ≡ grown after_line_step call seen.history) → Out sizes values pass identity last (Cleaning batch (SetStop 0))
  fails (inl still) = out_failed false (ap (λ states. APart record { told = present states; faults = last.faults; identity = identity } (spares_of last.room)) (sym still))
  fails (inr came) = out_failed true (step_seen identity call seen last last.faults came refl)

go_failed : (sizes : Sizes) (batch : Batch) (identity : ℕ) (made : List LineStep) (failed : LineStep) (rest : List LineStep) (values : Values) (pass : Pass) (seen between last : Seen) → Amid values pass batch identity seen (made ++ failed ∷ rest)
    → Through EndedWell made seen between → EndedBadly failed between last → Out sizes values pass identity last (Cleaning batch (SetStop 0))
go_failed sizes batch identity [] failed rest values pass seen between last amid same_seen badly =
    let here : EndedBadly failed seen last = subst (λ s. EndedBadly failed s last) same_seen badly in fails sizes values pass batch identity seen last failed rest amid here here.history
go_failed sizes batch identity (call ∷ made) failed rest values pass seen between last amid ended badly =
    out_more sizes values pass batch identity seen ended.0 call (made ++ failed ∷ rest) amid ended.1 last (Cleaning batch (SetStop 0))
    (go_failed sizes batch identity made failed rest _ _ ended.0 between last (next_amid sizes values pass batch identity seen ended.0 call (made ++ failed ∷ rest) amid ended.1) ended.2 badly)

amid_first : (values : Values) (pass : Pass) (batch : Batch) (identity : ℕ) (seen : Seen) → pass.control ≡ Cleaning batch (MoveHeaderTail 0) → times HEADER pass.owned ≡ 1 → values HEADER ≡ part_seen identity seen
    → Amid values pass batch identity seen (tail_steps batch.reached)
unfolding control_at durable_store
amid_first values pass batch identity seen at here kept = record { before = []; are = refl; control = at; here = here; kept = kept }

pub tail_calls_are_due : TailCallsAreDue
tail_calls_are_due sizes values pass batch identity was now (Ok done) at here kept ended =
    let out = go_well sizes batch identity (tail_steps batch.reached) values pass was now (amid_first values pass batch identity was at here kept) ended.well.each in
    record { works = out.works; due = out.due; kept = out.kept; freeing = out.control_is; failing = tt }
tail_calls_are_due sizes values pass batch identity was now (Err fault) at here kept ended =
    let one = ended.failed in
    let amid = subst (Amid values pass batch identity was) one.are (amid_first values pass batch identity was at here kept) in
    let out = go_failed sizes batch identity one.made one.failed one.rest values pass was one.between now amid one.before.each one.last in
    record { works = out.works; due = out.due; kept = out.kept; freeing = tt; failing = out.control_is }

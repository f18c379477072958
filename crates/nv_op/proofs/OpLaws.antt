-- Operations that are due are ready.
use Rattle.std.proofs.Common.{◌≡◌, ℕ, zero, suc, ◌+◌, ◌^◌, ◌<◌, ◌≤◌, ◌==◌, if◌then◌else◌, inl, inr, refl, sym, ap, ap₂, subst, ◌∙◌, arith, eq-eqb, ne_eqb}
use Rattle.std.specs.Prelude.{List, Option, Some, None}
use Rattle.nv_core.specs.steps.Order.{Work}
use Rattle.nv_plain.specs.declared.call.FileCall.{FileCall}
use Rattle.nv_plain.specs.declared.call.Reply.{Reply}
use Rattle.nv_core.specs.state.Words.{Sizes, HEAD, LENGTH, IsWord, place}
use Rattle.nv_core.specs.steps.Ops.{Op as CoreOp, Take as TakeOp, Draw as DrawOp, Hold as HoldOp, Return as ReturnOp, ByCleaner as CleanerStep, move_of, value_after, word_of, ready_word}
use Rattle.nv_core.specs.invariant.ControlFacts.{FactsAt}
use Rattle.nv_core.specs.state.Passes.{Pass, DrawNumbers, file_of, at_of, len_of, page_count}
use Rattle.nv_core.specs.state.Core.{Core, worked}
use Rattle.nv_core.specs.invariant.ForbiddenSteps.{NoDirtyAboveTheLog}
use Rattle.nv_core.specs.invariant.Sound.{Sound}
use Rattle.nv_core.specs.steps.StepKinds.{EnabledByKind, CleanerEnabled}
use Rattle.nv_core.proofs.steps.NextSteps.{next_steps_may_come}
use Rattle.nv_table.specs.steps.SeatSteps.{pass_worked, pass_before, values_before}
use Rattle.nv_table.specs.state.Changes.{changed}
use Rattle.nv_table.specs.state.Layout.{slot_of_cell}
use Rattle.nv_table.specs.steps.Moving.{shift_said}
use Rattle.nv_table.specs.state.Opened.{mount_of}
use Rattle.nv_table.specs.steps.StepContracts.{PreconditionAt}
use Rattle.nv_table.specs.state.States.{PassState, shift_of}
use Rattle.nv_table.specs.steps.CallSteps.{Precondition, Stands, DueStepsStand, reply_at}
use Rattle.nv_table.proofs.steps.CallOps.{locked, due_lock}
use Rattle.nv_table.proofs.invariant.DrawnLaws.{calls_leave}
use Rattle.nv_pages.proofs.EntryLaws.{held_next, returned_next}
use Rattle.nv_table.specs.state.Views.{pass_of, values_of}
use prog.Atomic.{either}
use Rattle.std.proofs.lemmas.Bool.{cases_eq}
use Rattle.nv_op.specs.declared.op.Op.{Op}
use Rattle.nv_op.specs.declared.op.Op.TheVariants.{Load, Take, Give, Place, Stop, Draw, Seize, Pledge, Ready, Grow, Break, Hold, Return, Turn, Hint, ByCleaner}
use Rattle.nv_op.specs.declared.cleaner_op.CleanerOp.{CleanerOp}
use Rattle.nv_op.specs.declared.cleaner_op.CleanerOp.TheVariants as cleaner
use Rattle.nv_op.specs.CleanerOps.{core_cleaner_op, word_of_cleaner_op}
use Rattle.nv_op.proofs.CleanerOpLaws.{cleaner_moves_so, cleaner_value_so}
use Rattle.nv_table.specs.invariant.Drawn.{marks_of, IsFromHead}
use Rattle.nv_op.specs.declared.asked.Asked.{Asked}
use Rattle.nv_op.specs.Words.{core_word}
use Rattle.nv_op.specs.Ops.{BeginAlike, Fits, SumIsSmall, begun_as, word_of_op, change_of, moves_for, marks_for, opened_by, core_op_at, core_op_of}

-- ---- the slot that it moves

pub moves_so : (sizes : Sizes) (reply : Reply) (op : Op) (found : ℕ)
    → shift_of sizes (move_of sizes (core_op_at reply op) found) ≡ shift_said (moves_for op (slot_of_cell sizes (core_word (word_of_op sizes op)))) found
moves_so sizes reply (Load word) found = refl
moves_so sizes reply (Take cell) zero = grind (arith)
moves_so sizes reply (Take cell) (suc more) = grind (arith)
moves_so sizes reply (Give cell) found = grind (arith)
moves_so sizes reply Place found = refl
moves_so sizes reply Stop found = refl
moves_so sizes reply (Draw head count) found = refl
moves_so sizes reply (Seize number) found = refl
moves_so sizes reply (Pledge page) found = refl
moves_so sizes reply (Ready number word) found = refl
moves_so sizes reply (Grow file length) found = refl
moves_so sizes reply (Break number) found = refl
moves_so sizes reply (Hold number) found = refl
moves_so sizes reply (Return number) found = refl
moves_so sizes reply (Turn page) found = refl
moves_so sizes reply (Hint buffer page) found = refl
moves_so sizes reply (ByCleaner cleaner_op) found = cleaner_moves_so sizes cleaner_op found

-- ---- the word and its value

-- what device calls don't change is as before them, where no call begins
leaves : {T : Type 0} (pass : PassState) (opens : Option FileCall) (works : List Work) (f : Pass → T) → ((sizes : Sizes) (work : Work) (p : Pass) → f (worked sizes work p) ≡ f p) → opens ≡ None
    → f (pass_before pass.view opens works) ≡ f (pass_of pass.view)
leaves pass opens works f same none =
    subst (λ opens. f (pass_before pass.view opens works) ≡ f (pass_of pass.view)) (sym none) (calls_leave f same pass.view.opened.sizes works (pass_of pass.view))

begins_none : (call : FileCall) → Some call ≡ None → ⊥
begins_none call e = cc

on_cleaner_word : (pass : PassState) (op : CleanerOp) (works : List Work) (opens : Option FileCall)
    → word_of pass.view.opened.sizes (pass_before pass.view opens works) (CleanerStep (core_cleaner_op op)) ≡ core_word (word_of_cleaner_op pass.view.opened.sizes op)
on_cleaner_word pass (cleaner.TakeCleaner most) works opens = refl
on_cleaner_word pass (cleaner.Load word) works opens = refl
on_cleaner_word pass (cleaner.Take cell) works opens = refl
on_cleaner_word pass (cleaner.Give cell) works opens = refl
on_cleaner_word pass (cleaner.Hold number) works opens = refl
on_cleaner_word pass (cleaner.Return number) works opens = refl
on_cleaner_word pass (cleaner.Clean number) works opens = refl
on_cleaner_word pass (cleaner.Subtract page) works opens = refl
on_cleaner_word pass (cleaner.Free number) works opens = refl
on_cleaner_word pass (cleaner.MoveTail tail) works opens = refl
on_cleaner_word pass cleaner.Stop works opens = refl

on_word : (pass : PassState) (opens : Option FileCall) (reply : Reply) (op : Op) (works : List Work) → Fits pass.view.opened.sizes opens (pass_of pass.view) op
    → word_of pass.view.opened.sizes (pass_before pass.view opens works) (core_op_at reply op) ≡ core_word (word_of_op pass.view.opened.sizes op)
on_word pass opens reply (Load word) works fits = refl
on_word pass opens reply (Take cell) works fits = refl
on_word pass opens reply (Give cell) works fits = refl
on_word pass opens reply Place works fits = refl
on_word pass opens reply Stop works fits = refl
on_word pass opens reply (Draw head count) works fits = refl
on_word pass opens reply (Seize number) works fits = refl
on_word pass opens reply (Pledge page) works fits = refl
on_word pass opens reply (Ready number word) works fits = refl
on_word pass opens reply (Grow file length) works fits =
    ap LENGTH (leaves pass opens works (λ p. file_of p.call) (λ sizes work p. refl) fits.0 ∙ sym fits.1)
on_word pass opens reply (Break number) works fits = refl
on_word pass opens reply (Hold number) works fits = refl
on_word pass opens reply (Return number) works fits = refl
on_word pass opens reply (Turn page) works fits = refl
on_word pass opens reply (Hint buffer page) works fits = refl
on_word pass opens reply (ByCleaner cleaner_op) works fits = on_cleaner_word pass cleaner_op works opens

exchanged : (found head count : ℕ) → (if found == head then found + count else found) ≡ either (found == head) (head + count) found
exchanged found head count = elim (cases_eq found head) [
  | inl is ↦
      ap (λ b. if b then found + count else found) (eq-eqb found head is)
      ∙ ap (λ n. n + count) is
      ∙ sym (ap (λ b. either b (head + count) found) (eq-eqb found head is))
  | inr other ↦
      ap (λ b. if b then found + count else found) (ne_eqb found head other)
      ∙ sym (ap (λ b. either b (head + count) found) (ne_eqb found head other))
]

-- a step of a call at hand that is due may come by its kind
may_come : (pass : PassState) (core_op : CoreOp) → (due : Precondition pass None core_op)
    → EnabledByKind pass.view.opened.sizes (values_before pass.view due.works) (pass_before pass.view None due.works) core_op
may_come pass core_op due =
    next_steps_may_come pass.view.opened.sizes (values_before pass.view due.works) (pass_before pass.view None due.works) core_op due.may

value_so : (dirty : NoDirtyAboveTheLog) (pass : PassState) (opens : Option FileCall) (reply : Reply) (op : Op) → Fits pass.view.opened.sizes opens (pass_of pass.view) op → (few : pass.view.opened.sizes.entries ≤ 1024) → (due : Precondition pass opens (core_op_at reply op))
    → (core : Core) → Sound pass.view.opened.sizes (mount_of pass.view.opened).values core → core.made ≤ 2 ^ 32
    → core.passes pass.view.number ≡ pass_worked pass.view.opened.sizes due.works (pass_of pass.view)
    → core.words (core_word (word_of_op pass.view.opened.sizes op)) < 2 ^ 64
    → value_after pass.view.opened.sizes (pass_before pass.view opens due.works) (core_op_at reply op) (core.words (core_word (word_of_op pass.view.opened.sizes op)))
    ≡ changed (change_of op) (core.words (core_word (word_of_op pass.view.opened.sizes op)))
value_so dirty pass opens reply (Load word) fits few due core sound made is low = refl
value_so dirty pass opens reply (Take cell) fits few due core sound made is low =
    locked (core.words (core_word cell)) (sound.locks.bit (core_word cell) (due_lock pass opens (TakeOp (core_word cell)) (core_word cell) (inl refl) due))
value_so dirty pass opens reply (Give cell) fits few due core sound made is low = refl
value_so dirty pass opens reply Place fits few due core sound made is low = let few = sound.history.few in omega (arith, few, made)
value_so dirty pass opens reply Stop fits few due core sound made is low = refl
value_so dirty pass opens reply (Draw head count) fits few due core sound made is low =
    let sizes = pass.view.opened.sizes in
    ap₂ (λ h n. if core.words HEAD == h then core.words HEAD + n else core.words HEAD)
    (leaves pass opens due.works (λ p. p.head) (λ sizes work p. refl) fits.0 ∙ sym fits.1)
    (leaves pass opens due.works (λ p. page_count sizes p.call) (λ sizes work p. refl) fits.0 ∙ sym fits.2)
    ∙ exchanged (core.words HEAD) head count
value_so dirty pass opens reply (Seize number) fits few due core sound made is low = refl
value_so dirty pass opens reply (Pledge page) fits few due core sound made is low = let most = dirty pass.view.opened.sizes (mount_of pass.view.opened).values core page sound in omega (arith, most, few)
value_so dirty pass opens reply (Ready number word) fits few due core sound made is low =
    leaves pass opens due.works (λ p. ready_word pass.view.opened.sizes p number) (λ sizes work p. refl) fits.0 ∙ sym fits.1
value_so dirty pass opens reply (Grow file length) fits few due core sound made is low =
    leaves pass opens due.works (λ p. at_of p.call + len_of p.call) (λ sizes work p. refl) fits.0 ∙ sym fits.2
value_so dirty pass opens reply (Break number) fits few due core sound made is low = refl
value_so dirty pass None reply (Hold number) fits few due core sound made is low =
    let by_kind = may_come pass (HoldOp number) due in
    held_next pass.view.opened.sizes _ core pass.view.number by_kind.0 number sound (ap (λ (p : Pass). p.control) is ∙ by_kind.1) low
value_so dirty pass (Some call) reply (Hold number) fits few due core sound made is low = absurd (begins_none call fits)
value_so dirty pass None reply (Return number) fits few due core sound made is low =
    let by_kind = may_come pass (ReturnOp number) due in
    returned_next pass.view.opened.sizes _ core pass.view.number by_kind.0 number sound by_kind.1 (ap (λ (p : Pass). p.control) is ∙ by_kind.2) low
value_so dirty pass (Some call) reply (Return number) fits few due core sound made is low = absurd (begins_none call fits)
value_so dirty pass opens reply (Turn page) fits few due core sound made is low = refl
value_so dirty pass opens reply (Hint buffer page) fits few due core sound made is low = refl
value_so dirty pass None reply (ByCleaner op) fits few due core sound made is low =
    let by_kind = may_come pass (CleanerStep (core_cleaner_op op)) due in
    cleaner_value_so pass.view.opened.sizes _ core pass.view.number sound op
    (subst (λ (p : Pass). CleanerEnabled pass.view.opened.sizes p (core_cleaner_op op) p.control) (sym is) by_kind) low
value_so dirty pass (Some call) reply (ByCleaner op) fits few due core sound made is low = absurd (begins_none call fits)

-- ---- its word and its sum

-- it is on a word of the mount
word_so : (pass : PassState) (opens : Option FileCall) (reply : Reply) (op : Op) → Fits pass.view.opened.sizes opens (pass_of pass.view) op
    → (due : Precondition pass opens (core_op_at reply op)) → Stands pass opens (core_op_at reply op) due.works → IsWord pass.view.opened.sizes (core_word (word_of_op pass.view.opened.sizes op))
word_so pass opens reply op fits due stands = subst (IsWord pass.view.opened.sizes) (on_word pass opens reply op due.works fits) stands.on

-- and a draw's numbers are small
small_so : (pass : PassState) (opens : Option FileCall) (reply : Reply) (op : Op) → Fits pass.view.opened.sizes opens (pass_of pass.view) op
    → (due : Precondition pass opens (core_op_at reply op)) → Stands pass opens (core_op_at reply op) due.works → SumIsSmall op
small_so pass opens reply (Draw head count) fits due stands =
    let sizes = pass.view.opened.sizes in
    let before = pass_before pass.view opens due.works in
    let control : before.control ≡ DrawNumbers = next_steps_may_come sizes (values_before pass.view due.works) before DrawOp due.may in
    let at : FactsAt sizes before DrawNumbers = subst (FactsAt sizes before) control stands.stands.at in
    let small = at.1 in
    let head_is = leaves pass opens due.works (λ p. p.head) (λ sizes work p. refl) fits.0 ∙ sym fits.1 in
    let count_is = leaves pass opens due.works (λ p. page_count sizes p.call) (λ sizes work p. refl) fits.0 ∙ sym fits.2 in
    omega (arith, small, head_is, count_is)
small_so pass opens reply (Load word) fits due stands = tt
small_so pass opens reply (Take cell) fits due stands = tt
small_so pass opens reply (Give cell) fits due stands = tt
small_so pass opens reply Place fits due stands = tt
small_so pass opens reply Stop fits due stands = tt
small_so pass opens reply (Seize number) fits due stands = tt
small_so pass opens reply (Pledge page) fits due stands = tt
small_so pass opens reply (Ready number word) fits due stands = tt
small_so pass opens reply (Grow file length) fits due stands = tt
small_so pass opens reply (Break number) fits due stands = tt
small_so pass opens reply (Hold number) fits due stands = tt
small_so pass opens reply (Return number) fits due stands = tt
small_so pass opens reply (Turn page) fits due stands = tt
small_so pass opens reply (Hint buffer page) fits due stands = tt
small_so pass opens reply (ByCleaner cleaner_op) fits due stands = tt

pub op_stands : (pass : PassState) (opens : Option FileCall) (core_op : CoreOp) (op : Op) → core_op ≡ core_op_of pass.view op → Fits pass.view.opened.sizes opens (pass_of pass.view) op
    → DueStepsStand pass → Precondition pass opens core_op → IsWord pass.view.opened.sizes (core_word (word_of_op pass.view.opened.sizes op)) × SumIsSmall op
op_stands pass opens core_op op is fits stand due =
    let reply = reply_at pass.view.opened.sizes (values_of pass.view) (pass_of pass.view) (pass_of pass.view).control in
    let due_now = subst (Precondition pass opens) is due in
    let stands = stand opens (core_op_of pass.view op) due_now in
    (word_so pass opens reply op fits due_now stands, small_so pass opens reply op fits due_now stands)

-- ---- it is ready

pub op_ready : (dirty : NoDirtyAboveTheLog) (pass : PassState) (opens : Option FileCall) (reply : Reply) (op : Op) (at : ℕ) (said : List Work → Type 0) (due : Precondition pass opens (core_op_at reply op))
    → Fits pass.view.opened.sizes opens (pass_of pass.view) op → pass.view.opened.sizes.entries ≤ 1024
    → at ≡ place pass.view.opened.sizes (core_word (word_of_op pass.view.opened.sizes op)) → said due.works
    → (is : PreconditionAt pass opens (core_op_at reply op) at (changed (change_of op))) × said is.works
op_ready dirty pass opens reply op at said due fits few there so =
    let sizes = pass.view.opened.sizes in
    let before = pass_before pass.view opens due.works in
    let on = on_word pass opens reply op due.works fits in (
      record {
        works = due.works;
        next = record {
          due = due.due;
          begins = due.begins;
          may = due.may;
          staying = due.staying;
          word = ap (place sizes) on ∙ sym there;
          value = λ core sound made is low.
              subst (λ w. value_after sizes before (core_op_at reply op) (core.words w) ≡ changed (change_of op) (core.words w)) (sym on)
              (value_so dirty pass opens reply op fits few due core sound made is (subst (λ w. core.words w < 2 ^ 64) on low));
        };
        holds = due.holds;
      },
      so,
    )

-- ---- what it makes of the numbers that its pass has drawn

pub marks_so : (opens : Option Asked) (reply : Reply) (op : Op) → marks_of (opened_by opens) (core_op_at reply op) ≡ marks_for opens op
marks_so (Some asked) reply op = refl
marks_so None reply (Load word) = refl
marks_so None reply (Take cell) = refl
marks_so None reply (Give cell) = refl
marks_so None reply Place = refl
marks_so None reply Stop = refl
marks_so None reply (Draw head count) = refl
marks_so None reply (Seize number) = refl
marks_so None reply (Pledge page) = refl
marks_so None reply (Ready number word) = refl
marks_so None reply (Grow file length) = refl
marks_so None reply (Break number) = refl
marks_so None reply (Hold number) = refl
marks_so None reply (Return number) = refl
marks_so None reply (Turn page) = refl
marks_so None reply (Hint buffer page) = refl
marks_so None reply (ByCleaner cleaner.Stop) = refl
marks_so None reply (ByCleaner (cleaner.TakeCleaner most)) = refl
marks_so None reply (ByCleaner (cleaner.Load word)) = refl
marks_so None reply (ByCleaner (cleaner.Take cell)) = refl
marks_so None reply (ByCleaner (cleaner.Give cell)) = refl
marks_so None reply (ByCleaner (cleaner.Hold number)) = refl
marks_so None reply (ByCleaner (cleaner.Return number)) = refl
marks_so None reply (ByCleaner (cleaner.Clean number)) = refl
marks_so None reply (ByCleaner (cleaner.Subtract page)) = refl
marks_so None reply (ByCleaner (cleaner.Free number)) = refl
marks_so None reply (ByCleaner (cleaner.MoveTail tail)) = refl

-- whichever call begins
pub marks_alike : (one other : Option FileCall) (op : CoreOp) → BeginAlike one other → marks_of one op ≡ marks_of other op
marks_alike (Some one) (Some other) op alike = refl
marks_alike None None op alike = refl
marks_alike (Some one) None op alike = absurd alike
marks_alike None (Some other) op alike = absurd alike

pub alike_self : (opens : Option FileCall) → BeginAlike opens opens
alike_self (Some call) = tt
alike_self None = tt

pub alike_begun : (call : FileCall) (opens : Option FileCall) → BeginAlike (begun_as call opens) opens
alike_begun call (Some made) = tt
alike_begun call None = tt

-- a draw is from HEAD as the pass saw it
pub head_so : (sizes : Sizes) (pass : Pass) (begins : Option FileCall) (opens : Option Asked) (op : Op) → Fits sizes begins pass op → IsFromHead (marks_for opens op) (change_of op) pass.head
head_so sizes pass begins (Some asked) op fits = tt
head_so sizes pass begins None (Draw head count) fits = fits.1
head_so sizes pass begins None (Load word) fits = tt
head_so sizes pass begins None (Take cell) fits = tt
head_so sizes pass begins None (Give cell) fits = tt
head_so sizes pass begins None Place fits = tt
head_so sizes pass begins None Stop fits = tt
head_so sizes pass begins None (Seize number) fits = tt
head_so sizes pass begins None (Pledge page) fits = tt
head_so sizes pass begins None (Ready number word) fits = tt
head_so sizes pass begins None (Grow file length) fits = tt
head_so sizes pass begins None (Break number) fits = tt
head_so sizes pass begins None (Hold number) fits = tt
head_so sizes pass begins None (Return number) fits = tt
head_so sizes pass begins None (Turn page) fits = tt
head_so sizes pass begins None (Hint buffer page) fits = tt
head_so sizes pass begins None (ByCleaner cleaner.Stop) fits = tt
head_so sizes pass begins None (ByCleaner (cleaner.TakeCleaner most)) fits = tt
head_so sizes pass begins None (ByCleaner (cleaner.Load word)) fits = tt
head_so sizes pass begins None (ByCleaner (cleaner.Take cell)) fits = tt
head_so sizes pass begins None (ByCleaner (cleaner.Give cell)) fits = tt
head_so sizes pass begins None (ByCleaner (cleaner.Hold number)) fits = tt
head_so sizes pass begins None (ByCleaner (cleaner.Return number)) fits = tt
head_so sizes pass begins None (ByCleaner (cleaner.Clean number)) fits = tt
head_so sizes pass begins None (ByCleaner (cleaner.Subtract page)) fits = tt
head_so sizes pass begins None (ByCleaner (cleaner.Free number)) fits = tt
head_so sizes pass begins None (ByCleaner (cleaner.MoveTail tail)) fits = tt

-- Lists: the calls of a pass, one more of them at a time.
use Rattle.std.proofs.Common.{◌≡◌, ◌≢◌, ℕ, List, [], ◌∷◌, ◌++◌, length, refl, sym, ap, subst, ◌∙◌}
use Rattle.std.specs.Prelude.{Option, Result, Ok, Err, OnOk, OnErr}
use Rattle.std.proofs.lemmas.List.{append_assoc, append-nil, map-append}
use Rattle.nv_plain.specs.Histories.{Answered}
use Rattle.nv_core.specs.invariant.OneHistory.{IsPrefix}
use Rattle.nv_table.specs.state.Views.{pass_of}
use Rattle.nv_table.specs.state.States.{PassState}
use Rattle.nv_mount.specs.declared.fds.Fd.{Fd}
use Rattle.nv_trace.specs.declared.trace_call.TracedCall.{TracedCall}
use Rattle.nv_trace.specs.declared.trace_call.TraceCall.{TraceCall}
use Rattle.nv_runner.specs.declared.answer.Answer.{Answer}
use Rattle.nv_runner.specs.declared.answer.Answer.TheVariants.{Placed, Refused, Open}
use Rattle.nv_runner.specs.Calls.{IsAnswered, Tells}
use Rattle.nv_runner.specs.Lists.{AllWereMade, AreMade, FirstWereMade, MadeCall, SomeWereMade, PlacedAreMine, PlacedStand, Stand, StandsAs, as_placed, calls_made, placed, placed_by, placed_on}

-- one more call was made behind the others
pub made_on : (fds : List Fd) (worker : Option ℕ) (made : List MadeCall) (m : MadeCall) (start old new : PassState) → AreMade fds worker made start old
    → IsAnswered fds worker m.call.call old new m.answer → AreMade fds worker (made ++ m ∷ []) start new
made_on fds worker [] m start old new before told = (new, subst (λ (p : PassState). IsAnswered fds worker m.call.call p new m.answer) before told, refl)
made_on fds worker (first ∷ made) m start old new before told = (before.0, before.1, made_on fds worker made m before.0 old new before.2 told)

-- one more of some calls was made, and those behind it are left
pub listed_on : (made : List MadeCall) (call : TracedCall) (answer : Answer) (all left behind : List TracedCall) → calls_made made ++ left ≡ all → left ≡ call ∷ behind
    → calls_made (made ++ record { call = call; answer = answer } ∷ []) ++ behind ≡ all
listed_on made call answer all left behind before first =
    ap (λ l. l ++ behind) (map-append (λ (m : MadeCall). m.call) made (record { call = call; answer = answer } ∷ [])) ∙ append_assoc (calls_made made) (call ∷ []) behind
    ∙ ap (λ l. calls_made made ++ l) (sym first) ∙ before

-- where some are left the first of them is the next one
pub some_made : (fds : List Fd) (worker : Option ℕ) (all left : List TracedCall) (made : List MadeCall) (start now : PassState) → left ≢ [] → calls_made made ++ left ≡ all → AreMade fds worker made start now
    → SomeWereMade fds worker all made start now
some_made fds worker all [] made start now some listed each = absurd (some refl)
some_made fds worker all (next ∷ left) made start now some listed each = record { next = next; left = left; some = listed; each = each }

-- whatever became of memory, some first ones were made
pub first_made : {T E : Type 0} (fds : List Fd) (worker : Option ℕ) (calls : List TracedCall) (made : List MadeCall) (start now : PassState) (result : Result T E) → OnOk result (AllWereMade fds worker calls made start now)
    → OnErr result (SomeWereMade fds worker calls made start now) → FirstWereMade fds worker calls made start now
first_made fds worker calls made start now (Ok done) all some = record { left = []; some = append-nil (calls_made made) ∙ all.all; each = all.each }
first_made fds worker calls made start now (Err error) all some = record { left = some.next ∷ some.left; some = some.some; each = some.each }

-- ---- the pass's own calls

-- one call's
one_mine : (fds : List Fd) (worker : Option ℕ) (call : TraceCall) (answer : Answer) (start now : PassState) → Tells fds worker call start now answer
    → (pass_of now.view).mine ≡ (pass_of start.view).mine ++ placed_by fds start.view.number call answer
one_mine fds worker call (Placed place reply) start now told =
    told.2.mine ∙ ap (λ file. (pass_of start.view).mine ++ placed_on file start.view.number call reply) (sym told.1)
one_mine fds worker call (Refused refusal) start now told = told.kept.mine ∙ sym (append-nil (pass_of start.view).mine)
one_mine fds worker call (Open number) start now told = told.kept.mine ∙ sym (append-nil (pass_of start.view).mine)

pub made_mine : PlacedAreMine
made_mine fds worker [] start now made = ap (λ (p : PassState). (pass_of p.view).mine) made ∙ sym (append-nil (pass_of start.view).mine)
made_mine fds worker (m ∷ later) start now made =
    let middle = made.0 in
    let number = start.view.number in
    let mine = (pass_of start.view).mine in
    made_mine fds worker later middle now made.2
    ∙ ap (λ n. (pass_of middle.view).mine ++ placed fds n later) made.1.later.number
    ∙ ap (λ l. l ++ placed fds number later) (one_mine fds worker m.call.call m.answer start middle made.1.told)
    ∙ append_assoc mine (placed_by fds number m.call.call m.answer) (placed fds number later)

-- ---- the history

-- the calls behind one that has its place, or has none, stand behind it
stand_on : (fds : List Fd) (number : ℕ) (call : TraceCall) (answer : Answer) (worker : Option ℕ) (start middle : PassState) (later : List MadeCall) (history : List Answered)
    → number ≡ start.view.number → Tells fds worker call start middle answer → Stand fds number (pass_of middle.view).seen later history
    → StandsAs fds number (pass_of start.view).seen call answer (λ upto. Stand fds number upto later history)
stand_on fds number call (Placed place reply) worker start middle later history same told stand =
    let file = told.0 in
    let at = told.2 in
    let between = at.begins.0 in
    let before : at.before ≡ (pass_of start.view).seen ++ between = at.begins.1 in (
      (pass_of middle.view).seen,
      record {
        file = file;
        file_is = told.1;
        between = between;
        at = at.at ∙ ap length before;
        upto_is = at.seen ∙ ap (λ l. l ++ as_placed start.view.number call file reply ∷ []) before ∙ ap (λ n. ((pass_of start.view).seen ++ between) ++ as_placed n call file reply ∷ []) (sym same);
      },
      stand,
    )
stand_on fds number call (Refused refusal) worker start middle later history same told stand = subst (λ l. Stand fds number l later history) told.kept.seen stand
stand_on fds number call (Open first) worker start middle later history same told stand = subst (λ l. Stand fds number l later history) told.kept.seen stand

pub made_stand : PlacedStand
made_stand fds worker [] start now made history seen = subst (λ (p : PassState). IsPrefix (pass_of p.view).seen history) made seen
made_stand fds worker (m ∷ later) start now made history seen =
    let middle = made.0 in
    stand_on fds start.view.number m.call.call m.answer worker start middle later history refl made.1.told
    (subst (λ n. Stand fds n (pass_of middle.view).seen later history) made.1.later.number (made_stand fds worker later middle now made.2 history seen))

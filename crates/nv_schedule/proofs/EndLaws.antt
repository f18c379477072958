-- Ends: passes that are taken in as they stand, and pass 0 meanwhile.
use Rattle.std.proofs.Common.{◌≡◌, ℕ, zero, suc, ◌<◌, false, Bool, if◌then◌else◌, List, [], ◌∷◌, ◌++◌, length, inl, inr, refl, sym, ap, subst, ◌∙◌, arith}
use Rattle.std.specs.Prelude.{OnOk, Option, Some, None, Result, Ok, Err, map, slice_index_or}
use Rattle.std.proofs.lemmas.List.{append-nil}
use Rattle.std.proofs.lemmas.List.Elements.{filter-append}
use Rattle.nv_core.specs.state.Passes.{IsOneOf, Pass}
use Rattle.nv_core.specs.state.Words.{Word}
use Rattle.nv_core.specs.steps.Events.{Event, TakesStep, own}
use Rattle.nv_core.specs.steps.Ops.{Join, Op, PutBack, Split}
use Rattle.nv_table.proofs.state.ViewLaws.{all_begin_on, own_both}
use Rattle.nv_table.proofs.passes.BetweenLaws.{puts_number}
use Rattle.nv_table.proofs.steps.CallLaws.{idle_is_still, taken_made}
use Rattle.nv_table.specs.passes.PassesMade.{IsShownStill, IsSplit, IsTakenIn, PutsBack, imported_by}
use Rattle.nv_table.specs.passes.Seats.{PassingTells, joined, past_of}
use Rattle.nv_table.specs.state.States.{PassState}
use Rattle.nv_table.specs.state.Views.{AllBegin, Past, PassView, pass_of}
use Rattle.nv_clean.specs.Cleaning.{CleanState}
use Rattle.nv_mount.specs.Mounts.{MountState}
use Rattle.nv_mount.specs.declared.fds.Fd.{Fd}
use Rattle.nv_runner.proofs.PassLaws.{join_number, join_of}
use Rattle.nv_plain.specs.declared.memory.NoMemory.{NoMemory}
use Rattle.nv_runner.specs.Lists.{made_calls}
use Rattle.nv_runner.specs.Workers.{IsZero}
use Rattle.nv_trace.specs.declared.trace_call.TracedCall.{TracedCall}
use Rattle.nv_schedule.specs.Callers.{IsAtBatch, IsAtCall}
use Rattle.nv_schedule.specs.Flights.{flights_of}
use Rattle.nv_schedule.specs.Orders.{deeds, is_deed, is_deed_op}
use Rattle.nv_schedule.specs.Scheduled.{AreCallsOf, AreTakenAsTheyStood, HasTakenIn, IsAside, IsOfBoth, IsTakenAsItStood, IsTaker}
use Rattle.nv_schedule.specs.Listed.{listed, unanswered}
use Rattle.nv_schedule.specs.Turns.{CallerState, HasCome}
use Rattle.nv_schedule.specs.declared.caller.Work.{Work}
use Rattle.nv_schedule.specs.declared.caller.Work.TheVariants.{Calls, Batches}
use Rattle.nv_schedule.specs.declared.hand.Hand.{Hand}
use Rattle.nv_schedule.specs.declared.scheduled.ScheduledCalls.{ScheduledCalls}
use Rattle.nv_schedule.proofs.FlightLaws.{passing_flights}
use Rattle.nv_schedule.proofs.BehindLaws.{own_if, own_seen}
use Rattle.nv_schedule.proofs.turns.WayLaws.{of_trying}

-- ---- no device call has come since a caller's last step

still_at_call : (fds : List Fd) (left : List TracedCall) (hand : Option Hand) (last now : PassState) → IsAtCall fds left hand last now → IsShownStill now
still_at_call fds [] hand last now at = idle_is_still now at.2
still_at_call fds (call ∷ later) None last now at = idle_is_still now at.1
still_at_call fds (call ∷ later) (Some hand) last now at = (of_trying fds call.call hand at.0 now at.2).still

still_at_batch : (most : ℕ) (machine : Option CleanState) (last now : PassState) → IsAtBatch most machine last now → IsShownStill now
still_at_batch most None last now at = idle_is_still now at.1
still_at_batch most (Some machine) last now at = at.1.way.called.still

pub stands_still : (fds : List Fd) (work : Work) (start now : PassState) → HasCome fds work start now → IsShownStill now
stands_still fds (Calls thread) start now come = still_at_call fds thread.left thread.hand come.last now come.at
stands_still fds (Batches cleaner) start now come = still_at_batch cleaner.most cleaner.machine come.last now come.at

-- ---- a step between passes is no deed

deeds_both : (xs ys : List Event) → deeds (xs ++ ys) ≡ deeds xs ++ deeds ys
deeds_both xs ys = filter-append (λ (event : Event). is_deed event.act) xs ys

no_deed : (event : Event) → is_deed event.act ≡ false → deeds (event ∷ []) ≡ []
no_deed event is = ap (λ (b : Bool). if b then event ∷ [] else []) is

pub passing_deedless : (old new : PassView) (op : Op) (found : ℕ) → PassingTells old op found new → is_deed_op op ≡ false → deeds (own old.number new.run) ≡ deeds (own old.number old.run)
passing_deedless old new op found passed none =
    let event : Event = record { by = old.number; act = TakesStep op found } in
    ap (λ (v : PassView). deeds (own old.number v.run)) passed.is
    ∙ ap deeds (own_both old.number passed.run (event ∷ []))
    ∙ deeds_both (own old.number passed.run) (own old.number (event ∷ []))
    ∙ ap (λ l. deeds (own old.number passed.run) ++ deeds l) (own_if old.number event [] refl)
    ∙ ap (λ l. deeds (own old.number passed.run) ++ l) (no_deed event none)
    ∙ append-nil (deeds (own old.number passed.run))
    ∙ ap deeds (own_seen old.number old.run passed.run passed.knew.all)

pub puts_deedless : (cells : List (Word × ℕ)) (old last : PassView) → PutsBack cells old last → deeds (own old.number last.run) ≡ deeds (own old.number old.run)
puts_deedless [] old last same = ap (λ (v : PassView). deeds (own old.number v.run)) same
puts_deedless (one ∷ rest) old last back =
    let number : back.0.number ≡ old.number = ap (λ (v : PassView). v.number) back.1.is in
    subst (λ n. deeds (own n last.run) ≡ deeds (own n back.0.run)) number (puts_deedless rest back.0 last back.2) ∙ passing_deedless old back.0 (PutBack one.0) one.1 back.1 refl

pub puts_mine : (cells : List (Word × ℕ)) (old last : PassView) → PutsBack cells old last → (pass_of last).mine ≡ (pass_of old).mine
puts_mine [] old last same = ap (λ (v : PassView). (pass_of v).mine) same
puts_mine (one ∷ rest) old last back = puts_mine rest back.0 last back.2 ∙ ap (λ (p : Pass). p.mine) back.1.pass

-- ---- pass 0 meanwhile

pub aside_self : (pass : PassState) → IsAside pass pass
aside_self pass = record { spare = refl; mine = refl; deedless = refl; flights = refl }

pub aside_same : (old new : PassState) → new ≡ old → IsAside old new
aside_same old new same = subst (IsAside old) (sym same) (aside_self old)

pub aside_on : (old middle new : PassState) → IsAside old middle → IsAside middle new → IsAside old new
aside_on old middle new one more = record { spare = more.spare ∙ one.spare; mine = more.mine ∙ one.mine; deedless = more.deedless ∙ one.deedless; flights = more.flights ∙ one.flights }

pub told_aside : (pass : PassState) (run : List Event) → IsAside pass (imported_by pass run)
told_aside pass run = record { spare = refl; mine = refl; deedless = refl; flights = refl }

pub split_aside : (old new other : PassState) → IsSplit old new other → old.view.number ≡ 0 → IsAside old new
split_aside old new other is at_zero = record {
  spare = ap (λ (p : PassState). p.spare) is.parent_is;
  mine = ap (λ (p : PassState). (pass_of p.view).mine) is.parent_is ∙ ap (λ (p : Pass). p.mine) is.made.pass;
  deedless = ap (λ (p : PassState). deeds (own 0 p.view.run)) is.parent_is
      ∙ subst (λ n. deeds (own n is.middle.run) ≡ deeds (own n old.view.run)) at_zero (passing_deedless old.view is.middle Split is.found is.made refl);
  flights = ap (λ (p : PassState). flights_of (pass_of p.view)) is.parent_is ∙ passing_flights Split (pass_of old.view) (pass_of is.middle) is.made.pass;
}

pub join_aside : (old other new : PassState) → IsTakenIn old other new → old.view.number ≡ 0 → IsAside old new
join_aside old other new is at_zero = record {
  spare = ap (λ (p : PassState). p.spare) is.is;
  mine = ap (λ (p : PassState). (pass_of p.view).mine) is.is ∙ ap (λ (p : Pass). p.mine) is.taken.pass;
  deedless = ap (λ (p : PassState). deeds (own 0 p.view.run)) is.is
      ∙ subst (λ n. deeds (own n is.view.run) ≡ deeds (own n old.view.run)) at_zero (passing_deedless (joined old.view is.last) is.view (Join other.view.number) is.found is.taken refl);
  flights = ap (λ (p : PassState). flights_of (pass_of p.view)) is.is ∙ passing_flights (Join other.view.number) (pass_of old.view) (pass_of is.view) is.taken.pass;
}

pub zero_takes : (mount : MountState) (pass : PassState) → IsZero mount pass → IsTaker mount pass
zero_takes mount pass is = record { board = is.board; number = is.number; left = is.idle.left; nothing = is.idle.nothing }

pub join_takes : (mount : MountState) (old other new : PassState) → IsTaker mount old → IsTakenIn old other new → IsTaker mount new
join_takes mount old other new taker is = record {
  board = join_of mount.board old other new is taker.board;
  number = join_number old other new is ∙ taker.number;
  left = ap (λ (p : PassState). (pass_of p.view).left) is.is ∙ ap (λ (p : Pass). p.left) is.taken.pass ∙ taker.left;
  nothing = ap (λ (p : PassState). p.now) is.is ∙ taker.nothing;
}

-- ---- passes that were taken in

pub none_taken : (pass : PassState) → pass.view.ended ≡ [] → HasTakenIn pass pass []
none_taken pass none = record { aside = aside_self pass; made = refl; told = refl; taken = subst (AreTakenAsTheyStood []) (sym none) tt; behind = inl refl }

all_begin : (notes : List (List Event)) (run : List Event) (event : Event) → AllBegin notes run → AllBegin notes (run ++ event ∷ [])
all_begin notes run event begins = all_begin_on notes run (event ∷ []) begins

-- one more
pub taken_more : (old middle new : PassState) (callers : List CallerState) (caller : CallerState) → old.view.number ≡ 0 → middle.view.number ≡ 0 → HasTakenIn old middle callers → IsTakenIn middle caller.pass new
    → HasTakenIn old new (caller ∷ callers)
taken_more old middle new callers caller at_zero still_at_zero taken is =
    let told : new.view.told ≡ middle.view.told = ap (λ (p : PassState). p.view.told) is.is ∙ ap (λ (v : PassView). v.told) is.taken.is in
    let ended : new.view.ended ≡ past_of is.last ∷ middle.view.ended = ap (λ (p : PassState). p.view.ended) is.is ∙ ap (λ (v : PassView). v.ended) is.taken.is in
    let event : Event = record { by = middle.view.number; act = TakesStep (Join caller.pass.view.number) is.found } in
    let run : new.view.run ≡ is.taken.run ++ event ∷ [] = ap (λ (p : PassState). p.view.run) is.is ∙ ap (λ (v : PassView). v.run) is.taken.is in
    record {
      aside = aside_on old middle new taken.aside (join_aside middle caller.pass new is still_at_zero);
      made = taken_made middle caller.pass new is still_at_zero ∙ taken.made;
      told = told ∙ taken.told;
      taken = subst (AreTakenAsTheyStood (caller ∷ callers)) (sym ended) (record { cells = is.cells; last = is.last; back = is.back; is = refl }, taken.taken);
      behind = inr (subst (λ t. AllBegin t new.view.run) (sym told) (subst (AllBegin middle.view.told) (sym run) (all_begin middle.view.told is.taken.run event is.taken.told)));
    }

-- they are as many
pub taken_count : (callers : List CallerState) (pasts : List Past) → AreTakenAsTheyStood callers pasts → length pasts ≡ length callers
taken_count [] [] are = refl
taken_count [] (past ∷ before) are = absurd are
taken_count (caller ∷ later) [] are = absurd are
taken_count (caller ∷ later) (past ∷ before) are = let again = taken_count later before are.1 in omega (arith, again)

-- each one's past
pub record HasPast (callers : List CallerState) (pasts : List Past) (place : ℕ) (d : CallerState) : Type 0 where
  pub past : Past
  pub one : IsOneOf pasts past
  pub stood : IsTakenAsItStood (slice_index_or callers place d).pass past

pub past_at : (callers : List CallerState) (pasts : List Past) (place : ℕ) (d : CallerState) → AreTakenAsTheyStood callers pasts → place < length callers → HasPast callers pasts place d
past_at [] pasts place d are less = absurd (omega (arith, less))
past_at (caller ∷ later) [] place d are less = absurd are
past_at (caller ∷ later) (past ∷ before) zero d are less = record { past = past; one = inl refl; stood = are.0 }
past_at (caller ∷ later) (past ∷ before) (suc place) d are less =
    let again = past_at later before place d are.1 (omega (arith, less)) in
    record { past = again.past; one = inr again.one; stood = again.stood }

-- and whose a past is
pub record IsPastOfSome (callers : List CallerState) (past : Past) : Type 0 where
  pub place : ℕ
  pub there : place < length callers
  pub stood : (d : CallerState) → IsTakenAsItStood (slice_index_or callers place d).pass past

pub past_of_some : (callers : List CallerState) (pasts : List Past) (past : Past) → AreTakenAsTheyStood callers pasts → IsOneOf pasts past → IsPastOfSome callers past
past_of_some callers [] past are one = absurd one
past_of_some [] (first ∷ before) past are one = absurd are
past_of_some (caller ∷ later) (first ∷ before) past are (inl here) = record { place = 0; there = omega arith; stood = λ d. subst (IsTakenAsItStood caller.pass) (sym here) are.0 }
past_of_some (caller ∷ later) (first ∷ before) past are (inr there) =
    let again = past_of_some later before past are.1 there in
    record { place = suc again.place; there = (let less = again.there in omega (arith, less)); stood = again.stood }

pub stood_number : (pass : PassState) (past : Past) → IsTakenAsItStood pass past → past.number ≡ pass.view.number
stood_number pass past stood = ap (λ (p : Past). p.number) stood.is ∙ puts_number stood.cells pass.view stood.last stood.back

pub stood_deedless : (pass : PassState) (past : Past) → IsTakenAsItStood pass past → deeds (own pass.view.number past.run) ≡ deeds (own pass.view.number pass.view.run)
stood_deedless pass past stood = ap (λ (p : Past). deeds (own pass.view.number p.run)) stood.is ∙ puts_deedless stood.cells pass.view stood.last stood.back

-- ---- calls that are put down

pub no_calls : (calls : ScheduledCalls) → calls.answered.items ≡ [] → calls.unanswered.items ≡ [] → AreCallsOf [] calls
no_calls calls none none_too = record { answered = ap made_calls none; unanswered = ap (map (λ call. call.now)) none_too }

pub calls_more : (first then_ result : Result (Unit {0}) NoMemory) (callers : List CallerState) (caller : CallerState) (old new : ScheduledCalls) → IsOfBoth first then_ result → OnOk first (AreCallsOf callers old)
    → OnOk then_ (made_calls new.answered.items ≡ made_calls old.answered.items ++ listed caller)
    → OnOk then_ (map (λ call. call.now) new.unanswered.items ≡ map (λ call. call.now) old.unanswered.items ++ unanswered caller) → OnOk result (AreCallsOf (caller ∷ callers) new)
calls_more (Ok done) (Ok noted) result callers caller old new is are more others =
    subst (λ (r : Result (Unit {0}) NoMemory). OnOk r (AreCallsOf (caller ∷ callers) new)) (sym is)
    record { answered = more ∙ ap (λ l. l ++ listed caller) are.answered; unanswered = others ∙ ap (λ l. l ++ unanswered caller) are.unanswered }
calls_more (Ok done) (Err wanting) result callers caller old new is are more others = subst (λ (r : Result (Unit {0}) NoMemory). OnOk r (AreCallsOf (caller ∷ callers) new)) (sym is) tt
calls_more (Err wanting) then_ result callers caller old new is are more others = subst (λ (r : Result (Unit {0}) NoMemory). OnOk r (AreCallsOf (caller ∷ callers) new)) (sym is) tt

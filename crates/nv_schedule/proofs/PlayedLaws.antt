-- Played: callers that follow a schedule play it as actors.
use Rattle.std.proofs.Common.{◌≡◌, ◌≢◌, ◌⊎◌, ℕ, zero, suc, ◌<◌, ◌≤◌, Bool, true, false, List, [], ◌∷◌, length, inl, inr, refl, sym, ap, subst, ◌∙◌, arith}
use Rattle.std.specs.Prelude.{Some, map, slice_index_or}
use Rattle.std.proofs.lemmas.Bool.{cases_eq}
use Rattle.std.proofs.lemmas.List.{get_or-map, get_or-set_other, get_or-set_same, length-map, length-set, map-set}
use Rattle.nv_core.specs.steps.Events.{Event}
use Rattle.nv_core.specs.steps.Opening.{IsMount}
use Rattle.nv_table.specs.state.Opened.{Opened, mount_of, state_of}
use Rattle.nv_table.specs.state.States.{PassState}
use Rattle.nv_mount.specs.declared.fds.Fd.{Fd}
use Rattle.nv_op.specs.declared.kinds.Kind.TheVariants.{Take}
use Rattle.nv_trace.specs.declared.token.Reach.{Reach}
use Rattle.nv_trace.specs.declared.token.Token.{Token}
use Rattle.nv_trace.specs.declared.token.Token.TheVariants.{Advance, Cut}
use Rattle.nv_trace.specs.declared.trace_call.TracedCall.{TracedCall}
use Rattle.nv_schedule.specs.Actors.{Actor, next_in, next_of_left}
use Rattle.nv_schedule.specs.Cuts.{cut_behind}
use Rattle.nv_schedule.specs.Following as callers
use Rattle.nv_schedule.specs.Following.{OneTurns}
use Rattle.nv_schedule.specs.Hands.{kind_at_first}
use Rattle.nv_schedule.specs.NextKinds.{core_kind, core_next, kind_with}
use Rattle.nv_schedule.specs.Played as actors
use Rattle.nv_schedule.specs.Played.{OneActs}
use Rattle.nv_schedule.specs.Reaches.{has_come, is_there, place_of}
use Rattle.nv_schedule.specs.Turns.{CallerState, HasCome, MovesBy}
use Rattle.nv_schedule.specs.declared.caller.Work.{Work}
use Rattle.nv_schedule.specs.declared.caller.Work.TheVariants.{Calls, Batches}
use Rattle.nv_schedule.proofs.ActLaws.{actor_of, task_of, turned_acts}
use Rattle.nv_schedule.proofs.AnswerLaws.{CallLaws}
use Rattle.nv_schedule.proofs.GrownLaws.{taken_grown}
use Rattle.nv_schedule.proofs.NextKindLaws.{next_is_the_cores}

abbrev pub actors_of : List CallerState → List Actor
actors_of callers = map actor_of callers

-- it is of a mount, and has come to where it is since some start
pub record IsOn (opened : Opened) (fds : List Fd) (caller : CallerState) : Type 0 where
  pub same : caller.pass.view.opened ≡ opened
  pub start : PassState
  pub come : HasCome fds caller.work start caller.pass

abbrev pub AreOn : Opened → List Fd → List CallerState → Type 0
AreOn opened fds callers = (i : ℕ) (d : CallerState) → i < length callers → IsOn opened fds (slice_index_or callers i d)

-- ---- what comes next

next_left : (opened : Opened) (caller : CallerState) → caller.pass.view.opened ≡ opened → (left : List TracedCall) → next_of_left opened (actor_of caller) left ≡ kind_with caller.pass.view left
next_left opened caller same [] = refl
next_left opened caller same (call ∷ later) =
    ap (λ (o : Opened). Some (core_kind o.sizes (state_of o caller.pass.view.run).values ((state_of o caller.pass.view.run).passes caller.pass.view.number) (kind_at_first call.call))) (sym same)

next_work : (opened : Opened) (caller : CallerState) → caller.pass.view.opened ≡ opened → (work : Work) → next_in opened (actor_of caller) (task_of work) ≡ core_next caller.pass.view work
next_work opened caller same (Calls thread) = next_left opened caller same thread.left
next_work opened caller same (Batches cleaner) =
    ap (λ (o : Opened). Some (core_kind o.sizes (state_of o caller.pass.view.run).values ((state_of o caller.pass.view.run).passes caller.pass.view.number) Take)) (sym same)

pub next_same : (opened : Opened) (fds : List Fd) (callers_now : List CallerState) (place : ℕ) → AreOn opened fds callers_now → actors.next_at opened (actors_of callers_now) place ≡ callers.next_at callers_now place
next_same opened fds [] place on = refl
next_same opened fds (caller ∷ later) zero on =
    let one = on 0 caller (omega arith) in
    next_work opened caller one.same caller.work ∙ sym (next_is_the_cores fds caller one.start one.come)
next_same opened fds (caller ∷ later) (suc place) on = next_same opened fds later place (λ i d less. on (suc i) d (omega (arith, less)))

-- ---- one advance

mount_kept : {allowed : Type 0} (events : List Event) (old new : PassState) → MovesBy allowed events old new → new.view.opened ≡ old.view.opened
mount_kept events old new (inl still) = ap (λ (p : PassState). p.view.opened) still.0
mount_kept events old new (inr one) = (taken_grown one.0 old new one.1).opened

module _ (laws : CallLaws) (opened : Opened) (fds : List Fd) (mount : IsMount (mount_of opened)) where
  module _ (place : ℕ) (answered : Bool) (events : List Event) (old new : List CallerState) (one : OneTurns fds place answered events old new) (on : AreOn opened fds old) where
    caller_on : IsOn opened fds one.caller
    caller_on = subst (IsOn opened fds) (one.is one.caller) (on place one.caller one.there)

    then_on : IsOn opened fds one.then_
    then_on = record {
      same = mount_kept events one.caller.pass one.then_.pass one.turned.moved ∙ caller_on.same;
      start = caller_on.start;
      come = one.turned.come caller_on.start caller_on.come;
    }

    each_on : (i : ℕ) (d : CallerState) → i < length old → (i ≡ place) ⊎ (i ≢ place) → IsOn opened fds (slice_index_or new i d)
    each_on i d less (inl is) = subst (IsOn opened fds) (sym (ap (λ k. slice_index_or new k d) is ∙ ap (λ l. slice_index_or l place d) one.new_is ∙ get_or-set_same old place one.then_ d one.there)) then_on
    each_on i d less (inr ne) = subst (IsOn opened fds) (sym (ap (λ l. slice_index_or l i d) one.new_is ∙ get_or-set_other old place i one.then_ d ne)) (on i d less)

    all_on : AreOn opened fds new
    all_on i d less = each_on i d (let n = ap length one.new_is ∙ length-set old place one.then_ in omega (arith, less, n)) (cases_eq i place)

    one_acts : OneActs opened fds place answered events (actors_of old) (actors_of new)
    one_acts = record {
      there = let there = one.there in let n = length-map old actor_of in omega (arith, there, n);
      from = actor_of one.caller;
      is = λ d. get_or-map actor_of old place one.caller d one.there ∙ ap actor_of (one.is one.caller);
      to = actor_of one.then_;
      new_is = ap (map actor_of) one.new_is ∙ map-set actor_of old place one.then_;
      acts = turned_acts laws opened fds mount answered events one.caller one.then_ caller_on.same one.turned caller_on.start caller_on.come;
    }

  -- ---- those of a token

  short_plays : (cut : Bool) (reach : Reach) (place : ℕ) (old : List CallerState) (advances : List (List Event)) (new : List CallerState) → AreOn opened fds old → callers.FallShort fds cut reach place old advances new
      → actors.FallShort opened fds cut reach place (actors_of old) advances (actors_of new) × AreOn opened fds new
  short_plays cut reach place old [] new on same = (ap actors_of same, subst (AreOn opened fds) (sym same) on)
  short_plays cut reach place old (events ∷ later) new on fell =
      let then_ = all_on place fell.0 events old fell.1 fell.2 on in
      let rest = short_plays cut reach place fell.1 later new then_ fell.5 in (
        (fell.0, actors_of fell.1, one_acts place fell.0 events old fell.1 fell.2 on, fell.3, ap (has_come reach fell.0) (next_same opened fds fell.1 place then_) ∙ fell.4, rest.0),
        rest.1,
      )

  comes_so : (cut : Bool) (reach : Reach) (place : ℕ) (old : List CallerState) (advances : List (List Event)) (new : List CallerState) → AreOn opened fds old → callers.Comes fds cut reach place old advances new
      → length advances ≤ callers.most_advances → actors.Comes opened fds cut reach place (actors_of old) advances (actors_of new) × AreOn opened fds new
  comes_so cut reach place old advances new on come few =
      let short = short_plays cut reach place old come.short come.middle on come.fell in
      let then_ = all_on place come.answered come.last come.middle new come.one short.1 in (
        record {
          short = come.short;
          middle = actors_of come.middle;
          fell = short.0;
          answered = come.answered;
          last = come.last;
          one = one_acts place come.answered come.last come.middle new come.one short.1;
          whole = come.whole;
          come = ap (has_come reach come.answered) (next_same opened fds new place then_) ∙ come.come;
          all = come.all;
          few = few;
        },
        then_,
      )

  goes_so : (there : Bool) (cut : Bool) (reach : Reach) (place : ℕ) (old : List CallerState) (advances : List (List Event)) (new : List CallerState) → AreOn opened fds old → callers.GoesTo there fds cut reach place old advances new
      → actors.GoesTo there opened fds cut reach place (actors_of old) advances (actors_of new) × AreOn opened fds new
  goes_so true cut reach place old advances new on goes = ((goes.0, ap actors_of goes.1), subst (AreOn opened fds) (sym goes.1) on)
  goes_so false cut reach place old advances new on goes = comes_so cut reach place old advances new on goes.0 goes.1

  -- ---- all tokens

  pub plays_so : (cut : Bool) (tokens : List Token) (old : List CallerState) (trail : List Event) (new : List CallerState) → AreOn opened fds old → callers.Follows fds cut tokens old trail new
      → actors.Plays opened fds cut tokens (actors_of old) trail (actors_of new) × AreOn opened fds new
  plays_so cut [] old trail new on nothing = ((nothing.0, ap actors_of nothing.1), subst (AreOn opened fds) (sym nothing.1) on)
  plays_so cut (Cut number ∷ later) old trail new on follows = plays_so true later old trail new on follows
  plays_so cut (Advance turn reach ∷ later) old trail new on follows =
      let place = place_of turn in
      let goes = goes_so (is_there reach (callers.next_at old place)) cut reach place old follows.0 follows.1 on follows.3 in
      let rest = plays_so cut later follows.1 follows.2 new goes.1 follows.5 in (
        (
          follows.0,
          actors_of follows.1,
          follows.2,
          subst (λ next. actors.GoesTo (is_there reach next) opened fds cut reach place (actors_of old) follows.0 (actors_of follows.1)) (sym (next_same opened fds old place on)) goes.0,
          follows.4,
          rest.0,
        ),
        rest.1,
      )

  pub plays_up : (tokens : List Token) (old : List CallerState) (trail : List Event) (new : List CallerState) → AreOn opened fds old → (used : callers.UsesUp fds false tokens old trail new)
      → (up : actors.PlaysUp opened fds tokens (actors_of old) trail (actors_of new)) × (up.before ≡ used.before)
  plays_up tokens old trail new on used =
      let first = plays_so false used.before old used.first used.middle on used.follows in
      let short = short_plays (cut_behind false used.before) used.reach (place_of used.turn) used.middle used.advances new first.1 used.fell in (
        record {
          before = used.before;
          turn = used.turn;
          reach = used.reach;
          after = used.after;
          tokens_are = used.tokens_are;
          first = used.first;
          middle = actors_of used.middle;
          plays = first.0;
          far = ap (is_there used.reach) (next_same opened fds used.middle (place_of used.turn) first.1) ∙ used.far;
          advances = used.advances;
          fell = short.0;
          count = used.count;
          trail_is = used.trail_is;
        },
        refl,
      )

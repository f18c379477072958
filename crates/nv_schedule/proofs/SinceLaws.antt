-- Since: what is so of each caller by its own advances is so by a schedule; and the events of a schedule are deeds.
use Rattle.std.proofs.Common.{◌≡◌, ◌≢◌, ◌⊎◌, ℕ, ◌<◌, Bool, true, false, List, [], ◌∷◌, ◌++◌, length, inl, inr, refl, sym, ap, subst, ◌∙◌, arith, append_assoc}
use Rattle.std.specs.Prelude.{IfOk, OnErr, Result, Ok, Err, slice_index_or, slice_set}
use Rattle.std.proofs.lemmas.Bool.{cases_eq}
use Rattle.std.proofs.lemmas.List.{get_or-set_other, get_or-set_same, length-set, map-append, set-get_or}
use Rattle.nv_plain.specs.declared.memory.NoMemory.{NoMemory}
use Rattle.nv_core.specs.steps.Events.{Event}
use Rattle.nv_table.specs.state.States.{PassState}
use Rattle.nv_mount.specs.declared.fds.Fd.{Fd}
use Rattle.nv_runner.specs.Lists.{MadeCall, calls_made}
use Rattle.nv_trace.specs.declared.trace_call.TracedCall.{TracedCall}
use Rattle.nv_schedule.specs.Callers.{CallEnds, ThreadState}
use Rattle.nv_schedule.specs.Cuts.{cut_behind}
use Rattle.nv_schedule.specs.Following.{FallShort, Follows, GoesTo, MeetsFault, OneTells, OneTurns, UsesUp, all_events, next_at}
use Rattle.nv_schedule.specs.Going.{AllGoOn, GoesOn}
use Rattle.nv_schedule.specs.Growing.{number_of}
use Rattle.nv_schedule.specs.Orders.{AreDeeds, ComeBehind}
use Rattle.nv_schedule.specs.Reaches.{is_there, place_of}
use Rattle.nv_schedule.specs.Scheduled.{asked_by}
use Rattle.nv_schedule.specs.Turns.{CallerState, HasCome, HasTurned, WorkEnds}
use Rattle.nv_schedule.specs.declared.caller.Work.{Work}
use Rattle.nv_schedule.specs.declared.caller.Work.TheVariants.{Calls, Batches}
use Rattle.nv_schedule.specs.declared.turned.Turned.{Turned}
use Rattle.nv_trace.specs.declared.token.Reach.{Reach}
use Rattle.nv_trace.specs.declared.token.Token.{Token}
use Rattle.nv_trace.specs.declared.token.Token.TheVariants.{Advance, Cut}
use Rattle.nv_schedule.proofs.DeedLaws.{turn_is_deeds}
use Rattle.nv_schedule.proofs.FollowLaws.{all_events_on, number_kept}
use Rattle.nv_schedule.proofs.OrderLaws.{are_deeds_both}

-- ---- one caller goes on

on_self : (fds : List Fd) (caller : CallerState) → GoesOn fds caller caller
on_self fds caller = record { number = refl; asked = refl; come = λ start come. come }

on_both : (fds : List Fd) (old middle new : CallerState) → GoesOn fds old middle → GoesOn fds middle new → GoesOn fds old new
on_both fds old middle new one more = record { number = more.number ∙ one.number; asked = more.asked ∙ one.asked; come = λ start come. more.come start (one.come start come) }

thread_asked : (answered : Bool) (old new : ThreadState) → CallEnds answered old new → calls_made new.made ++ new.left ≡ calls_made old.made ++ old.left
thread_asked false old new ends = ap (λ (made : List MadeCall). calls_made made ++ new.left) ends.1 ∙ ap (λ (left : List TracedCall). calls_made old.made ++ left) ends.0
thread_asked true old new ends =
    ap (λ (made : List MadeCall). calls_made made ++ new.left) ends.2
    ∙ ap (λ (calls : List TracedCall). calls ++ new.left) (map-append (λ (m : MadeCall). m.call) old.made (ends.0 ∷ []))
    ∙ append_assoc (calls_made old.made) (ends.0.call ∷ []) new.left
    ∙ sym (ap (λ (left : List TracedCall). calls_made old.made ++ left) ends.1)

work_asked : (answered : Bool) (old new : Work) → WorkEnds answered old new → asked_by new ≡ asked_by old
work_asked answered (Calls old) (Calls new) ends = thread_asked answered old new ends
work_asked answered (Batches old) (Batches new) ends = refl
work_asked answered (Calls old) (Batches new) ends = absurd ends
work_asked answered (Batches old) (Calls new) ends = absurd ends

turned_on : (fds : List Fd) (answered : Bool) (made : List Event) (old new : CallerState) → HasTurned fds answered made old new → GoesOn fds old new
turned_on fds answered made old new turned =
    record { number = number_kept made old.pass new.pass turned.moved; asked = work_asked answered old.work new.work turned.ends; come = turned.come }

-- ---- all of them

pub all_self : (fds : List Fd) (callers : List CallerState) → AllGoOn fds callers callers
all_self fds callers = record { count = refl; each = λ i d less. on_self fds (slice_index_or callers i d) }

pub all_both : (fds : List Fd) (old middle new : List CallerState) → AllGoOn fds old middle → AllGoOn fds middle new → AllGoOn fds old new
all_both fds old middle new one more = record {
  count = more.count ∙ one.count;
  each = λ i d less. on_both fds (slice_index_or old i d) (slice_index_or middle i d) (slice_index_or new i d) (one.each i d less) (more.each i d (let n = one.count in omega (arith, less, n)));
}

module _ (fds : List Fd) (place : ℕ) (answered : Bool) (made : List Event) (old new : List CallerState) (one : OneTurns fds place answered made old new) where
  here : (d : CallerState) → slice_index_or new place d ≡ one.then_
  here d = ap (λ l. slice_index_or l place d) one.new_is ∙ get_or-set_same old place one.then_ d one.there

  else_ : (i : ℕ) (d : CallerState) → i ≢ place → slice_index_or new i d ≡ slice_index_or old i d
  else_ i d ne = ap (λ l. slice_index_or l i d) one.new_is ∙ get_or-set_other old place i one.then_ d ne

  at_place : (d : CallerState) → GoesOn fds (slice_index_or old place d) (slice_index_or new place d)
  at_place d =
      subst (λ (c : CallerState). GoesOn fds c (slice_index_or new place d)) (sym (one.is d))
      (subst (GoesOn fds one.caller) (sym (here d)) (turned_on fds answered made one.caller one.then_ one.turned))

  each_on : (i : ℕ) (d : CallerState) → (i ≡ place) ⊎ (i ≢ place) → GoesOn fds (slice_index_or old i d) (slice_index_or new i d)
  each_on i d (inl is) = subst (λ k. GoesOn fds (slice_index_or old k d) (slice_index_or new k d)) (sym is) (at_place d)
  each_on i d (inr ne) = subst (GoesOn fds (slice_index_or old i d)) (sym (else_ i d ne)) (on_self fds (slice_index_or old i d))

  pub one_on : AllGoOn fds old new
  one_on = record { count = ap length one.new_is ∙ length-set old place one.then_; each = λ i d less. each_on i d (cases_eq i place) }

-- by an advance; or memory was wanting, and nothing was done
pub turn_on : (fds : List Fd) (place : ℕ) (callers : List CallerState) (d then_ : CallerState) (view after : List Event) (result : Result Turned NoMemory)
    → IfOk result (λ turned. (events : List Event) × OneTells fds place turned events callers (slice_set callers place then_) × ComeBehind events view after) → OnErr result (then_ ≡ slice_index_or callers place d)
    → AllGoOn fds callers (slice_set callers place then_)
turn_on fds place callers d then_ view after (Ok how) told memory = one_on fds place how.answered told.0 callers (slice_set callers place then_) told.1.one
turn_on fds place callers d then_ view after (Err none) told memory =
    subst (λ (c : CallerState). AllGoOn fds callers (slice_set callers place c)) (sym memory) (subst (AllGoOn fds callers) (sym (set-get_or callers place d)) (all_self fds callers))

short_on : (fds : List Fd) (cut : Bool) (reach : Reach) (place : ℕ) (callers : List CallerState) (advances : List (List Event)) (then_ : List CallerState) → FallShort fds cut reach place callers advances then_
    → AllGoOn fds callers then_
short_on fds cut reach place callers [] then_ same = subst (AllGoOn fds callers) (sym same) (all_self fds callers)
short_on fds cut reach place callers (made ∷ later) then_ fell =
    all_both fds callers fell.1 then_ (one_on fds place fell.0 made callers fell.1 fell.2) (short_on fds cut reach place fell.1 later then_ fell.5)

-- some that fell short, and a last one
last_on : (fds : List Fd) (cut : Bool) (reach : Reach) (place : ℕ) (callers middle then_ : List CallerState) (short : List (List Event)) (answered : Bool) (last : List Event) → FallShort fds cut reach place callers short middle
    → OneTurns fds place answered last middle then_ → AllGoOn fds callers then_
last_on fds cut reach place callers middle then_ short answered last fell one = all_both fds callers middle then_ (short_on fds cut reach place callers short middle fell) (one_on fds place answered last middle then_ one)

token_on : (fds : List Fd) (cut : Bool) (reach : Reach) (place : ℕ) (callers : List CallerState) (advances : List (List Event)) (then_ : List CallerState) (there : Bool) → GoesTo there fds cut reach place callers advances then_
    → AllGoOn fds callers then_
token_on fds cut reach place callers advances then_ true goes = subst (AllGoOn fds callers) (sym goes.1) (all_self fds callers)
token_on fds cut reach place callers advances then_ false goes =
    let come = goes.0 in
    last_on fds cut reach place callers come.middle then_ come.short come.answered come.last come.fell come.one

pub schedule_on : (fds : List Fd) (cut : Bool) (tokens : List Token) (callers : List CallerState) (trail : List Event) (then_ : List CallerState) → Follows fds cut tokens callers trail then_ → AllGoOn fds callers then_
schedule_on fds cut [] callers trail then_ nothing = subst (AllGoOn fds callers) (sym nothing.1) (all_self fds callers)
schedule_on fds cut (Cut number ∷ later) callers trail then_ follows = schedule_on fds true later callers trail then_ follows
schedule_on fds cut (Advance turn reach ∷ later) callers trail then_ follows =
    all_both fds callers follows.1 then_ (token_on fds cut reach (place_of turn) callers follows.0 follows.1 (is_there reach (next_at callers (place_of turn))) follows.3)
    (schedule_on fds cut later follows.1 follows.2 then_ follows.5)

pub used_up_on : (fds : List Fd) (cut : Bool) (tokens : List Token) (callers : List CallerState) (trail : List Event) (then_ : List CallerState) → UsesUp fds cut tokens callers trail then_ → AllGoOn fds callers then_
used_up_on fds cut tokens callers trail then_ used =
    all_both fds callers used.middle then_ (schedule_on fds cut used.before callers used.first used.middle used.follows)
    (short_on fds (cut_behind cut used.before) used.reach (place_of used.turn) used.middle used.advances then_ used.fell)

pub fault_on : (fds : List Fd) (cut : Bool) (tokens : List Token) (callers : List CallerState) (trail : List Event) (then_ : List CallerState) → MeetsFault fds cut tokens callers trail then_ → AllGoOn fds callers then_
fault_on fds cut tokens callers trail then_ met =
    let fails = met.fails in
    all_both fds callers met.middle then_ (schedule_on fds cut met.before callers met.first met.middle met.follows)
    (last_on fds false met.reach (place_of met.turn) met.middle fails.middle then_ fails.short fails.answered fails.last fails.fell fails.one)

-- ---- their events are deeds

-- each is by a pass beside pass 0, and has come to where it is
abbrev pub AreFirm : List Fd → List CallerState → Type 0
AreFirm fds callers = (i : ℕ) (d : CallerState) → i < length callers → (number_of (slice_index_or callers i d) ≢ 0) × (start : PassState) × HasCome fds (slice_index_or callers i d).work start (slice_index_or callers i d).pass

firm_on : (fds : List Fd) (old new : List CallerState) → AllGoOn fds old new → AreFirm fds old → AreFirm fds new
firm_on fds old new on firm i d less =
    let there : i < length old = (let n = on.count in omega (arith, less, n)) in
    let one = firm i d there in
    let goes = on.each i d there in
    (λ none. one.0 (sym goes.number ∙ none), one.1, goes.come one.1 one.2)

one_deeds : (fds : List Fd) (place : ℕ) (answered : Bool) (made : List Event) (old new : List CallerState) → OneTurns fds place answered made old new → AreFirm fds old → AreDeeds made
one_deeds fds place answered made old new one firm =
    let here = firm place one.caller one.there in
    let same : slice_index_or old place one.caller ≡ one.caller = one.is one.caller in
    turn_is_deeds fds answered made one.caller one.then_ one.turned here.1
    (subst (λ (c : CallerState). HasCome fds c.work here.1 c.pass) same here.2) (λ none. here.0 (ap number_of same ∙ none))

short_deeds : (fds : List Fd) (cut : Bool) (reach : Reach) (place : ℕ) (callers : List CallerState) (advances : List (List Event)) (then_ : List CallerState) → FallShort fds cut reach place callers advances then_ → AreFirm fds callers
    → AreDeeds (all_events advances)
short_deeds fds cut reach place callers [] then_ same firm = tt
short_deeds fds cut reach place callers (made ∷ later) then_ fell firm =
    are_deeds_both made (all_events later) (one_deeds fds place fell.0 made callers fell.1 fell.2 firm)
    (short_deeds fds cut reach place fell.1 later then_ fell.5 (firm_on fds callers fell.1 (one_on fds place fell.0 made callers fell.1 fell.2) firm))

last_deeds : (fds : List Fd) (cut : Bool) (reach : Reach) (place : ℕ) (callers middle then_ : List CallerState) (advances short : List (List Event)) (answered : Bool) (last : List Event)
    → FallShort fds cut reach place callers short middle → OneTurns fds place answered last middle then_ → advances ≡ short ++ last ∷ [] → AreFirm fds callers → AreDeeds (all_events advances)
last_deeds fds cut reach place callers middle then_ advances short answered last fell one all firm =
    subst AreDeeds (sym (ap all_events all ∙ all_events_on short last))
    (are_deeds_both (all_events short) last (short_deeds fds cut reach place callers short middle fell firm)
    (one_deeds fds place answered last middle then_ one (firm_on fds callers middle (short_on fds cut reach place callers short middle fell) firm)))

token_deeds : (fds : List Fd) (cut : Bool) (reach : Reach) (place : ℕ) (callers : List CallerState) (advances : List (List Event)) (then_ : List CallerState) (there : Bool) → GoesTo there fds cut reach place callers advances then_
    → AreFirm fds callers → AreDeeds (all_events advances)
token_deeds fds cut reach place callers advances then_ true goes firm = subst (λ (l : List (List Event)). AreDeeds (all_events l)) (sym goes.0) tt
token_deeds fds cut reach place callers advances then_ false goes firm =
    let come = goes.0 in
    last_deeds fds cut reach place callers come.middle then_ advances come.short come.answered come.last come.fell come.one come.all firm

pub schedule_deeds : (fds : List Fd) (cut : Bool) (tokens : List Token) (callers : List CallerState) (trail : List Event) (then_ : List CallerState) → Follows fds cut tokens callers trail then_ → AreFirm fds callers → AreDeeds trail
schedule_deeds fds cut [] callers trail then_ nothing firm = subst AreDeeds (sym nothing.0) tt
schedule_deeds fds cut (Cut number ∷ later) callers trail then_ follows firm = schedule_deeds fds true later callers trail then_ follows firm
schedule_deeds fds cut (Advance turn reach ∷ later) callers trail then_ follows firm =
    let there = is_there reach (next_at callers (place_of turn)) in
    subst AreDeeds (sym follows.4)
    (are_deeds_both (all_events follows.0) follows.2 (token_deeds fds cut reach (place_of turn) callers follows.0 follows.1 there follows.3 firm)
    (schedule_deeds fds cut later follows.1 follows.2 then_ follows.5 (firm_on fds callers follows.1 (token_on fds cut reach (place_of turn) callers follows.0 follows.1 there follows.3) firm)))

pub used_up_deeds : (fds : List Fd) (cut : Bool) (tokens : List Token) (callers : List CallerState) (trail : List Event) (then_ : List CallerState) → UsesUp fds cut tokens callers trail then_ → AreFirm fds callers → AreDeeds trail
used_up_deeds fds cut tokens callers trail then_ used firm =
    let before = schedule_on fds cut used.before callers used.first used.middle used.follows in
    subst AreDeeds (sym used.trail_is)
    (are_deeds_both used.first (all_events used.advances) (schedule_deeds fds cut used.before callers used.first used.middle used.follows firm)
    (short_deeds fds (cut_behind cut used.before) used.reach (place_of used.turn) used.middle used.advances then_ used.fell (firm_on fds callers used.middle before firm)))

pub fault_deeds : (fds : List Fd) (cut : Bool) (tokens : List Token) (callers : List CallerState) (trail : List Event) (then_ : List CallerState) → MeetsFault fds cut tokens callers trail then_ → AreFirm fds callers → AreDeeds trail
fault_deeds fds cut tokens callers trail then_ met firm =
    let before = schedule_on fds cut met.before callers met.first met.middle met.follows in
    let fails = met.fails in
    subst AreDeeds (sym met.trail_is)
    (are_deeds_both met.first (all_events met.advances) (schedule_deeds fds cut met.before callers met.first met.middle met.follows firm)
    (last_deeds fds false met.reach (place_of met.turn) met.middle fails.middle then_ met.advances fails.short fails.answered fails.last fails.fell fails.one fails.all (firm_on fds callers met.middle before firm)))

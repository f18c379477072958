-- Growing: what each caller's pass has in the run grows by its own events of a schedule.
use Rattle.std.proofs.Common.{◌≡◌, ◌≢◌, ◌⊎◌, ℕ, ◌<◌, Bool, true, false, if◌then◌else◌, List, [], ◌∷◌, ◌++◌, length, inl, inr, refl, sym, ap, subst, ◌∙◌, arith}
use Rattle.std.specs.Prelude.{slice_index_or}
use Rattle.std.proofs.lemmas.Bool.{cases_eq, ne_eqb}
use Rattle.std.proofs.lemmas.List.{append-nil, append_assoc, get_or-set_other, get_or-set_same, length-set}
use Rattle.nv_core.specs.steps.Events.{Act, CallsDevice, Event, own}
use Rattle.nv_core.specs.steps.Order.{Work}
use Rattle.nv_table.proofs.state.ViewLaws.{own_both}
use Rattle.nv_table.specs.state.States.{PassState}
use Rattle.nv_table.specs.steps.SeatSteps.{act_of, events}
use Rattle.nv_mount.specs.declared.fds.Fd.{Fd}
use Rattle.nv_schedule.specs.Cuts.{cut_behind}
use Rattle.nv_schedule.specs.Following.{FallShort, Follows, GoesTo, MeetsFault, OneTurns, UsesUp, all_events, next_at}
use Rattle.nv_schedule.specs.Growing.{AreApart, GrowBy, number_of, run_of}
use Rattle.nv_schedule.specs.Reaches.{is_there, place_of}
use Rattle.nv_schedule.specs.Turns.{CallerState, MovesBy}
use Rattle.nv_trace.specs.declared.token.Reach.{Reach}
use Rattle.nv_trace.specs.declared.token.Token.{Token}
use Rattle.nv_trace.specs.declared.token.Token.TheVariants.{Advance, Cut}
use Rattle.nv_schedule.proofs.BehindLaws.{made_one}

-- ---- the events of one advance

own_else : (other : ℕ) (event : Event) (later : List Event) → event.by ≢ other → own other (event ∷ later) ≡ own other later
own_else other event later ne = ap (λ (b : Bool). if b then event ∷ own other later else own other later) (ne_eqb event.by other ne)

own_others : (number other : ℕ) (works : List Work) (act : Act) → number ≢ other → own other (events number works act) ≡ []
own_others number other [] act ne = own_else other (record { by = number; act = act }) [] ne
own_others number other (work ∷ later) act ne = own_else other (record { by = number; act = CallsDevice work }) (events number later act) ne ∙ own_others number other later act ne

-- what a pass has in the run grew by these, and they are nobody else's
record Moved (made : List Event) (old new : PassState) : Type 0 where
  number : new.view.number ≡ old.view.number
  grew : own old.view.number new.view.run ≡ own old.view.number old.view.run ++ own old.view.number made
  alone : (other : ℕ) → old.view.number ≢ other → own other made ≡ []

moved_by : {allowed : Type 0} (made : List Event) (old new : PassState) → MovesBy allowed made old new → Moved made old new
moved_by made old new (inl still) = record {
  number = ap (λ (p : PassState). p.view.number) still.0;
  grew = ap (λ (p : PassState). own old.view.number p.view.run) still.0 ∙ sym (ap (λ l. own old.view.number old.view.run ++ own old.view.number l) still.1 ∙ append-nil (own old.view.number old.view.run));
  alone = λ other ne. ap (own other) still.1;
}
moved_by made old new (inr one) =
    let m = made_one one.0 old new one.1 in
    record {
      number = m.number;
      grew =
          ap (own old.view.number) m.is
          ∙ own_both old.view.number m.run _
          ∙ ap (λ l. l ++ own old.view.number (events old.view.number one.0.works (act_of one.0.opens one.0.op one.0.found))) m.before
          ∙ ap (λ l. own old.view.number old.view.run ++ own old.view.number l) (sym one.2);
      alone = λ other ne. ap (own other) one.2 ∙ own_others old.view.number other one.0.works (act_of one.0.opens one.0.op one.0.found) ne;
    }

-- ---- growing on

pub grow_none : (callers : List CallerState) → GrowBy callers callers []
grow_none callers = record {
  count = refl;
  numbers = λ i d less. refl;
  each = λ i d less. sym (append-nil (own (number_of (slice_index_or callers i d)) (run_of (slice_index_or callers i d))));
  others = λ number none. refl;
}

apart_on : (old new : List CallerState) (trail : List Event) → GrowBy old new trail → AreApart old → AreApart new
apart_on old new trail grow apart i j d less less_too ne same =
    let n = grow.count in
    let here : i < length old = omega (arith, less, n) in
    let there : j < length old = omega (arith, less_too, n) in
    apart i j d here there ne (sym (grow.numbers i d here) ∙ same ∙ grow.numbers j d there)

grow_both : (old middle new : List CallerState) (xs ys : List Event) → GrowBy old middle xs → GrowBy middle new ys → GrowBy old new (xs ++ ys)
grow_both old middle new xs ys one other = record {
  count = other.count ∙ one.count;
  numbers = λ i d less. other.numbers i d (there i less) ∙ one.numbers i d less;
  each = λ i d less.
      let n = number_of (slice_index_or old i d) in
      let later = subst (λ m. own m (run_of (slice_index_or new i d)) ≡ own m (run_of (slice_index_or middle i d)) ++ own m ys) (one.numbers i d less) (other.each i d (there i less)) in
      later ∙ ap (λ l. l ++ own n ys) (one.each i d less) ∙ append_assoc (own n (run_of (slice_index_or old i d))) (own n xs) (own n ys) ∙ ap (λ l. own n (run_of (slice_index_or old i d)) ++ l) (sym (own_both n xs ys));
  others = λ number none.
      own_both number xs ys
      ∙ ap (λ l. l ++ own number ys) (one.others number none)
      ∙ other.others number (λ i d less same. none i d (let n = one.count in omega (arith, less, n)) (sym (one.numbers i d (let n = one.count in omega (arith, less, n))) ∙ same));
}
  where
    there : (i : ℕ) → i < length old → i < length middle
    there i less = let n = one.count in omega (arith, less, n)

-- ---- by one advance

module _ (fds : List Fd) (place : ℕ) (answered : Bool) (made : List Event) (old new : List CallerState) (one : OneTurns fds place answered made old new) (apart : AreApart old) where
  moved : Moved made one.caller.pass one.then_.pass
  moved = moved_by made one.caller.pass one.then_.pass one.turned.moved

  here : (d : CallerState) → slice_index_or new place d ≡ one.then_
  here d = ap (λ l. slice_index_or l place d) one.new_is ∙ get_or-set_same old place one.then_ d one.there

  else_ : (i : ℕ) (d : CallerState) → i ≢ place → slice_index_or new i d ≡ slice_index_or old i d
  else_ i d ne = ap (λ l. slice_index_or l i d) one.new_is ∙ get_or-set_other old place i one.then_ d ne

  one_numbers : (i : ℕ) (d : CallerState) → (i ≡ place) ⊎ (i ≢ place) → number_of (slice_index_or new i d) ≡ number_of (slice_index_or old i d)
  one_numbers i d (inl is) = subst (λ k. number_of (slice_index_or new k d) ≡ number_of (slice_index_or old k d)) (sym is) (ap number_of (here d) ∙ moved.number ∙ ap number_of (sym (one.is d)))
  one_numbers i d (inr ne) = ap number_of (else_ i d ne)

  one_each : (i : ℕ) (d : CallerState) → i < length old → (i ≡ place) ⊎ (i ≢ place)
      → own (number_of (slice_index_or old i d)) (run_of (slice_index_or new i d)) ≡ own (number_of (slice_index_or old i d)) (run_of (slice_index_or old i d)) ++ own (number_of (slice_index_or old i d)) made
  one_each i d less (inl is) =
      subst (λ k. own (number_of (slice_index_or old k d)) (run_of (slice_index_or new k d)) ≡ own (number_of (slice_index_or old k d)) (run_of (slice_index_or old k d)) ++ own (number_of (slice_index_or old k d)) made) (sym is)
      (subst (λ (c : CallerState). own (number_of c) (run_of (slice_index_or new place d)) ≡ own (number_of c) (run_of c) ++ own (number_of c) made) (sym (one.is d))
      (ap (λ (c : CallerState). own (number_of one.caller) (run_of c)) (here d) ∙ moved.grew))
  one_each i d less (inr ne) =
      ap (λ (c : CallerState). own (number_of (slice_index_or old i d)) (run_of c)) (else_ i d ne)
      ∙ sym (ap (λ l. own (number_of (slice_index_or old i d)) (run_of (slice_index_or old i d)) ++ l)
      (moved.alone (number_of (slice_index_or old i d)) (λ same. apart i place d less one.there ne (sym same ∙ ap number_of (sym (one.is d)))))
      ∙ append-nil (own (number_of (slice_index_or old i d)) (run_of (slice_index_or old i d))))

  one_grows : GrowBy old new made
  one_grows = record {
    count = ap length one.new_is ∙ length-set old place one.then_;
    numbers = λ i d less. one_numbers i d (cases_eq i place);
    each = λ i d less. one_each i d less (cases_eq i place);
    others = λ number none. moved.alone number (λ same. none place one.caller one.there (ap number_of (one.is one.caller) ∙ same));
  }

-- ---- by tokens

short_grows : (fds : List Fd) (cut : Bool) (reach : Reach) (place : ℕ) (callers : List CallerState) (advances : List (List Event)) (then_ : List CallerState) → AreApart callers → FallShort fds cut reach place callers advances then_
    → GrowBy callers then_ (all_events advances)
short_grows fds cut reach place callers [] then_ apart same = subst (λ (to : List CallerState). GrowBy callers to []) (sym same) (grow_none callers)
short_grows fds cut reach place callers (made ∷ later) then_ apart fell =
    let one = one_grows fds place fell.0 made callers fell.1 fell.2 apart in
    grow_both callers fell.1 then_ made (all_events later) one (short_grows fds cut reach place fell.1 later then_ (apart_on callers fell.1 made one apart) fell.5)

all_events_behind : (advances : List (List Event)) (events : List Event) → all_events (advances ++ events ∷ []) ≡ all_events advances ++ events
all_events_behind [] events = append-nil events
all_events_behind (first ∷ later) events = ap (λ l. first ++ l) (all_events_behind later events) ∙ sym (append_assoc first (all_events later) events)

-- some that fell short, and a last one
last_grows : (fds : List Fd) (cut : Bool) (reach : Reach) (place : ℕ) (callers middle then_ : List CallerState) (advances short : List (List Event)) (answered : Bool) (last : List Event) → AreApart callers
    → FallShort fds cut reach place callers short middle → OneTurns fds place answered last middle then_ → advances ≡ short ++ last ∷ [] → GrowBy callers then_ (all_events advances)
last_grows fds cut reach place callers middle then_ advances short answered last apart fell one all =
    let first = short_grows fds cut reach place callers short middle apart fell in
    subst (GrowBy callers then_) (sym (ap all_events all ∙ all_events_behind short last))
    (grow_both callers middle then_ (all_events short) last first (one_grows fds place answered last middle then_ one (apart_on callers middle (all_events short) first apart)))

token_grows : (fds : List Fd) (cut : Bool) (reach : Reach) (place : ℕ) (callers : List CallerState) (advances : List (List Event)) (then_ : List CallerState) (there : Bool) → AreApart callers
    → GoesTo there fds cut reach place callers advances then_ → GrowBy callers then_ (all_events advances)
token_grows fds cut reach place callers advances then_ true apart goes =
    subst (λ (l : List (List Event)). GrowBy callers then_ (all_events l)) (sym goes.0) (subst (λ (to : List CallerState). GrowBy callers to []) (sym goes.1) (grow_none callers))
token_grows fds cut reach place callers advances then_ false apart goes =
    let come = goes.0 in
    last_grows fds cut reach place callers come.middle then_ advances come.short come.answered come.last apart come.fell come.one come.all

pub schedule_grows : (fds : List Fd) (cut : Bool) (tokens : List Token) (callers : List CallerState) (trail : List Event) (then_ : List CallerState) → AreApart callers → Follows fds cut tokens callers trail then_
    → GrowBy callers then_ trail
schedule_grows fds cut [] callers trail then_ apart nothing =
    subst (GrowBy callers then_) (sym nothing.0) (subst (λ (to : List CallerState). GrowBy callers to []) (sym nothing.1) (grow_none callers))
schedule_grows fds cut (Cut number ∷ later) callers trail then_ apart follows = schedule_grows fds true later callers trail then_ apart follows
schedule_grows fds cut (Advance turn reach ∷ later) callers trail then_ apart follows =
    let one = token_grows fds cut reach (place_of turn) callers follows.0 follows.1 (is_there reach (next_at callers (place_of turn))) apart follows.3 in
    subst (GrowBy callers then_) (sym follows.4)
    (grow_both callers follows.1 then_ (all_events follows.0) follows.2 one (schedule_grows fds cut later follows.1 follows.2 then_ (apart_on callers follows.1 (all_events follows.0) one apart) follows.5))

pub used_up_grows : (fds : List Fd) (cut : Bool) (tokens : List Token) (callers : List CallerState) (trail : List Event) (then_ : List CallerState) → AreApart callers → UsesUp fds cut tokens callers trail then_
    → GrowBy callers then_ trail
used_up_grows fds cut tokens callers trail then_ apart used =
    let first = schedule_grows fds cut used.before callers used.first used.middle apart used.follows in
    subst (GrowBy callers then_) (sym used.trail_is)
    (grow_both callers used.middle then_ used.first (all_events used.advances) first
    (short_grows fds (cut_behind cut used.before) used.reach (place_of used.turn) used.middle used.advances then_ (apart_on callers used.middle used.first first apart) used.fell))

pub fault_grows : (fds : List Fd) (cut : Bool) (tokens : List Token) (callers : List CallerState) (trail : List Event) (then_ : List CallerState) → AreApart callers → MeetsFault fds cut tokens callers trail then_
    → GrowBy callers then_ trail
fault_grows fds cut tokens callers trail then_ apart met =
    let first = schedule_grows fds cut met.before callers met.first met.middle apart met.follows in
    let fails = met.fails in
    subst (GrowBy callers then_) (sym met.trail_is)
    (grow_both callers met.middle then_ met.first (all_events met.advances) first
    (last_grows fds false met.reach (place_of met.turn) met.middle fails.middle then_ met.advances fails.short fails.answered fails.last (apart_on callers met.middle met.first first apart) fails.fell fails.one fails.all))

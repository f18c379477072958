-- Following: callers by their places, and how advances add up to those of tokens.
use Rattle.std.proofs.Common.{◌≡◌, ◌≢◌, ℕ, zero, suc, ◌+◌, ◌-◌, ◌<◌, ◌≤◌, Bool, true, false, List, [], ◌∷◌, ◌++◌, length, inl, inr, refl, sym, ap, subst, ◌∙◌, arith, length-append}
use Rattle.std.specs.Prelude.{All, IfOk, OnErr, OnOk, Option, None, Some, Result, Ok, Err, is_err, drop, take, slice_index_or, slice_set}
use Rattle.std.proofs.lemmas.Bool.{true≢false}
use Rattle.std.proofs.lemmas.Grind.{common_steps}
use Rattle.std.proofs.lemmas.List.{append-nil, append_assoc}
use Rattle.std.proofs.lemmas.List.Elements.{All-get_or, All-set}
use Rattle.nv_plain.specs.declared.memory.NoMemory.{NoMemory}
use Rattle.nv_bench.specs.Benches.{BenchState}
use Rattle.nv_core.specs.steps.Events.{Event}
use Rattle.nv_table.specs.state.States.{IsOf, PassState}
use Rattle.nv_mount.specs.Mounts.{MountState}
use Rattle.nv_mount.specs.declared.fds.Fd.{Fd}
use Rattle.nv_op.specs.declared.kinds.Kind.{Kind}
use Rattle.nv_schedule.specs.Cuts.{IsCutBy, cut_behind}
use Rattle.nv_schedule.specs.Faults.{FailOnlyCut}
use Rattle.nv_schedule.specs.Following.{FallShort, Follows, GoesTo, IsWell, MeetsFault, OneTells, OneTurns, ScheduleTells, Stands, TokenTells, UsesUp, all_events, most_advances, next_at}
use Rattle.nv_schedule.specs.Orders.{ComeBehind, InTurn}
use Rattle.nv_schedule.specs.Reaches.{has_come, is_there, place_of}
use Rattle.nv_schedule.specs.Turns.{CallerState, MovesBy, TurnTells, next_kind_of}
use Rattle.nv_schedule.proofs.BehindLaws.{made_one}
use Rattle.nv_schedule.proofs.CutLaws.{cut_behind_both, cut_on, uncut_before, uncut_unarmed}
use Rattle.nv_schedule.specs.declared.schedule_error.ScheduleError.{ScheduleError}
use Rattle.nv_schedule.specs.declared.schedule_error.ScheduleError.TheVariants.{Fault, NoMemory as WantsMemory, TurnsUsed}
use Rattle.nv_schedule.specs.declared.turned.Turned.{Turned}
use Rattle.nv_trace.specs.declared.token.Reach.{Reach}
use Rattle.nv_trace.specs.declared.token.Token.{Token}
use Rattle.nv_trace.specs.declared.token.Token.TheVariants.{Advance, Cut}
use Rattle.nv_trace.specs.declared.token.Turn.{Turn}

-- ---- callers by their places

pub next_within : (callers : List CallerState) (place : ℕ) → next_at callers place ≢ None → place < length callers
next_within [] place some = absurd (some refl)
next_within (caller ∷ later) zero some = omega arith
next_within (caller ∷ later) (suc place) some = let again = next_within later place some in omega (arith, again)

pub next_is : (callers : List CallerState) (place : ℕ) (d : CallerState) → place < length callers → next_at callers place ≡ next_kind_of (slice_index_or callers place d)
next_is [] place d less = absurd (omega (arith, less))
next_is (caller ∷ later) zero d less = refl
next_is (caller ∷ later) (suc place) d less = next_is later place d (omega (arith, less))

pub next_beyond : (callers : List CallerState) (place : ℕ) → length callers ≤ place → next_at callers place ≡ None
next_beyond [] place far = refl
next_beyond (caller ∷ later) zero far = absurd (omega (arith, far))
next_beyond (caller ∷ later) (suc place) far = next_beyond later place (omega (arith, far))

index_any : (callers : List CallerState) (place : ℕ) (d e : CallerState) → place < length callers → slice_index_or callers place d ≡ slice_index_or callers place e
index_any [] place d e less = absurd (omega (arith, less))
index_any (caller ∷ later) zero d e less = refl
index_any (caller ∷ later) (suc place) d e less = index_any later place d e (omega (arith, less))

-- ---- an advance

pub number_kept : {allowed : Type 0} (events : List Event) (old new : PassState) → MovesBy allowed events old new → new.view.number ≡ old.view.number
number_kept events old new (inl still) = ap (λ (p : PassState). p.view.number) still.0
number_kept events old new (inr one) = (made_one one.0 old new one.1).number

module _ (mount : MountState) (callers : List CallerState) (place : ℕ) (d then_ : CallerState) (view after : List Event) (within : place < length callers) where
  -- what the caller at the place tells
  abbrev Told : Result Turned NoMemory → Type 0
  Told result = IfOk result (λ turned. (events : List Event) × TurnTells mount.fds turned events (slice_index_or callers place d) then_ × ComeBehind events view after)

  turned_stand : (result : Result Turned NoMemory) → Stands mount (slice_index_or callers place d) → IsOf mount.board then_.pass → Told result → OnErr result (then_ ≡ slice_index_or callers place d) → Stands mount then_
  turned_stand (Ok how) stands board told memory = (board, λ none. stands.1 (sym (number_kept told.0 _ _ told.1.turn.moved) ∙ none), stands.2, told.1.turn.come stands.2 stands.3)
  turned_stand (Err none) stands board told memory = subst (Stands mount) (sym memory) stands

  pub all_stand : (result : Result Turned NoMemory) → All (Stands mount) callers → IsOf mount.board then_.pass → Told result → OnErr result (then_ ≡ slice_index_or callers place d) → All (Stands mount) (slice_set callers place then_)
  all_stand result stand board told memory =
      All-set (Stands mount) callers place then_ (turned_stand result (All-get_or (Stands mount) callers place d within stand) board told memory) stand

  pub one_tells : (result : Result Turned NoMemory) → Told result → IfOk result (λ turned. (events : List Event) × OneTells mount.fds place turned events callers (slice_set callers place then_) × ComeBehind events view after)
  one_tells (Ok how) told = (
    told.0,
    record {
      one = record { there = within; caller = slice_index_or callers place d; is = λ e. index_any callers place e d within; then_ = then_; new_is = refl; turned = told.1.turn };
      failed = λ well. told.1.failed (All-get_or IsWell callers place d within well);
      well = λ none well. All-set IsWell callers place then_ (told.1.none none) well;
    },
    told.2,
  )
  one_tells (Err none) told = tt

-- ---- advances of a token

pub fall_on : (fds : List Fd) (cut : Bool) (reach : Reach) (place : ℕ) (callers middle then_ : List CallerState) (advances : List (List Event)) (events : List Event) (answered : Bool) → FallShort fds cut reach place callers advances middle
    → OneTurns fds place answered events middle then_ → FailOnlyCut cut events → has_come reach answered (next_at then_ place) ≡ false → FallShort fds cut reach place callers (advances ++ events ∷ []) then_
fall_on fds cut reach place callers middle then_ [] events answered same one whole short = (answered, then_, subst (λ (from : List CallerState). OneTurns fds place answered events from then_) same one, whole, short, refl)
fall_on fds cut reach place callers middle then_ (first ∷ later) events answered fell one whole short =
    (fell.0, fell.1, fell.2, fell.3, fell.4, fall_on fds cut reach place fell.1 middle then_ later events answered fell.5 one whole short)

pub behind_none : (view : List Event) → ComeBehind [] view view
behind_none view trail turn = subst (λ l. InTurn l view) (sym (append-nil trail)) turn

pub behind_on : (xs ys view middle after : List Event) → ComeBehind xs view middle → ComeBehind ys middle after → ComeBehind (xs ++ ys) view after
behind_on xs ys view middle after one other trail turn = subst (λ l. InTurn l after) (append_assoc trail xs ys) (other (trail ++ xs) (one trail turn))

pub all_events_on : (advances : List (List Event)) (events : List Event) → all_events (advances ++ events ∷ []) ≡ all_events advances ++ events
all_events_on [] events = append-nil events
all_events_on (first ∷ later) events = ap (λ l. first ++ l) (all_events_on later events) ∙ sym (append_assoc first (all_events later) events)

pub none_there : (reach : Reach) (next : Option Kind) → is_there reach next ≡ false → next ≢ None
none_there reach None short none = absurd (true≢false short)
none_there reach (Some kind) short none = cc

pub none_come : (reach : Reach) (answered : Bool) (next : Option Kind) → has_come reach answered next ≡ false → next ≢ None
none_come reach answered None short none = absurd (true≢false short)
none_come reach answered (Some kind) short none = cc

-- one that comes to the point
pub goes_to : (fds : List Fd) (cut : Bool) (reach : Reach) (place : ℕ) (callers middle then_ : List CallerState) (advances : List (List Event)) (events : List Event) (answered : Bool)
    → is_there reach (next_at callers place) ≡ false → FallShort fds cut reach place callers advances middle → OneTurns fds place answered events middle then_ → FailOnlyCut cut events
    → has_come reach answered (next_at then_ place) ≡ true → length advances + 1 ≤ most_advances → GoesTo (is_there reach (next_at callers place)) fds cut reach place callers (advances ++ events ∷ []) then_
goes_to fds cut reach place callers middle then_ advances events answered far fell one whole come few =
    subst (λ there. GoesTo there fds cut reach place callers (advances ++ events ∷ []) then_) (sym far) (
      record { short = advances; middle = middle; fell = fell; answered = answered; last = events; one = one; whole = whole; come = come; all = refl },
      (let both = length-append advances (events ∷ []) in omega (arith, both, few)),
    )

-- none where it is at its point
pub goes_nowhere : (fds : List Fd) (cut : Bool) (reach : Reach) (place : ℕ) (callers : List CallerState) → is_there reach (next_at callers place) ≡ true → GoesTo (is_there reach (next_at callers place)) fds cut reach place callers [] callers
goes_nowhere fds cut reach place callers there = subst (λ b. GoesTo b fds cut reach place callers [] callers) (sym there) (refl, refl)

-- ---- tokens, one after another

-- a schedule, and then one token more
pub follows_on : (fds : List Fd) (cut : Bool) (before : List Token) (more : List Token) (callers middle then_ : List CallerState) (trail events : List Event) → Follows fds cut before callers trail middle
    → Follows fds (cut_behind cut before) more middle events then_ → Follows fds cut (before ++ more) callers (trail ++ events) then_
follows_on fds cut [] more callers middle then_ trail events nothing follows =
    subst (λ (l : List Event). Follows fds cut more callers (l ++ events) then_) (sym nothing.0) (subst (λ (from : List CallerState). Follows fds cut more from events then_) nothing.1 follows)
follows_on fds cut (Cut number ∷ later) more callers middle then_ trail events one follows = follows_on fds true later more callers middle then_ trail events one follows
follows_on fds cut (Advance turn reach ∷ later) more callers middle then_ trail events one follows = (
  one.0,
  one.1,
  one.2 ++ events,
  one.3,
  ap (λ l. l ++ events) one.4 ∙ append_assoc (all_events one.0) one.2 events,
  follows_on fds cut later more one.1 middle then_ one.2 events one.5 follows,
)

-- what stands before a token that isn't brought to its end
tokens_on : (before first : List Token) (token : Token) (last after : List Token) → (before ++ (first ++ token ∷ last)) ++ after ≡ (before ++ first) ++ token ∷ (last ++ after)
tokens_on before first token last after =
    ap (λ l. l ++ after) (sym (append_assoc before first (token ∷ last))) ∙ append_assoc (before ++ first) (token ∷ last) after

pub uses_up_on : (fds : List Fd) (cut : Bool) (before : List Token) (more after : List Token) (callers middle then_ : List CallerState) (trail events : List Event) → Follows fds cut before callers trail middle
    → UsesUp fds (cut_behind cut before) more middle events then_ → UsesUp fds cut (before ++ (more ++ after)) callers (trail ++ events) then_
uses_up_on fds cut before more after callers middle then_ trail events follows used = record {
  before = before ++ used.before;
  turn = used.turn;
  reach = used.reach;
  after = used.after ++ after;
  tokens_are = sym (append_assoc before more after) ∙ ap (λ l. (before ++ l) ++ after) used.tokens_are ∙ tokens_on before used.before (Advance used.turn used.reach) used.after after;
  first = trail ++ used.first;
  middle = used.middle;
  follows = follows_on fds cut before used.before callers middle used.middle trail used.first follows used.follows;
  far = used.far;
  advances = used.advances;
  fell = subst (λ (b : Bool). FallShort fds b used.reach (place_of used.turn) used.middle used.advances then_) (sym (cut_behind_both cut before used.before)) used.fell;
  count = used.count;
  trail_is = ap (λ l. trail ++ l) used.trail_is ∙ sym (append_assoc trail used.first (all_events used.advances));
}

pub meets_fault_on : (fds : List Fd) (cut : Bool) (before : List Token) (more after : List Token) (callers middle then_ : List CallerState) (trail events : List Event) → Follows fds cut before callers trail middle
    → MeetsFault fds (cut_behind cut before) more middle events then_ → MeetsFault fds cut (before ++ (more ++ after)) callers (trail ++ events) then_
meets_fault_on fds cut before more after callers middle then_ trail events follows met = record {
  before = before ++ met.before;
  turn = met.turn;
  reach = met.reach;
  after = met.after ++ after;
  tokens_are = sym (append_assoc before more after) ∙ ap (λ l. (before ++ l) ++ after) met.tokens_are ∙ tokens_on before met.before (Advance met.turn met.reach) met.after after;
  uncut = cut_behind_both cut before met.before ∙ met.uncut;
  first = trail ++ met.first;
  middle = met.middle;
  follows = follows_on fds cut before met.before callers middle met.middle trail met.first follows met.follows;
  far = met.far;
  advances = met.advances;
  fails = met.fails;
  few = met.few;
  trail_is = ap (λ l. trail ++ l) met.trail_is ∙ sym (append_assoc trail met.first (all_events met.advances));
}

-- one token
pub token_tells : (fds : List Fd) (cut : Bool) (turn : Turn) (reach : Reach) (callers then_ : List CallerState) (view after : List Event) (bench : BenchState) (done : Result (Unit {0}) ScheduleError)
    → TokenTells fds cut reach (place_of turn) callers then_ view after done → ScheduleTells fds cut (Advance turn reach ∷ []) callers then_ view after bench bench done
token_tells fds cut turn reach callers then_ view after bench (Ok done) tells =
    (all_events tells.0, (tells.0, then_, [], tells.1, sym (append-nil (all_events tells.0)), (refl, refl)), tells.2, refl)
token_tells fds cut turn reach callers then_ view after bench (Err TurnsUsed) tells = (
  all_events tells.1,
  record {
    before = [];
    turn = turn;
    reach = reach;
    after = [];
    tokens_are = refl;
    first = [];
    middle = callers;
    follows = (refl, refl);
    far = tells.0;
    advances = tells.1;
    fell = tells.2;
    count = tells.3;
    trail_is = refl;
  },
  tells.4,
  refl,
)
token_tells fds cut turn reach callers then_ view after bench (Err Fault) tells = (
  all_events tells.2,
  record {
    before = [];
    turn = turn;
    reach = reach;
    after = [];
    tokens_are = refl;
    uncut = tells.1;
    first = [];
    middle = callers;
    follows = (refl, refl);
    far = tells.0;
    advances = tells.2;
    fails = tells.3;
    few = tells.4;
    trail_is = refl;
  },
  tells.5,
  refl,
)
token_tells fds cut turn reach callers then_ view after bench (Err WantsMemory) tells = record { reached = []; later = Advance turn reach ∷ []; tokens_are = refl; cut = refl }

-- the tokens before, and then one more
module _ (fds : List Fd) (cut : Bool) (before : List Token) (token : Token) (callers middle then_ : List CallerState) (view between after trail : List Event) (bench armed now : BenchState)
    (follows : Follows fds cut before callers trail middle) (behind : ComeBehind trail view between) (was : IsCutBy before bench armed) where
  pub schedule_on : (later : List Token) (done : Result (Unit {0}) ScheduleError) → ScheduleTells fds (cut_behind cut before) (token ∷ []) middle then_ between after armed now done → is_err done ≡ true
      → ScheduleTells fds cut (before ++ token ∷ later) callers then_ view after bench now done
  unfolding uses_up_on
  schedule_on later (Ok done) tells failed = absurd (true≢false (sym failed))
  schedule_on later (Err TurnsUsed) tells failed = (
    trail ++ tells.0,
    uses_up_on fds cut before (token ∷ []) later callers middle then_ trail tells.0 follows tells.1,
    behind_on trail tells.0 view between after behind tells.2,
    cut_on before tells.1.before bench armed now was tells.3,
  )
  schedule_on later (Err Fault) tells failed = (
    trail ++ tells.0,
    meets_fault_on fds cut before (token ∷ []) later callers middle then_ trail tells.0 follows tells.1,
    behind_on trail tells.0 view between after behind tells.2,
    tells.3 ∙ uncut_unarmed cut before bench armed (uncut_before (cut_behind cut before) tells.1.before tells.1.uncut) was,
  )
  schedule_on later (Err WantsMemory) tells failed = record {
    reached = before ++ tells.reached;
    later = tells.later ++ later;
    tokens_are = ap (λ l. before ++ (l ++ later)) tells.tokens_are ∙ ap (λ l. before ++ l) (append_assoc tells.reached tells.later later) ∙ sym (append_assoc before tells.reached (tells.later ++ later));
    cut = cut_on before tells.reached bench armed now was tells.cut;
  }

  -- what goes on, where it was done
  pub done_on : (done : Result (Unit {0}) ScheduleError) → ScheduleTells fds (cut_behind cut before) (token ∷ []) middle then_ between after armed now done → is_err done ≡ false
      → (more : List Event) × Follows fds cut (before ++ token ∷ []) callers more then_ × ComeBehind more view after × IsCutBy (before ++ token ∷ []) bench now
  done_on (Ok done) tells fine = (
    trail ++ tells.0,
    follows_on fds cut before (token ∷ []) callers middle then_ trail tells.0 follows tells.1,
    behind_on trail tells.0 view between after behind tells.2,
    cut_on before (token ∷ []) bench armed now was tells.3,
  )
  done_on (Err error) tells fine = absurd (true≢false fine)

-- what is so where all went well
pub on_ok : (done : Result (Unit {0}) ScheduleError) → is_err done ≡ false → {P : Type 0} → OnOk done P → P
on_ok (Ok done) fine holds = holds
on_ok (Err error) fine holds = absurd (true≢false fine)

-- ---- a list but for its first element

pub tail_whole : {T : Type 0} (xs : List T) → take (length xs - 1) (drop 1 xs) ≡ drop 1 xs
tail_whole xs = grind (arith, common_steps)

pub moved_on : {T : Type 0} (all before rest : List T) (x : T) → all ≡ before ++ rest → rest ≡ x ∷ drop 1 rest → all ≡ (before ++ x ∷ []) ++ take (length rest - 1) (drop 1 rest)
moved_on all before rest x is first =
    is ∙ ap (λ l. before ++ l) first ∙ sym (append_assoc before (x ∷ []) (drop 1 rest)) ∙ ap (λ l. (before ++ x ∷ []) ++ l) (sym (tail_whole rest))

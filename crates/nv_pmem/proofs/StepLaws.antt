-- Laws about runs of steps: lists of steps joined, what a device that tells has come to, and what holds at each moment.
use Rattle.std.proofs.Common.{◌≡◌, ◌≤◌, ℕ, ◌+◌, List, [], ◌∷◌, ◌++◌, length, take, All, zero, suc, refl, sym, ap, ◌∙◌, subst, arith, append_assoc, length-append}
use Rattle.std.proofs.Math.Seq.{take-append-add}
use Rattle.std.proofs.lemmas.List.{take_all, take-append-le}
use Rattle.std.proofs.lemmas.List.Elements.{All-nil, All-cons, All-append}
use Rattle.nv_pmem.specs.Part.{Part}
use Rattle.nv_pmem.specs.Moments.{Tells, EachMoment}
use Rattle.nv_pmem.specs.Runs.{run, Ran, RanSome, grown}
use Rattle.nv_pmem.specs.Steps.{LineStep, after_line_step}

-- ---- runs

-- no step leaves the state as it is
pub run-none : {T S : Type 0} (after : T → S → S) (state : S) → run after [] state ≡ state
unfolding run
run-none after state = refl

-- the steps of one list, and then those of another
pub run-append : {T S : Type 0} (after : T → S → S) (first rest : List T) (state : S) → run after (first ++ rest) state ≡ run after rest (run after first state)
unfolding run
run-append after [] rest state = refl
run-append after (step ∷ steps) rest state = run-append after steps rest (after step state)

-- none done
pub did_none : {T S : Type 0} (after : T → S → S) (state : S) → Ran after [] state state
did_none after state = record { states = sym (run-none after state) }

-- some steps done, and then others
pub did_did : {T S : Type 0} {after : T → S → S} {first rest : List T} {old between new : S} → Ran after first old between → Ran after rest between new → Ran after (first ++ rest) old new
did_did {after = after} {first} {rest} {old} a b =
    record { states = b.states ∙ ap (run after rest) a.states ∙ sym (run-append after first rest old) }

-- some steps done, and then the first so many of others
pub did_did_some : {T S : Type 0} {after : T → S → S} {first rest : List T} {old between new : S} → Ran after first old between → RanSome after rest between new → RanSome after (first ++ rest) old new
did_did_some {after = after} {first} {rest} {old} a b = record {
  count = length first + b.count;
  no_more = omega (arith, length-append first rest, b.no_more);
  states =
      b.states ∙ ap (run after (take b.count rest)) a.states
      ∙ sym (run-append after first (take b.count rest) old)
      ∙ ap (λ steps. run after steps old) (sym (take-append-add first rest b.count));
}

-- the first so many of some steps are the first so many of a longer list
pub did_some_front : {T S : Type 0} {after : T → S → S} {first : List T} {old new : S} (rest : List T) → RanSome after first old new → RanSome after (first ++ rest) old new
did_some_front {after = after} {first} {old} rest a = record {
  count = a.count;
  no_more = omega (arith, length-append first rest, a.no_more);
  states = a.states ∙ ap (λ steps. run after steps old) (sym (take-append-le a.count first rest a.no_more));
}

-- all of the steps are the first so many
pub did_some_all : {T S : Type 0} {after : T → S → S} {steps : List T} {old new : S} → Ran after steps old new → RanSome after steps old new
did_some_all {after = after} {steps} {old} a = record {
  count = length steps;
  no_more = omega arith;
  states = a.states ∙ ap (λ these. run after these old) (sym (take_all (length steps) steps (omega arith)));
}

-- the first none of the steps
pub did_some_none : {T S : Type 0} {after : T → S → S} {steps : List T} {state : S} → RanSome after steps state state
did_some_none {after = after} {steps} {state} = record { count = 0; no_more = omega arith; states = sym (run-none after state) }

-- one step done
pub did_one : {T S : Type 0} {after : T → S → S} {step : T} {old new : S} → new ≡ after step old → Ran after (step ∷ []) old new
unfolding run
did_one is = record { states = is }

-- ---- the states of a device

-- the part after some steps
abbrev pub after_steps : List LineStep → Part → Part
after_steps steps part = run after_line_step steps part

pub after_steps-append : (first rest : List LineStep) (part : Part) → after_steps (first ++ rest) part ≡ after_steps rest (after_steps first part)
after_steps-append first rest part = run-append after_line_step first rest part

-- a told history stays told, and its present state is the one that the steps lead to
pub grown-told : {T S : Type 0} (after : T → S → S) (steps : List T) (now : S) (past : List S) → (before : List S) × (run (grown after) steps (now ∷ past) ≡ run after steps now ∷ before)
unfolding run
grown-told after [] now past = (past, refl)
grown-told after (step ∷ steps) now past = grown-told after steps (after step now) (now ∷ past)

-- an untold one stays untold
pub grown-untold : {T S : Type 0} (after : T → S → S) (steps : List T) → run (grown after) steps [] ≡ []
unfolding run
grown-untold after [] = refl
grown-untold after (step ∷ steps) = grown-untold after steps

pub did_untold : {T S : Type 0} (after : T → S → S) (steps : List T) → Ran (grown after) steps [] []
did_untold after steps = record { states = sym (grown-untold after steps) }

pub did_some_untold : {T S : Type 0} (after : T → S → S) (steps : List T) → RanSome (grown after) steps [] []
did_some_untold after steps = did_some_none

-- what the present state has after some steps, by what the one before them had
pub tells_after : {T S : Type 0} {after : T → S → S} {steps : List T} {old new : List S} (P Q : S → Type 0) → Tells old P → ((now : S) → P now → Q (run after steps now)) → Ran (grown after) steps old new → Tells new Q
tells_after {S = S} {after} {steps} {old = []} P Q told step did =
    let H : List S → Type 0 = λ history. Tells history Q in
    subst H (sym (did.states ∙ grown-untold after steps)) tt
tells_after {S = S} {after} {steps} {old = now ∷ past} P Q told step did =
    let H : List S → Type 0 = λ history. Tells history Q in
    subst H (sym (did.states ∙ (grown-told after steps now past).1)) (step now told)

-- what the present state has more, by what it has
pub tells_more : {S : Type 0} (history : List S) (P Q : S → Type 0) → ((now : S) → P now → Q now) → Tells history P → Tells history Q
tells_more [] P Q step told = tt
tells_more (now ∷ past) P Q step told = step now told

-- what it has, and what it has besides
pub tells_both : {S : Type 0} (history : List S) (P Q : S → Type 0) → Tells history P → Tells history Q → Tells history (λ now. P now × Q now)
tells_both [] P Q a b = tt
tells_both (now ∷ past) P Q a b = (a, b)

-- what the present state of a told history has
pub tells_told : {S : Type 0} (history : List S) (P : S → Type 0) → ((now : S) (past : List S) → history ≡ now ∷ past → P now) → Tells history P
tells_told [] P each = tt
tells_told (now ∷ past) P each = each now past refl

-- ---- each moment

-- the states that some steps lead to, the last first
states_after : {T S : Type 0} → (T → S → S) → List T → S → List S
states_after after [] now = []
states_after after (step ∷ steps) now = states_after after steps (after step now) ++ after step now ∷ []

grown-states : {T S : Type 0} (after : T → S → S) (steps : List T) (now : S) (past : List S) → run (grown after) steps (now ∷ past) ≡ states_after after steps now ++ now ∷ past
unfolding run states_after
grown-states after [] now past = refl
grown-states after (step ∷ steps) now past =
    grown-states after steps (after step now) (now ∷ past)
    ∙ sym (append_assoc (states_after after steps (after step now)) (after step now ∷ []) (now ∷ past))

-- A property holds before each of some steps and after the last.
abbrev pub Always : {T S : Type 0} → (T → S → S) → (S → Type 0) → List T → S → Type 0
Always after P [] now = P now
Always after P (step ∷ steps) now = P now × Always after P steps (after step now)

pub always_first : {T S : Type 0} (after : T → S → S) (P : S → Type 0) (steps : List T) (now : S) → Always after P steps now → P now
always_first after P [] now always = always
always_first after P (step ∷ steps) now always = always.0

pub always_last : {T S : Type 0} (after : T → S → S) (P : S → Type 0) (steps : List T) (now : S) → Always after P steps now → P (run after steps now)
unfolding run
always_last after P [] now always = always
always_last after P (step ∷ steps) now always = always_last after P steps (after step now) always.1

-- It may be shown after each front of them.
pub always_by_fronts : {T S : Type 0} (after : T → S → S) (P : S → Type 0) (steps : List T) (now : S) → ((count : ℕ) → count ≤ length steps → P (run after (take count steps) now)) → Always after P steps now
unfolding run
always_by_fronts after P [] now each = each 0 (omega arith)
always_by_fronts after P (step ∷ steps) now each =
    (each 0 (omega arith), always_by_fronts after P steps (after step now) (λ count few. each (suc count) (omega arith)))

-- and it holds after each front of them
pub always_front : {T S : Type 0} (after : T → S → S) (P : S → Type 0) (steps : List T) (now : S) → Always after P steps now → (count : ℕ) → P (run after (take count steps) now)
unfolding run
always_front after P steps now always zero = always_first after P steps now always
always_front after P [] now always (suc count) = always
always_front after P (step ∷ steps) now always (suc count) = always_front after P steps (after step now) always.1 count

-- along two lists of steps, one after the other
pub always_append : {T S : Type 0} (after : T → S → S) (P : S → Type 0) (first rest : List T) (now : S) → Always after P first now → Always after P rest (run after first now) → Always after P (first ++ rest) now
unfolding run
always_append after P [] rest now a b = b
always_append after P (step ∷ steps) rest now a b = (a.0, always_append after P steps rest (after step now) a.1 b)

each_state_after : {T S : Type 0} (after : T → S → S) (P : S → Type 0) (steps : List T) (now : S) → Always after P steps now → All P (states_after after steps now)
unfolding states_after
each_state_after after P [] now always = All-nil P
each_state_after after P (step ∷ steps) now always =
    All-append P (states_after after steps (after step now)) (after step now ∷ []) (each_state_after after P steps (after step now) always.1)
    (All-cons P (after step now) [] (always_first after P steps (after step now) always.1) (All-nil P))

always_take : {T S : Type 0} (after : T → S → S) (P : S → Type 0) (count : ℕ) (steps : List T) (now : S) → Always after P steps now → Always after P (take count steps) now
always_take after P zero steps now always = always_first after P steps now always
always_take after P (suc count) [] now always = always
always_take after P (suc count) (step ∷ steps) now always = (always.0, always_take after P count steps (after step now) always.1)

-- What holds along some steps holds at each moment of a call that made the first so many of them.
pub each_moment : {T S : Type 0} {after : T → S → S} (P : S → Type 0) {steps : List T} {old new : List S} → Tells old (Always after P steps) → RanSome (grown after) steps old new → EachMoment P old new
each_moment {after = after} P {steps} {old = []} told did = record { since = []; states = did.states ∙ grown-untold after (take did.count steps); at_first = tt; each = All-nil P }
each_moment {after = after} P {steps} {old = now ∷ past} told did = record {
  since = states_after after (take did.count steps) now;
  states = did.states ∙ grown-states after (take did.count steps) now past;
  at_first = always_first after P steps now told;
  each = each_state_after after P (take did.count steps) now (always_take after P did.count steps now told);
}

-- the moments of one call, and then those of another
pub moments_moments : {S : Type 0} (P : S → Type 0) {old between new : List S} → EachMoment P old between → EachMoment P between new → EachMoment P old new
moments_moments P {old} a b = record {
  since = b.since ++ a.since;
  states = b.states ∙ ap (λ before. b.since ++ before) a.states ∙ sym (append_assoc b.since a.since old);
  at_first = a.at_first;
  each = All-append P b.since a.since b.each a.each;
}

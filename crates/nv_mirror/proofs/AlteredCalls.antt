-- Altered calls: a call is under way still where a pass looked at what it owns, and left all of it as it was.
use Rattle.std.proofs.Common.{ℕ, List, [], ◌∷◌, refl, sym, subst}
use Rattle.std.specs.Prelude.{Option, None}
use Rattle.nv_plain.specs.declared.call.FileCall.{FileCall}
use Rattle.nv_table.specs.state.States.{PassState}
use Rattle.nv_table.specs.state.Views.{OwnsSlots, pass_of, still_owned, values_of}
use Rattle.nv_pages.specs.Altered.{IsAltered}
use Rattle.nv_mirror.specs.declared.answers.Refusal.{Refusal}
use Rattle.nv_mirror.specs.Controls.{Mirror, InCall}
use Rattle.nv_mirror.proofs.ControlLaws.{told_same}
use Rattle.nv_mirror.specs.OwnSteps.{AreOwnAs}
use Rattle.nv_mirror.specs.PassSteps.{PassStep, HasMade, HasTaken}

-- a pass of which no more has changed is itself, with other slots
pub by_slots : (now mid : PassState) → IsAltered (λ kept. kept) now mid → (P : PassState → Type 0) → P (record now { now = mid.now }) → P mid
by_slots now mid same P there =
    subst (λ table. P (record mid { table = table })) (sym same.table)
    (subst (λ view. P (record mid { table = now.table; view = view })) (sym same.view)
    (subst (λ spare. P (record mid { table = now.table; view = now.view; spare = spare })) (sym same.spare) there))

-- what it has seen of its last step is so still
taken_so : (step : PassStep) (old now mid : PassState) → IsAltered (λ kept. kept) now mid → HasTaken step old now → HasTaken step old (record now { now = mid.now })
taken_so step old now mid same taken = record {
  before = taken.before;
  between = taken.between;
  stepped = record {
    works = taken.stepped.works;
    due = taken.stepped.due;
    holds = taken.stepped.holds;
    steps = taken.stepped.steps;
    pass = taken.stepped.pass;
    kept = taken.stepped.kept;
    made = taken.stepped.made;
    ended = taken.stepped.ended;
    owns_slots = same.owns_slots (values_of now.view) (still_owned (pass_of now.view)) taken.stepped.owns_slots;
    spare = taken.stepped.spare;
  };
  works_are = taken.works_are;
}

pub taken_same : (step : PassStep) (old now mid : PassState) → IsAltered (λ kept. kept) now mid → HasTaken step old now → HasTaken step old mid
taken_same step old now mid same taken = by_slots now mid same (λ state. HasTaken step old state) (taken_so step old now mid same taken)

module _ (now mid : PassState) (same : IsAltered (λ kept. kept) now mid) (still : OwnsSlots now.view.opened.sizes (λ value. value) (values_of now.view) (still_owned (pass_of now.view)) now.now) where
  pub owns_still : OwnsSlots now.view.opened.sizes (λ value. value) (values_of now.view) (still_owned (pass_of now.view)) mid.now
  owns_still = same.owns_slots (values_of now.view) (still_owned (pass_of now.view)) still

  -- its last step has left it so
  made_so : (asked call : FileCall) (steps : List PassStep) (start : PassState) → AreOwnAs now.view.opened.sizes asked call steps → HasMade steps start now → HasMade steps start (record now { now = mid.now })
  made_so asked call [] start own made = absurd own
  made_so asked call (step ∷ earlier) start own made = (made.0, made.1, taken_so step made.0 now mid same made.2)

-- so its call is under way still
pub called_same : {State : Type 0} (mirror : Mirror State) (call : FileCall) (is : State) (refusal : Option Refusal) (place : Option ℕ) (start now mid : PassState) → IsAltered (λ kept. kept) now mid
    → InCall mirror call None is refusal place start now → InCall mirror call None is refusal place start (record now { now = mid.now })
called_same mirror call is refusal place start now mid same called = record {
  idle = called.idle;
  steps = called.steps;
  made = made_so now mid same called.still called.asked call called.steps start called.own called.made;
  own = called.own;
  refused = called.refused;
  plain = called.plain;
  asked = called.asked;
  makes = called.makes;
  asks = called.asks;
  placed = called.placed;
  later = record { number = called.later.number; ended = called.later.ended; made = called.later.made };
  spare = called.spare;
  mount = called.mount;
  still = owns_still now mid same called.still;
  left = called.left;
  fresh = tt;
  told = told_same called.asked place start now (record now { now = mid.now }) refl refl called.told;
  mirrors = called.mirrors;
}

-- Own steps: the steps of one call, among which there is no other call's and no batch's.
use Rattle.std.specs.Prelude.{◌≡◌, Bool, true, false, List, [], ◌∷◌, Option, Some, None}
use Rattle.nv_plain.specs.declared.call.FileCall.{FileCall}
use Rattle.nv_plain.specs.declared.call.FileCall.TheVariants.{Read, Write}
use Rattle.nv_core.specs.state.Words.{Sizes}
use Rattle.nv_core.specs.steps.Ops.{Op, Load, Take, Give, Place, Stop, Draw, Seize, Pledge, Ready, Grow, Break, Hold, Return, Turn, Hint}
use Rattle.nv_mirror.specs.declared.answers.Refusal.{Refusal}
use Rattle.nv_mirror.specs.declared.answers.Refusal.TheVariants.{RegionFault}
use Rattle.nv_mirror.specs.PassSteps.{PassStep, refusal_in}

-- A step changes nothing of the mount that stays so when its call holds nothing, but HAND, a hint, and which pages are buffered: it loads a word,
-- takes a lock or gives one back, holds an entry or returns it, turns HAND, or sets a hint.
abbrev pub is_passing : Op → Bool
is_passing (Load word) = true
is_passing (Take cell) = true
is_passing (Give cell) = true
is_passing (Hold number) = true
is_passing (Return number) = true
is_passing (Turn page) = true
is_passing (Hint buffer page) = true
is_passing op = false

-- A step may come in a call: it loads a word, takes a lock or gives one back, takes the call's place, or sets STOP; in a read it also holds an entry or
-- returns it, turns HAND, or sets a hint; in a write it draws numbers, seizes an entry, pledges a page, makes an entry ready, or makes the file longer.
abbrev pub may_come_in : FileCall → Op → Bool
may_come_in call (Load word) = true
may_come_in call (Take cell) = true
may_come_in call (Give cell) = true
may_come_in call (Place reply) = true
may_come_in call Stop = true
may_come_in (Read file at len) (Hold number) = true
may_come_in (Read file at len) (Return number) = true
may_come_in (Read file at len) (Turn page) = true
may_come_in (Read file at len) (Hint buffer page) = true
may_come_in (Write file at bytes) Draw = true
may_come_in (Write file at bytes) (Seize number) = true
may_come_in (Write file at bytes) (Pledge page) = true
may_come_in (Write file at bytes) (Ready number) = true
may_come_in (Write file at bytes) Grow = true
may_come_in call op = false

-- And in one that is refused: it gives a lock back; where an entry's part has failed a read returns the entry that it held, and a write breaks its own.
abbrev pub gives_back : FileCall → Refusal → Op → Bool
gives_back call refusal (Give cell) = true
gives_back (Read file at len) RegionFault (Return number) = true
gives_back (Write file at bytes) RegionFault (Break number) = true
gives_back call refusal op = false

-- a step may come in a call that was refused so by its earlier ones, or for nothing yet
abbrev pub is_own : FileCall → Option Refusal → Op → Bool
is_own call None op = may_come_in call op
is_own call (Some refusal) op = gives_back call refusal op

-- They are those of a call that is asked so, and made as this one, the last of them first: the first one begins what was asked, and no other begins any.
abbrev pub AreOwnAs : Sizes → (asked call : FileCall) → List PassStep → Type 0
AreOwnAs sizes asked call [] = ⊥
AreOwnAs sizes asked call (step ∷ []) = (step.opens ≡ Some asked) × (is_own call None step.op ≡ true)
AreOwnAs sizes asked call (step ∷ (other ∷ earlier)) =
    (step.opens ≡ None) × (is_own call (refusal_in sizes call (other ∷ earlier)) step.op ≡ true) × AreOwnAs sizes asked call (other ∷ earlier)

-- those of a call that is made as itself
abbrev pub AreOwn : Sizes → FileCall → List PassStep → Type 0
AreOwn sizes call steps = AreOwnAs sizes call call steps

-- so they are so far, where the next step begins the call, or it has begun
abbrev pub AreOwnSoFar : (opens : Option FileCall) → Sizes → (asked call : FileCall) → List PassStep → Type 0
AreOwnSoFar (Some begun) sizes asked call steps = (begun ≡ asked) × (steps ≡ [])
AreOwnSoFar None sizes asked call steps = AreOwnAs sizes asked call steps

-- each of them changes nothing that stays
abbrev pub ArePassing : List PassStep → Type 0
ArePassing [] = Unit {0}
ArePassing (step ∷ earlier) = (is_passing step.op ≡ true) × ArePassing earlier

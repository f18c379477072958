-- Left words: what of a mount's words the steps of a refused call leave as it was.
use Rattle.std.specs.Prelude.{◌≡◌, ℕ, Bool, true, false}
use Rattle.nv_core.specs.invariant.Sound.{Sound}
use Rattle.nv_core.specs.state.Core.{Core, after_step}
use Rattle.nv_core.specs.state.Words.{Sizes, Word, HAND, ENTRY, HINT, is_lock, was_readied}
use Rattle.nv_core.specs.steps.Events.{FoundEnabled}
use Rattle.nv_core.specs.steps.Ops.{Op}
use Rattle.nv_core.specs.steps.Order.{Values}
use Rattle.nv_mirror.specs.OwnSteps.{is_passing}
use Rattle.nv_calls.specs.histories.Unmoved.{is_locking}

-- a word says for a while who is at something, or where something may be found: a lock, an entry that is held, HAND or a hint
abbrev pub is_fleeting : Word → Bool
is_fleeting HAND = true
is_fleeting (HINT buffer) = true
is_fleeting (ENTRY slot) = true
is_fleeting word = is_lock word

-- A step that changes nothing that stays adds no call to the history, and changes no word but such; and no ENTRY but that of an entry that was made ready.
pub record LeavesWhatStays (core next : Core) : Type 0 where
  pub history : next.history ≡ core.history
  pub words : (word : Word) → is_fleeting word ≡ false → next.words word ≡ core.words word
  pub entries : (slot : ℕ) → was_readied (core.words (ENTRY slot)) ≡ false → next.words (ENTRY slot) ≡ core.words (ENTRY slot)

abbrev pub PassingStepsLeaveWhatStays : Type 0
PassingStepsLeaveWhatStays =
    (sizes : Sizes) (first : Values) (by : ℕ) (core : Core) (op : Op) (found : ℕ)
    → Sound sizes first core → FoundEnabled sizes by core op found → is_passing op ≡ true → LeavesWhatStays core (after_step sizes by op found core)

-- One that changes no word but locks, of a pass that has seen HEAD as its call loaded it, adds no call either.
pub record LeavesAllButLocks (core next : Core) : Type 0 where
  pub history : next.history ≡ core.history
  pub words : (word : Word) → is_lock word ≡ false → next.words word ≡ core.words word

abbrev pub LockingStepsLeaveTheRest : Type 0
LockingStepsLeaveTheRest =
    (sizes : Sizes) (by : ℕ) (core : Core) (op : Op) (found : ℕ)
    → FoundEnabled sizes by core op found → is_locking (core.passes by).head op found ≡ true → LeavesAllButLocks core (after_step sizes by op found core)

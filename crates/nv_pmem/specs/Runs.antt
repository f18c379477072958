-- Runs: what steps make of a state, one after another, and of the list of states that a device has had.
use Rattle.std.specs.Prelude.{◌≡◌, ℕ, ◌≤◌, List, [], ◌∷◌, length, take}

-- the state after some steps, the first of them first
unfoldable pub run : {T S : Type 0} → (T → S → S) → List T → S → S
run after [] state = state
run after (step ∷ steps) state = run after steps (after step state)

-- all of the steps were made, in their order
pub record Ran {T S : Type 0} (after : T → S → S) (steps : List T) (old new : S) : Type 0 where
  pub states : new ≡ run after steps old

-- some of the steps were made, in their order: the first so many
pub record RanSome {T S : Type 0} (after : T → S → S) (steps : List T) (old new : S) : Type 0 where
  pub count : ℕ
  pub no_more : count ≤ length steps
  pub states : new ≡ run after (take count steps) old

-- The states that a device has had, the present one first, after one more step. There is none where it doesn't tell.
abbrev pub grown : {T S : Type 0} → (T → S → S) → T → List S → List S
grown after step [] = []
grown after step (now ∷ past) = after step now ∷ now ∷ past

-- The present states of devices that tell: what such a device or a row tells is what its present states have.
use Rattle.std.specs.Prelude.{◌≡◌, ℕ, ◌<◌, List, [], ◌∷◌, length, slice_index_or, All}
use Rattle.std.proofs.Common.{refl, sym, ap, subst}
use Rattle.nv_pmem.specs.Moments.{Tells}
use Rattle.nv_pmem.specs.Part.{Part}
use Rattle.nv_pmem.specs.Rows.{RowTells}
use Rattle.nv_pmem.specs.Steps.{PartHistory}

-- the present state of a device
pub record IsNow {S : Type 0} (history : List S) (now : S) : Type 0 where
  pub past : List S
  pub is : history ≡ now ∷ past

-- the present states of a row
abbrev pub AreNow : {S : Type 0} → List (List S) → List S → Type 0
AreNow [] [] = Unit {0}
AreNow [] (now ∷ states) = ⊥
AreNow (history ∷ row) [] = ⊥
AreNow (history ∷ row) (now ∷ states) = IsNow history now × AreNow row states

-- ---- laws on every property, so they are stated here with their proofs

abbrev IsEmpty : {S : Type 0} → List S → Type 0
IsEmpty [] = Unit {0}
IsEmpty (x ∷ xs) = ⊥

-- a device has one present state
now_is : {S : Type 0} {history : List S} {a b : S} → IsNow history a → IsNow history b → a ≡ b
now_is {S} {history} {a} {b} one other =
    let At : List S → Type 0 = λ these. slice_index_or (a ∷ one.past) 0 a ≡ slice_index_or these 0 a in
    subst At other.is (ap (λ (these : List S). slice_index_or these 0 a) (sym one.is))

-- What the present state has, the device tells, and the other way round.
pub tells_from : {S : Type 0} (history : List S) (P : S → Type 0) (now : S) → IsNow history now → P now → Tells history P
tells_from {S} history P now one here =
    let At : List S → Type 0 = λ these. Tells these P in
    subst At (sym one.is) here

pub tells_at : {S : Type 0} (history : List S) (P : S → Type 0) (now : S) → IsNow history now → Tells history P → P now
tells_at {S} history P now one told =
    let At : List S → Type 0 = λ these. Tells these P in
    subst At one.is told

-- What the present states have, the row tells, and the other way round.
pub row_tells_from : {S : Type 0} (row : List (List S)) (P : List S → Type 0) → ((states : List S) → AreNow row states → P states) → RowTells row P
row_tells_from [] P each = each [] tt
row_tells_from ([] ∷ row) P each = tt
row_tells_from ((now ∷ past) ∷ row) P each =
    row_tells_from row (λ others. P (now ∷ others)) (λ others are. each (now ∷ others) (record { past = past; is = refl }, are))

pub row_tells_at : {S : Type 0} (row : List (List S)) (P : List S → Type 0) (states : List S) → AreNow row states → RowTells row P → P states
row_tells_at [] P [] are told = told
row_tells_at [] P (now ∷ states) are told = absurd are
row_tells_at (history ∷ row) P [] are told = absurd are
row_tells_at {S} ([] ∷ row) P (now ∷ states) are told =
    let None : List S → Type 0 = λ these. IsEmpty these in
    absurd (subst None are.0.is tt)
row_tells_at {S} ((first ∷ past) ∷ row) P (now ∷ states) are told =
    let Told : S → Type 0 = λ s. RowTells row (λ others. P (s ∷ others)) in
    row_tells_at row (λ others. P (now ∷ others)) states are.1 (subst Told (now_is (record { past = past; is = refl }) are.0) told)

-- ---- laws on rows of parts

-- the present states of a row
pub record States (row : List PartHistory) : Type 0 where
  pub states : List Part
  pub are : AreNow row states

-- A row of which each part tells has present states,
abbrev pub TellingRowsHaveStates : Type 0
TellingRowsHaveStates = (row : List PartHistory) → All (λ history. 0 < length history) row → States row

-- and no row has others.
abbrev pub RowsHaveOneState : Type 0
RowsHaveOneState = (row : List PartHistory) (one other : List Part) → AreNow row one → AreNow row other → one ≡ other

-- There is one for each part.
abbrev pub EachPartHasOne : Type 0
EachPartHasOne =
    (row : List PartHistory) (states : List Part) (i : ℕ)
    → AreNow row states → i < length row → IsNow (slice_index_or row i []) (slice_index_or states i [])

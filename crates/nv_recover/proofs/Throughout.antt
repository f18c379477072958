-- What holds throughout a run of steps: runs joined, weakened, and of one device seen among others.
use Rattle.std.proofs.Common.{◌≡◌, List, [], ◌∷◌, ◌++◌, map, refl, sym, ap, ◌∙◌, subst}
use Rattle.nv_pmem.specs.Part.{Part}
use Rattle.nv_pmem.specs.Rows.{RowTells}
use Rattle.nv_pmem.specs.Runs.{run, Ran}
use Rattle.nv_pmem.specs.Steps as lines
use Rattle.nv_pmem.proofs.RowLaws.{row_tells_more}
use Rattle.nv_pmem.proofs.StepLaws.{did_none, did_did, did_one, Always, always_last, always_front, always_by_fronts, always_append}
use Rattle.nv_store.specs.Steps.{StoreHistory}
use Rattle.nv_store.specs.Store.{Store}
use Rattle.nv_recover.specs.Changes.{Throughout, row_after_change, ThroughoutRow, DevicesTell, devices_after_change, ThroughoutDevices}
use Rattle.nv_recover.specs.Changes.DeviceChange.{OfParts, OfStores}

-- ---- runs of any steps

along : {T S : Type 0} {after : T → S → S} (P : S → Type 0) {old new : S} (through : Throughout after P old new) → Always after P through.steps old
along {after = after} P {old} through = always_by_fronts after P through.steps old through.each

by_always : {T S : Type 0} {after : T → S → S} (P : S → Type 0) (steps : List T) {old new : S} → Ran after steps old new → Always after P steps old → Throughout after P old new
by_always {after = after} P steps {old} did always =
    record { steps = steps; did = did; each = λ count few. always_front after P steps old always count }

-- no step
pub throughout_none : {T S : Type 0} {after : T → S → S} (P : S → Type 0) (state : S) → P state → Throughout after P state state
throughout_none {after = after} P state here = by_always P [] (did_none after state) here

-- one step
pub throughout_one : {T S : Type 0} {after : T → S → S} (P : S → Type 0) (step : T) (old new : S) → new ≡ after step old → P old → P new → Throughout after P old new
throughout_one {after = after} P step old new is before then = by_always P (step ∷ []) (did_one is) (before, subst P is then)

-- some steps, and then others
pub throughout_then : {T S : Type 0} {after : T → S → S} (P : S → Type 0) {old between new : S} → Throughout after P old between → Throughout after P between new → Throughout after P old new
throughout_then {S = S} {after} P {old} a b =
    let At : S → Type 0 = λ state. Always after P b.steps state in
    by_always P (a.steps ++ b.steps) (did_did a.did b.did)
    (always_append after P a.steps b.steps old (along P a) (subst At a.did.states (along P b)))

-- What holds throughout holds at last.
pub throughout_last : {T S : Type 0} {after : T → S → S} (P : S → Type 0) {old new : S} → Throughout after P old new → P new
throughout_last {after = after} P {old} through = subst P (sym through.did.states) (always_last after P through.steps old (along P through))

-- a weaker property does too
pub throughout_more : {T S : Type 0} {after : T → S → S} (P Q : S → Type 0) {old new : S} → ((state : S) → P state → Q state) → Throughout after P old new → Throughout after Q old new
throughout_more P Q {old} step through = record {
  steps = through.steps;
  did = through.did;
  each = λ count few. step _ (through.each count few);
}

-- ---- a state that is seen as one of another kind

module _ {T U S R : Type 0} (after : T → S → S) (then : U → R → R) (step_as : T → U) (as_one : S → R) (same : (step : T) (state : S) → then (step_as step) (as_one state) ≡ as_one (after step state)) where
  run_as : (steps : List T) (state : S) → run then (map step_as steps) (as_one state) ≡ as_one (run after steps state)
  unfolding run
  run_as [] state = refl
  run_as (step ∷ steps) state = ap (run then (map step_as steps)) (same step state) ∙ run_as steps (after step state)

  always_as : (P : S → Type 0) (Q : R → Type 0) → ((state : S) → P state → Q (as_one state)) → (steps : List T) (state : S) → Always after P steps state → Always then Q (map step_as steps) (as_one state)
  always_as P Q step [] state here = step state here
  always_as P Q step (one ∷ steps) state always =
      let At : R → Type 0 = λ now. Always then Q (map step_as steps) now in
      (step state always.0, subst At (sym (same one state)) (always_as P Q step steps (after one state) always.1))

  pub throughout_as : (P : S → Type 0) (Q : R → Type 0) {old new : S} → ((state : S) → P state → Q (as_one state)) → Throughout after P old new → Throughout then Q (as_one old) (as_one new)
  throughout_as P Q {old} step through =
      by_always Q (map step_as through.steps)
      (record { states = ap as_one through.did.states ∙ sym (run_as through.steps old) })
      (always_as P Q step through.steps old (along P through))

-- ---- rows, and all devices

pub row_throughout_more : {S : Type 0} (P Q : List S → Type 0) {old new : List (List S)} → ((states : List S) → P states → Q states) → ThroughoutRow P old new → ThroughoutRow Q old new
row_throughout_more P Q step through =
    throughout_more (λ row. RowTells row P) (λ row. RowTells row Q) (λ row. row_tells_more row P Q step) through

-- what holds throughout a call on the stores, of the parts as they stay
pub stores_throughout : (parts : List lines.PartHistory) (P : List Store → Type 0) (Q : List Part → List Store → Type 0) {old new : List StoreHistory}
    → ((row : List StoreHistory) → RowTells row P → RowTells parts (λ states. RowTells row (Q states)))
    → ThroughoutRow P old new → ThroughoutDevices Q (record { parts = parts; stores = old }) (record { parts = parts; stores = new })
stores_throughout parts P Q step through =
    throughout_as row_after_change devices_after_change OfStores (λ row. record { parts = parts; stores = row }) (λ change row. refl)
    (λ row. RowTells row P) (λ devices. DevicesTell devices Q) step through

-- and on the parts
pub parts_throughout : (stores : List StoreHistory) (P : List Part → Type 0) (Q : List Part → List Store → Type 0) {old new : List lines.PartHistory}
    → ((row : List lines.PartHistory) → RowTells row P → RowTells row (λ states. RowTells stores (Q states)))
    → ThroughoutRow P old new → ThroughoutDevices Q (record { parts = old; stores = stores }) (record { parts = new; stores = stores })
parts_throughout stores P Q step through =
    throughout_as row_after_change devices_after_change OfParts (λ row. record { parts = row; stores = stores }) (λ change row. refl)
    (λ row. RowTells row P) (λ devices. DevicesTell devices Q) step through

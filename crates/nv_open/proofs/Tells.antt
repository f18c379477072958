-- Parts that tell go on telling.
use Rattle.std.proofs.Common.{◌≡◌, All, ℕ, ◌<◌, List, [], ◌∷◌, length, map, slice_index_or, refl, sym, subst, inl, inr, arith}
use Rattle.std.specs.Prelude.{Option, Some, None, IfSome, Result, Ok, Err, IfOk}
use Rattle.std.proofs.lemmas.Bool.{cases_lt}
use Rattle.std.proofs.lemmas.List.{set_past}
use Rattle.std.proofs.lemmas.List.Elements.{All-cons, All-head, All-nil, All-set, All-tail, All-weaker}
use Rattle.nv_pmem.specs.Moments.{Tells}
use Rattle.nv_pmem.specs.RowStates.{AreNow, tells_from}
use Rattle.nv_pmem.specs.Rows.{DidRow, RowStep, row_grown}
use Rattle.nv_pmem.specs.Runs.{grown, run}
use Rattle.nv_pmem.specs.Steps.{after_line_step}
use Rattle.nv_pmem.specs.Steps as lines
use Rattle.nv_store.specs.Steps.{StoreHistory}
use Rattle.nv_store.specs.Store.{IsQuietStore, Store}
use Rattle.nv_bench.specs.Holding.{Holding, NamedStore}
use Rattle.nv_open.specs.Lending.{stores_named}
use Rattle.nv_recover.specs.Telling.{AllTell}
use Rattle.nv_open.proofs.Returns.{named_quiet, states_tell}

-- ---- by the steps of a row

grown_longer : (step : lines.LineStep) (history : lines.PartHistory) → 0 < length history → 0 < length (grown after_line_step step history)
grown_longer step [] told = told
grown_longer step (now ∷ past) told = omega arith

step_tells : (one : RowStep) (row : List lines.PartHistory) → AllTell row → AllTell (row_grown one row)
step_tells one row told =
    elim (cases_lt one.part (length row)) [
      | inl inside ↦
          All-set (λ (history : lines.PartHistory). 0 < length history) row one.part (grown after_line_step one.step (slice_index_or row one.part []))
          (grown_longer one.step (slice_index_or row one.part []) (told one.part [] inside)) told
      | inr outside ↦ subst AllTell (sym (set_past row one.part (grown after_line_step one.step (slice_index_or row one.part [])) outside)) told
    ]

run_tells : (steps : List RowStep) (row : List lines.PartHistory) → AllTell row → AllTell (run row_grown steps row)
unfolding run
run_tells [] row told = told
run_tells (step ∷ steps) row told = run_tells steps (row_grown step row) (step_tells step row told)

pub did_tells : (steps : List RowStep) (old new : List lines.PartHistory) → DidRow steps old new → AllTell old → AllTell new
did_tells steps old new did told = subst AllTell (sym did.states) (run_tells steps old told)

-- ---- where the bench told

pub telling_with : {T E : Type 0} (row : T → List lines.PartHistory) (result : Result T E) (told : Option Holding) (parts : List lines.PartHistory) (stores : List StoreHistory) (held : Holding → List Store)
    → IfSome told (λ holding. AllTell parts) → IfSome told (λ holding. AreNow stores (held holding))
    → (AllTell parts → AllTell stores → IfOk result (λ done. AllTell (row done))) → IfOk result (λ done. IfSome told (λ holding. AllTell (row done)))
telling_with row (Ok done) None parts stores held tell are step = tt
telling_with row (Ok done) (Some holding) parts stores held tell are step = step tell (states_tell stores (held holding) are)
telling_with row (Err error) told parts stores held tell are step = tt

-- ---- stores that are opened are quiet, where they tell

now_quiet : {Y : Type 0} (history : Y → StoreHistory) (stores : List Y) (states : List Store) → AreNow (map history stores) states → All IsQuietStore states → All (λ store. Tells (history store) IsQuietStore) stores
now_quiet history [] states are quiet = All-nil (λ store. Tells (history store) IsQuietStore)
now_quiet history (store ∷ stores) [] are quiet = absurd are
now_quiet history (store ∷ stores) (now ∷ states) are quiet =
    All-cons (λ store. Tells (history store) IsQuietStore) store stores (tells_from (history store) IsQuietStore now are.0 (All-head IsQuietStore now states quiet))
    (now_quiet history stores states are.1 (All-tail IsQuietStore now states quiet))

pub opened_quiet : {Y : Type 0} (history : Y → StoreHistory) (told : Option Holding) (names : List (List ℕ)) (stores : List Y) → IfSome told (λ holding. All (λ (named : NamedStore). IsQuietStore named.store) holding.stores)
    → IfSome told (λ holding. AreNow (map history stores) (stores_named names holding.stores)) → (told ≡ None → All (λ store. history store ≡ []) stores)
    → All (λ store. Tells (history store) IsQuietStore) stores
opened_quiet history None names stores quiet are untold =
    All-weaker (λ store. history store ≡ []) (λ store. Tells (history store) IsQuietStore)
    (λ store none. subst (λ (states : StoreHistory). Tells states IsQuietStore) (sym none) tt) stores (untold refl)
opened_quiet history (Some holding) names stores quiet are untold =
    now_quiet history stores (stores_named names holding.stores) are (named_quiet names holding.stores quiet)

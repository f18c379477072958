-- Rows of stores: what a call on one of them is of the row.
use Rattle.std.proofs.Common.{◌≡◌, ◌⊎◌, inl, inr, ℕ, ◌+◌, ◌<◌, ◌≤◌, List, [], ◌∷◌, ◌++◌, All, length, take, drop, get_or, map, set, slice_set, slice_index_or, Result, Ok, Err, OnOk, OnErr, zero, suc, refl, sym, ap, ◌∙◌, subst, arith}
use Rattle.std.proofs.lemmas.Bool.{cases_lt}
use Rattle.std.proofs.lemmas.List.{length-map, get_or-map, get_or-set_other, get_or-set_same, map-set, set-get_or}
use Rattle.nv_pmem.specs.Moments.{Tells}
use Rattle.std.proofs.lemmas.List.Elements.{All-set}
use Rattle.nv_pmem.specs.Rows.{RowTells, row_words}
use Rattle.nv_pmem.specs.Runs.{run, grown}
use Rattle.nv_pmem.specs.Steps as lines
use Rattle.nv_plain.specs.Files.{Files, contents_of}
use Rattle.nv_plain.specs.Images.{Image}
use Rattle.nv_pmem.proofs.RowLaws.{row_tells_more}
use Rattle.nv_store.specs.Images.{IsStoreImage}
use Rattle.nv_store.specs.Steps.{StoreHistory, StoreStep, Write, Sync, DidStoreStep, after_store_step}
use Rattle.nv_store.specs.Store.{Store, IsQuietStore, IsWholeStore}
use Rattle.nv_store.specs.Torn.{IsTorn, LeftOrTore}
use Rattle.nv_store.proofs.ImageLaws.{image_of_quiet, seen_is_image}
use Rattle.nv_store.proofs.StoreLaws.{write_is_torn, quiet_is_quiet}
use Rattle.nv_pmem.specs.RowStates.{AreNow, IsNow, row_tells_at, row_tells_from}
use Rattle.nv_recover.specs.Applying.{AcrossTells, ChangesAtMostOne, OneWritten, LeftOrOneTorn}
use Rattle.nv_recover.specs.Standing.{AreStoreImages, LeaveNoMore, files_of}
use Rattle.nv_recover.specs.Telling.{AllTell}
use Rattle.nv_recover.proofs.Present.{now_same, presents, presents_tell, presents_long, are_now_same, OneChanged, one_changed}

-- ---- one store

-- the state after a step
pub now_did : (step : StoreStep) (was is : StoreHistory) (old new : Store) → IsNow was old → IsNow is new → DidStoreStep (step ∷ []) was is → new ≡ after_store_step step old
unfolding run
now_did step was is old new before after did =
    let states : is ≡ after_store_step step old ∷ old ∷ before.past = did.states ∙ ap (run (grown after_store_step) (step ∷ [])) before.is in
    let there : IsNow is (after_store_step step old) = record { past = old ∷ before.past; is = states } in
    now_same after there

-- or after a write that may have been torn
now_tore : (at count : ℕ) (was is : StoreHistory) (old new : Store) → IsNow was old → IsNow is new → LeftOrTore at count was is → (new ≡ old) ⊎ IsTorn at count old new
now_tore at count was is old new before after (inl same) =
    let At : StoreHistory → Type 0 = λ states. IsNow states new in
    inl (now_same (subst At same after) before)
now_tore at count was is old new before after (inr tore) =
    let then : IsNow was tore.now = record { past = tore.past; is = tore.told } in
    let later : IsNow is tore.next = record { past = was; is = tore.states } in
    let From : Store → Type 0 = λ store. IsTorn at count store new in
    inr (subst From (now_same then before) (subst (IsTorn at count tore.now) (now_same later after) tore.torn))

-- it goes on telling
pub did_tells : (step : StoreStep) (was is : StoreHistory) → DidStoreStep (step ∷ []) was is → 0 < length was → 0 < length is
unfolding run
did_tells step [] is did some = absurd (omega arith)
did_tells step (now ∷ past) is did some =
    let long : length is ≡ length (after_store_step step now ∷ now ∷ past) = ap length did.states in
    omega arith

tore_tells : (at count : ℕ) (was is : StoreHistory) → LeftOrTore at count was is → 0 < length was → 0 < length is
tore_tells at count was is (inl same) some = omega (arith, ap length same)
tore_tells at count was is (inr tore) some = omega (arith, ap length tore.states)

-- what a write answers
pub wrote_tells : {T E : Type 0} (result : Result T E) (at : ℕ) (bytes : List ℕ) (was is : StoreHistory) → OnOk result (DidStoreStep (Write at bytes ∷ []) was is) → OnErr result (LeftOrTore at (length bytes) was is)
    → 0 < length was → 0 < length is
wrote_tells (Ok _) at bytes was is done failed = did_tells (Write at bytes) was is done
wrote_tells (Err _) at bytes was is done failed = tore_tells at (length bytes) was is failed

wrote_torn : {T E : Type 0} (result : Result T E) (at : ℕ) (bytes : List ℕ) (was is : StoreHistory) (old new : Store) → OnOk result (DidStoreStep (Write at bytes ∷ []) was is) → OnErr result (LeftOrTore at (length bytes) was is)
    → IsNow was old → IsNow is new → (new ≡ old) ⊎ IsTorn at (length bytes) old new
wrote_torn (Ok _) at bytes was is old new done failed before after =
    inr (subst (IsTorn at (length bytes) old) (sym (now_did (Write at bytes) was is old new before after done)) (write_is_torn at bytes old))
wrote_torn (Err _) at bytes was is old new done failed before after = now_tore at (length bytes) was is old new before after failed

-- a step makes one change at most
did_one : (step : StoreStep) (was is : StoreHistory) → DidStoreStep (step ∷ []) was is → (is ≡ was) ⊎ ((state : Store) × (is ≡ grown (λ next before. next) state was))
unfolding run
did_one step [] is did = inl did.states
did_one step (now ∷ past) is did = inr (after_store_step step now, did.states)

-- and so does a write that may have been torn
wrote_one : {T E : Type 0} (result : Result T E) (at : ℕ) (bytes : List ℕ) (was is : StoreHistory) → OnOk result (DidStoreStep (Write at bytes ∷ []) was is) → OnErr result (LeftOrTore at (length bytes) was is)
    → (is ≡ was) ⊎ ((state : Store) × (is ≡ grown (λ next before. next) state was))
wrote_one (Ok _) at bytes was is done failed = did_one (Write at bytes) was is done
wrote_one (Err _) at bytes was is done (inl same) = inl same
wrote_one (Err _) at bytes was is done (inr tore) =
    let More : StoreHistory → Type 0 = λ before. tore.next ∷ before ≡ grown (λ next before. next) tore.next before in
    inr (tore.next, tore.states ∙ subst More (sym tore.told) refl)

-- ---- a row of them

module _ {X : Type 0} (history : X → StoreHistory) (stores : List X) (i : ℕ) (d new : X) (inside : i < length stores) where
  row_inside : i < length (map history stores)
  row_inside = omega (arith, length-map stores history)

  history_was : get_or (map history stores) i [] ≡ history (get_or stores i d)
  history_was = get_or-map history stores i d [] inside

  -- the states of the row, and of the store, before and after
  pub row_changed : (before after : List Store) → AreNow (map history stores) before → AreNow (map history (slice_set stores i new)) after
      → OneChanged (map history stores) i (history new) before after
  row_changed before after are were =
      let At : List StoreHistory → Type 0 = λ row. AreNow row after in
      one_changed (map history stores) i (history new) before after row_inside are (subst At (map-set history stores i new) were)

  pub row_was : (before after : List Store) (one : OneChanged (map history stores) i (history new) before after) → IsNow (history (get_or stores i d)) one.old
  row_was before after one =
      let At : StoreHistory → Type 0 = λ states. IsNow states one.old in
      subst At history_was one.was_now

  pub row_goes_on : ((0 < length (history (get_or stores i d))) → 0 < length (history new)) → AllTell (map history stores) → AllTell (map history (slice_set stores i new))
  row_goes_on step tell =
      let Some : StoreHistory → Type 0 = λ states. 0 < length states in
      let At : StoreHistory → Type 0 = Some in
      subst (All Some) (sym (map-set history stores i new))
      (All-set Some (map history stores) i (history new) (step (subst At history_was (tell i [] row_inside))) tell)

  one_of_row : (history new ≡ history (get_or stores i d)) ⊎ ((state : Store) × (history new ≡ grown (λ next before. next) state (history (get_or stores i d))))
      → ChangesAtMostOne (map history stores) (map history (slice_set stores i new))
  one_of_row (inl same) =
      inl (map-set history stores i new ∙ ap (set (map history stores) i) (same ∙ sym history_was) ∙ set-get_or (map history stores) i [])
  one_of_row (inr one) =
      inr (
        record { device = i; state = one.0 },
        map-set history stores i new ∙ ap (set (map history stores) i) (one.1 ∙ ap (grown (λ next before. next) one.0) (sym history_was)),
      )

  -- a call on one store makes one change at most
  pub row_wrote_one : {T E : Type 0} (result : Result T E) (at : ℕ) (bytes : List ℕ) → OnOk result (DidStoreStep (Write at bytes ∷ []) (history (get_or stores i d)) (history new)) → OnErr result (LeftOrTore at (length bytes) (history (get_or stores i d)) (history new))
      → ChangesAtMostOne (map history stores) (map history (slice_set stores i new))
  row_wrote_one result at bytes done failed = one_of_row (wrote_one result at bytes (history (get_or stores i d)) (history new) done failed)

  pub row_did_one : (step : StoreStep) → DidStoreStep (step ∷ []) (history (get_or stores i d)) (history new) → ChangesAtMostOne (map history stores) (map history (slice_set stores i new))
  row_did_one step done = one_of_row (did_one step (history (get_or stores i d)) (history new) done)

  pub row_torn : {T E : Type 0} (result : Result T E) (at : ℕ) (bytes : List ℕ) → OnOk result (DidStoreStep (Write at bytes ∷ []) (history (get_or stores i d)) (history new)) → OnErr result (LeftOrTore at (length bytes) (history (get_or stores i d)) (history new))
      → RowTells (map history stores) (λ before. RowTells (map history (slice_set stores i new)) (LeftOrOneTorn i at (length bytes) before))
  row_torn result at bytes done failed =
      row_tells_from (map history stores) (λ before. RowTells (map history (slice_set stores i new)) (LeftOrOneTorn i at (length bytes) before))
      (λ before are. row_tells_from (map history (slice_set stores i new)) (LeftOrOneTorn i at (length bytes) before)
      (λ after were.
      let one = row_changed before after are were in
      elim (wrote_torn result at bytes (history (get_or stores i d)) (history new) one.old one.new done failed (row_was before after one) one.is_now) [
        | inl same ↦ inl (one.is ∙ ap (set before i) (same ∙ sym (one.old_is one.old)) ∙ set-get_or before i one.old)
        | inr torn ↦ inr (record { old = one.old; new = one.new; old_is = one.old_is; torn = torn; is = one.is })
      ]))

  pub row_written : (at : ℕ) (bytes : List ℕ) → DidStoreStep (Write at bytes ∷ []) (history (get_or stores i d)) (history new)
      → RowTells (map history stores) (λ before. RowTells (map history (slice_set stores i new)) (OneWritten i at bytes before))
  row_written at bytes did =
      row_tells_from (map history stores) (λ before. RowTells (map history (slice_set stores i new)) (OneWritten i at bytes before))
      (λ before are. row_tells_from (map history (slice_set stores i new)) (OneWritten i at bytes before)
      (λ after were.
      let one = row_changed before after are were in
      record {
        old = one.old;
        old_is = one.old_is;
        is = one.is ∙ ap (set before i) (now_did (Write at bytes) (history (get_or stores i d)) (history new) one.old one.new (row_was before after one) one.is_now did);
      }))

-- the same where the write was made
pub row_written_ok : {X T E : Type 0} (history : X → StoreHistory) (stores : List X) (i : ℕ) (d new : X) → i < length stores → (result : Result T E) (at : ℕ) (bytes : List ℕ)
    → OnOk result (DidStoreStep (Write at bytes ∷ []) (history (get_or stores i d)) (history new))
    → OnOk result (RowTells (map history stores) (λ before. RowTells (map history (slice_set stores i new)) (OneWritten i at bytes before)))
row_written_ok history stores i d new inside (Ok _) at bytes done = row_written history stores i d new inside at bytes done
row_written_ok history stores i d new inside (Err _) at bytes done = tt

-- each state that a row of stores tells is whole
pub row_whole : {X : Type 0} (history : X → StoreHistory) → ((x : X) (now : Store) (past : StoreHistory) → history x ≡ now ∷ past → IsWholeStore now)
    → (stores : List X) (states : List Store) → AreNow (map history stores) states → (i : ℕ) (none : Store) → i < length stores → IsWholeStore (slice_index_or states i none)
row_whole history told [] states are i none inside = absurd (omega arith)
row_whole history told (x ∷ xs) [] are i none inside = absurd are
row_whole history told (x ∷ xs) (now ∷ states) are zero none inside = told x now are.0.past are.0.is
row_whole history told (x ∷ xs) (now ∷ states) are (suc i) none inside = row_whole history told xs states are.1 i none (omega arith)

-- ---- one call after another

pub across : {S : Type 0} (old between new : List (List S)) (A B C : List S → List S → Type 0) → (AllTell old → AllTell between) → ((was then now : List S) → A was then → B then now → C was now)
    → RowTells old (λ was. RowTells between (A was)) → RowTells between (λ then. RowTells new (B then)) → RowTells old (λ was. RowTells new (C was))
across {S} old between new A B C tells step first second =
    row_tells_from old (λ was. RowTells new (C was))
    (λ was are. row_tells_from new (C was)
    (λ now were.
    let mid = presents between (tells (presents_tell old was are)) in
    step was mid.states now
    (row_tells_at between (A was) mid.states mid.are (row_tells_at old (λ was. RowTells between (A was)) was are first))
    (row_tells_at new (B mid.states) now were (row_tells_at between (λ then. RowTells new (B then)) mid.states mid.are second))))

pub across_tells : (parts : List lines.PartHistory) (old between new : List StoreHistory) (A B C : Image → List Store → List Store → Type 0) → (AllTell old → AllTell between)
    → ((image : Image) (was then now : List Store) → A image was then → B image then now → C image was now)
    → AcrossTells parts old between A → AcrossTells parts between new B → AcrossTells parts old new C
across_tells parts old between new A B C tells step first second =
    row_tells_from parts (λ these. RowTells old (λ was. RowTells new (C (row_words these) was)))
    (λ these are.
    let image = row_words these in
    across old between new (A image) (B image) (C image) tells (step image)
    (row_tells_at parts (λ these. RowTells old (λ was. RowTells between (A (row_words these) was))) these are first)
    (row_tells_at parts (λ these. RowTells between (λ was. RowTells new (B (row_words these) was))) these are second))

-- ---- syncs

-- the stores, of which the first so many are synced
abbrev pub synced_front : ℕ → List Store → List Store
synced_front count stores = map (after_store_step Sync) (take count stores) ++ drop count stores

length-synced : (count : ℕ) (stores : List Store) → length (synced_front count stores) ≡ length stores
length-synced zero stores = refl
length-synced (suc count) [] = refl
length-synced (suc count) (store ∷ stores) = ap suc (length-synced count stores)

-- each of them is synced, or is as it was
synced_at : (count : ℕ) (stores : List Store) (i : ℕ) (none : Store) → i < length stores
    → (get_or (synced_front count stores) i none ≡ after_store_step Sync (get_or stores i none)) ⊎ (get_or (synced_front count stores) i none ≡ get_or stores i none)
synced_at zero stores i none inside = inr refl
synced_at (suc count) [] i none inside = absurd (omega arith)
synced_at (suc count) (store ∷ stores) zero none inside = inl refl
synced_at (suc count) (store ∷ stores) (suc i) none inside = synced_at count stores i none (omega arith)

-- one more
synced_more : (count : ℕ) (stores : List Store) (none : Store) → count < length stores
    → set (synced_front count stores) count (after_store_step Sync (get_or (synced_front count stores) count none)) ≡ synced_front (suc count) stores
synced_more zero [] none inside = absurd (omega arith)
synced_more zero (store ∷ stores) none inside = refl
synced_more (suc count) [] none inside = absurd (omega arith)
synced_more (suc count) (store ∷ stores) none inside = ap (λ later. after_store_step Sync store ∷ later) (synced_more count stores none (omega arith))

-- and all
pub synced_all : (count : ℕ) (stores : List Store) → length stores ≤ count → synced_front count stores ≡ map (after_store_step Sync) stores
synced_all zero [] over = refl
synced_all zero (store ∷ stores) over = absurd (omega arith)
synced_all (suc count) [] over = refl
synced_all (suc count) (store ∷ stores) over = ap (λ later. after_store_step Sync store ∷ later) (synced_all count stores (omega arith))

-- Reads give what they gave.
pub synced_seen : (count : ℕ) (stores : List Store) → files_of (synced_front count stores) ≡ files_of stores
synced_seen zero stores = refl
synced_seen (suc count) [] = refl
synced_seen (suc count) (store ∷ stores) =
    ap (λ (files : Files). let more : Files = record { contents = store.seen ∷ files.contents } in more) (synced_seen count stores)

-- An image of them is one of before.
pub synced_images : (count : ℕ) (stores now : List Store) (bytes : Files) → now ≡ synced_front count stores → ((i : ℕ) (none : Store) → i < length stores → IsWholeStore (slice_index_or stores i none))
    → AreStoreImages now bytes → AreStoreImages stores bytes
synced_images count stores now bytes is whole are =
    let long : length now ≡ length stores = ap length is ∙ length-synced count stores in
    record {
      count = are.count ∙ long;
      each = λ i none inside.
          let store = slice_index_or stores i none in
          let Of : Store → Type 0 = λ store. IsStoreImage store (contents_of bytes i) in
          let one : IsStoreImage (slice_index_or (synced_front count stores) i none) (contents_of bytes i) =
          subst Of (ap (λ these. slice_index_or these i none) is) (are.each i none (omega arith)) in
          elim (synced_at count stores i none inside) [
            | inl same ↦
                subst (IsStoreImage store) (sym (image_of_quiet (after_store_step Sync store) (contents_of bytes i) (quiet_is_quiet store.seen) (subst Of same one)))
                (seen_is_image store (whole i none inside))
            | inr same ↦ subst Of same one
          ];
    }

-- a row of which the first so many stores are synced
abbrev pub RowSynced : ℕ → List StoreHistory → List StoreHistory → Type 0
RowSynced count old new = RowTells old (λ was. RowTells new (λ now. now ≡ synced_front count was))

pub row_unsynced : (row : List StoreHistory) → RowSynced 0 row row
row_unsynced row =
    row_tells_from row (λ was. RowTells row (λ now. now ≡ was))
    (λ was are. row_tells_from row (λ now. now ≡ was) (λ now were. are_now_same row now was were are))

pub row_synced_images : {X : Type 0} (history : X → StoreHistory) → ((x : X) (now : Store) (past : StoreHistory) → history x ≡ now ∷ past → IsWholeStore now)
    → (old : List X) (new : List StoreHistory) (count : ℕ) → RowSynced count (map history old) new
    → RowTells (map history old) (λ was. RowTells new (LeaveNoMore was))
row_synced_images history told old new count synced =
    row_tells_from (map history old) (λ was. RowTells new (LeaveNoMore was))
    (λ was are.
    row_tells_more new (λ now. now ≡ synced_front count was) (LeaveNoMore was)
    (λ now is bytes.
    synced_images count was now bytes is
    (λ i none inside. row_whole history told old was are i none (omega (arith, presents_long (map history old) was are, length-map old history))))
    (row_tells_at (map history old) (λ was. RowTells new (λ now. now ≡ synced_front count was)) was are synced))

pub row_synced_seen : (old new : List StoreHistory) (count : ℕ) → RowSynced count old new → RowTells old (λ was. RowTells new (λ now. files_of now ≡ files_of was))
row_synced_seen old new count synced =
    row_tells_more old (λ was. RowTells new (λ now. now ≡ synced_front count was)) (λ was. RowTells new (λ now. files_of now ≡ files_of was))
    (λ was. row_tells_more new (λ now. now ≡ synced_front count was) (λ now. files_of now ≡ files_of was)
    (λ now is. ap files_of is ∙ synced_seen count was))
    synced

pub row_synced_all : (old new : List StoreHistory) (count : ℕ) → length old ≤ count → RowSynced count old new → RowTells old (λ was. RowTells new (λ now. now ≡ map (after_store_step Sync) was))
row_synced_all old new count over synced =
    row_tells_from old (λ was. RowTells new (λ now. now ≡ map (after_store_step Sync) was))
    (λ was are.
    row_tells_more new (λ now. now ≡ synced_front count was) (λ now. now ≡ map (after_store_step Sync) was)
    (λ now is. is ∙ synced_all count was (omega (arith, presents_long old was are)))
    (row_tells_at old (λ was. RowTells new (λ now. now ≡ synced_front count was)) was are synced))

-- one more store is synced
pub row_synced_more : {X : Type 0} (history : X → StoreHistory) (old : List StoreHistory) (stores : List X) (i : ℕ) (d new : X) → i < length stores → length stores ≡ length old → (AllTell old → AllTell (map history stores))
    → DidStoreStep (Sync ∷ []) (history (get_or stores i d)) (history new) → RowSynced i old (map history stores) → RowSynced (i + 1) old (map history (slice_set stores i new))
row_synced_more history old stores i d new inside long tells did synced =
    let between : List StoreHistory = map history stores in
    let after : List StoreHistory = map history (slice_set stores i new) in
    let Count : ℕ → Type 0 = λ n. RowSynced n old after in
    let count : suc i ≡ i + 1 = omega arith in
    subst Count count
    (row_tells_from old (λ was. RowTells after (λ now. now ≡ synced_front (suc i) was))
    (λ was are. row_tells_from after (λ now. now ≡ synced_front (suc i) was)
    (λ now were.
    let mid = presents between (tells (presents_tell old was are)) in
    let so_far : mid.states ≡ synced_front i was =
    row_tells_at between (λ now. now ≡ synced_front i was) mid.states mid.are
    (row_tells_at old (λ was. RowTells between (λ now. now ≡ synced_front i was)) was are synced) in
    let one = row_changed history stores i d new inside mid.states now mid.are were in
    let step : one.new ≡ after_store_step Sync one.old =
    now_did Sync (history (get_or stores i d)) (history new) one.old one.new (row_was history stores i d new inside mid.states now one) one.is_now did in
    one.is
    ∙ ap (set mid.states i) (step ∙ ap (after_store_step Sync) (sym (one.old_is one.old)))
    ∙ ap (λ these. set these i (after_store_step Sync (get_or these i one.old))) so_far
    ∙ synced_more i was one.old (omega (arith, presents_long old was are)))))

-- a sync leaves a store quiet, where it tells
pub synced_is_quiet : (old new : StoreHistory) → DidStoreStep (Sync ∷ []) old new → Tells new IsQuietStore
unfolding run
synced_is_quiet [] new did = subst (λ (history : StoreHistory). Tells history IsQuietStore) (sym did.states) tt
synced_is_quiet (now ∷ past) new did = subst (λ (history : StoreHistory). Tells history IsQuietStore) (sym did.states) (quiet_is_quiet now.seen)

-- and so one more of a row
pub quiet_on : {X : Type 0} (history : X → StoreHistory) (stores : List X) (i k : ℕ) (new d : X) → i < length stores → k < i + 1
    → ((k : ℕ) (d : X) → k < i → Tells (history (get_or stores k d)) IsQuietStore) → Tells (history new) IsQuietStore → Tells (history (get_or (slice_set stores i new) k d)) IsQuietStore
quiet_on {X} history stores i k new d inside below before here =
    let Quiet : X → Type 0 = λ store. Tells (history store) IsQuietStore in
    elim (cases_lt k i) [
      | inl earlier ↦ subst Quiet (sym (get_or-set_other stores i k new d (omega arith))) (before k d earlier)
      | inr last ↦
          let same : k ≡ i = omega (arith, below, last) in
          let Of : ℕ → Type 0 = λ k. Quiet (get_or (slice_set stores i new) k d) in
          subst Of (sym same) (subst Quiet (sym (get_or-set_same stores i new d inside)) here)
    ]

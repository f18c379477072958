-- Moments of a row of devices: of a call that changes one of them, and of one call after another.
use Rattle.std.proofs.Common.{◌≡◌, ◌↔◌, inl, inr, ℕ, ◌<◌, List, [], ◌∷◌, ◌++◌, All, length, map, slice_set, slice_index_or, refl, sym, ap, ◌∙◌, subst, arith}
use Rattle.std.proofs.lemmas.List.{length-map, get_or-map, map-set, get_or-set_same, set-get_or, set-set}
use Rattle.std.proofs.lemmas.List.Elements.{All-head, All-tail, All-weaker}
use Rattle.nv_plain.specs.Images.{Image}
use Rattle.nv_pmem.specs.Moments.{Tells, EachMoment}
use Rattle.nv_pmem.specs.Rows.{RowTells, row_words}
use Rattle.nv_pmem.specs.Runs.{run, grown}
use Rattle.nv_pmem.specs.Steps as lines
use Rattle.nv_pmem.proofs.RowLaws.{row_tells_more, row_tells_both}
use Rattle.nv_pmem.proofs.StepLaws.{tells_more}
use Rattle.nv_store.specs.Steps.{StoreHistory}
use Rattle.nv_store.specs.Store.{Store}
use Rattle.nv_pmem.specs.RowStates.{row_tells_at, row_tells_from, tells_at, tells_from}
use Rattle.nv_recover.specs.Applying.{AcrossTells, AcrossThroughout, ChangesAtMostOne}
use Rattle.nv_recover.specs.Changes.{Change, row_after_change, ThroughoutRow, Devices, DeviceChange, devices_after_change}
use Rattle.nv_recover.specs.Changes.DeviceChange.{OfParts, OfStores}
use Rattle.nv_recover.specs.Emptying.{BothTell}
use Rattle.nv_recover.specs.Telling.{AllTell}
use Rattle.nv_recover.proofs.Present.{present, presents, presents_tell, are_now_same, RowsTell, tells_set}
use Rattle.nv_recover.proofs.Throughout.{throughout_none, throughout_one, throughout_then, throughout_last, row_throughout_more}

-- ---- one device

-- where nothing is done there is one moment
pub moment_now : {S : Type 0} (R : S → S → Type 0) (old new : List S) → new ≡ old → Tells old (λ was. R was was) → Tells old (λ was. EachMoment (R was) old new)
moment_now R [] new same told = tt
moment_now {S} R (was ∷ past) new same told =
    record { since = []; states = same; at_first = told; each = λ i d inside. absurd (omega arith) }

-- a weaker property holds at each moment too
pub moments_more : {S : Type 0} (P Q : S → Type 0) (old new : List S) → ((state : S) → P state → Q state) → EachMoment P old new → EachMoment Q old new
moments_more P Q old new step moments = record {
  since = moments.since;
  states = moments.states;
  at_first = tells_more old P Q step moments.at_first;
  each = All-weaker P Q step moments.since moments.each;
}

-- ---- a row of which one device is changed

module _ {S : Type 0} (row : List (List S)) (i : ℕ) (P : List S → Type 0) (Q : S → Type 0) (inside : i < length row) (told : 0 < length (slice_index_or row i [])) (each : (history : List S) → 0 < length history → Tells history Q → RowTells (slice_set row i history) P) where
  some_later : (since : List S) → 0 < length (since ++ slice_index_or row i [])
  some_later [] = told
  some_later (state ∷ since) = omega arith

  tells_later : (since : List S) → All Q since → Tells (slice_index_or row i []) Q → Tells (since ++ slice_index_or row i []) Q
  tells_later [] all first = first
  tells_later (state ∷ since) all first = All-head Q state since all

  grown_some : (state : S) (history : List S) → 0 < length history → grown (λ next before. next) state history ≡ state ∷ history
  grown_some state [] some = absurd (omega arith)
  grown_some state (now ∷ past) some = refl

  one_later : (state : S) (history : List S) → 0 < length history
      → slice_set row i (state ∷ history) ≡ row_after_change (record { device = i; state = state }) (slice_set row i history)
  one_later state history some =
      sym (set-set row i history (state ∷ history))
      ∙ ap (slice_set (slice_set row i history) i)
      (sym (grown_some state history some)
      ∙ ap (grown (λ next before. next) state) (sym (get_or-set_same row i history [] inside)))

  later : (since : List S) → All Q since → Tells (slice_index_or row i []) Q → ThroughoutRow P row (slice_set row i (since ++ slice_index_or row i []))
  later [] all first =
      let old = slice_index_or row i [] in
      let same : slice_set row i old ≡ row = set-get_or row i [] in
      let At : List (List S) → Type 0 = λ these. RowTells these P in
      let Through : List (List S) → Type 0 = λ these. ThroughoutRow P row these in
      subst Through (sym same) (throughout_none At row (subst At same (each old told first)))
  later (state ∷ since) all first =
      let before = since ++ slice_index_or row i [] in
      let At : List (List S) → Type 0 = λ these. RowTells these P in
      let rest = All-tail Q state since all in
      throughout_then At (later since rest first)
      (throughout_one At (record { device = i; state = state }) (slice_set row i before) (slice_set row i (state ∷ before))
      (one_later state before (some_later since))
      (each before (some_later since) (tells_later since rest first))
      (each (state ∷ before) (omega arith) (All-head Q state since all)))

  -- What each moment of a call on the device makes of the row holds throughout the call.
  pub part_throughout : (new : List S) → EachMoment Q (slice_index_or row i []) new → ThroughoutRow P row (slice_set row i new)
  part_throughout new moments =
      let At : List S → Type 0 = λ history. ThroughoutRow P row (slice_set row i history) in
      subst At (sym moments.states) (later moments.since moments.each moments.at_first)

-- What each moment of a call on a device of a row makes of the row holds throughout the call.
pub device_throughout : {X S : Type 0} (history : X → List S) (parts : List X) (i : ℕ) (was new d : X) (R : S → S → Type 0) (P : List S → Type 0) → i < length parts → was ≡ slice_index_or parts i d → AllTell (map history parts)
    → ((states : List S) → BothTell (slice_index_or (map history parts) i []) states R → RowTells (slice_set (map history parts) i states) P)
    → Tells (history was) (λ before. EachMoment (R before) (history was) (history new)) → ThroughoutRow P (map history parts) (map history (slice_set parts i new))
device_throughout {S = S} history parts i was new d R P inside at tell each moments =
    let row : List (List S) = map history parts in
    let within : i < length row = omega (arith, length-map parts history) in
    let is : history was ≡ slice_index_or row i [] = ap history at ∙ sym (get_or-map history parts i d [] inside) in
    let here = present (slice_index_or row i []) (tell i [] within) in
    let At : List S → Type 0 = λ old. Tells old (λ before. EachMoment (R before) old (history new)) in
    let Through : List (List S) → Type 0 = λ after. ThroughoutRow P row after in
    subst Through (sym (map-set history parts i new))
    (part_throughout row i P (R here.state) within (tell i [] within)
    (λ states some told. each states (tells_from (slice_index_or row i []) (λ before. Tells states (R before)) here.state here.is told))
    (history new)
    (tells_at (slice_index_or row i []) (λ before. EachMoment (R before) (slice_index_or row i []) (history new)) here.state here.is (subst At is moments)))

-- one change at most
pub one_throughout : (P : List Store → Type 0) (old new : List StoreHistory) → ChangesAtMostOne old new → RowTells old P → RowTells new P → ThroughoutRow P old new
one_throughout P old new (inl same) before after =
    let Through : List StoreHistory → Type 0 = λ row. ThroughoutRow P old row in
    subst Through (sym same) (throughout_none (λ row. RowTells row P) old before)
one_throughout P old new (inr one) before after = throughout_one (λ row. RowTells row P) one.0 old new one.1 before after

-- ---- what rows tell

-- what holds throughout holds at last
pub rows_last : {S : Type 0} (old new : List (List S)) (R : List S → List S → Type 0) → RowTells old (λ was. ThroughoutRow (R was) old new) → RowsTell old new R
rows_last old new R through =
    row_tells_more old (λ was. ThroughoutRow (R was) old new) (λ was. RowTells new (R was))
    (λ was here. throughout_last (λ row. RowTells row (R was)) here) through

pub across_last : (parts : List lines.PartHistory) (old new : List StoreHistory) (R : Image → List Store → List Store → Type 0) → AcrossThroughout parts old new R → AcrossTells parts old new R
across_last parts old new R through =
    row_tells_more parts (λ these. RowTells old (λ was. ThroughoutRow (R (row_words these) was) old new)) (λ these. RowTells old (λ was. RowTells new (R (row_words these) was)))
    (λ these here. rows_last old new (R (row_words these)) here) through

-- stores that nothing was done to
pub rows_still : {S : Type 0} (row : List (List S)) (R : List S → List S → Type 0) → RowsTell row row R → RowTells row (λ was. ThroughoutRow (R was) row row)
rows_still row R here =
    row_tells_more row (λ was. RowTells row (R was)) (λ was. ThroughoutRow (R was) row row) (λ was at. throughout_none (λ these. RowTells these (R was)) row at) here

pub across_still : (parts : List lines.PartHistory) (row : List StoreHistory) (R : Image → List Store → List Store → Type 0) → AcrossTells parts row row R → AcrossThroughout parts row row R
across_still parts row R here =
    row_tells_more parts (λ these. RowTells row (λ was. RowTells row (R (row_words these) was))) (λ these. RowTells row (λ was. ThroughoutRow (R (row_words these) was) row row))
    (λ these at. rows_still row (R (row_words these)) at) here

-- one call after another
pub rows_throughout : {S : Type 0} (old between new : List (List S)) (A B C : List S → List S → Type 0) → (AllTell old → AllTell between)
    → ((was now : List S) → A was now → C was now) → ((was then now : List S) → A was then → B then now → C was now)
    → RowTells old (λ was. ThroughoutRow (A was) old between) → RowTells between (λ then. ThroughoutRow (B then) between new) → RowTells old (λ was. ThroughoutRow (C was) old new)
rows_throughout {S} old between new A B C tells front step first second =
    row_tells_from old (λ was. ThroughoutRow (C was) old new)
    (λ was are.
    let here : ThroughoutRow (A was) old between = row_tells_at old (λ these. ThroughoutRow (A these) old between) was are first in
    let mid = presents between (tells (presents_tell old was are)) in
    let at : A was mid.states = row_tells_at between (A was) mid.states mid.are (throughout_last (λ row. RowTells row (A was)) here) in
    throughout_then (λ row. RowTells row (C was))
    (row_throughout_more (A was) (C was) (front was) here)
    (row_throughout_more (B mid.states) (C was) (λ now later. step was mid.states now at later)
    (row_tells_at between (λ then. ThroughoutRow (B then) between new) mid.states mid.are second)))

-- one change more
pub rows_one_more : (old between new : List StoreHistory) (R : List Store → List Store → Type 0) → RowTells old (λ was. ThroughoutRow (R was) old between) → ChangesAtMostOne between new → RowsTell old new R
    → RowTells old (λ was. ThroughoutRow (R was) old new)
rows_one_more old between new R through one after =
    let Before : List Store → Type 0 = λ was. ThroughoutRow (R was) old between in
    let After : List Store → Type 0 = λ was. RowTells new (R was) in
    row_tells_more old (λ was. Before was × After was) (λ was. ThroughoutRow (R was) old new)
    (λ was both.
    let At : List StoreHistory → Type 0 = λ row. RowTells row (R was) in
    throughout_then At both.0 (one_throughout (R was) between new one (throughout_last At both.0) both.1))
    (row_tells_both old Before After through after)

pub across_throughout : (parts : List lines.PartHistory) (old between new : List StoreHistory) (A B C : Image → List Store → List Store → Type 0) → (AllTell old → AllTell between)
    → ((image : Image) (was now : List Store) → A image was now → C image was now) → ((image : Image) (was then now : List Store) → A image was then → B image then now → C image was now)
    → AcrossThroughout parts old between A → RowTells parts (λ these. RowTells between (λ then. ThroughoutRow (B (row_words these) then) between new)) → AcrossThroughout parts old new C
across_throughout parts old between new A B C tells front step first second =
    row_tells_from parts (λ these. RowTells old (λ was. ThroughoutRow (C (row_words these) was) old new))
    (λ these are.
    let image = row_words these in
    rows_throughout old between new (A image) (B image) (C image) tells (front image) (step image)
    (row_tells_at parts (λ these. RowTells old (λ was. ThroughoutRow (A (row_words these) was) old between)) these are first)
    (row_tells_at parts (λ these. RowTells between (λ then. ThroughoutRow (B (row_words these) then) between new)) these are second))

-- one change at most, by what holds before it and after it
pub across_one : (parts : List lines.PartHistory) (old new : List StoreHistory) (R : Image → List Store → List Store → Type 0) → ((image : Image) (was : List Store) → R image was was)
    → ChangesAtMostOne old new → AcrossTells parts old new R → AcrossThroughout parts old new R
across_one parts old new R none one after =
    row_tells_from parts (λ these. RowTells old (λ was. ThroughoutRow (R (row_words these) was) old new))
    (λ these are.
    let image = row_words these in
    row_tells_from old (λ was. ThroughoutRow (R image was) old new)
    (λ was were.
    one_throughout (R image was) old new one
    (row_tells_from old (R image was) (λ now they. subst (R image was) (are_now_same old was now were they) (none image was)))
    (row_tells_at old (λ was. RowTells new (R image was)) was were
    (row_tells_at parts (λ these. RowTells old (λ was. RowTells new (R (row_words these) was))) these are after))))

-- ---- telling

-- a device tells after a change if it did before it, and only then
grown_tells : {S : Type 0} (state : S) (history : List S) → (0 < length history) ↔ (0 < length (grown (λ next before. next) state history))
grown_tells state [] = (λ some. some, λ some. some)
grown_tells state (now ∷ past) = (λ some. omega arith, λ some. omega arith)

row_still_tells : {S : Type 0} (change : Change S) (row : List (List S)) → AllTell row → AllTell (row_after_change change row)
row_still_tells change row tell =
    let before = slice_index_or row change.device [] in
    (tells_set row change.device (grown (λ next before. next) change.state before) (grown_tells change.state before)).0 tell

pub still_tell : (changes : List DeviceChange) (devices : Devices) → AllTell devices.parts × AllTell devices.stores
    → AllTell (run devices_after_change changes devices).parts × AllTell (run devices_after_change changes devices).stores
unfolding run
still_tell [] devices tell = tell
still_tell (OfParts change ∷ changes) devices tell =
    still_tell changes (devices_after_change (OfParts change) devices) (row_still_tells change devices.parts tell.0, tell.1)
still_tell (OfStores change ∷ changes) devices tell =
    still_tell changes (devices_after_change (OfStores change) devices) (tell.0, row_still_tells change devices.stores tell.1)

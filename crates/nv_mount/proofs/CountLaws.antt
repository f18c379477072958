-- Counts: how often the devices of a mount failed, added up.
use Rattle.std.proofs.Common.{◌≡◌, ◌⊎◌, ℕ, zero, suc, ◌+◌, ◌<◌, ◌≤◌, ◌++◌, List, [], ◌∷◌, get_or, length, map, inl, inr, refl, sym, ap, ap₂, subst, ◌∙◌, arith}
use Rattle.std.specs.Prelude.{Option, Some, None, sum_by}
use Rattle.std.proofs.lemmas.Bool.{cases_lt}
use Rattle.std.proofs.lemmas.List.Sums.{sum_by-append, sum_by-cons}
use Rattle.nv_plain.specs.Faults.{Rose}
use Rattle.nv_core.specs.state.Words.{Word, HEADER, ENTRY, STORE, PAGE, STOP, IsWord, page_total}
use Rattle.nv_core.specs.state.Values.{Value, Bare, APart, AStore, ABuffer, faults_of}
use Rattle.nv_core.specs.steps.Events.{Event}
use Rattle.nv_core.specs.steps.Opening.{IsMount, opening}
use Rattle.nv_core.specs.invariant.InvariantLaws.{RunsAreSound}
use Rattle.nv_core.specs.steps.Frames.{EventsLeaveOthers, StepsAreOnWords}
use Rattle.nv_core.specs.invariant.Sound.{Sound}
use Rattle.nv_table.specs.declared.slot.PageBuffer.{PageBuffer}
use Rattle.nv_table.specs.state.SlotValues.{buffer_value, slot_value}
use Rattle.nv_table.specs.state.Layout.{slot_total, slot_of_cell, cell_of}
use Rattle.nv_table.specs.state.Opened.{Opened, mount_of, held_in, IsRunOf, state_of}
use Rattle.nv_table.specs.ends.OpeningSlots.{in_slots}
use Rattle.nv_table.proofs.state.LayoutLaws.{slot_there, cell_there}
use Rattle.nv_table.proofs.ends.MountLaws.{shown_slots}
use Rattle.nv_table.proofs.state.SortLaws.{sort_of, same_sort}
use Rattle.nv_table.proofs.invariant.StayLaws.{stays}

-- ---- sums

pub risen : (before now more more_now : ℕ) → Rose before now → more ≤ more_now → Rose (before + more) (now + more_now)
risen before now more more_now rose rest =
    let a = rose.never_falls in
    let b = rose.more in
    record { never_falls = omega (arith, a, rest); more = omega (arith, a, b, rest) }

pub sums_rise : (xs ys : List Value) → ((i : ℕ) → i < length xs → faults_of (get_or xs i Bare) ≤ faults_of (get_or ys i Bare)) → sum_by faults_of xs ≤ sum_by faults_of ys
sums_rise [] ys each = omega arith
sums_rise (x ∷ xs) [] each =
    let first = each 0 (omega arith) in
    let rest = sums_rise xs [] (λ i less. each (suc i) (omega arith)) in
    let all = sum_by-cons faults_of x xs in
    omega (arith, first, rest, all)
sums_rise (x ∷ xs) (y ∷ ys) each =
    let first = each 0 (omega arith) in
    let rest = sums_rise xs ys (λ i less. each (suc i) (omega arith)) in
    let all = sum_by-cons faults_of x xs in
    let now = sum_by-cons faults_of y ys in
    omega (arith, first, rest, all, now)

-- one of them rose
pub sum_rose : (xs ys : List Value) → ((i : ℕ) → i < length xs → faults_of (get_or xs i Bare) ≤ faults_of (get_or ys i Bare))
    → (i : ℕ) → i < length xs → Rose (faults_of (get_or xs i Bare)) (faults_of (get_or ys i Bare)) → Rose (sum_by faults_of xs) (sum_by faults_of ys)
sum_rose [] ys each i less rose = absurd (omega arith)
sum_rose (x ∷ xs) [] each i less rose = absurd (let none = rose.more in omega (arith, none))
sum_rose (x ∷ xs) (y ∷ ys) each zero less rose =
    let rest = sums_rise xs ys (λ i less. each (suc i) (omega arith)) in
    let both = risen (faults_of x) (faults_of y) (sum_by faults_of xs) (sum_by faults_of ys) rose rest in
    subst (λ n. Rose n (sum_by faults_of (y ∷ ys))) (sym (sum_by-cons faults_of x xs)) (subst (Rose (faults_of x + sum_by faults_of xs)) (sym (sum_by-cons faults_of y ys)) both)
sum_rose (x ∷ xs) (y ∷ ys) each (suc i) less rose =
    let rest = sum_rose xs ys (λ k low. each (suc k) (omega arith)) i (omega arith) rose in
    let first = each 0 (omega arith) in
    let both = risen (sum_by faults_of xs) (sum_by faults_of ys) (faults_of x) (faults_of y) rest first in
    let all = sum_by-cons faults_of x xs in
    let now = sum_by-cons faults_of y ys in
    subst (λ n. Rose n (sum_by faults_of (y ∷ ys))) (omega (arith, all)) (subst (Rose (sum_by faults_of xs + faults_of x)) (omega (arith, now)) both)

-- ---- devices in their slots

module _ {L B : Type 0} (part : L → Value) (store : B → Value) (part_faults : L → ℕ) (store_faults : B → ℕ)
    (parts_show : (one : L) → faults_of (part one) ≡ part_faults one) (stores_show : (one : B) → faults_of (store one) ≡ store_faults one) where
  shown_counts : {X : Type 0} (value : X → Value) (count : X → ℕ) → ((one : X) → faults_of (value one) ≡ count one) → (xs : List X) → sum_by faults_of (map value xs) ≡ sum_by count xs
  shown_counts value count shows [] = refl
  shown_counts value count shows (x ∷ xs) =
      sum_by-cons faults_of (value x) (map value xs) ∙ ap₂ (λ m n. m + n) (shows x) (shown_counts value count shows xs) ∙ sym (sum_by-cons count x xs)

  pub parts_count : (parts : List L) → sum_by faults_of (map part parts) ≡ sum_by part_faults parts
  parts_count parts = shown_counts part part_faults parts_show parts

  buffers_count : (buffers : List (Option PageBuffer)) → sum_by faults_of (map buffer_value buffers) ≡ 0
  buffers_count [] = refl
  buffers_count (None ∷ rest) =
      let all : sum_by faults_of (map buffer_value (None ∷ rest)) ≡ 0 + sum_by faults_of (map buffer_value rest) = sum_by-cons faults_of (buffer_value None) (map buffer_value rest) in
      let none = buffers_count rest in
      omega (arith, all, none)
  buffers_count (Some buffer ∷ rest) =
      let all : sum_by faults_of (map buffer_value (Some buffer ∷ rest)) ≡ 0 + sum_by faults_of (map buffer_value rest) = sum_by-cons faults_of (buffer_value (Some buffer)) (map buffer_value rest) in
      let none = buffers_count rest in
      omega (arith, all, none)

  -- what the slots show is how often parts and stores failed
  pub slots_count : (parts : List L) (stores : List B) (buffers : List (Option PageBuffer))
      → sum_by faults_of (map (slot_value part store) (in_slots parts stores buffers)) ≡ sum_by part_faults parts + sum_by store_faults stores
  slots_count parts stores buffers =
      let a = sum_by-append faults_of (map part parts ++ map store stores) (map buffer_value buffers) in
      let b = sum_by-append faults_of (map part parts) (map store stores) in
      let c = parts_count parts in
      let d = shown_counts store store_faults stores_show stores in
      let e = buffers_count buffers in
      ap (sum_by faults_of) (shown_slots part store parts stores buffers) ∙ omega (arith, a, b, c, d, e)

-- ---- a count that rose is one of a device of the mount

module _ (sound : RunsAreSound) (others : EventsLeaveOthers) (words : StepsAreOnWords) (opened : Opened) (mount : IsMount (mount_of opened)) (run : List Event) (is_run : IsRunOf opened run)
    (many : length opened.slots ≡ slot_total opened.sizes) where
  abbrev now : Word → ℕ
  now cell = faults_of ((state_of opened run).values cell)

  abbrev before : ℕ → ℕ
  before slot = faults_of (get_or opened.slots slot Bare)

  is_sound : Sound opened.sizes (mount_of opened).values (state_of opened run)
  is_sound = sound (mount_of opened) run mount is_run

  -- what a slot held is what its cell kept
  pub grew : (slot : ℕ) → slot < slot_total opened.sizes → before slot ≤ now (cell_of opened.sizes slot)
  grew slot less =
      subst (λ place. faults_of (held_in opened.slots place) ≤ now (cell_of opened.sizes slot)) (slot_there opened.sizes slot less).0 (is_sound.stop.never_fell (cell_of opened.sizes slot))

  pub record HasRisen : Type 0 where
    pub slot : ℕ
    pub within : slot < slot_total opened.sizes
    pub rose : Rose (before slot) (now (cell_of opened.sizes slot))

  none_rose : Rose 0 0 → ⊥
  none_rose rose = let more = rose.more in omega (arith, more)

  no_device : (value : Value) → sort_of value ≡ 0 → faults_of value ≡ 0
  no_device Bare is = refl
  no_device (APart device spares) is = absurd (omega (arith, is))
  no_device (AStore device) is = absurd (omega (arith, is))
  no_device (ABuffer buffer) is = refl

  -- a cell that kept nothing has no count
  bare_cell : (cell : Word) → held_in opened.slots (slot_of_cell opened.sizes cell) ≡ Bare → Rose (faults_of (held_in opened.slots (slot_of_cell opened.sizes cell))) (now cell) → ⊥
  bare_cell cell bare rose =
      let none : now cell ≡ 0 = no_device ((state_of opened run).values cell) (same_sort opened.sizes (opening (mount_of opened)) run cell ∙ ap sort_of bare) in
      none_rose (subst (Rose 0) none (subst (λ v. Rose (faults_of v) (now cell)) bare rose))

  past_end : (slots : List Value) (slot : ℕ) → length slots ≤ slot → get_or slots slot Bare ≡ Bare
  past_end [] slot far = refl
  past_end (first ∷ rest) zero far = absurd (omega arith)
  past_end (first ∷ rest) (suc slot) far = past_end rest slot (omega arith)

  at_slot : (cell : Word) (slot : ℕ) → slot_of_cell opened.sizes cell ≡ Some slot → (IsWord opened.sizes cell ⊎ (IsWord opened.sizes cell → ⊥)) → Rose (faults_of (held_in opened.slots (slot_of_cell opened.sizes cell))) (now cell) → HasRisen
  at_slot cell slot at is rose = elim (cases_lt slot (slot_total opened.sizes)) [
    | inl less ↦ record {
      slot = slot;
      within = less;
      rose = elim is [
        | inl word ↦ subst (λ c. Rose (before slot) (now c)) (sym (cell_there opened.sizes cell slot word at).1) here
        | inr none ↦
            let same : now cell ≡ before slot =
            ap faults_of (stays sound others words opened mount cell none [] run is_run) ∙ ap (λ place. faults_of (held_in opened.slots place)) at in
            let high = here.more in
            let more = grew slot less in
            record { never_falls = more; more = omega (arith, high, same, more) }
      ];
    }
    | inr far ↦ absurd (bare_cell cell (ap (held_in opened.slots) at ∙ past_end opened.slots slot (omega (arith, many, far))) rose)
  ]
    where
      here : Rose (before slot) (now cell)
      here = subst (λ place. Rose (faults_of (held_in opened.slots place)) (now cell)) at rose

  below : (n count : ℕ) → (n < count) ⊎ (n < count → ⊥)
  below n count = elim (cases_lt n count) [ inl less ↦ inl less | inr more ↦ inr (λ less. omega arith) ]

  by_cell : (cell : Word) → Rose (faults_of (held_in opened.slots (slot_of_cell opened.sizes cell))) (now cell) → HasRisen
  by_cell HEADER rose = at_slot HEADER 0 refl (inl tt) rose
  by_cell (ENTRY entry) rose = at_slot (ENTRY entry) (1 + entry) refl (below entry opened.sizes.entries) rose
  by_cell (STORE file) rose = at_slot (STORE file) (1 + opened.sizes.entries + file) refl (below file opened.sizes.files) rose
  by_cell (PAGE page) rose = at_slot (PAGE page) (1 + opened.sizes.entries + opened.sizes.files + page) refl (below page (page_total opened.sizes)) rose
  by_cell cell rose = absurd (bare_cell cell refl rose)

  -- where STOP is set one of them did
  pub stopped_risen : (state_of opened run).words STOP ≡ 1 → HasRisen
  stopped_risen stop = let failed = is_sound.stop.stopped stop in by_cell failed.cell failed.rose

-- A cleaner's operations: where it stands by the one that it makes, and the entry that it makes it on.
use Rattle.std.proofs.Common.{◌≡◌, ◌≢◌, ℕ, zero, suc, ◌+◌, ◌<◌, ◌≤◌, nat_lt, nat_le, ◌&&◌, ◌==◌, if◌then◌else◌, List, [], ◌∷◌, length, Option, refl, sym, ap, subst, ◌∙◌, arith}
use Rattle.std.specs.Prelude.{Some, None, slice_index}
use Rattle.std.proofs.lemmas.Bool.{lt-ltb, le-ltb, le-leb, and_from, eq-eqb}
use Rattle.nv_core.specs.state.Words.{Sizes, Word, HEAD, TAIL, CLEANER, ENTRY, CLEANUP, kind_of, page_of, is_lock, ready, held, cleaned}
use Rattle.nv_core.specs.state.Cleaner.{Batch, CleanerControl, TakeHeader, LoadTail, CleanEntry, SubtractDirty, RefusedReturnEntry, FailedReturnEntry, FreeEntry, AdvanceTail, GiveStores, GiveHeader, GiveCleaner, SetStop, CleanerOp, TakeCleaner, Clean, Subtract, Free, MoveTail}
use Rattle.nv_core.specs.state.Cleaner as cleaner
use Rattle.nv_core.specs.steps.CleanerSteps.{next_cleaner_op, last_taken, next_store, group_page}
use Rattle.nv_core.specs.invariant.CleanerOwnership.{count_in, of_cleaner_cleanup}
use Rattle.nv_core.specs.invariant.CleanerNumbers.{IsCleaned, IsFreed}
use Rattle.nv_core.specs.state.Passes.{Control, Idle, Cleaning, Pass, times}
use Rattle.nv_core.specs.steps.Ops.{ByCleaner}
use Rattle.nv_core.specs.steps.Order.{Values}
use Rattle.nv_core.specs.steps.StepKinds.{CleanerEnabled}
use Rattle.nv_core.specs.state.Core.{Core}
use Rattle.nv_core.proofs.steps.ByKind.{FoundEnabledByKind}
use Rattle.nv_core.specs.invariant.ControlFacts.{FactsAt, CleanerFactsAt}
use Rattle.nv_core.specs.invariant.Ownership.{HoldsLocks}
use Rattle.nv_core.specs.invariant.LogWindow.{InWindow, entry_word_at}
use Rattle.nv_core.specs.log.Progress.{HasLoadedTail, IsBeforeTail, KindAt, IsBatchUnderWay}
use Rattle.nv_core.specs.invariant.Sound.{Sound}
use Rattle.nv_core.proofs.state.Changes.{differ}
use Rattle.nv_core.proofs.invariant.LockLaws.{only_holder}
use Rattle.nv_core.proofs.state.Choices.{if_both, when_true, when_false}
use Rattle.nv_core.proofs.steps.AtCall.{Unswept}

-- ---- where a cleaner stands

-- its step there cleans no entry, frees none, and moves neither TAIL nor STOP
abbrev pub IsSteady : CleanerControl → Type 0
IsSteady (CleanEntry i) = ⊥
IsSteady (FreeEntry number) = ⊥
IsSteady AdvanceTail = ⊥
IsSteady (SetStop many) = ⊥
IsSteady inner = Unit {0}

-- the entry of this place of the group at hand is made ready again next
pub data IsDropping (batch : Batch) (inner : CleanerControl) (number : ℕ) : Type 0 where
  CleanerReturn_it : (i end : ℕ) → inner ≡ RefusedReturnEntry i end → number ≡ batch.reached + i → IsDropping batch inner number
  Undoes_it : (i end : ℕ) → inner ≡ FailedReturnEntry i end → number ≡ batch.reached + i → IsDropping batch inner number

-- by its step
abbrev pub MadeAt : Batch → CleanerControl → CleanerOp → Type 0
MadeAt batch inner (TakeCleaner most) = ⊥
MadeAt batch inner (cleaner.Hold number) = (i : ℕ) × (inner ≡ cleaner.HoldEntry i) × (number ≡ batch.reached + i)
MadeAt batch inner (cleaner.Return number) = IsDropping batch inner number
MadeAt batch inner (Clean number) = (i : ℕ) × (inner ≡ CleanEntry i) × (number ≡ batch.reached + i)
MadeAt batch inner (Subtract page) = (i : ℕ) × (inner ≡ SubtractDirty i) × (page ≡ group_page batch i)
MadeAt batch inner (Free number) = inner ≡ FreeEntry number
MadeAt batch inner (MoveTail tail) = (inner ≡ AdvanceTail) × (tail ≡ batch.reached)
MadeAt batch inner cleaner.Stop = (many : ℕ) × (inner ≡ SetStop many)
MadeAt batch inner cleaner_op = IsSteady inner

abbrev MadeBy : Batch → CleanerControl → Option CleanerOp → Type 0
MadeBy batch inner None = Unit {0}
MadeBy batch inner (Some cleaner_op) = MadeAt batch inner cleaner_op

store_made : (batch : Batch) (files : List ℕ) → MadeBy batch (GiveStores files) (next_store files)
store_made batch [] = tt
store_made batch (file ∷ rest) = tt

last_made : (batch : Batch) (owned : List Word) → MadeBy batch cleaner.GiveBack (last_taken owned)
last_made batch [] = tt
last_made batch (cell ∷ rest) = if_both (MadeBy batch cleaner.GiveBack) (is_lock cell) (Some (cleaner.Give cell)) None (λ _. tt) (λ _. tt)

made_at : (sizes : Sizes) (owned : List Word) (batch : Batch) (inner : CleanerControl) → MadeBy batch inner (next_cleaner_op sizes owned batch inner)
made_at sizes owned batch (cleaner.HoldEntry i) = (i, refl, refl)
made_at sizes owned batch (CleanEntry i) = (i, refl, refl)
made_at sizes owned batch (SubtractDirty i) = (i, refl, refl)
made_at sizes owned batch (RefusedReturnEntry i end) = CleanerReturn_it i end refl refl
made_at sizes owned batch (FailedReturnEntry i end) = Undoes_it i end refl refl
made_at sizes owned batch (FreeEntry number) = refl
made_at sizes owned batch AdvanceTail = (refl, refl)
made_at sizes owned batch (SetStop many) = (many, refl)
made_at sizes owned batch (GiveStores files) = store_made batch files
made_at sizes owned batch cleaner.GiveBack = last_made batch owned
made_at sizes owned batch inner = tt

pub record IsTending (pass : Pass) (cleaner_op : CleanerOp) : Type 0 where
  pub batch : Batch
  pub inner : CleanerControl
  pub control : pass.control ≡ Cleaning batch inner
  pub made : MadeAt batch inner cleaner_op

-- a step that doesn't begin a batch
abbrev pub IsMidway : CleanerOp → Type 0
IsMidway (TakeCleaner most) = ⊥
IsMidway cleaner_op = Unit {0}

pub tending : (sizes : Sizes) (pass : Pass) (cleaner_op : CleanerOp) → IsMidway cleaner_op → CleanerEnabled sizes pass cleaner_op pass.control → IsTending pass cleaner_op
tending sizes pass cleaner_op midway may = go cleaner_op midway pass.control refl may
  where
    go : (cleaner_op : CleanerOp) → IsMidway cleaner_op → (control : Control) → pass.control ≡ control → CleanerEnabled sizes pass cleaner_op control → IsTending pass cleaner_op
    go cleaner_op midway (Cleaning batch inner) at may = record { batch = batch; inner = inner; control = at; made = subst (MadeBy batch inner) may (made_at sizes pass.owned batch inner) }
    go (TakeCleaner most) midway control at may = absurd midway
    go cleaner_op midway control at may = absurd may

-- a batch is begun by a pass without one
pub entering : (sizes : Sizes) (pass : Pass) (most : ℕ) → CleanerEnabled sizes pass (TakeCleaner most) pass.control → pass.control ≡ Idle
entering sizes pass most may = go pass.control refl may
  where
    go : (control : Control) → pass.control ≡ control → CleanerEnabled sizes pass (TakeCleaner most) control → pass.control ≡ Idle
    go Idle at may = at
    go (Cleaning batch inner) at may = absurd (subst (MadeBy batch inner) may (made_at sizes pass.owned batch inner))
    go control at may = absurd may

-- ---- one cleaner

-- a cleaner that has footed holds CLEANER
pub cleaner_one : (sizes : Sizes) (pass : Pass) (batch : Batch) (inner : CleanerControl) → HasLoadedTail inner → HoldsLocks sizes pass (Cleaning batch inner) → times CLEANER pass.owned ≡ 1
cleaner_one sizes pass batch cleaner.GiveBack tail_loaded holds = absurd tail_loaded
cleaner_one sizes pass batch inner tail_loaded holds = holds CLEANER (λ slot. differ CLEANER (ENTRY slot) refl)

pub freed_tail_loaded : (batch : Batch) (inner : CleanerControl) (number : ℕ) → IsFreed (Cleaning batch inner) number → HasLoadedTail inner
freed_tail_loaded batch (FreeEntry next) number is = tt
freed_tail_loaded batch AdvanceTail number is = tt
freed_tail_loaded batch inner number is = absurd is

-- a list has each of its places
pub count_some : (pages : List ℕ) (i : ℕ) → i < length pages → 1 ≤ count_in pages (slice_index pages i)
count_some [] i within = absurd (omega (arith, within))
count_some (first ∷ rest) zero within = let e : ◌≡◌ {A = ℕ} (if first == first then 1 else 0) 1 = when_true (first == first) 1 0 (eq-eqb first first refl) in omega (arith, e)
count_some (first ∷ rest) (suc i) within = let again = count_some rest i (omega (arith, within)) in omega (arith, again)

module _ (sizes : Sizes) (first : Values) (core : Core) (sound : Sound sizes first core) where
  pub tail_loaded_cleaner : (by : ℕ) (batch : Batch) (inner : CleanerControl) → (core.passes by).control ≡ Cleaning batch inner → HasLoadedTail inner → times CLEANER (core.passes by).owned ≡ 1
  tail_loaded_cleaner by batch inner at tail_loaded = cleaner_one sizes (core.passes by) batch inner tail_loaded (subst (HoldsLocks sizes (core.passes by)) at (sound.ownership by).locks)

  -- a cleaner that has not loaded TAIL has a new batch
  pub fresh_none : (by : ℕ) (batch : Batch) (inner : CleanerControl) → (core.passes by).control ≡ Cleaning batch inner → IsBeforeTail inner → batch.reached ≡ batch.tail
  fresh_none by batch inner at fresh = let e = sound.grouped.progress.fresh by batch inner at fresh in ap (λ (b : Batch). b.reached) e ∙ sym (ap (λ (b : Batch). b.tail) e)

  -- who has cleaned or freed an entry has footed
  pub cleaned_tail_loaded : (by : ℕ) (batch : Batch) (inner : CleanerControl) (number : ℕ) → (core.passes by).control ≡ Cleaning batch inner → IsCleaned (Cleaning batch inner) number → HasLoadedTail inner
  cleaned_tail_loaded by batch TakeHeader number at is = let e = fresh_none by batch TakeHeader at tt in let l = is.0 in let h = is.1 in omega (arith, e, l, h)
  cleaned_tail_loaded by batch cleaner.LoadStop number at is = let e = fresh_none by batch cleaner.LoadStop at tt in let l = is.0 in let h = is.1 in omega (arith, e, l, h)
  cleaned_tail_loaded by batch LoadTail number at is = let e = fresh_none by batch LoadTail at tt in let l = is.0 in let h = is.1 in omega (arith, e, l, h)
  cleaned_tail_loaded by batch (GiveStores files) number at is = let l = is.0 in let h = is.1 in omega (arith, l, h)
  cleaned_tail_loaded by batch GiveHeader number at is = let l = is.0 in let h = is.1 in omega (arith, l, h)
  cleaned_tail_loaded by batch GiveCleaner number at is = let l = is.0 in let h = is.1 in omega (arith, l, h)
  cleaned_tail_loaded by batch cleaner.GiveBack number at is = let l = is.0 in let h = is.1 in omega (arith, l, h)
  cleaned_tail_loaded by batch inner number at is = tt

  -- no other pass has cleaned or freed an entry
  pub sole_cleaner : (by : ℕ) (batch : Batch) (inner : CleanerControl) → (core.passes by).control ≡ Cleaning batch inner → HasLoadedTail inner → (n : ℕ) → n ≢ by → Unswept (core.passes n).control
  sole_cleaner by batch inner at tail_loaded n ne = go (core.passes n).control refl
    where
      not_two : (other : Batch) (there : CleanerControl) → (core.passes n).control ≡ Cleaning other there → HasLoadedTail there → ⊥
      not_two other there is stood =
          let one = tail_loaded_cleaner by batch inner at tail_loaded in
          let two = tail_loaded_cleaner n other there is stood in
          let none = (only_holder (sound.locks.keyed CLEANER) by (omega (arith, one))).2 n ne in omega (arith, none, two)

      go : (control : Control) → (core.passes n).control ≡ control → Unswept control
      go (Cleaning other there) is number = (λ f. not_two other there is (freed_tail_loaded other there number f), λ c. not_two other there is (cleaned_tail_loaded n other there number is c))
      go control is number = (λ z. z, λ z. z)

  -- ---- the entry of a step

  -- it is in the window, of a kind, and CLEANUP of its page is held
  pub record IsAtHand (by number kind : ℕ) : Type 0 where
    pub within : InWindow core number
    pub kind_is : kind_of (entry_word_at sizes core number) ≡ kind
    pub cleanup : 1 ≤ times (CLEANUP (page_of (entry_word_at sizes core number))) (core.passes by).owned

  under_way : (by : ℕ) (batch : Batch) (inner : CleanerControl) → (core.passes by).control ≡ Cleaning batch inner → HasLoadedTail inner → IsBatchUnderWay sizes sound.grouped.log core batch inner
  under_way by batch inner at tail_loaded = sound.grouped.progress.each by batch inner at tail_loaded

  -- that of a place of the group at hand, where it holds the CLEANUPs of the group
  at_hand : (by number kind : ℕ) (batch : Batch) (inner : CleanerControl) (i : ℕ) → (core.passes by).control ≡ Cleaning batch inner → HasLoadedTail inner → number ≡ batch.reached + i → i < length batch.pages
      → ((k : ℕ) → KindAt inner i k → k ≡ kind) → times (CLEANUP (group_page batch i)) (core.passes by).owned ≡ count_in batch.pages (group_page batch i) → IsAtHand by number kind
  at_hand by number kind batch inner i at tail_loaded is within kinds held =
      let looked = (under_way by batch inner at tail_loaded).looked i within in
      subst (λ n. IsAtHand by n kind) (sym is) record {
        within = looked.within;
        kind_is = kinds (kind_of (entry_word_at sizes core (batch.reached + i))) looked.kind;
        cleanup = subst (λ p. 1 ≤ times (CLEANUP p) (core.passes by).owned) (sym looked.page) (let c = count_some batch.pages i within in omega (arith, c, held));
      }

  cleanup_held : (by page : ℕ) (batch : Batch) (inner : CleanerControl) → (core.passes by).control ≡ Cleaning batch inner → (HoldsLocks sizes (core.passes by) (Cleaning batch inner) → times (CLEANUP page) (core.passes by).owned ≡ of_cleaner_cleanup batch inner page)
      → times (CLEANUP page) (core.passes by).owned ≡ of_cleaner_cleanup batch inner page
  cleanup_held by page batch inner at from = from (subst (HoldsLocks sizes (core.passes by)) at (sound.ownership by).locks)

  stands_at : (by : ℕ) (batch : Batch) (inner : CleanerControl) → (core.passes by).control ≡ Cleaning batch inner → CleanerFactsAt batch (core.passes by).owned inner
  stands_at by batch inner at = subst (FactsAt sizes (core.passes by)) at (sound.control_facts by).at

  pub cleaner_hold_hand : (by found number : ℕ) → FoundEnabledByKind sizes by core (ByCleaner (cleaner.Hold number)) found → IsAtHand by number ready
  cleaner_hold_hand by found number may = go t.control t.made
    where
      t : IsTending (core.passes by) (cleaner.Hold number)
      t = tending sizes (core.passes by) (cleaner.Hold number) tt may.may

      go : (core.passes by).control ≡ Cleaning t.batch t.inner → (i : ℕ) × (t.inner ≡ cleaner.HoldEntry i) × (number ≡ t.batch.reached + i) → IsAtHand by number ready
      go at made =
          let here : (core.passes by).control ≡ Cleaning t.batch (cleaner.HoldEntry made.0) = at ∙ ap (Cleaning t.batch) made.1 in
          at_hand by number ready t.batch (cleaner.HoldEntry made.0) made.0 here tt made.2 (stands_at by t.batch (cleaner.HoldEntry made.0) here)
          (λ k is. is ∙ when_false (nat_lt made.0 made.0) held ready (le-ltb made.0 made.0 (omega arith)))
          (cleanup_held by (group_page t.batch made.0) t.batch (cleaner.HoldEntry made.0) here (λ holds. holds (CLEANUP (group_page t.batch made.0)) (λ slot. differ (CLEANUP (group_page t.batch made.0)) (ENTRY slot) refl)))

  pub cleans_hand : (by found number : ℕ) → FoundEnabledByKind sizes by core (ByCleaner (Clean number)) found → IsAtHand by number held
  cleans_hand by found number may = go t.control t.made
    where
      t : IsTending (core.passes by) (Clean number)
      t = tending sizes (core.passes by) (Clean number) tt may.may

      go : (core.passes by).control ≡ Cleaning t.batch t.inner → (i : ℕ) × (t.inner ≡ CleanEntry i) × (number ≡ t.batch.reached + i) → IsAtHand by number held
      go at made =
          let here : (core.passes by).control ≡ Cleaning t.batch (CleanEntry made.0) = at ∙ ap (Cleaning t.batch) made.1 in
          at_hand by number held t.batch (CleanEntry made.0) made.0 here tt made.2 (stands_at by t.batch (CleanEntry made.0) here)
          (λ k is. is ∙ when_false (nat_lt made.0 made.0) cleaned held (le-ltb made.0 made.0 (omega arith)))
          (cleanup_held by (group_page t.batch made.0) t.batch (CleanEntry made.0) here (λ holds. holds (CLEANUP (group_page t.batch made.0)) (λ slot. differ (CLEANUP (group_page t.batch made.0)) (ENTRY slot) refl)))

  in_row : (i end k : ℕ) → i < end → k ≡ (if nat_le i i && nat_lt i end then held else ready) → k ≡ held
  in_row i end k less is = is ∙ when_true (nat_le i i && nat_lt i end) held ready (and_from (nat_le i i) (nat_lt i end) (le-leb i i (omega arith)) (lt-ltb i end less))

  pub cleaner_return_hand : (by found number : ℕ) → FoundEnabledByKind sizes by core (ByCleaner (cleaner.Return number)) found → IsAtHand by number held
  cleaner_return_hand by found number may = go t.control t.made
    where
      t : IsTending (core.passes by) (cleaner.Return number)
      t = tending sizes (core.passes by) (cleaner.Return number) tt may.may

      go : (core.passes by).control ≡ Cleaning t.batch t.inner → IsDropping t.batch t.inner number → IsAtHand by number held
      go at (CleanerReturn_it i end is made) =
          let here : (core.passes by).control ≡ Cleaning t.batch (RefusedReturnEntry i end) = at ∙ ap (Cleaning t.batch) is in
          let stands : (i < end) × (end ≤ length t.batch.pages) = stands_at by t.batch (RefusedReturnEntry i end) here in
          at_hand by number held t.batch (RefusedReturnEntry i end) i here tt made (let a = stands.0 in let b = stands.1 in omega (arith, a, b)) (λ k is. in_row i end k stands.0 is)
          (cleanup_held by (group_page t.batch i) t.batch (RefusedReturnEntry i end) here (λ holds. holds (CLEANUP (group_page t.batch i)) (λ slot. differ (CLEANUP (group_page t.batch i)) (ENTRY slot) refl)))
      go at (Undoes_it i end is made) =
          let here : (core.passes by).control ≡ Cleaning t.batch (FailedReturnEntry i end) = at ∙ ap (Cleaning t.batch) is in
          let stands : (i < end) × (end ≤ length t.batch.pages) = stands_at by t.batch (FailedReturnEntry i end) here in
          at_hand by number held t.batch (FailedReturnEntry i end) i here tt made (let a = stands.0 in let b = stands.1 in omega (arith, a, b)) (λ k is. in_row i end k stands.0 is)
          (cleanup_held by (group_page t.batch i) t.batch (FailedReturnEntry i end) here (λ holds. holds (CLEANUP (group_page t.batch i)) (λ slot. differ (CLEANUP (group_page t.batch i)) (ENTRY slot) refl)))

  -- one that is freed was cleaned by the pass that frees it
  pub record IsAtFree (by number : ℕ) : Type 0 where
    pub batch : Batch
    pub control : (core.passes by).control ≡ Cleaning batch (FreeEntry number)
    pub low : batch.tail ≤ number
    pub high : number < batch.reached
    pub within : InWindow core number
    pub kind_is : kind_of (entry_word_at sizes core number) ≡ cleaned

  pub frees_hand : (by found number : ℕ) → FoundEnabledByKind sizes by core (ByCleaner (Free number)) found → IsAtFree by number
  frees_hand by found number may = record { batch = t.batch; control = here; low = stands.0; high = stands.1; within = sound.window.cleaned_in by number is; kind_is = sound.window.cleaned_is by number is }
    where
      t : IsTending (core.passes by) (Free number)
      t = tending sizes (core.passes by) (Free number) tt may.may

      here : (core.passes by).control ≡ Cleaning t.batch (FreeEntry number)
      here = t.control ∙ ap (Cleaning t.batch) t.made

      stands : (t.batch.tail ≤ number) × (number < t.batch.reached)
      stands = stands_at by t.batch (FreeEntry number) here

      is : IsCleaned (core.passes by).control number
      is = subst (λ s. IsCleaned s number) (sym here) (omega arith, let h = stands.1 in omega (arith, h))

  -- TAIL moves over what the pass has freed
  pub record IsAtTail (by tail : ℕ) : Type 0 where
    pub batch : Batch
    pub control : (core.passes by).control ≡ Cleaning batch AdvanceTail
    pub is : tail ≡ batch.reached
    pub was : batch.tail ≡ core.words TAIL
    pub low : core.words TAIL ≤ tail
    pub high : tail ≤ core.words HEAD

  pub retires_hand : (by found tail : ℕ) → FoundEnabledByKind sizes by core (ByCleaner (MoveTail tail)) found → IsAtTail by tail
  retires_hand by found tail may = record {
    batch = t.batch;
    control = here;
    is = t.made.1;
    was = way.tail;
    low = let a = way.tail in let b = way.low in let c = t.made.1 in omega (arith, a, b, c);
    high = let b = way.high in let c = t.made.1 in omega (arith, b, c);
  }
    where
      t : IsTending (core.passes by) (MoveTail tail)
      t = tending sizes (core.passes by) (MoveTail tail) tt may.may

      here : (core.passes by).control ≡ Cleaning t.batch AdvanceTail
      here = t.control ∙ ap (Cleaning t.batch) t.made.0

      way : IsBatchUnderWay sizes sound.grouped.log core t.batch AdvanceTail
      way = under_way by t.batch AdvanceTail here tt

-- Facts: what the invariant says of a batch by where it stands.
use Rattle.std.proofs.Common.{◌≡◌, ◌≢◌, ℕ, zero, suc, ◌+◌, ◌-◌, ◌<◌, ◌≤◌, Bool, true, false, if◌then◌else◌, List, [], ◌∷◌, length, refl, ap, subst, ◌∙◌, arith}
use Rattle.std.specs.Prelude.{Some}
use Rattle.nv_plain.specs.Layouts.{mount_layout}
use Rattle.nv_core.specs.state.Words.{Sizes, Word, ENTRY, IsWord}
use Rattle.nv_core.specs.state.Cleaner.{Batch, CleanerControl, CleanerOp as CoreCleanerOp}
use Rattle.nv_core.specs.state.Cleaner as cleaner
use Rattle.nv_core.specs.state.Core.{Core}
use Rattle.nv_core.specs.state.Passes.{Cleaning, IsFilling, IsHeldEntry, times}
use Rattle.nv_core.specs.steps.CleanerSteps.{cleaner_word, count_of, may_pass, holds_store, next_cleaner_op, rising_files, syncing}
use Rattle.nv_core.specs.steps.Order.{Values}
use Rattle.nv_core.specs.invariant.ControlFacts.{CleanerFactsAt, FactsAt}
use Rattle.nv_core.specs.invariant.LogWindow.{InWindow}
use Rattle.nv_core.specs.invariant.Ownership.{HoldsLocks, Ownership}
use Rattle.nv_core.specs.invariant.Sound.{Sound}
use Rattle.nv_core.specs.log.Progress.{HasLoadedTail, HasWholeGroup, IsBatchUnderWay}
use Rattle.nv_core.proofs.invariant.LockLaws.{times_here}
use Rattle.nv_clean.specs.declared.batch.CleanControl.{CleanControl}
use Rattle.nv_clean.specs.declared.batch.CleanControl.TheVariants as cleans
use Rattle.nv_clean.specs.Cleaning.{ComesBehind, IsLow, IsPlace, FitsAt, OwnsAt, IsLockFirst, control_at, inner_at}
use Rattle.nv_clean.specs.OwnedCells.{most_cells}
use Rattle.nv_clean.proofs.RoomLaws.{count_taken, owns_few}

-- ENTRY of a leader that is passed says how many entries its group has, and it is known at its followers'
abbrev pub IsCounted : Batch → CleanControl → (found : ℕ) → Type 0
IsCounted batch (cleans.LoadEntry i) found = (i ≡ 0 → may_pass batch found ≡ true → (1 ≤ count_of found) × (count_of found ≤ mount_layout.group_limit)) × (i ≢ 0 → i < batch.count)
IsCounted batch control found = Unit {0}

-- what comes behind device calls loads no ENTRY
pub behind_counted : (batch : Batch) (control : CleanControl) (found : ℕ) → ComesBehind control → IsCounted batch control found
behind_counted batch (cleans.HoldEntry i) found comes = tt
behind_counted batch (cleans.CleanEntry i) found comes = tt
behind_counted batch (cleans.ReturnEntry i end) found comes = tt
behind_counted batch (cleans.FreeEntry number) found comes = tt
behind_counted batch control found comes = absurd comes

at_most_one : (b : Bool) → (if b then 1 else 0) ≤ 1
at_most_one true = omega arith
at_most_one false = omega arith

module _ (sizes : Sizes) (first : Values) (core : Core) (by : ℕ) (sound : Sound sizes first core) (batch : Batch) where
  abbrev Is : CleanerControl → Type 0
  Is inner = (core.passes by).control ≡ Cleaning batch inner

  facts : (inner : CleanerControl) → Is inner → CleanerFactsAt batch (core.passes by).owned inner
  facts inner at = subst (FactsAt sizes (core.passes by)) at (sound.control_facts by).at

  way : (inner : CleanerControl) → Is inner → HasLoadedTail inner → IsBatchUnderWay sizes sound.grouped.log core batch inner
  way inner at loaded = sound.grouped.progress.each by batch inner at loaded

  low : (inner : CleanerControl) → Is inner → HasLoadedTail inner → IsLow batch
  low inner at loaded = let w = way inner at loaded in record { low = w.low; small = let h = w.high in let s = sound.window.small in omega (arith, h, s) }

  place : (inner : CleanerControl) → Is inner → HasLoadedTail inner → (i : ℕ) → i < length batch.pages → IsPlace batch i
  place inner at loaded i within = record {
    low = low inner at loaded;
    within = within;
    small = let there : InWindow core (batch.reached + i) = ((way inner at loaded).looked i within).within in let high = there.1 in let s = sound.window.small in omega (arith, high, s);
  }

  -- its group has an entry, and is no larger than one may be
  pub counts : (inner : CleanerControl) → Is inner → HasLoadedTail inner → 0 < length batch.pages → (1 ≤ batch.count) × (batch.count ≤ mount_layout.group_limit)
  counts inner at loaded some =
      let w = way inner at loaded in
      let there : InWindow core (batch.reached + 0) = (w.looked 0 some).within in
      let same_number : batch.reached + 0 ≡ batch.reached = omega arith in
      let group = sound.grouped.groups.each batch.reached (subst (InWindow core) same_number there) in
      let count = w.count some in
      let least = group.drawn.some in
      let many = group.drawn.many in
      let short = group.allowed.short in
      (omega (arith, count, least), omega (arith, count, many, short))

  few : (inner : CleanerControl) → Is inner → HasLoadedTail inner → 0 < length batch.pages → batch.count ≤ mount_layout.group_limit
  few inner at loaded some = (counts inner at loaded some).1

  whole_few : (inner : CleanerControl) → Is inner → HasLoadedTail inner → HasWholeGroup inner → 0 < length batch.pages → length batch.pages ≤ mount_layout.group_limit
  whole_few inner at loaded whole some = let w = (way inner at loaded).whole whole in let f = few inner at loaded some in omega (arith, w, f)

  -- ---- its numbers

  pub retires : (files : List ℕ) → (core.passes by).control ≡ syncing batch files → IsLow batch × (batch.tail < batch.reached)
  retires [] at = (low (cleaner.MoveHeaderTail 0) at tt, (facts (cleaner.MoveHeaderTail 0) at).1)
  retires (file ∷ rest) at = (low (cleaner.SyncStores (file ∷ rest)) at tt, (facts (cleaner.SyncStores (file ∷ rest)) at).1)

  pub fits_at : (control : CleanControl) → (core.passes by).control ≡ control_at sizes batch control
      → ((op : CoreCleanerOp) → next_cleaner_op sizes (core.passes by).owned batch (inner_at sizes batch control) ≡ Some op → IsWord sizes (cleaner_word sizes op)) → FitsAt sizes batch control
  fits_at (cleans.LoadEntry zero) at words = let f = facts (cleaner.LoadEntry zero) at in (low (cleaner.LoadEntry zero) at tt, f.0, omega arith)
  fits_at (cleans.LoadEntry (suc i)) at words =
      let f = facts (cleaner.LoadEntry (suc i)) at in let long = f.0 in let less = f.1 in
      let c = few (cleaner.LoadEntry (suc i)) at tt (omega (arith, long)) in (low (cleaner.LoadEntry (suc i)) at tt, f.0, omega (arith, less, c))
  fits_at (cleans.TakeCleanup i) at words = (facts (cleaner.TakeCleanup i) at, words _ refl)
  fits_at cleans.TakeStore at words = (facts cleaner.TakeStore at, words _ refl)
  fits_at (cleans.HoldEntry i) at words = place (cleaner.HoldEntry i) at tt i (facts (cleaner.HoldEntry i) at)
  fits_at (cleans.WriteBack i) at words = place (cleaner.ReadPiece i) at tt i (facts (cleaner.ReadPiece i) at)
  fits_at (cleans.CleanEntry i) at words = place (cleaner.CleanEntry i) at tt i (facts (cleaner.CleanEntry i) at)
  fits_at (cleans.SubtractDirty i) at words = place (cleaner.SubtractDirty i) at tt i (facts (cleaner.SubtractDirty i) at)
  fits_at (cleans.GiveCleanup i) at words = place (cleaner.GiveCleanup i) at tt i (facts (cleaner.GiveCleanup i) at)
  fits_at (cleans.ReturnEntry i end) at words =
      let f = facts (cleaner.RefusedReturnEntry i end) at in let a = f.0 in let b = f.1 in (place (cleaner.RefusedReturnEntry i end) at tt i (omega (arith, a, b)), a, b)
  fits_at (cleans.ReturnFailed i end) at words =
      let f = facts (cleaner.FailedReturnEntry i end) at in let a = f.0 in let b = f.1 in (place (cleaner.FailedReturnEntry i end) at tt i (omega (arith, a, b)), a, b)
  fits_at (cleans.UndoCleanup i) at words = facts (cleaner.RefusedGiveCleanup i) at
  fits_at cleans.Retire at words = retires (rising_files sizes batch) at
  fits_at (cleans.FreeEntry number) at words = (low (cleaner.FreeEntry number) at tt, (facts (cleaner.FreeEntry number) at).1)
  fits_at (cleans.GiveStore file) at words = words _ refl
  fits_at cleans.Begin at words = tt
  fits_at cleans.TakeHeader at words = tt
  fits_at cleans.LoadStop at words = tt
  fits_at cleans.LoadTail at words = tt
  fits_at cleans.LoadHead at words = tt
  fits_at cleans.AdvanceTail at words = tt
  fits_at cleans.GiveHeader at words = tt
  fits_at cleans.GiveCleaner at words = tt
  fits_at cleans.GiveBack at words = tt
  fits_at cleans.Over at words = tt

  -- the files whose STORE it holds are files of the mount
  pub stores_there : (inner : CleanerControl) → Is inner → HasLoadedTail inner → (file : ℕ) → holds_store batch file ≡ true → file < sizes.files
  stores_there inner at loaded = (way inner at loaded).files

  -- ---- its cells

  abbrev Locks : CleanerControl → Type 0
  Locks inner = HoldsLocks sizes (core.passes by) (Cleaning batch inner)

  locks_at : (inner : CleanerControl) → Is inner → Locks inner
  locks_at inner at = subst (HoldsLocks sizes (core.passes by)) at (sound.ownership by).locks

  far_store : (inner : CleanerControl) → Is inner → HasLoadedTail inner → (file : ℕ) → (file < sizes.files → ⊥) → ◌≡◌ {A = ℕ} (if holds_store batch file then 1 else 0) 0
  far_store inner at loaded file far = go (holds_store batch file) refl
    where
      go : (b : Bool) → holds_store batch file ≡ b → ◌≡◌ {A = ℕ} (if b then 1 else 0) 0
      go true is = absurd (far ((way inner at loaded).files file is))
      go false is = refl

  pub owns_at : sizes.files ≤ mount_layout.file_limit → (control : CleanControl) → (core.passes by).control ≡ control_at sizes batch control → OwnsAt (core.passes by).owned control
  owns_at limit cleans.TakeHeader at =
      let fresh = sound.grouped.progress.fresh by batch cleaner.TakeHeader at tt in
      let none = facts cleaner.TakeHeader at in
      let most = owns_few sizes first core by sound batch cleaner.TakeHeader at 0 (locks_at cleaner.TakeHeader at) (omega arith) (λ file. at_most_one (holds_store batch file))
      (λ file far. ap (λ (b : Batch). if holds_store b file then 1 else 0) fresh) (λ page. omega arith) (λ number held. absurd held) in
      omega (arith, limit, none, most)
  owns_at limit (cleans.TakeCleanup i) at =
      let some = facts (cleaner.TakeCleanup i) at in
      let short = whole_few (cleaner.TakeCleanup i) at tt tt (omega (arith, some)) in
      let most = owns_few sizes first core by sound batch (cleaner.TakeCleanup i) at 0 (locks_at (cleaner.TakeCleanup i) at) (omega arith) (λ file. at_most_one (holds_store batch file))
      (far_store (cleaner.TakeCleanup i) at tt) (count_taken batch.pages i) (λ number held. absurd held) in
      omega (arith, limit, short, most)
  owns_at limit cleans.TakeStore at =
      let some = facts cleaner.TakeStore at in
      let short = whole_few cleaner.TakeStore at tt tt some in
      let most = owns_few sizes first core by sound batch cleaner.TakeStore at 0 (locks_at cleaner.TakeStore at) (omega arith) (λ file. at_most_one (holds_store batch file))
      (far_store cleaner.TakeStore at tt) (λ page. omega arith) (λ number held. absurd held) in
      omega (arith, limit, short, most)
  owns_at limit (cleans.HoldEntry i) at =
      let some = facts (cleaner.HoldEntry i) at in
      let short = whole_few (cleaner.HoldEntry i) at tt tt (omega (arith, some)) in
      let most = owns_few sizes first core by sound batch (cleaner.HoldEntry i) at i (locks_at (cleaner.HoldEntry i) at) (omega arith) (λ file. at_most_one (holds_store batch file))
      (far_store (cleaner.HoldEntry i) at tt) (λ page. omega arith)
      (λ number held. let a = held.0 in let b = held.1 in (number - batch.reached, omega (arith, a, b), omega (arith, a))) in
      omega (arith, limit, some, short, most)
  owns_at limit cleans.GiveBack at = lock_first (core.passes by).owned refl
    where
      none_held : (slot : ℕ) → times (ENTRY slot) (core.passes by).owned ≡ 0
      none_held slot =
          let owns : Ownership sizes (core.passes by) = sound.ownership by in
          owns.none slot (λ number fills. absurd (subst (λ s. IsFilling s (core.passes by).first (core.passes by).entries number) at fills)) (λ number is. absurd (subst (λ s. IsHeldEntry s number) at is))

      lock_first : (owned : List Word) → (core.passes by).owned ≡ owned → IsLockFirst owned
      lock_first [] is = absurd (facts cleaner.GiveBack at is)
      lock_first (cell ∷ rest) is = λ slot entry.
          let none = none_held slot in
          let same_times : times (ENTRY slot) (core.passes by).owned ≡ times (ENTRY slot) (ENTRY slot ∷ rest) = ap (times (ENTRY slot)) is ∙ ap (λ c. times (ENTRY slot) (c ∷ rest)) entry in
          let here = times_here (ENTRY slot) rest in omega (arith, none, same_times, here)
  owns_at limit cleans.Begin at = tt
  owns_at limit cleans.LoadStop at = tt
  owns_at limit cleans.LoadTail at = tt
  owns_at limit cleans.LoadHead at = tt
  owns_at limit (cleans.LoadEntry i) at = tt
  owns_at limit (cleans.WriteBack i) at = tt
  owns_at limit (cleans.CleanEntry i) at = tt
  owns_at limit (cleans.SubtractDirty i) at = tt
  owns_at limit (cleans.GiveCleanup i) at = tt
  owns_at limit (cleans.ReturnEntry i end) at = tt
  owns_at limit (cleans.ReturnFailed i end) at = tt
  owns_at limit (cleans.UndoCleanup i) at = tt
  owns_at limit cleans.Retire at = tt
  owns_at limit (cleans.FreeEntry number) at = tt
  owns_at limit cleans.AdvanceTail at = tt
  owns_at limit (cleans.GiveStore file) at = tt
  owns_at limit cleans.GiveHeader at = tt
  owns_at limit cleans.GiveCleaner at = tt
  owns_at limit cleans.Over at = tt

  -- ---- an entry that is written back

  pub written_places : (i : ℕ) → Is (cleaner.ReadPiece i) → (j : ℕ) → j < length batch.pages → IsPlace batch j
  written_places i at = place (cleaner.ReadPiece i) at tt

  pub written_room : sizes.files ≤ mount_layout.file_limit → (i : ℕ) → Is (cleaner.ReadPiece i) → i + 1 < length batch.pages → length (core.passes by).owned < most_cells
  written_room limit i at more =
      let short = whole_few (cleaner.ReadPiece i) at tt tt (omega (arith, more)) in
      let most = owns_few sizes first core by sound batch (cleaner.ReadPiece i) at (i + 1) (locks_at (cleaner.ReadPiece i) at) (omega arith) (λ file. at_most_one (holds_store batch file))
      (far_store (cleaner.ReadPiece i) at tt) (λ page. omega arith)
      (λ number held. let a = held.0 in let b = held.1 in (number - batch.reached, omega (arith, a, b), omega (arith, a))) in
      omega (arith, limit, more, short, most)

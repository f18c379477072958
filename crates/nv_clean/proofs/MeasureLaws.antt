-- Measures: each step of a batch lowers how many may still come.
use Rattle.std.proofs.Common.{◌≡◌, ◌≢◌, ℕ, suc, ◌+◌, ◌-◌, ◌*◌, ◌<◌, ◌≤◌, ◌==◌, Bool, true, false, if◌then◌else◌, List, [], ◌∷◌, ◌++◌, length, inl, inr, refl, sym, ap, subst, ◌∙◌, arith, eq-eqb, eqb-true, ne_eqb, length-append}
use Rattle.std.proofs.lemmas.Bool.{cases_eq, cases_lt, lt-ltb, le-ltb, leb-true, true≢false}
use Rattle.std.proofs.lemmas.List.FromFn.{length-range_with_len}
use Rattle.std.specs.Prelude.{Option, Some, None, nat_lt, nat_le, not, ◌&&◌, ◌||◌, ◌⊎◌, filter}
use Rattle.std.specs.List.{range_with_len}
use Rattle.nv_plain.specs.Layouts.{mount_layout}
use Rattle.nv_core.specs.state.Words.{Sizes, Word, CLEANER, HEADER, STORE, CLEANUP, ENTRY, is_lock, kind_of, page_of, ready, same, slot_of_entry}
use Rattle.nv_core.specs.state.Cleaner.{Batch, CleanerControl, CleanerOp as CoreCleanerOp}
use Rattle.nv_core.specs.state.Cleaner as cleaner
use Rattle.nv_core.specs.state.Passes.{Control, Idle, Cleaning, without}
use Rattle.nv_core.specs.steps.CleanerSteps.{after_cleaner_op, batch_with_page, claimed, closed, count_of, discharging, each_next, finishing, group_file, group_page, holds_store, last_taken, may_pass, next_cleaner_op, next_group, retreating, rising_files, surveyed, surveying, syncing, withdrawing}
use Rattle.nv_core.specs.steps.Ops.{Comes, Stays, cleaner_move, moved}
use Rattle.nv_clean.specs.declared.batch.CleanControl.{CleanControl}
use Rattle.nv_clean.specs.declared.batch.CleanControl.TheVariants as cleans
use Rattle.nv_clean.specs.Cleaning.{CleanState, FitsAt, IsBegun, IsPlain, control_at, control_of, files_from, inner_at}
use Rattle.nv_clean.specs.Measures.{clean_measure, control_measure, entry_steps, first_measure, group_measure, inner_measure, later_measure, load_measure, measure_at, most_measure, retiring_measure}
use Rattle.nv_core.proofs.state.Changes.{same_self}
use Rattle.nv_clean.proofs.FactLaws.{IsCounted}
use Rattle.nv_clean.proofs.StepLaws.{plain_at}

-- what the entries of a largest group count at most
abbrev group_most : ℕ
group_most = entry_steps * mount_layout.group_limit

-- ---- choices

pub both : (P : Bool → Type 0) (b : Bool) → P true → P false → P b
both P true so not_so = so
both P false so not_so = not_so

by_eq : (P : Bool → Type 0) (i j : ℕ) → (i ≡ j → P true) → (i ≢ j → P false) → P (i == j)
by_eq P i j so not_so = elim (cases_eq i j) [
  | inl is ↦ subst P (sym (eq-eqb i j is)) (so is)
  | inr other ↦ subst P (sym (ne_eqb i j other)) (not_so other)
]

by_lt : (P : Bool → Type 0) (i j : ℕ) → (i < j → P true) → (j ≤ i → P false) → P (nat_lt i j)
by_lt P i j so not_so = elim (cases_lt i j) [
  | inl less ↦ subst P (sym (lt-ltb i j less)) (so less)
  | inr high ↦ subst P (sym (le-ltb i j high)) (not_so high)
]

-- ---- what a step makes of what is owned

without_shorter : (cell : Word) (owned : List Word) → length (without cell owned) ≤ length owned
without_shorter cell [] = omega arith
without_shorter cell (first ∷ rest) =
    let again = without_shorter cell rest in
    both (λ b. length (if b then rest else first ∷ without cell rest) ≤ suc (length rest)) (same cell first) (omega arith) (omega (arith, again))

filter_shorter : (test : ℕ → Bool) (list : List ℕ) → length (filter test list) ≤ length list
filter_shorter test [] = omega arith
filter_shorter test (first ∷ rest) =
    let again = filter_shorter test rest in
    both (λ b. length (if b then first ∷ filter test rest else filter test rest) ≤ suc (length rest)) (test first) (omega (arith, again)) (omega (arith, again))

-- ---- where a batch goes

module _ (sizes : Sizes) where
  withdraws : (owned : List Word) (batch : Batch) → control_measure sizes (withdrawing owned batch) ≤ 1
  withdraws [] batch = omega arith
  withdraws (cell ∷ rest) batch = omega arith

  syncs : (batch : Batch) (files : List ℕ) → control_measure sizes (syncing batch files) ≡ retiring_measure sizes batch
  syncs batch [] = refl
  syncs batch (file ∷ rest) = refl

  discharges : (batch : Batch) (files : List ℕ) → control_measure sizes (discharging batch files) ≡ 2 + length files
  discharges batch [] = omega arith
  discharges batch (file ∷ rest) = refl

  finishes : (owned : List Word) (batch : Batch) → control_measure sizes (finishing sizes owned batch) ≤ retiring_measure sizes batch
  finishes owned batch =
      let w = withdraws owned (closed batch) in
      let s = syncs (closed batch) (rising_files sizes batch) in
      both (λ b. control_measure sizes (if b then withdrawing owned (closed batch) else syncing (closed batch) (rising_files sizes batch)) ≤ retiring_measure sizes batch) (batch.reached == batch.tail)
      (omega (arith, w)) (omega (arith, s))

  retreats : (owned : List Word) (batch : Batch) (i : ℕ) → control_measure sizes (retreating sizes owned batch i) ≤ i + retiring_measure sizes batch
  retreats owned batch i =
      let f = finishes owned batch in
      by_eq (λ b. control_measure sizes (if b then finishing sizes owned batch else Cleaning batch (cleaner.RefusedGiveCleanup (i - 1))) ≤ i + retiring_measure sizes batch) i 0
      (λ none. omega (arith, f)) (λ some. omega (arith, some))

  surveys : (owned : List Word) (batch : Batch) (most : ℕ) → 1 + first_measure batch + later_measure sizes batch 0 < most → control_measure sizes (surveying sizes owned batch) < most
  surveys owned batch most less =
      let f = finishes owned batch in
      by_lt (λ b. control_measure sizes (if b then Cleaning batch (cleaner.LoadEntry 0) else finishing sizes owned batch) < most) batch.reached batch.head (λ more. omega (arith, less)) (λ high. omega (arith, f, less))

  each_falls : (batch : Batch) (i : ℕ) (inner : CleanerControl) (last : Control) (most : ℕ) → (i + 1 ≡ length batch.pages → control_measure sizes last < most) → (i + 1 ≢ length batch.pages → inner_measure sizes batch inner < most)
      → control_measure sizes (each_next batch i inner last) < most
  each_falls batch i inner last most so not_so = by_eq (λ b. control_measure sizes (if b then last else Cleaning batch inner) < most) (i + 1) (length batch.pages) so not_so

  rising_few : (batch : Batch) → length (rising_files sizes batch) ≤ sizes.files
  rising_few batch = let f = filter_shorter (holds_store batch) (range_with_len 0 sizes.files) in let r = length-range_with_len 0 sizes.files in omega (arith, f, r)

  -- ---- a step

  module _ (owned : List Word) (batch : Batch) (inner : CleanerControl) (found : ℕ) where
    Falls : Option CoreCleanerOp → Type 0
    Falls None = Unit {0}
    Falls (Some op) =
        length (moved (cleaner_move sizes op found) owned) + control_measure sizes (after_cleaner_op sizes (moved (cleaner_move sizes op found) owned) batch inner found) < length owned + inner_measure sizes batch inner

  takes : (owned : List Word) (cell : Word) (found most : ℕ) (one other : List Word → Control) → control_measure sizes (one (cell ∷ owned)) + 1 < most → control_measure sizes (other owned) < most
      → length (moved (if found == 0 then Comes cell else Stays) owned) + control_measure sizes (if found == 0 then one (moved (if found == 0 then Comes cell else Stays) owned) else other (moved (if found == 0 then Comes cell else Stays) owned))
      < length owned + most
  takes owned cell found most one other so not_so =
      both (λ b. length (moved (if b then Comes cell else Stays) owned) + control_measure sizes (if b then one (moved (if b then Comes cell else Stays) owned) else other (moved (if b then Comes cell else Stays) owned)) < length owned + most)
      (found == 0) (omega (arith, so)) (omega (arith, not_so))

  gives : (owned : List Word) (cell : Word) (control : Control) (most : ℕ) → control_measure sizes control < most → length (without cell owned) + control_measure sizes control < length owned + most
  gives owned cell control most less = let w = without_shorter cell owned in omega (arith, w, less)

  gives_last : (owned : List Word) (batch : Batch) (found : ℕ) (cells : List Word) → cells ≡ owned → Falls owned batch cleaner.GiveBack found (last_taken cells)
  unfolding Falls
  gives_last owned batch found [] is = tt
  gives_last owned batch found (cell ∷ rest) is =
      subst (λ o. Falls o batch cleaner.GiveBack found (if is_lock cell then Some (cleaner.Give cell) else None)) is
      (both (λ b. Falls (cell ∷ rest) batch cleaner.GiveBack found (if b then Some (cleaner.Give cell) else None)) (is_lock cell) fewer tt)
    where
      fewer : length (without cell (cell ∷ rest)) + control_measure sizes (withdrawing (without cell (cell ∷ rest)) batch) < length (cell ∷ rest) + 1
      fewer =
          let w = withdraws rest batch in
          subst (λ b. length (if b then rest else cell ∷ without cell rest) + control_measure sizes (withdrawing (if b then rest else cell ∷ without cell rest) batch) < length (cell ∷ rest) + 1) (sym (same_self cell))
          (omega (arith, w))

  -- a group that may be passed is the first one, or the batch has room for it
  pub has_room : (batch : Batch) (found : ℕ) → may_pass batch found ≡ true → (batch.reached ≡ batch.tail) ⊎ (batch.reached + count_of found ≤ batch.tail + batch.most)
  has_room batch found passes = of_kind (kind_of found == ready) (batch.reached == batch.tail) (nat_le (batch.reached + count_of found) (batch.tail + batch.most)) refl refl passes
    where
      of_kind : (kind first room : Bool) → (batch.reached == batch.tail) ≡ first → nat_le (batch.reached + count_of found) (batch.tail + batch.most) ≡ room → (kind && (first || room)) ≡ true
          → (batch.reached ≡ batch.tail) ⊎ (batch.reached + count_of found ≤ batch.tail + batch.most)
      of_kind true true room first_is room_is so = inl (eqb-true batch.reached batch.tail first_is)
      of_kind true false true first_is room_is so = inr (leb-true (batch.reached + count_of found) (batch.tail + batch.most) room_is)
      of_kind true false false first_is room_is so = absurd (true≢false (sym so))
      of_kind false first room first_is room_is so = absurd (true≢false (sym so))

  -- so behind its leader it counts less than before
  passes : (batch : Batch) (count steps : ℕ) → 1 ≤ count → count ≤ mount_layout.group_limit → (batch.reached ≡ batch.tail) ⊎ (batch.reached + count ≤ batch.tail + batch.most) → steps ≤ 9 * count + 5
      → steps + later_measure sizes batch count < 1 + first_measure batch + later_measure sizes batch 0
  passes batch count steps some few (inl first) less =
      let f : first_measure batch ≡ group_most = ap (λ b. if b then group_most else 0) (eq-eqb batch.reached batch.tail first) in omega (arith, some, few, less, f)
  passes batch count steps some few (inr room) less =
      by_eq (λ b. steps + later_measure sizes batch count < 1 + (if b then group_most else 0) + later_measure sizes batch 0) batch.reached batch.tail (λ is. omega (arith, some, few, less)) (λ other. omega (arith, some, room, less))

  load_falls : (owned : List Word) (batch : Batch) (i found : ℕ) → length batch.pages ≡ i → IsCounted batch (cleans.LoadEntry i) found
      → control_measure sizes (if i == 0 && not (may_pass batch found) then finishing sizes owned batch else surveyed (batch_with_page batch i found) i) < load_measure sizes batch i
  load_falls owned batch i found long counted =
      by_eq (λ b. control_measure sizes (if b && not (may_pass batch found) then finishing sizes owned batch else surveyed (with_count b) i)
      < (if b then 1 + first_measure batch + later_measure sizes batch 0 else (batch.count - i) + 8 * batch.count + 6 + later_measure sizes batch batch.count)) i 0 leader follower
    where
      with_count : Bool → Batch
      with_count b = record batch { count = if b then count_of found else batch.count; pages = batch.pages ++ page_of found ∷ [] }

      more : length (batch.pages ++ page_of found ∷ []) ≡ length batch.pages + 1
      more = length-append batch.pages (page_of found ∷ [])

      leader : i ≡ 0 → control_measure sizes (if not (may_pass batch found) then finishing sizes owned batch else surveyed (with_count true) i) < 1 + first_measure batch + later_measure sizes batch 0
      leader none = go (may_pass batch found) refl
        where
          go : (b : Bool) → may_pass batch found ≡ b → control_measure sizes (if not b then finishing sizes owned batch else surveyed (with_count true) i) < 1 + first_measure batch + later_measure sizes batch 0
          go false is = let f = finishes owned batch in omega (arith, f)
          go true is =
              let c = counted.0 none is in
              let some = c.0 in
              let few = c.1 in
              by_lt (λ b. control_measure sizes (if b then Cleaning (with_count true) (cleaner.LoadEntry (i + 1)) else Cleaning (with_count true) (cleaner.TakeCleanup 0)) < 1 + first_measure batch + later_measure sizes batch 0) (i + 1) (count_of found)
              (λ less. subst (λ b. (if b then 1 + first_measure (with_count true) + later_measure sizes (with_count true) 0 else (count_of found - (i + 1)) + 8 * count_of found + 6 + later_measure sizes batch (count_of found)) < 1 + first_measure batch + later_measure sizes batch 0)
              (sym (ne_eqb (i + 1) 0 (omega arith)))
              (let p = passes batch (count_of found) ((count_of found - (i + 1)) + 8 * count_of found + 6) some few (has_room batch found is) (omega (arith, less)) in omega (arith, p)))
              (λ high. let p = passes batch (count_of found) 13 some few (has_room batch found is) (omega (arith, some)) in
              let one : count_of found ≡ 1 = omega (arith, some, high, none) in
              omega (arith, p, more, long, none, one))

      follower : i ≢ 0 → control_measure sizes (surveyed (with_count false) i) < (batch.count - i) + 8 * batch.count + 6 + later_measure sizes batch batch.count
      follower some =
          let less = counted.1 some in
          by_lt (λ b. control_measure sizes (if b then Cleaning (with_count false) (cleaner.LoadEntry (i + 1)) else Cleaning (with_count false) (cleaner.TakeCleanup 0)) < (batch.count - i) + 8 * batch.count + 6 + later_measure sizes batch batch.count) (i + 1) batch.count
          (λ next. subst (λ b. (if b then 1 + first_measure (with_count false) + later_measure sizes (with_count false) 0 else (batch.count - (i + 1)) + 8 * batch.count + 6 + later_measure sizes batch batch.count) < (batch.count - i) + 8 * batch.count + 6 + later_measure sizes batch batch.count)
          (sym (ne_eqb (i + 1) 0 (omega arith))) (omega (arith, less)))
          (λ high. let whole : length (batch.pages ++ page_of found ∷ []) ≡ batch.count = omega (arith, more, long, less, high) in omega (arith, whole, less))

  falls_at : (owned : List Word) (batch : Batch) (control : CleanControl) (found : ℕ) → IsPlain control → FitsAt sizes batch control → IsCounted batch control found
      → Falls owned batch (inner_at sizes batch control) found (next_cleaner_op sizes owned batch (inner_at sizes batch control))
  unfolding Falls
  falls_at owned batch cleans.TakeHeader found plain fits near =
      let w = withdraws owned batch in
      takes owned HEADER found (inner_measure sizes batch cleaner.TakeHeader) (λ o. Cleaning batch cleaner.LoadStop) (λ o. withdrawing o batch) (omega arith) (omega (arith, w))
  falls_at owned batch cleans.LoadStop found plain fits near =
      let w = withdraws owned batch in
      let less : control_measure sizes (if found == 0 then Cleaning batch cleaner.LoadTail else withdrawing owned batch) < inner_measure sizes batch cleaner.LoadStop =
      both (λ b. control_measure sizes (if b then Cleaning batch cleaner.LoadTail else withdrawing owned batch) < inner_measure sizes batch cleaner.LoadStop) (found == 0) (omega arith) (omega (arith, w)) in omega (arith, less)
  falls_at owned batch cleans.LoadTail found plain fits near =
      let less : first_measure (record batch { tail = found; reached = found }) ≤ group_most = both (λ b. (if b then group_most else 0) ≤ group_most) (found == found) (omega arith) (omega arith) in omega (arith, less)
  falls_at owned batch cleans.LoadHead found plain fits near =
      let less = surveys owned (record batch { head = found }) (inner_measure sizes batch cleaner.LoadHead) (omega arith) in omega (arith, less)
  falls_at owned batch (cleans.LoadEntry i) found plain fits near = let less = load_falls owned batch i found fits.1 near in omega (arith, less)
  falls_at owned batch (cleans.TakeCleanup i) found plain fits near =
      let own = fits.0 in
      let r = retreats owned batch i in
      takes owned (CLEANUP (group_page batch i)) found (inner_measure sizes batch (cleaner.TakeCleanup i)) (λ o. each_next batch i (cleaner.TakeCleanup (i + 1)) (claimed sizes batch)) (λ o. retreating sizes o batch i)
      (let less = each_falls batch i (cleaner.TakeCleanup (i + 1)) (claimed sizes batch) (group_measure sizes batch (6 * length batch.pages + 5 + 2 * (length batch.pages - (i + 1))))
      (λ last. both (λ b. control_measure sizes (if b then Cleaning batch (cleaner.HoldEntry 0) else Cleaning batch cleaner.TakeStore) < group_measure sizes batch (6 * length batch.pages + 5 + 2 * (length batch.pages - (i + 1))))
      (holds_store batch (group_file sizes batch)) (omega arith) (omega arith)) (λ more. omega (arith, own)) in omega (arith, less, own))
      (omega (arith, r, own))
  falls_at owned batch cleans.TakeStore found plain fits near =
      let r = retreats owned batch (length batch.pages) in
      takes owned (STORE (group_file sizes batch)) found (inner_measure sizes batch cleaner.TakeStore) (λ o. Cleaning (record batch { files = group_file sizes batch ∷ batch.files }) (cleaner.HoldEntry 0)) (λ o. retreating sizes o batch (length batch.pages))
      (omega arith) (omega (arith, r))
  falls_at owned batch (cleans.HoldEntry i) found plain fits near = omega arith
  falls_at owned batch (cleans.CleanEntry i) found plain fits near =
      let own = fits.within in
      let most = inner_measure sizes batch (cleaner.CleanEntry i) in
      gives owned (ENTRY (slot_of_entry sizes (batch.reached + i))) (each_next batch i (cleaner.CleanEntry (i + 1)) (Cleaning batch (cleaner.SubtractDirty 0))) most
      (each_falls batch i (cleaner.CleanEntry (i + 1)) (Cleaning batch (cleaner.SubtractDirty 0)) most (λ last. omega (arith, last)) (λ more. omega (arith, own)))
  falls_at owned batch (cleans.SubtractDirty i) found plain fits near =
      let own = fits.within in
      let less = each_falls batch i (cleaner.SubtractDirty (i + 1)) (Cleaning batch (cleaner.GiveCleanup 0)) (inner_measure sizes batch (cleaner.SubtractDirty i)) (λ last. omega (arith, last)) (λ more. omega (arith, own)) in omega (arith, less)
  falls_at owned batch (cleans.GiveCleanup i) found plain fits near =
      let own = fits.within in
      let most = inner_measure sizes batch (cleaner.GiveCleanup i) in
      let left = without (CLEANUP (group_page batch i)) owned in
      gives owned (CLEANUP (group_page batch i)) (each_next batch i (cleaner.GiveCleanup (i + 1)) (surveying sizes left (next_group batch))) most
      (each_falls batch i (cleaner.GiveCleanup (i + 1)) (surveying sizes left (next_group batch)) most
      (λ last.
      let beyond : first_measure (next_group batch) ≡ 0 = ap (λ b. if b then group_most else 0) (ne_eqb (batch.reached + length batch.pages) batch.tail (let low = fits.low.low in omega (arith, low, own))) in
      surveys left (next_group batch) most (omega (arith, last, beyond))) (λ more. omega (arith, own)))
  falls_at owned batch (cleans.ReturnEntry i end) found plain fits near =
      let own = fits.1 in
      let entry = ENTRY (slot_of_entry sizes (batch.reached + i)) in
      let left = without entry owned in
      let r = retreats left batch (length batch.pages) in
      gives owned entry (if i + 1 == end then retreating sizes left batch (length batch.pages) else Cleaning batch (cleaner.RefusedReturnEntry (i + 1) end)) (inner_measure sizes batch (cleaner.RefusedReturnEntry i end))
      (by_eq (λ b. control_measure sizes (if b then retreating sizes left batch (length batch.pages) else Cleaning batch (cleaner.RefusedReturnEntry (i + 1) end)) < inner_measure sizes batch (cleaner.RefusedReturnEntry i end)) (i + 1) end
      (λ last. omega (arith, r, own)) (λ more. omega (arith, own)))
  falls_at owned batch (cleans.ReturnFailed i end) found plain fits near =
      let own = fits.1 in
      let entry = ENTRY (slot_of_entry sizes (batch.reached + i)) in
      let left = without entry owned in
      let w = withdraws left batch in
      gives owned entry (if i + 1 == end then withdrawing left batch else Cleaning batch (cleaner.FailedReturnEntry (i + 1) end)) (inner_measure sizes batch (cleaner.FailedReturnEntry i end))
      (by_eq (λ b. control_measure sizes (if b then withdrawing left batch else Cleaning batch (cleaner.FailedReturnEntry (i + 1) end)) < inner_measure sizes batch (cleaner.FailedReturnEntry i end)) (i + 1) end
      (λ last. omega (arith, w, own)) (λ more. omega (arith, own)))
  falls_at owned batch (cleans.UndoCleanup i) found plain fits near =
      let left = without (CLEANUP (group_page batch i)) owned in
      let r = retreats left batch i in
      gives owned (CLEANUP (group_page batch i)) (retreating sizes left batch i) (inner_measure sizes batch (cleaner.RefusedGiveCleanup i)) (omega (arith, r))
  falls_at owned batch (cleans.FreeEntry number) found plain fits near =
      let own = fits.1 in
      let less : control_measure sizes (if number + 1 == batch.reached then Cleaning batch cleaner.AdvanceTail else Cleaning batch (cleaner.FreeEntry (number + 1))) < inner_measure sizes batch (cleaner.FreeEntry number) =
      both (λ b. control_measure sizes (if b then Cleaning batch cleaner.AdvanceTail else Cleaning batch (cleaner.FreeEntry (number + 1))) < inner_measure sizes batch (cleaner.FreeEntry number)) (number + 1 == batch.reached) (omega (arith, own)) (omega (arith, own)) in
      omega (arith, less)
  falls_at owned batch cleans.AdvanceTail found plain fits near =
      let d = discharges batch (rising_files sizes batch) in let few = rising_few batch in omega (arith, d, few)
  falls_at owned batch (cleans.GiveStore file) found plain fits near =
      let d = discharges batch (files_from sizes batch (file + 1)) in gives owned (STORE file) (discharging batch (files_from sizes batch (file + 1))) (inner_measure sizes batch (inner_at sizes batch (cleans.GiveStore file))) (omega (arith, d))
  falls_at owned batch cleans.GiveHeader found plain fits near = gives owned HEADER (Cleaning batch cleaner.GiveCleaner) 2 (omega arith)
  falls_at owned batch cleans.GiveCleaner found plain fits near = gives owned CLEANER Idle 1 (omega arith)
  falls_at owned batch cleans.GiveBack found plain fits near = gives_last owned batch found owned refl
  falls_at owned batch cleans.Begin found plain fits near = absurd plain
  falls_at owned batch (cleans.WriteBack i) found plain fits near = absurd plain
  falls_at owned batch cleans.Retire found plain fits near = absurd plain
  falls_at owned batch cleans.Over found plain fits near = absurd plain

-- ---- and so it is of what the machine has at hand

module _ (sizes : Sizes) where
  begun_measure : (batch : Batch) (control : CleanControl) → IsBegun control → measure_at sizes batch control ≡ control_measure sizes (control_at sizes batch control)
  begun_measure batch cleans.Begin begun = absurd begun
  begun_measure batch control begun = refl

  plain_begun : (control : CleanControl) → IsPlain control → IsBegun control
  plain_begun cleans.Begin plain = plain
  plain_begun control plain = tt

  plain_measure : (m : CleanState) → IsPlain m.control → clean_measure sizes m ≡ length m.owned + inner_measure sizes m.batch (inner_at sizes m.batch m.control)
  plain_measure m plain = ap (λ n. length m.owned + n) (begun_measure m.batch m.control (plain_begun m.control plain) ∙ ap (control_measure sizes) (plain_at sizes m.batch m.control plain))

  pub step_falls : (m next : CleanState) (op : CoreCleanerOp) (found : ℕ) (owns : List Word) → IsPlain m.control → FitsAt sizes m.batch m.control → IsCounted m.batch m.control found
      → next_cleaner_op sizes m.owned m.batch (inner_at sizes m.batch m.control) ≡ Some op → owns ≡ moved (cleaner_move sizes op found) m.owned → next.owned ≡ owns → IsBegun next.control
      → control_of sizes next ≡ after_cleaner_op sizes owns m.batch (inner_at sizes m.batch m.control) found → clean_measure sizes next < clean_measure sizes m
  unfolding Falls
  step_falls m next op found owns plain fits near is move owned begun control =
      let falls : Falls sizes m.owned m.batch (inner_at sizes m.batch m.control) found (Some op) = subst (Falls sizes m.owned m.batch (inner_at sizes m.batch m.control) found) is (falls_at sizes m.owned m.batch m.control found plain fits near) in
      let was = plain_measure m plain in
      let left : length next.owned ≡ length (moved (cleaner_move sizes op found) m.owned) = ap length (owned ∙ move) in
      let goes : measure_at sizes next.batch next.control ≡ control_measure sizes (after_cleaner_op sizes (moved (cleaner_move sizes op found) m.owned) m.batch (inner_at sizes m.batch m.control) found) =
      begun_measure next.batch next.control begun ∙ ap (control_measure sizes) (control ∙ ap (λ o. after_cleaner_op sizes o m.batch (inner_at sizes m.batch m.control) found) move) in
      omega (arith, falls, was, left, goes)

  -- STOP is set, with so many entries held
  pub stop_falls : (m next : CleanState) (held : ℕ) → next.owned ≡ m.owned → IsBegun next.control → control_of sizes next ≡ (if held == 0 then withdrawing m.owned m.batch else Cleaning m.batch (cleaner.FailedReturnEntry 0 held))
      → clean_measure sizes next < length m.owned + held + 2
  stop_falls m next held owned begun control =
      let w = withdraws sizes m.owned m.batch in
      let less : control_measure sizes (if held == 0 then withdrawing m.owned m.batch else Cleaning m.batch (cleaner.FailedReturnEntry 0 held)) < held + 2 =
      both (λ b. control_measure sizes (if b then withdrawing m.owned m.batch else Cleaning m.batch (cleaner.FailedReturnEntry 0 held)) < held + 2) (held == 0) (omega (arith, w)) (omega arith) in
      let left : length next.owned ≡ length m.owned = ap length owned in
      let goes = begun_measure next.batch next.control begun ∙ ap (control_measure sizes) control in
      omega (arith, less, left, goes)

  -- its first step
  pub begin_falls : (m next : CleanState) (found : ℕ) → m.control ≡ cleans.Begin → next.owned ≡ moved (if found == 0 then Comes CLEANER else Stays) m.owned → measure_at sizes next.batch next.control ≤ 6 + most_measure sizes m.batch.most
      → clean_measure sizes next < clean_measure sizes m
  begin_falls m next found at owned less =
      let was : measure_at sizes m.batch m.control ≡ 8 + most_measure sizes m.batch.most = ap (measure_at sizes m.batch) at in
      let more : length (moved (if found == 0 then Comes CLEANER else Stays) m.owned) ≤ suc (length m.owned) =
      both (λ b. length (moved (if b then Comes CLEANER else Stays) m.owned) ≤ suc (length m.owned)) (found == 0) (omega arith) (omega arith) in
      let left : length next.owned ≡ length (moved (if found == 0 then Comes CLEANER else Stays) m.owned) = ap length owned in
      omega (arith, was, more, left, less)

  -- ---- behind device calls

  -- where a piece is written back
  pub writes_measure : (m : CleanState) (at : ℕ) → m.control ≡ cleans.WriteBack at → clean_measure sizes m ≡ length m.owned + group_measure sizes m.batch (4 * length m.batch.pages + 2 * (length m.batch.pages - at))
  writes_measure m at is = ap (λ control. length m.owned + measure_at sizes m.batch control) is

  -- and where a batch is retired: as much as where its first entry is freed, and no less than where STOP is set
  pub retire_measure : (m : CleanState) → m.control ≡ cleans.Retire → clean_measure sizes m ≡ length m.owned + retiring_measure sizes m.batch
  retire_measure m is = ap (λ control. length m.owned + measure_at sizes m.batch control) is ∙ ap (λ n. length m.owned + n) (syncs sizes m.batch (rising_files sizes m.batch))

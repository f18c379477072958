-- Rooms: a cleaner owns few cells.
use Rattle.std.proofs.Common.{◌≡◌, ◌≢◌, ℕ, zero, suc, ◌+◌, ◌<◌, ◌≤◌, ◌==◌, Bool, true, false, if◌then◌else◌, List, [], ◌∷◌, ◌++◌, length, take, inl, inr, refl, sym, ap, subst, ◌∙◌, arith, length-append, eq-eqb}
use Rattle.std.specs.Prelude.{map, ◌||◌}
use Rattle.std.specs.List.{list_any}
use Rattle.std.proofs.lemmas.Bool.{cases_eq, cases_lt, true≢false}
use Rattle.nv_core.specs.state.Words.{Sizes, Word, CLEANER, HEADER, STORE, SIZE, ENTRY, CLEANUP, index, same, slot_of_entry}
use Rattle.nv_core.specs.state.Cleaner.{Batch, CleanerControl}
use Rattle.nv_core.specs.state.Core.{Core}
use Rattle.nv_core.specs.state.Passes.{Cleaning, IsFilling, IsHeldByCleaner, IsHeldEntry, file_of, times, without}
use Rattle.nv_core.specs.steps.Order.{Values}
use Rattle.nv_core.specs.invariant.CleanerOwnership.{count_in, of_cleaner_header, of_cleaner_store, of_cleaner_cleanup}
use Rattle.nv_core.specs.invariant.Locks.{Keyed}
use Rattle.nv_core.specs.invariant.Ownership.{Ownership, lock_held}
use Rattle.nv_core.specs.invariant.Sound.{Sound}
use Rattle.nv_core.proofs.invariant.LockLaws.{times_here, times_else, times_without, times_without_else}
use Rattle.nv_clean.specs.Cleaning.{AreApart}
use Rattle.nv_core.proofs.state.Changes.{same_self, same_true}

-- ---- cells of one list are among those of another

length_without : (cell : Word) (list : List Word) → 1 ≤ times cell list → length (without cell list) + 1 ≡ length list
length_without cell [] some = absurd (omega (arith, some))
length_without cell (first ∷ rest) some = go (length_without cell rest) (same cell first) refl
  where
    go : (1 ≤ times cell rest → length (without cell rest) + 1 ≡ length rest) → (b : Bool) → same cell first ≡ b → length (if b then rest else first ∷ without cell rest) + 1 ≡ suc (length rest)
    go again true e = omega arith
    go again false e =
        let none : times cell (first ∷ rest) ≡ 0 + times cell rest = ap (λ b. (if b then 1 else 0) + times cell rest) e in
        let shorter = again (omega (arith, none, some)) in omega (arith, shorter)

differs : (one other : Word) → same one other ≡ false → one ≢ other
differs one other unlike e = true≢false (sym (ap (λ w. same one w) (sym e) ∙ same_self one) ∙ unlike)

-- then there are no more of them
pub no_longer : (owned list : List Word) → ((cell : Word) → times cell owned ≤ times cell list) → length owned ≤ length list
no_longer [] list less = omega arith
no_longer (first ∷ rest) list less =
    let some : 1 ≤ times first list = let l = less first in let h = times_here first rest in omega (arith, l, h) in
    let again = no_longer rest (without first list) (λ cell. fewer cell (same cell first) refl) in
    let shorter = length_without first list some in
    omega (arith, again, shorter)
  where
    fewer : (cell : Word) (b : Bool) → same cell first ≡ b → times cell rest ≤ times cell (without first list)
    fewer cell true e =
        let some : 1 ≤ times first list = let l = less first in let h = times_here first rest in omega (arith, l, h) in
        subst (λ w. times w rest ≤ times w (without first list)) (sym (same_true cell first e))
        (let l = less first in let h = times_here first rest in let w = times_without first list some in omega (arith, l, h, w))
    fewer cell false e = let ne = differs cell first e in let l = less cell in let h = times_else cell first rest ne in let w = times_without_else cell first list ne in omega (arith, l, h, w)

or_left : (b c : Bool) → b ≡ true → (b || c) ≡ true
or_left true c is = refl
or_left false c is = absurd (true≢false (sym is))

or_right : (b c : Bool) → (b || c) ≡ false → c ≡ false
or_right true c is = absurd (true≢false is)
or_right false c is = is

-- ---- how often a cell stands in a row of cells

times_append : (cell : Word) (one other : List Word) → times cell (one ++ other) ≡ times cell one + times cell other
times_append cell [] other = omega arith
times_append cell (first ∷ rest) other = let again = times_append cell rest other in omega (arith, again)

-- STORE of each file
store_cells : (files : ℕ) → List Word
store_cells zero = []
store_cells (suc files) = STORE files ∷ store_cells files

stores_long : (files : ℕ) → length (store_cells files) ≡ files
unfolding store_cells
stores_long zero = refl
stores_long (suc files) = ap suc (stores_long files)

store_there : (file files : ℕ) → file < files → 1 ≤ times (STORE file) (store_cells files)
unfolding store_cells
store_there file zero less = absurd (omega (arith, less))
store_there file (suc files) less = elim (cases_eq file files) [
  | inl is ↦ subst (λ f. 1 ≤ times (STORE file) (STORE f ∷ store_cells files)) is (let h = times_here (STORE file) (store_cells files) in omega (arith, h))
  | inr other ↦ (let again = store_there file files (omega (arith, less, other)) in omega (arith, again))
]

-- files that are apart, and all of them of a mount, are no more than it has
pub apart_few : (files : List ℕ) (most : ℕ) → AreApart files → ((file : ℕ) → list_any (λ held. held == file) files ≡ true → file < most) → length files ≤ most
unfolding store_cells
apart_few files most apart there = let few = no_longer (map (λ file. STORE file) files) (store_cells most) among in let long = stores_long most in let same_count = map_long files in omega (arith, few, long, same_count)
  where
    map_long : (list : List ℕ) → length (map (λ file. STORE file) list) ≡ length list
    map_long [] = refl
    map_long (first ∷ rest) = ap suc (map_long rest)

    absent : (file : ℕ) (list : List ℕ) → list_any (λ held. held == file) list ≡ false → times (STORE file) (map (λ f. STORE f) list) ≡ 0
    absent file [] no_one = refl
    absent file (first ∷ rest) no_one = elim (cases_eq file first) [
      | inl is ↦ absurd (true≢false (sym (or_left (first == file) (list_any (λ held. held == file) rest) (eq-eqb first file (sym is))) ∙ no_one))
      | inr other ↦ (let again = absent file rest (or_right (first == file) (list_any (λ held. held == file) rest) no_one) in
          let e = times_else (STORE file) (STORE first) (map (λ f. STORE f) rest) (λ is. other (ap index is)) in omega (arith, again, e))
    ]

    single : (file : ℕ) (list : List ℕ) → AreApart list → times (STORE file) (map (λ f. STORE f) list) ≤ 1
    single file [] apart = omega arith
    single file (first ∷ rest) apart = elim (cases_eq file first) [
      | inl is ↦ (let none = absent file rest (ap (λ f. list_any (λ held. held == f) rest) is ∙ apart.0) in
          let h : times (STORE file) (STORE first ∷ map (λ f. STORE f) rest) ≡ 1 + times (STORE file) (map (λ f. STORE f) rest) =
          ap (λ f. times (STORE file) (STORE f ∷ map (λ f. STORE f) rest)) (sym is) ∙ times_here (STORE file) (map (λ f. STORE f) rest) in omega (arith, none, h))
      | inr other ↦ (let again = single file rest apart.1 in let e = times_else (STORE file) (STORE first) (map (λ f. STORE f) rest) (λ is. other (ap index is)) in omega (arith, again, e))
    ]

    only_stores : (cell : Word) (list : List ℕ) → ((file : ℕ) → cell ≢ STORE file) → times cell (map (λ f. STORE f) list) ≡ 0
    only_stores cell [] ne = refl
    only_stores cell (first ∷ rest) ne = let again = only_stores cell rest ne in let e = times_else cell (STORE first) (map (λ f. STORE f) rest) (ne first) in omega (arith, again, e)

    one_file : (file : ℕ) (b : Bool) → list_any (λ held. held == file) files ≡ b → times (STORE file) (map (λ f. STORE f) files) ≤ times (STORE file) (store_cells most)
    one_file file true is = let few = single file files apart in let some = store_there file most (there file is) in omega (arith, few, some)
    one_file file false is = let none = absent file files is in omega (arith, none)

    among : (cell : Word) → times cell (map (λ f. STORE f) files) ≤ times cell (store_cells most)
    among (STORE file) = one_file file (list_any (λ held. held == file) files) refl
    among cell = let none = only_stores cell files (λ file e. cc) in omega (arith, none)

-- CLEANUP of some pages
cleanup_cells : List ℕ → List Word
cleanup_cells pages = map (λ page. CLEANUP page) pages

cleanups_long : (pages : List ℕ) → length (cleanup_cells pages) ≡ length pages
unfolding cleanup_cells
cleanups_long [] = refl
cleanups_long (first ∷ rest) = ap suc (cleanups_long rest)

cleanups_there : (page : ℕ) (pages : List ℕ) → times (CLEANUP page) (cleanup_cells pages) ≡ count_in pages page
unfolding cleanup_cells
cleanups_there page [] = refl
cleanups_there page (first ∷ rest) = ap (λ n. (if page == first then 1 else 0) + n) (cleanups_there page rest)

pub count_taken : (pages : List ℕ) (i page : ℕ) → count_in (take i pages) page ≤ count_in pages page
count_taken [] zero page = omega arith
count_taken [] (suc i) page = omega arith
count_taken (first ∷ rest) zero page = omega arith
count_taken (first ∷ rest) (suc i) page = let a = count_taken rest i page in omega (arith, a)

-- the entries of so many numbers
entry_cells : Sizes → (from count : ℕ) → List Word
entry_cells sizes from zero = []
entry_cells sizes from (suc count) = ENTRY (slot_of_entry sizes (from + count)) ∷ entry_cells sizes from count

entries_long : (sizes : Sizes) (from count : ℕ) → length (entry_cells sizes from count) ≡ count
unfolding entry_cells
entries_long sizes from zero = refl
entries_long sizes from (suc count) = ap suc (entries_long sizes from count)

entry_there : (sizes : Sizes) (from count j slot : ℕ) → j < count → slot_of_entry sizes (from + j) ≡ slot → 1 ≤ times (ENTRY slot) (entry_cells sizes from count)
unfolding entry_cells
entry_there sizes from zero j slot less is = absurd (omega (arith, less))
entry_there sizes from (suc count) j slot less is = elim (cases_eq j count) [
  | inl last ↦ subst (λ s. 1 ≤ times (ENTRY slot) (ENTRY s ∷ entry_cells sizes from count)) (sym is ∙ ap (λ n. slot_of_entry sizes (from + n)) last)
      (let h = times_here (ENTRY slot) (entry_cells sizes from count) in omega (arith, h))
  | inr other ↦ (let again = entry_there sizes from count j slot (omega (arith, less, other)) is in omega (arith, again))
]

-- ---- all that a cleaner may own

all_cells : Sizes → Batch → (held : ℕ) → List Word
all_cells sizes batch held = CLEANER ∷ HEADER ∷ (store_cells sizes.files ++ (cleanup_cells batch.pages ++ entry_cells sizes batch.reached held))

all_long : (sizes : Sizes) (batch : Batch) (held : ℕ) → length (all_cells sizes batch held) ≡ 2 + sizes.files + length batch.pages + held
unfolding all_cells
all_long sizes batch held =
    let one = length-append (store_cells sizes.files) (cleanup_cells batch.pages ++ entry_cells sizes batch.reached held) in
    let other = length-append (cleanup_cells batch.pages) (entry_cells sizes batch.reached held) in
    let s = stores_long sizes.files in let c = cleanups_long batch.pages in let e = entries_long sizes batch.reached held in
    omega (arith, one, other, s, c, e)

in_all : (sizes : Sizes) (batch : Batch) (held : ℕ) (cell : Word)
    → times cell (store_cells sizes.files) + times cell (cleanup_cells batch.pages) + times cell (entry_cells sizes batch.reached held) ≤ times cell (all_cells sizes batch held)
unfolding all_cells
in_all sizes batch held cell =
    let one = times_append cell (store_cells sizes.files) (cleanup_cells batch.pages ++ entry_cells sizes batch.reached held) in
    let other = times_append cell (cleanup_cells batch.pages) (entry_cells sizes batch.reached held) in
    omega (arith, one, other)

-- a cell is in one pass's hands at most, and once
once : {shut : Bool} {value : ℕ → ℕ} → Keyed shut value → (n : ℕ) → value n ≤ 1
once {shut = false} keyed n = let none = keyed.free refl n in omega (arith, none)
once {shut = true} {value = value} keyed n =
    let h = keyed.held refl in
    elim (cases_eq n h.by) [
      | inl is ↦ (let o : value n ≡ 1 = ap value is ∙ h.once in omega (arith, o))
      | inr other ↦ (let o = h.others n other in omega (arith, o))
    ]

none_or_same : (b : Bool) (n : ℕ) → n ≡ 0 → (if b then n else 0) ≡ 0
none_or_same true n is = is
none_or_same false n is = refl

module _ (sizes : Sizes) (first : Values) (core : Core) (by : ℕ) (sound : Sound sizes first core) (batch : Batch) (inner : CleanerControl) (at : (core.passes by).control ≡ Cleaning batch inner) (held : ℕ)
    (locks : (cell : Word) → ((slot : ℕ) → cell ≢ ENTRY slot) → times cell (core.passes by).owned ≡ lock_held sizes (core.passes by) (Cleaning batch inner) cell)
    (header : of_cleaner_header inner ≤ 1)
    (store : (file : ℕ) → of_cleaner_store batch inner file ≤ 1) (far : (file : ℕ) → (file < sizes.files → ⊥) → of_cleaner_store batch inner file ≡ 0)
    (cleanup : (page : ℕ) → of_cleaner_cleanup batch inner page ≤ count_in batch.pages page)
    (entries : (number : ℕ) → IsHeldByCleaner batch inner number → (j : ℕ) × (j < held) × (number ≡ batch.reached + j)) where
  abbrev owned : List Word
  owned = (core.passes by).owned

  entry_among : (slot : ℕ) → times (ENTRY slot) owned ≤ times (ENTRY slot) (all_cells sizes batch held)
  entry_among slot = elim (cases_lt 0 (times (ENTRY slot) (entry_cells sizes batch.reached held))) [
    | inl some ↦ (let one = once (sound.locks.keyed (ENTRY slot)) by in let all = in_all sizes batch held (ENTRY slot) in omega (arith, some, one, all))
    | inr none ↦
        let owns : Ownership sizes (core.passes by) = sound.ownership by in
        let no = owns.none slot (λ number fills. absurd (subst (λ s. IsFilling s (core.passes by).first (core.passes by).entries number) at fills))
        (λ number is same_slot.
        let mine = entries number (subst (λ s. IsHeldEntry s number) at is) in
        let there = entry_there sizes batch.reached held mine.0 slot mine.1 (ap (slot_of_entry sizes) (sym mine.2) ∙ same_slot) in omega (arith, none, there)) in
        omega (arith, no)
  ]

  store_among : (file : ℕ) → times (STORE file) owned ≤ times (STORE file) (all_cells sizes batch held)
  store_among file =
      let is = locks (STORE file) (λ slot e. cc) in let few = store file in
      elim (cases_lt file sizes.files) [
        | inl there ↦ (let some = store_there file sizes.files there in let all = in_all sizes batch held (STORE file) in omega (arith, is, few, some, all))
        | inr past ↦ (let none = far file (λ less. omega (arith, less, past)) in omega (arith, is, none))
      ]

  cleanup_among : (page : ℕ) → times (CLEANUP page) owned ≤ times (CLEANUP page) (all_cells sizes batch held)
  cleanup_among page =
      let is = locks (CLEANUP page) (λ slot e. cc) in let few = cleanup page in let there = cleanups_there page batch.pages in let all = in_all sizes batch held (CLEANUP page) in
      omega (arith, is, few, there, all)

  among : (cell : Word) → times cell owned ≤ times cell (all_cells sizes batch held)
  unfolding all_cells
  among (ENTRY slot) = entry_among slot
  among (STORE file) = store_among file
  among (CLEANUP page) = cleanup_among page
  among CLEANER = let is = locks CLEANER (λ slot e. cc) in omega (arith, is)
  among HEADER = let is = locks HEADER (λ slot e. cc) in omega (arith, is, header)
  among (SIZE file) = let is = locks (SIZE file) (λ slot e. cc) in let none = none_or_same (file == file_of (core.passes by).call) 0 refl in omega (arith, is, none)
  among cell = let is = locks cell (λ slot e. cc) in omega (arith, is)

  pub owns_few : length owned ≤ 2 + sizes.files + length batch.pages + held
  owns_few = let few = no_longer owned (all_cells sizes batch held) among in let long = all_long sizes batch held in omega (arith, few, long)

-- Layout: each place has its word, and each slot its cell.
use Rattle.std.proofs.Common.{◌≡◌, ℕ, zero, suc, ◌+◌, ◌-◌, ◌*◌, ◌/◌, ◌%◌, ◌<◌, ◌≤◌, inl, inr, refl, sym, ap, ap₂, subst, ◌∙◌, arith}
use Rattle.std.specs.Prelude.{nat_lt, if◌then◌else◌, Some}
use Rattle.std.proofs.lemmas.Bool.{lt-ltb, le-ltb, cases_lt}
use Rattle.std.proofs.lemmas.Nat.{div-mul-add, mod-mul-add, div-add-mod', mod_below, div_below}
use Rattle.nv_core.specs.state.Words.{Sizes, Word, STOP, ORDER, HEAD, TAIL, HAND, CLEANER, HEADER, SIZE, LENGTH, STORE, ENTRY, HINT, PAGE, CLEANUP, DIRTY, IsWord, place, page_total, first_page_word}
use Rattle.nv_table.specs.state.Layout.{word_total, single, of_file, of_page, word_of_place, slot_total, slot_of_cell, cell_of}

-- ---- choices by order

below_is : {T : Type 0} (a b : ℕ) (one other : T) → a < b → (if nat_lt a b then one else other) ≡ one
below_is a b one other less = ap (λ c. if c then one else other) (lt-ltb a b less)

above_is : {T : Type 0} (a b : ℕ) (one other : T) → b ≤ a → (if nat_lt a b then one else other) ≡ other
above_is a b one other more = ap (λ c. if c then one else other) (le-ltb a b more)

-- ---- the word at a place

module _ (sizes : Sizes) where
  pub at_single : (p : ℕ) → p < 7 → word_of_place sizes p ≡ single p
  at_single p less = below_is p 7 _ _ less

  pub at_file : (p : ℕ) → 7 ≤ p → p < 7 + 3 * sizes.files → word_of_place sizes p ≡ of_file ((p - 7) / 3) ((p - 7) % 3)
  at_file p low less = above_is p 7 _ _ low ∙ below_is p (7 + 3 * sizes.files) _ _ less

  pub at_entry : (p : ℕ) → 7 + 3 * sizes.files ≤ p → p < 7 + 3 * sizes.files + sizes.entries → word_of_place sizes p ≡ ENTRY (p - (7 + 3 * sizes.files))
  at_entry p low less = above_is p 7 _ _ (omega arith) ∙ above_is p (7 + 3 * sizes.files) _ _ low ∙ below_is p (7 + 3 * sizes.files + sizes.entries) _ _ less

  pub at_hint : (p : ℕ) → 7 + 3 * sizes.files + sizes.entries ≤ p → p < first_page_word sizes → word_of_place sizes p ≡ HINT (p - (7 + 3 * sizes.files + sizes.entries))
  at_hint p low less =
      above_is p 7 _ _ (omega arith) ∙ above_is p (7 + 3 * sizes.files) _ _ (omega arith) ∙ above_is p (7 + 3 * sizes.files + sizes.entries) _ _ low
      ∙ below_is p (first_page_word sizes) _ _ less

  pub at_page : (p : ℕ) → first_page_word sizes ≤ p → word_of_place sizes p ≡ of_page ((p - first_page_word sizes) / 3) ((p - first_page_word sizes) % 3)
  at_page p low =
      above_is p 7 _ _ (omega arith) ∙ above_is p (7 + 3 * sizes.files) _ _ (omega arith) ∙ above_is p (7 + 3 * sizes.files + sizes.entries) _ _ (omega arith)
      ∙ above_is p (first_page_word sizes) _ _ low

  of_file_there : (p file which : ℕ) → file < sizes.files → which < 3 → p ≡ 7 + 3 * file + which → word_of_place sizes p ≡ of_file file which
  of_file_there p file which less below is =
      let e : p - 7 ≡ file * 3 + which = omega arith in
      at_file p (omega arith) (omega arith) ∙ ap₂ of_file (ap (λ n. n / 3) e ∙ div-mul-add file 3 which below) (ap (λ n. n % 3) e ∙ mod-mul-add file 3 which below)

  of_page_there : (p page which : ℕ) → which < 3 → p ≡ first_page_word sizes + 3 * page + which → word_of_place sizes p ≡ of_page page which
  of_page_there p page which below is =
      let e : p - first_page_word sizes ≡ page * 3 + which = omega arith in
      at_page p (omega arith) ∙ ap₂ of_page (ap (λ n. n / 3) e ∙ div-mul-add page 3 which below) (ap (λ n. n % 3) e ∙ mod-mul-add page 3 which below)

-- ---- words and places

pub place_within : (sizes : Sizes) (word : Word) → IsWord sizes word → place sizes word < word_total sizes
place_within sizes (SIZE file) is = omega arith
place_within sizes (LENGTH file) is = omega arith
place_within sizes (STORE file) is = omega arith
place_within sizes (ENTRY slot) is = omega arith
place_within sizes (HINT buffer) is = omega arith
place_within sizes (PAGE page) is = omega arith
place_within sizes (CLEANUP page) is = omega arith
place_within sizes (DIRTY page) is = omega arith
place_within sizes word is = omega arith

pub place_there : (sizes : Sizes) (word : Word) → IsWord sizes word → word_of_place sizes (place sizes word) ≡ word
place_there sizes STOP is = refl
place_there sizes ORDER is = refl
place_there sizes HEAD is = refl
place_there sizes TAIL is = refl
place_there sizes HAND is = refl
place_there sizes CLEANER is = refl
place_there sizes HEADER is = refl
place_there sizes (SIZE file) is = of_file_there sizes (place sizes (SIZE file)) file 0 is (omega arith) (omega arith)
place_there sizes (LENGTH file) is = of_file_there sizes (place sizes (LENGTH file)) file 1 is (omega arith) (omega arith)
place_there sizes (STORE file) is = of_file_there sizes (place sizes (STORE file)) file 2 is (omega arith) (omega arith)
place_there sizes (ENTRY slot) is = at_entry sizes (place sizes (ENTRY slot)) (omega arith) (omega arith) ∙ ap ENTRY (omega arith)
place_there sizes (HINT buffer) is = at_hint sizes (place sizes (HINT buffer)) (omega arith) (omega arith) ∙ ap HINT (omega arith)
place_there sizes (PAGE page) is = of_page_there sizes (place sizes (PAGE page)) page 0 (omega arith) (omega arith)
place_there sizes (CLEANUP page) is = of_page_there sizes (place sizes (CLEANUP page)) page 1 (omega arith) (omega arith)
place_there sizes (DIRTY page) is = of_page_there sizes (place sizes (DIRTY page)) page 2 (omega arith) (omega arith)

-- a word of the mount, which stands at a place
abbrev StandsAt : Sizes → ℕ → Word → Type 0
StandsAt sizes p word = IsWord sizes word × (place sizes word ≡ p)

single_there : (sizes : Sizes) (p : ℕ) → p < 7 → StandsAt sizes p (single p)
single_there sizes zero less = (tt, refl)
single_there sizes (suc zero) less = (tt, refl)
single_there sizes (suc (suc zero)) less = (tt, refl)
single_there sizes (suc (suc (suc zero))) less = (tt, refl)
single_there sizes (suc (suc (suc (suc zero)))) less = (tt, refl)
single_there sizes (suc (suc (suc (suc (suc zero))))) less = (tt, refl)
single_there sizes (suc (suc (suc (suc (suc (suc zero)))))) less = (tt, refl)
single_there sizes (suc (suc (suc (suc (suc (suc (suc more))))))) less = absurd (omega arith)

file_there : (sizes : Sizes) (p file which : ℕ) → file < sizes.files → which < 3 → p ≡ 7 + 3 * file + which → StandsAt sizes p (of_file file which)
file_there sizes p file zero less below is = (less, omega arith)
file_there sizes p file (suc zero) less below is = (less, omega arith)
file_there sizes p file (suc (suc zero)) less below is = (less, omega arith)
file_there sizes p file (suc (suc (suc more))) less below is = absurd (omega arith)

page_there : (sizes : Sizes) (p page which : ℕ) → page < page_total sizes → which < 3 → p ≡ first_page_word sizes + 3 * page + which → StandsAt sizes p (of_page page which)
page_there sizes p page zero less below is = (less, omega arith)
page_there sizes p page (suc zero) less below is = (less, omega arith)
page_there sizes p page (suc (suc zero)) less below is = (less, omega arith)
page_there sizes p page (suc (suc (suc more))) less below is = absurd (omega arith)

-- a number below three times a count, in threes
thirds : (n count : ℕ) → n < 3 * count → (n / 3 < count) × (n % 3 < 3) × (n ≡ 3 * (n / 3) + n % 3)
thirds n count less = let e : n / 3 * 3 + n % 3 ≡ n = div-add-mod' n 3 in (div_below n 3 count (omega arith) (omega arith), mod_below n 3 (omega arith), omega arith)

pub word_there : (sizes : Sizes) (place_ : ℕ) → place_ < word_total sizes → IsWord sizes (word_of_place sizes place_) × (place sizes (word_of_place sizes place_) ≡ place_)
word_there sizes p less = elim (cases_lt p 7) [
  | inl low ↦ subst (StandsAt sizes p) (sym (at_single sizes p low)) (single_there sizes p low)
  | inr past ↦ elim (cases_lt p (7 + 3 * sizes.files)) [
    | inl low ↦
        let t = thirds (p - 7) sizes.files (omega arith) in
        subst (StandsAt sizes p) (sym (at_file sizes p past low)) (file_there sizes p ((p - 7) / 3) ((p - 7) % 3) t.0 t.1 (omega arith))
    | inr past ↦ elim (cases_lt p (7 + 3 * sizes.files + sizes.entries)) [
      | inl low ↦ subst (StandsAt sizes p) (sym (at_entry sizes p past low)) (omega arith, omega arith)
      | inr past ↦ elim (cases_lt p (first_page_word sizes)) [
        | inl low ↦ subst (StandsAt sizes p) (sym (at_hint sizes p past low)) (omega arith, omega arith)
        | inr past ↦
            let t = thirds (p - first_page_word sizes) (page_total sizes) (omega arith) in
            subst (StandsAt sizes p) (sym (at_page sizes p past)) (page_there sizes p ((p - first_page_word sizes) / 3) ((p - first_page_word sizes) % 3) t.0 t.1 (omega arith))
      ]
    ]
  ]
]

-- ---- slots and cells

module _ (sizes : Sizes) where
  slot_entry : (slot : ℕ) → 1 ≤ slot → slot < 1 + sizes.entries → cell_of sizes slot ≡ ENTRY (slot - 1)
  slot_entry slot low less = above_is slot 1 _ _ low ∙ below_is slot (1 + sizes.entries) _ _ less

  slot_store : (slot : ℕ) → 1 + sizes.entries ≤ slot → slot < 1 + sizes.entries + sizes.files → cell_of sizes slot ≡ STORE (slot - (1 + sizes.entries))
  slot_store slot low less = above_is slot 1 _ _ (omega arith) ∙ above_is slot (1 + sizes.entries) _ _ low ∙ below_is slot (1 + sizes.entries + sizes.files) _ _ less

  slot_page : (slot : ℕ) → 1 + sizes.entries + sizes.files ≤ slot → cell_of sizes slot ≡ PAGE (slot - (1 + sizes.entries + sizes.files))
  slot_page slot low = above_is slot 1 _ _ (omega arith) ∙ above_is slot (1 + sizes.entries) _ _ (omega arith) ∙ above_is slot (1 + sizes.entries + sizes.files) _ _ low

-- a cell of the mount, whose slot it is
abbrev IsCellOf : Sizes → ℕ → Word → Type 0
IsCellOf sizes slot cell = (slot_of_cell sizes cell ≡ Some slot) × IsWord sizes cell

pub slot_there : (sizes : Sizes) (slot : ℕ) → slot < slot_total sizes → (slot_of_cell sizes (cell_of sizes slot) ≡ Some slot) × IsWord sizes (cell_of sizes slot)
slot_there sizes slot less = elim (cases_lt slot 1) [
  | inl low ↦ subst (IsCellOf sizes slot) (sym (below_is slot 1 HEADER _ low)) (ap Some (omega arith), tt)
  | inr past ↦ elim (cases_lt slot (1 + sizes.entries)) [
    | inl low ↦ subst (IsCellOf sizes slot) (sym (slot_entry sizes slot past low)) (ap Some (omega arith), omega arith)
    | inr past ↦ elim (cases_lt slot (1 + sizes.entries + sizes.files)) [
      | inl low ↦ subst (IsCellOf sizes slot) (sym (slot_store sizes slot past low)) (ap Some (omega arith), omega arith)
      | inr past ↦ subst (IsCellOf sizes slot) (sym (slot_page sizes slot past)) (ap Some (omega arith), omega arith)
    ]
  ]
]

some_is : {a b : ℕ} → Some a ≡ Some b → a ≡ b
some_is e = cc

pub cell_there : (sizes : Sizes) (cell : Word) (slot : ℕ) → IsWord sizes cell → slot_of_cell sizes cell ≡ Some slot → (slot < slot_total sizes) × (cell_of sizes slot ≡ cell)
cell_there sizes HEADER slot is e =
    let a : 0 ≡ slot = some_is e in
    (omega arith, below_is slot 1 HEADER _ (omega arith))
cell_there sizes (ENTRY entry) slot is e =
    let a : 1 + entry ≡ slot = some_is e in
    (omega arith, slot_entry sizes slot (omega arith) (omega arith) ∙ ap ENTRY (omega arith))
cell_there sizes (STORE file) slot is e =
    let a : 1 + sizes.entries + file ≡ slot = some_is e in
    (omega arith, slot_store sizes slot (omega arith) (omega arith) ∙ ap STORE (omega arith))
cell_there sizes (PAGE page) slot is e =
    let a : 1 + sizes.entries + sizes.files + page ≡ slot = some_is e in
    (omega arith, slot_page sizes slot (omega arith) ∙ ap PAGE (omega arith))
cell_there sizes cell slot is e = absurd cc

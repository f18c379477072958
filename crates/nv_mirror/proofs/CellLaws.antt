-- Cells: the pages of a call, how often each is among some cells, and the room that a page's buffer has.
use Rattle.std.proofs.Common.{◌≡◌, ℕ, zero, suc, ◌+◌, ◌<◌, ◌≤◌, ◌^◌, Bool, true, false, List, ◌∷◌, ◌++◌, length, inl, inr, refl, sym, ap, ◌∙◌, arith}
use Rattle.std.specs.Prelude.{Some}
use Rattle.std.proofs.lemmas.Bool.{cases_eq}
use Rattle.std.proofs.Math.Nat.{mul-le-mul_left, div-le_of_le-mul}
use Rattle.nv_plain.specs.declared.call.FileCall.{FileCall}
use Rattle.nv_core.specs.state.Words.{Sizes, Word, PAGE, SIZE, ENTRY, slot_of_entry}
use Rattle.nv_core.specs.state.Values.{Value, Bare, APart, AStore, ABuffer, Buffer}
use Rattle.nv_core.specs.state.Passes.{IsAllowed, at_of, end_page, file_of, times}
use Rattle.nv_core.specs.invariant.Shapes.{HasShape}
use Rattle.nv_core.proofs.invariant.LockLaws.{times_here, times_else}
use Rattle.nv_table.specs.state.Limits.{MountIsWithinLimits}
use Rattle.nv_mirror.specs.OwnedCells.{pages_from, entries_from, with_if}

-- the pages of a call are few
pub last_low : (sizes : Sizes) (call : FileCall) → MountIsWithinLimits sizes → IsAllowed sizes call → end_page sizes call ≤ 2 ^ 50
last_low sizes call limits allowed =
    let files = mul-le-mul_left (file_of call) limits.most_pages in
    let pages = div-le_of_le-mul sizes.page {m = at_of call} {n = sizes.pages} (let near = allowed.near in omega (arith, near)) in
    let short = allowed.short in
    let known = allowed.known in
    let most = limits.most_files in
    let most_pages = limits.most_pages in
    omega (arith, files, pages, short, known, most, most_pages)

pub page_is : {one other : ℕ} → PAGE one ≡ PAGE other → one ≡ other
page_is e = cc

pub no_entry : {page slot : ℕ} → PAGE page ≡ ENTRY slot → ⊥
no_entry e = cc

pub no_size : {page file : ℕ} → PAGE page ≡ SIZE file → ⊥
no_size e = cc

pub behind_entries : (sizes : Sizes) (page from count : ℕ) (rest : List Word) → times (PAGE page) (entries_from sizes from count ++ rest) ≡ times (PAGE page) rest
behind_entries sizes page from zero rest = refl
behind_entries sizes page from (suc count) rest =
    times_else (PAGE page) (ENTRY (slot_of_entry sizes (from + count))) (entries_from sizes from count ++ rest) no_entry ∙ behind_entries sizes page from count rest

pub behind_size : (page file : ℕ) (sized : Bool) (rest : List Word) → times (PAGE page) (with_if sized (SIZE file) rest) ≡ times (PAGE page) rest
behind_size page file true rest = times_else (PAGE page) (SIZE file) rest no_size
behind_size page file false rest = refl

pub page_above : (page first count : ℕ) → first + count ≤ page → times (PAGE page) (pages_from first count) ≡ 0
page_above page first zero high = refl
page_above page first (suc count) high =
    times_else (PAGE page) (PAGE (first + count)) (pages_from first count) (λ e. let i = page_is e in omega (arith, i, high)) ∙ page_above page first count (omega (arith, high))

pub page_inside : (page first count : ℕ) → first ≤ page → page < first + count → times (PAGE page) (pages_from first count) ≡ 1
page_inside page first zero low high = absurd (omega (arith, low, high))
page_inside page first (suc count) low high = elim (cases_eq page (first + count)) [
  | inl here ↦
      ap (λ p. times (PAGE page) (PAGE p ∷ pages_from first count)) (sym here) ∙ times_here (PAGE page) (pages_from first count)
      ∙ ap (λ n. 1 + n) (page_above page first count (omega (arith, here)))
  | inr ne ↦ times_else (PAGE page) (PAGE (first + count)) (pages_from first count) (λ e. ne (page_is e)) ∙ page_inside page first count low (omega (arith, high, ne))
]

-- a buffer has room for a page
pub room_in : (page : ℕ) (first : Value) (buffer : Buffer) → HasShape page first (ABuffer (Some buffer)) → page ≤ length buffer.bytes
room_in page Bare buffer is = absurd is
room_in page (APart device spares) buffer is = absurd is
room_in page (AStore device) buffer is = absurd is
room_in page (ABuffer other) buffer is = is

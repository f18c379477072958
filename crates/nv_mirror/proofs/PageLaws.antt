-- Pages: those of a call, and what is left of them where one is given back.
use Rattle.std.proofs.Common.{◌≡◌, ◌≢◌, ℕ, zero, suc, ◌+◌, ◌-◌, ◌<◌, ◌≤◌, ◌/◌, ◌&&◌, nat_lt, if◌then◌else◌, true, List, [], ◌∷◌, sym, ap, subst, ◌∙◌, arith, ne_eqb}
use Rattle.nv_plain.specs.Pieces.{pages_touched}
use Rattle.std.proofs.lemmas.Bool.{le-leb, lt-ltb}
use Rattle.nv_core.specs.invariant.Ownership.{is_among}
use Rattle.nv_core.specs.state.Passes.{without}
use Rattle.nv_core.specs.state.Words.{Word, PAGE, index}
use Rattle.nv_core.proofs.state.Changes.{same_self, same_false}
use Rattle.nv_mirror.specs.OwnedCells.{pages_from}

-- a page of a call is among its pages
pub page_among : (first end page : ℕ) → first ≤ page → page < end → is_among first end page ≡ true
page_among first end page low high = ap (λ b. b && nat_lt page end) (le-leb first page low) ∙ lt-ltb page end high

-- owned cells without the last taken, and without another one
pub without_first : (cell : Word) (owned : List Word) → without cell (cell ∷ owned) ≡ owned
without_first cell owned = ap (λ b. if b then owned else cell ∷ without cell owned) (same_self cell)

pub without_other : (cell other : Word) (owned : List Word) → cell ≢ other → without cell (other ∷ owned) ≡ other ∷ without cell owned
without_other cell other owned ne = ap (λ b. if b then owned else other ∷ without cell owned) (same_false cell other ne)

-- pages without the first of them, which was taken first
pub pages_less : (page count : ℕ) → without (PAGE page) (pages_from page (suc count)) ≡ pages_from (page + 1) count
pages_less page zero = ap (λ p. without (PAGE page) (PAGE p ∷ [])) (let e : page + zero ≡ page = omega arith in e) ∙ without_first (PAGE page) []
pages_less page (suc count) =
    without_other (PAGE page) (PAGE (page + suc count)) (pages_from page (suc count)) (λ e. let i = ap index e in omega (arith, i))
    ∙ ap (λ owned. PAGE (page + suc count) ∷ owned) (pages_less page count)
    ∙ ap (λ p. PAGE p ∷ pages_from (page + 1) count) (let e : page + suc count ≡ page + 1 + count = omega arith in e)

pub pages_after : (page end : ℕ) → page < end → without (PAGE page) (pages_from page (end - page)) ≡ pages_from (page + 1) (end - (page + 1))
pages_after page end low =
    ap (λ n. without (PAGE page) (pages_from page n)) (let e : end - page ≡ suc (end - (page + 1)) = omega (arith, low) in e) ∙ pages_less page (end - (page + 1))

-- some bytes touch some pages
pub some_touched : (at len page : ℕ) → 0 < len → 0 < pages_touched at len page
some_touched at len page some =
    subst (λ b. 0 < (if b then 0 else (at + len - 1) / page - at / page + 1)) (sym (ne_eqb len 0 (λ e. omega (arith, e, some)))) (omega arith)

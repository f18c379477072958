-- The cell is the first of its kind, or there is none.
use Rattle.std.proofs.Common.{◌≡◌, ◌≢◌, ◌<◌, ℕ, length, slice_index_or, List, sym, ap, subst, ◌∙◌, arith}
use Rattle.std.specs.Prelude.{◌-◌, map, reverse}
use Rattle.std.proofs.lemmas.List.{length-reverse}
use Rattle.nv_core.specs.state.Passes.{without}
use Rattle.nv_clean.specs.declared.owned.Cell.{Cell}
use Rattle.nv_clean.specs.OwnedCells.{core_cell}
use Rattle.nv_clean.proofs.OwnedLaws.{without_first, without_none, remove_reversed}
use Rattle.nv_clean.proofs.owned.OwnedCells.give.Goals as goal

pub returns-then-at-len : goal.returns-then-at-len
returns-then-at-len c =
    let items = c.self.inside.cells.items in
    let same = c.deref.ensures.0 in
    let at = c.place_of-at.result in
    let within : at < length items = let t = c.if-at-len.true in let v = c.len-len.ensures.value in omega (arith, t, v) in
    let long = length-reverse items in
    ap (λ l. map core_cell (reverse l)) c.remove.ensures.items
    ∙ ap (map core_cell) (sym (remove_reversed items (c.len-len.result - 1 - at) at c.args.cell
    (let v = c.len-len.ensures.value in omega (arith, within, v)) (let v = c.len-len.ensures.value in omega (arith, within, v))))
    ∙ sym (without_first c.args.cell (reverse items) at (omega (arith, within, long))
    (subst (λ (l : List Cell). slice_index_or (reverse l) at c.args.cell ≡ c.args.cell) same (c.place_of-at.ensures.found (subst (λ (l : List Cell). at < length l) (sym same) within)))
    (subst (λ (l : List Cell). (j : ℕ) → j < at → slice_index_or (reverse l) j c.args.cell ≢ c.args.cell) same c.place_of-at.ensures.before))
    ∙ ap (without (core_cell c.args.cell)) c.self.view_is

pub returns-else-at-len : goal.returns-else-at-len
returns-else-at-len c =
    let items = c.self.inside.cells.items in
    let same = c.deref.ensures.0 in
    let long = length-reverse items in
    sym c.self.view_is
    ∙ without_none c.args.cell (reverse items)
    (λ j less. subst (λ (l : List Cell). slice_index_or (reverse l) j c.args.cell ≢ c.args.cell) same
    (c.place_of-at.ensures.before j (let t = c.if-at-len.false in let v = c.len-len.ensures.value in omega (arith, t, v, less, long))))
    ∙ ap (without (core_cell c.args.cell)) c.self.view_is

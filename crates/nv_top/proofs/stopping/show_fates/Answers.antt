use Rattle.std.proofs.Common.{◌∙◌, ◌++◌, List, ℕ, map, subst, sym}
use Rattle.nv_pmem.specs.RowStates.{AreNow}
use Rattle.nv_runner.specs.Reports.{history_lines}
use Rattle.nv_runner.specs.Sorted.{placed_call}
use Rattle.nv_top.specs.Stopping.{ShowsOpen}
use Rattle.nv_top.proofs.stopping.show_fates.Goals as goal

pub returns-clause-text : goal.returns-clause-text
returns-clause-text g c now are sorted of =
    let Shows : List (List ℕ) → Type 0 = λ files.
    ShowsOpen sorted (map (λ call. call.now) c.args.begun.now) c.args.found.now c.args.names.now (record { contents = files }) (history_lines 0 (map placed_call sorted.placed.items) ++ c.in_ok-text.text.items) in
    let here = subst (λ stores. AreNow (map g.B.Backing.history stores) now) (sym c.deref_mut.ensures.value) are in
    subst Shows (c.deref.ensures.value ∙ c.in_ok-files.ensures.bytes now here) (c.in_ok-text.ensures sorted of)

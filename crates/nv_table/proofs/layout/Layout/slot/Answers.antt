-- A place behind the hints is of a page.
use Rattle.std.proofs.Common.{arith, ◌≡◌, ◌+◌, ◌-◌, ◌/◌, ◌%◌, ◌==◌, ◌≤◌, sym, ap, ◌∙◌}
use Rattle.std.specs.Bool.{then_some}
use Rattle.nv_core.specs.state.Words.{first_page_word}
use Rattle.nv_table.specs.state.Keys.{sizes_of}
use Rattle.nv_table.proofs.steps.CallOps.{slot_at_page}
use Rattle.nv_table.proofs.layout.Layout.slot.Goals as goal

pub returns : goal.returns
returns c =
    let layout = c.args.self.now in
    let is : c.first_page-first_page.result ≡ first_page_word (sizes_of layout) = omega arith in
    let past : first_page_word (sizes_of layout) ≤ c.args.word = omega arith in
    c.then_some-2.ensures
    ∙ ap (λ first. then_some ((c.args.word - first) % 3 == 0) (1 + layout.entries + layout.files + (c.args.word - first) / 3)) is
    ∙ sym (slot_at_page (sizes_of layout) c.args.word past)

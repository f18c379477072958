use Rattle.std.proofs.Common.{ℕ, List, [], ap, get_or, ◌∙◌}
use Rattle.std.proofs.lemmas.List.{get_or_default}
use Rattle.nv_trace.specs.Said.{said_place}
use Rattle.nv_trace.specs.declared.trace.Descriptor.{Descriptor}
use Rattle.nv_top.proofs.names.placed_in.Goals as goal

pub returns : goal.returns
returns c =
    let Placed : ℕ → Descriptor = λ file. record { file = file; mode = c.args.descriptor.now.mode } in
    let file = c.args.descriptor.now.file in
    let name = c.index-names-descriptor.result in
    let here = c.index-names-descriptor.is ∙ ap (λ (names : List (List ℕ)). get_or names file name) c.names.ensures ∙ get_or_default c.args.trace.now.names file name [] c.requires in
    ap Placed (c.place_of.ensures ∙ ap (λ (name : List ℕ). said_place name c.args.names.now) (c.as_slice.ensures ∙ here))

use Rattle.std.proofs.Common.{[], get_or, sym, ap, ◌∙◌}
use Rattle.std.specs.Prelude.{codes}
use Rattle.std.proofs.lemmas.Bool.{ltb-false, ltb-true}
use Rattle.std.proofs.lemmas.List.{get_or_default, get_or_past}
use Rattle.nv_top.proofs.LoadLemmas.{file_at}
use Rattle.nv_top.proofs.summary.bytes_of.Goals as goal

pub returns-in-Some : goal.returns-in-Some
returns-in-Some c =
    let files = c.args.files.now in
    let place = c.place_of.result in
    let within = ltb-true place _ (sym c.in-Some.ensures.lookup.0) in
    c.as_slice.ensures ∙ c.in-Some.ensures.lookup.1 ∙ get_or_default files place c.in-Some.bytes.now [] within ∙ ap (λ n. get_or files n []) c.place_of.ensures
    ∙ sym (file_at (codes "g") c.args.names.now files c.requires.files)

pub returns-in-None : goal.returns-in-None
returns-in-None c =
    let files = c.args.files.now in
    let past = ltb-false c.place_of.result _ (sym c.in-None.ensures.lookup.0) in
    sym (get_or_past files c.place_of.result [] past) ∙ ap (λ n. get_or files n []) c.place_of.ensures ∙ sym (file_at (codes "g") c.args.names.now files c.requires.files)

-- One owner more is counted.
use Rattle.std.proofs.Common.{◌≡◌, ◌+◌, [], ◌∷◌, ◌++◌, take, sym, ap, ◌∙◌, append_assoc, append-nil}
use Rattle.std.specs.List.{flat_map}
use Rattle.std.proofs.lemmas.List.{take_all, take_more}
use Rattle.std.proofs.lemmas.List.Concat.{flat_map-append}
use Rattle.nv_load.specs.Counts.{counts_of}
use Rattle.nv_load.specs.Generators.{generator_made}
use Rattle.nv_load.specs.declared.generator.Generator.{Generator}
use Rattle.nv_load.proofs.running.add_all.Goals as goal

pub loop-owner-preserved : goal.loop-owner-preserved
loop-owner-preserved c = λ made is.
    let done = c.args.done.now in
    let place = c.loop-owner.owner-index in
    let owner : Generator = c.owner-item.result in
    let before = flat_map generator_made (take place done) in
    let more : flat_map generator_made (take (place + 1) done) ≡ before ++ generator_made owner =
    ap (flat_map generator_made) (take_more done place owner c.loop-owner-test.true ∙ ap (λ o. take place done ++ o ∷ []) (sym c.owner-item.is)) ∙ flat_map-append generator_made (take place done) (owner ∷ [])
    ∙ ap (λ l. before ++ l) (append-nil (generator_made owner)) in
    c.add.ensures (made ++ before) (generator_made owner) (c.loop-owner.invariant made is) c.counts.ensures ∙ ap counts_of (append_assoc made before (generator_made owner) ∙ ap (λ l. made ++ l) (sym more))

pub returns : goal.returns
returns c = λ made is.
    c.loop-owner.invariant made is ∙ ap (λ l. counts_of (made ++ flat_map generator_made l)) (take_all c.loop-owner.owner-index c.args.done.now c.loop-owner-test.false)

use Rattle.std.proofs.Common.{List, [], ◌∷◌, ◌++◌, length, map, take, get_or, sym, ap, ◌∙◌, arith}
use Rattle.std.proofs.lemmas.List.{map_push, take_more}
use Rattle.nv_plain.specs.declared.mode.Mode.TheVariants.{R}
use Rattle.nv_mount.specs.declared.fds.Fd.{Fd}
use Rattle.nv_trace.specs.declared.trace.Descriptor.{Descriptor}
use Rattle.nv_runner.specs.Faithful.{placed_in}
use Rattle.nv_runner.specs.FaithfulRuns.{as_fd}
use Rattle.nv_top.proofs.names.open_fds.Goals as goal

pub loop-descriptor-preserved : goal.loop-descriptor-preserved
loop-descriptor-preserved c =
    let all = c.args.trace.now.descriptors in
    let i = c.loop-descriptor.descriptor-index in
    let none : Descriptor = record { file = 0; mode = R } in
    let place = placed_in c.args.names.now c.args.trace.now in
    let one = c.placed_in.ensures ∙ ap (λ (these : List Descriptor). place (get_or these i none)) c.descriptors-descriptor-items.ensures in
    let more = take_more all i none (omega (arith, c.loop-descriptor-test.true, ap (λ (these : List Descriptor). length these) c.descriptors-descriptor-items.ensures)) in
    c.in_ok-open_fd.ensures
    ∙ ap (λ (opened : List Fd). opened ++ as_fd c.placed_in.result ∷ []) c.loop-descriptor.invariant
    ∙ ap (λ (last : Descriptor). map as_fd (map place (take i all)) ++ as_fd last ∷ []) one
    ∙ sym (ap (λ (these : List Descriptor). map as_fd these) (ap (map place) more ∙ map_push place (take i all) (get_or all i none)) ∙ map_push as_fd (map place (take i all)) (place (get_or all i none)))

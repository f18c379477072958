use Rattle.std.proofs.Common.{◌≡◌, ◌+◌, ◌-◌, max, Bool, false, List, ◌++◌, length, drop, replicate, ap, ◌∙◌, arith}
use Rattle.std.proofs.lemmas.Grind.{common_steps}
use Rattle.std.proofs.lemmas.List.{take_all, take_at, append-nil, length-append, length-replicate}
use Rattle.nv_store.specs.Store.{marked}
use Rattle.nv_store.proofs.Flags.{marked-more, length-marked}
use Rattle.nv_store.proofs.disk.flag.Goals as goal
use Rattle.nv_store.proofs.disk.flag.Goals.{then-end-len+else-prove, else-end-len}

pub returns : goal.returns
returns c =
    let flags = c.args.flags.now.items in
    let end = c.args.at + c.args.count in
    let longer = flags ++ replicate (end - length flags) false in
    let grown : c.if-end-len.flags.items ≡ longer =
    elim c.if-end-len.branch [
      | then-end-len+else-prove w ↦ grind (arith, common_steps, w.resize.ensures.items, take_all end flags)
      | else-end-len w ↦ grind (arith, common_steps, append-nil flags)
    ] in
    let len : length longer ≡ max (length flags) end = simp (length-append, length-replicate) (omega arith) in
    let marks : c.mark.new.flags ≡ marked c.args.at c.args.count (max (length flags) end) flags =
    c.mark.ensures
    ∙ ap (λ (these : List Bool). marked c.args.at c.args.count (length these) these) (c.deref_mut.ensures.value ∙ grown)
    ∙ ap (λ n. marked c.args.at c.args.count n longer) len
    ∙ marked-more c.args.at c.args.count (max (length flags) end) (end - length flags) flags in
    let all : length c.mark.new.flags ≡ c.if-end-len.flags.len =
    omega (arith, ap length marks, length-marked c.args.at c.args.count (max (length flags) end) flags, ap length grown, len, c.if-end-len.flags.ok.0) in
    take_at c.mark.new.flags (drop (length c.mark.new.flags) c.if-end-len.flags.items) c.if-end-len.flags.len all ∙ marks

use Rattle.std.proofs.Common.{◌≡◌, replicate, ap, ◌∙◌, arith}
use Rattle.std.proofs.lemmas.List.{replicate-append-replicate}
use Rattle.nv_pmem.specs.Part.{blank_line}
use Rattle.nv_pmem.proofs.PastLaws.{none_before}
use Rattle.nv_pmem.proofs.told.Told.blank.Goals as goal

pub loop-preserved : goal.loop-preserved
loop-preserved c = rw (← replicate-append-replicate c.loop.counter 1 blank_line) (cc c.in_ok-push.ensures.items)

pub returns : goal.returns
returns c =
    let n : c.loop.counter ≡ c.args.count = omega arith in
    none_before (λ lines. lines.items) (c.loop.invariant ∙ ap (λ count. replicate count blank_line) n) c.new.ensures

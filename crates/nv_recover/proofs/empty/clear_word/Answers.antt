use Rattle.std.proofs.Common.{◌↔◌, ◌<◌, length, subst}
use Rattle.nv_pmem.specs.Steps.{PartHistory}
use Rattle.nv_recover.proofs.EmptyParts.{untrimmed_moments, trimmed_moments, stored_small, same_small}
use Rattle.nv_recover.proofs.Present.{some_tells}
use Rattle.nv_recover.proofs.empty.clear_word.Goals as goal

pub returns-in_err-load-clause-moments : goal.returns-in_err-load-clause-moments
returns-in_err-load-clause-moments g c =
    untrimmed_moments c.args.most (g.L.Lines.history c.args.part.now) (g.L.Lines.history c.load.new.self) c.load.ensures.history

pub returns-in_err-store_durably-clause-moments : goal.returns-in_err-store_durably-clause-moments
returns-in_err-store_durably-clause-moments g c =
    trimmed_moments c.args.most c.in_ok-load.field-0 (g.L.Lines.history c.args.part.now) (g.L.Lines.history c.load.new.self) (g.L.Lines.history c.store_durably.new.part)
    c.load.ensures.history c.if-branch-most.true c.in_ok-load.ensures.value c.store_durably.ensures.moments

pub returns-in_err-store_durably-clause-tells : goal.returns-in_err-store_durably-clause-tells
returns-in_err-store_durably-clause-tells g c =
    let At : PartHistory → Type 0 = λ old. (0 < length old) ↔ (0 < length (g.L.Lines.history c.store_durably.new.part)) in
    subst At c.load.ensures.history (some_tells c.store_durably.ensures.begun)

pub returns-in_ok-store_durably-clause-moments : goal.returns-in_ok-store_durably-clause-moments
returns-in_ok-store_durably-clause-moments g c =
    trimmed_moments c.args.most c.in_ok-load.field-0 (g.L.Lines.history c.args.part.now) (g.L.Lines.history c.load.new.self) (g.L.Lines.history c.store_durably.new.part)
    c.load.ensures.history c.if-branch-most.true c.in_ok-load.ensures.value c.store_durably.ensures.moments

pub returns-in_ok-store_durably-clause-cleared : goal.returns-in_ok-store_durably-clause-cleared
returns-in_ok-store_durably-clause-cleared g c =
    stored_small c.args.most (g.L.Lines.history c.args.part.now) (g.L.Lines.history c.load.new.self) (g.L.Lines.history c.store_durably.new.part)
    c.load.ensures.history c.in_ok-store_durably.ensures.durable c.in_ok-store_durably.ensures.quiet

pub returns-in_ok-store_durably-clause-tells : goal.returns-in_ok-store_durably-clause-tells
returns-in_ok-store_durably-clause-tells g c =
    let At : PartHistory → Type 0 = λ old. (0 < length old) ↔ (0 < length (g.L.Lines.history c.store_durably.new.part)) in
    subst At c.load.ensures.history (some_tells c.store_durably.ensures.begun)

pub returns-else-branch-most-clause-moments : goal.returns-else-branch-most-clause-moments
returns-else-branch-most-clause-moments g c =
    untrimmed_moments c.args.most (g.L.Lines.history c.args.part.now) (g.L.Lines.history c.load.new.self) c.load.ensures.history

pub returns-else-branch-most-clause-cleared : goal.returns-else-branch-most-clause-cleared
returns-else-branch-most-clause-cleared g c =
    same_small c.args.most c.in_ok-load.field-0 (g.L.Lines.history c.args.part.now) (g.L.Lines.history c.load.new.self) c.load.ensures.history
    c.if-branch-most.false c.in_ok-load.ensures.value

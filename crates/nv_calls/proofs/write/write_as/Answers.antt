-- By its steps it is over.
use Rattle.std.proofs.Common.{ℕ, sym, ap, subst, ◌∙◌}
use Rattle.std.specs.Prelude.{Result}
use Rattle.nv_plain.specs.declared.call.FileCall.TheVariants.{Write}
use Rattle.nv_table.specs.state.Opened.{Opened}
use Rattle.nv_mirror.specs.declared.answers.Refusal.{Refusal}
use Rattle.nv_ring.specs.declared.write.RunningWrite.TheVariants.{Over}
use Rattle.nv_ring.specs.RunningWrites.{IsUnderWay}
use Rattle.nv_calls.proofs.calls.OverLaws.{over_asked}
use Rattle.nv_calls.proofs.write.write_as.Goals as goal

pub run-requires-clause-way : goal.run-requires-clause-way
run-requires-clause-way g c =
    let start = c.args.pass.now in
    let same = ap (λ (o : Opened). o.sizes) c.requires.board.same_mount ∙ sym c.layout.ensures in
    (start, subst (λ call. IsUnderWay call c.new-write.result start start) (sym c.requires.made) (c.new-write.ensures.begins start same c.requires.idle))

pub returns-in-Ok-clause-over : goal.returns-in-Ok-clause-over
returns-in-Ok-clause-over g c =
    let start = c.args.pass.now in
    let call = Write c.args.file c.args.at c.args.bytes.now in
    let same = ap (λ (o : Opened). o.sizes) c.requires.board.same_mount ∙ sym c.layout.ensures in
    over_asked call _ _ start c.run.new.pass g.A.Asks.call
    (subst (λ (r : Result ℕ Refusal). IsUnderWay call (Over r) start c.run.new.pass) c.in-Ok.is (c.run.ensures.way call start (c.new-write.ensures.begins start same c.requires.idle)))
    (c.run.ensures.asks ∙ c.new-write.ensures.asks g.A.Asks.call start)

pub returns-in-Err-clause-over : goal.returns-in-Err-clause-over
returns-in-Err-clause-over g c =
    let start = c.args.pass.now in
    let call = Write c.args.file c.args.at c.args.bytes.now in
    let same = ap (λ (o : Opened). o.sizes) c.requires.board.same_mount ∙ sym c.layout.ensures in
    over_asked call _ _ start c.run.new.pass g.A.Asks.call
    (subst (λ (r : Result ℕ Refusal). IsUnderWay call (Over r) start c.run.new.pass) c.in-Err.is (c.run.ensures.way call start (c.new-write.ensures.begins start same c.requires.idle)))
    (c.run.ensures.asks ∙ c.new-write.ensures.asks g.A.Asks.call start)

-- By its steps it is over.
use Rattle.std.proofs.Common.{◌≡◌, [], length, refl, sym, ap, subst, ◌∙◌}
use Rattle.nv_plain.specs.declared.call.FileCall.TheVariants.{Read}
use Rattle.nv_core.specs.state.Passes.{len_of}
use Rattle.nv_table.specs.state.Opened.{Opened}
use Rattle.nv_cache.specs.declared.read.RunningRead.TheVariants.{Over}
use Rattle.nv_cache.specs.RunningReads.{IsUnderWay}
use Rattle.nv_calls.proofs.reads.OverLaws.{done_by}
use Rattle.nv_calls.proofs.reads.PartLaws.{got_within}
use Rattle.nv_calls.proofs.read.read_as.Goals as goal

pub run-requires-clause-way : goal.run-requires-clause-way
run-requires-clause-way g c =
    let same = ap (λ (o : Opened). o.sizes) c.requires.board.same_mount ∙ sym c.layout.ensures in
    let way = c.new.ensures.begins c.args.list.now [] c.args.pass.now refl same c.requires.idle in
    (c.args.pass.now, subst (λ call. IsUnderWay call c.new.result c.args.list.now [] c.args.pass.now c.args.pass.now) (sym c.requires.made) way)

pub returns-clause-done : goal.returns-clause-done
returns-clause-done g c =
    let start = c.args.pass.now in
    let list = c.run.new.list in
    let call = Read c.args.file c.args.at (length c.args.list.now) in
    let same = ap (λ (o : Opened). o.sizes) c.requires.board.same_mount ∙ sym c.layout.ensures in
    let way = c.run.ensures.way call start (c.new.ensures.begins c.args.list.now [] start refl same c.requires.idle) in
    let size : length c.args.list.now ≡ length list = ap len_of way.asks in
    done_by c.runs_are_sound.ensures.runs c.passes_are_left_alone.ensures.own g.A.Asks.call c.args.file c.args.at list [] start c.run.new.pass c.run.result (c.requires.made ∙ ap (Read c.args.file c.args.at) size) c.sees_a_run.ensures.mount
    (subst (λ n. IsUnderWay (Read c.args.file c.args.at n) (Over c.run.result) list [] start c.run.new.pass) size way)
    (c.run.ensures.asks ∙ c.new.ensures.asks g.A.Asks.call start)

pub returns-clause-got : goal.returns-clause-got
returns-clause-got g c = got_within g.A.Asks.call c.run.new.list c.args.pass.now.view c.run.new.pass.view c.run.result (returns-clause-done g c).told

use Rattle.std.proofs.Common.{map}
use Rattle.nv_plain.specs.Images.{layout_in}
use Rattle.nv_plain.specs.Recovered.{Fits}
use Rattle.nv_pmem.specs.Rows.{row_words}
use Rattle.nv_pmem.proofs.RowLaws.{row_tells_more}
use Rattle.nv_recover.specs.Recovering.{HasFoundAll}
use Rattle.nv_look.proofs.dry.replay.Goals as goal
use Rattle.nv_look.proofs.dry.replay.Goals.{in-Ok, in-Err-StoreFault, in-Err}

pub returns-clause-fits : goal.returns-clause-fits
returns-clause-fits g c =
    let row = map g.L.Lines.history c.args.parts.now in
    elim c.match-replay_log.branch [
      | in-Ok w ↦ rw w.result-is (row_tells_more row (λ told. HasFoundAll (row_words told) w.in-Ok.field-0) (λ told. Fits (layout_in (row_words told)) (row_words told)) (λ told found. found.fits) w.in-Ok.ensures.found)
      | in-Err-StoreFault w ↦ rw w.result-is tt
      | in-Err w ↦ rw w.result-is tt
    ]

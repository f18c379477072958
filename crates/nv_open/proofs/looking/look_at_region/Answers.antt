use Rattle.std.proofs.Common.{[], map, refl, sym, ap, ◌∙◌, subst, arith}
use Rattle.std.specs.Prelude.{All, IfSome}
use Rattle.std.proofs.lemmas.Result.{IfOk-weaker}
use Rattle.nv_pmem.specs.Rows.{RowTells}
use Rattle.nv_bench.specs.Holding.{Holding}
use Rattle.nv_header.specs.Laws.{HasSpare}
use Rattle.nv_open.specs.Looking.{ShowsRegion}
use Rattle.nv_open.specs.Refusals.{IsBadHeader, IsRefusedFor}
use Rattle.nv_open.proofs.Looks.{alone_back, given_alone}
use Rattle.nv_open.proofs.Regions.{given_spare, quiet_parts, some_told}
use Rattle.nv_open.proofs.Returns.{written_back}
use Rattle.nv_open.proofs.looking.look_at_region.Goals as goal

pub look_at_parts-text-requires : goal.look_at_parts-text-requires
look_at_parts-text-requires g c =
    let told = (g.T.Bench.state c.args.bench.now).told in
    let room = g.T.Part.Lines.room in
    record {
      spare =
          subst (λ these. All HasSpare (map room these)) (sym c.deref_mut.ensures.value)
          (given_spare g.T.Part.Lines.history room c.in_ok-parts.parts.items told (λ (holding : Holding). holding.parts) c.in_ok-parts.ensures.untold c.in_ok-parts.ensures.told
          (quiet_parts told c.requires.quiet) c.in_ok-parts.ensures.fresh);
    }

pub returns-clause-kept : goal.returns-clause-kept
returns-clause-kept g c =
    let history = g.T.Part.Lines.history in
    let old = g.T.Bench.state c.args.bench.now in
    let mid = g.T.Bench.state c.open_region.new.self in
    let final = g.T.Bench.state c.give_back.new.self in
    let items = c.in_ok-parts.parts.items in
    let same = ap (map history) (written_back c.in_ok-parts.parts.len c.look_at_parts-text.new.parts items (omega (arith, c.look_at_parts-text.auto.parts, c.deref_mut.ensures.len)))
    ∙ c.look_at_parts-text.ensures.read.histories ∙ ap (map history) c.deref_mut.ensures.value in
    given_alone old mid final _ c.in_ok-parts.ensures.lent c.requires.closed c.requires.home c.give_back.ensures.taken
    (alone_back history g.T.Store.Backing.history old mid final.told old.told items _ c.new.result.items c.new.ensures.items c.in_ok-parts.ensures.lent c.requires.home refl
    c.in_ok-parts.ensures.told same c.give_back.ensures.told c.give_back.ensures.untold)

pub returns-clause-text : goal.returns-clause-text
returns-clause-text g c =
    let history = g.T.Part.Lines.history in
    let told = (g.T.Bench.state c.args.bench.now).told in
    IfOk-weaker c.look_at_parts-text.result (λ text. RowTells (map history c.deref_mut.result.now) (λ told. ShowsRegion told [] text)) (λ text. IfSome told (λ holding. ShowsRegion holding.parts [] text))
    (λ text shows.
    some_told told (λ (holding : Holding). holding.parts) (map history c.in_ok-parts.parts.items) (λ told. ShowsRegion told [] text) c.in_ok-parts.ensures.told
    (subst (λ these. RowTells (map history these) (λ told. ShowsRegion told [] text)) c.deref_mut.ensures.value shows))
    c.look_at_parts-text.ensures.text

pub returns-clause-refused : goal.returns-clause-refused
returns-clause-refused g c why is =
    let history = g.T.Part.Lines.history in
    let told = (g.T.Bench.state c.args.bench.now).told in
    some_told told (λ (holding : Holding). holding.parts) (map history c.in_ok-parts.parts.items) (λ told. IsRefusedFor told why × IsBadHeader why) c.in_ok-parts.ensures.told
    (subst (λ these. RowTells (map history these) (λ told. IsRefusedFor told why × IsBadHeader why)) c.deref_mut.ensures.value (c.look_at_parts-text.ensures.refused why is))

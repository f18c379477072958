use Rattle.std.proofs.Common.{map, length, refl, sym, ap, ◌∙◌, subst, arith}
use Rattle.std.specs.Prelude.{All, IfSome}
use Rattle.std.proofs.lemmas.Result.{IfOk-weaker, on_ok_weaker}
use Rattle.nv_pmem.specs.RowStates.{AreNow}
use Rattle.nv_pmem.specs.Rows.{RowTells}
use Rattle.nv_bench.specs.Holding.{Holding}
use Rattle.nv_header.specs.Laws.{HasSpare}
use Rattle.nv_open.specs.Held.{files_named, header_names, names_opened}
use Rattle.nv_open.specs.Looking.{ShowsFiles, names_until}
use Rattle.nv_open.specs.Refusals.{IsRefusedFor}
use Rattle.nv_open.proofs.Looks.{came_back, has_lent}
use Rattle.nv_open.proofs.Regions.{given_spare, lent_told, quiet_parts, some_stores, some_told, still_untold}
use Rattle.nv_open.proofs.Returns.{written_back}
use Rattle.nv_open.proofs.looking.look_at_files.Goals as goal

pub look_at_lent-text-requires-clause-spare : goal.look_at_lent-text-requires-clause-spare
look_at_lent-text-requires-clause-spare g c κs within =
    let told = (g.T.Bench.state c.args.bench.now).told in
    let room = g.T.Part.Lines.room in
    subst (λ these. All HasSpare (map room these)) (sym c.deref_mut.ensures.value)
    (given_spare g.T.Part.Lines.history room c.in_ok-parts.parts.items told (λ (holding : Holding). holding.parts) c.in_ok-parts.ensures.untold c.in_ok-parts.ensures.told
    (quiet_parts told c.requires.quiet) c.in_ok-parts.ensures.fresh)

pub returns-clause-kept : goal.returns-clause-kept
returns-clause-kept g c =
    let history = g.T.Part.Lines.history in
    let store_history = g.T.Store.Backing.history in
    let old = g.T.Bench.state c.args.bench.now in
    let mid = g.T.Bench.state c.open_region.new.self in
    let new = g.T.Bench.state c.look_at_lent-text.new.bench in
    let stores = c.look_at_lent-text.new.stores.items in
    let lent = c.look_at_lent-text.ensures.lent in
    let given = c.in_ok-parts.ensures.lent in
    let are = subst (λ these. IfSome old.told (λ holding. AreNow (map history these) holding.parts)) (sym c.deref_mut.ensures.value) c.in_ok-parts.ensures.told in
    let same = ap (map history) (written_back c.in_ok-parts.parts.len c.look_at_lent-text.new.parts c.in_ok-parts.parts.items (omega (arith, c.look_at_lent-text.auto.parts, c.deref_mut.ensures.len)))
    ∙ c.look_at_lent-text.ensures.read.histories in (
      lent.0,
      came_back history store_history (names_until lent.0) old mid new (g.T.Bench.state c.give_back.new.self).told old.told c.deref_mut.result.now _ stores given c.requires.home refl are lent.1 same
          c.give_back.ensures.told (λ none. c.give_back.ensures.untold (still_untold (length stores) old mid new given (has_lent history store_history (names_until lent.0) mid new c.deref_mut.result.now stores lent.1) none)),
    )

pub returns-clause-all : goal.returns-clause-all
returns-clause-all g c =
    let history = g.T.Part.Lines.history in
    let store_history = g.T.Store.Backing.history in
    let old = g.T.Bench.state c.args.bench.now in
    let mid = g.T.Bench.state c.open_region.new.self in
    let new = g.T.Bench.state c.look_at_lent-text.new.bench in
    let stores = c.look_at_lent-text.new.stores.items in
    let given = c.in_ok-parts.ensures.lent in
    let are = subst (λ these. IfSome old.told (λ holding. AreNow (map history these) holding.parts)) (sym c.deref_mut.ensures.value) c.in_ok-parts.ensures.told in
    let same = ap (map history) (written_back c.in_ok-parts.parts.len c.look_at_lent-text.new.parts c.in_ok-parts.parts.items (omega (arith, c.look_at_lent-text.auto.parts, c.deref_mut.ensures.len)))
    ∙ c.look_at_lent-text.ensures.read.histories in
    on_ok_weaker c.look_at_lent-text.result
    (λ lent.
    came_back history store_history header_names old mid new (g.T.Bench.state c.give_back.new.self).told old.told c.deref_mut.result.now _ stores given c.requires.home refl are lent same
    c.give_back.ensures.told (λ none. c.give_back.ensures.untold (still_untold (length stores) old mid new given (has_lent history store_history header_names mid new c.deref_mut.result.now stores lent) none)))
    c.look_at_lent-text.ensures.all

pub returns-clause-text : goal.returns-clause-text
returns-clause-text g c =
    let history = g.T.Part.Lines.history in
    let old = g.T.Bench.state c.args.bench.now in
    let mid = g.T.Bench.state c.open_region.new.self in
    IfOk-weaker c.look_at_lent-text.result
    (λ text. IfSome mid.told (λ holding. RowTells (map history c.deref_mut.result.now) (λ told. ShowsFiles told (files_named told (header_names told) holding.stores) text)))
    (λ text. IfSome old.told (λ holding. ShowsFiles holding.parts (files_named holding.parts (header_names holding.parts) holding.stores) text))
    (λ text shows.
    some_stores old.told mid.told (λ (holding : Holding). holding.parts) (map history c.in_ok-parts.parts.items) (λ told held. ShowsFiles told (files_named told (header_names told) held) text)
    (lent_told old mid c.in_ok-parts.ensures.lent) c.in_ok-parts.ensures.told
    (subst (λ these. IfSome mid.told (λ holding. RowTells (map history these) (λ told. ShowsFiles told (files_named told (header_names told) holding.stores) text))) c.deref_mut.ensures.value shows))
    c.look_at_lent-text.ensures.text

pub returns-clause-refused : goal.returns-clause-refused
returns-clause-refused g c why is =
    let history = g.T.Part.Lines.history in
    some_told (g.T.Bench.state c.args.bench.now).told (λ (holding : Holding). holding.parts) (map history c.in_ok-parts.parts.items) (λ told. IsRefusedFor told why) c.in_ok-parts.ensures.told
    (subst (λ these. RowTells (map history these) (λ told. IsRefusedFor told why)) c.deref_mut.ensures.value (c.look_at_lent-text.ensures.refused why is))

pub returns-clause-unwritten : goal.returns-clause-unwritten
returns-clause-unwritten g c why is =
    let history = g.T.Part.Lines.history in
    let store_history = g.T.Store.Backing.history in
    let old = g.T.Bench.state c.args.bench.now in
    let mid = g.T.Bench.state c.open_region.new.self in
    let new = g.T.Bench.state c.look_at_lent-text.new.bench in
    let stores = c.look_at_lent-text.new.stores.items in
    let lent = c.look_at_lent-text.ensures.opened why is in
    let given = c.in_ok-parts.ensures.lent in
    let are = subst (λ these. IfSome old.told (λ holding. AreNow (map history these) holding.parts)) (sym c.deref_mut.ensures.value) c.in_ok-parts.ensures.told in
    let same = ap (map history) (written_back c.in_ok-parts.parts.len c.look_at_lent-text.new.parts c.in_ok-parts.parts.items (omega (arith, c.look_at_lent-text.auto.parts, c.deref_mut.ensures.len)))
    ∙ c.look_at_lent-text.ensures.read.histories in
    came_back history store_history (names_opened why) old mid new (g.T.Bench.state c.give_back.new.self).told old.told c.deref_mut.result.now _ stores given c.requires.home refl are lent same
    c.give_back.ensures.told (λ none. c.give_back.ensures.untold (still_untold (length stores) old mid new given (has_lent history store_history (names_opened why) mid new c.deref_mut.result.now stores lent) none))

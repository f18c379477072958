use Rattle.std.proofs.Common.{◌≡◌, Err, length, map, take, refl, sym, ap, ◌∙◌, subst, arith, []}
use Rattle.std.proofs.lemmas.List.{length-map, take_all}
use Rattle.std.proofs.lemmas.Result.{err_from_is_err_and}
use Rattle.nv_pmem.specs.RowStates.{row_tells_from, row_tells_at}
use Rattle.nv_pmem.specs.Rows.{RowTells}
use Rattle.nv_pmem.proofs.ReadLaws.{only_read_more}
use Rattle.nv_open.specs.Held.{header_names, names_opened}
use Rattle.nv_open.specs.Looking.{names_until}
use Rattle.nv_open.specs.Refusals.{IsBadHeader, IsBadLog, IsRefusedFor}
use Rattle.nv_open.specs.declared.error.OpenError.TheVariants as error
use Rattle.nv_open.proofs.LineCounts.{kept_spare}
use Rattle.nv_open.proofs.Looks.{lent_by, on_ok, text_passed}
use Rattle.nv_open.proofs.Openings.{opened_none}
use Rattle.nv_open.proofs.Returns.{names_of_header, names_of_log, opened_alone, refused_alone, written_back}
use Rattle.nv_pmem.specs.RowStates.{AreNow}
use Rattle.std.specs.Prelude.{IfSome}
use Rattle.nv_open.specs.Lending.{stores_named}
use Rattle.nv_open.proofs.looking.look_at_lent.Goals as goal

pub returns-in_err-head-clause-lent : goal.returns-in_err-head-clause-lent
returns-in_err-head-clause-lent g c =
    let state = g.T.Bench.state c.args.bench.now in
    let stores = c.args.stores.now.items in
    let row = map g.T.Part.Lines.history c.args.parts.now in (
      0,
      lent_by g.T.Part.Lines.history g.T.Store.Backing.history g.T.Store.Backing.fault_count [] (names_until 0) state.faults state state c.args.parts.now stores stores stores
          (row_tells_from row (λ told. [] ≡ names_until 0 told) (λ told now. refl)) c.requires.none (opened_none g.T.Store.Backing.history g.T.Store.Backing.fault_count state stores stores refl) refl,
    )

pub returns-in_err-head-clause-opened : goal.returns-in_err-head-clause-opened
returns-in_err-head-clause-opened g c why is =
    let state = g.T.Bench.state c.args.bench.now in
    let stores = c.args.stores.now.items in
    let row = map g.T.Part.Lines.history c.args.parts.now in
    let p = err_from_is_err_and c.from_residual.result c.from_residual.ensures.1 in
    let same : c.in_err-head.field-0.0 ≡ error.Refused why = cc (p.1, p.2, is) in
    let refused = c.read_header.ensures.refused why (c.in_err-head.was ∙ ap Err same) in
    lent_by g.T.Part.Lines.history g.T.Store.Backing.history g.T.Store.Backing.fault_count [] (names_opened why) state.faults state state c.args.parts.now stores stores stores
    (row_tells_from row (λ told. [] ≡ names_opened why told) (λ told now. sym (names_of_header why told (row_tells_at row (λ told. IsRefusedFor told why × IsBadHeader why) told now refused).1)))
    c.requires.none (opened_none g.T.Store.Backing.history g.T.Store.Backing.fault_count state stores stores refl) refl

pub returns-in_err-head-clause-refused : goal.returns-in_err-head-clause-refused
returns-in_err-head-clause-refused g c why is =
    let p = err_from_is_err_and c.from_residual.result c.from_residual.ensures.1 in
    let same : c.in_err-head.field-0.0 ≡ error.Refused why = cc (p.1, p.2, is) in
    refused_alone (map g.T.Part.Lines.history c.args.parts.now) why IsBadHeader (c.read_header.ensures.refused why (c.in_err-head.was ∙ ap Err same))

pub returns-in_err-open_stores-clause-lent : goal.returns-in_err-open_stores-clause-lent
returns-in_err-open_stores-clause-lent g c =
    let begun = c.in_err-open_stores.ensures.begun in
    let names = c.in_ok-head.head.names in
    let stores = c.open_stores.new.stores.items in
    let row = map g.T.Part.Lines.history c.args.parts.now in (
      begun.number,
      lent_by g.T.Part.Lines.history g.T.Store.Backing.history g.T.Store.Backing.fault_count (take begun.number names) (names_until begun.number) begun.faults
          (g.T.Bench.state c.args.bench.now) (g.T.Bench.state c.open_stores.new.bench) c.args.parts.now c.args.stores.now.items stores stores
          (row_tells_from row (λ told. take begun.number names ≡ names_until begun.number told) (λ told now.
          ap (take begun.number) (sym (row_tells_at row (λ told. header_names told ≡ names) told now c.in_ok-head.ensures.names))))
          c.requires.none begun.opened refl,
    )

pub look_at_log-requires-clause-spare : goal.look_at_log-requires-clause-spare
look_at_log-requires-clause-spare g c =
    kept_spare g.T.Part.Lines.room c.args.parts.now c.read_header.new.parts c.in_ok-head.ensures.read.rooms c.requires.spare

pub returns-clause-lent : goal.returns-clause-lent
returns-clause-lent g c =
    let history = g.T.Store.Backing.history in
    let names = c.in_ok-head.head.names in
    let count = length names in
    let row = map g.T.Part.Lines.history c.args.parts.now in
    let opened = c.in_ok-open_stores.ensures.opened in
    let new = c.look_at_log.new.stores in
    let stores = c.open_stores.new.stores.items in
    let long = sym (length-map new history) ∙ ap length (c.look_at_log.ensures.stores_read ∙ ap (map history) c.deref_mut.ensures.value) ∙ length-map stores history in (
      count,
      lent_by g.T.Part.Lines.history history g.T.Store.Backing.fault_count names (names_until count) _ (g.T.Bench.state c.args.bench.now) (g.T.Bench.state c.open_stores.new.bench)
          c.args.parts.now c.args.stores.now.items stores _
          (row_tells_from row (λ told. names ≡ names_until count told) (λ told now.
          sym (take_all count names (omega arith)) ∙ ap (take count) (sym (row_tells_at row (λ told. header_names told ≡ names) told now c.in_ok-head.ensures.names))))
          c.requires.none opened
          (ap (map history) (written_back c.open_stores.new.stores.len new stores (omega (arith, long, c.open_stores.new.stores.ok))) ∙ c.look_at_log.ensures.stores_read ∙ ap (map history) c.deref_mut.ensures.value),
    )

pub returns-clause-all : goal.returns-clause-all
returns-clause-all g c =
    let history = g.T.Store.Backing.history in
    let names = c.in_ok-head.head.names in
    let row = map g.T.Part.Lines.history c.args.parts.now in
    let opened = c.in_ok-open_stores.ensures.opened in
    let new = c.look_at_log.new.stores in
    let stores = c.open_stores.new.stores.items in
    let long = sym (length-map new history) ∙ ap length (c.look_at_log.ensures.stores_read ∙ ap (map history) c.deref_mut.ensures.value) ∙ length-map stores history in
    on_ok c.look_at_log.result
    (lent_by g.T.Part.Lines.history history g.T.Store.Backing.fault_count names header_names _ (g.T.Bench.state c.args.bench.now) (g.T.Bench.state c.open_stores.new.bench)
    c.args.parts.now c.args.stores.now.items stores _
    (row_tells_from row (λ told. names ≡ header_names told) (λ told now. sym (row_tells_at row (λ told. header_names told ≡ names) told now c.in_ok-head.ensures.names)))
    c.requires.none opened
    (ap (map history) (written_back c.open_stores.new.stores.len new stores (omega (arith, long, c.open_stores.new.stores.ok))) ∙ c.look_at_log.ensures.stores_read ∙ ap (map history) c.deref_mut.ensures.value))

pub returns-clause-opened : goal.returns-clause-opened
returns-clause-opened g c why is =
    let history = g.T.Store.Backing.history in
    let names = c.in_ok-head.head.names in
    let part_history = g.T.Part.Lines.history in
    let row = map part_history c.args.parts.now in
    let opened = c.in_ok-open_stores.ensures.opened in
    let new = c.look_at_log.new.stores in
    let stores = c.open_stores.new.stores.items in
    let long = sym (length-map new history) ∙ ap length (c.look_at_log.ensures.stores_read ∙ ap (map history) c.deref_mut.ensures.value) ∙ length-map stores history in
    let refused = subst (λ row. RowTells row (λ told. IsRefusedFor told why × IsBadLog why)) c.in_ok-head.ensures.read.histories (c.look_at_log.ensures.refused why is) in
    lent_by part_history history g.T.Store.Backing.fault_count names (names_opened why) _ (g.T.Bench.state c.args.bench.now) (g.T.Bench.state c.open_stores.new.bench)
    c.args.parts.now c.args.stores.now.items stores _
    (row_tells_from row (λ told. names ≡ names_opened why told) (λ told now.
    sym (names_of_log why told (row_tells_at row (λ told. IsRefusedFor told why × IsBadLog why) told now refused).1 ∙ row_tells_at row (λ told. header_names told ≡ names) told now c.in_ok-head.ensures.names)))
    c.requires.none opened
    (ap (map history) (written_back c.open_stores.new.stores.len new stores (omega (arith, long, c.open_stores.new.stores.ok))) ∙ c.look_at_log.ensures.stores_read ∙ ap (map history) c.deref_mut.ensures.value)

pub returns-clause-refused : goal.returns-clause-refused
returns-clause-refused g c why is =
    refused_alone (map g.T.Part.Lines.history c.args.parts.now) why IsBadLog
    (subst (λ row. RowTells row (λ told. IsRefusedFor told why × IsBadLog why)) c.in_ok-head.ensures.read.histories (c.look_at_log.ensures.refused why is))

pub returns-clause-text : goal.returns-clause-text
returns-clause-text g c =
    let history = g.T.Store.Backing.history in
    let names = c.in_ok-head.head.names in
    let opened = c.in_ok-open_stores.ensures.opened in
    let told = (g.T.Bench.state c.args.bench.now).told in
    let alone = opened_alone c.args.stores.now.items c.open_stores.new.stores.items opened.stores c.requires.none opened.behind ∙ sym c.deref_mut.ensures.value in
    text_passed c.look_at_log.result told (map g.T.Part.Lines.history c.args.parts.now) (map g.T.Part.Lines.history c.read_header.new.parts) (map history c.deref_mut.result.now) names c.in_ok-head.ensures.read.histories c.in_ok-head.ensures.names
    (subst (λ these. IfSome told (λ holding. AreNow (map history these) (stores_named names holding.stores))) alone opened.told) c.look_at_log.ensures.text

pub returns-clause-read : goal.returns-clause-read
returns-clause-read g c = only_read_more c.in_ok-head.ensures.read c.look_at_log.ensures.read

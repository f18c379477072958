use Rattle.std.proofs.Common.{◌≡◌, ◌++◌, List, [], Err, length, map, take, drop, refl, sym, ap, ◌∙◌, subst, arith}
use Rattle.std.specs.Prelude.{All, IfSome}
use Rattle.std.specs.List.{AllZip}
use Rattle.nv_pmem.specs.Room.{Keeps, Room}
use Rattle.nv_pmem.specs.RowStates.{AreNow, row_tells_at, row_tells_from}
use Rattle.nv_pmem.specs.Rows.{RowTells}
use Rattle.nv_pmem.specs.Steps as lines
use Rattle.nv_header.specs.Laws.{HasSpare}
use Rattle.nv_recover.specs.Answers.{parts_after}
use Rattle.nv_recover.specs.Changes.{StayParts}
use Rattle.nv_recover.proofs.RoomLaws.{parts_read, parts_stay}
use Rattle.nv_recover.specs.Standing.{AreQuietStores}
use Rattle.nv_open.specs.Held.{header_names}
use Rattle.nv_open.specs.Lending.{stores_named}
use Rattle.nv_open.specs.Refusals.{IsRefusedFor, IsBadHeader, IsBadLog, head_image}
use Rattle.nv_open.proofs.Beginnings.{if_err_both}
use Rattle.nv_open.proofs.Layers.{is_recovered, lines_after, never_by_bench, not_recovered}
use Rattle.nv_open.proofs.LineCounts.{kept_spare}
use Rattle.nv_open.proofs.NewNames.{for_mount}
use Rattle.nv_open.proofs.Openings.{opened_none, some_nil}
use Rattle.nv_open.proofs.Returns.{written_back, lent_quiet, opened_alone, files_passed, opened_by_header, opened_by_log, refused_alone, unwritten_by}
use Rattle.nv_bench.specs.Holding.{Holding}
use Rattle.nv_recover.specs.Telling.{AllTell}
use Rattle.nv_open.proofs.Tells.{telling_with}
use Rattle.nv_pmem.specs.Part.{Part}
use Rattle.nv_open.specs.Unopened.{HaveSameLines, IsGood, StandAsBefore}
use Rattle.nv_open.proofs.GivenBack.{all_of_header, at_some, first_of_header, none_of_header, read_back, read_untouched, stood_back, untouched_back}
use Rattle.std.proofs.lemmas.Result.{IfErr-weaker, IfOk-weaker}
use Rattle.nv_plain.specs.Images.{version_in}
use Rattle.nv_plain.specs.Layouts.{layout_of, mount_layout}
use Rattle.nv_header.specs.FileNames.{AreFileNames}
use Rattle.nv_pmem.specs.Rows.{AreQuiet}
use Rattle.std.proofs.Common.{ℕ}
use Rattle.nv_open.proofs.recovering.recover_parts.Goals as goal

pub open_stores-requires-clause-open : goal.open_stores-requires-clause-open
open_stores-requires-clause-open g c κs lives = c.requires.given.is_open

pub open_stores-requires-clause-names : goal.open_stores-requires-clause-names
open_stores-requires-clause-names g c κs lives =
    subst (λ (lent : List (List ℕ)). AreFileNames mount_layout (lent ++ c.in-Ok.head.names)) (sym c.requires.given.home) (for_mount c.in-Ok.head.version c.in-Ok.head.names c.in-Ok.ensures.limits.names)

pub recover_log-requires-clause-spare : goal.recover_log-requires-clause-spare
recover_log-requires-clause-spare g c =
    let room = g.T.Part.Lines.room in
    let len = c.args.parts.len in
    let new = c.read_header.new.parts in
    subst (λ these. All HasSpare (map room these)) (sym (written_back len new c.args.parts.items (omega (arith, c.read_header.auto.parts, c.deref_mut.ensures.len))))
    (kept_spare room c.args.parts.items new (subst (λ these. AllZip (λ before now. Keeps (room before) (room now)) these new) c.deref_mut.ensures.value c.in-Ok.ensures.read.rooms) c.requires.given.spare)

pub recover_log-requires-clause-synced : goal.recover_log-requires-clause-synced
recover_log-requires-clause-synced g c =
    let history = g.T.Store.Backing.history in
    let opened = c.in_default.ensures.opened in
    subst (λ these. RowTells (map history these) AreQuietStores) (opened_alone c.args.stores.now.items c.open_stores.new.stores.items opened.stores c.requires.none opened.behind)
    (lent_quiet history (g.T.Bench.state c.args.bench.now).told c.in-Ok.head.names opened.stores c.requires.given.synced opened.told opened.untold)

pub recover_log-requires-clause-quiet : goal.recover_log-requires-clause-quiet
recover_log-requires-clause-quiet g c =
    let history = g.T.Part.Lines.history in
    let new = c.read_header.new.parts in
    let items = c.args.parts.items in
    let same = ap (map history) (written_back c.args.parts.len new items (omega (arith, c.read_header.auto.parts, c.deref_mut.ensures.len)))
    ∙ c.in-Ok.ensures.read.histories ∙ ap (map history) c.deref_mut.ensures.value in
    subst (λ (row : List lines.PartHistory). RowTells row AreQuiet) (sym same) c.requires.given.quiet

pub returns-in-Err-clause-lent : goal.returns-in-Err-clause-lent
returns-in-Err-clause-lent g c =
    let none = opened_none g.T.Store.Backing.history g.T.Store.Backing.fault_count (g.T.Bench.state c.args.bench.now) c.args.stores.now.items c.args.stores.now.items refl in
    record { names = []; lent = none.lent; one_each = ap length c.requires.none }

pub returns-in-Err-open_stores-clause-lent : goal.returns-in-Err-open_stores-clause-lent
returns-in-Err-open_stores-clause-lent g c =
    let begun = c.in-Err-open_stores.ensures.begun in
    let opened = begun.opened in
    let alone = opened_alone c.args.stores.now.items c.open_stores.new.stores.items opened.stores c.requires.none opened.behind in
    record { names = take begun.number c.in-Ok.head.names; lent = opened.lent; one_each = sym (ap length alone) ∙ opened.count }

pub returns-clause-lent : goal.returns-clause-lent
returns-clause-lent g c =
    let opened = c.in_default.ensures.opened in
    let alone = opened_alone c.args.stores.now.items c.open_stores.new.stores.items opened.stores c.requires.none opened.behind in
    record { names = c.in-Ok.head.names; lent = opened.lent; one_each = c.recover_log.ensures.count ∙ sym (ap length alone) ∙ opened.count }

pub returns-in-Err-clause-given_up : goal.returns-in-Err-clause-given_up
returns-in-Err-clause-given_up g c =
    let history = g.T.Part.Lines.history in
    let store_history = g.T.Store.Backing.history in
    let new = c.read_header.new.parts in
    let items = c.args.parts.items in
    let back = take c.args.parts.len (new ++ drop (length new) items) in
    let row : List lines.PartHistory = map history items in
    let state = g.T.Bench.state c.args.bench.now in
    let none = opened_none store_history g.T.Store.Backing.fault_count state c.args.stores.now.items c.args.stores.now.items refl in
    let same = ap (map history) (written_back c.args.parts.len new items (omega (arith, c.read_header.auto.parts, c.deref_mut.ensures.len)))
    ∙ c.in-Err.ensures.read.histories ∙ ap (map history) c.deref_mut.ensures.value in
    record {
      refused = λ why is.
          refused_alone row why IsBadHeader
          (subst (λ these. RowTells (map history these) (λ told. IsRefusedFor told why × IsBadHeader why)) c.deref_mut.ensures.value (c.in-Err.ensures.refused why (ap Err is)));
      unwritten = λ why is.
          unwritten_by history store_history why [] state state items back [] c.args.stores.now.items
          (opened_by_header row why
          (subst (λ these. RowTells (map history these) (λ told. IsRefusedFor told why × IsBadHeader why)) c.deref_mut.ensures.value (c.in-Err.ensures.refused why (ap Err is))))
          same none.lent (some_nil state.told)
          (row_tells_from row (λ told. map store_history c.args.stores.now.items ≡ []) (λ told are. ap (map store_history) c.requires.none));
      standing =
          read_back history store_history state state items back c.args.stores.now.items (g.met.T.Bench.named c.args.bench.now) c.requires.given.home c.requires.given.quiet c.requires.given.synced [] same
          none.lent (subst (λ these. IfSome state.told (λ holding. AreNow (map store_history these) (stores_named [] holding.stores))) (sym c.requires.none) (some_nil state.told));
      untouched =
          read_untouched history store_history state state items back c.args.stores.now.items (g.met.T.Bench.named c.args.bench.now) c.requires.given.home c.requires.given.quiet c.requires.given.synced [] same
          none.lent (subst (λ these. IfSome state.told (λ holding. AreNow (map store_history these) (stores_named [] holding.stores))) (sym c.requires.none) (some_nil state.told))
          (none_of_header history store_history state state items back c.args.stores.now.items (g.met.T.Bench.named c.args.bench.now) c.requires.given.home c.requires.given.quiet c.requires.given.synced);
    }

pub returns-in-Err-open_stores-clause-given_up : goal.returns-in-Err-open_stores-clause-given_up
returns-in-Err-open_stores-clause-given_up g c =
    let history = g.T.Part.Lines.history in
    let store_history = g.T.Store.Backing.history in
    let new = c.read_header.new.parts in
    let items = c.args.parts.items in
    let back = take c.args.parts.len (new ++ drop (length new) items) in
    let state = g.T.Bench.state c.args.bench.now in
    let begun = c.in-Err-open_stores.ensures.begun in
    let opened = begun.opened in
    let names = take begun.number c.in-Ok.head.names in
    let same = ap (map history) (written_back c.args.parts.len new items (omega (arith, c.read_header.auto.parts, c.deref_mut.ensures.len)))
    ∙ c.in-Ok.ensures.read.histories ∙ ap (map history) c.deref_mut.ensures.value in
    record {
      refused = λ why is. never_by_bench why c.in-Err-open_stores.error c.into.result c.into.ensures is;
      unwritten = λ why is. never_by_bench why c.in-Err-open_stores.error c.into.result c.into.ensures is;
      standing =
          read_back history store_history state (g.T.Bench.state c.open_stores.new.bench) items back c.open_stores.new.stores.items (g.met.T.Bench.named c.args.bench.now) c.requires.given.home
          c.requires.given.quiet c.requires.given.synced names same opened.lent
          (subst (λ these. IfSome state.told (λ holding. AreNow (map store_history these) (stores_named names holding.stores)))
          (opened_alone c.args.stores.now.items c.open_stores.new.stores.items opened.stores c.requires.none opened.behind) opened.told);
      untouched =
          read_untouched history store_history state (g.T.Bench.state c.open_stores.new.bench) items back c.open_stores.new.stores.items (g.met.T.Bench.named c.args.bench.now) c.requires.given.home
          c.requires.given.quiet c.requires.given.synced names same opened.lent
          (subst (λ these. IfSome state.told (λ holding. AreNow (map store_history these) (stores_named names holding.stores)))
          (opened_alone c.args.stores.now.items c.open_stores.new.stores.items opened.stores c.requires.none opened.behind) opened.told)
          (first_of_header (map history items) begun.number c.in-Ok.head.names
          (subst (λ these. RowTells (map history these) (λ parts. header_names parts ≡ c.in-Ok.head.names)) c.deref_mut.ensures.value c.in-Ok.ensures.names));
    }

pub returns-clause-recovered : goal.returns-clause-recovered
returns-clause-recovered g c =
    let history = g.T.Part.Lines.history in
    let store_history = g.T.Store.Backing.history in
    let new = c.read_header.new.parts in
    let items = c.args.parts.items in
    let back = take c.args.parts.len (new ++ drop (length new) items) in
    let state = g.T.Bench.state c.args.bench.now in
    let names = c.in-Ok.head.names in
    let opened = c.in_default.ensures.opened in
    let alone = opened_alone c.args.stores.now.items c.open_stores.new.stores.items opened.stores c.requires.none opened.behind in
    let lent = subst (λ these. IfSome state.told (λ holding. AreNow (map store_history these) (stores_named names holding.stores))) alone opened.told in
    let same = ap (map history) (written_back c.args.parts.len new items (omega (arith, c.read_header.auto.parts, c.deref_mut.ensures.len)))
    ∙ c.in-Ok.ensures.read.histories ∙ ap (map history) c.deref_mut.ensures.value in
    is_recovered history store_history state (g.T.Bench.state c.open_stores.new.bench) items c.recover_log.new.stores.items c.recover_log.result names back opened.lent
    (c.recover_log.ensures.count ∙ sym (ap length alone) ∙ opened.count) same c.recover_log.ensures.names c.recover_log.ensures.recovered
    (files_passed (λ done. done.0.names) c.recover_log.result state.told (map history items) (map history back) (map store_history c.open_stores.new.stores.items) (map store_history c.recover_log.new.stores.items) names same
    c.recover_log.ensures.names lent c.requires.given.tell c.recover_log.ensures.files)
    c.recover_log.ensures.quiet
    (telling_with (λ done. map history done.0.parts.items) c.recover_log.result state.told (map history items) (map store_history c.open_stores.new.stores.items) (λ (holding : Holding). stores_named names holding.stores)
    c.requires.given.tell lent (λ parts_tell stores_tell. c.recover_log.ensures.tell (subst AllTell (sym same) parts_tell) stores_tell))
    c.recover_log.ensures.lines

pub returns-clause-version : goal.returns-clause-version
returns-clause-version g c =
    let history = g.T.Part.Lines.history in
    let row : List lines.PartHistory = map history c.args.parts.items in
    let says = subst (λ these. RowTells (map history these) (λ told. c.in-Ok.head.version ≡ version_in (head_image told))) c.deref_mut.ensures.value c.in-Ok.ensures.version in
    IfOk-weaker c.recover_log.result (λ done. done.0.version ≡ c.in-Ok.head.version) (λ done. RowTells row (λ told. done.0.version ≡ version_in (head_image told)))
    (λ done same. row_tells_from row (λ told. done.0.version ≡ version_in (head_image told)) (λ told are. same ∙ row_tells_at row (λ told. c.in-Ok.head.version ≡ version_in (head_image told)) told are says))
    c.recover_log.ensures.version

pub returns-clause-rooms : goal.returns-clause-rooms
returns-clause-rooms g c =
    let room = g.T.Part.Lines.room in
    let new = c.read_header.new.parts in
    let items = c.args.parts.items in
    let back = take c.args.parts.len (new ++ drop (length new) items) in
    let Stay : List Room → Type 0 = StayParts (map room items) in
    let read : Stay (map room new) =
    parts_read room items new (subst (λ these. AllZip (λ before now. Keeps (room before) (room now)) these new) c.deref_mut.ensures.value c.in-Ok.ensures.read.rooms) in
    let here : Stay (map room back) =
    subst (λ these. Stay (map room these)) (sym (written_back c.args.parts.len new items (omega (arith, c.read_header.auto.parts, c.deref_mut.ensures.len)))) read in
    IfOk-weaker c.recover_log.result (λ done. StayParts (map room back) (map room done.0.parts.items)) (λ done. Stay (map room done.0.parts.items))
    (λ done stay. parts_stay here stay) c.recover_log.ensures.rooms

pub returns-clause-given_up : goal.returns-clause-given_up
returns-clause-given_up g c =
    let history = g.T.Part.Lines.history in
    let store_history = g.T.Store.Backing.history in
    let new = c.read_header.new.parts in
    let items = c.args.parts.items in
    let back = take c.args.parts.len (new ++ drop (length new) items) in
    let row : List lines.PartHistory = map history items in
    let state = g.T.Bench.state c.args.bench.now in
    let then = g.T.Bench.state c.open_stores.new.bench in
    let names = c.in-Ok.head.names in
    let opened = c.in_default.ensures.opened in
    let value = c.deref_mut.ensures.value in
    let alone = opened_alone c.args.stores.now.items c.open_stores.new.stores.items opened.stores c.requires.none opened.behind in
    let lent = subst (λ these. IfSome state.told (λ holding. AreNow (map store_history these) (stores_named names holding.stores))) alone opened.told in
    let says = subst (λ these. RowTells (map history these) (λ parts. header_names parts ≡ names)) value c.in-Ok.ensures.names in
    let same = ap (map history) (written_back c.args.parts.len new items (omega (arith, c.read_header.auto.parts, c.deref_mut.ensures.len)))
    ∙ c.in-Ok.ensures.read.histories ∙ ap (map history) c.deref_mut.ensures.value in
    not_recovered history store_history state then items c.recover_log.new.stores.items c.recover_log.result
    (λ why is. refused_alone row why IsBadLog (subst (λ these. RowTells these (λ told. IsRefusedFor told why × IsBadLog why)) same (c.recover_log.ensures.refused why is)))
    (λ why is.
    unwritten_by history store_history why names state then items (parts_after c.recover_log.result) c.open_stores.new.stores.items c.recover_log.new.stores.items
    (opened_by_log row why names says (subst (λ these. RowTells these (λ parts. IsRefusedFor parts why × IsBadLog why)) same (c.recover_log.ensures.refused why is)))
    (c.recover_log.ensures.unwritten why is ∙ same) opened.lent lent
    (subst (λ these. RowTells these (λ parts. map store_history c.recover_log.new.stores.items ≡ map store_history c.open_stores.new.stores.items)) same (c.recover_log.ensures.stores_kept why is)))
    (if_err_both
    (λ failed. (told : List Part) (was : List _) → AreNow (map history back) told → AreNow (map store_history c.open_stores.new.stores.items) was
    → StandAsBefore told was (map history failed.0.items) (map store_history c.recover_log.new.stores.items))
    (λ failed. HaveSameLines row (map history failed.0.items))
    (λ failed. IfSome state.told (λ holding. RowTells (map history items) (λ told. _))) c.recover_log.result
    (λ failed stands alike.
    stood_back history store_history state then items failed.0.items c.recover_log.new.stores.items (g.met.T.Bench.named c.args.bench.now) c.requires.given.home c.requires.given.quiet c.requires.given.synced (layout_of c.in-Ok.head.version) names
    says c.in-Ok.ensures.limits.names (c.recover_log.ensures.count ∙ sym (ap length alone) ∙ opened.count) alike opened.lent
    (λ holding told_is told told_are. stands told (stores_named names holding.stores) (subst (λ (row : List lines.PartHistory). AreNow row told) (sym same) told_are)
    (at_some state.told (λ holding. AreNow (map store_history c.open_stores.new.stores.items) (stores_named names holding.stores)) holding told_is lent)))
    c.recover_log.ensures.standing
    (lines_after history row c.recover_log.result (subst (λ (these : List lines.PartHistory). HaveSameLines these (map history (parts_after c.recover_log.result))) same c.recover_log.ensures.lines)))
    (IfErr-weaker c.recover_log.result
    (λ failed. RowTells (map history back) (λ told. ¬ (IsGood told)
    → (map history failed.0.items ≡ map history back) × (map store_history c.recover_log.new.stores.items ≡ map store_history c.open_stores.new.stores.items)))
    (λ failed. IfSome state.told (λ holding. RowTells (map history items) (λ told. _)))
    (λ failed unfit.
    untouched_back history store_history state then items failed.0.items c.recover_log.new.stores.items (g.met.T.Bench.named c.args.bench.now) c.requires.given.home c.requires.given.quiet c.requires.given.synced names
    opened.lent (all_of_header (map history items) names says)
    (λ holding told_is told told_are not_good.
    let both = row_tells_at (map history back) (λ told. ¬ (IsGood told)
    → (map history failed.0.items ≡ map history back) × (map store_history c.recover_log.new.stores.items ≡ map store_history c.open_stores.new.stores.items)) told
    (subst (λ (row : List lines.PartHistory). AreNow row told) (sym same) told_are) unfit not_good in (
      subst (λ (row : List lines.PartHistory). AreNow row told) (sym (both.0 ∙ same)) told_are,
      subst (λ row. AreNow row (stores_named names holding.stores)) (sym both.1) (at_some state.told (λ holding. AreNow (map store_history c.open_stores.new.stores.items) (stores_named names holding.stores)) holding told_is lent),
    )))
    c.recover_log.ensures.unfit)

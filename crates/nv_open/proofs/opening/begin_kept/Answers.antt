use Rattle.std.proofs.Common.{◌≡◌, ◌++◌, List, [], Err, length, map, take, drop, refl, sym, ap, ◌∙◌, subst, arith}
use Rattle.std.specs.Prelude.{All, IfSome}
use Rattle.std.specs.List.{AllZip}
use Rattle.nv_plain.specs.Images.{version_in}
use Rattle.nv_pmem.specs.Room.{Keeps}
use Rattle.nv_pmem.specs.RowStates.{AreNow, row_tells_at, row_tells_from}
use Rattle.nv_pmem.specs.Rows.{AreQuiet, RowTells}
use Rattle.nv_pmem.specs.Steps as lines
use Rattle.nv_header.specs.Laws.{HasSpare}
use Rattle.nv_recover.specs.Telling.{AllTell}
use Rattle.nv_open.specs.Layers.{HasMountHeader, IsBegunOpen, IsNotBegun}
use Rattle.nv_open.specs.Lending.{stores_named}
use Rattle.nv_open.specs.Refusals.{IsBadHeader, IsRefusedFor, head_image}
use Rattle.nv_open.specs.Unopened.{GivesBack, IsUntouched}
use Rattle.nv_open.specs.declared.error.OpenError.TheVariants as error
use Rattle.nv_open.specs.declared.error.Refusal.{Refusal}
use Rattle.nv_open.proofs.Beginnings.{if_err_all, if_ok_all, if_some_map, refused_kept}
use Rattle.nv_open.proofs.GivenBack.{none_of_header, read_back, read_untouched}
use Rattle.nv_open.proofs.Layers.{carried_begins, not_blank, not_carried, not_recovered_begins, recovered_begins}
use Rattle.nv_open.proofs.LineCounts.{kept_spare, roomy_header}
use Rattle.nv_open.proofs.NewNames.{for_mount}
use Rattle.nv_open.proofs.Openings.{opened_none, some_nil}
use Rattle.nv_open.proofs.PartlyBack.{kept_back}
use Rattle.nv_open.proofs.Returns.{opened_by_bad, unwritten_by, written_back}
use Rattle.nv_open.proofs.opening.begin_kept.Goals as goal

pub recover_parts-requires-clause-given : goal.recover_parts-requires-clause-given
recover_parts-requires-clause-given g c κs lives =
    let history = g.T.Part.Lines.history in
    let room = g.T.Part.Lines.room in
    let new = c.check_mount_header.new.parts in
    let items = c.args.parts.items in
    let same = ap (map history) (written_back c.args.parts.len new items (omega (arith, c.check_mount_header.auto.parts, c.deref_mut.ensures.len))) ∙ c.check_mount_header.ensures.read.histories ∙ ap (map history) c.deref_mut.ensures.value in
    record {
      is_open = c.requires.given.is_open;
      home = c.requires.given.home;
      spare =
          subst (λ these. All HasSpare (map room these)) (sym (written_back c.args.parts.len new items (omega (arith, c.check_mount_header.auto.parts, c.deref_mut.ensures.len))))
          (kept_spare room items new (subst (λ these. AllZip (λ before now. Keeps (room before) (room now)) these new) c.deref_mut.ensures.value c.check_mount_header.ensures.read.rooms) c.requires.given.spare);
      quiet = subst (λ (row : List lines.PartHistory). RowTells row AreQuiet) (sym same) c.requires.given.quiet;
      synced = c.requires.given.synced;
      tell = if_some_map (g.T.Bench.state c.args.bench.now).told c.requires.given.tell (subst AllTell (sym same));
    }

pub carry_over-requires : goal.carry_over-requires
carry_over-requires g c =
    let room = g.T.Part.Lines.room in
    let new = c.check_mount_header.new.parts in
    let items = c.args.parts.items in
    let spare = kept_spare room items new (subst (λ these. AllZip (λ before now. Keeps (room before) (room now)) these new) c.deref_mut.ensures.value c.check_mount_header.ensures.read.rooms) c.requires.given.spare in
    let back = take c.args.parts.len (new ++ drop (length new) items) in
    let same = written_back c.args.parts.len new items (omega (arith, c.check_mount_header.auto.parts, c.deref_mut.ensures.len)) in
    record { room = roomy_header (map room back) (map room c.in-Ok.region.parts.items) (ap (map room) same) spare c.in_default.ensures.long c.in-Ok.ensures.rooms }

pub returns-in-Err-clause-lent : goal.returns-in-Err-clause-lent
returns-in-Err-clause-lent g c =
    let none = opened_none g.T.Store.Backing.history g.T.Store.Backing.fault_count (g.T.Bench.state c.args.bench.now) c.args.stores.now.items c.args.stores.now.items refl in
    record { names = []; lent = none.lent; one_each = ap length c.requires.none }

pub returns-in-Ok-clause-begun : goal.returns-in-Ok-clause-begun
returns-in-Ok-clause-begun g c =
    let history = g.T.Part.Lines.history in
    let store_history = g.T.Store.Backing.history in
    let new = c.check_mount_header.new.parts in
    let items = c.args.parts.items in
    let row : List lines.PartHistory = map history items in
    let back = take c.args.parts.len (new ++ drop (length new) items) in
    let state = g.T.Bench.state c.args.bench.now in
    let same = ap (map history) (written_back c.args.parts.len new items (omega (arith, c.check_mount_header.auto.parts, c.deref_mut.ensures.len))) ∙ c.check_mount_header.ensures.read.histories ∙ ap (map history) c.deref_mut.ensures.value in
    let then = g.T.Bench.state c.recover_parts.new.bench in
    let stores = c.recover_parts.new.stores.items in
    let region = c.in-Ok.region in
    if_ok_all c.carry_over.result (λ geometry region. IsBegunOpen history store_history state then items stores geometry region.geometry.page region.geometry.entries region.names region.next region.parts.items) (λ geometry.
    carried_begins history store_history state then items region.parts.items stores geometry region.geometry region.names region.next
    (recovered_begins history store_history state then items stores back region.parts.items geometry region.geometry.page region.geometry.entries region.names region.next c.in-Ok._found same c.requires.kept c.in-Ok.ensures.recovered)
    c.rows_have_states.ensures.some c.carry_over.result c.carry_over.ensures.geometry c.carry_over.ensures.names c.carry_over.ensures.next c.carry_over.ensures.lines c.carry_over.ensures.tell)

pub returns-in-Ok-clause-given_up : goal.returns-in-Ok-clause-given_up
returns-in-Ok-clause-given_up g c =
    let history = g.T.Part.Lines.history in
    let store_history = g.T.Store.Backing.history in
    let new = c.check_mount_header.new.parts in
    let items = c.args.parts.items in
    let row : List lines.PartHistory = map history items in
    let back = take c.args.parts.len (new ++ drop (length new) items) in
    let state = g.T.Bench.state c.args.bench.now in
    let same = ap (map history) (written_back c.args.parts.len new items (omega (arith, c.check_mount_header.auto.parts, c.deref_mut.ensures.len))) ∙ c.check_mount_header.ensures.read.histories ∙ ap (map history) c.deref_mut.ensures.value in
    let then = g.T.Bench.state c.recover_parts.new.bench in
    let stores = c.recover_parts.new.stores.items in
    let region = c.in-Ok.region in
    let of = subst (λ (row : List lines.PartHistory). RowTells row (λ told. region.version ≡ version_in (head_image told))) same c.in-Ok.ensures.version in
    if_err_all c.carry_over.result (λ geometry failed. IsNotBegun history store_history state then items failed.0.items stores geometry failed.1) (λ geometry.
    not_carried history store_history state then items region.parts.items stores geometry region.geometry region.names region.next
    (recovered_begins history store_history state then items stores back region.parts.items geometry region.geometry.page region.geometry.entries region.names region.next c.in-Ok._found same c.requires.kept c.in-Ok.ensures.recovered)
    c.rows_have_states.ensures.some c.carry_over.result region.version c.requires.kept of (g.met.T.Bench.named c.recover_parts.new.bench) c.requires.given.home
    (for_mount region.version region.names region.is_region.names_are) c.requires.given.synced c.carry_over.ensures.never c.carry_over.ensures.left c.carry_over.ensures.lines)

pub returns-in-Err-recover_parts-clause-given_up : goal.returns-in-Err-recover_parts-clause-given_up
returns-in-Err-recover_parts-clause-given_up g c =
    let history = g.T.Part.Lines.history in
    let store_history = g.T.Store.Backing.history in
    let new = c.check_mount_header.new.parts in
    let items = c.args.parts.items in
    let row : List lines.PartHistory = map history items in
    let back = take c.args.parts.len (new ++ drop (length new) items) in
    let state = g.T.Bench.state c.args.bench.now in
    let same = ap (map history) (written_back c.args.parts.len new items (omega (arith, c.check_mount_header.auto.parts, c.deref_mut.ensures.len))) ∙ c.check_mount_header.ensures.read.histories ∙ ap (map history) c.deref_mut.ensures.value in
    let failed = c.in-Err-recover_parts.failed in
    λ geometry.
    not_recovered_begins history store_history state (g.T.Bench.state c.recover_parts.new.bench) items c.recover_parts.new.stores.items back failed.0.items geometry failed.1 same c.requires.kept
    c.in-Err-recover_parts.ensures.given_up

pub returns-in-Err-clause-given_up : goal.returns-in-Err-clause-given_up
returns-in-Err-clause-given_up g c =
    let history = g.T.Part.Lines.history in
    let store_history = g.T.Store.Backing.history in
    let new = c.check_mount_header.new.parts in
    let items = c.args.parts.items in
    let row : List lines.PartHistory = map history items in
    let back = take c.args.parts.len (new ++ drop (length new) items) in
    let state = g.T.Bench.state c.args.bench.now in
    let same = ap (map history) (written_back c.args.parts.len new items (omega (arith, c.check_mount_header.auto.parts, c.deref_mut.ensures.len))) ∙ c.check_mount_header.ensures.read.histories ∙ ap (map history) c.deref_mut.ensures.value in
    let stores = c.args.stores.now.items in
    let named = g.met.T.Bench.named c.args.bench.now in
    let home = c.requires.given.home in
    let none = opened_none store_history g.T.Store.Backing.fault_count state stores stores refl in
    let are = subst (λ these. IfSome state.told (λ holding. AreNow (map store_history these) (stores_named [] holding.stores))) (sym c.requires.none) (some_nil state.told) in
    let refused = λ (why : Refusal) (is : c.in-Err.error ≡ error.Refused why).
    subst (λ these. RowTells (map history these) (λ told. IsBadHeader why × (HasMountHeader told → IsRefusedFor told why))) c.deref_mut.ensures.value (c.in-Err.ensures.refused why (ap Err is)) in
    let stands = read_back history store_history state state items back stores named home c.requires.given.quiet c.requires.given.synced [] same none.lent are in
    λ geometry. record {
      refused = λ why is.
          if_some_map state.told c.requires.long (λ long.
          refused_kept row why c.requires.kept
          (row_tells_from row (λ told. IsRefusedFor told why) (λ told told_are.
          (row_tells_at row (λ told. IsBadHeader why × (HasMountHeader told → IsRefusedFor told why)) told told_are (refused why is)).1 (row_tells_at row HasMountHeader told told_are long))));
      unwritten = λ why is.
          unwritten_by history store_history why [] state state items back [] stores
          (opened_by_bad row why (row_tells_from row (λ told. IsBadHeader why) (λ told told_are.
          (row_tells_at row (λ told. IsBadHeader why × (HasMountHeader told → IsRefusedFor told why)) told told_are (refused why is)).0)))
          same none.lent (some_nil state.told) (row_tells_from row (λ told. map store_history stores ≡ []) (λ told told_are. ap (map store_history) c.requires.none));
      standing = λ wanted. kept_back history store_history state state row back stores geometry wanted c.requires.kept stands;
      untouched =
          not_blank state.told row (λ holding told. GivesBack history store_history (IsUntouched (record { parts = told; stores = holding.stores })) state back stores)
          (read_untouched history store_history state state items back stores named home c.requires.given.quiet c.requires.given.synced [] same none.lent are
          (none_of_header history store_history state state items back stores named home c.requires.given.quiet c.requires.given.synced));
    }

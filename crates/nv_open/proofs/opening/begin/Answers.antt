use Rattle.std.proofs.Common.{◌≡◌, ◌++◌, List, [], true, false, length, map, take, drop, refl, sym, ap, ◌∙◌, subst, arith}
use Rattle.std.specs.Prelude.{All, IfSome}
use Rattle.std.specs.List.{AllZip}
use Rattle.nv_pmem.specs.Room.{Keeps}
use Rattle.nv_pmem.specs.RowStates.{row_tells_at, row_tells_from}
use Rattle.nv_pmem.specs.Rows.{RowTells}
use Rattle.nv_pmem.specs.Steps as lines
use Rattle.nv_bench.specs.Opening.{is_blank}
use Rattle.nv_header.specs.Laws.{HasSpare}
use Rattle.nv_header.specs.Changes.{parts_after_format}
use Rattle.nv_header.specs.Regions.{IsBlankRow}
use Rattle.nv_header.specs.Needs.{HasLines}
use Rattle.nv_plain.specs.Layouts.{mount_layout}
use Rattle.nv_open.specs.Held.{AreUnwritten}
use Rattle.nv_open.specs.Layers.{HasMountHeader, HasMountLines, IsBegunOpen, IsNotBegun}
use Rattle.nv_pmem.specs.declared.geometry.Geometry.{Geometry}
use Rattle.std.proofs.lemmas.Result.{IfErr-weaker, IfOk-weaker}
use Rattle.nv_open.specs.Refusals.{rooms_of, IsRefusedFor, IsBadHeader}
use Rattle.nv_open.specs.declared.error.OpenError.TheVariants as error
use Rattle.nv_open.proofs.Beginnings.{if_err_map, if_err_both, if_some_map, tells_test, blank_rows, not_short, opened_short}
use Rattle.nv_open.proofs.LineCounts.{kept_spare}
use Rattle.nv_open.proofs.Openings.{opened_none, some_nil}
use Rattle.nv_open.proofs.Returns.{written_back, unwritten_by}
use Rattle.nv_header.specs.Regions.{IsBlankOrFormatted}
use Rattle.nv_pmem.specs.Rows.{InEachRowImage}
use Rattle.nv_recover.specs.Telling.{AllTell}
use Rattle.nv_open.specs.Unopened.{GivesBack, HaveSameLines, IsGood, IsUntouched, StandForFiles, StandsOpening, TellRow, line_counts}
use Rattle.nv_open.specs.declared.error.OpenError.{OpenError}
use Rattle.std.specs.Prelude.{Vec}
use Rattle.nv_pmem.specs.RowStates.{AreNow}
use Rattle.nv_open.specs.Lending.{stores_named}
use Rattle.nv_open.proofs.GivenBack.{if_err_any, if_err_each, none_of_header, read_back, read_untouched}
use Rattle.nv_open.proofs.PartlyBack.{blank_back, read_left}
use Rattle.nv_open.proofs.Layers.{begun_since, formatted_begins, lines_left, never_bad, never_by_fault, not_begun_since, not_blank, not_formatted}
use Rattle.nv_pmem.specs.Rows.{AreQuiet}
use Rattle.nv_open.proofs.opening.begin.Goals as goal

true_is_kept : true ≡ false → ⊥
true_is_kept is = cc

pub format_parts-requires-clause-blank : goal.format_parts-requires-clause-blank
format_parts-requires-clause-blank g c =
    let history = g.T.Part.Lines.history in
    let new = c.are_blank.new.parts in
    let items = c.args.parts.items in
    let same = ap (map history) (written_back c.args.parts.len new items (omega (arith, c.are_blank.auto.parts, c.deref_mut.ensures.len))) ∙ c.are_blank.ensures.read.histories ∙ ap (map history) c.deref_mut.ensures.value in
    subst (λ (row : List lines.PartHistory). RowTells row IsBlankRow) (sym same)
    (blank_rows c.images_follow_calls.ensures.quiet (map history items) c.requires.given.quiet
    (tells_test (map history c.deref_mut.result.now) (map history items) c.in-Ok-true.field-0 true (ap (map history) c.deref_mut.ensures.value) c.in-Ok-true.ensures.told c.in-Ok-true.field-0-test))

pub format_parts-requires-clause-spare : goal.format_parts-requires-clause-spare
format_parts-requires-clause-spare g c =
    let room = g.T.Part.Lines.room in
    let new = c.are_blank.new.parts in
    subst (λ these. All HasSpare (map room these)) (sym (written_back c.args.parts.len new c.args.parts.items (omega (arith, c.are_blank.auto.parts, c.deref_mut.ensures.len))))
    (kept_spare room c.args.parts.items new (subst (λ these. AllZip (λ before now. Keeps (room before) (room now)) these new) c.deref_mut.ensures.value c.are_blank.ensures.read.rooms) c.requires.given.spare)

pub begin_kept-requires-clause-given : goal.begin_kept-requires-clause-given
begin_kept-requires-clause-given g c κs lives =
    let history = g.T.Part.Lines.history in
    let room = g.T.Part.Lines.room in
    let new = c.are_blank.new.parts in
    let items = c.args.parts.items in
    let same = ap (map history) (written_back c.args.parts.len new items (omega (arith, c.are_blank.auto.parts, c.deref_mut.ensures.len))) ∙ c.are_blank.ensures.read.histories ∙ ap (map history) c.deref_mut.ensures.value in
    record {
      is_open = c.requires.given.is_open;
      home = c.requires.given.home;
      spare =
          subst (λ these. All HasSpare (map room these)) (sym (written_back c.args.parts.len new items (omega (arith, c.are_blank.auto.parts, c.deref_mut.ensures.len))))
          (kept_spare room items new (subst (λ these. AllZip (λ before now. Keeps (room before) (room now)) these new) c.deref_mut.ensures.value c.are_blank.ensures.read.rooms) c.requires.given.spare);
      quiet = subst (λ (row : List lines.PartHistory). RowTells row AreQuiet) (sym same) c.requires.given.quiet;
      synced = c.requires.given.synced;
      tell = if_some_map (g.T.Bench.state c.args.bench.now).told c.requires.given.tell (subst AllTell (sym same));
    }

pub returns-in-Ok-true-clause-lent : goal.returns-in-Ok-true-clause-lent
returns-in-Ok-true-clause-lent g c =
    let none = opened_none g.T.Store.Backing.history g.T.Store.Backing.fault_count (g.T.Bench.state c.args.bench.now) c.args.stores.now.items c.args.stores.now.items refl in
    record { names = []; lent = none.lent; one_each = ap length c.requires.none }

pub returns-in-Err-clause-lent : goal.returns-in-Err-clause-lent
returns-in-Err-clause-lent g c =
    let none = opened_none g.T.Store.Backing.history g.T.Store.Backing.fault_count (g.T.Bench.state c.args.bench.now) c.args.stores.now.items c.args.stores.now.items refl in
    record { names = []; lent = none.lent; one_each = ap length c.requires.none }

pub returns-in-Ok-true-clause-begun : goal.returns-in-Ok-true-clause-begun
returns-in-Ok-true-clause-begun g c =
    let history = g.T.Part.Lines.history in
    let store_history = g.T.Store.Backing.history in
    let new = c.are_blank.new.parts in
    let items = c.args.parts.items in
    let row : List lines.PartHistory = map history items in
    let back = take c.args.parts.len (new ++ drop (length new) items) in
    let state = g.T.Bench.state c.args.bench.now in
    let same = ap (map history) (written_back c.args.parts.len new items (omega (arith, c.are_blank.auto.parts, c.deref_mut.ensures.len))) ∙ c.are_blank.ensures.read.histories ∙ ap (map history) c.deref_mut.ensures.value in
    let none = opened_none store_history g.T.Store.Backing.fault_count state c.args.stores.now.items c.args.stores.now.items refl in
    let blank = tells_test (map history c.deref_mut.result.now) row c.in-Ok-true.field-0 true (ap (map history) c.deref_mut.ensures.value) c.in-Ok-true.ensures.told c.in-Ok-true.field-0-test in
    formatted_begins history store_history state state items c.args.stores.now.items c.format_parts.result back c.args.geometry none.lent c.requires.none same blank c.requires.given.tell
    c.format_parts.ensures.formatted c.format_parts.ensures.lines c.format_parts.ensures.tell

pub returns-in-Ok-true-clause-given_up : goal.returns-in-Ok-true-clause-given_up
returns-in-Ok-true-clause-given_up g c =
    let history = g.T.Part.Lines.history in
    let store_history = g.T.Store.Backing.history in
    let new = c.are_blank.new.parts in
    let items = c.args.parts.items in
    let row : List lines.PartHistory = map history items in
    let back = take c.args.parts.len (new ++ drop (length new) items) in
    let state = g.T.Bench.state c.args.bench.now in
    let same = ap (map history) (written_back c.args.parts.len new items (omega (arith, c.are_blank.auto.parts, c.deref_mut.ensures.len))) ∙ c.are_blank.ensures.read.histories ∙ ap (map history) c.deref_mut.ensures.value in
    let none = opened_none store_history g.T.Store.Backing.fault_count state c.args.stores.now.items c.args.stores.now.items refl in
    let blank = tells_test (map history c.deref_mut.result.now) row c.in-Ok-true.field-0 true (ap (map history) c.deref_mut.ensures.value) c.in-Ok-true.ensures.told c.in-Ok-true.field-0-test in
    let geometry = c.args.geometry in
    let told = state.told in
    let stores = c.args.stores.now.items in
    not_formatted history store_history state state items stores c.format_parts.result geometry
    (λ why.
    if_err_map (λ failed. failed.1 ≡ error.Refused why → RowTells (map history back) (λ parts. ¬ (HasLines mount_layout geometry.page geometry.entries (rooms_of parts))))
    (λ failed. failed.1 ≡ error.Refused why → IfSome told (λ holding. RowTells row (λ parts. (is_blank parts ≡ false) × IsRefusedFor parts why))) c.format_parts.result
    (λ failed short is. if_some_map told c.requires.long (λ long. not_short row geometry (λ parts. (is_blank parts ≡ false) × IsRefusedFor parts why) blank long
    (subst (λ (these : List lines.PartHistory). RowTells these (λ parts. ¬ (HasLines mount_layout geometry.page geometry.entries (rooms_of parts)))) same (short is)))) (c.format_parts.ensures.short why))
    (λ why.
    if_err_both (λ failed. failed.1 ≡ error.Refused why → IsBadHeader why)
    (λ failed. failed.1 ≡ error.Refused why → map history failed.0.items ≡ map history back)
    (λ failed. failed.1 ≡ error.Refused why → AreUnwritten history store_history why state state items failed.0.items c.args.stores.now.items) c.format_parts.result
    (λ failed bad kept is. unwritten_by history store_history why [] state state items failed.0.items [] c.args.stores.now.items
    (opened_short row why (bad is)) (kept is ∙ same) none.lent (some_nil state.told)
    (row_tells_from row (λ told. map store_history c.args.stores.now.items ≡ []) (λ told are. ap (map store_history) c.requires.none)))
    (c.format_parts.ensures.header why) (c.format_parts.ensures.kept why))
    (λ wanted.
    let Left : Vec _ _ × OpenError → Type 0 = λ failed. TellRow (InEachRowImage (IsBlankOrFormatted mount_layout geometry.page geometry.entries)) (map history failed.0.items) in
    let Gives : Vec _ _ × OpenError → Type 0 = λ failed. IfSome state.told (λ holding. RowTells row (λ told. StandForFiles told
    → GivesBack history store_history (StandsOpening (line_counts told) geometry (record { parts = told; stores = holding.stores }) wanted) state failed.0.items stores)) in
    let Alike : Vec _ _ × OpenError → Type 0 = λ failed. HaveSameLines row (map history failed.0.items) in
    if_err_both (λ failed. AllTell row → Left failed) Alike Gives c.format_parts.result
    (λ failed left alike. blank_back history store_history state state row failed.0.items stores geometry wanted c.requires.given.home none.lent c.requires.none blank c.requires.given.tell left alike)
    (if_err_each c.format_parts.result Left (λ failed. AllTell row → Left failed) (λ failed left. left) (λ tell. c.format_parts.ensures.left (subst AllTell (sym same) tell)))
    (lines_left history row c.format_parts.result (subst (λ (these : List lines.PartHistory). HaveSameLines these (map history (parts_after_format c.format_parts.result))) same c.format_parts.ensures.lines)))
    (if_err_any c.format_parts.result
    (λ failed. never_bad state.told row (λ holding told. GivesBack history store_history (IsUntouched (record { parts = told; stores = holding.stores })) state failed.0.items stores)
    (row_tells_from row (λ told. is_blank told ≡ false → ¬ (IsGood told) → ⊥) (λ told are kept not_good. true_is_kept (sym (row_tells_at row (λ told. is_blank told ≡ true) told are blank) ∙ kept)))))

pub begin_kept-requires-clause-kept : goal.begin_kept-requires-clause-kept
begin_kept-requires-clause-kept g c κs lives =
    let history = g.T.Part.Lines.history in
    let new = c.are_blank.new.parts in
    let items = c.args.parts.items in
    let same = ap (map history) (written_back c.args.parts.len new items (omega (arith, c.are_blank.auto.parts, c.deref_mut.ensures.len))) ∙ c.are_blank.ensures.read.histories ∙ ap (map history) c.deref_mut.ensures.value in
    subst (λ (row : List lines.PartHistory). RowTells row (λ told. is_blank told ≡ false)) (sym same)
    (tells_test (map history c.deref_mut.result.now) (map history items) c.in-Ok-false.field-0 false (ap (map history) c.deref_mut.ensures.value) c.in-Ok-false.ensures.told c.in-Ok-false.field-0-test)

pub begin_kept-requires-clause-long : goal.begin_kept-requires-clause-long
begin_kept-requires-clause-long g c κs lives =
    let history = g.T.Part.Lines.history in
    let new = c.are_blank.new.parts in
    let items = c.args.parts.items in
    let same = ap (map history) (written_back c.args.parts.len new items (omega (arith, c.are_blank.auto.parts, c.deref_mut.ensures.len))) ∙ c.are_blank.ensures.read.histories ∙ ap (map history) c.deref_mut.ensures.value in
    if_some_map (g.T.Bench.state c.args.bench.now).told c.requires.long (λ long.
    subst (λ (row : List lines.PartHistory). RowTells row HasMountHeader) (sym same)
    (row_tells_from (map history items) HasMountHeader (λ told are. (row_tells_at (map history items) (HasMountLines c.args.geometry) told are long).header)))

pub returns-in-Ok-false-clause-begun : goal.returns-in-Ok-false-clause-begun
returns-in-Ok-false-clause-begun g c =
    let history = g.T.Part.Lines.history in
    let store_history = g.T.Store.Backing.history in
    let new = c.are_blank.new.parts in
    let items = c.args.parts.items in
    let row : List lines.PartHistory = map history items in
    let back = take c.args.parts.len (new ++ drop (length new) items) in
    let state = g.T.Bench.state c.args.bench.now in
    let same = ap (map history) (written_back c.args.parts.len new items (omega (arith, c.are_blank.auto.parts, c.deref_mut.ensures.len))) ∙ c.are_blank.ensures.read.histories ∙ ap (map history) c.deref_mut.ensures.value in
    let then = g.T.Bench.state c.begin_kept.new.bench in
    let stores = c.begin_kept.new.stores.items in
    let geometry = c.args.geometry in
    IfOk-weaker c.begin_kept.result
    (λ region. (geometry : Geometry) → IsBegunOpen history store_history state then back stores geometry region.geometry.page region.geometry.entries region.names region.next region.parts.items)
    (λ region. IsBegunOpen history store_history state then items stores geometry region.geometry.page region.geometry.entries region.names region.next region.parts.items)
    (λ region begun. begun_since history store_history state then items stores back region.parts.items geometry region.geometry.page region.geometry.entries region.names region.next same (begun geometry))
    c.begin_kept.ensures.begun

pub returns-in-Ok-false-clause-given_up : goal.returns-in-Ok-false-clause-given_up
returns-in-Ok-false-clause-given_up g c =
    let history = g.T.Part.Lines.history in
    let store_history = g.T.Store.Backing.history in
    let new = c.are_blank.new.parts in
    let items = c.args.parts.items in
    let row : List lines.PartHistory = map history items in
    let back = take c.args.parts.len (new ++ drop (length new) items) in
    let state = g.T.Bench.state c.args.bench.now in
    let same = ap (map history) (written_back c.args.parts.len new items (omega (arith, c.are_blank.auto.parts, c.deref_mut.ensures.len))) ∙ c.are_blank.ensures.read.histories ∙ ap (map history) c.deref_mut.ensures.value in
    let then = g.T.Bench.state c.begin_kept.new.bench in
    let stores = c.begin_kept.new.stores.items in
    let geometry = c.args.geometry in
    IfErr-weaker c.begin_kept.result
    (λ failed. (geometry : Geometry) → IsNotBegun history store_history state then back failed.0.items stores geometry failed.1)
    (λ failed. IsNotBegun history store_history state then items failed.0.items stores geometry failed.1)
    (λ failed not. not_begun_since history store_history state then items stores back failed.0.items geometry failed.1 same (not geometry))
    c.begin_kept.ensures.given_up

pub returns-in-Err-clause-given_up : goal.returns-in-Err-clause-given_up
returns-in-Err-clause-given_up g c =
    let history = g.T.Part.Lines.history in
    let store_history = g.T.Store.Backing.history in
    let new = c.are_blank.new.parts in
    let items = c.args.parts.items in
    let row : List lines.PartHistory = map history items in
    let back = take c.args.parts.len (new ++ drop (length new) items) in
    let state = g.T.Bench.state c.args.bench.now in
    let same = ap (map history) (written_back c.args.parts.len new items (omega (arith, c.are_blank.auto.parts, c.deref_mut.ensures.len))) ∙ c.are_blank.ensures.read.histories ∙ ap (map history) c.deref_mut.ensures.value in
    let none = opened_none store_history g.T.Store.Backing.fault_count state c.args.stores.now.items c.args.stores.now.items refl in
    let stores = c.args.stores.now.items in
    let named = g.met.T.Bench.named c.args.bench.now in
    let are = subst (λ these. IfSome state.told (λ holding. AreNow (map store_history these) (stores_named [] holding.stores))) (sym c.requires.none) (some_nil state.told) in
    record {
      refused = λ why is. never_by_fault why c.into.result c.into.ensures is;
      unwritten = λ why is. never_by_fault why c.into.result c.into.ensures is;
      standing = λ wanted.
          read_left history store_history state state row back stores c.args.geometry wanted c.images_follow_calls.ensures.quiet named c.requires.given.home none.lent c.requires.none same c.requires.given.quiet c.requires.given.synced
          (read_back history store_history state state items back stores named c.requires.given.home c.requires.given.quiet c.requires.given.synced [] same none.lent are);
      untouched =
          not_blank state.told row (λ holding told. GivesBack history store_history (IsUntouched (record { parts = told; stores = holding.stores })) state back stores)
          (read_untouched history store_history state state items back stores named c.requires.given.home c.requires.given.quiet c.requires.given.synced [] same none.lent are
          (none_of_header history store_history state state items back stores named c.requires.given.home c.requires.given.quiet c.requires.given.synced));
    }

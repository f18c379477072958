use Rattle.std.proofs.Common.{◌≡◌, All, ◌++◌, ◌≤◌, ℕ, List, length, map, sym, ap, ◌∙◌, subst, arith, length-append}
use Rattle.std.specs.Prelude.{IfSome}
use Rattle.nv_plain.specs.Layouts.{mount_layout, mount_version}
use Rattle.nv_header.specs.FileNames.{AreFileNames}
use Rattle.nv_header.proofs.InRow.{region_as}
use Rattle.nv_open.specs.Adding.{new_names, all_names}
use Rattle.nv_open.specs.Begun.{files_behind}
use Rattle.nv_open.specs.declared.error.OpenError.TheVariants as error
use Rattle.nv_open.specs.declared.error.Refusal.TheVariants.{TooManyFiles}
use Rattle.nv_open.proofs.Additions.{held_more}
use Rattle.nv_open.proofs.NewNames.{all_are_names}
use Rattle.std.proofs.lemmas.List.Elements.{All-append}
use Rattle.nv_pmem.specs.Part.{Part}
use Rattle.nv_pmem.specs.RowStates.{AreNow}
use Rattle.nv_pmem.specs.Moments.{Tells}
use Rattle.nv_store.specs.Store.{IsQuietStore}
use Rattle.nv_open.proofs.Tells.{opened_quiet}
use Rattle.std.proofs.Common.{[], refl, take}
use Rattle.nv_pmem.specs.Rows.{InEachRowImage}
use Rattle.nv_pmem.specs.Steps as lines
use Rattle.nv_recover.specs.Telling.{AllTell}
use Rattle.nv_open.specs.Unopened.{GivesBack, HasFirstNames, HasRest, HasSome, HaveSameLines, InEachImage, IsAtRestWith, TellRow, line_counts}
use Rattle.nv_open.specs.declared.error.OpenError.{OpenError}
use Rattle.std.specs.Prelude.{Vec}
use Rattle.nv_open.proofs.Beginnings.{if_err_both}
use Rattle.nv_open.proofs.GivenBack.{if_err_each, rest_back}
use Rattle.nv_open.proofs.Openings.{opened_none}
use Rattle.nv_open.proofs.PartlyBack.{added_back, alone_are, rest_left, some_are}
use Rattle.std.proofs.Common.{◌+◌}
use Rattle.nv_open.proofs.LineCounts.{own_lines}
use Rattle.nv_open.proofs.Layers.{is_added, lines_left, never_by_bench, never_by_memory, not_added}
use Rattle.nv_open.proofs.opening.add_wanted.Goals as goal

pub open_stores-requires-clause-names : goal.open_stores-requires-clause-names
open_stores-requires-clause-names g c κs lives =
    let known = c.args.region.names in
    let wanted = c.args.wanted.now in
    let missing = c.in-Ok.missing in
    let is : missing ≡ new_names known wanted = c.in-Ok.ensures ∙ ap (λ (these : List (List ℕ)). new_names these wanted) c.names.ensures in
    let few : length (all_names known wanted) ≤ 64 =
    omega (arith, length-append known (new_names known wanted), ap length is, c.if-len-gt-FILE_LIMIT.false, c.len.ensures, c.len-2.ensures, ap length c.names-2.ensures) in
    subst (λ (these : List (List ℕ)). AreFileNames mount_layout (these ++ missing)) (sym c.requires.names)
    (subst (λ (these : List (List ℕ)). AreFileNames mount_layout (known ++ these)) (sym is) (all_are_names known wanted (region_as c.requires.version c.args.region.is_region).names_are c.requires.wanted few))

pub add_names-requires-clause-names : goal.add_names-requires-clause-names
add_names-requires-clause-names g c =
    let known = c.args.region.names in
    let wanted = c.args.wanted.now in
    let missing = c.in-Ok.missing in
    let is : missing ≡ new_names known wanted = c.in-Ok.ensures ∙ ap (λ (these : List (List ℕ)). new_names these wanted) c.names.ensures in
    let few : length (all_names known wanted) ≤ 64 =
    omega (arith, length-append known (new_names known wanted), ap length is, c.if-len-gt-FILE_LIMIT.false, c.len.ensures, c.len-2.ensures, ap length c.names-2.ensures) in
    subst (λ (these : List (List ℕ)). AreFileNames mount_layout (known ++ these)) (sym is) (all_are_names known wanted (region_as c.requires.version c.args.region.is_region).names_are c.requires.wanted few)

pub returns-in_default-clause-lent : goal.returns-in_default-clause-lent
returns-in_default-clause-lent g c =
    let none = opened_none g.T.Store.Backing.history g.T.Store.Backing.fault_count (g.T.Bench.state c.args.bench.now) c.args.stores.now.items c.args.stores.now.items refl in
    record { names = []; lent = none.lent; one_each = omega arith }

pub returns-then-len-gt-FILE_LIMIT-clause-lent : goal.returns-then-len-gt-FILE_LIMIT-clause-lent
returns-then-len-gt-FILE_LIMIT-clause-lent g c =
    let none = opened_none g.T.Store.Backing.history g.T.Store.Backing.fault_count (g.T.Bench.state c.args.bench.now) c.args.stores.now.items c.args.stores.now.items refl in
    record { names = []; lent = none.lent; one_each = omega arith }

pub returns-in-Err-clause-lent : goal.returns-in-Err-clause-lent
returns-in-Err-clause-lent g c =
    let begun = c.in-Err.ensures.begun in
    let opened = begun.opened in
    let before = c.args.stores.now.items in
    record {
      names = take begun.number c.in-Ok.missing;
      lent = opened.lent;
      one_each = ap length opened.behind ∙ length-append before opened.stores ∙ ap (λ (count : ℕ). length before + count) opened.count;
    }

pub returns-clause-lent : goal.returns-clause-lent
returns-clause-lent g c =
    let opened = c.in_default-open_stores.ensures.opened in
    let before = c.args.stores.now.items in
    record { names = c.in-Ok.missing; lent = opened.lent; one_each = ap length opened.behind ∙ length-append before opened.stores ∙ ap (λ (count : ℕ). length before + count) opened.count }

pub returns-clause-added : goal.returns-clause-added
returns-clause-added g c =
    let history = g.T.Part.Lines.history in
    let store_history = g.T.Store.Backing.history in
    let state = g.T.Bench.state c.args.bench.now in
    let region = c.args.region in
    let known = region.names in
    let wanted = c.args.wanted.now in
    let missing = c.in-Ok.missing in
    let before = c.args.stores.now.items in
    let stores = c.open_stores.new.stores.items in
    let opened = c.in_default-open_stores.ensures.opened in
    let Quiet : List _ → Type 0 = λ stores. All (λ store. Tells (store_history store) IsQuietStore) stores in
    let is : missing ≡ new_names known wanted = c.in-Ok.ensures ∙ ap (λ (these : List (List ℕ)). new_names these wanted) c.names.ensures in
    is_added history store_history state (g.T.Bench.state c.open_stores.new.bench) region.parts.items stores c.add_names.result region.geometry known wanted missing region.next before is opened.lent
    (λ files holds. held_more store_history state.told missing before stores opened.stores files opened.behind holds c.requires.synced opened.told)
    (ap length opened.behind ∙ length-append before opened.stores ∙ ap (λ (count : ℕ). length before + count) opened.count)
    (λ quiet.
    subst Quiet (sym opened.behind)
    (All-append (λ store. Tells (store_history store) IsQuietStore) before opened.stores quiet (opened_quiet store_history state.told missing opened.stores c.requires.synced opened.told opened.untold)))
    c.add_names.ensures.geometry c.add_names.ensures.names c.add_names.ensures.next c.add_names.ensures.tell c.add_names.ensures.lines

pub returns-clause-given_up : goal.returns-clause-given_up
returns-clause-given_up g c =
    not_added g.T.Part.Lines.history g.T.Store.Backing.history (g.T.Bench.state c.args.bench.now) (g.T.Bench.state c.open_stores.new.bench) c.args.region.parts.items c.open_stores.new.stores.items c.add_names.result
    c.args.region.geometry.page c.args.region.geometry.entries c.args.region.names c.args.wanted.now c.args.region.next c.args.stores.now.items c.add_names.ensures.never
    (λ files holds.
    let history = g.T.Part.Lines.history in
    let store_history = g.T.Store.Backing.history in
    let state = g.T.Bench.state c.args.bench.now in
    let then = g.T.Bench.state c.open_stores.new.bench in
    let region = c.args.region in
    let known = region.names in
    let wanted = c.args.wanted.now in
    let new = new_names known wanted in
    let missing = c.in-Ok.missing in
    let opened = c.in_default-open_stores.ensures.opened in
    let stores = c.open_stores.new.stores.items in
    let is : missing ≡ new = c.in-Ok.ensures ∙ ap (λ (these : List (List ℕ)). new_names these wanted) c.names.ensures in
    let few : length (all_names known wanted) ≤ 64 =
    omega (arith, length-append known new, ap length is, c.if-len-gt-FILE_LIMIT.false, c.len.ensures, c.len-2.ensures, ap length c.names-2.ensures) in
    let all = all_are_names known wanted (region_as c.requires.version region.is_region).names_are c.requires.wanted few in
    let row : List lines.PartHistory = map history region.parts.items in
    let Left : Vec _ _ × OpenError → Type 0 = λ failed. TellRow (InEachRowImage (HasFirstNames mount_version region.geometry.page region.geometry.entries known missing region.next)) (map history failed.0.items) in
    let Alike : Vec _ _ × OpenError → Type 0 = λ failed. HaveSameLines row (map history failed.0.items) in
    if_err_both (λ failed. AllTell row → Left failed) Alike
    (λ failed. IfSome state.told (λ holding. (told : List Part) → AreNow row told
    → GivesBack history store_history (λ now. InEachImage (HasSome mount_version region.geometry.page region.geometry.entries (length known) (all_names known wanted) (files_behind files new holding.stores)) now × HasRest (line_counts told) known holding.stores now) then failed.0.items stores))
    c.add_names.result
    (λ failed left alike.
    added_back history store_history state then row failed.0.items c.args.stores.now.items stores opened.stores mount_version known wanted missing region.geometry.page region.geometry.entries region.next files
    (g.met.T.Bench.named c.args.bench.now) c.requires.names (subst (λ (these : List (List ℕ)). AreFileNames mount_layout (known ++ these)) (sym is) all) c.requires.one_each holds c.requires.synced
    opened.behind opened.lent opened.told
    (λ tell. subst (λ names. TellRow (InEachRowImage (HasFirstNames mount_version region.geometry.page region.geometry.entries known names region.next)) (map history failed.0.items)) is (left tell)) alike)
    (if_err_each c.add_names.result Left (λ failed. AllTell row → Left failed) (λ failed left. left) c.add_names.ensures.left)
    (lines_left history row c.add_names.result c.add_names.ensures.lines))

pub returns-in_default-clause-given_up : goal.returns-in_default-clause-given_up
returns-in_default-clause-given_up g c = record {
  refused = λ why is. never_by_memory why is;
  rests = λ files holds is. never_by_memory TooManyFiles is;
  standing = λ files holds.
      let history = g.T.Part.Lines.history in
      let store_history = g.T.Store.Backing.history in
      let state = g.T.Bench.state c.args.bench.now in
      let region = c.args.region in
      let stores = c.args.stores.now.items in
      let known = region.names in
      let new = new_names known c.args.wanted.now in
      let none = opened_none store_history g.T.Store.Backing.fault_count state stores stores refl in
      let back = c.into_parts.result.items in
      let row : List lines.PartHistory = map history region.parts.items in
      let same : map history back ≡ row = ap (λ parts. map history parts.items) c.into_parts.ensures.parts in
      added_back history store_history state state row back stores stores none.stores mount_version known c.args.wanted.now [] region.geometry.page region.geometry.entries region.next files (g.met.T.Bench.named c.args.bench.now) c.requires.names
      (alone_are known (region_as c.requires.version region.is_region).names_are) c.requires.one_each holds c.requires.synced none.behind none.lent none.told
      (λ tell. rest_left (map history back) region.geometry.page region.geometry.entries known new region.next c.rows_have_states.ensures.some (subst AllTell (sym same) tell) (region_as c.requires.version c.into_parts.ensures.region).tells)
      (subst (HaveSameLines row) (sym same) (own_lines c.rows_have_states.ensures.one row));
}

pub returns-then-len-gt-FILE_LIMIT-clause-given_up : goal.returns-then-len-gt-FILE_LIMIT-clause-given_up
returns-then-len-gt-FILE_LIMIT-clause-given_up g c = record {
  refused = λ why same.
      let known = c.args.region.names in
      let wanted = c.args.wanted.now in
      let missing = c.in-Ok.missing in
      let is : missing ≡ new_names known wanted = c.in-Ok.ensures ∙ ap (λ (these : List (List ℕ)). new_names these wanted) c.names.ensures in (
        (let both : error.Refused TooManyFiles ≡ error.Refused why = same in cc),
        omega (arith, length-append known (new_names known wanted), ap length is, c.if-len-gt-FILE_LIMIT.true, c.len.ensures, c.len-2.ensures, ap length c.names-2.ensures),
      );
  rests = λ files holds refused.
      let history = g.T.Part.Lines.history in
      let store_history = g.T.Store.Backing.history in
      let state = g.T.Bench.state c.args.bench.now in
      let region = c.args.region in
      let stores = c.args.stores.now.items in
      let back = c.into_parts-then-len-gt-FILE_LIMIT.result.items in
      let At : List lines.PartHistory → Type 0 = λ row. IfSome state.told (λ holding. AllTell row → GivesBack history store_history (IsAtRestWith mount_version region.geometry.page region.geometry.entries region.names region.next files holding.stores) state back stores) in
      subst At (ap (λ parts. map history parts.items) c.into_parts-then-len-gt-FILE_LIMIT.ensures.parts)
      (rest_back history store_history state back stores region.geometry.page region.geometry.entries region.names region.next files c.rows_have_states.ensures.some c.requires.names holds (region_as c.requires.version c.into_parts-then-len-gt-FILE_LIMIT.ensures.region).tells);
  standing = λ files holds.
      let history = g.T.Part.Lines.history in
      let store_history = g.T.Store.Backing.history in
      let state = g.T.Bench.state c.args.bench.now in
      let region = c.args.region in
      let stores = c.args.stores.now.items in
      let known = region.names in
      let new = new_names known c.args.wanted.now in
      let none = opened_none store_history g.T.Store.Backing.fault_count state stores stores refl in
      let back = c.into_parts-then-len-gt-FILE_LIMIT.result.items in
      let row : List lines.PartHistory = map history region.parts.items in
      let same : map history back ≡ row = ap (λ parts. map history parts.items) c.into_parts-then-len-gt-FILE_LIMIT.ensures.parts in
      added_back history store_history state state row back stores stores none.stores mount_version known c.args.wanted.now [] region.geometry.page region.geometry.entries region.next files (g.met.T.Bench.named c.args.bench.now) c.requires.names
      (alone_are known (region_as c.requires.version region.is_region).names_are) c.requires.one_each holds c.requires.synced none.behind none.lent none.told
      (λ tell. rest_left (map history back) region.geometry.page region.geometry.entries known new region.next c.rows_have_states.ensures.some (subst AllTell (sym same) tell) (region_as c.requires.version c.into_parts-then-len-gt-FILE_LIMIT.ensures.region).tells)
      (subst (HaveSameLines row) (sym same) (own_lines c.rows_have_states.ensures.one row));
}

pub returns-in-Err-clause-given_up : goal.returns-in-Err-clause-given_up
returns-in-Err-clause-given_up g c = record {
  refused = λ why is. never_by_bench why c.in-Err.error c.into.result c.into.ensures is;
  rests = λ files holds is. never_by_bench TooManyFiles c.in-Err.error c.into.result c.into.ensures is;
  standing = λ files holds.
      let history = g.T.Part.Lines.history in
      let store_history = g.T.Store.Backing.history in
      let state = g.T.Bench.state c.args.bench.now in
      let region = c.args.region in
      let known = region.names in
      let wanted = c.args.wanted.now in
      let new = new_names known wanted in
      let missing = c.in-Ok.missing in
      let begun = c.in-Err.ensures.begun in
      let opened = begun.opened in
      let more = take begun.number missing in
      let is : missing ≡ new = c.in-Ok.ensures ∙ ap (λ (these : List (List ℕ)). new_names these wanted) c.names.ensures in
      let few : length (all_names known wanted) ≤ 64 =
      omega (arith, length-append known new, ap length is, c.if-len-gt-FILE_LIMIT.false, c.len.ensures, c.len-2.ensures, ap length c.names-2.ensures) in
      let all = all_are_names known wanted (region_as c.requires.version region.is_region).names_are c.requires.wanted few in
      let back = c.into_parts-in-Err.result.items in
      let row : List lines.PartHistory = map history region.parts.items in
      let same : map history back ≡ row = ap (λ parts. map history parts.items) c.into_parts-in-Err.ensures.parts in
      added_back history store_history state (g.T.Bench.state c.open_stores.new.bench) row back c.args.stores.now.items c.open_stores.new.stores.items opened.stores mount_version known wanted more region.geometry.page region.geometry.entries region.next files
      (g.met.T.Bench.named c.args.bench.now) c.requires.names (some_are begun.number known missing (subst (λ (these : List (List ℕ)). AreFileNames mount_layout (known ++ these)) (sym is) all)) c.requires.one_each holds c.requires.synced
      opened.behind opened.lent opened.told
      (λ tell. rest_left (map history back) region.geometry.page region.geometry.entries known new region.next c.rows_have_states.ensures.some (subst AllTell (sym same) tell) (region_as c.requires.version c.into_parts-in-Err.ensures.region).tells)
      (subst (HaveSameLines row) (sym same) (own_lines c.rows_have_states.ensures.one row));
}

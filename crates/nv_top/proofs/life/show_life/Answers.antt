use Rattle.std.proofs.Common.{◌≡◌, List, IfSome, map, sym, ap, subst}
use Rattle.std.proofs.lemmas.Result.{IfOk-weaker}
use Rattle.nv_pmem.specs.RowStates.{AreNow}
use Rattle.nv_store.specs.Steps as stores
use Rattle.nv_store.specs.Store.{Store}
use Rattle.nv_recover.specs.Standing.{files_of}
use Rattle.nv_recover.specs.Telling.{AllTell}
use Rattle.nv_open.specs.Held.{HoldFiles, IsRecovered, files_named}
use Rattle.nv_bench.specs.Holding.{named_stores}
use Rattle.nv_top.specs.LifeLines.{ShowsLife, ShowsLines}
use Rattle.nv_top.proofs.StoppingLemmas.{at_some, if_some, shows}
use Rattle.std.proofs.Common.{◌∙◌, ◌++◌, ◌<◌, All, length}
use Rattle.std.proofs.lemmas.List.{length-map}
use Rattle.nv_plain.specs.Images.{version_in}
use Rattle.nv_plain.specs.Layouts.{layout_of}
use Rattle.nv_open.specs.Refusals.{head_image}
use Rattle.nv_pmem.specs.RowStates.{row_tells_at}
use Rattle.nv_header.specs.Regions.{IsAtRest}
use Rattle.nv_open.specs.Lending.{without_stores}
use Rattle.nv_open.specs.Unopened.{HasHeader, StandsAsBefore, TellsOf, line_counts}
use Rattle.nv_open.proofs.LogLaws.{states_many}
use Rattle.nv_top.proofs.CommandLemmas.{back_is}
use Rattle.nv_top.proofs.HeadlineLemmas.{home_distinct}
use Rattle.nv_top.proofs.LifeLemmas.{recovered_stands}
use Rattle.nv_pmem.specs.Rows.{RowTells}
use Rattle.nv_top.proofs.RowLemmas.{made_many, present}
use Rattle.nv_top.proofs.life.show_life.Goals as goal

pub returns-clause-shown : goal.returns-clause-shown
returns-clause-shown g c =
    let history = g.T.Part.Lines.history in
    let held = g.T.Store.Backing.history in
    let begun = map (λ call. call.now) c.args.begun.now in
    let found = c.in_ok-restored.restored.found in
    let region = c.in_ok-restored.restored.region in
    let backing = c.in_ok-restored.restored.stores.items in
    let opened = c.in_ok-restored.ensures in
    let old = g.T.Bench.state c.args.bench.now in
    let lent = g.T.Bench.state c.recover_region.new.bench in
    let new_told = (g.T.Bench.state c.give_back.new.self).told in
    let parts_now = c.into_parts-parts.result.items in
    let same_parts : parts_now ≡ region.parts.items = ap (λ (parts : _). parts.items) c.into_parts-parts.ensures.parts in
    let sorted = c.args.sorted in
    let place = c.args.place in
    let final = c.args.last in
    IfOk-weaker c.life_lines-lines.result
    (λ lines. (now : List Store) → AreNow (map held backing) now → ShowsLines place final sorted begun lines found c.names.result.now (files_of now))
    (λ lines. IfSome old.told (λ holding. ShowsLife place final holding sorted begun new_told lines))
    (λ lines lines_of.
    if_some old.told (λ holding. ShowsLife place final holding sorted begun new_told lines)
    (λ holding told_is.
    let Told : List _ → Type 0 = λ parts. AllTell (map history parts) in
    shows old lent new_told holding (ShowsLines place final sorted begun lines) found region.version region.geometry.page region.geometry.entries region.next region.names c.names.result.now (map history parts_now) (map held backing)
    told_is (length-map parts_now history ∙ ap length same_parts ∙ made_many history region.parts.items holding.parts (present (map history region.parts.items) (at_some old.told (λ holding. AllTell (map history region.parts.items)) holding told_is opened.tell))
    (at_some old.told (λ holding. RowTells (map history region.parts.items) (λ now. line_counts now ≡ line_counts holding.parts)) holding told_is opened.lines)) c.requires.at_home.home opened.lent (sym c.names.ensures) lines_of
    (at_some old.told (λ holding. region.version ≡ version_in (head_image holding.parts)) holding told_is opened.version)
    (at_some old.told (λ holding. IsRecovered holding.parts region.geometry.page region.geometry.entries region.names region.next found) holding told_is opened.recovered)
    (at_some old.told (λ holding. HoldFiles (map held backing) (files_named holding.parts region.names holding.stores)) holding told_is opened.files)
    (subst Told (sym same_parts) (at_some old.told (λ holding. AllTell (map history region.parts.items)) holding told_is opened.tell))
    c.into_parts-parts.ensures.region.tells
    (λ now are. c.parts_have_lines.ensures (layout_of region.version) region.geometry.page region.geometry.entries now c.into_parts-parts.ensures.region.parts are)
    (λ now disks now_are disks_are.
    let At : List stores.StoreHistory → Type 0 = λ row. AreNow row disks in
    c.give_back.ensures.told now disks now_are (subst At (sym c.life_lines-lines.ensures.histories) disks_are))))
    c.life_lines-lines.ensures.lines

pub returns-clause-standing : goal.returns-clause-standing
returns-clause-standing g c =
    let history = g.T.Part.Lines.history in
    let held = g.T.Store.Backing.history in
    let old = g.T.Bench.state c.args.bench.now in
    let mid = g.T.Bench.state c.recover_region.new.bench in
    let then = (g.T.Bench.state c.give_back.new.self).told in
    let made = c.in_ok-restored.ensures in
    let region = c.in_ok-restored.restored.region in
    let backing = c.in_ok-restored.restored.stores.items in
    let back = c.into_parts-parts.result.items in
    let same : map history back ≡ map history region.parts.items = ap (λ parts. map history parts.items) c.into_parts-parts.ensures.parts in
    if_some old.told (λ was. HasHeader was.parts → TellsOf (StandsAsBefore was) then) (λ was told readable.
    let recovery = at_some old.told (λ holding. IsRecovered holding.parts region.geometry.page region.geometry.entries region.names region.next c.in_ok-restored.restored.found) was told made.recovered in
    let files = at_some old.told (λ holding. HoldFiles (map held backing) (files_named holding.parts region.names holding.stores)) was told made.files in
    let now = present (map history region.parts.items) (at_some old.told (λ holding. All (λ h. 0 < length h) (map history region.parts.items)) was told made.tell) in
    let now_are = subst (λ row. AreNow row now.states) (sym same) now.are in
    record {
      now = record { parts = now.states; stores = without_stores region.names was.stores ++ named_stores region.names files.held };
      told_is =
          c.give_back.ensures.told now.states files.held now_are (subst (λ row. AreNow row files.held) (sym c.life_lines-lines.ensures.histories) files.are)
          ∙ back_is old mid region.names was made.lent c.requires.at_home.home told now.states files.held;
      is_so =
          recovered_stands c.images_stand_for_files.ensures.files was region.geometry.page region.geometry.entries region.next region.names c.in_ok-restored.restored.found now.states files.held region.version
          (at_some old.told (λ holding. region.version ≡ version_in (head_image holding.parts)) was told made.version) recovery
          (row_tells_at (map history back) (IsAtRest (layout_of region.version) region.geometry.page region.geometry.entries region.names region.next) now.states now_are c.into_parts-parts.ensures.region.tells) files.files_are files.quiet
          (home_distinct old was (g.met.T.Bench.named c.args.bench.now) told c.requires.at_home.home)
          (row_tells_at (map history region.parts.items) (λ now. line_counts now ≡ line_counts was.parts) now.states now.are (at_some old.told (λ holding. RowTells (map history region.parts.items) (λ now. line_counts now ≡ line_counts holding.parts)) was told made.lines))
          (sym (states_many (map held backing) files.held files.are ∙ length-map backing held ∙ made.one_each))
          c.into_parts-parts.ensures.region.names_are.distinct readable;
    })

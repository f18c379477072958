use Rattle.std.proofs.Common.{◌≡◌, ◌∙◌, ℕ, List, None, length, map, refl, sym, ap, subst}
use Rattle.std.proofs.Common.{◌++◌, ◌<◌, All}
use Rattle.nv_bench.specs.Holding.{named_stores}
use Rattle.nv_open.specs.Lending.{without_stores}
use Rattle.std.specs.Prelude.{IfSome}
use Rattle.std.proofs.lemmas.Result.{IfOk-weaker}
use Rattle.nv_plain.specs.Files.{Files}
use Rattle.nv_plain.specs.Images.{version_in}
use Rattle.nv_plain.specs.Layouts.{layout_of}
use Rattle.nv_open.specs.Refusals.{head_image}
use Rattle.nv_plain.specs.Recovered.{recovered}
use Rattle.nv_pmem.specs.Rows.{RowTells, row_words}
use Rattle.nv_pmem.specs.RowStates.{AreNow, row_tells_at}
use Rattle.nv_store.specs.Steps as stores
use Rattle.nv_store.specs.Store.{Store}
use Rattle.nv_header.specs.Regions.{IsAtRest}
use Rattle.nv_recover.specs.Standing.{files_of}
use Rattle.nv_open.specs.Held.{files_named, header_names}
use Rattle.nv_open.specs.Lending.{stores_named}
use Rattle.nv_top.specs.Commands.{HasRecovered}
use Rattle.nv_runner.specs.Faithful.{named}
use Rattle.nv_top.specs.Leaving.{AreLeft}
use Rattle.nv_top.specs.Readings.{HavePlainNames}
use Rattle.nv_top.specs.Reports.{recovery_text}
use Rattle.nv_top.proofs.CommandLemmas.{if_told, leaves, leaves_by, told_at}
use Rattle.nv_top.proofs.NameLemmas.{each_allowed, names_plain}
use Rattle.nv_top.proofs.RowLemmas.{made_many, present}
use Rattle.std.proofs.lemmas.List.{length-map}
use Rattle.nv_open.specs.Held.{HoldFiles, IsRecovered}
use Rattle.nv_open.specs.Unopened.{HasHeader, IsGood, IsUntouched, StandsAsBefore, TellsOf, line_counts}
use Rattle.nv_open.proofs.LogLaws.{states_many}
use Rattle.nv_top.proofs.CommandLemmas.{back_is}
use Rattle.nv_top.proofs.HeadlineLemmas.{home_distinct}
use Rattle.nv_top.proofs.LifeLemmas.{recovered_stands}
use Rattle.nv_top.proofs.recovery.recover.Goals as goal

pub returns-clause-recovered : goal.returns-clause-recovered
returns-clause-recovered g c =
    let history = g.T.Part.Lines.history in
    let held = g.T.Store.Backing.history in
    let old = g.T.Bench.state c.args.bench.now in
    let mid = g.T.Bench.state c.recover_region.new.bench in
    let made = c.in_ok-restored.ensures in
    let region = c.in_ok-restored.restored.region in
    let found = c.in_ok-restored.restored.found in
    let parts_back = c.into_parts-parts.result.items in
    let stores_back = c.show-report.new.stores.items in
    let shown : (names : List (List ℕ)) (files : Files) → List ℕ = λ names files. recovery_text (record { first = found.first; next = found.next; groups = length found.groups; files = named names files }) in
    IfOk-weaker c.show-report.result
    (λ text. (now : List Store) → AreNow (map held c.in_ok-restored.restored.stores.items) now → text.items ≡ shown c.names.result.now (files_of now))
    (λ text. IfSome old.told (λ holding. HasRecovered holding _ text.items))
    (λ text told_text.
    if_told old.told (λ holding. HasRecovered holding _ text.items) (λ holding told.
    let recovery = told_at old.told _ holding told made.recovered in
    let files = told_at old.told _ holding told made.files in
    let now = present (map history region.parts.items) (told_at old.told _ holding told made.tell) in
    let names = header_names holding.parts in
    let same_parts : parts_back ≡ region.parts.items = ap (λ parts. parts.items) c.into_parts-parts.ensures.parts in
    let PartsAre : List _ → Type 0 = λ parts. AreNow (map history parts) now.states in
    let StoresAre : List stores.StoreHistory → Type 0 = λ row. AreNow row files.held in
    let now_are = subst PartsAre (sym same_parts) now.are in
    let left : AreLeft region.version history held region.names (files_named holding.parts region.names holding.stores) parts_back stores_back = record {
      page = region.geometry.page;
      entries = region.geometry.entries;
      next = region.next;
      now = now.states;
      now_are = now_are;
      rest = row_tells_at (map history parts_back) (IsAtRest (layout_of region.version) region.geometry.page region.geometry.entries region.names region.next) now.states now_are c.into_parts-parts.ensures.region.tells;
      long = c.parts_have_lines.ensures (layout_of region.version) region.geometry.page region.geometry.entries now.states c.into_parts-parts.ensures.region.parts now_are;
      disks = files.held;
      disks_are = subst StoresAre (sym c.show-report.ensures.histories) files.are;
      files_are = files.files_are;
      synced = files.quiet;
    } in
    let Plain : List (List ℕ) → Type 0 = λ names. HavePlainNames (named names (files_named holding.parts names holding.stores)) in
    let base = files_of (stores_named names holding.stores) in
    let log = recovered (row_words holding.parts) base in
    let shown_names = named names (files_named holding.parts names holding.stores) in
    let own : region.version ≡ version_in (head_image holding.parts) = told_at old.told _ holding told made.version in
    let leaving =
    leaves old mid region.names holding made.lent c.requires.at_home.home told region.version None history held (files_named holding.parts region.names holding.stores) parts_back stores_back _ (ap length same_parts ∙ made_many history region.parts.items _ now (told_at old.told _ holding told made.lines)) left c.give_back.ensures.told in
    let left_so =
    leaves_by holding.parts holding.stores region.geometry.page region.geometry.entries region.next own recovery.names_are (leaving, refl, refl, refl) in
    record {
      readable = recovery.readable;
      long = recovery.long;
      fits = recovery.log.fits;
      plain = subst Plain recovery.names_are
          (names_plain (layout_of region.version).name_limit region.names (files_named holding.parts region.names holding.stores).contents (each_allowed (layout_of region.version) region.names c.into_parts-parts.ensures.region.names_are));
      text_is =
          told_text files.held files.are
          ∙ ap (shown c.names.result.now) files.files_are
          ∙ ap (λ shown_as. shown shown_as (files_named holding.parts region.names holding.stores)) (c.names.ensures ∙ recovery.names_are)
          ∙ ap (λ (by : List (List ℕ)). shown names (files_named holding.parts by holding.stores)) recovery.names_are
          ∙ ap (λ first. recovery_text (record { first = first; next = found.next; groups = length found.groups; files = shown_names })) (recovery.log.first base)
          ∙ ap (λ next. recovery_text (record { first = log.first; next = next; groups = length found.groups; files = shown_names })) (recovery.log.next base)
          ∙ ap (λ (groups : List ℕ). recovery_text (record { first = log.first; next = log.next; groups = length groups; files = shown_names })) (recovery.log.groups base);
      left = left_so.0;
      page_is = left_so.1 ∙ recovery.page_is;
      entries_is = left_so.2 ∙ recovery.entries_is;
      next_is = left_so.3 ∙ recovery.next_is ∙ recovery.log.next base;
    }))
    c.show-report.ensures.text

pub returns-clause-untouched : goal.returns-clause-untouched
returns-clause-untouched g c =
    let old = g.T.Bench.state c.args.bench.now in
    let then = (g.T.Bench.state c.give_back.new.self).told in
    let region = c.in_ok-restored.restored.region in
    if_told old.told (λ was. ¬ (IsGood was.parts) → TellsOf (IsUntouched was) then) (λ was told bad.
    let recovery = told_at old.told (λ holding. IsRecovered holding.parts region.geometry.page region.geometry.entries region.names region.next c.in_ok-restored.restored.found) was told c.in_ok-restored.ensures.recovered in
    absurd (bad (record { readable = recovery.readable; long = recovery.long; fits = recovery.log.fits })))

pub returns-clause-standing : goal.returns-clause-standing
returns-clause-standing g c =
    let history = g.T.Part.Lines.history in
    let held = g.T.Store.Backing.history in
    let old = g.T.Bench.state c.args.bench.now in
    let mid = g.T.Bench.state c.recover_region.new.bench in
    let then = (g.T.Bench.state c.give_back.new.self).told in
    let made = c.in_ok-restored.ensures in
    let region = c.in_ok-restored.restored.region in
    let backing = c.in_ok-restored.restored.stores.items in
    let back = c.into_parts-parts.result.items in
    let same : map history back ≡ map history region.parts.items = ap (λ parts. map history parts.items) c.into_parts-parts.ensures.parts in
    if_told old.told (λ was. HasHeader was.parts → TellsOf (StandsAsBefore was) then) (λ was told readable.
    let recovery = told_at old.told (λ holding. IsRecovered holding.parts region.geometry.page region.geometry.entries region.names region.next c.in_ok-restored.restored.found) was told made.recovered in
    let files = told_at old.told (λ holding. HoldFiles (map held backing) (files_named holding.parts region.names holding.stores)) was told made.files in
    let now = present (map history region.parts.items) (told_at old.told (λ holding. All (λ h. 0 < length h) (map history region.parts.items)) was told made.tell) in
    let now_are = subst (λ row. AreNow row now.states) (sym same) now.are in
    record {
      now = record { parts = now.states; stores = without_stores region.names was.stores ++ named_stores region.names files.held };
      told_is =
          c.give_back.ensures.told now.states files.held now_are (subst (λ row. AreNow row files.held) (sym c.show-report.ensures.histories) files.are)
          ∙ back_is old mid region.names was made.lent c.requires.at_home.home told now.states files.held;
      is_so =
          recovered_stands c.images_stand_for_files.ensures.files was region.geometry.page region.geometry.entries region.next region.names c.in_ok-restored.restored.found now.states files.held region.version
          (told_at old.told (λ holding. region.version ≡ version_in (head_image holding.parts)) was told made.version) recovery
          (row_tells_at (map history back) (IsAtRest (layout_of region.version) region.geometry.page region.geometry.entries region.names region.next) now.states now_are c.into_parts-parts.ensures.region.tells) files.files_are files.quiet
          (home_distinct old was (g.met.T.Bench.named c.args.bench.now) told c.requires.at_home.home)
          (row_tells_at (map history region.parts.items) (λ now. line_counts now ≡ line_counts was.parts) now.states now.are (told_at old.told (λ holding. RowTells (map history region.parts.items) (λ now. line_counts now ≡ line_counts holding.parts)) was told made.lines))
          (sym (states_many (map held backing) files.held files.are ∙ length-map backing held ∙ made.one_each))
          c.into_parts-parts.ensures.region.names_are.distinct readable;
    })

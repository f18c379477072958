use Rattle.std.proofs.Common.{◌≡◌, ◌∙◌, Err, length, map, refl, ap}
use Rattle.nv_pmem.specs.RowStates.{AreNow}
use Rattle.nv_store.specs.Store.{IsQuietStore}
use Rattle.nv_bench.specs.Holding.{Holding, IsQuietHolding, NamedStore}
use Rattle.nv_pmem.specs.Part.{Part}
use Rattle.nv_plain.specs.Images.{version_in}
use Rattle.nv_open.specs.Held.{HoldFiles, IsRecovered, files_named, told_after}
use Rattle.nv_open.specs.Refusals.{IsRefusedFor, head_image}
use Rattle.nv_open.proofs.HeadLaws.{error_is}
use Rattle.nv_open.proofs.AsHeld.{some_map}
use Rattle.nv_open.proofs.Regions.{given_quiet, given_spare, given_tell, lent_told, quiet_parts, same_told, some_told, some_stores, stores_after, still_untold, returned_told}
use Rattle.std.proofs.Common.{Some, Option, List, []}
use Rattle.std.specs.Prelude.{All, option_map}
use Rattle.nv_bench.specs.Benches.{BenchState}
use Rattle.nv_pmem.specs.Rows.{RowTells}
use Rattle.nv_pmem.specs.RowStates.{row_tells_at}
use Rattle.nv_open.specs.Unopened.{HasHeader, GivesBack, IsGood, IsUntouched, StandsAsBefore, TellsOf, line_counts}
use Rattle.nv_open.proofs.GivenBack.{at_some, if_err_any, if_some, still_stands, still_untouched, told_so}
use Rattle.nv_open.proofs.recovering.recover_region.Goals as goal

pub recover_parts-requires-clause-given : goal.recover_parts-requires-clause-given
recover_parts-requires-clause-given g c κs lives =
    let history = g.T.Part.Lines.history in
    let parts = c.in_ok-parts.parts.items in
    let old = g.T.Bench.state c.args.bench.now in
    let mid = g.T.Bench.state c.open_region.new.self in
    let given : Holding → List Part = λ holding. holding.parts in
    let lent = lent_told old mid c.in_ok-parts.ensures.lent in
    let quiet = quiet_parts old.told c.requires.quiet in
    record {
      is_open = ap (λ (state : BenchState). state.is_open) c.in_ok-parts.ensures.lent;
      home = ap (λ (state : BenchState). state.lent) c.in_ok-parts.ensures.lent ∙ c.requires.home;
      spare = given_spare history g.T.Part.Lines.room parts old.told given c.in_ok-parts.ensures.untold c.in_ok-parts.ensures.told quiet c.in_ok-parts.ensures.fresh;
      quiet = given_quiet c.images_follow_calls.ensures.blank history parts old.told given c.in_ok-parts.ensures.untold c.in_ok-parts.ensures.told quiet;
      synced =
          stores_after old.told mid.told (All (λ (named : NamedStore). IsQuietStore named.store)) lent
          (some_map old.told IsQuietHolding (λ holding. All (λ (named : NamedStore). IsQuietStore named.store) holding.stores) (λ holding quiet. quiet.stores) c.requires.quiet);
      tell = given_tell old.told mid.told given (map history parts) lent c.in_ok-parts.ensures.told;
    }

pub returns-in-Ok-clause-recovered : goal.returns-in-Ok-clause-recovered
returns-in-Ok-clause-recovered g c =
    let region = c.in-Ok.region in
    some_told (g.T.Bench.state c.args.bench.now).told (λ (holding : Holding). holding.parts) (map g.T.Part.Lines.history c.in_ok-parts.parts.items)
    (λ told. IsRecovered told region.geometry.page region.geometry.entries region.names region.next c.in-Ok.found) c.in_ok-parts.ensures.told c.in-Ok.ensures.recovered.recovered

pub returns-in-Ok-clause-files : goal.returns-in-Ok-clause-files
returns-in-Ok-clause-files g c =
    let old = g.T.Bench.state c.args.bench.now in
    let mid = g.T.Bench.state c.open_region.new.self in
    some_stores old.told mid.told (λ (holding : Holding). holding.parts) (map g.T.Part.Lines.history c.in_ok-parts.parts.items)
    (λ told held. HoldFiles (map g.T.Store.Backing.history c.recover_parts.new.stores.items) (files_named told c.in-Ok.region.names held)) (lent_told old mid c.in_ok-parts.ensures.lent)
    c.in_ok-parts.ensures.told c.in-Ok.ensures.recovered.files

pub returns-in-Err-clause-refused : goal.returns-in-Err-clause-refused
returns-in-Err-clause-refused g c why is =
    some_told (g.T.Bench.state c.args.bench.now).told (λ (holding : Holding). holding.parts) (map g.T.Part.Lines.history c.in_ok-parts.parts.items) (λ told. IsRefusedFor told why)
    c.in_ok-parts.ensures.told (c.in-Err.ensures.given_up.refused why (error_is (Err c.in-Err.error) _ _ refl is))

pub returns-in-Err-clause-unwritten : goal.returns-in-Err-clause-unwritten
returns-in-Err-clause-unwritten g c why is =
    let old = g.T.Bench.state c.args.bench.now in
    let mid = g.T.Bench.state c.open_region.new.self in
    returned_told g.T.Part.Lines.history g.T.Store.Backing.history why old mid (g.T.Bench.state c.recover_parts.new.bench) (g.T.Bench.state c.give_back.new.self).told old.told (λ (holding : Holding). holding.parts)
    c.in_ok-parts.parts.items c.in-Err.parts.items c.recover_parts.new.stores.items c.in_ok-parts.ensures.lent c.requires.home refl c.in_ok-parts.ensures.told
    (c.in-Err.ensures.given_up.unwritten why (error_is (Err c.in-Err.error) _ _ refl is)) c.give_back.ensures.told
    (λ none. c.give_back.ensures.untold (still_untold (length c.recover_parts.new.stores.items) old mid (g.T.Bench.state c.recover_parts.new.bench) c.in_ok-parts.ensures.lent c.in-Err.ensures.lent none))
    ∙ ap (told_after why) (same_told old.told)

pub returns-in-Ok-clause-version : goal.returns-in-Ok-clause-version
returns-in-Ok-clause-version g c =
    some_told (g.T.Bench.state c.args.bench.now).told (λ (holding : Holding). holding.parts) (map g.T.Part.Lines.history c.in_ok-parts.parts.items)
    (λ told. c.in-Ok.region.version ≡ version_in (head_image told)) c.in_ok-parts.ensures.told c.in-Ok.ensures.version

pub returns-in-Ok-clause-lines : goal.returns-in-Ok-clause-lines
returns-in-Ok-clause-lines g c =
    let old = g.T.Bench.state c.args.bench.now in
    let mid = g.T.Bench.state c.open_region.new.self in
    let history = g.T.Part.Lines.history in
    some_stores old.told mid.told (λ (holding : Holding). holding.parts) (map history c.in_ok-parts.parts.items)
    (λ parts held. RowTells (map history c.in-Ok.region.parts.items) (λ now. line_counts now ≡ line_counts parts)) (lent_told old mid c.in_ok-parts.ensures.lent) c.in_ok-parts.ensures.told c.in-Ok.ensures.recovered.devices.lines_kept

pub returns-in_err-parts-clause-standing : goal.returns-in_err-parts-clause-standing
returns-in_err-parts-clause-standing g c =
    let old = g.T.Bench.state c.args.bench.now in
    let new = g.T.Bench.state c.open_region.new.self in
    if_err_any c.from_residual.result (λ why.
    if_some old.told (λ was. HasHeader was.parts → TellsOf (StandsAsBefore was) new.told) (λ was told readable. still_stands old new was c.in_err-parts.ensures.kept told c.requires.quiet readable))

pub returns-in_err-parts-clause-untouched : goal.returns-in_err-parts-clause-untouched
returns-in_err-parts-clause-untouched g c =
    let old = g.T.Bench.state c.args.bench.now in
    let new = g.T.Bench.state c.open_region.new.self in
    if_err_any c.from_residual.result (λ why.
    if_some old.told (λ was. ¬ (IsGood was.parts) → TellsOf (IsUntouched was) new.told) (λ was told not_good. still_untouched old new was c.in_err-parts.ensures.kept told))

pub returns-in-Err-clause-untouched : goal.returns-in-Err-clause-untouched
returns-in-Err-clause-untouched g c =
    let history = g.T.Part.Lines.history in
    let store_history = g.T.Store.Backing.history in
    let old = g.T.Bench.state c.args.bench.now in
    let mid = g.T.Bench.state c.open_region.new.self in
    let new = g.T.Bench.state c.recover_parts.new.bench in
    let parts = c.in_ok-parts.parts.items in
    let then = (g.T.Bench.state c.give_back.new.self).told in
    if_some old.told (λ was. ¬ (IsGood was.parts) → TellsOf (IsUntouched was) then) (λ was told not_good.
    let left : Holding = record { parts = []; stores = was.stores } in
    let mid_told : mid.told ≡ Some left = lent_told old mid c.in_ok-parts.ensures.lent ∙ ap (λ (one : Option Holding). option_map (λ (these : Holding). record { parts = []; stores = these.stores }) one) told in
    let Untouched : Holding → List Part → Type 0 = λ holding told. ¬ (IsGood told)
    → GivesBack history store_history (IsUntouched (record { parts = told; stores = holding.stores })) new c.in-Err.parts.items c.recover_parts.new.stores.items in
    told_so history store_history (IsUntouched was) new c.in-Err.parts.items c.recover_parts.new.stores.items then
    (row_tells_at (map history parts) (Untouched left) was.parts (at_some old.told (λ holding. AreNow (map history parts) holding.parts) was told c.in_ok-parts.ensures.told)
    (at_some mid.told (λ holding. RowTells (map history parts) (Untouched holding)) left mid_told c.in-Err.ensures.given_up.untouched) not_good)
    c.give_back.ensures.told)

pub returns-in-Err-clause-standing : goal.returns-in-Err-clause-standing
returns-in-Err-clause-standing g c =
    let history = g.T.Part.Lines.history in
    let store_history = g.T.Store.Backing.history in
    let old = g.T.Bench.state c.args.bench.now in
    let mid = g.T.Bench.state c.open_region.new.self in
    let new = g.T.Bench.state c.recover_parts.new.bench in
    let parts = c.in_ok-parts.parts.items in
    let then = (g.T.Bench.state c.give_back.new.self).told in
    if_some old.told (λ was. HasHeader was.parts → TellsOf (StandsAsBefore was) then) (λ was told readable.
    let left : Holding = record { parts = []; stores = was.stores } in
    let mid_told : mid.told ≡ Some left = lent_told old mid c.in_ok-parts.ensures.lent ∙ ap (λ (one : Option Holding). option_map (λ (these : Holding). record { parts = []; stores = these.stores }) one) told in
    let Gives : Holding → Type 0 = λ was. GivesBack history store_history (StandsAsBefore was) new c.in-Err.parts.items c.recover_parts.new.stores.items in
    told_so history store_history (StandsAsBefore was) new c.in-Err.parts.items c.recover_parts.new.stores.items then
    (row_tells_at (map history parts) (λ told. HasHeader told → Gives (record { parts = told; stores = was.stores })) was.parts (at_some old.told (λ holding. AreNow (map history parts) holding.parts) was told c.in_ok-parts.ensures.told)
    (at_some mid.told (λ holding. RowTells (map history parts) (λ told. HasHeader told → Gives (record { parts = told; stores = holding.stores }))) left mid_told c.in-Err.ensures.given_up.standing) readable)
    c.give_back.ensures.told)

use Rattle.std.proofs.Common.{◌≡◌, ◌∙◌, List, Some, Err, length, map, refl}
use Rattle.nv_pmem.specs.Part.{Part}
use Rattle.nv_pmem.specs.RowStates.{AreNow}
use Rattle.nv_store.specs.Store.{IsQuietStore}
use Rattle.nv_bench.specs.Benches.{BenchState}
use Rattle.nv_bench.specs.Holding.{Holding, IsQuietHolding, NamedStore}
use Rattle.nv_bench.specs.Opening.{is_blank, opened}
use Rattle.nv_open.specs.Begun.{IsRegionOpened, IsNotOpened}
use Rattle.nv_open.proofs.HeadLaws.{error_is}
use Rattle.nv_open.proofs.AsHeld.{given_long, some_map, opened_before, not_opened_before}
use Rattle.nv_open.proofs.Regions.{given_quiet, given_spare, given_tell, lent_told, quiet_parts, some_stores, stores_after, still_untold, returned_told}
use Rattle.nv_open.proofs.Lengthened.{good_before}
use Rattle.nv_open.proofs.Sized.{blank_stays, opened_reads, quiet_opened}
use Rattle.std.proofs.Common.{Option, [], ap, false, inl, inr}
use Rattle.std.specs.Prelude.{All, option_map}
use Rattle.nv_pmem.specs.Rows.{RowTells}
use Rattle.nv_pmem.specs.RowStates.{row_tells_at}
use Rattle.nv_open.specs.Unopened.{GivesBack, IsGood, IsUntouched, RestsUnopened, StandForFiles, StandsOpening, StandsUnopened, StaysUntouched, TellsOf, as_opened, line_counts}
use Rattle.nv_open.proofs.GivenBack.{at_some, if_err_any, if_some, still_untouched, told_so}
use Rattle.nv_open.proofs.PartlyBack.{gives_more, made_stand, rests_before, unopened_made}
use Rattle.nv_open.proofs.opening.open.Goals as goal

pub open_parts-requires-clause-given : goal.open_parts-requires-clause-given
open_parts-requires-clause-given g c κs lives =
    let history = g.T.Part.Lines.history in
    let parts = c.in_ok-parts.parts.items in
    let old = g.T.Bench.state c.args.bench.now in
    let mid = g.T.Bench.state c.open_region.new.self in
    let given : Holding → List Part = λ holding. opened (Some c.args.geometry) holding.parts in
    let lent = lent_told old mid c.in_ok-parts.ensures.lent in
    let quiet = quiet_opened c.images_follow_calls.ensures.blank c.args.geometry old.told (quiet_parts old.told c.requires.quiet) in
    record {
      is_open = ap (λ (state : BenchState). state.is_open) c.in_ok-parts.ensures.lent;
      home = ap (λ (state : BenchState). state.lent) c.in_ok-parts.ensures.lent ∙ c.requires.home;
      spare = given_spare history g.T.Part.Lines.room parts old.told given c.in_ok-parts.ensures.untold c.in_ok-parts.ensures.told quiet c.in_ok-parts.ensures.fresh;
      quiet = given_quiet c.images_follow_calls.ensures.blank history parts old.told given c.in_ok-parts.ensures.untold c.in_ok-parts.ensures.told quiet;
      synced =
          stores_after old.told mid.told (All (λ (named : NamedStore). IsQuietStore named.store)) lent
          (some_map old.told IsQuietHolding (λ holding. All (λ (named : NamedStore). IsQuietStore named.store) holding.stores) (λ holding quiet. quiet.stores) c.requires.quiet);
      tell = given_tell old.told mid.told given (map history parts) lent c.in_ok-parts.ensures.told;
    }

pub open_parts-requires-clause-long : goal.open_parts-requires-clause-long
open_parts-requires-clause-long g c κs lives =
    let old = g.T.Bench.state c.args.bench.now in
    let mid = g.T.Bench.state c.open_region.new.self in
    given_long c.args.geometry old.told mid.told _ (lent_told old mid c.in_ok-parts.ensures.lent) c.in_ok-parts.ensures.told

pub returns-in-Ok-clause-opened : goal.returns-in-Ok-clause-opened
returns-in-Ok-clause-opened g c =
    let old = g.T.Bench.state c.args.bench.now in
    let mid = g.T.Bench.state c.open_region.new.self in
    let geometry = c.args.geometry in
    let wanted = c.args.wanted.now in
    let region = c.in-Ok.region in
    let row = map g.T.Store.Backing.history c.open_parts.new.stores.items in
    some_map old.told (λ holding. IsRegionOpened (record { parts = opened (Some geometry) holding.parts; stores = holding.stores }) geometry wanted region.geometry.page region.geometry.entries region.names region.next row)
    (λ holding. IsRegionOpened holding geometry wanted region.geometry.page region.geometry.entries region.names region.next row)
    (λ holding is. opened_before geometry holding wanted region.geometry.page region.geometry.entries region.names region.next row is)
    (some_stores old.told mid.told (λ (holding : Holding). opened (Some geometry) holding.parts) (map g.T.Part.Lines.history c.in_ok-parts.parts.items)
    (λ parts held. IsRegionOpened (record { parts = parts; stores = held }) geometry wanted region.geometry.page region.geometry.entries region.names region.next row) (lent_told old mid c.in_ok-parts.ensures.lent)
    c.in_ok-parts.ensures.told c.in-Ok.ensures.opened.opened)

pub returns-in-Err-clause-refused : goal.returns-in-Err-clause-refused
returns-in-Err-clause-refused g c why is =
    let old = g.T.Bench.state c.args.bench.now in
    let mid = g.T.Bench.state c.open_region.new.self in
    let geometry = c.args.geometry in
    let wanted = c.args.wanted.now in
    some_map old.told (λ holding. IsNotOpened (opened (Some geometry) holding.parts) geometry wanted why) (λ holding. IsNotOpened holding.parts geometry wanted why)
    (λ holding not. not_opened_before geometry holding.parts wanted why not)
    (some_stores old.told mid.told (λ (holding : Holding). opened (Some geometry) holding.parts) (map g.T.Part.Lines.history c.in_ok-parts.parts.items)
    (λ parts held. IsNotOpened parts geometry wanted why) (lent_told old mid c.in_ok-parts.ensures.lent) c.in_ok-parts.ensures.told (c.in-Err.ensures.given_up.refused why (error_is (Err c.in-Err.error) _ _ refl is)))

pub returns-in-Err-clause-unwritten : goal.returns-in-Err-clause-unwritten
returns-in-Err-clause-unwritten g c why is other =
    let old = g.T.Bench.state c.args.bench.now in
    let mid = g.T.Bench.state c.open_region.new.self in
    returned_told g.T.Part.Lines.history g.T.Store.Backing.history why old mid (g.T.Bench.state c.open_parts.new.bench) (g.T.Bench.state c.give_back.new.self).told old.told (λ (holding : Holding). opened (Some c.args.geometry) holding.parts)
    c.in_ok-parts.parts.items c.in-Err.parts.items c.open_parts.new.stores.items c.in_ok-parts.ensures.lent c.requires.home refl c.in_ok-parts.ensures.told
    (c.in-Err.ensures.given_up.unwritten why (error_is (Err c.in-Err.error) _ _ refl is) other) c.give_back.ensures.told
    (λ none. c.give_back.ensures.untold (still_untold (length c.open_parts.new.stores.items) old mid (g.T.Bench.state c.open_parts.new.bench) c.in_ok-parts.ensures.lent c.in-Err.ensures.lent none))

pub returns-in-Ok-clause-lines : goal.returns-in-Ok-clause-lines
returns-in-Ok-clause-lines g c =
    let old = g.T.Bench.state c.args.bench.now in
    let mid = g.T.Bench.state c.open_region.new.self in
    let history = g.T.Part.Lines.history in
    some_stores old.told mid.told (λ (holding : Holding). opened (Some c.args.geometry) holding.parts) (map history c.in_ok-parts.parts.items)
    (λ parts held. RowTells (map history c.in-Ok.region.parts.items) (λ now. line_counts now ≡ line_counts parts)) (lent_told old mid c.in_ok-parts.ensures.lent) c.in_ok-parts.ensures.told c.in-Ok.ensures.opened.devices.lines_kept

pub returns-in_err-parts-clause-standing : goal.returns-in_err-parts-clause-standing
returns-in_err-parts-clause-standing g c =
    let old = g.T.Bench.state c.args.bench.now in
    let new = g.T.Bench.state c.open_region.new.self in
    if_err_any c.from_residual.result (λ why.
    if_some old.told (λ was. StandForFiles was.parts → TellsOf (StandsUnopened was c.args.geometry c.args.wanted.now) new.told)
    (λ was told stand. record { now = was; told_is = ap (λ (state : BenchState). state.told) c.in_err-parts.ensures.kept ∙ told; is_so = record { either = inl refl } }))

pub returns-in-Err-clause-standing : goal.returns-in-Err-clause-standing
returns-in-Err-clause-standing g c =
    let history = g.T.Part.Lines.history in
    let store_history = g.T.Store.Backing.history in
    let old = g.T.Bench.state c.args.bench.now in
    let mid = g.T.Bench.state c.open_region.new.self in
    let new = g.T.Bench.state c.open_parts.new.bench in
    let parts = c.in_ok-parts.parts.items in
    let stores = c.open_parts.new.stores.items in
    let back = c.in-Err.parts.items in
    let then = (g.T.Bench.state c.give_back.new.self).told in
    let geometry = c.args.geometry in
    let wanted = c.args.wanted.now in
    if_some old.told (λ was. StandForFiles was.parts → TellsOf (StandsUnopened was geometry wanted) then) (λ was told stand.
    let made = opened (Some geometry) was.parts in
    let left : Holding = record { parts = []; stores = was.stores } in
    let mid_told : mid.told ≡ Some left = lent_told old mid c.in_ok-parts.ensures.lent ∙ ap (λ (one : Option Holding). option_map (λ (these : Holding). record { parts = []; stores = these.stores }) one) told in
    let Of : List Part → Holding = λ parts. record { parts = parts; stores = was.stores } in
    let gives = row_tells_at (map history parts) (λ told. StandForFiles told → GivesBack history store_history (StandsOpening (line_counts told) geometry (Of told) wanted) new back stores) made
    (at_some old.told (λ holding. AreNow (map history parts) (opened (Some geometry) holding.parts)) was told c.in_ok-parts.ensures.told)
    (at_some mid.told (λ holding. RowTells (map history parts) (λ told. StandForFiles told → GivesBack history store_history (StandsOpening (line_counts told) geometry (record { parts = told; stores = holding.stores }) wanted) new back stores)) left mid_told
    c.in-Err.ensures.given_up.standing) (made_stand geometry was.parts stand) in
    told_so history store_history (StandsUnopened was geometry wanted) new back stores then
    (gives_more history store_history (StandsOpening (line_counts made) geometry (Of made) wanted) (StandsUnopened was geometry wanted) new back stores (unopened_made geometry was wanted) gives)
    c.give_back.ensures.told)

pub returns-in_err-parts-clause-untouched : goal.returns-in_err-parts-clause-untouched
returns-in_err-parts-clause-untouched g c =
    let old = g.T.Bench.state c.args.bench.now in
    let new = g.T.Bench.state c.open_region.new.self in
    if_err_any c.from_residual.result (λ why.
    if_some old.told (λ was. is_blank was.parts ≡ false → ¬ (IsGood was.parts) → TellsOf (StaysUntouched c.args.geometry was) new.told) (λ was told kept not_good.
    let still = still_untouched old new was c.in_err-parts.ensures.kept told in
    record { now = still.now; told_is = still.told_is; is_so = record { either = inl still.is_so } }))

pub returns-in-Err-clause-untouched : goal.returns-in-Err-clause-untouched
returns-in-Err-clause-untouched g c =
    let history = g.T.Part.Lines.history in
    let store_history = g.T.Store.Backing.history in
    let old = g.T.Bench.state c.args.bench.now in
    let mid = g.T.Bench.state c.open_region.new.self in
    let new = g.T.Bench.state c.open_parts.new.bench in
    let parts = c.in_ok-parts.parts.items in
    let stores = c.open_parts.new.stores.items in
    let back = c.in-Err.parts.items in
    let then = (g.T.Bench.state c.give_back.new.self).told in
    let geometry = c.args.geometry in
    if_some old.told (λ was. is_blank was.parts ≡ false → ¬ (IsGood was.parts) → TellsOf (StaysUntouched geometry was) then) (λ was told kept not_good.
    let made = opened (Some geometry) was.parts in
    let left : Holding = record { parts = []; stores = was.stores } in
    let mid_told : mid.told ≡ Some left = lent_told old mid c.in_ok-parts.ensures.lent ∙ ap (λ (one : Option Holding). option_map (λ (these : Holding). record { parts = []; stores = these.stores }) one) told in
    let Untouched : Holding → List Part → Type 0 = λ holding told. is_blank told ≡ false → ¬ (IsGood told) → GivesBack history store_history (IsUntouched (record { parts = told; stores = holding.stores })) new back stores in
    told_so history store_history (StaysUntouched geometry was) new back stores then
    (gives_more history store_history (IsUntouched (as_opened geometry was)) (StaysUntouched geometry was) new back stores (λ holding untouched. record { either = inr untouched })
    (row_tells_at (map history parts) (Untouched left) made
    (at_some old.told (λ holding. AreNow (map history parts) (opened (Some geometry) holding.parts)) was told c.in_ok-parts.ensures.told)
    (at_some mid.told (λ holding. RowTells (map history parts) (Untouched holding)) left mid_told c.in-Err.ensures.given_up.untouched) (blank_stays geometry was.parts ∙ kept)
    (λ good. not_good (good_before was.parts made (opened_reads geometry was.parts kept) good))))
    c.give_back.ensures.told)

pub returns-in-Err-clause-rests : goal.returns-in-Err-clause-rests
returns-in-Err-clause-rests g c is =
    let history = g.T.Part.Lines.history in
    let store_history = g.T.Store.Backing.history in
    let old = g.T.Bench.state c.args.bench.now in
    let mid = g.T.Bench.state c.open_region.new.self in
    let new = g.T.Bench.state c.open_parts.new.bench in
    let parts = c.in_ok-parts.parts.items in
    let stores = c.open_parts.new.stores.items in
    let back = c.in-Err.parts.items in
    let then = (g.T.Bench.state c.give_back.new.self).told in
    let geometry = c.args.geometry in
    let wanted = c.args.wanted.now in
    let Rests : Holding → Holding → Type 0 = λ was. RestsUnopened was geometry wanted in
    if_some old.told (λ was. TellsOf (Rests was) then) (λ was told.
    let made = opened (Some geometry) was.parts in
    let left : Holding = record { parts = []; stores = was.stores } in
    let mid_told : mid.told ≡ Some left = lent_told old mid c.in_ok-parts.ensures.lent ∙ ap (λ (one : Option Holding). option_map (λ (these : Holding). record { parts = []; stores = these.stores }) one) told in
    let Of : List Part → Holding = λ parts. record { parts = parts; stores = was.stores } in
    let gives = row_tells_at (map history parts) (λ told. GivesBack history store_history (Rests (Of told)) new back stores) made
    (at_some old.told (λ holding. AreNow (map history parts) (opened (Some geometry) holding.parts)) was told c.in_ok-parts.ensures.told)
    (at_some mid.told (λ holding. RowTells (map history parts) (λ told. GivesBack history store_history (Rests (record { parts = told; stores = holding.stores })) new back stores)) left mid_told
    (c.in-Err.ensures.given_up.rests (error_is (Err c.in-Err.error) _ _ refl is))) in
    told_so history store_history (Rests was) new back stores then
    (gives_more history store_history (Rests (Of made)) (Rests was) new back stores (λ holding rests. rests_before geometry was wanted holding rests) gives)
    c.give_back.ensures.told)

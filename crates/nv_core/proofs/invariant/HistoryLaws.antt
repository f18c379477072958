-- The history only grows.
use Rattle.std.proofs.Common.{ℕ, List, [], ◌∷◌, ◌++◌, length, refl, sym, ap, subst, arith, append-nil, length-append}
use Rattle.nv_core.specs.state.Words.{Sizes}
use Rattle.nv_core.specs.steps.PassSteps.{added}
use Rattle.nv_core.specs.state.Core.{Core, after_begin}
use Rattle.nv_core.specs.steps.Events.{Act, BeginsCall, TakesStep, CallsDevice, Event, after_act, after_event, after_run}
use Rattle.nv_core.specs.steps.Opening.{opening}
use Rattle.nv_core.specs.invariant.InvariantLaws.{RunsAreSound}
use Rattle.nv_core.specs.invariant.LaterHistories.{HistoriesGoOn}
use Rattle.nv_core.specs.invariant.OneHistory.{IsPrefix}
use Rattle.nv_core.proofs.invariant.KeepsHistory.{begins_more}
use Rattle.nv_core.proofs.steps.RunLaws.{run_parts, after_parts}

-- what begins a first part begins the whole
pub begins_all : {T : Type 0} (first middle whole : List T) → IsPrefix first middle → IsPrefix middle whole → IsPrefix first whole
begins_all first middle whole one other = subst (IsPrefix first) (sym other.1) (begins_more first middle other.0 one)

grown_act : (sizes : Sizes) (by : ℕ) (core : Core) (act : Act) → IsPrefix core.history (after_act sizes by act core).history
grown_act sizes by core (BeginsCall call op found) = (added by ((after_begin sizes by call core).passes by) op, refl)
grown_act sizes by core (TakesStep op found) = (added by (core.passes by) op, refl)
grown_act sizes by core (CallsDevice work) = ([], sym (append-nil core.history))

pub grown : (sizes : Sizes) (core : Core) (run : List Event) → IsPrefix core.history (after_run sizes core run).history
grown sizes core [] = ([], sym (append-nil core.history))
grown sizes core (event ∷ later) =
    let next = after_event sizes event core in
    begins_all core.history next.history (after_run sizes next later).history (grown_act sizes event.by core event.act) (grown sizes next later)

pub histories_go_on : RunsAreSound → HistoriesGoOn
histories_go_on sound mount run more is_mount is =
    let core = after_run mount.sizes (opening mount) run in
    let later = after_run mount.sizes (opening mount) (run ++ more) in
    let begins : IsPrefix core.history later.history = subst (λ (c : Core). IsPrefix core.history c.history) (sym (after_parts mount.sizes (opening mount) run more)) (grown mount.sizes core more) in
    record {
      begins = begins;
      most = (let order = (sound mount run is_mount (run_parts mount.sizes (opening mount) run more is).0).history.order in
          let long = ap length begins.1 in let both = length-append core.history begins.0 in omega (arith, order, long, both));
    }

-- Histories: what a pass has seen is a first part of the history, and of each later one.
use Rattle.std.proofs.Common.{ℕ, Bool, true, false, if◌then◌else◌, List, [], ◌∷◌, ◌++◌, length, nat_lt, refl, sym, subst, append-nil}
use Rattle.nv_core.specs.state.Words.{Sizes}
use Rattle.nv_core.specs.state.Passes.{Pass}
use Rattle.nv_core.specs.steps.Ops.{Op, Place, Split}
use Rattle.nv_core.specs.steps.PassSteps.{added, begun}
use Rattle.nv_core.specs.state.Core.{Core, changes, changed_pass, after_step, after_begin, worked}
use Rattle.nv_core.specs.steps.Events.{Act, BeginsCall, TakesStep, CallsDevice, Event, after_act, after_event, after_run}
use Rattle.nv_core.specs.invariant.OneHistory.{IsPrefix}
use Rattle.nv_core.proofs.state.Changes.{by_number}
use Rattle.nv_core.proofs.steps.Inherits.{inherits}
use Rattle.nv_core.proofs.steps.RunLaws.{after_parts}
use Rattle.nv_core.proofs.invariant.HistoryLaws.{begins_all, grown}
use Rattle.nv_core.proofs.invariant.KeepsHistory.{begins_more}
use Rattle.nv_core.specs.steps.Opening.{opening}
use Rattle.nv_table.specs.state.Opened.{Opened, mount_of, state_of}

-- one of two
chosen : {T : Type 0} (P : T → Type 0) (b : Bool) (one other : T) → P one → P other → P (if b then one else other)
chosen P true one other here there = here
chosen P false one other here there = there

-- each pass has seen a first part
abbrev AllSeen : Core → Type 0
AllSeen core = (number : ℕ) → IsPrefix (core.passes number).seen core.history

seen_here : (sizes : Sizes) (by : ℕ) (core : Core) (found : ℕ) (op : Op) → AllSeen core → IsPrefix (changed_pass sizes by core op found).seen (core.history ++ added by (core.passes by) op)
seen_here sizes by core found (Place reply) all = ([], sym (append-nil _))
seen_here sizes by core found Split all = begins_more _ core.history [] (inherits (λ p. IsPrefix p.seen core.history) core
    (λ a b x y. chosen (λ l. IsPrefix l core.history) (nat_lt (length a.seen) (length b.seen)) b.seen a.seen y x) all (λ p is. is))
seen_here sizes by core found op all = begins_more (core.passes by).seen core.history [] (all by)

seen_step : (sizes : Sizes) (by : ℕ) (core : Core) (found : ℕ) (op : Op) → AllSeen core → AllSeen (after_step sizes by op found core)
seen_step sizes by core found op all =
    by_number (λ n (p : Pass). IsPrefix p.seen (core.history ++ added by (core.passes by) op)) core.passes (changes by core.made op) (changed_pass sizes by core op found)
    (seen_here sizes by core found op all) (λ n ne. begins_more (core.passes n).seen core.history (added by (core.passes by) op) (all n))

seen_act : (sizes : Sizes) (by : ℕ) (core : Core) (act : Act) → AllSeen core → AllSeen (after_act sizes by act core)
seen_act sizes by core (BeginsCall call op found) all =
    seen_step sizes by (after_begin sizes by call core) found op
    (by_number (λ n (p : Pass). IsPrefix p.seen core.history) core.passes by (begun sizes call (core.passes by)) (all by) (λ n ne. all n))
seen_act sizes by core (TakesStep op found) all = seen_step sizes by core found op all
seen_act sizes by core (CallsDevice work) all = by_number (λ n (p : Pass). IsPrefix p.seen core.history) core.passes by (worked sizes work (core.passes by)) (all by) (λ n ne. all n)

seen_after_all : (sizes : Sizes) (core : Core) (run : List Event) → AllSeen core → AllSeen (after_run sizes core run)
seen_after_all sizes core [] all = all
seen_after_all sizes core (event ∷ later) all = seen_after_all sizes (after_event sizes event core) later (seen_act sizes event.by core event.act all)

-- ---- what a pass has seen begins the history of each longer run

pub seen_begins : (opened : Opened) (number : ℕ) (run rest : List Event) → IsPrefix ((state_of opened run).passes number).seen (state_of opened (run ++ rest)).history
seen_begins opened number run rest =
    let first = opening (mount_of opened) in
    let here = state_of opened run in
    begins_all (here.passes number).seen here.history (state_of opened (run ++ rest)).history
    (seen_after_all opened.sizes first run (λ n. ([], refl)) number)
    (subst (λ (core : Core). IsPrefix here.history core.history) (sym (after_parts opened.sizes first run rest)) (grown opened.sizes here rest))

-- Turns: an advance of a caller, by what its thread or its cleaner tells.
use Rattle.std.proofs.Common.{◌≡◌, Bool, false, List, [], inl, inr, refl, sym, ◌∙◌}
use Rattle.std.specs.Prelude.{Result, Ok, Err, IfOk, OnOk}
use Rattle.nv_core.specs.steps.Events.{Event}
use Rattle.nv_plain.specs.declared.memory.NoMemory.{NoMemory}
use Rattle.nv_table.specs.state.States.{PassState}
use Rattle.nv_mount.specs.declared.fds.Fd.{Fd}
use Rattle.nv_schedule.specs.Barred.{IsFirstAnsweredEarly}
use Rattle.nv_schedule.specs.Callers.{BatchEnds, BatchState, CallEnds, CleanerHasCome, IsAtBatch, IsAtCall, ThreadHasCome, ThreadState}
use Rattle.nv_schedule.specs.Faulted.{batch_faulted, hand_faulted}
use Rattle.nv_schedule.specs.Faults.{some_fails}
use Rattle.nv_schedule.specs.Hands.{IsOneOrNoStep}
use Rattle.nv_schedule.specs.Turns.{BatchCame, CallCame, MovesBy, TurnTells, events_of}
use Rattle.nv_schedule.specs.declared.caller.Work.TheVariants.{Calls, Batches}
use Rattle.nv_schedule.specs.declared.turned.Turned.{Turned}
use Rattle.nv_schedule.proofs.FaultLaws.{step_fails}

moves_by : (allowed : Type 0) (was faulted : Bool) (old new : PassState) → IsOneOrNoStep allowed was faulted old new → (events : List Event) × MovesBy allowed events old new × (was ≡ false → some_fails events ≡ faulted)
moves_by allowed was faulted old new (inl same) = ([], inl (same.0, refl, same.2), λ none. sym (same.1 ∙ none))
moves_by allowed was faulted old new (inr one) = (events_of old.view.number one.0, inr (one.0, one.1, refl), λ none. step_fails old.view.number one.0 ∙ one.2 none)

pub thread_turned : (fds : List Fd) (result : Result Turned NoMemory) (old new : ThreadState) (pass now : PassState) → IfOk result (λ turned. IsOneOrNoStep (IsFirstAnsweredEarly pass.view.opened.sizes fds old.left turned.answered) (hand_faulted old.hand) turned.faulted pass now)
    → IfOk result (λ turned. turned.faulted ≡ false → hand_faulted new.hand ≡ false) → IfOk result (λ turned. CallEnds turned.answered old new)
    → IfOk result (λ turned. (last : PassState) → IsAtCall fds old.left old.hand last pass → CallCame fds turned.answered old new last now)
    → OnOk result ((start : PassState) → ThreadHasCome fds old start pass → ThreadHasCome fds new start now)
    → IfOk result (λ turned. (events : List Event) × TurnTells fds turned events (record { pass = pass; work = Calls old }) (record { pass = now; work = Calls new }))
thread_turned fds (Ok turned) old new pass now moved none ends call come =
    let by = moves_by (IsFirstAnsweredEarly pass.view.opened.sizes fds old.left turned.answered) (hand_faulted old.hand) turned.faulted pass now moved in
    (by.0, record { turn = record { moved = by.1; ends = ends; call = call; batch = tt; come = come }; failed = by.2; none = none })
thread_turned fds (Err wanting) old new pass now moved none ends call come = tt

pub cleaner_turned : (fds : List Fd) (turned : Turned) (old new : BatchState) (pass now : PassState) → IsOneOrNoStep ⊥ (batch_faulted old.machine) turned.faulted pass now
    → (turned.faulted ≡ false → batch_faulted new.machine ≡ false) → new.most ≡ old.most → BatchEnds turned.answered new.machine
    → ((begun : PassState) → IsAtBatch old.most old.machine begun pass → BatchCame turned.answered new.most new.machine begun now)
    → ((start : PassState) → CleanerHasCome old start pass → CleanerHasCome new start now)
    → (events : List Event) × TurnTells fds turned events (record { pass = pass; work = Batches old }) (record { pass = now; work = Batches new })
cleaner_turned fds turned old new pass now moved none most ends batch come =
    let by = moves_by ⊥ (batch_faulted old.machine) turned.faulted pass now moved in
    (by.0, record { turn = record { moved = by.1; ends = (most, ends); call = tt; batch = batch; come = come }; failed = by.2; none = none })

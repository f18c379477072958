-- The run of the core that a run is which was stopped, and what became of the writes that it left open.
use Rattle.std.proofs.Common.{◌≡◌, ℕ, ◌≤◌, All, List, [], ◌∷◌, ◌++◌, map, inl, inr, refl, sym, ap, subst, ◌∙◌}
use Rattle.std.specs.Prelude.{Option}
use Rattle.std.specs.List.{flat_map}
use Rattle.std.proofs.lemmas.List.Elements.{All-nil, All-cons, All-head, All-tail}
use Rattle.nv_plain.specs.Files.{Files}
use Rattle.nv_plain.specs.Recovered.{recovered}
use Rattle.nv_pmem.specs.Part.{Part}
use Rattle.nv_pmem.specs.Rows.{row_words}
use Rattle.nv_recover.specs.Recovering.{HasFoundAll}
use Rattle.nv_recover.specs.declared.recovering.Recovered as recover
use Rattle.nv_core.specs.state.Passes.{Control, Fault, Idle, IsOneOf}
use Rattle.nv_table.specs.invariant.Idle.{IsIdle}
use Rattle.nv_table.specs.passes.Seats.{past_of}
use Rattle.nv_table.specs.state.Opened.{Opened, state_of}
use Rattle.nv_table.specs.state.States.{PassState}
use Rattle.nv_table.specs.state.Views.{Past, past_pass}
use Rattle.nv_mount.specs.WholeWrites.{at_hand, faults_then, flights_then}
use Rattle.nv_mount.specs.declared.fds.Fd.{Fd}
use Rattle.nv_trace.specs.declared.trace.Descriptor.{Descriptor}
use Rattle.nv_runner.specs.Lists.{MadeCall}
use Rattle.nv_runner.specs.Shifts.{HasRun, IsShift, Shift}
use Rattle.nv_runner.specs.Sorted.{OpenedCall, opened_call}
use Rattle.nv_runner.specs.declared.sorted.Open.{Open}
use Rattle.nv_runner.proofs.histories.HistoryMembers.{of_one, one_of_mapped}
use Rattle.nv_top.specs.Fates.{fate_of, fated}
use Rattle.nv_top.specs.Stopped.{fated_in, left_write}
use Rattle.nv_top.proofs.FateLemmas.{open_write}

-- ---- no call is at hand

-- where each of some passes is idle their writes in flight are those that faults ended
faults_alone : (opened : Opened) (pasts : List Past) → ((past : Past) → IsOneOf pasts past → (past_pass opened past).control ≡ Idle)
    → flat_map (λ (past : Past). at_hand (past_pass opened past) (past_pass opened past).control ++ (past_pass opened past).faulted) pasts ≡ flat_map (λ (past : Past). (past_pass opened past).faulted) pasts
faults_alone opened [] idle = refl
faults_alone opened (past ∷ later) idle =
    let flown : Past → List Fault = λ past. at_hand (past_pass opened past) (past_pass opened past).control ++ (past_pass opened past).faulted in
    let pass = past_pass opened past in
    ap (λ (control : Control). (at_hand pass control ++ pass.faulted) ++ flat_map flown later) (idle past (inl refl))
    ∙ ap (λ faults. pass.faulted ++ faults) (faults_alone opened later (λ other one. idle other (inr one)))

-- so it is at the end of a run whose passes were all taken in by an idle pass 0
pub nothing_flies : (fds : List Fd) (worker : Option ℕ) (made : List MadeCall) (zero : PassState) → HasRun fds worker made zero → IsIdle zero → flights_then zero.view ≡ faults_then zero.view
nothing_flies fds worker made zero run idle = faults_alone zero.view.opened (past_of zero.view ∷ zero.view.ended) each
  where
    ended : (past : Past) → IsOneOf zero.view.ended past → (past_pass zero.view.opened past).control ≡ Idle
    ended past one =
        let from = one_of_mapped (λ (shift : Shift). past_of shift.now.view) run.shifts past (subst (λ pasts. IsOneOf pasts past) (sym run.pasts) one) in
        let shift = of_one (IsShift fds worker zero.view.opened) run.shifts from.0 run.each from.1 in
        subst (λ (past : Past). (past_pass zero.view.opened past).control ≡ Idle) from.2
        (subst (λ (o : Opened). ((state_of o from.0.now.view.run).passes from.0.now.view.number).control ≡ Idle) shift.still_mount shift.idle.control)

    each : (past : Past) → IsOneOf (past_of zero.view ∷ zero.view.ended) past → (past_pass zero.view.opened past).control ≡ Idle
    each past (inl here) = subst (λ (past : Past). (past_pass zero.view.opened past).control ≡ Idle) (sym here) idle.control
    each past (inr one) = ended past one

-- ---- the writes that were left open

pub left_writes : (descriptors : List Descriptor) (items : List Open) → map (open_write descriptors) items ≡ map (left_write descriptors) (map opened_call items)
left_writes descriptors [] = refl
left_writes descriptors (one ∷ later) = ap (λ writes. open_write descriptors one ∷ writes) (left_writes descriptors later)

-- their fates by what was found, as by the log
pub left_fates : (parts : List Part) (files : Files) (found : recover.Recovered) (items : List Open) → HasFoundAll (row_words parts) found
    → map (fated found.first found.groups) items ≡ map (fated_in parts files) (map opened_call items)
left_fates parts files found [] all = refl
left_fates parts files found (one ∷ later) all =
    ap (λ fate. record { call = one.call.now; fate = fate } ∷ map (fated found.first found.groups) later)
    (ap (λ first. fate_of first found.groups one.number) (all.first files) ∙ ap (λ groups. fate_of (recovered (row_words parts) files).first groups one.number) (all.groups files))
    ∙ ap (λ rest. fated_in parts files (opened_call one) ∷ rest) (left_fates parts files found later all)

-- none has a number below the first one
pub left_low : (parts : List Part) (files : Files) (found : recover.Recovered) (items : List Open) → HasFoundAll (row_words parts) found → All (λ (o : Open). found.first ≤ o.number) items
    → All (λ (one : OpenedCall). (recovered (row_words parts) files).first ≤ one.number) (map opened_call items)
left_low parts files found [] all low = All-nil (λ (one : OpenedCall). (recovered (row_words parts) files).first ≤ one.number)
left_low parts files found (one ∷ later) all low =
    let Low : Open → Type 0 = λ o. found.first ≤ o.number in
    All-cons (λ (one : OpenedCall). (recovered (row_words parts) files).first ≤ one.number) (opened_call one) (map opened_call later)
    (subst (λ first. first ≤ one.number) (all.first files) (All-head Low one later low)) (left_low parts files found later all (All-tail Low one later low))

-- Open calls: the writes in flight of all callers' passes are their calls that are listed as open.
use Rattle.std.proofs.Common.{◌≡◌, ℕ, suc, ◌<◌, List, [], ◌∷◌, ◌++◌, length, refl, sym, ap, subst, ◌∙◌, arith}
use Rattle.std.specs.Prelude.{IsPermutation, Option, Some, None, Result, slice_index_or}
use Rattle.std.specs.List.{flat_map}
use Rattle.std.proofs.lemmas.Grind.{flat_map-append}
use Rattle.std.proofs.lemmas.List.{append-nil}
use Rattle.std.proofs.lemmas.List.Sorted.{IsPermutation-append, IsPermutation-append_comm, IsPermutation-append_right, IsPermutation-refl, IsPermutation-sym, IsPermutation-trans}
use Rattle.nv_core.specs.state.Cleaner.{Batch}
use Rattle.nv_core.specs.state.Passes.{Fault}
use Rattle.nv_core.specs.state.Words.{Sizes, Word}
use Rattle.nv_core.specs.steps.CleanerSteps.{rising_files, syncing}
use Rattle.nv_core.specs.steps.Opening.{IsMount}
use Rattle.nv_core.specs.steps.Ops.{PutBack}
use Rattle.nv_table.specs.invariant.Drawn.{drawn_by}
use Rattle.nv_table.specs.invariant.Idle.{IsIdle}
use Rattle.nv_table.specs.passes.PassesMade.{PutsBack}
use Rattle.nv_table.specs.state.Opened.{Opened, mount_of}
use Rattle.nv_table.specs.state.States.{PassState}
use Rattle.nv_table.specs.state.Views.{Past, PassView, pass_of, past_pass}
use Rattle.nv_mount.specs.declared.fds.Fd.{Fd}
use Rattle.nv_clean.specs.Cleaning.{CleanState, control_at}
use Rattle.nv_clean.specs.declared.batch.CleanRefusal.{CleanRefusal}
use Rattle.nv_clean.specs.declared.batch.CleanControl.{CleanControl}
use Rattle.nv_clean.specs.declared.batch.CleanControl.TheVariants as cleans
use Rattle.nv_clean.specs.declared.clean.Cleaned.{Cleaned}
use Rattle.nv_calls.specs.histories.Faults.{OpenWrite, open_in, open_writes}
use Rattle.nv_trace.specs.declared.trace_call.TracedCall.{TracedCall}
use Rattle.nv_runner.proofs.OpenLaws.{open_are_faults}
use Rattle.nv_runner.proofs.OpenRunLaws.{flat_moved, open_append}
use Rattle.nv_runner.specs.declared.answer.Answer.{Answer}
use Rattle.nv_runner.specs.declared.answer.Answer.TheVariants.{Placed, Refused, Open}
use Rattle.nv_runner.specs.Calls.{opened_by}
use Rattle.nv_runner.specs.Lists.{MadeCall}
use Rattle.nv_runner.specs.OpenRuns.{open_of}
use Rattle.nv_runner.specs.OpenWrites.{opened}
use Rattle.nv_runner.specs.Sorted.{OpenedCall, opened_calls, opened_in_answer}
use Rattle.nv_schedule.specs.Callers.{AreBatches, IsAtBatch, IsAtCall, ThreadHasCome, ThreadState}
use Rattle.nv_schedule.specs.Flights.{OpenAreFlights, flights_of}
use Rattle.nv_schedule.specs.Listed.{all_listed, listed, listed_by, listed_of, listed_present, told_present}
use Rattle.nv_schedule.specs.Scheduled.{AreTakenAsTheyStood, IsTakenAsItStood}
use Rattle.nv_schedule.specs.Turns.{CallerState, HasCome}
use Rattle.nv_schedule.specs.declared.caller.Work.{Work}
use Rattle.nv_schedule.specs.declared.caller.Work.TheVariants.{Calls, Batches}
use Rattle.nv_schedule.specs.declared.hand.Hand.{Hand}
use Rattle.nv_schedule.proofs.AnswerLaws.{CallLaws, all_answered, tried_opens, tried_since}
use Rattle.nv_schedule.proofs.KeptFaultLaws.{batch_faults}
use Rattle.nv_schedule.proofs.FlightLaws.{IsClear, clear_flights, idle_flights, open_flights, passing_flights}
use Rattle.nv_schedule.proofs.MidCallLaws.{hand_opens}
use Rattle.nv_schedule.proofs.ToldLaws.{past_is}

-- ---- the open writes among some calls as they are listed

abbrev opens : List Fd → List MadeCall → List OpenWrite
opens fds made = flat_map (open_of fds) (opened_calls made)

opens_both : (fds : List Fd) (made more : List MadeCall) → opens fds (made ++ more) ≡ opens fds made ++ opens fds more
opens_both fds made more =
    ap (flat_map (open_of fds)) (flat_map-append (λ (m : MadeCall). opened_in_answer m.call m.answer) made more) ∙ flat_map-append (open_of fds) (opened_calls made) (opened_calls more)

one_opens : (fds : List Fd) (call : TracedCall) (answer : Answer) (later : List OpenedCall) → flat_map (open_of fds) (opened_in_answer call answer ++ later) ≡ opened_by fds call.call answer ++ flat_map (open_of fds) later
one_opens fds call (Placed place reply) later = refl
one_opens fds call (Refused refusal) later = refl
one_opens fds call (Open number) later = refl

-- those of the answered ones, the last of them first
opens_moved : (fds : List Fd) (made : List MadeCall) → IsPermutation (opens fds made) (opened fds made)
opens_moved fds [] = IsPermutation-refl []
opens_moved fds (m ∷ later) =
    let one = opened_by fds m.call.call m.answer in
    subst (λ l. IsPermutation l (opened fds later ++ one)) (sym (one_opens fds m.call m.answer (opened_calls later)))
    (IsPermutation-trans (one ++ opens fds later) (one ++ opened fds later) (opened fds later ++ one) (IsPermutation-append_right one (opens fds later) (opened fds later) (opens_moved fds later))
    (IsPermutation-append_comm one (opened fds later)))

-- ---- a thread

call_opens : CallLaws → (fds : List Fd) (left : List TracedCall) (hand : Option Hand) (last now : PassState) → IsMount (mount_of last.view.opened) → IsIdle last → IsAtCall fds left hand last now
    → open_flights now ≡ opens fds (listed_present left (told_present hand (drawn_by now.view))) ++ open_writes last
call_opens laws fds [] hand last now mount idle at = idle_flights now at.2 ∙ ap open_writes at.1
call_opens laws fds (call ∷ later) None last now mount idle at = idle_flights now at.1 ∙ tried_opens laws fds call.call last now mount idle at.0
call_opens laws fds (call ∷ later) (Some hand) last now mount idle at =
    let before = tried_since laws fds call.call last at.0 mount at.1 in
    hand_opens laws.sound laws.tell fds call hand at.0 now (subst (λ (o : Opened). IsMount (mount_of o)) (sym before.opened) mount) at.2
    ∙ ap (λ l. opens fds (listed_present (call ∷ later) (told_present (Some hand) (drawn_by now.view))) ++ l) (tried_opens laws fds call.call last at.0 mount idle at.1)

thread_opens : CallLaws → (fds : List Fd) (thread : ThreadState) (start now : PassState) → IsMount (mount_of start.view.opened) → IsIdle start → open_writes start ≡ [] → ThreadHasCome fds thread start now
    → IsPermutation (opens fds (listed_of thread (drawn_by now.view))) (open_flights now)
thread_opens laws fds thread start now mount idle none come =
    let all = all_answered laws fds thread.made start come.last mount idle come.made in
    let more = listed_present thread.left (told_present thread.hand (drawn_by now.view)) in
    let made : open_writes come.last ≡ opened fds thread.made =
    open_are_faults fds None thread.made start come.last all.each ∙ ap (λ l. opened fds thread.made ++ l) none ∙ append-nil (opened fds thread.made) in
    let flights : open_flights now ≡ opens fds more ++ opened fds thread.made =
    call_opens laws fds thread.left thread.hand come.last now (subst (λ (o : Opened). IsMount (mount_of o)) (sym all.opened) mount) all.idle come.at ∙ ap (λ l. opens fds more ++ l) made in
    subst (λ l. IsPermutation l (open_flights now)) (sym (opens_both fds thread.made more))
    (subst (λ l. IsPermutation (opens fds thread.made ++ opens fds more) l) (sym flights)
    (IsPermutation-trans (opens fds thread.made ++ opens fds more) (opens fds more ++ opens fds thread.made) (opens fds more ++ opened fds thread.made)
    (IsPermutation-append_comm (opens fds thread.made) (opens fds more)) (IsPermutation-append_right (opens fds more) (opens fds thread.made) (opened fds thread.made) (opens_moved fds thread.made))))

-- ---- a cleaner

syncing_clear : (batch : Batch) (files : List ℕ) → IsClear (syncing batch files)
syncing_clear batch [] = (λ pass. refl, λ first write lost. refl)
syncing_clear batch (file ∷ later) = (λ pass. refl, λ first write lost. refl)

batch_clear : (sizes : Sizes) (batch : Batch) (control : CleanControl) → IsClear (control_at sizes batch control)
batch_clear sizes batch cleans.Retire = syncing_clear batch (rising_files sizes batch)
batch_clear sizes batch control = (λ pass. refl, λ first write lost. refl)

batches_open : (most : ℕ) (results : List (Result Cleaned CleanRefusal)) (start now : PassState) → AreBatches most results start now → open_writes now ≡ open_writes start
batches_open most [] start now same = ap open_writes same
batches_open most (last ∷ earlier) start now are = ap open_in are.2.over.faults ∙ batches_open most earlier start are.0 are.1

batch_opens : (most : ℕ) (machine : Option CleanState) (last now : PassState) → IsAtBatch most machine last now → open_flights now ≡ open_writes last
batch_opens most None last now at = idle_flights now at.1 ∙ ap open_writes at.0
batch_opens most (Some machine) last now at =
    let c = at.1.way.called in
    clear_flights now (subst IsClear (sym c.control_is) (batch_clear now.view.opened.sizes machine.batch machine.control)) ∙ ap open_in (batch_faults c.steps last now c.made c.own)

-- ---- any caller

work_opens : CallLaws → (fds : List Fd) (work : Work) (start now : PassState) → IsMount (mount_of start.view.opened) → IsIdle start → open_writes start ≡ [] → HasCome fds work start now
    → IsPermutation (opens fds (listed_by work (drawn_by now.view))) (open_flights now)
work_opens laws fds (Calls thread) start now mount idle none come = thread_opens laws fds thread start now mount idle none come
work_opens laws fds (Batches cleaner) start now mount idle none come =
    subst (IsPermutation []) (sym (batch_opens cleaner.most cleaner.machine come.last now come.at ∙ batches_open cleaner.most come.results start come.last come.batches ∙ none)) (IsPermutation-refl [])

-- A caller is one of a mount, and the writes in flight of its pass are its calls that are listed as open.
pub record IsListedOpen (fds : List Fd) (opened : Opened) (caller : CallerState) : Type 0 where
  pub mount : caller.pass.view.opened ≡ opened
  pub flights : IsPermutation (opens fds (listed caller)) (open_flights caller.pass)

pub caller_opens : CallLaws → (fds : List Fd) (opened : Opened) (caller : CallerState) (start : PassState) → IsMount (mount_of start.view.opened) → IsIdle start → open_writes start ≡ [] → HasCome fds caller.work start caller.pass
    → caller.pass.view.opened ≡ opened → IsListedOpen fds opened caller
caller_opens laws fds opened caller start mount idle none come same = record { mount = same; flights = work_opens laws fds caller.work start caller.pass mount idle none come }

-- ---- passes that were taken in as they stood

puts_flights : (cells : List (Word × ℕ)) (old last : PassView) → PutsBack cells old last → flights_of (pass_of last) ≡ flights_of (pass_of old)
puts_flights [] old last same = ap (λ (v : PassView). flights_of (pass_of v)) same
puts_flights (one ∷ rest) old last back = puts_flights rest back.0 last back.2 ∙ passing_flights (PutBack one.0) (pass_of old) (pass_of back.0) back.1.pass

abbrev of_past : Opened → Past → List Fault
of_past opened past = flights_of (past_pass opened past)

stood_flights : (opened : Opened) (pass : PassState) (past : Past) → pass.view.opened ≡ opened → IsTakenAsItStood pass past → of_past opened past ≡ flights_of (pass_of pass.view)
stood_flights opened pass past same stood = ap flights_of (past_is opened pass past same stood) ∙ puts_flights stood.cells pass.view stood.last stood.back

callers_open : (fds : List Fd) (opened : Opened) (callers : List CallerState) (pasts : List Past) → AreTakenAsTheyStood callers pasts
    → ((i : ℕ) (d : CallerState) → i < length callers → IsListedOpen fds opened (slice_index_or callers i d)) → IsPermutation (opens fds (all_listed callers)) (open_in (flat_map (of_past opened) pasts))
callers_open fds opened [] [] are each = IsPermutation-refl []
callers_open fds opened [] (past ∷ before) are each = absurd are
callers_open fds opened (caller ∷ later) [] are each = absurd are
callers_open fds opened (caller ∷ later) (past ∷ before) are each =
    let one = each 0 caller (omega arith) in
    let rest = callers_open fds opened later before are.1 (λ i d less. each (suc i) d (omega (arith, less))) in
    let here : open_in (of_past opened past) ≡ open_flights caller.pass = ap open_in (stood_flights opened caller.pass past one.mount are.0) in
    let behind = open_in (flat_map (of_past opened) before) in
    let all : open_in (flat_map (of_past opened) (past ∷ before)) ≡ open_flights caller.pass ++ behind =
    open_append (of_past opened past) (flat_map (of_past opened) before) ∙ ap (λ l. l ++ behind) here in
    subst (λ l. IsPermutation l (open_in (flat_map (of_past opened) (past ∷ before)))) (sym (opens_both fds (all_listed later) (listed caller)))
    (subst (λ l. IsPermutation (opens fds (all_listed later) ++ opens fds (listed caller)) l) (sym all)
    (IsPermutation-trans (opens fds (all_listed later) ++ opens fds (listed caller)) (opens fds (listed caller) ++ opens fds (all_listed later)) (open_flights caller.pass ++ behind)
    (IsPermutation-append_comm (opens fds (all_listed later)) (opens fds (listed caller)))
    (IsPermutation-append (opens fds (listed caller)) (open_flights caller.pass) (opens fds (all_listed later)) behind one.flights rest)))

-- Pass 0 has none.
pub all_open : (fds : List Fd) (callers : List CallerState) (zero : PassState) → flights_of (pass_of zero.view) ≡ [] → AreTakenAsTheyStood callers zero.view.ended
    → ((i : ℕ) (d : CallerState) → i < length callers → IsListedOpen fds zero.view.opened (slice_index_or callers i d)) → OpenAreFlights fds callers zero
all_open fds callers zero none are each = λ left moved.
    let behind = open_in (flat_map (of_past zero.view.opened) zero.view.ended) in
    let all : open_in (flights_of (pass_of zero.view) ++ flat_map (of_past zero.view.opened) zero.view.ended) ≡ behind = ap (λ l. open_in (l ++ flat_map (of_past zero.view.opened) zero.view.ended)) none in
    subst (IsPermutation (flat_map (open_of fds) left)) (sym all)
    (IsPermutation-trans (flat_map (open_of fds) left) (opens fds (all_listed callers)) behind
    (IsPermutation-sym (opens fds (all_listed callers)) (flat_map (open_of fds) left) (flat_moved (open_of fds) (opened_calls (all_listed callers)) left moved))
    (callers_open fds zero.view.opened callers zero.view.ended are each))

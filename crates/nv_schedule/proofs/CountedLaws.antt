-- Counted: a pass whose device call has failed sets STOP next, and the count of faults rose where a pass has set it.
use Rattle.std.proofs.Common.{◌≡◌, ◌≢◌, ℕ, ◌+◌, ◌<◌, ◌||◌, Bool, true, List, [], ◌∷◌, length, inl, inr, refl, sym, ap, subst, ◌∙◌, arith}
use Rattle.std.specs.Prelude.{Option, Some, None, Err, slice_index_or}
use Rattle.std.proofs.lemmas.Bool.{true≢false}
use Rattle.std.proofs.lemmas.List.{get_or-set_same, length-set}
use Rattle.nv_plain.specs.declared.call.FileCall.{FileCall}
use Rattle.nv_core.specs.invariant.InvariantLaws.{RunsAreSound}
use Rattle.nv_core.specs.state.Cleaner.{CleanerControl, SetStop, TakeCleaner, WriteBack}
use Rattle.nv_core.specs.state.Cleaner as cleaner
use Rattle.nv_core.specs.state.Core.{Core, control_worked, values_worked, worked}
use Rattle.nv_core.specs.state.Passes.{Cleaning, CommitGroup, Control, Idle, Pass, ReadPiece, ReadStore, SetStopAfterCommit, SetStopAfterPiece, SetStopAfterRead}
use Rattle.nv_core.specs.state.Values.{CallEnding, Failed, Made, Refused}
use Rattle.nv_core.specs.state.Words.{Sizes, Word}
use Rattle.nv_core.specs.steps.CleanerSteps.{after_cleaner_work}
use Rattle.nv_core.specs.steps.Events.{Event, StepEnabled}
use Rattle.nv_core.specs.steps.Frames.{OwnEventsTell}
use Rattle.nv_core.specs.steps.Opening.{IsMount}
use Rattle.nv_core.specs.steps.Ops.{ByCleaner, Join, Op, PutBack, Split, Stop}
use Rattle.nv_core.specs.steps.Order.{CallDue, Enabled, IsBatchEntry, Values, Work, step_at}
use Rattle.nv_core.specs.steps.PassSteps.{left_after, stopped_after}
use Rattle.nv_table.proofs.invariant.StepAt.{IsMadeAt, made_at}
use Rattle.nv_table.proofs.steps.RunsOn.{IsPlain, step_of}
use Rattle.nv_table.specs.state.Opened.{Opened, mount_of}
use Rattle.nv_table.specs.state.States.{PassState}
use Rattle.nv_table.specs.state.Views.{PassView, pass_of, values_of}
use Rattle.nv_table.specs.steps.SeatSteps.{AreDue, MayOpen, pass_before, pass_worked, with_call}
use Rattle.nv_mount.specs.Mounts.{MountState}
use Rattle.nv_mount.specs.RisenCounts.{SawStop}
use Rattle.nv_mount.specs.declared.fds.Fd.{Fd}
use Rattle.nv_mirror.specs.PassSteps.{HasTaken, PassStep}
use Rattle.nv_trace.specs.declared.token.Token.{Token}
use Rattle.nv_trace.specs.declared.trace_call.TracedCall.{TracedCall}
use Rattle.nv_schedule.specs.Counted.{FaultsAreCounted}
use Rattle.nv_schedule.specs.Faults.{is_failed, some_failed, some_fails}
use Rattle.nv_schedule.specs.Growing.{number_of}
use Rattle.nv_schedule.specs.Reaches.{place_of}
use Rattle.nv_schedule.specs.Scheduled.{HasFollowed}
use Rattle.nv_schedule.specs.Turns.{CallerState, HasTurned, MovesBy}
use Rattle.nv_schedule.specs.declared.schedule_error.ScheduleError.TheVariants.{Fault}
use Rattle.nv_schedule.proofs.AnswerLaws.{CallLaws}
use Rattle.nv_schedule.proofs.BegunLaws.{any_caller}
use Rattle.nv_schedule.proofs.DeedLaws.{left_none, no_cell_back}
use Rattle.nv_schedule.proofs.EndLaws.{past_at}
use Rattle.nv_schedule.proofs.FaultLaws.{step_fails}
use Rattle.nv_schedule.proofs.FollowLaws.{number_kept}
use Rattle.nv_schedule.proofs.GrownLaws.{caller_grown}
use Rattle.nv_schedule.proofs.RefusalLaws.{stood_same}

-- ---- the device calls of a step

-- a pass sets STOP next
abbrev IsStopping : Control → Type 0
IsStopping (SetStopAfterRead page dirty) = Unit {0}
IsStopping (SetStopAfterPiece page number) = Unit {0}
IsStopping SetStopAfterCommit = Unit {0}
IsStopping (Cleaning batch (SetStop held)) = Unit {0}
IsStopping control = ⊥

module _ (sizes : Sizes) where
  -- no device call comes before that
  none_due : (values : Values) (pass : Pass) (work : Work) (control : Control) → IsStopping control → CallDue sizes values pass work control → ⊥
  none_due values pass work (SetStopAfterRead page dirty) at due = due
  none_due values pass work (SetStopAfterPiece page number) at due = due
  none_due values pass work SetStopAfterCommit at due = due
  none_due values pass work (Cleaning batch (SetStop held)) at due = due
  none_due values pass work (Cleaning batch inner) at due = absurd at
  none_due values pass work control at due = absurd at

  none_later : (works : List Work) (values : Values) (pass : Pass) → IsStopping pass.control → AreDue sizes values pass works → works ≡ []
  none_later [] values pass at due = refl
  none_later (work ∷ later) values pass at due = absurd (none_due values pass work pass.control at due.0.due)

  -- one that has failed leaves its pass there
  failed_stops : (values : Values) (pass : Pass) (work : Work) (came : Bool) (faults : ℕ) (control : Control) → CallDue sizes values pass work control → IsStopping (control_worked sizes pass (Failed came faults) control)
  failed_stops values pass work came faults (CommitGroup calls) due = tt
  failed_stops values pass work came faults (ReadStore page dirty) due = tt
  failed_stops values pass work came faults (ReadPiece page number) due = tt
  failed_stops values pass work came faults (Cleaning batch inner) due = inside inner
    where
      inside : (inner : CleanerControl) → IsStopping (after_cleaner_work batch (Failed came faults) inner)
      inside (cleaner.ReadPiece i) = tt
      inside (WriteBack i) = tt
      inside inner = tt
  failed_stops values pass work came faults control due = absurd due

  works_stop : (works : List Work) (values : Values) (pass : Pass) → AreDue sizes values pass works → some_failed works ≡ true → IsStopping (pass_worked sizes works pass).control
  works_stop [] values pass due failed = absurd (true≢false (sym failed))
  works_stop (work ∷ later) values pass due failed = by (works_stop later (values_worked pass work values) (worked sizes work pass) due.1) work.ending refl
    where
      by : (some_failed later ≡ true → IsStopping (pass_worked sizes later (worked sizes work pass)).control) → (ending : CallEnding) → work.ending ≡ ending
          → IsStopping (pass_worked sizes later (worked sizes work pass)).control
      by on Made is = on (sym (ap (λ e. is_failed e || some_failed later) is) ∙ failed)
      by on (Failed came faults) is =
          let at : IsStopping (worked sizes work pass).control =
          subst (λ e. IsStopping (control_worked sizes pass e pass.control)) (sym is) (failed_stops values pass work came faults pass.control due.0.due) in
          subst (λ l. IsStopping (pass_worked sizes l (worked sizes work pass)).control) (sym (none_later later (values_worked pass work values) (worked sizes work pass) at due.1)) at
      by on Refused is = on (sym (ap (λ e. is_failed e || some_failed later) is) ∙ failed)

-- ---- the step behind them

abbrev SetsStop : Op → Type 0
SetsStop Stop = Unit {0}
SetsStop (ByCleaner cleaner.Stop) = Unit {0}
SetsStop op = ⊥

abbrev IsSetting : Option Op → Type 0
IsSetting None = ⊥
IsSetting (Some op) = SetsStop op

setting_next : (sizes : Sizes) (values : Values) (pass : Pass) (control : Control) → IsStopping control → IsSetting (step_at sizes values pass control)
setting_next sizes values pass (SetStopAfterRead page dirty) at = tt
setting_next sizes values pass (SetStopAfterPiece page number) at = tt
setting_next sizes values pass SetStopAfterCommit at = tt
setting_next sizes values pass (Cleaning batch (SetStop held)) at = tt
setting_next sizes values pass (Cleaning batch inner) at = absurd at
setting_next sizes values pass control at = absurd at

entered_idle : (op : Op) (control : Control) → IsBatchEntry op control → control ≡ Idle
entered_idle (ByCleaner (TakeCleaner most)) Idle is = refl
entered_idle op control is = absurd is

stopped_by : (pass : Pass) (op : Op) (found : ℕ) → SetsStop op → stopped_after pass op found ≡ true
stopped_by pass Stop found sets = refl
stopped_by pass (ByCleaner cleaner.Stop) found sets = refl
stopped_by pass (ByCleaner one) found sets = absurd sets
stopped_by pass op found sets = absurd sets

plain_of : (sizes : Sizes) (number : ℕ) (core : Core) (op : Op) → number ≢ 0 → ((cell : Word) → op ≢ PutBack cell) → StepEnabled sizes number core op → IsPlain op
plain_of sizes number core Split other none enabled = absurd (other enabled)
plain_of sizes number core (PutBack cell) other none enabled = absurd (none cell refl)
plain_of sizes number core (Join joined) other none enabled = absurd (other enabled.0)
plain_of sizes number core op other none enabled = tt

module _ (sound : RunsAreSound) (tell : OwnEventsTell) (step : PassStep) (old now : PassState) (taken : HasTaken step old now) (mount : IsMount (mount_of now.view.opened)) (other : old.view.number ≢ 0)
    (nothing : (pass_of now.view).left ≡ []) (failed : some_failed step.works ≡ true) where
  abbrev seen : PassView
  seen = taken.before.view

  abbrev sizes : Sizes
  sizes = seen.opened.sizes

  -- the pass behind them
  abbrev called : Pass
  called = pass_worked sizes taken.stepped.works (pass_of seen)

  at_stop : IsStopping called.control
  at_stop = works_stop sizes taken.stepped.works (values_of seen) (pass_of seen) taken.stepped.due (ap some_failed taken.works_are ∙ failed)

  come : IsMadeAt seen taken.stepped.steps.run taken.stepped.works step.opens step.op step.found
  come = made_at sound tell seen now.view taken.stepped.works step.opens step.op step.found (subst (λ (o : Opened). IsMount (mount_of o)) (ap (λ (v : PassView). v.opened) taken.stepped.steps.is) mount) taken.stepped.steps

  opens_none : (opens : Option FileCall) → MayOpen sizes opens called → with_call sizes opens called ≡ called
  opens_none None may = refl
  opens_none (Some call) may = absurd (subst IsStopping may.idle at_stop)

  no_cell : (cell : Word) → step.op ≢ PutBack cell
  no_cell cell is =
      let there = pass_before seen step.opens taken.stepped.works in
      no_cell_back cell there.left (sym (ap (left_after there) is) ∙ sym (ap (λ (p : Pass). p.left) taken.stepped.pass) ∙ nothing)

  plain : IsPlain step.op
  plain = plain_of sizes seen.number come.core step.op (λ zero. other (sym (ap (λ (v : PassView). v.number) taken.between.view) ∙ zero)) no_cell come.may.may

  may : Enabled sizes come.core.values called step.op
  may = subst (λ p. Enabled sizes come.core.values p step.op) (come.own ∙ opens_none step.opens come.begins) (step_of sizes seen.number come.core step.op plain come.may.may)

  sets : SetsStop step.op
  sets = elim may [
    | inl next ↦ subst IsSetting next (setting_next sizes come.core.values called called.control at_stop)
    | inr entry ↦ absurd (subst IsStopping (entered_idle step.op called.control entry) at_stop)
  ]

  step_stops : (pass_of now.view).stopped ≡ true
  step_stops = ap (λ (p : Pass). p.stopped) taken.stepped.pass ∙ stopped_by (pass_before seen step.opens taken.stepped.works) step.op step.found sets

-- ---- an advance

turn_stops : RunsAreSound → OwnEventsTell → (fds : List Fd) (answered : Bool) (made : List Event) (old new : CallerState) → HasTurned fds answered made old new → IsMount (mount_of new.pass.view.opened)
    → old.pass.view.number ≢ 0 → (pass_of new.pass.view).left ≡ [] → some_fails made ≡ true → (pass_of new.pass.view).stopped ≡ true
turn_stops sound tell fds answered made old new turned mount other nothing failed = by turned.moved
  where
    by : {allowed : Type 0} → MovesBy allowed made old.pass new.pass → (pass_of new.pass.view).stopped ≡ true
    by (inl still) = absurd (true≢false (sym failed ∙ ap some_fails still.1))
    by (inr one) = step_stops sound tell one.0 old.pass new.pass one.1 mount other nothing (sym (step_fails old.pass.view.number one.0) ∙ sym (ap some_fails one.2) ∙ failed)

-- ---- a schedule

module _ (laws : CallLaws) (mount : MountState) (tokens : List Token) (calls : List TracedCall) (batch : ℕ) (then_ : List CallerState) (zero : PassState) (is_mount : IsMount (mount_of mount.board.opened))
    (same : zero.view.opened ≡ mount.board.opened) (followed : HasFollowed mount tokens calls batch (Err Fault) then_ zero) where
  -- the caller that made the last advance
  abbrev place : ℕ
  place = place_of followed.ran.turn

  abbrev d : CallerState
  d = any_caller zero

  abbrev end : CallerState
  end = slice_index_or then_ place d

  there : place < length then_
  there =
      let one = followed.ran.fails.one in
      let all = ap length one.new_is ∙ length-set followed.ran.fails.middle place one.then_ in
      let within = one.there in
      omega (arith, all, within)

  less : place < length followed.first
  less = let n = followed.count in let within = there in omega (arith, n, within)

  is_end : end ≡ followed.ran.fails.one.then_
  is_end = let one = followed.ran.fails.one in ap (λ l. slice_index_or l place d) one.new_is ∙ get_or-set_same followed.ran.fails.middle place one.then_ d one.there

  opened_end : end.pass.view.opened ≡ mount.board.opened
  opened_end =
      let fresh = followed.fresh place d less in
      (caller_grown laws mount.fds end.work (slice_index_or followed.first place d).pass end.pass (subst (λ (o : Opened). IsMount (mount_of o)) (sym fresh.board.same_mount) is_mount) fresh.idle
      (followed.come place d less).come).opened
      ∙ fresh.board.same_mount

  number_end : end.pass.view.number ≡ place + 1
  number_end = (followed.come place d less).number ∙ (followed.fresh place d less).number

  stopped_end : (pass_of end.pass.view).stopped ≡ true
  stopped_end =
      let last = followed.ran.fails in
      let one = last.one in
      let kept : one.then_.pass.view.number ≡ one.caller.pass.view.number = number_kept last.last one.caller.pass one.then_.pass one.turned.moved in
      let its : one.then_.pass.view.number ≡ place + 1 = ap number_of (sym is_end) ∙ number_end in
      subst (λ (c : CallerState). (pass_of c.pass.view).stopped ≡ true) (sym is_end)
      (turn_stops laws.sound laws.tell mount.fds last.answered last.last one.caller one.then_ one.turned
      (subst (λ (c : CallerState). IsMount (mount_of c.pass.view.opened)) is_end (subst (λ (o : Opened). IsMount (mount_of o)) (sym opened_end) is_mount)) (λ none. (omega (arith, kept, its, none)))
      (subst (λ (c : CallerState). (pass_of c.pass.view).left ≡ []) is_end (left_none mount.fds end.work (slice_index_or followed.first place d).pass end.pass (followed.come place d less).come))
      last.failed)

  -- which pass 0 has taken in
  saw_stop : SawStop zero.view
  saw_stop =
      let past = past_at then_ zero.view.ended place d followed.taken there in
      inr (past.past, past.one, stood_same (λ (p : Pass). p.stopped) (λ pass left. refl) zero.view.opened end.pass past.past (opened_end ∙ sym same) past.stood ∙ stopped_end)

pub faults_are_counted : CallLaws → FaultsAreCounted
faults_are_counted laws mount tokens calls batch then_ zero part_values store_values parts stores faults placed tail is_mount same followed closed =
    closed.stopped (saw_stop laws mount tokens calls batch then_ zero is_mount same followed)

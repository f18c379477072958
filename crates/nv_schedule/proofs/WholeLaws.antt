-- Whole runs: behind a schedule the deeds of the run of the closed mount are those of its tokens.
use Rattle.std.proofs.Common.{◌≡◌, ◌≢◌, ◌⊎◌, ℕ, zero, suc, ◌<◌, ◌≤◌, false, List, [], ◌∷◌, ◌++◌, length, inl, inr, refl, sym, ap, subst, ◌∙◌, arith}
use Rattle.std.specs.Prelude.{All, None, OnOk, Result, Ok, Err, slice_index_or}
use Rattle.std.proofs.lemmas.Bool.{cases_lt}
use Rattle.std.proofs.lemmas.List.{length-append, length-map}
use Rattle.nv_core.specs.state.Values.{Value}
use Rattle.nv_core.specs.steps.Events.{Event, own}
use Rattle.nv_core.specs.invariant.OneHistory.{calls_by}
use Rattle.nv_core.specs.steps.Opening.{IsMount}
use Rattle.nv_table.specs.state.Opened.{Opened, mount_of}
use Rattle.nv_table.specs.state.States.{PassState}
use Rattle.nv_table.specs.state.Views.{AllBegin, pass_of}
use Rattle.nv_mount.specs.Mounts.{MountState}
use Rattle.nv_mount.specs.OneHistories.{HasOneHistory}
use Rattle.nv_mount.specs.WholeRuns.{IsWholeRun, history_then}
use Rattle.nv_plain.specs.declared.memory.NoMemory.{NoMemory as AnyNoMemory}
use Rattle.nv_bench.specs.Benches.{BenchState}
use Rattle.nv_trace.specs.declared.token.Token.{Token}
use Rattle.nv_trace.specs.declared.trace_call.TracedCall.{TracedCall}
use Rattle.nv_schedule.specs.Flights.{flights_of}
use Rattle.nv_schedule.specs.Following.{Stands}
use Rattle.nv_schedule.specs.Fresh.{AreFresh, thread_works}
use Rattle.nv_schedule.specs.Going.{AllGoOn, HaveBegun}
use Rattle.nv_schedule.specs.Growing.{AreApart, GrowBy, number_of, run_of}
use Rattle.nv_schedule.specs.Orders.{AreDeeds, InTurn, deeds}
use Rattle.nv_schedule.specs.Ran.{HasRunOn, RanAs, RunTells}
use Rattle.nv_schedule.specs.Scheduled.{AreCallsOf, AreTakenAsTheyStood, HasFollowed, HasTakenIn, HasTold, HaveCalled, HaveComeSince, IsToldBy}
use Rattle.nv_schedule.specs.Told.{IsToldOf}
use Rattle.nv_schedule.specs.Turns.{CallerState}
use Rattle.nv_schedule.specs.declared.caller.Work.TheVariants.{Batches}
use Rattle.nv_schedule.specs.declared.scheduled.ScheduledCalls.{ScheduledCalls}
use Rattle.nv_schedule.specs.declared.schedule_error.ScheduleError.{ScheduleError}
use Rattle.nv_schedule.specs.declared.schedule_error.ScheduleError.TheVariants.{Fault, NoMemory, TurnsUsed}
use Rattle.nv_schedule.proofs.AnswerLaws.{CallLaws}
use Rattle.nv_schedule.proofs.BehindLaws.{in_turn_on, own_seen}
use Rattle.nv_schedule.proofs.CutLaws.{all_reached}
use Rattle.nv_schedule.proofs.EndLaws.{HasPast, past_at, past_of_some, stood_deedless, stood_number}
use Rattle.nv_schedule.proofs.GrowLaws.{fault_grows, schedule_grows, used_up_grows}
use Rattle.nv_schedule.proofs.OpenCallLaws.{IsListedOpen, all_open, caller_opens}
use Rattle.nv_schedule.proofs.OrderLaws.{deeds_all, own_deeds, trail_is}
use Rattle.nv_schedule.proofs.ToldLaws.{caller_told, history_mine, history_seen}
use Rattle.nv_schedule.proofs.SinceLaws.{AreFirm, fault_deeds, fault_on, schedule_deeds, schedule_on, used_up_deeds, used_up_on}

-- ---- fresh callers

pub fresh_apart : (mount : MountState) (callers : List CallerState) → AreFresh mount callers → AreApart callers
fresh_apart mount callers fresh i j d less less_too ne same =
    let here = (fresh i d less).number in
    let there = (fresh j d less_too).number in
    ne (omega (arith, here, there, same))

pub fresh_firm : (mount : MountState) (callers : List CallerState) → AreFresh mount callers → AreFirm mount.fds callers
fresh_firm mount callers fresh i d less =
    let one = fresh i d less in
    (λ none. (let n = one.number in omega (arith, n, none)), (slice_index_or callers i d).pass, one.come)

-- ---- what they ran as

module _ (mount : MountState) (tokens : List Token) (first then_ : List CallerState) (trail : List Event) (fresh : AreFresh mount first) where
  ran_grows : (done : Result (Unit {0}) ScheduleError) → done ≢ Err NoMemory → RanAs mount tokens first then_ trail done → GrowBy first then_ trail
  ran_grows (Ok done) told ran = schedule_grows mount.fds false tokens first trail then_ (fresh_apart mount first fresh) ran
  ran_grows (Err TurnsUsed) told ran = used_up_grows mount.fds false tokens first trail then_ (fresh_apart mount first fresh) ran
  ran_grows (Err Fault) told ran = fault_grows mount.fds false tokens first trail then_ (fresh_apart mount first fresh) ran
  ran_grows (Err NoMemory) told ran = absurd (told refl)

  ran_on : (done : Result (Unit {0}) ScheduleError) → done ≢ Err NoMemory → RanAs mount tokens first then_ trail done → AllGoOn mount.fds first then_
  ran_on (Ok done) told ran = schedule_on mount.fds false tokens first trail then_ ran
  ran_on (Err TurnsUsed) told ran = used_up_on mount.fds false tokens first trail then_ ran
  ran_on (Err Fault) told ran = fault_on mount.fds false tokens first trail then_ ran
  ran_on (Err NoMemory) told ran = absurd (told refl)

  ran_deeds : (done : Result (Unit {0}) ScheduleError) → done ≢ Err NoMemory → RanAs mount tokens first then_ trail done → AreDeeds trail
  ran_deeds (Ok done) told ran = schedule_deeds mount.fds false tokens first trail then_ ran (fresh_firm mount first fresh)
  ran_deeds (Err TurnsUsed) told ran = used_up_deeds mount.fds false tokens first trail then_ ran (fresh_firm mount first fresh)
  ran_deeds (Err Fault) told ran = fault_deeds mount.fds false tokens first trail then_ ran (fresh_firm mount first fresh)
  ran_deeds (Err NoMemory) told ran = absurd (told refl)

-- ---- callers that have gone on

module _ (mount : MountState) (first then_ : List CallerState) (zero_then : PassState) (placed : ℕ) (laws : CallLaws) (is_mount : IsMount (mount_of mount.board.opened)) (same : zero_then.view.opened ≡ mount.board.opened)
    (stand : All (Stands mount) then_) (fresh : AreFresh mount first) (on : AllGoOn mount.fds first then_) (taken : AreTakenAsTheyStood then_ zero_then.view.ended) (history : HasOneHistory zero_then.view placed) where
  come_since : HaveComeSince mount.fds first then_
  come_since i d less =
      let goes = on.each i d less in
      record { number = goes.number; asked = goes.asked; come = goes.come (slice_index_or first i d).pass (fresh i d less).come }

  told_at : (i : ℕ) (d : CallerState) → i < length first → IsToldOf mount.fds (number_of (slice_index_or first i d)) (slice_index_or then_ i d) (slice_index_or first i d).pass (history_then zero_then.view)
  told_at i d less =
      let there : i < length then_ = (let n = on.count in omega (arith, less, n)) in
      let past = past_at then_ zero_then.view.ended i d taken there in
      let f = fresh i d less in
      let goes = on.each i d less in
      let now = (slice_index_or then_ i d).pass in
      let board = (stand i d there).0 in
      let mine = history_mine zero_then.view placed history now past.past (board.same_mount ∙ sym same) past.stood past.one in
      caller_told laws mount.fds (slice_index_or then_ i d) (slice_index_or first i d).pass (history_then zero_then.view)
      (subst (λ (o : Opened). IsMount (mount_of o)) (sym f.board.same_mount) is_mount) f.idle f.uncalled (goes.come (slice_index_or first i d).pass f.come)
      (subst (λ n. calls_by n (history_then zero_then.view) ≡ (pass_of now.view).mine) goes.number mine)
      (history_seen zero_then.view placed history now past.past (board.same_mount ∙ sym same) past.stood past.one)

  -- each caller's calls that are listed as open
  open_at : (i : ℕ) (d : CallerState) → i < length then_ → IsListedOpen mount.fds zero_then.view.opened (slice_index_or then_ i d)
  open_at i d there =
      let less : i < length first = (let n = on.count in omega (arith, there, n)) in
      let f = fresh i d less in
      let start = (slice_index_or first i d).pass in
      caller_opens laws mount.fds zero_then.view.opened (slice_index_or then_ i d) start (subst (λ (o : Opened). IsMount (mount_of o)) (sym f.board.same_mount) is_mount) f.idle f.unfailed
      ((on.each i d less).come start f.come) ((stand i d there).0.same_mount ∙ sym same)

-- whatever ended them
pub have_called : (mount : MountState) (calls : List TracedCall) (batch : ℕ) (then_ : List CallerState) (before zero_then : PassState) (placed : ℕ) → CallLaws → IsMount (mount_of mount.board.opened)
    → zero_then.view.opened ≡ mount.board.opened → All (Stands mount) then_ → HaveBegun mount calls batch then_ → (pass_of before.view).mine ≡ [] → flights_of (pass_of before.view) ≡ []
    → HasTakenIn before zero_then then_ → HasOneHistory zero_then.view placed → HaveCalled mount calls batch then_ zero_then
have_called mount calls batch then_ before zero_then placed laws is_mount same stand begun uncalled grounded taken history = record {
  first = begun.first;
  fresh = begun.fresh;
  unmade = begun.unmade;
  works = begun.works;
  count = begun.on.count;
  come = come_since mount begun.first then_ zero_then placed laws is_mount same stand begun.fresh begun.on taken.taken history;
  taken = taken.taken;
  told = told_at mount begun.first then_ zero_then placed laws is_mount same stand begun.fresh begun.on taken.taken history;
  none = taken.aside.mine ∙ uncalled;
  left_open = all_open mount.fds then_ zero_then (taken.aside.flights ∙ grounded) taken.taken (open_at mount begun.first then_ zero_then placed laws is_mount same stand begun.fresh begun.on taken.taken history);
}

-- ---- the run of the closed mount

any_caller : PassState → CallerState
any_caller pass = record { pass = pass; work = Batches (record { most = 0; machine = None }) }

module _ (mount : MountState) (tokens : List Token) (calls : List TracedCall) (batch : ℕ) (done : Result (Unit {0}) ScheduleError) (told : done ≢ Err NoMemory) (then_ : List CallerState) (before zero_then : PassState)
    (parts stores : List Value) (placed tail : ℕ) (laws : CallLaws) (is_mount : IsMount (mount_of mount.board.opened)) (same : zero_then.view.opened ≡ mount.board.opened) (stand : All (Stands mount) then_)
    (ran : HasRunOn mount tokens calls batch then_ before done) (undone : deeds (own 0 before.view.run) ≡ []) (uncalled : (pass_of before.view).mine ≡ []) (grounded : flights_of (pass_of before.view) ≡ [])
    (taken : HasTakenIn before zero_then then_) (number : zero_then.view.number ≡ 0) (whole : IsWholeRun zero_then.view parts stores placed tail) (history : HasOneHistory zero_then.view placed) where
  abbrev run : List Event
  run = zero_then.view.run

  abbrev trail : List Event
  trail = ran.trail

  grows : GrowBy ran.first then_ ran.trail
  grows = ran_grows mount tokens ran.first then_ ran.trail ran.fresh done told ran.ran

  goes_on : AllGoOn mount.fds ran.first then_
  goes_on = ran_on mount tokens ran.first then_ ran.trail ran.fresh done told ran.ran

  are_deeds : AreDeeds ran.trail
  are_deeds = ran_deeds mount tokens ran.first then_ ran.trail ran.fresh done told ran.ran

  some : 1 ≤ length then_
  some =
      let n = grows.count in
      let works = ap length ran.works in
      let mapped = length-map ran.first (λ (caller : CallerState). caller.work) in
      let both = length-append (thread_works calls 8) (Batches (record { most = batch; machine = None }) ∷ []) in
      omega (arith, n, works, mapped, both)

  in_turn : InTurn ran.trail zero_then.view.run
  in_turn = by taken.behind
    where
      by : (then_ ≡ []) ⊎ AllBegin zero_then.view.told zero_then.view.run → InTurn ran.trail zero_then.view.run
      by (inl none) = absurd (let l = ap length none in let s = some in omega (arith, l, s))
      by (inr begins) =
          let all = subst (λ (notes : List (List Event)). AllBegin notes zero_then.view.run) (taken.told ∙ ran.told) begins in
          in_turn_on ran.trail ran.view zero_then.view.run all.0 ran.stands

  -- of a caller
  module _ (i : ℕ) (d : CallerState) (less : i < length ran.first) where
    abbrev from : CallerState
    from = slice_index_or ran.first i d

    abbrev to : CallerState
    to = slice_index_or then_ i d

    there : i < length then_
    there = let n = grows.count in omega (arith, less, n)

    past : HasPast then_ zero_then.view.ended i d
    past = past_at then_ zero_then.view.ended i d taken.taken there

    seen : deeds (own (number_of (slice_index_or then_ i d)) zero_then.view.run) ≡ deeds (own (number_of (slice_index_or then_ i d)) (run_of (slice_index_or then_ i d)))
    seen =
        let sees = whole.joined past.past past.one in
        let same = subst (λ n. own n zero_then.view.run ≡ own n past.past.run) (stood_number (slice_index_or then_ i d).pass past.past past.stood) (own_seen past.past.number past.past.run zero_then.view.run sees) in
        ap deeds same ∙ stood_deedless (slice_index_or then_ i d).pass past.past past.stood

    at_caller : own (number_of (slice_index_or ran.first i d)) ran.trail ≡ deeds (own (number_of (slice_index_or ran.first i d)) zero_then.view.run)
    at_caller =
        let n = number_of (slice_index_or ran.first i d) in
        let here = subst (λ m. deeds (own m zero_then.view.run) ≡ deeds (own m (run_of (slice_index_or then_ i d)))) (grows.numbers i d less) seen in
        sym (here ∙ ap deeds (grows.each i d less ∙ ap (λ l. l ++ own n ran.trail) (ran.fresh i d less).unborn) ∙ sym (own_deeds n ran.trail) ∙ ap (own n) (deeds_all ran.trail are_deeds))

  -- of nobody
  beyond : (other : ℕ) → length ran.first < other → own other ran.trail ≡ deeds (own other zero_then.view.run)
  beyond other far =
      grows.others other (λ i d less same. (let n = (ran.fresh i d less).number in omega (arith, far, less, same, n)))
      ∙ sym (ap deeds (whole.others other (λ is. (let z = number in omega (arith, far, is, z))) (λ one there is.
      (let whose = past_of_some then_ zero_then.view.ended one taken.taken there in
      let d = any_caller zero_then in
      let c = grows.count in
      let within = whose.there in
      let less : whose.place < length ran.first = omega (arith, c, within) in
      let n = (ran.fresh whose.place d less).number in
      let same = grows.numbers whose.place d less in
      let stood = stood_number (slice_index_or then_ whose.place d).pass one (whose.stood d) in
      omega (arith, far, is, less, n, same, stood)))))

  each : (other : ℕ) → own other ran.trail ≡ deeds (own other zero_then.view.run)
  each zero =
      grows.others 0 (λ i d less same. (let n = (ran.fresh i d less).number in omega (arith, same, n)))
      ∙ sym (taken.aside.deedless ∙ undone)
  each (suc i) = by (cases_lt i (length ran.first))
    where
      by : (i < length ran.first) ⊎ (length ran.first ≤ i) → own (suc i) ran.trail ≡ deeds (own (suc i) zero_then.view.run)
      by (inl less) =
          let d = any_caller zero_then in
          let is : number_of (slice_index_or ran.first i d) ≡ suc i = (let n = (ran.fresh i d less).number in omega (arith, n)) in
          subst (λ n. own n ran.trail ≡ deeds (own n zero_then.view.run)) is (at_caller i d less)
      by (inr far) = beyond (suc i) (omega (arith, far))

  pub has_followed : HasFollowed mount tokens calls batch done then_ zero_then
  has_followed = record {
    first = ran.first;
    fresh = ran.fresh;
    works = ran.works;
    trail = ran.trail;
    ran = ran.ran;
    only = trail_is ran.trail zero_then.view.run in_turn are_deeds each;
    count = grows.count;
    come = come_since mount ran.first then_ zero_then placed laws is_mount same stand ran.fresh goes_on taken.taken history;
    taken = taken.taken;
    told = told_at mount ran.first then_ zero_then placed laws is_mount same stand ran.fresh goes_on taken.taken history;
    none = taken.aside.mine ∙ uncalled;
    left_open = all_open mount.fds then_ zero_then (taken.aside.flights ∙ grounded) taken.taken (open_at mount ran.first then_ zero_then placed laws is_mount same stand ran.fresh goes_on taken.taken history);
    number = number;
    deedless = taken.aside.deedless ∙ undone;
  }

-- ---- what is answered

module _ (mount : MountState) (tokens : List Token) (calls : List TracedCall) (batch : ℕ) (then_ : List CallerState) (before zero_then : PassState)
    (parts stores : List Value) (placed tail : ℕ) (bench armed : BenchState) (laws : CallLaws) (is_mount : IsMount (mount_of mount.board.opened)) (same : zero_then.view.opened ≡ mount.board.opened) (stand : All (Stands mount) then_)
    (undone : deeds (own 0 before.view.run) ≡ []) (uncalled : (pass_of before.view).mine ≡ []) (grounded : flights_of (pass_of before.view) ≡ [])
    (taken : HasTakenIn before zero_then then_) (number : zero_then.view.number ≡ 0) (whole : IsWholeRun zero_then.view parts stores placed tail) (history : HasOneHistory zero_then.view placed) where
  pub has_told : (ran : Result (Unit {0}) ScheduleError) (noted : Result (Unit {0}) AnyNoMemory) (begun : ScheduledCalls) (outcome : Result ScheduledCalls ScheduleError) → IsToldBy ran noted begun outcome
      → RunTells mount tokens calls batch then_ before bench armed ran → OnOk noted (AreCallsOf then_ begun) → HasTold mount tokens calls batch zero_then bench armed outcome
  unfolding has_followed
  has_told (Ok done) (Ok all) begun outcome is tells are =
      subst (HasTold mount tokens calls batch zero_then bench armed) (sym is)
      (then_, has_followed mount tokens calls batch (Ok done) (λ same. cc) then_ before zero_then parts stores placed tail laws is_mount same stand tells.0 undone uncalled grounded taken number whole history, are, tells.1)
  has_told (Ok done) (Err wanting) begun outcome is tells are = subst (HasTold mount tokens calls batch zero_then bench armed) (sym is) (all_reached tokens bench armed tells.1)
  has_told (Err TurnsUsed) noted begun outcome is tells are =
      subst (HasTold mount tokens calls batch zero_then bench armed) (sym is)
      (then_, has_followed mount tokens calls batch (Err TurnsUsed) (λ same. differ same) then_ before zero_then parts stores placed tail laws is_mount same stand tells.0 undone uncalled grounded taken number whole history, tells.1)
    where
      differ : ◌≡◌ {A = Result (Unit {0}) ScheduleError} (Err TurnsUsed) (Err NoMemory) → ⊥
      differ same = cc
  has_told (Err Fault) noted begun outcome is tells are =
      subst (HasTold mount tokens calls batch zero_then bench armed) (sym is)
      (then_, has_followed mount tokens calls batch (Err Fault) (λ same. differ same) then_ before zero_then parts stores placed tail laws is_mount same stand tells.0 undone uncalled grounded taken number whole history, tells.1)
    where
      differ : ◌≡◌ {A = Result (Unit {0}) ScheduleError} (Err Fault) (Err NoMemory) → ⊥
      differ same = cc
  has_told (Err NoMemory) noted begun outcome is tells are = subst (HasTold mount tokens calls batch zero_then bench armed) (sym is) tells

-- STOP: what the steps of a pass that has seen it find, and which answers tell of it.
use Rattle.std.proofs.Common.{◌≡◌, ℕ, ◌+◌, ◌*◌, ◌==◌, ◌^◌, ◌||◌, Bool, true, false, if◌then◌else◌, List, [], ◌∷◌, ◌++◌, map, refl, sym, ap, subst, ◌∙◌, arith, ne_eqb}
use Rattle.std.specs.Prelude.{Option, Some, None, nat_lt, min, Result, Ok, Err}
use Rattle.std.specs.List.{slice_get}
use Rattle.nv_plain.specs.Layouts.{mount_layout}
use Rattle.nv_plain.specs.Pieces.{pages_touched}
use Rattle.nv_plain.specs.declared.call.FileCall.TheVariants.{Sync}
use Rattle.nv_plain.specs.declared.mode.Mode.{Mode}
use Rattle.nv_plain.specs.declared.call.Reply.TheVariants.{Done as Replied}
use Rattle.nv_mount.specs.declared.fds.Fd.{Fd}
use Rattle.nv_plain.specs.declared.call.FileCall.{FileCall}
use Rattle.nv_core.specs.state.Words.{Sizes, STOP, ORDER, HEAD, TAIL, PAGE, place}
use Rattle.nv_core.specs.state.Passes.{Pass, first_page, end_page, plain_call}
use Rattle.nv_core.specs.steps.Ops.{Op, Load, Take, Place, Stop, Draw, ByCleaner}
use Rattle.nv_core.specs.state.Cleaner as cleaner
use Rattle.nv_core.specs.invariant.Ownership.{is_among}
use Rattle.nv_core.specs.state.Core.{Core}
use Rattle.nv_core.specs.steps.Events.{Event, CallsDevice, after_run, after_event}
use Rattle.nv_core.specs.invariant.InvariantLaws.{RunsAreSound}
use Rattle.nv_core.specs.steps.Frames.{OwnEventsTell}
use Rattle.nv_core.specs.steps.Opening.{IsMount, opening}
use Rattle.nv_core.specs.steps.Order.{Work}
use Rattle.nv_core.specs.steps.PassSteps.{stopped_after}
use Rattle.nv_core.proofs.steps.RunLaws.{after_parts}
use Rattle.nv_table.specs.steps.SeatSteps.{act_of, events, pass_worked, with_call, pass_before}
use Rattle.nv_table.specs.state.Opened.{Opened, mount_of, state_of}
use Rattle.nv_table.specs.steps.StepContracts.{Postcondition}
use Rattle.nv_table.specs.state.Views.{PassView, pass_of}
use Rattle.nv_table.specs.state.States.{PassState}
use Rattle.nv_table.proofs.invariant.DrawnLaws.{calls_leave}
use Rattle.nv_mirror.specs.declared.answers.Done.{Done}
use Rattle.nv_mirror.specs.declared.answers.Refusal.{Refusal}
use Rattle.nv_mirror.specs.declared.answers.Refusal.TheVariants.{BadFd, TooFar, TooLong, Busy, Stopped, Spent, Again, Raced, RegionFault, StoreFault}
use Rattle.nv_calls.specs.calls.EarlyRefusals.{early_range_refusal, early_fd_refusal, early_refusal}
use Rattle.nv_calls.specs.fsync.SyncRuns.{file_of_fd, IsSyncRun}
use Rattle.nv_calls.specs.histories.Heeds.{HasSeenStop, HeedsStop, is_stop_load, loads_stop, tells_stop, SyncsHeedStop}
use Rattle.nv_mirror.specs.OwnSteps.{is_own, gives_back, AreOwnAs}
use Rattle.nv_mirror.specs.Answers.{refusal_in_answer}
use Rattle.nv_calls.specs.calls.EndedCalls.{IsCallOver}
use Rattle.nv_mirror.proofs.StopLaws.{IsFault, faults_are, sets_stop}
use Rattle.nv_mirror.specs.PassSteps.{PassStep, HasTaken, HasMade, stops_in, IsBetweenSteps, is_fault, either_of, fault_in, refused_by, refusal_in, if_own, busy_at, head_in}

-- ---- one step

-- what its pass has seen of STOP
with_call_stopped : (sizes : Sizes) (opens : Option FileCall) (pass : Pass) → (with_call sizes opens pass).stopped ≡ pass.stopped
with_call_stopped sizes None pass = refl
with_call_stopped sizes (Some call) pass = refl

before_stopped : (view : PassView) (opens : Option FileCall) (works : List Work) → (pass_before view opens works).stopped ≡ (pass_of view).stopped
before_stopped view opens works =
    with_call_stopped view.opened.sizes opens (pass_worked view.opened.sizes works (pass_of view))
    ∙ calls_leave (λ (p : Pass). p.stopped) (λ sizes work pass. refl) view.opened.sizes works (pass_of view)

seen_after : (old new : PassState) (opens : Option FileCall) (op : Op) (found : ℕ) → (is : Postcondition old opens op found new)
    → (pass_of new.view).stopped ≡ stopped_after (pass_before old.view opens is.works) op found
seen_after old new opens op found is = ap (λ (p : Pass). p.stopped) is.pass

-- it never forgets it
kept_if : (b one : Bool) → one ≡ true → (if b then one else true) ≡ true
kept_if true one seen = seen
kept_if false one seen = refl

stays_stopped : (pass : Pass) (op : Op) (found : ℕ) → pass.stopped ≡ true → stopped_after pass op found ≡ true
stays_stopped pass (Load STOP) found seen = kept_if (found == 0) pass.stopped seen
stays_stopped pass Stop found seen = refl
stays_stopped pass (ByCleaner (cleaner.Load STOP)) found seen = kept_if (found == 0) pass.stopped seen
stays_stopped pass (ByCleaner cleaner.Stop) found seen = refl
stays_stopped pass op found seen = seen

step_stays : (old new : PassState) (opens : Option FileCall) (op : Op) (found : ℕ) → Postcondition old opens op found new → HasSeenStop old → HasSeenStop new
step_stays old new opens op found is seen =
    seen_after old new opens op found is ∙ stays_stopped (pass_before old.view opens is.works) op found (before_stopped old.view opens is.works ∙ seen)

-- and finds it set
words_after : (sizes : Sizes) (core : Core) (by : ℕ) (opens : Option FileCall) (found : ℕ) → (after_event sizes record { by = by; act = act_of opens (Load STOP) found } core).words STOP ≡ found
words_after sizes core by None found = refl
words_after sizes core by (Some call) found = refl

stop_found : (opened : Opened) (run : List Event) (by : ℕ) (works : List Work) (opens : Option FileCall) (found : ℕ) → (state_of opened (run ++ events by works (act_of opens (Load STOP) found))).words STOP ≡ found
stop_found opened run by works opens found =
    let calls : List Event = map (λ work. record { by = by; act = CallsDevice work }) works in
    let last : List Event = record { by = by; act = act_of opens (Load STOP) found } ∷ [] in
    ap (λ (core : Core). core.words STOP) (after_parts opened.sizes (opening (mount_of opened)) run (calls ++ last) ∙ after_parts opened.sizes (state_of opened run) calls last)
    ∙ words_after opened.sizes (after_run opened.sizes (state_of opened run) calls) by opens found

load_finds : RunsAreSound → (old new : PassState) (opens : Option FileCall) (found : ℕ) → IsMount (mount_of old.view.opened) → Postcondition old opens (Load STOP) found new → HasSeenStop old → found ≡ 1
load_finds sound old new opens found mount is seen =
    let run = is.steps.run ++ events old.view.number is.works (act_of opens (Load STOP) found) in
    let at : ((state_of old.view.opened run).passes old.view.number).stopped ≡ true = subst (λ (view : PassView). (pass_of view).stopped ≡ true) is.steps.is (step_stays old new opens (Load STOP) found is seen) in
    sym (stop_found old.view.opened is.steps.run old.view.number is.works opens found)
    ∙ (sound (mount_of old.view.opened) run mount is.steps.is_run).stop.stays old.view.number at

-- ---- steps

seen_between : (old new : PassState) → IsBetweenSteps old new → HasSeenStop old → HasSeenStop new
seen_between old new same seen = subst (λ (view : PassView). (pass_of view).stopped ≡ true) (sym same.view) seen

taken_stays : (step : PassStep) (old new : PassState) → HasTaken step old new → HasSeenStop old → HasSeenStop new
taken_stays step old new taken seen = step_stays taken.before new step.opens step.op step.found taken.stepped (seen_between old taken.before taken.between seen)

made_stays : (steps : List PassStep) (start now : PassState) → HasMade steps start now → HasSeenStop start → HasSeenStop now
made_stays [] start now same seen = subst (λ (p : PassState). HasSeenStop p) (sym same) seen
made_stays (step ∷ earlier) start now made seen = taken_stays step made.0 now made.2 (made_stays earlier start made.0 made.1 seen)

taken_opened : (step : PassStep) (old new : PassState) → HasTaken step old new → new.view.opened ≡ old.view.opened
taken_opened step old new taken = ap (λ (view : PassView). view.opened) (taken.stepped.steps.is) ∙ ap (λ (view : PassView). view.opened) taken.between.view

pub made_opened : (steps : List PassStep) (start now : PassState) → HasMade steps start now → now.view.opened ≡ start.view.opened
made_opened [] start now same = ap (λ (p : PassState). p.view.opened) same
made_opened (step ∷ earlier) start now made = taken_opened step made.0 now made.2 ∙ made_opened earlier start made.0 made.1

load_of : (op : Op) → is_stop_load op ≡ true → op ≡ Load STOP
load_of (Load STOP) is = refl
load_of op is = absurd (cc)

-- a step that loads STOP refuses its call
load_refuses : (sizes : Sizes) (call : FileCall) (head : ℕ) (works : List Work) (op : Op) (found : ℕ) → op ≡ Load STOP → found ≡ 1 → refused_by sizes call head works op found ≡ Some Stopped
load_refuses sizes call head works op found load set =
    ap (λ d. refused_by sizes call head works d found) load ∙ ap (refused_by sizes call head works (Load STOP)) set

-- each load of STOP among the steps since a start finds it set
abbrev pub FindsStop : PassState → Type 0
FindsStop start = (step : PassStep) (earlier : List PassStep) (now : PassState) → HasMade (step ∷ earlier) start now → step.op ≡ Load STOP → step.found ≡ 1

seen_finds : RunsAreSound → (start : PassState) → IsMount (mount_of start.view.opened) → HasSeenStop start → FindsStop start
seen_finds sound start mount seen step earlier now made is =
    let taken = made.2 in
    let at = subst (λ (o : Opened). IsMount (mount_of o)) (sym (ap (λ (view : PassView). view.opened) taken.between.view ∙ made_opened earlier start made.0 made.1)) mount in
    let stepped = subst (λ d. Postcondition taken.before step.opens d step.found now) is taken.stepped in
    load_finds sound taken.before now step.opens step.found at stepped (seen_between made.0 taken.before taken.between (made_stays earlier start made.0 made.1 seen))

module _ (sizes : Sizes) (call : FileCall) (start : PassState) (set : FindsStop start) where
  last_refuses : (step : PassStep) (earlier : List PassStep) (now : PassState) → HasMade (step ∷ earlier) start now → is_stop_load step.op ≡ true → refused_by sizes call (head_in earlier) step.works step.op step.found ≡ Some Stopped
  last_refuses step earlier now made load =
      let is = load_of step.op load in
      load_refuses sizes call (head_in earlier) step.works step.op step.found is (set step earlier now made is)

  own_open : (refusal : Option Refusal) (op : Op) → op ≡ Load STOP → is_own call refusal op ≡ true → refusal ≡ None
  own_open None op load own = refl
  own_open (Some refusal) op load own = let never : gives_back call refusal (Load STOP) ≡ true = sym (ap (gives_back call refusal) load) ∙ own in absurd (cc)

  -- a call that comes to its load of STOP is refused by it
  pub comes_to_stop : (asked : FileCall) (steps : List PassStep) (now : PassState) → HasMade steps start now → AreOwnAs sizes asked call steps → loads_stop steps ≡ true → refusal_in sizes call steps ≡ Some Stopped
  comes_to_stop asked [] now made own loads = absurd own
  comes_to_stop asked (step ∷ []) now made own loads = last_refuses step [] now made loads
  comes_to_stop asked (step ∷ (other ∷ earlier)) now made own loads = by (loads_stop (other ∷ earlier)) refl (comes_to_stop asked (other ∷ earlier) made.0 made.1 own.2)
    where
      by : (b : Bool) → loads_stop (other ∷ earlier) ≡ b → (loads_stop (other ∷ earlier) ≡ true → refusal_in sizes call (other ∷ earlier) ≡ Some Stopped) → refusal_in sizes call (step ∷ (other ∷ earlier)) ≡ Some Stopped
      by true before then_ = ap (λ r. either_of r (refused_by sizes call (head_in (other ∷ earlier)) step.works step.op step.found)) (then_ before)
      by false before then_ =
          let load : is_stop_load step.op ≡ true = sym (ap (λ b. b || is_stop_load step.op) before) ∙ loads in
          ap (λ r. either_of r (refused_by sizes call (head_in (other ∷ earlier)) step.works step.op step.found)) (own_open (refusal_in sizes call (other ∷ earlier)) step.op (load_of step.op load) own.1)
          ∙ last_refuses step (other ∷ earlier) now made load

-- ---- a call that is answered that the mount is stopped came to its load of STOP

-- a refusal is another
abbrev IsOther : Option Refusal → Type 0
IsOther (Some Stopped) = ⊥
IsOther refusal = Unit {0}

other_both : (b : Bool) (one other : Option Refusal) → IsOther one → IsOther other → IsOther (if b then one else other)
other_both true one other first last = first
other_both false one other first last = last

fault_other : (refusal : Option Refusal) → IsFault refusal → IsOther refusal
fault_other (Some RegionFault) fault = tt
fault_other (Some StoreFault) fault = tt
fault_other (Some refusal) fault = absurd fault
fault_other None fault = tt

other_so : (refusal : Option Refusal) → IsOther refusal → refusal ≡ Some Stopped → ⊥
other_so refusal other is = subst IsOther is other

stopped_by : (sizes : Sizes) (call : FileCall) (head : ℕ) (works : List Work) (op : Op) (found : ℕ) → refused_by sizes call head works op found ≡ Some Stopped → is_stop_load op ≡ true
stopped_by sizes call head works (Take (PAGE page)) found is =
    let busy = other_both (found == 0) None (Some (Busy (place sizes (PAGE page)))) tt tt in
    absurd (other_so _ (other_both (found == 0) None (if_own sizes call page (busy_at sizes (PAGE page) found)) tt
    (other_both (is_among (first_page sizes call) (end_page sizes call) page) (busy_at sizes (PAGE page) found) None busy tt)) is)
stopped_by sizes call head works (Take cell) found is = absurd (other_so _ (other_both (found == 0) None (Some (Busy (place sizes cell))) tt tt) is)
stopped_by sizes call head works (Load STOP) found is = refl
stopped_by sizes call head works (Load ORDER) found is = absurd (other_so _ (other_both (nat_lt found (2 ^ 60)) None (Some (Spent found)) tt tt) is)
stopped_by sizes call head works (Load HEAD) found is = absurd (other_so _ (other_both _ (Some (Spent found)) None tt tt) is)
stopped_by sizes call head works (Load TAIL) found is = absurd (other_so _ (other_both _ (Some (Again head found)) None tt tt) is)
stopped_by sizes call head works Draw found is = absurd (other_so _ (other_both (found == head) None (Some (Raced head found)) tt tt) is)
stopped_by sizes call head works Stop found is = absurd (other_so _ (fault_other (fault_in works) (faults_are works)) is)
stopped_by sizes call head works op found is = absurd (cc)

or_first : (one other : Bool) → one ≡ true → (one || other) ≡ true
or_first one other is = ap (λ b. b || other) is

or_last : (one other : Bool) → other ≡ true → (one || other) ≡ true
or_last true other is = refl
or_last false other is = is

looked_at_stop : (sizes : Sizes) (call : FileCall) (steps : List PassStep) → refusal_in sizes call steps ≡ Some Stopped → loads_stop steps ≡ true
looked_at_stop sizes call [] is = absurd (cc)
looked_at_stop sizes call (step ∷ earlier) is = by (refusal_in sizes call earlier) refl (looked_at_stop sizes call earlier)
  where
    by : (before : Option Refusal) → refusal_in sizes call earlier ≡ before → (refusal_in sizes call earlier ≡ Some Stopped → loads_stop earlier ≡ true) → loads_stop (step ∷ earlier) ≡ true
    by (Some refusal) so looked =
        let same = sym (ap (λ r. either_of r (refused_by sizes call (head_in earlier) step.works step.op step.found)) so) ∙ is in
        or_first (loads_stop earlier) (is_stop_load step.op) (looked (so ∙ same))
    by None so looked =
        or_last (loads_stop earlier) (is_stop_load step.op)
        (stopped_by sizes call (head_in earlier) step.works step.op step.found (sym (ap (λ r. either_of r (refused_by sizes call (head_in earlier) step.works step.op step.found)) so) ∙ is))

-- ---- answers

abbrev pub refusal_tells : Option Refusal → Bool
refusal_tells (Some Stopped) = true
refusal_tells (Some RegionFault) = true
refusal_tells (Some StoreFault) = true
refusal_tells refusal = false

answer_tells : (result : Result Done Refusal) → tells_stop result ≡ refusal_tells (refusal_in_answer result)
answer_tells (Err Stopped) = refl
answer_tells (Err RegionFault) = refl
answer_tells (Err StoreFault) = refl
answer_tells result = refl

tells_neither : (b : Bool) (one other : Option Refusal) → refusal_tells one ≡ false → refusal_tells other ≡ false → refusal_tells (if b then one else other) ≡ false
tells_neither true one other first last = first
tells_neither false one other first last = last

tells_set : (b one : Bool) → refusal_tells (if b then None else Some Stopped) ≡ true → (if b then one else true) ≡ true
tells_set true one tells = absurd (cc)
tells_set false one tells = refl

-- a step that refuses its call for STOP, or a device fault, has seen it or set it
never : (b : Bool) → b ≡ false → b ≡ true → ⊥
never b off is = cc

refuses_seeing : (sizes : Sizes) (call : FileCall) (head : ℕ) (works : List Work) (pass : Pass) (op : Op) (found : ℕ) → refusal_tells (refused_by sizes call head works op found) ≡ true → stopped_after pass op found ≡ true
refuses_seeing sizes call head works pass (Take (PAGE page)) found tells =
    let busy = tells_neither (found == 0) None (Some (Busy (place sizes (PAGE page)))) refl refl in
    absurd (never _ (tells_neither (found == 0) None (if_own sizes call page (busy_at sizes (PAGE page) found)) refl (tells_neither (is_among (first_page sizes call) (end_page sizes call) page) (busy_at sizes (PAGE page) found) None busy refl)) tells)
refuses_seeing sizes call head works pass (Take cell) found tells = absurd (never _ (tells_neither (found == 0) None (Some (Busy (place sizes cell))) refl refl) tells)
refuses_seeing sizes call head works pass (Load STOP) found tells = tells_set (found == 0) pass.stopped tells
refuses_seeing sizes call head works pass (Load ORDER) found tells = absurd (never _ (tells_neither (nat_lt found (2 ^ 60)) None (Some (Spent found)) refl refl) tells)
refuses_seeing sizes call head works pass (Load HEAD) found tells = absurd (never _ (tells_neither _ (Some (Spent found)) None refl refl) tells)
refuses_seeing sizes call head works pass (Load TAIL) found tells = absurd (never _ (tells_neither _ (Some (Again head found)) None refl refl) tells)
refuses_seeing sizes call head works pass Draw found tells = absurd (never _ (tells_neither (found == head) None (Some (Raced head found)) refl refl) tells)
refuses_seeing sizes call head works pass Stop found tells = refl
refuses_seeing sizes call head works pass op found tells = absurd (cc)

made_tells : (sizes : Sizes) (call : FileCall) (steps : List PassStep) (start now : PassState) → HasMade steps start now → refusal_tells (refusal_in sizes call steps) ≡ true → HasSeenStop now
made_tells sizes call [] start now made tells = absurd (cc)
made_tells sizes call (step ∷ earlier) start now made tells = by (refusal_in sizes call earlier) refl (made_tells sizes call earlier start made.0 made.1)
  where
    taken : HasTaken step made.0 now
    taken = made.2

    by : (before : Option Refusal) → refusal_in sizes call earlier ≡ before → (refusal_tells (refusal_in sizes call earlier) ≡ true → HasSeenStop made.0) → HasSeenStop now
    by (Some refusal) is seen =
        let told = sym (ap (λ r. refusal_tells (either_of r (refused_by sizes call (head_in earlier) step.works step.op step.found))) is) ∙ tells in
        taken_stays step made.0 now taken (seen (ap refusal_tells is ∙ told))
    by None is seen =
        seen_after taken.before now step.opens step.op step.found taken.stepped
        ∙ refuses_seeing sizes call (head_in earlier) step.works (pass_before taken.before.view step.opens taken.stepped.works) step.op step.found
        (sym (ap (λ r. refusal_tells (either_of r (refused_by sizes call (head_in earlier) step.works step.op step.found))) is) ∙ tells)

answer_seen : (sizes : Sizes) (call : FileCall) (steps : List PassStep) (start now : PassState) (result : Result Done Refusal) → HasMade steps start now → refusal_in sizes call steps ≡ refusal_in_answer result
    → tells_stop result ≡ true → HasSeenStop now
answer_seen sizes call steps start now result made is tells =
    made_tells sizes call steps start now made (ap refusal_tells is ∙ sym (answer_tells result) ∙ tells)

-- ---- calls that are over

range_tells : (sizes : Sizes) (at len : ℕ) → refusal_tells (early_range_refusal sizes at len) ≡ false
range_tells sizes at len =
    let long = nat_lt (min mount_layout.group_limit sizes.entries) (pages_touched at len sizes.page) in
    tells_neither (nat_lt (sizes.page * sizes.pages) (at + len)) (Some TooFar) (if long then Some TooLong else None) refl (tells_neither long (Some TooLong) None refl refl)

pub early_tells : (may : Mode → Bool) (sizes : Sizes) (fd : Option Fd) (at len : ℕ) → refusal_tells (early_fd_refusal may sizes fd at len) ≡ false
early_tells may sizes None at len = refl
early_tells may sizes (Some one) at len = tells_neither (may one.mode) (early_range_refusal sizes at len) (Some BadFd) (range_tells sizes at len) refl

pub stopped_is : (result : Result Done Refusal) → refusal_in_answer result ≡ Some Stopped → result ≡ Err Stopped
stopped_is (Ok done) is = absurd (cc)
stopped_is (Err refusal) is = let same : refusal ≡ Stopped = cc in ap Err same

-- a refusal that tells nothing of STOP is no device fault
pub untold_mild : (refusal : Option Refusal) → refusal_tells refusal ≡ false → is_fault refusal ≡ false
untold_mild (Some RegionFault) silent = absurd (cc)
untold_mild (Some StoreFault) silent = absurd (cc)
untold_mild refusal silent = refl

-- a call that is refused by what it asks for, and one that is over by its steps
refused_heeds : (refusal : Refusal) (start now : PassState) (result : Result Done Refusal) → refusal_tells (Some refusal) ≡ false → result ≡ Err refusal → now ≡ start → HeedsStop start now result
refused_heeds refusal start now result silent is same = record {
  steps = [];
  made = same;
  stays = λ seen. subst (λ (p : PassState). HasSeenStop p) (sym same) seen;
  told = λ tells. absurd (never (tells_stop result) (ap tells_stop is ∙ answer_tells (Err refusal) ∙ silent) tells);
  heeds = λ seen loads. cc;
  looked = λ stopped. absurd (never (refusal_tells (Some refusal)) silent (ap (λ r. refusal_tells (refusal_in_answer r)) (sym is ∙ stopped)));
  sets = sym (ap (λ r. is_fault (refusal_in_answer r)) is ∙ untold_mild (Some refusal) silent);
}

made_heeds : RunsAreSound → (asked call : FileCall) (steps : List PassStep) (start now : PassState) (result : Result Done Refusal) → IsMount (mount_of start.view.opened) → HasMade steps start now → AreOwnAs start.view.opened.sizes asked call steps
    → refusal_in start.view.opened.sizes call steps ≡ refusal_in_answer result → stops_in steps ≡ is_fault (refusal_in_answer result) → HeedsStop start now result
made_heeds sound asked call steps start now result mount made own refused set = record {
  steps = steps;
  made = made;
  stays = made_stays steps start now made;
  told = answer_seen start.view.opened.sizes call steps start now result made refused;
  heeds = λ seen loads. stopped_is result (sym refused ∙ comes_to_stop start.view.opened.sizes call start (seen_finds sound start mount seen) asked steps now made own loads);
  looked = λ stopped. looked_at_stop start.view.opened.sizes call steps (refused ∙ ap refusal_in_answer stopped);
  sets = set;
}

by_heeds : RunsAreSound → OwnEventsTell → (early : Option Refusal) (file : Option ℕ) (asks : ℕ → FileCall) (start now : PassState) (result : Result Done Refusal) → refusal_tells early ≡ false → IsMount (mount_of start.view.opened)
    → IsCallOver early file asks start now result → HeedsStop start now result
by_heeds sound tell (Some refusal) file asks start now result silent mount over = refused_heeds refusal start now result silent over.0 over.1
by_heeds sound tell None file asks start now result silent mount over =
    let ended = over.2 in
    let sets = sets_stop start.view.opened.sizes (plain_call (asks over.0)) sound tell start mount (asks over.0) ended.steps now ended.made ended.own in
    made_heeds sound (asks over.0) (plain_call (asks over.0)) ended.steps start now result mount ended.made ended.own ended.refused (sets ∙ ap is_fault ended.refused)

pub over_heeds : RunsAreSound → OwnEventsTell → (may : Mode → Bool) (fds : List Fd) (fd at len : ℕ) (asks : ℕ → FileCall) (start now : PassState) (result : Result Done Refusal) → IsMount (mount_of start.view.opened)
    → IsCallOver (early_refusal may start.view.opened.sizes fds fd at len) (file_of_fd fds fd) asks start now result → HeedsStop start now result
over_heeds sound tell may fds fd at len asks start now result mount over =
    by_heeds sound tell (early_refusal may start.view.opened.sizes fds fd at len) (file_of_fd fds fd) asks start now result (early_tells may start.view.opened.sizes (slice_get fds fd) at len) mount over

-- ---- an fsync

sync_run_stays : (file : Option ℕ) (start now : PassState) (result : Result Done Refusal) → IsSyncRun file start now result → HasSeenStop start → HasSeenStop now
sync_run_stays None start now (Err BadFd) sync_run seen = subst (λ (p : PassState). HasSeenStop p) (sym sync_run) seen
sync_run_stays (Some file) start now (Err Stopped) sync_run seen = step_stays start now (Some (Sync file)) (Load STOP) sync_run.found sync_run.stop seen
sync_run_stays (Some file) start now (Err (Spent found)) sync_run seen =
    step_stays sync_run.begun now None (Load ORDER) found sync_run.order (step_stays start sync_run.begun (Some (Sync file)) (Load STOP) 0 sync_run.stop seen)
sync_run_stays (Some file) start now (Ok done) sync_run seen =
    step_stays sync_run.loaded now None (Place Replied) done.place sync_run.places
    (step_stays sync_run.begun sync_run.loaded None (Load ORDER) sync_run.found sync_run.order (step_stays start sync_run.begun (Some (Sync file)) (Load STOP) 0 sync_run.stop seen))
sync_run_stays file start now result sync_run seen = absurd sync_run

sync_run_told : (file : Option ℕ) (start now : PassState) (result : Result Done Refusal) → IsSyncRun file start now result → tells_stop result ≡ true → HasSeenStop now
sync_run_told (Some file) start now (Err Stopped) sync_run tells =
    seen_after start now (Some (Sync file)) (Load STOP) sync_run.found sync_run.stop
    ∙ ap (λ b. if b then (pass_before start.view (Some (Sync file)) sync_run.stop.works).stopped else true) (ne_eqb sync_run.found 0 sync_run.set)
sync_run_told (Some file) start now (Err (Spent found)) sync_run tells = absurd (cc)
sync_run_told (Some file) start now (Ok done) sync_run tells = absurd (cc)
sync_run_told None start now (Err BadFd) sync_run tells = absurd (cc)
sync_run_told file start now result sync_run tells = absurd sync_run

not_zero : {T : Type 0} → ◌≡◌ {A = ℕ} 0 1 → T
not_zero is = absurd (omega arith)

sync_run_heeds : RunsAreSound → (file : ℕ) (start now : PassState) (result : Result Done Refusal) → IsMount (mount_of start.view.opened) → IsSyncRun (Some file) start now result → HasSeenStop start → result ≡ Err Stopped
sync_run_heeds sound file start now (Err Stopped) mount sync_run seen = refl
sync_run_heeds sound file start now (Err (Spent found)) mount sync_run seen = not_zero (load_finds sound start sync_run.begun (Some (Sync file)) 0 mount sync_run.stop seen)
sync_run_heeds sound file start now (Ok done) mount sync_run seen = not_zero (load_finds sound start sync_run.begun (Some (Sync file)) 0 mount sync_run.stop seen)
sync_run_heeds sound file start now result mount sync_run seen = absurd sync_run

pub syncs_heed_stop : RunsAreSound → SyncsHeedStop
syncs_heed_stop sound fds fd start now result mount sync_run = record {
  stays = sync_run_stays (file_of_fd fds fd) start now result sync_run;
  told = sync_run_told (file_of_fd fds fd) start now result sync_run;
  heeds = λ seen file is. sync_run_heeds sound file start now result mount (subst (λ one. IsSyncRun one start now result) is sync_run) seen;
}

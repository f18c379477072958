-- Each event keeps what the log has of faults.
use Rattle.std.proofs.Common.{◌≡◌, ◌≢◌, ◌⊎◌, ℕ, ◌<◌, ◌≤◌, ◌==◌, Bool, true, false, inl, inr, refl, sym, ap, subst, ◌∙◌, arith}
use Rattle.std.proofs.lemmas.Bool.{cases_lt}
use Rattle.nv_plain.specs.declared.call.Reply.{Reply}
use Rattle.nv_core.specs.state.Words.{Sizes, HEAD, TAIL, was_readied}
use Rattle.nv_core.specs.steps.Order.{Values, IsFailing, Work, CallEnabled}
use Rattle.nv_core.specs.state.Passes.{Control, Fault, IsOneOf, is_write, page_count, Pass, first_page, SetStopAfterRead, SetStopAfterPiece, SetStopAfterCommit, SeizeEntry, CommitGroup, PledgePage, ReadyEntry, TakePlace, IsAmong, IsFilling, LoadStop, TakePage, plain_call}
use Rattle.nv_core.specs.steps.Ops.{Op, Load, Take, Give, Place, Stop, Draw, Seize, Pledge, Ready, Grow, Break, Split, PutBack, Join, Turn, Hint, Hold, Return, ByCleaner}
use Rattle.nv_core.specs.steps.ControlSteps.{leaving}
use Rattle.nv_core.specs.steps.PassSteps.{begun}
use Rattle.nv_plain.specs.declared.call.FileCall.{FileCall}
use Rattle.nv_core.specs.invariant.ControlFacts.{FactsAt, HasDrawn, IsPage}
use Rattle.nv_core.specs.state.Core.{Core, changes, changed_pass, with_number, after_step, after_begin, after_work, worked}
use Rattle.nv_core.specs.steps.Events.{CallMayBegin}
use Rattle.nv_core.proofs.steps.ByKind.{FoundEnabledByKind}
use Rattle.nv_core.specs.invariant.LogWindow.{entry_word_at, Fills, InWindow}
use Rattle.nv_core.specs.log.Groups.{Group, Log, Groups, IsOwn, HasGroup, group_of, with_group, log_stepped, log_worked}
use Rattle.nv_core.specs.log.InFlight.{placed_stepped, IsFlying, InFlight}
use Rattle.nv_core.specs.log.Unready.{IsUnready, Unready}
use Rattle.nv_core.specs.log.Faults.{IsRecorded, Faults}
use Rattle.nv_core.specs.invariant.ForbiddenSteps.{IsInFlight}
use Rattle.nv_core.specs.invariant.Sound.{Sound}
use Rattle.nv_core.proofs.state.Changes.{by_number, number_else, word_here}
use Rattle.nv_core.proofs.state.Choices.{if_both, not_both, when_true, when_false}
use Rattle.nv_core.proofs.steps.WordLaws.{untouched, touches}
use Rattle.nv_core.specs.state.Cleaner.{CleanerOp, MoveTail}
use Rattle.nv_core.specs.invariant.CleanerNumbers.{IsFreed}
use Rattle.nv_core.proofs.log.KeepsUnready.{not_readied, none_readied}
use Rattle.nv_core.proofs.log.ReadiedLaws.{readied_before, begun_before, worked_before}
use Rattle.nv_core.proofs.steps.CleanerOps.{retires_hand}
use Rattle.nv_core.proofs.log.DrawLaws.{drawn_group, lost_head, won_draw}
use Rattle.nv_core.proofs.log.KeepsGroups.{log_group}
use Rattle.nv_core.proofs.log.KeepsInFlight.{flew, flew_all, flying_as, not_leaving, not_placed, no_reading, placing, worked_flew, not_made, made_number}
use Rattle.nv_core.proofs.invariant.ForbiddenStepLaws.{no_two_writes_of_a_page}

module _ (sizes : Sizes) (log next_log : Log) (placed next : ℕ → Bool) (core now : Core) where
  record_kept : core.words HEAD ≤ now.words HEAD → ((fault : Fault) → IsRecorded sizes log placed core fault → IsUnready sizes next_log now fault.first) → ((n : ℕ) → n < core.words HEAD → next_log.group n ≡ log.group n) → ((fault : Fault) → IsRecorded sizes log placed core fault → next fault.first ≡ false)
      → ((by : ℕ) → IsFlying (now.passes by) (now.passes by).control → (fault : Fault) → IsRecorded sizes log placed core fault → (now.passes by).first ≢ fault.first)
      → (fault : Fault) → IsRecorded sizes log placed core fault → IsRecorded sizes next_log next now fault
  record_kept head unreadies groups places others fault is = record {
    below = let b = is.below in omega (arith, b, head);
    group = groups fault.first is.below ∙ is.group;
    unplaced = places fault is;
    unready = unreadies fault is;
    other = λ by flies. others by flies fault is;
  }

-- a step that leaves HEAD, and after which no other pass flies
module _ (sizes : Sizes) (first : Values) (log : Log) (placed : ℕ → Bool) (by : ℕ) (core : Core) (op : Op) (found : ℕ) (sound : Sound sizes first core) (faults : Faults sizes log placed core) (may : FoundEnabledByKind sizes by core op found) where
  flown : (IsFlying (changed_pass sizes by core op found) (changed_pass sizes by core op found).control → IsFlying (core.passes (changes by core.made op)) (core.passes (changes by core.made op)).control × (group_of (changed_pass sizes by core op found) ≡ group_of (core.passes (changes by core.made op))))
      → (n : ℕ) → IsFlying ((after_step sizes by op found core).passes n) ((after_step sizes by op found core).passes n).control → (fault : Fault) → IsRecorded sizes log placed core fault → ((after_step sizes by op found core).passes n).first ≢ fault.first
  flown here n flies fault is e =
      let old = flew_all sizes by core op found here n flies in
      let g : group_of ((after_step sizes by op found core).passes n) ≡ group_of (core.passes n) = old.1 in
      is.other n old.0 (sym (ap (λ g. g.first) g) ∙ e)

  unready_on : (n : ℕ) → IsUnready sizes log core n → (after_step sizes by op found core).words TAIL ≤ n → n < (after_step sizes by op found core).words HEAD → op ≢ Ready n → IsUnready sizes log (after_step sizes by op found core) n
  unready_on n is low high ne = none_readied sizes log (after_step sizes by op found core) n (low, high) is.leads
      (λ was. elim (readied_before sizes first by core found sound op may n is.within was) [ inl old ↦ not_readied sizes log core n is old | inr e ↦ ne e ])

  kept : (next : ℕ → Bool) → ((fault : Fault) → IsRecorded sizes log placed core fault → ((after_step sizes by op found core).words TAIL ≤ fault.first) × (op ≢ Ready fault.first)) → touches op HEAD ≡ false → ((fault : Fault) → IsRecorded sizes log placed core fault → next fault.first ≡ false)
      → (IsFlying (changed_pass sizes by core op found) (changed_pass sizes by core op found).control → IsFlying (core.passes (changes by core.made op)) (core.passes (changes by core.made op)).control × (group_of (changed_pass sizes by core op found) ≡ group_of (core.passes (changes by core.made op))))
      → (fault : Fault) → IsRecorded sizes log placed core fault → IsRecorded sizes log next (after_step sizes by op found core) fault
  kept next stands head places here = record_kept sizes log log placed next core (after_step sizes by op found core) (let e = untouched sizes by core op found may HEAD head in omega (arith, e))
      (λ fault is. unready_on fault.first is.unready (stands fault is).0 (let b = is.below in let e = untouched sizes by core op found may HEAD head in omega (arith, b, e)) (stands fault is).1) (λ n less. refl) places (flown here)

  any : (next : ℕ → Bool) → ((fault : Fault) → IsRecorded sizes log placed core fault → ((after_step sizes by op found core).words TAIL ≤ fault.first) × (op ≢ Ready fault.first)) → touches op HEAD ≡ false → ((fault : Fault) → IsRecorded sizes log placed core fault → next fault.first ≡ false)
      → (IsFlying (changed_pass sizes by core op found) (changed_pass sizes by core op found).control → IsFlying (core.passes (changes by core.made op)) (core.passes (changes by core.made op)).control × (group_of (changed_pass sizes by core op found) ≡ group_of (core.passes (changes by core.made op))))
      → ((fault : Fault) → IsOneOf (changed_pass sizes by core op found).faulted fault → is_write fault.call ≡ true → IsOneOf (core.passes (changes by core.made op)).faulted fault ⊎ IsRecorded sizes log next (after_step sizes by op found core) fault)
      → Faults sizes log next (after_step sizes by op found core)
  any next stands head places here news = record {
    each = by_number (λ n (p : Pass). (fault : Fault) → IsOneOf p.faulted fault → is_write fault.call ≡ true → IsRecorded sizes log next (after_step sizes by op found core) fault) core.passes (changes by core.made op) (changed_pass sizes by core op found)
        (λ fault is w. elim (news fault is w) [ inl old ↦ kept next stands head places here fault (faults.each (changes by core.made op) fault old w) | inr new ↦ new ])
        (λ n ne fault is w. kept next stands head places here fault (faults.each n fault is w));
  }

  stays : touches op TAIL ≡ false → ((n : ℕ) → op ≢ Ready n) → (fault : Fault) → IsRecorded sizes log placed core fault → ((after_step sizes by op found core).words TAIL ≤ fault.first) × (op ≢ Ready fault.first)
  stays tail ne fault is = (let e = untouched sizes by core op found may TAIL tail in let l = is.unready.within.0 in omega (arith, e, l), ne fault.first)

  plain : ((fault : Fault) → IsRecorded sizes log placed core fault → ((after_step sizes by op found core).words TAIL ≤ fault.first) × (op ≢ Ready fault.first)) → touches op HEAD ≡ false
      → (IsFlying (changed_pass sizes by core op found) (changed_pass sizes by core op found).control → IsFlying (core.passes (changes by core.made op)) (core.passes (changes by core.made op)).control × (group_of (changed_pass sizes by core op found) ≡ group_of (core.passes (changes by core.made op))))
      → ((fault : Fault) → IsOneOf (changed_pass sizes by core op found).faulted fault → IsOneOf (core.passes (changes by core.made op)).faulted fault)
      → Faults sizes log placed (after_step sizes by op found core)
  plain stands head here olds = any placed stands head (λ fault is. is.unplaced) here (λ fault is w. inl (olds fault is))

-- ---- a write's fault

writes_fail : (sizes : Sizes) (pass : Pass) (control : Control) → FactsAt sizes pass control → IsFailing control → is_write pass.call ≡ true → control ≡ SetStopAfterCommit
writes_fail sizes pass (SetStopAfterRead page dirty) at fails write = absurd (no_reading pass.call write at.0)
writes_fail sizes pass (SetStopAfterPiece page number) at fails write = absurd (no_reading pass.call write at.0.0)
writes_fail sizes pass SetStopAfterCommit at fails write = refl
writes_fail sizes pass control at fails write = absurd fails

flying_is : (pass : Pass) (control : Control) → IsFlying pass control → IsInFlight control
flying_is pass (SeizeEntry number) is = tt
flying_is pass (CommitGroup calls) is = tt
flying_is pass (PledgePage page) is = tt
flying_is pass (ReadyEntry number) is = tt
flying_is pass TakePlace is = tt
flying_is pass control is = absurd is

-- a write that a fault is about to end: its first number is in the window, its own, and was never made ready
module _ (sizes : Sizes) (first : Values) (log : Log) (by : ℕ) (core : Core) (sound : Sound sizes first core) (groups : Groups sizes core log) (at : (core.passes by).control ≡ SetStopAfterCommit) where
  pub failing_drawn : HasDrawn sizes (core.passes by).call (core.passes by).entries
  failing_drawn = subst (FactsAt sizes (core.passes by)) at (sound.control_facts by).at

  failing_among : IsAmong (core.passes by).first (core.passes by).entries (core.passes by).first
  failing_among = let s = failing_drawn.some in (omega arith, omega (arith, s))

  failing_fill : Fills (core.passes by) (core.passes by).first
  failing_fill = subst (λ s. IsFilling s (core.passes by).first (core.passes by).entries (core.passes by).first) (sym at) failing_among

  failing_within : InWindow core (core.passes by).first
  failing_within = sound.window.filling_in by (core.passes by).first failing_fill

  pub failing_own : IsOwn core log (core.passes by) (core.passes by).first
  failing_own = groups.own by (subst HasGroup (sym at) tt) (core.passes by).first failing_among

  pub failing_unready : IsUnready sizes log core (core.passes by).first
  failing_unready =
      let f = sound.window.filling_is by (core.passes by).first failing_fill in
      record {
        within = failing_within;
        leads = ap (λ g. g.first) failing_own.group;
        unready = λ kind. let z : was_readied (entry_word_at sizes core (core.passes by).first) ≡ false = ap was_readied f in not_both kind z;
        unfreed = λ n freed. let z = sound.window.freed_is n (core.passes by).first freed in omega (arith, f, z);
      }

stopped_fault : (sizes : Sizes) (first : Values) (log : Log) (placed : ℕ → Bool) (by : ℕ) (core : Core) (found : ℕ) → Sound sizes first core → Groups sizes core log → InFlight sizes log placed core → Unready sizes log placed core → Faults sizes log placed core → FoundEnabledByKind sizes by core Stop found
    → (fault : Fault) → IsOneOf (changed_pass sizes by core Stop found).faulted fault → is_write fault.call ≡ true → IsOneOf (core.passes by).faulted fault ⊎ IsRecorded sizes log placed (after_step sizes by Stop found core) fault
stopped_fault sizes first log placed by core found sound groups flight unready faults may fault (inr old) w = inl old
stopped_fault sizes first log placed by core found sound groups flight unready faults may fault (inl e) w = inr (subst (IsRecorded sizes log placed (after_step sizes by Stop found core)) (sym e) record {
  below = within.1;
  group = own.group;
  unplaced = unready.unplaced (core.passes by).first was;
  unready = unready_on sizes first log placed by core Stop found sound faults may (core.passes by).first was (let l = within.0 in omega (arith, l)) (let h = within.1 in omega (arith, h)) (not_made Stop refl (core.passes by).first);
  other = by_number (λ n (p : Pass). IsFlying p p.control → p.first ≢ (core.passes by).first) core.passes by (changed_pass sizes by core Stop found)
      (λ is. absurd (still (flew sizes core.values (core.passes by) found Stop refl may.may (flying_as (core.passes by) (changed_pass sizes by core Stop found) (changed_pass sizes by core Stop found).control refl is))))
      (λ n ne is same. ne (
      let theirs = flight.own n is (core.passes n).first (let s = (flight.drawn n is).some in (omega arith, omega (arith, s))) in
      let g : group_of (core.passes n) ≡ group_of (core.passes by) = sym theirs.group ∙ ap log.group same ∙ own.group in
      let s = drawn.some in let m = drawn.many in
      let on : IsPage sizes (core.passes by).call (first_page sizes (core.passes by).call) = (omega arith, omega (arith, s, m)) in
      no_two_writes_of_a_page sizes first core n by (first_page sizes (core.passes by).call) sound (flying_is (core.passes n) (core.passes n).control is) (subst IsInFlight (sym at) tt)
      (subst (λ c. IsPage sizes c (first_page sizes (core.passes by).call)) (sym (ap (λ g. g.call) g)) on) on));
})
  where
    write : is_write (core.passes by).call ≡ true
    write = ap (λ f. is_write f.call) (sym e) ∙ w

    at : (core.passes by).control ≡ SetStopAfterCommit
    at = writes_fail sizes (core.passes by) (core.passes by).control (sound.control_facts by).at may.may write

    still : IsFlying (core.passes by) (core.passes by).control → ⊥
    still is = subst (IsFlying (core.passes by)) at is

    drawn : HasDrawn sizes (core.passes by).call (core.passes by).entries
    drawn = failing_drawn sizes first log by core sound groups at

    was : IsUnready sizes log core (core.passes by).first
    was = failing_unready sizes first log by core sound groups at

    within : InWindow core (core.passes by).first
    within = was.within

    own : IsOwn core log (core.passes by) (core.passes by).first
    own = failing_own sizes first log by core sound groups at

-- a leader that is made ready is not a fault's
not_its : (sizes : Sizes) (first : Values) (log : Log) (placed : ℕ → Bool) (by : ℕ) (core : Core) (found next : ℕ) → Sound sizes first core → Groups sizes core log → FoundEnabledByKind sizes by core (Ready next) found → (fault : Fault) → IsRecorded sizes log placed core fault → Ready next ≢ Ready fault.first
not_its sizes first log placed by core found next sound groups may fault is e =
    let at : HasDrawn sizes (core.passes by).call (core.passes by).entries × IsAmong (core.passes by).first (core.passes by).entries next = subst (FactsAt sizes (core.passes by)) may.may (sound.control_facts by).at in
    let own = groups.own by (subst HasGroup (sym may.may) tt) next at.1 in
    let same = made_number next fault.first e in
    is.other by (subst (IsFlying (core.passes by)) (sym may.may) tt) (sym (ap (λ g. g.first) own.group) ∙ ap (λ n. (log.group n).first) same ∙ is.unready.leads)

-- TAIL moves over freed numbers alone
tail_below : (sizes : Sizes) (first : Values) (log : Log) (placed : ℕ → Bool) (by : ℕ) (core : Core) (found : ℕ) (sound : Sound sizes first core) (cleaner_op : CleanerOp) → FoundEnabledByKind sizes by core (ByCleaner cleaner_op) found → (fault : Fault) → IsRecorded sizes log placed core fault → (after_step sizes by (ByCleaner cleaner_op) found core).words TAIL ≤ fault.first
tail_below sizes first log placed by core found sound (MoveTail tail) may fault is =
    let hand = retires_hand sizes first core sound by found tail may in
    let e : (after_step sizes by (ByCleaner (MoveTail tail)) found core).words TAIL ≡ tail = word_here core.words TAIL tail in
    elim (cases_lt fault.first tail) [
      | inr low ↦ omega (arith, e, low)
      | inl less ↦ absurd (is.unready.unfreed by (subst (λ s. IsFreed s fault.first) (sym hand.control) (let l = is.unready.within.0 in let w = hand.was in (omega (arith, l, w), let r = hand.is in omega (arith, less, r)))))
    ]
tail_below sizes first log placed by core found sound cleaner_op may fault is = let e = untouched sizes by core (ByCleaner cleaner_op) found may TAIL refl in let l = is.unready.within.0 in omega (arith, e, l)

-- ---- a place

placed_faults : (sizes : Sizes) (first : Values) (log : Log) (placed : ℕ → Bool) (by : ℕ) (core : Core) (found : ℕ) (reply : Reply) → Sound sizes first core → Faults sizes log placed core → FoundEnabledByKind sizes by core (Place reply) found
    → Faults sizes log (placed_stepped (core.passes by) (Place reply) found placed) (after_step sizes by (Place reply) found core)
placed_faults sizes first log placed by core found reply sound faults may = any sizes first log placed by core (Place reply) found sound faults may (placed_stepped (core.passes by) (Place reply) found placed) (stays sizes first log placed by core (Place reply) found sound faults may refl (not_made (Place reply) refl)) refl (λ fault is. go fault is (is_write (core.passes by).call) refl)
    (λ is. absurd (not_placed sizes (core.passes by) (changed_pass sizes by core (Place reply) found) is)) (λ fault is w. inl is)
  where
    go : (fault : Fault) → IsRecorded sizes log placed core fault → (b : Bool) → is_write (core.passes by).call ≡ b → placed_stepped (core.passes by) (Place reply) found placed fault.first ≡ false
    go fault is false e = ap (λ p. p fault.first) (when_false (is_write (core.passes by).call) (with_number placed (core.passes by).first true) placed e) ∙ is.unplaced
    go fault is true e =
        ap (λ p. p fault.first) (when_true (is_write (core.passes by).call) (with_number placed (core.passes by).first true) placed e)
        ∙ number_else placed (core.passes by).first true fault.first (λ same. is.other by (placing sizes core.values (core.passes by) reply (core.passes by).control (sound.control_facts by).at may.may e) (sym same))
        ∙ is.unplaced

-- ---- numbers are drawn

drawn_faults : (sizes : Sizes) (first : Values) (log : Log) (placed : ℕ → Bool) (by : ℕ) (core : Core) (found : ℕ) → Sound sizes first core → Faults sizes log placed core → FoundEnabledByKind sizes by core Draw found
    → Faults sizes (log_stepped sizes (core.passes by) Draw found log) (placed_stepped (core.passes by) Draw found placed) (after_step sizes by Draw found core)
drawn_faults sizes first log placed by core found sound faults may = go (found == (core.passes by).head) refl
  where
    group : Group
    group = drawn_group sizes (core.passes by) found

    now : Core
    now = after_step sizes by Draw found core

    all : (next_log : Log) (next : ℕ → Bool) → ((fault : Fault) → IsRecorded sizes log placed core fault → IsRecorded sizes next_log next now fault) → Faults sizes next_log next now
    all next_log next each = record {
      each = by_number (λ n (p : Pass). (fault : Fault) → IsOneOf p.faulted fault → is_write fault.call ≡ true → IsRecorded sizes next_log next now fault) core.passes by (changed_pass sizes by core Draw found)
          (λ fault is w. each fault (faults.each by fault is w)) (λ n ne fault is w. each fault (faults.each n fault is w));
    }

    go : (b : Bool) → (found == (core.passes by).head) ≡ b → Faults sizes (log_stepped sizes (core.passes by) Draw found log) (placed_stepped (core.passes by) Draw found placed) now
    go false e = subst (λ l. Faults sizes l (placed_stepped (core.passes by) Draw found placed) now) (sym (when_false (found == (core.passes by).head) (with_group group log) log e))
        (subst (λ p. Faults sizes log p now) (sym (when_false (found == (core.passes by).head) (with_number placed found false) placed e))
        (all log placed (record_kept sizes log log placed placed core now
        (let h = lost_head sizes by core found may e in omega (arith, h))
        (λ fault is. unready_on sizes first log placed by core Draw found sound faults may fault.first is.unready is.unready.within.0 (let h = lost_head sizes by core found may e in let b = is.below in omega (arith, h, b)) (not_made Draw refl fault.first))
        (λ n less. refl) (λ fault is. is.unplaced)
        (by_number (λ n (p : Pass). IsFlying p p.control → (fault : Fault) → IsRecorded sizes log placed core fault → p.first ≢ fault.first) core.passes by (changed_pass sizes by core Draw found)
        (λ flies. absurd (subst (λ s. IsFlying (changed_pass sizes by core Draw found) s → ⊥) (sym (when_false (found == (core.passes by).head) (SeizeEntry found) (leaving (core.passes by).owned) e)) (not_leaving (changed_pass sizes by core Draw found) (core.passes by).owned) flies))
        (λ n ne flies fault is. is.other n flies)))))
    go true e = subst (λ l. Faults sizes l (placed_stepped (core.passes by) Draw found placed) now) (sym (when_true (found == (core.passes by).head) (with_group group log) log e))
        (subst (λ p. Faults sizes (with_group group log) p now) (sym (when_true (found == (core.passes by).head) (with_number placed found false) placed e))
        (all (with_group group log) (with_number placed found false) (record_kept sizes log (with_group group log) placed (with_number placed found false) core now
        (omega (arith, head))
        (λ fault is. let on = unready_on sizes first log placed by core Draw found sound faults may fault.first is.unready is.unready.within.0 (let b = is.below in omega (arith, head, b)) (not_made Draw refl fault.first) in
        record { within = on.within; leads = ap (λ g. g.first) (old fault.first is.below) ∙ on.leads; unready = on.unready; unfreed = on.unfreed })
        old
        (λ fault is. number_else placed found false fault.first (λ same. let l = is.below in let f = may.is in omega (arith, same, l, f)) ∙ is.unplaced)
        (by_number (λ n (p : Pass). IsFlying p p.control → (fault : Fault) → IsRecorded sizes log placed core fault → p.first ≢ fault.first) core.passes by (changed_pass sizes by core Draw found)
        (λ flies fault is same. let l = is.below in let f = may.is in omega (arith, from, same, l, f))
        (λ n ne flies fault is. is.other n flies)))))
      where
        open won_draw sizes first log by core found sound may e use {head, old, from}

-- ---- all steps

pub faults_step : (sizes : Sizes) (first : Values) (log : Log) (placed : ℕ → Bool) (by : ℕ) (core : Core) (op : Op) (found : ℕ) → Sound sizes first core → Groups sizes core log → InFlight sizes log placed core → Unready sizes log placed core → Faults sizes log placed core → FoundEnabledByKind sizes by core op found
    → Faults sizes (log_stepped sizes (core.passes by) op found log) (placed_stepped (core.passes by) op found placed) (after_step sizes by op found core)
faults_step sizes first log placed by core Draw found sound groups flight unready faults may = drawn_faults sizes first log placed by core found sound faults may
faults_step sizes first log placed by core Stop found sound groups flight unready faults may = any sizes first log placed by core Stop found sound faults may placed (stays sizes first log placed by core Stop found sound faults may refl (not_made Stop refl)) refl (λ fault is. is.unplaced)
    (λ is. (flew sizes core.values (core.passes by) found Stop refl may.may (flying_as (core.passes by) (changed_pass sizes by core Stop found) (changed_pass sizes by core Stop found).control refl is), refl))
    (λ fault is w. stopped_fault sizes first log placed by core found sound groups flight unready faults may fault is w)
faults_step sizes first log placed by core (Place reply) found sound groups flight unready faults may = placed_faults sizes first log placed by core found reply sound faults may
faults_step sizes first log placed by core (Load word) found sound groups flight unready faults may = plain sizes first log placed by core (Load word) found sound faults may (stays sizes first log placed by core (Load word) found sound faults may refl (not_made (Load word) refl)) refl
    (λ is. (flew sizes core.values (core.passes by) found (Load word) refl may.may (flying_as (core.passes by) (changed_pass sizes by core (Load word) found) (changed_pass sizes by core (Load word) found).control refl is), refl)) (λ fault is. is)
faults_step sizes first log placed by core (Take cell) found sound groups flight unready faults may = plain sizes first log placed by core (Take cell) found sound faults may (stays sizes first log placed by core (Take cell) found sound faults may refl (not_made (Take cell) refl)) refl
    (λ is. (flew sizes core.values (core.passes by) found (Take cell) refl may.may (flying_as (core.passes by) (changed_pass sizes by core (Take cell) found) (changed_pass sizes by core (Take cell) found).control refl is), refl)) (λ fault is. is)
faults_step sizes first log placed by core (Give cell) found sound groups flight unready faults may = plain sizes first log placed by core (Give cell) found sound faults may (stays sizes first log placed by core (Give cell) found sound faults may refl (not_made (Give cell) refl)) refl
    (λ is. (flew sizes core.values (core.passes by) found (Give cell) refl may.may (flying_as (core.passes by) (changed_pass sizes by core (Give cell) found) (changed_pass sizes by core (Give cell) found).control refl is), refl)) (λ fault is. is)
faults_step sizes first log placed by core Grow found sound groups flight unready faults may = plain sizes first log placed by core Grow found sound faults may (stays sizes first log placed by core Grow found sound faults may refl (not_made Grow refl)) refl
    (λ is. (flew sizes core.values (core.passes by) found Grow refl may.may (flying_as (core.passes by) (changed_pass sizes by core Grow found) (changed_pass sizes by core Grow found).control refl is), refl)) (λ fault is. is)
faults_step sizes first log placed by core (Seize next) found sound groups flight unready faults may = plain sizes first log placed by core (Seize next) found sound faults may (stays sizes first log placed by core (Seize next) found sound faults may refl (not_made (Seize next) refl)) refl
    (λ is. (flew sizes core.values (core.passes by) found (Seize next) refl may.may (flying_as (core.passes by) (changed_pass sizes by core (Seize next) found) (changed_pass sizes by core (Seize next) found).control refl is), refl)) (λ fault is. is)
faults_step sizes first log placed by core (Pledge page) found sound groups flight unready faults may = plain sizes first log placed by core (Pledge page) found sound faults may (stays sizes first log placed by core (Pledge page) found sound faults may refl (not_made (Pledge page) refl)) refl
    (λ is. (flew sizes core.values (core.passes by) found (Pledge page) refl may.may (flying_as (core.passes by) (changed_pass sizes by core (Pledge page) found) (changed_pass sizes by core (Pledge page) found).control refl is), refl)) (λ fault is. is)
faults_step sizes first log placed by core (Ready next) found sound groups flight unready faults may = plain sizes first log placed by core (Ready next) found sound faults may (λ fault is. (is.unready.within.0, not_its sizes first log placed by core found next sound groups may fault is)) refl
    (λ is. (flew sizes core.values (core.passes by) found (Ready next) refl may.may (flying_as (core.passes by) (changed_pass sizes by core (Ready next) found) (changed_pass sizes by core (Ready next) found).control refl is), refl)) (λ fault is. is)
faults_step sizes first log placed by core (Turn page) found sound groups flight unready faults may = plain sizes first log placed by core (Turn page) found sound faults may (stays sizes first log placed by core (Turn page) found sound faults may refl (not_made (Turn page) refl)) refl
    (λ is. (flew sizes core.values (core.passes by) found (Turn page) refl may.may (flying_as (core.passes by) (changed_pass sizes by core (Turn page) found) (changed_pass sizes by core (Turn page) found).control refl is), refl)) (λ fault is. is)
faults_step sizes first log placed by core (Hint buffer page) found sound groups flight unready faults may = plain sizes first log placed by core (Hint buffer page) found sound faults may (stays sizes first log placed by core (Hint buffer page) found sound faults may refl (not_made (Hint buffer page) refl)) refl
    (λ is. (flew sizes core.values (core.passes by) found (Hint buffer page) refl may.may (flying_as (core.passes by) (changed_pass sizes by core (Hint buffer page) found) (changed_pass sizes by core (Hint buffer page) found).control refl is), refl)) (λ fault is. is)
faults_step sizes first log placed by core (Break next) found sound groups flight unready faults may = plain sizes first log placed by core (Break next) found sound faults may (stays sizes first log placed by core (Break next) found sound faults may refl (not_made (Break next) refl)) refl
    (λ is. (flew sizes core.values (core.passes by) found (Break next) refl may.may (flying_as (core.passes by) (changed_pass sizes by core (Break next) found) (changed_pass sizes by core (Break next) found).control refl is), refl)) (λ fault is. is)
faults_step sizes first log placed by core (Hold next) found sound groups flight unready faults may = plain sizes first log placed by core (Hold next) found sound faults may (stays sizes first log placed by core (Hold next) found sound faults may refl (not_made (Hold next) refl)) refl
    (λ is. (flew sizes core.values (core.passes by) found (Hold next) refl may.may (flying_as (core.passes by) (changed_pass sizes by core (Hold next) found) (changed_pass sizes by core (Hold next) found).control refl is), refl)) (λ fault is. is)
faults_step sizes first log placed by core (Return next) found sound groups flight unready faults may = plain sizes first log placed by core (Return next) found sound faults may (stays sizes first log placed by core (Return next) found sound faults may refl (not_made (Return next) refl)) refl
    (λ is. (flew sizes core.values (core.passes by) found (Return next) refl may.may (flying_as (core.passes by) (changed_pass sizes by core (Return next) found) (changed_pass sizes by core (Return next) found).control refl is), refl)) (λ fault is. is)
faults_step sizes first log placed by core (ByCleaner cleaner_op) found sound groups flight unready faults may = plain sizes first log placed by core (ByCleaner cleaner_op) found sound faults may (λ fault is. (tail_below sizes first log placed by core found sound cleaner_op may fault is, not_made (ByCleaner cleaner_op) refl fault.first)) refl
    (λ is. (flew sizes core.values (core.passes by) found (ByCleaner cleaner_op) refl may.may (flying_as (core.passes by) (changed_pass sizes by core (ByCleaner cleaner_op) found) (changed_pass sizes by core (ByCleaner cleaner_op) found).control refl is), refl)) (λ fault is. is)
faults_step sizes first log placed by core Split found sound groups flight unready faults may = plain sizes first log placed by core Split found sound faults may (stays sizes first log placed by core Split found sound faults may refl (not_made Split refl)) refl (λ is. absurd is) (λ fault is. absurd is)
faults_step sizes first log placed by core (PutBack cell) found sound groups flight unready faults may = plain sizes first log placed by core (PutBack cell) found sound faults may (stays sizes first log placed by core (PutBack cell) found sound faults may refl (not_made (PutBack cell) refl)) refl (λ is. (flying_as (core.passes by) (changed_pass sizes by core (PutBack cell) found) (core.passes by).control refl is, refl)) (λ fault is. is)
faults_step sizes first log placed by core (Join number) found sound groups flight unready faults may = plain sizes first log placed by core (Join number) found sound faults may (stays sizes first log placed by core (Join number) found sound faults may refl (not_made (Join number) refl)) refl (λ is. (flying_as (core.passes by) (changed_pass sizes by core (Join number) found) (core.passes by).control refl is, refl)) (λ fault is. is)

-- ---- a call that begins, and a device call

pub faults_begin : (sizes : Sizes) (log : Log) (placed : ℕ → Bool) (by : ℕ) (core : Core) (call : FileCall) → CallMayBegin sizes call (core.passes by) → Faults sizes log placed core → Faults sizes log placed (after_begin sizes by call core)
faults_begin sizes log placed by core call may faults = record {
  each = by_number (λ n (p : Pass). (fault : Fault) → IsOneOf p.faulted fault → is_write fault.call ≡ true → IsRecorded sizes log placed (after_begin sizes by call core) fault) core.passes by (begun sizes call (core.passes by))
      (λ fault is w. here fault (faults.each by fault is w)) (λ n ne fault is w. here fault (faults.each n fault is w));
}
  where
    none : IsFlying (begun sizes call (core.passes by)) (begun sizes call (core.passes by)).control → ⊥
    none = if_both (λ s. IsFlying (begun sizes call (core.passes by)) s → ⊥) (page_count sizes (plain_call call) == 0) LoadStop (TakePage (first_page sizes (plain_call call))) (λ _ z. z) (λ _ z. z)

    here : (fault : Fault) → IsRecorded sizes log placed core fault → IsRecorded sizes log placed (after_begin sizes by call core) fault
    here = record_kept sizes log log placed placed core (after_begin sizes by call core) (omega arith)
        (λ fault is. none_readied sizes log (after_begin sizes by call core) fault.first is.unready.within is.unready.leads (λ was. not_readied sizes log core fault.first is.unready (begun_before sizes by core call may fault.first was)))
        (λ n less. refl) (λ fault is. is.unplaced)
        (by_number (λ n (p : Pass). IsFlying p p.control → (fault : Fault) → IsRecorded sizes log placed core fault → p.first ≢ fault.first) core.passes by (begun sizes call (core.passes by)) (λ flies. absurd (none flies)) (λ n ne flies fault is. is.other n flies))

pub faults_work : (sizes : Sizes) (log : Log) (placed : ℕ → Bool) (by : ℕ) (core : Core) (work : Work) → Faults sizes log placed core → CallEnabled sizes core.values (core.passes by) work
    → Faults sizes (log_worked (core.passes by) work.ending (core.passes by).control log) placed (after_work sizes by work core)
faults_work sizes log placed by core work faults may = record {
  each = by_number (λ n (p : Pass). (fault : Fault) → IsOneOf p.faulted fault → is_write fault.call ≡ true → IsRecorded sizes next placed (after_work sizes by work core) fault) core.passes by (worked sizes work (core.passes by))
      (λ fault is w. here fault (faults.each by fault is w)) (λ n ne fault is w. here fault (faults.each n fault is w));
}
  where
    next : Log
    next = log_worked (core.passes by) work.ending (core.passes by).control log

    here : (fault : Fault) → IsRecorded sizes log placed core fault → IsRecorded sizes next placed (after_work sizes by work core) fault
    here = record_kept sizes log next placed placed core (after_work sizes by work core) (omega arith)
        (λ fault is. none_readied sizes next (after_work sizes by work core) fault.first is.unready.within (ap (λ g. (g fault.first).first) (log_group (core.passes by) work.ending (core.passes by).control log) ∙ is.unready.leads) (λ was. not_readied sizes log core fault.first is.unready (worked_before sizes by core work may fault.first was)))
        (λ n less. ap (λ g. g n) (log_group (core.passes by) work.ending (core.passes by).control log)) (λ fault is. is.unplaced)
        (by_number (λ n (p : Pass). IsFlying p p.control → (fault : Fault) → IsRecorded sizes log placed core fault → p.first ≢ fault.first) core.passes by (worked sizes work (core.passes by))
        (λ flies fault is. is.other by (worked_flew sizes core.values (core.passes by) (worked sizes work (core.passes by)) work (core.passes by).control work.ending may.due flies)) (λ n ne flies fault is. is.other n flies))

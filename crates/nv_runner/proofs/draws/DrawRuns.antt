-- Draw runs: at which event of a run a call of a pass drew its numbers.
use Rattle.std.proofs.Common.{◌≡◌, ◌⊎◌, ℕ, ◌+◌, ◌<◌, ◌≤◌, List, [], ◌∷◌, ◌++◌, inl, inr, refl, sym, ap, subst, ◌∙◌, arith, le_trans}
use Rattle.std.proofs.lemmas.Bool.{cases_eq, cases_lt}
use Rattle.nv_plain.specs.declared.call.FileCall.{FileCall}
use Rattle.nv_core.specs.state.Words.{Sizes, HEAD}
use Rattle.nv_core.specs.state.Passes.{Pass}
use Rattle.nv_core.specs.state.Core.{Core}
use Rattle.nv_core.specs.steps.Order.{Values}
use Rattle.nv_core.specs.steps.Events.{Event, IsRun, after_event, after_run}
use Rattle.nv_core.specs.invariant.Draws.{drawn_of, open_entries}
use Rattle.nv_core.specs.invariant.InvariantLaws.{EventsKeepSound}
use Rattle.nv_core.specs.invariant.Sound.{Sound}
use Rattle.nv_calls.specs.histories.Faults.{OpenWrite, open_in}
use Rattle.nv_runner.proofs.draws.DrawSteps.{PassStep, drawn_is, ended_calls, ended_entries, event_steps}

-- some open writes are those of before, or these with one more, whose first number is this one
abbrev pub AddsAt : (head : ℕ) → (before now : List OpenWrite) → Type 0
AddsAt head before now = (now ≡ before) ⊎ ((call : FileCall) × (now ≡ record { call = call; first = head } ∷ before))

module _ (keep : EventsKeepSound) (sizes : Sizes) (first : Values) (number : ℕ) where
  abbrev pass : Core → Pass
  pass core = core.passes number

  abbrev drawn : Core → ℕ
  drawn core = drawn_of sizes (pass core)

  abbrev ended : Core → ℕ
  ended core = ended_calls (pass core)

  abbrev settled : Core → ℕ
  settled core = ended_entries sizes (pass core)

  abbrev opens : Core → List OpenWrite
  opens core = open_in (pass core).faulted

  abbrev last : Core → List Event → Core
  last core more = after_run sizes core more

  -- a run may go on so
  pub record Goes (core : Core) (more : List Event) : Type 0 where
    pub sound : Sound sizes first core
    pub run : IsRun sizes core more

  next : (core : Core) (event : Event) (more : List Event) → Goes core (event ∷ more) → Goes (after_event sizes event core) more
  next core event more goes = record { sound = keep sizes first core event goes.sound goes.run.0; run = goes.run.1 }

  step : (core : Core) (event : Event) (more : List Event) → Goes core (event ∷ more) → PassStep sizes (pass core) (pass (after_event sizes event core)) (core.words HEAD) ((after_event sizes event core).words HEAD)
  step core event more goes = event_steps keep sizes first core event number goes.sound goes.run.0

  run_grows : (core : Core) (more : List Event) → Goes core more → (drawn core ≤ drawn (last core more)) × (ended core ≤ ended (last core more))
  run_grows core [] goes = (omega arith, omega arith)
  run_grows core (event ∷ more) goes =
      let one = step core event more goes in
      let rest = run_grows (after_event sizes event core) more (next core event more goes) in
      (le_trans one.grows rest.0, le_trans one.more rest.1)

  -- where no more calls are ended the same are
  run_same : (core : Core) (more : List Event) → Goes core more → ended (last core more) ≡ ended core → (settled (last core more) ≡ settled core) × (opens (last core more) ≡ opens core)
  run_same core [] goes is = (refl, refl)
  run_same core (event ∷ more) goes is =
      let then_ = after_event sizes event core in
      let one = step core event more goes in
      let grows = one.more in
      let most = (run_grows then_ more (next core event more goes)).1 in
      let here = one.same (omega (arith, is, grows, most)) in
      let rest = run_same then_ more (next core event more goes) (omega (arith, is, grows, most)) in
      (rest.0 ∙ here.0, rest.1 ∙ here.1)

  -- The call at hand has drawn, and is the last one that is ended: then no more is drawn.
  flying : (core : Core) (more : List Event) → Goes core more → 1 ≤ open_entries sizes (pass core).call (pass core).control → ended (last core more) ≡ ended core + 1 → drawn (last core more) ≡ settled (last core more)
      → (drawn (last core more) ≡ drawn core) × AddsAt (pass core).first (opens core) (opens (last core more))
  flying core [] goes some one whole = absurd (omega (arith, one))
  flying core (event ∷ more) goes some one whole = elim (cases_eq (ended then_) (ended core)) [
    | inl is ↦ (
        let kept = step_on.same is in
        let at_then = drawn_is sizes (pass then_) in
        let at_core = drawn_is sizes (pass core) in
        let entries = kept.0 in
        let no_more = undrawn in
        let rest = flying then_ more going (omega (arith, entries, at_then, at_core, no_more, some)) (omega (arith, one, is)) whole in
        let Adds : ℕ → List OpenWrite → Type 0 = λ head before. AddsAt head before (opens (last then_ more)) in (
          rest.0 ∙ no_more,
          subst (λ before. Adds (pass core).first before) kept.1 (subst (λ head. Adds head (opens then_)) (step_on.first some is) rest.1),
        )
        )
    | inr ne ↦ (
        let up = step_on.more in
        let most = (run_grows then_ more going).1 in
        let rest = run_same then_ more going (omega (arith, one, up, most, ne)) in
        let grown = (run_grows then_ more going).0 in
        let at_then = drawn_is sizes (pass then_) in
        let entries = rest.0 in
        let no_more = undrawn in
        (omega (arith, grown, at_then, entries, whole, no_more), subst (AddsAt (pass core).first (opens core)) (sym rest.1) (step_on.faults some))
        )
  ]
    where
      then_ : Core
      then_ = after_event sizes event core

      going : Goes then_ more
      going = next core event more goes

      step_on : PassStep sizes (pass core) (pass then_) (core.words HEAD) (then_.words HEAD)
      step_on = step core event more goes

      undrawn : drawn then_ ≡ drawn core
      undrawn = elim (cases_lt (drawn core) (drawn then_)) [
        | inl up ↦ absurd (let none = (step_on.draws up).0 in omega (arith, some, none))
        | inr least ↦ (let grows = step_on.grows in omega (arith, least, grows))
      ]

  -- One more call is ended, and it has drawn: the pass drew at one event, and all that it drew then.
  pub record DrawsAt (core : Core) (more : List Event) : Type 0 where
    pub before : List Event
    pub event : Event
    pub after : List Event
    pub are : more ≡ before ++ event ∷ after
    pub old : drawn (last core before) ≡ drawn core
    pub now : drawn (after_event sizes event (last core before)) ≡ drawn (last core more)
    pub head : (after_event sizes event (last core before)).words HEAD + drawn core ≡ (last core before).words HEAD + drawn (last core more)
    pub opened : AddsAt ((last core before).words HEAD) (opens core) (opens (last core more))

  -- it drew behind the first event
  later_draws : (core : Core) (event : Event) (more : List Event) → DrawsAt (after_event sizes event core) more → drawn (after_event sizes event core) ≡ drawn core → opens (after_event sizes event core) ≡ opens core
      → DrawsAt core (event ∷ more)
  later_draws core event more rest same kept =
      let head = rest.head in record {
        before = event ∷ rest.before;
        event = rest.event;
        after = rest.after;
        are = ap (λ l. event ∷ l) rest.are;
        old = rest.old ∙ same;
        now = rest.now;
        head = omega (arith, head, same);
        opened = subst (λ before. AddsAt ((last (after_event sizes event core) rest.before).words HEAD) before (opens (last (after_event sizes event core) more))) kept rest.opened;
      }

  pub draws_at : (core : Core) (more : List Event) → Goes core more → settled core ≡ drawn core → ended (last core more) ≡ ended core + 1 → drawn (last core more) ≡ settled (last core more) → drawn core < drawn (last core more)
      → DrawsAt core more
  draws_at core [] goes bare one whole up = absurd (omega (arith, up))
  draws_at core (event ∷ more) goes bare one whole up = elim (cases_lt (drawn core) (drawn then_)) [
    | inl rise ↦ (
        let here = step_on.draws rise in
        let ended_here = here.1 in
        let kept = step_on.same ended_here in
        let entries = kept.0 in
        let at_then = drawn_is sizes (pass then_) in
        let rest = flying then_ more going (omega (arith, bare, entries, at_then, rise)) (omega (arith, one, ended_here)) whole in
        let same = rest.0 in
        let head = here.3 in
        let Adds : ℕ → List OpenWrite → Type 0 = λ head before. AddsAt head before (opens (last then_ more)) in record {
          before = [];
          event = event;
          after = more;
          are = refl;
          old = refl;
          now = sym same;
          head = omega (arith, head, same);
          opened = subst (λ before. Adds (core.words HEAD) before) kept.1 (subst (λ head. Adds head (opens then_)) here.2 rest.1);
        }
        )
    | inr least ↦ (
        let grows = step_on.grows in
        let same : drawn then_ ≡ drawn core = omega (arith, least, grows) in
        let ended_up = step_on.more in
        let most = (run_grows then_ more going).1 in
        elim (cases_eq (ended then_) (ended core)) [
          | inl is ↦ (
              let kept = step_on.same is in
              later_draws core event more (draws_at then_ more going (kept.0 ∙ bare ∙ sym same) (omega (arith, one, is)) whole (omega (arith, up, same))) same kept.1
              )
          | inr ne ↦ absurd (
              let rest = run_same then_ more going (omega (arith, one, ended_up, most, ne)) in
              let entries = rest.0 in
              let at_then = drawn_is sizes (pass then_) in
              omega (arith, entries, whole, up, same, at_then)
              )
        ]
        )
  ]
    where
      then_ : Core
      then_ = after_event sizes event core

      going : Goes then_ more
      going = next core event more goes

      step_on : PassStep sizes (pass core) (pass then_) (core.words HEAD) (then_.words HEAD)
      step_on = step core event more goes

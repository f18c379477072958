-- Drawn groups: each group of the log's window is one that a write of the run drew.
use Rattle.std.proofs.Common.{◌≡◌, ◌⊎◌, ℕ, ◌<◌, ◌≤◌, ◌==◌, Bool, true, false, List, [], ◌∷◌, ◌++◌, inl, inr, refl, sym, ap, subst, ◌∙◌, arith, append-nil, append_assoc}
use Rattle.std.proofs.lemmas.Bool.{cases_lt, eqb-true}
use Rattle.nv_plain.specs.declared.call.FileCall.{FileCall}
use Rattle.nv_core.specs.state.Core.{Core, after_begin, after_step}
use Rattle.nv_core.specs.state.Passes.{Control, CommitGroup, DrawNumbers, LoadStop, Pass, TakePage, first_page, page_count, plain_call}
use Rattle.nv_core.specs.state.Values.{CallEnding}
use Rattle.nv_core.specs.state.Words.{Sizes, HEAD, TAIL}
use Rattle.nv_core.specs.steps.ControlSteps.{first_control}
use Rattle.nv_core.specs.steps.Events.{Act, BeginsCall, CallsDevice, Event, TakesStep, after_act, after_event}
use Rattle.nv_core.specs.steps.Opening.{IsMount, opening}
use Rattle.nv_core.specs.steps.Ops.{Op, ByCleaner, Draw}
use Rattle.nv_core.specs.steps.PassSteps.{begun}
use Rattle.nv_core.specs.invariant.InvariantLaws.{RunsAreSound}
use Rattle.nv_core.specs.invariant.Sound.{Sound}
use Rattle.nv_core.specs.log.Groups.{Group, Log, log_acted, log_after, log_stepped, log_worked, with_group}
use Rattle.nv_core.specs.log.LogContent.{log_after_run}
use Rattle.nv_core.proofs.invariant.Reach.{sound_begin}
use Rattle.nv_core.proofs.log.DrawLaws.{draw_below, drawn_group, lost_head, won_draw}
use Rattle.nv_core.proofs.log.KeepsInFlight.{tail_rises}
use Rattle.nv_core.proofs.state.Changes.{number_here}
use Rattle.nv_core.proofs.state.Choices.{if_both, when_true}
use Rattle.nv_core.proofs.steps.ByKind.{ActEnabledByKind, FoundEnabledByKind, act_kind}
use Rattle.nv_core.proofs.steps.RunLaws.{after_parts, run_parts}
use Rattle.nv_core.proofs.steps.WordLaws.{untouched}
use Rattle.nv_table.specs.state.Opened.{IsRunOf, Opened, mount_of, state_of}
use Rattle.nv_mount.specs.WholeWrites.{WasDrawn}

-- a device call changes no group
pub worked_group : (pass : Pass) (ending : CallEnding) (control : Control) (log : Log) (n : ℕ) → (log_worked pass ending control log).group n ≡ log.group n
worked_group pass ending (CommitGroup calls) log n = refl
worked_group pass ending control log n = refl

module _ (sound : RunsAreSound) (opened : Opened) (mount : IsMount (mount_of opened)) where
  abbrev sizes : Sizes
  sizes = opened.sizes

  abbrev start : Core
  start = opening (mount_of opened)

  abbrev IsSound : Core → Type 0
  IsSound core = Sound sizes (mount_of opened).values core

  -- ---- one act

  -- it drew this group
  record IsNew (by : ℕ) (core : Core) (act : Act) (group : Group) : Type 0 where
    pub found : ℕ
    pub act_is : act ≡ TakesStep Draw found
    pub loaded : (core.passes by).head ≡ found
    pub group_is : group ≡ drawn_group sizes (core.passes by) found

  draw_group : (by : ℕ) (core : Core) (log : Log) (found : ℕ) → IsSound core → FoundEnabledByKind sizes by core Draw found → (n : ℕ) → n < (after_step sizes by Draw found core).words HEAD
      → ((n < core.words HEAD) × ((log_stepped sizes (core.passes by) Draw found log).group n ≡ log.group n)) ⊎ IsNew by core (TakesStep Draw found) ((log_stepped sizes (core.passes by) Draw found log).group n)
  draw_group by core log found is_sound may n less = elim (cases_lt n (core.words HEAD)) [
    | inl old ↦ inl (old, draw_below sizes log by core found may n old)
    | inr low ↦ inr (won low (found == (core.passes by).head) refl)
  ]
    where
      won : core.words HEAD ≤ n → (b : Bool) → (found == (core.passes by).head) ≡ b → IsNew by core (TakesStep Draw found) ((log_stepped sizes (core.passes by) Draw found log).group n)
      won low false e = absurd (let same = lost_head sizes by core found may e in omega (arith, low, same, less))
      won low true e =
          let is = won_draw sizes (mount_of opened).values log by core found is_sound may e in
          let f = may.is in
          let h = is.head in
          record {
            found = found;
            act_is = refl;
            loaded = sym (eqb-true found (core.passes by).head e);
            group_is = ap (λ (l : Log). l.group n) (when_true (found == (core.passes by).head) (with_group (drawn_group sizes (core.passes by) found) log) log e)
                ∙ is.new n (omega (arith, low, f), omega (arith, less, h, f));
          }

  step_group : (by : ℕ) (core : Core) (log : Log) (op : Op) (found : ℕ) → IsSound core → FoundEnabledByKind sizes by core op found → (n : ℕ) → n < (after_step sizes by op found core).words HEAD
      → ((n < core.words HEAD) × ((log_stepped sizes (core.passes by) op found log).group n ≡ log.group n)) ⊎ IsNew by core (TakesStep op found) ((log_stepped sizes (core.passes by) op found log).group n)
  step_group by core log Draw found is_sound may n less = draw_group by core log found is_sound may n less
  step_group by core log op found is_sound may n less = inl (let same = untouched sizes by core op found may HEAD refl in omega (arith, less, same), refl)

  -- a call never begins by a draw
  begins_group : (by : ℕ) (core : Core) (log : Log) (call : FileCall) (op : Op) (found : ℕ) → FoundEnabledByKind sizes by (after_begin sizes by call core) op found → (n : ℕ) → n < (after_step sizes by op found (after_begin sizes by call core)).words HEAD
      → (n < core.words HEAD) × ((log_stepped sizes (begun sizes call (core.passes by)) op found log).group n ≡ log.group n)
  begins_group by core log call Draw found may n less = absurd (never (ap (λ (p : Pass). p.control) (sym (number_here core.passes by (begun sizes call (core.passes by)))) ∙ may.may))
    where
      never : first_control sizes (plain_call call) ≡ DrawNumbers → ⊥
      never = if_both (λ (c : Control). c ≡ DrawNumbers → ⊥) (page_count sizes (plain_call call) == 0) LoadStop (TakePage (first_page sizes (plain_call call))) (λ _ e. cc) (λ _ e. cc)
  begins_group by core log call op found may n less = (let same = untouched sizes by (after_begin sizes by call core) op found may HEAD refl in omega (arith, less, same), refl)

  act_group : (by : ℕ) (core : Core) (log : Log) (act : Act) → IsSound core → ActEnabledByKind sizes by core act → (n : ℕ) → n < (after_act sizes by act core).words HEAD
      → ((n < core.words HEAD) × ((log_acted sizes (core.passes by) act log).group n ≡ log.group n)) ⊎ IsNew by core act ((log_acted sizes (core.passes by) act log).group n)
  act_group by core log (BeginsCall call op found) is_sound may n less = inl (begins_group by core log call op found may.1 n less)
  act_group by core log (TakesStep op found) is_sound may n less = step_group by core log op found is_sound may n less
  act_group by core log (CallsDevice work) is_sound may n less = inl (less, worked_group (core.passes by) work.ending (core.passes by).control log n)

  -- ---- TAIL never falls

  step_tail : (by : ℕ) (core : Core) (op : Op) (found : ℕ) → IsSound core → FoundEnabledByKind sizes by core op found → core.words TAIL ≤ (after_step sizes by op found core).words TAIL
  step_tail by core (ByCleaner cleaner_op) found is_sound may = tail_rises sizes (mount_of opened).values by core cleaner_op found is_sound may
  step_tail by core op found is_sound may = let same = untouched sizes by core op found may TAIL refl in omega (arith, same)

  act_tail : (by : ℕ) (core : Core) (act : Act) → IsSound core → by ≤ core.made → ActEnabledByKind sizes by core act → core.words TAIL ≤ (after_act sizes by act core).words TAIL
  act_tail by core (BeginsCall call op found) is_sound made may = step_tail by (after_begin sizes by call core) op found (sound_begin sizes (mount_of opened).values by core call is_sound made may.0) may.1
  act_tail by core (TakesStep op found) is_sound made may = step_tail by core op found is_sound may
  act_tail by core (CallsDevice work) is_sound made may = omega arith

  -- ---- a run

  -- each group of the window was drawn in it
  abbrev AreDrawn : List Event → Log → Type 0
  AreDrawn run log = (n : ℕ) → (state_of opened run).words TAIL ≤ n → n < (state_of opened run).words HEAD → WasDrawn opened run (log.group n).call (log.group n).first

  one_more : (run : List Event) (event : Event) (call : FileCall) (number : ℕ) → WasDrawn opened run call number → WasDrawn opened (run ++ event ∷ []) call number
  one_more run event call number is = record {
    before = is.before;
    by = is.by;
    after = is.after ++ event ∷ [];
    lies = ap (λ r. r ++ event ∷ []) is.lies ∙ append_assoc is.before (record { by = is.by; act = TakesStep Draw number } ∷ is.after) (event ∷ []);
    call_is = is.call_is;
    loaded = is.loaded;
  }

  one_drawn : (run : List Event) (event : Event) (log : Log) → IsRunOf opened (run ++ event ∷ []) → AreDrawn run log → AreDrawn (run ++ event ∷ []) (log_after sizes event (state_of opened run) log)
  one_drawn run event log is_run drawn n low less =
      let core = state_of opened run in
      let parts = run_parts sizes start run (event ∷ []) is_run in
      let is_sound = sound (mount_of opened) run mount parts.0 in
      let come = parts.1.0 in
      let may = act_kind sizes event.by core event.act come.act in
      let next = after_parts sizes start run (event ∷ []) in
      let head : (state_of opened (run ++ event ∷ [])).words HEAD ≡ (after_event sizes event core).words HEAD = ap (λ (c : Core). c.words HEAD) next in
      let tail : (state_of opened (run ++ event ∷ [])).words TAIL ≡ (after_event sizes event core).words TAIL = ap (λ (c : Core). c.words TAIL) next in
      let rises = act_tail event.by core event.act is_sound come.made may in
      elim (act_group event.by core log event.act is_sound may n (omega (arith, less, head))) [
        | inl old ↦ subst (λ (g : Group). WasDrawn opened (run ++ event ∷ []) g.call g.first) (sym old.1) (one_more run event (log.group n).call (log.group n).first (drawn n (omega (arith, low, tail, rises)) old.0))
        | inr new ↦ subst (λ (g : Group). WasDrawn opened (run ++ event ∷ []) g.call g.first) (sym new.group_is) record {
          before = run;
          by = event.by;
          after = [];
          lies = ap (λ (a : Act). run ++ record { by = event.by; act = a } ∷ []) new.act_is;
          call_is = refl;
          loaded = new.loaded;
        }
      ]

  more_drawn : (done more : List Event) (log : Log) → IsRunOf opened (done ++ more) → AreDrawn done log → AreDrawn (done ++ more) (log_after_run sizes (state_of opened done) more log)
  more_drawn done [] log is_run drawn = subst (λ r. AreDrawn r log) (sym (append-nil done)) drawn
  more_drawn done (event ∷ later) log is_run drawn =
      let whole : (done ++ event ∷ []) ++ later ≡ done ++ event ∷ later = append_assoc done (event ∷ []) later in
      let split = subst (IsRunOf opened) (sym whole) is_run in
      let here = (run_parts sizes start (done ++ event ∷ []) later split).0 in
      let log_then = log_after sizes event (state_of opened done) log in
      subst (λ r. AreDrawn r (log_after_run sizes (after_event sizes event (state_of opened done)) later log_then)) whole
      (subst (λ (c : Core). AreDrawn ((done ++ event ∷ []) ++ later) (log_after_run sizes c later log_then)) (after_parts sizes start done (event ∷ []))
      (more_drawn (done ++ event ∷ []) later log_then split (one_drawn done event log here drawn)))

  pub run_drawn : (run : List Event) (log : Log) → IsRunOf opened run → AreDrawn run (log_after_run sizes start run log)
  run_drawn run log is_run = more_drawn [] run log is_run (λ n low less. absurd (omega (arith, low, less)))

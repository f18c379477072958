-- Placed calls: each call of the history got its place by an event of the run; and the numbers of placed writes are those that the log says.
use Rattle.std.proofs.Common.{◌≡◌, ◌⊎◌, ℕ, ◌<◌, ◌≤◌, ◌==◌, Bool, true, false, List, [], ◌∷◌, ◌++◌, inl, inr, refl, sym, ap, subst, ◌∙◌, arith, append-nil, append_assoc}
use Rattle.std.proofs.lemmas.Bool.{cases_Bool, cases_eq, true≢false}
use Rattle.nv_plain.specs.Files.{Files}
use Rattle.nv_plain.specs.Histories.{Answered}
use Rattle.nv_plain.specs.declared.call.FileCall.{FileCall}
use Rattle.nv_plain.specs.declared.call.Reply.{Reply}
use Rattle.nv_core.specs.content.StorePages.{HasFiles}
use Rattle.nv_core.specs.state.Core.{Core, after_begin, with_number}
use Rattle.nv_core.specs.state.Passes.{Control, DrawNumbers, LoadStop, Pass, TakePage, first_page, is_write, page_count, plain_call}
use Rattle.nv_core.specs.state.Words.{Sizes, HEAD}
use Rattle.nv_core.specs.steps.ControlSteps.{first_control}
use Rattle.nv_core.specs.steps.Events.{Act, BeginsCall, CallsDevice, Event, TakesStep, after_act, after_event, after_run}
use Rattle.nv_core.specs.steps.Opening.{IsMount, opening}
use Rattle.nv_core.specs.steps.Ops.{Op, Draw, Place}
use Rattle.nv_core.specs.steps.PassSteps.{begun, as_answered}
use Rattle.nv_core.specs.steps.StepKinds.{MayPlace}
use Rattle.nv_core.specs.invariant.InvariantLaws.{RunsAreSound}
use Rattle.nv_core.specs.invariant.Sound.{Sound}
use Rattle.nv_core.specs.log.Groups.{Group, Log, group_of, log_acted, log_after}
use Rattle.nv_core.specs.log.InFlight.{InFlight, IsFlying, placed_acted, placed_after}
use Rattle.nv_core.specs.log.LogContent.{OpensLog, RunsKeepTheLog, log_after_run, placed_after_run}
use Rattle.nv_core.proofs.log.DrawLaws.{draw_below, lost_head, won_draw}
use Rattle.nv_core.proofs.log.KeepsInFlight.{placing}
use Rattle.nv_core.proofs.state.Changes.{number_else, number_here}
use Rattle.nv_core.proofs.state.Choices.{if_both, when_false, when_true}
use Rattle.nv_core.proofs.steps.ByKind.{ActEnabledByKind, FoundEnabledByKind, act_kind}
use Rattle.nv_core.proofs.steps.RunLaws.{after_parts, run_parts}
use Rattle.nv_core.proofs.steps.WordLaws.{untouched}
use Rattle.nv_table.specs.state.Opened.{IsRunOf, Opened, mount_of, state_of}
use Rattle.nv_mount.specs.WholeWrites.{WasPlaced}
use Rattle.nv_mount.proofs.DrawnGroups.{worked_group}

-- ---- lists

abbrev behind_first : {X : Type 0} → List X → List X
behind_first [] = []
behind_first (x ∷ xs) = xs

abbrev first_of : {X : Type 0} → X → List X → X
first_of none [] = none
first_of none (x ∷ xs) = x

-- one more behind a list is the last of it, or the list has the one already
data IsSplit {X : Type 0} (xs : List X) (last : X) (earlier : List X) (one : X) : Type 0 where
  Last : earlier ≡ xs → last ≡ one → IsSplit xs last earlier one
  Within : (rest : List X) → xs ≡ earlier ++ one ∷ rest → IsSplit xs last earlier one

split : {X : Type 0} (xs : List X) (last : X) (earlier later : List X) (one : X) → xs ++ last ∷ [] ≡ earlier ++ one ∷ later → IsSplit xs last earlier one
split [] last [] later one e = Last refl (ap (first_of last) e)
split [] last (x ∷ []) later one e = absurd (none (ap behind_first e))
  where
    none : [] ≡ one ∷ later → ⊥
    none e = cc
split [] last (x ∷ y ∷ earlier) later one e = absurd (none (ap behind_first e))
  where
    none : [] ≡ y ∷ (earlier ++ one ∷ later) → ⊥
    none e = cc
split (x ∷ xs) last [] later one e = Within xs (ap (λ y. y ∷ xs) (ap (first_of x) e))
split (x ∷ xs) last (y ∷ earlier) later one e = go (split xs last earlier later one (ap behind_first e))
  where
    head : x ≡ y
    head = ap (first_of x) e

    go : IsSplit xs last earlier one → IsSplit (x ∷ xs) last (y ∷ earlier) one
    go (Last all is) = Last (ap (λ l. y ∷ l) all ∙ ap (λ z. z ∷ xs) (sym head)) is
    go (Within rest is) = Within rest (ap (λ l. x ∷ l) is ∙ ap (λ z. z ∷ (earlier ++ one ∷ rest)) head)

-- ---- what a run tells of them

-- A write has its place, by this number: the log has it there as it was drawn.
pub record IsNoted (opened : Opened) (run : List Event) (log : Log) (placed : ℕ → Bool) (call : FileCall) (number : ℕ) : Type 0 where
  pub flag : placed number ≡ true
  pub below : number < (state_of opened run).words HEAD
  pub call_is : (log.group number).call ≡ call
  pub leads : (log.group number).first ≡ number

-- a call of the history, behind these
pub record HasItsPlace (opened : Opened) (run : List Event) (log : Log) (placed : ℕ → Bool) (earlier : List Answered) (answered : Answered) : Type 0 where
  pub number : ℕ
  pub was : WasPlaced opened run earlier answered number
  pub noted : is_write (plain_call answered.call) ≡ true → IsNoted opened run log placed (plain_call answered.call) number

-- a number of a write that has its place
pub record IsOfPlaced (opened : Opened) (run : List Event) (log : Log) (number : ℕ) : Type 0 where
  pub earlier : List Answered
  pub answered : Answered
  pub was : WasPlaced opened run earlier answered number
  pub call_is : plain_call answered.call ≡ (log.group number).call
  pub below : number < (state_of opened run).words HEAD

pub record AreNumbered (opened : Opened) (run : List Event) (log : Log) (placed : ℕ → Bool) : Type 0 where
  pub history : (earlier later : List Answered) (answered : Answered) → (state_of opened run).history ≡ earlier ++ answered ∷ later → HasItsPlace opened run log placed earlier answered
  pub numbers : (number : ℕ) → placed number ≡ true → IsOfPlaced opened run log number

-- ---- one act

-- it places no call, and no write that has its place is unplaced by it
record IsQuiet (sizes : Sizes) (by : ℕ) (core : Core) (act : Act) (log : Log) (placed : ℕ → Bool) : Type 0 where
  pub history : (after_act sizes by act core).history ≡ core.history
  pub head : core.words HEAD ≤ (after_act sizes by act core).words HEAD
  pub groups : (n : ℕ) → n < core.words HEAD → (log_acted sizes (core.passes by) act log).group n ≡ log.group n
  pub stay : (n : ℕ) → n < core.words HEAD → placed_acted sizes (core.passes by) act placed n ≡ placed n
  pub were : (n : ℕ) → placed_acted sizes (core.passes by) act placed n ≡ true → placed n ≡ true

-- it places the call at hand
record IsPlacing (sizes : Sizes) (by : ℕ) (core : Core) (act : Act) (log : Log) (placed : ℕ → Bool) : Type 0 where
  pub reply : Reply
  pub found : ℕ
  pub act_is : act ≡ TakesStep (Place reply) found
  pub history : (after_act sizes by act core).history ≡ core.history ++ as_answered by (core.passes by) reply ∷ []
  pub head : (after_act sizes by act core).words HEAD ≡ core.words HEAD
  pub groups : (n : ℕ) → (log_acted sizes (core.passes by) act log).group n ≡ log.group n
  pub stay : (n : ℕ) → placed n ≡ true → placed_acted sizes (core.passes by) act placed n ≡ true
  pub new : is_write (core.passes by).call ≡ true
      → (placed_acted sizes (core.passes by) act placed (core.passes by).first ≡ true) × ((core.passes by).first < core.words HEAD) × (log.group (core.passes by).first ≡ group_of (core.passes by))
  pub were : (n : ℕ) → placed_acted sizes (core.passes by) act placed n ≡ true → (placed n ≡ true) ⊎ ((is_write (core.passes by).call ≡ true) × (n ≡ (core.passes by).first))

with_true : (placed : ℕ → Bool) (k n : ℕ) → placed n ≡ true → with_number placed k true n ≡ true
with_true placed k n is = if_both (λ b. b ≡ true) (n == k) true (placed n) (λ _. refl) (λ _. is)

module _ (sound : RunsAreSound) (opened : Opened) (mount : IsMount (mount_of opened)) where
  abbrev sizes : Sizes
  sizes = opened.sizes

  abbrev start : Core
  start = opening (mount_of opened)

  abbrev IsSound : Core → Type 0
  IsSound core = Sound sizes (mount_of opened).values core

  place_act : (by : ℕ) (core : Core) (log : Log) (placed : ℕ → Bool) (reply : Reply) (found : ℕ) → IsSound core → InFlight sizes log placed core → FoundEnabledByKind sizes by core (Place reply) found
      → IsPlacing sizes by core (TakesStep (Place reply) found) log placed
  place_act by core log placed reply found is_sound flight may = record {
    reply = reply;
    found = found;
    act_is = refl;
    history = refl;
    head = untouched sizes by core (Place reply) found may HEAD refl;
    groups = λ n. refl;
    stay = λ n is. if_both (λ (p : ℕ → Bool). p n ≡ true) (is_write (core.passes by).call) (with_number placed (core.passes by).first true) placed (λ _. with_true placed (core.passes by).first n is) (λ _. is);
    new = λ write.
        let flies : IsFlying (core.passes by) (core.passes by).control = placing sizes core.values (core.passes by) reply (core.passes by).control (is_sound.control_facts by).at may.may write in
        let some = (flight.drawn by flies).some in
        let own = flight.own by flies (core.passes by).first (omega arith, omega (arith, some)) in
        (ap (λ (p : ℕ → Bool). p (core.passes by).first) (when_true (is_write (core.passes by).call) (with_number placed (core.passes by).first true) placed write) ∙ number_here placed (core.passes by).first true, own.below, own.group);
    were = λ n is. elim (cases_Bool (is_write (core.passes by).call)) [
      | inr none ↦ inl (sym (ap (λ (p : ℕ → Bool). p n) (when_false (is_write (core.passes by).call) (with_number placed (core.passes by).first true) placed none)) ∙ is)
      | inl write ↦ elim (cases_eq n (core.passes by).first) [
        | inl same ↦ inr (write, same)
        | inr ne ↦ inl (sym (number_else placed (core.passes by).first true n ne)
            ∙ sym (ap (λ (p : ℕ → Bool). p n) (when_true (is_write (core.passes by).call) (with_number placed (core.passes by).first true) placed write)) ∙ is)
      ]
    ];
  }

  draw_act : (by : ℕ) (core : Core) (log : Log) (placed : ℕ → Bool) (found : ℕ) → IsSound core → FoundEnabledByKind sizes by core Draw found → IsQuiet sizes by core (TakesStep Draw found) log placed
  draw_act by core log placed found is_sound may = record {
    history = append-nil core.history;
    head = elim (cases_Bool (found == (core.passes by).head)) [
      | inl won ↦ (let h = (won_draw sizes (mount_of opened).values log by core found is_sound may won).head in omega (arith, h))
      | inr lost ↦ (let h = lost_head sizes by core found may lost in omega (arith, h))
    ];
    groups = λ n less. draw_below sizes log by core found may n less;
    stay = λ n less. if_both (λ (p : ℕ → Bool). p n ≡ placed n) (found == (core.passes by).head) (with_number placed found false) placed
        (λ _. number_else placed found false n (λ same. let f = may.is in omega (arith, same, f, less))) (λ _. refl);
    were = λ n. if_both (λ (p : ℕ → Bool). p n ≡ true → placed n ≡ true) (found == (core.passes by).head) (with_number placed found false) placed
        (λ _ is. elim (cases_eq n found) [
          | inl same ↦ absurd (true≢false (sym is ∙ ap (with_number placed found false) same ∙ number_here placed found false))
          | inr ne ↦ sym (number_else placed found false n ne) ∙ is
        ]) (λ _ is. is);
  }

  step_act : (by : ℕ) (core : Core) (log : Log) (placed : ℕ → Bool) (op : Op) (found : ℕ) → IsSound core → InFlight sizes log placed core → FoundEnabledByKind sizes by core op found
      → IsQuiet sizes by core (TakesStep op found) log placed ⊎ IsPlacing sizes by core (TakesStep op found) log placed
  step_act by core log placed Draw found is_sound flight may = inl (draw_act by core log placed found is_sound may)
  step_act by core log placed (Place reply) found is_sound flight may = inr (place_act by core log placed reply found is_sound flight may)
  step_act by core log placed op found is_sound flight may = inl record {
    history = append-nil core.history;
    head = (let same = untouched sizes by core op found may HEAD refl in omega (arith, same));
    groups = λ n less. refl;
    stay = λ n less. refl;
    were = λ n is. is;
  }

  -- a call never begins by its place, or by a draw
  begin_act : (by : ℕ) (core : Core) (log : Log) (placed : ℕ → Bool) (call : FileCall) (op : Op) (found : ℕ) → FoundEnabledByKind sizes by (after_begin sizes by call core) op found
      → IsQuiet sizes by core (BeginsCall call op found) log placed
  begin_act by core log placed call Draw found may = absurd (never (ap (λ (p : Pass). p.control) (sym (number_here core.passes by (begun sizes call (core.passes by)))) ∙ may.may))
    where
      never : first_control sizes (plain_call call) ≡ DrawNumbers → ⊥
      never = if_both (λ (c : Control). c ≡ DrawNumbers → ⊥) (page_count sizes (plain_call call) == 0) LoadStop (TakePage (first_page sizes (plain_call call))) (λ _ e. cc) (λ _ e. cc)
  begin_act by core log placed call (Place reply) found may = absurd (never ((after_begin sizes by call core).passes by) (ap (λ (p : Pass). p.control) (number_here core.passes by (begun sizes call (core.passes by)))) may.may)
    where
      never : (pass : Pass) → pass.control ≡ first_control sizes (plain_call call) → MayPlace sizes core.values pass reply pass.control → ⊥
      never pass e may = if_both (λ (c : Control). MayPlace sizes core.values pass reply c → ⊥) (page_count sizes (plain_call call) == 0) LoadStop (TakePage (first_page sizes (plain_call call))) (λ _ m. m) (λ _ m. m)
          (subst (MayPlace sizes core.values pass reply) e may)
  begin_act by core log placed call op found may = record {
    history = append-nil core.history;
    head = (let same = untouched sizes by (after_begin sizes by call core) op found may HEAD refl in omega (arith, same));
    groups = λ n less. refl;
    stay = λ n less. refl;
    were = λ n is. is;
  }

  one_act : (by : ℕ) (core : Core) (log : Log) (placed : ℕ → Bool) (act : Act) → IsSound core → InFlight sizes log placed core → ActEnabledByKind sizes by core act
      → IsQuiet sizes by core act log placed ⊎ IsPlacing sizes by core act log placed
  one_act by core log placed (BeginsCall call op found) is_sound flight may = inl (begin_act by core log placed call op found may.1)
  one_act by core log placed (TakesStep op found) is_sound flight may = step_act by core log placed op found is_sound flight may
  one_act by core log placed (CallsDevice work) is_sound flight may = inl record {
    history = refl;
    head = omega arith;
    groups = λ n less. worked_group (core.passes by) work.ending (core.passes by).control log n;
    stay = λ n less. refl;
    were = λ n is. is;
  }

  -- ---- one event more

  module _ (run : List Event) (event : Event) (log : Log) (placed : ℕ → Bool) where
    abbrev core : Core
    core = state_of opened run

    abbrev longer : List Event
    longer = run ++ event ∷ []

    abbrev log_then : Log
    log_then = log_after sizes event core log

    abbrev placed_then : ℕ → Bool
    placed_then = placed_after sizes event core placed

    next : state_of opened longer ≡ after_event sizes event core
    next = after_parts sizes start run (event ∷ [])

    still : (earlier : List Answered) (answered : Answered) (number : ℕ) → WasPlaced opened run earlier answered number → WasPlaced opened longer earlier answered number
    still earlier answered number was = record {
      before = was.before;
      reply = was.reply;
      found = was.found;
      after = was.after ++ event ∷ [];
      lies = ap (λ r. r ++ event ∷ []) was.lies ∙ append_assoc was.before (record { by = answered.caller; act = TakesStep (Place was.reply) was.found } ∷ was.after) (event ∷ []);
      replied = was.replied;
      behind = was.behind;
      asked_is = was.asked_is;
      call_is = was.call_is;
      drew = was.drew;
    }

    still_noted : (call : FileCall) (number : ℕ) → core.words HEAD ≤ (after_event sizes event core).words HEAD → log_then.group number ≡ log.group number → placed_then number ≡ true
        → IsNoted opened run log placed call number → IsNoted opened longer log_then placed_then call number
    still_noted call number rises same flag noted = record {
      flag = flag;
      below = (let head = ap (λ (c : Core). c.words HEAD) next in let less = noted.below in omega (arith, head, less, rises));
      call_is = ap (λ (g : Group). g.call) same ∙ noted.call_is;
      leads = ap (λ (g : Group). g.first) same ∙ noted.leads;
    }

    still_of : (number : ℕ) → core.words HEAD ≤ (after_event sizes event core).words HEAD → log_then.group number ≡ log.group number → IsOfPlaced opened run log number → IsOfPlaced opened longer log_then number
    still_of number rises same old = record {
      earlier = old.earlier;
      answered = old.answered;
      was = still old.earlier old.answered number old.was;
      call_is = old.call_is ∙ sym (ap (λ (g : Group). g.call) same);
      below = (let head = ap (λ (c : Core). c.words HEAD) next in let less = old.below in omega (arith, head, less, rises));
    }

    quiet_more : AreNumbered opened run log placed → IsQuiet sizes event.by core event.act log placed → AreNumbered opened longer log_then placed_then
    quiet_more are quiet = record {
      history = λ earlier later answered is.
          let old = are.history earlier later answered (sym quiet.history ∙ sym (ap (λ (c : Core). c.history) next) ∙ is) in record {
            number = old.number;
            was = still earlier answered old.number old.was;
            noted = λ write. let noted = old.noted write in
                still_noted (plain_call answered.call) old.number quiet.head (quiet.groups old.number noted.below) (quiet.stay old.number noted.below ∙ noted.flag) noted;
          };
      numbers = λ n is. let old = are.numbers n (quiet.were n is) in still_of n quiet.head (quiet.groups n old.below) old;
    }

    module _ (are : AreNumbered opened run log placed) (placing : IsPlacing sizes event.by core event.act log placed)
        (made : (core.passes event.by).call ≡ plain_call (core.passes event.by).asked) where
      abbrev this : Answered
      this = as_answered event.by (core.passes event.by) placing.reply

      abbrev drawn : ℕ
      drawn = (core.passes event.by).first

      rises : core.words HEAD ≤ (after_event sizes event core).words HEAD
      rises = let same = placing.head in omega (arith, same)

      here : WasPlaced opened longer core.history this drawn
      here = record {
        before = run;
        reply = placing.reply;
        found = placing.found;
        after = [];
        lies = ap (λ (a : Act). run ++ record { by = event.by; act = a } ∷ []) placing.act_is;
        replied = refl;
        behind = refl;
        asked_is = refl;
        call_is = made;
        drew = refl;
      }

      noted_here : is_write (plain_call this.call) ≡ true → IsNoted opened longer log_then placed_then (plain_call this.call) drawn
      noted_here write = let new = placing.new (ap is_write made ∙ write) in record {
        flag = new.0;
        below = (let head = ap (λ (c : Core). c.words HEAD) next in let less = new.1 in let same = placing.head in omega (arith, head, less, same));
        call_is = ap (λ (g : Group). g.call) (placing.groups drawn ∙ new.2) ∙ made;
        leads = ap (λ (g : Group). g.first) (placing.groups drawn ∙ new.2);
      }

      placed_more : AreNumbered opened longer log_then placed_then
      placed_more = record {
        history = λ earlier later answered is. go earlier answered (split core.history this earlier later answered (sym placing.history ∙ sym (ap (λ (c : Core). c.history) next) ∙ is));
        numbers = λ n is. elim (placing.were n is) [
          | inl old ↦ still_of n rises (placing.groups n) (are.numbers n old)
          | inr new ↦ subst (IsOfPlaced opened longer log_then) (sym new.1) (of_here new.0)
        ];
      }
        where
          go : (earlier : List Answered) (answered : Answered) → IsSplit core.history this earlier answered → HasItsPlace opened longer log_then placed_then earlier answered
          go earlier answered (Last all same) =
              subst (λ e. HasItsPlace opened longer log_then placed_then e answered) (sym all)
              (subst (HasItsPlace opened longer log_then placed_then core.history) same (record { number = drawn; was = here; noted = noted_here }))
          go earlier answered (Within rest is) = let old = are.history earlier rest answered is in record {
            number = old.number;
            was = still earlier answered old.number old.was;
            noted = λ write. let noted = old.noted write in still_noted (plain_call answered.call) old.number rises (placing.groups old.number) (placing.stay old.number noted.flag) noted;
          }

          of_here : is_write (core.passes event.by).call ≡ true → IsOfPlaced opened longer log_then drawn
          of_here write = let noted = noted_here (ap is_write (sym made) ∙ write) in record { earlier = core.history; answered = this; was = here; call_is = sym noted.call_is; below = noted.below }

    one_more : AreNumbered opened run log placed → IsRunOf opened longer → InFlight sizes log placed core → AreNumbered opened longer log_then placed_then
    one_more are is_run flight =
        let parts = run_parts sizes start run (event ∷ []) is_run in
        let is_sound = sound (mount_of opened) run mount parts.0 in
        elim (one_act event.by core log placed event.act is_sound flight (act_kind sizes event.by core event.act parts.1.0.act)) [
          | inl quiet ↦ quiet_more are quiet
          | inr placing ↦ placed_more are placing (is_sound.made.each event.by)
        ]

  -- ---- a run

  module _ (keeps : RunsKeepTheLog) (files : Files) (opens_log : OpensLog (mount_of opened) opened.next) (has_files : HasFiles sizes (mount_of opened).values files) (first : Log) where
    abbrev none_placed : ℕ → Bool
    none_placed = λ _. false

    abbrev log_at : List Event → Log
    log_at run = log_after_run sizes start run first

    abbrev placed_at : List Event → (ℕ → Bool)
    placed_at run = placed_after_run sizes start run none_placed

    log_on : (state : Core) (one other : List Event) (log : Log) → log_after_run sizes state (one ++ other) log ≡ log_after_run sizes (after_run sizes state one) other (log_after_run sizes state one log)
    log_on state [] other log = refl
    log_on state (event ∷ one) other log = log_on (after_event sizes event state) one other (log_after sizes event state log)

    placed_on : (state : Core) (one other : List Event) (placed : ℕ → Bool) → placed_after_run sizes state (one ++ other) placed ≡ placed_after_run sizes (after_run sizes state one) other (placed_after_run sizes state one placed)
    placed_on state [] other placed = refl
    placed_on state (event ∷ one) other placed = placed_on (after_event sizes event state) one other (placed_after sizes event state placed)

    more : (done later : List Event) → IsRunOf opened (done ++ later) → AreNumbered opened done (log_at done) (placed_at done) → AreNumbered opened (done ++ later) (log_at (done ++ later)) (placed_at (done ++ later))
    more done [] is_run are = subst (λ r. AreNumbered opened r (log_at r) (placed_at r)) (sym (append-nil done)) are
    more done (event ∷ later) is_run are =
        let whole : (done ++ event ∷ []) ++ later ≡ done ++ event ∷ later = append_assoc done (event ∷ []) later in
        let split = subst (IsRunOf opened) (sym whole) is_run in
        let here = (run_parts sizes start (done ++ event ∷ []) later split).0 in
        let before = (run_parts sizes start done (event ∷ []) here).0 in
        let content = keeps (mount_of opened) files opened.next first none_placed done mount opens_log has_files before in
        subst (λ r. AreNumbered opened r (log_at r) (placed_at r)) whole
        (more (done ++ event ∷ []) later split
        (subst (λ (l : Log). AreNumbered opened (done ++ event ∷ []) l (placed_at (done ++ event ∷ []))) (sym (log_on start done (event ∷ []) first))
        (subst (λ (p : ℕ → Bool). AreNumbered opened (done ++ event ∷ []) (log_after sizes event (state_of opened done) (log_at done)) p) (sym (placed_on start done (event ∷ []) none_placed))
        (one_more done event (log_at done) (placed_at done) are here content.flight))))

    pub calls_are_numbered : (run : List Event) → IsRunOf opened run → AreNumbered opened run (log_at run) (placed_at run)
    calls_are_numbered run is_run = more [] run is_run record { history = λ earlier later answered is. absurd (none earlier later answered is); numbers = λ n is. absurd (true≢false (sym is)) }
      where
        none : (earlier later : List Answered) (answered : Answered) → [] ≡ earlier ++ answered ∷ later → ⊥
        none [] later answered is = cc
        none (x ∷ earlier) later answered is = cc

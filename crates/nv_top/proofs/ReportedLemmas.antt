-- What a command comes to, from what its parts say.
use Rattle.std.proofs.Common.{◌≡◌, ◌≢◌, ◌⊎◌, ℕ, ◌≤◌, List, [], ◌++◌, Option, Some, None, Result, Ok, Err, inl, inr, refl, sym, ap, subst, ◌∙◌, arith}
use Rattle.std.specs.Prelude.{IfErr, IfOk, IfSome, OnOk, Bool, false, true, max}
use Rattle.std.proofs.lemmas.List.{append-nil}
use Rattle.std.specs.Result.{IsErrAnd}
use Rattle.std.specs.Global.{Vec}
use Rattle.std.specs.Prelude.{option_map}
use Rattle.nv_plain.specs.Faults.{Rose}
use Rattle.nv_pmem.specs.declared.geometry.Geometry.{Geometry}
use Rattle.nv_store.specs.Steps.{StoreHistory}
use Rattle.nv_bench.specs.Benches.{BenchState, with_faults}
use Rattle.nv_bench.specs.Holding.{Holding}
use Rattle.nv_recover.specs.Standing.{files_of}
use Rattle.nv_open.specs.Begun.{IsNotOpened, IsRegionOpened}
use Rattle.nv_open.specs.Causes.{ErrorHasCause}
use Rattle.nv_open.specs.Held.{told_after}
use Rattle.nv_open.specs.Lending.{all_lent}
use Rattle.nv_open.specs.Looking.{names_until, told_by}
use Rattle.nv_bench.specs.Opening.{is_blank}
use Rattle.nv_open.specs.Unopened.{IsGood, RestsUnopened, StandForFiles, StandsUnopened, StaysUntouched, TellsOf, as_opened}
use Rattle.nv_open.specs.declared.error.OpenError.{OpenError}
use Rattle.nv_open.specs.declared.error.OpenError.TheVariants as open_errors
use Rattle.nv_open.specs.declared.error.Refusal.{Refusal}
use Rattle.nv_open.specs.declared.error.Refusal.TheVariants as refusals
use Rattle.nv_runner.specs.Faithful.{Basis}
use Rattle.nv_runner.specs.Histories.{PlacedCall}
use Rattle.nv_runner.specs.Reports.{history_lines}
use Rattle.nv_trace.specs.Reading.{Bad, Long, Whole, ending_of}
use Rattle.nv_trace.specs.FirstRounds.{TellsOfInput}
use Rattle.nv_trace.specs.Refused.{IsRefusedAs}
use Rattle.nv_trace.specs.Traced.{Traced}
use Rattle.nv_trace.specs.declared.read_error.ReadError.{ReadError}
use Rattle.nv_trace.specs.declared.read_error.ReadError.TheVariants as read_errors
use Rattle.nv_trace.specs.declared.trace.Form.{Form}
use Rattle.nv_trace.specs.declared.trace.Form.TheVariants as forms
use Rattle.nv_top.specs.Commands.{IsBasis, IsGivenBack, RestsNotRun}
use Rattle.nv_top.specs.Endings.{IsTrace}
use Rattle.nv_top.specs.Headline.{HasInput, HasRunRounds, IsArmedByAll, IsArmedBySome, IsCommandRefused, IsLeftAfter, IsLeftBy, IsPickedAtLast, IsPickedByAll, IsPickedBySome, IsRun, IsRunRefused, IsShown, IsUnhindered, IsWholeByInput, LeavesLife, UsesTurns, expected_faults, form_by, form_of}
use Rattle.nv_top.specs.Lives.{HasMadeNoCall, LeavesRun}
use Rattle.nv_top.specs.Ready.{IsAtHome, IsReady}
use Rattle.nv_top.specs.Reported.{HasReported}
use Rattle.nv_top.specs.Stopping.{IsAllBack, IsBackUnarmed, IsPoweredBack, IsSettledStop}
use Rattle.nv_top.specs.Rounds.{HasNoRounds}
use Rattle.nv_top.specs.Stops.{ComesFromInput, CountHasCause, IsCauseOf, IsFollowed, IsOwnStop, StopHasCause, stop_of_opening, stop_of_read, stop_of_words}
use Rattle.nv_top.specs.declared.ending.Stop.{Stop}
use Rattle.nv_top.specs.declared.ending.Stop.TheVariants.{Usage, BadLine, InputLong, Read, Write, Device, Region, NoMemory, Turns}
use Rattle.nv_words.specs.declared.words.Command.{Command}
use Rattle.nv_words.specs.declared.words.Command.TheVariants.{Run, Sched, Recover, Look, Gen}
use Rattle.nv_words.specs.declared.words.RunOptions.{RunOptions}
use Rattle.nv_words.specs.declared.words.WordsError.{WordsError}
use Rattle.nv_words.specs.declared.words.WordsError.TheVariants as words_errors
use Rattle.nv_top.proofs.CommandLemmas.{if_told, told_at}
use Rattle.nv_top.proofs.CompleteLemmas.{settled_counts, settled_done}
use Rattle.nv_top.proofs.HeadlineLemmas.{same_some}
use Rattle.nv_top.proofs.SaidLemmas.{nothing_shown}
use Rattle.nv_top.specs.Said.{HasShown}
use Rattle.nv_top.proofs.StopLemmas.{settled_opened}
use Rattle.nv_top.proofs.StoppingLemmas.{count_grows, if_some}

-- ---- results and stops

-- a result that is this error has what the error has
pub by_error : (result : Result (Vec ℕ) Stop) (stop : Stop) (P : Result (Vec ℕ) Stop → Type 0) → IsErrAnd result (λ error. error ≡ stop) → P (Err stop) → P result
by_error (Ok text) stop P is holds = absurd is
by_error (Err error) stop P is holds = subst (λ error. P (Err error)) (sym is) holds

abbrev pub as_result : Stop → Result (Vec ℕ) Stop
as_result stop = Err stop

pub same_stop : (one other : Stop) → as_result one ≡ as_result other → one ≡ other
same_stop one other is = cc

pub region_of : (stop : Stop) (why : Refusal) → as_result stop ≡ as_result (Region why) → stop ≡ Region why
region_of stop why is = cc

pub not_none : (command : Command) → Some command ≡ None → ⊥
not_none command is = cc

pub settled_sound : {T : Type 0} (settled now : ℕ) (result : Result T Stop) → IsSettledStop settled now result → result ≢ Err Device → now ≤ settled
settled_sound settled now (Ok value) cause other = omega (arith, cause)
settled_sound settled now (Err Usage) cause other = absurd cause
settled_sound settled now (Err (BadLine bad)) cause other = absurd cause
settled_sound settled now (Err InputLong) cause other = absurd cause
settled_sound settled now (Err Read) cause other = absurd cause
settled_sound settled now (Err Write) cause other = absurd cause
settled_sound settled now (Err Device) cause other = absurd (other refl)
settled_sound settled now (Err (Region refusal)) cause other = cause
settled_sound settled now (Err NoMemory) cause other = cause
settled_sound settled now (Err Turns) cause other = cause

-- a stop that a bench gives says nothing of the input
settled_cause : {T : Type 0} (form : Form) (given : Option (List ℕ)) (settled now : ℕ) (result : Result T Stop) → IsSettledStop settled now result → IfErr result (λ stop. IfSome given (IsCauseOf form stop))
settled_cause form given settled now (Ok value) cause = tt
settled_cause form given settled now (Err Usage) cause = absurd cause
settled_cause form given settled now (Err (BadLine bad)) cause = absurd cause
settled_cause form given settled now (Err InputLong) cause = absurd cause
settled_cause form given settled now (Err Read) cause = absurd cause
settled_cause form given settled now (Err Write) cause = absurd cause
settled_cause form given settled now (Err Device) cause = if_some given (IsCauseOf form Device) (λ input is. tt)
settled_cause form given settled now (Err (Region refusal)) cause = if_some given (IsCauseOf form (Region refusal)) (λ input is. tt)
settled_cause form given settled now (Err NoMemory) cause = if_some given (IsCauseOf form NoMemory) (λ input is. tt)
settled_cause form given settled now (Err Turns) cause = if_some given (IsCauseOf form Turns) (λ input is. tt)

-- where no fault was before power went off, a cause by the count is one by what it was then
pub counted_settled : {T : Type 0} (before now settled : ℕ) (result : Result T Stop) → settled ≤ before → CountHasCause before now result → IsSettledStop (max before settled) now result
counted_settled before now settled (Ok value) low cause = omega (arith, low, cause)
counted_settled before now settled (Err Usage) low cause = absurd cause
counted_settled before now settled (Err (BadLine bad)) low cause = absurd cause
counted_settled before now settled (Err InputLong) low cause = absurd cause
counted_settled before now settled (Err Read) low cause = absurd cause
counted_settled before now settled (Err Write) low cause = absurd cause
counted_settled before now settled (Err Device) low cause = record { never_falls = omega (arith, low, cause.never_falls); more = omega (arith, low, cause.more) }
counted_settled before now settled (Err (Region refusal)) low cause = omega (arith, low, cause)
counted_settled before now settled (Err NoMemory) low cause = omega (arith, low, cause)
counted_settled before now settled (Err Turns) low cause = absurd cause

pub counted_not_turns : {T : Type 0} (before now : ℕ) (result : Result T Stop) → CountHasCause before now result → result ≢ Err Turns
counted_not_turns {T} before now result cause is = subst (λ (result : Result T Stop). CountHasCause before now result) is cause

-- ---- commands

-- what a command takes of its input, and leaves
abbrev pub Takes : Command → (given left : Option (List ℕ)) → Result (Vec ℕ) Stop → Type 0
Takes (Run options) given left result = OnOk result (IfSome given (λ input. IsTrace forms.Run input × (left ≡ Some [])))
Takes (Sched options) given left result = IsFollowed result → IfSome given (λ input. IsTrace forms.Sched input × (left ≡ Some []))
Takes Recover given left result = left ≡ given
Takes (Look files) given left result = left ≡ given
Takes (Gen load) given left result = left ≡ given

-- which cuts it arms its bench at, and with which picks power goes off
abbrev pub Arms : Command → (given : Option (List ℕ)) → (old new : BenchState) → Result (Vec ℕ) Stop → Type 0
Arms (Run options) given old new result = Unit {0}
Arms (Sched options) given old new result = IsArmedBySome given old new × OnOk result (IsArmedByAll given old new) × IsPickedBySome options given old new × OnOk result (IsPickedByAll options given old new) × OnOk result (IsWholeByInput given old new)
Arms Recover given old new result = Unit {0}
Arms (Look files) given old new result = Unit {0}
Arms (Gen load) given old new result = Unit {0}

-- what a schedule leaves of which a token has used its advances up: with which pick power went off, and how far it was followed
abbrev pub EndsInTurns : Command → (given : Option (List ℕ)) → (old new : BenchState) → Type 0
EndsInTurns (Run options) given old new = ⊥
EndsInTurns (Sched options) given old new = IsPickedAtLast options given old new × IfSome old.told (UsesTurns options given old new)
EndsInTurns Recover given old new = ⊥
EndsInTurns (Look files) given old new = ⊥
EndsInTurns (Gen load) given old new = ⊥

of_schedule : (command : Command) (given : Option (List ℕ)) (old new : BenchState) → EndsInTurns command given old new → (options : RunOptions) × (Some command ≡ Some (Sched options)) × IsPickedAtLast options given old new
of_schedule (Run options) given old new used = absurd used
of_schedule (Sched options) given old new used = (options, refl, used.0)
of_schedule Recover given old new used = absurd used
of_schedule (Look files) given old new used = absurd used
of_schedule (Gen load) given old new used = absurd used

-- a bench at home is left so by each command that leaves it as it is
run_unmoved : (stop : Option ℕ) (options : RunOptions) (bench : BenchState) → IsLeftAfter stop options.image bench bench
run_unmoved None options bench = refl
run_unmoved (Some k) options bench = (inr refl, inr refl)

scheduled_unmoved : (bench : BenchState) → IsAtHome bench → IsAllBack bench
scheduled_unmoved bench home =
    let With : Bool → List (List ℕ) → Type 0 = λ at lent. bench ≡ record bench { is_open = at; lent = lent } in
    subst (λ lent. With false lent) home.home (subst (λ at. With at bench.lent) home.closed refl)

looked_unmoved : (told : Option Holding) → told ≡ told_by (names_until 0) told
looked_unmoved None = refl
looked_unmoved (Some holding) = sym (ap (λ stores. Some (record { parts = holding.parts; stores = stores })) (append-nil holding.stores))

unmoved : (command : Command) (bench : BenchState) → IsAtHome bench → IsLeftBy command bench bench
unmoved (Run options) bench home = run_unmoved options.stop options bench
unmoved (Sched options) bench home = scheduled_unmoved bench home
unmoved Recover bench home = refl
unmoved (Look false) bench home = refl
unmoved (Look true) bench home = (refl, (0, looked_unmoved bench.told))
unmoved (Gen load) bench home = refl

-- ---- a command whose bench was opened, or may be

-- no call was shown
abbrev no_calls : List PlacedCall
no_calls = []

abbrev NothingShown : Type 0
NothingShown = no_calls ≡ []

-- All follows from how the bench is left, what its faults say of the stop, and what is shown, or refused.
module _ (command : Command) (given left : Option (List ℕ)) (before now : ℕ) (old new : BenchState) (shown : List PlacedCall) (result : Result (Vec ℕ) Stop) where
  for_it : (P : Command → Type 0) → P command → (other : Command) → Some command ≡ Some other → P other
  for_it P holds other is = subst P (same_some is) holds

  pub settled_shown : ((shown ≡ []) ⊎ IsRun (Some command)) → ((now ≡ before) ⊎ (IsRun (Some command) × ((result ≡ Err Device) ⊎ (result ≡ Err NoMemory))))
      → IsLeftBy command old new → IsSettledStop (expected_faults old new) new.faults result → old.faults ≤ new.faults
      → Takes command given left result → Arms command given old new result → (result ≡ Err Turns → EndsInTurns command given old new)
      → ((why : Refusal) → result ≡ Err (Region why) → IfSome old.told (λ holding. IsCommandRefused command given old new holding why))
      → ((why : Refusal) → result ≡ Err (Region why) → IfSome old.told (λ holding. (new.arms ≡ old.arms) × (shown ≡ [])))
      → IfSome old.told (λ was. LeavesLife (Rose old.faults new.faults) command given old new was shown)
      → IfOk result (λ text. IfSome old.told (λ holding. IsShown command given old new holding (history_lines 0 shown ++ text.items)))
      → HasReported (Some command) given left before now old new shown result
  settled_shown early sound back cause grows takes arms turns refused unarmed life report =
      let settled = expected_faults old new in
      let Settled : Result (Vec ℕ) Stop → Type 0 = λ result. IsSettledStop settled new.faults result in
      record {
        early = early;
        write = λ is. absurd (subst Settled is cause);
        back = for_it (λ command. IsLeftBy command old new) back;
        cuts = λ options is. (for_it (λ command. Arms command given old new result) arms (Sched options) is).0;
        all_cuts = λ options is. (for_it (λ command. Arms command given old new result) arms (Sched options) is).1;
        picked = λ options is. (for_it (λ command. Arms command given old new result) arms (Sched options) is).2;
        all_picked = λ options is. (for_it (λ command. Arms command given old new result) arms (Sched options) is).3;
        uncut = λ options is. (for_it (λ command. Arms command given old new result) arms (Sched options) is).4;
        usage = λ is. absurd (subst Settled is cause);
        command = λ none. absurd (not_none command none);
        bad_line = settled_cause (form_of command) given settled new.faults result cause;
        good_input = λ options is. for_it (λ command. Takes command given left result) takes (Run options) is;
        good_schedule = λ options is. for_it (λ command. Takes command given left result) takes (Sched options) is;
        unread = λ is. for_it (λ command. Takes command given left result) takes Recover is;
        unread_look = λ files is. for_it (λ command. Takes command given left result) takes (Look files) is;
        unread_load = λ load is. for_it (λ command. Takes command given left result) takes (Gen load) is;
        read_fault = λ is. absurd (subst Settled is cause);
        read_sound = λ other. sound;
        device_fault = λ is. subst Settled is cause;
        device_sound = λ other well. settled_sound settled new.faults result cause other;
        turns = λ is. of_schedule command given old new (turns is);
        turns_used = λ is options same. (for_it (λ command. EndsInTurns command given old new) (turns is) (Sched options) same).1;
        region = λ why is. for_it (λ command. IfSome old.told (λ holding. IsCommandRefused command given old new holding why)) (refused why is);
        unarmed = unarmed;
        complete = for_it (λ command. IfSome old.told (λ holding. IsUnhindered command given holding (Rose before now) (Rose settled new.faults) → IfErr result IsOwnStop))
            (settled_done command given old new (Rose before now) settled new.faults result cause refused);
        counts = settled_counts settled new.faults result cause;
        never_falls = grows;
        life = for_it (λ command. IfSome old.told (λ was. LeavesLife (Rose old.faults new.faults) command given old new was shown)) life;
        stopped = settled_opened settled new.faults result
            (λ stop. ((new ≡ old) × (shown ≡ []) × (IsRun (Some command) → HasNoRounds stop given)) ⊎ ((options : RunOptions) × (Some command ≡ Some (Run options)) × IfSome old.told (HasRunRounds options stop given shown old new))) cause;
        report = shown_for result report;
      }
    where
      shown_for : (result : Result (Vec ℕ) Stop) → IfOk result (λ text. IfSome old.told (λ holding. IsShown command given old new holding (history_lines 0 shown ++ text.items)))
          → IfOk result (λ text. (other : Command) → Some command ≡ Some other → IfSome old.told (λ holding. IsShown other given old new holding (history_lines 0 shown ++ text.items)))
      shown_for (Ok text) report = for_it (λ command. IfSome old.told (λ holding. IsShown command given old new holding (history_lines 0 shown ++ text.items))) report
      shown_for (Err stop) report = tt

-- and nothing was shown before its end
module _ (command : Command) (given left : Option (List ℕ)) (faults : ℕ) (old new : BenchState) (result : Result (Vec ℕ) Stop) where
  pub settled_reported : IsLeftBy command old new → IsSettledStop (expected_faults old new) new.faults result → old.faults ≤ new.faults
      → Takes command given left result → Arms command given old new result → (result ≡ Err Turns → EndsInTurns command given old new)
      → ((why : Refusal) → result ≡ Err (Region why) → IfSome old.told (λ holding. IsCommandRefused command given old new holding why))
      → ((why : Refusal) → result ≡ Err (Region why) → IfSome old.told (λ holding. new.arms ≡ old.arms))
      → IfSome old.told (λ was. LeavesLife (Rose old.faults new.faults) command given old new was [])
      → IfOk result (λ text. IfSome old.told (λ holding. IsShown command given old new holding text.items))
      → HasReported (Some command) given left faults faults old new [] result
  settled_reported back cause grows takes arms turns refused unarmed life report =
      settled_shown command given left faults faults old new [] result (inl refl) (inl refl) back cause grows takes arms turns refused
      (λ why is. if_told old.told (λ holding. (new.arms ≡ old.arms) × NothingShown) (λ holding told. (told_at old.told (λ holding. new.arms ≡ old.arms) holding told (unarmed why is), refl))) life report

-- ---- a command that ends before its bench is opened

-- only the words, the source, the input and memory are the cause
abbrev IsEarly : Stop → Type 0
IsEarly Usage = Unit {0}
IsEarly (BadLine bad) = Unit {0}
IsEarly InputLong = Unit {0}
IsEarly Read = Unit {0}
IsEarly Write = ⊥
IsEarly Device = ⊥
IsEarly (Region refusal) = ⊥
IsEarly NoMemory = Unit {0}
IsEarly Turns = ⊥

module _ (over : Option Command) (given left : Option (List ℕ)) (before now : ℕ) (bench : BenchState) (stop : Stop) where
  early_reported : IsAtHome bench → IsEarly stop → (stop ≡ Usage → over ≡ None)
      → (over ≡ None → ((stop ≡ Usage) ⊎ (stop ≡ NoMemory)) × (left ≡ given)) → IfSome given (IsCauseOf (form_by over) stop)
      → (stop ≡ Read → Rose before now) → (stop ≢ Read → now ≡ before)
      → ((command : Command) → over ≡ Some command → Takes command given left (Err stop))
      → ((command : Command) → over ≡ Some command → (holding : Holding) → IsUnhindered command given holding (Rose before now) (Rose (expected_faults bench bench) bench.faults) → IsOwnStop stop)
      → ((command : Command) → over ≡ Some command → IfSome bench.told (λ was. LeavesLife (Rose bench.faults bench.faults) command given bench bench was []))
      → (ComesFromInput stop → IsRun over → HasNoRounds stop given)
      → HasReported over given left before now bench bench [] (Err stop)
  early_reported home early usage none cause fault sound takes own life unrun = record {
    early = inl refl;
    write = λ is. absurd (subst IsEarly (same_stop stop Write is) early);
    back = λ command is. unmoved command bench home;
    cuts = λ options is. inl refl;
    all_cuts = λ options is. tt;
    picked = λ options is. inl refl;
    all_picked = λ options is. tt;
    uncut = λ options is. tt;
    usage = λ is. usage (same_stop stop Usage is);
    command = λ is. let both = none is in (elim both.0 [ inl same ↦ inl (ap Err same) | inr same ↦ inr (ap Err same) ], both.1, refl);
    bad_line = cause;
    good_input = λ options is. tt;
    good_schedule = λ options is. takes (Sched options) is;
    unread = λ is. takes Recover is;
    unread_look = λ files is. takes (Look files) is;
    unread_load = λ load is. takes (Gen load) is;
    read_fault = λ is. fault (same_stop stop Read is);
    read_sound = λ other. inl (sound (λ is. other (ap Err is)));
    device_fault = λ is. absurd (subst IsEarly (same_stop stop Device is) early);
    device_sound = λ other well. omega arith;
    turns = λ is. absurd (subst IsEarly (same_stop stop Turns is) early);
    turns_used = λ is options same. absurd (subst IsEarly (same_stop stop Turns is) early);
    region = λ why is. absurd (subst IsEarly (same_stop stop (Region why) is) early);
    unarmed = λ why is. absurd (subst IsEarly (same_stop stop (Region why) is) early);
    complete = λ command is. if_told bench.told (λ holding. IsUnhindered command given holding (Rose before now) (Rose (expected_faults bench bench) bench.faults) → IsOwnStop stop) (λ holding told free. own command is holding free);
    counts = tt;
    never_falls = omega arith;
    life = life;
    stopped = λ first. inl (refl, refl, unrun first);
    report = tt;
  }

-- the words are none, or memory is wanting for them
pub words_reported : (over : Option Command) (given : Option (List ℕ)) (faults : ℕ) (bench : BenchState) (error : WordsError) → IsAtHome bench → (error ≡ words_errors.Usage → over ≡ None)
    → ((command : Command) → over ≡ Some command → IfSome bench.told (λ was. LeavesLife (Rose bench.faults bench.faults) command given bench bench was []))
    → HasReported over given given faults faults bench bench [] (Err (stop_of_words error))
words_reported over given faults bench words_errors.Usage home usage life =
    let none = usage refl in
    early_reported over given given faults faults bench Usage home tt (λ same. none) (λ same. (inl refl, refl)) (if_some given (IsCauseOf (form_by over) Usage) (λ input some. tt)) (λ is. cc) (λ other. refl)
    (λ command is. absurd (not_none command (sym is ∙ none)))
    (λ command is. absurd (not_none command (sym is ∙ none))) life (λ first run. absurd (not_none (Run run.0) (sym run.1 ∙ none)))
words_reported over given faults bench words_errors.NoMemory home usage life =
    early_reported over given given faults faults bench NoMemory home tt (λ is. cc) (λ same. (inr refl, refl)) (if_some given (IsCauseOf (form_by over) NoMemory) (λ input some. tt)) (λ is. cc) (λ other. refl)
    (λ command is. takes_none command) (λ command is holding free. inl refl) life (λ first. absurd first)
  where
    takes_none : (command : Command) → Takes command given given (Err NoMemory)
    takes_none (Run options) = tt
    takes_none (Sched options) = λ is. cc
    takes_none Recover = refl
    takes_none (Look files) = refl
    takes_none (Gen load) = refl

-- no error of a reading is that a token used its advances up
pub never_turns : (error : ReadError) → stop_of_read error ≡ Turns → ⊥
never_turns (read_errors.Bad bad) is = cc
never_turns read_errors.InputLong is = cc
never_turns read_errors.Failed is = cc
never_turns read_errors.NoMemory is = cc

-- no round of an input was run that is refused at its first one
pub unrun_at : (given : Option (List ℕ)) (error : ReadError) → (TellsOfInput error → HasNoRounds (stop_of_read error) given) → ComesFromInput (stop_of_read error) → HasNoRounds (stop_of_read error) given
unrun_at given (read_errors.Bad bad) none first = none tt
unrun_at given read_errors.InputLong none first = none tt
unrun_at None read_errors.Failed none first = tt
unrun_at (Some input) read_errors.Failed none first = λ other. absurd (other refl)
unrun_at given read_errors.NoMemory none first = absurd first

-- a schedule is no run
pub not_run : (options : RunOptions) → IsRun (Some (Sched options)) → ⊥
not_run options run = apart run.0 run.1
  where
    apart : (other : RunOptions) → Some (Sched options) ≡ Some (Run other) → ⊥
    apart other is = cc

-- which errors of a reading are told by which stops
pub failed_is : (error : ReadError) → stop_of_read error ≡ Read → error ≡ read_errors.Failed
failed_is (read_errors.Bad bad) is = cc
failed_is read_errors.InputLong is = cc
failed_is read_errors.Failed is = refl
failed_is read_errors.NoMemory is = cc

not_usage : (error : ReadError) → stop_of_read error ≡ Usage → ⊥
not_usage (read_errors.Bad bad) is = cc
not_usage read_errors.InputLong is = cc
not_usage read_errors.Failed is = cc
not_usage read_errors.NoMemory is = cc

-- it says what the input says
pub read_cause : (form : Form) (given : Option (List ℕ)) (error : ReadError) → IfSome given (IsRefusedAs form error) → IfSome given (IsCauseOf form (stop_of_read error))
read_cause form given (read_errors.Bad bad) refused = refused
read_cause form given read_errors.InputLong refused = refused
read_cause form given read_errors.Failed refused = refused
read_cause form given read_errors.NoMemory refused = refused

whole_bad : {trace : Traced} {bad : _} → Whole trace ≡ Bad bad → ⊥
whole_bad is = cc

whole_long : {trace : Traced} → Whole trace ≡ Long → ⊥
whole_long is = cc

-- and where that is a trace, and the source has not failed, memory was wanting
pub read_own : (form : Form) (given : Option (List ℕ)) (before now : ℕ) (error : ReadError) → IfSome given (IsRefusedAs form error) → (error ≡ read_errors.Failed → Rose before now) → ¬ (Rose before now)
    → (bytes : List ℕ) × (given ≡ Some bytes) × IsTrace form bytes → IsOwnStop (stop_of_read error)
read_own form given before now error refused failed read has = by error (subst (λ given. IfSome given (IsRefusedAs form error)) has.1 refused) failed
  where
    by : (error : ReadError) → IsRefusedAs form error has.0 → (error ≡ read_errors.Failed → Rose before now) → IsOwnStop (stop_of_read error)
    by (read_errors.Bad bad) ends failed = absurd (whole_bad (sym has.2.1 ∙ ends))
    by read_errors.InputLong ends failed = absurd (whole_long (sym has.2.1 ∙ ends))
    by read_errors.Failed ends failed = absurd (read (failed refl))
    by read_errors.NoMemory ends failed = inl refl

-- the input is no trace, or wasn't read to its end
module _ (command : Command) (given left : Option (List ℕ)) (before now : ℕ) (bench : BenchState) (error : ReadError) where
  pub read_reported : IsAtHome bench → (HasInput command given → (bytes : List ℕ) × (given ≡ Some bytes) × IsTrace (form_of command) bytes)
      → Takes command given left (Err (stop_of_read error))
      → IfSome given (IsRefusedAs (form_of command) error) → (error ≡ read_errors.Failed → Rose before now) → (error ≢ read_errors.Failed → now ≡ before)
      → IfSome bench.told (λ was. LeavesLife (Rose bench.faults bench.faults) command given bench bench was []) → (ComesFromInput (stop_of_read error) → IsRun (Some command) → HasNoRounds (stop_of_read error) given)
      → HasReported (Some command) given left before now bench bench [] (Err (stop_of_read error))
  read_reported home reads takes refused failed kept life unrun =
      early_reported (Some command) given left before now bench (stop_of_read error) home (early error) (λ is. absurd (not_usage error is)) (λ none. absurd (not_none command none)) (read_cause (form_of command) given error refused)
      (λ is. failed (failed_is error is)) (λ other. kept (λ is. other (ap stop_of_read is)))
      (λ other is. subst (λ command. Takes command given left (Err (stop_of_read error))) (same_some is) takes)
      (λ other is. subst (λ command. (holding : Holding) → IsUnhindered command given holding (Rose before now) (Rose (expected_faults bench bench) bench.faults) → IsOwnStop (stop_of_read error)) (same_some is)
      (λ holding free. read_own (form_of command) given before now error refused failed free.read (reads free.has_input)))
      (λ other is. subst (λ command. IfSome bench.told (λ was. LeavesLife (Rose bench.faults bench.faults) command given bench bench was [])) (same_some is) life) unrun
    where
      early : (error : ReadError) → IsEarly (stop_of_read error)
      early (read_errors.Bad bad) = tt
      early read_errors.InputLong = tt
      early read_errors.Failed = tt
      early read_errors.NoMemory = tt

-- ---- what the commands have in common

-- nothing was shown before its end
pub shown_none : (over : Option Command) (given left : Option (List ℕ)) (before now : ℕ) (old new : BenchState) (result : Result (Vec ℕ) Stop) (written : Option (List ℕ)) (faults : ℕ) → HasReported over given left before now old new [] result
    → (shown : List PlacedCall) × HasReported over given left before now old new shown result × HasShown result shown written written faults faults
shown_none over given left before now old new result written faults reported = ([], reported, nothing_shown result written faults (λ is. (reported.write is).1 refl))

pub on_ok : {T E : Type 0} {X : Type 0} (result : Result T E) → X → OnOk result X
on_ok (Ok value) holds = holds
on_ok (Err error) holds = tt

-- an input that was read to its end is a trace
pub was_read : (form : Form) (given left : Option (List ℕ)) (trace : Traced) → IfSome given (λ input. ending_of form input ≡ Whole trace) → IfSome given (λ input. left ≡ Some []) → IfSome given (λ input. IsTrace form input × (left ≡ Some []))
was_read form None left trace whole ended = tt
was_read form (Some input) left trace whole ended = ((trace, whole), ended)

-- a command that power doesn't end, whose stop has its cause by the count of faults
module _ (command : Command) (given left : Option (List ℕ)) (faults : ℕ) (old new : BenchState) (result : Result (Vec ℕ) Stop) where
  pub counted_reported : IsReady old → IsLeftBy command old new → new.settled ≡ old.settled → new.arms ≡ old.arms → CountHasCause old.faults new.faults result
      → Takes command given left result → Arms command given old new result
      → ((why : Refusal) → result ≡ Err (Region why) → IfSome old.told (λ holding. IsCommandRefused command given old new holding why))
      → IfSome old.told (λ was. LeavesLife (Rose old.faults new.faults) command given old new was [])
      → IfOk result (λ text. IfSome old.told (λ holding. IsShown command given old new holding text.items))
      → HasReported (Some command) given left faults faults old new [] result
  counted_reported ready back settled arms cause takes cuts refused life shown =
      let before = ready.settled in
      let low : new.settled ≤ old.faults = omega (arith, settled, before) in
      settled_reported command given left faults old new result back (counted_settled old.faults new.faults new.settled result low cause) (count_grows old.faults new.faults result cause) takes cuts
      (λ is. absurd (counted_not_turns old.faults new.faults result cause is)) refused
      (λ why is. if_told old.told (λ holding. new.arms ≡ old.arms) (λ holding told. arms)) life shown

-- ---- runs of traces

pub opening_counted : (before now : ℕ) (error : OpenError) → ErrorHasCause before now error → StopHasCause before now (stop_of_opening error)
opening_counted before now (open_errors.Refused why) cause = cause
opening_counted before now open_errors.Fault cause = cause
opening_counted before now open_errors.NoMemory cause = cause

-- what a run begins with whose region was opened, with the sizes of its options
abbrev pub opened_basis : (options : RunOptions) (holding : Holding) (sizes : Geometry) (wanted names : List (List ℕ)) (page entries : ℕ) (all : List (List ℕ)) (next : ℕ) (row : List StoreHistory)
    (opened : IsRegionOpened holding sizes wanted page entries all next row) → sizes.page ≡ options.page → sizes.entries ≡ options.entries → wanted ≡ names
    → IsBasis options holding names (record { sizes = record { page = page; entries = entries; pages = options.pages }; names = all; files = files_of opened.files.held; next = next })
opened_basis options holding sizes wanted names page entries all next row opened page_is entries_are same =
    let With : List (List ℕ) → Type 0 = λ wanted.
    IsBasis options holding wanted (record { sizes = record { page = page; entries = entries; pages = options.pages }; names = all; files = files_of opened.files.held; next = next }) in
    subst With same (record {
      geometry = sizes;
      page_is = page_is;
      entries_are = entries_are;
      known = opened.known;
      begun = opened.begun;
      pages_are = refl;
      names_are = opened.names_are;
      files_are = opened.files.files_are;
    })

-- a region that an opening refuses refuses the run
module _ (options : RunOptions) (wanted names : List (List ℕ)) (old new : BenchState) (same : wanted ≡ names) where
  pub run_refused : (why : Refusal) (sizes : Geometry) → IfSome old.told (λ holding. IsNotOpened holding.parts sizes wanted why) → (¬ (why ≡ refusals.TooManyFiles) → new.told ≡ told_after why (option_map (as_opened sizes) old.told))
      → (why ≡ refusals.TooManyFiles → IfSome old.told (λ was. TellsOf (RestsUnopened was sizes wanted) new.told))
      → sizes.page ≡ options.page → sizes.entries ≡ options.entries → IfSome old.told (λ holding. IsRunRefused options holding names old new why)
  run_refused why sizes refused unwritten rests page_is entries_are =
      let Rests : Holding → List (List ℕ) → Type 0 = λ holding names. RestsNotRun options holding names new.told in
      if_told old.told (λ holding. IsRunRefused options holding names old new why) (λ holding told. record {
        not_run = record {
          geometry = sizes;
          page_is = page_is;
          entries_are = entries_are;
          not_opened = subst (λ (names : List (List ℕ)). IsNotOpened holding.parts sizes names why) same (told_at old.told (λ holding. IsNotOpened holding.parts sizes wanted why) holding told refused);
        };
        unwritten = unwritten;
        rests = λ many. subst (Rests holding) same (record {
          geometry = sizes;
          page_is = page_is;
          entries_are = entries_are;
          rests = told_at old.told (λ was. TellsOf (RestsUnopened was sizes wanted) new.told) holding told (rests many);
        });
      })

  -- and the files stand as before
  pub refused_life : (Tells : Basis → Traced → (shown later : List PlacedCall) → Type 0) (trace : Traced) → names ≡ trace.names → (sizes : Geometry) → sizes.page ≡ options.page → sizes.entries ≡ options.entries
      → IfSome old.told (λ was. StandForFiles was.parts → TellsOf (StandsUnopened was sizes wanted) new.told)
      → IfSome old.told (λ was. is_blank was.parts ≡ false → ¬ (IsGood was.parts) → TellsOf (StaysUntouched sizes was) new.told) → IfSome old.told (λ was. LeavesRun Tells options was trace [] new.told)
  refused_life Tells trace are sizes page_is entries_are standing untouched =
      if_told old.told (λ was. LeavesRun Tells options was trace [] new.told) (λ was told. record {
        untouched = λ kept bad. (
          refl,
          inr (record {
            geometry = sizes;
            page_is = page_is;
            entries_are = entries_are;
            left = told_at old.told (λ was. is_blank was.parts ≡ false → ¬ (IsGood was.parts) → TellsOf (StaysUntouched sizes was) new.told) was told untouched kept bad;
          }),
        );
        stands = λ stand.
            let left = told_at old.told (λ was. StandForFiles was.parts → TellsOf (StandsUnopened was sizes wanted) new.told) was told standing stand in
            let Unrun : List (List ℕ) → Type 0 = λ names. HasMadeNoCall options was names new.told in
            inl (
              refl,
              subst Unrun (same ∙ are) (elim left.is_so.either [
                | inl own ↦ inl (left.told_is ∙ ap (λ (now : Holding). Some now) own)
                | inr made ↦ inr (record { geometry = sizes; page_is = page_is; entries_are = entries_are; left = record { now = left.now; told_is = left.told_is; is_so = made } })
              ]),
            );
      })

-- what a bench came home to from which all was lent
module _ (k : ℕ) (names : List (List ℕ)) (old mid new : BenchState) (home : IsAtHome old) (lent : mid ≡ with_faults mid.faults (all_lent names old)) where
  pub home_powered : IsPoweredBack k mid new → IsPoweredBack k old new
  home_powered is = subst (λ mid. IsPoweredBack k mid new) lent is

  pub home_unarmed : IsBackUnarmed mid new → IsGivenBack old new
  home_unarmed is =
      let With : Bool → List (List ℕ) → Type 0 = λ at lent. new ≡ record old { told = new.told; is_open = at; lent = lent; faults = new.faults } in
      let closed : With false [] = subst (λ mid. IsBackUnarmed mid new) lent is in
      subst (λ lent. With old.is_open lent) (sym home.home) (subst (λ at. With at []) (sym home.closed) closed)

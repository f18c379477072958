-- What a run of the rounds of an input comes to, as the command that it is.
use Rattle.std.proofs.Common.{◌≡◌, ◌≢◌, ◌⊎◌, ℕ, ◌≤◌, List, [], ◌++◌, Option, Some, None, Result, Ok, Err, inl, inr, refl, sym, ap, subst, ◌∙◌}
use Rattle.std.specs.Prelude.{Bool, true, false, IfOk, IfSome, IsErr, IsOk, OnOk}
use Rattle.std.specs.Global.{Vec}
use Rattle.nv_runner.specs.ToldRounds.{TellsRounds}
use Rattle.nv_plain.specs.Faults.{Rose}
use Rattle.nv_bench.specs.Benches.{BenchState}
use Rattle.nv_bench.specs.Holding.{Holding}
use Rattle.nv_open.specs.declared.error.Refusal.{Refusal}
use Rattle.nv_trace.specs.Refused.{IsRefusedAs}
use Rattle.nv_trace.specs.declared.read_error.ReadError.{ReadError}
use Rattle.nv_trace.specs.declared.read_error.ReadError.TheVariants as read_errors
use Rattle.nv_trace.specs.declared.trace.Form.TheVariants as forms
use Rattle.nv_runner.specs.Histories.{PlacedCall}
use Rattle.nv_runner.specs.Reports.{history_lines}
use Rattle.nv_runner.specs.Streams.{HasWritten}
use Rattle.nv_trace.specs.Streams.{Appends}
use Rattle.nv_runner.specs.declared.stream.StreamError.{StreamError}
use Rattle.nv_runner.specs.declared.stream.StreamError.TheVariants as ends
use Rattle.nv_top.specs.Endings.{IsTrace}
use Rattle.nv_top.specs.Headline.{HasRunRounds, IsCommandRefused, IsLeftAfter, IsLeftBy, IsRunRefused, IsShown, IsShownOf, IsUnhindered, LeavesLife, expected_faults, history_of_shown}
use Rattle.nv_top.specs.Lives.{LeavesRun}
use Rattle.nv_top.specs.Ran.{IsBegunOf, answer_of}
use Rattle.nv_top.specs.Reported.{HasReported}
use Rattle.nv_top.specs.RunInputs.{HasRunInput}
use Rattle.nv_top.specs.Said.{HasShown}
use Rattle.nv_top.specs.Stopping.{IsSettledStop}
use Rattle.nv_top.specs.Stops.{ComesFromInput, IsCauseOf, IsOwnStop, stop_of_read}
use Rattle.nv_top.specs.declared.ending.Stop.{Stop}
use Rattle.nv_top.specs.declared.ending.Stop.TheVariants.{Usage, BadLine, InputLong, Read, Write, Device, Region, NoMemory, Turns}
use Rattle.nv_top.specs.declared.input.Input.{Input}
use Rattle.nv_words.specs.declared.words.Command.{Command}
use Rattle.nv_words.specs.declared.words.Command.TheVariants.{Run}
use Rattle.nv_words.specs.declared.words.RunOptions.{RunOptions}
use Rattle.nv_top.proofs.CommandLemmas.{if_told, told_at}
use Rattle.nv_top.proofs.HeadlineLemmas.{same_some}
use Rattle.nv_top.proofs.InputLemmas.{IsReadAs, read_rounds, read_so_far, read_whole, was_all_read}
use Rattle.nv_top.proofs.ReportedLemmas.{as_result, failed_is, not_none, read_cause, read_own, same_stop, settled_shown, settled_sound}
use Rattle.nv_top.proofs.StoppingLemmas.{if_some}

abbrev AsAnswer : Type 0
AsAnswer = Result (Vec ℕ) Stop

abbrev as_text : Vec ℕ → AsAnswer
as_text text = Ok text

abbrev as_end : StreamError → Result (Unit {0}) StreamError
as_end error = Err error

-- ---- what is answered

-- How a run is answered whose stop has its cause by the count of faults: with its report, behind the last round; with what its input is refused for, behind a report unless its region was refused; with the sink's fault; or with what it was given up for.
data Came (ended : Result (Unit {0}) StreamError) (told result : AsAnswer) : Type 0 where
  shows : ended ≢ Err ends.Write → ((error : ReadError) → ended ≢ Err (ends.Read error)) → result ≡ told → Came ended told result
  given_up : ended ≢ Err ends.Write → ((told ≡ Err Device) ⊎ (told ≡ Err NoMemory)) → result ≡ told → Came ended told result
  refused : (error : ReadError) → ended ≡ Err (ends.Read error) → (text : Vec ℕ) → told ≡ Ok text → result ≡ Err (stop_of_read error) → Came ended told result
  unheld : (error : ReadError) → ended ≡ Err (ends.Read error) → (why : Refusal) → told ≡ Err (Region why) → result ≡ Err (stop_of_read error) → Came ended told result
  wrote : ended ≡ Err ends.Write → result ≡ Err Write → Came ended told result

came_as : (ended : Result (Unit {0}) StreamError) (told result : AsAnswer) (settled now : ℕ) → told ≢ Err Turns → IsSettledStop settled now told → result ≡ answer_of ended told → Came ended told result
came_as (Ok done) told result settled now turns cause is = shows (λ is. cc) (λ error is. cc) is
came_as (Err ends.NoMemory) told result settled now turns cause is = shows (λ is. cc) (λ error is. cc) is
came_as (Err ends.Write) told result settled now turns cause is = wrote refl is
came_as (Err (ends.Read error)) (Ok text) result settled now turns cause is = refused error refl text refl is
came_as (Err (ends.Read error)) (Err Usage) result settled now turns cause is = absurd cause
came_as (Err (ends.Read error)) (Err (BadLine bad)) result settled now turns cause is = absurd cause
came_as (Err (ends.Read error)) (Err InputLong) result settled now turns cause is = absurd cause
came_as (Err (ends.Read error)) (Err Read) result settled now turns cause is = absurd cause
came_as (Err (ends.Read error)) (Err Write) result settled now turns cause is = absurd cause
came_as (Err (ends.Read error)) (Err Device) result settled now turns cause is = given_up (λ is. cc) (inl refl) is
came_as (Err (ends.Read error)) (Err (Region why)) result settled now turns cause is = unheld error refl why refl is
came_as (Err (ends.Read error)) (Err NoMemory) result settled now turns cause is = given_up (λ is. cc) (inr refl) is
came_as (Err (ends.Read error)) (Err Turns) result settled now turns cause is = absurd (turns refl)

-- ---- a run that its input or its sink ended

-- only what is read and written is the cause, or memory
abbrev IsStreamed : Stop → Type 0
IsStreamed Usage = ⊥
IsStreamed (BadLine bad) = Unit {0}
IsStreamed InputLong = Unit {0}
IsStreamed Read = Unit {0}
IsStreamed Write = Unit {0}
IsStreamed Device = ⊥
IsStreamed (Region why) = ⊥
IsStreamed NoMemory = Unit {0}
IsStreamed Turns = ⊥

read_streamed : (error : ReadError) → IsStreamed (stop_of_read error)
read_streamed (read_errors.Bad bad) = tt
read_streamed read_errors.InputLong = tt
read_streamed read_errors.Failed = tt
read_streamed read_errors.NoMemory = tt

read_not_write : (error : ReadError) → stop_of_read error ≡ Write → ⊥
read_not_write (read_errors.Bad bad) is = cc
read_not_write read_errors.InputLong is = cc
read_not_write read_errors.Failed is = cc
read_not_write read_errors.NoMemory is = cc

module _ (options : RunOptions) (given left : Option (List ℕ)) (before now : ℕ) (old new : BenchState) (shown : List PlacedCall) (stop : Stop) (streamed : IsStreamed stop) where
  abbrev Command_is : Command → Type 0
  Command_is command = Some (Run options) ≡ Some command

  not_it : (other : Stop) → ¬ (IsStreamed other) → as_result stop ≡ as_result other → ⊥
  not_it other never is = never (subst IsStreamed (same_stop stop other is) streamed)

  streamed_reported : IsLeftAfter options.stop options.image old new → (stop ≡ Write → shown ≢ []) → IfSome given (IsCauseOf forms.Run stop) → (stop ≡ Read → Rose before now) → (stop ≢ Read → now ≡ before)
      → (stop ≢ Write → new.faults ≤ expected_faults old new) → ((holding : Holding) → IsUnhindered (Run options) given holding (Rose before now) (Rose (expected_faults old new) new.faults) → IsOwnStop stop)
      → old.faults ≤ new.faults → IfSome old.told (λ was. LeavesLife (Rose old.faults new.faults) (Run options) given old new was shown) → (ComesFromInput stop → IfSome old.told (HasRunRounds options stop given shown old new))
      → HasReported (Some (Run options)) given left before now old new shown (Err stop)
  streamed_reported back lines cause failed kept low own grows life rounds = record {
    early = inr (options, refl);
    write = λ is. ((options, refl), lines (same_stop stop Write is));
    back = λ command is. subst (λ command. IsLeftBy command old new) (same_some is) back;
    cuts = λ other is. cc;
    all_cuts = λ other is. tt;
    picked = λ other is. cc;
    all_picked = λ other is. tt;
    uncut = λ other is. tt;
    usage = λ is. absurd (not_it Usage (λ no. no) is);
    command = λ none. absurd (not_none (Run options) none);
    bad_line = cause;
    good_input = λ other is. tt;
    good_schedule = λ other is. cc;
    unread = λ is. cc;
    unread_look = λ files is. cc;
    unread_load = λ load is. cc;
    read_fault = λ is. failed (same_stop stop Read is);
    read_sound = λ other. inl (kept (λ is. other (ap as_result is)));
    device_fault = λ is. absurd (not_it Device (λ no. no) is);
    device_sound = λ other well. low (λ is. well (ap as_result is));
    turns = λ is. absurd (not_it Turns (λ no. no) is);
    turns_used = λ is other same. absurd (not_it Turns (λ no. no) is);
    region = λ why is. absurd (not_it (Region why) (λ no. no) is);
    unarmed = λ why is. absurd (not_it (Region why) (λ no. no) is);
    complete = λ command is. subst (λ command. IfSome old.told (λ holding. IsUnhindered command given holding (Rose before now) (Rose (expected_faults old new) new.faults) → IsOwnStop stop)) (same_some is)
        (if_told old.told (λ holding. IsUnhindered (Run options) given holding (Rose before now) (Rose (expected_faults old new) new.faults) → IsOwnStop stop) (λ holding told. own holding));
    counts = tt;
    never_falls = grows;
    life = λ command is. subst (λ command. IfSome old.told (λ was. LeavesLife (Rose old.faults new.faults) command given old new was shown)) (same_some is) life;
    stopped = λ first. inr (options, refl, rounds first);
    report = tt;
  }

-- ---- what was written

written_whole : (before now : Option (List ℕ)) (ended : Result (Unit {0}) StreamError) (text : List ℕ) → ended ≢ Err ends.Write → HasWritten before now ended text → Appends before now text
written_whole before now (Ok done) text other written = written
written_whole before now (Err ends.NoMemory) text other written = written
written_whole before now (Err (ends.Read error)) text other written = written
written_whole before now (Err ends.Write) text other written = absurd (other refl)

-- ---- all of it

module _ (options : RunOptions) (input : Input) (given mid left : Option (List ℕ)) (reads reads_now : ℕ) (before now : Option (List ℕ)) (writes writes_now : ℕ) (old new : BenchState) (result : AsAnswer)
    (is_form : input.trace.form ≡ forms.Run) (begun : IfSome given (λ bytes. IsBegunOf input.more bytes input mid))
    (ran : HasRunInput options.stop options input mid left reads reads_now before now writes writes_now old new result) where
  abbrev lines : List ℕ
  lines = history_lines 0 ran.shown

  abbrev Shows : Holding → List ℕ → Type 0
  Shows holding text = (run : IsShownOf options.stop options old new holding ran.all text) × (history_of_shown options.stop options old new holding ran.all text run ≡ ran.shown)

  form : ran.all.form ≡ forms.Run
  form = ran.streamed.trace.0.form ∙ is_form

  read : IfSome given (λ bytes. IsReadAs ran.ended bytes ran.all)
  read = was_all_read input mid ran.ended ran.all given begun ran.streamed.trace.1

  life : IfSome old.told (λ was. LeavesLife (Rose old.faults new.faults) (Run options) given old new was ran.shown)
  life =
      if_told old.told (λ was. LeavesLife (Rose old.faults new.faults) (Run options) given old new was ran.shown) (λ was told.
      inr (read_so_far ran.all (λ trace. LeavesRun (TellsRounds (Rose old.faults new.faults) options.worker) options was trace ran.shown new.told) form ran.runnable (told_at old.told (λ was. LeavesRun (TellsRounds (Rose old.faults new.faults) options.worker) options was ran.all ran.shown new.told) was told ran.life) given ran.ended read))

  region_refused : (why : Refusal) → ran.told ≡ Err (Region why) → IfSome old.told (λ holding. IsCommandRefused (Run options) given old new holding why)
  region_refused why is =
      if_told old.told (λ holding. IsCommandRefused (Run options) given old new holding why) (λ holding told.
      read_so_far ran.all (λ trace. IsRunRefused options holding trace.names old new why) form ran.runnable (told_at old.told (λ holding. IsRunRefused options holding ran.all.names old new why) holding told (ran.refused why is)) given ran.ended read)

  unarmed : (why : Refusal) → ran.told ≡ Err (Region why) → IfSome old.told (λ holding. (new.arms ≡ old.arms) × (ran.shown ≡ []))
  unarmed why is =
      if_told old.told (λ holding. (new.arms ≡ old.arms) × (ran.shown ≡ [])) (λ holding told.
      let first = told_at old.told (λ holding. (new.arms ≡ old.arms) × (ran.shown ≡ []) × (ran.ended ≡ Err ends.NoMemory)) holding told (ran.unbegun why is) in (first.0, first.1))

  -- the source is at its end behind the last round
  at_end : ran.ended ≡ Ok tt → IfSome given (λ bytes. left ≡ Some [])
  at_end is = by given begun
    where
      behind : (more : Bool) (bytes : List ℕ) → IsBegunOf more bytes input mid → (more ≡ true → IfSome mid (λ bytes. left ≡ Some [])) → (more ≡ false → left ≡ mid) → left ≡ Some []
      behind true bytes begun ends unread = subst (λ mid. IfSome mid (λ bytes. left ≡ Some [])) begun.1 (ends refl)
      behind false bytes begun ends unread = unread refl ∙ begun.0

      by : (given : Option (List ℕ)) → IfSome given (λ bytes. IsBegunOf input.more bytes input mid) → IfSome given (λ bytes. left ≡ Some [])
      by None begun = tt
      by (Some bytes) begun = behind input.more bytes begun (ran.streamed.at_end (subst (λ ended. IsOk ended) (sym is) refl)) ran.streamed.unread

  not_err : (text : Vec ℕ) → IsErr (as_text text) → ⊥
  not_err text is = cc

  -- a report comes behind the last round alone
  last_round : (ended : Result (Unit {0}) StreamError) (text : Vec ℕ) → ended ≢ Err ends.Write → ((error : ReadError) → ended ≢ Err (ends.Read error)) → (ended ≡ Err ends.NoMemory → IsErr ran.told) → ran.told ≡ Ok text → ended ≡ Ok tt
  last_round (Ok done) text other unread memory is = refl
  last_round (Err ends.NoMemory) text other unread memory is = absurd (not_err text (subst (λ (told : AsAnswer). IsErr told) is (memory refl)))
  last_round (Err (ends.Read error)) text other unread memory is = absurd (unread error refl)
  last_round (Err ends.Write) text other unread memory is = absurd (other refl)

  module _ (other : ran.ended ≢ Err ends.Write) (unread : (error : ReadError) → ran.ended ≢ Err (ends.Read error)) where
    whole_read : (text : Vec ℕ) → ran.told ≡ Ok text → IfSome given (λ bytes. IsReadAs (Ok tt) bytes ran.all)
    whole_read text is = subst (λ ended. IfSome given (λ bytes. IsReadAs ended bytes ran.all)) (last_round ran.ended text other unread ran.memory is) read

    took : (told : AsAnswer) → ran.told ≡ told → OnOk told (IfSome given (λ input. IsTrace forms.Run input × (left ≡ Some [])))
    took (Ok text) is = by given (whole_read text is) (at_end (last_round ran.ended text other unread ran.memory is))
      where
        by : (given : Option (List ℕ)) → IfSome given (λ bytes. IsReadAs (Ok tt) bytes ran.all) → IfSome given (λ bytes. left ≡ Some []) → IfSome given (λ input. IsTrace forms.Run input × (left ≡ Some []))
        by None whole ends = tt
        by (Some bytes) whole ends = ((ran.all, whole), ends)
    took (Err stop) is = tt

    reported : (told : AsAnswer) → ran.told ≡ told → IfOk told (λ text. IfSome old.told (λ holding. Shows holding (lines ++ text.items))) → IfOk told (λ text. IfSome old.told (λ holding. IsShown (Run options) given old new holding (lines ++ text.items)))
    reported (Ok text) is run =
        if_told old.told (λ holding. IsShown (Run options) given old new holding (lines ++ text.items)) (λ holding told.
        read_whole ran.all (λ trace. IsShownOf options.stop options old new holding trace (lines ++ text.items)) form ran.runnable (told_at old.told (λ holding. Shows holding (lines ++ text.items)) holding told run).0 given (whole_read text is))
    reported (Err stop) is run = tt

    shows_reported : HasReported (Some (Run options)) given left reads reads_now old new ran.shown ran.told
    shows_reported =
        settled_shown (Run options) given left reads reads_now old new ran.shown ran.told (inr (options, refl)) (inl (ran.streamed.read_kept (unread read_errors.Failed))) ran.back ran.cause ran.never_falls
        (took ran.told refl) tt (λ is. absurd (ran.turns is)) region_refused unarmed life (reported ran.told refl ran.ran)

  given_up_reported : (stop : Stop) → ran.told ≡ Err stop → ((stop ≡ Device) ⊎ (stop ≡ NoMemory)) → HasReported (Some (Run options)) given left reads reads_now old new ran.shown (Err stop)
  given_up_reported stop is which =
      settled_shown (Run options) given left reads reads_now old new ran.shown (Err stop) (inr (options, refl)) (inr ((options, refl), elim which [ inl device ↦ inl (ap as_result device) | inr memory ↦ inr (ap as_result memory) ])) ran.back
      (subst (λ (told : AsAnswer). IsSettledStop (expected_faults old new) new.faults told) is ran.cause) ran.never_falls
      tt tt (λ turns. absurd (ran.turns (is ∙ turns))) (λ why refused. region_refused why (is ∙ refused)) (λ why refused. unarmed why (is ∙ refused)) life tt

  refused_as : (error : ReadError) → ran.ended ≡ Err (ends.Read error) → IfSome given (IsRefusedAs forms.Run error)
  refused_as error is = by given (subst (λ ended. IfSome given (λ bytes. IsReadAs ended bytes ran.all)) is read)
    where
      by : (given : Option (List ℕ)) → IfSome given (λ bytes. IsReadAs (Err (ends.Read error)) bytes ran.all) → IfSome given (IsRefusedAs forms.Run error)
      by None was = tt
      by (Some bytes) was = was.1

  refused_reported : (error : ReadError) → ran.ended ≡ Err (ends.Read error) → ran.told ≢ Err Device → (ComesFromInput (stop_of_read error) → IfSome old.told (HasRunRounds options (stop_of_read error) given ran.shown old new))
      → HasReported (Some (Run options)) given left reads reads_now old new ran.shown (Err (stop_of_read error))
  refused_reported error is sound rounds =
      let failed : error ≡ read_errors.Failed → Rose reads reads_now = λ same. ran.streamed.read_failed (is ∙ ap (λ error. as_end (ends.Read error)) same) in
      streamed_reported options given left reads reads_now old new ran.shown (stop_of_read error) (read_streamed error) ran.back (λ write. absurd (read_not_write error write)) (read_cause forms.Run given error (refused_as error is))
      (λ read. failed (failed_is error read))
      (λ other. ran.streamed.read_kept (λ same. other (ap stop_of_read (same_error error read_errors.Failed (sym is ∙ same)))))
      (λ other. settled_sound (expected_faults old new) new.faults ran.told ran.cause sound)
      (λ holding free. read_own forms.Run given reads reads_now error (refused_as error is) failed free.read free.has_input)
      ran.never_falls life rounds
    where
      same_error : (one other : ReadError) → as_end (ends.Read one) ≡ as_end (ends.Read other) → one ≡ other
      same_error one other is = cc

  run_rounds : (error : ReadError) → ran.ended ≡ Err (ends.Read error) → (text : Vec ℕ) → ran.told ≡ Ok text → ComesFromInput (stop_of_read error) → IfSome old.told (HasRunRounds options (stop_of_read error) given ran.shown old new)
  run_rounds error is text told_is first =
      let shows : IfSome old.told (λ holding. Shows holding (lines ++ text.items)) = subst (λ (told : AsAnswer). IfOk told (λ text. IfSome old.told (λ holding. Shows holding (lines ++ text.items)))) told_is ran.ran in
      if_told old.told (HasRunRounds options (stop_of_read error) given ran.shown old new) (λ holding told.
      read_rounds ran.all (λ trace. (text : List ℕ) × (run : IsShownOf options.stop options old new holding trace text) × (history_of_shown options.stop options old new holding trace text run ≡ ran.shown)) form ran.runnable
      (let here = told_at old.told (λ holding. Shows holding (lines ++ text.items)) holding told shows in (lines ++ text.items, here.0, here.1)) given error first
      (subst (λ ended. IfSome given (λ bytes. IsReadAs ended bytes ran.all)) is read))

  no_rounds : (error : ReadError) → ran.ended ≡ Err (ends.Read error) → (why : Refusal) → ran.told ≡ Err (Region why) → IfSome old.told (HasRunRounds options (stop_of_read error) given ran.shown old new)
  no_rounds error is why region =
      if_told old.told (HasRunRounds options (stop_of_read error) given ran.shown old new) (λ holding told.
      absurd (not_both (sym is ∙ (told_at old.told (λ holding. (new.arms ≡ old.arms) × (ran.shown ≡ []) × (ran.ended ≡ Err ends.NoMemory)) holding told (ran.unbegun why region)).2)))
    where
      not_both : as_end (ends.Read error) ≡ as_end ends.NoMemory → ⊥
      not_both is = cc

  wrote_reported : ran.ended ≡ Err ends.Write → HasReported (Some (Run options)) given left reads reads_now old new ran.shown (Err Write)
  wrote_reported is =
      streamed_reported options given left reads reads_now old new ran.shown Write tt ran.back (λ write. ran.streamed.wrote is) (if_some given (IsCauseOf forms.Run Write) (λ input some. tt)) (λ read. cc)
      (λ other. ran.streamed.read_kept (λ same. not_both (sym is ∙ same))) (λ other. absurd (other refl)) (λ holding free. inr (inr refl)) ran.never_falls life (λ first. absurd first)
    where
      not_both : as_end ends.Write ≡ as_end (ends.Read read_errors.Failed) → ⊥
      not_both is = cc

  -- what was written is what was shown
  whole_shown : (answer : AsAnswer) → ran.ended ≢ Err ends.Write → answer ≢ Err Write → HasShown answer ran.shown before now writes writes_now
  whole_shown answer other sound = record {
    whole = λ is. (written_whole before now ran.ended lines other ran.streamed.written, ran.streamed.write_kept other);
    cut = λ is. absurd (sound is);
  }

  cut_shown : ran.ended ≡ Err ends.Write → HasShown (Err Write) ran.shown before now writes writes_now
  cut_shown is = record {
    whole = λ other. absurd (other refl);
    cut = λ same. (subst (λ ended. HasWritten before now ended lines) is ran.streamed.written, ran.streamed.write_failed is);
  }

  never_write : ran.told ≢ Err Write
  never_write is = subst (λ (told : AsAnswer). IsSettledStop (expected_faults old new) new.faults told) is ran.cause

  not_write : (error : StreamError) → error ≢ ends.Write → ran.ended ≡ Err error → ran.ended ≢ Err ends.Write
  not_write error other is write = other (same_end error ends.Write (sym is ∙ write))
    where
      same_end : (one other : StreamError) → as_end one ≡ as_end other → one ≡ other
      same_end one other is = cc

  abbrev Reported : AsAnswer → Type 0
  Reported answer = (shown : List PlacedCall) × HasReported (Some (Run options)) given left reads reads_now old new shown answer × HasShown answer shown before now writes writes_now

  by_stop : (stop : Stop) → ran.ended ≢ Err ends.Write → ran.told ≡ Err stop → ((stop ≡ Device) ⊎ (stop ≡ NoMemory)) → Reported ran.told
  by_stop stop other is which =
      subst Reported (sym is) (ran.shown, given_up_reported stop is which, whole_shown (Err stop) other (λ write. never_write (is ∙ write)))

  by_read : (error : ReadError) → ran.ended ≡ Err (ends.Read error) → ran.told ≢ Err Device → (ComesFromInput (stop_of_read error) → IfSome old.told (HasRunRounds options (stop_of_read error) given ran.shown old new)) → Reported (Err (stop_of_read error))
  by_read error is sound rounds = (
    ran.shown,
    refused_reported error is sound rounds,
    whole_shown (Err (stop_of_read error)) (not_write (ends.Read error) (λ same. cc) is) (λ write. read_not_write error (same_stop (stop_of_read error) Write write)),
  )

  pub run_reported : Reported result
  run_reported = elim (came_as ran.ended ran.told result (expected_faults old new) new.faults ran.turns ran.cause ran.answered) [
    | shows other unread is ↦ subst Reported (sym is) (ran.shown, shows_reported other unread, whole_shown ran.told other never_write)
    | given_up other which is ↦ subst Reported (sym is) (elim which [
      | inl device ↦ by_stop Device other device (inl refl)
      | inr memory ↦ by_stop NoMemory other memory (inr refl)
    ])
    | refused error ended text told is ↦ subst Reported (sym is) (by_read error ended (λ device. not_device text (sym told ∙ device)) (run_rounds error ended text told))
    | unheld error ended why told is ↦ subst Reported (sym is) (by_read error ended (λ device. not_region why (sym told ∙ device)) (λ first. no_rounds error ended why told))
    | wrote ended is ↦ subst Reported (sym is) (ran.shown, wrote_reported ended, cut_shown ended)
  ]
    where
      not_device : (text : Vec ℕ) → as_text text ≡ Err Device → ⊥
      not_device text is = cc

      not_region : (why : Refusal) → as_result (Region why) ≡ as_result Device → ⊥
      not_region why is = cc

-- the source has not failed at the first round
pub still_read : (options : RunOptions) (input : Input) (given mid left : Option (List ℕ)) (first reads reads_now : ℕ) (before now : Option (List ℕ)) (writes writes_now : ℕ) (old new : BenchState) (result : AsAnswer)
    → reads ≡ first → input.trace.form ≡ forms.Run → IfSome given (λ bytes. IsBegunOf input.more bytes input mid) → HasRunInput options.stop options input mid left reads reads_now before now writes writes_now old new result
    → (shown : List PlacedCall) × HasReported (Some (Run options)) given left first reads_now old new shown result × HasShown result shown before now writes writes_now
still_read options input given mid left first reads reads_now before now writes writes_now old new result same is_form begun ran =
    subst (λ first. (shown : List PlacedCall) × HasReported (Some (Run options)) given left first reads_now old new shown result × HasShown result shown before now writes writes_now) same
    (run_reported options input given mid left reads reads_now before now writes writes_now old new result is_form begun ran)

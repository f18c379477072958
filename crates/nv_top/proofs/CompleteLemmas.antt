-- Commands that nothing stands in the way of: they are followed to their end.
use Rattle.std.proofs.Common.{◌≡◌, ℕ, Bool, true, false, List, Option, Some, None, Result, Ok, Err, inl, inr, refl, sym, ap, subst, ◌∙◌}
use Rattle.std.specs.Prelude.{IfErr, IfSome, OnOk}
use Rattle.nv_plain.specs.Faults.{Rose}
use Rattle.nv_bench.specs.Benches.{BenchState}
use Rattle.nv_bench.specs.Holding.{Holding}
use Rattle.nv_open.specs.declared.error.Refusal.{Refusal}
use Rattle.nv_trace.specs.Reading.{Whole, ending_of}
use Rattle.nv_trace.specs.declared.trace.Form.TheVariants as forms
use Rattle.nv_trace.proofs.FirstRounds.{first_rounds_name_all}
use Rattle.nv_top.specs.Commands.{IsLookedAt, IsNotRun}
use Rattle.nv_top.specs.Headline.{HasInput, HasRefusal, IsCommandRefused, IsUnhindered}
use Rattle.nv_top.specs.Stops.{IsOwnStop}
use Rattle.nv_top.specs.Stopping.{IsSettledStop}
use Rattle.nv_top.specs.declared.ending.Stop.{Stop}
use Rattle.nv_top.specs.declared.ending.Stop.TheVariants.{Usage, BadLine as BadLineStop, InputLong, Read, Write, Device, Region, NoMemory, Turns}
use Rattle.nv_words.specs.declared.words.Command.{Command}
use Rattle.nv_words.specs.declared.words.RunOptions.{RunOptions}
use Rattle.nv_words.specs.declared.words.Command.TheVariants.{Run, Sched, Recover, Look, Gen}
use Rattle.nv_top.proofs.CommandLemmas.{if_told, told_at}

same_input : (one other : List ℕ) → Some one ≡ Some other → one ≡ other
same_input one other is = cc

-- a run that some first rounds of its input were refused for is one that the whole input is
run_refusal : (options : RunOptions) (input : List ℕ) (old new : BenchState) (holding : Holding) (why : Refusal) → HasInput (Run options) (Some input) → IsCommandRefused (Run options) (Some input) old new holding why → HasRefusal (Run options) (Some input) holding why
run_refusal options input old new holding why has (inl whole) = (whole.0, whole.1, whole.2.not_run)
run_refusal options input old new holding why has (inr rounds) =
    let trace = has.2.0 in
    let ends : ending_of forms.Run input ≡ Whole trace = ap (ending_of forms.Run) (same_input input has.0 has.1) ∙ has.2.1 in
    let first = rounds.2 in
    let names = first_rounds_name_all forms.Run input rounds.0 first.0 trace rounds.1 first.1 ends in
    (trace, ends, subst (λ names. IsNotRun options holding names why) (sym names) first.2.not_run)

-- what a refusal of a command is
refusal_of : (command : Command) (left : Option (List ℕ)) (old new : BenchState) (holding : Holding) (why : Refusal) → HasInput command left → IsCommandRefused command left old new holding why → HasRefusal command left holding why
refusal_of (Run options) None old new holding why has is = tt
refusal_of (Run options) (Some input) old new holding why has is = run_refusal options input old new holding why has is
refusal_of (Sched options) None old new holding why has is = tt
refusal_of (Sched options) (Some input) old new holding why has (is, unpowered) = (is.0, is.1, is.2.not_run)
refusal_of Recover left old new holding why has is = is.0
refusal_of (Look files) left old new holding why has is = is
refusal_of (Gen load) left old new holding why has is = is.not_run

-- a run, or a schedule
pub settled_done : {T : Type 0} (command : Command) (left : Option (List ℕ)) (old new : BenchState) (read_failed : Type 0) (settled now : ℕ) (result : Result T Stop) → IsSettledStop settled now result
    → ((why : Refusal) → result ≡ Err (Region why) → IfSome old.told (λ holding. IsCommandRefused command left old new holding why))
    → IfSome old.told (λ holding. IsUnhindered command left holding read_failed (Rose settled now) → IfErr result IsOwnStop)
settled_done {T} command left old new read_failed settled now result cause region =
    if_told old.told (λ holding. IsUnhindered command left holding read_failed (Rose settled now) → IfErr result IsOwnStop) (λ holding told free. by result cause region holding told free)
  where
    by : (result : Result T Stop) → IsSettledStop settled now result → ((why : Refusal) → result ≡ Err (Region why) → IfSome old.told (λ holding. IsCommandRefused command left old new holding why))
        → (holding : Holding) → old.told ≡ Some holding → IsUnhindered command left holding read_failed (Rose settled now) → IfErr result IsOwnStop
    by (Ok value) cause region holding told free = tt
    by (Err Usage) cause region holding told free = absurd cause
    by (Err (BadLineStop bad)) cause region holding told free = absurd cause
    by (Err InputLong) cause region holding told free = absurd cause
    by (Err Read) cause region holding told free = absurd cause
    by (Err Write) cause region holding told free = absurd cause
    by (Err Device) cause region holding told free = absurd (free.devices cause)
    by (Err (Region why)) cause region holding told free =
        absurd (free.not_refused why (refusal_of command left old new holding why free.has_input (told_at old.told (λ holding. IsCommandRefused command left old new holding why) holding told (region why refl))))
    by (Err NoMemory) cause region holding told free = inl refl
    by (Err Turns) cause region holding told free = inr (inl refl)

-- ---- counts

-- a look leaves the count of when power went off, and doesn't arm
pub look_settled : (files : Bool) (old new : BenchState) → IsLookedAt files old new → new.settled ≡ old.settled
look_settled false old new left = ap (λ (state : BenchState). state.settled) left
look_settled true old new left = ap (λ (state : BenchState). state.settled) left.0

pub look_unarmed : (files : Bool) (old new : BenchState) → IsLookedAt files old new → new.arms ≡ old.arms
look_unarmed false old new left = ap (λ (state : BenchState). state.arms) left
look_unarmed true old new left = ap (λ (state : BenchState). state.arms) left.0

pub settled_counts : {T : Type 0} (settled now : ℕ) (result : Result T Stop) → IsSettledStop settled now result → OnOk result (now ≡ settled)
settled_counts settled now (Ok value) cause = cause
settled_counts settled now (Err stop) cause = tt

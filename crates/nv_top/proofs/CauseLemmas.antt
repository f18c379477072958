-- Counts of faults, beside others: a cause in one of them is one in the sum.
use Rattle.std.proofs.Common.{◌≡◌, ℕ, ◌+◌, ◌≤◌, Result, Ok, Err, refl, sym, ap, subst, arith}
use Rattle.nv_plain.specs.Faults.{Rose, saturated}
use Rattle.nv_open.specs.Causes.{ErrorHasCause}
use Rattle.nv_open.specs.declared.error.OpenError.{OpenError}
use Rattle.nv_open.specs.declared.error.OpenError.TheVariants as open_errors
use Rattle.nv_open.specs.declared.error.Refusal.{Refusal}
use Rattle.nv_runner.specs.declared.run_error.RunError.{RunError}
use Rattle.nv_runner.specs.declared.run_error.RunError.TheVariants.{Fault, NoMemory as RunNoMemory}
use Rattle.nv_top.specs.Stops.{CountHasCause, MayEndRun, RunHasCause, StopHasCause, stop_of_run}
use Rattle.nv_top.specs.declared.ending.Stop.{Stop}
use Rattle.nv_top.specs.declared.ending.Stop.TheVariants.{Usage, BadLine, InputLong, Read, Write, Device, Region, NoMemory, Turns}

stop_with : (before now first last : ℕ) (stop : Stop) → (now ≡ before → last ≡ first) → (Rose before now → Rose first last) → StopHasCause before now stop → StopHasCause first last stop
stop_with before now first last Usage same rose cause = cause
stop_with before now first last (BadLine bad) same rose cause = cause
stop_with before now first last InputLong same rose cause = cause
stop_with before now first last Read same rose cause = cause
stop_with before now first last Write same rose cause = cause
stop_with before now first last Device same rose cause = rose cause
stop_with before now first last (Region refusal) same rose cause = same cause
stop_with before now first last NoMemory same rose cause = same cause
stop_with before now first last Turns same rose cause = cause

-- where one count stays or rises with the other
pub cause_with : {T : Type 0} (before now first last : ℕ) (result : Result T Stop) → (now ≡ before → last ≡ first) → (Rose before now → Rose first last)
    → CountHasCause before now result → CountHasCause first last result
cause_with before now first last (Ok value) same rose cause = same cause
cause_with before now first last (Err stop) same rose cause = stop_with before now first last stop same rose cause

-- beside a count that stays
pub cause_beside : {T : Type 0} (other before now first last : ℕ) (result : Result T Stop) → first ≡ other + before → last ≡ other + now → CountHasCause before now result → CountHasCause first last result
cause_beside other before now first last result a b =
    cause_with before now first last result (λ same. omega (arith, a, b, same))
    (λ rose. record { never_falls = omega (arith, a, b, rose.never_falls); more = omega (arith, a, b, rose.more) })

-- in a sum that stands still
pub cause_saturated : {T : Type 0} (other before now first last : ℕ) (result : Result T Stop) → first ≡ saturated (other + before) → last ≡ saturated (other + now)
    → CountHasCause before now result → CountHasCause first last result
cause_saturated other before now first last result a b =
    cause_with before now first last result (λ same. omega (arith, a, b, same))
    (λ rose. record { never_falls = omega (arith, a, b, rose.never_falls); more = omega (arith, a, b, rose.more) })

-- an error of an opening leaves a count, or it rose
pub error_grows : (before now : ℕ) (error : OpenError) → ErrorHasCause before now error → before ≤ now
error_grows before now (open_errors.Refused why) cause = omega (arith, cause)
error_grows before now open_errors.Fault cause = cause.never_falls
error_grows before now open_errors.NoMemory cause = omega (arith, cause)

-- a count that rose is no lower later
pub rose_on : (before now last : ℕ) → now ≤ last → Rose before now → Rose before last
rose_on before now last grew rose = record { never_falls = omega (arith, grew, rose.never_falls); more = omega (arith, grew, rose.more) }

-- one that rose in a sum that stands still
pub rose_within : (other before now first last : ℕ) → first ≡ saturated (other + before) → last ≡ saturated (other + now) → Rose before now → Rose first last
rose_within other before now first last a b rose = record { never_falls = omega (arith, a, b, rose.never_falls); more = omega (arith, a, b, rose.more) }

-- ---- what ends a run

may_end : (first parts mid last : ℕ) (stop : Stop) → first ≤ parts + mid → ((why : Refusal) → stop ≡ Region why → ⊥) → StopHasCause mid last stop → MayEndRun first (parts + last) stop
may_end first parts mid last Usage grew never cause = cause
may_end first parts mid last (BadLine bad) grew never cause = cause
may_end first parts mid last InputLong grew never cause = cause
may_end first parts mid last Read grew never cause = cause
may_end first parts mid last Write grew never cause = cause
may_end first parts mid last Device grew never cause = record { never_falls = omega (arith, grew, cause.never_falls); more = omega (arith, grew, cause.never_falls, cause.more) }
may_end first parts mid last (Region refusal) grew never cause = never refusal refl
may_end first parts mid last NoMemory grew never cause = omega (arith, grew, cause)
may_end first parts mid last Turns grew never cause = cause

-- what isn't a refusal of the region may end a run
pub stop_ends : (before now : ℕ) (stop : Stop) → ((why : Refusal) → stop ≡ Region why → ⊥) → StopHasCause before now stop → MayEndRun before now stop
stop_ends before now Usage never cause = cause
stop_ends before now (BadLine bad) never cause = cause
stop_ends before now InputLong never cause = cause
stop_ends before now Read never cause = cause
stop_ends before now Write never cause = cause
stop_ends before now Device never cause = cause
stop_ends before now (Region refusal) never cause = never refusal refl
stop_ends before now NoMemory never cause = omega (arith, cause)
stop_ends before now Turns never cause = cause

-- a run that was told of its stores, whose count is part of one that didn't fall
pub told_cause : {T : Type 0} (first parts mid last : ℕ) (result : Result T Stop) → first ≤ parts + mid → ((why : Refusal) → result ≡ Err (Region why) → ⊥) → CountHasCause mid last result
    → RunHasCause first (parts + last) result
told_cause first parts mid last (Ok value) grew never cause = omega (arith, grew, cause)
told_cause first parts mid last (Err stop) grew never cause = may_end first parts mid last stop grew (λ why is. never why (ap Err is)) cause

run_grows : {T : Type 0} (before now : ℕ) (result : Result T Stop) → RunHasCause before now result → before ≤ now
run_grows before now (Ok value) cause = cause
run_grows before now (Err Usage) cause = absurd cause
run_grows before now (Err (BadLine bad)) cause = absurd cause
run_grows before now (Err InputLong) cause = absurd cause
run_grows before now (Err Read) cause = absurd cause
run_grows before now (Err Write) cause = absurd cause
run_grows before now (Err Device) cause = cause.never_falls
run_grows before now (Err (Region why)) cause = absurd cause
run_grows before now (Err NoMemory) cause = cause
run_grows before now (Err Turns) cause = absurd cause

-- what a result has as its cause leaves a count, or it rose
pub cause_grows : {T : Type 0} (before now : ℕ) (result : Result T Stop) → ((why : Refusal) → result ≡ Err (Region why) → ⊥) → CountHasCause before now result → before ≤ now
cause_grows before now result never cause = (let grew = told_cause before 0 before now result (omega arith) never cause in let more = run_grows before (0 + now) result grew in omega (arith, more))

-- a run that wasn't brought to its end
pub ended_cause : {T : Type 0} (first now : ℕ) (error : RunError) (stop : Stop) (result : Result T Stop) → result ≡ Err stop → stop ≡ stop_of_run error → first ≤ now → (error ≡ Fault → Rose first now)
    → RunHasCause first now result
ended_cause {T} first now error stop result is of grew rose = subst (λ (r : Result T Stop). RunHasCause first now r) (sym is) (subst (λ (s : Stop). MayEndRun first now s) (sym of) (by_error error grew rose)) where
  by_error : (error : RunError) → first ≤ now → (error ≡ Fault → Rose first now) → MayEndRun first now (stop_of_run error)
  by_error Fault grew rose = rose refl
  by_error RunNoMemory grew rose = grew

-- ---- a run whose devices are back

-- a count that didn't rise is one that stays
pub run_counted : {T : Type 0} (first now old mid last : ℕ) (result : Result T Stop) → RunHasCause first now result → old ≡ saturated (mid + first) → last ≡ saturated (mid + now) → last ≤ old → CountHasCause old last result
run_counted first now old mid last (Ok value) cause a b low = omega (arith, cause, a, b, low)
run_counted first now old mid last (Err Usage) cause a b low = absurd cause
run_counted first now old mid last (Err (BadLine bad)) cause a b low = absurd cause
run_counted first now old mid last (Err InputLong) cause a b low = absurd cause
run_counted first now old mid last (Err Read) cause a b low = absurd cause
run_counted first now old mid last (Err Write) cause a b low = absurd cause
run_counted first now old mid last (Err Device) cause a b low = record { never_falls = omega (arith, a, b, cause.never_falls); more = omega (arith, a, b, cause.more) }
run_counted first now old mid last (Err (Region refusal)) cause a b low = absurd cause
run_counted first now old mid last (Err NoMemory) cause a b low = omega (arith, cause, a, b, low)
run_counted first now old mid last (Err Turns) cause a b low = absurd cause

pub run_not_refused : {T : Type 0} (first now : ℕ) (result : Result T Stop) (why : Refusal) → RunHasCause first now result → result ≡ Err (Region why) → ⊥
run_not_refused {T} first now result why cause is = subst (λ (result : Result T Stop). RunHasCause first now result) is cause

-- Stops: which error a refusal of the region came of.
use Rattle.std.proofs.Common.{◌≡◌, ℕ, Result, Ok, Err, refl, subst}
use Rattle.std.specs.Prelude.{IfErr}
use Rattle.std.specs.Result.{IsErrAnd}
use Rattle.nv_open.specs.declared.error.OpenError.{OpenError}
use Rattle.nv_open.specs.declared.error.OpenError.TheVariants as open_errors
use Rattle.nv_open.specs.declared.error.Refusal.{Refusal}
use Rattle.nv_recover.specs.declared.error.RecoverError.{RecoverError}
use Rattle.nv_recover.specs.declared.error.RecoverError.TheVariants as recover_errors
use Rattle.nv_top.specs.Stops.{ComesFromInput, stop_of_opening, stop_of_recovery}
use Rattle.nv_top.specs.Stopping.{IsSettledStop}
use Rattle.nv_top.specs.declared.ending.Stop.{Stop}
use Rattle.nv_top.specs.declared.ending.Stop.TheVariants.{Usage, BadLine, InputLong, Read, Write, Device, Region, NoMemory, Turns}

pub opening_refused : (error : OpenError) (why : Refusal) → stop_of_opening error ≡ Region why → error ≡ open_errors.Refused why
opening_refused (open_errors.Refused refusal) why is = cc
opening_refused open_errors.Fault why is = cc
opening_refused open_errors.NoMemory why is = cc

pub entry_is_bad : (error : RecoverError) (why : Refusal) → stop_of_recovery error ≡ Region why → (number : ℕ) × (error ≡ recover_errors.BadEntry number)
entry_is_bad (recover_errors.BadEntry number) why is = (number, refl)
entry_is_bad recover_errors.RegionFault why is = absurd cc
entry_is_bad recover_errors.StoreFault why is = absurd cc
entry_is_bad recover_errors.NoMemory why is = absurd cc

pub same_error : {T E : Type 0} (result : Result T E) (one other : E) → result ≡ Err one → result ≡ Err other → one ≡ other
same_error result one other a b = cc

pub err_has : {T E : Type 0} (result : Result T E) (P : E → Type 0) (error : E) → result ≡ Err error → IsErrAnd result P → P error
err_has result P error is has =
    let Of : Result _ _ → Type 0 = λ result. IsErrAnd result P in
    subst Of is has

-- a stop that a bench gives doesn't come of the input
pub settled_opened : {T : Type 0} (settled now : ℕ) (result : Result T Stop) (P : Stop → Type 0) → IsSettledStop settled now result → IfErr result (λ stop. ComesFromInput stop → P stop)
settled_opened settled now (Ok value) P cause = tt
settled_opened settled now (Err Usage) P cause = absurd cause
settled_opened settled now (Err (BadLine bad)) P cause = absurd cause
settled_opened settled now (Err InputLong) P cause = absurd cause
settled_opened settled now (Err Read) P cause = absurd cause
settled_opened settled now (Err Write) P cause = absurd cause
settled_opened settled now (Err Device) P cause = λ none. absurd none
settled_opened settled now (Err (Region refusal)) P cause = λ none. absurd none
settled_opened settled now (Err NoMemory) P cause = λ none. absurd none
settled_opened settled now (Err Turns) P cause = λ none. absurd none

abbrev pub Err_of : (T : Type 0) → Stop → Result T Stop
Err_of T stop = Err stop

same_stop : (T : Type 0) (one other : Stop) → Err_of T one ≡ Err_of T other → one ≡ other
same_stop T one other is = cc

-- two stops are two answers
pub other_stops : {T : Type 0} (one other : Stop) → (one ≡ other → ⊥) → Err_of T one ≡ Err_of T other → ⊥
other_stops {T} one other apart is = apart (same_stop T one other is)

-- Load measures: the load of a page comes to its end.
use Rattle.std.proofs.Common.{◌≡◌, ℕ, ◌+◌, ◌-◌, ◌*◌, ◌<◌, ◌≤◌, ◌==◌, ◌^◌, nat_lt, Bool, true, false, if◌then◌else◌, refl, arith}
use Rattle.std.proofs.lemmas.Bool.{ltb-true}
use Rattle.nv_core.specs.state.Words.{Sizes, STORE, CLEANUP, place, ready, is_entry_of}
use Rattle.nv_mirror.specs.declared.answers.Refusal.{Refusal}
use Rattle.nv_mirror.specs.declared.answers.Refusal.TheVariants.{Busy, StoreFault}
use Rattle.nv_mirror.specs.declared.load.LoadControl.{LoadControl}
use Rattle.nv_mirror.specs.declared.load.LoadControl.TheVariants.{Loaded, Refused, GiveBackStore, GiveBackCleanup}
use Rattle.nv_mirror.specs.declared.load.LoadControl.TheVariants as loads
use Rattle.nv_mirror.specs.declared.load.LoadMachine.{LoadMachine}
use Rattle.nv_mirror.specs.Loads.{FitsAt, IsOpen, IsPlain, behind_store, scanning_from, load_after_at, load_measure_at}

-- whatever a test says
either_less : (m : LoadMachine) (b : Bool) (one other : LoadControl) (most : ℕ) → load_measure_at m one < most → load_measure_at m other < most → load_measure_at m (if b then one else other) < most
either_less m true one other most low high = low
either_less m false one other most low high = high

behind_less : (m : LoadMachine) (dirty : Bool) (refusal : Refusal) (most : ℕ) → 2 ≤ most → load_measure_at m (behind_store dirty refusal) < most
behind_less m true refusal most high = omega (arith, high)
behind_less m false refusal most high = omega (arith, high)

-- a look at a number, or the end of all looks
scan_less : (m : LoadMachine) (number most : ℕ) (b : Bool) → nat_lt number m.head ≡ b → 1 < most → (number < m.head → 3 * (m.head - number) + 2 < most) → load_measure_at m (if b then loads.LoadEntry number else loads.GiveCleanup) < most
scan_less m number most true is some less = less (ltb-true number m.head is)
scan_less m number most false is some less = some

-- Each step lowers it, whatever it finds, and whether a device call before it has failed or not.
pub load_less : (sizes : Sizes) (m : LoadMachine) (control : LoadControl) (failed : Bool) (found : ℕ) → found < 2 ^ 64 → FitsAt m control → IsOpen control
    → load_measure_at (load_after_at sizes m control failed found) (load_after_at sizes m control failed found).control < load_measure_at m control
load_less sizes m loads.LoadDirty failed found small stands runs = either_less m (found == 0) (loads.TakeStore false) loads.TakeCleanup _ (omega arith) (omega arith)
load_less sizes m loads.TakeCleanup failed found small stands runs = either_less m (found == 0) (loads.TakeStore true) (Refused (Busy (place sizes (CLEANUP m.page)))) _ (omega arith) (omega arith)
load_less sizes m (loads.TakeStore dirty) failed found small stands runs =
    either_less m (found == 0) (loads.ReadStore dirty) (behind_store dirty (Busy (place sizes (STORE m.file)))) _ (omega arith) (behind_less m dirty (Busy (place sizes (STORE m.file))) _ (omega arith))
load_less sizes m (loads.ReadStore dirty) failed found small stands runs =
    either_less m failed (GiveBackStore dirty) (if dirty then loads.LoadHead else Loaded) _ (omega arith) (either_less m dirty loads.LoadHead Loaded _ (omega arith) (omega arith))
load_less sizes m loads.LoadHead failed found small stands runs = omega (arith, small)
load_less sizes m loads.LoadTail failed found small stands runs = scan_less m found _ (nat_lt found m.head) refl (omega arith) (λ low. omega (arith, low))
load_less sizes m (loads.LoadEntry number) failed found small stands runs =
    either_less m (is_entry_of ready m.page found) (loads.HoldEntry number) (scanning_from m (number + 1)) _ (omega arith)
    (scan_less m (number + 1) _ (nat_lt (number + 1) m.head) refl (omega (arith, stands)) (λ low. omega (arith, low, stands)))
load_less sizes m (loads.HoldEntry number) failed found small stands runs = omega arith
load_less sizes m (loads.ReadPiece number) failed found small stands runs =
    either_less m failed (loads.ReturnEntry number) (scanning_from m (number + 1)) _ (omega (arith, stands))
    (scan_less m (number + 1) _ (nat_lt (number + 1) m.head) refl (omega (arith, stands)) (λ low. omega (arith, low, stands)))
load_less sizes m loads.GiveCleanup failed found small stands runs = omega arith
load_less sizes m (loads.ReturnEntry number) failed found small stands runs = omega arith
load_less sizes m (GiveBackStore dirty) failed found small stands runs = behind_less m dirty StoreFault _ (omega arith)
load_less sizes m (GiveBackCleanup refusal) failed found small stands runs = omega arith
load_less sizes m Loaded failed found small stands runs = absurd runs
load_less sizes m (Refused refusal) failed found small stands runs = absurd runs

-- what is plain is open
pub load_plain_open : (control : LoadControl) → IsPlain control → IsOpen control
load_plain_open (loads.ReadStore dirty) plain = absurd plain
load_plain_open (loads.ReadPiece number) plain = absurd plain
load_plain_open loads.GiveCleanup plain = absurd plain
load_plain_open control plain = plain

-- The rooms of the walks: a line that can take 15 stores may be left so by each step; and what the walks write are bytes.
use Rattle.std.proofs.Common.{ℕ, zero, suc, ◌<◌, ◌≤◌, Bool, true, ◌≡◌, refl, arith}
use Rattle.std.specs.Prelude.{nat_lt, slice_index_or}
use Rattle.std.proofs.lemmas.Bool.{ltb-true}
use Rattle.nv_plain.specs.declared.call.FileCall.TheVariants.{Write}
use Rattle.nv_pmem.specs.Room.{Keeps, Takes}
use Rattle.nv_pmem.specs.RoomSteps.{RoomAfter, RoomAfterFault}
use Rattle.nv_pmem.specs.Steps.{LineStep, StoreWord, Flush, Fence}
use Rattle.nv_core.specs.state.Passes.{AreBytes}
use Rattle.nv_core.specs.state.Spares.{room_of_spares}
use Rattle.nv_core.specs.walks.Walks.{walk_bytes, walk_spares}

-- what the walks write are bytes
pub are_bytes : AreBytes (Write 0 0 walk_bytes)
are_bytes zero = omega arith
are_bytes (suc zero) = omega arith
are_bytes (suc (suc zero)) = omega arith
are_bytes (suc (suc (suc zero))) = omega arith
are_bytes (suc (suc (suc (suc zero)))) = omega arith
are_bytes (suc (suc (suc (suc (suc i))))) = omega arith

-- each line of the walks' parts can take as much now as after a fence
as_fenced : (lines line : ℕ) → (slice_index_or (walk_spares lines) line (0, 0)).1 ≤ (slice_index_or (walk_spares lines) line (0, 0)).0
as_fenced zero line = omega arith
as_fenced (suc lines) zero = omega arith
as_fenced (suc lines) (suc line) = as_fenced lines line

-- and a line that is there can take 15 stores
pub takes_15 : (lines line : ℕ) → line < lines → (15 ≤ (slice_index_or (walk_spares lines) line (0, 0)).0) × (15 ≤ (slice_index_or (walk_spares lines) line (0, 0)).1)
takes_15 zero line less = absurd (omega (arith, less))
takes_15 (suc lines) zero less = (omega arith, omega arith)
takes_15 (suc lines) (suc line) less = takes_15 lines line (omega (arith, less))

-- a step may leave the lines of a part, of however many, what they could take: of a flush where its line is there
keeps : (lines : ℕ) → Keeps (room_of_spares (walk_spares lines)) (room_of_spares (walk_spares lines))
keeps lines = record { lines = refl; spare = λ line. omega arith; after_fence = λ line. omega arith }

takes : (lines count line : ℕ) → Takes count line (room_of_spares (walk_spares lines)) (room_of_spares (walk_spares lines))
takes lines count line = record { lines = refl; spare = omega arith; after_fence = omega arith; other_spare = λ other ne. omega arith; other_after_fence = λ other ne. omega arith }

abbrev pub has_line : (lines : ℕ) → LineStep → Bool
has_line lines (Flush line) = nat_lt line lines
has_line lines step = true

pub any_stays : (lines : ℕ) (step : LineStep) → has_line lines step ≡ true → RoomAfter step (room_of_spares (walk_spares lines)) (room_of_spares (walk_spares lines))
any_stays lines (StoreWord line word value) there = takes lines 1 line
any_stays lines (Flush line) there = (keeps lines, (takes_15 lines line (ltb-true line lines there)).1)
any_stays lines Fence there = (keeps lines, record { spare = λ line. as_fenced lines line })

pub stays : (step : LineStep) → has_line 2 step ≡ true → RoomAfter step (room_of_spares (walk_spares 2)) (room_of_spares (walk_spares 2))
stays = any_stays 2

pub fault_stays : (lines : ℕ) (step : LineStep) → RoomAfterFault step (room_of_spares (walk_spares lines)) (room_of_spares (walk_spares lines))
fault_stays lines (StoreWord line word value) = takes lines 1 line
fault_stays lines (Flush line) = keeps lines
fault_stays lines Fence = keeps lines

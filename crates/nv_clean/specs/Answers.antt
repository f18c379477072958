-- Answers: what a batch is answered, by its steps.
use Rattle.std.specs.Prelude.{◌≡◌, ◌⊎◌, ℕ, ◌+◌, ◌-◌, ◌<◌, ◌≤◌, ◌==◌, nat_lt, Bool, true, false, not, ◌&&◌, ◌||◌, if◌then◌else◌, List, [], ◌∷◌, Option, Some, None, Result, Ok, Err, is_ok, IfOk}
use Rattle.nv_core.specs.state.Words.{Sizes, Word, STOP, HEAD, TAIL, CLEANER, ENTRY, kind_of, place, ready, slot_of_entry}
use Rattle.nv_core.specs.state.Cleaner.{Batch, TakeCleaner, Clean, Free, MoveTail}
use Rattle.nv_core.specs.state.Cleaner as cleaner
use Rattle.nv_core.specs.steps.CleanerSteps.{count_of}
use Rattle.nv_core.specs.steps.Ops.{Op, ByCleaner}
use Rattle.nv_core.specs.steps.Order.{Work}
use Rattle.nv_mount.specs.LoneWords.{word_then}
use Rattle.nv_table.specs.invariant.Idle.{IsIdle, IsLater}
use Rattle.nv_table.specs.state.States.{PassState}
use Rattle.nv_table.specs.state.Views.{pass_of}
use Rattle.nv_mirror.specs.Answers.{IsUnplaced}
use Rattle.nv_mirror.specs.PassSteps.{PassStep, HasMade, either_of}
use Rattle.nv_clean.specs.declared.batch.CleanRefusal.{CleanRefusal}
use Rattle.nv_clean.specs.declared.batch.CleanRefusal.TheVariants.{Idle, Busy, Stopped}
use Rattle.nv_clean.specs.declared.batch.CleanControl.{CleanControl}
use Rattle.nv_clean.specs.declared.batch.CleanControl.TheVariants as cleans
use Rattle.nv_clean.specs.declared.clean.CleanProgress.{CleanProgress}
use Rattle.nv_clean.specs.declared.clean.CleanProgress.TheVariants.{More, Ended}
use Rattle.nv_clean.specs.declared.clean.Cleaned.{Cleaned}
use Rattle.nv_clean.specs.Cleaning.{CleanState, IsOpen, IsUnderWay, calls_refusal}
use Rattle.nv_clean.specs.CleanSteps.{is_fault}
use Rattle.nv_clean.specs.OwnSteps.{AreOwn}
use Rattle.nv_clean.specs.Heeds.{HasSeenStop, IsHeld}
use Rattle.nv_clean.specs.Stored.{IsStored}
use Rattle.nv_clean.specs.WordsLeft.{ArePassing, cleaned_of, held_by, lowered_of}
use Rattle.nv_clean.specs.WholeGroups.{AreWholeGroups}

-- ---- what some steps of a batch came to, the last of them first

-- TAIL, as it was loaded
abbrev pub tail_by : Op → (found tail : ℕ) → ℕ
tail_by (ByCleaner (cleaner.Load TAIL)) found tail = found
tail_by op found tail = tail

abbrev pub tail_in : List PassStep → ℕ
tail_in [] = 0
tail_in (step ∷ earlier) = tail_by step.op step.found (tail_in earlier)

-- whether an entry was cleaned: then the first group is
abbrev pub is_clean : Op → Bool
is_clean (ByCleaner (Clean number)) = true
is_clean op = false

abbrev pub cleans_in : List PassStep → Bool
cleans_in [] = false
cleans_in (step ∷ earlier) = is_clean step.op || cleans_in earlier

-- whether an entry was freed, or TAIL moved
abbrev pub is_retiring : Op → Bool
is_retiring (ByCleaner (Free number)) = true
is_retiring (ByCleaner (MoveTail tail)) = true
is_retiring op = false

abbrev pub retires_in : List PassStep → Bool
retires_in [] = false
retires_in (step ∷ earlier) = is_retiring step.op || retires_in earlier

-- ---- why it cleaned nothing

-- a lock that was found held
abbrev pub busy_at : Sizes → Word → (found : ℕ) → Option CleanRefusal
busy_at sizes cell found = if found == 0 then None else Some (Busy (place sizes cell))

-- in its first group alone
abbrev pub unless_cleaned : (cleaned : Bool) → Option CleanRefusal → Option CleanRefusal
unless_cleaned cleaned refusal = if cleaned then None else refusal

-- What a step refuses its batch for, if it does, where this loaded TAIL as it was and has cleaned its first group, or not: CLEANER that is found held, and HEADER, a CLEANUP or a STORE
-- before the first group is cleaned; STOP that is found set; HEAD no higher than TAIL; the entry at the tail that isn't ready; and what came of the device calls before it, where STOP is set, or where
-- an entry of the first group is returned as ready.
abbrev pub refused_by : Sizes → (cleaned : Bool) (tail : ℕ) → List Work → Op → (found : ℕ) → Option CleanRefusal
refused_by sizes cleaned tail works (ByCleaner (TakeCleaner most)) found = busy_at sizes CLEANER found
refused_by sizes cleaned tail works (ByCleaner (cleaner.Take cell)) found = unless_cleaned cleaned (busy_at sizes cell found)
refused_by sizes cleaned tail works (ByCleaner (cleaner.Load STOP)) found = if found == 0 then None else Some Stopped
refused_by sizes cleaned tail works (ByCleaner (cleaner.Load HEAD)) found = if nat_lt tail found then None else Some (Idle tail)
refused_by sizes cleaned tail works (ByCleaner (cleaner.Load (ENTRY slot))) found =
    unless_cleaned cleaned (if slot == slot_of_entry sizes tail && not (kind_of found == ready) then Some (Idle tail) else None)
refused_by sizes cleaned tail works (ByCleaner (cleaner.Return number)) found = unless_cleaned cleaned (calls_refusal works)
refused_by sizes cleaned tail works (ByCleaner cleaner.Stop) found = calls_refusal works
refused_by sizes cleaned tail works op found = None

-- the first refusal among some steps
abbrev pub refusal_in : Sizes → List PassStep → Option CleanRefusal
refusal_in sizes [] = None
refusal_in sizes (step ∷ earlier) = either_of (refusal_in sizes earlier) (refused_by sizes (cleans_in earlier) (tail_in earlier) step.works step.op step.found)

-- ---- what it retired

-- how far TAIL was moved
abbrev pub retired_by : Op → (tail : ℕ) → Option ℕ
retired_by (ByCleaner (MoveTail to)) tail = Some (to - tail)
retired_by op tail = None

abbrev pub retired_in : List PassStep → Option ℕ
retired_in [] = None
retired_in (step ∷ earlier) = either_of (retired_in earlier) (retired_by step.op (tail_in earlier))

-- how many entries the first group has, as ENTRY of its leader said when it was loaded last, before anything was cleaned
abbrev pub count_by : Sizes → (cleaned : Bool) (tail : ℕ) → Op → (found count : ℕ) → ℕ
count_by sizes cleaned tail (ByCleaner (cleaner.Load (ENTRY slot))) found count = if not cleaned && slot == slot_of_entry sizes tail then count_of found else count
count_by sizes cleaned tail op found count = count

abbrev pub count_in : Sizes → List PassStep → ℕ
count_in sizes [] = 0
count_in sizes (step ∷ earlier) = count_by sizes (cleans_in earlier) (tail_in earlier) step.op step.found (count_in sizes earlier)

-- no more than its bound, but where that is the first group alone
abbrev pub KeepsTo : (most first retired : ℕ) → Type 0
KeepsTo most first retired = (retired ≤ most) ⊎ (retired ≡ first)

-- whether STOP was set
abbrev pub is_stop : Op → Bool
is_stop (ByCleaner cleaner.Stop) = true
is_stop op = false

abbrev pub stops_in : List PassStep → Bool
stops_in [] = false
stops_in (step ∷ earlier) = is_stop step.op || stops_in earlier

-- ---- what it is answered

abbrev pub answered_as : (refusal : Option CleanRefusal) → (retired : Option ℕ) → Option (Result Cleaned CleanRefusal)
answered_as (Some refusal) retired = Some (Err refusal)
answered_as None (Some count) = Some (Ok record { retired = count })
answered_as None None = None

abbrev pub clean_answer_in : Sizes → List PassStep → Option (Result Cleaned CleanRefusal)
clean_answer_in sizes steps = answered_as (refusal_in sizes steps) (retired_in steps)

-- the answer is that a device has failed
abbrev pub tells_fault : Result Cleaned CleanRefusal → Bool
tells_fault (Err refusal) = is_fault (Some refusal)
tells_fault (Ok cleaned) = false

-- or that it found STOP set
abbrev pub tells_stop : Result Cleaned CleanRefusal → Bool
tells_stop (Err Stopped) = true
tells_stop result = tells_fault result

-- they begin a batch of at most so many
abbrev pub BeginsWith : (most : ℕ) → List PassStep → Type 0
BeginsWith most [] = ⊥
BeginsWith most (step ∷ []) = step.op ≡ ByCleaner (TakeCleaner most)
BeginsWith most (step ∷ (other ∷ earlier)) = BeginsWith most (other ∷ earlier)

-- A whole batch: its steps are its own, and the answer is what they came to.
-- It has retired something, where it says so: whole groups from TAIL on as it was loaded, no more entries than its bound, but where those are the first group alone. That is stored, and TAIL is past it.
-- An entry was freed, or TAIL moved, exactly where it says so; and STOP was set by one of them exactly where the answer is that a device has failed.
-- Whatever the answer, it gave back all that it took or held, and lowered DIRTY of each page once for each entry of it that it cleaned. Where it is refused and no device has failed its steps left no word changed.
-- Its pass has seen STOP set where the answer tells that. One that had seen that keeps it, and cleans nothing. It is no call, so its pass keeps no fault of it.
pub record IsCleanOver (batch : ℕ) (start now : PassState) (result : Result Cleaned CleanRefusal) : Type 0 where
  pub steps : List PassStep
  pub made : HasMade steps start now
  pub own : AreOwn steps
  pub begins : BeginsWith batch steps
  pub answer : clean_answer_in start.view.opened.sizes steps ≡ Some result
  pub some : IfOk result (λ cleaned. 0 < cleaned.retired)
  pub whole : IfOk result (λ cleaned. AreWholeGroups start.view.opened.sizes steps (tail_in steps) cleaned.retired)
  pub bounded : IfOk result (λ cleaned. KeepsTo batch (count_in start.view.opened.sizes steps) cleaned.retired)
  pub stored : IfOk result (λ cleaned. IsStored now.view (tail_in steps + cleaned.retired))
  pub past : IfOk result (λ cleaned. (tail_in steps + cleaned.retired ≤ (pass_of now.view).tail) × ((pass_of now.view).tail ≤ word_then now.view TAIL))
  pub retires : retires_in steps ≡ is_ok result
  pub stops : stops_in steps ≡ tells_fault result
  pub held : held_by start.view.opened.sizes steps ≡ []
  pub dirty : (page : ℕ) → lowered_of page steps ≡ cleaned_of page steps
  pub left : (refusal : CleanRefusal) → result ≡ Err refusal → is_fault (Some refusal) ≡ false → ArePassing steps
  pub told : tells_stop result ≡ true → HasSeenStop now
  pub stays : HasSeenStop start → HasSeenStop now
  pub heeds : HasSeenStop start → (refusal : CleanRefusal) × (result ≡ Err refusal) × IsHeld start.view.opened.sizes refusal
  pub faults : (pass_of now.view).faulted ≡ (pass_of start.view).faulted

-- ---- a machine, and what its steps came to so far

-- it has made none yet, or began for at most so many
abbrev pub BegunFor : (most : ℕ) → CleanState → CleanControl → List PassStep → Type 0
BegunFor most m cleans.Begin steps = (steps ≡ []) × (m.batch.most ≡ most)
BegunFor most m control steps = BeginsWith most steps

-- Its refusal is theirs, and it has met a device fault where they set STOP; its pass has seen TAIL past what they retired, and where it is over and not refused, that is what it cleaned.
pub record IsTold (most : ℕ) (m : CleanState) (start now : PassState) : Type 0 where
  pub steps : List PassStep
  pub made : HasMade steps start now
  pub own : AreOwn steps
  pub begun : BegunFor most m m.control steps
  pub refused : m.refusal ≡ refusal_in start.view.opened.sizes steps
  pub stops : stops_in steps ≡ is_fault m.refusal
  pub moved : (count : ℕ) → retired_in steps ≡ Some count → tail_in steps + count ≤ (pass_of now.view).tail
  pub retired : m.control ≡ cleans.Over → m.refusal ≡ None → (retired_in steps ≡ Some (m.batch.reached - m.batch.tail)) × (m.batch.tail < m.batch.reached)

-- what it is answered once it is over
abbrev pub answer_at : Batch → Option CleanRefusal → Result Cleaned CleanRefusal
answer_at batch (Some refusal) = Err refusal
answer_at batch None = Ok record { retired = batch.reached - batch.tail }

abbrev pub answer_of : CleanState → Result Cleaned CleanRefusal
answer_of m = answer_at m.batch m.refusal

-- ---- a batch that makes one step at each advance

-- It has made some steps since a start, at which its pass was idle.
pub record IsBatchUnderWay (most : ℕ) (m : CleanState) (start now : PassState) : Type 0 where
  pub way : IsUnderWay m start now
  pub told : IsTold most m start now

-- It has told what a whole batch tells.
pub record HasEnded (most : ℕ) (start now : PassState) (result : Result Cleaned CleanRefusal) : Type 0 where
  pub idle : IsIdle now
  pub later : IsLater start now
  pub spare : now.spare ≡ start.spare
  pub kept : IsUnplaced start.view now.view
  pub over : IsCleanOver most start now result

-- it goes on, or has ended
abbrev pub BatchGoes : (most : ℕ) → (start : PassState) → CleanState → (now : PassState) → CleanProgress → Type 0
BatchGoes most start m now More = IsOpen m.control × IsBatchUnderWay most m start now
BatchGoes most start m now (Ended result) = HasEnded most start now result

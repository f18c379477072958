-- Said: what is written of what a command came to, and the status that it ends with.
use Rattle.std.specs.Prelude.{◌≡◌, ◌≢◌, ◌⊎◌, ◌≤◌, ℕ, List, ◌++◌, take, Option, Result, Ok, Err, IsOk}
use Rattle.std.specs.Global.{Vec}
use Rattle.nv_plain.specs.Faults.{Rose}
use Rattle.nv_trace.specs.Streams.{Appends}
use Rattle.nv_trace.specs.declared.bad_line.BadLine.{BadLine as Bad}
use Rattle.nv_open.specs.declared.error.Refusal.{Refusal}
use Rattle.nv_runner.specs.Histories.{PlacedCall}
use Rattle.nv_runner.specs.Reports.{history_lines}
use Rattle.nv_top.specs.Endings.{AppendsFront, memory_line}
use Rattle.nv_top.specs.Stops.{TakesMemory, stop_line, stop_status}
use Rattle.nv_top.specs.declared.ending.Stop.{Stop}
use Rattle.nv_top.specs.declared.ending.Stop.TheVariants.{Usage, BadLine, InputLong, Read, Write, Device, Region, Turns}
use Rattle.nv_top.specs.declared.ending.TheConstants.{DONE, USAGE, BAD_INPUT, READ_FAULT, WRITE_FAULT, DEVICE_FAULT, NO_MEMORY, BAD_REGION, TURNS_USED}

-- what a command comes to: the text of its report, or why there is none, behind what was shown before its end
abbrev pub Outcome : Type 0
Outcome = Result (Vec ℕ) Stop

-- its status
abbrev pub said_status : Outcome → ℕ
said_status (Ok text) = DONE
said_status (Err stop) = stop_status stop

-- and what is written of it: the report, or one line
abbrev pub said_text : Outcome → List ℕ
said_text (Ok text) = text.items
said_text (Err stop) = stop_line stop

-- its line takes memory
abbrev pub LineTakesMemory : Outcome → Type 0
LineTakesMemory (Ok text) = ⊥
LineTakesMemory (Err stop) = TakesMemory stop

-- A status and a text go with what a command came to: its own ones; or, where its line takes memory and there was not enough, those of that.
abbrev pub GoWith : Outcome → (status : ℕ) (text : List ℕ) → Type 0
GoWith came status text = ((status ≡ said_status came) × (text ≡ said_text came)) ⊎ (LineTakesMemory came × (status ≡ NO_MEMORY) × (text ≡ memory_line))

-- What the sink took of what was shown before a command's end, and of the text at its end, where its count of faults rose: a front of what was shown, where that ended the command; else all of it, and a front of the text.
abbrev pub IsCutShort : Outcome → (shown text : List ℕ) → (old new : Option (List ℕ)) → Type 0
IsCutShort came shown text old new = ((came ≡ Err Write) × AppendsFront old new shown) ⊎ ((count : ℕ) × Appends old new (shown ++ take count text))

-- What was written before a command's end: the lines of what it has shown, or a front of them, where the sink's fault ended it, whose count rose then alone.
pub record HasShown (came : Outcome) (shown : List PlacedCall) (old now : Option (List ℕ)) (before then : ℕ) : Type 0 where
  pub whole : came ≢ Err Write → Appends old now (history_lines 0 shown) × (then ≡ before)
  pub cut : came ≡ Err Write → AppendsFront old now (history_lines 0 shown) × Rose before then

-- The sink took what was shown and the whole text behind it, and the status is the one that goes with it; or its count of faults rose, it has taken a front of that, and the status is that of its fault.
pub record IsSaid (came : Outcome) (shown : List ℕ) (old new : Option (List ℕ)) (before now : ℕ) (result : ℕ) : Type 0 where
  pub status : ℕ
  pub text : List ℕ
  pub go : GoWith came status text
  pub ends : ((came ≢ Err Write) × (result ≡ status) × Appends old new (shown ++ text) × (now ≡ before)) ⊎ ((result ≡ WRITE_FAULT) × IsCutShort came shown text old new × Rose before now)

-- So each status but those of want of memory and of the sink's fault is of one kind of outcome, and a sink that failed before the end has its own.
pub record IsToldBy (result : ℕ) (came : Outcome) : Type 0 where
  pub one_of_nine : result ≤ TURNS_USED
  pub done : result ≡ DONE → IsOk came
  pub usage : result ≡ USAGE → came ≡ Err Usage
  pub bad_input : result ≡ BAD_INPUT → ((bad : Bad) × (came ≡ Err (BadLine bad))) ⊎ (came ≡ Err InputLong)
  pub read : result ≡ READ_FAULT → came ≡ Err Read
  pub device : result ≡ DEVICE_FAULT → came ≡ Err Device
  pub region : result ≡ BAD_REGION → (why : Refusal) × (came ≡ Err (Region why))
  pub turns : result ≡ TURNS_USED → came ≡ Err Turns
  pub write : came ≡ Err Write → result ≡ WRITE_FAULT

abbrev pub StatusesTellWhatCame : Type 0
StatusesTellWhatCame = (came : Outcome) (shown : List ℕ) (old new : Option (List ℕ)) (before now result : ℕ) → IsSaid came shown old new before now result → IsToldBy result came

-- Stops: the status and the line of each.
use Rattle.std.specs.Prelude.{◌≡◌, ◌⊎◌, ◌≤◌, ℕ, List, [], Result, Ok, Err}
use Rattle.nv_plain.specs.Faults.{Rose}
use Rattle.nv_mount.specs.declared.refusals.OpenError.{OpenError as MountError}
use Rattle.nv_mount.specs.declared.refusals.OpenError.TheVariants as mount_errors
use Rattle.nv_runner.specs.declared.run_error.RunError.{RunError}
use Rattle.nv_runner.specs.declared.run_error.RunError.TheVariants as run_errors
use Rattle.nv_open.specs.declared.error.OpenError.{OpenError}
use Rattle.nv_open.specs.declared.error.Refusal.TheVariants as refusals
use Rattle.nv_recover.specs.declared.error.RecoverError.{RecoverError}
use Rattle.nv_recover.specs.declared.error.RecoverError.TheVariants as recover_errors
use Rattle.nv_open.specs.declared.error.OpenError.TheVariants as open_errors
use Rattle.nv_trace.specs.Reading.{ending_of, Bad, Long}
use Rattle.nv_trace.specs.declared.trace.Form.{Form}
use Rattle.nv_trace.specs.declared.read_error.ReadError.{ReadError}
use Rattle.nv_trace.specs.declared.read_error.ReadError.TheVariants as read_errors
use Rattle.nv_words.specs.declared.words.WordsError.{WordsError}
use Rattle.nv_words.specs.declared.words.WordsError.TheVariants as words_errors
use Rattle.nv_top.specs.declared.ending.Stop.{Stop}
use Rattle.nv_top.specs.declared.ending.Stop.TheVariants.{Usage, BadLine, InputLong, Read, Write, Device, Region, NoMemory, Turns}
use Rattle.nv_top.specs.declared.ending.TheConstants.{USAGE, BAD_INPUT, READ_FAULT, WRITE_FAULT, DEVICE_FAULT, NO_MEMORY, BAD_REGION, TURNS_USED}
use Rattle.nv_top.specs.Endings.{usage_line, bad_line, long_line, read_line, device_line, memory_line, region_line, turns_line}

abbrev pub stop_status : Stop → ℕ
stop_status Usage = USAGE
stop_status (BadLine bad) = BAD_INPUT
stop_status InputLong = BAD_INPUT
stop_status Read = READ_FAULT
stop_status Write = WRITE_FAULT
stop_status Device = DEVICE_FAULT
stop_status (Region refusal) = BAD_REGION
stop_status NoMemory = NO_MEMORY
stop_status Turns = TURNS_USED

abbrev pub stop_line : Stop → List ℕ
stop_line Usage = usage_line
stop_line (BadLine bad) = bad_line bad
stop_line InputLong = long_line
stop_line Read = read_line
stop_line Write = []
stop_line Device = device_line
stop_line (Region refusal) = region_line refusal
stop_line NoMemory = memory_line
stop_line Turns = turns_line

-- why words that are no command stop the program
abbrev pub stop_of_words : WordsError → Stop
stop_of_words words_errors.Usage = Usage
stop_of_words words_errors.NoMemory = NoMemory

-- why an input that gave no trace stops the program
abbrev pub stop_of_read : ReadError → Stop
stop_of_read (read_errors.Bad bad) = BadLine bad
stop_of_read read_errors.InputLong = InputLong
stop_of_read read_errors.Failed = Read
stop_of_read read_errors.NoMemory = NoMemory

-- why a region that wasn't opened stops it
abbrev pub stop_of_opening : OpenError → Stop
stop_of_opening (open_errors.Refused refusal) = Region refusal
stop_of_opening open_errors.Fault = Device
stop_of_opening open_errors.NoMemory = NoMemory

-- why a mount that wasn't opened stops it
abbrev pub stop_of_mount : MountError → Stop
stop_of_mount mount_errors.StoreFault = Device
stop_of_mount mount_errors.NoMemory = NoMemory

-- why a run that wasn't brought to its end stops it
abbrev pub stop_of_run : RunError → Stop
stop_of_run run_errors.Fault = Device
stop_of_run run_errors.NoMemory = NoMemory

-- why a recovery that wasn't finished stops it
abbrev pub stop_of_recovery : RecoverError → Stop
stop_of_recovery (recover_errors.BadEntry number) = Region (refusals.BadEntry number)
stop_of_recovery recover_errors.RegionFault = Device
stop_of_recovery recover_errors.StoreFault = Device
stop_of_recovery recover_errors.NoMemory = NoMemory

-- What a bench may stop it for: a device's fault, only where the count of faults rose; and a region or want of memory, which leave
-- that.
abbrev pub StopHasCause : (before now : ℕ) → Stop → Type 0
StopHasCause before now Usage = ⊥
StopHasCause before now (BadLine bad) = ⊥
StopHasCause before now InputLong = ⊥
StopHasCause before now Read = ⊥
StopHasCause before now Write = ⊥
StopHasCause before now Device = Rose before now
StopHasCause before now (Region refusal) = now ≡ before
StopHasCause before now NoMemory = now ≡ before
StopHasCause before now Turns = ⊥

abbrev pub CountHasCause : {T : Type 0} → (before now : ℕ) → Result T Stop → Type 0
CountHasCause before now (Ok _) = now ≡ before
CountHasCause before now (Err stop) = StopHasCause before now stop

-- What a run may end for, while the count of faults doesn't fall: a device's fault, only where it rose, or want of memory.
abbrev pub MayEndRun : (before now : ℕ) → Stop → Type 0
MayEndRun before now Usage = ⊥
MayEndRun before now (BadLine bad) = ⊥
MayEndRun before now InputLong = ⊥
MayEndRun before now Read = ⊥
MayEndRun before now Write = ⊥
MayEndRun before now Device = Rose before now
MayEndRun before now (Region refusal) = ⊥
MayEndRun before now NoMemory = before ≤ now
MayEndRun before now Turns = ⊥

abbrev pub RunHasCause : {T : Type 0} → (before now : ℕ) → Result T Stop → Type 0
RunHasCause before now (Ok _) = before ≤ now
RunHasCause before now (Err stop) = MayEndRun before now stop

-- what a stop says of the input, which is read for this: it ends at a bad line, or is too long
abbrev pub IsCauseOf : Form → Stop → List ℕ → Type 0
IsCauseOf form (BadLine bad) input = ending_of form input ≡ Bad bad
IsCauseOf form InputLong input = ending_of form input ≡ Long
IsCauseOf form Usage input = Unit {0}
IsCauseOf form Read input = Unit {0}
IsCauseOf form Write input = Unit {0}
IsCauseOf form Device input = Unit {0}
IsCauseOf form (Region refusal) input = Unit {0}
IsCauseOf form NoMemory input = Unit {0}
IsCauseOf form Turns input = Unit {0}

-- A stop that neither the words, the input, the region nor a device is the cause of: memory was wanting, a token of a schedule has used its advances up, or the sink failed before the end of a run.
abbrev pub IsOwnStop : Stop → Type 0
IsOwnStop stop = (stop ≡ NoMemory) ⊎ ((stop ≡ Turns) ⊎ (stop ≡ Write))

-- a schedule was followed, to its end or up to a token that has used its advances up
abbrev pub IsFollowed : {T : Type 0} → Result T Stop → Type 0
IsFollowed (Ok _) = Unit {0}
IsFollowed (Err stop) = stop ≡ Turns

-- the words or the input stop it: before anything is opened, or of a run behind some rounds
abbrev pub ComesFromInput : Stop → Type 0
ComesFromInput Usage = Unit {0}
ComesFromInput (BadLine bad) = Unit {0}
ComesFromInput InputLong = Unit {0}
ComesFromInput Read = Unit {0}
ComesFromInput Write = ⊥
ComesFromInput Device = ⊥
ComesFromInput (Region refusal) = ⊥
ComesFromInput NoMemory = ⊥
ComesFromInput Turns = ⊥

-- the line of the stop takes memory
abbrev pub TakesMemory : Stop → Type 0
TakesMemory (BadLine bad) = Unit {0}
TakesMemory Usage = ⊥
TakesMemory InputLong = ⊥
TakesMemory Read = ⊥
TakesMemory Write = ⊥
TakesMemory Device = ⊥
TakesMemory (Region refusal) = Unit {0}
TakesMemory NoMemory = ⊥
TakesMemory Turns = ⊥

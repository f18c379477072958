-- Faulted: what a caller does at present, in which a device call has failed or none has.
use Rattle.std.specs.Prelude.{Bool, false, Option, Some, None, is_some}
use Rattle.nv_mirror.specs.declared.answers.Refusal.{Refusal}
use Rattle.nv_calls.specs.reads.ReadMachines as reads
use Rattle.nv_calls.specs.writes.WriteMachines as writes
use Rattle.nv_clean.specs.CleanSteps.{is_fault}
use Rattle.nv_clean.specs.Cleaning.{CleanState}
use Rattle.nv_schedule.specs.declared.hand.Hand.{Hand}
use Rattle.nv_schedule.specs.declared.hand.Hand.TheVariants.{Reading, Writing, ReadingParts, WritingParts, Syncing}

-- the fault of a device call in the present try of a call, once there was one
abbrev pub fault_at_hand : Hand → Option Refusal
fault_at_hand (Reading read) = reads.fault_so_far read.machine
fault_at_hand (Writing machine) = writes.fault_so_far machine
fault_at_hand (ReadingParts read) = reads.fault_so_far read.machine
fault_at_hand (WritingParts write) = writes.fault_so_far write.machine
fault_at_hand (Syncing machine) = None

-- one has failed in that try, or in the present batch
abbrev pub hand_faulted : Option Hand → Bool
hand_faulted None = false
hand_faulted (Some hand) = is_some (fault_at_hand hand)

abbrev pub batch_faulted : Option CleanState → Bool
batch_faulted None = false
batch_faulted (Some machine) = is_fault machine.refusal

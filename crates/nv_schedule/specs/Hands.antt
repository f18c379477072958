-- Hands: what a thread has at hand of its present call, and the next step of that.
use Rattle.std.specs.Prelude.{◌≡◌, ◌⊎◌, ℕ, Bool, false, List, [], length}
use Rattle.std.specs.List.{concat, sum}
use Rattle.nv_core.specs.state.Words.{Sizes}
use Rattle.nv_table.specs.state.States.{PassState}
use Rattle.nv_mount.specs.declared.fds.Fd.{Fd}
use Rattle.nv_op.specs.declared.kinds.Kind.{Kind}
use Rattle.nv_op.specs.declared.kinds.Kind.TheVariants.{Load}
use Rattle.nv_mirror.specs.PassSteps.{PassStep, HasTaken}
use Rattle.nv_cache.specs.ReadSteps.{first_kind}
use Rattle.nv_calls.specs.declared.progress.Progress.{Progress}
use Rattle.nv_calls.specs.declared.progress.Progress.TheVariants.{More, Ended}
use Rattle.nv_calls.specs.reads.ReadMachines as reads
use Rattle.nv_calls.specs.reads.ReadMachines.{IsReadUnderWay, IsReadvUnderWay}
use Rattle.nv_calls.specs.writes.WriteMachines as writes
use Rattle.nv_calls.specs.writes.WriteMachines.{IsWriteUnderWay, IsWritevUnderWay}
use Rattle.nv_calls.specs.fsync.SyncMachines as syncs
use Rattle.nv_calls.specs.fsync.SyncMachines.{IsSyncUnderWay}
use Rattle.nv_trace.specs.declared.trace_call.TraceCall.{TraceCall}
use Rattle.nv_trace.specs.declared.trace_call.TraceCall.TheVariants.{Pread, Pwrite, Preadv, Pwritev, Fsync}
use Rattle.nv_schedule.specs.declared.hand.Hand.{Hand}
use Rattle.nv_schedule.specs.declared.hand.Hand.TheVariants.{Reading, Writing, ReadingParts, WritingParts, Syncing}
use Rattle.nv_schedule.specs.Faults.{some_failed}
use Rattle.nv_schedule.specs.Tries.{IsTryOver}

-- the kind of the next step of a call that is under way
abbrev pub kind_at_hand : Sizes → Hand → Kind
kind_at_hand sizes (Reading read) = reads.next_kind_of sizes read.machine
kind_at_hand sizes (Writing machine) = writes.next_kind_of machine
kind_at_hand sizes (ReadingParts read) = reads.next_kind_of sizes read.machine
kind_at_hand sizes (WritingParts write) = writes.next_kind_of write.machine
kind_at_hand sizes (Syncing machine) = syncs.next_kind_of machine

-- and of one that hasn't begun, unless it is refused before its first step
abbrev pub kind_at_first : TraceCall → Kind
kind_at_first (Pread fd at len) = first_kind len
kind_at_first (Pwrite fd at bytes) = first_kind (length bytes)
kind_at_first (Preadv fd at lens) = first_kind (sum lens)
kind_at_first (Pwritev fd at parts) = first_kind (length (concat parts))
kind_at_first (Fsync fd) = Load

-- what a read has in its list, or in the room of its parts
abbrev pub list_at_hand : Hand → List ℕ
list_at_hand (Reading read) = read.list.items
list_at_hand (ReadingParts read) = read.parts.list
list_at_hand hand = []

-- A pass has made one step, behind the device calls that lie before it; or none, where this allows it. Where no device call had failed in the present call before, this says whether one of these has.
abbrev pub IsOneOrNoStep : (allowed : Type 0) → (was faulted : Bool) → (old new : PassState) → Type 0
IsOneOrNoStep allowed was faulted old new = ((new ≡ old) × (faulted ≡ was) × allowed) ⊎ ((step : PassStep) × HasTaken step old new × (was ≡ false → some_failed step.works ≡ faulted))

-- A call is tried: it is under way since a start, at which its pass was idle.
abbrev pub IsTrying : List Fd → TraceCall → Hand → (begun now : PassState) → Type 0
IsTrying fds call (Reading read) begun now = (call ≡ Pread read.machine.fd read.machine.at read.machine.len) × IsReadUnderWay fds read.machine read.list.items begun now
IsTrying fds call (Writing machine) begun now = (bytes : List ℕ) × (call ≡ Pwrite machine.fd machine.at bytes) × IsWriteUnderWay fds machine bytes begun now
IsTrying fds call (ReadingParts read) begun now =
    (call ≡ Preadv read.machine.fd read.machine.at read.parts.lens) × (sum read.parts.lens ≡ read.machine.len) × IsReadvUnderWay fds read.machine read.parts begun now
IsTrying fds call (WritingParts write) begun now = (call ≡ Pwritev write.machine.fd write.machine.at write.parts) × IsWritevUnderWay fds write.machine write.parts begun now
IsTrying fds call (Syncing machine) begun now = (call ≡ Fsync machine.fd) × IsSyncUnderWay fds machine begun now

-- the try goes on, or is over
abbrev pub TryGoes : List Fd → TraceCall → Hand → (begun now : PassState) → Progress → Type 0
TryGoes fds call hand begun now More = IsTrying fds call hand begun now
TryGoes fds call hand begun now (Ended result) = IsTryOver fds call (list_at_hand hand) begun now result

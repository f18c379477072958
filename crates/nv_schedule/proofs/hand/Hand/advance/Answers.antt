-- The try goes on as its machine does, of the bytes that the call has.
use Rattle.std.proofs.Common.{◌≡◌, ℕ, List, [], take, refl, sym, ap, subst, ◌∙◌}
use Rattle.std.specs.Prelude.{Option, Some, None, is_some}
use Rattle.nv_plain.specs.Modes.{can_read, can_write}
use Rattle.nv_calls.specs.calls.EarlyRefusals.{early_refusal}
use Rattle.nv_calls.specs.fsync.SyncRuns.{file_of_fd}
use Rattle.nv_calls.specs.fsync.SyncMachines as syncs
use Rattle.nv_calls.specs.reads.ReadMachines as reads
use Rattle.nv_calls.specs.writes.WriteMachines as writes
use Rattle.nv_calls.specs.writes.WriteMachines.{IsWriteUnderWay, WriteGoes}
use Rattle.nv_schedule.specs.declared.hand.Hand.{Hand}
use Rattle.nv_schedule.specs.declared.hand.Hand.TheVariants.{Reading, Writing, ReadingParts, WritingParts, Syncing}
use Rattle.nv_schedule.specs.declared.hand.ReadvAtHand.{ReadvAtHand}
use Rattle.nv_schedule.specs.declared.hand.WritevAtHand.{WritevAtHand}
use Rattle.nv_runner.specs.Refusals.{early_of_call, unless_file}
use Rattle.nv_plain.specs.Calls.{filled}
use Rattle.nv_plain.specs.declared.call.Reply.TheVariants as replies
use Rattle.nv_trace.specs.declared.trace_call.TraceCall.{TraceCall}
use Rattle.nv_schedule.specs.Tries.{reply_to}
use Rattle.nv_schedule.specs.Barred.{IsRefusedEarly}
use Rattle.nv_schedule.specs.Faulted.{fault_at_hand}
use Rattle.nv_schedule.specs.Hands.{IsOneOrNoStep, IsTrying}
use Rattle.nv_schedule.proofs.FaultLaws.{behind_call, call_tells}
use Rattle.nv_schedule.proofs.turns.HandLaws.{read_goes, readv_goes, sync_goes, same_bytes, write_goes, writev_goes}
use Rattle.nv_schedule.proofs.turns.WayLaws.{of_trying}
use Rattle.nv_schedule.proofs.hand.Hand.advance.Goals as goal

pub returns-in-Reading-clause-goes : goal.returns-in-Reading-clause-goes
returns-in-Reading-clause-goes g c = λ begun trying.
    let way = subst (λ (hand : Hand). IsTrying c.args.mount.now.fds c.args.call.now hand begun c.args.pass.now) c.in-Reading.is trying in
    read_goes c.args.mount.now.fds c.args.call.now c.in-Reading.read c.advance.new.self begun c.args.pass.now c.advance.new.pass c.advance.ensures.same c.advance.ensures.size way c.advance.result
    (c.advance.ensures.goes begun way.1)

pub returns-in-Pwrite-clause-goes : goal.returns-in-Pwrite-clause-goes
returns-in-Pwrite-clause-goes g c = λ begun trying.
    let way = subst (λ (hand : Hand). IsTrying c.args.mount.now.fds c.args.call.now hand begun c.args.pass.now) c.in-Writing.is trying in
    let same = same_bytes c.args.call.now c.in-Writing.machine.fd c.in-Writing.machine.at c.in-Pwrite.fd c.in-Pwrite.at way.0 c.in-Pwrite.bytes c.as_slice.result.now way.1 c.in-Pwrite.is c.as_slice.ensures in
    write_goes c.args.mount.now.fds c.args.call.now c.in-Writing.machine c.advance-in-Writing.new.self begun c.args.pass.now c.advance-in-Writing.new.pass c.advance-in-Writing.ensures.same way c.advance-in-Writing.result
    (subst (λ (bytes : List ℕ). WriteGoes c.args.mount.now.fds begun c.advance-in-Writing.new.self bytes c.advance-in-Writing.new.pass c.advance-in-Writing.result) (sym same)
    (c.advance-in-Writing.ensures.goes begun (subst (λ (bytes : List ℕ). IsWriteUnderWay c.args.mount.now.fds c.in-Writing.machine bytes begun c.args.pass.now) same way.2)))

pub returns-in-ReadingParts-clause-goes : goal.returns-in-ReadingParts-clause-goes
returns-in-ReadingParts-clause-goes g c = λ begun trying.
    let way = subst (λ (hand : Hand). IsTrying c.args.mount.now.fds c.args.call.now hand begun c.args.pass.now) c.in-ReadingParts.is trying in
    let new : ReadvAtHand = record { machine = c.advance-in-ReadingParts.new.machine; parts = c.advance-in-ReadingParts.new.self } in
    readv_goes c.args.mount.now.fds c.args.call.now c.in-ReadingParts.read new begun c.args.pass.now c.advance-in-ReadingParts.new.pass c.advance-in-ReadingParts.ensures.same c.advance-in-ReadingParts.ensures.lens c.advance-in-ReadingParts.ensures.size
    way c.advance-in-ReadingParts.result (c.advance-in-ReadingParts.ensures.goes begun way.2)

pub returns-in-WritingParts-clause-goes : goal.returns-in-WritingParts-clause-goes
returns-in-WritingParts-clause-goes g c = λ begun trying.
    let way = subst (λ (hand : Hand). IsTrying c.args.mount.now.fds c.args.call.now hand begun c.args.pass.now) c.in-WritingParts.is trying in
    let new : WritevAtHand = record { machine = c.advance_parts.new.self; parts = c.in-WritingParts.write.parts } in
    writev_goes c.args.mount.now.fds c.args.call.now c.in-WritingParts.write new begun c.args.pass.now c.advance_parts.new.pass c.advance_parts.ensures.same refl way c.advance_parts.result (c.advance_parts.ensures.goes begun way.1)

pub returns-in-Syncing-clause-goes : goal.returns-in-Syncing-clause-goes
returns-in-Syncing-clause-goes g c = λ begun trying.
    let way = subst (λ (hand : Hand). IsTrying c.args.mount.now.fds c.args.call.now hand begun c.args.pass.now) c.in-Syncing.is trying in
    sync_goes c.args.mount.now.fds c.args.call.now c.in-Syncing.machine c.advance-in-Syncing.new.self begun c.args.pass.now c.advance-in-Syncing.new.pass c.advance-in-Syncing.ensures.fd way c.advance-in-Syncing.result
    (c.advance-in-Syncing.ensures.goes begun way.1)

pub returns-in-Reading-clause-moved : goal.returns-in-Reading-clause-moved
returns-in-Reading-clause-moved g c =
    let fds = c.args.mount.now.fds in
    let old = c.args.pass.now in
    let new = c.advance.new.pass in
    let sizes = old.view.opened.sizes in
    let machine = c.in-Reading.read.machine in
    let way = of_trying fds c.args.call.now c.args.self.now c.requires.trying.0 old c.requires.trying.1 in
    let at = behind_call c.runs_are_sound.ensures.runs c.passes_are_left_alone.ensures.own c.requires.trying.0 old way.idle c.sees_a_run.ensures.mount way.behind in
    let trying = subst (λ (hand : Hand). IsTrying fds c.args.call.now hand c.requires.trying.0 old) c.in-Reading.is c.requires.trying.1 in
    subst (λ (hand : Hand). IsOneOrNoStep (IsRefusedEarly old.view.opened.sizes fds c.args.call.now c.advance.result) (is_some (fault_at_hand hand)) (is_some (fault_at_hand (Reading c.advance.new.self))) old new) (sym c.in-Reading.is)
    (call_tells (IsRefusedEarly old.view.opened.sizes fds c.args.call.now c.advance.result) (reads.standing sizes) (reads.early_of sizes fds machine) machine c.advance.new.self.machine old new c.advance.result (λ refusal early ended. record { refusal = refusal; early = ap (early_of_call sizes fds) trying.0 ∙ early; ended = ended }) c.advance.ensures.one at)

pub returns-in-Pwrite-clause-moved : goal.returns-in-Pwrite-clause-moved
returns-in-Pwrite-clause-moved g c =
    let fds = c.args.mount.now.fds in
    let old = c.args.pass.now in
    let new = c.advance-in-Writing.new.pass in
    let machine = c.in-Writing.machine in
    let way = of_trying fds c.args.call.now c.args.self.now c.requires.trying.0 old c.requires.trying.1 in
    let at = behind_call c.runs_are_sound.ensures.runs c.passes_are_left_alone.ensures.own c.requires.trying.0 old way.idle c.sees_a_run.ensures.mount way.behind in
    let trying = subst (λ (hand : Hand). IsTrying fds c.args.call.now hand c.requires.trying.0 old) c.in-Writing.is c.requires.trying.1 in
    subst (λ (hand : Hand). IsOneOrNoStep (IsRefusedEarly old.view.opened.sizes fds c.args.call.now c.advance-in-Writing.result) (is_some (fault_at_hand hand)) (is_some (fault_at_hand (Writing c.advance-in-Writing.new.self))) old new) (sym c.in-Writing.is)
    (call_tells (IsRefusedEarly old.view.opened.sizes fds c.args.call.now c.advance-in-Writing.result) writes.standing (writes.early_of old.view.opened.sizes fds machine) machine c.advance-in-Writing.new.self old new c.advance-in-Writing.result (λ refusal early ended. record { refusal = refusal; early = ap (early_of_call old.view.opened.sizes fds) trying.1 ∙ ap (λ n. early_refusal can_write old.view.opened.sizes fds machine.fd machine.at n) trying.2.room ∙ early; ended = ended }) c.advance-in-Writing.ensures.one at)

pub returns-in-ReadingParts-clause-moved : goal.returns-in-ReadingParts-clause-moved
returns-in-ReadingParts-clause-moved g c =
    let fds = c.args.mount.now.fds in
    let old = c.args.pass.now in
    let new = c.advance-in-ReadingParts.new.pass in
    let sizes = old.view.opened.sizes in
    let machine = c.in-ReadingParts.read.machine in
    let way = of_trying fds c.args.call.now c.args.self.now c.requires.trying.0 old c.requires.trying.1 in
    let at = behind_call c.runs_are_sound.ensures.runs c.passes_are_left_alone.ensures.own c.requires.trying.0 old way.idle c.sees_a_run.ensures.mount way.behind in
    let trying = subst (λ (hand : Hand). IsTrying fds c.args.call.now hand c.requires.trying.0 old) c.in-ReadingParts.is c.requires.trying.1 in
    let hand = ReadingParts (record { machine = c.advance-in-ReadingParts.new.machine; parts = c.advance-in-ReadingParts.new.self }) in
    subst (λ (was : Hand). IsOneOrNoStep (IsRefusedEarly sizes fds c.args.call.now c.advance-in-ReadingParts.result) (is_some (fault_at_hand was)) (is_some (fault_at_hand hand)) old new) (sym c.in-ReadingParts.is)
    (call_tells (IsRefusedEarly sizes fds c.args.call.now c.advance-in-ReadingParts.result) (reads.standing sizes) (reads.early_of sizes fds machine) machine c.advance-in-ReadingParts.new.machine old new c.advance-in-ReadingParts.result
    (λ refusal early ended. record { refusal = refusal; early = ap (early_of_call sizes fds) trying.0 ∙ ap (early_refusal can_read sizes fds machine.fd machine.at) trying.1 ∙ early; ended = ended }) c.advance-in-ReadingParts.ensures.one at)

pub returns-in-WritingParts-clause-moved : goal.returns-in-WritingParts-clause-moved
returns-in-WritingParts-clause-moved g c =
    let fds = c.args.mount.now.fds in
    let old = c.args.pass.now in
    let new = c.advance_parts.new.pass in
    let sizes = old.view.opened.sizes in
    let machine = c.in-WritingParts.write.machine in
    let way = of_trying fds c.args.call.now c.args.self.now c.requires.trying.0 old c.requires.trying.1 in
    let at = behind_call c.runs_are_sound.ensures.runs c.passes_are_left_alone.ensures.own c.requires.trying.0 old way.idle c.sees_a_run.ensures.mount way.behind in
    let trying = subst (λ (hand : Hand). IsTrying fds c.args.call.now hand c.requires.trying.0 old) c.in-WritingParts.is c.requires.trying.1 in
    let hand = WritingParts (record { machine = c.advance_parts.new.self; parts = c.in-WritingParts.write.parts }) in
    subst (λ (was : Hand). IsOneOrNoStep (IsRefusedEarly sizes fds c.args.call.now c.advance_parts.result) (is_some (fault_at_hand was)) (is_some (fault_at_hand hand)) old new) (sym c.in-WritingParts.is)
    (call_tells (IsRefusedEarly sizes fds c.args.call.now c.advance_parts.result) writes.standing (writes.early_of sizes fds machine) machine c.advance_parts.new.self old new c.advance_parts.result
    (λ refusal early ended. record { refusal = refusal; early = ap (early_of_call sizes fds) trying.0 ∙ ap (early_refusal can_write sizes fds machine.fd machine.at) trying.1.room ∙ early; ended = ended }) c.advance_parts.ensures.one at)

same_file : (file : Option ℕ) → unless_file file ≡ syncs.early_of_file file
same_file None = refl
same_file (Some file) = refl

pub returns-in-Syncing-clause-moved : goal.returns-in-Syncing-clause-moved
returns-in-Syncing-clause-moved g c =
    let fds = c.args.mount.now.fds in
    let old = c.args.pass.now in
    let new = c.advance-in-Syncing.new.pass in
    let machine = c.in-Syncing.machine in
    let way = of_trying fds c.args.call.now c.args.self.now c.requires.trying.0 old c.requires.trying.1 in
    let at = behind_call c.runs_are_sound.ensures.runs c.passes_are_left_alone.ensures.own c.requires.trying.0 old way.idle c.sees_a_run.ensures.mount way.behind in
    let trying = subst (λ (hand : Hand). IsTrying fds c.args.call.now hand c.requires.trying.0 old) c.in-Syncing.is c.requires.trying.1 in
    subst (λ (hand : Hand). IsOneOrNoStep (IsRefusedEarly old.view.opened.sizes fds c.args.call.now c.advance-in-Syncing.result) (is_some (fault_at_hand hand)) (is_some (fault_at_hand (Syncing c.advance-in-Syncing.new.self))) old new) (sym c.in-Syncing.is)
    (call_tells (IsRefusedEarly old.view.opened.sizes fds c.args.call.now c.advance-in-Syncing.result) syncs.standing (syncs.early_of fds machine) machine c.advance-in-Syncing.new.self old new c.advance-in-Syncing.result (λ refusal early ended. record { refusal = refusal; early = ap (early_of_call old.view.opened.sizes fds) trying.0 ∙ same_file (file_of_fd fds machine.fd) ∙ early; ended = ended }) c.advance-in-Syncing.ensures.one at)

pub returns-in-Reading-clause-replies : goal.returns-in-Reading-clause-replies
returns-in-Reading-clause-replies g c = λ len.
    let trying = subst (λ (hand : Hand). IsTrying c.args.mount.now.fds c.args.call.now hand c.requires.trying.0 c.args.pass.now) c.in-Reading.is c.requires.trying.1 in
    ap (λ (call : TraceCall). reply_to call c.advance.new.self.list.items len) (sym trying.0)

pub returns-in-Pwrite-clause-replies : goal.returns-in-Pwrite-clause-replies
returns-in-Pwrite-clause-replies g c = λ len.
    let trying = subst (λ (hand : Hand). IsTrying c.args.mount.now.fds c.args.call.now hand c.requires.trying.0 c.args.pass.now) c.in-Writing.is c.requires.trying.1 in
    ap (λ (call : TraceCall). reply_to call [] len) (sym trying.1)

pub returns-in-ReadingParts-clause-replies : goal.returns-in-ReadingParts-clause-replies
returns-in-ReadingParts-clause-replies g c = λ len.
    let trying = subst (λ (hand : Hand). IsTrying c.args.mount.now.fds c.args.call.now hand c.requires.trying.0 c.args.pass.now) c.in-ReadingParts.is c.requires.trying.1 in
    ap (λ (lens : List ℕ). replies.Parts (filled lens (take len c.advance-in-ReadingParts.new.self.list))) c.advance-in-ReadingParts.ensures.lens ∙ ap (λ (call : TraceCall). reply_to call c.advance-in-ReadingParts.new.self.list len) (sym trying.0)

pub returns-in-WritingParts-clause-replies : goal.returns-in-WritingParts-clause-replies
returns-in-WritingParts-clause-replies g c = λ len.
    let trying = subst (λ (hand : Hand). IsTrying c.args.mount.now.fds c.args.call.now hand c.requires.trying.0 c.args.pass.now) c.in-WritingParts.is c.requires.trying.1 in
    ap (λ (call : TraceCall). reply_to call [] len) (sym trying.0)

pub returns-in-Syncing-clause-replies : goal.returns-in-Syncing-clause-replies
returns-in-Syncing-clause-replies g c = λ len.
    let trying = subst (λ (hand : Hand). IsTrying c.args.mount.now.fds c.args.call.now hand c.requires.trying.0 c.args.pass.now) c.in-Syncing.is c.requires.trying.1 in
    ap (λ (call : TraceCall). reply_to call [] len) (sym trying.0)

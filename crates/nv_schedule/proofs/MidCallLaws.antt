-- Mid-calls: whether a call that stands in mid-call is a write in flight.
use Rattle.std.proofs.Common.{◌≡◌, ℕ, nat_lt, Bool, true, false, List, [], ◌∷◌, ◌++◌, length, refl, sym, ap, subst, ◌∙◌}
use Rattle.std.specs.Borrow.{Bor}
use Rattle.std.specs.Prelude.{Option, Some, None}
use Rattle.std.specs.List.{concat, flat_map}
use Rattle.std.proofs.lemmas.Bool.{lt-ltb}
use Rattle.nv_plain.specs.declared.call.FileCall.{FileCall}
use Rattle.nv_plain.specs.declared.call.FileCall.TheVariants.{Read, Write}
use Rattle.nv_plain.specs.declared.call.Reply.{Reply}
use Rattle.nv_plain.specs.declared.call.Reply.TheVariants as replies
use Rattle.nv_core.specs.invariant.InvariantLaws.{RunsAreSound}
use Rattle.nv_core.specs.state.Passes.{is_write, len_of}
use Rattle.nv_core.specs.steps.Frames.{OwnEventsTell}
use Rattle.nv_core.specs.steps.Opening.{IsMount}
use Rattle.nv_table.specs.invariant.Drawn.{drawn_by}
use Rattle.nv_table.specs.state.Opened.{mount_of}
use Rattle.nv_table.specs.state.States.{PassState}
use Rattle.nv_mount.specs.declared.fds.Fd.{Fd}
use Rattle.nv_op.specs.Ops.{call_asked}
use Rattle.nv_mirror.specs.Fronts as front
use Rattle.nv_mirror.specs.Fronts.{front_call_of, front_control_at}
use Rattle.nv_mirror.specs.Loads.{load_call_of}
use Rattle.nv_mirror.specs.Releases as release
use Rattle.nv_mirror.specs.Releases.{release_call_of, release_control_at}
use Rattle.nv_mirror.specs.PassSteps.{either_of}
use Rattle.nv_mirror.specs.declared.answers.Done.{Done}
use Rattle.nv_mirror.specs.declared.front.FrontControl.{FrontControl}
use Rattle.nv_mirror.specs.declared.front.FrontControl.TheVariants as fronts
use Rattle.nv_mirror.specs.declared.front.FrontMachine.{FrontMachine}
use Rattle.nv_mirror.specs.declared.release.ReleaseControl.{ReleaseControl}
use Rattle.nv_mirror.specs.declared.release.ReleaseControl.TheVariants as releases
use Rattle.nv_mirror.specs.declared.release.ReleaseMachine.{ReleaseMachine}
use Rattle.nv_cache.specs.declared.read.RunningRead.{RunningRead}
use Rattle.nv_cache.specs.declared.read.RunningRead.TheVariants as running_reads
use Rattle.nv_cache.specs.RunningReads as read
use Rattle.nv_cache.specs.Searches.{search_call_of}
use Rattle.nv_ring.specs.Appends as append
use Rattle.nv_ring.specs.Appends.{append_call_of, append_place_at}
use Rattle.nv_ring.specs.Draws as draw
use Rattle.nv_ring.specs.Draws.{draw_call_of, draw_mirror_at, draw_refusal_at}
use Rattle.nv_ring.specs.RunningWrites as write
use Rattle.nv_ring.specs.WriteSteps.{with_list, write_place}
use Rattle.nv_ring.specs.declared.append.AppendControl.{AppendControl}
use Rattle.nv_ring.specs.declared.append.AppendControl.TheVariants as appends
use Rattle.nv_ring.specs.declared.append.AppendMachine.{AppendMachine}
use Rattle.nv_ring.specs.declared.numbers.DrawControl.{DrawControl}
use Rattle.nv_ring.specs.declared.numbers.DrawControl.TheVariants as draws
use Rattle.nv_ring.specs.declared.numbers.DrawMachine.{DrawMachine}
use Rattle.nv_ring.specs.declared.write.RunningWrite.{RunningWrite}
use Rattle.nv_ring.specs.declared.write.RunningWrite.TheVariants as running_writes
use Rattle.nv_calls.specs.calls.Asks.{asks_read, asks_readv, asks_write, asks_writev}
use Rattle.nv_calls.specs.declared.reading.ReadMachine.{ReadMachine}
use Rattle.nv_calls.specs.declared.writing.WriteMachine.{WriteMachine}
use Rattle.nv_calls.specs.calls.CallAnswers.{done_at}
use Rattle.nv_calls.specs.declared.reading.ReadControl.{ReadControl}
use Rattle.nv_calls.specs.declared.reading.ReadControl.TheVariants as read_controls
use Rattle.nv_calls.specs.declared.syncing.SyncControl.{SyncControl}
use Rattle.nv_calls.specs.declared.syncing.SyncControl.TheVariants as sync_controls
use Rattle.nv_calls.specs.declared.writing.WriteControl.{WriteControl}
use Rattle.nv_calls.specs.declared.writing.WriteControl.TheVariants as write_controls
use Rattle.nv_calls.specs.fsync.SyncMachines as syncs
use Rattle.nv_calls.specs.fsync.SyncRuns.{file_of_fd}
use Rattle.nv_calls.specs.histories.Faults.{OpenWrite, open_writes}
use Rattle.nv_calls.specs.reads.ReadMachines as reads
use Rattle.nv_calls.specs.writes.WriteMachines as writes
use Rattle.nv_trace.specs.declared.trace_call.TraceCall.TheVariants.{Pwrite, Pwritev}
use Rattle.nv_trace.specs.declared.trace_call.TracedCall.{TracedCall}
use Rattle.nv_runner.specs.declared.answer.Answer.{Answer}
use Rattle.nv_runner.specs.Calls.{fd_of, opened_on}
use Rattle.nv_runner.specs.OpenRuns.{open_of}
use Rattle.nv_runner.specs.Sorted.{opened_calls}
use Rattle.nv_schedule.specs.declared.hand.Hand.{Hand}
use Rattle.nv_schedule.specs.declared.hand.Hand.TheVariants.{Reading, Writing, ReadingParts, WritingParts, Syncing}
use Rattle.nv_schedule.specs.Hands.{IsTrying}
use Rattle.nv_schedule.specs.Listed.{ends_by_fault, has_drawn, listed_as, open_answer, placed_answer, reply_at_hand, told_at_hand}
use Rattle.nv_schedule.proofs.FlightLaws.{FliesSo, IsClear, at_hand_call, clear_call, idle_flights, open_flights, shows_control, shows_drawing, shows_reading, unwritten_call}

-- the open writes among a call as it is listed, if it is
abbrev pub opened_as : List Fd → TracedCall → Option Answer → List OpenWrite
opened_as fds call answer = flat_map (open_of fds) (opened_calls (listed_as call answer))

module _ (sound : RunsAreSound) (tell : OwnEventsTell) where
  -- ---- a read

  of_read : (file at len : ℕ) (list room : List ℕ) (begun now : PassState) (r : RunningRead) → IsMount (mount_of begun.view.opened) → read.IsOpen r → read.StandsAt (Read file at len) r list room begun now
      → open_flights now ≡ open_writes begun
  of_read file at len list room begun now (running_reads.Pageless m) mount open_ s = unwritten_call _ shows_control (call_asked m.asked) _ _ _ begun now sound tell mount _ s.1.1 refl (ap is_write s.0)
  of_read file at len list room begun now (running_reads.Front m) mount open_ s = unwritten_call _ shows_control (front_call_of m) _ _ _ begun now sound tell mount _ s.1.1 refl (ap is_write s.0)
  of_read file at len list room begun now (running_reads.Search of_ m) mount open_ s =
      unwritten_call _ shows_control (search_call_of m) _ _ _ begun now sound tell mount _ s.3.called refl (ap is_write (ap search_call_of s.2 ∙ s.0))
  of_read file at len list room begun now (running_reads.Load of_ m) mount open_ s =
      unwritten_call _ shows_reading (load_call_of m) _ _ _ begun now sound tell mount _ s.3.1.called refl (ap is_write (ap load_call_of s.2 ∙ s.0))
  of_read file at len list room begun now (running_reads.TakePlace m) mount open_ s = unwritten_call _ shows_control _ _ _ _ begun now sound tell mount _ s.2.1.called refl (ap is_write s.0)
  of_read file at len list room begun now (running_reads.Release m copied) mount open_ s = unwritten_call _ shows_control (release_call_of m) _ _ _ begun now sound tell mount _ s.1.1 refl (ap is_write s.0)
  of_read file at len list room begun now (running_reads.Over result) mount open_ s = absurd open_

  -- ---- a write

  -- in flight where it has drawn and has no place
  abbrev flies : Option Done → (has_drawn : Bool) → Bool
  flies (Some done) has_drawn = false
  flies None has_drawn = has_drawn

  none_flies : (done : Option Done) → flies done false ≡ false
  none_flies None = refl
  none_flies (Some done) = refl

  front_clear : (m : FrontMachine) (control : FrontControl) → front.IsOpen control → IsClear (front_control_at m control)
  front_clear m fronts.Passed open_ = absurd open_
  front_clear m (fronts.Over refusal) open_ = absurd open_
  front_clear m control open_ = (λ pass. refl, λ first write lost. refl)

  release_clear : (m : ReleaseMachine) (control : ReleaseControl) → release.IsOpen control → IsClear (release_control_at m control)
  release_clear m releases.Over open_ = absurd open_
  release_clear m control open_ = (λ pass. refl, λ first write lost. refl)

  module _ (file at len : ℕ) (bytes : List ℕ) (begun now : PassState) (mount : IsMount (mount_of begun.view.opened)) where
    abbrev write_call : FileCall
    write_call = Write file at bytes

    -- its numbers are those of a draw
    of_draw : (m : DrawMachine) (control : DrawControl) → draw.IsOpen control → is_write (draw_call_of m) ≡ true → draw.IsInCall m control begun now → FliesSo false (draw_call_of m) begun now
    of_draw m draws.LoadHead open_ some c = clear_call _ shows_drawing (draw_call_of m) _ _ _ begun now sound tell mount None c.called refl some (λ pass. refl, λ first write lost. refl)
    of_draw m draws.LoadTail open_ some c = clear_call _ shows_drawing (draw_call_of m) _ _ _ begun now sound tell mount None c.called refl some (λ pass. refl, λ first write lost. refl)
    of_draw m draws.DrawNumbers open_ some c = clear_call _ shows_drawing (draw_call_of m) _ _ _ begun now sound tell mount None c.called refl some (λ pass. refl, λ first write lost. refl)
    of_draw m draws.Drawn open_ some c = absurd open_
    of_draw m (draws.Refused refusal) open_ some c = absurd open_

    of_append : (m : AppendMachine) (control : AppendControl) → append.IsOpen control → is_write (append_call_of m) ≡ true → append.IsInCall m control begun now
        → FliesSo (flies (done_at len (append_place_at m control)) true) (append_call_of m) begun now
    of_append m (appends.SeizeEntry seized) open_ some c = at_hand_call _ shows_drawing (append_call_of m) _ _ _ begun now sound tell mount c.called refl some refl (λ pass. refl, λ first lost. refl)
    of_append m appends.CommitGroup open_ some c = at_hand_call _ shows_drawing (append_call_of m) _ _ _ begun now sound tell mount c.called refl some refl (λ pass. refl, λ first lost. refl)
    of_append m (appends.PledgePage pledged) open_ some c = at_hand_call _ shows_drawing (append_call_of m) _ _ _ begun now sound tell mount c.called refl some refl (λ pass. refl, λ first lost. refl)
    of_append m (appends.ReadyEntry ready) open_ some c = at_hand_call _ shows_drawing (append_call_of m) _ _ _ begun now sound tell mount c.called refl some refl (λ pass. refl, λ first lost. refl)
    of_append m appends.TakePlace open_ some c = at_hand_call _ shows_drawing (append_call_of m) _ _ _ begun now sound tell mount c.called refl some refl (λ pass. refl, λ first lost. refl)
    of_append m appends.GrowLength open_ some c = clear_call _ shows_drawing (append_call_of m) _ _ _ begun now sound tell mount None c.called refl some (λ pass. refl, λ first write lost. refl)
    of_append m (appends.BreakEntry broken) open_ some c = clear_call _ shows_drawing (append_call_of m) _ _ _ begun now sound tell mount None c.called refl some (λ pass. refl, λ first write lost. refl)
    of_append m appends.Appended open_ some c = absurd open_
    of_append m (appends.Refused refusal) open_ some c = absurd open_

    -- whether it is in flight
    abbrev flies_at : RunningWrite → Bool
    flies_at w = flies (done_at len (write_place w)) (has_drawn (write_controls.Running w))

    of_write : (w : RunningWrite) → write.IsOpen w → write.IsUnderWay write_call w begun now → FliesSo (flies_at w) write_call begun now
    of_write (running_writes.Pageless m) open_ s =
        let none : is_write (call_asked m.asked) ≡ false = ap is_write s.0 ∙ ap (nat_lt 0) (sym (ap len_of s.0) ∙ s.1.0.none) in
        subst (λ b. FliesSo b write_call begun now) (sym (none_flies (done_at len (write_place (running_writes.Pageless m)))))
        (unwritten_call _ shows_control (call_asked m.asked) _ _ _ begun now sound tell mount _ s.1.1 refl none)
    of_write (running_writes.Front m) open_ s =
        subst (λ c. FliesSo (ends_by_fault m) c begun now) s.0 (clear_call _ shows_control (front_call_of m) _ _ _ begun now sound tell mount _ s.2.1 refl s.1 (front_clear m m.control open_))
    of_write (running_writes.Draw m) open_ s =
        subst (λ c. FliesSo false c begun now) s.0 (of_draw m m.control open_ (lt-ltb 0 (length m.bytes.now) s.1.0.write.some) s.1.1)
    of_write (running_writes.Append m) open_ s =
        subst (λ c. FliesSo (flies (done_at len (append_place_at m m.control)) true) c begun now) s.0 (of_append m m.control open_ (lt-ltb 0 (length m.bytes.now) s.1.0.some) s.1.1)
    of_write (running_writes.Release m) open_ s =
        released (is_write (release_call_of m)) refl
      where
        released : (b : Bool) → is_write (release_call_of m) ≡ b → FliesSo false write_call begun now
        released true is = clear_call _ shows_control (release_call_of m) _ _ _ begun now sound tell mount None s.1.1 refl is (release_clear m m.control open_)
        released false is = unwritten_call _ shows_control (release_call_of m) _ _ _ begun now sound tell mount None s.1.1 refl is
    of_write (running_writes.Over result) open_ s = absurd open_

    of_put_in : (lent : Bor (List ℕ)) (w : RunningWrite) → write.IsOpen w → write.IsUnderWay write_call (with_list lent w) begun now → FliesSo (flies_at w) write_call begun now
    of_put_in lent (running_writes.Pageless w) open_ way = of_write (with_list lent (running_writes.Pageless w)) open_ way
    of_put_in lent (running_writes.Front w) open_ way = of_write (with_list lent (running_writes.Front w)) open_ way
    of_put_in lent (running_writes.Draw w) open_ way = of_write (with_list lent (running_writes.Draw w)) open_ way
    of_put_in lent (running_writes.Append w) open_ way = of_write (with_list lent (running_writes.Append w)) open_ way
    of_put_in lent (running_writes.Release w) open_ way = of_write (with_list lent (running_writes.Release w)) open_ way
    of_put_in lent (running_writes.Over result) open_ way = absurd open_

  -- ---- what it is listed as

  placed_opens : (fds : List Fd) (call : TracedCall) (done : Option Done) (reply : ℕ → Reply) → opened_as fds call (either_of (placed_answer done reply) None) ≡ []
  placed_opens fds call None reply = refl
  placed_opens fds call (Some done) reply = refl

  listed_opens : (fds : List Fd) (call : TracedCall) (of_file : FileCall) (done : Option Done) (drew : Bool) (reply : ℕ → Reply) (begun now : PassState)
      → ((number : ℕ) → open_of fds (record { call = call; number = number }) ≡ record { call = of_file; first = number } ∷ []) → FliesSo (flies done drew) of_file begun now
      → open_flights now ≡ opened_as fds call (either_of (placed_answer done reply) (open_answer drew (drawn_by now.view))) ++ open_writes begun
  listed_opens fds call of_file (Some done) drew reply begun now one by = by
  listed_opens fds call of_file None true reply begun now one by =
      by.1 ∙ ap (λ l. (l ++ []) ++ open_writes begun) (sym (one by.0)) ∙ ap (λ drawn. opened_as fds call (open_answer true drawn) ++ open_writes begun) (sym by.2)
  listed_opens fds call of_file None false reply begun now one by = by

  -- ---- any call

  module _ (fds : List Fd) (call : TracedCall) (begun now : PassState) (mount : IsMount (mount_of begun.view.opened)) where
    at_read : (asks : (len file : ℕ) → FileCall) (m : ReadMachine) (list : List ℕ) (control : ReadControl) → reads.StandsAt asks fds m list begun now control → open_flights now ≡ open_writes begun
    at_read asks m list read_controls.Begin s = ap open_flights s.1 ∙ idle_flights begun s.0
    at_read asks m list (read_controls.Running running) s = of_read s.1.file m.at m.len list _ begun now running mount s.0 s.1.way.stands

    read_opens : (asks : (len file : ℕ) → FileCall) (m : ReadMachine) (list : List ℕ) (reply : ℕ → Reply) → reads.StandsAt asks fds m list begun now m.control
        → open_flights now ≡ opened_as fds call (either_of (placed_answer (reads.placed_by m) reply) None) ++ open_writes begun
    read_opens asks m list reply s = at_read asks m list m.control s ∙ ap (λ l. l ++ open_writes begun) (sym (placed_opens fds call (reads.placed_by m) reply))

    -- whichever call it is that is made as this write
    at_write : (asks : (file : ℕ) → FileCall) (m : WriteMachine) (bytes : List ℕ) (control : WriteControl)
        → ((file number : ℕ) → file_of_fd fds m.fd ≡ Some file → open_of fds (record { call = call; number = number }) ≡ record { call = Write file m.at bytes; first = number } ∷ [])
        → writes.StandsAt asks fds m bytes begun now control
        → open_flights now ≡ opened_as fds call (either_of (placed_answer (done_at m.len (writes.place_at control)) replies.Count) (open_answer (has_drawn control) (drawn_by now.view))) ++ open_writes begun
    at_write asks m bytes write_controls.Begin one s = ap open_flights s.1 ∙ idle_flights begun s.0
    at_write asks m bytes (write_controls.Running running) one s =
        listed_opens fds call (Write s.2.file m.at bytes) (done_at m.len (write_place running)) (has_drawn (write_controls.Running running)) replies.Count begun now (λ number. one s.2.file number s.2.file_is)
        (of_put_in s.2.file m.at m.len bytes begun now mount s.1 running s.0 s.2.way)

  pub hand_opens : (fds : List Fd) (call : TracedCall) (hand : Hand) (begun now : PassState) → IsMount (mount_of begun.view.opened) → IsTrying fds call.call hand begun now
      → open_flights now ≡ opened_as fds call (told_at_hand hand (drawn_by now.view)) ++ open_writes begun
  hand_opens fds call (Reading r) begun now mount t = read_opens fds call begun now mount (asks_read r.machine.at) r.machine r.list.items (reply_at_hand (Reading r)) t.1.stands
  hand_opens fds call (Writing m) begun now mount t =
      at_write fds call begun now mount (asks_write m.at t.0) m t.0 m.control
      (λ file number file_is. ap (λ c. opened_on (file_of_fd fds (fd_of c)) c number) t.1 ∙ ap (λ file. opened_on file (Pwrite m.fd m.at t.0) number) file_is) t.2.stands
  hand_opens fds call (ReadingParts r) begun now mount t = read_opens fds call begun now mount (asks_readv r.machine.at r.parts.lens) r.machine r.parts.list (reply_at_hand (ReadingParts r)) t.2.stands
  hand_opens fds call (WritingParts w) begun now mount t =
      at_write fds call begun now mount (asks_writev w.machine.at w.parts) w.machine (concat w.parts) w.machine.control
      (λ file number file_is. ap (λ c. opened_on (file_of_fd fds (fd_of c)) c number) t.0 ∙ ap (λ file. opened_on file (Pwritev w.machine.fd w.machine.at w.parts) number) file_is) t.1.stands
  hand_opens fds call (Syncing m) begun now mount t =
      at_sync m.control t.1 ∙ ap (λ l. l ++ open_writes begun) (sym (placed_opens fds call (syncs.placed_by m) _))
    where
      at_sync : (control : SyncControl) → syncs.StandsAt fds m.fd begun now control → open_flights now ≡ open_writes begun
      at_sync sync_controls.Begin s = ap open_flights s.1 ∙ idle_flights begun s.0
      at_sync (sync_controls.Running running) s =
          unwritten_call _ shows_control (call_asked running.asked) _ _ _ begun now sound tell mount _ s.1.running.way.1 refl (ap is_write (ap call_asked s.1.running.asked))

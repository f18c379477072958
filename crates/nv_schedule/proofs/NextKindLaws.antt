-- Next kinds: a machine says the kind of the step that the core has next of its pass.
use Rattle.std.proofs.Common.{◌≡◌, ℕ, ◌*◌, ◌<◌, ◌&&◌, Bool, true, false, if◌then◌else◌, List, [], ◌∷◌, length, inl, inr, refl, sym, ap, ap₂, subst, ◌∙◌, arith}
use Rattle.std.specs.Prelude.{Option, Some, None, option_map}
use Rattle.std.proofs.lemmas.Bool.{lt-ltb, ne_eqb}
use Rattle.nv_calls.specs.calls.Asks.{asks_read, asks_readv, asks_write, asks_writev}
use Rattle.std.specs.List.{concat}
use Rattle.nv_plain.specs.declared.call.FileCall.{FileCall}
use Rattle.nv_plain.specs.declared.call.FileCall.TheVariants.{Read, Write}
use Rattle.nv_plain.specs.declared.call.Reply.TheVariants.{Bytes}
use Rattle.nv_core.specs.state.Cleaner as cleaner
use Rattle.nv_core.specs.state.Passes as core
use Rattle.nv_core.specs.state.Passes.{Control, Pass, end_read, len_of}
use Rattle.nv_core.specs.state.Values.{lacks_buffer}
use Rattle.nv_core.specs.state.Words.{Sizes, Word, DIRTY, HINT, PAGE, is_lock}
use Rattle.nv_core.specs.steps.CleanerSteps.{last_taken, rising_files, syncing}
use Rattle.nv_core.specs.steps.Ops as ops
use Rattle.nv_core.specs.steps.Order.{Values, gathered, give_last, is_of_calls, miss, next_step, step_at}
use Rattle.nv_core.specs.steps.StepKinds.{AreValid, JustNow, MayPlace}
use Rattle.nv_core.proofs.steps.NextSteps.{steps_are_next}
use Rattle.nv_table.specs.state.States.{PassState}
use Rattle.nv_table.specs.state.Views.{pass_of, values_of}
use Rattle.nv_mount.specs.declared.fds.Fd.{Fd}
use Rattle.nv_op.specs.Kinds.{kind_of, kind_of_op}
use Rattle.nv_op.specs.declared.asked.Asked.{Asked}
use Rattle.nv_op.specs.declared.kinds.Kind.{Kind}
use Rattle.nv_op.specs.declared.kinds.Kind.TheVariants as kinds
use Rattle.nv_mirror.specs.Controls.{MirroredControl, Drawing, Reading}
use Rattle.nv_mirror.specs.Fronts as front
use Rattle.nv_mirror.specs.Loads as load
use Rattle.nv_mirror.specs.Pageless as pageless
use Rattle.nv_mirror.specs.Releases as release
use Rattle.nv_mirror.specs.Visits as visit
use Rattle.nv_mirror.specs.declared.front.FrontControl.{FrontControl}
use Rattle.nv_mirror.specs.declared.front.FrontControl.TheVariants as fronts
use Rattle.nv_mirror.specs.declared.front.FrontMachine.{FrontMachine}
use Rattle.nv_mirror.specs.declared.load.LoadControl.{LoadControl}
use Rattle.nv_mirror.specs.declared.load.LoadControl.TheVariants as loads
use Rattle.nv_mirror.specs.declared.load.LoadMachine.{LoadMachine}
use Rattle.nv_mirror.specs.declared.pageless.PagelessControl.{PagelessControl}
use Rattle.nv_mirror.specs.declared.pageless.PagelessControl.TheVariants as controls
use Rattle.nv_mirror.specs.declared.release.ReleaseControl.{ReleaseControl}
use Rattle.nv_mirror.specs.declared.release.ReleaseControl.TheVariants as releases
use Rattle.nv_mirror.specs.declared.release.ReleaseMachine.{ReleaseMachine}
use Rattle.nv_mirror.specs.declared.visit.VisitControl.TheVariants as visits
use Rattle.nv_mirror.specs.declared.visit.VisitMachine.{VisitMachine}
use Rattle.nv_cache.specs.ReadSteps.{first_kind, read_kind}
use Rattle.nv_cache.specs.RunningReads as reads
use Rattle.nv_cache.specs.Searches as search
use Rattle.nv_cache.specs.declared.read.RunningRead.{RunningRead}
use Rattle.nv_cache.specs.declared.read.RunningRead.TheVariants as read
use Rattle.nv_cache.specs.declared.search.SearchControl.{SearchControl}
use Rattle.nv_cache.specs.declared.search.SearchControl.TheVariants as searches
use Rattle.nv_cache.specs.declared.search.SearchMachine.{SearchMachine}
use Rattle.nv_cache.proofs.SearchFacts.{lacking_invalid}
use Rattle.nv_ring.specs.Appends as append
use Rattle.nv_ring.specs.Draws as draw
use Rattle.nv_ring.specs.RunningWrites as writes
use Rattle.nv_ring.specs.WriteSteps.{with_list, write_kind}
use Rattle.nv_ring.specs.declared.append.AppendControl.{AppendControl}
use Rattle.nv_ring.specs.declared.append.AppendControl.TheVariants as appends
use Rattle.nv_ring.specs.declared.append.AppendMachine.{AppendMachine}
use Rattle.nv_ring.specs.declared.numbers.DrawControl.{DrawControl}
use Rattle.nv_ring.specs.declared.numbers.DrawControl.TheVariants as draws
use Rattle.nv_ring.specs.declared.numbers.DrawMachine.{DrawMachine}
use Rattle.nv_ring.specs.declared.write.RunningWrite.{RunningWrite}
use Rattle.nv_ring.specs.declared.write.RunningWrite.TheVariants as write
use Rattle.nv_calls.specs.fsync.SyncMachines as sync_machines
use Rattle.nv_calls.specs.reads.ReadMachines as read_machines
use Rattle.nv_calls.specs.writes.WriteMachines as write_machines
use Rattle.nv_calls.specs.declared.reading.ReadControl.{ReadControl}
use Rattle.nv_calls.specs.declared.reading.ReadControl.TheVariants as reading
use Rattle.nv_calls.specs.declared.reading.ReadMachine.{ReadMachine}
use Rattle.nv_calls.specs.declared.syncing.SyncControl.{SyncControl}
use Rattle.nv_calls.specs.declared.syncing.SyncControl.TheVariants as syncing_call
use Rattle.nv_calls.specs.declared.writing.WriteControl.{WriteControl}
use Rattle.nv_calls.specs.declared.writing.WriteControl.TheVariants as writing
use Rattle.nv_calls.specs.declared.writing.WriteMachine.{WriteMachine}
use Rattle.nv_calls.proofs.writes.MachineLaws.{list_open, list_same}
use Rattle.nv_clean.specs.CleanSteps.{kind_at}
use Rattle.nv_clean.specs.Cleaning as cleaning
use Rattle.nv_clean.specs.Cleaning.{CleanState}
use Rattle.nv_clean.specs.declared.batch.CleanControl.{CleanControl}
use Rattle.nv_clean.specs.declared.batch.CleanControl.TheVariants as cleans
use Rattle.nv_trace.specs.declared.trace_call.TraceCall.{TraceCall}
use Rattle.nv_trace.specs.declared.trace_call.TracedCall.{TracedCall}
use Rattle.nv_schedule.specs.Callers.{IsAtBatch, IsAtCall, kind_at_batch, next_of_calls}
use Rattle.nv_schedule.specs.Hands.{IsTrying, kind_at_first, kind_at_hand}
use Rattle.nv_schedule.specs.NextKinds.{NextStepsAreTheCores, core_kind, core_next, kind_behind, kind_or, kind_with}
use Rattle.nv_schedule.specs.Turns.{HasCome, next_of_work}
use Rattle.nv_schedule.specs.declared.caller.Work.{Work}
use Rattle.nv_schedule.specs.declared.caller.Work.TheVariants.{Calls, Batches}
use Rattle.nv_schedule.specs.declared.hand.Hand.{Hand}
use Rattle.nv_schedule.specs.declared.hand.Hand.TheVariants.{Reading as ReadingHand, Writing, ReadingParts, WritingParts, Syncing}

-- what was taken last is given back
give_kind : (owned : List Word) → kinds.Give ≡ kind_or kinds.Give (give_last owned)
give_kind [] = refl
give_kind (cell ∷ rest) = by (is_of_calls cell)
  where
    by : (known : Bool) → kinds.Give ≡ kind_or kinds.Give (if known then Some (ops.Give cell) else None)
    by true = refl
    by false = refl

-- of a call of no bytes, and of some
first_zero : (len : ℕ) → len ≡ 0 → first_kind len ≡ kinds.Load
first_zero len is = subst (λ n. first_kind n ≡ kinds.Load) (sym is) refl

first_some : (len : ℕ) → 0 < len → first_kind len ≡ kinds.Take
first_some len some = ap (λ none. if none then kinds.Load else kinds.Take) (ne_eqb len 0 (λ is. (omega (arith, some, is))))

module _ (first : Kind) (start now : PassState) where
  abbrev sizes : Sizes
  sizes = now.view.opened.sizes

  abbrev values : Values
  values = values_of now.view

  abbrev pass : Pass
  pass = pass_of now.view

  abbrev IsNext : Kind → Type 0
  IsNext kind = kind ≡ core_kind sizes values pass first

  -- it stands so
  so : (control : Control) (kind : Kind) → pass.control ≡ control → kind ≡ kind_or (kind_behind first control) (step_at sizes values pass control) → IsNext kind
  so control kind at same = subst (λ c. kind ≡ kind_or (kind_behind first c) (step_at sizes values pass c)) (sym at) same

  -- this step is next
  stepping : (op : ops.Op) → next_step sizes values pass ≡ Some op → IsNext (kind_of_op op)
  stepping op is = sym (ap (kind_or (kind_behind first pass.control)) is)

  pub idle_next : pass.control ≡ core.Idle → IsNext first
  idle_next at = so core.Idle first at refl

  -- it hasn't begun
  begins : (kind : Kind) → first ≡ kind → pass.control ≡ core.Idle → IsNext kind
  begins kind is at = sym is ∙ idle_next at

  pub pageless_next : (asked : Asked) (control : PagelessControl) → pageless.IsOpen control → pageless.IsInCall asked control start now → first ≡ kinds.Load → IsNext (kind_of (pageless.pageless_op control))
  pageless_next asked controls.Begin runs called is = begins kinds.Load is (subst (λ (p : PassState). (pass_of p.view).control ≡ core.Idle) (sym called.fresh) called.idle.control)
  pageless_next asked controls.LoadOrder runs called is = so core.LoadOrder kinds.Load (ap (λ (m : MirroredControl). m.control) called.mirrors) refl
  pageless_next asked controls.TakePlace runs called is = so core.TakePlace kinds.Place (ap (λ (m : MirroredControl). m.control) called.mirrors) refl
  pageless_next asked (controls.Over answer) runs called is = absurd runs

  front_next : (m : FrontMachine) (control : FrontControl) → front.IsOpen control → front.IsInCall m control start now → first ≡ kinds.Take → IsNext (kind_of (front.front_op_at m control))
  front_next m fronts.Begin runs called is = begins kinds.Take is (subst (λ (p : PassState). (pass_of p.view).control ≡ core.Idle) (sym called.fresh) called.idle.control)
  front_next m fronts.TakePage runs called is = so (front.front_control_at m fronts.TakePage) kinds.Take (ap (λ (c : MirroredControl). c.control) called.mirrors) refl
  front_next m fronts.LoadLength runs called is = so core.LoadLength kinds.Load (ap (λ (c : MirroredControl). c.control) called.mirrors) refl
  front_next m fronts.TakeSize runs called is = so core.TakeSize kinds.Take (ap (λ (c : MirroredControl). c.control) called.mirrors) refl
  front_next m fronts.LoadStop runs called is = so core.LoadStop kinds.Load (ap (λ (c : MirroredControl). c.control) called.mirrors) refl
  front_next m fronts.LoadOrder runs called is = so core.LoadOrder kinds.Load (ap (λ (c : MirroredControl). c.control) called.mirrors) refl
  front_next m (fronts.GiveBack true refusal) runs called is = so core.GiveBack kinds.Give (ap (λ (c : MirroredControl). c.control) called.mirrors) (give_kind pass.owned)
  front_next m (fronts.GiveBack false refusal) runs called is = so core.GiveBack kinds.Give (ap (λ (c : MirroredControl). c.control) called.mirrors) (give_kind pass.owned)
  front_next m fronts.Passed runs called is = absurd runs
  front_next m (fronts.Over refusal) runs called is = absurd runs

  draw_next : (m : DrawMachine) (control : DrawControl) → draw.IsOpen control → draw.IsInCall m control start now → IsNext (kind_of (draw.draw_op_at m control))
  draw_next m draws.LoadHead runs is = so core.WriteLoadHead kinds.Load (ap (λ (d : Drawing). d.mirrored_control.control) is.called.mirrors) refl
  draw_next m draws.LoadTail runs is = so core.WriteLoadTail kinds.Load (ap (λ (d : Drawing). d.mirrored_control.control) is.called.mirrors) refl
  draw_next m draws.DrawNumbers runs is = so core.DrawNumbers kinds.Draw (ap (λ (d : Drawing). d.mirrored_control.control) is.called.mirrors) refl
  draw_next m draws.Drawn runs is = absurd runs
  draw_next m (draws.Refused refusal) runs is = absurd runs

  append_at : (m : AppendMachine) (control : AppendControl) → append.IsInCall m control start now → pass.control ≡ append.append_control_at m control
  append_at m control is = ap (λ (d : Drawing). d.mirrored_control.control) is.called.mirrors

  append_next : (m : AppendMachine) (control : AppendControl) → append.IsOpen control → append.IsInCall m control start now → IsNext (kind_of (append.append_op_at m control false))
  append_next m (appends.SeizeEntry seized) runs is = so (append.append_control_at m (appends.SeizeEntry seized)) kinds.Seize (append_at m (appends.SeizeEntry seized) is) refl
  append_next m appends.CommitGroup runs is = so (append.append_control_at m appends.CommitGroup) kinds.Pledge (append_at m appends.CommitGroup is) refl
  append_next m (appends.PledgePage pledged) runs is = so (append.append_control_at m (appends.PledgePage pledged)) kinds.Pledge (append_at m (appends.PledgePage pledged) is) refl
  append_next m (appends.ReadyEntry ready) runs is = so (append.append_control_at m (appends.ReadyEntry ready)) kinds.Ready (append_at m (appends.ReadyEntry ready) is) refl
  append_next m appends.TakePlace runs is = so core.TakePlace kinds.Place (append_at m appends.TakePlace is) refl
  append_next m appends.GrowLength runs is = so core.GrowLength kinds.Grow (append_at m appends.GrowLength is) refl
  append_next m (appends.BreakEntry broken) runs is = so (append.append_control_at m (appends.BreakEntry broken)) kinds.Break (append_at m (appends.BreakEntry broken) is) refl
  append_next m appends.Appended runs is = absurd runs
  append_next m (appends.Refused refusal) runs is = absurd runs

  release_next : (m : ReleaseMachine) (control : ReleaseControl) → release.IsOpen control → release.IsInCall m control start now → IsNext (kind_of (release.release_op_at m control))
  release_next m releases.GiveSize runs called = so core.GiveSize kinds.Give (ap (λ (c : MirroredControl). c.control) called.mirrors) refl
  release_next m (releases.GivePage given) runs called = so (release.release_control_at m (releases.GivePage given)) kinds.Give (ap (λ (c : MirroredControl). c.control) called.mirrors) refl
  release_next m releases.Over runs called = absurd runs

  -- ---- a read among its pages

  -- a page that lacks a buffer is missed, while there are tries
  turns : (page tries : ℕ) → lacks_buffer (values (PAGE page)) ≡ true → tries < 2 * sizes.buffers → miss sizes values page tries ≡ ops.Turn page
  turns page tries lacks few = ap₂ (λ a b. if a && b then ops.Turn page else ops.Load (DIRTY page)) lacks (lt-ltb tries (2 * sizes.buffers) few)

  module _ (m : SearchMachine) (fits : search.Fits sizes m) where
    stands : (control : SearchControl) → search.IsInCall m control start now → next_step sizes values pass ≡ step_at sizes values pass (search.search_control_at m control)
    stands control called = ap (λ (c : MirroredControl). step_at sizes values pass c.control) called.mirrors

    search_next : (control : SearchControl) → search.IsOpen control → search.FitsAt sizes m control → search.KnowsAt values m control → search.IsInCall m control start now → IsNext (kind_of (search.search_op_at m control))
    search_next (searches.Begin from) runs at knows called =
        elim (steps_are_next sizes values pass (ops.Turn m.page) record {
          tries = 0;
          miss = JustNow from record {
            control = ap (λ (c : MirroredControl). c.control) called.mirrors;
            later = at.0;
            within = subst (λ (c : MirroredControl). m.page < end_read sizes c.call c.length) (sym called.mirrors) fits.within;
            passed = knows.0;
            missed = lacking_invalid (values (PAGE m.page)) knows.1;
          } refl;
          lacks = knows.1;
          few = let some = at.2 in omega (arith, some);
        }) [
          | inl is ↦ stepping (ops.Turn m.page) is
          | inr batch ↦ absurd batch
        ]
    search_next (searches.TurnHand None) runs at knows called = stepping (ops.Turn m.page) (stands (searches.TurnHand None) called ∙ ap Some (turns m.page m.tries knows at))
    search_next (searches.TurnHand (Some buffer)) runs at knows called =
        stepping (ops.Turn m.page)
        (stands (searches.TurnHand (Some buffer)) called ∙ ap (λ b. Some (if b then miss sizes values m.page m.tries else ops.Hint buffer m.page)) knows ∙ ap Some (turns m.page m.tries knows at))
    search_next (searches.LoadHint buffer) runs at knows called = stepping (ops.Load (HINT buffer)) (stands (searches.LoadHint buffer) called)
    search_next (searches.TakeVictim buffer victim) runs at knows called = stepping (ops.Take (PAGE victim)) (stands (searches.TakeVictim buffer victim) called)
    search_next (searches.GiveVictim buffer victim) runs at knows called = stepping (ops.Give (PAGE victim)) (stands (searches.GiveVictim buffer victim) called)
    search_next (searches.SetHint buffer) runs at knows called =
        stepping (ops.Hint buffer m.page) (stands (searches.SetHint buffer) called ∙ ap (λ b. Some (if b then miss sizes values m.page m.tries else ops.Hint buffer m.page)) (ap lacks_buffer knows.1))
    search_next (searches.Found buffer) runs at knows called = absurd runs
    search_next (searches.NotFound given) runs at knows called = absurd runs

  module _ (m : LoadMachine) (room : List ℕ) where
    load_at : (control : LoadControl) (is : load.IsInCall m control room start now) → pass.control ≡ load.load_control_at m is.before control
    load_at control is = ap (λ (r : Reading). r.mirrored_control.control) is.called.mirrors

    load_next : (control : LoadControl) → load.IsOpen control → load.IsInCall m control room start now → IsNext (kind_of (load.load_op_at sizes m control false))
    load_next loads.LoadDirty runs is = stepping (ops.Load (DIRTY m.page)) is.missed
    load_next loads.TakeCleanup runs is = so (core.TakeCleanup m.page) kinds.Take (load_at loads.TakeCleanup is) refl
    load_next (loads.TakeStore dirty) runs is = so (core.TakeStore m.page dirty) kinds.Take (load_at (loads.TakeStore dirty) is) refl
    load_next (loads.ReadStore dirty) runs is = so (core.ReadStore m.page dirty) kinds.Give (load_at (loads.ReadStore dirty) is) refl
    load_next loads.LoadHead runs is = so (core.ReadLoadHead m.page) kinds.Load (load_at loads.LoadHead is) refl
    load_next loads.LoadTail runs is = so (core.ReadLoadTail m.page) kinds.Load (load_at loads.LoadTail is) refl
    load_next (loads.LoadEntry number) runs is = so (core.LoadEntry m.page number) kinds.Load (load_at (loads.LoadEntry number) is) refl
    load_next (loads.HoldEntry number) runs is = so (core.HoldEntry m.page number) kinds.Hold (load_at (loads.HoldEntry number) is) refl
    load_next (loads.ReadPiece number) runs is = so (core.ReadPiece m.page number) kinds.Return (load_at (loads.ReadPiece number) is) refl
    load_next loads.GiveCleanup runs is = so (core.GiveCleanup m.page) kinds.Give (load_at loads.GiveCleanup is) refl
    load_next (loads.ReturnEntry number) runs is = so (core.ReturnEntry m.page number true) kinds.Return (load_at (loads.ReturnEntry number) is) refl
    load_next (loads.GiveBackStore dirty) runs is = so core.GiveBack kinds.Give (load_at (loads.GiveBackStore dirty) is) (give_kind pass.owned)
    load_next (loads.GiveBackCleanup refusal) runs is = so core.GiveBack kinds.Give (load_at (loads.GiveBackCleanup refusal) is) (give_kind pass.owned)
    load_next loads.Loaded runs is = absurd runs
    load_next (loads.Refused refusal) runs is = absurd runs

  -- no page is left, and it takes its place
  place_next : (m : VisitMachine) (list : List ℕ) → visit.IsInCall m visits.TakePlace list start now → IsNext kinds.Place
  place_next m list is =
      let called = is.called in
      let reply = Bytes (gathered sizes values pass) in
      let valid : AreValid values m.from (end_read sizes pass.call pass.length) =
      subst (λ (c : MirroredControl). AreValid values m.from (end_read sizes c.call c.length)) (sym called.mirrors) (subst (AreValid values m.from) is.knows is.valid) in
      elim (steps_are_next sizes values pass (ops.Place reply) (subst (MayPlace sizes values pass reply) (sym (ap (λ (c : MirroredControl). c.control) called.mirrors)) (valid, refl))) [
        | inl next ↦ stepping (ops.Place reply) next
        | inr batch ↦ absurd batch
      ]

  -- ---- calls

  module _ (call : FileCall) (none : len_of call ≡ 0 → first ≡ kinds.Load) (some : 0 < len_of call → first ≡ kinds.Take) where
    write_next : (w : RunningWrite) → writes.IsOpen w → writes.IsUnderWay call w start now → IsNext (write_kind w)
    write_next (write.Pageless m) runs way = pageless_next m.asked m.control runs way.1.1 (none (ap len_of (sym way.0) ∙ way.1.0.none))
    write_next (write.Front m) runs way = front_next m m.control runs way.2.1 (some (subst (λ c. 0 < len_of c) way.0 way.2.0.some))
    write_next (write.Draw m) runs way = draw_next m m.control runs way.1.1
    write_next (write.Append m) runs way = append_next m m.control runs way.1.1
    write_next (write.Release m) runs way = release_next m m.control runs way.1.1
    write_next (write.Over result) runs way = absurd runs

    read_next : (r : RunningRead) (list room : List ℕ) → reads.IsOpen r → reads.StandsAt call r list room start now → IsNext (read_kind sizes r)
    read_next (read.Pageless m) list room runs way = pageless_next m.asked m.control runs way.1.1 (none (ap len_of (sym way.0) ∙ way.1.0.none))
    read_next (read.Front m) list room runs way = front_next m m.control runs way.1.1 (some (subst (λ c. 0 < len_of c) way.0 way.1.0.some))
    read_next (read.Search of m) list room runs way = search_next m way.3.fits m.control runs way.3.fits.stands way.3.knows way.3.called
    read_next (read.Load of m) list room runs way = load_next m room m.control runs way.3.1
    read_next (read.TakePlace m) list room runs way = place_next m list (subst (λ control. visit.IsInCall m control list start now) way.1 way.2.1)
    read_next (read.Release m copied) list room runs way = release_next m m.control runs way.1.1
    read_next (read.Over result) list room runs way = absurd runs

-- ---- what a thread has at hand

now_idle : (begun now : PassState) → (pass_of begun.view).control ≡ core.Idle → now ≡ begun → (pass_of now.view).control ≡ core.Idle
now_idle begun now idle same = subst (λ (p : PassState). (pass_of p.view).control ≡ core.Idle) (sym same) idle

read_at : (asks : (len file : ℕ) → FileCall) (fds : List Fd) (m : ReadMachine) (list : List ℕ) (begun now : PassState) (control : ReadControl) → read_machines.StandsAt asks fds m list begun now control
    → read_machines.kind_at now.view.opened.sizes m.len control ≡ core_kind now.view.opened.sizes (values_of now.view) (pass_of now.view) (first_kind m.len)
read_at asks fds m list begun now reading.Begin at = idle_next (first_kind m.len) begun now (now_idle begun now at.0.control at.1)
read_at asks fds m list begun now (reading.Running r) at =
    read_next (first_kind m.len) begun now (Read at.1.file m.at m.len) (first_zero m.len) (first_some m.len) r list _ at.0 at.1.way.stands

write_at : (asks : (file : ℕ) → FileCall) (fds : List Fd) (m : WriteMachine) (list : List ℕ) (begun now : PassState) → length list ≡ m.len → (control : WriteControl) → write_machines.StandsAt asks fds m list begun now control
    → write_machines.kind_at m.len control ≡ core_kind now.view.opened.sizes (values_of now.view) (pass_of now.view) (first_kind (length list))
write_at asks fds m list begun now same writing.Begin at = sym (ap first_kind same) ∙ idle_next (first_kind (length list)) begun now (now_idle begun now at.0.control at.1)
write_at asks fds m list begun now same (writing.Running w) at =
    sym (list_same at.1 w).kind
    ∙ write_next (first_kind (length list)) begun now (Write at.2.file m.at list) (first_zero (length list)) (first_some (length list)) (with_list at.1 w) (list_open at.1 w at.0) at.2.way

sync_at : (fds : List Fd) (fd : ℕ) (begun now : PassState) (control : SyncControl) → sync_machines.StandsAt fds fd begun now control
    → kind_of (pageless.pageless_op (sync_machines.at_step control)) ≡ core_kind now.view.opened.sizes (values_of now.view) (pass_of now.view) kinds.Load
sync_at fds fd begun now syncing_call.Begin at = idle_next kinds.Load begun now (now_idle begun now at.0.control at.1)
sync_at fds fd begun now (syncing_call.Running s) at = pageless_next kinds.Load begun now s.asked s.control at.0 at.1.running.way.1 refl

hand_next : (fds : List Fd) (call : TraceCall) (hand : Hand) (begun now : PassState) → IsTrying fds call hand begun now
    → kind_at_hand now.view.opened.sizes hand ≡ core_kind now.view.opened.sizes (values_of now.view) (pass_of now.view) (kind_at_first call)
hand_next fds call (ReadingHand r) begun now trying =
    subst (λ c. read_machines.next_kind_of now.view.opened.sizes r.machine ≡ core_kind now.view.opened.sizes (values_of now.view) (pass_of now.view) (kind_at_first c)) (sym trying.0)
    (read_at (asks_read r.machine.at) fds r.machine r.list.items begun now r.machine.control trying.1.stands)
hand_next fds call (Writing machine) begun now trying =
    subst (λ c. write_machines.next_kind_of machine ≡ core_kind now.view.opened.sizes (values_of now.view) (pass_of now.view) (kind_at_first c)) (sym trying.1)
    (write_at (asks_write machine.at trying.0) fds machine trying.0 begun now trying.2.room machine.control trying.2.stands)
hand_next fds call (ReadingParts r) begun now trying =
    subst (λ c. read_machines.next_kind_of now.view.opened.sizes r.machine ≡ core_kind now.view.opened.sizes (values_of now.view) (pass_of now.view) (kind_at_first c)) (sym trying.0)
    (subst (λ n. read_machines.next_kind_of now.view.opened.sizes r.machine ≡ core_kind now.view.opened.sizes (values_of now.view) (pass_of now.view) (first_kind n)) (sym trying.1)
    (read_at (asks_readv r.machine.at r.parts.lens) fds r.machine r.parts.list begun now r.machine.control trying.2.stands))
hand_next fds call (WritingParts w) begun now trying =
    subst (λ c. write_machines.next_kind_of w.machine ≡ core_kind now.view.opened.sizes (values_of now.view) (pass_of now.view) (kind_at_first c)) (sym trying.0)
    (write_at (asks_writev w.machine.at w.parts) fds w.machine (concat w.parts) begun now trying.1.room w.machine.control trying.1.stands)
hand_next fds call (Syncing machine) begun now trying =
    subst (λ c. sync_machines.next_kind_of machine ≡ core_kind now.view.opened.sizes (values_of now.view) (pass_of now.view) (kind_at_first c)) (sym trying.0)
    (sync_at fds machine.fd begun now machine.control trying.1)

call_next : (fds : List Fd) (left : List TracedCall) (hand : Option Hand) (last now : PassState) → IsAtCall fds left hand last now → next_of_calls now.view.opened.sizes left hand ≡ kind_with now.view left
call_next fds [] hand last now at = refl
call_next fds (call ∷ later) None last now at = ap Some (idle_next (kind_at_first call.call) last now at.1.control)
call_next fds (call ∷ later) (Some hand) last now at = ap Some (hand_next fds call.call hand at.0 now at.2)

-- ---- a batch

-- the lock that was taken last is given back
batch_gives : (owned : List Word) → kinds.Give ≡ kind_or kinds.Give (option_map (λ op. ops.ByCleaner op) (last_taken owned))
batch_gives [] = refl
batch_gives (cell ∷ rest) = by (is_lock cell)
  where
    by : (known : Bool) → kinds.Give ≡ kind_or kinds.Give (option_map (λ op. ops.ByCleaner op) (if known then Some (cleaner.Give cell) else None))
    by true = refl
    by false = refl

module _ (m : CleanState) (begun now : PassState) where
  abbrev batch_sizes : Sizes
  batch_sizes = now.view.opened.sizes

  abbrev batch_pass : Pass
  batch_pass = pass_of now.view

  -- it frees the first one, whatever device calls come before
  retires : (files : List ℕ) → batch_pass.control ≡ syncing m.batch files → kinds.Free ≡ core_kind batch_sizes (values_of now.view) batch_pass kinds.Take
  retires [] at = so kinds.Take begun now (syncing m.batch []) kinds.Free at refl
  retires (file ∷ rest) at = so kinds.Take begun now (syncing m.batch (file ∷ rest)) kinds.Free at refl

  batch_at : (control : CleanControl) → cleaning.IsOpen control → batch_pass.control ≡ cleaning.control_at batch_sizes m.batch control → kind_at m.batch control ≡ core_kind batch_sizes (values_of now.view) batch_pass kinds.Take
  batch_at cleans.Begin runs at = idle_next kinds.Take begun now at
  batch_at cleans.TakeHeader runs at = so kinds.Take begun now (cleaning.control_at batch_sizes m.batch cleans.TakeHeader) kinds.Take at refl
  batch_at cleans.LoadStop runs at = so kinds.Take begun now (cleaning.control_at batch_sizes m.batch cleans.LoadStop) kinds.Load at refl
  batch_at cleans.LoadTail runs at = so kinds.Take begun now (cleaning.control_at batch_sizes m.batch cleans.LoadTail) kinds.Load at refl
  batch_at cleans.LoadHead runs at = so kinds.Take begun now (cleaning.control_at batch_sizes m.batch cleans.LoadHead) kinds.Load at refl
  batch_at (cleans.LoadEntry i) runs at = so kinds.Take begun now (cleaning.control_at batch_sizes m.batch (cleans.LoadEntry i)) kinds.Load at refl
  batch_at (cleans.TakeCleanup i) runs at = so kinds.Take begun now (cleaning.control_at batch_sizes m.batch (cleans.TakeCleanup i)) kinds.Take at refl
  batch_at cleans.TakeStore runs at = so kinds.Take begun now (cleaning.control_at batch_sizes m.batch cleans.TakeStore) kinds.Take at refl
  batch_at (cleans.HoldEntry i) runs at = so kinds.Take begun now (cleaning.control_at batch_sizes m.batch (cleans.HoldEntry i)) kinds.Hold at refl
  batch_at (cleans.WriteBack i) runs at = so kinds.Take begun now (cleaning.control_at batch_sizes m.batch (cleans.WriteBack i)) (kind_at m.batch (cleans.WriteBack i)) at refl
  batch_at (cleans.CleanEntry i) runs at = so kinds.Take begun now (cleaning.control_at batch_sizes m.batch (cleans.CleanEntry i)) kinds.Return at refl
  batch_at (cleans.SubtractDirty i) runs at = so kinds.Take begun now (cleaning.control_at batch_sizes m.batch (cleans.SubtractDirty i)) kinds.Subtract at refl
  batch_at (cleans.GiveCleanup i) runs at = so kinds.Take begun now (cleaning.control_at batch_sizes m.batch (cleans.GiveCleanup i)) kinds.Give at refl
  batch_at (cleans.ReturnEntry i end) runs at = so kinds.Take begun now (cleaning.control_at batch_sizes m.batch (cleans.ReturnEntry i end)) kinds.Return at refl
  batch_at (cleans.ReturnFailed i end) runs at = so kinds.Take begun now (cleaning.control_at batch_sizes m.batch (cleans.ReturnFailed i end)) kinds.Return at refl
  batch_at (cleans.UndoCleanup i) runs at = so kinds.Take begun now (cleaning.control_at batch_sizes m.batch (cleans.UndoCleanup i)) kinds.Give at refl
  batch_at cleans.Retire runs at = retires (rising_files batch_sizes m.batch) at
  batch_at (cleans.FreeEntry number) runs at = so kinds.Take begun now (cleaning.control_at batch_sizes m.batch (cleans.FreeEntry number)) kinds.Free at refl
  batch_at cleans.AdvanceTail runs at = so kinds.Take begun now (cleaning.control_at batch_sizes m.batch cleans.AdvanceTail) kinds.Tail at refl
  batch_at (cleans.GiveStore file) runs at = so kinds.Take begun now (cleaning.control_at batch_sizes m.batch (cleans.GiveStore file)) kinds.Give at refl
  batch_at cleans.GiveHeader runs at = so kinds.Take begun now (cleaning.control_at batch_sizes m.batch cleans.GiveHeader) kinds.Give at refl
  batch_at cleans.GiveCleaner runs at = so kinds.Take begun now (cleaning.control_at batch_sizes m.batch cleans.GiveCleaner) kinds.Give at refl
  batch_at cleans.GiveBack runs at = so kinds.Take begun now (cleaning.control_at batch_sizes m.batch cleans.GiveBack) kinds.Give at (batch_gives batch_pass.owned)
  batch_at cleans.Over runs at = absurd runs

batch_next : (most : ℕ) (machine : Option CleanState) (last now : PassState) → IsAtBatch most machine last now → kind_at_batch machine ≡ core_kind now.view.opened.sizes (values_of now.view) (pass_of now.view) kinds.Take
batch_next most None last now at = idle_next kinds.Take last now at.1.control
batch_next most (Some machine) last now at = batch_at machine last now machine.control at.0 at.1.way.called.control_is

-- ---- a caller

pub next_is_the_cores : NextStepsAreTheCores
next_is_the_cores fds caller start come = by caller.work come
  where
    by : (work : Work) → HasCome fds work start caller.pass → next_of_work caller.pass.view.opened.sizes work ≡ core_next caller.pass.view work
    by (Calls thread) come = call_next fds thread.left thread.hand come.last caller.pass come.at
    by (Batches cleaner) come = ap Some (batch_next cleaner.most cleaner.machine come.last caller.pass come.at)

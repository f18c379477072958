-- Busy: in mid-call, and in mid-batch, a pass is not idle.
use Rattle.std.proofs.Common.{◌≡◌, ◌⊎◌, ℕ, false, Bool, List, [], ◌∷◌, inl, inr, refl, sym, ap, subst, ◌∙◌}
use Rattle.std.specs.Borrow.{Bor}
use Rattle.std.specs.Prelude.{Option, Some, None}
use Rattle.nv_plain.specs.declared.call.FileCall.{FileCall}
use Rattle.nv_core.specs.state.Cleaner.{Batch}
use Rattle.nv_core.specs.state.Passes as core
use Rattle.nv_core.specs.state.Passes.{Control, Pass, plain_call}
use Rattle.nv_core.specs.state.Words.{DIRTY, Sizes}
use Rattle.nv_core.specs.steps.CleanerSteps.{rising_files, syncing}
use Rattle.nv_core.specs.steps.Ops.{Load, Op}
use Rattle.nv_core.specs.steps.Order.{Values, step_at}
use Rattle.nv_table.specs.invariant.Idle.{IsIdle}
use Rattle.nv_table.specs.state.States.{PassState}
use Rattle.nv_table.specs.state.Views.{pass_of, values_of}
use Rattle.nv_op.specs.Ops.{call_asked}
use Rattle.nv_op.specs.declared.asked.Asked.{Asked}
use Rattle.nv_mirror.specs.Controls.{Drawing, InCall, Mirror, MirroredControl, Reading, asked_at}
use Rattle.nv_mirror.specs.Fronts as front
use Rattle.nv_mirror.specs.Fronts.{front_call_of}
use Rattle.nv_mirror.specs.Loads as load
use Rattle.nv_mirror.specs.Loads.{load_call_of}
use Rattle.nv_mirror.specs.OwnSteps.{AreOwnAs}
use Rattle.nv_mirror.specs.Pageless as pageless
use Rattle.nv_mirror.specs.PassSteps.{HasMade, PassStep}
use Rattle.nv_mirror.specs.Releases as release
use Rattle.nv_mirror.specs.Releases.{release_call_of}
use Rattle.nv_mirror.specs.Visits as visit
use Rattle.nv_mirror.specs.Visits.{visit_call_of}
use Rattle.nv_mirror.specs.declared.answers.Refusal.{Refusal}
use Rattle.nv_mirror.specs.declared.front.FrontControl.{FrontControl}
use Rattle.nv_mirror.specs.declared.front.FrontControl.TheVariants as fronts
use Rattle.nv_mirror.specs.declared.front.FrontMachine.{FrontMachine}
use Rattle.nv_mirror.specs.declared.load.LoadControl.{LoadControl}
use Rattle.nv_mirror.specs.declared.load.LoadControl.TheVariants as loads
use Rattle.nv_mirror.specs.declared.load.LoadMachine.{LoadMachine}
use Rattle.nv_mirror.specs.declared.pageless.PagelessControl.{PagelessControl}
use Rattle.nv_mirror.specs.declared.pageless.PagelessControl.TheVariants as controls
use Rattle.nv_mirror.specs.declared.release.ReleaseControl.{ReleaseControl}
use Rattle.nv_mirror.specs.declared.release.ReleaseControl.TheVariants as releases
use Rattle.nv_mirror.specs.declared.release.ReleaseMachine.{ReleaseMachine}
use Rattle.nv_mirror.specs.declared.visit.VisitControl.TheVariants as visits
use Rattle.nv_mirror.specs.declared.visit.VisitMachine.{VisitMachine}
use Rattle.nv_cache.specs.RunningReads as read
use Rattle.nv_cache.specs.Searches as search
use Rattle.nv_cache.specs.Searches.{search_call_of}
use Rattle.nv_cache.specs.declared.read.RunningRead.{RunningRead}
use Rattle.nv_cache.specs.declared.read.RunningRead.TheVariants as running_reads
use Rattle.nv_cache.specs.declared.search.SearchControl.{SearchControl}
use Rattle.nv_cache.specs.declared.search.SearchControl.TheVariants as searches
use Rattle.nv_cache.specs.declared.search.SearchMachine.{SearchMachine}
use Rattle.nv_ring.specs.Appends as append
use Rattle.nv_ring.specs.Appends.{append_call_of}
use Rattle.nv_ring.specs.Draws as draw
use Rattle.nv_ring.specs.Draws.{draw_call_of}
use Rattle.nv_ring.specs.RunningWrites as write
use Rattle.nv_ring.specs.WriteSteps.{with_list}
use Rattle.nv_ring.specs.declared.append.AppendControl.{AppendControl}
use Rattle.nv_ring.specs.declared.append.AppendControl.TheVariants as appends
use Rattle.nv_ring.specs.declared.append.AppendMachine.{AppendMachine}
use Rattle.nv_ring.specs.declared.numbers.DrawControl.{DrawControl}
use Rattle.nv_ring.specs.declared.numbers.DrawControl.TheVariants as draws
use Rattle.nv_ring.specs.declared.numbers.DrawMachine.{DrawMachine}
use Rattle.nv_ring.specs.declared.write.RunningWrite.{RunningWrite}
use Rattle.nv_ring.specs.declared.write.RunningWrite.TheVariants as running_writes
use Rattle.nv_clean.specs.Cleaning.{IsOpen, control_at}
use Rattle.nv_clean.specs.declared.batch.CleanControl.{CleanControl}
use Rattle.nv_clean.specs.declared.batch.CleanControl.TheVariants as cleans
use Rattle.nv_schedule.specs.Acting.{is_idle}

-- A call has made some steps since its pass was idle, all its own, and isn't over.
pub record IsMidCall (call : FileCall) (start now : PassState) : Type 0 where
  pub idle : IsIdle start
  pub steps : List PassStep
  pub made : HasMade steps start now
  pub own : AreOwnAs now.view.opened.sizes call (plain_call call) steps
  pub busy : is_idle (pass_of now.view).control ≡ false

-- or it has made none yet
abbrev pub IsOnWay : FileCall → (start now : PassState) → Type 0
IsOnWay call start now = (now ≡ start) ⊎ IsMidCall call start now

mid : {State : Type 0} (mirror : Mirror State) (asked call : FileCall) (is : State) (refusal : Option Refusal) (place : Option ℕ) (start now : PassState) → is_idle (pass_of now.view).control ≡ false
    → (pass_of now.view).asked ≡ asked → InCall mirror call None is refusal place start now → IsOnWay asked start now
mid mirror asked call is refusal place start now busy asks c =
    let same : c.asked ≡ asked = sym c.asks ∙ asks in
    inr record {
      idle = c.idle;
      steps = c.steps;
      made = c.made;
      own = subst (λ made. AreOwnAs now.view.opened.sizes asked made c.steps) (sym c.makes ∙ ap plain_call same) (subst (λ one. AreOwnAs now.view.opened.sizes one call c.steps) same c.own);
      busy = busy;
    }

module _ (start now : PassState) where
  -- what a machine mirrors is no idle pass
  abbrev control_is : MirroredControl → Bool
  control_is m = is_idle m.control

  pageless_way : (of_ : FileCall) (asked : Asked) (control : PagelessControl) → pageless.IsOpen control → pageless.IsInCall asked control start now → asked_at of_ (pageless.has_begun control) now ≡ of_ → IsOnWay of_ start now
  pageless_way of_ asked controls.Begin runs c asks = inl c.fresh
  pageless_way of_ asked controls.LoadOrder runs c asks = mid _ of_ _ _ _ _ start now (ap control_is c.mirrors) asks c
  pageless_way of_ asked controls.TakePlace runs c asks = mid _ of_ _ _ _ _ start now (ap control_is c.mirrors) asks c
  pageless_way of_ asked (controls.Over answer) runs c asks = absurd runs

  front_way : (of_ : FileCall) (m : FrontMachine) (control : FrontControl) → front.IsOpen control → front.IsInCall m control start now → asked_at of_ (front.has_begun control) now ≡ of_ → IsOnWay of_ start now
  front_way of_ m fronts.Begin runs c asks = inl c.fresh
  front_way of_ m fronts.TakePage runs c asks = mid _ of_ _ _ _ _ start now (ap control_is c.mirrors) asks c
  front_way of_ m fronts.LoadLength runs c asks = mid _ of_ _ _ _ _ start now (ap control_is c.mirrors) asks c
  front_way of_ m fronts.TakeSize runs c asks = mid _ of_ _ _ _ _ start now (ap control_is c.mirrors) asks c
  front_way of_ m fronts.LoadStop runs c asks = mid _ of_ _ _ _ _ start now (ap control_is c.mirrors) asks c
  front_way of_ m fronts.LoadOrder runs c asks = mid _ of_ _ _ _ _ start now (ap control_is c.mirrors) asks c
  front_way of_ m (fronts.GiveBack size refusal) runs c asks = mid _ of_ _ _ _ _ start now (ap control_is c.mirrors) asks c
  front_way of_ m fronts.Passed runs c asks = absurd runs
  front_way of_ m (fronts.Over refusal) runs c asks = absurd runs

  release_way : (of_ : FileCall) (m : ReleaseMachine) (control : ReleaseControl) → release.IsOpen control → release.IsInCall m control start now → (pass_of now.view).asked ≡ of_ → IsOnWay of_ start now
  release_way of_ m releases.GiveSize runs c asks = mid _ of_ _ _ _ _ start now (ap control_is c.mirrors) asks c
  release_way of_ m (releases.GivePage given) runs c asks = mid _ of_ _ _ _ _ start now (ap control_is c.mirrors) asks c
  release_way of_ m releases.Over runs c asks = absurd runs

  -- ---- a write

  draw_way : (of_ : FileCall) (m : DrawMachine) (control : DrawControl) → draw.IsOpen control → draw.IsInCall m control start now → (pass_of now.view).asked ≡ of_ → IsOnWay of_ start now
  draw_way of_ m draws.LoadHead runs is asks = mid _ of_ _ _ _ _ start now (ap (λ (d : Drawing). is_idle d.mirrored_control.control) is.called.mirrors) asks is.called
  draw_way of_ m draws.LoadTail runs is asks = mid _ of_ _ _ _ _ start now (ap (λ (d : Drawing). is_idle d.mirrored_control.control) is.called.mirrors) asks is.called
  draw_way of_ m draws.DrawNumbers runs is asks = mid _ of_ _ _ _ _ start now (ap (λ (d : Drawing). is_idle d.mirrored_control.control) is.called.mirrors) asks is.called
  draw_way of_ m draws.Drawn runs is asks = absurd runs
  draw_way of_ m (draws.Refused refusal) runs is asks = absurd runs

  append_way : (of_ : FileCall) (m : AppendMachine) (control : AppendControl) → append.IsOpen control → append.IsInCall m control start now → (pass_of now.view).asked ≡ of_ → IsOnWay of_ start now
  append_way of_ m (appends.SeizeEntry seized) runs is asks = mid _ of_ _ _ _ _ start now (ap (λ (d : Drawing). is_idle d.mirrored_control.control) is.called.mirrors) asks is.called
  append_way of_ m appends.CommitGroup runs is asks = mid _ of_ _ _ _ _ start now (ap (λ (d : Drawing). is_idle d.mirrored_control.control) is.called.mirrors) asks is.called
  append_way of_ m (appends.PledgePage pledged) runs is asks = mid _ of_ _ _ _ _ start now (ap (λ (d : Drawing). is_idle d.mirrored_control.control) is.called.mirrors) asks is.called
  append_way of_ m (appends.ReadyEntry ready) runs is asks = mid _ of_ _ _ _ _ start now (ap (λ (d : Drawing). is_idle d.mirrored_control.control) is.called.mirrors) asks is.called
  append_way of_ m appends.TakePlace runs is asks = mid _ of_ _ _ _ _ start now (ap (λ (d : Drawing). is_idle d.mirrored_control.control) is.called.mirrors) asks is.called
  append_way of_ m appends.GrowLength runs is asks = mid _ of_ _ _ _ _ start now (ap (λ (d : Drawing). is_idle d.mirrored_control.control) is.called.mirrors) asks is.called
  append_way of_ m (appends.BreakEntry broken) runs is asks = mid _ of_ _ _ _ _ start now (ap (λ (d : Drawing). is_idle d.mirrored_control.control) is.called.mirrors) asks is.called
  append_way of_ m appends.Appended runs is asks = absurd runs
  append_way of_ m (appends.Refused refusal) runs is asks = absurd runs

  write_way : (of_ call : FileCall) (w : RunningWrite) → write.IsOpen w → write.IsUnderWay call w start now → write.asked_in of_ w now ≡ of_ → IsOnWay of_ start now
  write_way of_ call (running_writes.Pageless m) runs way asks = pageless_way of_ m.asked m.control runs way.1.1 asks
  write_way of_ call (running_writes.Front m) runs way asks = front_way of_ m m.control runs way.2.1 asks
  write_way of_ call (running_writes.Draw m) runs way asks = draw_way of_ m m.control runs way.1.1 asks
  write_way of_ call (running_writes.Append m) runs way asks = append_way of_ m m.control runs way.1.1 asks
  write_way of_ call (running_writes.Release m) runs way asks = release_way of_ m m.control runs way.1.1 asks
  write_way of_ call (running_writes.Over result) runs way asks = absurd runs

  pub lent_way : (of_ call : FileCall) (lent : Bor (List ℕ)) (w : RunningWrite) → write.IsOpen w → write.IsUnderWay call (with_list lent w) start now → write.asked_in of_ (with_list lent w) now ≡ of_ → IsOnWay of_ start now
  lent_way of_ call lent (running_writes.Pageless w) runs way asks = write_way of_ call (with_list lent (running_writes.Pageless w)) runs way asks
  lent_way of_ call lent (running_writes.Front w) runs way asks = write_way of_ call (with_list lent (running_writes.Front w)) runs way asks
  lent_way of_ call lent (running_writes.Draw w) runs way asks = write_way of_ call (with_list lent (running_writes.Draw w)) runs way asks
  lent_way of_ call lent (running_writes.Append w) runs way asks = write_way of_ call (with_list lent (running_writes.Append w)) runs way asks
  lent_way of_ call lent (running_writes.Release w) runs way asks = write_way of_ call (with_list lent (running_writes.Release w)) runs way asks
  lent_way of_ call lent (running_writes.Over result) runs way asks = absurd runs

  -- ---- a read

  search_way : (of_ : FileCall) (m : SearchMachine) (control : SearchControl) → search.IsOpen control → search.IsInCall m control start now → (pass_of now.view).asked ≡ of_ → IsOnWay of_ start now
  search_way of_ m (searches.Begin from) runs c asks = mid _ of_ _ _ _ _ start now (ap control_is c.mirrors) asks c
  search_way of_ m (searches.TurnHand None) runs c asks = mid _ of_ _ _ _ _ start now (ap control_is c.mirrors) asks c
  search_way of_ m (searches.TurnHand (Some given)) runs c asks = mid _ of_ _ _ _ _ start now (ap control_is c.mirrors) asks c
  search_way of_ m (searches.LoadHint buffer) runs c asks = mid _ of_ _ _ _ _ start now (ap control_is c.mirrors) asks c
  search_way of_ m (searches.TakeVictim buffer victim) runs c asks = mid _ of_ _ _ _ _ start now (ap control_is c.mirrors) asks c
  search_way of_ m (searches.GiveVictim buffer victim) runs c asks = mid _ of_ _ _ _ _ start now (ap control_is c.mirrors) asks c
  search_way of_ m (searches.SetHint buffer) runs c asks = mid _ of_ _ _ _ _ start now (ap control_is c.mirrors) asks c
  search_way of_ m (searches.Found buffer) runs c asks = absurd runs
  search_way of_ m (searches.NotFound given) runs c asks = absurd runs

  -- a pass that has a step next is not idle
  stepping : (sizes : Sizes) (values : Values) (pass : Pass) (op : Op) (control : Control) → step_at sizes values pass control ≡ Some op → is_idle control ≡ false
  stepping sizes values pass op core.Idle is = absurd (cc)
  stepping sizes values pass op control is = refl

  module _ (m : LoadMachine) (room : List ℕ) where
    load_is : (control : LoadControl) (is : load.IsInCall m control room start now) → is_idle (pass_of now.view).control ≡ is_idle (load.load_control_at m is.before control)
    load_is control is = ap (λ (r : Reading). is_idle r.mirrored_control.control) is.called.mirrors

    load_way : (of_ : FileCall) (control : LoadControl) → load.IsOpen control → load.IsInCall m control room start now → (pass_of now.view).asked ≡ of_ → IsOnWay of_ start now
    load_way of_ loads.LoadDirty runs is asks =
        mid _ of_ _ _ _ _ start now (stepping now.view.opened.sizes (values_of now.view) (pass_of now.view) (Load (DIRTY m.page)) (pass_of now.view).control is.missed) asks is.called
    load_way of_ loads.TakeCleanup runs is asks = mid _ of_ _ _ _ _ start now (load_is loads.TakeCleanup is) asks is.called
    load_way of_ (loads.TakeStore dirty) runs is asks = mid _ of_ _ _ _ _ start now (load_is (loads.TakeStore dirty) is) asks is.called
    load_way of_ (loads.ReadStore dirty) runs is asks = mid _ of_ _ _ _ _ start now (load_is (loads.ReadStore dirty) is) asks is.called
    load_way of_ loads.LoadHead runs is asks = mid _ of_ _ _ _ _ start now (load_is loads.LoadHead is) asks is.called
    load_way of_ loads.LoadTail runs is asks = mid _ of_ _ _ _ _ start now (load_is loads.LoadTail is) asks is.called
    load_way of_ (loads.LoadEntry number) runs is asks = mid _ of_ _ _ _ _ start now (load_is (loads.LoadEntry number) is) asks is.called
    load_way of_ (loads.HoldEntry number) runs is asks = mid _ of_ _ _ _ _ start now (load_is (loads.HoldEntry number) is) asks is.called
    load_way of_ (loads.ReadPiece number) runs is asks = mid _ of_ _ _ _ _ start now (load_is (loads.ReadPiece number) is) asks is.called
    load_way of_ loads.GiveCleanup runs is asks = mid _ of_ _ _ _ _ start now (load_is loads.GiveCleanup is) asks is.called
    load_way of_ (loads.ReturnEntry number) runs is asks = mid _ of_ _ _ _ _ start now (load_is (loads.ReturnEntry number) is) asks is.called
    load_way of_ (loads.GiveBackStore dirty) runs is asks = mid _ of_ _ _ _ _ start now (load_is (loads.GiveBackStore dirty) is) asks is.called
    load_way of_ (loads.GiveBackCleanup refusal) runs is asks = mid _ of_ _ _ _ _ start now (load_is (loads.GiveBackCleanup refusal) is) asks is.called
    load_way of_ loads.Loaded runs is asks = absurd runs
    load_way of_ (loads.Refused refusal) runs is asks = absurd runs

  place_way : (of_ : FileCall) (m : VisitMachine) (list : List ℕ) → visit.IsInCall m visits.TakePlace list start now → (pass_of now.view).asked ≡ of_ → IsOnWay of_ start now
  place_way of_ m list is asks = mid _ of_ _ _ _ _ start now (ap control_is is.called.mirrors) asks is.called

  pub read_way : (of_ call : FileCall) (list room : List ℕ) (r : RunningRead) → read.IsOpen r → read.StandsAt call r list room start now → read.asked_in of_ r now ≡ of_ → IsOnWay of_ start now
  read_way of_ call list room (running_reads.Pageless m) runs way asks = pageless_way of_ m.asked m.control runs way.1.1 asks
  read_way of_ call list room (running_reads.Front m) runs way asks = front_way of_ m m.control runs way.1.1 asks
  read_way of_ call list room (running_reads.Search visits m) runs way asks = search_way of_ m m.control runs way.3.called asks
  read_way of_ call list room (running_reads.Load visits m) runs way asks = load_way m room of_ m.control runs way.3.1 asks
  read_way of_ call list room (running_reads.TakePlace m) runs way asks = place_way of_ m list (subst (λ control. visit.IsInCall m control list start now) way.1 way.2.1) asks
  read_way of_ call list room (running_reads.Release m copied) runs way asks = release_way of_ m m.control runs way.1.1 asks
  read_way of_ call list room (running_reads.Over result) runs way asks = absurd runs

  -- ---- a sync

  pub sync_way : (of_ : FileCall) (asked : Asked) (control : PagelessControl) → pageless.IsOpen control → pageless.IsInCall asked control start now → asked_at of_ (pageless.has_begun control) now ≡ of_ → IsOnWay of_ start now
  sync_way of_ asked control runs c asks = pageless_way of_ asked control runs c asks

-- ---- a batch

syncing_busy : (batch : Batch) (files : List ℕ) → is_idle (syncing batch files) ≡ false
syncing_busy batch [] = refl
syncing_busy batch (file ∷ rest) = refl

-- one that has begun
pub batch_busy : (sizes : Sizes) (batch : Batch) (control : CleanControl) → IsOpen control → (control ≡ cleans.Begin → ⊥) → is_idle (control_at sizes batch control) ≡ false
batch_busy sizes batch cleans.Begin runs begun = absurd (begun refl)
batch_busy sizes batch cleans.Retire runs begun = syncing_busy batch (rising_files sizes batch)
batch_busy sizes batch cleans.Over runs begun = absurd runs
batch_busy sizes batch control runs begun = refl

-- Whole writes: what a power failure leaves of the parts and stores that come out of a mount that is closed.
use Rattle.std.specs.Prelude.{◌≡◌, ◌⊎◌, ℕ, ◌<◌, ◌≤◌, ◌==◌, ◌&&◌, ◌||◌, nat_lt, Bool, true, List, [], ◌∷◌, ◌++◌, map, filter, IsPermutation}
use Rattle.std.specs.List.{flat_map, list_any}
use Rattle.nv_plain.specs.Files.{Files}
use Rattle.nv_plain.specs.Histories.{Answered}
use Rattle.nv_plain.specs.Images.{Image}
use Rattle.nv_plain.specs.Layouts.{mount_layout}
use Rattle.nv_plain.specs.Recovered.{Fits, recovered}
use Rattle.nv_plain.specs.declared.call.FileCall.{FileCall}
use Rattle.nv_plain.specs.declared.call.Reply.{Reply}
use Rattle.nv_plain.specs.Made.{after_calls, reply_from}
use Rattle.nv_pmem.specs.Rows.{RowTells, InEachRowImage}
use Rattle.nv_pmem.specs.Steps.{PartHistory}
use Rattle.nv_store.specs.Steps.{StoreHistory}
use Rattle.nv_header.specs.Regions.{ReadsAs}
use Rattle.nv_recover.specs.Standing.{AreStoreImages}
use Rattle.nv_core.specs.state.Passes.{Control, SeizeEntry, CommitGroup, PledgePage, ReadyEntry, TakePlace, SetStopAfterCommit, Fault, Pass, IsOneOf, is_write, plain_call}
use Rattle.nv_core.specs.steps.PassSteps.{fault_of}
use Rattle.nv_core.specs.content.Content.{Opens}
use Rattle.nv_core.specs.crash.CrashImages.{OpensRegion}
use Rattle.nv_core.specs.log.EntryImages.{ReadsWhole}
use Rattle.nv_core.specs.log.LogContent.{OpensLog}
use Rattle.nv_core.specs.steps.Events.{Event, TakesStep}
use Rattle.nv_core.specs.steps.Ops.{Draw, Place}
use Rattle.nv_table.specs.invariant.Idle.{TakenHoldNothing}
use Rattle.nv_table.specs.passes.Seats.{past_of}
use Rattle.nv_table.specs.state.Opened.{Opened, mount_of, state_of}
use Rattle.nv_table.specs.state.Views.{PassView, pass_of, past_pass}
use Rattle.nv_mount.specs.ClosedAtRest.{files_then}
use Rattle.nv_mount.specs.WholeRuns.{history_then}

-- The call that a pass has at hand where it is in flight, past its draw and neither placed nor ended by a fault, as a fault would keep it. One that is
-- placed next may be no write; it counts for nothing then.
abbrev pub at_hand : Pass → Control → List Fault
at_hand pass (SeizeEntry number) = fault_of pass ∷ []
at_hand pass (CommitGroup calls) = fault_of pass ∷ []
at_hand pass (PledgePage page) = fault_of pass ∷ []
at_hand pass (ReadyEntry number) = fault_of pass ∷ []
at_hand pass TakePlace = fault_of pass ∷ []
at_hand pass SetStopAfterCommit = fault_of pass ∷ []
at_hand pass control = []

-- the calls that faults ended, of pass 0 and then of each pass that it took in
abbrev pub faults_then : PassView → List Fault
faults_then view = flat_map (λ past. (past_pass view.opened past).faulted) (past_of view ∷ view.ended)

-- the calls in flight: those too that passes have at hand
abbrev pub flights_then : PassView → List Fault
flights_then view =
    flat_map (λ past. at_hand (past_pass view.opened past) (past_pass view.opened past).control ++ (past_pass view.opened past).faulted) (past_of view ∷ view.ended)

-- A write in flight is kept where its first number lies below the first one that recovery finds, or is among its groups.
abbrev pub is_kept : (first : ℕ) (groups : List ℕ) → Fault → Bool
is_kept first groups fault = is_write fault.call && (nat_lt fault.first first || list_any (λ leader. leader == fault.first) groups)

-- those of some writes in flight that are kept, as calls, in their order
abbrev pub kept_writes : (first : ℕ) (groups : List ℕ) → List Fault → List FileCall
kept_writes first groups faults = map (λ fault. fault.call) (filter (is_kept first groups) faults)

-- An image recovers to some files and then those of some calls that are kept, each whole, in any order that one likes.
abbrev pub RecoversTo : Files → List Fault → Image → (bytes : Files) → Type 0
RecoversTo files calls image bytes =
    (order : List Fault) → IsPermutation calls order
    → (recovered image bytes).files ≡ after_calls (kept_writes (recovered image bytes).first (recovered image bytes).groups order) files

-- A write drew its numbers in a run, from this one on: while its pass made this call, which had loaded HEAD so, this event found HEAD unmoved.
pub record WasDrawn (opened : Opened) (run : List Event) (call : FileCall) (number : ℕ) : Type 0 where
  pub before : List Event
  pub by : ℕ
  pub after : List Event
  pub lies : run ≡ before ++ record { by = by; act = TakesStep Draw number } ∷ after
  pub call_is : ((state_of opened before).passes by).call ≡ call
  pub loaded : ((state_of opened before).passes by).head ≡ number

-- A call got its place in a run, behind these of the history, by this event, and its reply by that of the plain call that it was made as; the numbers
-- that its pass had drawn by then, if any, go from this one on.
pub record WasPlaced (opened : Opened) (run : List Event) (earlier : List Answered) (answered : Answered) (number : ℕ) : Type 0 where
  pub before : List Event
  pub reply : Reply
  pub found : ℕ
  pub after : List Event
  pub lies : run ≡ before ++ record { by = answered.caller; act = TakesStep (Place reply) found } ∷ after
  pub replied : answered.reply ≡ reply_from answered.call reply
  pub behind : (state_of opened before).history ≡ earlier
  pub asked_is : ((state_of opened before).passes answered.caller).asked ≡ answered.call
  pub call_is : ((state_of opened before).passes answered.caller).call ≡ plain_call answered.call
  pub drew : ((state_of opened before).passes answered.caller).first ≡ number

-- a write that drew its numbers from this one on has its place in the run, or is in flight
abbrev pub IsPlacedOrFlies : PassView → FileCall → (number : ℕ) → Type 0
IsPlacedOrFlies view call number =
    ((earlier : List Answered) × (answered : Answered) × (plain_call answered.call ≡ call) × WasPlaced view.opened view.run earlier answered number)
    ⊎ ((write : Fault) × IsOneOf (flights_then view) write × (is_write write.call ≡ true) × (write.call ≡ call) × (write.first ≡ number))

-- A group that an image has at this number was drawn in the run by a write, and the image has that write whole: its file, its offset and its bytes. The write has its place, or is in flight.
pub record IsGroupOfRun (view : PassView) (image : Image) (leader : ℕ) : Type 0 where
  pub call : FileCall
  pub drawn : WasDrawn view.opened view.run call leader
  pub whole : ReadsWhole view.opened.sizes call leader image
  pub who : IsPlacedOrFlies view call leader

-- A write of the history, behind these: the number that it drew lies below the first one that recovery finds, so that its store has it; or it leads a group there, and the image has the write whole.
pub record IsPlacedThere (view : PassView) (image : Image) (bytes : Files) (earlier : List Answered) (answered : Answered) : Type 0 where
  pub number : ℕ
  pub placed : WasPlaced view.opened view.run earlier answered number
  pub there : (number < (recovered image bytes).first) ⊎ (IsOneOf (recovered image bytes).groups number × ReadsWhole view.opened.sizes (plain_call answered.call) number image)

-- The header reads as this region's, and the image fits. It recovers to the files after the history and then the writes in flight that are kept;
-- where neither pass 0 nor one that it took in holds a cell, these are writes that faults ended. None of the latter has its first number below the
-- first one that recovery finds. Each group that recovery finds was drawn in the run by a write that it has whole; that of a write in flight is its own.
-- And each write of the history is there by its number.
pub record LeavesWholeWrites (view : PassView) (files : Files) (names : List (List ℕ)) (image : Image) (bytes : Files) : Type 0 where
  pub header : ReadsAs mount_layout view.opened.sizes.page view.opened.sizes.entries names (recovered image bytes).first image
  pub fits : Fits mount_layout image
  pub flights : RecoversTo (files_then view files) (flights_then view) image bytes
  pub faults : (pass_of view).owned ≡ [] → TakenHoldNothing view → RecoversTo (files_then view files) (faults_then view) image bytes
  pub groups : (leader : ℕ) → IsOneOf (recovered image bytes).groups leader → IsGroupOfRun view image leader
  pub own : (write : Fault) → IsOneOf (flights_then view) write → is_write write.call ≡ true → IsOneOf (recovered image bytes).groups write.first → ReadsWhole view.opened.sizes write.call write.first image
  pub low : (fault : Fault) → IsOneOf (faults_then view) fault → is_write fault.call ≡ true → (recovered image bytes).first ≤ fault.first
  pub placed : (earlier later : List Answered) (answered : Answered) → history_then view ≡ earlier ++ answered ∷ later → is_write (plain_call answered.call) ≡ true → IsPlacedThere view image bytes earlier answered

-- Whatever a power failure leaves of parts and stores that tell does so.
abbrev pub CrashesLeaveWholeWrites : PassView → (parts : List PartHistory) (stores : List StoreHistory) → Type 0
CrashesLeaveWholeWrites view parts stores =
    (files : Files) (names : List (List ℕ)) → OpensLog (mount_of view.opened) view.opened.next → Opens (mount_of view.opened) files
    → OpensRegion (mount_of view.opened) names
    → RowTells parts (InEachRowImage (λ image. RowTells stores (λ held. (bytes : Files) → AreStoreImages held bytes → LeavesWholeWrites view files names image bytes)))

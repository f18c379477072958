-- Stopping: a run that is stopped at a device call, and what it leaves.
use Rattle.std.specs.Prelude.{◌≡◌, ◌⊎◌, ℕ, ◌+◌, ◌≤◌, false, List, [], ◌∷◌, length, All, Option, Some, Result, Ok, Err}
use Rattle.nv_plain.specs.Faults.{Rose}
use Rattle.nv_plain.specs.Files.{Files}
use Rattle.nv_plain.specs.Images.{header_of, version_in}
use Rattle.nv_plain.specs.Layouts.{layout_of, mount_version}
use Rattle.nv_plain.specs.declared.limits.Version.{Version}
use Rattle.nv_plain.specs.Recovered.{recovered}
use Rattle.nv_pmem.specs.Part.{Part}
use Rattle.nv_pmem.specs.Rows.{row_words}
use Rattle.nv_pmem.specs.declared.picker.Pick.{Pick}
use Rattle.nv_header.specs.Needs.{HasLines}
use Rattle.nv_open.specs.Lending.{stores_named, without_stores}
use Rattle.nv_open.specs.Unopened.{IsAtRestWith}
use Rattle.nv_recover.specs.Standing.{files_of}
use Rattle.nv_bench.specs.Benches.{BenchState, left_last}
use Rattle.nv_bench.specs.Holding.{Holding, NamedStore, is_named}
use Rattle.nv_open.specs.Held.{files_named, header_names}
use Rattle.nv_open.specs.Refusals.{head_image, rooms_of}
use Rattle.nv_recover.specs.Recovering.{HasFoundAll}
use Rattle.nv_recover.specs.declared.recovering.Recovered as recover
use Rattle.nv_trace.specs.declared.trace_call.TracedCall.{TracedCall}
use Rattle.nv_runner.specs.Faithful.{Basis}
use Rattle.nv_top.specs.Fates.{AreShownOpen}
use Rattle.nv_top.specs.Outcomes.{shown_report}
use Rattle.nv_runner.specs.Reports.{OpenCall}
use Rattle.nv_top.specs.Reports.{report_text}
use Rattle.nv_top.specs.declared.ending.Stop.{Stop}
use Rattle.nv_top.specs.declared.ending.Stop.TheVariants.{Usage, BadLine, InputLong, Read, Write, Device, Region, NoMemory, Turns}
use Rattle.nv_runner.specs.declared.sorted.SortedCalls.{SortedCalls}

-- a bench to which all that was lent came back
abbrev pub all_back : BenchState → BenchState
all_back bench = record bench { is_open = false; lent = [] }

-- All that was lent came back to a bench, and nothing else is said of it.
abbrev pub IsAllBack : BenchState → Type 0
IsAllBack new = new ≡ all_back new

-- It was armed with this number once more since.
abbrev pub IsPoweredBack : ℕ → (old new : BenchState) → Type 0
IsPoweredBack k old new = new ≡ record (all_back new) { arms = old.arms + 1; armed = k }

-- It wasn't armed: it is as it was, but for what it tells and its count of faults.
abbrev pub IsBackUnarmed : (old new : BenchState) → Type 0
IsBackUnarmed old new = new ≡ record (all_back old) { told = new.told; faults = new.faults }

-- Power went off once more, with this pick; or, for want of memory, it did not.
abbrev pub IsPickedOnce : Pick → (old new : BenchState) → Type 0
IsPickedOnce pick old new = (new.picked ≡ pick ∷ old.picked) ⊎ (new.picked ≡ old.picked)

-- Power went off once more, with this pick, and what it left is kept beside that.
pub record IsOff (pick : Pick) (old new : BenchState) : Type 0 where
  pub picked : new.picked ≡ pick ∷ old.picked
  pub power : Option Holding
  pub lefts : new.lefts ≡ power ∷ old.lefts

-- or it didn't
abbrev pub IsOffOnce : Pick → (old new : BenchState) → Type 0
IsOffOnce pick old new = IsOff pick old new ⊎ ((new.picked ≡ old.picked) × (new.lefts ≡ old.lefts))

-- What a stop says of the count of faults and of what it was when power went off: only after that a device's fault stops the run.
abbrev pub StopSettles : (settled now : ℕ) → Stop → Type 0
StopSettles settled now Usage = ⊥
StopSettles settled now (BadLine bad) = ⊥
StopSettles settled now InputLong = ⊥
StopSettles settled now Read = ⊥
StopSettles settled now Write = ⊥
StopSettles settled now Device = Rose settled now
StopSettles settled now (Region refusal) = now ≤ settled
StopSettles settled now NoMemory = now ≤ settled
StopSettles settled now Turns = now ≤ settled

abbrev pub IsSettledStop : {T : Type 0} → (settled now : ℕ) → Result T Stop → Type 0
IsSettledStop settled now (Ok _) = now ≡ settled
IsSettledStop settled now (Err stop) = StopSettles settled now stop

-- No store of these names is at home.
abbrev pub IsAway : List (List ℕ) → Holding → Type 0
IsAway names holding = All (λ name. All (λ named. is_named name named ≡ false) holding.stores) names

-- A bench tells that it holds a region of this version and these sizes with these names, in so many parts with its lines, at rest with an empty log that goes on with
-- this number; and behind these other stores those of its names, which hold these files, durable.
pub record RestsWith (version : Version) (page entries : ℕ) (names : List (List ℕ)) (next : ℕ) (files : Files) (many : ℕ) (others : List NamedStore) (told : Option Holding) : Type 0 where
  pub now : Holding
  pub told_is : told ≡ Some now
  pub rests : IsAtRestWith version page entries names next files others now
  pub long : HasLines (layout_of version) page entries (rooms_of now.parts)
  pub many_are : length now.parts ≡ many

-- The text is that of the report of the sorted calls, with these files, and with what became of those that were left open.
pub record ShowsOpen (sorted : SortedCalls) (begun : List TracedCall) (found : recover.Recovered) (names : List (List ℕ)) (files : Files) (text : List ℕ) : Type 0 where
  pub open_calls : List OpenCall
  pub are_open : AreShownOpen found.first found.groups sorted.open_calls.items begun open_calls
  pub text_is : text ≡ report_text (shown_report sorted open_calls names files)

-- A recovery of a bench that held this is shown: what it found, by the region's names and the files that the bench stood for. The bench rests with these files, and with the version and the sizes that the header said; the log goes on where it was
-- found to end. It has as many parts as before, and the stores of other names are as they were.
pub record IsShownRecovered (Shown : (found : recover.Recovered) (names : List (List ℕ)) (files : Files) → Type 0) (holding : Holding) (told : Option Holding) : Type 0 where
  pub found : recover.Recovered
  pub log : HasFoundAll (row_words holding.parts) found
  pub shown : Shown found (header_names holding.parts) (files_named holding.parts (header_names holding.parts) holding.stores)
  pub left : RestsWith (version_in (head_image holding.parts)) (header_of (head_image holding.parts)).page (header_of (head_image holding.parts)).entries (header_names holding.parts) found.next
      (files_named holding.parts (header_names holding.parts) holding.stores) (length holding.parts) (without_stores (header_names holding.parts) holding.stores) told

-- The text is that of its report. Beside the calls that were sorted out, these were begun and drew no number.
abbrev pub ShowsRecovered : (holding : Holding) → SortedCalls → (begun : List TracedCall) → (told : Option Holding) → (text : List ℕ) → Type 0
ShowsRecovered holding sorted begun told text = IsShownRecovered (λ found names files. ShowsOpen sorted begun found names files text) holding told

-- the number behind the log that stands in these parts
abbrev pub next_in : List Part → Files → ℕ
next_in parts files = (recovered (row_words parts) files).next

-- Power went off once more than with those picks, with this one, and left this of a bench. That was recovered: the bench rests with the files that it recovers to, and with the sizes of the basis; the log goes on where that of what power
-- left ended. The bench has so many parts, and these other stores.
pub record HasLostPower (pick : Pick) (before : List Pick) (basis : Basis) (many : ℕ) (others : List NamedStore) (bench : BenchState) : Type 0 where
  pub picked : bench.picked ≡ pick ∷ before
  pub power : Holding
  pub power_left : left_last bench ≡ Some power
  pub stands : files_named power.parts basis.names power.stores ≡ (recovered (row_words power.parts) (files_of (stores_named basis.names power.stores))).files
  pub rests : RestsWith mount_version basis.sizes.page basis.sizes.entries basis.names (next_in power.parts basis.files) (files_named power.parts basis.names power.stores) many others bench.told

-- Runs keep the region and the stores, so each state of a run survives a power failure.
use Rattle.std.proofs.Common.{◌≡◌, ℕ, Bool, List, [], ◌∷◌, length, sym, ap, subst, arith}
use Rattle.std.specs.Prelude.{slice_index}
use Rattle.nv_plain.specs.Files.{Files}
use Rattle.nv_plain.specs.Layouts.{mount_layout}
use Rattle.nv_pmem.specs.Limits.{IsPageSize}
use Rattle.nv_pmem.specs.Part.{part_word}
use Rattle.nv_pmem.specs.Laws.{QuietPartHasOneImage}
use Rattle.nv_header.specs.Heads.{header_image}
use Rattle.nv_header.specs.Regions.{ReadsAs}
use Rattle.nv_store.specs.Store.{Store, IsQuietStore}
use Rattle.nv_core.specs.state.Words.{Sizes}
use Rattle.nv_core.specs.steps.Order.{Values}
use Rattle.nv_core.specs.state.Core.{Core}
use Rattle.nv_core.specs.steps.Events.{Event, after_event, after_run, IsRun}
use Rattle.nv_core.specs.steps.Opening.{opening}
use Rattle.nv_core.specs.log.Groups.{Log, log_after}
use Rattle.nv_core.specs.log.InFlight.{placed_after}
use Rattle.nv_core.specs.log.Tails.{Tails, still, tails_after}
use Rattle.nv_core.specs.crash.PersistentTail.{LiesInPieces}
use Rattle.nv_core.specs.log.LogContent.{LogContent, OpeningHasTheLog, EventsKeepTheLog, RunsKeepTheLog, tails_after_run, log_after_run, placed_after_run}
use Rattle.nv_core.specs.crash.CrashImages.{HasRegion, EventsKeepRegion, OpeningHasRegion, StatesSurviveCrashes, RunsSurviveCrashes, RunsKeepRegion}
use Rattle.nv_core.specs.invariant.Sound.{Sound}
use Rattle.nv_core.specs.invariant.InvariantLaws.{OpeningIsSound, EventsKeepSound, RunsAreSound}
use Rattle.nv_core.proofs.state.Choices.{not_both}
use Rattle.nv_core.proofs.crash.CrashRegions.{reads_alike}

-- ---- the region

-- a durable store has nothing else
pub lies_in_none : (sizes : Sizes) (tail : ℕ) (log : Log) (core : Core) (file : ℕ) (store : Store) → IsQuietStore store → LiesInPieces sizes tail log core file store
lies_in_none sizes tail log core file store quiet = record {
  no_longer = let l = ap length quiet.durable in omega (arith, l);
  synced = λ i none. ap (λ bytes. slice_index bytes i) (sym quiet.durable);
  unsynced = λ i some. absurd (not_both some (quiet.none i));
  longer = λ more. absurd (let l = ap length quiet.durable in omega (arith, l, more));
}

pub opening_has_region : QuietPartHasOneImage → OpeningHasRegion
opening_has_region one_image mount files names log opens has region = record {
  header = λ image is.
      let same : (line word : ℕ) → image 0 line word ≡ part_word opens.header.part line word = λ line word. one_image opens.header.part (image 0) line word (opens.header.quiet.lines line) (is.header opens.header.part opens.header.is) in
      let reads = reads_alike mount.sizes names mount.next image (header_image opens.header.part) same (region.header opens.header.part opens.header.is) in
      subst (λ t. ReadsAs mount_layout mount.sizes.page mount.sizes.entries names t image) (sym reads.tail_is) reads;
  files = region.files;
  pages = region.pages;
  low = omega arith;
  persistent = record { stores = λ file store less told. lies_in_none mount.sizes mount.next log (opening mount) file store (region.quiet.each file store told) };
}

region_run : EventsKeepSound → EventsKeepTheLog → EventsKeepRegion → (sizes : Sizes) → IsPageSize sizes.page → (first : Values) (opened : Files) (names : List (List ℕ)) (tails : Tails) (events : List Event) (log : Log) (placed : ℕ → Bool) (core : Core)
    → Sound sizes first core → LogContent sizes first opened tails log placed core → HasRegion sizes names tails log core → IsRun sizes core events
    → HasRegion sizes names (tails_after_run sizes core events tails) (log_after_run sizes core events log) (after_run sizes core events)
region_run sounds logs keeps sizes page_is first opened names tails [] log placed core sound content region run = region
region_run sounds logs keeps sizes page_is first opened names tails (event ∷ later) log placed core sound content region run =
    region_run sounds logs keeps sizes page_is first opened names (tails_after event core tails) later (log_after sizes event core log) (placed_after sizes event core placed) (after_event sizes event core)
    (sounds sizes first core event sound run.0) (logs sizes first opened tails log placed core event page_is sound content run.0)
    (keeps sizes first opened names tails log placed core event sound content region run.0) run.1

pub runs_keep_region : OpeningIsSound → EventsKeepSound → OpeningHasTheLog → EventsKeepTheLog → OpeningHasRegion → EventsKeepRegion → RunsKeepRegion
runs_keep_region opens_sound sounds opens_log logs opened region_keeps mount files names log placed events is opens has region run =
    region_run sounds logs region_keeps mount.sizes opens.page mount.values files names (still mount.next) events log placed (opening mount) (opens_sound mount is)
    (opens_log mount files mount.next log placed opens has) (opened mount files names log opens has region) run

pub runs_survive : OpeningIsSound → EventsKeepSound → OpeningHasTheLog → EventsKeepTheLog → RunsAreSound → RunsKeepTheLog → OpeningHasRegion → EventsKeepRegion → StatesSurviveCrashes → RunsSurviveCrashes
runs_survive opens_sound sounds opens_log logs sound keeps opened region_keeps survive mount files names log placed events is opens has region run =
    survive mount.sizes mount.values files names (tails_after_run mount.sizes (opening mount) events (still mount.next)) (log_after_run mount.sizes (opening mount) events log) (placed_after_run mount.sizes (opening mount) events placed) (after_run mount.sizes (opening mount) events)
    (sound mount events is run) (keeps mount files mount.next log placed events is opens has run)
    (region_run sounds logs region_keeps mount.sizes opens.page mount.values files names (still mount.next) events log placed (opening mount) (opens_sound mount is)
    (opens_log mount files mount.next log placed opens has) (opened mount files names log opens has region) run)

-- Stored: what lies below TAIL is in the stores, whatever a power failure leaves.
use Rattle.std.proofs.Common.{ℕ, ◌≤◌, false, arith}
use Rattle.nv_plain.specs.declared.call.FileCall.TheVariants.{Sync}
use Rattle.nv_store.specs.Store.{Store}
use Rattle.nv_core.specs.state.Words.{Sizes, TAIL}
use Rattle.nv_core.specs.state.Core.{Core}
use Rattle.nv_core.specs.crash.CrashImages.{RunsKeepRegion, RunsSurviveCrashes}
use Rattle.nv_core.specs.crash.PersistentTail.{IsInAPiece, LiesInPieces}
use Rattle.nv_core.specs.invariant.InvariantLaws.{RunsAreSound}
use Rattle.nv_core.specs.log.Groups.{Log}
use Rattle.nv_core.specs.log.LogContent.{RunsKeepTheLog}
use Rattle.nv_core.specs.steps.Opening.{IsMount}
use Rattle.nv_table.specs.state.Opened.{mount_of, IsRunOf, state_of}
use Rattle.nv_table.specs.state.Views.{PassView, pass_of}
use Rattle.nv_mount.specs.LoneWords.{word_then}
use Rattle.nv_clean.specs.Stored.{IsStored}

-- a piece no lower than one number is no lower than a lower one
lower : (sizes : Sizes) (tail below : ℕ) (log : Log) (core : Core) (file i : ℕ) → below ≤ tail → IsInAPiece sizes tail log core file i → IsInAPiece sizes below log core file i
lower sizes tail below log core file i low piece = record { number = piece.number; within = piece.within; high = let high = piece.high in omega (arith, low, high); live = piece.live; touches = piece.touches }

lies_lower : (sizes : Sizes) (tail below : ℕ) (log : Log) (core : Core) (file : ℕ) (store : Store) → below ≤ tail → LiesInPieces sizes tail log core file store → LiesInPieces sizes below log core file store
lies_lower sizes tail below log core file store low lies = record {
  no_longer = lies.no_longer;
  synced = lies.synced;
  unsynced = λ i at. lower sizes tail below log core file i low (lies.unsynced i at);
  longer = λ more. let last = lies.longer more in (last.0, last.1, lower sizes tail below log core file last.0 low last.2);
}

-- some log to begin with, of which nothing matters
no_log : Log
no_log = record { group = λ number. record { call = Sync 0; first = 0; entries = 0 }; calls = λ number. 0 }

module _ (sound : RunsAreSound) (survive : RunsSurviveCrashes) (region : RunsKeepRegion) (keep : RunsKeepTheLog) (view : PassView) (mount : IsMount (mount_of view.opened)) (run : IsRunOf view.opened view.run) where
  abbrev core : Core
  core = state_of view.opened view.run

  below_tail : (below : ℕ) → below ≤ core.words TAIL → IsStored view below
  below_tail below low = record {
    images = λ files names image bytes tells part stores.
        let first = (survive (mount_of view.opened) files names no_log (λ number. false) view.run mount tells.log tells.files_are tells.region run image bytes part stores).low in omega (arith, low, first);
    stores = λ files names log tells.
        let has = region (mount_of view.opened) files names log (λ number. false) view.run mount tells.log tells.files_are tells.region run in
        let least = has.low in
        let order = (keep (mount_of view.opened) files (mount_of view.opened).next log (λ number. false) view.run mount tells.log tells.files_are run).retired.order in
        record { stores = λ file store there told. lies_lower view.opened.sizes _ below _ core file store (omega (arith, low, least, order)) (has.persistent.stores file store there told) };
  }

  -- and so what lies below TAIL as a pass saw it last
  pub seen_stored : (below : ℕ) → below ≤ (pass_of view).tail → IsStored view below
  seen_stored below low = below_tail below (let seen = (sound (mount_of view.opened) view.run mount run).loaded.tail view.number in omega (arith, low, seen))

  -- which is no more than it is
  pub seen_tail : (pass_of view).tail ≤ word_then view TAIL
  seen_tail = (sound (mount_of view.opened) view.run mount run).loaded.tail view.number

-- Owned: the files of a mount that nobody shares. Only its first session has called, so that its one history is that session's calls, and its files are plain files.
use Rattle.std.specs.Prelude.{◌≡◌, ℕ, List, length, map, take, Some}
use Rattle.nv_plain.specs.Files.{Files, bytes_at, contents_of, overwritten, with_contents}
use Rattle.nv_plain.specs.Histories.{after}
use Rattle.nv_plain.specs.Made.{after_calls}
use Rattle.nv_plain.specs.Recovered.{recovered}
use Rattle.nv_pmem.specs.Rows.{InEachRowImage, RowTells}
use Rattle.nv_pmem.specs.Steps.{PartHistory}
use Rattle.nv_store.specs.Steps.{StoreHistory}
use Rattle.nv_bench.specs.Benches.{BenchState}
use Rattle.nv_recover.specs.Standing.{AreStoreImages}
use Rattle.nv_core.specs.crash.CrashImages.{OpensRegion}
use Rattle.nv_core.specs.content.Content.{Opens}
use Rattle.nv_core.specs.log.LivePieces.{store_files}
use Rattle.nv_core.specs.log.LogContent.{OpensLog}
use Rattle.nv_table.specs.state.Opened.{Opened, mount_of}
use Rattle.nv_table.specs.state.Views.{PassView, made_of, pass_of}
use Rattle.nv_mirror.specs.declared.answers.Done.{Done}
use Rattle.nv_calls.specs.fsync.SyncRuns.{file_of_fd}
use Rattle.nv_calls.specs.histories.Faults.{OpenWrite, open_writes}
use Rattle.nv_runner.specs.OpenWrites.{kept_open}
use Rattle.nv_session.specs.Closing.{HasClosed, Views}
use Rattle.nv_mount.specs.declared.fds.Fd.{Fd}
use Rattle.nv_session.specs.Sessions.{FirstState}

-- ---- at opening

-- the files that a mount opened, where its stores told
abbrev pub opening_files : Opened → Files
opening_files opened = store_files opened.sizes (mount_of opened).values

-- The devices told when the mount was opened: its log was empty, and its stores had those files.
pub record Told (opened : Opened) : Type 0 where
  pub log : OpensLog (mount_of opened) opened.next
  pub files : Opens (mount_of opened) (opening_files opened)

-- ---- since

-- No pass was made beside the first one.
abbrev pub IsOwn : FirstState → Type 0
IsOwn first = made_of first.pass.view ≡ 0

-- the files after the calls that a pass has seen
abbrev pub files_seen : PassView → Files
files_seen view = after (pass_of view).seen (opening_files view.opened)

-- So they are after all calls.
abbrev pub files_of : FirstState → Files
files_of first = files_seen first.pass.view

-- Where the devices told, the bytes of the descriptor's file from the offset on came to the front of the buffer, as many as it has or up to the file's end.
pub record HasBytes (fds : List Fd) (files : Files) (fd at : ℕ) (buf : List ℕ) (done : Done) : Type 0 where
  pub file : ℕ
  pub file_is : file_of_fd fds fd ≡ Some file
  pub len : done.len ≡ length (bytes_at (contents_of files file) at (length buf))
  pub bytes : take done.len buf ≡ bytes_at (contents_of files file) at (length buf)

-- The bytes stand in the descriptor's file from the offset on, and all else is as it was.
pub record HasPut (fds : List Fd) (fd at : ℕ) (bytes : List ℕ) (old new : Files) : Type 0 where
  pub file : ℕ
  pub file_is : file_of_fd fds fd ≡ Some file
  pub put : new ≡ with_contents old file (overwritten (contents_of old file) at bytes)

-- Where the devices told when its mount was opened, and its stores had some files, these are what it opened; its calls, if it has made any, came behind.
abbrev pub TellsFiles : FirstState → Type 0
TellsFiles first =
    (files : Files) → OpensLog (mount_of first.mount.board.opened) first.mount.board.opened.next → Opens (mount_of first.mount.board.opened) files
    → Told first.mount.board.opened × (files_of first ≡ after (pass_of first.pass.view).seen files)

-- ---- at its end

-- Whatever a power failure leaves of parts and stores that tell recovers to these files, and then those of these writes that it keeps, each whole.
abbrev pub LeaveFiles : Opened → Files → List OpenWrite → (parts : List PartHistory) (stores : List StoreHistory) → Type 0
LeaveFiles opened files writes parts stores =
    (names : List (List ℕ)) → OpensRegion (mount_of opened) names
    → RowTells parts (InEachRowImage (λ image. RowTells stores (λ held. (bytes : Files) → AreStoreImages held bytes
    → (recovered image bytes).files ≡ after_calls (kept_open (recovered image bytes).first (recovered image bytes).groups writes) files)))

-- The mount was closed, and its parts and stores leave the files then, with the writes that device faults ended.
pub record HasEnded {L B : Type 0} (views : Views L B) (first : FirstState) (bench : BenchState) : Type 0 where
  pub closed : HasClosed views first bench
  pub left : Told first.mount.board.opened → LeaveFiles first.mount.board.opened (files_of first) (open_writes first.pass) (map views.part_history closed.parts) (map views.store_history closed.stores)

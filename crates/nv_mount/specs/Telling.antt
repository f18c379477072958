-- Telling: what the devices of a region and its stores tell when they are mounted.
use Rattle.std.specs.Prelude.{◌≡◌, ℕ, ◌+◌, ◌<◌, ◌≤◌, true, List, [], ◌∷◌, ◌++◌, length, map, Option, Some, None, is_some}
use Rattle.std.specs.List.{All, AllZip, range_with_len}
use Rattle.nv_plain.specs.Files.{Files}
use Rattle.nv_plain.specs.Layouts.{mount_layout}
use Rattle.nv_pmem.specs.Part.{Part}
use Rattle.nv_pmem.specs.Rows.{RowTells}
use Rattle.nv_pmem.specs.Steps.{PartHistory}
use Rattle.nv_store.specs.Steps.{StoreHistory}
use Rattle.nv_header.specs.Regions.{part_lines}
use Rattle.nv_core.specs.state.Values.{Value, APart}
use Rattle.nv_core.specs.content.Content.{Opens}
use Rattle.nv_core.specs.log.LogContent.{OpensLog}
use Rattle.nv_core.specs.steps.Opening.{Mount}
use Rattle.nv_table.specs.state.Layout.{cell_of}
use Rattle.nv_table.specs.state.Opened.{mount_of}
use Rattle.nv_table.specs.state.States.{PassState}

-- a store tells, and reads give these bytes of it
abbrev pub IsSeen : StoreHistory → List ℕ → Type 0
IsSeen [] bytes = ⊥
IsSeen (now ∷ past) bytes = now.seen ≡ bytes

-- Each of the stores tells, and they have these files: there are as many, and each reads as its file.
abbrev pub StoresHave : List StoreHistory → Files → Type 0
StoresHave row files = AllZip IsSeen row files.contents

-- each device of a row tells
abbrev pub AllDevicesTell : {S : Type 0} → List (List S) → Type 0
AllDevicesTell row = All (λ history. 0 < length history) row

-- what keeps a part that tells
abbrev pub IsTelling : Value → Type 0
IsTelling (APart device spares) = is_some device.told ≡ true
IsTelling value = ⊥

-- Where all devices of a region and all stores told when they were mounted, those that come out of the mount tell: those that had a slot, and the
-- parts that had none.
abbrev pub DevicesGoOnTelling : PassState → (parts : List PartHistory) (stores : List StoreHistory) → Type 0
DevicesGoOnTelling pass parts stores =
    (files : Files) → OpensLog (mount_of pass.view.opened) pass.view.opened.next → Opens (mount_of pass.view.opened) files → All IsTelling pass.spare
    → AllDevicesTell parts × AllDevicesTell stores

-- ---- lines

-- how many lines a part has, where it tells
abbrev pub told_lines : Option Part → ℕ
told_lines None = 0
told_lines (Some part) = length part

-- how many lines the part tells that it has that a value keeps; none, where it keeps no part that tells
abbrev pub lines_kept : Value → ℕ
lines_kept (APart device spares) = told_lines device.told
lines_kept value = 0

-- The parts of a mount's header and entries tell that they have the lines of the layout.
abbrev pub HasLongParts : Mount → Type 0
HasLongParts mount = (slot : ℕ) → slot ≤ mount.sizes.entries → part_lines mount_layout mount.sizes.page slot ≤ lines_kept (mount.values (cell_of mount.sizes slot))

-- how many lines each part of a mount tells that it has: those of the header and of the entries, and behind them those that have no slot
abbrev pub mounted_lines : Mount → (spare : List Value) → List ℕ
mounted_lines mount spare =
    map (λ slot. lines_kept (mount.values (cell_of mount.sizes slot))) (range_with_len 0 (1 + mount.sizes.entries)) ++ map (λ value. lines_kept value) spare

-- No part that comes out has more or fewer than when it was mounted, where all tell.
abbrev pub KeepLines : PassState → (parts : List PartHistory) → Type 0
KeepLines pass parts = RowTells parts (λ now. map (λ part. length part) now ≡ mounted_lines (mount_of pass.view.opened) pass.spare)

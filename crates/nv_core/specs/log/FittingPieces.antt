-- Fitting pieces: what a part says of an entry that was made ready lies in one page.
use Rattle.std.specs.Prelude.{◌≡◌, ℕ, ◌+◌, ◌%◌, ◌≤◌, true, List, Option, Some, None}
use Rattle.nv_plain.specs.Images.{entry_of}
use Rattle.nv_pmem.specs.Part.{Part, part_word}
use Rattle.nv_core.specs.state.Words.{Sizes, ENTRY, was_readied, slot_of_entry}
use Rattle.nv_core.specs.state.Values.{Value, APart}
use Rattle.nv_core.specs.state.Passes.{ReadPiece}
use Rattle.nv_core.specs.steps.Events.{Event, after_run, IsRun}
use Rattle.nv_core.specs.steps.Opening.{Mount, IsMount, opening}

-- the entry that a part tells lies in one page
abbrev pub FitsTold : Sizes → Option Part → Type 0
FitsTold sizes None = Unit {0}
FitsTold sizes (Some part) = (entry_of (part_word part)).at % sizes.page + (entry_of (part_word part)).size ≤ sizes.page

-- a cell keeps a part, and the entry that it tells, if it tells one, lies in one page
abbrev pub PieceFits : Sizes → Value → Type 0
PieceFits sizes (APart device spares) = FitsTold sizes device.told
PieceFits sizes value = ⊥

-- After every run the part of each entry that was made ready says a piece that lies in one page, if it tells anything: whatever other devices
-- tell, and whatever the parts said at opening.
abbrev pub ReadyPiecesFit : Type 0
ReadyPiecesFit =
    (mount : Mount) (events : List Event) (slot : ℕ)
    → IsMount mount → 1 ≤ mount.sizes.page → IsRun mount.sizes (opening mount) events
    → was_readied ((after_run mount.sizes (opening mount) events).words (ENTRY slot)) ≡ true
    → PieceFits mount.sizes ((after_run mount.sizes (opening mount) events).values (ENTRY slot))

-- So it is of the entry whose piece a read is about to read.
abbrev pub HeldPiecesFit : Type 0
HeldPiecesFit =
    (mount : Mount) (events : List Event) (by page number : ℕ)
    → IsMount mount → 1 ≤ mount.sizes.page → IsRun mount.sizes (opening mount) events
    → ((after_run mount.sizes (opening mount) events).passes by).control ≡ ReadPiece page number
    → PieceFits mount.sizes ((after_run mount.sizes (opening mount) events).values (ENTRY (slot_of_entry mount.sizes number)))

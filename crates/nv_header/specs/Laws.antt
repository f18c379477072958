-- Laws about regions, for what stands on them.
use Rattle.std.specs.Prelude.{◌≡◌, ◌⊎◌, ℕ, ◌<◌, ◌≤◌, List, [], length, take, All}
use Rattle.nv_plain.specs.Files.{Files}
use Rattle.nv_plain.specs.Images.{Image}
use Rattle.nv_plain.specs.Layouts.{Layout}
use Rattle.nv_plain.specs.Recovered.{IsBlank, recovered, region_files}
use Rattle.nv_pmem.specs.Images.{InEachPartImage, IsOldOrStored, IsQuietPart}
use Rattle.nv_pmem.specs.Part.{Part}
use Rattle.nv_pmem.specs.Room.{Room}
use Rattle.nv_pmem.specs.Runs.{run}
use Rattle.nv_pmem.specs.Steps.{after_line_step}
use Rattle.nv_header.specs.HeaderSteps.{tail_steps}
use Rattle.nv_header.specs.Needs.{HasLines}
use Rattle.nv_header.specs.Regions.{HasParts, HasEmptyLog}

-- ---- what a region stands for

-- A region that isn't formatted, or whose log is empty, stands for just what its stores hold. So the files are the same at each
-- moment of formatting, and of adding a name.
abbrev pub StandsForItsStores : Type 0
StandsForItsStores =
    (layout : Layout) (page entries : ℕ) (names : List (List ℕ)) (next : ℕ) (image : Image) (stores : Files)
    → IsBlank image ⊎ HasEmptyLog layout page entries names next image → region_files image stores ≡ stores

-- An empty log recovers to no group, and goes on where the tail is.
abbrev pub EmptyLogRecoversNothing : Type 0
EmptyLogRecoversNothing =
    (layout : Layout) (page entries : ℕ) (names : List (List ℕ)) (next : ℕ) (image : Image) (stores : Files)
    → HasEmptyLog layout page entries names next image
    → recovered image stores ≡ record { first = next; groups = []; next = next; files = stores }

-- ---- the parts that a region needs

-- each line of a part can take 15 stores
abbrev pub HasSpare : Room → Type 0
HasSpare room = (line : ℕ) → line < room.lines → 15 ≤ room.spare line

-- Parts that have the needed lines, with room in each, are those that a region needs.
abbrev pub LinesMakeParts : Type 0
LinesMakeParts =
    (layout : Layout) (page entries : ℕ) (rooms : List Room)
    → HasLines layout page entries rooms → All HasSpare rooms → HasParts layout page entries rooms

-- ---- the tail

-- the header's part after the first so many steps that move the tail
abbrev pub after_some_tail : (tail steps : ℕ) → Part → Part
after_some_tail tail steps part = run after_line_step (take steps (tail_steps tail)) part

-- After each step the tail is as it was or the new one, and all other words are as they were.
abbrev pub TailIsOldOrNew : Type 0
TailIsOldOrNew =
    (tail steps : ℕ) (part : Part) → InEachPartImage (IsOldOrStored part 1 0 tail) (after_some_tail tail steps part)

-- After the last it is the new one,
abbrev pub TailIsMoved : Type 0
TailIsMoved =
    (tail : ℕ) (part : Part) → 1 < length part → InEachPartImage (λ image. image 1 0 ≡ tail) (run after_line_step (tail_steps tail) part)

-- and a quiet part is quiet again.
abbrev pub TailEndsQuiet : Type 0
TailEndsQuiet = (tail : ℕ) (part : Part) → IsQuietPart part → IsQuietPart (run after_line_step (tail_steps tail) part)

-- Laws about words and images, for what stands on parts. Each word of a line may be left by itself as it was.
use Rattle.std.specs.Prelude.{◌≡◌, ℕ, ◌<◌, List, [], ◌∷◌, ◌++◌, length}
use Rattle.nv_plain.specs.Images.{PartImage}
use Rattle.nv_pmem.specs.Images.{IsPartImage, IsQuietLine}
use Rattle.nv_pmem.specs.Part.{Part, blank_line, line_of, part_word}
use Rattle.nv_pmem.specs.Runs.{run}
use Rattle.nv_pmem.specs.Steps.{LineStep, StoreWord, Flush, Fence, after_line_step}
use Rattle.nv_pmem.specs.Stored.{LeaveWord, LeaveLine, ComesFrom}

-- ---- what loads give

-- A word that is stored has its value.
abbrev pub StoredIsLoaded : Type 0
StoredIsLoaded =
    (part : Part) (line word value : ℕ) → line < length part → part_word (after_line_step (StoreWord line word value) part) line word ≡ value

-- A word that no step stores is as it was.
abbrev pub OthersAreKept : Type 0
OthersAreKept =
    (steps : List LineStep) (part : Part) (line word : ℕ) → LeaveWord steps line word → part_word (run after_line_step steps part) line word ≡ part_word part line word

-- No step changes how many lines there are.
abbrev pub StepsKeepLines : Type 0
StepsKeepLines = (steps : List LineStep) (part : Part) → length (run after_line_step steps part) ≡ length part

-- A blank line is zeros.
abbrev pub BlankIsZeros : Type 0
BlankIsZeros = (part : Part) (line word : ℕ) → line_of part line ≡ blank_line → part_word part line word ≡ 0

-- ---- images

-- What loads give is one of the images.
abbrev pub LoadsAreAnImage : Type 0
LoadsAreAnImage = (part : Part) → IsPartImage part (part_word part)

-- After some steps each word of an image is as in an image of before, or one of them stored it.
abbrev pub StepsAddTheirStores : Type 0
StepsAddTheirStores =
    (steps : List LineStep) (part : Part) (image : PartImage) → IsPartImage (run after_line_step steps part) image → ComesFrom part steps image

-- Steps that store nothing leave no other image than before.
abbrev pub NoStoreAddsNothing : Type 0
NoStoreAddsNothing =
    (steps : List LineStep) (part : Part) (image : PartImage)
    → ((line : ℕ) → LeaveLine steps line) → IsPartImage (run after_line_step steps part) image → IsPartImage part image

-- ---- quiet lines

-- A quiet line is, in each image, as loads give it.
abbrev pub QuietPartHasOneImage : Type 0
QuietPartHasOneImage =
    (part : Part) (image : PartImage) (line word : ℕ)
    → IsQuietLine (line_of part line) → IsPartImage part image → image line word ≡ part_word part line word

-- A line is quiet after a flush of it and then a fence, where nothing is stored in it between them.
abbrev pub FlushAndFenceSettle : Type 0
FlushAndFenceSettle =
    (line : ℕ) (between : List LineStep) (part : Part)
    → LeaveLine between line → IsQuietLine (line_of (run after_line_step (Flush line ∷ (between ++ Fence ∷ [])) part) line)

-- A quiet line stays quiet until something is stored in it.
abbrev pub QuietStays : Type 0
QuietStays =
    (line : ℕ) (steps : List LineStep) (part : Part)
    → LeaveLine steps line → IsQuietLine (line_of part line) → IsQuietLine (line_of (run after_line_step steps part) line)

-- A blank line is quiet.
abbrev pub BlankIsQuiet : Type 0
BlankIsQuiet = IsQuietLine blank_line

-- Migrations: a region of version 1 carried over to version 2, with its names, its sizes and its tail.
use Rattle.std.specs.Prelude.{◌≡◌, ◌⊎◌, ℕ, ◌≤◌, List}
use Rattle.nv_plain.specs.Images.{Image}
use Rattle.nv_plain.specs.Layouts.{layout_of, version_1, version_2}
use Rattle.nv_header.specs.Heads.{IsHeadOf}
use Rattle.nv_header.specs.Refusals.{SpeaksOfImage}
use Rattle.nv_header.specs.Regions.{HasEmptyLog}
use Rattle.nv_header.specs.Unread.{IsUnread}
use Rattle.nv_header.specs.declared.head.Head.{Head}
use Rattle.nv_header.specs.declared.head.HeadError.{HeadError}

-- The log is empty, under a header of version 1 or of version 2 that says the same.
abbrev pub HasEmptyLogInEither : (page entries : ℕ) (names : List (List ℕ)) (next : ℕ) → Image → Type 0
HasEmptyLogInEither page entries names next image =
    HasEmptyLog version_1 page entries names next image ⊎ HasEmptyLog version_2 page entries names next image

-- what a head says beside its version
pub record HeadSays (page entries : ℕ) (names : List (List ℕ)) (tail : ℕ) (head : Head) : Type 0 where
  pub page_is : head.geometry.page ≡ page
  pub entries_is : head.geometry.entries ≡ entries
  pub names_are : head.names ≡ names
  pub tail_is : head.tail ≡ tail

-- Whatever a power failure leaves of a migration: a head that is read from the header's part says what the region was,
abbrev pub EitherVersionSaysTheSame : Type 0
EitherVersionSaysTheSame =
    (page entries : ℕ) (names : List (List ℕ)) (next lines : ℕ) (image : Image) (head : Head)
    → HasEmptyLogInEither page entries names next image → IsHeadOf (layout_of head.version) lines (λ part. image 0) head
    → HeadSays page entries names next head

-- and no refusal of it is one, where the part has the lines of version 2.
abbrev pub EitherVersionIsRead : Type 0
EitherVersionIsRead =
    (page entries : ℕ) (names : List (List ℕ)) (next lines : ℕ) (image : Image) (refusal : HeadError)
    → HasEmptyLogInEither page entries names next image → version_2.header_lines ≤ lines → SpeaksOfImage refusal
    → ¬ (IsUnread lines (λ part. image 0) refusal)

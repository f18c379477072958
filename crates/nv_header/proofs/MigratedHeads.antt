-- What is read of a region that was migrated, or was being migrated.
use Rattle.std.proofs.Common.{◌≡◌, inl, inr, ℕ, ◌≤◌, List, ap, ◌∙◌, arith}
use Rattle.nv_plain.specs.Images.{Image, header_of}
use Rattle.nv_plain.specs.Layouts.{layout_of, version_2}
use Rattle.nv_plain.specs.declared.limits.Version.{Version}
use Rattle.nv_plain.specs.declared.limits.Version.TheVariants.{One, Two}
use Rattle.nv_header.specs.declared.head.Head.{Head}
use Rattle.nv_header.specs.Heads.{IsHead, IsHeadOf, first_names}
use Rattle.nv_header.specs.Migrations.{HeadSays, EitherVersionSaysTheSame, EitherVersionIsRead}
use Rattle.nv_header.specs.Regions.{HasEmptyLog}
use Rattle.nv_header.proofs.UnreadLaws.{same_version, head_not_unread}
use Rattle.nv_header.proofs.VersionLaws.{sizes}

-- a head of a region of one version says what that says
says_the_same : (version : Version) (page entries next lines : ℕ) (names : List (List ℕ)) (image : Image) (head : Head) → HasEmptyLog (layout_of version) page entries names next image → IsHeadOf (layout_of head.version) lines (λ part. image 0) head → HeadSays page entries names next head
unfolding first_names
says_the_same version page entries next lines names image head log is =
    let header = log.header in
    let same : head.version ≡ version = same_version head.version version (header_of image).version is.readable.fields.version_is header.readable.fields.version_is in
    record {
      page_is = is.page ∙ header.page_is;
      entries_is = is.entries ∙ header.entries_is;
      names_are = is.names ∙ ap (λ one. first_names (layout_of one) image (header_of image).files) same ∙ header.names_are;
      tail_is = is.tail ∙ header.tail_is;
    }

pub either_says_the_same : EitherVersionSaysTheSame
either_says_the_same page entries names next lines image head (inl old) is = says_the_same One page entries next lines names image head old is
either_says_the_same page entries names next lines image head (inr new) is = says_the_same Two page entries next lines names image head new is

-- it can be read in a part that has the lines
head_in_part : (version : Version) (page entries next lines : ℕ) (names : List (List ℕ)) (image : Image) → HasEmptyLog (layout_of version) page entries names next image → version_2.header_lines ≤ lines → IsHead (layout_of version) lines (λ part. image 0)
head_in_part version page entries next lines names image log enough =
    let readable = log.header.readable in
    record {
      long_enough = omega (arith, (sizes version).header);
      fields = readable.fields;
      names = λ i below. let good = readable.names i below in record { whole = good.whole; new = good.new };
    }

pub either_is_read : EitherVersionIsRead
either_is_read page entries names next lines image refusal (inl old) enough speaks =
    head_not_unread One lines (λ part. image 0) refusal (head_in_part One page entries next lines names image old enough) speaks
either_is_read page entries names next lines image refusal (inr new) enough speaks =
    head_not_unread Two lines (λ part. image 0) refusal (head_in_part Two page entries next lines names image new enough) speaks

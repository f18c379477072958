-- A header of whatever version that can be read isn't refused, and another one is refused for one reason.
use Rattle.std.proofs.Common.{◌≡◌, ℕ, ◌<◌, ◌≤◌, ◌⊎◌, inl, inr, Some, None, refl, sym, ap, ◌∙◌, subst, arith}
use Rattle.std.proofs.lemmas.Bool.{cases_lt}
use Rattle.nv_plain.specs.Images.{Image, Header, header_of}
use Rattle.nv_plain.specs.Layouts.{layout_of, version_1, version_numbered}
use Rattle.nv_plain.specs.declared.limits.Version.{Version}
use Rattle.nv_plain.specs.declared.limits.Version.TheVariants.{One, Two}
use Rattle.nv_header.specs.declared.head.HeadError.{HeadError}
use Rattle.nv_header.specs.declared.head.HeadError.TheVariants.{Truncated, BadMagic, BadVersion, BadGeometry, BadName, RegionFault, NoMemory}
use Rattle.nv_header.specs.Heads.{IsHead}
use Rattle.nv_header.specs.Refusals.{IsOurs, IsRefused, SpeaksOfImage}
use Rattle.nv_header.specs.Unread.{IsOfNoVersion, IsRefusedAsOurs, IsUnread, HeadIsNotUnread, IsUnreadOnce}
use Rattle.nv_header.proofs.RefusalLaws.{head_not_refused, one_refusal}

-- a version has its number,
numbered : (version : Version) → version_numbered (layout_of version).version ≡ Some version
numbered One = refl
numbered Two = refl

-- and no other one has it
pub same_version : (one other : Version) (number : ℕ) → number ≡ (layout_of one).version → number ≡ (layout_of other).version → one ≡ other
same_version One One number is also = refl
same_version One Two number is also = absurd (omega (arith, is, also))
same_version Two One number is also = absurd (omega (arith, is, also))
same_version Two Two number is also = refl

-- the shorter header is the first version's
shortest : (version : Version) → version_1.header_lines ≤ (layout_of version).header_lines
shortest One = omega arith
shortest Two = omega arith

is_known : (version : Version) (number : ℕ) → number ≡ (layout_of version).version → version_numbered number ≡ None → ⊥
is_known version number is none = let some : Some version ≡ None = sym (numbered version) ∙ ap version_numbered (sym is) ∙ none in cc

not_as_ours : (version : Version) (lines : ℕ) (image : Image) (refusal : HeadError) → IsHead (layout_of version) lines image → SpeaksOfImage refusal → IsRefusedAsOurs lines image refusal → ⊥
not_as_ours version lines image refusal head speaks is =
    let same = same_version is.version version (header_of image).version is.ours.version_is head.fields.version_is in
    let Refused : Version → Type 0 = λ one. IsRefused (layout_of one) lines image refusal in
    head_not_refused (layout_of version) lines image refusal head speaks (subst Refused same is.refused)

pub head_not_unread : HeadIsNotUnread
head_not_unread version lines image (Truncated found wanted) head speaks (inl short) = omega (arith, shortest version, head.long_enough, short.0)
head_not_unread version lines image (Truncated found wanted) head speaks (inr longer) = not_as_ours version lines image (Truncated found wanted) head speaks longer.1
head_not_unread version lines image BadMagic head speaks unread = unread.1 head.fields.magic
head_not_unread version lines image (BadVersion found) head speaks unread = is_known version (header_of image).version head.fields.version_is unread.1.1
head_not_unread version lines image (BadGeometry field found) head speaks unread = not_as_ours version lines image (BadGeometry field found) head speaks unread
head_not_unread version lines image (BadName i) head speaks unread = not_as_ours version lines image (BadName i) head speaks unread
head_not_unread version lines image RegionFault head speaks unread = speaks
head_not_unread version lines image NoMemory head speaks unread = speaks

-- where lines of the shorter header lack, that is the refusal
only_short : (lines : ℕ) (image : Image) (refusal : HeadError) → lines < version_1.header_lines → SpeaksOfImage refusal → IsUnread lines image refusal → refusal ≡ Truncated lines version_1.header_lines
only_short lines image (Truncated found wanted) few speaks (inl short) = ap (λ n. Truncated n wanted) short.1 ∙ ap (Truncated lines) short.2
only_short lines image (Truncated found wanted) few speaks (inr longer) = absurd (omega (arith, few, longer.0))
only_short lines image BadMagic few speaks unread = absurd (omega (arith, few, unread.0))
only_short lines image (BadVersion found) few speaks unread = absurd (omega (arith, few, unread.0))
only_short lines image (BadGeometry field found) few speaks unread = absurd (omega (arith, few, shortest unread.version, unread.refused.0))
only_short lines image (BadName i) few speaks unread = absurd (omega (arith, few, shortest unread.version, unread.refused.0))
only_short lines image RegionFault few speaks unread = absurd speaks
only_short lines image NoMemory few speaks unread = absurd speaks

-- where they are there, the header is of no version, or is refused as one of its own
by_version : (lines : ℕ) (image : Image) (refusal : HeadError) → version_1.header_lines ≤ lines → SpeaksOfImage refusal → IsUnread lines image refusal → IsOfNoVersion (header_of image) refusal ⊎ IsRefusedAsOurs lines image refusal
by_version lines image (Truncated found wanted) enough speaks (inl short) = absurd (omega (arith, enough, short.0))
by_version lines image (Truncated found wanted) enough speaks (inr longer) = inr longer.1
by_version lines image BadMagic enough speaks unread = inl unread.1
by_version lines image (BadVersion found) enough speaks unread = inl unread.1
by_version lines image (BadGeometry field found) enough speaks unread = inr unread
by_version lines image (BadName i) enough speaks unread = inr unread
by_version lines image RegionFault enough speaks unread = absurd speaks
by_version lines image NoMemory enough speaks unread = absurd speaks

-- a header of a version isn't of none
not_of_none : (version : Version) (header : Header) (refusal : HeadError) → IsOurs (layout_of version) header → IsOfNoVersion header refusal → ⊥
not_of_none version header BadMagic ours none = none ours.magic
not_of_none version header (BadVersion found) ours none = is_known version header.version ours.version_is none.1
not_of_none version header (Truncated found wanted) ours none = none
not_of_none version header (BadGeometry field found) ours none = none
not_of_none version header (BadName i) ours none = none
not_of_none version header RegionFault ours none = none
not_of_none version header NoMemory ours none = none

none_once : (header : Header) (one other : HeadError) → IsOfNoVersion header one → IsOfNoVersion header other → one ≡ other
none_once header BadMagic BadMagic is also = refl
none_once header BadMagic (BadVersion found) is also = absurd (is also.0)
none_once header BadMagic (Truncated found wanted) is also = absurd also
none_once header BadMagic (BadGeometry field found) is also = absurd also
none_once header BadMagic (BadName i) is also = absurd also
none_once header BadMagic RegionFault is also = absurd also
none_once header BadMagic NoMemory is also = absurd also
none_once header (BadVersion found) BadMagic is also = absurd (also is.0)
none_once header (BadVersion found) (BadVersion other) is also = ap BadVersion (is.2 ∙ sym also.2)
none_once header (BadVersion found) (Truncated other wanted) is also = absurd also
none_once header (BadVersion found) (BadGeometry field other) is also = absurd also
none_once header (BadVersion found) (BadName i) is also = absurd also
none_once header (BadVersion found) RegionFault is also = absurd also
none_once header (BadVersion found) NoMemory is also = absurd also
none_once header (Truncated found wanted) other is also = absurd is
none_once header (BadGeometry field found) other is also = absurd is
none_once header (BadName i) other is also = absurd is
none_once header RegionFault other is also = absurd is
none_once header NoMemory other is also = absurd is

pub unread_once : IsUnreadOnce
unread_once lines image one other speaks also_speaks is also = elim (cases_lt lines version_1.header_lines) [
  | inl short ↦ only_short lines image one short speaks is ∙ sym (only_short lines image other short also_speaks also)
  | inr enough ↦ elim (by_version lines image one enough speaks is) [
    | inl none ↦ elim (by_version lines image other enough also_speaks also) [
      | inl also_none ↦ none_once (header_of image) one other none also_none
      | inr ours ↦ absurd (not_of_none ours.version (header_of image) one ours.ours none)
    ]
    | inr ours ↦ elim (by_version lines image other enough also_speaks also) [
      | inl none ↦ absurd (not_of_none ours.version (header_of image) other ours.ours none)
      | inr also_ours ↦
          let same = same_version also_ours.version ours.version (header_of image).version also_ours.ours.version_is ours.ours.version_is in
          let Refused : Version → Type 0 = λ version. IsRefused (layout_of version) lines image other in
          one_refusal (layout_of ours.version) lines image one other speaks also_speaks ours.refused (subst Refused same also_ours.refused)
    ]
  ]
]

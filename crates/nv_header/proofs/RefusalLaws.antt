-- A header that can be read has no refusal, and another one has one.
use Rattle.std.proofs.Common.{◌≡◌, ℕ, ◌+◌, ◌<◌, ◌≤◌, inl, inr, refl, ap, arith}
use Rattle.std.proofs.lemmas.Bool.{cases_eq, cases_lt}
use Rattle.nv_plain.specs.Images.{Image}
use Rattle.nv_plain.specs.Layouts.{Layout}
use Rattle.nv_header.specs.declared.head.HeadError.{HeadError}
use Rattle.nv_header.specs.declared.head.HeadError.TheVariants.{Truncated, BadMagic, BadVersion, BadGeometry, BadName, RegionFault, NoMemory}
use Rattle.nv_header.specs.declared.head.HeadField.{HeadField}
use Rattle.nv_header.specs.declared.head.HeadField.TheVariants.{Page, Entries, Files, Tail}
use Rattle.nv_header.specs.Heads.{IsHead}
use Rattle.nv_header.specs.Refusals.{IsRefused, IsBadName, SpeaksOfImage}

pub head_not_refused : (layout : Layout) (lines : ℕ) (image : Image) (refusal : HeadError) → IsHead layout lines image → SpeaksOfImage refusal → ¬ (IsRefused layout lines image refusal)
head_not_refused layout lines image (Truncated found wanted) head speaks refused = omega (arith, head.long_enough, refused.0)
head_not_refused layout lines image BadMagic head speaks refused = refused.1 head.fields.magic
head_not_refused layout lines image (BadVersion found) head speaks refused = refused.1.1 head.fields.version_is
head_not_refused layout lines image (BadGeometry Page found) head speaks refused = refused.1.1.0 head.fields.page
head_not_refused layout lines image (BadGeometry Entries found) head speaks refused = refused.1.1.1 head.fields.entries
head_not_refused layout lines image (BadGeometry Files found) head speaks refused = omega (arith, head.fields.files, refused.1.1.2)
head_not_refused layout lines image (BadGeometry Tail found) head speaks refused = omega (arith, head.fields.tail, refused.1.1.3)
head_not_refused layout lines image (BadName i) head speaks refused = refused.2.bad (head.names i refused.2.inside)
head_not_refused layout lines image RegionFault head speaks refused = speaks
head_not_refused layout lines image NoMemory head speaks refused = speaks

-- there is one first bad name
first_bad : (layout : Layout) (image : Image) (i j : ℕ) → IsBadName layout image i → IsBadName layout image j → i ≡ j
first_bad layout image i j one other = elim (cases_eq i j) [
  | inl same ↦ same
  | inr differs ↦ elim (cases_lt i j) [
    | inl before ↦ absurd (one.bad (other.before i before))
    | inr behind ↦ absurd (other.bad (one.before j (omega arith)))
  ]
]

-- the order of the tests
abbrev field_place : HeadField → ℕ
field_place Page = 0
field_place Entries = 1
field_place Files = 2
field_place Tail = 3

field_place-le : (field : HeadField) → field_place field ≤ 3
field_place-le Page = omega arith
field_place-le Entries = omega arith
field_place-le Files = omega arith
field_place-le Tail = omega arith

abbrev place : HeadError → ℕ
place RegionFault = 0
place NoMemory = 0
place (Truncated found wanted) = 1
place BadMagic = 2
place (BadVersion found) = 3
place (BadGeometry field found) = 4 + field_place field
place (BadName i) = 8

place-le : (refusal : HeadError) → place refusal ≤ 8
place-le RegionFault = omega arith
place-le NoMemory = omega arith
place-le (Truncated found wanted) = omega arith
place-le BadMagic = omega arith
place-le (BadVersion found) = omega arith
place-le (BadGeometry field found) = omega (arith, field_place-le field)
place-le (BadName i) = omega arith

-- a refusal by an earlier test excludes one by a later test
earlier_excludes : (layout : Layout) (lines : ℕ) (image : Image) (early late : HeadError) → place early < place late → SpeaksOfImage early → IsRefused layout lines image early → IsRefused layout lines image late → ⊥
earlier_excludes layout lines image RegionFault late order speaks one other = speaks
earlier_excludes layout lines image NoMemory late order speaks one other = speaks
earlier_excludes layout lines image (Truncated found wanted) BadMagic order speaks one other = omega (arith, one.0, other.0)
earlier_excludes layout lines image (Truncated found wanted) (BadVersion found') order speaks one other = omega (arith, one.0, other.0)
earlier_excludes layout lines image (Truncated found wanted) (BadGeometry Page found') order speaks one other = omega (arith, one.0, other.0)
earlier_excludes layout lines image (Truncated found wanted) (BadGeometry Entries found') order speaks one other = omega (arith, one.0, other.0)
earlier_excludes layout lines image (Truncated found wanted) (BadGeometry Files found') order speaks one other = omega (arith, one.0, other.0)
earlier_excludes layout lines image (Truncated found wanted) (BadGeometry Tail found') order speaks one other = omega (arith, one.0, other.0)
earlier_excludes layout lines image (Truncated found wanted) (BadName i) order speaks one other = omega (arith, one.0, other.0)
earlier_excludes layout lines image BadMagic (BadVersion found') order speaks one other = one.1 other.1.0
earlier_excludes layout lines image BadMagic (BadGeometry Page found') order speaks one other = one.1 other.1.0.magic
earlier_excludes layout lines image BadMagic (BadGeometry Entries found') order speaks one other = one.1 other.1.0.magic
earlier_excludes layout lines image BadMagic (BadGeometry Files found') order speaks one other = one.1 other.1.0.magic
earlier_excludes layout lines image BadMagic (BadGeometry Tail found') order speaks one other = one.1 other.1.0.magic
earlier_excludes layout lines image BadMagic (BadName i) order speaks one other = one.1 other.1.magic
earlier_excludes layout lines image (BadVersion found) (BadGeometry Page found') order speaks one other = one.1.1 other.1.0.version_is
earlier_excludes layout lines image (BadVersion found) (BadGeometry Entries found') order speaks one other = one.1.1 other.1.0.version_is
earlier_excludes layout lines image (BadVersion found) (BadGeometry Files found') order speaks one other = one.1.1 other.1.0.version_is
earlier_excludes layout lines image (BadVersion found) (BadGeometry Tail found') order speaks one other = one.1.1 other.1.0.version_is
earlier_excludes layout lines image (BadVersion found) (BadName i) order speaks one other = one.1.1 other.1.version_is
earlier_excludes layout lines image (BadGeometry Page found) (BadGeometry Entries found') order speaks one other = one.1.1.0 other.1.1.0
earlier_excludes layout lines image (BadGeometry Page found) (BadGeometry Files found') order speaks one other = one.1.1.0 other.1.1.0
earlier_excludes layout lines image (BadGeometry Page found) (BadGeometry Tail found') order speaks one other = one.1.1.0 other.1.1.0
earlier_excludes layout lines image (BadGeometry Page found) (BadName i) order speaks one other = one.1.1.0 other.1.page
earlier_excludes layout lines image (BadGeometry Entries found) (BadGeometry Files found') order speaks one other = one.1.1.1 other.1.1.1
earlier_excludes layout lines image (BadGeometry Entries found) (BadGeometry Tail found') order speaks one other = one.1.1.1 other.1.1.1
earlier_excludes layout lines image (BadGeometry Entries found) (BadName i) order speaks one other = one.1.1.1 other.1.entries
earlier_excludes layout lines image (BadGeometry Files found) (BadGeometry Tail found') order speaks one other = omega (arith, one.1.1.2, other.1.1.2)
earlier_excludes layout lines image (BadGeometry Files found) (BadName i) order speaks one other = omega (arith, one.1.1.2, other.1.files)
earlier_excludes layout lines image (BadGeometry Tail found) (BadName i) order speaks one other = omega (arith, one.1.1.3, other.1.tail)
earlier_excludes layout lines image early late order speaks one other = omega (arith, field_place-le, place-le late)

-- refusals by one test are the same
same_place : (layout : Layout) (lines : ℕ) (image : Image) (one other : HeadError) → place one ≡ place other → SpeaksOfImage one → IsRefused layout lines image one → IsRefused layout lines image other → one ≡ other
same_place layout lines image RegionFault other order speaks is also = absurd speaks
same_place layout lines image NoMemory other order speaks is also = absurd speaks
same_place layout lines image (Truncated found wanted) (Truncated found' wanted') order speaks is also = cc (is.1, is.2, also.1, also.2)
same_place layout lines image BadMagic BadMagic order speaks is also = refl
same_place layout lines image (BadVersion found) (BadVersion found') order speaks is also = cc (is.1.2, also.1.2)
same_place layout lines image (BadGeometry Page found) (BadGeometry Page found') order speaks is also = cc (is.1.1.1, also.1.1.1)
same_place layout lines image (BadGeometry Entries found) (BadGeometry Entries found') order speaks is also = cc (is.1.1.2, also.1.1.2)
same_place layout lines image (BadGeometry Files found) (BadGeometry Files found') order speaks is also = cc (is.1.1.3, also.1.1.3)
same_place layout lines image (BadGeometry Tail found) (BadGeometry Tail found') order speaks is also = cc (is.1.1.4, also.1.1.4)
same_place layout lines image (BadName i) (BadName j) order speaks is also = ap BadName (first_bad layout image i j is.2 also.2)
same_place layout lines image one other order speaks is also = absurd (omega (arith, field_place-le))

pub one_refusal : (layout : Layout) (lines : ℕ) (image : Image) (one other : HeadError) → SpeaksOfImage one → SpeaksOfImage other → IsRefused layout lines image one → IsRefused layout lines image other → one ≡ other
one_refusal layout lines image one other speaks also_speaks is also = elim (cases_eq (place one) (place other)) [
  | inl same ↦ same_place layout lines image one other same speaks is also
  | inr differs ↦ elim (cases_lt (place one) (place other)) [
    | inl before ↦ absurd (earlier_excludes layout lines image one other before speaks is also)
    | inr behind ↦ absurd (earlier_excludes layout lines image other one (omega arith) also_speaks also is)
  ]
]

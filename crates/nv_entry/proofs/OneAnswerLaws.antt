-- A group is whole or has one first bad number.
use Rattle.std.proofs.Common.{ℕ, ◌≤◌, inl, inr, sym, subst, arith}
use Rattle.std.proofs.lemmas.Bool.{cases_eq, cases_lt}
use Rattle.nv_plain.specs.Images.{Image}
use Rattle.nv_plain.specs.Layouts.{Layout}
use Rattle.nv_plain.specs.Recovered.{IsInGroup, IsGroup}
use Rattle.nv_entry.specs.Checks.{IsGood, IsFirstBad}
use Rattle.nv_entry.specs.OneAnswer.{WholeIsNotBad, IsBadOnce}

-- a first bad number of a whole group is one of the group's
among_group : (layout : Layout) (image : Image) (leader number : ℕ) → IsGroup layout image leader → IsFirstBad layout image leader number → IsInGroup image leader number
among_group layout image leader number group bad = elim bad.among [
  | inl same ↦ record { first = omega arith; last = omega (arith, group.first.some) }
  | inr rest ↦ rest.1
]

good_of_group : (layout : Layout) (image : Image) (leader number : ℕ) → IsGroup layout image leader → IsInGroup image leader number → IsGood layout image leader number
good_of_group layout image leader number group inside = record {
  leads = λ same. group.first;
  follows = λ behind. group.followers number behind inside;
  piece = group.pieces number inside;
  goes_on = λ before from next.
      let At : ℕ → Type 0 = IsInGroup image leader in
      group.in_a_row before from (subst At (sym next) inside);
}

pub whole_is_not_bad : WholeIsNotBad
whole_is_not_bad layout image leader number group bad =
    bad.bad (good_of_group layout image leader number group (among_group layout image leader number group bad))

from_leader : (layout : Layout) (image : Image) (leader number : ℕ) → IsFirstBad layout image leader number → leader ≤ number
from_leader layout image leader number bad = elim bad.among [ inl same ↦ omega arith | inr rest ↦ rest.1.first ]

pub is_bad_once : IsBadOnce
is_bad_once layout image leader one other a b = elim (cases_eq one other) [
  | inl same ↦ same
  | inr differs ↦ elim (cases_lt one other) [
    | inl before ↦ absurd (a.bad (b.earlier one (from_leader layout image leader one a) before))
    | inr behind ↦ absurd (b.bad (a.earlier other (from_leader layout image leader other b) (omega arith)))
  ]
]

-- A walk over the log: which groups it has found so far.
use Rattle.std.proofs.Common.{◌≡◌, ◌≢◌, inl, inr, ℕ, ◌+◌, ◌-◌, ◌<◌, ◌≤◌, if◌then◌else◌, List, [], ◌∷◌, ◌++◌, zero, suc, sym, ap, ◌∙◌, subst, arith, add-zero}
use Rattle.std.proofs.lemmas.Bool.{cases_eq, cases_lt, eq-eqb, ne_eqb}
use Rattle.std.proofs.lemmas.List.{append-nil, map-append}
use Rattle.std.proofs.lemmas.List.Elements.{filter-append, All-nil, All-push}
use Rattle.std.specs.Prelude.{filter}
use Rattle.std.specs.List.{range_with_len}
use Rattle.nv_plain.specs.Images.{Image, header_of, entry_at, layout_in}
use Rattle.nv_plain.specs.Layouts.{Layout}
use Rattle.nv_plain.specs.Recovered.{IsCommitted, IsInGroup, IsGroup}
use Rattle.nv_entry.specs.Checks.{IsGood, IsFirstBad}
use Rattle.nv_recover.specs.Finding.{commits_at, HasFound}
use Rattle.nv_recover.specs.Groups.{AreGroups, IsLeastBad}
use Rattle.nv_recover.specs.declared.group.Group.{Group}

-- a range with one number more
pub range_more : (from count : ℕ) → range_with_len from (count + 1) ≡ range_with_len from count ++ (from + count) ∷ []
range_more from zero = ap (λ n. n ∷ []) (sym (add-zero from))
range_more from (suc count) =
    let more : suc count + 1 ≡ suc (count + 1) = omega arith in
    ap (range_with_len from) more
    ∙ ap (λ rest. from ∷ rest)
    (range_more (from + 1) count ∙ ap (λ n. range_with_len (from + 1) count ++ n ∷ []) (omega arith))

pub filter_more : (image : Image) (tail number : ℕ) → tail ≤ number → filter (commits_at image) (range_with_len tail (number + 1 - tail)) ≡ filter (commits_at image) (range_with_len tail (number - tail)) ++ filter (commits_at image) (number ∷ [])
filter_more image tail number from =
    let more : number + 1 - tail ≡ number - tail + 1 = omega arith in
    let last : tail + (number - tail) ≡ number = omega arith in
    ap (λ count. filter (commits_at image) (range_with_len tail count)) more
    ∙ ap (filter (commits_at image)) (range_more tail (number - tail) ∙ ap (λ n. range_with_len tail (number - tail) ++ n ∷ []) last)
    ∙ filter-append (commits_at image) (range_with_len tail (number - tail)) (number ∷ [])

pub found_none : (image : Image) (tail : ℕ) → (header_of image).tail ≡ tail → HasFound image tail tail []
found_none image tail tail_is = record {
  tail_is = tail_is;
  fits = λ leader commits below. absurd (omega (arith, commits.from_tail));
  leaders =
      let none : 0 ≡ tail - tail = omega arith in
      ap (λ count. filter (commits_at image) (range_with_len tail count)) none;
  counts = All-nil (λ group. group.count ≡ (entry_at image group.leader).count);
}

-- a number that isn't committed
pub found_past : (image : Image) (tail number : ℕ) (groups : List Group) → tail ≤ number → (entry_at image number).commit ≢ number + 1 → HasFound image tail number groups → HasFound image tail (number + 1) groups
found_past image tail number groups from not so_far = record {
  tail_is = so_far.tail_is;
  fits = λ leader commits below. elim (cases_eq leader number) [
    | inl same ↦ absurd (not (ap (λ n. (entry_at image n).commit) (sym same) ∙ commits.commit ∙ ap (λ n. n + 1) same))
    | inr differs ↦ so_far.fits leader commits (omega arith)
  ];
  leaders =
      so_far.leaders
      ∙ sym (filter_more image tail number from
      ∙ ap (λ test. filter (commits_at image) (range_with_len tail (number - tail)) ++ (if test then number ∷ [] else []))
      (ne_eqb (entry_at image number).commit (number + 1) not)
      ∙ append-nil (filter (commits_at image) (range_with_len tail (number - tail))));
  counts = so_far.counts;
}

-- a committed group
pub found_more : (image : Image) (tail number : ℕ) (groups : List Group) (group : Group) → tail ≤ number → (entry_at image number).commit ≡ number + 1 → group.leader ≡ number → IsGroup (layout_in image) image number → group.count ≡ (entry_at image number).count → HasFound image tail number groups → HasFound image tail (number + 1) (groups ++ group ∷ [])
found_more image tail number groups group from commit leader whole count so_far = record {
  tail_is = so_far.tail_is;
  fits = λ other commits below. elim (cases_eq other number) [
    | inl same ↦ let At : ℕ → Type 0 = IsGroup (layout_in image) image in subst At (sym same) whole
    | inr differs ↦ so_far.fits other commits (omega arith)
  ];
  leaders =
      map-append (λ (one : Group). one.leader) groups (group ∷ [])
      ∙ ap (λ before. before ++ group.leader ∷ []) so_far.leaders
      ∙ ap (λ n. filter (commits_at image) (range_with_len tail (number - tail)) ++ n ∷ []) leader
      ∙ sym (filter_more image tail number from
      ∙ ap (λ test. filter (commits_at image) (range_with_len tail (number - tail)) ++ (if test then number ∷ [] else []))
      (eq-eqb (entry_at image number).commit (number + 1) commit));
  counts = All-push (λ one. one.count ≡ (entry_at image one.leader).count) groups group so_far.counts (count ∙ ap (λ n. (entry_at image n).count) (sym leader));
}

-- the whole window
pub found_all : (image : Image) (tail entries number : ℕ) (groups : List Group) → (header_of image).entries ≡ entries → tail + entries ≤ number → number ≤ tail + entries → HasFound image tail number groups → AreGroups image groups
found_all image tail entries number groups entries_are low high so_far = record {
  fits = λ leader commits. so_far.fits leader commits (omega (arith, commits.in_window, so_far.tail_is, entries_are));
  leaders =
      let all : number - tail ≡ entries = omega arith in
      so_far.leaders
      ∙ ap (λ count. filter (commits_at image) (range_with_len tail count)) (all ∙ sym entries_are)
      ∙ ap (λ from. filter (commits_at image) (range_with_len from (header_of image).entries)) (sym so_far.tail_is);
  counts = so_far.counts;
}

-- ---- the least number that breaks a rule

group_has_none_bad : (layout : Layout) (image : Image) (leader bad : ℕ) → IsGroup layout image leader → IsFirstBad layout image leader bad → ⊥
group_has_none_bad layout image leader bad group breaks =
    let good = λ (number : ℕ) (among : IsInGroup image leader number).
    let fine : IsGood layout image leader number = record {
      leads = λ same. group.first;
      follows = λ behind. group.followers number behind among;
      piece = group.pieces number among;
      goes_on = λ before from next.
          let Among : ℕ → Type 0 = IsInGroup image leader in
          group.in_a_row before from (subst Among (sym next) among);
    } in fine in
    elim breaks.among [
      | inl same ↦
          breaks.bad (good bad (record { first = omega arith; last = omega (arith, group.first.some) }))
      | inr among ↦ breaks.bad (good bad among.1)
    ]

from_leader : (layout : Layout) (image : Image) (leader bad : ℕ) → IsFirstBad layout image leader bad → leader ≤ bad
from_leader layout image leader bad breaks = elim breaks.among [ inl same ↦ omega arith | inr among ↦ among.1.first ]

-- The first bad number of the first group that has one is the least of all.
pub least_bad : (layout : Layout) (image : Image) (leader bad : ℕ) → IsCommitted image leader → IsFirstBad layout image leader bad → ((other : ℕ) → IsCommitted image other → other < leader → IsGroup layout image other) → IsLeastBad layout image bad
least_bad layout image leader bad commits breaks earlier = record {
  leader = leader;
  commits = commits;
  breaks = breaks;
  least = λ other worse other_commits other_breaks. elim (cases_lt other leader) [
    | inl below ↦ absurd (group_has_none_bad layout image other worse (earlier other other_commits below) other_breaks)
    | inr from ↦ elim (cases_lt worse bad) [
      | inr no_less ↦ no_less
      | inl less ↦ elim (cases_eq other leader) [
        | inl same ↦
            let At : ℕ → Type 0 = λ k. IsFirstBad layout image k worse in
            let here = subst At same other_breaks in
            absurd (here.bad (breaks.earlier worse (from_leader layout image leader worse here) less))
        | inr differs ↦
            let low : other ≤ worse = from_leader layout image other worse other_breaks in
            let follower = (breaks.earlier other from (omega arith)).follows (omega arith) in
            absurd (follower.uncommitted other_commits.commit)
      ]
    ]
  ];
}

-- so it is where a walk has found the groups before that one
pub found_bad : (image : Image) (tail number bad : ℕ) (groups : List Group) → tail ≤ number → number < tail + (header_of image).entries → (entry_at image number).commit ≡ number + 1 → IsFirstBad (layout_in image) image number bad → HasFound image tail number groups → IsLeastBad (layout_in image) image bad
found_bad image tail number bad groups from below commit breaks so_far =
    least_bad (layout_in image) image number bad
    (record { from_tail = omega (arith, so_far.tail_is); in_window = omega (arith, so_far.tail_is); commit = commit })
    breaks so_far.fits

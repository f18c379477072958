-- Where the groups of a log end.
use Rattle.std.proofs.Common.{◌≡◌, inl, inr, ℕ, ◌+◌, ◌^◌, ◌<◌, ◌≤◌, if◌then◌else◌, All, List, [], ◌∷◌, ◌++◌, length, take, get_or, zero, suc, refl, sym, ap, ◌∙◌, subst, arith}
use Rattle.std.proofs.lemmas.Bool.{cases_eq, eq-eqb, ne_eqb}
use Rattle.std.proofs.lemmas.List.{map-append, take_more}
use Rattle.std.proofs.lemmas.List.Elements.{All-head, All-tail}
use Rattle.std.proofs.lemmas.List.Sums.{fold-append}
use Rattle.std.specs.Prelude.{fold, filter}
use Rattle.std.specs.List.{range_with_len}
use Rattle.nv_plain.specs.Images.{Image, header_of, entry_at}
use Rattle.nv_plain.specs.Recovered.{committed, next_after}
use Rattle.nv_recover.specs.Emptying.{CommitsNoneFrom}
use Rattle.nv_recover.specs.Finding.{commits_at}
use Rattle.nv_recover.specs.Groups.{AreGroups, leaders_of}
use Rattle.nv_recover.specs.Recovering.{end_of}
use Rattle.nv_recover.specs.declared.group.Group.{Group}

-- ---- one group more

pub leaders_more : (groups : List Group) (i : ℕ) (d : Group) → i < length groups → leaders_of (take (i + 1) groups) ≡ leaders_of (take i groups) ++ (get_or groups i d).leader ∷ []
leaders_more groups i d inside =
    ap leaders_of (take_more groups i d inside) ∙ map-append (λ (one : Group). one.leader) (take i groups) (get_or groups i d ∷ [])

pub end_more : (tail : ℕ) (groups : List Group) (i : ℕ) (d : Group) → i < length groups → end_of tail (take (i + 1) groups) ≡ (get_or groups i d).leader + (get_or groups i d).count
end_more tail groups i d inside =
    ap (end_of tail) (take_more groups i d inside)
    ∙ fold-append (λ next (group : Group). group.leader + group.count) tail (take i groups) (get_or groups i d ∷ [])

-- ---- all groups

ends_map : (image : Image) (groups : List Group) (tail : ℕ) → All (λ group. group.count ≡ (entry_at image group.leader).count) groups
    → end_of tail groups ≡ fold (λ next leader. leader + (entry_at image leader).count) tail (leaders_of groups)
ends_map image [] tail counts = refl
ends_map image (group ∷ groups) tail counts =
    let Counts : Group → Type 0 = λ group. group.count ≡ (entry_at image group.leader).count in
    ap (λ n. end_of (group.leader + n) groups) (All-head Counts group groups counts)
    ∙ ends_map image groups (group.leader + (entry_at image group.leader).count) (All-tail Counts group groups counts)

-- a number behind all that are committed in a range
record EndsAll (image : Image) (from count low last : ℕ) : Type 0 where
  low_is : low ≤ last
  high : last ≤ 2 ^ 60
  past : (number : ℕ) → from ≤ number → number < from + count → (entry_at image number).commit ≡ number + 1 → number < last

-- the count of a committed leader
record Counts (image : Image) (leader : ℕ) : Type 0 where
  some : 1 ≤ (entry_at image leader).count
  small : leader + (entry_at image leader).count ≤ 2 ^ 60

ends_range : (image : Image) (from count last low : ℕ) → ((leader : ℕ) → from ≤ leader → leader < from + count → (entry_at image leader).commit ≡ leader + 1 → Counts image leader)
    → low ≤ from → low ≤ last → last ≤ 2 ^ 60
    → EndsAll image from count low (fold (λ next leader. leader + (entry_at image leader).count) last (filter (commits_at image) (range_with_len from count)))
ends_range image from zero last low each behind begun small =
    record { low_is = begun; high = small; past = λ number first below commit. absurd (omega arith) }
ends_range image from (suc count) last low each behind begun small =
    let Step : ℕ → ℕ → ℕ = λ next leader. leader + (entry_at image leader).count in
    let rest = filter (commits_at image) (range_with_len (from + 1) count) in
    let At : ℕ → Type 0 = EndsAll image from (suc count) low in
    elim (cases_eq (entry_at image from).commit (from + 1)) [
      | inl commits ↦
          let here = each from (omega arith) (omega arith) commits in
          let later = ends_range image (from + 1) count (from + (entry_at image from).count) (from + 1) (λ leader first below commit. each leader (omega arith) (omega arith) commit)
          (omega arith) (omega (arith, here.some)) here.small in
          let all : At (fold Step last (from ∷ rest)) = record {
            low_is = omega (arith, later.low_is);
            high = later.high;
            past = λ number first below commit. elim (cases_eq number from) [
              | inl same ↦ omega (arith, later.low_is)
              | inr differs ↦ later.past number (omega arith) (omega arith) commit
            ];
          } in
          subst At (sym (ap (λ test. fold Step last (if test then from ∷ rest else rest)) (eq-eqb (entry_at image from).commit (from + 1) commits))) all
      | inr not ↦
          let later = ends_range image (from + 1) count last low (λ leader first below commit. each leader (omega arith) (omega arith) commit) (omega arith) begun small in
          let all : At (fold Step last rest) = record {
            low_is = later.low_is;
            high = later.high;
            past = λ number first below commit. elim (cases_eq number from) [
              | inl same ↦ absurd (not (ap (λ n. (entry_at image n).commit) (sym same) ∙ commit ∙ ap (λ n. n + 1) same))
              | inr differs ↦ later.past number (omega arith) (omega arith) commit
            ];
          } in
          subst At (sym (ap (λ test. fold Step last (if test then from ∷ rest else rest)) (ne_eqb (entry_at image from).commit (from + 1) not))) all
    ]

-- where the groups of an image end
pub record EndsAt (image : Image) (tail : ℕ) (groups : List Group) : Type 0 where
  pub from_tail : tail ≤ end_of tail groups
  pub limit : end_of tail groups ≤ 2 ^ 60
  pub none : CommitsNoneFrom (end_of tail groups) image
  pub is_next : end_of tail groups ≡ next_after image (committed image)

pub ends : (image : Image) (tail : ℕ) (groups : List Group) → (header_of image).tail ≡ tail → tail ≤ 2 ^ 60 → AreGroups image groups → EndsAt image tail groups
ends image tail groups tail_is small are =
    let first = (header_of image).tail in
    let last = next_after image (committed image) in
    let is : end_of tail groups ≡ last =
    ends_map image groups tail are.counts
    ∙ ap (λ n. fold (λ next leader. leader + (entry_at image leader).count) n (leaders_of groups)) (sym tail_is)
    ∙ ap (fold (λ next leader. leader + (entry_at image leader).count) first) are.leaders in
    let all = ends_range image first (header_of image).entries first first
    (λ leader from below commit.
    let whole = are.fits leader (record { from_tail = from; in_window = below; commit = commit }) in
    record { some = whole.first.some; small = whole.first.small })
    (omega arith) (omega arith) (omega (arith, tail_is)) in
    record {
      from_tail = omega (arith, is, all.low_is, tail_is);
      limit = omega (arith, is, all.high);
      none = λ number from commits. omega (arith, is, all.past number commits.from_tail commits.in_window commits.commit);
      is_next = is;
    }

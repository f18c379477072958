-- The numbers of groups, and where each stands among those that an image recovers from.
use Rattle.std.proofs.Common.{◌≡◌, ℕ, ◌+◌, ◌-◌, ◌<◌, ◌≤◌, ◌==◌, Bool, List, [], ◌∷◌, ◌++◌, All, length, take, drop, get_or, zero, suc, refl, sym, ap, ◌∙◌, subst, arith, append_assoc}
use Rattle.std.proofs.Math.Seq.{drop-cons}
use Rattle.std.proofs.lemmas.Bool.{eqb-true}
use Rattle.std.proofs.lemmas.List.{length-map, get_or-map, take-append-drop, take_more, append-nil}
use Rattle.std.proofs.lemmas.List.Concat.{flat_map-append}
use Rattle.std.proofs.lemmas.List.Elements.{All-head, All-tail, All-filter, filter_passes}
use Rattle.std.proofs.lemmas.List.FromFn.{length-range_with_len, get_or-range_with_len}
use Rattle.std.proofs.lemmas.List.Sums.{fold-append}
use Rattle.std.specs.Prelude.{fold}
use Rattle.std.specs.List.{flat_map, range_with_len}
use Rattle.nv_plain.specs.Files.{Files}
use Rattle.nv_plain.specs.Images.{Image, entry_at, header_of}
use Rattle.nv_plain.specs.Recovered.{IsCommitted, with_entry, recovered, committed, group_numbers}
use Rattle.nv_recover.specs.Applying.{IsGroupOf, IsNumberOf, recovered_numbers}
use Rattle.nv_recover.specs.Groups.{AreGroups, leaders_of, numbers_of}
use Rattle.nv_recover.specs.declared.group.Group.{Group}

-- ---- ranges

-- a range, split at one of its numbers
range_split : (from count k number rest : ℕ) → number ≡ from + k → count ≡ k + 1 + rest → range_with_len from count ≡ range_with_len from k ++ (number ∷ range_with_len (number + 1) rest)
range_split from zero k number rest at all = absurd (omega arith)
range_split from (suc count) zero number rest at all =
    let many : count ≡ rest = omega arith in
    let here : from ≡ number = omega arith in
    ap (λ n. from ∷ range_with_len (from + 1) n) many ∙ ap (λ n. n ∷ range_with_len (n + 1) rest) here
range_split from (suc count) (suc k) number rest at all =
    ap (λ later. from ∷ later) (range_split (from + 1) count k number rest (omega arith) (omega arith))

range_more : (from k number : ℕ) → number ≡ from + k → range_with_len from (k + 1) ≡ range_with_len from k ++ (number ∷ [])
range_more from k number at = range_split from (k + 1) k number 0 at (omega arith)

-- ---- the numbers of a group

regroup : (before range : List ℕ) (number : ℕ) (rest after : List ℕ) → before ++ ((range ++ (number ∷ rest)) ++ after) ≡ (before ++ range) ++ (number ∷ (rest ++ after))
regroup before range number rest after =
    ap (λ numbers. before ++ numbers) (append_assoc range (number ∷ rest) after) ∙ sym (append_assoc before range (number ∷ (rest ++ after)))

pub number_of : (image : Image) (group : Group) (number : ℕ) → group.leader ≤ number → number < group.leader + group.count → IsGroupOf image group → IsNumberOf image number
number_of image group number low high is =
    let k = number - group.leader in
    let rest = group.count - k - 1 in
    record {
      leader = group.leader;
      piece = is.whole.pieces number (record { first = low; last = omega (arith, is.count) });
      among = record {
        before = is.among.before ++ range_with_len group.leader k;
        after = range_with_len (number + 1) rest ++ is.among.after;
        all =
            is.among.all
            ∙ ap (λ numbers. is.among.before ++ (numbers ++ is.among.after)) (range_split group.leader group.count k number rest (omega arith) (omega arith))
            ∙ regroup is.among.before (range_with_len group.leader k) number (range_with_len (number + 1) rest) is.among.after;
      };
    }

-- the files after one more of them
pub one_more : (image : Image) (files then now : Files) (leader number : ℕ) → leader ≤ number → then ≡ fold (with_entry image) files (range_with_len leader (number - leader)) → now ≡ with_entry image then number
    → now ≡ fold (with_entry image) files (range_with_len leader (number + 1 - leader))
one_more image files then now leader number low so_far next =
    let k = number - leader in
    let count : k + 1 ≡ number + 1 - leader = omega arith in
    next
    ∙ ap (λ these. with_entry image these number) so_far
    ∙ sym (fold-append (with_entry image) files (range_with_len leader k) (number ∷ []))
    ∙ ap (fold (with_entry image) files) (sym (range_more leader k number (omega arith)) ∙ ap (range_with_len leader) count)

-- ---- the groups of an image

numbers_are : (image : Image) (groups : List Group) → All (λ group. group.count ≡ (entry_at image group.leader).count) groups → numbers_of groups ≡ flat_map (group_numbers image) (leaders_of groups)
numbers_are image [] counts = refl
numbers_are image (group ∷ groups) counts =
    let Says : Group → Type 0 = λ group. group.count ≡ (entry_at image group.leader).count in
    ap (λ count. range_with_len group.leader count ++ numbers_of groups) (All-head Says group groups counts)
    ∙ ap (λ later. range_with_len group.leader (entry_at image group.leader).count ++ later) (numbers_are image groups (All-tail Says group groups counts))

-- their numbers are those that it recovers from
pub all_numbers : (image : Image) (groups : List Group) → AreGroups image groups → numbers_of groups ≡ recovered_numbers image
all_numbers image groups are = numbers_are image groups are.counts ∙ ap (flat_map (group_numbers image)) are.leaders

pub all_files : (image : Image) (files : Files) (groups : List Group) → AreGroups image groups → fold (with_entry image) files (numbers_of groups) ≡ (recovered image files).files
all_files image files groups are = ap (fold (with_entry image) files) (all_numbers image groups are)

record IsInWindow (first count number : ℕ) : Type 0 where
  low : first ≤ number
  high : number < first + count

in_window : (first count : ℕ) → All (IsInWindow first count) (range_with_len first count)
in_window first count k d inside =
    let within : k < count = omega (arith, length-range_with_len first count) in
    let is = get_or-range_with_len first count k d within in
    record { low = omega arith; high = omega arith }

committed_number : (image : Image) (i none : ℕ) → i < length (committed image) → IsCommitted image (get_or (committed image) i none)
committed_number image i none inside =
    let header = header_of image in
    let passes : ℕ → Bool = λ number. (entry_at image number).commit == number + 1 in
    let numbers = range_with_len header.tail header.entries in
    let window = All-filter passes (IsInWindow header.tail header.entries) numbers (in_window header.tail header.entries) i none inside in
    let number = get_or (committed image) i none in
    record {
      from_tail = window.low;
      in_window = window.high;
      commit = eqb-true (entry_at image number).commit (number + 1) (filter_passes passes numbers i none inside);
    }

pub group_of : (image : Image) (groups : List Group) (i : ℕ) (d : Group) → i < length groups → AreGroups image groups → IsGroupOf image (get_or groups i d)
group_of image groups i d inside are =
    let group = get_or groups i d in
    let leader : Group → ℕ = λ group. group.leader in
    let numbers : Group → List ℕ = λ group. range_with_len group.leader group.count in
    let is_leader : get_or (committed image) i group.leader ≡ group.leader =
    ap (λ leaders. get_or leaders i group.leader) (sym are.leaders) ∙ get_or-map leader groups i d group.leader inside in
    let commits : IsCommitted image group.leader =
    subst (IsCommitted image) is_leader (committed_number image i group.leader (omega (arith, ap length are.leaders, length-map groups leader))) in
    record {
      whole = are.fits group.leader commits;
      count = are.counts i d inside;
      among = record {
        before = numbers_of (take i groups);
        after = numbers_of (drop (suc i) groups);
        all =
            sym (all_numbers image groups are)
            ∙ ap numbers_of (sym (take-append-drop i groups) ∙ ap (λ later. take i groups ++ later) (drop-cons groups i d inside))
            ∙ flat_map-append numbers (take i groups) (group ∷ drop (suc i) groups);
      };
    }

-- the files after one more group
pub group_more : (image : Image) (files then now : Files) (groups : List Group) (i : ℕ) (d : Group) → i < length groups → then ≡ fold (with_entry image) files (numbers_of (take i groups))
    → now ≡ fold (with_entry image) then (range_with_len (get_or groups i d).leader (get_or groups i d).count) → now ≡ fold (with_entry image) files (numbers_of (take (i + 1) groups))
group_more image files then now groups i d inside so_far next =
    let group = get_or groups i d in
    let numbers : Group → List ℕ = λ group. range_with_len group.leader group.count in
    next
    ∙ ap (λ these. fold (with_entry image) these (numbers group)) so_far
    ∙ sym (fold-append (with_entry image) files (numbers_of (take i groups)) (numbers group))
    ∙ ap (fold (with_entry image) files)
    (ap (λ last. numbers_of (take i groups) ++ last) (sym (append-nil (numbers group)))
    ∙ sym (flat_map-append numbers (take i groups) (group ∷ []))
    ∙ ap numbers_of (sym (take_more groups i d inside)))

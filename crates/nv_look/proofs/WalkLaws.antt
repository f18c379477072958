-- A walk over the log: what it has listed so far, and how many bytes a group has.
use Rattle.std.proofs.Common.{◌≡◌, ◌≢◌, ℕ, ◌+◌, ◌-◌, ◌*◌, ◌^◌, ◌<◌, ◌≤◌, min, if◌then◌else◌, List, [], ◌∷◌, ◌++◌, filter, sum_by, sym, ap, ◌∙◌, subst, arith}
use Rattle.std.proofs.lemmas.Bool.{eq-eqb, ne_eqb}
use Rattle.std.proofs.lemmas.List.{append-nil}
use Rattle.std.proofs.lemmas.List.Sums.{sum_by-append, sum_by-cons}
use Rattle.std.specs.List.{AllZip, range_with_len}
use Rattle.nv_plain.specs.Images.{Image, header_of, entry_at}
use Rattle.nv_entry.specs.Checks.{SaysBounds}
use Rattle.nv_entry.specs.declared.bounds.Bounds.{Bounds}
use Rattle.nv_recover.specs.Finding.{commits_at}
use Rattle.nv_recover.proofs.Finding.{range_more, filter_more}
use Rattle.nv_look.specs.Listings.{IsListing, IsRow, group_bytes}
use Rattle.nv_look.specs.Walks.{HasListed, IsWholeWalk}
use Rattle.nv_look.specs.declared.listing.Row.{Row}

-- ---- what is listed

zip_push : {A B : Type 0} (R : A → B → Type 0) (xs : List A) (ys : List B) (x : A) (y : B) → AllZip R xs ys → R x y → AllZip R (xs ++ x ∷ []) (ys ++ y ∷ [])
zip_push R [] [] x y all is = (is, tt)
zip_push R [] (b ∷ ys) x y all is = absurd all
zip_push R (a ∷ xs) [] x y all is = absurd all
zip_push R (a ∷ xs) (b ∷ ys) x y all is = (all.0, zip_push R xs ys x y all.1 is)

pub listed_none : (image : Image) (tail : ℕ) → (header_of image).tail ≡ tail → HasListed image tail tail []
listed_none image tail tail_is = record {
  tail_is = tail_is;
  listed =
      let none : 0 ≡ tail - tail = omega arith in
      let At : ℕ → Type 0 = λ count. AllZip (IsRow image) (filter (commits_at image) (range_with_len tail count)) [] in
      subst At none tt;
}

-- a number that isn't committed
pub listed_past : (image : Image) (tail number : ℕ) (rows : List Row) → tail ≤ number → (entry_at image number).commit ≢ number + 1 → HasListed image tail number rows → HasListed image tail (number + 1) rows
listed_past image tail number rows from not so_far = record {
  tail_is = so_far.tail_is;
  listed =
      let same : filter (commits_at image) (range_with_len tail (number - tail)) ≡ filter (commits_at image) (range_with_len tail (number + 1 - tail)) =
      sym (filter_more image tail number from
      ∙ ap (λ test. filter (commits_at image) (range_with_len tail (number - tail)) ++ (if test then number ∷ [] else []))
      (ne_eqb (entry_at image number).commit (number + 1) not)
      ∙ append-nil (filter (commits_at image) (range_with_len tail (number - tail)))) in
      let At : List ℕ → Type 0 = λ numbers. AllZip (IsRow image) numbers rows in
      subst At same so_far.listed;
}

-- a committed number
pub listed_more : (image : Image) (tail number : ℕ) (rows : List Row) (row : Row) → tail ≤ number → (entry_at image number).commit ≡ number + 1 → IsRow image number row → HasListed image tail number rows → HasListed image tail (number + 1) (rows ++ row ∷ [])
listed_more image tail number rows row from commit is so_far = record {
  tail_is = so_far.tail_is;
  listed =
      let same : filter (commits_at image) (range_with_len tail (number - tail)) ++ number ∷ [] ≡ filter (commits_at image) (range_with_len tail (number + 1 - tail)) =
      sym (filter_more image tail number from
      ∙ ap (λ test. filter (commits_at image) (range_with_len tail (number - tail)) ++ (if test then number ∷ [] else []))
      (eq-eqb (entry_at image number).commit (number + 1) commit)) in
      let At : List ℕ → Type 0 = λ numbers. AllZip (IsRow image) numbers (rows ++ row ∷ []) in
      subst At same (zip_push (IsRow image) (filter (commits_at image) (range_with_len tail (number - tail))) rows number row so_far.listed is);
}

-- the whole window
pub listed_all : (image : Image) (tail entries number : ℕ) (rows : List Row) → (header_of image).entries ≡ entries → tail + entries ≤ number → number ≤ tail + entries → HasListed image tail number rows → IsListing image rows
listed_all image tail entries number rows entries_are low high so_far =
    let all : number - tail ≡ entries = omega arith in
    let same : filter (commits_at image) (range_with_len tail (number - tail)) ≡ filter (commits_at image) (range_with_len (header_of image).tail (header_of image).entries) =
    ap (λ count. filter (commits_at image) (range_with_len tail count)) (all ∙ sym entries_are)
    ∙ ap (λ from. filter (commits_at image) (range_with_len from (header_of image).entries)) (sym so_far.tail_is) in
    let At : List ℕ → Type 0 = λ numbers. AllZip (IsRow image) numbers rows in
    subst At same so_far.listed

-- ---- the bytes of a group

-- The bytes of a group's entries below a number are so many, and few.
pub record HasSummed (image : Image) (leader number len : ℕ) : Type 0 where
  pub is : len ≡ sum_by (λ n. (entry_at image n).size) (range_with_len leader (number - leader))
  pub few : len ≤ 4096 * (number - leader)

pub summed_none : (image : Image) (leader : ℕ) → HasSummed image leader leader 0
summed_none image leader = record {
  is = let none : 0 ≡ leader - leader = omega arith in ap (λ count. sum_by (λ n. (entry_at image n).size) (range_with_len leader count)) none;
  few = omega arith;
}

pub summed_more : (image : Image) (bounds : Bounds) (leader count number len size next : ℕ) → next ≡ min (len + size) (2 ^ 64 - 1) → SaysBounds bounds image → IsWholeWalk image leader count → leader ≤ number → number < leader + count
    → size ≡ (entry_at image number).size → HasSummed image leader number len → HasSummed image leader (number + 1) next
summed_more image bounds leader count number len size next sum says whole from below is so_far =
    let small : (entry_at image number).size ≤ (header_of image).page = let p = (whole.0.pieces number (record { first = from; last = omega (arith, below, whole.1) })).in_page in omega (arith, p) in
    let page : (header_of image).page ≤ 4096 = omega (arith, says.page, bounds.page_in_limits.most) in
    let few_entries : count ≤ 1024 = let f = whole.0.first.few in omega (arith, f, whole.1, says.entries, bounds.entries_in_limits.most) in
    let exact : next ≡ len + size = omega (arith, sum, so_far.few, small, page, is, few_entries, from, below) in
    let more : number + 1 - leader ≡ number - leader + 1 = omega arith in
    let last : leader + (number - leader) ≡ number = omega arith in
    let range : range_with_len leader (number + 1 - leader) ≡ range_with_len leader (number - leader) ++ number ∷ [] =
    ap (range_with_len leader) more ∙ (range_more leader (number - leader) ∙ ap (λ n. range_with_len leader (number - leader) ++ n ∷ []) last) in
    let size_of : ℕ → ℕ = λ n. (entry_at image n).size in
    let sums = ap (sum_by size_of) range ∙ sum_by-append size_of (range_with_len leader (number - leader)) (number ∷ []) in
    record {
      is = omega (arith, exact, so_far.is, is, sums, sum_by-cons size_of number []);
      few = omega (arith, exact, so_far.few, small, page, is, from);
    }

pub summed_all : (image : Image) (leader count number len : ℕ) → IsWholeWalk image leader count → leader + count ≤ number → number ≤ leader + count → HasSummed image leader number len → len ≡ group_bytes image leader
summed_all image leader count number len whole low high so_far =
    let all : number - leader ≡ count = omega arith in
    so_far.is ∙ ap (λ count. sum_by (λ n. (entry_at image n).size) (range_with_len leader count)) (all ∙ whole.1)

-- Images that say the same of the log recover to the same files, and an image whose log is empty to what the stores hold.
use Rattle.std.proofs.Common.{◌≡◌, ◌≢◌, ◌⊎◌, ◌↔◌, inl, inr, ℕ, ◌+◌, ◌*◌, ◌%◌, ◌<◌, ◌≤◌, ◌==◌, Bool, false, if◌then◌else◌, List, [], ◌∷◌, ◌++◌, zero, suc, refl, sym, ap, ◌∙◌, subst, arith}
use Rattle.std.proofs.lemmas.Bool.{cases_eq, eq-eqb, ne_eqb}
use Rattle.std.specs.Prelude.{filter, fold, take}
use Rattle.std.specs.List.{flat_map, range_with_len}
use Rattle.nv_plain.specs.Files.{Files, contents_of, with_contents, overwritten}
use Rattle.nv_plain.specs.Images.{Image, Header, header_of, entry_at, layout_in, slot_part, data_of, line_bytes, lines_for}
use Rattle.nv_plain.specs.Layouts.{Layout, layout_of}
use Rattle.nv_plain.specs.declared.limits.Version.{Version}
use Rattle.nv_plain.proofs.OwnLayouts.{layout_is}
use Rattle.nv_plain.specs.Recovered.{IsCommitted, IsInGroup, IsLeader, IsFollower, IsPiece, IsGroup, Fits, committed, group_numbers, next_after, with_entry, recovered}
use Rattle.nv_recover.specs.Alike.{SayTheSame}

-- ---- lists that are made alike

filter_range : (p q : ℕ → Bool) (from count : ℕ) → ((k : ℕ) → from ≤ k → k < from + count → p k ≡ q k) → filter p (range_with_len from count) ≡ filter q (range_with_len from count)
filter_range p q from zero same = refl
filter_range p q from (suc count) same =
    let rest = filter_range p q (from + 1) count (λ k low high. same k (omega arith) (omega arith)) in
    ap (λ test. if test then from ∷ filter p (range_with_len (from + 1) count) else filter p (range_with_len (from + 1) count)) (same from (omega arith) (omega arith))
    ∙ ap (λ more. if q from then from ∷ more else more) rest

filter_none : (p : ℕ → Bool) (from count : ℕ) → ((k : ℕ) → from ≤ k → k < from + count → p k ≡ false) → filter p (range_with_len from count) ≡ []
filter_none p from zero none = refl
filter_none p from (suc count) none =
    ap (λ test. if test then from ∷ filter p (range_with_len (from + 1) count) else filter p (range_with_len (from + 1) count)) (none from (omega arith) (omega arith))
    ∙ filter_none p (from + 1) count (λ k low high. none k (omega arith) (omega arith))

flat_map_range : (f g : ℕ → List ℕ) (from count : ℕ) → ((k : ℕ) → from ≤ k → f k ≡ g k) → flat_map f (range_with_len from count) ≡ flat_map g (range_with_len from count)
flat_map_range f g from zero same = refl
flat_map_range f g from (suc count) same =
    ap (λ one. one ++ flat_map f (range_with_len (from + 1) count)) (same from (omega arith))
    ∙ ap (λ more. g from ++ more) (flat_map_range f g (from + 1) count (λ k low. same k (omega arith)))

-- a test that says the same
same_test : (a b n : ℕ) → (a ≡ n) ↔ (b ≡ n) → (a == n) ≡ (b == n)
same_test a b n both = elim (cases_eq a n) [
  | inl is ↦ eq-eqb a n is ∙ sym (eq-eqb b n (both.0 is))
  | inr differs ↦ ne_eqb a n differs ∙ sym (ne_eqb b n (λ is. differs (both.1 is)))
]

-- ---- images that say the same

module _ (image other : Image) (same : SayTheSame image other) where
  same_header : header_of other ≡ header_of image
  same_header = λ i. record {
    magic = same.header 0 0 i;
    version = same.header 0 1 i;
    page = same.header 0 2 i;
    entries = same.header 0 3 i;
    files = same.header 0 4 i;
    tail = same.header 1 0 i;
  }

  -- a word of the slot of a number, but for its commit word
  same_word : (number line word : ℕ) → (line ≢ 0) ⊎ (word ≢ 0) → slot_part other number line word ≡ slot_part image number line word
  same_word number line word apart =
      ap (λ (header : Header). other (1 + number % header.entries) line word) same_header
      ∙ same.words (1 + number % (header_of image).entries) line word (omega arith) apart

  same_field : (number word : ℕ) → 1 ≤ word → slot_part other number 0 word ≡ slot_part image number 0 word
  same_field number word some = same_word number 0 word (inr (omega arith))

  same_data : (number size : ℕ) → data_of (slot_part other number) size ≡ data_of (slot_part image number) size
  same_data number size =
      ap (take size)
      (flat_map_range (λ line. line_bytes (slot_part other number line)) (λ line. line_bytes (slot_part image number line)) 1 (lines_for size)
      (λ line low. ap line_bytes (λ i word. same_word number line word (inl (omega arith)) i)))

  same_entry : (files : Files) (number : ℕ) → with_entry other files number ≡ with_entry image files number
  same_entry files number =
      let Placed = λ (file at : ℕ) (these : List ℕ). with_contents files file (overwritten (contents_of files file) at these) in
      let bytes = data_of (slot_part other number) (entry_at other number).size in
      ap (λ file. Placed file (entry_at other number).at bytes) (same_field number 1 (omega arith))
      ∙ ap (λ at. Placed (entry_at image number).file at bytes) (same_field number 2 (omega arith))
      ∙ ap (Placed (entry_at image number).file (entry_at image number).at)
      (ap (data_of (slot_part other number)) (same_field number 3 (omega arith)) ∙ same_data number (entry_at image number).size)

  same_committed : committed other ≡ committed image
  same_committed =
      ap (λ (header : Header). filter (λ number. (entry_at other number).commit == number + 1) (range_with_len header.tail header.entries)) same_header
      ∙ filter_range (λ number. (entry_at other number).commit == number + 1) (λ number. (entry_at image number).commit == number + 1)
      (header_of image).tail (header_of image).entries
      (λ number low high. same_test (entry_at other number).commit (entry_at image number).commit (number + 1) (same.commits number low high))

  same_count : (number : ℕ) → (entry_at other number).count ≡ (entry_at image number).count
  same_count number = same_field number 4 (omega arith)

  same_next : (groups : List ℕ) → next_after other groups ≡ next_after image groups
  same_next groups =
      ap (λ (header : Header). fold (λ next leader. leader + (entry_at other leader).count) header.tail groups) same_header
      ∙ ap (λ step. fold step (header_of image).tail groups) (λ i next leader. leader + same_count leader i)

  same_numbers : (groups : List ℕ) → flat_map (group_numbers other) groups ≡ flat_map (group_numbers image) groups
  same_numbers groups = ap (λ numbers. flat_map numbers groups) (λ i leader. range_with_len leader (same_count leader i))

  same_overlay : (files : Files) (numbers : List ℕ) → fold (with_entry other) files numbers ≡ fold (with_entry image) files numbers
  same_overlay files numbers = ap (λ step. fold step files numbers) (λ i these number. same_entry these number i)

  -- They recover to the same files.
  pub same_recovered : (files : Files) → recovered other files ≡ recovered image files
  same_recovered files =
      let next = ap (next_after other) same_committed ∙ same_next (committed image) in
      let numbers = ap (flat_map (group_numbers other)) same_committed ∙ same_numbers (committed image) in
      let over = ap (fold (with_entry other) files) numbers ∙ same_overlay files (flat_map (group_numbers image) (committed image)) in
      λ i. record {
        first = (same_header i).tail;
        groups = same_committed i;
        next = next i;
        files = over i;
      }

  same_tail : (header_of other).tail ≡ (header_of image).tail
  same_tail = ap (λ (header : Header). header.tail) same_header

  same_entries : (header_of other).entries ≡ (header_of image).entries
  same_entries = ap (λ (header : Header). header.entries) same_header

  same_page : (header_of other).page ≡ (header_of image).page
  same_page = ap (λ (header : Header). header.page) same_header

  committed_too : (number : ℕ) → IsCommitted other number → IsCommitted image number
  committed_too number commits =
      let low : (header_of image).tail ≤ number = omega (arith, commits.from_tail, same_tail) in
      let high : number < (header_of image).tail + (header_of image).entries = omega (arith, commits.in_window, same_tail, same_entries) in
      record { from_tail = low; in_window = high; commit = (same.commits number low high).0 commits.commit }

  leader_too : (layout : Layout) (leader : ℕ) → IsLeader layout image leader → IsLeader layout other leader
  leader_too layout leader leads = record {
    some = omega (arith, leads.some, same_count leader);
    few = omega (arith, leads.few, same_count leader, same_entries);
    in_window = omega (arith, leads.in_window, same_count leader, same_tail, same_entries);
    small = omega (arith, leads.small, same_count leader);
    own = same_field leader 5 (omega arith) ∙ leads.own;
  }

  in_group_too : (leader number : ℕ) → IsInGroup other leader number → IsInGroup image leader number
  in_group_too leader number among = record { first = among.first; last = omega (arith, among.last, same_count leader) }

  follower_too : (layout : Layout) (leader number : ℕ) → (header_of image).tail ≤ leader → leader ≤ number → IsLeader layout image leader → IsInGroup image leader number → IsFollower image leader number → IsFollower other leader number
  follower_too layout leader number from behind leads among follows = record {
    none = same_count number ∙ follows.none;
    of = same_field number 5 (omega arith) ∙ follows.of;
    uncommitted = λ commit. follows.uncommitted ((same.commits number (omega arith) (omega (arith, among.last, leads.in_window))).0 commit);
  }

  piece_too : (layout : Layout) (leader number : ℕ) → IsPiece layout image leader number → IsPiece layout other leader number
  piece_too layout leader number piece =
      let file = same_field number 1 (omega arith) in
      let at = same_field number 2 (omega arith) in
      let size = same_field number 3 (omega arith) in
      let Fits_page : ℕ → ℕ → ℕ → Type 0 = λ at size page. at % page + size ≤ page in
      let Fits_file : ℕ → ℕ → ℕ → Type 0 = λ at size page. at + size ≤ page * layout.page_limit in
      record {
        known = omega (arith, piece.known, file, ap (λ (header : Header). header.files) same_header);
        same = file ∙ piece.same ∙ sym (same_field leader 1 (omega arith));
        some = omega (arith, piece.some, size);
        in_page =
            subst (λ n. Fits_page n (entry_at other number).size (header_of other).page) (sym at)
            (subst (λ n. Fits_page (entry_at image number).at n (header_of other).page) (sym size)
            (subst (Fits_page (entry_at image number).at (entry_at image number).size) (sym same_page) piece.in_page));
        in_file =
            subst (λ n. Fits_file n (entry_at other number).size (header_of other).page) (sym at)
            (subst (λ n. Fits_file (entry_at image number).at n (header_of other).page) (sym size)
            (subst (Fits_file (entry_at image number).at (entry_at image number).size) (sym same_page) piece.in_file));
      }

  group_too : (layout : Layout) (leader : ℕ) → (header_of image).tail ≤ leader → IsGroup layout image leader → IsGroup layout other leader
  group_too layout leader from group = record {
    first = leader_too layout leader group.first;
    followers = λ number behind among.
        let there = in_group_too leader number among in
        follower_too layout leader number from (omega arith) group.first there (group.followers number behind there);
    pieces = λ number among. piece_too layout leader number (group.pieces number (in_group_too leader number among));
    in_a_row = λ number behind among.
        same_field (number + 1) 2 (omega arith)
        ∙ group.in_a_row number behind (in_group_too leader (number + 1) among)
        ∙ omega (arith, same_field number 2 (omega arith), same_field number 3 (omega arith));
  }

  -- They fit both.
  pub same_fits : (layout : Layout) → Fits layout image → Fits layout other
  same_fits layout fits leader commits =
      let too = committed_too leader commits in
      group_too layout leader too.from_tail (fits leader too)

-- ---- by which version an image fits

-- by the version that its header says, and so by its own,
pub fits_own : (version : Version) (image : Image) → (header_of image).version ≡ (layout_of version).version → Fits (layout_of version) image → Fits (layout_in image) image
fits_own version image says fits = subst (λ layout. Fits layout image) (sym (layout_is version image says)) fits

-- and the other way round
pub fits_said : (version : Version) (image : Image) → (header_of image).version ≡ (layout_of version).version → Fits (layout_in image) image → Fits (layout_of version) image
fits_said version image says fits = subst (λ layout. Fits layout image) (layout_is version image says) fits

-- ---- an empty log

-- where no number is committed there is no group
pub no_commit : (image : Image) → ((number : ℕ) → ¬ IsCommitted image number) → committed image ≡ []
no_commit image none =
    filter_none (λ number. (entry_at image number).commit == number + 1) (header_of image).tail (header_of image).entries
    (λ number low high.
    ne_eqb (entry_at image number).commit (number + 1) (λ commit. none number (record { from_tail = low; in_window = high; commit = commit })))

-- An image that commits nothing fits, and recovers to what the stores hold.
pub empty_fits : (layout : Layout) (image : Image) → ((number : ℕ) → ¬ IsCommitted image number) → Fits layout image
empty_fits layout image none leader commits = absurd (none leader commits)

pub empty_recovered : (image : Image) (files : Files) → ((number : ℕ) → ¬ IsCommitted image number) → (recovered image files).files ≡ files
empty_recovered image files none =
    ap (λ groups. fold (with_entry image) files (flat_map (group_numbers image) groups)) (no_commit image none)

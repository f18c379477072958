-- The words of a name's record, and what they say.
use Rattle.std.proofs.Common.{◌≡◌, ℕ, ◌+◌, ◌-◌, ◌*◌, ◌/◌, ◌%◌, ◌<◌, ◌≤◌, ◌==◌, ◌&&◌, inl, inr, IsTrue, true, nat_le, not, List, ◌++◌, length, take, drop, replicate, get_or, slice_index, zero, suc, refl, sym, ap, ◌∙◌, subst, arith, length-append, length-drop}
use Rattle.std.proofs.Math.Seq.{drop-append-add, drop-append_seam}
use Rattle.std.proofs.lemmas.Bool.{and_parts, and_from, cases_lt, leb-true, le-leb}
use Rattle.std.proofs.lemmas.List.{take_all, take_at, take-take, drop-take, drop-drop, length-take, length-replicate, get_or_past, get_or-take, get_or-drop, get_or_append_left, get_or-append_right, get_or-replicate}
use Rattle.std.proofs.lemmas.Nat.{le_bytes_8, from_le_bytes-to_le_bytes_8}
use Rattle.std.specs.Int.{to_le_bytes, from_le_bytes, w64}
use Rattle.std.specs.List.{flat_map, list_all, range_with_len}
use Rattle.nv_plain.specs.Files.{padded}
use Rattle.nv_plain.specs.Images.{Image, name_of}
use Rattle.nv_plain.specs.Layouts.{Layout, layout_of}
use Rattle.nv_plain.specs.Names.{is_name, is_name_byte}
use Rattle.nv_plain.specs.declared.limits.Version.{Version}
use Rattle.nv_pmem.specs.Steps.{word_in}
use Rattle.nv_pmem.proofs.Ranges.{map-same, flat_map-same, flat_map-after_one, parts_joined}
use Rattle.nv_header.specs.Heads.{IsGoodName, first_names, record_line, length_of, room_of_name, is_record}
use Rattle.nv_header.specs.HeaderSteps.{name_record, record_part}
use Rattle.nv_header.proofs.VersionLaws.{sizes}

-- ---- a record in words

-- each is a byte
abbrev pub AreBytes : List ℕ → Type 0
AreBytes bytes = (i : ℕ) → get_or bytes i 0 < 256

padded_bytes : (bytes : List ℕ) (count : ℕ) → AreBytes bytes → AreBytes (bytes ++ replicate count 0)
padded_bytes bytes count are i = elim (cases_lt i (length bytes)) [
  | inl less ↦ rw (get_or_append_left bytes (replicate count 0) 0 i less) (are i)
  | inr past ↦
      rw (get_or-append_right bytes (replicate count 0) (length bytes) i 0 refl past)
      (elim (cases_lt (i - length bytes) count) [
        | inl inside ↦ rw (get_or-replicate {A = ℕ} count (i - length bytes) 0 0 inside) (omega arith)
        | inr beyond ↦ rw (get_or_past (replicate {A = ℕ} count 0) (i - length bytes) 0 (omega (arith, length-replicate {A = ℕ} count 0))) (omega arith)
      ])
]

word_bytes : (bytes : List ℕ) (k : ℕ) → AreBytes bytes → AreBytes (take 8 (drop (8 * k) bytes))
word_bytes bytes k are i = elim (cases_lt i 8) [
  | inl less ↦ rw (get_or-take 8 (drop (8 * k) bytes) i 0 less, get_or-drop (8 * k) bytes i 0) (are (8 * k + i))
  | inr past ↦ rw (get_or_past (take 8 (drop (8 * k) bytes)) i 0 (omega (arith, length-take 8 (drop (8 * k) bytes)))) (omega arith)
]

length-padded : (bytes : List ℕ) (size : ℕ) → length bytes ≤ size → length (padded bytes size) ≡ size
length-padded bytes size fits =
    omega (arith, length-append bytes (replicate (size - length bytes) 0), length-replicate {A = ℕ} (size - length bytes) 0)

-- these are the words of a name's record
abbrev pub HasWords : Version → (ℕ → ℕ) → List ℕ → Type 0
HasWords version words name = (k : ℕ) → k < 8 * (layout_of version).lines_per_name → words k ≡ word_in (name_record (layout_of version) name) k

-- the words behind the first are the padded name
record_room : (version : Version) (name : List ℕ) (words : ℕ → ℕ) → length name ≤ (layout_of version).name_limit → AreBytes name → HasWords version words name
    → flat_map (λ k. to_le_bytes w64 (words k)) (range_with_len 1 ((layout_of version).lines_per_name * 8 - 1)) ≡ padded name (layout_of version).name_limit
unfolding name_record
record_room version name words fits are each =
    let count = (layout_of version).lines_per_name * 8 - 1 in
    let size = 64 * (layout_of version).lines_per_name - 8 in
    let front = to_le_bytes w64 (length name) in
    let back = padded name size in
    let size_is : size ≡ (layout_of version).name_limit = omega (arith, (sizes version).limit) in
    let long = length-padded name size (omega arith) in
    flat_map-after_one (λ k. to_le_bytes w64 (words k)) 0 count
    ∙ flat_map-same (λ k. to_le_bytes w64 (words (1 + k))) (λ k. take 8 (drop (8 * k) back)) 0 count (λ k low high.
    let index : 8 * (1 + k) ≡ 8 + 8 * k = omega arith in
    let part : drop (8 * (1 + k)) (front ++ back) ≡ drop (8 * k) back = ap (λ n. drop n (front ++ back)) index ∙ drop-append-add front back (8 * k) in
    le_bytes_8 (take 8 (drop (8 * k) back)) (words (1 + k)) (omega (arith, length-take 8 (drop (8 * k) back), length-drop (8 * k) back))
    (word_bytes back k (padded_bytes name (size - length name) are))
    (each (1 + k) (omega arith) ∙ ap (λ bytes. from_le_bytes w64 (take 8 bytes)) part))
    ∙ parts_joined 8 back 0 count
    ∙ take_all (8 * count) back (omega arith)
    ∙ ap (padded name) size_is

-- and the first is its length
record_length : (version : Version) (name : List ℕ) (words : ℕ → ℕ) → length name ≤ (layout_of version).name_limit → HasWords version words name → words 0 ≡ length name
unfolding name_record
record_length version name words fits each =
    each 0 (omega (arith, (sizes version).some_lines))
    ∙ ap (from_le_bytes w64) (take_at (to_le_bytes w64 (length name)) (padded name (64 * (layout_of version).lines_per_name - 8)) 8 refl)
    ∙ from_le_bytes-to_le_bytes_8 (length name) (omega (arith, (sizes version).limit, (sizes version).few_lines))

-- a word of a line is one of the record
pub word_of_line : (layout : Layout) (name : List ℕ) (k j : ℕ) → j < 8 → word_in (record_part layout name k) j ≡ word_in (name_record layout name) (8 * k + j)
word_of_line layout name k j small =
    let all = name_record layout name in
    let size : 8 * j + (64 - 8 * j) ≡ 64 = omega arith in
    let at : 64 * k + 8 * j ≡ 8 * (8 * k + j) = omega arith in
    ap (from_le_bytes w64)
    (ap (λ n. take 8 (drop (8 * j) (take n (drop (64 * k) all)))) (sym size)
    ∙ ap (take 8) (drop-take (8 * j) (64 - 8 * j) (drop (64 * k) all))
    ∙ take-take 8 (64 - 8 * j) (drop (8 * j) (drop (64 * k) all)) (omega arith)
    ∙ ap (take 8) (drop-drop (8 * j) (64 * k) all)
    ∙ ap (λ n. take 8 (drop n all)) at)

-- ---- records of two images

-- word k of name j's record
abbrev pub record_word : Version → Image → ℕ → ℕ → ℕ
record_word version image j k = image 0 (record_line (layout_of version) j + k / 8) (k % 8)

-- the words of name j's record are the same
abbrev pub SameRecord : Version → Image → Image → ℕ → Type 0
SameRecord version image before j =
    (k : ℕ) → k < 8 * (layout_of version).lines_per_name → record_word version image j k ≡ record_word version before j k

same_length : (version : Version) (image before : Image) (j : ℕ) → SameRecord version image before j → length_of (layout_of version) image j ≡ length_of (layout_of version) before j
same_length version image before j same =
    let line = record_line (layout_of version) j in
    let here : line + 0 / 8 ≡ line = omega arith in
    ap (λ n. image 0 n 0) (sym here) ∙ same 0 (omega (arith, (sizes version).some_lines)) ∙ ap (λ n. before 0 n 0) here

same_room : (version : Version) (image before : Image) (j : ℕ) → SameRecord version image before j → room_of_name (layout_of version) image j ≡ room_of_name (layout_of version) before j
same_room version image before j same =
    flat_map-same (λ k. to_le_bytes w64 (record_word version image j k)) (λ k. to_le_bytes w64 (record_word version before j k)) 1 ((layout_of version).lines_per_name * 8 - 1)
    (λ k low high. ap (to_le_bytes w64) (same k (omega arith)))

pub same_name : (version : Version) (image before : Image) (j : ℕ) → SameRecord version image before j → name_of (layout_of version) image j ≡ name_of (layout_of version) before j
same_name version image before j same =
    ap (λ n. take n (room_of_name (layout_of version) image j)) (same_length version image before j same)
    ∙ ap (take (length_of (layout_of version) before j)) (same_room version image before j same)

pub same_names : (version : Version) (image before : Image) (count : ℕ) → ((j : ℕ) → j < count → SameRecord version image before j) → first_names (layout_of version) image count ≡ first_names (layout_of version) before count
unfolding first_names
same_names version image before count same =
    map-same (name_of (layout_of version) image) (name_of (layout_of version) before) 0 count (λ j low high. same_name version image before j (same j (omega arith)))

pub good_still : (version : Version) (image before : Image) (j count : ℕ) → j < count → ((i : ℕ) → i < count → SameRecord version image before i) → IsGoodName (layout_of version) before j → IsGoodName (layout_of version) image j
good_still version image before j count below same good =
    let limit = (layout_of version).name_limit in
    let Room : List ℕ → Type 0 = λ room. IsTrue (is_record limit (length_of (layout_of version) before j) room) in
    let Length : ℕ → Type 0 = λ n. IsTrue (is_record limit n (room_of_name (layout_of version) image j)) in
    record {
      whole = subst Length (sym (same_length version image before j (same j below))) (subst Room (sym (same_room version image before j (same j below))) good.whole);
      new = λ i earlier equal.
          good.new i earlier (sym (same_name version image before i (same i (omega arith))) ∙ equal ∙ same_name version image before j (same j below));
    }

-- ---- a record that is a name's

pub name_fits : (most : ℕ) (name : List ℕ) → IsTrue (is_name most name) → length name ≤ most
name_fits most name allowed =
    let enough = nat_le 1 (length name) in
    let few = nat_le (length name) most in
    let no_dot = not (slice_index name 0 == 46) in
    let bytes = list_all is_name_byte name in
    leb-true (length name) most (and_parts enough few (and_parts (enough && few) no_dot (and_parts (enough && few && no_dot) bytes allowed).0).0).1

zeros_pass : (count : ℕ) → list_all (λ byte. byte == 0) (replicate count 0) ≡ true
zeros_pass zero = refl
zeros_pass (suc count) = zeros_pass count

record_good : (most : ℕ) (name room : List ℕ) (count : ℕ) → IsTrue (is_name most name) → count ≡ length name → room ≡ padded name most → IsTrue (is_record most count room)
record_good most name room count allowed count_is_length room_is =
    let fits = name_fits most name allowed in
    let front : take count room ≡ name = ap (λ n. take n room) count_is_length ∙ ap (take (length name)) room_is ∙ take_at name (replicate (most - length name) 0) (length name) refl in
    let back : drop count room ≡ replicate (most - length name) 0 = ap (λ n. drop n room) count_is_length ∙ ap (drop (length name)) room_is ∙ drop-append_seam name (replicate (most - length name) 0) in
    and_from _ _
    (and_from _ _ (le-leb count most (omega arith)) (ap (is_name most) front ∙ allowed))
    (ap (list_all (λ byte. byte == 0)) back ∙ zeros_pass (most - length name))

-- the words of a record are those of a name's
abbrev pub HasRecord : Version → Image → ℕ → List ℕ → Type 0
HasRecord version image i name = HasWords version (record_word version image i) name

length_is : (version : Version) (image : Image) (i : ℕ) (name : List ℕ) → length name ≤ (layout_of version).name_limit → HasRecord version image i name → length_of (layout_of version) image i ≡ length name
length_is version image i name fits has =
    let line = record_line (layout_of version) i in
    let here : line + 0 / 8 ≡ line = omega arith in
    ap (λ n. image 0 n 0) (sym here) ∙ record_length version name (record_word version image i) fits has

pub name_is : (version : Version) (image : Image) (i : ℕ) (name : List ℕ) → length name ≤ (layout_of version).name_limit → AreBytes name → HasRecord version image i name → name_of (layout_of version) image i ≡ name
name_is version image i name fits are has =
    let limit = (layout_of version).name_limit in
    ap (λ n. take n (room_of_name (layout_of version) image i)) (length_is version image i name fits has)
    ∙ ap (take (length name)) (record_room version name (record_word version image i) fits are has)
    ∙ take_at name (replicate (limit - length name) 0) (length name) refl

-- so it holds the name
pub record_holds : (version : Version) (image : Image) (i : ℕ) (name : List ℕ) → IsTrue (is_name (layout_of version).name_limit name) → AreBytes name → HasRecord version image i name
    → IsTrue (is_record (layout_of version).name_limit (length_of (layout_of version) image i) (room_of_name (layout_of version) image i))
record_holds version image i name allowed are has =
    let fits = name_fits (layout_of version).name_limit name allowed in
    record_good (layout_of version).name_limit name (room_of_name (layout_of version) image i) (length_of (layout_of version) image i) allowed
    (length_is version image i name fits has) (record_room version name (record_word version image i) fits are has)

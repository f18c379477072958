-- Names' records, as they are loaded and judged.
use Rattle.std.proofs.Common.{◌≡◌, ◌≢◌, ℕ, ◌+◌, ◌-◌, ◌*◌, ◌/◌, ◌%◌, ◌<◌, ◌≤◌, ◌==◌, ◌&&◌, nat_le, Bool, true, false, List, [], ◌∷◌, ◌++◌, length, map, take, drop, get_or, Some, None, refl, sym, ap, ◌∙◌, arith, zero-add, below_more}
use Rattle.std.specs.Prelude.{nat_eq}
use Rattle.std.specs.Int.{to_le_bytes, w64}
use Rattle.std.specs.List.{flat_map, list_all, list_any, range_with_len}
use Rattle.std.proofs.lemmas.Bool.{and_parts}
use Rattle.std.proofs.lemmas.List.Folds.{Any-from_list_any, list_any_at}
use Rattle.std.proofs.lemmas.List.FromFn.{get_or-range_with_len, length-range_with_len, map-range_with_len_more}
use Rattle.std.proofs.lemmas.List.{get_or-map, length-map}
use Rattle.std.specs.Cmp.Lexicographic.{same_text, other_text}
use lib.Pointwise.{pointwise}
use Rattle.nv_plain.specs.Images.{header_of, name_of}
use Rattle.nv_plain.specs.Layouts.{Layout, layout_of}
use Rattle.nv_plain.specs.declared.limits.Version.{Version}
use Rattle.nv_plain.specs.Names.{is_name}
use Rattle.nv_pmem.specs.Moments.{Tells}
use Rattle.nv_pmem.specs.Part.{Part, part_word}
use Rattle.nv_pmem.specs.Steps.{PartHistory}
use Rattle.nv_header.specs.Heads.{first_names, record_line, header_image, is_record, length_of, room_of_name}
use Rattle.nv_header.specs.NextName.{IsNextName, AreNames}
use Rattle.nv_header.specs.Refusals.{IsBadName}
use Rattle.nv_header.proofs.VersionLaws.{sizes}
use Rattle.nv_pmem.proofs.Ranges.{word_put}
use borrow.Rule.Slice.PartMut.{put_mid}

-- word k of a record, whose first line is this
abbrev pub word_from : Part → (first k : ℕ) → ℕ
word_from now first k = part_word now (first + k / 8) (k % 8)

-- one word more of a record
pub told_word_put : (history : PartHistory) (first count value : ℕ) (bytes copy : List ℕ) (size : ℕ) → 8 * count ≤ length bytes → copy ≡ to_le_bytes w64 value → Tells history (λ now. take (8 * count) bytes ≡ flat_map (λ k. to_le_bytes w64 (word_from now first k)) (range_with_len 1 count)) → Tells history (λ now. value ≡ word_from now first (1 + count)) → Tells history (λ now. take (8 * (count + 1)) (put_mid (8 * count) size bytes copy) ≡ flat_map (λ k. to_le_bytes w64 (word_from now first k)) (range_with_len 1 (count + 1)))
told_word_put [] first count value bytes copy size fits is before loaded = tt
told_word_put (now ∷ past) first count value bytes copy size fits is before loaded =
    word_put (word_from now first) 1 count value bytes copy size fits is loaded before

-- all words of a record are loaded
pub told_room : (history : PartHistory) (version : Version) (i first count : ℕ) (room : List ℕ) → first ≡ record_line (layout_of version) i → count ≡ (layout_of version).name_limit / 8
    → Tells history (λ now. take (8 * count) room ≡ flat_map (λ k. to_le_bytes w64 (word_from now first k)) (range_with_len 1 count)) → Tells history (λ now. take (layout_of version).name_limit room ≡ room_of_name (layout_of version) (header_image now) i)
told_room [] version i first count room first_is count_is loaded = tt
told_room (now ∷ past) version i first count room first_is count_is loaded =
    let layout = layout_of version in
    let words : count ≡ layout.lines_per_name * 8 - 1 = count_is ∙ (sizes version).words in
    let size : layout.name_limit ≡ 8 * count = omega (arith, (sizes version).limit, (sizes version).some_lines) in
    ap (λ n. take n room) size
    ∙ loaded
    ∙ ap (λ n. flat_map (λ k. to_le_bytes w64 (word_from now n k)) (range_with_len 1 count)) first_is
    ∙ ap (λ n. flat_map (λ k. to_le_bytes w64 (word_from now (record_line layout i) k)) (range_with_len 1 n)) words

-- the length stands in front
pub told_length : (history : PartHistory) (version : Version) (i first length : ℕ) → first ≡ record_line (layout_of version) i → Tells history (λ now. length ≡ part_word now first 0) → Tells history (λ now. length ≡ length_of (layout_of version) (header_image now) i)
told_length [] version i first length first_is loaded = tt
told_length (now ∷ past) version i first length first_is loaded = loaded ∙ ap (λ n. part_word now n 0) first_is

-- ---- a name among those before it

true_unless : (b : Bool) → ¬ (false ≡ b) → b ≡ true
true_unless true never = refl
true_unless false never = absurd (never refl)

-- an element of a list along a range
get_or-along : (f : ℕ → List ℕ) (count k : ℕ) (d : List ℕ) → k < count → get_or (map f (range_with_len 0 count)) k d ≡ f k
get_or-along f count k d below =
    get_or-map f (range_with_len 0 count) k 0 d (omega (arith, length-range_with_len 0 count))
    ∙ ap f (get_or-range_with_len 0 count k 0 below ∙ zero-add k)

length-along : (f : ℕ → List ℕ) (count : ℕ) → length (map f (range_with_len 0 count)) ≡ count
length-along f count = simp (length-map, length-range_with_len)

unknown_is_new : (f : ℕ → List ℕ) (count : ℕ) (name : List ℕ) → list_any (λ known. pointwise nat_eq known name) (map f (range_with_len 0 count)) ≡ false → (j : ℕ) → j < count → f j ≢ name
unknown_is_new f count name unknown j below same =
    let here = get_or-along f count j [] below in
    let is_same : pointwise nat_eq (get_or (map f (range_with_len 0 count)) j []) name ≡ true = true_unless _ (λ other. other_text _ _ other (here ∙ same)) in
    let known = list_any_at (λ one. pointwise nat_eq one name) (map f (range_with_len 0 count)) j [] (omega (arith, length-along f count)) is_same in
    let never : false ≡ true = sym unknown ∙ known in
    cc

known_is_old : (f : ℕ → List ℕ) (count : ℕ) (name : List ℕ) → list_any (λ known. pointwise nat_eq known name) (map f (range_with_len 0 count)) ≡ true → ((j : ℕ) → j < count → f j ≢ name) → ⊥
known_is_old f count name known new =
    let (k, x, inside, at, is) = Any-from_list_any (λ one. pointwise nat_eq one name) (map f (range_with_len 0 count)) known in
    let below : k < count = omega (arith, length-along f count, inside) in
    new k below (sym (get_or-along f count k x below) ∙ at ∙ same_text x name (sym is))

-- ---- the next name

-- a record as it is loaded
pub record IsLoaded (history : PartHistory) (layout : Layout) (i length : ℕ) (room : List ℕ) : Type 0 where
  pub length_is : Tells history (λ now. length ≡ length_of layout (header_image now) i)
  pub room_is : Tells history (λ now. room ≡ room_of_name layout (header_image now) i)

same_record : (most length at : ℕ) (room bytes : List ℕ) → length ≡ at → room ≡ bytes → is_record most length room ≡ is_record most at bytes
same_record most length at room bytes length_is room_is = ap (λ n. is_record most n room) length_is ∙ ap (is_record most at) room_is

same_name : (length at : ℕ) (room bytes name : List ℕ) → length ≡ at → room ≡ bytes → name ≡ take length room → name ≡ take at bytes
same_name length at room bytes name length_is room_is is = is ∙ ap (λ n. take n room) length_is ∙ ap (take at) room_is

pub next_good : (history : PartHistory) (layout : Layout) (earlier : List (List ℕ)) (i length : ℕ) (room name : List ℕ) → IsLoaded history layout i length room → is_record layout.name_limit length room ≡ true → name ≡ take length room → list_any (λ known. pointwise nat_eq known name) earlier ≡ false → Tells history (λ now. IsNextName layout (header_image now) earlier i (Some name))
unfolding first_names
next_good [] layout earlier i length room name loaded good is unknown = tt
next_good (now ∷ past) layout earlier i length room name loaded good is unknown = λ earlier_is.
    let image = header_image now in
    let name_is : name ≡ name_of layout image i = same_name length _ room _ name loaded.length_is loaded.room_is is in (
      record {
        whole = sym (same_record layout.name_limit length _ room _ loaded.length_is loaded.room_is) ∙ good;
        new = λ j below same.
            unknown_is_new (name_of layout image) i name (ap (list_any (λ known. pointwise nat_eq known name)) (sym earlier_is) ∙ unknown) j below
            (same ∙ sym name_is);
      },
      name_is,
    )

pub next_bad : (history : PartHistory) (layout : Layout) (earlier : List (List ℕ)) (i length : ℕ) (room : List ℕ) → IsLoaded history layout i length room → is_record layout.name_limit length room ≡ false → Tells history (λ now. IsNextName layout (header_image now) earlier i None)
next_bad [] layout earlier i length room loaded bad = tt
next_bad (now ∷ past) layout earlier i length room loaded bad = λ earlier_is good.
    let never : false ≡ true = sym bad ∙ same_record layout.name_limit length _ room _ loaded.length_is loaded.room_is ∙ good.whole in
    cc

pub next_known : (history : PartHistory) (layout : Layout) (earlier : List (List ℕ)) (i length : ℕ) (room name : List ℕ) → IsLoaded history layout i length room → name ≡ take length room → list_any (λ known. pointwise nat_eq known name) earlier ≡ true → Tells history (λ now. IsNextName layout (header_image now) earlier i None)
unfolding first_names
next_known [] layout earlier i length room name loaded is known = tt
next_known (now ∷ past) layout earlier i length room name loaded is known = λ earlier_is good.
    let image = header_image now in
    known_is_old (name_of layout image) i name (ap (list_any (λ one. pointwise nat_eq one name)) (sym earlier_is) ∙ known)
    (λ j below same. good.new j below (same ∙ same_name length _ room _ name loaded.length_is loaded.room_is is))

-- the name of a record is allowed
pub record_allowed : (most length : ℕ) (room name : List ℕ) → is_record most length room ≡ true → name ≡ take length room → is_name most name ≡ true
record_allowed most length room name good is =
    let in_front = nat_le length most && is_name most (take length room) in
    let padding = list_all (λ byte. byte == 0) (drop length room) in
    ap (is_name most) is ∙ (and_parts (nat_le length most) (is_name most (take length room)) (and_parts in_front padding good).0).1

-- ---- the names so far

pub no_names : (history : PartHistory) (layout : Layout) → Tells history (λ now. AreNames layout (header_image now) 0 [])
unfolding first_names
no_names [] layout = tt
no_names (now ∷ past) layout = record { good = λ i below. absurd (omega arith); same = refl }

pub names_more : (history : PartHistory) (layout : Layout) (names : List (List ℕ)) (i : ℕ) (name : List ℕ) → Tells history (λ now. AreNames layout (header_image now) i names) → Tells history (λ now. IsNextName layout (header_image now) names i (Some name)) → Tells history (λ now. AreNames layout (header_image now) (i + 1) (names ++ name ∷ []))
unfolding first_names
names_more [] layout names i name before next = tt
names_more (now ∷ past) layout names i name before next =
    let image = header_image now in
    let here = next before.same in
    record {
      good = below_more _ i before.good here.0;
      same =
          ap (λ front. front ++ name ∷ []) before.same
          ∙ ap (λ last. map (name_of layout image) (range_with_len 0 i) ++ last ∷ []) here.1
          ∙ sym (map-range_with_len_more (name_of layout image) 0 i i (zero-add i));
    }

pub name_refused : (history : PartHistory) (layout : Layout) (names : List (List ℕ)) (count i : ℕ) → i < count → Tells history (λ now. AreNames layout (header_image now) i names) → Tells history (λ now. IsNextName layout (header_image now) names i None) → Tells history (λ now. count ≡ (header_of (header_image now)).files → IsBadName layout (header_image now) i)
name_refused [] layout names count i below before next = tt
name_refused (now ∷ past) layout names count i below before next = λ all. record { inside = omega (arith, all, below); before = before.good; bad = next before.same }

-- Laws about what a line in memory holds: its rows, after each call, are the line that the call makes.
use Rattle.std.proofs.Common.{◌≡◌, ◌≢◌, ℕ, zero, suc, ◌+◌, ◌-◌, ◌<◌, ◌≤◌, ◌==◌, if◌then◌else◌, inl, inr, Bool, true, false, List, [], ◌∷◌, ◌++◌, length, map, take, drop, get_or, set, slice_set, replicate, Option, Some, None, IfSome, refl, sym, ap, subst, ◌∙◌, arith, length-append}
use Rattle.std.proofs.lemmas.Bool.{cases_eq, cases_lt, ne_eqb}
use Rattle.std.proofs.lemmas.List.{same_lists, length-map, length-set, length-take, length-drop, length-replicate, get_or-map, get_or-set_same, get_or-set_other, get_or_default, get_or_push, get_or_past, get_or-replicate, map-set, take_more, take_more_set, take_all, drop_all, append-nil}
use Rattle.std.proofs.lemmas.List.FromFn.{get_or-map-range_with_len, length-map-range_with_len}
use Rattle.std.proofs.lemmas.Option.{IfSome_then}
use Rattle.std.proofs.Math.Seq.{map-set_same}
use Rattle.std.specs.List.{range_with_len}
use Rattle.nv_pmem.specs.MemLine.{noted, column, held_word, held_line, HoldsLine}
use Rattle.nv_pmem.specs.Part.{Word, Line, settled_word, word_of, newest_value, stored_value, flushed_word, fenced_at, fenced_word, stored, flushed, fenced}
use Rattle.nv_pmem.specs.Draws.{Draws}
use Rattle.nv_pmem.specs.Picked.{settled, picked_word, picked_from}
use Rattle.nv_pmem.proofs.LineLaws.{word_of-stored_same, word_of-stored_other, word_of-fenced, last_of}

-- ---- the line and its words

pub length-held : (oldest counts marks : List ℕ) (rows : List (List ℕ)) → length (held_line oldest counts marks rows) ≡ 8
unfolding held_line
length-held oldest counts marks rows = length-map-range_with_len (held_word oldest counts marks rows) 0 8

pub held_at : (oldest counts marks : List ℕ) (rows : List (List ℕ)) (word : ℕ) → word < 8 → word_of (held_line oldest counts marks rows) word ≡ held_word oldest counts marks rows word
unfolding held_line
held_at oldest counts marks rows word inside = get_or-map-range_with_len (held_word oldest counts marks rows) 0 8 word word (settled_word 0) inside (omega arith)

-- a line of eight is the one of its words
pub line_is : (oldest counts marks : List ℕ) (rows : List (List ℕ)) (line : Line) → length line ≡ 8 → ((word : ℕ) → word < 8 → held_word oldest counts marks rows word ≡ word_of line word) → held_line oldest counts marks rows ≡ line
unfolding held_line
line_is oldest counts marks rows line long same =
    let words = map (held_word oldest counts marks rows) (range_with_len 0 8) in
    let eight = length-map-range_with_len (held_word oldest counts marks rows) 0 8 in
    same_lists words line (eight ∙ sym long) (λ k d inside.
    let less : k < 8 = omega (arith, inside, eight) in
    let there : k < length line = omega (arith, less, long) in
    get_or-map-range_with_len (held_word oldest counts marks rows) 0 8 k k d less (omega arith) ∙ same k less ∙ get_or_default line k (settled_word 0) d there)

-- a word by its parts
abbrev pub word_by : (oldest : ℕ) (later : List ℕ) (flushed : Option ℕ) → Word
word_by oldest later flushed = record { oldest = oldest; later = later; flushed = flushed }

pub same_parts : (oldest one : ℕ) (later these : List ℕ) (flushed mark : Option ℕ) → oldest ≡ one → later ≡ these → flushed ≡ mark → word_by oldest later flushed ≡ word_by one these mark
same_parts oldest one later these flushed mark is are marked = cc

pub held_by : (oldest counts marks : List ℕ) (rows : List (List ℕ)) (word : ℕ) → held_word oldest counts marks rows word ≡ word_by (get_or oldest word 0) (take (get_or counts word 0) (column rows word)) (noted (get_or marks word 0))
unfolding held_word
held_by oldest counts marks rows word = refl

-- how many later values it has
pub length-later : (oldest counts marks : List ℕ) (rows : List (List ℕ)) (word : ℕ) → length rows ≡ 15 → get_or counts word 0 ≤ 15 → length (held_word oldest counts marks rows word).later ≡ get_or counts word 0
unfolding held_word
length-later oldest counts marks rows word long few =
    omega (arith, length-take (get_or counts word 0) (column rows word), length-map rows (λ (row : List ℕ). get_or row word 0), long, few)

pub count_is : (oldest counts marks : List ℕ) (rows : List (List ℕ)) (line : Line) (word : ℕ) → held_line oldest counts marks rows ≡ line → length rows ≡ 15 → get_or counts word 0 ≤ 15 → word < 8 → length (word_of line word).later ≡ get_or counts word 0
count_is oldest counts marks rows line word is long few inside =
    ap (λ (these : Line). length (word_of these word).later) (sym is)
    ∙ ap (λ (one : Word). length one.later) (held_at oldest counts marks rows word inside)
    ∙ length-later oldest counts marks rows word long few

-- ---- marks

note_of : (same : Bool) (mark : ℕ) → same ≡ false → (if◌then◌else◌ {A = Option ℕ} same None (Some mark)) ≡ Some mark
note_of true mark differs = absurd (cc)
note_of false mark differs = refl

pub noted_some : (mark : ℕ) → mark ≢ 16 → noted mark ≡ Some mark
noted_some mark differs = note_of (mark == 16) mark (ne_eqb mark 16 differs)

pub noted_few : (mark : ℕ) → mark ≤ 15 → noted mark ≡ Some mark
noted_few mark few = let ne : mark ≢ 16 = omega arith in note_of (mark == 16) mark (ne_eqb mark 16 ne)

unnoted : (mark : ℕ) → noted mark ≡ None → mark ≡ 16
unnoted mark none = elim (cases_eq mark 16) [
  | inl same ↦ same
  | inr differs ↦ let some : noted mark ≡ Some mark = note_of (mark == 16) mark (ne_eqb mark 16 differs) in absurd (cc)
]

pub counts_noted : (count : ℕ) → count ≤ 15 → IfSome (noted count) (λ n. n ≤ count)
counts_noted count few = subst (λ note. IfSome note (λ n. n ≤ count)) (sym (noted_few count few)) (omega arith)

-- ---- rows of values

-- one value more at a word's place, behind those that it has
column_more : (rows : List (List ℕ)) (count word value : ℕ) (row : List ℕ) → count < length rows → word < length row → take (count + 1) (column (set rows count (set row word value)) word) ≡ take count (column rows word) ++ value ∷ []
column_more rows count word value row inside wide =
    let at : List ℕ → ℕ = λ row. get_or row word 0 in
    ap (take (count + 1)) (map-set at rows count (set row word value))
    ∙ ap (λ one. take (count + 1) (set (column rows word) count one)) (get_or-set_same row word value 0 wide)
    ∙ take_more_set (column rows word) count value (omega (arith, inside, length-map rows at))

-- and no other's place changes
pub column_other : (rows : List (List ℕ)) (count word value other : ℕ) (row : List ℕ) → row ≡ get_or rows count row → other ≢ word → column (set rows count (set row word value)) other ≡ column rows other
column_other rows count word value other row is differs =
    let at : List ℕ → ℕ = λ row. get_or row other 0 in
    map-set_same at rows count (set row word value) row (get_or-set_other row word other value 0 differs ∙ ap at is)

-- rows stay as wide
pub wide_set : (rows : List (List ℕ)) (count word value : ℕ) (row : List ℕ) → ((k : ℕ) (none : List ℕ) → k < 15 → length (get_or rows k none) ≡ 8) → length rows ≡ 15 → count < 15 → length row ≡ 8 → (k : ℕ) (none : List ℕ) → k < 15 → length (get_or (set rows count (set row word value)) k none) ≡ 8
wide_set rows count word value row wide long inside eight k none less = elim (cases_eq k count) [
  | inl same ↦
      let there : count < length rows = omega (arith, inside, long) in
      ap (λ i. length (get_or (set rows count (set row word value)) i none)) same ∙ ap length (get_or-set_same rows count (set row word value) none there) ∙ length-set row word value ∙ eight
  | inr differs ↦ ap length (get_or-set_other rows count k (set row word value) none differs) ∙ wide k none less
]

-- ---- a store

length-stored : (word value : ℕ) (line : Line) → word < length line → length (stored word value line) ≡ length line
unfolding stored
length-stored word value line inside =
    let more = replicate (word + 1 - length line) (settled_word 0) in
    length-set (line ++ more) word (stored_value value (word_of line word))
    ∙ omega (arith, length-append line more, length-replicate (word + 1 - length line) (settled_word 0), inside)

store_word : (oldest counts marks : List ℕ) (rows : List (List ℕ)) (word value count : ℕ) (row : List ℕ) → word < 8 → length counts ≡ 8 → count ≡ get_or counts word 0 → count < length rows → row ≡ get_or rows count row → length row ≡ 8
    → (k : ℕ) → k < 8 → held_word oldest (set counts word (count + 1)) marks (set rows count (set row word value)) k ≡ word_of (stored word value (held_line oldest counts marks rows)) k
store_word oldest counts marks rows word value count row inside long is there at wide k less =
    let line = held_line oldest counts marks rows in
    let now = set counts word (count + 1) in
    let these = set rows count (set row word value) in
    let at_word : word < length counts = omega (arith, inside, long) in
    let at_row : word < length row = omega (arith, inside, wide) in
    elim (cases_eq k word) [
      | inl same ↦
          ap (held_word oldest now marks these) same
          ∙ held_by oldest now marks these word
          ∙ same_parts _ _ _ _ _ _ refl (
          ap (λ n. take n (column these word)) (get_or-set_same counts word (count + 1) 0 at_word)
          ∙ column_more rows count word value row there at_row
          ∙ ap (λ n. take n (column rows word) ++ value ∷ []) is
          ) refl
          ∙ ap (stored_value value) (sym (held_by oldest counts marks rows word))
          ∙ ap (stored_value value) (sym (held_at oldest counts marks rows word inside))
          ∙ sym (word_of-stored_same word value line)
          ∙ ap (word_of (stored word value line)) (sym same)
      | inr differs ↦
          held_by oldest now marks these k
          ∙ same_parts _ _ _ _ _ _ refl (
          ap (λ n. take n (column these k)) (get_or-set_other counts word k (count + 1) 0 differs)
          ∙ ap (take (get_or counts k 0)) (column_other rows count word value k row at differs)
          ) refl
          ∙ sym (held_by oldest counts marks rows k)
          ∙ sym (held_at oldest counts marks rows k less)
          ∙ sym (word_of-stored_other word value line k differs)
    ]

pub store_held : (oldest counts marks : List ℕ) (rows : List (List ℕ)) (word value count : ℕ) (row : List ℕ) → word < 8 → length counts ≡ 8 → count ≡ get_or counts word 0 → count < length rows → row ≡ get_or rows count row → length row ≡ 8
    → held_line oldest (set counts word (count + 1)) marks (set rows count (set row word value)) ≡ stored word value (held_line oldest counts marks rows)
store_held oldest counts marks rows word value count row inside long is there at wide =
    let line = held_line oldest counts marks rows in
    let eight = length-held oldest counts marks rows in
    let within : word < length line = omega (arith, inside, eight) in
    line_is oldest (set counts word (count + 1)) marks (set rows count (set row word value)) (stored word value line) (length-stored word value line within ∙ eight)
    (store_word oldest counts marks rows word value count row inside long is there at wide)

newest_stored : (value : ℕ) (word : Word) → newest_value (stored_value value word) ≡ value
newest_stored value word = get_or_push word.later value word.oldest _ (omega (arith, length-append word.later (value ∷ [])))

more_counted : (counts : List ℕ) (word count : ℕ) → word < length counts → count ≡ get_or counts word 0 → (k : ℕ) → get_or counts k 0 ≤ get_or (set counts word (count + 1)) k 0
more_counted counts word count inside is k = elim (cases_eq k word) [
  | inl same ↦ omega (arith, is, ap (λ i. get_or counts i 0) same, ap (λ i. get_or (set counts word (count + 1)) i 0) same, get_or-set_same counts word (count + 1) 0 inside)
  | inr differs ↦ omega (arith, get_or-set_other counts word k (count + 1) 0 differs)
]

few_counted : (counts : List ℕ) (word count : ℕ) → word < length counts → count < 15 → ((k : ℕ) → get_or counts k 0 ≤ 15) → (k : ℕ) → get_or (set counts word (count + 1)) k 0 ≤ 15
few_counted counts word count inside less few k = elim (cases_eq k word) [
  | inl same ↦ omega (arith, less, ap (λ i. get_or (set counts word (count + 1)) i 0) same, get_or-set_same counts word (count + 1) 0 inside)
  | inr differs ↦ omega (arith, get_or-set_other counts word k (count + 1) 0 differs, few k)
]

shown_stored : (newest oldest counts marks : List ℕ) (rows : List (List ℕ)) (word value count : ℕ) (row : List ℕ) → word < 8 → length newest ≡ 8 → length counts ≡ 8 → count ≡ get_or counts word 0 → count < length rows → row ≡ get_or rows count row → length row ≡ 8
    → ((k : ℕ) → k < 8 → get_or newest k 0 ≡ newest_value (held_word oldest counts marks rows k))
    → (k : ℕ) → k < 8 → get_or (set newest word value) k 0 ≡ newest_value (held_word oldest (set counts word (count + 1)) marks (set rows count (set row word value)) k)
shown_stored newest oldest counts marks rows word value count row inside eight long is there at wide shown k less =
    let line = held_line oldest counts marks rows in
    let made = store_word oldest counts marks rows word value count row inside long is there at wide k less in
    let at_word : word < length newest = omega (arith, inside, eight) in
    elim (cases_eq k word) [
      | inl same ↦
          ap (λ i. get_or (set newest word value) i 0) same ∙ get_or-set_same newest word value 0 at_word
          ∙ sym (newest_stored value (word_of line word))
          ∙ ap newest_value (sym (word_of-stored_same word value line))
          ∙ ap (λ i. newest_value (word_of (stored word value line) i)) (sym same)
          ∙ ap newest_value (sym made)
      | inr differs ↦
          get_or-set_other newest word k value 0 differs ∙ shown k less
          ∙ ap newest_value (sym (held_at oldest counts marks rows k less))
          ∙ ap newest_value (sym (word_of-stored_other word value line k differs))
          ∙ ap newest_value (sym made)
    ]

never : {X : Type 0} → true ≡ false → X
never is = absurd (cc)

pub holds_stored : (is_flushed is_behind : Bool) (newest oldest counts marks : List ℕ) (rows : List (List ℕ)) (word value count : ℕ) (row : List ℕ) → HoldsLine is_flushed is_behind newest oldest counts marks rows
    → word < 8 → count ≡ get_or counts word 0 → count < 15 → row ≡ get_or rows count row → length row ≡ 8
    → HoldsLine is_flushed true (set newest word value) oldest (set counts word (count + 1)) marks (set rows count (set row word value))
holds_stored is_flushed is_behind newest oldest counts marks rows word value count row holds inside is less at wide =
    let at_count : word < length counts = omega (arith, inside, holds.wide) in
    let there : count < length rows = omega (arith, less, holds.long) in
    record {
      wide = (length-set newest word value ∙ holds.wide.0, holds.wide.1, length-set counts word (count + 1) ∙ holds.wide.2, holds.wide.3);
      rows_wide = wide_set rows count word value row holds.rows_wide holds.long less wide;
      long = length-set rows count (set row word value) ∙ holds.long;
      few = few_counted counts word count at_count less holds.few;
      noted = λ k inside_line. IfSome_then (noted (get_or marks k 0)) (holds.noted k inside_line) (λ n within. let more = more_counted counts word count at_count is k in omega (arith, within, more));
      shown = shown_stored newest oldest counts marks rows word value count row inside holds.wide.0 holds.wide.2 is there at wide holds.shown;
      unmarked = holds.unmarked;
      level = λ _ never_behind. never never_behind;
    }

-- ---- a flush

flush_word : (oldest counts marks : List ℕ) (rows : List (List ℕ)) → length rows ≡ 15 → ((k : ℕ) → get_or counts k 0 ≤ 15)
    → (k : ℕ) → k < 8 → held_word oldest counts counts rows k ≡ word_of (flushed (held_line oldest counts marks rows)) k
unfolding flushed
flush_word oldest counts marks rows long few k less =
    let line = held_line oldest counts marks rows in
    let there : k < length line = omega (arith, less, length-held oldest counts marks rows) in
    held_by oldest counts counts rows k
    ∙ same_parts _ _ _ _ _ _ refl refl (noted_few (get_or counts k 0) (few k) ∙ ap Some (sym (length-later oldest counts marks rows k long (few k))) ∙ ap (λ (one : Word). Some (length one.later)) (held_by oldest counts marks rows k))
    ∙ ap flushed_word (sym (held_by oldest counts marks rows k))
    ∙ ap flushed_word (sym (held_at oldest counts marks rows k less))
    ∙ sym (get_or-map flushed_word line k (settled_word 0) (settled_word 0) there)

pub flush_held : (oldest counts marks : List ℕ) (rows : List (List ℕ)) → length rows ≡ 15 → ((k : ℕ) → get_or counts k 0 ≤ 15) → held_line oldest counts counts rows ≡ flushed (held_line oldest counts marks rows)
unfolding flushed
flush_held oldest counts marks rows long few =
    let line = held_line oldest counts marks rows in
    line_is oldest counts counts rows (flushed line) (length-map line flushed_word ∙ length-held oldest counts marks rows) (flush_word oldest counts marks rows long few)

-- a word's newest value is not a matter of its mark
newest_by : (oldest counts marks others : List ℕ) (rows : List (List ℕ)) (k : ℕ) → newest_value (held_word oldest counts marks rows k) ≡ newest_value (held_word oldest counts others rows k)
unfolding held_word
newest_by oldest counts marks others rows k = refl

pub holds_flushed : (is_flushed is_behind : Bool) (newest oldest counts marks : List ℕ) (rows : List (List ℕ)) → HoldsLine is_flushed is_behind newest oldest counts marks rows → HoldsLine true false newest oldest counts counts rows
holds_flushed is_flushed is_behind newest oldest counts marks rows holds = record {
  wide = (holds.wide.0, holds.wide.1, holds.wide.2, holds.wide.2);
  rows_wide = holds.rows_wide;
  long = holds.long;
  few = holds.few;
  noted = λ k _. counts_noted (get_or counts k 0) (holds.few k);
  shown = λ k less. holds.shown k less ∙ newest_by oldest counts marks counts rows k;
  unmarked = λ unflushed. never unflushed;
  level = λ _ _ k less. refl;
}

-- ---- a fence that finds each value noted

-- of a word of which a flush noted all values the newest is left, and nothing behind it
fence_all : (word : Word) (count : ℕ) → count ≡ length word.later → fenced_at word (Some count) ≡ word_by (newest_value word) [] None
fence_all word count all =
    let within : count < length (word.oldest ∷ word.later) = omega (arith, all) in
    same_parts _ _ _ _ _ _ (
    get_or_default (word.oldest ∷ word.later) count (newest_value word) word.oldest within
    ∙ last_of word.oldest word.later count all
    ∙ ap (λ (n : ℕ). get_or word.later (n - 1) word.oldest) all
    ) (drop_all count word.later (omega (arith, all))) refl

zeros_taken : (count : ℕ) (values : List ℕ) → count ≡ 0 → take count values ≡ []
zeros_taken count values none = ap (λ n. take n values) none

fence_word : (is_flushed is_behind : Bool) (newest oldest counts marks : List ℕ) (rows : List (List ℕ)) → HoldsLine is_flushed is_behind newest oldest counts marks rows → is_flushed ≡ true → is_behind ≡ false
    → (k : ℕ) → k < 8 → held_word newest (replicate 8 0) (replicate 8 16) rows k ≡ word_of (fenced (held_line oldest counts marks rows)) k
fence_word is_flushed is_behind newest oldest counts marks rows holds flushed_now level k less =
    let line = held_line oldest counts marks rows in
    let word = held_word oldest counts marks rows k in
    let count = get_or counts k 0 in
    let all : count ≡ length word.later = sym (length-later oldest counts marks rows k holds.long (holds.few k)) in
    let noted_all : word.flushed ≡ Some count = ap (λ (one : Word). one.flushed) (held_by oldest counts marks rows k) ∙ ap noted (holds.level flushed_now level k less) ∙ noted_few count (holds.few k) in
    held_by newest (replicate 8 0) (replicate 8 16) rows k
    ∙ same_parts _ _ _ _ _ _ (holds.shown k less) (zeros_taken _ (column rows k) (get_or-replicate 8 k 0 0 less)) (ap noted (get_or-replicate 8 k 16 0 less))
    ∙ sym (fence_all word count all)
    ∙ ap (fenced_at word) (sym noted_all)
    ∙ ap fenced_word (sym (held_at oldest counts marks rows k less))
    ∙ sym (word_of-fenced line k)

length-fenced : (line : Line) → length (fenced line) ≡ length line
unfolding fenced
length-fenced line = length-map line fenced_word

pub fence_held : (is_flushed is_behind : Bool) (newest oldest counts marks : List ℕ) (rows : List (List ℕ)) → HoldsLine is_flushed is_behind newest oldest counts marks rows → is_flushed ≡ true → is_behind ≡ false → held_line newest (replicate 8 0) (replicate 8 16) rows ≡ fenced (held_line oldest counts marks rows)
fence_held is_flushed is_behind newest oldest counts marks rows holds flushed_now level =
    let line = held_line oldest counts marks rows in
    line_is newest (replicate 8 0) (replicate 8 16) rows (fenced line) (length-fenced line ∙ length-held oldest counts marks rows) (fence_word is_flushed is_behind newest oldest counts marks rows holds flushed_now level)

-- ---- rows of words that have one value each

unmarked_noted : (mark count : ℕ) → mark ≡ 16 → IfSome (noted mark) (λ n. n ≤ count)
unmarked_noted mark count is = subst (λ m. IfSome (noted m) (λ n. n ≤ count)) (sym is) tt

zeros : (count k : ℕ) → get_or {A = ℕ} (replicate {A = ℕ} count 0) k 0 ≡ 0
zeros zero k = refl
zeros (suc count) zero = refl
zeros (suc count) (suc k) = zeros count k

-- a word of one value
one_value : (values : List ℕ) (rows : List (List ℕ)) (k : ℕ) → k < 8 → held_word values (replicate 8 0) (replicate 8 16) rows k ≡ settled_word (get_or values k 0)
one_value values rows k less =
    held_by values (replicate 8 0) (replicate 8 16) rows k
    ∙ same_parts _ _ _ _ _ _ refl (zeros_taken _ (column rows k) (get_or-replicate 8 k 0 0 less)) (ap noted (get_or-replicate 8 k 16 0 less))

newest_one : (value : ℕ) → value ≡ newest_value (settled_word value)
newest_one value = refl

pub holds_settled : (is_behind : Bool) (values : List ℕ) (rows : List (List ℕ)) → length values ≡ 8 → length rows ≡ 15 → ((k : ℕ) (none : List ℕ) → k < 15 → length (get_or rows k none) ≡ 8) → HoldsLine false is_behind values values (replicate 8 0) (replicate 8 16) rows
holds_settled is_behind values rows wide long rows_wide = record {
  wide = (wide, wide, length-replicate {A = ℕ} 8 0, length-replicate {A = ℕ} 8 16);
  rows_wide = rows_wide;
  long = long;
  few = λ k. omega (arith, zeros 8 k);
  noted = λ k less. unmarked_noted (get_or (replicate 8 16) k 0) (get_or (replicate 8 0) k 0) (get_or-replicate 8 k 16 0 less);
  shown = λ k less. newest_one (get_or values k 0) ∙ ap newest_value (sym (one_value values rows k less));
  unmarked = λ _ k less. get_or-replicate 8 k 16 0 less;
  level = λ flushed. never (sym flushed);
}

pub settled_held : (values : List ℕ) (rows : List (List ℕ)) → length values ≡ 8 → held_line values (replicate 8 0) (replicate 8 16) rows ≡ settled values
settled_held values rows wide =
    line_is values (replicate 8 0) (replicate 8 16) rows (settled values) (length-map values settled_word ∙ wide) (λ k less.
    let there : k < length values = omega (arith, less, wide) in
    one_value values rows k less ∙ sym (get_or-map settled_word values k 0 (settled_word 0) there))

-- the rows of a line that was never stored in
pub wide_blank : (k : ℕ) (none : List ℕ) → k < 15 → length (get_or (replicate 15 (replicate 8 0)) k none) ≡ 8
wide_blank k none less = ap length (get_or-replicate 15 k (replicate 8 0) none less) ∙ length-replicate {A = ℕ} 8 0

-- ---- one word put in its place

put_word : (oldest counts marks : List ℕ) (rows now : List (List ℕ)) (at : ℕ) (word : Word) → at < 8 → length oldest ≡ 8 → length counts ≡ 8 → length marks ≡ 8 → word.flushed ≡ None
    → take (length word.later) (column now at) ≡ word.later → ((other : ℕ) → other ≢ at → column now other ≡ column rows other)
    → (k : ℕ) → k < 8 → held_word (set oldest at word.oldest) (set counts at (length word.later)) (set marks at 16) now k ≡ word_of (slice_set (held_line oldest counts marks rows) at word) k
put_word oldest counts marks rows now at word inside wide wide_counts wide_marks unflushed put others k less =
    let line = held_line oldest counts marks rows in
    let at_line : at < length line = omega (arith, inside, length-held oldest counts marks rows) in
    let at_oldest : at < length oldest = omega (arith, inside, wide) in
    let at_counts : at < length counts = omega (arith, inside, wide_counts) in
    let at_marks : at < length marks = omega (arith, inside, wide_marks) in
    let olds = set oldest at word.oldest in
    let these = set counts at (length word.later) in
    let notes = set marks at 16 in
    elim (cases_eq k at) [
      | inl same ↦
          ap (held_word olds these notes now) same
          ∙ held_by olds these notes now at
          ∙ same_parts _ _ _ _ _ _ (get_or-set_same oldest at word.oldest 0 at_oldest)
          (ap (λ n. take n (column now at)) (get_or-set_same counts at (length word.later) 0 at_counts) ∙ put)
          (ap noted (get_or-set_same marks at 16 0 at_marks) ∙ sym unflushed)
          ∙ sym (get_or-set_same line at word (settled_word 0) at_line)
          ∙ ap (word_of (slice_set line at word)) (sym same)
      | inr differs ↦
          held_by olds these notes now k
          ∙ same_parts _ _ _ _ _ _ (get_or-set_other oldest at k word.oldest 0 differs)
          (ap (λ n. take n (column now k)) (get_or-set_other counts at k (length word.later) 0 differs) ∙ ap (take (get_or counts k 0)) (others k differs))
          (ap noted (get_or-set_other marks at k 16 0 differs))
          ∙ sym (held_by oldest counts marks rows k)
          ∙ sym (held_at oldest counts marks rows k less)
          ∙ sym (get_or-set_other line at k word (settled_word 0) differs)
    ]

put_held : (oldest counts marks : List ℕ) (rows now : List (List ℕ)) (at : ℕ) (word : Word) → at < 8 → length oldest ≡ 8 → length counts ≡ 8 → length marks ≡ 8 → word.flushed ≡ None
    → take (length word.later) (column now at) ≡ word.later → ((other : ℕ) → other ≢ at → column now other ≡ column rows other)
    → held_line (set oldest at word.oldest) (set counts at (length word.later)) (set marks at 16) now ≡ slice_set (held_line oldest counts marks rows) at word
put_held oldest counts marks rows now at word inside wide wide_counts wide_marks unflushed put others =
    let line = held_line oldest counts marks rows in
    line_is (set oldest at word.oldest) (set counts at (length word.later)) (set marks at 16) now (slice_set line at word) (length-set line at word ∙ length-held oldest counts marks rows)
    (put_word oldest counts marks rows now at word inside wide wide_counts wide_marks unflushed put others)

-- the same of a number that is its count
pub put_held_as : (oldest counts marks : List ℕ) (rows now : List (List ℕ)) (at : ℕ) (word : Word) (count : ℕ) → at < 8 → length oldest ≡ 8 → length counts ≡ 8 → length marks ≡ 8 → word.flushed ≡ None
    → take (length word.later) (column now at) ≡ word.later → ((other : ℕ) → other ≢ at → column now other ≡ column rows other) → count ≡ length word.later
    → held_line (set oldest at word.oldest) (set counts at count) (set marks at 16) now ≡ slice_set (held_line oldest counts marks rows) at word
put_held_as oldest counts marks rows now at word count inside wide wide_counts wide_marks unflushed put others is_count =
    rw is_count (put_held oldest counts marks rows now at word inside wide wide_counts wide_marks unflushed put others)

put_few : (counts : List ℕ) (at count : ℕ) → at < length counts → count ≤ 15 → ((k : ℕ) → get_or counts k 0 ≤ 15) → (k : ℕ) → get_or (set counts at count) k 0 ≤ 15
put_few counts at count inside less few k = elim (cases_eq k at) [
  | inl same ↦ omega (arith, less, ap (λ i. get_or (set counts at count) i 0) same, get_or-set_same counts at count 0 inside)
  | inr differs ↦ omega (arith, get_or-set_other counts at k count 0 differs, few k)
]

put_noted : (counts marks : List ℕ) (at count k : ℕ) → at < length marks → IfSome (noted (get_or marks k 0)) (λ n. n ≤ get_or counts k 0) → IfSome (noted (get_or (set marks at 16) k 0)) (λ n. n ≤ get_or (set counts at count) k 0)
put_noted counts marks at count k inside noted_k = elim (cases_eq k at) [
  | inl same ↦ unmarked_noted (get_or (set marks at 16) k 0) (get_or (set counts at count) k 0) (ap (λ i. get_or (set marks at 16) i 0) same ∙ get_or-set_same marks at 16 0 inside)
  | inr differs ↦
      subst (λ m. IfSome (noted m) (λ n. n ≤ get_or (set counts at count) k 0)) (sym (get_or-set_other marks at k 16 0 differs))
      (subst (λ c. IfSome (noted (get_or marks k 0)) (λ n. n ≤ c)) (sym (get_or-set_other counts at k count 0 differs)) noted_k)
]

put_shown : (newest oldest counts marks : List ℕ) (rows now : List (List ℕ)) (at : ℕ) (word : Word) → at < 8 → length newest ≡ 8 → length oldest ≡ 8 → length counts ≡ 8 → length marks ≡ 8 → word.flushed ≡ None
    → take (length word.later) (column now at) ≡ word.later → ((other : ℕ) → other ≢ at → column now other ≡ column rows other)
    → ((k : ℕ) → k < 8 → get_or newest k 0 ≡ newest_value (held_word oldest counts marks rows k))
    → (k : ℕ) → k < 8 → get_or (set newest at (newest_value word)) k 0 ≡ newest_value (held_word (set oldest at word.oldest) (set counts at (length word.later)) (set marks at 16) now k)
put_shown newest oldest counts marks rows now at word inside wide_newest wide wide_counts wide_marks unflushed put others shown k less =
    let line = held_line oldest counts marks rows in
    let made = put_word oldest counts marks rows now at word inside wide wide_counts wide_marks unflushed put others k less in
    let at_line : at < length line = omega (arith, inside, length-held oldest counts marks rows) in
    let at_newest : at < length newest = omega (arith, inside, wide_newest) in
    elim (cases_eq k at) [
      | inl same ↦
          ap (λ i. get_or (set newest at (newest_value word)) i 0) same ∙ get_or-set_same newest at (newest_value word) 0 at_newest
          ∙ ap newest_value (sym (get_or-set_same line at word (settled_word 0) at_line))
          ∙ ap (λ i. newest_value (word_of (slice_set line at word) i)) (sym same)
          ∙ ap newest_value (sym made)
      | inr differs ↦
          get_or-set_other newest at k (newest_value word) 0 differs ∙ shown k less
          ∙ ap newest_value (sym (held_at oldest counts marks rows k less))
          ∙ ap newest_value (sym (get_or-set_other line at k word (settled_word 0) differs))
          ∙ ap newest_value (sym made)
    ]

holds_put : (is_flushed is_behind : Bool) (newest oldest counts marks : List ℕ) (rows now : List (List ℕ)) (at : ℕ) (word : Word) → HoldsLine is_flushed is_behind newest oldest counts marks rows
    → at < 8 → length word.later ≤ 15 → word.flushed ≡ None → length now ≡ 15 → ((k : ℕ) (none : List ℕ) → k < 15 → length (get_or now k none) ≡ 8)
    → take (length word.later) (column now at) ≡ word.later → ((other : ℕ) → other ≢ at → column now other ≡ column rows other)
    → HoldsLine true true (set newest at (newest_value word)) (set oldest at word.oldest) (set counts at (length word.later)) (set marks at 16) now
holds_put is_flushed is_behind newest oldest counts marks rows now at word holds inside short unflushed long rows_wide put others =
    let at_counts : at < length counts = omega (arith, inside, holds.wide) in
    let at_marks : at < length marks = omega (arith, inside, holds.wide) in
    record {
      wide = (length-set newest at (newest_value word) ∙ holds.wide.0, length-set oldest at word.oldest ∙ holds.wide.1, length-set counts at (length word.later) ∙ holds.wide.2, length-set marks at 16 ∙ holds.wide.3);
      rows_wide = rows_wide;
      long = long;
      few = put_few counts at (length word.later) at_counts short holds.few;
      noted = λ k less. put_noted counts marks at (length word.later) k at_marks (holds.noted k less);
      shown = put_shown newest oldest counts marks rows now at word inside holds.wide.0 holds.wide.1 holds.wide.2 holds.wide.3 unflushed put others holds.shown;
      unmarked = λ unflushed_line. never unflushed_line;
      level = λ _ never_behind. never never_behind;
    }

-- the same of numbers that are its count and its newest value
pub holds_put_as : (is_flushed is_behind : Bool) (newest oldest counts marks : List ℕ) (rows now : List (List ℕ)) (at : ℕ) (word : Word) (count latest : ℕ) → HoldsLine is_flushed is_behind newest oldest counts marks rows
    → at < 8 → length word.later ≤ 15 → word.flushed ≡ None → length now ≡ 15 → ((k : ℕ) (none : List ℕ) → k < 15 → length (get_or now k none) ≡ 8)
    → take (length word.later) (column now at) ≡ word.later → ((other : ℕ) → other ≢ at → column now other ≡ column rows other) → count ≡ length word.later → latest ≡ newest_value word
    → HoldsLine true true (set newest at latest) (set oldest at word.oldest) (set counts at count) (set marks at 16) now
holds_put_as is_flushed is_behind newest oldest counts marks rows now at word count latest holds inside short unflushed long rows_wide put others is_count is_latest =
    rw (is_count, is_latest) (holds_put is_flushed is_behind newest oldest counts marks rows now at word holds inside short unflushed long rows_wide put others)

-- ---- a line of which no word is marked

mark_of : (oldest counts marks : List ℕ) (rows : List (List ℕ)) (k : ℕ) → (held_word oldest counts marks rows k).flushed ≡ None → get_or marks k 0 ≡ 16
unfolding held_word
mark_of oldest counts marks rows k none = unnoted (get_or marks k 0) none

pub holds_unmarked : (is_flushed is_behind : Bool) (newest oldest counts marks : List ℕ) (rows : List (List ℕ)) → HoldsLine is_flushed is_behind newest oldest counts marks rows
    → ((k : ℕ) → (word_of (held_line oldest counts marks rows) k).flushed ≡ None) → HoldsLine false is_behind newest oldest counts marks rows
holds_unmarked is_flushed is_behind newest oldest counts marks rows holds none = record {
  wide = holds.wide;
  rows_wide = holds.rows_wide;
  long = holds.long;
  few = holds.few;
  noted = holds.noted;
  shown = holds.shown;
  unmarked = λ _ k less. mark_of oldest counts marks rows k (ap (λ (one : Word). one.flushed) (sym (held_at oldest counts marks rows k less)) ∙ none k);
  level = λ flushed. never (sym flushed);
}

-- a fence leaves none marked
fenced_unnoted : (word : Word) (note : Option ℕ) → word.flushed ≡ note → (fenced_at word note).flushed ≡ None
fenced_unnoted word None is = is
fenced_unnoted word (Some count) is = refl

pub word_unnoted : (word : Word) → (fenced_word word).flushed ≡ None
word_unnoted word = fenced_unnoted word word.flushed refl

pub none_behind_fence : (line : Line) (k : ℕ) → (word_of (map fenced_word line) k).flushed ≡ None
none_behind_fence [] k = refl
none_behind_fence (first ∷ line) zero = word_unnoted first
none_behind_fence (first ∷ line) (suc k) = none_behind_fence line k

-- nor does a power failure
pub none_picked : (draws : Draws) (at : ℕ) (line : Line) (k : ℕ) → (word_of (picked_from draws at line).0 k).flushed ≡ None
unfolding picked_from picked_word
none_picked draws at [] k = refl
none_picked draws at (first ∷ line) zero = refl
none_picked draws at (first ∷ line) (suc k) = none_picked (picked_word draws at first).1 (at + 1) line k

-- and a fence leaves a line as it is of which no word is marked
fenced_same : (word : Word) (note : Option ℕ) → note ≡ None → fenced_at word note ≡ word
fenced_same word None is = refl
fenced_same word (Some count) is = absurd (cc)

none_to_fence : (line : Line) → ((k : ℕ) → (word_of line k).flushed ≡ None) → fenced line ≡ line
unfolding fenced
none_to_fence [] none = refl
none_to_fence (word ∷ line) none =
    ap (λ first. first ∷ map fenced_word line) (fenced_same word word.flushed (none 0)) ∙ ap (λ rest. word ∷ rest) (none_to_fence line (λ k. none (suc k)))

no_word : (line : Line) (k : ℕ) → length line ≤ k → (word_of line k).flushed ≡ None
no_word line k past = ap (λ (one : Word). one.flushed) (get_or_past line k (settled_word 0) past)

none_held : (is_flushed is_behind : Bool) (newest oldest counts marks : List ℕ) (rows : List (List ℕ)) → HoldsLine is_flushed is_behind newest oldest counts marks rows → is_flushed ≡ false → (k : ℕ) → (word_of (held_line oldest counts marks rows) k).flushed ≡ None
none_held is_flushed is_behind newest oldest counts marks rows holds unflushed k = elim (cases_lt k 8) [
  | inl less ↦
      ap (λ (one : Word). one.flushed) (held_at oldest counts marks rows k less ∙ held_by oldest counts marks rows k) ∙ ap noted (holds.unmarked unflushed k less)
  | inr past ↦ no_word (held_line oldest counts marks rows) k (omega (arith, past, length-held oldest counts marks rows))
]

pub unmarked_fence : (is_flushed is_behind : Bool) (newest oldest counts marks : List ℕ) (rows : List (List ℕ)) → HoldsLine is_flushed is_behind newest oldest counts marks rows → is_flushed ≡ false → held_line oldest counts marks rows ≡ fenced (held_line oldest counts marks rows)
unmarked_fence is_flushed is_behind newest oldest counts marks rows holds unflushed = sym (none_to_fence (held_line oldest counts marks rows) (none_held is_flushed is_behind newest oldest counts marks rows holds unflushed))

-- after the last word of a loop each is changed
pub all_words : {X : Type 0} (f : X → X) (words now : List X) (at : ℕ) → now ≡ map f (take at words) ++ drop at words → length words ≤ at → now ≡ map f words
all_words f words now at so_far over = so_far ∙ rw (take_all at words over, drop_all at words over, append-nil)

-- ---- the loops over the words

pub length-so_far : {X : Type 0} (f : X → X) (words now : List X) (at : ℕ) → now ≡ map f (take at words) ++ drop at words → length now ≡ length words
length-so_far f words now at so_far =
    ap length so_far
    ∙ omega (arith, length-append (map f (take at words)) (drop at words), length-map (take at words) f, length-take at words, length-drop at words)

pub picked_unnoted : (draws : Draws) (at : ℕ) (word : Word) → (picked_word draws at word).0.flushed ≡ None
unfolding picked_word
picked_unnoted draws at word = refl

-- ---- the rows that a word's values are put into

pub rows_put : (rows : List (List ℕ)) (values : List ℕ) (row at : ℕ) (these : List ℕ) → row < length values → row < length rows → at < length these → take row (column rows at) ≡ take row values
    → take (row + 1) (column (set rows row (set these at (get_or values row 0))) at) ≡ take (row + 1) values
rows_put rows values row at these inside there wide so_far =
    column_more rows row at (get_or values row 0) these there wide
    ∙ ap (λ (front : List ℕ). front ++ get_or values row 0 ∷ []) so_far
    ∙ sym (take_more values row 0 inside)

-- Opening words: each word that is put behind the others is that of its place.
use Rattle.std.proofs.Common.{◌≡◌, ℕ, zero, suc, ◌+◌, ◌*◌, ◌<◌, List, [], ◌∷◌, ◌++◌, length, get_or, inl, inr, refl, sym, ap, subst, ◌∙◌, arith}
use Rattle.std.proofs.lemmas.Bool.{cases_eq}
use Rattle.std.proofs.lemmas.List.{get_or_append_left, get_or_push, length_push}
use Rattle.nv_core.specs.state.Words.{Sizes, Word, SIZE, LENGTH, STORE, ENTRY, HINT, IsWord, place, first_page_word}
use Rattle.nv_core.specs.steps.Opening.{opening_word}
use Rattle.nv_table.specs.state.Layout.{word_total, word_of_place, of_page, single}
use Rattle.nv_table.specs.ends.OpeningWords.{worded, AreOpeningWords}
use Rattle.nv_table.proofs.state.LayoutLaws.{at_single, place_there, at_page}

-- so many words are there, and each is that of its place
pub record AreFirst (sizes : Sizes) (next : ℕ) (lengths : List ℕ) (many : ℕ) (words : List ℕ) : Type 0 where
  pub count : length words ≡ many
  pub each : (place : ℕ) → place < many → get_or words place 0 ≡ opening_word (worded sizes next lengths) (word_of_place sizes place)

module _ (sizes : Sizes) (next : ℕ) (lengths : List ℕ) where
  first_more : (many value : ℕ) (words : List ℕ) → AreFirst sizes next lengths many words → value ≡ opening_word (worded sizes next lengths) (word_of_place sizes many)
      → AreFirst sizes next lengths (many + 1) (words ++ value ∷ [])
  first_more many value words first is = record {
    count = omega (arith, length_push words value, first.count);
    each = λ p less. elim (cases_eq p many) [
      | inl e ↦ subst (λ n. get_or (words ++ value ∷ []) n 0 ≡ opening_word (worded sizes next lengths) (word_of_place sizes n)) (sym e) (get_or_push words value 0 many first.count ∙ is)
      | inr ne ↦ get_or_append_left words (value ∷ []) 0 p (omega (arith, first.count)) ∙ first.each p (omega arith)
    ];
  }

  -- the next word is that of a word of the mount
  word_more : (word : Word) (many value : ℕ) (words : List ℕ) → AreFirst sizes next lengths many words → IsWord sizes word → many ≡ place sizes word → value ≡ opening_word (worded sizes next lengths) word
      → AreFirst sizes next lengths (many + 1) (words ++ value ∷ [])
  word_more word many value words first is at e =
      first_more many value words first (e ∙ ap (opening_word (worded sizes next lengths)) (sym (ap (word_of_place sizes) at ∙ place_there sizes word is)))

  pub seven_first : (words : List ℕ) → words ≡ 0 ∷ 0 ∷ next ∷ next ∷ 0 ∷ 0 ∷ 0 ∷ [] → AreFirst sizes next lengths 7 words
  seven_first words is = subst (AreFirst sizes next lengths 7) (sym is) record {
    count = refl;
    each = λ p less. go p less ∙ ap (opening_word (worded sizes next lengths)) (sym (at_single sizes p less));
  }
    where
      go : (p : ℕ) → p < 7 → get_or (0 ∷ 0 ∷ next ∷ next ∷ 0 ∷ 0 ∷ 0 ∷ []) p 0 ≡ opening_word (worded sizes next lengths) (single p)
      go zero less = refl
      go (suc zero) less = refl
      go (suc (suc zero)) less = refl
      go (suc (suc (suc zero))) less = refl
      go (suc (suc (suc (suc zero)))) less = refl
      go (suc (suc (suc (suc (suc zero))))) less = refl
      go (suc (suc (suc (suc (suc (suc zero)))))) less = refl
      go (suc (suc (suc (suc (suc (suc (suc more))))))) less = absurd (omega arith)

  -- a file's three words
  pub file_first : (file value : ℕ) (words one two three : List ℕ) → file < sizes.files → AreFirst sizes next lengths (7 + 3 * file) words → value ≡ get_or lengths file 0
      → one ≡ words ++ 0 ∷ [] → two ≡ one ++ value ∷ [] → three ≡ two ++ 0 ∷ [] → AreFirst sizes next lengths (7 + 3 * (file + 1)) three
  file_first file value words one two three less first is a b c =
      let first_one = subst (AreFirst sizes next lengths (7 + 3 * file + 1)) (sym a) (word_more (SIZE file) (7 + 3 * file) 0 words first less refl refl) in
      let first_two = subst (AreFirst sizes next lengths (7 + 3 * file + 1 + 1)) (sym b) (word_more (LENGTH file) (7 + 3 * file + 1) value one first_one less (omega arith) is) in
      let first_three = subst (AreFirst sizes next lengths (7 + 3 * file + 1 + 1 + 1)) (sym c) (word_more (STORE file) (7 + 3 * file + 1 + 1) 0 two first_two less (omega arith) refl) in
      subst (λ n. AreFirst sizes next lengths n three) (omega arith) first_three

  pub entry_first : (slot : ℕ) (words new : List ℕ) → slot < sizes.entries → AreFirst sizes next lengths (7 + 3 * sizes.files + slot) words → new ≡ words ++ 0 ∷ []
      → AreFirst sizes next lengths (7 + 3 * sizes.files + (slot + 1)) new
  entry_first slot words new less first is =
      let more = subst (AreFirst sizes next lengths (7 + 3 * sizes.files + slot + 1)) (sym is) (word_more (ENTRY slot) (7 + 3 * sizes.files + slot) 0 words first less refl refl) in
      subst (λ n. AreFirst sizes next lengths n new) (omega arith) more

  pub hint_first : (buffer : ℕ) (words new : List ℕ) → buffer < sizes.buffers → AreFirst sizes next lengths (7 + 3 * sizes.files + sizes.entries + buffer) words → new ≡ words ++ buffer ∷ []
      → AreFirst sizes next lengths (7 + 3 * sizes.files + sizes.entries + (buffer + 1)) new
  hint_first buffer words new less first is =
      let more = subst (AreFirst sizes next lengths (7 + 3 * sizes.files + sizes.entries + buffer + 1)) (sym is) (word_more (HINT buffer) (7 + 3 * sizes.files + sizes.entries + buffer) buffer words first less refl refl) in
      subst (λ n. AreFirst sizes next lengths n new) (omega arith) more

  -- a page's words are all 0
  page_word : (page which : ℕ) → 0 ≡ opening_word (worded sizes next lengths) (of_page page which)
  page_word page zero = refl
  page_word page (suc zero) = refl
  page_word page (suc (suc which)) = refl

  pub page_first : (number : ℕ) (words new : List ℕ) → AreFirst sizes next lengths (first_page_word sizes + number) words → new ≡ words ++ 0 ∷ []
      → AreFirst sizes next lengths (first_page_word sizes + (number + 1)) new
  page_first number words new first is =
      let more = subst (AreFirst sizes next lengths (first_page_word sizes + number + 1)) (sym is)
      (first_more (first_page_word sizes + number) 0 words first
      (page_word _ _ ∙ ap (opening_word (worded sizes next lengths)) (sym (at_page sizes (first_page_word sizes + number) (omega arith))))) in
      subst (λ n. AreFirst sizes next lengths n new) (omega arith) more

  -- and all of them
  pub all_first : (many : ℕ) (words : List ℕ) → many ≡ word_total sizes → AreFirst sizes next lengths many words → AreOpeningWords sizes next lengths words
  all_first many words is first = record {
    count = first.count ∙ is;
    each = λ p less. first.each p (omega arith);
  }

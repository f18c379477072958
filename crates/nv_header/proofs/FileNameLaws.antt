-- The names of a region's files, and one more.
use Rattle.std.proofs.Common.{◌≡◌, ℕ, ◌<◌, IsTrue, List, [], ◌∷◌, ◌++◌, length, slice_index_or, inl, inr, sym, ◌∙◌, subst, arith, length-append}
use Rattle.std.proofs.lemmas.Bool.{cases_lt}
use Rattle.std.proofs.lemmas.List.{get_or_append_left, get_or_push}
use Rattle.nv_plain.specs.Layouts.{Layout}
use Rattle.nv_plain.specs.Names.{is_name}
use Rattle.nv_header.specs.FileNames.{AreFileNames, IsNewName}

pub no_file_names : (layout : Layout) → AreFileNames layout []
no_file_names layout = record {
  few = omega arith;
  allowed = λ i inside. absurd (omega arith);
  distinct = λ i j before inside. absurd (omega arith);
}

-- a name of those before
earlier_name : (names : List (List ℕ)) (name : List ℕ) (i : ℕ) → i < length names → slice_index_or (names ++ name ∷ []) i [] ≡ slice_index_or names i []
earlier_name names name i inside = get_or_append_left names (name ∷ []) [] i inside

-- and the one behind them
last_name : (names : List (List ℕ)) (name : List ℕ) (i : ℕ) → i ≡ length names → slice_index_or (names ++ name ∷ []) i [] ≡ name
last_name names name i here = get_or_push names name [] i (sym here)

pub file_names_more : (layout : Layout) (names : List (List ℕ)) (name : List ℕ) → length names < layout.file_limit → IsNewName layout names name → AreFileNames layout names → AreFileNames layout (names ++ name ∷ [])
file_names_more layout names name room new are =
    let long = length-append names (name ∷ []) in
    let Allowed : List ℕ → Type 0 = λ one. IsTrue (is_name layout.name_limit one) in
    record {
      few = omega arith;
      allowed = λ i inside. elim (cases_lt i (length names)) [
        | inl before ↦ subst Allowed (sym (earlier_name names name i before)) (are.allowed i before)
        | inr past ↦ subst Allowed (sym (last_name names name i (omega arith))) new.allowed
      ];
      distinct = λ i j before inside same. elim (cases_lt j (length names)) [
        | inl earlier ↦ are.distinct i j before earlier (sym (earlier_name names name i (omega arith)) ∙ same ∙ earlier_name names name j earlier)
        | inr past ↦ new.new i (omega arith) (sym (earlier_name names name i (omega arith)) ∙ same ∙ last_name names name j (omega arith))
      ];
    }

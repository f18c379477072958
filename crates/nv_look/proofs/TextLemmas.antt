-- The lines of a report, one after another.
use Rattle.std.proofs.Common.{◌≡◌, ℕ, ◌+◌, ◌<◌, List, [], ◌∷◌, ◌++◌, length, drop, get_or, suc, refl, sym, ◌∙◌, ap, add-one, append_assoc}
use Rattle.std.proofs.Math.Seq.{drop-cons}
use Rattle.nv_look.specs.Texts.{files_text}

-- from an index on there is the element at it, and what follows
pub drop-at : {X : Type 0} (xs : List X) (i : ℕ) (x : X) → i < length xs → x ≡ get_or xs i x → drop i xs ≡ x ∷ drop (i + 1) xs
drop-at xs i x inside at = drop-cons xs i x inside ∙ (ap (λ y. y ∷ drop (suc i) xs) (sym at) ∙ ap (λ j. x ∷ drop j xs) (sym (add-one i)))

pub drop-or : {X : Type 0} (xs : List X) (i : ℕ) (d : X) → i < length xs → drop i xs ≡ get_or xs i d ∷ drop (i + 1) xs
drop-or xs i d inside = drop-cons xs i d inside ∙ ap (λ j. get_or xs i d ∷ drop j xs) (sym (add-one i))

-- a line is written: it goes from what is to come to what is there
pub goes_on : (text line rest all new : List ℕ) → new ≡ text ++ line → text ++ (line ++ rest) ≡ all → new ++ rest ≡ all
goes_on text line rest all new e h = ap (λ t. t ++ rest) e ∙ (append_assoc text line rest ∙ h)

-- no files have no lines
pub files_none : (names : List (List ℕ)) → files_text names [] ≡ []
files_none [] = refl
files_none (name ∷ names) = refl

-- five pieces, written one after another
pub five_pieces : (a b c d e one two three four five : List ℕ) → one ≡ a → two ≡ one ++ b → three ≡ two ++ c → four ≡ three ++ d → five ≡ four ++ e → five ≡ a ++ (b ++ (c ++ (d ++ e)))
five_pieces a b c d e one two three four five is_a is_b is_c is_d is_e =
    is_e ∙ ap (λ t. t ++ e) is_d ∙ append_assoc three d e ∙ ap (λ t. t ++ (d ++ e)) is_c ∙ append_assoc two c (d ++ e)
    ∙ ap (λ t. t ++ (c ++ (d ++ e))) is_b ∙ append_assoc one b (c ++ (d ++ e)) ∙ ap (λ t. t ++ (b ++ (c ++ (d ++ e)))) is_a

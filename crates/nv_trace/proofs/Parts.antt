-- The parts of an input, as its bytes come.
use Rattle.std.proofs.Common.{◌≡◌, ◌≢◌, ℕ, suc, ◌+◌, ◌<◌, Bool, true, false, eqb, cond, List, [], ◌∷◌, ◌++◌, length, get_or, take, drop, refl, sym, ap, ◌∙◌, arith}
use Rattle.std.proofs.lemmas.Bool.{ne_eqb}
use Rattle.std.proofs.Math.Seq.{take-add}
use Rattle.std.proofs.lemmas.List.{append_assoc, drop_more, take-append-drop, take_more}
use Rattle.nv_trace.specs.Lines.{onto_first, parts_between}
use Rattle.nv_trace.specs.Pending.{onto_line, counted_lines}

pub record HasFirst (parts : List (List ℕ)) : Type 0 where
  pub first : List ℕ
  pub rest : List (List ℕ)
  pub whole : parts ≡ first ∷ rest

onto_first_some : (byte : ℕ) (parts : List (List ℕ)) → HasFirst (onto_first byte parts)
onto_first_some byte [] = record { first = byte ∷ []; rest = []; whole = refl }
onto_first_some byte (first ∷ rest) = record { first = byte ∷ first; rest = rest; whole = refl }

either_some : (test : Bool) (xs ys : List (List ℕ)) → HasFirst xs → HasFirst ys → HasFirst (cond test xs ys)
either_some true xs ys p q = p
either_some false xs ys p q = q

pub parts_some : (separator : ℕ) (bytes : List ℕ) → HasFirst (parts_between separator bytes)
unfolding parts_between
parts_some separator [] = record { first = []; rest = []; whole = refl }
parts_some separator (byte ∷ bytes) =
    let parts = parts_between separator bytes in
    either_some (eqb byte separator) _ _ (record { first = []; rest = parts; whole = refl }) (onto_first_some byte parts)

pub onto_line_some : (line first : List ℕ) (rest : List (List ℕ)) → onto_line line (first ∷ rest) ≡ (line ++ first) ∷ rest
onto_line_some [] first rest = refl
onto_line_some (byte ∷ line) first rest = ap (onto_first byte) (onto_line_some line first rest)

pub onto_line-append : (line part : List ℕ) (parts : List (List ℕ)) → onto_line (line ++ part) parts ≡ onto_line line (onto_line part parts)
onto_line-append [] part parts = refl
onto_line-append (byte ∷ line) part parts = ap (onto_first byte) (onto_line-append line part parts)

-- bytes with no separator belong to the first part
pub parts-append : (separator : ℕ) (part rest : List ℕ) → ((k : ℕ) → k < length part → get_or part k 0 ≢ separator) → parts_between separator (part ++ rest) ≡ onto_line part (parts_between separator rest)
unfolding parts_between
parts-append separator [] rest none = refl
parts-append separator (byte ∷ part) rest none =
    ap (λ test. cond test ([] ∷ parts_between separator (part ++ rest)) (onto_first byte (parts_between separator (part ++ rest)))) (ne_eqb byte separator (none 0 (omega arith)))
    ∙ ap (onto_first byte) (parts-append separator part rest (λ k h. none (suc k) (omega arith)))

-- a line before others is ended
pub counted_more : (whole : Bool) (line first : List ℕ) (rest : List (List ℕ)) → counted_lines whole (line ∷ first ∷ rest) ≡ line ∷ counted_lines whole (first ∷ rest)
counted_more true [] first rest = refl
counted_more true (byte ∷ line) first rest = refl
counted_more false line first rest = refl

-- the bytes up to a line feed, and with it
pub feed_cut : (bytes : List ℕ) (used end : ℕ) → end < length (drop used bytes) → get_or (drop used bytes) end 0 ≡ 10
    → bytes ≡ (take used bytes ++ take end (drop used bytes)) ++ 10 ∷ drop (end + 1) (drop used bytes)
feed_cut bytes used end within feed =
    let rest = drop used bytes in
    let behind : drop end rest ≡ 10 ∷ drop (end + 1) rest = drop_more rest end 0 within ∙ ap (λ byte. byte ∷ drop (end + 1) rest) feed in
    sym (append_assoc (take used bytes) (take end rest) (10 ∷ drop (end + 1) rest)
    ∙ ap (λ all. take used bytes ++ (take end rest ++ all)) (sym behind)
    ∙ ap (λ all. take used bytes ++ all) (take-append-drop end rest)
    ∙ take-append-drop used bytes)

pub feed_taken : (bytes : List ℕ) (used end : ℕ) → end < length (drop used bytes) → get_or (drop used bytes) end 0 ≡ 10
    → take (used + (end + 1)) bytes ≡ (take used bytes ++ take end (drop used bytes)) ++ 10 ∷ []
feed_taken bytes used end within feed =
    let rest = drop used bytes in
    take-add used (end + 1) bytes
    ∙ ap (λ all. take used bytes ++ all) (take_more rest end 0 within ∙ ap (λ byte. take end rest ++ byte ∷ []) feed)
    ∙ sym (append_assoc (take used bytes) (take end rest) (10 ∷ []))

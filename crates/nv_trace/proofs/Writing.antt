-- Writing some bytes in several pieces.
use Rattle.std.proofs.Common.{◌≡◌, ℕ, List, [], ◌++◌, length, take, drop, Option, Some, None, IfSome, refl, sym, ap, ◌∙◌, subst}
use Rattle.std.proofs.lemmas.List.{append_assoc, append-nil, take-append-drop, take_at}
use Rattle.nv_trace.specs.Streams.{Appends}

-- a front of the bytes is written, and the rest is left
pub record IsPartWritten (old new : Option (List ℕ)) (bytes rest : List ℕ) : Type 0 where
  pub front : List ℕ
  pub split : front ++ rest ≡ bytes
  pub appended : Appends old new front

-- what is written in two pieces is both of them
pub Appends-append : (old middle new : Option (List ℕ)) (first second : List ℕ) → Appends old middle first → Appends middle new second → Appends old new (first ++ second)
Appends-append None middle new first second _ _ = tt
Appends-append (Some written) middle new first second one two =
    let P : Option (List ℕ) → Type 0 = λ m. Appends m new second in
    subst P one two ∙ ap Some (append_assoc written first second)

pub Appends-nothing : (old new : Option (List ℕ)) → IfSome old (λ written. new ≡ Some written) → Appends old new []
Appends-nothing None new _ = tt
Appends-nothing (Some written) new same = same ∙ ap Some (sym (append-nil written))

pub none_written : (old : Option (List ℕ)) (bytes : List ℕ) → IsPartWritten old old bytes bytes
none_written old bytes = record { front = []; split = refl; appended = Appends-nothing old old (stays old) } where
  stays : (known : Option (List ℕ)) → IfSome known (λ written. known ≡ Some written)
  stays None = tt
  stays (Some written) = refl

-- one more piece
pub more_written : (old middle new : Option (List ℕ)) (bytes rest : List ℕ) (count : ℕ) → IsPartWritten old middle bytes rest → Appends middle new (take count rest) → IsPartWritten old new bytes (drop count rest)
more_written old middle new bytes rest count part more = record {
  front = part.front ++ take count rest;
  split = append_assoc part.front (take count rest) (drop count rest) ∙ ap (λ tail. part.front ++ tail) (take-append-drop count rest) ∙ part.split;
  appended = Appends-append old middle new part.front (take count rest) part.appended more;
}

-- after a failure a front is written
pub front_written : (old middle new : Option (List ℕ)) (bytes rest : List ℕ) → IsPartWritten old middle bytes rest → IfSome middle (λ written. new ≡ Some written) → (count : ℕ) × Appends old new (take count bytes)
front_written old middle new bytes rest part same =
    let appended : Appends old new (part.front ++ []) = Appends-append old middle new part.front [] part.appended (Appends-nothing middle new same) in
    let front : part.front ++ [] ≡ take (length part.front) bytes =
    append-nil part.front ∙ sym (take_at part.front rest (length part.front) refl) ∙ ap (take (length part.front)) part.split in
    let P : List ℕ → Type 0 = λ xs. Appends old new xs in
    (length part.front, subst P front appended)

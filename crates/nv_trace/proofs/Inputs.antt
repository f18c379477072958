-- What a source gives at a read.
use Rattle.std.proofs.Common.{◌≡◌, ℕ, ◌<◌, List, [], ◌++◌, length, take, drop, Option, Some, None, IfSome, sym, ap, ◌∙◌}
use Rattle.std.proofs.lemmas.List.{length-take-le, take_at, take-append-drop}
use Rattle.nv_trace.specs.Streams.{Gives, HasRead}

taken : {rest : List ℕ} {count : ℕ} {buffer filled : List ℕ} → Gives rest count buffer filled → take count filled ++ drop count rest ≡ rest
taken {rest = rest} {count = count} {buffer = buffer} gives =
    ap (λ bytes. take count bytes ++ drop count rest) gives.bytes
    ∙ ap (λ bytes. bytes ++ drop count rest) (take_at (take count rest) (drop count buffer) count (length-take-le count rest gives.no_more))
    ∙ take-append-drop count rest

-- the bytes that came, and those that are left, are those that were
pub given : (told next : Option (List ℕ)) (count : ℕ) (buffer filled now before : List ℕ) → before ≡ [] → now ≡ take count filled → HasRead told next count buffer filled
    → IfSome told (λ input. (rest : List ℕ) × (next ≡ Some rest) × (before ++ input ≡ now ++ rest))
given None next count buffer filled now before none is read = tt
given (Some input) next count buffer filled now before none is read =
    (drop count input, read.rest, ap (λ bytes. bytes ++ input) none ∙ sym (taken read.bytes) ∙ ap (λ bytes. bytes ++ drop count input) (sym is))

-- a read of no byte is the end
pub ended : (told next : Option (List ℕ)) (count : ℕ) (buffer filled : List ℕ) → HasRead told next count buffer filled → 0 < length buffer → count ≡ 0 → IfSome told (λ _. next ≡ Some [])
ended None next count buffer filled read room none = tt
ended (Some input) next count buffer filled read room none = read.rest ∙ ap (λ n. Some (drop n input)) none ∙ ap Some (read.bytes.some room none)

-- The tokens of some fields, one after another.
use Rattle.std.proofs.Common.{◌≡◌, ◌<◌, ℕ, zero, suc, List, [], ◌∷◌, ◌++◌, length, get_or, Option, Some, None, refl, ap, ◌∙◌, arith}
use Rattle.std.specs.Option.{option_and_then, option_map}
use Rattle.nv_trace.specs.Tokens.{token_of, tokens_of}
use Rattle.nv_trace.specs.declared.token.LineToken.{LineToken}

-- one token before others
abbrev onto : Option LineToken → Option (List LineToken) → Option (List LineToken)
onto token tokens = option_and_then (λ token. option_map (λ tokens. token ∷ tokens) tokens) token

onto_more : (token : Option LineToken) (some all : Option (List LineToken)) (tokens more : List LineToken) → onto token some ≡ Some tokens → ((tokens : List LineToken) → some ≡ Some tokens → all ≡ Some (tokens ++ more)) → onto token all ≡ Some (tokens ++ more)
onto_more None some all tokens more is up = cc
onto_more (Some token) None all tokens more is up = cc
onto_more (Some token) (Some rest) all tokens more is up = ap (onto (Some token)) (up rest refl) ∙ ap (λ (tokens : List LineToken). Some (tokens ++ more)) (some_is (token ∷ rest) tokens is)
  where
    some_is : (xs ys : List LineToken) → Some xs ≡ Some ys → xs ≡ ys
    some_is xs ys same = cc

-- one more field
pub one_more : (fields : List (List ℕ)) (field : List ℕ) (tokens : List LineToken) (token : LineToken) → tokens_of fields ≡ Some tokens → token_of field ≡ Some token → tokens_of (fields ++ field ∷ []) ≡ Some (tokens ++ token ∷ [])
unfolding tokens_of
one_more [] field tokens token are is = ap (λ token. onto token (Some [])) is ∙ ap (λ (tokens : List LineToken). Some (tokens ++ token ∷ [])) (some_is [] tokens are)
  where
    some_is : (xs ys : List LineToken) → Some xs ≡ Some ys → xs ≡ ys
    some_is xs ys same = cc
one_more (first ∷ fields) field tokens token are is =
    onto_more (token_of first) (tokens_of fields) (tokens_of (fields ++ field ∷ [])) tokens (token ∷ []) are (λ tokens are. one_more fields field tokens token are is)

onto_none : (token : Option LineToken) → onto token None ≡ None
onto_none None = refl
onto_none (Some token) = refl

-- a field that is no token
pub none_at : (fields : List (List ℕ)) (i : ℕ) (d : List ℕ) → i < length fields → token_of (get_or fields i d) ≡ None → tokens_of fields ≡ None
unfolding tokens_of
none_at [] i d inside is = absurd (omega arith)
none_at (field ∷ fields) zero d inside is = ap (λ token. onto token (tokens_of fields)) is
none_at (field ∷ fields) (suc i) d inside is = ap (onto (token_of field)) (none_at fields i d (omega arith) is) ∙ onto_none (token_of field)

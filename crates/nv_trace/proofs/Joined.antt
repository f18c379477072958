-- Lives with others behind them, and the tokens of these.
use Rattle.std.proofs.Common.{◌≡◌, List, [], ◌∷◌, ◌++◌, refl, sym, ap, ◌∙◌}
use Rattle.std.specs.Prelude.{All}
use Rattle.std.proofs.lemmas.List.{append_assoc, append-nil}
use Rattle.std.proofs.lemmas.List.Elements.{All-nil, All-push, All-head, All-tail}
use Rattle.nv_trace.specs.Lives.{TracedLife, TracedLives, joined_lives, lives_behind, with_token}
use Rattle.nv_trace.specs.Shape.{IsLineTokenWithin, IsTokenWithin}
use Rattle.nv_trace.specs.declared.token.LineToken.{LineToken}
use Rattle.nv_trace.specs.declared.token.LineToken.TheVariants.{Inside, Crash}
use Rattle.nv_trace.specs.declared.token.Token.{Token}

-- one more token of the lives behind is one more of them all
one_more : (lives : TracedLives) (ended : List TracedLife) (tokens : List Token) (token : LineToken)
    → with_token (joined_lives lives ended tokens) token ≡ joined_lives lives (with_token (record { ended = ended; tokens = tokens }) token).ended (with_token (record { ended = ended; tokens = tokens }) token).tokens
one_more lives [] tokens (Inside token) = ap (λ (tokens : List Token). record lives { tokens = tokens }) (append_assoc lives.tokens tokens (token ∷ []))
one_more lives [] tokens (Crash pick) = refl
one_more lives (first ∷ later) tokens (Inside token) = refl
one_more lives (first ∷ later) tokens (Crash pick) =
    ap (λ (ended : List TracedLife). record { ended = ended; tokens = [] }) (append_assoc lives.ended (record { tokens = lives.tokens ++ first.tokens; pick = first.pick } ∷ later) (record { tokens = tokens; pick = pick } ∷ []))

more : (lives behind : TracedLives) (tokens : List LineToken)
    → lives_behind (joined_lives lives behind.ended behind.tokens) tokens ≡ joined_lives lives (lives_behind behind tokens).ended (lives_behind behind tokens).tokens
more lives behind [] = refl
more lives behind (token ∷ tokens) =
    ap (λ (lives : TracedLives). lives_behind lives tokens) (one_more lives behind.ended behind.tokens token) ∙ more lives (with_token behind token) tokens

-- tokens by themselves, joined to lives, are those behind these
pub joined_behind : (lives : TracedLives) (tokens : List LineToken)
    → joined_lives lives (lives_behind (record { ended = []; tokens = [] }) tokens).ended (lives_behind (record { ended = []; tokens = [] }) tokens).tokens ≡ lives_behind lives tokens
joined_behind lives tokens =
    sym (more lives (record { ended = []; tokens = [] }) tokens)
    ∙ ap (λ (front : List Token). lives_behind (record lives { tokens = front }) tokens) (append-nil lives.tokens)

abbrev pub AreLivesWithin : TracedLives → Type 0
AreLivesWithin lives = All (λ (life : TracedLife). All IsTokenWithin life.tokens) lives.ended × All IsTokenWithin lives.tokens

one_within : (lives : TracedLives) (token : LineToken) → IsLineTokenWithin token → AreLivesWithin lives → AreLivesWithin (with_token lives token)
one_within lives (Inside token) within are = (are.0, All-push IsTokenWithin lives.tokens token are.1 within)
one_within lives (Crash pick) within are =
    (All-push (λ (life : TracedLife). All IsTokenWithin life.tokens) lives.ended (record { tokens = lives.tokens; pick = pick }) are.0 are.1, All-nil IsTokenWithin)

pub lives_within : (lives : TracedLives) (tokens : List LineToken) → All IsLineTokenWithin tokens → AreLivesWithin lives → AreLivesWithin (lives_behind lives tokens)
lives_within lives [] within are = are
lives_within lives (token ∷ tokens) within are =
    lives_within (with_token lives token) tokens (All-tail IsLineTokenWithin token tokens within) (one_within lives token (All-head IsLineTokenWithin token tokens within) are)

-- The lives of a schedule: a crash ends one, and the next begins.
use Rattle.std.specs.Prelude.{ℕ, ◌-◌, nat_lt, if◌then◌else◌, List, [], ◌∷◌, ◌++◌, fold, slice_index_or, slice_set}
use Rattle.nv_pmem.specs.declared.picker.Pick.{Pick}
use Rattle.nv_trace.specs.declared.token.LineToken.{LineToken}
use Rattle.nv_trace.specs.declared.token.LineToken.TheVariants.{Inside, Crash}
use Rattle.nv_trace.specs.declared.token.Token.{Token}
use Rattle.nv_trace.specs.declared.trace_call.TracedCall.{TracedCall}

-- a life that a crash ends
pub record TracedLife : Type 0 where
  -- its tokens, in their order
  pub tokens : List Token
  -- what the power failure at its end leaves
  pub pick : Pick

pub record TracedLives : Type 0 where
  -- those that crashes end
  pub ended : List TracedLife
  -- the tokens of the last one, behind the last crash
  pub tokens : List Token

-- one token more: it is one of the last life, or ends it
abbrev pub with_token : TracedLives → LineToken → TracedLives
with_token lives (Inside token) = record lives { tokens = lives.tokens ++ token ∷ [] }
with_token lives (Crash pick) = record { ended = lives.ended ++ record { tokens = lives.tokens; pick = pick } ∷ []; tokens = [] }

-- more tokens, one after another
abbrev pub lives_behind : TracedLives → List LineToken → TracedLives
lives_behind lives tokens = fold with_token lives tokens

-- more lives: what was the last goes on as the first of them
abbrev pub joined_lives : TracedLives → (ended : List TracedLife) → (tokens : List Token) → TracedLives
joined_lives lives [] tokens = record lives { tokens = lives.tokens ++ tokens }
joined_lives lives (first ∷ later) tokens = record {
  ended = lives.ended ++ record { tokens = lives.tokens ++ first.tokens; pick = first.pick } ∷ later;
  tokens = tokens;
}

-- what is left of so many calls of each thread, where one more is passed
abbrev pub one_passed : (thread : ℕ) → List ℕ → List ℕ
one_passed thread counts = slice_set counts thread (slice_index_or counts thread 0 - 1)

-- the calls but the first so many of each thread, in their order
abbrev pub behind_begun : (counts : List ℕ) → List TracedCall → List TracedCall
behind_begun counts [] = []
behind_begun counts (call ∷ calls) =
    if nat_lt 0 (slice_index_or counts call.thread 0) then behind_begun (one_passed call.thread counts) calls
    else call ∷ behind_begun counts calls

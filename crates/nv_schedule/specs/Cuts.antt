-- Cuts: what the cuts of a schedule make of a bench.
use Rattle.std.specs.Prelude.{◌≡◌, ℕ, ◌-◌, ◌^◌, Bool, true, false, List, [], ◌∷◌, ◌++◌}
use Rattle.nv_bench.specs.Benches.{BenchState, armed_with}
use Rattle.nv_trace.specs.declared.token.Token.{Token}
use Rattle.nv_trace.specs.declared.token.Token.TheVariants.{Advance, Cut}

-- the numbers of the cuts among some tokens
abbrev pub cuts_of : List Token → List ℕ
cuts_of [] = []
cuts_of (Cut number ∷ later) = number ∷ cuts_of later
cuts_of (Advance turn reach ∷ later) = cuts_of later

-- a cut is reached behind some tokens, before which one was or not
abbrev pub cut_behind : Bool → List Token → Bool
cut_behind cut [] = cut
cut_behind cut (Cut number ∷ later) = cut_behind true later
cut_behind cut (Advance turn reach ∷ later) = cut_behind cut later

-- a bench that was armed with these numbers, one after another
abbrev pub armed_by : List ℕ → BenchState → BenchState
armed_by [] bench = bench
armed_by (number ∷ later) bench = armed_by later (armed_with number bench)

-- but for how often it was armed, with which number, and when power last went off, it is as it was
abbrev pub IsArmedOnly : (old new : BenchState) → Type 0
IsArmedOnly old new = new ≡ record old { arms = new.arms; armed = new.armed; settled = new.settled }

-- a cut was reached, and since then it is armed; or none was, and it is as it was
abbrev pub CutTells : (cut : Bool) → (old new : BenchState) → Type 0
CutTells false old new = new ≡ old
CutTells true old new = new.settled ≡ 2 ^ 64 - 1

-- It was armed at each cut among these tokens, and nothing else became of it.
abbrev pub IsCutBy : List Token → (old new : BenchState) → Type 0
IsCutBy tokens old new = new ≡ armed_by (cuts_of tokens) old

-- some first ones of these tokens were reached
pub record IsCutBySome (tokens : List Token) (old new : BenchState) : Type 0 where
  pub reached : List Token
  pub later : List Token
  pub tokens_are : tokens ≡ reached ++ later
  pub cut : IsCutBy reached old new

-- The present states of a row of parts.
use Rattle.std.proofs.Common.{◌≡◌, ◌<◌, [], ◌∷◌, length, zero, suc, refl, sym, ap, ◌∙◌, arith}
use Rattle.std.proofs.lemmas.List.Elements.{All-head, All-tail}
use Rattle.nv_pmem.specs.Part.{Part}
use Rattle.nv_pmem.specs.Steps.{PartHistory}
use Rattle.nv_pmem.specs.RowStates.{IsNow, TellingRowsHaveStates, RowsHaveOneState, EachPartHasOne}

pub rows_have_states : TellingRowsHaveStates
rows_have_states [] tell = record { states = []; are = tt }
rows_have_states ([] ∷ row) tell = absurd (omega (arith, All-head (λ (history : PartHistory). 0 < length history) [] row tell))
rows_have_states ((now ∷ past) ∷ row) tell =
    let rest = rows_have_states row (All-tail (λ (history : PartHistory). 0 < length history) (now ∷ past) row tell) in
    record { states = now ∷ rest.states; are = (record { past = past; is = refl }, rest.are) }

one_now : (history : PartHistory) (a b : Part) → IsNow history a → IsNow history b → a ≡ b
one_now history a b one other = let same : a ∷ one.past ≡ b ∷ other.past = sym one.is ∙ other.is in cc

pub rows_have_one_state : RowsHaveOneState
rows_have_one_state [] [] [] are were = refl
rows_have_one_state [] [] (b ∷ other) are were = absurd were
rows_have_one_state [] (a ∷ one) other are were = absurd are
rows_have_one_state (history ∷ row) [] other are were = absurd are
rows_have_one_state (history ∷ row) (a ∷ one) [] are were = absurd were
rows_have_one_state (history ∷ row) (a ∷ one) (b ∷ other) are were =
    ap (λ s. s ∷ one) (one_now history a b are.0 were.0) ∙ ap (λ rest. b ∷ rest) (rows_have_one_state row one other are.1 were.1)

pub each_part_has_one : EachPartHasOne
each_part_has_one [] states i are inside = absurd (omega arith)
each_part_has_one (history ∷ row) [] i are inside = absurd are
each_part_has_one (history ∷ row) (now ∷ states) zero are inside = are.0
each_part_has_one (history ∷ row) (now ∷ states) (suc i) are inside = each_part_has_one row states i are.1 (omega arith)

-- Told: the one history of a mount that is closed, for the calls of a run over it.
use Rattle.std.proofs.Common.{◌≡◌, ◌≢◌, ℕ, List, [], ◌∷◌, ◌++◌, map, inl, inr, refl, ap, subst, ◌∙◌}
use Rattle.std.specs.Prelude.{IsPermutation}
use Rattle.std.proofs.lemmas.Bool.{cases_eq}
use Rattle.std.proofs.lemmas.List.Sorted.{IsPermutation-map, IsPermutation-trans}
use Rattle.nv_core.specs.steps.Opening.{opening}
use Rattle.nv_core.specs.state.Passes.{IsOneOf}
use Rattle.nv_core.specs.invariant.OneHistory.{calls_by}
use Rattle.nv_table.specs.invariant.BetweenSteps.{KnowsTaken}
use Rattle.nv_table.specs.state.Opened.{IsRunOf, mount_of}
use Rattle.nv_table.specs.state.Views.{AreDistinctNumbers, Past, PassView, pass_of}
use Rattle.nv_table.proofs.passes.BetweenLaws.{distinct_run}
use Rattle.nv_mount.specs.OneHistories.{HasOneHistory}
use Rattle.nv_mount.specs.WholeRuns.{history_then}
use Rattle.nv_trace.specs.declared.trace_call.TracedCall.{TracedCall}
use Rattle.nv_runner.specs.EndedRuns.{batch_of}
use Rattle.nv_runner.specs.Histories.{IsHistoryOfPasses, PlacedCall}
use Rattle.nv_runner.specs.Lists.{MadeCall, calls_made}
use Rattle.nv_runner.specs.Sorted.{OpenedCall, RefusedCall, opened_call, opened_made, placed_call, placed_made, refused_call, refused_made}
use Rattle.nv_runner.specs.Told.{RunsAreTold}
use Rattle.nv_runner.proofs.histories.HistoryLaws.{sorted_are_history}
use Rattle.nv_runner.proofs.LineLaws.{lines_tell_rounds, open_in_lines, refused_in_lines}

-- ---- the calls

opened_alone : (opened : List OpenedCall) → calls_made (map opened_made opened) ≡ map (λ o. o.call) opened
opened_alone [] = refl
opened_alone (o ∷ opened) = ap (λ (l : List TracedCall). o.call ∷ l) (opened_alone opened)

refused_alone : (refused : List RefusedCall) (opened : List OpenedCall) → calls_made (map refused_made refused ++ map opened_made opened) ≡ map (λ r. r.call) refused ++ map (λ o. o.call) opened
refused_alone [] opened = opened_alone opened
refused_alone (r ∷ refused) opened = ap (λ (l : List TracedCall). r.call ∷ l) (refused_alone refused opened)

all_alone : (placed : List PlacedCall) (refused : List RefusedCall) (opened : List OpenedCall) → calls_made (map placed_made placed ++ map refused_made refused ++ map opened_made opened)
    ≡ map (λ p. p.call) placed ++ map (λ r. r.call) refused ++ map (λ o. o.call) opened
all_alone [] refused opened = refused_alone refused opened
all_alone (p ∷ placed) refused opened = ap (λ (l : List TracedCall). p.call ∷ l) (all_alone placed refused opened)

calls_listed : (calls : List TracedCall) (made : List MadeCall) (placed : List PlacedCall) (refused : List RefusedCall) (opened : List OpenedCall) → IsPermutation calls (calls_made made)
    → IsPermutation made (map placed_made placed ++ map refused_made refused ++ map opened_made opened)
    → IsPermutation calls (map (λ p. p.call) placed ++ map (λ r. r.call) refused ++ map (λ o. o.call) opened)
calls_listed calls made placed refused opened all listed =
    let each = map placed_made placed ++ map refused_made refused ++ map opened_made opened in
    subst (IsPermutation calls) (all_alone placed refused opened)
    (IsPermutation-trans calls (calls_made made) (calls_made each) all (IsPermutation-map (λ (m : MadeCall). m.call) made each listed))

-- ---- the history

-- where pass 0 made no call itself
pub history_of_others : (view : PassView) (placed : ℕ) → IsRunOf view.opened view.run → KnowsTaken view → (pass_of view).mine ≡ [] → HasOneHistory view placed → IsHistoryOfPasses view (history_then view)
history_of_others view placed is_run taken none one = record {
  distinct = subst AreDistinctNumbers taken.same (distinct_run view.opened.sizes (opening (mount_of view.opened)) view.run is_run tt);
  joined = one.joined;
  others = others;
  seen = one.seen_joined;
}
  where
    others : (number : ℕ) → ((past : Past) → IsOneOf view.ended past → past.number ≢ number) → calls_by number (history_then view) ≡ []
    others number nobody = elim (cases_eq number view.number) [
      | inl same ↦ ap (λ n. calls_by n (history_then view)) same ∙ one.own ∙ none
      | inr ne ↦ one.others number ne nobody
    ]

pub runs_are_told : RunsAreTold
runs_are_told fds plan calls start zero sorted part_values store_values parts stores faults placed tail new out closed lines rounds =
    let made = out.made in
    let sorted_out = out.sorted.0 in
    let all = out.sorted.1 in
    let told = lines_tell_rounds calls (calls_made made) lines rounds all in
    let none : (pass_of zero.view).mine ≡ [] = out.run_out.unplaced.mine ∙ ap (λ (v : PassView). (pass_of v).mine) new in
    let is = history_of_others zero.view placed closed.whole.is_run out.run_out.taken none closed.history in record {
      placed = sorted_are_history fds (batch_of plan) made zero (history_then zero.view) (map placed_call sorted.placed.items) out.run_out.run is told.1 sorted_out.placed sorted_out.by_place;
      listed = calls_listed calls made (map placed_call sorted.placed.items) (map refused_call sorted.refused.items) (map opened_call sorted.open_calls.items) all sorted_out.listed;
      in_lines = refused_in_lines made (map refused_call sorted.refused.items) told.0 sorted_out.refused sorted_out.by_line;
      open_in_lines = open_in_lines made (map opened_call sorted.open_calls.items) told.0 sorted_out.left_open sorted_out.open_by_line;
    }

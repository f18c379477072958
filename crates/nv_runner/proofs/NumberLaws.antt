-- Numbers: in which order the calls that a report shows drew theirs.
use Rattle.std.proofs.Common.{◌≡◌, List, ◌++◌, map, sym, ap, subst, ◌∙◌}
use Rattle.std.specs.Prelude.{IsPermutation}
use Rattle.std.specs.List.{flat_map}
use Rattle.std.proofs.lemmas.List.Sorted.{IsPermutation-sym, IsPermutation-trans}
use Rattle.nv_core.specs.state.Passes.{IsOneOf}
use Rattle.nv_table.specs.state.Opened.{Opened}
use Rattle.nv_trace.specs.declared.trace_call.TracedCall.{TracedCall}
use Rattle.nv_runner.specs.Entries.{entries_taken}
use Rattle.nv_runner.specs.declared.sorted.SortedCalls.{SortedCalls}
use Rattle.nv_runner.specs.DrawnNumbers.{AreInARow, DrawnCall, DrewInARow}
use Rattle.nv_runner.specs.Faithful.{drawing_calls, open_calls_of}
use Rattle.nv_runner.specs.FaithfulRuns.{RunsAreNumbered}
use Rattle.nv_runner.specs.Histories.{PlacedCall}
use Rattle.nv_runner.specs.Lists.{MadeCall}
use Rattle.nv_runner.specs.RunNumbers.{HaveDrawn}
use Rattle.nv_runner.specs.RunRefusals.{calls_that_drew}
use Rattle.nv_runner.specs.Sorted.{AreSortedOut, OpenedCall, opened_call, opened_made, placed_call, placed_made, refused_call, refused_made}
use Rattle.nv_runner.proofs.CauseLaws.{drawn_listed}
use Rattle.nv_runner.proofs.draws.DrawOrder.{drawing_each, one_drawing}
use Rattle.nv_runner.proofs.FaithfulLaws.{open_there}
use Rattle.nv_runner.proofs.histories.HistoryMembers.{of_each}
use Rattle.nv_runner.proofs.OpenRunLaws.{flat_moved}

-- the calls that drew among some are those that a report of them shows
drawing_moved : (made : List MadeCall) (sorted : SortedCalls) → AreSortedOut made sorted
    → IsPermutation (map (λ (p : PlacedCall). p.call) (map placed_call sorted.placed.items) ++ map (λ (o : OpenedCall). o.call) (map opened_call sorted.open_calls.items)) (calls_that_drew made)
drawing_moved made sorted sorts =
    let placed = map placed_call sorted.placed.items in
    let refused = map refused_call sorted.refused.items in
    let left = map opened_call sorted.open_calls.items in
    let each = map placed_made placed ++ map refused_made refused ++ map opened_made left in
    let From : List TracedCall → Type 0 = λ l. IsPermutation l (calls_that_drew made) in
    subst From (drawn_listed placed refused left)
    (subst From (sym (drawing_each each))
    (subst (λ l. IsPermutation (flat_map one_drawing each) l) (sym (drawing_each made)) (flat_moved one_drawing each made (IsPermutation-sym made each sorts.listed))))

pub runs_are_numbered : RunsAreNumbered
runs_are_numbered basis trace fds plan start zero sorted report is out shows =
    let opened = start.view.opened in
    let made = out.made in
    let sorts = out.sorted.0 in
    let have : HaveDrawn opened.sizes opened.next made = subst (λ (o : Opened). HaveDrawn o.sizes o.next made) out.run_out.mount out.drawn in
    let drew = have.drew in
    let placed = map placed_call sorted.placed.items in
    let left = map opened_call sorted.open_calls.items in
    let drew_is : drawing_calls report ≡ map (λ (p : PlacedCall). p.call) placed ++ map (λ (o : OpenedCall). o.call) left =
    ap (λ (l : List PlacedCall). map (λ (p : PlacedCall). p.call) l ++ open_calls_of report) shows.history
    ∙ ap (λ (l : List TracedCall). map (λ (p : PlacedCall). p.call) placed ++ l) shows.open_calls in
    let drawn_calls = map (λ (d : DrawnCall). d.call) drew.drawn in
    let numbered : DrewInARow (entries_taken basis.sizes.page) basis.next (drawing_calls report) = record {
      drawn = drew.drawn;
      each_once =
          subst (λ l. IsPermutation l drawn_calls) (sym drew_is)
          (IsPermutation-trans (map (λ (p : PlacedCall). p.call) placed ++ map (λ (o : OpenedCall). o.call) left) (calls_that_drew made) drawn_calls (drawing_moved made sorted sorts) drew.each_once);
      in_order = drew.in_order;
      row =
          subst (λ next. AreInARow (entries_taken basis.sizes.page) next drew.drawn) (sym is.next)
          (subst (λ page. AreInARow (entries_taken page) opened.next drew.drawn) (sym is.page) drew.row);
    } in
    (numbered, of_each (λ (o : OpenedCall). IsOneOf numbered.drawn (record { call = o.call; number = o.number })) left (λ o one. have.told o.call o.number (open_there made sorted sorts o one)))

use Rattle.std.proofs.Common.{◌≡◌, ◌++◌, ◌∙◌, List, ap, map}
use Rattle.std.proofs.lemmas.Result.{IfOk-weaker}
use Rattle.nv_runner.specs.FaithfulRuns.{shown_refusals}
use Rattle.nv_runner.specs.Faithful.{named}
use Rattle.nv_runner.specs.Histories.{PlacedCall}
use Rattle.nv_runner.specs.KeptRounds.{AreKept, AreKeptOf, kept_open_call}
use Rattle.nv_runner.specs.Reports.{history_lines}
use Rattle.nv_runner.specs.Sorted.{OpenedCall, RefusedCall, opened_call, placed_call, refused_call}
use Rattle.nv_runner.specs.declared.sorted.SortedCalls.{SortedCalls}
use Rattle.nv_top.specs.Outcomes.{fated_call}
use Rattle.nv_top.specs.Reports.{report_text}
use Rattle.nv_top.specs.Stopping.{ShowsOpen}
use Rattle.nv_top.proofs.stopping.show_open.Goals as goal

pub returns : goal.returns
returns c =
    let kept = c.args.kept.now in
    let names = c.args.names.now in
    let files = c.args.files.now in
    let fated = map fated_call c.in_ok-fated.fated.items in
    let slice : List _ → List _ = λ names. named names (record { contents = files }) in
    IfOk-weaker c.rest_of.result
    (λ text. (placed : List PlacedCall) (refused : List RefusedCall) (open_calls : List OpenedCall) → AreKept kept placed refused open_calls
    → history_lines 0 placed ++ text.items ≡ report_text (record { history = placed; refused = shown_refusals refused; open_calls = map fated_call c.deref-2.result.now; files = slice c.as_slice.result.now }))
    (λ text. (sorted : SortedCalls) → AreKeptOf kept sorted → ShowsOpen sorted (map (λ call. call.now) c.args.begun.now) c.args.found.now names (record { contents = files }) (history_lines 0 (map placed_call sorted.placed.items) ++ text.items))
    (λ text shown sorted of. record {
      open_calls = fated;
      are_open = c.in_ok-fated.ensures sorted.open_calls.items (ap (map kept_open_call) c.deref.ensures.value ∙ of.open_are);
      text_is =
          let placed = map placed_call sorted.placed.items in
          let refused = map refused_call sorted.refused.items in
          shown placed refused (map opened_call sorted.open_calls.items) of
          ∙ ap (λ names. report_text (record { history = placed; refused = shown_refusals refused; open_calls = map fated_call c.deref-2.result.now; files = slice names })) c.as_slice.ensures
          ∙ ap (λ these. report_text (record { history = placed; refused = shown_refusals refused; open_calls = map fated_call these; files = slice names })) c.deref-2.ensures.value;
    })
    c.rest_of.ensures

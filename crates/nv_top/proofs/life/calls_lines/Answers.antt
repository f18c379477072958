use Rattle.std.proofs.Common.{◌≡◌, ◌++◌, ◌∙◌, [], false, length, map, ap, subst, sym, rules}
use Rattle.std.proofs.lemmas.List.{length-map}
use Rattle.nv_plain.specs.Files.{Files}
use Rattle.nv_runner.specs.FaithfulRuns.{shown_call, shown_refusals}
use Rattle.nv_runner.specs.Reports.{history_lines}
use Rattle.nv_runner.specs.Sorted.{placed_call, refused_call}
use Rattle.nv_top.specs.Fates.{AreShownOpen}
use Rattle.nv_top.specs.LifeLines.{AreCounts, line_shown}
use Rattle.nv_top.specs.Outcomes.{fated_call, shown_report}
use Rattle.nv_top.specs.Reports.{open_lines}
use Rattle.nv_top.proofs.CountLemmas.{listed_are}
use Rattle.nv_top.proofs.LifeLineLemmas.{have_a_line_each}
use Rattle.nv_top.proofs.life.calls_lines.Goals as goal

pub returns-clause-lines : goal.returns-clause-lines
returns-clause-lines c last names shown files =
    let sorted = c.args.sorted in
    let fated = c.in_ok-fated.fated.items in
    let all = map (λ call. call.now) c.args.begun.now in
    let refused = ap (map shown_call) c.deref-2.ensures.value ∙ c.in_ok-shown.ensures in
    let placed : c.len.result ≡ length sorted.placed.items = search rules in
    let opened : c.len-2.result ≡ length fated = search rules in
    record {
      open_calls = map fated_call fated;
      are_open = subst (λ writes. AreShownOpen c.args.found.now.first c.args.found.now.groups writes all (map fated_call fated)) c.deref-3.ensures.value c.in_ok-fated.ensures;
      lines_are = record {
        placed = placed ∙ sym (length-map sorted.placed.items placed_call);
        history = c.in_ok-push_history.ensures ∙ ap (λ text. text ++ history_lines c.args.place (map placed_call c.deref.result.now)) c.new-history.ensures.items ∙ ap (λ placed. history_lines c.args.place (map placed_call placed)) c.deref.ensures.value;
        refused = c.in_ok-refused.ensures ∙ ap (map line_shown) refused;
        opened = opened ∙ sym (length-map fated fated_call);
        open_calls = c.in_ok-push_open.ensures ∙ ap (λ text. text ++ open_lines (map fated_call c.deref-4.result.now)) c.new-open_lines.ensures.items ∙ ap (λ fated. open_lines (map fated_call fated)) c.deref-4.ensures.value;
        listed = subst (λ calls. AreCounts calls c.count_listed.result)
            (ap (λ placed. map (λ p. p.call.now) placed ++ map (λ r. r.call.now) c.deref-6.result.now ++ map (λ o. o.call.now) c.deref-7.result.now) c.deref-5.ensures.value
            ∙ ap (λ shown. map (λ p. p.call.now) sorted.placed.items ++ map (λ r. r.call.now) shown ++ map (λ o. o.call.now) c.deref-7.result.now) c.deref-6.ensures.value
            ∙ ap (λ left. map (λ p. p.call.now) sorted.placed.items ++ map (λ r. r.call.now) c.in_ok-shown.shown.items ++ map (λ o. o.call.now) left) c.deref-7.ensures.value
            ∙ listed_are sorted.placed.items c.in_ok-shown.shown.items fated (shown_refusals (map refused_call sorted.refused.items)) c.in_ok-shown.ensures)
            c.count_listed.ensures;
        files = files;
      };
    }

-- whatever files are shown
pub returns-clause-each : goal.returns-clause-each
returns-clause-each c =
    let none : Files = record { contents = [] } in
    let shown = returns-clause-lines c false [] none (λ is. cc) in
    have_a_line_each c.args.place false (shown_report c.args.sorted shown.open_calls [] none) _ shown.lines_are

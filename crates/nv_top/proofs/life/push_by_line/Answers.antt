use Rattle.std.proofs.Common.{map, rules}
use Rattle.std.proofs.lemmas.List.Sorted.{IsNonDecreasingBy-from_sort_by_key, IsPermutation-map}
use Rattle.nv_runner.proofs.SortedLaws.{falls_not}
use Rattle.nv_top.specs.LifeLines.{AreByLine, Numbered, line_kept}
use Rattle.nv_top.specs.declared.life.RefusedLine.{RefusedLine}
use Rattle.nv_top.proofs.SchedulingLemmas.{on_any}
use Rattle.nv_top.proofs.life.push_by_line.Goals as goal

pub returns-clause-order : goal.returns-clause-order
returns-clause-order c =
    let sorted = c.sort_by_key.new.self.items in
    let is : AreByLine (map line_kept c.args.lines.now.items) (map line_kept sorted) = record {
      all = IsPermutation-map line_kept c.args.lines.now.items sorted c.in_ok-sort_by_key.ensures.permutation;
      by_line = falls_not line_kept (λ (line : Numbered). line.line) sorted (IsNonDecreasingBy-from_sort_by_key (λ (one : RefusedLine). one.line) _ c.in_ok-sort_by_key.ensures.sorted (λ a r q k. search rules));
    } in
    on_any c.push_texts.result is

use Rattle.std.proofs.Common.{List, map, rules}
use Rattle.std.specs.Prelude.{IsPermutation}
use Rattle.std.proofs.lemmas.List.Sorted.{IsNonDecreasingBy-from_sort_by_key, IsPermutation-map, IsPermutation-trans}
use Rattle.nv_runner.specs.declared.sorted.Open.{Open}
use Rattle.nv_runner.specs.declared.sorted.Placed.{Placed}
use Rattle.nv_runner.specs.declared.sorted.Refused.{Refused}
use Rattle.nv_runner.specs.declared.sorted.SortedCalls.{SortedCalls}
use Rattle.nv_runner.specs.Histories.{PlacedCall, placed_calls}
use Rattle.nv_runner.specs.Lists.{made_calls}
use Rattle.nv_runner.specs.Sorted.{OpenedCall, RefusedCall, opened_call, opened_calls, placed_call, refused_call, refused_calls}
use Rattle.nv_runner.proofs.SortedLaws.{falls_not, listed}
use Rattle.nv_runner.proofs.sorted.sort_out.Goals as goal

pub returns : goal.returns
returns c =
    let made = made_calls c.args.answered.items in
    let parted : SortedCalls = c.in_ok-placed.field-0 in
    let placed : List Placed = c.sort_unstable_by_key.new.self.items in
    let refused : List Refused = c.sort_unstable_by_key-2.new.self.items in
    let open_calls : List Open = c.sort_unstable_by_key-3.new.self.items in
    let ones : IsPermutation (placed_calls made) (map placed_call placed) =
    IsPermutation-trans (placed_calls made) (map placed_call parted.placed.items) (map placed_call placed) c.in_ok-placed.ensures.placed
    (IsPermutation-map placed_call parted.placed.items placed c.sort_unstable_by_key.ensures.permutation) in
    let others : IsPermutation (refused_calls made) (map refused_call refused) =
    IsPermutation-trans (refused_calls made) (map refused_call parted.refused.items) (map refused_call refused) c.in_ok-placed.ensures.refused
    (IsPermutation-map refused_call parted.refused.items refused c.sort_unstable_by_key-2.ensures.permutation) in
    let left_open : IsPermutation (opened_calls made) (map opened_call open_calls) =
    IsPermutation-trans (opened_calls made) (map opened_call parted.open_calls.items) (map opened_call open_calls) c.in_ok-placed.ensures.open_calls
    (IsPermutation-map opened_call parted.open_calls.items open_calls c.sort_unstable_by_key-3.ensures.permutation) in record {
      placed = ones;
      by_place = falls_not placed_call (λ (p : PlacedCall). p.place) placed
          (IsNonDecreasingBy-from_sort_by_key (λ (p : Placed). p.place) _ c.sort_unstable_by_key.ensures.sorted (λ a r q k. search rules));
      refused = others;
      by_line = falls_not refused_call (λ (r : RefusedCall). r.call.line) refused
          (IsNonDecreasingBy-from_sort_by_key (λ (r : Refused). r.call.now.line) _ c.sort_unstable_by_key-2.ensures.sorted (λ a r q k. search rules));
      left_open = left_open;
      open_by_line = falls_not opened_call (λ (o : OpenedCall). o.call.line) open_calls
          (IsNonDecreasingBy-from_sort_by_key (λ (o : Open). o.call.now.line) _ c.sort_unstable_by_key-3.ensures.sorted (λ a r q k. search rules));
      listed = listed made (map placed_call placed) (map refused_call refused) (map opened_call open_calls) ones others left_open;
    }

-- Sorted: the calls of a run are sorted out in some way, though nobody lists them.
use Rattle.std.proofs.Common.{ℕ, ◌^◌, ◌<◌, List, length}
use Rattle.std.specs.Global.{Global}
use Rattle.nv_runner.specs.Histories.{PlacedCall, placed_calls}
use Rattle.nv_runner.specs.Lists.{MadeCall}
use Rattle.nv_runner.specs.Sorted.{AreSortedOut, OpenedCall, RefusedCall, opened_calls, refused_calls}
use Rattle.nv_runner.specs.declared.sorted.SortedCalls.{SortedCalls}
use Rattle.nv_runner.proofs.LifeLaws.{falls_nowhere, sorted_by}
use Rattle.nv_runner.proofs.streams.StreamParts.{sorted_so}

pub sorted_out : Global → (made : List MadeCall) → length made < 2 ^ 63 → (sorted : SortedCalls) × AreSortedOut made sorted
sorted_out alloc made few =
    let place : PlacedCall → ℕ = λ p. p.place in
    let refused_line : RefusedCall → ℕ = λ r. r.call.line in
    let open_line : OpenedCall → ℕ = λ o. o.call.line in
    let ones = sorted_by place (placed_calls made) in
    let others = sorted_by refused_line (refused_calls made) in
    let left = sorted_by open_line (opened_calls made) in
    let sorting = sorted_so alloc made ones.0 others.0 left.0 few ones.1 (falls_nowhere place ones.0 ones.2) others.1 (falls_nowhere refused_line others.0 others.2) left.1 (falls_nowhere open_line left.0 left.2) in
    (sorting.sorted, sorting.out)

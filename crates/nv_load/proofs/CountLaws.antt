-- Counts: one call more, and those of two lists.
use Rattle.std.proofs.Common.{◌≡◌, ℕ, ◌+◌, List, ◌++◌, length, sum_by, sym, ap, arith, length-append}
use Rattle.std.specs.Prelude.{IsPermutation}
use Rattle.std.proofs.lemmas.List.Concat.{flat_map-append}
use Rattle.std.proofs.lemmas.List.Sorted.{length_permutation, sum_by-IsPermutation}
use Rattle.std.proofs.lemmas.List.Sums.{sum_by-append}
use Rattle.nv_plain.specs.Faults.{saturated}
use Rattle.nv_runner.specs.Histories.{PlacedCall, placed_calls, placed_in_answer}
use Rattle.nv_runner.specs.Lists.{MadeCall}
use Rattle.nv_load.specs.Counts.{counts_of_placed}
use Rattle.nv_load.specs.Summaries.{bytes_read, bytes_written}
use Rattle.nv_load.specs.declared.counts.Counts.{Counts}

abbrev counted : (placed written read : ℕ) → Counts
counted placed written read = record { placed = placed; written = written; read = read }

pub counted_same : (placed written read placed_too written_too read_too : ℕ) → placed ≡ placed_too → written ≡ written_too → read ≡ read_too → counted placed written read ≡ counted placed_too written_too read_too
counted_same placed written read placed_too written_too read_too one two three = cc

-- those of two lists, one behind the other
pub placed_joined : (one other : List PlacedCall) (a b c : ℕ)
    → a ≡ saturated (saturated (length one) + saturated (length other))
    → b ≡ saturated (saturated (sum_by (λ (p : PlacedCall). bytes_written p.call.call) one) + saturated (sum_by (λ (p : PlacedCall). bytes_written p.call.call) other))
    → c ≡ saturated (saturated (sum_by (λ (p : PlacedCall). bytes_read p.reply) one) + saturated (sum_by (λ (p : PlacedCall). bytes_read p.reply) other))
    → counted a b c ≡ counts_of_placed (one ++ other)
placed_joined one other a b c many wrote read =
    let long = length-append one other in
    let written = sum_by-append (λ (p : PlacedCall). bytes_written p.call.call) one other in
    let reads = sum_by-append (λ (p : PlacedCall). bytes_read p.reply) one other in
    counted_same a b c _ _ _ (omega (arith, many, long)) (omega (arith, wrote, written)) (omega (arith, read, reads))

pub calls_joined : (made later : List MadeCall) → placed_calls (made ++ later) ≡ placed_calls made ++ placed_calls later
calls_joined made later = flat_map-append (λ (m : MadeCall). placed_in_answer m.call m.answer) made later

-- in whatever order
pub counts_moved : (one other : List PlacedCall) → IsPermutation one other → counts_of_placed one ≡ counts_of_placed other
counts_moved one other moved =
    counted_same _ _ _ _ _ _ (ap saturated (sym (length_permutation one other moved))) (ap saturated (sym (sum_by-IsPermutation (λ (p : PlacedCall). bytes_written p.call.call) one other moved)))
    (ap saturated (sym (sum_by-IsPermutation (λ (p : PlacedCall). bytes_read p.reply) one other moved)))

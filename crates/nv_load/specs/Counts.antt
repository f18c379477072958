-- Counts: what is counted of calls that were made, in whatever order.
use Rattle.std.specs.Prelude.{ℕ, List, [], ◌∷◌, ◌++◌, length, sum_by}
use Rattle.nv_plain.specs.Faults.{saturated}
use Rattle.nv_runner.specs.Histories.{PlacedCall, placed_calls}
use Rattle.nv_runner.specs.Lists.{MadeCall}
use Rattle.nv_load.specs.Summaries.{bytes_read, bytes_written, weighted_sum}
use Rattle.nv_load.specs.declared.counts.Counts.{Counts}
use Rattle.nv_load.specs.declared.summary.Summary.{Summary}
use Rattle.nv_load.specs.declared.made.Made.{Made}

-- of calls that have their places
abbrev pub counts_of_placed : List PlacedCall → Counts
counts_of_placed placed = record {
  placed = saturated (length placed);
  written = saturated (sum_by (λ p. bytes_written p.call.call) placed);
  read = saturated (sum_by (λ p. bytes_read p.reply) placed);
}

-- of calls that were made: of those among them that have theirs
abbrev pub counts_of : List MadeCall → Counts
counts_of made = counts_of_placed (placed_calls made)

-- the calls that were noted one after another, the latest first, in their order
abbrev pub noted : List Made → List MadeCall
noted [] = []
noted (last ∷ earlier) = noted earlier ++ record { call = last.call; answer = last.answer } ∷ []

-- with the bytes of a file, whose places count from 1, they are a summary
abbrev pub summary_counted : Counts → (file : List ℕ) → Summary
summary_counted counts file = record { placed = counts.placed; written = counts.written; read = counts.read; sum = saturated (weighted_sum 1 file) }

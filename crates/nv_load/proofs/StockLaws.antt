-- Stocks: the next call of one.
use Rattle.std.proofs.Common.{◌≡◌, ℕ, suc, ◌+◌, ◌-◌, ◌<◌, ◌≤◌, [], ◌∷◌, length, map, sym, ap, ◌∙◌, arith}
use Rattle.std.specs.Prelude.{Option, Some, None}
use Rattle.std.specs.List.{range_with_len}
use Rattle.nv_pmem.specs.Draws.{Draws, after_draw}
use Rattle.nv_trace.specs.declared.trace_call.TraceCall.{TraceCall}
use Rattle.nv_trace.specs.declared.trace_call.TracedCall.{TracedCall}
use Rattle.nv_load.specs.Generated.{drawn_call, drawn_calls, fill, in_lines}
use Rattle.nv_load.specs.Stocks.{stock_list}

abbrev pub in_line : (line round thread : ℕ) → TraceCall → TracedCall
in_line line round thread call = record { line = line; round = round; thread = thread; call = call }

-- none is left
pub stock_none : (threads thread : ℕ) (words : Option Draws) (left line : ℕ) → left ≡ 0 → stock_list threads thread words left line ≡ []
stock_none threads thread None left line none = ap (λ n. stock_list threads thread None n line) none
stock_none threads thread (Some words) left line none = ap (λ n. stock_list threads thread (Some words) n line) none

-- the next one is drawn
pub stock_drawn : (threads thread left line : ℕ) (draws next : Draws) (call : TraceCall) → 0 < left → call ≡ drawn_call threads thread draws → next ≡ after_draw (after_draw (after_draw draws))
    → stock_list threads thread (Some draws) left line ≡ in_line line 1 thread call ∷ stock_list threads thread (Some next) (left - 1) (line + 1)
stock_drawn threads thread left line draws next call some call_is next_is =
    let more : left ≡ suc (left - 1) = omega arith in
    ap (λ n. in_lines line 1 thread (drawn_calls threads thread n draws)) more
    ∙ ap (λ (d : Draws). in_line line 1 thread (drawn_call threads thread draws) ∷ in_lines (line + 1) 1 thread (drawn_calls threads thread (left - 1) d)) (sym next_is)
    ∙ ap (λ (c : TraceCall). in_line line 1 thread c ∷ in_lines (line + 1) 1 thread (drawn_calls threads thread (left - 1) next)) (sym call_is)

-- or is a fill
pub stock_filled : (threads thread left line : ℕ) (call : TraceCall) → 0 < left → left ≤ 64 → call ≡ fill (64 - left) 0
    → stock_list threads thread None left line ≡ in_line line 0 thread call ∷ stock_list threads thread None (left - 1) (line + 1)
stock_filled threads thread left line call some few call_is =
    let more : left ≡ suc (left - 1) = omega arith in
    let behind : 64 - left + 1 ≡ 64 - (left - 1) = omega arith in
    ap (λ n. in_lines line 0 thread (map (λ b. fill b 0) (range_with_len (64 - left) n))) more
    ∙ ap (λ n. in_line line 0 thread (fill (64 - left) 0) ∷ in_lines (line + 1) 0 thread (map (λ b. fill b 0) (range_with_len n (left - 1)))) behind
    ∙ ap (λ (c : TraceCall). in_line line 0 thread c ∷ in_lines (line + 1) 0 thread (map (λ b. fill b 0) (range_with_len (64 - (left - 1)) (left - 1)))) (sym call_is)

-- some are left
pub stock_some : (threads thread : ℕ) (words : Option Draws) (left line : ℕ) → 0 < left → stock_list threads thread words left line ≡ [] → ⊥
stock_some threads thread None left line some none =
    let more : left ≡ suc (left - 1) = omega arith in
    let long = ap length (sym (ap (λ n. stock_list threads thread None n line) more) ∙ none) in omega (arith, long)
stock_some threads thread (Some words) left line some none =
    let more : left ≡ suc (left - 1) = omega arith in
    let long = ap length (sym (ap (λ n. stock_list threads thread (Some words) n line) more) ∙ none) in omega (arith, long)

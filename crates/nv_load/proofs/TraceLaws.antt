-- The lines of a load's calls.
use Rattle.std.proofs.Common.{◌≡◌, ◌+◌, ◌*◌, ◌<◌, ◌≤◌, ℕ, zero, suc, List, [], ◌∷◌, ◌++◌, get_or, length, map, refl, sym, ap, subst, arith}
use Rattle.std.specs.List.{flat_map, range_with_len}
use Rattle.std.specs.List.Sorted.{IsStrictlyIncreasing}
use Rattle.std.proofs.lemmas.List.{map-append}
use Rattle.nv_pmem.specs.Draws.{Draws, after_draw, draws_of}
use Rattle.nv_pmem.specs.declared.picker.Pick.TheVariants.{Seed}
use Rattle.nv_trace.specs.declared.trace_call.TraceCall.{TraceCall}
use Rattle.nv_trace.specs.declared.trace_call.TracedCall.{TracedCall}
use Rattle.nv_trace.specs.Traced.{lines_in}
use Rattle.nv_load.specs.declared.load.Load.{Load}
use Rattle.nv_load.specs.Generated.{drawn_calls, first_fills, generated, in_lines, thread_calls}

-- ---- lines

-- numbers rise, from this one at least
abbrev Rise : ℕ → List ℕ → Type 0
Rise low [] = Unit {0}
Rise low (x ∷ xs) = (low ≤ x) × Rise (x + 1) xs

lower : (low from : ℕ) (xs : List ℕ) → low ≤ from → Rise from xs → Rise low xs
lower low from [] less rise = tt
lower low from (x ∷ xs) less rise = (let first = rise.0 in omega arith, rise.1)

rise_strictly : (low : ℕ) (xs : List ℕ) → Rise low xs → IsStrictlyIncreasing xs
rise_strictly low [] rise k within = absurd (omega arith)
rise_strictly low (x ∷ []) rise k within = absurd (omega arith)
rise_strictly low (x ∷ y ∷ xs) rise zero within = let next = rise.1.0 in omega arith
rise_strictly low (x ∷ y ∷ xs) rise (suc k) within =
    let later = rise_strictly (x + 1) (y ∷ xs) rise.1 k (omega arith) in
    let next : suc k + 1 ≡ suc (k + 1) = omega arith in
    subst (λ n. get_or (y ∷ xs) k 0 < get_or (x ∷ y ∷ xs) n 0) (sym next) later

abbrev line_of : TracedCall → ℕ
line_of call = call.line

lines_then : (line round thread : ℕ) (calls : List TraceCall) (rest : List ℕ) → Rise (line + length calls) rest → Rise line (map line_of (in_lines line round thread calls) ++ rest)
lines_then line round thread [] rest rise = lower line (line + 0) rest (omega arith) rise
lines_then line round thread (call ∷ calls) rest rise =
    (omega arith, lines_then (line + 1) round thread calls rest (lower (line + 1 + length calls) (line + suc (length calls)) rest (omega arith) rise))

pub many_drawn : (threads thread count : ℕ) (draws : Draws) → length (drawn_calls threads thread count draws) ≡ count
many_drawn threads thread zero draws = refl
many_drawn threads thread (suc count) draws = ap suc (many_drawn threads thread count (after_draw (after_draw (after_draw draws))))

threads_rise : (load : Load) (thread count : ℕ) → Rise (68 + thread * load.calls) (map line_of (flat_map (thread_calls load) (range_with_len thread count)))
threads_rise load thread zero = tt
threads_rise load thread (suc count) =
    let own = drawn_calls load.threads thread load.calls (draws_of (Seed (load.seed + thread))) in
    let others = flat_map (thread_calls load) (range_with_len (thread + 1) count) in
    let many = many_drawn load.threads thread load.calls (draws_of (Seed (load.seed + thread))) in
    let next : (thread + 1) * load.calls ≡ thread * load.calls + load.calls = omega arith in
    subst (Rise (68 + thread * load.calls)) (sym (map-append line_of (thread_calls load thread) others))
    (lines_then (68 + thread * load.calls) 1 thread own (map line_of others)
    (lower (68 + thread * load.calls + length own) (68 + (thread + 1) * load.calls) (map line_of others) (omega arith) (threads_rise load (thread + 1) count)))

pub generated_in_lines : (load : Load) → IsStrictlyIncreasing (lines_in (generated load))
generated_in_lines load =
    let second = flat_map (thread_calls load) (range_with_len 0 load.threads) in
    subst IsStrictlyIncreasing (sym (map-append line_of (in_lines 3 0 0 first_fills) second))
    (rise_strictly 3 (map line_of (in_lines 3 0 0 first_fills) ++ map line_of second)
    (lines_then 3 0 0 first_fills (map line_of second) (lower 67 (68 + 0 * load.calls) (map line_of second) (omega arith) (threads_rise load 0 load.threads))))

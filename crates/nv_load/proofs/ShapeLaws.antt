-- What each generated call is.
use Rattle.std.proofs.Common.{◌≡◌, ℕ, zero, suc, ◌+◌, ◌*◌, ◌/◌, ◌%◌, ◌==◌, ◌<◌, ◌≤◌, Bool, true, false, if◌then◌else◌, List, [], ◌∷◌, length, inl, inr, refl, sym, ap, ◌∙◌, arith, mul-le-mul}
use Rattle.std.specs.Prelude.{◌⊎◌}
use Rattle.std.specs.List.{flat_map, range_with_len}
use Rattle.std.proofs.lemmas.Bool.{cases_eq, cases_lt}
use Rattle.std.proofs.lemmas.List.{length-append}
use Rattle.std.proofs.lemmas.Nat.{mod_below}
use Rattle.std.proofs.Math.Nat.{le-div_iff_mul-le, mul-div-le, mul-le-mul_left}
use Rattle.nv_core.specs.state.Passes.{IsOneOf}
use Rattle.nv_pmem.specs.Draws.{Draws, after_draw, draws_of, next_word}
use Rattle.nv_pmem.specs.declared.picker.Pick.TheVariants.{Seed}
use Rattle.nv_trace.specs.declared.trace_call.TraceCall.{TraceCall}
use Rattle.nv_trace.specs.declared.trace_call.TraceCall.TheVariants.{Pread}
use Rattle.nv_trace.specs.declared.trace_call.TracedCall.{TracedCall}
use Rattle.nv_trace.specs.Traced.{Traced}
use Rattle.nv_load.specs.declared.load.Load.{Load}
use Rattle.nv_load.specs.Generated.{IsLoad, drawn_call, drawn_calls, fill, first_fills, generated, generated_calls, in_lines, thread_calls}
use Rattle.nv_load.proofs.TraceLaws.{many_drawn}
use Rattle.nv_runner.proofs.histories.HistoryMembers.{one_either, one_left, one_mapped, one_of_joined, one_of_mapped}

-- a read of the second round, which ends within the file
pub record IsReadIn (call : TracedCall) : Type 0 where
  pub at : ℕ
  pub len : ℕ
  pub is : call.call ≡ Pread 0 at len
  pub within : at + len ≤ 6144
  pub few : len ≤ 96
  pub round : call.round ≡ 1

-- a block is a thread's own: one of every so many as there are threads
pub record IsOwnBlock (threads thread block : ℕ) : Type 0 where
  pub turn : ℕ
  pub less : thread < threads
  pub is : block ≡ thread + threads * turn

-- a fill of this block is by thread 0 in the first round, or by its own thread in the second
abbrev pub IsByOwner : (threads block : ℕ) → TracedCall → Type 0
IsByOwner threads block call = ((call.round ≡ 0) × (call.thread ≡ 0)) ⊎ ((call.round ≡ 1) × IsOwnBlock threads call.thread block)

pub record FillsBlock (threads block : ℕ) (call : TracedCall) : Type 0 where
  pub byte : ℕ
  pub small : byte < 256
  pub is : call.call ≡ fill block byte
  pub owner : IsByOwner threads block call

pub record IsFillIn (threads : ℕ) (call : TracedCall) : Type 0 where
  pub block : ℕ
  pub low : block < 64
  pub fills : FillsBlock threads block call

abbrev pub HasShape : (threads : ℕ) → TracedCall → Type 0
HasShape threads call = IsReadIn call ⊎ IsFillIn threads call

-- ---- in lines

pub record IsInLine (line round thread : ℕ) (calls : List TraceCall) (one : TracedCall) : Type 0 where
  pub call : TraceCall
  pub there : IsOneOf calls call
  pub is : one.call ≡ call
  pub round_is : one.round ≡ round
  pub thread_is : one.thread ≡ thread
  pub low : line ≤ one.line
  pub high : one.line < line + length calls

pub of_line : (line round thread : ℕ) (calls : List TraceCall) (one : TracedCall) → IsOneOf (in_lines line round thread calls) one → IsInLine line round thread calls one
of_line line round thread [] one there = absurd there
of_line line round thread (call ∷ calls) one (inl same) =
    let here = ap (λ (c : TracedCall). c.line) same in
    record {
      call = call;
      there = inl refl;
      is = ap (λ (c : TracedCall). c.call) same;
      round_is = ap (λ (c : TracedCall). c.round) same;
      thread_is = ap (λ (c : TracedCall). c.thread) same;
      low = omega (arith, here);
      high = omega (arith, here);
    }
of_line line round thread (call ∷ calls) one (inr later) =
    let is = of_line (line + 1) round thread calls one later in
    record { call = is.call; there = inr is.there; is = is.is; round_is = is.round_is; thread_is = is.thread_is; low = omega (arith, is.low); high = omega (arith, is.high) }

to_line : (line round thread : ℕ) (calls : List TraceCall) (call : TraceCall) → IsOneOf calls call
    → (one : TracedCall) × IsOneOf (in_lines line round thread calls) one × (one.call ≡ call) × (one.round ≡ round) × (one.thread ≡ thread)
to_line line round thread [] call there = absurd there
to_line line round thread (first ∷ calls) call (inl same) = (record { line = line; round = round; thread = thread; call = first }, inl refl, sym same, refl, refl)
to_line line round thread (first ∷ calls) call (inr later) = let is = to_line (line + 1) round thread calls call later in (is.0, inr is.1, is.2, is.3, is.4)

pub of_range : (from count number : ℕ) → IsOneOf (range_with_len from count) number → (from ≤ number) × (number < from + count)
of_range from zero number there = absurd there
of_range from (suc count) number (inl same) = (omega (arith, same), omega (arith, same))
of_range from (suc count) number (inr later) = let is = of_range (from + 1) count number later in (let low = is.0 in omega arith, let high = is.1 in omega arith)

to_range : (from count number : ℕ) → from ≤ number → number < from + count → IsOneOf (range_with_len from count) number
to_range from zero number low high = absurd (omega arith)
to_range from (suc count) number low high = elim (cases_eq number from) [
  | inl same ↦ inl same
  | inr differ ↦ inr (to_range (from + 1) count number (at_least differ) (omega arith))
]
  where
    at_least : (number ≡ from → ⊥) → from + 1 ≤ number
    at_least differ = elim (cases_lt from number) [ inl less ↦ omega (arith, less) | inr more ↦ absurd (differ (omega (arith, more, low))) ]

-- ---- the first round

first_shape : (threads : ℕ) (one : TracedCall) → IsOneOf (in_lines 3 0 0 first_fills) one → HasShape threads one
first_shape threads one there =
    let is = of_line 3 0 0 first_fills one there in
    let filled = one_of_mapped (λ block. fill block 0) (range_with_len 0 64) is.call is.there in
    let low = of_range 0 64 filled.0 filled.1 in
    inr record { block = filled.0; low = low.1; fills = record { byte = 0; small = omega arith; is = is.is ∙ sym filled.2; owner = inl (is.round_is, is.thread_is) } }

-- each block is filled in the first round
pub filled_first : (load : Load) (block : ℕ) → block < 64 → (one : TracedCall) × IsOneOf (generated_calls load) one × (one.round ≡ 0) × FillsBlock load.threads block one
filled_first load block low =
    let there = one_mapped (λ b. fill b 0) (range_with_len 0 64) block (to_range 0 64 block (omega arith) low) in
    let one = to_line 3 0 0 first_fills (fill block 0) there in (
      one.0,
      one_left (in_lines 3 0 0 first_fills) (flat_map (thread_calls load) (range_with_len 0 load.threads)) one.0 one.1,
      one.3,
      record { byte = 0; small = omega arith; is = one.2; owner = inl (one.3, one.4) },
    )

-- ---- the second round

record IsDrawn (threads thread : ℕ) (call : TraceCall) : Type 0 where
  pub draws : Draws
  pub is : call ≡ drawn_call threads thread draws

of_drawn : (threads thread count : ℕ) (draws : Draws) (call : TraceCall) → IsOneOf (drawn_calls threads thread count draws) call → IsDrawn threads thread call
of_drawn threads thread zero draws call there = absurd there
of_drawn threads thread (suc count) draws call (inl same) = record { draws = draws; is = same }
of_drawn threads thread (suc count) draws call (inr later) = of_drawn threads thread count (after_draw (after_draw (after_draw draws))) call later

own_low : (threads thread b : ℕ) → 1 ≤ threads → threads ≤ 8 → thread < threads → thread + threads * (b % (64 / threads)) < 64
own_low threads thread b some few less =
    let count = 64 / threads in
    let least : 1 ≤ count = (le-div_iff_mul-le {k = threads} {x = 1} {y = 64} (omega (arith, some))).1 (omega (arith, few)) in
    let turn = mod_below b count (omega (arith, least)) in
    let all = mul-div-le 64 threads in
    let up = mul-le-mul_left {m = b % count + 1} {n = count} threads (omega (arith, turn)) in
    let next : threads * (b % count + 1) ≡ threads * (b % count) + threads = omega arith in
    omega (arith, all, up, next, less)

words_shape : (threads thread a b c : ℕ) (one : TracedCall) (test : Bool) → 1 ≤ threads → threads ≤ 8 → thread < threads
    → one.call ≡ (if test then Pread 0 (b % 6048) (1 + c % 96) else fill (thread + threads * (b % (64 / threads))) (c % 256)) → one.round ≡ 1 → one.thread ≡ thread → HasShape threads one
words_shape threads thread a b c one true some few less is round thread_is =
    let low = mod_below b 6048 (omega arith) in
    let short = mod_below c 96 (omega arith) in
    inl record { at = b % 6048; len = 1 + c % 96; is = is; within = omega (arith, low, short); few = omega (arith, short); round = round }
words_shape threads thread a b c one false some few less is round thread_is =
    inr record {
      block = thread + threads * (b % (64 / threads));
      low = own_low threads thread b some few less;
      fills = record {
        byte = c % 256;
        small = mod_below c 256 (omega arith);
        is = is;
        owner = inr (round, record { turn = b % (64 / threads); less = omega (arith, less, thread_is); is = ap (λ t. t + threads * (b % (64 / threads))) (sym thread_is) });
      };
    }

second_shape : (load : Load) → IsLoad load → (thread : ℕ) → thread < load.threads → (one : TracedCall) → IsOneOf (thread_calls load thread) one → HasShape load.threads one
second_shape load limits thread less one there =
    let own = drawn_calls load.threads thread load.calls (draws_of (Seed (load.seed + thread))) in
    let is = of_line (68 + thread * load.calls) 1 thread own one there in
    let drawn = of_drawn load.threads thread load.calls (draws_of (Seed (load.seed + thread))) is.call is.there in
    let a = next_word drawn.draws in
    words_shape load.threads thread a (next_word (after_draw drawn.draws)) (next_word (after_draw (after_draw drawn.draws))) one (a % 4 == 0) limits.some_threads limits.few_threads less (is.is ∙ drawn.is)
    is.round_is is.thread_is

pub all_shaped : (load : Load) → IsLoad load → (one : TracedCall) → IsOneOf (generated_calls load) one → HasShape load.threads one
all_shaped load limits one there = elim (one_either (in_lines 3 0 0 first_fills) (flat_map (thread_calls load) (range_with_len 0 load.threads)) one there) [
  | inl first ↦ first_shape load.threads one first
  | inr second ↦ (
      let joined = one_of_joined (thread_calls load) (range_with_len 0 load.threads) one second in
      let low = of_range 0 load.threads joined.0 joined.1 in
      second_shape load limits joined.0 (let high = low.1 in omega (arith, high)) one joined.2
      )
]

-- ---- rounds

-- the lines of the first round stand before those of the second
pub line_tells : (load : Load) (one : TracedCall) → IsOneOf (generated_calls load) one → ((one.round ≡ 0) × (one.line < 68)) ⊎ ((one.round ≡ 1) × (68 ≤ one.line))
line_tells load one there = elim (one_either (in_lines 3 0 0 first_fills) (flat_map (thread_calls load) (range_with_len 0 load.threads)) one there) [
  | inl first ↦ (let is = of_line 3 0 0 first_fills one first in inl (is.round_is, omega (arith, is.high)))
  | inr second ↦ (
      let joined = one_of_joined (thread_calls load) (range_with_len 0 load.threads) one second in
      let own = drawn_calls load.threads joined.0 load.calls (draws_of (Seed (load.seed + joined.0))) in
      let is = of_line (68 + joined.0 * load.calls) 1 joined.0 own one joined.2 in
      inr (is.round_is, omega (arith, is.low))
      )
]

-- ---- how many

in_lines_long : (line round thread : ℕ) (calls : List TraceCall) → length (in_lines line round thread calls) ≡ length calls
in_lines_long line round thread [] = refl
in_lines_long line round thread (call ∷ calls) = ap suc (in_lines_long (line + 1) round thread calls)

second_long : (load : Load) (thread count : ℕ) → length (flat_map (thread_calls load) (range_with_len thread count)) ≡ count * load.calls
second_long load thread zero = omega arith
second_long load thread (suc count) =
    let own = drawn_calls load.threads thread load.calls (draws_of (Seed (load.seed + thread))) in
    let first = in_lines_long (68 + thread * load.calls) 1 thread own ∙ many_drawn load.threads thread load.calls (draws_of (Seed (load.seed + thread))) in
    let rest = second_long load (thread + 1) count in
    let both = length-append (thread_calls load thread) (flat_map (thread_calls load) (range_with_len (thread + 1) count)) in
    let next : suc count * load.calls ≡ load.calls + count * load.calls = omega arith in
    omega (arith, first, rest, both, next)

pub generated_long : (load : Load) → length (generated_calls load) ≡ 64 + load.threads * load.calls
generated_long load =
    let first = in_lines_long 3 0 0 first_fills in
    let rest = second_long load 0 load.threads in
    let both = length-append (in_lines 3 0 0 first_fills) (flat_map (thread_calls load) (range_with_len 0 load.threads)) in
    omega (arith, first, rest, both)

pub generated_few : (load : Load) (trace : Traced) → IsLoad load → trace ≡ generated load → length trace.calls ≤ 800064
generated_few load trace limits same =
    let long = ap (λ (t : Traced). length t.calls) same ∙ generated_long load in
    let most : load.threads * load.calls ≤ 8 * 100000 = mul-le-mul limits.few_threads limits.calls in
    omega (arith, long, most)

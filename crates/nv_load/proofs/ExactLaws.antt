-- No sum of a load comes to where a count stands still: the summary of a run from a fresh basis is that of the load alone.
use Rattle.std.proofs.Common.{◌≡◌, ℕ, ◌+◌, ◌*◌, ◌/◌, ◌^◌, ◌<◌, ◌≤◌, List, [], ◌∷◌, length, sum_by, inl, inr, refl, ap, ◌∙◌, arith}
use Rattle.std.specs.Prelude.{All}
use Rattle.std.proofs.lemmas.List.{get_or_default, length-replicate}
use Rattle.std.proofs.lemmas.List.Elements.{All-head, All-tail}
use Rattle.std.proofs.lemmas.List.Kept.{AllPairs-from_increasing}
use Rattle.std.proofs.lemmas.List.Sums.{sum_by-cons}
use Rattle.std.proofs.lemmas.Nat.{mod_below}
use Rattle.std.proofs.Math.Nat.{div-add-mod, mul-le-mul}
use Rattle.nv_core.specs.state.Passes.{IsOneOf}
use Rattle.nv_plain.specs.Faults.{saturated}
use Rattle.nv_trace.specs.Traced.{lines_in}
use Rattle.nv_trace.specs.declared.trace_call.TraceCall.{TraceCall}
use Rattle.nv_trace.specs.declared.trace_call.TracedCall.{TracedCall}
use Rattle.nv_load.specs.Generated.{IsLoad, generated, generated_calls}
use Rattle.nv_load.specs.Summaries.{FreshSummariesAreOfTheLoad, after_calls, bytes_asked, bytes_written, load_summary, weighted_sum}
use Rattle.nv_load.specs.declared.load.Load.{Load}
use Rattle.nv_load.specs.declared.summary.Summary.{Summary}
use Rattle.nv_load.proofs.LoadLaws.{keep_rising, same_summary}
use Rattle.nv_load.proofs.OrderLaws.{at_most, last_of}
use Rattle.nv_load.proofs.ShapeLaws.{HasShape, all_shaped, filled_first, generated_long, line_tells}
use Rattle.nv_load.proofs.TraceLaws.{generated_in_lines}

-- a call moves at most 96 bytes
writes_few : (threads : ℕ) (call : TracedCall) → HasShape threads call → bytes_written call.call ≤ 96
writes_few threads call (inl read) = let same = ap (λ (c : TraceCall). bytes_written c) read.is in omega (arith, same)
writes_few threads call (inr fills) =
    let same = ap (λ (c : TraceCall). bytes_written c) fills.fills.is in
    let long = length-replicate 96 fills.fills.byte in
    omega (arith, same, long)

asks_few : (threads : ℕ) (call : TracedCall) → HasShape threads call → bytes_asked call.call ≤ 96
asks_few threads call (inl read) = let same = ap (λ (c : TraceCall). bytes_asked c) read.is in omega (arith, same, read.few)
asks_few threads call (inr fills) = let same = ap (λ (c : TraceCall). bytes_asked c) fills.fills.is in omega (arith, same)

few_in_all : {X : Type 0} (count : X → ℕ) (xs : List X) → ((x : X) → IsOneOf xs x → count x ≤ 96) → sum_by count xs ≤ 96 * length xs
few_in_all count [] few = omega arith
few_in_all count (x ∷ xs) few =
    let one = few x (inl refl) in
    let more = few_in_all count xs (λ y there. few y (inr there)) in
    let both = sum_by-cons count x xs in
    omega (arith, one, more, both)

-- the sum of so many bytes
weighs_few : (place : ℕ) (bytes : List ℕ) → All (λ byte. byte < 256) bytes → place + length bytes ≤ 6145 → weighted_sum place bytes ≤ 1566975 * length bytes
weighs_few place [] small low = omega arith
weighs_few place (byte ∷ bytes) small low =
    let least = All-head (λ (byte : ℕ). byte < 256) byte bytes small in
    let placed : place ≤ 6145 = omega (arith, low) in
    let byte_is : byte ≤ 255 = omega (arith, least) in
    let one : place * byte ≤ 6145 * 255 = mul-le-mul placed byte_is in
    let more = weighs_few (place + 1) bytes (All-tail (λ (byte : ℕ). byte < 256) byte bytes small) (omega (arith, low)) in
    omega (arith, one, more)

module _ (load : Load) (limits : IsLoad load) where
  abbrev calls : List TracedCall
  calls = generated_calls load

  shaped : (call : TracedCall) → IsOneOf calls call → HasShape load.threads call
  shaped = all_shaped load limits

  few_calls : length calls ≤ 64 + 800000
  few_calls =
      let long = generated_long load in
      let most = mul-le-mul limits.few_threads limits.calls in
      omega (arith, long, most)

  file_short : length (after_calls calls []) ≤ 6144
  file_short = at_most load.threads calls [] shaped (omega arith)

  each_small : All (λ byte. byte < 256) (after_calls calls [])
  each_small place d within =
      let whole = div-add-mod place 96 in
      let rest = mod_below place 96 (omega arith) in
      let low : place / 96 < 64 = omega (arith, within, file_short, whole) in
      let filled = filled_first load (place / 96) low in
      elim (last_of load.threads (place / 96) calls [] shaped (keep_rising calls (AllPairs-from_increasing (lines_in (generated load)) (generated_in_lines load)) (line_tells load))) [
        | inl last ↦ (
            let is = last.bytes_are place (record { low = omega (arith, whole); high = omega (arith, whole, rest) }) in
            let here = get_or_default (after_calls calls []) place d 0 within in
            omega (arith, is, here, last.fills.small)
            )
        | inr none ↦ absurd (none.none filled.0 filled.1 filled.3)
      ]

  wrote : sum_by (λ (traced : TracedCall). bytes_written traced.call) calls ≤ 96 * length calls
  wrote = few_in_all (λ (traced : TracedCall). bytes_written traced.call) calls (λ call there. writes_few load.threads call (shaped call there))

  asked : sum_by (λ (traced : TracedCall). bytes_asked traced.call) calls ≤ 96 * length calls
  asked = few_in_all (λ (traced : TracedCall). bytes_asked traced.call) calls (λ call there. asks_few load.threads call (shaped call there))

  weighs : weighted_sum 1 (after_calls calls []) ≤ 1566975 * length (after_calls calls [])
  weighs = weighs_few 1 (after_calls calls []) each_small (omega (arith, file_short))

abbrev counted : (placed written read sum : ℕ) → Summary
counted placed written read sum = record { placed = placed; written = written; read = read; sum = sum }

summary_with : (placed written read sum placed_too written_too read_too sum_too : ℕ) → placed ≡ placed_too → written ≡ written_too → read ≡ read_too → sum ≡ sum_too
    → counted placed written read sum ≡ counted placed_too written_too read_too sum_too
summary_with placed written read sum placed_too written_too read_too sum_too one two three four = cc

low_stays : (n most : ℕ) → n ≤ most → most < 2 ^ 63 → saturated n ≡ n
low_stays n most low high = omega (arith, low, high)

exact : (load : Load) → IsLoad load
    → counted (length (generated_calls load)) (saturated (sum_by (λ (t : TracedCall). bytes_written t.call) (generated_calls load))) (saturated (sum_by (λ (t : TracedCall). bytes_asked t.call) (generated_calls load)))
    (saturated (weighted_sum 1 (after_calls (generated_calls load) []))) ≡ load_summary load
exact load limits =
    let many = few_calls load limits in
    let long = file_short load limits in
    let written = wrote load limits in
    let read = asked load limits in
    let sum = weighs load limits in
    summary_with _ _ _ _ _ _ _ _ (generated_long load) (low_stays _ (96 * 800064) (omega (arith, written, many)) (omega arith)) (low_stays _ (96 * 800064) (omega (arith, read, many)) (omega arith))
    (low_stays _ (1566975 * 6144) (omega (arith, sum, long)) (omega arith))

pub summaries_are_of_the_load : FreshSummariesAreOfTheLoad
summaries_are_of_the_load load report limits faithful = same_summary load report limits faithful ∙ exact load limits

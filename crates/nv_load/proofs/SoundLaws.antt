-- The trace of a load is one that a reader may have made.
use Rattle.std.proofs.Common.{◌≡◌, ℕ, ◌<◌, ◌≤◌, true, List, [], ◌∷◌, inl, inr, refl, sym, ap, subst, arith}
use Rattle.std.specs.Prelude.{All, codes}
use Rattle.std.proofs.lemmas.Bool.{true≢false}
use Rattle.std.proofs.lemmas.List.{length-replicate}
use Rattle.nv_core.specs.state.Passes.{IsOneOf}
use Rattle.nv_plain.specs.Layouts.{mount_layout}
use Rattle.nv_plain.specs.Names.{is_name}
use Rattle.nv_trace.specs.Grammar.{last_thread}
use Rattle.nv_trace.specs.Lives.{TracedLife}
use Rattle.nv_trace.specs.Shape.{IsCallWithin, IsTokenWithin, IsWellFormed}
use Rattle.nv_trace.specs.declared.trace.Descriptor.{Descriptor}
use Rattle.nv_trace.specs.declared.trace_call.TracedCall.{TracedCall}
use Rattle.nv_runner.proofs.histories.HistoryMembers.{of_each, one_either}
use Rattle.nv_runner.specs.Rounds.{AreInRoundOrder}
use Rattle.nv_load.specs.Generated.{GeneratedTracesAreSound, IsLoad, declared, first_round, generated, generated_calls, second_round}
use Rattle.nv_load.specs.declared.load.Load.{Load}
use Rattle.nv_load.proofs.OwnerLaws.{all_rounds, first_is, second_is}
use Rattle.nv_load.proofs.ShapeLaws.{HasShape, all_shaped, generated_few}
use Rattle.nv_load.proofs.TraceLaws.{generated_in_lines}

within : (threads : ℕ) (call : TracedCall) → HasShape threads call → IsCallWithin 1 call.call
within threads call (inl read) = subst (IsCallWithin 1) (sym read.is) (omega arith, omega (arith, read.within), omega (arith, read.few))
within threads call (inr fills) =
    let long = length-replicate 96 fills.fills.byte in
    subst (IsCallWithin 1) (sym fills.fills.is) (omega arith, omega (arith, fills.low), omega (arith, long))

low_round : (load : Load) (call : TracedCall) → IsOneOf (generated_calls load) call → call.round ≤ 1
low_round load call there = elim (one_either first_round (second_round load) call there) [
  | inl first ↦ (let is = (first_is call first).0 in omega (arith, is))
  | inr second ↦ (let is = (second_is load call second).0 in omega (arith, is))
]

low_thread : (load : Load) → IsLoad load → (call : TracedCall) → IsOneOf (generated_calls load) call → call.thread ≤ last_thread
low_thread load limits call there = elim (one_either first_round (second_round load) call there) [
  | inl first ↦ (let is = (first_is call first).1 in omega (arith, is))
  | inr second ↦ (let is = (second_is load call second).1 in let few = limits.few_threads in omega (arith, is, few))
]

-- a trace of the load's declarations is well formed with such calls
formed : (calls : List TracedCall) (rounds : ℕ) → All (λ (c : TracedCall). IsCallWithin 1 c.call) calls → All (λ (c : TracedCall). c.thread ≤ last_thread) calls → All (λ (c : TracedCall). c.round ≤ rounds) calls
    → AreInRoundOrder calls → IsWellFormed (record declared { calls = calls; rounds = rounds })
formed calls rounds within threads low order = record {
  names = omega arith;
  allowed = of_each (λ (name : List ℕ). is_name mount_layout.name_limit name ≡ true) (codes "g" ∷ []) (λ name there. elim there [ inl is ↦ subst (λ (name : List ℕ). is_name mount_layout.name_limit name ≡ true) (sym is) refl | inr none ↦ absurd none ]);
  distinct = λ i j less inside. absurd (omega (arith, less, inside));
  descriptors = omega arith;
  files = of_each (λ (d : Descriptor). d.file < 1) declared.descriptors (λ d there. elim there [ inl is ↦ (let file = ap (λ (d : Descriptor). d.file) is in omega (arith, file)) | inr none ↦ absurd none ]);
  calls = within;
  threads = threads;
  rounds = low;
  round_order = order;
  no_rounds = λ is. absurd (true≢false is);
  tokens = of_each IsTokenWithin [] (λ t there. absurd there);
  no_tokens = λ none. refl;
  lives = of_each (λ (life : TracedLife). All IsTokenWithin life.tokens) [] (λ life there. absurd there);
  no_lives = λ none. refl;
}

-- before its calls it has none
pub declared_is_sound : IsWellFormed declared
declared_is_sound =
    formed [] 0 (of_each (λ (c : TracedCall). IsCallWithin 1 c.call) [] (λ c there. absurd there)) (of_each (λ (c : TracedCall). c.thread ≤ last_thread) [] (λ c there. absurd there))
    (of_each (λ (c : TracedCall). c.round ≤ 0) [] (λ c there. absurd there)) (λ i j d low inside. absurd (omega (arith, inside)))

pub traces_are_sound : GeneratedTracesAreSound
traces_are_sound load limits = (
  formed (generated_calls load) 1 (of_each (λ (c : TracedCall). IsCallWithin 1 c.call) (generated_calls load) (λ c there. within load.threads c (all_shaped load limits c there)))
      (of_each (λ (c : TracedCall). c.thread ≤ last_thread) (generated_calls load) (low_thread load limits)) (of_each (λ (c : TracedCall). c.round ≤ 1) (generated_calls load) (low_round load)) (all_rounds load),
  generated_in_lines load,
  generated_few load (generated load) limits refl,
)

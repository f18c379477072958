use Rattle.std.proofs.Common.{◌≡◌, ◌≤◌, ℕ, List, ◌+◌, ◌<◌, drop, length, get_or, sym, ap, ◌∙◌, arith}
use Rattle.std.specs.Prelude.{All}
use Rattle.std.proofs.lemmas.Bool.{le-ltb}
use Rattle.std.proofs.lemmas.List.{drop-drop, get_or-drop, length-set}
use Rattle.nv_trace.specs.Grammar.{last_thread}
use Rattle.nv_trace.specs.declared.trace_call.TracedCall.{TracedCall}
use Rattle.nv_trace.proofs.Begun.{one_dropped, one_kept, swapped_rest, swapped_long}
use Rattle.nv_trace.proofs.trace.drop_first.Goals as goal
use Rattle.nv_trace.proofs.trace.drop_first.Goals.{then-left-thread-gt0, else-left-thread-gt0}

-- the threads of the calls that are still to come are as they were
few_threads : (calls old : List TracedCall) (i : ℕ) (call : TracedCall) → drop i calls ≡ drop i old → i < length old → call ≡ get_or calls i call → All (λ (call : TracedCall). call.thread ≤ last_thread) old → call.thread ≤ last_thread
few_threads calls old i call rest inside read few =
    let none : i + 0 ≡ i = omega arith in
    let same : call ≡ get_or old i call =
    read ∙ ap (λ i. get_or calls i call) (sym none) ∙ sym (get_or-drop i calls 0 call) ∙ ap (λ calls. get_or calls 0 call) rest ∙ get_or-drop i old 0 call ∙ ap (λ i. get_or old i call) none in
    omega (arith, ap (λ (call : TracedCall). call.thread) same, few i call inside)

-- what is still to come behind one more
next_rest : (calls old : List TracedCall) (i : ℕ) → drop i calls ≡ drop i old → drop (i + 1) calls ≡ drop (i + 1) old
next_rest calls old i rest = sym (drop-drop 1 i calls) ∙ ap (drop 1) rest ∙ drop-drop 1 i old

pub offset_bounds-left-thread : goal.offset_bounds-left-thread
offset_bounds-left-thread c =
    let few = few_threads c.loop-i.calls.items c.args.calls.now.items c.loop-i.i c.index.result.now c.loop-i.invariant.rest (omega arith) c.index.ensures c.requires in
    omega (arith, few)

pub bounds-left-thread : goal.bounds-left-thread
bounds-left-thread c =
    let few = few_threads c.loop-i.calls.items c.args.calls.now.items c.loop-i.i c.index.result.now c.loop-i.invariant.rest (omega arith) c.index.ensures c.requires in
    omega (arith, few)

pub loop-i-preserved : goal.loop-i-preserved
loop-i-preserved c =
    let left = c.loop-i.left in
    let calls = c.loop-i.calls.items in
    let inside : c.loop-i.i < length calls = omega (arith, c.loop-i.invariant.long) in
    elim c.if-left-thread-gt0.branch [
      | then-left-thread-gt0 w ↦ rw (w.calls-is, w.left-is, w.kept-is) (record {
        behind = sym (one_dropped left calls c.loop-i.kept c.loop-i.i c.index.result.now inside c.index.ensures w.if-left-thread-gt0.true) ∙ c.loop-i.invariant.behind;
        rest = next_rest calls c.args.calls.now.items c.loop-i.i c.loop-i.invariant.rest;
        few = omega arith;
        long = c.loop-i.invariant.long;
        eight = length-set left _ _ ∙ c.loop-i.invariant.eight;
      })
      | else-left-thread-gt0 w ↦ rw (w.calls-is, w.left-is, w.kept-is) (record {
        behind = sym (one_kept left calls c.loop-i.kept c.loop-i.i c.index.result.now inside c.index.ensures w.swap.new.self.items c.loop-i.invariant.few (le-ltb 0 _ (omega arith)) w.swap.ensures.by_index) ∙ c.loop-i.invariant.behind;
        rest = swapped_rest calls w.swap.new.self.items c.loop-i.kept c.loop-i.i c.index.result.now c.loop-i.invariant.few w.swap.ensures.by_index ∙ next_rest calls c.args.calls.now.items c.loop-i.i c.loop-i.invariant.rest;
        few = omega arith;
        long = swapped_long calls w.swap.new.self.items c.loop-i.kept c.loop-i.i c.index.result.now w.swap.ensures.by_index ∙ c.loop-i.invariant.long;
        eight = c.loop-i.invariant.eight;
      })
    ]

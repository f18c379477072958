-- One thread more has its owner.
use Rattle.std.proofs.Common.{◌≡◌, [], ◌∷◌, ◌++◌, length, map, sym, ap, subst, ◌∙◌, arith}
use Rattle.std.specs.Prelude.{All}
use Rattle.std.specs.List.{range_with_len}
use Rattle.std.proofs.lemmas.List.{length_push, map_push}
use Rattle.std.proofs.lemmas.List.Elements.{All-push}
use Rattle.nv_runner.specs.Owners.{AreShares}
use Rattle.nv_runner.proofs.RoundLists.{range_push}
use Rattle.nv_load.specs.Generated.{second_round, thread_calls}
use Rattle.nv_load.specs.Generators.{generator_left, generator_made}
use Rattle.nv_load.specs.declared.generator.Generator.{Generator}
use Rattle.nv_load.proofs.OwnerLaws.{second_shares}
use Rattle.nv_load.proofs.running.second_owners.Goals as goal

pub loop-thread-preserved : goal.loop-thread-preserved
loop-thread-preserved c =
    let before = c.loop-thread.owners.items in
    let owner : Generator = c.second.result in
    let thread = c.loop-thread.thread in
    let calls = thread_calls c.args.load in
    let more = c.in_ok-push.ensures.items in
    let so_far = c.loop-thread.invariant in
    record {
      many = omega (arith, ap length more, length_push before owner, so_far.many);
      fresh = subst (All (λ (o : Generator). generator_made o ≡ [])) (sym more) (All-push (λ (o : Generator). generator_made o ≡ []) before owner so_far.fresh c.second.ensures.made);
      left = ap (map generator_left) more ∙ map_push generator_left before owner ∙ ap (λ l. l ++ generator_left owner ∷ []) so_far.left ∙ ap (λ l. map calls (range_with_len 0 thread) ++ l ∷ []) c.second.ensures.left
          ∙ sym (ap (map calls) (range_push thread) ∙ map_push calls (range_with_len 0 thread) thread);
    }

pub returns-clause-shares : goal.returns-clause-shares
returns-clause-shares c =
    let thread = c.loop-thread.thread in
    let all : thread ≡ c.args.load.threads = omega (arith, c.loop-thread-test.false, c.loop-thread.auto.thread-end) in
    subst (AreShares (second_round c.args.load) 0) (sym (c.loop-thread.invariant.left ∙ ap (λ n. map (thread_calls c.args.load) (range_with_len 0 n)) all)) (second_shares c.args.load)

-- One thread more has its share.
use Rattle.std.proofs.Common.{◌≡◌, ◌+◌, [], length, map, sym, ap, subst, ◌∙◌, arith}
use Rattle.std.specs.Prelude.{All}
use Rattle.std.proofs.lemmas.List.{length-map, length_push, map_push}
use Rattle.std.proofs.lemmas.List.Elements.{All-push}
use Rattle.nv_runner.specs.declared.call_list.CallList.{CallList}
use Rattle.nv_runner.specs.Owners.{AreShares, list_left, list_made}
use Rattle.nv_runner.specs.Shifts.{calls_of_thread}
use Rattle.nv_runner.proofs.OwnerLaws.{shares_push}
use Rattle.nv_runner.proofs.rounds.hand_out.Goals as goal

pub loop-thread-preserved : goal.loop-thread-preserved
loop-thread-preserved c =
    let before = c.loop-thread.lists.items in
    let calls = c.args.calls.now in
    let list : CallList = c.new.result in
    let more = c.in_ok-push.ensures.items in
    let so_far = c.loop-thread.invariant in
    let place : 0 + length (map list_left before) ≡ c.loop-thread.thread = omega (arith, length-map before list_left, so_far.count) in
    record {
      count = omega (arith, ap length more, length_push before list, so_far.count);
      fresh = subst (All (λ (l : CallList). list_made l ≡ [])) (sym more) (All-push (λ (l : CallList). list_made l ≡ []) before list so_far.fresh c.new.ensures.made);
      shares = subst (AreShares calls 0) (sym (ap (map list_left) more ∙ map_push list_left before list))
          (shares_push calls 0 (map list_left before) (list_left list) so_far.shares (c.new.ensures.left ∙ ap (λ n. calls_of_thread n calls) (sym place)));
    }

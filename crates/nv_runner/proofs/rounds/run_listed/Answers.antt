-- The calls of the round are those of its owners, put down behind those before it.
use Rattle.std.proofs.Common.{List, ◌++◌, length, sym, ap, subst, arith}
use Rattle.std.specs.Prelude.{IsPermutation}
use Rattle.std.specs.List.{flat_map}
use Rattle.nv_runner.specs.Lists.{MadeCall, made_calls}
use Rattle.nv_runner.specs.Owners.{list_made}
use Rattle.nv_runner.specs.Rounds.{IsNextRound}
use Rattle.nv_runner.proofs.ListedLaws.{none_listed, on_ok}
use Rattle.nv_runner.proofs.rounds.run_listed.Goals as goal

pub put_down-requires : goal.put_down-requires
put_down-requires g c =
    let before = c.requires.next.0 in
    let next : IsNextRound (length c.in_ok-lists.lists.items) c.args.calls.now before = subst (λ n. IsNextRound n c.args.calls.now before) (sym c.in_ok-lists.ensures.count) c.requires.next.1 in
    let ran = c.run_round-result.ensures.run c.args.calls.now before c.in_ok-lists.ensures.shares next c.requires.next.2 in
    record { room = omega (arith, ran.few, ap length c.reserve.ensures.items, c.in_ok-reserve.ensures.ok) }

pub returns-clause-ran : goal.returns-clause-ran
returns-clause-ran g c = λ before is_next run.
    let calls = c.args.calls.now in
    let made : List MadeCall = flat_map list_made c.run_round-result.new.done.items in
    let next : IsNextRound (length c.in_ok-lists.lists.items) calls before = subst (λ n. IsNextRound n calls before) (sym c.in_ok-lists.ensures.count) is_next in
    record {
      made = made;
      ran = c.run_round-result.ensures.run calls before c.in_ok-lists.ensures.shares next run;
      listed = subst (λ l. IsPermutation (made_calls c.put_down.new.answered.items) (made ++ made_calls l)) c.reserve.ensures.items c.put_down.ensures;
      all = on_ok c.run_round-result.result c.run_round-result.ensures.all (λ all. all calls before c.in_ok-lists.ensures.shares next);
    }

pub returns-in_err-reserve-clause-ran : goal.returns-in_err-reserve-clause-ran
returns-in_err-reserve-clause-ran g c = λ before next run.
    none_listed c.args.mount.now.fds c.args.batch c.args.calls.now before c.args.zero.now (made_calls c.args.answered.now.items) (made_calls c.reserve.new.self.items) c.from_residual.result c.from_residual.ensures.0 run
    (ap made_calls c.reserve.ensures.items)

pub returns-in_err-lists-clause-ran : goal.returns-in_err-lists-clause-ran
returns-in_err-lists-clause-ran g c = λ before next run.
    none_listed c.args.mount.now.fds c.args.batch c.args.calls.now before c.args.zero.now (made_calls c.args.answered.now.items) (made_calls c.reserve.new.self.items) c.from_residual-in_err-lists.result
    c.from_residual-in_err-lists.ensures.0 run (ap made_calls c.reserve.ensures.items)

-- The workers of the round are shifts behind all before them.
use Rattle.std.proofs.Common.{◌<◌, ◌≤◌, List, ◌++◌, length, map, refl, ap, subst, ◌∙◌, arith, length-append}
use Rattle.std.specs.Prelude.{All, IsPermutation, OnOk, Result, Ok, Err}
use Rattle.std.specs.List.{flat_map}
use Rattle.std.proofs.lemmas.List.{length-map}
use Rattle.std.proofs.lemmas.List.Elements.{All-weaker}
use Rattle.std.proofs.lemmas.List.Sorted.{IsPermutation-append, IsPermutation-refl}
use Rattle.nv_table.specs.passes.Seats.{past_of}
use Rattle.nv_trace.specs.declared.trace_call.TracedCall.{TracedCall}
use Rattle.nv_runner.specs.Lists.{MadeCall}
use Rattle.nv_runner.specs.Workers.{WorkerState}
use Rattle.nv_runner.proofs.PassLaws.{still_on}
use Rattle.nv_runner.proofs.ServedLaws.{all_made, few_listed, served_within}
use Rattle.nv_runner.proofs.ShiftLaws.{run_on}
use Rattle.nv_runner.proofs.round.run_round.Goals as goal

both_ok : {T E A B C : Type 0} (result : Result T E) → OnOk result A → OnOk result B → (A → B → C) → OnOk result C
both_ok (Ok value) one other both = both one other
both_ok (Err error) one other both = tt

-- a thread of the round is below eight
few_threads : (count : _) (calls : List TracedCall) → count ≤ 8 → All (λ call. call.thread < count) calls → All (λ call. call.thread < 8) calls
few_threads count calls few below = All-weaker (λ (c : TracedCall). c.thread < count) (λ (c : TracedCall). c.thread < 8) (λ c less. omega (arith, few, less)) calls below

pub returns-clause-run : goal.returns-clause-run
returns-clause-run g c =
    let W = WorkerState g.row.L.Denot g.row.B.Denot in
    let ended = c.args.zero.now.view.ended in
    let workers : List W = c.serve-result.new.workers.items in
    let made : List MadeCall = flat_map g.C.Calls.made c.take_in_all.new.owners.items in
    let listed : IsPermutation made (flat_map (λ (w : W). w.made) workers) =
    subst (λ l. IsPermutation made (flat_map g.C.Calls.made l ++ flat_map (λ (w : W). w.made) workers)) (c.reserve.ensures.items ∙ c.requires.none) c.take_in_all.ensures.owners in
    λ calls before shares next run.
    let served = c.serve-result.ensures.served calls (few_threads (length c.args.owners.items) calls c.requires.threads next.below) shares in
    record {
      run = run_on c.args.mount.now c.args.batch ended calls next.round next.one next.line_order before (made ++ before)
          c.args.zero.now c.take_in_all.new.zero run c.requires.zero.board.same_mount refl next.before workers served c.serve-result.ensures.distinct
          c.take_in_all.ensures.zero.board.same_mount (c.take_in_all.ensures.ended ∙ ap (λ l. map (λ (w : W). past_of w.pass.view) workers ++ l) c.serve-result.ensures.ended)
          (IsPermutation-append made (flat_map (λ (w : W). w.made) workers) before before listed (IsPermutation-refl before));
      within = served_within c.args.mount.now c.args.batch ended calls workers made served listed;
      few = few_listed calls c.args.mount.now c.args.batch ended workers made served c.serve-result.ensures.distinct listed;
    }

pub returns-clause-all_in : goal.returns-clause-all_in
returns-clause-all_in g c =
    let W = WorkerState g.row.L.Denot g.row.B.Denot in
    let workers : List W = c.serve-result.new.workers.items in
    let pasts = map (λ (w : W). past_of w.pass.view) workers in
    omega (
      arith,
      ap length c.take_in_all.ensures.ended,
      length-append pasts c.serve-result.new.zero.view.ended,
      length-map workers (λ (w : W). past_of w.pass.view),
      ap length c.serve-result.ensures.ended,
      c.take_in_all.ensures.made,
      c.serve-result.ensures.made,
      c.requires.all_in,
    )

pub returns-clause-all : goal.returns-clause-all
returns-clause-all g c =
    let W = WorkerState g.row.L.Denot g.row.B.Denot in
    let workers : List W = c.serve-result.new.workers.items in
    let made : List MadeCall = flat_map g.C.Calls.made c.take_in_all.new.owners.items in
    let listed : IsPermutation made (flat_map (λ (w : W). w.made) workers) =
    subst (λ l. IsPermutation made (flat_map g.C.Calls.made l ++ flat_map (λ (w : W). w.made) workers)) (c.reserve.ensures.items ∙ c.requires.none) c.take_in_all.ensures.owners in
    both_ok c.serve-result.result c.serve-result.ensures.crew c.serve-result.ensures.all
    (λ crew all. λ calls before shares next.
    all_made (length c.args.owners.items) c.args.batch calls workers made next.below crew c.serve-result.ensures.distinct
    (all calls (few_threads (length c.args.owners.items) calls c.requires.threads next.below) shares) listed)

pub returns-clause-still : goal.returns-clause-still
returns-clause-still g c = still_on c.args.zero.now c.serve-result.new.zero c.take_in_all.new.zero c.serve-result.ensures.still c.take_in_all.ensures.still

pub returns-clause-crew : goal.returns-clause-crew
returns-clause-crew g c =
    let workers = c.serve-result.new.workers.items in
    both_ok c.serve-result.result c.serve-result.ensures.crew c.serve-result.ensures.crew
    (λ crew _. omega (arith, ap length crew, length-map workers (λ (w : WorkerState g.row.L.Denot g.row.B.Denot). w.thread), c.take_in_all.ensures.made, c.serve-result.ensures.made))

-- Its part is done by its calls, or, as the cleaner, which has none, by batches.
use Rattle.std.proofs.Common.{◌≡◌, true, [], sym, ap, subst, ◌∙◌}
use Rattle.std.specs.Prelude.{OnOk, Result, Ok, Err, is_ok, not}
use Rattle.nv_runner.specs.Owners.{if_owner}
use Rattle.nv_runner.specs.Workers.{HasDonePart, WorkerState}
use Rattle.nv_runner.proofs.ServedLaws.{cleaned_done, cleaner_all, no_owner, served_cleaned, served_done, served_worked, worker_all}
use Rattle.nv_runner.proofs.worker.Worker.serve.Goals as goal

-- what went well did all
all_where_well : {T E A : Type 0} (result : Result T E) → OnOk result A → is_ok result ≡ true → A
all_where_well (Ok done) all well = all
all_where_well (Err error) all well = absurd (cc)

pub returns : goal.returns
returns g c =
    let W = WorkerState g.row.L.Denot g.row.B.Denot in
    let mount = c.args.mount.now in
    let batch = c.args.batch in
    let old : W = c.args.self.now in
    let now : W = c.work-result.new.self in
    let inside = c.self-2.inside in
    let done = c.is_ok-self-inside.result in
    let left : W = record { thread = inside.thread; pass = inside.pass; workspace = inside.workspace; made = if_owner g.C.Calls.made inside.calls; left = if_owner g.C.Calls.left inside.calls; done = done } in
    let same : record now { done = done } ≡ left = cc (ap (λ (w : W). record w { done = done }) c.self-2.view_is) in
    let worked = c.work-result.ensures.worked in
    let ready = worked.ready in
    subst (HasDonePart mount batch old) same record {
      thread = worked.thread;
      ready = record { board = ready.board; other = ready.other; idle = ready.idle; workspace = ready.workspace; bare = ready.bare };
      served = λ ended calls is share. served_done mount batch ended calls now done (served_worked mount batch ended calls old now is share worked);
      all = λ calls share well. worker_all calls old (record now { done = done }) share worked.thread
          (all_where_well c.work-result.result c.work-result.ensures.all (sym c.is_ok-self-inside.ensures.value ∙ well));
    }

pub returns-then-is_none : goal.returns-then-is_none
returns-then-is_none g c =
    let W = WorkerState g.row.L.Denot g.row.B.Denot in
    let mount = c.args.mount.now in
    let batch = c.args.batch in
    let old : W = c.args.self.now in
    let now : W = c.clean.new.self in
    let inside = c.self-then-is_none.inside in
    let left : W = record { thread = inside.thread; pass = inside.pass; workspace = inside.workspace; made = if_owner g.C.Calls.made inside.calls; left = if_owner g.C.Calls.left inside.calls; done = true } in
    let same : record now { done = true } ≡ left = cc (ap (λ (w : W). record w { done = true }) c.self-then-is_none.view_is) in
    let cleaned = c.clean.ensures.cleaned in
    let ready = cleaned.ready in
    let none : old.left ≡ [] = ap (λ (w : W). w.left) (sym c.self.view_is) ∙ no_owner g.C.Calls.left c.self.inside.calls (c.is_none.ensures ∙ ap not c.if-is_none.true) in
    subst (HasDonePart mount batch old) same record {
      thread = cleaned.thread;
      ready = record { board = ready.board; other = ready.other; idle = ready.idle; workspace = ready.workspace; bare = ready.bare };
      served = λ ended calls is share. served_cleaned mount batch ended calls old (record now { done = true }) is (cleaned_done mount batch old now true cleaned);
      all = λ calls share well. cleaner_all calls old (record now { done = true }) share none cleaned.thread (cleaned.made ∙ c.requires.none);
    }

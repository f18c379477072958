-- The worker stands behind the others.
use Rattle.std.proofs.Common.{◌∷◌, [], ◌++◌, ap, ◌∙◌}
use Rattle.nv_runner.proofs.hiring.hire_one.Goals as goal

pub returns-clause-hired : goal.returns-clause-hired
returns-clause-hired g c = record {
  worker = c.in_ok-worker.worker;
  more = c.push_reserved.ensures.items ∙ ap (λ l. l ++ c.in_ok-worker.worker ∷ []) c.reserve.ensures.items;
  is_new = c.in_ok-worker.ensures.worker;
  thread = c.in_ok-worker.ensures.thread;
  left = c.in_ok-worker.ensures.left;
  made = c.in_ok-worker.ensures.made;
}

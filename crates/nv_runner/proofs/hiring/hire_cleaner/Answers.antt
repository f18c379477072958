-- The cleaner has no calls.
use Rattle.std.proofs.Common.{List, [], ◌∷◌, ◌++◌, sym, ap, subst, ◌∙◌, arith}
use Rattle.std.specs.Prelude.{All}
use Rattle.std.proofs.lemmas.List.Elements.{All-push}
use Rattle.nv_runner.specs.Shifts.{calls_of_thread}
use Rattle.nv_runner.specs.Workers.{HasShare, WorkerState}
use Rattle.nv_runner.proofs.ServedLaws.{none_of_thread}
use Rattle.nv_runner.proofs.hiring.hire_cleaner.Goals as goal

pub returns-in_ok-hire_one-clause-shares : goal.returns-in_ok-hire_one-clause-shares
returns-in_ok-hire_one-clause-shares g c = λ calls below.
    let W = WorkerState g.row.L.Denot g.row.B.Denot in
    let hired = c.in_ok-hire_one.ensures.hired in
    let share : HasShare calls hired.worker = hired.left ∙ sym (none_of_thread 8 calls below) ∙ ap (λ n. calls_of_thread n calls) (sym hired.thread) in
    let one : All (HasShare calls) ([] ++ hired.worker ∷ []) = All-push (HasShare calls) [] hired.worker (λ k d inside. absurd (omega (arith, inside))) share in
    subst (All (HasShare calls)) (sym (hired.more ∙ ap (λ (l : List W). l ++ hired.worker ∷ []) c.requires.none)) one

-- What is said of the leader's ENTRY, or of a follower's.
use Rattle.std.proofs.Common.{sym, ap, ◌∙◌}
use Rattle.nv_clean.specs.Cleaning.{CleanState}
use Rattle.nv_clean.specs.CleanSteps.{refusal_at}
use Rattle.nv_clean.proofs.batch.CleanMachine.follow_entries.Goals as goal

pub returns-in-LoadEntry-clause-refusal : goal.returns-in-LoadEntry-clause-refusal
returns-in-LoadEntry-clause-refusal c sizes =
    let m = c.args.self.now in
    c.look.ensures.refusal sizes
    ∙ ap (λ control. refusal_at sizes m.batch m.refusal control c.args.found) (sym c.in-LoadEntry.is ∙ ap (λ (m : CleanState). m.control) c.self.view_is)

-- No batch opens a write.
use Rattle.std.proofs.Common.{◌≡◌, subst}
use Rattle.nv_calls.specs.histories.Faults.{open_writes}
use Rattle.nv_session.specs.Sessions.{FirstState}
use Rattle.nv_own.proofs.OwnLaws.{cleaned_opens}
use Rattle.nv_own.proofs.own.OwnFiles.clean_all.Goals as goal

pub returns-clause-opens : goal.returns-clause-opens
returns-clause-opens g c =
    subst (λ (first : FirstState). open_writes c.clean_all-result.new.self.pass ≡ open_writes first.pass) c.self.view_is
    (cleaned_opens c.args.most c.self.inside.first.pass c.clean_all-result.new.self.pass c.clean_all-result.result c.clean_all-result.ensures.cleaned)

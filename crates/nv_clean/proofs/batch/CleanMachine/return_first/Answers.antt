-- It goes on behind the write that was refused.
use Rattle.std.proofs.Common.{◌+◌, ◌∙◌, ap}
use Rattle.nv_clean.specs.declared.batch.CleanControl.TheVariants as cleans
use Rattle.nv_clean.specs.Cleaning.{CleanState}
use Rattle.nv_clean.proofs.WriteLaws.{return_behind, return_one}
use Rattle.nv_clean.proofs.batch.CleanMachine.return_first.Goals as goal

pub returns-clause-one : goal.returns-clause-one
returns-clause-one g c start was behind =
    return_one c.args.self.now c.args.at c.requires.at c.requires.group _ (ap (λ (m : CleanState). record m { control = cleans.ReturnEntry 0 (c.args.at + 1) }) (c.self.view_is ∙ c.refuse.ensures)) c.args.board.now.opened.sizes c.step_behind.new.self was c.step_behind.new.pass
    (c.step_behind.ensures.one start was (return_behind c.args.self.now c.args.at c.requires.at c.requires.group _ (ap (λ (m : CleanState). record m { control = cleans.ReturnEntry 0 (c.args.at + 1) }) (c.self.view_is ∙ c.refuse.ensures)) start was c.args.pass.now behind)) c.step_behind.ensures.refusal

pub returns-clause-way : goal.returns-clause-way
returns-clause-way g c start was behind = c.step_behind.ensures.way start was (return_behind c.args.self.now c.args.at c.requires.at c.requires.group _ (ap (λ (m : CleanState). record m { control = cleans.ReturnEntry 0 (c.args.at + 1) }) (c.self.view_is ∙ c.refuse.ensures)) start was c.args.pass.now behind)

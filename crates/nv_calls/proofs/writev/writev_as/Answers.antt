-- Its parts are joined.
use Rattle.std.proofs.Common.{length, sym, ap, subst, ◌∙◌}
use Rattle.nv_plain.specs.declared.call.FileCall.TheVariants.{Write}
use Rattle.nv_calls.specs.calls.EarlyRefusals.{IsInFile}
use Rattle.nv_calls.proofs.writev.writev_as.Goals as goal

pub write_as-requires-clause-made : goal.write_as-requires-clause-made
write_as-requires-clause-made g c = c.requires.made ∙ ap (Write c.args.file c.args.at) (sym c.joined.ensures)

pub write_as-requires-clause-here : goal.write_as-requires-clause-here
write_as-requires-clause-here g c = subst (λ bytes. IsInFile c.args.board.now.opened.sizes c.args.file c.args.at (length bytes)) (sym c.joined.ensures) c.requires.here

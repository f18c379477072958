use Rattle.std.proofs.Common.{◌+◌, ◌≤◌, length, refl, sym, subst, arith}
use Rattle.nv_trace.specs.Shape.{IsNumberedBelow}
use Rattle.nv_trace.specs.Traced.{Traced, token_count}
use Rattle.nv_trace.proofs.Numbered.{numbered_none}
use Rattle.nv_trace.proofs.WholeRounds.{at_first}
use Rattle.nv_trace.proofs.reader.read_trace.Goals as goal

pub loop-reader-init : goal.loop-reader-init
loop-reader-init g c = record {
  within = c.in_ok-reader.ensures.within;
  ends = at_first c.args.form (g.I.Source.left c.args.src.now) c.new-trace.result c.in_ok-reader.reader c.new-trace.ensures c.in_ok-reader.ensures.number c.in_ok-reader.ensures.within.bare c.in_ok-reader.ensures.taken c.in_ok-reader.ensures.none;
  faults = refl;
  form = grind arith;
  numbered = subst (IsNumberedBelow c.in_ok-reader.reader.pending.number) (sym c.new-trace.ensures) (numbered_none c.args.form c.in_ok-reader.reader.pending.number (omega (arith, c.in_ok-reader.ensures.number)));
  tokens = subst (λ (trace : Traced). token_count trace + length trace.lives ≤ c.in_ok-reader.reader.taken) (sym c.new-trace.ensures) (omega arith);
}

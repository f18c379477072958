use Rattle.std.proofs.Common.{◌≡◌, Some, map}
use Rattle.std.specs.Prelude.{All}
use Rattle.nv_trace.specs.Shape.{IsLineTokenWithin}
use Rattle.nv_trace.specs.Tokens.{tokens_of}
use Rattle.nv_trace.proofs.steps.tokens.Given as goal

abbrev pub invariant-loop-field : goal.invariant-loop-field
invariant-loop-field l = record {
  read : tokens_of (map (λ field. field.now) l.yielded) ≡ Some l.tokens.items;
  within : All IsLineTokenWithin l.tokens.items;
}

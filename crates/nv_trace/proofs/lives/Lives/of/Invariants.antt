use Rattle.std.proofs.Common.{◌≡◌, [], take}
use Rattle.nv_trace.specs.Lives.{lives_behind}
use Rattle.nv_trace.proofs.lives.Lives.of.Given as goal

abbrev pub invariant-loop-token : goal.invariant-loop-token
invariant-loop-token l = l.lives ≡ lives_behind (record { ended = []; tokens = [] }) (take l.token-index l.tokens)

-- The calls so far are of the first one's round.
use Rattle.std.proofs.Common.{◌≡◌, take}
use Rattle.std.specs.Prelude.{All}
use Rattle.nv_runner.proofs.rounds.round_len.Given as goal

abbrev pub invariant-loop-place : goal.invariant-loop-place
invariant-loop-place l = All (λ call. call.round ≡ l.round) (take l.place l.calls)

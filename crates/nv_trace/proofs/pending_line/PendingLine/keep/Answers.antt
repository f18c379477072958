use Rattle.std.proofs.Common.{◌≡◌, ◌++◌, ◌∙◌, ap, take, min, length}
use Rattle.nv_trace.specs.Pending.{ending_after, has_round_behind, room_for}
use Rattle.nv_trace.proofs.Endings.{kept_ending}
use Rattle.nv_trace.proofs.RoundEnds.{kept_round}
use Rattle.nv_trace.proofs.pending_line.PendingLine.keep.Goals as goal

pub returns-clause-taken : goal.returns-clause-taken
returns-clause-taken c =
    let pending = c.args.self.now in
    let part = c.args.part.now in
    let room : c.room.result ≡ room_for pending.line.items part = c.room.ensures ∙ ap (λ line. room_for line part) c.deref.ensures.value in
    let count : c.min-count.result ≡ min (length part) (room_for pending.line.items part) = c.min-count.ensures ∙ ap (min (length part)) room in
    let items : c.extend_from_slice.new.self.items ≡ pending.line.items ++ take (min (length part) (room_for pending.line.items part)) part =
    c.in_ok-extend_from_slice.ensures.items ∙ ap (λ n. pending.line.items ++ take n part) count in
    λ trace. record {
      lines = λ whole rest. ap (λ line. ending_after whole trace pending.number line rest) items ∙ kept_ending whole trace pending.number pending.line.items part rest c.requires;
      no_round = λ rest. ap (λ line. has_round_behind line rest) items ∙ kept_round pending.line.items part rest c.requires;
    }

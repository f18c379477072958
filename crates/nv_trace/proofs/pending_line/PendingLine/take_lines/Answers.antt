use Rattle.std.proofs.Common.{◌≡◌, ◌+◌, ◌<◌, ◌≤◌, [], ◌∷◌, ◌++◌, drop, get_or, take, length, true, false, ◌∙◌, ap, sym, subst, arith}
use Rattle.std.proofs.lemmas.List.{take-append-drop, take_rest, length-drop}
use Rattle.std.proofs.lemmas.Result.{err_from_is_err_and}
use Rattle.nv_trace.specs.Pending.{HasEndedRound, HasTaken}
use Rattle.nv_trace.specs.Rounds.{ends_round}
use Rattle.nv_trace.proofs.Parts.{feed_cut, feed_taken}
use Rattle.nv_trace.proofs.RoundEnds.{line_taken, round_taken, stuck_at, taken_on}
use Rattle.nv_trace.proofs.pending_line.PendingLine.take_lines.Goals as goal

pub returns-in_err-end_line-clause-bad : goal.returns-in_err-end_line-clause-bad
returns-in_err-end_line-clause-bad c =
    let p = err_from_is_err_and c.from_residual-in_err-end_line.result c.from_residual-in_err-end_line.ensures.1 in
    let bytes = c.args.bytes.now in
    let used = c.loop-end.used in
    let end = c.in-Some.end in
    let rest = take_rest bytes used in
    let within : end < length (drop used bytes) = subst (λ rest. end < length rest) rest c.in-Some.ensures.within in
    let feed : get_or (drop used bytes) end 0 ≡ 10 = subst (λ rest. get_or rest end 0 ≡ 10) rest c.in-Some.ensures.feed in
    let kept : HasTaken c.loop-end.trace c.loop-end.self (take end (drop used bytes)) c.loop-end.trace c.keep.new.self =
    subst (λ rest. HasTaken c.loop-end.trace c.loop-end.self (take end rest) c.loop-end.trace c.keep.new.self) rest (c.in_ok-keep.ensures.taken c.loop-end.trace) in
    rw (p.1, p.2)
    (stuck_at bytes (drop (end + 1) (drop used bytes)) c.end_line.new.trace c.in_err-end_line.field-0.0 (taken_on c.loop-end.invariant.taken kept) c.in_err-end_line.ensures.unchanged (feed_cut bytes used end within feed) c.in_err-end_line.ensures.bad)

pub returns-then-last-clause-taken : goal.returns-then-last-clause-taken
returns-then-last-clause-taken c =
    let bytes = c.args.bytes.now in
    let used = c.loop-end.used in
    let end = c.in-Some.end in
    let rest = take_rest bytes used in
    let within : end < length (drop used bytes) = subst (λ rest. end < length rest) rest c.in-Some.ensures.within in
    let feed : get_or (drop used bytes) end 0 ≡ 10 = subst (λ rest. get_or rest end 0 ≡ 10) rest c.in-Some.ensures.feed in
    let kept : HasTaken c.loop-end.trace c.loop-end.self (take end (drop used bytes)) c.loop-end.trace c.keep.new.self =
    subst (λ rest. HasTaken c.loop-end.trace c.loop-end.self (take end rest) c.loop-end.trace c.keep.new.self) rest (c.in_ok-keep.ensures.taken c.loop-end.trace) in
    let this : ends_round c.keep.new.self.line.items ≡ true = ap ends_round (sym c.deref.ensures.value) ∙ sym c.says-last.ensures ∙ c.if-last.true in
    let ended : HasEndedRound c.args.trace.now c.args.self.now ((take used bytes ++ take end (drop used bytes)) ++ 10 ∷ []) c.end_line.new.trace c.end_line.new.self =
    round_taken (taken_on c.loop-end.invariant.taken kept) c.in_ok-end_line.ensures.lines this c.in_ok-end_line.ensures.cleared in
    let inside : used + (end + 1) ≤ length bytes = omega (arith, within, length-drop used bytes, c.loop-end.invariant.used) in
    (inside, subst (λ front. HasEndedRound c.args.trace.now c.args.self.now front c.end_line.new.trace c.end_line.new.self) (sym (feed_taken bytes used end within feed)) ended)

pub loop-end-preserved : goal.loop-end-preserved
loop-end-preserved c =
    let bytes = c.args.bytes.now in
    let used = c.loop-end.used in
    let end = c.in-Some.end in
    let rest = take_rest bytes used in
    let within : end < length (drop used bytes) = subst (λ rest. end < length rest) rest c.in-Some.ensures.within in
    let feed : get_or (drop used bytes) end 0 ≡ 10 = subst (λ rest. get_or rest end 0 ≡ 10) rest c.in-Some.ensures.feed in
    let kept : HasTaken c.loop-end.trace c.loop-end.self (take end (drop used bytes)) c.loop-end.trace c.keep.new.self =
    subst (λ rest. HasTaken c.loop-end.trace c.loop-end.self (take end rest) c.loop-end.trace c.keep.new.self) rest (c.in_ok-keep.ensures.taken c.loop-end.trace) in
    let other : ends_round c.keep.new.self.line.items ≡ false = ap ends_round (sym c.deref.ensures.value) ∙ sym c.says-last.ensures ∙ c.if-last.false in
    let taken : HasTaken c.args.trace.now c.args.self.now ((take used bytes ++ take end (drop used bytes)) ++ 10 ∷ []) c.end_line.new.trace c.end_line.new.self =
    taken_on (taken_on c.loop-end.invariant.taken kept) (line_taken c.in_ok-end_line.ensures.lines other c.in_ok-end_line.ensures.cleared) in
    let inside : used + (end + 1) ≤ length bytes = omega (arith, within, length-drop used bytes, c.loop-end.invariant.used) in
    record {
      used = inside;
      taken = subst (λ front. HasTaken c.args.trace.now c.args.self.now front c.end_line.new.trace c.end_line.new.self) (sym (feed_taken bytes used end within feed)) taken;
      few = grind arith;
      onward = grind arith;
      form = grind arith;
      numbered = grind arith;
    }

pub returns-clause-taken : goal.returns-clause-taken
returns-clause-taken c =
    let bytes = c.args.bytes.now in
    let used = c.loop-end.used in
    subst (λ front. HasTaken c.args.trace.now c.args.self.now front c.loop-end.trace c.keep-2.new.self) (ap (λ rest. take used bytes ++ rest) (take_rest bytes used) ∙ take-append-drop used bytes)
    (taken_on c.loop-end.invariant.taken (c.in_ok-keep-2.ensures.taken c.loop-end.trace))

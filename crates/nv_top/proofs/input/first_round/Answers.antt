use Rattle.std.proofs.Common.{◌≡◌, ◌++◌, ℕ, List, Ok, Some, [], ap, subst}
use Rattle.std.specs.Prelude.{IfSome}
use Rattle.nv_trace.specs.NextRound.{IsLastRound, IsNextRound, IsRoundRefused, ahead}
use Rattle.nv_trace.specs.FirstRounds.{TellsOfInput}
use Rattle.nv_trace.specs.Refused.{IsRefusedAs}
use Rattle.nv_top.specs.Rounds.{HasNoRounds}
use Rattle.nv_top.specs.Stops.{stop_of_read}
use Rattle.nv_trace.specs.Traced.{Traced}
use Rattle.nv_trace.specs.declared.trace.Form.TheVariants as forms
use Rattle.nv_top.proofs.InputLemmas.{begun_of, first_refused, if_err, none_first}
use Rattle.nv_top.proofs.input.first_round.Goals as goal

pub returns-in_err-more-clause-refused : goal.returns-in_err-more-clause-refused
returns-in_err-more-clause-refused g c =
    let reader = c.in_ok-reader.reader in
    let made = c.in_ok-reader.ensures in
    let error = c.in_err-more.field-0.0 in
    let given = g.I.Source.left c.args.src.now in
    if_err c.from_residual-in_err-more.result error (λ error. IfSome given (IsRefusedAs forms.Run error)) c.from_residual-in_err-more.ensures.1
    (first_refused reader made.within made.number made.taken made.none given c.next_round.new.trace error
    (subst (λ (trace : Traced). IfSome given (λ left. IsRoundRefused trace reader (ahead reader ++ left) c.next_round.new.trace error)) c.new-trace.ensures c.in_err-more.ensures.refused))

pub returns-in_err-more-clause-unrun : goal.returns-in_err-more-clause-unrun
returns-in_err-more-clause-unrun g c =
    let reader = c.in_ok-reader.reader in
    let made = c.in_ok-reader.ensures in
    let error = c.in_err-more.field-0.0 in
    let given = g.I.Source.left c.args.src.now in
    if_err c.from_residual-in_err-more.result error (λ error. TellsOfInput error → HasNoRounds (stop_of_read error) given) c.from_residual-in_err-more.ensures.1
    (none_first reader made.within made.number made.taken made.none given c.next_round.new.trace error
    (subst (λ (trace : Traced). IfSome given (λ left. IsRoundRefused trace reader (ahead reader ++ left) c.next_round.new.trace error)) c.new-trace.ensures c.in_err-more.ensures.refused))

pub returns-clause-begun : goal.returns-clause-begun
returns-clause-begun g c =
    let reader = c.in_ok-reader.reader in
    let made = c.in_ok-reader.ensures in
    let given = g.I.Source.left c.args.src.now in
    let left = g.I.Source.left c.next_round.new.src in
    let next = c.next_round.new.trace in
    let behind = c.next_round.new.self in
    begun_of reader made.within made.number made.taken made.none c.in_ok-more.more (record { reader = behind; trace = next; more = c.in_ok-more.more }) given left
    (λ is. subst (λ (trace : Traced). IfSome given (λ bytes. (rest : List ℕ) × (left ≡ Some rest) × IsNextRound trace reader (ahead reader ++ bytes) next behind (ahead behind ++ rest))) c.new-trace.ensures (c.in_ok-more.ensures.round (ap Ok is)))
    (λ is. subst (λ (trace : Traced). IfSome given (λ bytes. (left ≡ Some []) × IsLastRound trace reader (ahead reader ++ bytes) next)) c.new-trace.ensures (c.in_ok-more.ensures.last (ap Ok is)))

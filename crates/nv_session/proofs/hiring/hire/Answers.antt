-- One more work has a seat.
use Rattle.std.proofs.Common.{◌≡◌, List, [], ◌∷◌, ◌++◌, length, sym, ap, subst, ◌∙◌, arith}
use Rattle.std.specs.Prelude.{All, reverse}
use Rattle.std.specs.Option.{option_to_list}
use Rattle.std.proofs.lemmas.List.{length_push}
use Rattle.std.proofs.lemmas.List.Elements.{All-push}
use Rattle.nv_table.specs.state.Views.{Past}
use Rattle.nv_runner.specs.Workers.{IsNewcomer}
use Rattle.nv_runner.proofs.PassLaws.{still_on}
use Rattle.nv_session.specs.Works.{SeatState}
use Rattle.nv_session.proofs.WorkLaws.{work_moves, works_of}
use Rattle.nv_session.proofs.hiring.hire.Goals as goal

pub loop-work-preserved : goal.loop-work-preserved
loop-work-preserved g c =
    let inv = c.loop-work.invariant in
    let W = g.row.W.Denot in
    let seat : SeatState W = record { session = c.in-Ok.session; work = c.in-Some.work } in
    let before : List (SeatState W) = c.loop-work.seats.items in
    let front : List W = c.pop.new.self.items in
    let New : SeatState W → Type 0 = λ s. IsNewcomer c.args.mount.now.board.opened c.args.zero.now.view.ended s.session in
    let more : c.push_reserved.new.self.items ≡ before ++ seat ∷ [] = c.push_reserved.ensures.items in
    let all : c.loop-work.works.items ≡ front ++ c.in-Some.work ∷ [] = c.pop.ensures.items ∙ ap (λ r. front ++ option_to_list r) c.in-Some.is in
    let is_new : New seat = subst (λ (l : List Past). IsNewcomer c.args.mount.now.board.opened l c.in-Ok.session) inv.ended c.in-Ok.ensures.newcomer in
    let long = length_push before seat in
    let left = length_push front c.in-Some.work in
    record {
      zero = c.new_session.ensures.zero;
      still = still_on c.args.zero.now c.loop-work.zero c.new_session.new.zero inv.still c.new_session.ensures.still;
      ended = c.new_session.ensures.ended ∙ inv.ended;
      new = subst (All New) (sym more) (All-push New before seat inv.new is_new);
      made = omega (arith, c.in-Ok.ensures.made, inv.made, ap length more, long);
      works = ap (λ l. front ++ reverse (works_of l)) more ∙ work_moves front before seat ∙ ap (λ l. l ++ reverse (works_of before)) (sym all) ∙ inv.works;
      count = omega (arith, ap length more, long, ap length all, left, inv.count);
      room = omega (arith, ap length more, long, ap length all, left, inv.room, c.pop.ensures.capacity);
      places = omega (arith, ap length more, long, ap length all, left, inv.places, c.push_reserved.ensures.capacity);
    }

pub returns-in-Err-clause-still : goal.returns-in-Err-clause-still
returns-in-Err-clause-still g c = still_on c.args.zero.now c.loop-work.zero c.new_session.new.zero c.loop-work.invariant.still c.new_session.ensures.still

-- The last one that is left is taken in, and its work stands behind those that are back.
use Rattle.std.proofs.Common.{◌≡◌, List, [], ◌∷◌, ◌++◌, length, map, refl, sym, ap, ◌∙◌, arith, append_assoc}
use Rattle.std.specs.Prelude.{reverse}
use Rattle.std.specs.Option.{option_to_list}
use Rattle.std.proofs.lemmas.List.{length_push, map_push}
use Rattle.nv_table.specs.passes.Seats.{past_of}
use Rattle.nv_table.specs.state.States.{PassState}
use Rattle.nv_table.specs.state.Views.{Past}
use Rattle.nv_runner.proofs.PassLaws.{still_on, still_same}
use Rattle.nv_session.specs.Works.{SeatState}
use Rattle.nv_session.proofs.WorkLaws.{work_moves, works_of}
use Rattle.nv_session.proofs.hiring.take_in_all.Goals as goal

pub loop-seat-init : goal.loop-seat-init
loop-seat-init g c = record { zero = c.requires.zero; still = still_same c.args.zero.now c.args.zero.now refl; ended = refl; made = refl; works = refl; room = c.requires.room }

pub loop-seat-preserved : goal.loop-seat-preserved
loop-seat-preserved g c =
    let inv = c.loop-seat.invariant in
    let W = g.row.W.Denot in
    let past : SeatState W → Past = λ s. past_of s.session.view in
    let seat : SeatState W = c.in-Some.seat in
    let before : List (SeatState W) = c.loop-seat.seats.items in
    let front : List (SeatState W) = c.pop.new.self.items in
    let works : List W = c.loop-seat.works.items in
    let ended = c.loop-seat.zero.view.ended in
    let all : before ≡ front ++ seat ∷ [] = c.pop.ensures.items ∙ ap (λ r. front ++ option_to_list r) c.in-Some.is in
    let same_session : seat.session ≡ c.seat.inside.session = cc (ap (λ (s : SeatState W). s.session) c.seat.view_is) in
    let same_work : seat.work ≡ c.seat.inside.work = cc (ap (λ (s : SeatState W). s.work) c.seat.view_is) in
    let more : c.push_reserved.new.self.items ≡ works ++ seat.work ∷ [] = c.push_reserved.ensures.items ∙ ap (λ w. works ++ w ∷ []) (sym same_work) in
    record {
      zero = c.take_in.ensures.zero;
      still = still_on c.args.zero.now c.loop-seat.zero c.take_in.new.zero inv.still c.take_in.ensures.still;
      ended = ap (λ l. map past front ++ l) (c.take_in.ensures.ended ∙ ap (λ (p : PassState). past_of p.view ∷ ended) (sym same_session)) ∙ sym (append_assoc (map past front) (past seat ∷ []) ended)
          ∙ ap (λ l. l ++ ended) (sym (ap (map past) all ∙ map_push past front seat)) ∙ inv.ended;
      made = c.take_in.ensures.made ∙ inv.made;
      works = ap (λ l. l ++ reverse (works_of front)) more ∙ sym (work_moves works front seat) ∙ ap (λ l. works ++ reverse (works_of l)) (sym all) ∙ inv.works;
      room = omega (arith, ap length more, length_push works seat.work, ap length all, length_push front seat, inv.room, c.push_reserved.ensures.capacity);
    }

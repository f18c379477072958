-- The rooms have the lengths of the parts.
use Rattle.std.proofs.Common.{List, ℕ, length, map, sym, ap, ◌∙◌, arith}
use Rattle.std.proofs.lemmas.List.{length-map}
use Rattle.nv_runner.proofs.ReadvLaws.{filled_count, rooms_fit}
use Rattle.nv_schedule.proofs.hand.PartsAtHand.into_reply.Goals as goal

pub fill_rooms-requires-clause-count : goal.fill_rooms-requires-clause-count
fill_rooms-requires-clause-count c =
    let got = c.fill.ensures.got in
    let rooms = ap length c.self.invariant in
    let long = length-map c.self.inside.rooms.items (λ room. length room) in
    let lens = ap length got.0 in
    let parts = ap length got.3 ∙ filled_count c.fill.new.self.lens _ in
    (omega (arith, rooms, long, lens, parts), omega (arith, rooms, long, lens))

pub fill_rooms-requires-clause-fits : goal.fill_rooms-requires-clause-fits
fill_rooms-requires-clause-fits c =
    let got = c.fill.ensures.got in
    let long = ap (map (λ (room : List ℕ). length room)) c.deref_mut.ensures.value ∙ c.self.invariant ∙ sym got.0 in
    λ i inside. rooms_fit c.fill.new.self.lens _ c.fill.new.self.parts c.deref_mut.result.now i got.3 long

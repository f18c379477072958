-- A vectored read is made as a read of the sum of its lengths, and its parts' rooms have what they got.
use Rattle.std.proofs.Common.{ℕ, List, length, map, sym, ap, subst, ◌∙◌, arith}
use Rattle.std.specs.List.{sum}
use Rattle.std.proofs.lemmas.List.{length-map}
use Rattle.nv_calls.specs.histories.Tries.{IsReadvTried}
use Rattle.nv_runner.proofs.ReadvLaws.{filled_count, rooms_fit}
use Rattle.nv_runner.proofs.make.make_readv.Goals as goal

pub fill_rooms-requires-clause-count : goal.fill_rooms-requires-clause-count
fill_rooms-requires-clause-count g c =
    let got = c.preadv.ensures.got in
    let rooms = ap length c.in_ok-rooms.ensures in
    let long = length-map c.in_ok-rooms.rooms.items (λ room. length room) in
    let lens = ap length (got.0 ∙ c.in_ok-scatter.ensures) in
    let parts = ap length got.3 ∙ filled_count c.preadv.new.parts.lens _ in
    (omega (arith, rooms, long, lens, parts), omega (arith, rooms, long, lens))

pub fill_rooms-requires-clause-fits : goal.fill_rooms-requires-clause-fits
fill_rooms-requires-clause-fits g c =
    let got = c.preadv.ensures.got in
    let long = ap (map (λ (room : List ℕ). length room)) c.deref_mut.ensures.value ∙ c.in_ok-rooms.ensures ∙ sym (got.0 ∙ c.in_ok-scatter.ensures) in
    λ i inside. rooms_fit c.preadv.new.parts.lens _ c.preadv.new.parts.parts c.deref_mut.result.now i got.3 long

pub returns-in-Ok-clause-made : goal.returns-in-Ok-clause-made
returns-in-Ok-clause-made g c =
    let got = c.preadv.ensures.got in
    let lens = got.0 ∙ c.in_ok-scatter.ensures in
    let list = c.preadv.new.parts.list in
    λ worker. record {
      result = c.preadv.result;
      by = (list, got.1 ∙ ap sum lens, subst (λ lens. IsReadvTried c.args.mount.now.fds c.args.fd c.args.at lens list c.args.pass.now c.preadv.new.pass c.preadv.result) lens c.preadv.ensures.tried);
      answers = (c.in-Ok.done.len, c.in-Ok.is);
    }

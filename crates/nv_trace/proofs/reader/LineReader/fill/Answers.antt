use Rattle.std.proofs.Common.{◌≡◌, take, length, ap, arith}
use Rattle.std.proofs.lemmas.List.{with_items_is}
use Rattle.nv_trace.specs.NextRound.{ahead}
use Rattle.nv_trace.proofs.Inputs.{ended, given}
use Rattle.nv_trace.proofs.NextRounds.{none_ahead}
use Rattle.nv_trace.proofs.reader.LineReader.fill.Goals as goal

pub returns-clause-filled : goal.returns-clause-filled
returns-clause-filled g c =
    let reader = c.args.self.now in
    let count = c.in_ok-count.count in
    let left = g.I.Source.left c.args.src.now in
    let next = g.I.Source.left c.read.new.self in
    let none : reader.start ≡ reader.end = omega (arith, c.if-self.false, c.requires.start) in
    let room : length c.deref_mut.result.now ≡ 65536 = grind (arith, c.deref_mut.ensures.len, c.requires.room) in
    record {
      start = omega arith;
      end = omega (arith, room, c.in_ok-count.ensures.count);
      some_ahead = grind arith;
      none_ahead = grind arith;
      rest = given left next count c.deref_mut.result.now c.read.new.buf _ (ahead reader) (none_ahead reader none) (ap (take count) (with_items_is reader.buffer c.read.new.buf (omega arith))) c.in_ok-count.ensures.told;
      at_end = λ none. ended left next count c.deref_mut.result.now c.read.new.buf c.in_ok-count.ensures.told (omega (arith, room)) (grind arith);
    }

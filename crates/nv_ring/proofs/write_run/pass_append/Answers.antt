-- It goes on with its call, loop by loop.
use Rattle.std.proofs.Common.{sym, ap, subst, ◌∙◌}
use Rattle.nv_core.specs.state.Passes.{is_write, plain_call}
use Rattle.nv_core.specs.state.Words.{Sizes}
use Rattle.nv_table.specs.state.Opened.{Opened}
use Rattle.nv_op.specs.Ops.{call_asked}
use Rattle.nv_mirror.specs.declared.front.FrontMachine.{FrontMachine}
use Rattle.nv_ring.specs.Appends.{Fits}
use Rattle.nv_ring.proofs.RunningLaws.{open_append, writes_some}
use Rattle.nv_ring.proofs.write_run.pass_append.Goals as goal

pub pledge-requires-clause-way : goal.pledge-requires-clause-way
pledge-requires-clause-way g c =
    let call = plain_call g.A.Asks.call in
    let start = c.requires.way.0 in
    (call, start, c.seize.ensures.way call start c.requires.way.1)

pub make_ready-requires-clause-way : goal.make_ready-requires-clause-way
make_ready-requires-clause-way g c =
    let call = plain_call g.A.Asks.call in
    let start = c.requires.way.0 in
    (call, start, c.pledge.ensures.way call start (c.seize.ensures.way call start c.requires.way.1))

pub take_place-requires-clause-way : goal.take_place-requires-clause-way
take_place-requires-clause-way g c =
    let call = plain_call g.A.Asks.call in
    let start = c.requires.way.0 in
    (call, start, c.make_ready.ensures.way call start (c.pledge.ensures.way call start (c.seize.ensures.way call start c.requires.way.1)))

-- ---- it is in the log

pub end-requires-clause-way : goal.end-requires-clause-way
end-requires-clause-way g c =
    let call = plain_call g.A.Asks.call in
    let start = c.requires.way.0 in
    (call, start, c.take_place.ensures.way call start (c.make_ready.ensures.way call start (c.pledge.ensures.way call start (c.seize.ensures.way call start c.requires.way.1))))

pub returns-in-Appended-clause-way : goal.returns-in-Appended-clause-way
returns-in-Appended-clause-way g c call start before =
    c.end.ensures.way call start (c.take_place.ensures.way call start (c.make_ready.ensures.way call start (c.pledge.ensures.way call start (c.seize.ensures.way call start before))))

-- ---- it is refused

pub give_back-back-requires-clause-fits : goal.give_back-back-requires-clause-fits
give_back-back-requires-clause-fits g c =
    let call = plain_call g.A.Asks.call in
    let start = c.requires.way.0 in
    let way = c.take_place.ensures.way call start (c.make_ready.ensures.way call start (c.pledge.ensures.way call start (c.seize.ensures.way call start c.requires.way.1))) in
    subst (λ (s : Sizes). Fits s c.take_place.new.append) (ap (λ (o : Opened). o.sizes) c.take_place.ensures.board.same_mount ∙ sym c.layout.ensures) way.1.0

pub write_on-requires-clause-way : goal.write_on-requires-clause-way
write_on-requires-clause-way g c =
    let call = plain_call g.A.Asks.call in
    let start = c.requires.way.0 in
    let way = c.take_place.ensures.way call start (c.make_ready.ensures.way call start (c.pledge.ensures.way call start (c.seize.ensures.way call start c.requires.way.1))) in
    let machine = c.give_back-back.ensures.machine.2 in (
      start,
      (
        ap (λ (f : FrontMachine). call_asked f.asked) machine ∙ way.0,
        ap (λ (f : FrontMachine). is_write (call_asked f.asked)) machine ∙ writes_some c.take_place.new.append way.1.0.some,
        c.give_back-back.ensures.way start c.take_place.new.pass way.1,
      ),
    )

pub returns-in-Refused-clause-way : goal.returns-in-Refused-clause-way
returns-in-Refused-clause-way g c call start before =
    let way = c.take_place.ensures.way call start (c.make_ready.ensures.way call start (c.pledge.ensures.way call start (c.seize.ensures.way call start before))) in
    let machine = c.give_back-back.ensures.machine.2 in
    c.write_on.ensures.way call start (
      ap (λ (f : FrontMachine). call_asked f.asked) machine ∙ way.0,
      ap (λ (f : FrontMachine). is_write (call_asked f.asked)) machine ∙ writes_some c.take_place.new.append way.1.0.some,
      c.give_back-back.ensures.way start c.take_place.new.pass way.1,
    )

-- ---- it breaks its entries

pub write_on-requires-in_default-clause-settled : goal.write_on-requires-in_default-clause-settled
write_on-requires-in_default-clause-settled g c = open_append c.take_place.new.append.control c.in_default.not-Appended c.in_default.not-Refused

pub write_on-requires-in_default-clause-way : goal.write_on-requires-in_default-clause-way
write_on-requires-in_default-clause-way g c =
    let call = plain_call g.A.Asks.call in
    let start = c.requires.way.0 in
    (start, c.take_place.ensures.way call start (c.make_ready.ensures.way call start (c.pledge.ensures.way call start (c.seize.ensures.way call start c.requires.way.1))))

pub returns-in_default : goal.returns-in_default
returns-in_default g c = record {
  board = c.write_on-in_default.ensures.board;
  bare = c.write_on-in_default.ensures.bare;
  places = c.write_on-in_default.ensures.places ∙ c.pledge.ensures.places;
  asks = c.write_on-in_default.ensures.asks ∙ c.take_place.ensures.asks ∙ c.make_ready.ensures.asks ∙ c.pledge.ensures.asks ∙ c.seize.ensures.asks;
  way = λ call start before.
      c.write_on-in_default.ensures.way call start (c.take_place.ensures.way call start (c.make_ready.ensures.way call start (c.pledge.ensures.way call start (c.seize.ensures.way call start before))));
}

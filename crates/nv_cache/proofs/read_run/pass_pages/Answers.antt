-- It goes on with what the look has found.
use Rattle.std.proofs.Common.{[], sym, ap, subst, ◌∙◌}
use Rattle.nv_mirror.specs.Visits.{visit_call_of}
use Rattle.nv_cache.specs.declared.read.RunningRead.{RunningRead}
use Rattle.nv_cache.specs.RunningReads.{IsUnderWay, asked_in}
use Rattle.nv_cache.proofs.read_run.pass_pages.Goals as goal

pub end-requires-clause-way : goal.end-requires-clause-way
end-requires-clause-way g c =
    let call = visit_call_of c.args.visit in
    let start = c.requires.way.0 in (
      call,
      c.looked.new.list,
      start,
      subst (λ (read : RunningRead). IsUnderWay call read c.looked.new.list [] start c.looked.new.pass) c.in-TakePlace.is (c.looked.ensures.way [] start c.requires.way.1),
    )

pub returns-in-TakePlace-clause-way : goal.returns-in-TakePlace-clause-way
returns-in-TakePlace-clause-way g c start way =
    let call = visit_call_of c.args.visit in
    c.end.ensures.way call c.looked.new.list start
    (subst (λ (read : RunningRead). IsUnderWay call read c.looked.new.list [] start c.looked.new.pass) c.in-TakePlace.is (c.looked.ensures.way [] start way))

pub read_on-requires : goal.read_on-requires
read_on-requires g c = record {
  board = c.looked.ensures.board;
  settled = c.looked.ensures.settled;
  bare = c.looked.ensures.bare;
  way = (
    c.requires.way.0,
    subst (λ call. IsUnderWay call c.looked.result c.looked.new.list [] c.requires.way.0 c.looked.new.pass) (sym c.requires.makes) (c.looked.ensures.way [] c.requires.way.0 c.requires.way.1),
  );
}

pub returns-in_default : goal.returns-in_default
returns-in_default g c = record {
  board = c.read_on.ensures.board;
  asks = c.read_on.ensures.asks ∙ c.looked.ensures.asks g.A.Asks.call;
  way = λ start way. c.read_on.ensures.way (visit_call_of c.args.visit) start (c.looked.ensures.way [] start way);
}

pub returns-in-TakePlace-clause-asks : goal.returns-in-TakePlace-clause-asks
returns-in-TakePlace-clause-asks g c =
    c.end.ensures.asks
    ∙ sym (ap (λ (read : RunningRead). asked_in g.A.Asks.call read c.looked.new.pass) c.in-TakePlace.is)
    ∙ c.looked.ensures.asks g.A.Asks.call

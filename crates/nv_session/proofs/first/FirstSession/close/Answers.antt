-- What came out of the mount is what the bench has taken back.
use Rattle.std.proofs.Common.{subst}
use Rattle.nv_session.specs.Closing.{HasClosed}
use Rattle.nv_session.specs.Sessions.{FirstState}
use Rattle.nv_session.proofs.first.FirstSession.close.Goals as goal

pub returns : goal.returns
returns g c =
    let told = c.in-Ok.ensures in
    subst (λ (first : FirstState). HasClosed _ first (g.T.Bench.state c.give_back.new.self)) c.self.view_is
    (record {
      parts = c.in-Ok.closed.parts.items;
      stores = c.in-Ok.closed.stores.items;
      placed = c.in-Ok.closed.placed;
      tail = c.in-Ok.closed.tail;
      closed = told.closed;
      told = record {
        whole = told.whole;
        history = told.history;
        rest = told.rest;
        crash = told.crash;
        stopped = told.stopped;
        grew = told.grew;
        telling = told.telling;
        lines = told.lines;
      };
      back = c.give_back.ensures.taken;
      tells = c.give_back.ensures.told;
      untold = c.give_back.ensures.untold;
    })

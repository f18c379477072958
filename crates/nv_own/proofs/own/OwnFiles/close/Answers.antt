-- Its calls are the history, and its open writes the faults.
use Rattle.std.proofs.Common.{map}
use Rattle.nv_own.proofs.OwnLaws.{ended_so, leaves_files}
use Rattle.nv_own.proofs.own.OwnFiles.close.Goals as goal

pub returns : goal.returns
returns g c =
    let ended = c.close.ensures in
    let alone = c.is_alone.ensures in
    ended_so _ (g.T.Bench.state c.close.result) c.self.inside.first c.args.self c.self.view_is
    (record {
      closed = ended;
      left = leaves_files c.runs_are_sound.ensures.runs c.open_answers_are_faults.ensures.kept c.self.inside.first
          (record { own = c.self.invariant; board = alone.board; alone = alone.alone; mount = alone.mount; run = alone.run }) alone.idle
          (map g.T.Part.Lines.history ended.parts) (map g.T.Store.Backing.history ended.stores) ended.told.crash;
    })

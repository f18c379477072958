-- A write puts its bytes into the file.
use Rattle.std.proofs.Common.{IfOk, subst}
use Rattle.nv_session.specs.Sessions.{FirstState}
use Rattle.nv_own.specs.Owned.{HasPut, files_of}
use Rattle.nv_own.proofs.OwnLaws.{Stands, own_later, write_puts}
use Rattle.nv_own.proofs.own.OwnFiles.write.Goals as goal

pub returns-clause-written : goal.returns-clause-written
returns-clause-written g c =
    let was : Stands c.self.inside.first = record { own = c.self.invariant; board = c.is_alone.ensures.board; alone = c.is_alone.ensures.alone; mount = c.is_alone.ensures.mount; run = c.is_alone.ensures.run } in
    let now : Stands c.write-result.new.self = record {
      own = own_later c.self.inside.first c.write-result.new.self c.self.invariant c.is_alone.ensures.alone c.write-result.ensures.written.later;
      board = c.is_alone-2.ensures.board;
      alone = c.is_alone-2.ensures.alone;
      mount = c.is_alone-2.ensures.mount;
      run = c.is_alone-2.ensures.run;
    } in
    subst (λ (first : FirstState). IfOk c.write-result.result (λ done. HasPut first.mount.fds c.args.fd c.args.at c.args.bytes.now (files_of first) (files_of c.write-result.new.self))) c.self.view_is
    (write_puts c.runs_are_sound.ensures.runs c.history_goes_on.ensures.files c.args.fd c.args.at c.self.inside.first c.write-result.new.self c.write-result.result c.write-result.ensures.mount was now
    c.args.bytes.now c.write-result.ensures.written)

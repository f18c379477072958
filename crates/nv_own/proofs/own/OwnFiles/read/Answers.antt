-- A read leaves the files as they were, and its bytes are those of its file.
use Rattle.std.proofs.Common.{◌≡◌, IfOk, subst}
use Rattle.nv_calls.specs.histories.Faults.{open_writes}
use Rattle.nv_session.specs.Sessions.{FirstState}
use Rattle.nv_own.specs.Owned.{HasBytes, Told, files_of}
use Rattle.nv_own.proofs.OwnLaws.{Stands, own_later, read_leaves, read_opens, read_tells}
use Rattle.nv_own.proofs.own.OwnFiles.read.Goals as goal

pub returns-clause-files : goal.returns-clause-files
returns-clause-files g c =
    let was : Stands c.self.inside.first = record { own = c.self.invariant; board = c.is_alone.ensures.board; alone = c.is_alone.ensures.alone; mount = c.is_alone.ensures.mount; run = c.is_alone.ensures.run } in
    let now : Stands c.read-result.new.self = record {
      own = own_later c.self.inside.first c.read-result.new.self c.self.invariant c.is_alone.ensures.alone c.read-result.ensures.read.later;
      board = c.is_alone-2.ensures.board;
      alone = c.is_alone-2.ensures.alone;
      mount = c.is_alone-2.ensures.mount;
      run = c.is_alone-2.ensures.run;
    } in
    subst (λ (first : FirstState). files_of c.read-result.new.self ≡ files_of first) c.self.view_is
    (read_leaves c.runs_are_sound.ensures.runs c.history_goes_on.ensures.files c.args.fd c.args.at c.self.inside.first c.read-result.new.self c.read-result.result c.read-result.ensures.mount was now
    c.read-result.new.buf c.read-result.ensures.read)

pub returns-clause-read : goal.returns-clause-read
returns-clause-read g c =
    let was : Stands c.self.inside.first = record { own = c.self.invariant; board = c.is_alone.ensures.board; alone = c.is_alone.ensures.alone; mount = c.is_alone.ensures.mount; run = c.is_alone.ensures.run } in
    let now : Stands c.read-result.new.self = record {
      own = own_later c.self.inside.first c.read-result.new.self c.self.invariant c.is_alone.ensures.alone c.read-result.ensures.read.later;
      board = c.is_alone-2.ensures.board;
      alone = c.is_alone-2.ensures.alone;
      mount = c.is_alone-2.ensures.mount;
      run = c.is_alone-2.ensures.run;
    } in
    subst (λ (first : FirstState). IfOk c.read-result.result (λ done. Told first.mount.board.opened → HasBytes first.mount.fds (files_of first) c.args.fd c.args.at c.read-result.new.buf done)) c.self.view_is
    (read_tells c.runs_are_sound.ensures.runs c.history_goes_on.ensures.files c.args.fd c.args.at c.self.inside.first c.read-result.new.self c.read-result.result c.read-result.ensures.mount was now
    c.read-result.new.buf c.read-result.ensures.read)

pub returns-clause-opens : goal.returns-clause-opens
returns-clause-opens g c =
    let was : Stands c.self.inside.first = record { own = c.self.invariant; board = c.is_alone.ensures.board; alone = c.is_alone.ensures.alone; mount = c.is_alone.ensures.mount; run = c.is_alone.ensures.run } in
    let now : Stands c.read-result.new.self = record {
      own = own_later c.self.inside.first c.read-result.new.self c.self.invariant c.is_alone.ensures.alone c.read-result.ensures.read.later;
      board = c.is_alone-2.ensures.board;
      alone = c.is_alone-2.ensures.alone;
      mount = c.is_alone-2.ensures.mount;
      run = c.is_alone-2.ensures.run;
    } in
    subst (λ (first : FirstState). open_writes c.read-result.new.self.pass ≡ open_writes first.pass) c.self.view_is
    (read_opens c.runs_are_sound.ensures.runs c.history_goes_on.ensures.files c.args.fd c.args.at c.self.inside.first c.read-result.new.self c.read-result.result c.read-result.ensures.mount was now
    c.read-result.new.buf c.read-result.ensures.read c.faults_open_writes.ensures.reads)

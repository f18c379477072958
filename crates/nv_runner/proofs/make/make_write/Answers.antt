-- A write without a place is open where its pass has kept it, and refused else. The run goes on with the last write behind the others and the batches between.
use Rattle.std.proofs.Common.{ℕ, length, sym, ap, subst, ◌∙◌, rules}
use Rattle.std.specs.Prelude.{Result, Err}
use Rattle.nv_mirror.specs.declared.answers.Done.{Done}
use Rattle.nv_mirror.specs.declared.answers.Refusal.{Refusal}
use Rattle.nv_plain.specs.declared.call.FileCall.{FileCall}
use Rattle.nv_plain.specs.declared.call.Reply.TheVariants.{Count}
use Rattle.nv_mirror.specs.Answers.{IsPlacedAs}
use Rattle.nv_runner.specs.Runs.{GoesOn}
use Rattle.nv_calls.specs.fsync.SyncRuns.{file_of_fd}
use Rattle.nv_calls.specs.writes.Writes.{IsWriteTriedAs}
use Rattle.nv_table.specs.state.States.{PassState}
use Rattle.nv_runner.specs.declared.answer.Answer.{Answer}
use Rattle.nv_runner.specs.Tries.{AnswersAs}
use Rattle.nv_runner.specs.TryLaws.{write_drawn}
use Rattle.nv_runner.specs.Written.{asks_in, bytes_in, call_in}
use Rattle.nv_runner.proofs.CallLaws.{full_more, without_answers, write_admitted}
use Rattle.nv_runner.proofs.OpenLaws.{no_room_opens_nothing, told_behind}
use Rattle.nv_runner.proofs.TryLaws.{on_still, room_none, write_answer_on, write_on}
use Rattle.nv_runner.proofs.WrittenLaws.{as_placed, call_asks, is_made, is_unbarred, is_write_of, lasts, made_as, takes, written_since}
use Rattle.nv_runner.proofs.make.make_write.Goals as goal

pub returns-then-not-makes_room-clause-told : goal.returns-then-not-makes_room-clause-told
returns-then-not-makes_room-clause-told g c =
    let w = c.args.written in
    let bytes = bytes_in w in
    let last = c.loop.pass in
    let now = c.write.new.pass in
    let refusal = c.in-Err.refusal in
    (told_behind (asks_in w c.args.at) c.args.mount.now.fds c.args.worker (call_in w c.args.fd c.args.at) c.args.fd c.args.at bytes c.args.mount.now.board.opened c.args.pass.now last now c.makes_room.new.pass refusal c.makes_room.result
    c.without_place.result (is_write_of w c.args.fd c.args.at) c.write.ensures.idle c.requires.board.same_mount c.loop.invariant.board.same_mount c.loop.invariant.unplaced c.in-Err.ensures.kept c.loop.invariant.opens c.in-Err.ensures.tried
    (c.faults_open_writes.ensures.made_writes (asks_in w c.args.at) c.args.mount.now.fds c.args.fd c.args.at bytes last now (Err refusal) (made_as w c.args.at) c.sees_a_run.ensures.mount c.in-Err.ensures.tried) c.in-Err.ensures.free
    c.makes_room.ensures.ran c.if-not-makes_room.true c.makes_room.ensures.none c.without_place.ensures).told

pub returns-then-not-makes_room-clause-opens : goal.returns-then-not-makes_room-clause-opens
returns-then-not-makes_room-clause-opens g c =
    let w = c.args.written in
    let bytes = bytes_in w in
    let last = c.loop.pass in
    let now = c.write.new.pass in
    let refusal = c.in-Err.refusal in
    (told_behind (asks_in w c.args.at) c.args.mount.now.fds c.args.worker (call_in w c.args.fd c.args.at) c.args.fd c.args.at bytes c.args.mount.now.board.opened c.args.pass.now last now c.makes_room.new.pass refusal c.makes_room.result
    c.without_place.result (is_write_of w c.args.fd c.args.at) c.write.ensures.idle c.requires.board.same_mount c.loop.invariant.board.same_mount c.loop.invariant.unplaced c.in-Err.ensures.kept c.loop.invariant.opens c.in-Err.ensures.tried
    (c.faults_open_writes.ensures.made_writes (asks_in w c.args.at) c.args.mount.now.fds c.args.fd c.args.at bytes last now (Err refusal) (made_as w c.args.at) c.sees_a_run.ensures.mount c.in-Err.ensures.tried) c.in-Err.ensures.free
    c.makes_room.ensures.ran c.if-not-makes_room.true c.makes_room.ensures.none c.without_place.ensures).opens

pub returns-in-Ok-clause-told : goal.returns-in-Ok-clause-told
returns-in-Ok-clause-told g c =
    let w = c.args.written in
    let so_far = c.loop.invariant in
    let placed = written_since w c.args.mount.now.fds c.args.fd c.args.at c.args.pass.now c.loop.pass c.write.new.pass c.in-Ok.done so_far.later so_far.unplaced
    (so_far.board.same_mount ∙ sym c.requires.board.same_mount) c.in-Ok.ensures.placed in (
      placed.0,
      ap (file_of_fd c.args.mount.now.fds) (is_write_of w c.args.fd c.args.at).fd_is ∙ placed.1,
      subst (λ (call : FileCall). IsPlacedAs c.args.pass.now.view c.write.new.pass.view call (Count c.in-Ok.done.len) c.in-Ok.done.place) (sym (call_asks w c.args.fd c.args.at placed.0))
          (subst (λ (n : ℕ). IsPlacedAs c.args.pass.now.view c.write.new.pass.view (asks_in w c.args.at placed.0) (Count n) c.in-Ok.done.place) (sym placed.2) placed.3),
    )

pub returns-in-Ok-clause-on : goal.returns-in-Ok-clause-on
returns-in-Ok-clause-on g c =
    let w = c.args.written in
    let bytes = bytes_in w in
    let so_far = c.loop.invariant in
    let write = c.write.ensures in
    let sizes = c.write.new.pass.view.opened.sizes in
    subst (λ n. GoesOn c.args.worker n c.args.pass.now c.write.new.pass) (sym (takes w sizes c.args.fd c.args.at))
    (subst (λ (r : Result Done Refusal). GoesOn c.args.worker (write_drawn sizes c.args.at (length bytes) r) c.args.pass.now c.write.new.pass) c.in-Ok.is
    (write_on c.tries_go_on.ensures.writes (asks_in w c.args.at) c.args.mount.now.fds c.args.worker c.args.fd c.args.at bytes c.write.new.pass.view.opened c.args.pass.now c.loop.pass c.write.new.pass c.write.result (made_as w c.args.at)
    (so_far.board.same_mount ∙ sym write.board.same_mount) so_far.later.number so_far.on c.sees_a_run.ensures.mount so_far.idle write.idle (as_placed w c.args.mount.now.fds c.args.fd c.args.at c.loop.pass c.write.new.pass c.write.result write.placed) write.kept write.tried))

pub returns-then-not-makes_room-clause-on : goal.returns-then-not-makes_room-clause-on
returns-then-not-makes_room-clause-on g c =
    let w = c.args.written in
    let bytes = bytes_in w in
    let so_far = c.loop.invariant in
    let write = c.write.ensures in
    let sizes = c.makes_room.new.pass.view.opened.sizes in
    write_answer_on c.args.mount.now.fds c.args.worker sizes c.args.at (length bytes) (call_in w c.args.fd c.args.at) c.args.pass.now c.makes_room.new.pass c.in-Err.refusal _ c.without_place.result
    (takes w sizes c.args.fd c.args.at) (lasts w c.args.fd c.args.at c.args.worker) c.without_place.ensures
    (returns-then-not-makes_room-clause-told g c)
    (on_still c.args.worker _ c.args.pass.now c.write.new.pass c.makes_room.new.pass (write.later.number ∙ so_far.later.number)
    (subst (λ (r : Result Done Refusal). GoesOn c.args.worker (write_drawn sizes c.args.at (length bytes) r) c.args.pass.now c.write.new.pass) c.in-Err.is
    (write_on c.tries_go_on.ensures.writes (asks_in w c.args.at) c.args.mount.now.fds c.args.worker c.args.fd c.args.at bytes c.makes_room.new.pass.view.opened c.args.pass.now c.loop.pass c.write.new.pass c.write.result (made_as w c.args.at)
    (so_far.board.same_mount ∙ sym c.makes_room.ensures.board.same_mount) so_far.later.number so_far.on c.sees_a_run.ensures.mount so_far.idle write.idle (as_placed w c.args.mount.now.fds c.args.fd c.args.at c.loop.pass c.write.new.pass c.write.result write.placed) write.kept write.tried))
    c.makes_room.ensures.on)

pub loop-preserved : goal.loop-preserved
loop-preserved g c =
    let w = c.args.written in
    let bytes = bytes_in w in
    let so_far = c.loop.invariant in
    let write = c.write.ensures in
    let room = c.makes_room.ensures in
    record {
      board = room.board;
      idle = room.idle;
      later = search rules;
      stays = search rules;
      opens = room.opens
          ∙ no_room_opens_nothing c.args.mount.now.fds c.args.fd c.args.at bytes c.loop.pass c.write.new.pass c.in-Err.refusal _ (sym room.ran ∙ search rules)
          (c.faults_open_writes.ensures.made_writes (asks_in w c.args.at) c.args.mount.now.fds c.args.fd c.args.at bytes c.loop.pass c.write.new.pass (Err c.in-Err.refusal) (made_as w c.args.at) c.sees_a_run.ensures.mount
          (subst (λ (r : Result Done Refusal). IsWriteTriedAs (asks_in w c.args.at) c.args.mount.now.fds c.args.fd c.args.at (length bytes) c.loop.pass c.write.new.pass r) c.in-Err.is write.tried))
          ∙ so_far.opens;
      on = on_still c.args.worker 0 c.args.pass.now c.write.new.pass c.makes_room.new.pass (write.later.number ∙ so_far.later.number)
          (subst (λ (n : ℕ). GoesOn c.args.worker n c.args.pass.now c.write.new.pass) (room_none c.in-Err.refusal _ c.args.mount.now.board.opened.sizes c.args.at (length bytes) (sym room.ran ∙ search rules))
          (subst (λ (r : Result Done Refusal). GoesOn c.args.worker (write_drawn c.args.mount.now.board.opened.sizes c.args.at (length bytes) r) c.args.pass.now c.write.new.pass) c.in-Err.is
          (write_on c.tries_go_on.ensures.writes (asks_in w c.args.at) c.args.mount.now.fds c.args.worker c.args.fd c.args.at bytes c.args.mount.now.board.opened c.args.pass.now c.loop.pass c.write.new.pass c.write.result (made_as w c.args.at)
          so_far.board.same_mount so_far.later.number so_far.on c.sees_a_run.ensures.mount so_far.idle write.idle (as_placed w c.args.mount.now.fds c.args.fd c.args.at c.loop.pass c.write.new.pass c.write.result write.placed) write.kept write.tried)))
          room.on;
      full = full_more (asks_in w c.args.at) c.args.mount.now.fds c.args.worker c.args.fd c.args.at (length bytes) so_far.full.0 c.args.pass.now c.loop.pass c.write.new.pass c.makes_room.new.pass c.in-Err.refusal so_far.full.1
          (subst (λ (r : Result Done Refusal). IsWriteTriedAs (asks_in w c.args.at) c.args.mount.now.fds c.args.fd c.args.at (length bytes) c.loop.pass c.write.new.pass r) c.in-Err.is write.tried) (search rules) (room.batch (search rules));
      unplaced = search rules;
      workspace = search rules;
      bare = search rules;
      next = search rules;
      finite = search rules;
    }

pub returns-in-Ok-clause-admitted : goal.returns-in-Ok-clause-admitted
returns-in-Ok-clause-admitted g c =
    let w = c.args.written in
    is_unbarred w c.write.new.pass.view.opened.sizes c.args.mount.now.fds c.args.fd c.args.at
    (write_admitted (asks_in w c.args.at) c.args.mount.now.fds c.args.fd c.args.at (length (bytes_in w)) c.loop.pass c.write.new.pass c.in-Ok.done
    (subst (λ (r : Result Done Refusal). IsWriteTriedAs (asks_in w c.args.at) c.args.mount.now.fds c.args.fd c.args.at (length (bytes_in w)) c.loop.pass c.write.new.pass r) c.in-Ok.is c.write.ensures.tried))

pub returns-in-Ok-clause-made : goal.returns-in-Ok-clause-made
returns-in-Ok-clause-made g c =
    let w = c.args.written in
    let full = c.loop.invariant.full in
    record {
      result = c.write.result;
      by = is_made w c.args.mount.now.fds c.args.worker c.args.fd c.args.at c.args.pass.now c.write.new.pass c.write.result record { full = full.0; last = c.loop.pass; before = full.1; tried = c.write.ensures.tried };
      answers = (c.in-Ok.done.len, c.in-Ok.is);
    }

pub returns-then-not-makes_room-clause-made : goal.returns-then-not-makes_room-clause-made
returns-then-not-makes_room-clause-made g c =
    let w = c.args.written in
    let full = c.loop.invariant.full in
    let fds = c.args.mount.now.fds in
    let last = c.makes_room.new.pass in
    let len = length (bytes_in w) in
    let tried = subst (λ (r : Result Done Refusal). IsWriteTriedAs (asks_in w c.args.at) fds c.args.fd c.args.at len c.loop.pass c.write.new.pass r) c.in-Err.is c.write.ensures.tried in
    record {
      result = Err c.in-Err.refusal;
      by = is_made w fds c.args.worker c.args.fd c.args.at c.args.pass.now last (Err c.in-Err.refusal) record {
        full = full.0;
        last = c.loop.pass;
        before = full.1;
        tried = subst (λ (p : PassState). IsWriteTriedAs (asks_in w c.args.at) fds c.args.fd c.args.at len c.loop.pass p (Err c.in-Err.refusal)) (sym (c.makes_room.ensures.none (search rules))) tried;
      };
      answers = subst (λ (a : Answer). AnswersAs a (Err c.in-Err.refusal)) (sym c.without_place.ensures) (without_answers c.in-Err.refusal _);
    }

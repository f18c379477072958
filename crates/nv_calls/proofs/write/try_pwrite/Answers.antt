-- What is so of a write that is over, by the laws of such writes.
use Rattle.std.proofs.Common.{◌≡◌, length, refl, sym, ap, subst, ◌∙◌, rules}
use Rattle.std.specs.Prelude.{None}
use Rattle.nv_plain.specs.Modes.{can_write}
use Rattle.nv_table.specs.state.Opened.{Opened}
use Rattle.nv_calls.specs.calls.Asks.{asks_write}
use Rattle.nv_calls.specs.calls.EarlyRefusals.{early_refusal}
use Rattle.nv_calls.specs.calls.EndedCalls.{IsCallOver}
use Rattle.nv_calls.specs.fsync.SyncRuns.{file_of_fd}
use Rattle.nv_calls.proofs.writes.OverLaws.{over_told, bytes_placed}
use Rattle.nv_calls.proofs.write.try_pwrite.Goals as goal

-- ---- one that is refused before any step

pub returns-in_err-file-clause-over : goal.returns-in_err-file-clause-over
returns-in_err-file-clause-over g c = search rules

pub returns-in_err-file-clause-left : goal.returns-in_err-file-clause-left
returns-in_err-file-clause-left g c = c.refused_writes_leave_words.ensures.made (asks_write c.args.at c.args.bytes.now) c.args.mount.now.fds c.args.fd c.args.at c.args.bytes.now c.args.pass.now c.args.pass.now c.from_residual.result (λ file. refl) c.sees_a_run.ensures.mount c.requires.idle (returns-in_err-file-clause-over g c)

pub returns-in_err-file-clause-stop : goal.returns-in_err-file-clause-stop
returns-in_err-file-clause-stop g c = c.ended_calls_heed_stop.ensures.calls can_write c.args.mount.now.fds c.args.fd c.args.at (length c.args.bytes.now) (asks_write c.args.at c.args.bytes.now) c.args.pass.now c.args.pass.now c.from_residual.result c.sees_a_run.ensures.mount (returns-in_err-file-clause-over g c)

pub returns-in_err-file-clause-known : goal.returns-in_err-file-clause-known
returns-in_err-file-clause-known g c =
    c.calls_go_on_from_what_is_known.ensures.calls (early_refusal can_write c.args.pass.now.view.opened.sizes c.args.mount.now.fds c.args.fd c.args.at (length c.args.bytes.now)) (file_of_fd c.args.mount.now.fds c.args.fd) (asks_write c.args.at c.args.bytes.now) c.args.pass.now c.args.pass.now c.from_residual.result c.sees_a_run.ensures.mount c.has_taken_in.ensures
    (returns-in_err-file-clause-over g c)

pub returns-in_err-file-clause-refused : goal.returns-in_err-file-clause-refused
returns-in_err-file-clause-refused g c =
    c.calls_go_on_from_what_is_known.ensures.made_refusals (asks_write c.args.at c.args.bytes.now) c.args.mount.now.fds c.args.fd c.args.at c.args.bytes.now c.args.pass.now c.args.pass.now c.from_residual.result (λ file. refl) c.sees_a_run.ensures.mount c.has_taken_in.ensures
    (returns-in_err-file-clause-over g c)

pub returns-in_err-file-clause-complete : goal.returns-in_err-file-clause-complete
returns-in_err-file-clause-complete g c = c.calls_are_complete.ensures.calls (early_refusal can_write c.args.pass.now.view.opened.sizes c.args.mount.now.fds c.args.fd c.args.at (length c.args.bytes.now)) (file_of_fd c.args.mount.now.fds c.args.fd) (asks_write c.args.at c.args.bytes.now) c.args.pass.now c.args.pass.now c.from_residual.result (returns-in_err-file-clause-over g c)

pub returns-in_err-file-clause-alone : goal.returns-in_err-file-clause-alone
returns-in_err-file-clause-alone g c = λ alone.
    c.a_write_alone_meets_nobody.ensures.made (asks_write c.args.at c.args.bytes.now) c.args.mount.now.fds c.args.fd c.args.at c.args.bytes.now c.args.pass.now c.args.pass.now c.from_residual.result (λ file. refl) c.sees_a_run.ensures.mount (c.has_taken_in.ensures alone.zero) alone
    (returns-in_err-file-clause-over g c)

-- ---- one that makes its steps

pub returns-clause-over : goal.returns-clause-over
returns-clause-over g c =
    let early : early_refusal can_write c.args.pass.now.view.opened.sizes c.args.mount.now.fds c.args.fd c.args.at (length c.args.bytes.now) ≡ None =
    ap (λ (o : Opened). early_refusal can_write o.sizes c.args.mount.now.fds c.args.fd c.args.at (length c.args.bytes.now)) c.requires.board.same_mount ∙ c.in_ok-file.ensures.early in
    subst (λ by. IsCallOver by (file_of_fd c.args.mount.now.fds c.args.fd) (asks_write c.args.at c.args.bytes.now) c.args.pass.now c.write_as.new.pass c.write_as.result) (sym early) (c.in_ok-file.file, c.in_ok-file.ensures.file_is, c.write_as.ensures.over)

pub returns-clause-idle : goal.returns-clause-idle
returns-clause-idle g c = (over_told (asks_write c.args.at c.args.bytes.now) c.args.mount.now.fds c.args.fd c.args.at (length c.args.bytes.now) c.args.pass.now c.write_as.new.pass c.write_as.result (λ file reply is. is) c.write_as.ensures.count c.requires.idle (returns-clause-over g c)).idle

pub returns-clause-later : goal.returns-clause-later
returns-clause-later g c = (over_told (asks_write c.args.at c.args.bytes.now) c.args.mount.now.fds c.args.fd c.args.at (length c.args.bytes.now) c.args.pass.now c.write_as.new.pass c.write_as.result (λ file reply is. is) c.write_as.ensures.count c.requires.idle (returns-clause-over g c)).later

pub returns-clause-spare : goal.returns-clause-spare
returns-clause-spare g c = (over_told (asks_write c.args.at c.args.bytes.now) c.args.mount.now.fds c.args.fd c.args.at (length c.args.bytes.now) c.args.pass.now c.write_as.new.pass c.write_as.result (λ file reply is. is) c.write_as.ensures.count c.requires.idle (returns-clause-over g c)).spare

pub returns-clause-kept : goal.returns-clause-kept
returns-clause-kept g c = (over_told (asks_write c.args.at c.args.bytes.now) c.args.mount.now.fds c.args.fd c.args.at (length c.args.bytes.now) c.args.pass.now c.write_as.new.pass c.write_as.result (λ file reply is. is) c.write_as.ensures.count c.requires.idle (returns-clause-over g c)).kept

pub returns-clause-done : goal.returns-clause-done
returns-clause-done g c = bytes_placed c.args.mount.now.fds c.args.fd c.args.at c.args.bytes.now c.args.pass.now c.write_as.new.pass c.write_as.result (over_told (asks_write c.args.at c.args.bytes.now) c.args.mount.now.fds c.args.fd c.args.at (length c.args.bytes.now) c.args.pass.now c.write_as.new.pass c.write_as.result (λ file reply is. is) c.write_as.ensures.count c.requires.idle (returns-clause-over g c)).done

pub returns-clause-left : goal.returns-clause-left
returns-clause-left g c = c.refused_writes_leave_words.ensures.made (asks_write c.args.at c.args.bytes.now) c.args.mount.now.fds c.args.fd c.args.at c.args.bytes.now c.args.pass.now c.write_as.new.pass c.write_as.result (λ file. refl) c.sees_a_run.ensures.mount c.requires.idle (returns-clause-over g c)

pub returns-clause-stop : goal.returns-clause-stop
returns-clause-stop g c = c.ended_calls_heed_stop.ensures.calls can_write c.args.mount.now.fds c.args.fd c.args.at (length c.args.bytes.now) (asks_write c.args.at c.args.bytes.now) c.args.pass.now c.write_as.new.pass c.write_as.result c.sees_a_run.ensures.mount (returns-clause-over g c)

pub returns-clause-known : goal.returns-clause-known
returns-clause-known g c =
    c.calls_go_on_from_what_is_known.ensures.calls (early_refusal can_write c.args.pass.now.view.opened.sizes c.args.mount.now.fds c.args.fd c.args.at (length c.args.bytes.now)) (file_of_fd c.args.mount.now.fds c.args.fd) (asks_write c.args.at c.args.bytes.now) c.args.pass.now c.write_as.new.pass c.write_as.result c.sees_a_run.ensures.mount c.has_taken_in.ensures
    (returns-clause-over g c)

pub returns-clause-refused : goal.returns-clause-refused
returns-clause-refused g c =
    c.calls_go_on_from_what_is_known.ensures.made_refusals (asks_write c.args.at c.args.bytes.now) c.args.mount.now.fds c.args.fd c.args.at c.args.bytes.now c.args.pass.now c.write_as.new.pass c.write_as.result (λ file. refl) c.sees_a_run.ensures.mount c.has_taken_in.ensures
    (returns-clause-over g c)

pub returns-clause-complete : goal.returns-clause-complete
returns-clause-complete g c = c.calls_are_complete.ensures.calls (early_refusal can_write c.args.pass.now.view.opened.sizes c.args.mount.now.fds c.args.fd c.args.at (length c.args.bytes.now)) (file_of_fd c.args.mount.now.fds c.args.fd) (asks_write c.args.at c.args.bytes.now) c.args.pass.now c.write_as.new.pass c.write_as.result (returns-clause-over g c)

pub returns-clause-alone : goal.returns-clause-alone
returns-clause-alone g c = λ alone.
    c.a_write_alone_meets_nobody.ensures.made (asks_write c.args.at c.args.bytes.now) c.args.mount.now.fds c.args.fd c.args.at c.args.bytes.now c.args.pass.now c.write_as.new.pass c.write_as.result (λ file. refl) c.sees_a_run.ensures.mount (c.has_taken_in.ensures alone.zero) alone
    (returns-clause-over g c)

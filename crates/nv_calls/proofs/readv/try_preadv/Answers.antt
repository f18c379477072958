-- What a read that is over tells is so by the laws of such reads.
use Rattle.std.proofs.Common.{◌≡◌, length, sym, ap, subst, ◌∙◌, rules}
use Rattle.std.specs.List.{sum}
use Rattle.std.specs.Prelude.{None}
use Rattle.nv_plain.specs.Modes.{can_read}
use Rattle.nv_plain.specs.declared.call.FileCall.TheVariants.{Readv}
use Rattle.nv_table.specs.state.Opened.{Opened}
use Rattle.nv_calls.specs.calls.Asks.{asks_readv}
use Rattle.nv_calls.specs.calls.EarlyRefusals.{early_refusal}
use Rattle.nv_calls.specs.fsync.SyncRuns.{file_of_fd}
use Rattle.nv_calls.specs.reads.Reads.{IsReadDoneAs}
use Rattle.nv_calls.proofs.reads.OverLaws.{call_over, over_as, over_told_as}
use Rattle.nv_calls.proofs.reads.PartLaws.{parts_placed}
use Rattle.nv_calls.proofs.readv.try_preadv.Goals as goal

-- ---- one that is refused before any step

pub returns-in_err-file-clause-over : goal.returns-in_err-file-clause-over
returns-in_err-file-clause-over g c = search rules

pub returns-in_err-file-clause-stop : goal.returns-in_err-file-clause-stop
returns-in_err-file-clause-stop g c =
    c.ended_calls_heed_stop.ensures.calls can_read c.args.mount.now.fds c.args.fd c.args.at (length c.empty.new.self.list) (asks_readv c.args.at c.empty.new.self.lens (length c.empty.new.self.list)) c.args.pass.now c.args.pass.now c.from_residual.result c.sees_a_run.ensures.mount
    (call_over (asks_readv c.args.at c.empty.new.self.lens) c.args.mount.now.fds c.args.fd c.args.at c.empty.new.self.list c.args.pass.now c.args.pass.now c.from_residual.result (returns-in_err-file-clause-over g c))

pub returns-in_err-file-clause-known : goal.returns-in_err-file-clause-known
returns-in_err-file-clause-known g c =
    c.calls_go_on_from_what_is_known.ensures.calls (early_refusal can_read c.args.pass.now.view.opened.sizes c.args.mount.now.fds c.args.fd c.args.at (length c.empty.new.self.list)) (file_of_fd c.args.mount.now.fds c.args.fd) (asks_readv c.args.at c.empty.new.self.lens (length c.empty.new.self.list)) c.args.pass.now c.args.pass.now c.from_residual.result
    c.sees_a_run.ensures.mount c.has_taken_in.ensures (call_over (asks_readv c.args.at c.empty.new.self.lens) c.args.mount.now.fds c.args.fd c.args.at c.empty.new.self.list c.args.pass.now c.args.pass.now c.from_residual.result (returns-in_err-file-clause-over g c))

pub returns-in_err-file-clause-complete : goal.returns-in_err-file-clause-complete
returns-in_err-file-clause-complete g c =
    c.calls_are_complete.ensures.calls (early_refusal can_read c.args.pass.now.view.opened.sizes c.args.mount.now.fds c.args.fd c.args.at (length c.empty.new.self.list)) (file_of_fd c.args.mount.now.fds c.args.fd) (asks_readv c.args.at c.empty.new.self.lens (length c.empty.new.self.list)) c.args.pass.now c.args.pass.now c.from_residual.result
    (call_over (asks_readv c.args.at c.empty.new.self.lens) c.args.mount.now.fds c.args.fd c.args.at c.empty.new.self.list c.args.pass.now c.args.pass.now c.from_residual.result (returns-in_err-file-clause-over g c))

pub returns-in_err-file-clause-alone : goal.returns-in_err-file-clause-alone
returns-in_err-file-clause-alone g c = λ alone cell.
    c.a_read_alone_is_not_busy.ensures.made (asks_readv c.args.at c.empty.new.self.lens) c.args.mount.now.fds c.args.fd c.args.at c.empty.new.self.list c.args.pass.now c.args.pass.now c.from_residual.result cell c.sees_a_run.ensures.mount (c.has_taken_in.ensures alone.zero) alone
    (returns-in_err-file-clause-over g c)

-- ---- one that makes its steps

pub returns-clause-over : goal.returns-clause-over
returns-clause-over g c =
    let list = c.readv_as.new.parts.list in
    let size : length c.empty.new.self.list ≡ length list = sym c.total.ensures.room ∙ c.total.ensures.sum ∙ sym (c.readv_as.ensures.got.1 ∙ ap sum c.readv_as.ensures.got.0) in
    let early : early_refusal can_read c.args.pass.now.view.opened.sizes c.args.mount.now.fds c.args.fd c.args.at (length list) ≡ None =
    ap (λ (o : Opened). early_refusal can_read o.sizes c.args.mount.now.fds c.args.fd c.args.at (length list)) c.requires.board.same_mount
    ∙ ap (early_refusal can_read c.args.mount.now.board.opened.sizes c.args.mount.now.fds c.args.fd c.args.at) (sym size) ∙ ap (early_refusal can_read c.args.mount.now.board.opened.sizes c.args.mount.now.fds c.args.fd c.args.at) (sym c.total.ensures.room) ∙ c.in_ok-file.ensures.early in
    over_as (asks_readv c.args.at c.readv_as.new.parts.lens) c.args.mount.now.fds c.args.fd c.args.at list c.args.pass.now c.readv_as.new.pass c.readv_as.result c.in_ok-file.file early c.in_ok-file.ensures.file_is
    (subst (λ lens. IsReadDoneAs (Readv c.in_ok-file.file c.args.at lens) list c.args.pass.now c.readv_as.new.pass c.readv_as.result) (sym c.readv_as.ensures.got.0) c.readv_as.ensures.done)

pub returns-clause-idle : goal.returns-clause-idle
returns-clause-idle g c = (over_told_as (asks_readv c.args.at c.readv_as.new.parts.lens) c.args.mount.now.fds c.args.fd c.args.at c.readv_as.new.parts.list c.args.pass.now c.readv_as.new.pass c.readv_as.result c.requires.idle (returns-clause-over g c)).idle

pub returns-clause-later : goal.returns-clause-later
returns-clause-later g c = (over_told_as (asks_readv c.args.at c.readv_as.new.parts.lens) c.args.mount.now.fds c.args.fd c.args.at c.readv_as.new.parts.list c.args.pass.now c.readv_as.new.pass c.readv_as.result c.requires.idle (returns-clause-over g c)).later

pub returns-clause-spare : goal.returns-clause-spare
returns-clause-spare g c = (over_told_as (asks_readv c.args.at c.readv_as.new.parts.lens) c.args.mount.now.fds c.args.fd c.args.at c.readv_as.new.parts.list c.args.pass.now c.readv_as.new.pass c.readv_as.result c.requires.idle (returns-clause-over g c)).spare

pub returns-clause-kept : goal.returns-clause-kept
returns-clause-kept g c = (over_told_as (asks_readv c.args.at c.readv_as.new.parts.lens) c.args.mount.now.fds c.args.fd c.args.at c.readv_as.new.parts.list c.args.pass.now c.readv_as.new.pass c.readv_as.result c.requires.idle (returns-clause-over g c)).kept

pub returns-clause-done : goal.returns-clause-done
returns-clause-done g c =
    parts_placed c.args.mount.now.fds c.args.fd c.args.at c.empty.new.self c.readv_as.new.parts c.args.pass.now.view c.readv_as.new.pass.view c.readv_as.result c.readv_as.ensures.got
    (over_told_as (asks_readv c.args.at c.readv_as.new.parts.lens) c.args.mount.now.fds c.args.fd c.args.at c.readv_as.new.parts.list c.args.pass.now c.readv_as.new.pass c.readv_as.result c.requires.idle (returns-clause-over g c)).done

pub returns-clause-stop : goal.returns-clause-stop
returns-clause-stop g c =
    c.ended_calls_heed_stop.ensures.calls can_read c.args.mount.now.fds c.args.fd c.args.at (length c.readv_as.new.parts.list) (asks_readv c.args.at c.readv_as.new.parts.lens (length c.readv_as.new.parts.list)) c.args.pass.now c.readv_as.new.pass c.readv_as.result c.sees_a_run.ensures.mount
    (call_over (asks_readv c.args.at c.readv_as.new.parts.lens) c.args.mount.now.fds c.args.fd c.args.at c.readv_as.new.parts.list c.args.pass.now c.readv_as.new.pass c.readv_as.result (returns-clause-over g c))

pub returns-clause-complete : goal.returns-clause-complete
returns-clause-complete g c =
    c.calls_are_complete.ensures.calls (early_refusal can_read c.args.pass.now.view.opened.sizes c.args.mount.now.fds c.args.fd c.args.at (length c.readv_as.new.parts.list)) (file_of_fd c.args.mount.now.fds c.args.fd) (asks_readv c.args.at c.readv_as.new.parts.lens (length c.readv_as.new.parts.list)) c.args.pass.now c.readv_as.new.pass c.readv_as.result
    (call_over (asks_readv c.args.at c.readv_as.new.parts.lens) c.args.mount.now.fds c.args.fd c.args.at c.readv_as.new.parts.list c.args.pass.now c.readv_as.new.pass c.readv_as.result (returns-clause-over g c))

pub returns-clause-known : goal.returns-clause-known
returns-clause-known g c =
    c.calls_go_on_from_what_is_known.ensures.calls (early_refusal can_read c.args.pass.now.view.opened.sizes c.args.mount.now.fds c.args.fd c.args.at (length c.readv_as.new.parts.list)) (file_of_fd c.args.mount.now.fds c.args.fd) (asks_readv c.args.at c.readv_as.new.parts.lens (length c.readv_as.new.parts.list)) c.args.pass.now c.readv_as.new.pass c.readv_as.result
    c.sees_a_run.ensures.mount c.has_taken_in.ensures (call_over (asks_readv c.args.at c.readv_as.new.parts.lens) c.args.mount.now.fds c.args.fd c.args.at c.readv_as.new.parts.list c.args.pass.now c.readv_as.new.pass c.readv_as.result (returns-clause-over g c))

pub returns-clause-alone : goal.returns-clause-alone
returns-clause-alone g c = λ alone cell.
    c.a_read_alone_is_not_busy.ensures.made (asks_readv c.args.at c.readv_as.new.parts.lens) c.args.mount.now.fds c.args.fd c.args.at c.readv_as.new.parts.list c.args.pass.now c.readv_as.new.pass c.readv_as.result cell c.sees_a_run.ensures.mount (c.has_taken_in.ensures alone.zero) alone (returns-clause-over g c)

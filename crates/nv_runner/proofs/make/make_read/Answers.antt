-- A read that is refused by what it asks for made no step, and one that has its place gave the first bytes of its list.
use Rattle.std.proofs.Common.{◌≡◌, length, refl, sym, ap, subst, ◌∙◌, rules}
use Rattle.std.specs.Prelude.{Result, Err}
use Rattle.nv_mirror.specs.declared.answers.Done.{Done}
use Rattle.nv_mirror.specs.declared.answers.Refusal.{Refusal}
use Rattle.nv_calls.specs.calls.Asks.{asks_read}
use Rattle.nv_calls.specs.reads.Reads.{IsReadOver}
use Rattle.nv_runner.proofs.CallLaws.{read_admitted, read_made_early, read_refused_early}
use Rattle.nv_runner.proofs.make.make_read.Goals as goal

pub returns-in-Some-clause-told : goal.returns-in-Some-clause-told
returns-in-Some-clause-told g c =
    λ worker.
    let is = read_refused_early c.args.mount.now.fds worker c.args.fd c.args.at c.args.len c.args.mount.now.board.opened c.args.pass.now c.in-Some.refusal (sym c.early_read_refusal.ensures ∙ c.in-Some.is) in
    record { kept = is.0; lasting = is.1 }

pub returns-in-Some-clause-made : goal.returns-in-Some-clause-made
returns-in-Some-clause-made g c =
    λ worker. record {
      result = Err c.in-Some.refusal;
      by = read_made_early (asks_read c.args.at) c.args.mount.now.fds c.args.fd c.args.at c.args.len c.args.mount.now.board.opened c.args.pass.now c.in-Some.refusal c.requires.board.same_mount (sym c.early_read_refusal.ensures ∙ c.in-Some.is);
      answers = refl;
    }

pub returns-in-Err-clause-told : goal.returns-in-Err-clause-told
returns-in-Err-clause-told g c =
    λ worker. record { kept = c.in-Err.ensures.kept; lasting = λ cell busy. c.pread.ensures.free cell (c.in-Err.is ∙ ap (λ (r : Refusal). Err r) busy) }

pub returns-in-Err-clause-made : goal.returns-in-Err-clause-made
returns-in-Err-clause-made g c =
    let size : length c.pread.new.buf ≡ c.args.len = search rules in
    λ worker. record { result = c.pread.result; by = (c.pread.new.buf, size, c.pread.ensures.tried); answers = c.in-Err.is }

pub returns-in-Ok-clause-made : goal.returns-in-Ok-clause-made
returns-in-Ok-clause-made g c =
    let size : length c.pread.new.buf ≡ c.args.len = search rules in
    λ worker. record { result = c.pread.result; by = (c.pread.new.buf, size, c.pread.ensures.tried); answers = (c.in-Ok.done.len, c.in-Ok.is) }

pub returns-in-Ok-clause-admitted : goal.returns-in-Ok-clause-admitted
returns-in-Ok-clause-admitted g c =
    let list = c.pread.new.buf in
    let size : length list ≡ c.args.len = search rules in
    let over = c.pread.ensures.over in
    read_admitted (asks_read c.args.at) c.args.mount.now.fds c.args.fd c.args.at c.args.len list over.0 c.pread.new.pass c.in-Ok.done size
    (subst (λ (r : Result Done Refusal). IsReadOver c.args.mount.now.fds c.args.fd c.args.at list over.0 c.pread.new.pass r) c.in-Ok.is over.2)

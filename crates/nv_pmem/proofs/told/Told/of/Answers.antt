use Rattle.std.proofs.Common.{◌≡◌, ℕ, ◌/◌, length, map, ap, ◌∙◌, arith}
use Rattle.std.specs.List.{range_with_len}
use Rattle.std.proofs.lemmas.List.FromFn.{map-range_with_len_more}
use Rattle.nv_pmem.specs.Made.{words_in, line_in}
use Rattle.nv_pmem.specs.Part.{Line}
use Rattle.nv_pmem.specs.Picked.{settled}
use Rattle.nv_pmem.proofs.PastLaws.{none_before}
use Rattle.nv_pmem.proofs.told.Told.of.Goals as goal

pub loop-line-preserved : goal.loop-line-preserved
loop-line-preserved c =
    let line_at : ℕ → Line = λ line. settled (words_in (line_in c.args.bytes.now line)) in
    let more = map-range_with_len_more line_at 0 c.loop-line.line c.loop-line.line (omega arith) in
    cc (more, c.in_ok-push.ensures.items, c.line_in.ensures)

pub returns : goal.returns
returns c =
    let n : c.loop-line.line ≡ length c.args.bytes.now / 64 = omega arith in
    let line_at : ℕ → Line = λ line. settled (words_in (line_in c.args.bytes.now line)) in
    none_before (λ lines. lines.items) (c.loop-line.invariant ∙ ap (λ count. map line_at (range_with_len 0 count)) n) c.new.ensures

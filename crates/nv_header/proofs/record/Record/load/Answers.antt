use Rattle.std.proofs.Common.{◌≡◌, ◌+◌, ◌*◌, ◌≤◌, length, ap, subst, ◌∙◌, arith}
use Rattle.nv_plain.specs.Layouts.{layout_of}
use Rattle.nv_pmem.specs.Moments.{Tells}
use Rattle.nv_pmem.specs.Steps.{PartHistory}
use Rattle.nv_pmem.proofs.Rooms.{Keeps-more}
use Rattle.nv_pmem.proofs.Ranges.{length-put_mid}
use Rattle.nv_header.proofs.Records.{word_from, told_word_put, told_room, told_length}
use Rattle.nv_header.proofs.VersionLaws.{sizes}
use Rattle.nv_header.proofs.record.Record.load.Goals as goal

pub loop-k-preserved : goal.loop-k-preserved
loop-k-preserved g c =
    let first = c.record_line-first.result in
    let small : (layout_of c.args.version).name_limit ≤ 248 = omega (arith, (sizes c.args.version).limit, (sizes c.args.version).few_lines) in
    let inside : 8 * c.loop-k.k + 8 ≤ length c.loop-k.room = omega (arith, c.name_limit.ensures, c.loop-k.invariant.size) in
    let copy = c.copy_from_slice.ensures.after ∙ c.to_le_bytes.ensures in
    let Loaded : PartHistory → Type 0 = λ history. Tells history (λ now. c.in_ok-value.value ≡ word_from now first (1 + c.loop-k.k)) in
    record {
      size = length-put_mid (8 * c.loop-k.k) _ c.loop-k.room c.copy_from_slice.new.self (omega (arith, inside)) (omega (arith, ap length copy)) ∙ c.loop-k.invariant.size;
      loaded =
          told_word_put (g.L.Lines.history c.args.part.now) first c.loop-k.k c.in_ok-value.value c.loop-k.room c.copy_from_slice.new.self
          _ (omega (arith, inside)) copy c.loop-k.invariant.loaded (subst Loaded c.loop-k.invariant.history c.in_ok-value.ensures.value);
      history = c.in_ok-value.ensures.history ∙ c.loop-k.invariant.history;
      room = Keeps-more c.loop-k.invariant.room c.in_ok-value.ensures.room;
      faults = c.in_ok-value.ensures.cause ∙ c.loop-k.invariant.faults;
      device = c.in_ok-value.ensures.device ∙ c.loop-k.invariant.device;
    }

pub returns-clause-bytes : goal.returns-clause-bytes
returns-clause-bytes g c =
    told_room (g.L.Lines.history c.args.part.now) c.args.version c.args.i c.record_line-first.result c.loop-k.k c.loop-k.room c.record_line-first.ensures
    (omega (arith, c.name_limit.ensures)) c.loop-k.invariant.loaded

pub returns-clause-length : goal.returns-clause-length
returns-clause-length g c =
    told_length (g.L.Lines.history c.args.part.now) c.args.version c.args.i c.record_line-first.result c.in_ok-length.length c.record_line-first.ensures c.in_ok-length.ensures.value

use Rattle.std.proofs.Common.{◌≡◌, ◌+◌, ◌-◌, length, drop, ap, ◌∙◌, refl, arith}
use Rattle.std.proofs.lemmas.Grind.{common_steps}
use Rattle.std.proofs.lemmas.List.{take_all, take_at, append-nil}
use Rattle.std.proofs.lemmas.Slice.{put_mid-paste}
use lib.Seq.{paste}
use borrow.Rule.Slice.PartMut.{put_mid}
use Rattle.nv_plain.specs.Files.{padded, overwritten}
use Rattle.nv_plain.proofs.FileLemmas.{length-padded, length-overwritten, overwritten-padded}
use Rattle.nv_store.proofs.disk.overwrite.Goals as goal
use Rattle.nv_store.proofs.disk.overwrite.Goals.{then-end-len+else-prove, else-end-len}

pub returns : goal.returns
returns c =
    let bytes = c.args.bytes.now.items in
    let source = c.args.source.now in
    let end = c.args.at + length source in
    let grown : c.if-end-len.bytes.items ≡ padded bytes end =
    elim c.if-end-len.branch [
      | then-end-len+else-prove w ↦ grind (arith, common_steps, w.resize.ensures.items, take_all end bytes)
      | else-end-len w ↦ grind (arith, common_steps, append-nil bytes)
    ] in
    let now = put_mid c.args.at (end - c.args.at) c.deref_mut.result.now c.copy_from_slice.new.self in
    let pasted : now ≡ overwritten bytes c.args.at source =
    put_mid-paste c.args.at (end - c.args.at) c.deref_mut.result.now c.copy_from_slice.new.self source (length source) (cc) (omega arith) refl
    ∙ ap (λ list. paste list c.args.at source (length source)) (c.deref_mut.ensures.value ∙ grown)
    ∙ overwritten-padded bytes source c.args.at c.requires.some in
    let len : length now ≡ c.if-end-len.bytes.len = omega (arith, ap length pasted, ap length grown, length-padded bytes end, length-overwritten bytes source c.args.at c.requires.some, c.if-end-len.bytes.ok.0) in
    take_at now (drop (length now) c.if-end-len.bytes.items) c.if-end-len.bytes.len len ∙ pasted

use Rattle.std.proofs.Common.{◌≡◌, ℕ, List, ◌++◌, length, drop, replicate, sym, ap, ◌∙◌, arith}
use Rattle.std.proofs.Math.Seq.{drop-append_seam}
use Rattle.std.proofs.lemmas.List.{take_at, drop-replicate}
use Rattle.std.specs.Int.{to_le_bytes, w64}
use borrow.Rule.Slice.PartMut.{put_mid}
use Rattle.nv_plain.specs.Files.{padded}
use Rattle.nv_header.specs.HeaderSteps.{name_record}
use Rattle.nv_header.proofs.writing.record_of.Goals as goal

-- a length in front of zeros, and a name behind it
record_put : (front bytes name : List ℕ) (size : ℕ) → front ≡ to_le_bytes w64 (length name) → bytes ≡ name → size ≡ length name → put_mid 8 size (front ++ replicate 248 0) bytes ≡ to_le_bytes w64 (length name) ++ padded name 248
record_put front bytes name size front_is bytes_is size_is =
    let long : length front ≡ 8 = ap length front_is in
    let zeros = replicate {A = ℕ} 248 0 in
    let rest : drop 8 (front ++ zeros) ≡ zeros = ap (λ n. drop n (front ++ zeros)) (sym long) ∙ drop-append_seam front zeros in
    ap (λ these. these ++ (bytes ++ drop size (drop 8 (front ++ zeros)))) (take_at front zeros 8 long)
    ∙ ap (λ these. these ++ (bytes ++ drop size (drop 8 (front ++ zeros)))) front_is
    ∙ ap (λ these. to_le_bytes w64 (length name) ++ (bytes ++ drop size these)) rest
    ∙ ap (λ these. to_le_bytes w64 (length name) ++ (these ++ drop size zeros)) bytes_is
    ∙ ap (λ n. to_le_bytes w64 (length name) ++ (name ++ drop n zeros)) size_is
    ∙ ap (λ these. to_le_bytes w64 (length name) ++ (name ++ these)) (drop-replicate (length name) 248 0)

pub returns : goal.returns
unfolding name_record
returns c =
    record_put c.copy_from_slice.new.self c.copy_from_slice-2.new.self c.args.name.now _ (c.copy_from_slice.ensures.after ∙ c.to_le_bytes.ensures)
    c.copy_from_slice-2.ensures.after (omega arith)

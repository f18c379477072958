use Rattle.std.proofs.Common.{◌≡◌, ℕ, List, ◌++◌, length, drop, replicate, ap, ◌∙◌}
use Rattle.std.proofs.lemmas.List.{drop-replicate}
use Rattle.nv_plain.specs.Files.{padded}
use Rattle.nv_entry.proofs.group.with_zeros.Goals as goal

padded_copy : (bytes copy : List ℕ) (size : ℕ) → copy ≡ bytes → copy ++ drop (length bytes) (replicate size 0) ≡ padded bytes size
padded_copy bytes copy size same =
    ap (λ front. front ++ drop (length bytes) (replicate size 0)) same
    ∙ ap (λ zeros. bytes ++ zeros) (drop-replicate (length bytes) size 0)

pub returns : goal.returns
returns c = padded_copy c.args.bytes.now c.copy_from_slice.new.self 64 c.copy_from_slice.ensures.after

-- Writes one over another. What is said here is of plain files alone.
use Rattle.std.proofs.Common.{◌≡◌, ℕ, ◌+◌, ◌<◌, ◌≤◌, false, List, [], ◌∷◌, length, get_or, sym, ap, ◌∙◌, arith, inl, inr}
use Rattle.std.proofs.lemmas.Bool.{cases_Bool}
use Rattle.std.proofs.lemmas.List.{ext_get_or}
use Rattle.nv_plain.specs.Files.{overwritten}
use Rattle.nv_plain.proofs.FileLemmas.{length-overwritten, get_or-overwritten_inside}
use Rattle.nv_store.specs.Store.{is_in_range}
use Rattle.nv_store.proofs.StoreLaws.{in_range_low, in_range_high, outside, byte_outside}

-- a byte after a write, by what was there
same_byte : (x y bytes : List ℕ) (at i : ℕ) → (is_in_range at (length bytes) i ≡ false → get_or x i 0 ≡ get_or y i 0)
    → get_or (overwritten x at bytes) i 0 ≡ get_or (overwritten y at bytes) i 0
same_byte x y bytes at i same = elim (cases_Bool (is_in_range at (length bytes) i)) [
  | inl there ↦
      let low : at ≤ i = in_range_low at (length bytes) i there in
      let high : i < at + length bytes = in_range_high at (length bytes) i there in
      get_or-overwritten_inside x bytes at i low high ∙ sym (get_or-overwritten_inside y bytes at i low high)
  | inr out ↦
      byte_outside x bytes at i (outside at (length bytes) i out) ∙ same out
      ∙ sym (byte_outside y bytes at i (outside at (length bytes) i out))
]

-- Files that a write makes the same it makes the same also after another write. So of writes that are all made again, in
-- their order, each makes good what it left the first time.
pub same_after_more : (x y bytes more : List ℕ) (at also : ℕ) → overwritten x at bytes ≡ overwritten y at bytes
    → overwritten (overwritten x also more) at bytes ≡ overwritten (overwritten y also more) at bytes
same_after_more x y [] more at also same = ap (λ file. overwritten file also more) same
same_after_more x y (first ∷ rest) [] at also same = same
same_after_more x y (first ∷ rest) (next ∷ others) at also same =
    let bytes = first ∷ rest in
    let more = next ∷ others in
    ext_get_or 0 (overwritten (overwritten x also more) at bytes) (overwritten (overwritten y also more) at bytes)
    (omega (
      arith,
      length-overwritten (overwritten x also more) bytes at (omega arith),
      length-overwritten (overwritten y also more) bytes at (omega arith),
      length-overwritten x more also (omega arith),
      length-overwritten y more also (omega arith),
      ap length same,
      length-overwritten x bytes at (omega arith),
      length-overwritten y bytes at (omega arith),
    ))
    (λ i inside. same_byte (overwritten x also more) (overwritten y also more) bytes at i
    (λ out. same_byte x y more also i
    (λ also_out.
    sym (byte_outside x bytes at i (outside at (length bytes) i out))
    ∙ ap (λ file. get_or file i 0) same
    ∙ byte_outside y bytes at i (outside at (length bytes) i out))))

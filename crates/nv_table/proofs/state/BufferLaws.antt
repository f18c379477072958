-- Buffers: those of the first pages, so far.
use Rattle.std.proofs.Common.{◌≡◌, ℕ, ◌+◌, ◌<◌, ◌≤◌, List, [], ◌∷◌, ◌++◌, length, get_or, Option, inl, inr, sym, subst, arith}
use Rattle.std.specs.Prelude.{None}
use Rattle.std.proofs.lemmas.Bool.{cases_eq}
use Rattle.std.proofs.lemmas.List.{get_or_append_left, get_or_push, length_push}
use Rattle.nv_core.specs.state.Words.{Sizes}
use Rattle.nv_table.specs.declared.slot.PageBuffer.{PageBuffer}
use Rattle.nv_table.specs.ends.OpeningSlots.{IsFreshBuffer}

-- so many pages have what they are to have
pub record AreSome (sizes : Sizes) (many : ℕ) (buffers : List (Option PageBuffer)) : Type 0 where
  pub count : length buffers ≡ many
  pub first : (page : ℕ) → page < many → page < sizes.buffers → IsFreshBuffer sizes.page (get_or buffers page None)
  pub others : (page : ℕ) → page < many → sizes.buffers ≤ page → get_or buffers page None ≡ None

each_more : (P : ℕ → Option PageBuffer → Type 0) (many : ℕ) (buffers : List (Option PageBuffer)) (one : Option PageBuffer) → length buffers ≡ many
    → ((page : ℕ) → page < many → P page (get_or buffers page None)) → P many one → (page : ℕ) → page < many + 1 → P page (get_or (buffers ++ one ∷ []) page None)
each_more P many buffers one count each last page within = elim (cases_eq page many) [
  | inl same ↦ subst (λ n. P n (get_or (buffers ++ one ∷ []) n None)) (sym same) (subst (P many) (sym (get_or_push buffers one None many count)) last)
  | inr differs ↦ subst (P page) (sym (get_or_append_left buffers (one ∷ []) None page (omega (arith, count)))) (each page (omega arith))
]

-- and then one page more
pub one_more : (sizes : Sizes) (many : ℕ) (buffers next : List (Option PageBuffer)) (one : Option PageBuffer) → AreSome sizes many buffers → next ≡ buffers ++ one ∷ []
    → (many < sizes.buffers → IsFreshBuffer sizes.page one) → (sizes.buffers ≤ many → one ≡ None) → AreSome sizes (many + 1) next
one_more sizes many buffers next one are is fresh none = subst (AreSome sizes (many + 1)) (sym is) record {
  count = omega (arith, length_push buffers one, are.count);
  first = each_more (λ page buffer. page < sizes.buffers → IsFreshBuffer sizes.page buffer) many buffers one are.count are.first fresh;
  others = each_more (λ page buffer. sizes.buffers ≤ page → buffer ≡ None) many buffers one are.count are.others none;
}

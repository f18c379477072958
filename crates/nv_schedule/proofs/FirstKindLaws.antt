-- First kinds: whether a vectored call moves any byte.
use Rattle.std.proofs.Common.{◌≡◌, ◌==◌, ℕ, zero, suc, Bool, true, false, not, ◌||◌, if◌then◌else◌, nat_lt, List, [], ◌∷◌, ◌++◌, length, refl, sym, ap, ◌∙◌, arith}
use Rattle.std.specs.List.{concat, list_any, sum}
use Rattle.std.proofs.lemmas.Bool.{lt-ltb, ne_eqb, true≢false}
use Rattle.std.proofs.lemmas.List.Sums.{sum_by-cons}
use Rattle.nv_cache.specs.ReadSteps.{first_kind}
use Rattle.nv_op.specs.declared.kinds.Kind.TheVariants.{Load, Take}

pub some_len : (lens : List ℕ) → list_any (λ len. nat_lt 0 len) lens ≡ nat_lt 0 (sum lens)
some_len [] = refl
some_len (zero ∷ lens) = some_len lens
some_len (suc len ∷ lens) =
    let all = sum_by-cons (λ x. x) (suc len) lens in
    ap (λ b. b || list_any (λ len. nat_lt 0 len) lens) (lt-ltb 0 (suc len) (omega arith)) ∙ sym (lt-ltb 0 (sum (suc len ∷ lens)) (omega (arith, all)))

pub some_bytes : (parts : List (List ℕ)) → list_any (λ (part : List ℕ). not (length part == 0)) parts ≡ nat_lt 0 (length (concat parts))
some_bytes [] = refl
some_bytes ([] ∷ parts) = some_bytes parts
some_bytes ((byte ∷ part) ∷ parts) =
    ap (λ b. not b || list_any (λ (part : List ℕ). not (length part == 0)) parts) (ne_eqb (suc (length part)) 0 (λ is. omega (arith, is)))
    ∙ sym (lt-ltb 0 (suc (length (part ++ concat parts))) (omega arith))

pub taken : (len : ℕ) → true ≡ nat_lt 0 len → Take ≡ first_kind len
taken zero is = absurd (cc)
taken (suc len) is = sym (ap (λ b. if b then Load else Take) (ne_eqb (suc len) 0 (λ none. omega (arith, none))))

pub loaded : (len : ℕ) → false ≡ nat_lt 0 len → Load ≡ first_kind len
loaded zero is = refl
loaded (suc len) is = absurd (true≢false (sym (lt-ltb 0 (suc len) (omega arith)) ∙ sym is))

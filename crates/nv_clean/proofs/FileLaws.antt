-- Files: those from one on whose STORE a batch holds.
use Rattle.std.proofs.Common.{◌≡◌, ℕ, suc, ◌+◌, ◌-◌, ◌<◌, Bool, if◌then◌else◌, [], ◌∷◌, ap, ◌∙◌, arith}
use Rattle.std.specs.Prelude.{filter}
use Rattle.std.specs.List.{range_with_len}
use Rattle.nv_core.specs.state.Words.{Sizes}
use Rattle.nv_core.specs.state.Cleaner.{Batch}
use Rattle.nv_core.specs.steps.CleanerSteps.{holds_store}
use Rattle.nv_clean.specs.Cleaning.{files_from}

first_of : (test : ℕ → Bool) (from count : ℕ) (b : Bool) → test from ≡ b → filter test (range_with_len from (suc count)) ≡ (if b then from ∷ filter test (range_with_len (from + 1) count) else filter test (range_with_len (from + 1) count))
first_of test from count b is = ap (λ b. if b then from ∷ filter test (range_with_len (from + 1) count) else filter test (range_with_len (from + 1) count)) is

-- one that is held comes first, and one that isn't is passed over
pub files_first : (sizes : Sizes) (batch : Batch) (from : ℕ) (b : Bool) → from < sizes.files → holds_store batch from ≡ b
    → files_from sizes batch from ≡ (if b then from ∷ files_from sizes batch (from + 1) else files_from sizes batch (from + 1))
files_first sizes batch from b within is =
    let more : sizes.files - from ≡ suc (sizes.files - (from + 1)) = omega (arith, within) in
    ap (λ n. filter (holds_store batch) (range_with_len from n)) more ∙ first_of (holds_store batch) from (sizes.files - (from + 1)) b is

-- there is none behind the last
pub files_none : (sizes : Sizes) (batch : Batch) (from : ℕ) → (from < sizes.files → ⊥) → files_from sizes batch from ≡ []
files_none sizes batch from past = let none : sizes.files - from ≡ 0 = omega (arith, past) in ap (λ n. filter (holds_store batch) (range_with_len from n)) none

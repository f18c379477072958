-- What holds at each moment of a call of a store.
use Rattle.std.proofs.Common.{◌≡◌, ℕ, List, [], ◌∷◌, length, subst, inl, inr}
use Rattle.std.proofs.lemmas.List.Elements.{All-nil, All-cons}
use Rattle.nv_pmem.specs.Moments.{Tells, EachMoment}
use Rattle.nv_pmem.proofs.StepLaws.{tells_more, each_moment, did_some_all}
use Rattle.nv_store.specs.Store.{Store}
use Rattle.nv_store.specs.Steps.{StoreStep, Write, after_store_step, StoreHistory, DidStoreStep}
use Rattle.nv_store.specs.Torn.{IsTorn, LeftOrTore}
use Rattle.nv_store.proofs.StoreLaws.{write_is_torn}

-- nothing was done
pub moments_left : (P : Store → Type 0) (old new : StoreHistory) → new ≡ old → Tells old P → EachMoment P old new
moments_left P old new left told = record { since = []; states = left; at_first = told; each = All-nil P }

-- one step was made
pub moments_of_step : (P : Store → Type 0) (step : StoreStep) (old new : StoreHistory) → ((now : Store) → P now → P (after_store_step step now))
    → DidStoreStep (step ∷ []) old new → Tells old P → EachMoment P old new
moments_of_step P step old new keeps did told =
    each_moment P (tells_more old P (λ now. P now × P (after_store_step step now)) (λ now holds. (holds, keeps now holds)) told) (did_some_all did)

-- A write was made, of which P keeps even what a torn one leaves.
pub moments_of_write : (P : Store → Type 0) (at : ℕ) (bytes : List ℕ) (old new : StoreHistory)
    → ((now next : Store) → IsTorn at (length bytes) now next → P now → P next)
    → DidStoreStep (Write at bytes ∷ []) old new → Tells old P → EachMoment P old new
moments_of_write P at bytes old new keeps =
    moments_of_step P (Write at bytes) old new (λ now. keeps now (after_store_step (Write at bytes) now) (write_is_torn at bytes now))

-- a write failed
pub moments_of_failed_write : (P : Store → Type 0) (at count : ℕ) (old new : StoreHistory)
    → ((now next : Store) → IsTorn at count now next → P now → P next)
    → LeftOrTore at count old new → Tells old P → EachMoment P old new
moments_of_failed_write P at count old new keeps (inl left) told = moments_left P old new left told
moments_of_failed_write P at count old new keeps (inr tore) told =
    let At : StoreHistory → Type 0 = λ history. Tells history P in
    let was : P tore.now = subst At tore.told told in
    record {
      since = tore.next ∷ [];
      states = tore.states;
      at_first = told;
      each = All-cons P tore.next [] (keeps tore.now tore.next tore.torn was) (All-nil P);
    }

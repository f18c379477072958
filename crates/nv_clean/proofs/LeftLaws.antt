-- Left: what follows from what whole batches tell.
use Rattle.std.proofs.Common.{◌≡◌, ◌⊎◌, inl, inr, ℕ, zero, suc, ◌+◌, ◌<◌, ◌≤◌, ◌==◌, Bool, true, false, ◌&&◌, if◌then◌else◌, List, [], ◌∷◌, filter, slice_index, refl, sym, ap₂, subst, ◌∙◌, arith}
use Rattle.std.specs.List.{range_with_len}
use Rattle.std.proofs.lemmas.Bool.{cases_lt}
use Rattle.nv_plain.specs.Files.{contents_of}
use Rattle.nv_plain.specs.Images.{entry_at, header_of}
use Rattle.nv_core.specs.crash.PersistentTail.{IsInAPiece, LiesInPieces}
use Rattle.nv_core.specs.log.Groups.{Log}
use Rattle.nv_core.specs.log.LogContent.{log_after_run}
use Rattle.nv_core.specs.steps.Opening.{opening}
use Rattle.nv_table.specs.state.Opened.{mount_of, state_of}
use Rattle.nv_core.specs.state.Cleaner.{Subtract}
use Rattle.nv_core.specs.state.Core.{Core}
use Rattle.nv_core.specs.state.Passes.{IsOneOf}
use Rattle.nv_core.specs.state.Words.{Sizes, TAIL}
use Rattle.nv_core.specs.steps.Ops.{Op, ByCleaner}
use Rattle.nv_core.specs.walks.Walks.{walk_sizes}
use Rattle.nv_store.specs.Images.{IsStoreImage}
use Rattle.nv_store.specs.Store.{Store, is_unsynced}
use Rattle.nv_mirror.specs.PassSteps.{PassStep}
use Rattle.nv_mount.specs.LoneWords.{word_then}
use Rattle.nv_table.specs.state.Views.{pass_of}
use Rattle.nv_clean.specs.Answers.{tail_in}
use Rattle.nv_clean.specs.BatchLaws.{BatchesByHand, FirstGroupsAreRetired, RefusedBatchesCleanNothing, StoppedPassesAreHeld, StoredStaysStored, retiring, returning}
use Rattle.nv_clean.specs.WholeGroups.{AreGroups, AreWholeGroups, leads_in}
use Rattle.nv_clean.specs.WordsLeft.{ArePassing, is_passing, lowered_of, lowers}

pub stopped_passes_are_held : StoppedPassesAreHeld
stopped_passes_are_held most more start middle now first later tells ended again = again.over.heeds (ended.over.told tells)

-- ---- the first group

-- groups end where they begin, or behind it
ends_behind : (sizes : Sizes) (steps : List PassStep) (from : ℕ) (counts : List ℕ) (end : ℕ) → AreGroups sizes steps from counts end → from ≤ end
ends_behind sizes steps from [] end groups = let same = groups in omega (arith, same)
ends_behind sizes steps from (count ∷ before) end groups = let low = ends_behind sizes steps from before groups.0 groups.3 in let is = groups.2 in omega (arith, low, is)

first_group : (sizes : Sizes) (steps : List PassStep) (from : ℕ) (counts : List ℕ) (end : ℕ) → AreGroups sizes steps from counts end → from < end
    → (count : ℕ) × (leads_in sizes from count steps ≡ true) × (from + count ≤ end)
first_group sizes steps from [] end groups some = let same = groups in absurd (omega (arith, same, some))
first_group sizes steps from (count ∷ before) end groups some =
    let is = groups.2 in
    let low = ends_behind sizes steps from before groups.0 groups.3 in
    elim (cases_lt from groups.0) [
      | inl behind ↦ (let one = first_group sizes steps from before groups.0 groups.3 behind in let within = one.2 in (one.0, one.1, omega (arith, within, is)))
      | inr other ↦ (let here : groups.0 ≡ from = omega (arith, low, other) in (count, subst (λ n. leads_in sizes n count steps ≡ true) here groups.1, omega (arith, is, here)))
    ]

pub first_groups_are_retired : FirstGroupsAreRetired
first_groups_are_retired most start now cleaned ended =
    let over = ended.over in
    let some : 0 < cleaned.retired = over.some in
    let whole : AreWholeGroups start.view.opened.sizes over.steps (tail_in over.steps) cleaned.retired = over.whole in
    let past : (tail_in over.steps + cleaned.retired ≤ (pass_of now.view).tail) × ((pass_of now.view).tail ≤ word_then now.view TAIL) = over.past in
    let seen = past.0 in
    let moved = past.1 in
    let one = first_group start.view.opened.sizes over.steps (tail_in over.steps) whole.counts (tail_in over.steps + cleaned.retired) whole.groups (omega (arith, some)) in
    let within = one.2 in
    (one.0, one.1, omega (arith, within), omega (arith, within, seen, moved))

-- ---- a batch that is refused

lowers_none : (page : ℕ) (op : Op) → is_passing op ≡ true → lowers page op ≡ 0
lowers_none page (ByCleaner (Subtract one)) passing = absurd (cc)
lowers_none page op passing = refl

lowered_none : (page : ℕ) (steps : List PassStep) → ArePassing steps → lowered_of page steps ≡ 0
lowered_none page [] passing = refl
lowered_none page (step ∷ earlier) passing = let here = lowers_none page step.op passing.0 in let before = lowered_none page earlier passing.1 in omega (arith, here, before)

pub refused_batches_clean_nothing : RefusedBatchesCleanNothing
refused_batches_clean_nothing most start now refusal ended sound_still =
    let over = ended.over in
    let passing = over.left refusal refl sound_still in (
      over.held,
      λ page. (let none = lowered_none page over.steps passing in let same = over.dirty page in (omega (arith, none, same), none)),
    )

-- ---- what is stored

-- what is kept of a range is no lower than it
member_low : (test : ℕ → Bool) (from count n : ℕ) → IsOneOf (filter test (range_with_len from count)) n → from ≤ n
member_low test from zero n one = absurd one
member_low test from (suc count) n one = go (λ is. (let low = member_low test (from + 1) count n is in omega (arith, low))) (test from) refl one
  where
    go : (IsOneOf (filter test (range_with_len (from + 1) count)) n → from ≤ n) → (b : Bool) → test from ≡ b → IsOneOf (if test from then from ∷ filter test (range_with_len (from + 1) count) else filter test (range_with_len (from + 1) count)) n → from ≤ n
    go later true e one = elim (subst (λ b. IsOneOf (if b then from ∷ filter test (range_with_len (from + 1) count) else filter test (range_with_len (from + 1) count)) n) e one) [
      | inl same ↦ omega (arith, same)
      | inr rest ↦ later rest
    ]
    go later false e one = later (subst (λ b. IsOneOf (if b then from ∷ filter test (range_with_len (from + 1) count) else filter test (range_with_len (from + 1) count)) n) e one)

-- a byte of a store that lies in no such piece is in each image as reads give it
same_byte : (sizes : Sizes) (tail : ℕ) (log : Log) (core : Core) (file : ℕ) (store : Store) (image : List ℕ) (i : ℕ) → LiesInPieces sizes tail log core file store → IsStoreImage store image → (IsInAPiece sizes tail log core file i → ⊥)
    → slice_index image i ≡ slice_index store.seen i
same_byte sizes tail log core file store image i lies is apart = go (is_unsynced store i) refl
  where
    go : (b : Bool) → is_unsynced store i ≡ b → slice_index image i ≡ slice_index store.seen i
    go true marked = absurd (apart (lies.unsynced i marked))
    go false none = is.synced i none ∙ sym (lies.synced i none)

pub stored_stays_stored : StoredStaysStored
stored_stays_stored view below files names log image bytes stored opened part stores = (
  λ leader one. (let low = member_low (λ number. (entry_at image number).commit == number + 1) (header_of image).tail (header_of image).entries leader one in let first = stored.images files names image bytes opened part stores in omega (arith, low, first)),
  λ file i store there told apart. same_byte view.opened.sizes below (log_after_run view.opened.sizes (opening (mount_of view.opened)) view.run log) (state_of view.opened view.run) file store (contents_of bytes file) i ((stored.stores files names log opened).stores file store there told) (stores.each file store there told) apart,
)

-- ---- by hand

not_both : {b : Bool} → b ≡ true → b ≡ false → ⊥
not_both is is_not = cc

parts : (one other : Bool) → (one && other) ≡ true → (one ≡ true) × (other ≡ true)
parts true other is = (refl, is)
parts false other is = absurd (cc)

-- whether all steps leave their words as they were
abbrev all_pass : List PassStep → Bool
all_pass [] = true
all_pass (step ∷ earlier) = is_passing step.op && all_pass earlier

by_test : (steps : List PassStep) → all_pass steps ≡ true → ArePassing steps
by_test [] is = tt
by_test (step ∷ earlier) is = let both = parts (is_passing step.op) (all_pass earlier) is in (both.0, by_test earlier both.1)

to_test : (steps : List PassStep) → ArePassing steps → all_pass steps ≡ true
to_test [] passing = refl
to_test (step ∷ earlier) passing = ap₂ (λ a b. a && b) passing.0 (to_test earlier passing.1)

no_leader : (leader : ℕ) → leader ≡ 5 → leads_in walk_sizes leader 1 retiring ≡ true → ⊥
no_leader leader is leads = not_both (subst (λ n. leads_in walk_sizes n 1 retiring ≡ true) is leads) refl

pub batches_by_hand : BatchesByHand
batches_by_hand = record {
  whole = (5, refl, refl, refl);
  halved = λ groups. no_leader groups.0 groups.3 groups.1;
  beyond = λ same. omega (arith, same);
  cleaned = (refl, refl, refl);
  lowered = (refl, refl, refl);
  changes = λ passing. not_both (to_test retiring passing) refl;
  held = refl;
  returned = (by_test returning refl, refl);
}

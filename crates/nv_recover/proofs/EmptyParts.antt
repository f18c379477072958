-- One part whose commit word is cleared, or whose tail moves: what its images are.
use Rattle.std.proofs.Common.{◌≡◌, ◌≢◌, ◌⊎◌, inl, inr, ℕ, ◌<◌, ◌≤◌, refl, sym, ap, ◌∙◌, subst, arith}
use Rattle.nv_plain.specs.Images.{PartImage}
use Rattle.nv_pmem.specs.Images.{IsPartImage, InEachPartImage, IsOldOrStored, IsQuietPart}
use Rattle.nv_pmem.specs.Moments.{Tells, EachMoment}
use Rattle.nv_pmem.specs.Part.{Part, part_word}
use Rattle.nv_pmem.specs.Steps.{PartHistory}
use Rattle.nv_pmem.proofs.ImageLaws.{image_of_now, quiet_image}
use Rattle.nv_pmem.proofs.StepLaws.{tells_more, tells_both, tells_told}
use Rattle.nv_recover.specs.Emptying.{BothTell, IsTrimmed, MayBeTrimmed, HasSmallWord}
use Rattle.nv_recover.proofs.RowMoments.{moment_now, moments_more}
use Rattle.nv_recover.proofs.Present.{both_itself, both_more, both_both, both_old, both_new, both_step}

-- ---- a part that isn't changed

pub untrimmed : (most : ℕ) (was now : Part) → now ≡ was → MayBeTrimmed most was now
untrimmed most was now same quiet image is =
    let At : Part → Type 0 = λ part. IsPartImage part image in
    let words = λ (line word : ℕ). quiet_image was image line word (quiet.lines line) (subst At same is) in
    record { others = λ line word apart. words line word; commit = inl (words 0 0) }

pub same_untrimmed : (most : ℕ) (old new : PartHistory) → new ≡ old → BothTell old new (MayBeTrimmed most)
same_untrimmed most old new same =
    let At : PartHistory → Type 0 = λ history. BothTell old history (MayBeTrimmed most) in
    subst At (sym same) (both_more old old (λ was now. now ≡ was) (MayBeTrimmed most) (untrimmed most) (both_itself old))

pub untrimmed_moments : (most : ℕ) (old new : PartHistory) → new ≡ old → Tells old (λ was. EachMoment (MayBeTrimmed most was) old new)
untrimmed_moments most old new same =
    moment_now (MayBeTrimmed most) old new same (tells_told old (λ was. MayBeTrimmed most was was) (λ was past is. untrimmed most was was refl))

-- its word was small
pub same_small : (most value : ℕ) (old new : PartHistory) → new ≡ old → value ≤ most → Tells old (λ was. value ≡ part_word was 0 0) → BothTell old new (HasSmallWord most)
same_small most value old new same small loaded =
    let At : PartHistory → Type 0 = λ history. BothTell old history (HasSmallWord most) in
    subst At (sym same)
    (both_more old old (λ was now. (value ≡ part_word was 0 0) × (now ≡ was)) (HasSmallWord most)
    (λ was now both quiet.
    let Quiet : Part → Type 0 = IsQuietPart in
    (subst Quiet (sym both.1) quiet, omega (arith, both.0, ap (λ (part : Part). part_word part 0 0) both.1)))
    (both_both old old (λ was now. value ≡ part_word was 0 0) (λ was now. now ≡ was) (both_old old old (λ was. value ≡ part_word was 0 0) loaded) (both_itself old)))

-- ---- a part whose commit word is cleared

trimmed : (most value : ℕ) (was : Part) (image : PartImage) → value ≡ part_word was 0 0 → most < value → IsQuietPart was → IsOldOrStored was 0 0 0 image → IsTrimmed most (part_word was) image
trimmed most value was image loaded above quiet stored =
    let before = λ (line word : ℕ). quiet_image was stored.before line word (quiet.lines line) stored.is in
    record {
      others = λ line word apart. stored.others line word apart ∙ before line word;
      commit = elim stored.stored [
        | inl kept ↦ inl (kept ∙ before 0 0)
        | inr cleared ↦ inr (cleared, omega (arith, loaded))
      ];
    }

pub trimmed_moments : (most value : ℕ) (old between new : PartHistory) → between ≡ old → most < value → Tells old (λ was. value ≡ part_word was 0 0) → Tells between (λ was. EachMoment (InEachPartImage (IsOldOrStored was 0 0 0)) between new)
    → Tells old (λ was. EachMoment (MayBeTrimmed most was) old new)
trimmed_moments most value old between new same above loaded moments =
    let At : PartHistory → Type 0 = λ history. Tells history (λ was. EachMoment (InEachPartImage (IsOldOrStored was 0 0 0)) history new) in
    let Loaded : Part → Type 0 = λ was. value ≡ part_word was 0 0 in
    let Stored : Part → Part → Type 0 = λ was. InEachPartImage (IsOldOrStored was 0 0 0) in
    tells_more old (λ was. Loaded was × EachMoment (Stored was) old new) (λ was. EachMoment (MayBeTrimmed most was) old new)
    (λ was both.
    moments_more (Stored was) (MayBeTrimmed most was) old new
    (λ now stored quiet image is. trimmed most value was image both.0 above quiet (stored image is)) both.1)
    (tells_both old Loaded (λ was. EachMoment (Stored was) old new) loaded (subst At same moments))

-- and its word is small then
pub stored_small : (most : ℕ) (old between new : PartHistory) → between ≡ old → Tells new (InEachPartImage (λ image. image 0 0 ≡ 0)) → (Tells between IsQuietPart → Tells new IsQuietPart) → BothTell old new (HasSmallWord most)
stored_small most old between new same cleared quiet =
    let Still : PartHistory → Type 0 = λ history. Tells history IsQuietPart → Tells new IsQuietPart in
    let Quiet : Part → Part → Type 0 = λ was now. IsQuietPart was → IsQuietPart now in
    let Cleared : Part → Type 0 = InEachPartImage (λ image. image 0 0 ≡ 0) in
    both_more old new (λ was now. Quiet was now × Cleared now) (HasSmallWord most)
    (λ was now both was_quiet. (both.0 was_quiet, omega (arith, both.1 (part_word now) (image_of_now now))))
    (both_both old new Quiet (λ was now. Cleared now) (both_step old new IsQuietPart IsQuietPart (subst Still same quiet)) (both_new old new Cleared cleared))

-- ---- a part whose tail moves

-- its words are those of before, but that the tail may be this one
pub record IsMoved (next : ℕ) (was image : PartImage) : Type 0 where
  pub others : (line word : ℕ) → (line ≢ 1) ⊎ (word ≢ 0) → image line word ≡ was line word
  pub tail : (image 1 0 ≡ was 1 0) ⊎ (image 1 0 ≡ next)

abbrev pub MayBeMoved : ℕ → Part → Part → Type 0
MayBeMoved next was now = IsQuietPart was → InEachPartImage (IsMoved next (part_word was)) now

moved : (next : ℕ) (was : Part) (image : PartImage) → IsQuietPart was → IsOldOrStored was 1 0 next image → IsMoved next (part_word was) image
moved next was image quiet stored =
    let before = λ (line word : ℕ). quiet_image was stored.before line word (quiet.lines line) stored.is in
    record {
      others = λ line word apart. stored.others line word apart ∙ before line word;
      tail = elim stored.stored [
        | inl kept ↦ inl (kept ∙ before 1 0)
        | inr new ↦ inr new
      ];
    }

pub moved_moments : (next : ℕ) (old new : PartHistory) → Tells old (λ was. EachMoment (InEachPartImage (IsOldOrStored was 1 0 next)) old new) → Tells old (λ was. EachMoment (MayBeMoved next was) old new)
moved_moments next old new moments =
    let Stored : Part → Part → Type 0 = λ was. InEachPartImage (IsOldOrStored was 1 0 next) in
    tells_more old (λ was. EachMoment (Stored was) old new) (λ was. EachMoment (MayBeMoved next was) old new)
    (λ was stored.
    moments_more (Stored was) (MayBeMoved next was) old new (λ now each quiet image is. moved next was image quiet (each image is)) stored)
    moments

-- a part that was quiet is so, and in each image the tail is this one
abbrev pub HasTail : ℕ → Part → Part → Type 0
HasTail next was now = IsQuietPart was → IsQuietPart now × InEachPartImage (λ image. image 1 0 ≡ next) now

pub stored_tail : (next : ℕ) (old new : PartHistory) → Tells new (InEachPartImage (λ image. image 1 0 ≡ next)) → (Tells old IsQuietPart → Tells new IsQuietPart) → BothTell old new (HasTail next)
stored_tail next old new tail quiet =
    let Quiet : Part → Part → Type 0 = λ was now. IsQuietPart was → IsQuietPart now in
    let Tail : Part → Type 0 = InEachPartImage (λ image. image 1 0 ≡ next) in
    both_more old new (λ was now. Quiet was now × Tail now) (HasTail next) (λ was now both was_quiet. (both.0 was_quiet, both.1))
    (both_both old new Quiet (λ was now. Tail now) (both_step old new IsQuietPart IsQuietPart quiet) (both_new old new Tail tail))

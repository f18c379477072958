use Rattle.std.proofs.Common.{sym, subst}
use Rattle.nv_store.specs.Steps.{Sync, after_store_step}
use Rattle.nv_store.specs.Images.{IsStoreImage}
use Rattle.nv_store.proofs.StoreLaws.{quiet_is_quiet}
use Rattle.nv_store.proofs.ImageLaws.{seen_is_image, image_of_quiet, seen_of_quiet}
use Rattle.nv_store.proofs.laws.store_images.Goals as goal

pub returns-clause-seen : goal.returns-clause-seen
returns-clause-seen c = seen_is_image

pub returns-clause-quiet : goal.returns-clause-quiet
returns-clause-quiet c = λ store image quiet.
    (image_of_quiet store image quiet, λ same. subst (IsStoreImage store) (sym same) (seen_of_quiet store quiet))

pub returns-clause-synced : goal.returns-clause-synced
returns-clause-synced c = λ store image.
    let quiet = quiet_is_quiet store.seen in
    let after = after_store_step Sync store in
    (image_of_quiet after image quiet, λ same. subst (IsStoreImage after) (sym same) (seen_of_quiet after quiet))

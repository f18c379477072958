-- Picked images: the image of a store that a pick names.
use Rattle.std.specs.Prelude.{ℕ, zero, suc, ◌+◌, ◌-◌, ◌%◌, Bool, if◌then◌else◌, List, length, map, take, count_by}
use Rattle.std.specs.List.{range_with_len, list_any}
use Rattle.nv_pmem.specs.declared.picker.Pick.{Pick}
use Rattle.nv_pmem.specs.declared.picker.Pick.TheVariants.{Old, New, Torn, Mixed, Seed}
use Rattle.nv_pmem.specs.Draws.{Draws, next_word, after_draw}
use Rattle.nv_store.specs.Store.{Store, is_unsynced, durable_byte}

-- the draws after so many more
unfoldable pub after_draws : ℕ → Draws → Draws
after_draws zero draws = draws
after_draws (suc count) draws = after_draws count (after_draw draws)

-- how many of the bytes below an offset are marked
abbrev pub count_below : List Bool → ℕ → ℕ
count_below flags i = count_by (λ flag. flag) (take i flags)

-- The byte that is drawn for a marked one: a word for each of them, in rising offset.
abbrev pub redrawn : List Bool → Draws → ℕ → ℕ
redrawn flags draws i = next_word (after_draws (count_below flags i) draws) % 256

-- The image of a length that has these bytes where one was written since the last sync.
unfoldable pub image_with : Store → ℕ → (ℕ → ℕ) → List ℕ
image_with store len other =
    map (λ i. if is_unsynced store i then other i else durable_byte store i) (range_with_len 0 len)

-- The torn image has the present length.
abbrev pub torn_image : Store → List ℕ
torn_image store = image_with store (length store.seen) (λ i. 0xa5)

-- whether any byte was written since the last sync
abbrev pub has_unsynced : Store → Bool
has_unsynced store = list_any (λ flag. flag) store.unsynced

-- The first word that is drawn gives the length, from the durable to the present one.
abbrev pub drawn_len : Store → Draws → ℕ
drawn_len store draws = length store.durable + next_word draws % (length store.seen - length store.durable + 1)

-- The image by draws: the length, and then the bytes. Nothing is drawn where all is synced.
abbrev pub drawn_image : Store → Draws → List ℕ
drawn_image store draws =
    if has_unsynced store
    then image_with store (drawn_len store draws) (redrawn store.unsynced (after_draw draws))
    else store.seen

abbrev pub after_drawn : Store → Draws → Draws
after_drawn store draws =
    if has_unsynced store then after_draws (count_below store.unsynced (drawn_len store draws)) (after_draw draws) else draws

-- the image that a pick names
abbrev pub image_by : Pick → Store → Draws → List ℕ
image_by Old store draws = store.durable
image_by New store draws = store.seen
image_by Torn store draws = torn_image store
image_by Mixed store draws = torn_image store
image_by (Seed state) store draws = drawn_image store draws

abbrev pub picked_image : Store → Draws → List ℕ
picked_image store draws = image_by draws.pick store draws

-- and the draws after it
abbrev pub draws_by : Pick → Store → Draws → Draws
draws_by Old store draws = draws
draws_by New store draws = draws
draws_by Torn store draws = draws
draws_by Mixed store draws = draws
draws_by (Seed state) store draws = after_drawn store draws

abbrev pub draws_after : Store → Draws → Draws
draws_after store draws = draws_by draws.pick store draws

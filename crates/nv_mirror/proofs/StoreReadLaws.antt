-- Store reads: the read of a page from its store, and what it leaves there.
use Rattle.std.proofs.Common.{◌≡◌, ℕ, List, [], false, refl, replicate}
use Rattle.std.specs.Prelude.{Some, None, Option}
use Rattle.std.proofs.lemmas.List.{length-replicate}
use Rattle.nv_plain.specs.Faults.{Rose}
use Rattle.nv_plain.specs.Files.{bytes_at, padded}
use Rattle.nv_store.specs.Store.{Store}
use Rattle.nv_core.specs.state.Words.{Sizes}
use Rattle.nv_core.specs.state.Values.{Value, AStore, PageRead, Made, Failed, called, faults_of}
use Rattle.nv_core.specs.steps.Order.{CallMayEnd, CallMayLeave, SaysPage, SaysOf}
use Rattle.nv_core.specs.invariant.Shapes.{HasShape, IsStore}

-- a cell that kept a store keeps one
pub store_by : (page : ℕ) (first now : Value) → IsStore first → HasShape page first now → IsStore now
store_by page (AStore one) (AStore other) store shape = tt
store_by page (AStore one) now store shape = absurd shape
store_by page first now store shape = absurd store

pub may_end : (value : Value) → IsStore value → CallMayEnd value Made
may_end (AStore device) store = tt
may_end value store = absurd store

pub may_leave : (value : Value) (at : ℕ) (bytes : List ℕ) → IsStore value → CallMayLeave value (PageRead at bytes) Made
may_leave (AStore device) at bytes store = tt
may_leave value at bytes store = absurd store

-- a read that goes well leaves it as it was
pub called_same : (value : Value) (at : ℕ) (bytes : List ℕ) → IsStore value → called (PageRead at bytes) Made value ≡ value
called_same (AStore device) at bytes store = refl
called_same value at bytes store = absurd store

pub fail_end : (value : Value) (faults : ℕ) → IsStore value → Rose (faults_of value) faults → CallMayEnd value (Failed false faults)
fail_end (AStore device) faults store rose = rose
fail_end value faults store rose = absurd store

pub fail_leave : (value : Value) (at faults : ℕ) (bytes : List ℕ) → IsStore value → CallMayLeave value (PageRead at bytes) (Failed false faults)
fail_leave (AStore device) at faults bytes store = tt
fail_leave value at faults bytes store = absurd store

-- one that fails leaves the same, whatever was to be read
pub called_any : (value : Value) (at faults : ℕ) (bytes : List ℕ) → IsStore value → called (PageRead at bytes) (Failed false faults) value ≡ called (PageRead 0 []) (Failed false faults) value
called_any (AStore device) at faults bytes store = refl
called_any value at faults bytes store = absurd store

-- a store says some bytes of a page
page_said : (sizes : Sizes) (at : ℕ) (told : Option Store) → (bytes : List ℕ) × SaysPage sizes at bytes told
page_said sizes at (Some store) = (padded (bytes_at store.seen at sizes.page) sizes.page, refl)
page_said sizes at None = (replicate sizes.page 0, length-replicate sizes.page 0)

pub bytes_said : (sizes : Sizes) (at : ℕ) (value : Value) → IsStore value → (bytes : List ℕ) × SaysOf sizes at bytes value
bytes_said sizes at (AStore device) store = page_said sizes at device.told
bytes_said sizes at value store = absurd store

-- Commands over a bench: what it holds when all is given back.
use Rattle.std.proofs.Common.{◌≡◌, ℕ, List, [], ◌++◌, length, map, Option, Some, None, refl, ap, subst, ◌∙◌}
use Rattle.std.proofs.lemmas.List.{length-map}
use Rattle.std.specs.Prelude.{IfSome, option_map}
use Rattle.nv_pmem.specs.Part.{Part}
use Rattle.nv_pmem.specs.Steps as lines
use Rattle.nv_store.specs.Steps as stores
use Rattle.nv_store.specs.Store.{Store}
use Rattle.nv_plain.specs.declared.limits.Version.{Version}
use Rattle.nv_plain.specs.Files.{Files}
use Rattle.nv_bench.specs.Benches.{BenchState, told_back, with_faults}
use Rattle.nv_bench.specs.Holding.{Holding, NamedStore, named_stores}
use Rattle.nv_bench.specs.Opening.{opened}
use Rattle.nv_pmem.specs.declared.geometry.Geometry.{Geometry}
use Rattle.nv_open.specs.Held.{files_named}
use Rattle.nv_open.specs.Lending.{all_lent, without_named, without_stores}
use Rattle.nv_pmem.specs.RowStates.{AreNow}
use Rattle.nv_open.proofs.LogLaws.{states_many}
use Rattle.nv_top.specs.Leaving.{AreLeft, Leaves}

-- what holds of what a bench tells, where it tells it
pub if_told : (told : Option Holding) (P : Holding → Type 0) → ((holding : Holding) → told ≡ Some holding → P holding) → IfSome told P
if_told None P each = tt
if_told (Some holding) P each = each holding refl

pub told_at : (told : Option Holding) (P : Holding → Type 0) (holding : Holding) → told ≡ Some holding → IfSome told P → P holding
told_at told P holding is has =
    let At : Option Holding → Type 0 = λ told. IfSome told P in
    subst At is has

-- what is told of devices that are given back
module _ (old mid : BenchState) (names : List (List ℕ)) (holding : Holding) (lent : mid ≡ with_faults mid.faults (all_lent names old)) (home : old.lent ≡ []) (told : old.told ≡ Some holding) where
  pub mid_told : mid.told ≡ Some (record { parts = []; stores = without_stores names holding.stores })
  mid_told =
      ap (λ (state : BenchState). state.told) lent
      ∙ ap (λ (one : Option Holding). option_map (without_named names) (option_map (λ (holding : Holding). record { parts = []; stores = holding.stores }) one)) told

  mid_lent : mid.lent ≡ names
  mid_lent = ap (λ (state : BenchState). state.lent) lent ∙ ap (λ (front : List (List ℕ)). front ++ names) home

  pub back_is : (now : List Part) (disks : List Store) → told_back now disks mid ≡ Some (record { parts = now; stores = without_stores names holding.stores ++ named_stores names disks })
  back_is now disks =
      let back : List (List ℕ) → Holding → Holding = λ lent holding. record { parts = now; stores = holding.stores ++ named_stores lent disks } in
      ap (λ (one : Option Holding). option_map (back mid.lent) one) mid_told
      ∙ ap (λ lent. Some (back lent (record { parts = []; stores = without_stores names holding.stores }))) mid_lent

  abbrev pub leaves : {X Y : Type 0} (version : Version) (want : Option Geometry) (history : X → lines.PartHistory) (held : Y → stores.StoreHistory) (files : Files) (parts : List X) (backing : List Y) (then : Option Holding)
      → length parts ≡ length (opened want holding.parts)
      → AreLeft version history held names files parts backing
      → ((now : List Part) (disks : List Store) → AreNow (map history parts) now → AreNow (map held backing) disks → then ≡ told_back now disks mid)
      → Leaves version want names files holding then
  leaves version want history held files parts backing then many left back = record {
    now = record { parts = left.now; stores = without_stores names holding.stores ++ named_stores names left.disks };
    told_is = back left.now left.disks left.now_are left.disks_are ∙ back_is left.now left.disks;
    left = record {
      page = left.page;
      entries = left.entries;
      next = left.next;
      rest = left.rest;
      long = left.long;
      many = states_many (map history parts) left.now left.now_are ∙ length-map parts history ∙ many;
      disks = left.disks;
      stores_are = refl;
      files_are = left.files_are;
      synced = left.synced;
    };
  }

-- A bench is left with the files of these names, and with a region of these sizes whose log goes on with this number.
abbrev pub LeavesAt : (version : Version) (page entries next : ℕ) (want : Option Geometry) (names : List (List ℕ)) (files : Files) (was : Holding) (told : Option Holding) → Type 0
LeavesAt version page entries next want names files was told =
    (left : Leaves version want names files was told) × (left.left.page ≡ page) × (left.left.entries ≡ entries) × (left.left.next ≡ next)

-- one that is left with the files of some names is so with those of the same names
pub leaves_by : {version own : Version} {want : Option Geometry} {names other : List (List ℕ)} {holding : Holding} {then : Option Holding} (parts : List Part) (backing : List NamedStore) (page entries next : ℕ) → version ≡ own → names ≡ other
    → LeavesAt version page entries next want names (files_named parts names backing) holding then → LeavesAt own page entries next want other (files_named parts other backing) holding then
leaves_by {version} {own} {want} {names} {other} {holding} {then} parts backing page entries next of same left =
    let LeftWith : Version → List (List ℕ) → Type 0 = λ version by. LeavesAt version page entries next want by (files_named parts by backing) holding then in
    subst (LeftWith own) same (subst (λ version. LeftWith version names) of left)

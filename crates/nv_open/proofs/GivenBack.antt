-- What a bench tells to which devices come back, and that it stands as before.
use Rattle.std.proofs.Common.{◌≡◌, ℕ, suc, zero, List, [], ◌∷◌, ◌++◌, length, map, take, refl, sym, ap, subst, ◌∙◌, arith}
use Rattle.std.specs.Prelude.{All, Contains, Option, Some, None, IfSome, option_map, Result, Ok, Err, IfErr}
use Rattle.std.proofs.lemmas.List.{append-nil, length-map}
use Rattle.nv_plain.specs.Files.{Files}
use Rattle.nv_plain.specs.Layouts.{Layout, mount_layout, mount_version}
use Rattle.nv_pmem.specs.Part.{Part}
use Rattle.nv_pmem.specs.RowStates.{AreNow, TellingRowsHaveStates, row_tells_from, row_tells_at}
use Rattle.nv_pmem.specs.Rows.{AreQuiet, RowTells}
use Rattle.nv_pmem.specs.Steps as lines
use Rattle.nv_store.specs.Steps.{StoreHistory}
use Rattle.nv_store.specs.Store.{IsQuietStore, Store}
use Rattle.nv_bench.specs.Benches.{BenchState, told_back, with_faults}
use Rattle.nv_bench.specs.Holding.{Holding, IsQuietHolding, NamedStore, named_stores}
use Rattle.nv_bench.specs.Naming.{AreDistinct, HasDistinctStores, names_of}
use Rattle.nv_header.specs.FileNames.{AreFileNames}
use Rattle.nv_header.specs.Regions.{IsAtRest}
use Rattle.nv_recover.specs.Standing.{StandsStill, files_of}
use Rattle.nv_recover.specs.Telling.{AllTell}
use Rattle.nv_pmem.specs.Rows.{row_words}
use Rattle.nv_open.specs.Held.{HoldFiles, header_names, returned}
use Rattle.nv_open.specs.Lending.{stores_lent, stores_named, without_named, without_stores}
use Rattle.nv_open.specs.Unopened.{HasHeader, HaveSameLines, GivesBack, IsAtRestWith, IsGood, IsUntouched, StandAsBefore, StandsAsBefore, TellsOf}
use Rattle.nv_open.proofs.Homes.{all_same_again, back_again, none_in, others_again, same_again}
use Rattle.nv_open.proofs.LineCounts.{lines_at}
use Rattle.nv_open.proofs.LogLaws.{states_many}
use Rattle.nv_open.proofs.Returns.{named_quiet}
use Rattle.nv_open.proofs.Stands.{stands_read}

pub if_some : {X : Type 0} (found : Option X) (P : X → Type 0) → ((x : X) → found ≡ Some x → P x) → IfSome found P
if_some None P each = tt
if_some (Some x) P each = each x refl

pub at_some : {X : Type 0} (found : Option X) (P : X → Type 0) (x : X) → found ≡ Some x → IfSome found P → P x
at_some {X} found P x is here =
    let At : Option X → Type 0 = λ found. IfSome found P in
    subst At is here

-- the names of the stores at home differ
pub home_distinct : (old : BenchState) (holding : Holding) → HasDistinctStores old → old.told ≡ Some holding → old.lent ≡ [] → AreDistinct (names_of holding.stores)
home_distinct old holding named told home =
    let Distinct : List (List ℕ) → Type 0 = λ lent. AreDistinct (names_of holding.stores ++ lent) in
    subst AreDistinct (append-nil (names_of holding.stores)) (subst Distinct home (at_some old.told (λ holding. AreDistinct (names_of holding.stores ++ old.lent)) holding told named))

-- the first of some names are among them
pub among : (count : ℕ) (names : List (List ℕ)) (name : List ℕ) → Contains (take count names) name → Contains names name
among zero names name there = absurd (let below = there.1 in omega (arith, below))
among (suc count) [] name there = there
among (suc count) (first ∷ rest) name (zero, inside, is) = (0, omega arith, is)
among (suc count) (first ∷ rest) name (suc k, inside, is) = let later = among count rest name (k, omega (arith, inside), is) in (suc later.0, (let below = later.1 in omega (arith, below)), later.2)

-- what a bench is to tell to which stores of these names come back
pub told_with : (old new : BenchState) (lent : List (List ℕ)) (holding : Holding) (now : List Part) (held : List Store) → old.told ≡ Some holding → old.lent ≡ [] → new ≡ with_faults new.faults (stores_lent lent old)
    → told_back now held new ≡ Some (record { parts = now; stores = without_stores lent holding.stores ++ named_stores lent held })
told_with old new lent holding now held told home is =
    let back : List (List ℕ) → Holding → Holding = λ lent holding. record { parts = now; stores = holding.stores ++ named_stores lent held } in
    let new_told : new.told ≡ Some (without_named lent holding) =
    ap (λ (state : BenchState). state.told) is ∙ ap (λ (one : Option Holding). option_map (without_named lent) one) told in
    let new_lent : new.lent ≡ lent = ap (λ (state : BenchState). state.lent) is ∙ ap (λ (front : List (List ℕ)). front ++ lent) home in
    ap (λ (one : Option Holding). option_map (back new.lent) one) new_told ∙ ap (λ names. Some (back names (without_named lent holding))) new_lent

module _ {X Y : Type 0} (part_history : X → lines.PartHistory) (store_history : Y → StoreHistory) (old new : BenchState) (before now : List X) (stores : List Y) (named : HasDistinctStores old) (home : old.lent ≡ [])
    (quiet : RowTells (map part_history before) AreQuiet) (synced : IfSome old.told (λ holding. All (λ (named : NamedStore). IsQuietStore named.store) holding.stores)) where
  -- devices that were only read
  pub read_back : (lent : List (List ℕ)) → map part_history now ≡ map part_history before → new ≡ with_faults new.faults (stores_lent lent old)
      → IfSome old.told (λ holding. AreNow (map store_history stores) (stores_named lent holding.stores))
      → IfSome old.told (λ holding. RowTells (map part_history before) (λ told. HasHeader told → GivesBack part_history store_history (StandsAsBefore (record { parts = told; stores = holding.stores })) new now stores))
  read_back lent same is are =
      if_some old.told (λ holding. RowTells (map part_history before) (λ told. HasHeader told → GivesBack part_history store_history (StandsAsBefore (record { parts = told; stores = holding.stores })) new now stores)) (λ holding told_is.
      row_tells_from (map part_history before) (λ told. HasHeader told → GivesBack part_history store_history (StandsAsBefore (record { parts = told; stores = holding.stores })) new now stores) (λ told told_are readable.
      let held = stores_named lent holding.stores in
      let back : Holding = record { parts = told; stores = without_stores lent holding.stores ++ named_stores lent held } in
      let still = at_some old.told (λ holding. All (λ (named : NamedStore). IsQuietStore named.store) holding.stores) holding told_is synced in
      record {
        now = told;
        held = held;
        now_are = subst (λ (row : List lines.PartHistory). AreNow row told) (sym same) told_are;
        held_are = at_some old.told (λ holding. AreNow (map store_history stores) (stores_named lent holding.stores)) holding told_is are;
        tells = record {
          now = back;
          told_is = told_with old new lent holding told held told_is home is;
          is_so =
              stands_read told holding.stores back (row_tells_at (map part_history before) AreQuiet told told_are quiet) (named_quiet (header_names told) holding.stores still) readable refl
              (all_same_again (header_names told) lent holding.stores (home_distinct old holding named told_is home))
              (record { lines_are = refl; others = λ name other. same_again name lent holding.stores (home_distinct old holding named told_is home) });
        };
      }))

  abbrev Untouched : Holding → List Part → Type 0
  Untouched holding told = ¬ (IsGood told) → GivesBack part_history store_history (IsUntouched (record { parts = told; stores = holding.stores })) new now stores

  abbrev AreOfHeader : List (List ℕ) → List Part → Type 0
  AreOfHeader lent told = (name : List ℕ) → Contains lent name → Contains (header_names told) name

  -- devices of a region that isn't good
  pub untouched_back : (lent : List (List ℕ)) → new ≡ with_faults new.faults (stores_lent lent old) → RowTells (map part_history before) (AreOfHeader lent)
      → ((holding : Holding) → old.told ≡ Some holding → (told : List Part) → AreNow (map part_history before) told → ¬ (IsGood told)
      → AreNow (map part_history now) told × AreNow (map store_history stores) (stores_named lent holding.stores))
      → IfSome old.told (λ holding. RowTells (map part_history before) (Untouched holding))
  untouched_back lent is of_header are =
      if_some old.told (λ holding. RowTells (map part_history before) (Untouched holding)) (λ holding told_is.
      row_tells_from (map part_history before) (Untouched holding) (λ told told_are not_good.
      let both = are holding told_is told told_are not_good in
      record {
        now = told;
        held = stores_named lent holding.stores;
        now_are = both.0;
        held_are = both.1;
        tells = record {
          now = returned lent (record { parts = told; stores = holding.stores });
          told_is = told_with old new lent holding told (stores_named lent holding.stores) told_is home is;
          is_so = record { lent = lent; of_header = row_tells_at (map part_history before) (AreOfHeader lent) told told_are of_header; now_is = refl };
        };
      }))

  -- and of any that was only read
  pub read_untouched : (lent : List (List ℕ)) → map part_history now ≡ map part_history before → new ≡ with_faults new.faults (stores_lent lent old)
      → IfSome old.told (λ holding. AreNow (map store_history stores) (stores_named lent holding.stores)) → RowTells (map part_history before) (AreOfHeader lent)
      → IfSome old.told (λ holding. RowTells (map part_history before) (Untouched holding))
  read_untouched lent same is are of_header =
      untouched_back lent is of_header (λ holding told_is told told_are not_good. (
        subst (λ (row : List lines.PartHistory). AreNow row told) (sym same) told_are,
        at_some old.told (λ holding. AreNow (map store_history stores) (stores_named lent holding.stores)) holding told_is are,
      ))

  -- no name at all
  pub none_of_header : RowTells (map part_history before) (AreOfHeader [])
  none_of_header = row_tells_from (map part_history before) (AreOfHeader []) (λ told told_are name there. absurd (none_in name there))

  -- devices of a recovery that failed
  pub stood_back : (layout : Layout) (names : List (List ℕ)) → RowTells (map part_history before) (λ told. header_names told ≡ names) → AreFileNames layout names → length stores ≡ length names → HaveSameLines (map part_history before) (map part_history now)
      → new ≡ with_faults new.faults (stores_lent names old)
      → ((holding : Holding) → old.told ≡ Some holding → (told : List Part) → AreNow (map part_history before) told → StandAsBefore told (stores_named names holding.stores) (map part_history now) (map store_history stores))
      → IfSome old.told (λ holding. RowTells (map part_history before) (λ told. HasHeader told → GivesBack part_history store_history (StandsAsBefore (record { parts = told; stores = holding.stores })) new now stores))
  stood_back layout names named_so are_names one_each alike is stands =
      if_some old.told (λ holding. RowTells (map part_history before) (λ told. HasHeader told → GivesBack part_history store_history (StandsAsBefore (record { parts = told; stores = holding.stores })) new now stores)) (λ holding told_is.
      row_tells_from (map part_history before) (λ told. HasHeader told → GivesBack part_history store_history (StandsAsBefore (record { parts = told; stores = holding.stores })) new now stores) (λ told told_are readable.
      let left = stands holding told_is told told_are in
      let same : header_names told ≡ names = row_tells_at (map part_history before) (λ told. header_names told ≡ names) told told_are named_so in
      let many : length left.held ≡ length names = states_many (map store_history stores) left.held left.held_are ∙ length-map stores store_history ∙ one_each in
      let again : stores_named names (without_stores names holding.stores ++ named_stores names left.held) ≡ left.held =
      back_again names holding.stores left.held (home_distinct old holding named told_is home) (sym many) are_names.distinct in
      let all : List NamedStore = without_stores names holding.stores ++ named_stores names left.held in
      let Stands : List (List ℕ) → Type 0 = λ names. StandsStill (row_words told) (files_of (stores_named names holding.stores)) left.now (stores_named names all) in
      record {
        now = left.now;
        held = left.held;
        now_are = left.now_are;
        held_are = left.held_are;
        tells = record {
          now = record { parts = left.now; stores = all };
          told_is = told_with old new names holding left.now left.held told_is home is;
          is_so = record {
            same_names = left.same_names;
            stands = subst Stands (sym same) (subst (λ held. StandsStill (row_words told) (files_of (stores_named names holding.stores)) left.now held) (sym again) left.stands);
            rest = record {
              lines_are = lines_at (map part_history before) (map part_history now) told left.now alike told_are left.now_are;
              others = λ name other. others_again name names holding.stores left.held (subst (λ these. ¬ (Contains these name)) same other);
            };
          };
        };
      }))

-- the names of the header, and the first of them
pub all_of_header : (row : List lines.PartHistory) (names : List (List ℕ)) → RowTells row (λ told. header_names told ≡ names) → RowTells row (λ told. (name : List ℕ) → Contains names name → Contains (header_names told) name)
all_of_header row names says =
    row_tells_from row (λ told. (name : List ℕ) → Contains names name → Contains (header_names told) name) (λ told are name there.
    subst (λ these. Contains these name) (sym (row_tells_at row (λ told. header_names told ≡ names) told are says)) there)

pub first_of_header : (row : List lines.PartHistory) (count : ℕ) (names : List (List ℕ)) → RowTells row (λ told. header_names told ≡ names)
    → RowTells row (λ told. (name : List ℕ) → Contains (take count names) name → Contains (header_names told) name)
first_of_header row count names says =
    row_tells_from row (λ told. (name : List ℕ) → Contains (take count names) name → Contains (header_names told) name) (λ told are name there.
    subst (λ these. Contains these name) (sym (row_tells_at row (λ told. header_names told ≡ names) told are says)) (among count names name there))

-- parts at rest, with the stores of their names that were lent
pub rest_back : {X Y : Type 0} (part_history : X → lines.PartHistory) (store_history : Y → StoreHistory) (bench : BenchState) (parts : List X) (stores : List Y) (page entries : ℕ) (names : List (List ℕ)) (next : ℕ) (files : Files)
    → TellingRowsHaveStates → bench.lent ≡ names → HoldFiles (map store_history stores) files → RowTells (map part_history parts) (IsAtRest mount_layout page entries names next)
    → IfSome bench.told (λ holding. AllTell (map part_history parts) → GivesBack part_history store_history (IsAtRestWith mount_version page entries names next files holding.stores) bench parts stores)
rest_back part_history store_history bench parts stores page entries names next files states lent holds rest =
    let row = map part_history parts in
    if_some bench.told (λ holding. AllTell row → GivesBack part_history store_history (IsAtRestWith mount_version page entries names next files holding.stores) bench parts stores) (λ holding told_is tell.
    let now = states row tell in
    let back : List (List ℕ) → Holding → Holding = λ lent holding. record { parts = now.states; stores = holding.stores ++ named_stores lent holds.held } in
    record {
      now = now.states;
      held = holds.held;
      now_are = now.are;
      held_are = holds.are;
      tells = record {
        now = back names holding;
        told_is = ap (λ (told : Option Holding). option_map (back bench.lent) told) told_is ∙ ap (λ lent. Some (back lent holding)) lent;
        is_so = record {
          rest = row_tells_at row (IsAtRest mount_layout page entries names next) now.states now.are rest;
          held = holds.held;
          stores_are = refl;
          files_are = holds.files_are;
          durable = holds.quiet;
        };
      };
    })

-- a bench of which nothing was lent
pub still_stands : (old new : BenchState) (was : Holding) → new ≡ with_faults new.faults old → old.told ≡ Some was → IfSome old.told IsQuietHolding → HasHeader was.parts → TellsOf (StandsAsBefore was) new.told
still_stands old new was is told quiet readable =
    let still : IsQuietHolding was = at_some old.told IsQuietHolding was told quiet in
    record {
      now = was;
      told_is = ap (λ (state : BenchState). state.told) is ∙ told;
      is_so = stands_read was.parts was.stores was still.parts (named_quiet (header_names was.parts) was.stores still.stores) readable refl refl
          (record { lines_are = refl; others = λ name other. refl });
    }

pub still_untouched : (old new : BenchState) (was : Holding) → new ≡ with_faults new.faults old → old.told ≡ Some was → TellsOf (IsUntouched was) new.told
still_untouched old new was is told = record {
  now = was;
  told_is = ap (λ (state : BenchState). state.told) is ∙ told;
  is_so = record {
    lent = [];
    of_header = λ name there. absurd (none_in name there);
    now_is = ap (λ (stores : List NamedStore). record { parts = was.parts; stores = stores }) (sym (append-nil was.stores));
  };
}

pub if_err_any : {T E : Type 0} {P : E → Type 0} (result : Result T E) → ((error : E) → P error) → IfErr result P
if_err_any (Ok value) each = tt
if_err_any (Err error) each = each error

-- ---- and then it tells that

-- a bench to which that was given back
pub told_so : {X Y : Type 0} (part_history : X → lines.PartHistory) (store_history : Y → StoreHistory) (P : Holding → Type 0) (bench : BenchState) (parts : List X) (stores : List Y) (told : Option Holding)
    → GivesBack part_history store_history P bench parts stores
    → ((now : List Part) (held : List Store) → AreNow (map part_history parts) now → AreNow (map store_history stores) held → told ≡ told_back now held bench) → TellsOf P told
told_so part_history store_history P bench parts stores told gives back = record {
  now = gives.tells.now;
  told_is = back gives.now gives.held gives.now_are gives.held_are ∙ gives.tells.told_is;
  is_so = gives.tells.is_so;
}

-- what holds of an error under a premise that the rest brings
pub if_err_each : {T E A : Type 0} (result : Result T E) (P Q : E → Type 0) → ((error : E) → (A → P error) → Q error) → (A → IfErr result P) → IfErr result Q
if_err_each (Ok value) P Q step has = tt
if_err_each (Err error) P Q step has = step error has

-- What a bench gives of its region, and what it tells when that comes back.
use Rattle.std.proofs.Common.{◌≡◌, ℕ, suc, List, [], ◌∷◌, ◌++◌, map, refl, sym, ap, ◌∙◌, subst}
use Rattle.std.proofs.lemmas.List.Elements.{All-nil, All-cons, All-head, All-tail}
use Rattle.std.specs.Prelude.{All, Option, Some, None, IfSome, option_map}
use Rattle.nv_pmem.specs.Images.{IsQuietPart}
use Rattle.nv_pmem.specs.Laws.{BlankIsQuiet}
use Rattle.nv_pmem.specs.Moments.{Tells}
use Rattle.nv_pmem.specs.Part.{Part}
use Rattle.nv_pmem.specs.Room.{Room}
use Rattle.nv_pmem.specs.RowStates.{AreNow, row_tells_from, row_tells_at, tells_from}
use Rattle.nv_pmem.specs.Rows.{RowTells, AreQuiet}
use Rattle.nv_pmem.specs.Steps.{PartHistory}
use Rattle.nv_store.specs.Steps as stores
use Rattle.nv_store.specs.Store.{Store}
use Rattle.nv_bench.specs.Benches.{BenchState, with_faults, region_lent, told_back}
use Rattle.nv_bench.specs.Holding.{Holding, NamedStore, IsQuietHolding, named_stores}
use Rattle.nv_bench.specs.Opening.{IsFreshWhereQuiet}
use Rattle.nv_header.specs.Laws.{HasSpare}
use Rattle.nv_recover.specs.Telling.{AllTell}
use Rattle.nv_open.specs.Held.{names_opened, AreUnwritten, told_after}
use Rattle.nv_open.specs.Lending.{stores_named, without_stores, without_named, stores_lent, HasLent}
use Rattle.nv_open.specs.declared.error.Refusal.{Refusal}
use Rattle.nv_open.proofs.Returns.{states_tell}

-- ---- the parts that a bench gives

pub no_part_quiet : BlankIsQuiet → AreQuiet []
no_part_quiet blank = record { each = λ i. record { lines = λ line. blank } }

untold_quiet : BlankIsQuiet → {X : Type 0} (history : X → PartHistory) (parts : List X) → All (λ part. history part ≡ []) parts → RowTells (map history parts) AreQuiet
untold_quiet blank history [] untold = no_part_quiet blank
untold_quiet blank history (part ∷ parts) untold =
    subst (λ (first : PartHistory). RowTells (first ∷ map history parts) AreQuiet) (sym (All-head (λ one. history one ≡ []) part parts untold)) tt

cons_same : {S : Type 0} (a b : S) (past other : List S) → a ∷ past ≡ b ∷ other → a ≡ b
cons_same a b past other is = cc

same_states : (row : List PartHistory) (one other : List Part) → AreNow row one → AreNow row other → one ≡ other
same_states [] [] [] a b = refl
same_states [] [] (y ∷ other) a b = absurd b
same_states [] (x ∷ one) other a b = absurd a
same_states (history ∷ row) [] other a b = absurd a
same_states (history ∷ row) (x ∷ one) [] a b = absurd b
same_states (history ∷ row) (x ∷ one) (y ∷ other) a b =
    ap (λ (s : Part). s ∷ one) (cons_same x y a.0.past b.0.past (sym a.0.is ∙ b.0.is)) ∙ ap (λ (rest : List Part). y ∷ rest) (same_states row one other a.1 b.1)

-- a row with these present states tells what they have
pub row_has : (row : List PartHistory) (now : List Part) (P : List Part → Type 0) → AreNow row now → P now → RowTells row P
row_has row now P are has = row_tells_from row P (λ states those. subst P (same_states row now states are those) has)

pub given_quiet : BlankIsQuiet → {X : Type 0} (history : X → PartHistory) (parts : List X) (told : Option Holding) (now : Holding → List Part)
    → (told ≡ None → All (λ part. history part ≡ []) parts) → IfSome told (λ holding. AreNow (map history parts) (now holding)) → IfSome told (λ holding. AreQuiet (now holding))
    → RowTells (map history parts) AreQuiet
given_quiet blank history parts None now untold are quiet = untold_quiet blank history parts (untold refl)
given_quiet blank history parts (Some holding) now untold are quiet = row_has (map history parts) (now holding) AreQuiet are quiet

-- where such a part is quiet, or doesn't tell, there is room in it
fresh_one : (history : PartHistory) (room : Room) → IsFreshWhereQuiet history room → Tells history IsQuietPart → HasSpare room
fresh_one [] room fresh quiet = fresh.spare
fresh_one (now ∷ past) room fresh quiet = (fresh quiet).spare

each_quiet : {X : Type 0} (history : X → PartHistory) (parts : List X) (now : List Part) → AreNow (map history parts) now → AreQuiet now → All (λ part. Tells (history part) IsQuietPart) parts
each_quiet history [] now are quiet = All-nil (λ part. Tells (history part) IsQuietPart)
each_quiet history (part ∷ parts) [] are quiet = absurd are
each_quiet history (part ∷ parts) (state ∷ now) are quiet =
    All-cons (λ one. Tells (history one) IsQuietPart) part parts (tells_from (history part) IsQuietPart state are.0 (quiet.each 0))
    (each_quiet history parts now are.1 (record { each = λ i. quiet.each (suc i) }))

each_untold : {X : Type 0} (history : X → PartHistory) (parts : List X) → All (λ part. history part ≡ []) parts → All (λ part. Tells (history part) IsQuietPart) parts
each_untold history parts untold k d inside = subst (λ (one : PartHistory). Tells one IsQuietPart) (sym (untold k d inside)) tt

all_fresh : {X : Type 0} (history : X → PartHistory) (room : X → Room) (parts : List X) → All (λ part. IsFreshWhereQuiet (history part) (room part)) parts → All (λ part. Tells (history part) IsQuietPart) parts → All HasSpare (map room parts)
all_fresh history room [] fresh quiet = All-nil HasSpare
all_fresh history room (part ∷ parts) fresh quiet =
    All-cons HasSpare (room part) (map room parts)
    (fresh_one (history part) (room part) (All-head (λ one. IsFreshWhereQuiet (history one) (room one)) part parts fresh) (All-head (λ one. Tells (history one) IsQuietPart) part parts quiet))
    (all_fresh history room parts (All-tail (λ one. IsFreshWhereQuiet (history one) (room one)) part parts fresh) (All-tail (λ one. Tells (history one) IsQuietPart) part parts quiet))

pub given_spare : {X : Type 0} (history : X → PartHistory) (room : X → Room) (parts : List X) (told : Option Holding) (now : Holding → List Part)
    → (told ≡ None → All (λ part. history part ≡ []) parts) → IfSome told (λ holding. AreNow (map history parts) (now holding)) → IfSome told (λ holding. AreQuiet (now holding))
    → All (λ part. IsFreshWhereQuiet (history part) (room part)) parts → All HasSpare (map room parts)
given_spare history room parts None now untold are quiet fresh = all_fresh history room parts fresh (each_untold history parts (untold refl))
given_spare history room parts (Some holding) now untold are quiet fresh = all_fresh history room parts fresh (each_quiet history parts (now holding) are quiet)

-- ---- what is known of a bench once its region is lent

-- A fact of what it tells then is one of what it told before, but for the parts.
pub lent_told : (old mid : BenchState) → mid ≡ with_faults mid.faults (region_lent old) → mid.told ≡ option_map (λ (holding : Holding). record { parts = []; stores = holding.stores }) old.told
lent_told old mid lent = ap (λ (state : BenchState). state.told) lent

pub stores_after : (told mid : Option Holding) (P : List NamedStore → Type 0) → mid ≡ option_map (λ (holding : Holding). record { parts = []; stores = holding.stores }) told → IfSome told (λ holding. P holding.stores) → IfSome mid (λ holding. P holding.stores)
stores_after None mid P is has = subst (λ (one : Option Holding). IfSome one (λ holding. P holding.stores)) (sym is) tt
stores_after (Some holding) mid P is has = subst (λ (one : Option Holding). IfSome one (λ held. P held.stores)) (sym is) has

pub stores_before : (told mid : Option Holding) (P : Holding → Type 0) (Q : List NamedStore → Type 0) → mid ≡ option_map (λ (holding : Holding). record { parts = []; stores = holding.stores }) told
    → IfSome told P → ((holding : Holding) → P holding → Q holding.stores) → IfSome mid (λ holding. Q holding.stores)
stores_before None mid P Q is has step = subst (λ (one : Option Holding). IfSome one (λ holding. Q holding.stores)) (sym is) tt
stores_before (Some holding) mid P Q is has step = subst (λ (one : Option Holding). IfSome one (λ held. Q held.stores)) (sym is) (step holding has)

-- where the bench tells its parts do
pub given_tell : (told mid : Option Holding) (now : Holding → List Part) (row : List PartHistory) → mid ≡ option_map (λ (holding : Holding). record { parts = []; stores = holding.stores }) told
    → IfSome told (λ holding. AreNow row (now holding)) → IfSome mid (λ holding. AllTell row)
given_tell None mid now row is are = subst (λ (one : Option Holding). IfSome one (λ holding. AllTell row)) (sym is) tt
given_tell (Some holding) mid now row is are = subst (λ (one : Option Holding). IfSome one (λ held. AllTell row)) (sym is) (states_tell row (now holding) are)

pub quiet_parts : (told : Option Holding) → IfSome told IsQuietHolding → IfSome told (λ holding. AreQuiet holding.parts)
quiet_parts None quiet = tt
quiet_parts (Some holding) quiet = quiet.parts

-- what the parts tell is what the bench told
pub some_told : (told : Option Holding) (now : Holding → List Part) (row : List PartHistory) (P : List Part → Type 0) → IfSome told (λ holding. AreNow row (now holding)) → RowTells row P → IfSome told (λ holding. P (now holding))
some_told None now row P are has = tt
some_told (Some holding) now row P are has = row_tells_at row P (now holding) are has

pub some_stores : (told mid : Option Holding) (now : Holding → List Part) (row : List PartHistory) (P : List Part → List NamedStore → Type 0) → mid ≡ option_map (λ (holding : Holding). record { parts = []; stores = holding.stores }) told
    → IfSome told (λ holding. AreNow row (now holding)) → IfSome mid (λ holding. RowTells row (λ parts. P parts holding.stores)) → IfSome told (λ holding. P (now holding) holding.stores)
some_stores None mid now row P is are has = tt
some_stores (Some holding) mid now row P is are has =
    row_tells_at row (λ parts. P parts holding.stores) (now holding) are (subst (λ (one : Option Holding). IfSome one (λ held. RowTells row (λ parts. P parts held.stores))) is has)

-- a bench that tells nothing goes on so
pub still_untold : (count : ℕ) (old mid new : BenchState) → mid ≡ with_faults mid.faults (region_lent old) → HasLent count mid new → old.told ≡ None → new.told ≡ None
still_untold count old mid new mid_is lent none =
    ap (λ (state : BenchState). state.told) lent.lent
    ∙ ap (λ (one : Option Holding). option_map (without_named lent.names) one)
    (lent_told old mid mid_is ∙ ap (λ (one : Option Holding). option_map (λ (holding : Holding). record { parts = []; stores = holding.stores }) one) none)

-- ---- all comes back

-- what a bench holds that gives its parts as they are
pub same_told : (told : Option Holding) → option_map (λ (holding : Holding). record { parts = holding.parts; stores = holding.stores }) told ≡ told
same_told None = refl
same_told (Some holding) = refl

pub returned_told : {X Y : Type 0} (part_history : X → PartHistory) (store_history : Y → stores.StoreHistory) (why : Refusal) (old mid new : BenchState) (then told : Option Holding) (given : Holding → List Part) (before now : List X) (lent : List Y)
    → mid ≡ with_faults mid.faults (region_lent old) → old.lent ≡ [] → old.told ≡ told
    → IfSome told (λ holding. AreNow (map part_history before) (given holding))
    → AreUnwritten part_history store_history why mid new before now lent
    → ((parts : List Part) (held : List Store) → AreNow (map part_history now) parts → AreNow (map store_history lent) held → then ≡ told_back parts held new)
    → (old.told ≡ None → then ≡ None)
    → then ≡ told_after why (option_map (λ (holding : Holding). record { parts = given holding; stores = holding.stores }) told)
returned_told part_history store_history why old mid new then None given before now lent mid_is home is are unwritten back untold = untold is
returned_told {X} {Y} part_history store_history why old mid new then (Some holding) given before now lent mid_is home is are unwritten back untold =
    let names = names_opened why (given holding) in
    let held = stores_named names holding.stores in
    let mid_told : mid.told ≡ Some (record { parts = []; stores = holding.stores }) =
    lent_told old mid mid_is ∙ ap (λ (one : Option Holding). option_map (λ (these : Holding). record { parts = []; stores = these.stores }) one) is in
    let mid_lent : mid.lent ≡ [] = ap (λ (state : BenchState). state.lent) mid_is ∙ home in
    let new_is : new ≡ with_faults new.faults (stores_lent names mid) = row_tells_at (map part_history before) _ (given holding) are unwritten.lent in
    let new_told : new.told ≡ Some (record { parts = []; stores = without_stores names holding.stores }) =
    ap (λ (state : BenchState). state.told) new_is ∙ ap (λ (one : Option Holding). option_map (without_named names) one) mid_told in
    let new_lent : new.lent ≡ names = ap (λ (state : BenchState). state.lent) new_is ∙ ap (λ (front : List (List ℕ)). front ++ names) mid_lent in
    let stores_are : AreNow (map store_history lent) held =
    row_tells_at (map part_history before) _ (given holding) are (subst (λ (one : Option Holding). IfSome one (λ these. RowTells (map part_history before) (λ parts. AreNow (map store_history lent) (stores_named (names_opened why parts) these.stores)))) mid_told unwritten.held) in
    back (given holding) held (subst (λ (row : List PartHistory). AreNow row (given holding)) (sym unwritten.parts) are) stores_are
    ∙ (λ i. option_map (λ (these : Holding). record { parts = given holding; stores = these.stores ++ named_stores (new_lent i) held }) (new_told i))

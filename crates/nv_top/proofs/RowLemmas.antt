-- Rows of devices: the present states of all.
use Rattle.std.proofs.Common.{◌≡◌, ℕ, ◌<◌, List, [], ◌∷◌, ◌++◌, All, length, take, drop, map, refl, sym, ap, subst, ◌∙◌, arith}
use Rattle.std.proofs.lemmas.List.{length-map, take_at}
use Rattle.std.proofs.lemmas.List.Elements.{All-cons, All-head, All-tail}
use Rattle.nv_pmem.specs.Moments.{Tells}
use Rattle.nv_pmem.specs.Part.{Part}
use Rattle.nv_pmem.specs.RowStates.{AreNow, IsNow, row_tells_at, row_tells_from, tells_at}
use Rattle.nv_pmem.specs.Rows.{RowTells}
use Rattle.nv_pmem.specs.Steps.{PartHistory}
use Rattle.nv_store.specs.Steps.{StoreHistory}
use Rattle.nv_store.specs.Store.{IsQuietStore, Store}
use Rattle.nv_store.proofs.RowReads.{length_now}
use Rattle.nv_open.specs.Unopened.{line_counts}
use Rattle.nv_recover.specs.Standing.{AreQuietStores, files_of}
use Rattle.nv_mount.specs.Telling.{IsSeen, StoresHave}

-- ---- rows that tell

-- the present states of a row
pub record Present {S : Type 0} (row : List (List S)) : Type 0 where
  pub states : List S
  pub are : AreNow row states

pub all_tell : {S : Type 0} (row : List (List S)) (states : List S) → AreNow row states → All (λ history. 0 < length history) row
all_tell [] [] are = λ k d inside. absurd (omega arith)
all_tell [] (now ∷ states) are = absurd are
all_tell (history ∷ row) [] are = absurd are
all_tell (history ∷ row) (now ∷ states) are =
    All-cons (λ history. 0 < length history) history row (omega (arith, ap (λ (these : List _). length these) are.0.is)) (all_tell row states are.1)

pub present : {S : Type 0} (row : List (List S)) → All (λ history. 0 < length history) row → Present row
present [] told = record { states = []; are = tt }
present ([] ∷ row) told = let some = All-head (λ (history : List _). 0 < length history) [] row told in absurd (omega (arith, some))
present ((now ∷ past) ∷ row) told =
    let rest = present row (All-tail (λ (history : List _). 0 < length history) (now ∷ past) row told) in
    record { states = now ∷ rest.states; are = (record { past = past; is = refl }, rest.are) }

-- parts that tell, and have the lines of these, are as many
pub made_many : {X : Type 0} (history : X → PartHistory) (parts : List X) (others : List Part) → Present (map history parts) → RowTells (map history parts) (λ now. line_counts now ≡ line_counts others) → length parts ≡ length others
made_many history parts others now lines =
    let same = row_tells_at (map history parts) (λ now. line_counts now ≡ line_counts others) now.states now.are lines in
    sym (length_now (map history parts) now.states now.are ∙ length-map parts history) ∙ sym (length-map now.states (λ part. length part)) ∙ ap length same ∙ length-map others (λ part. length part)

-- ---- what a call did to a slice, it did to the vector that lent it

pub lent_back : {X : Type 0} (items now new : List X) (len : ℕ) → now ≡ items → length items ≡ len → length new ≡ length now → take len (new ++ drop (length new) items) ≡ new
lent_back items now new len same long still = take_at new (drop (length new) items) len (omega (arith, ap length same, long, still))

-- ---- stores that are quiet where they tell

all_quiet : {Y : Type 0} (history : Y → StoreHistory) (stores : List Y) (states : List Store) → All (λ store. Tells (history store) IsQuietStore) stores → AreNow (map history stores) states → AreQuietStores states
all_quiet history [] [] quiet are = λ k d inside. absurd (omega arith)
all_quiet history [] (now ∷ states) quiet are = absurd are
all_quiet history (store ∷ stores) [] quiet are = absurd are
all_quiet history (store ∷ stores) (now ∷ states) quiet are =
    All-cons IsQuietStore now states (tells_at (history store) IsQuietStore now are.0 (All-head (λ store. Tells (history store) IsQuietStore) store stores quiet))
    (all_quiet history stores states (All-tail (λ store. Tells (history store) IsQuietStore) store stores quiet) are.1)

pub quiet_row : {Y : Type 0} (history : Y → StoreHistory) (stores : List Y) → All (λ store. Tells (history store) IsQuietStore) stores → RowTells (map history stores) AreQuietStores
quiet_row history stores quiet = row_tells_from (map history stores) AreQuietStores (λ states are. all_quiet history stores states quiet are)

-- ---- the files that stores have

seen_now : (history : StoreHistory) (now : Store) → IsNow history now → IsSeen history now.seen
seen_now history now is = subst (λ these. IsSeen these now.seen) (sym is.is) refl

pub stores_have : (row : List StoreHistory) (now : List Store) → AreNow row now → StoresHave row (files_of now)
stores_have [] [] are = tt
stores_have [] (store ∷ now) are = absurd are
stores_have (history ∷ row) [] are = absurd are
stores_have (history ∷ row) (store ∷ now) are = (seen_now history store are.0, stores_have row now are.1)

-- Stores that are opened behind others.
use Rattle.std.proofs.Common.{◌≡◌, ℕ, List, [], ◌∷◌, ◌++◌, map, sym, ap, ◌∙◌, subst}
use Rattle.std.proofs.lemmas.List.{map-append}
use Rattle.std.proofs.lemmas.List.Elements.{All-append}
use Rattle.std.specs.Prelude.{All, Option, Some, None, IfSome}
use Rattle.nv_plain.specs.Files.{Files}
use Rattle.nv_pmem.specs.RowStates.{AreNow}
use Rattle.nv_store.specs.Steps.{StoreHistory}
use Rattle.nv_store.specs.Store.{Store, IsQuietStore}
use Rattle.nv_bench.specs.Holding.{Holding, NamedStore}
use Rattle.nv_open.specs.Begun.{files_behind}
use Rattle.nv_open.specs.Held.{HoldFiles}
use Rattle.nv_open.specs.Lending.{stores_named}
use Rattle.nv_open.proofs.Returns.{named_quiet}

pub are_now_append : {S : Type 0} (row more : List (List S)) (states others : List S) → AreNow row states → AreNow more others → AreNow (row ++ more) (states ++ others)
are_now_append [] more [] others are those = those
are_now_append [] more (state ∷ states) others are those = absurd are
are_now_append (history ∷ row) more [] others are those = absurd are
are_now_append (history ∷ row) more (state ∷ states) others are those = (are.0, are_now_append row more states others are.1 those)

abbrev with_contents_of : List (List ℕ) → Files
with_contents_of contents = record { contents = contents }

held_both : {Y : Type 0} (history : Y → StoreHistory) (names : List (List ℕ)) (held : List NamedStore) (before now stores : List Y) (files : Files) → now ≡ before ++ stores → HoldFiles (map history before) files
    → All (λ (named : NamedStore). IsQuietStore named.store) held → AreNow (map history stores) (stores_named names held) → HoldFiles (map history now) (files_behind files names held)
held_both {Y} history names held before now stores files behind holds quiet are =
    let others = stores_named names held in
    let row : map history before ++ map history stores ≡ map history now = sym (map-append history before stores) ∙ ap (map history) (sym behind) in
    record {
      held = holds.held ++ others;
      are = subst (λ (these : List StoreHistory). AreNow these (holds.held ++ others)) row (are_now_append (map history before) (map history stores) holds.held others holds.are are);
      files_are =
          ap with_contents_of (map-append (λ (store : Store). store.seen) holds.held others ∙ ap (λ (front : List (List ℕ)). front ++ map (λ (store : Store). store.seen) others) (ap (λ (these : Files). these.contents) holds.files_are));
      quiet = All-append IsQuietStore holds.held others holds.quiet (named_quiet names held quiet);
    }

pub held_more : {Y : Type 0} (history : Y → StoreHistory) (told : Option Holding) (names : List (List ℕ)) (before now stores : List Y) (files : Files) → now ≡ before ++ stores → HoldFiles (map history before) files
    → IfSome told (λ holding. All (λ (named : NamedStore). IsQuietStore named.store) holding.stores) → IfSome told (λ holding. AreNow (map history stores) (stores_named names holding.stores))
    → IfSome told (λ holding. HoldFiles (map history now) (files_behind files names holding.stores))
held_more history None names before now stores files behind holds quiet are = tt
held_more history (Some holding) names before now stores files behind holds quiet are = held_both history names holding.stores before now stores files behind holds quiet are

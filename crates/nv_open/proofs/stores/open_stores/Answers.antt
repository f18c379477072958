use Rattle.std.proofs.Common.{◌≡◌, [], ◌∷◌, ◌+◌, ◌<◌, ◌++◌, IsTrue, List, ℕ, length, take, get_or, refl, sym, ap, ◌∙◌, subst, arith}
use Rattle.std.specs.Prelude.{Contains}
use Rattle.std.proofs.lemmas.List.{take_more}
use Rattle.std.proofs.lemmas.List.Elements.{Contains-append_right}
use Rattle.std.proofs.lemmas.Result.{err_from_is_err_and}
use Rattle.nv_plain.specs.Layouts.{mount_layout}
use Rattle.nv_plain.specs.Names.{is_name}
use Rattle.nv_bench.specs.Benches.{BenchState}
use Rattle.nv_open.specs.Lending.{AreOpened}
use Rattle.nv_open.proofs.Openings.{opened_none, opened_until, opened_more, failed_cause, not_lent, is_allowed, item_at}
use Rattle.nv_open.proofs.stores.open_stores.Goals as goal

pub returns-in_default-clause-begun : goal.returns-in_default-clause-begun
returns-in_default-clause-begun g c =
    let state = g.T.Bench.state c.args.bench.now in
    opened_until g.T.Store.Backing.history g.T.Store.Backing.fault_count c.args.names.now 0 state state state c.args.stores.now.items c.reserve.new.self.items _ (omega arith)
    (opened_none g.T.Store.Backing.history g.T.Store.Backing.fault_count state c.args.stores.now.items c.reserve.new.self.items c.reserve.ensures.items) refl refl

pub loop-name-init : goal.loop-name-init
loop-name-init g c = record {
  opened = opened_none g.T.Store.Backing.history g.T.Store.Backing.fault_count (g.T.Bench.state c.args.bench.now) c.args.stores.now.items c.reserve.new.self.items c.reserve.ensures.items;
  is_open = c.requires.open;
  places = omega (arith, c.in-Ok.ensures.ok, c.len.ensures);
}

pub text_of-requires : goal.text_of-requires
text_of-requires g c =
    let names = c.args.names.now in
    let i = c.loop-name.name-index in
    let Allowed : List ℕ → Type 0 = λ name. IsTrue (is_name mount_layout.name_limit name) in
    subst Allowed (sym (item_at c.as_slice-name-items.result.now names i c.name-item.result c.as_slice-name-items.ensures c.loop-name-test.true c.name-item.is))
    (is_allowed mount_layout (g.T.Bench.state c.args.bench.now).lent names i (omega (arith, ap length c.as_slice-name-items.ensures)) c.requires.names)

pub open_store-requires-clause-name : goal.open_store-requires-clause-name
open_store-requires-clause-name g c =
    let names = c.args.names.now in
    let i = c.loop-name.name-index in
    let Allowed : List ℕ → Type 0 = λ name. IsTrue (is_name mount_layout.name_limit name) in
    subst Allowed (sym (c.text_of.ensures ∙ item_at c.as_slice-name-items.result.now names i c.name-item.result c.as_slice-name-items.ensures c.loop-name-test.true c.name-item.is))
    (is_allowed mount_layout (g.T.Bench.state c.args.bench.now).lent names i (omega (arith, ap length c.as_slice-name-items.ensures)) c.requires.names)

pub open_store-requires-clause-other : goal.open_store-requires-clause-other
open_store-requires-clause-other g c =
    let names = c.args.names.now in
    let i = c.loop-name.name-index in
    let lent = (g.T.Bench.state c.args.bench.now).lent in
    let Apart : List (List ℕ) → List ℕ → Type 0 = λ these name. ¬ (Contains these name) in
    let is = c.text_of.ensures ∙ item_at c.as_slice-name-items.result.now names i c.name-item.result c.as_slice-name-items.ensures c.loop-name-test.true c.name-item.is in
    subst (λ (these : List (List ℕ)). Apart these c.text_of.result.now) (sym (ap (λ (state : BenchState). state.lent) c.loop-name.invariant.opened.lent))
    (subst (λ (name : List ℕ). Apart (lent ++ take i names) name) (sym is) (not_lent mount_layout lent names i (omega (arith, ap length c.as_slice-name-items.ensures)) c.requires.names))

pub returns-in_err-store-clause-begun : goal.returns-in_err-store-clause-begun
returns-in_err-store-clause-begun g c =
    let names = c.args.names.now in
    let p = err_from_is_err_and c.from_residual.result c.from_residual.ensures.1 in
    let was = g.T.Bench.state c.loop-name.bench in
    let new = g.T.Bench.state c.open_store.new.self in
    let begun = opened_until g.T.Store.Backing.history g.T.Store.Backing.fault_count names c.loop-name.name-index (g.T.Bench.state c.args.bench.now) was new
    c.args.stores.now.items c.loop-name.stores.items c.in_err-store.field-0.0 (omega (arith, ap length c.as_slice-name-items.ensures)) c.loop-name.invariant.opened c.in_err-store.ensures.kept
    (failed_cause was new c.open_store.result c.in_err-store.field-0.0 c.in_err-store.was c.open_store.ensures.failed c.open_store.ensures.memory) in
    rw (p.1, p.2) begun

pub loop-name-preserved : goal.loop-name-preserved
loop-name-preserved g c =
    let names = c.args.names.now in
    let i = c.loop-name.name-index in
    let below : i < length names = omega (arith, ap length c.as_slice-name-items.ensures) in
    let name = c.text_of.result.now in
    let history = g.T.Store.Backing.history in
    let fault_count = g.T.Store.Backing.fault_count in
    let lent = (g.T.Bench.state c.args.bench.now).lent in
    let old = g.T.Bench.state c.args.bench.now in
    let was = g.T.Bench.state c.loop-name.bench in
    let new = g.T.Bench.state c.open_store.new.self in
    let is : name ≡ get_or names i [] = c.text_of.ensures ∙ item_at c.as_slice-name-items.result.now names i c.name-item.result c.as_slice-name-items.ensures c.loop-name-test.true c.name-item.is in
    let apart : ¬ (Contains (take i names) name) = λ known. not_lent mount_layout lent names i below c.requires.names (subst (λ (one : List ℕ). Contains (lent ++ take i names) one) is (Contains-append_right lent (take i names) name known)) in
    let more = opened_more history fault_count (take i names) name old was new c.args.stores.now.items c.loop-name.stores.items c.in_ok-store.store apart
    c.loop-name.invariant.opened c.in_ok-store.ensures.lent c.in_ok-store.ensures.told c.in_ok-store.ensures.untold c.in_ok-store.ensures.counts in
    let front : take i names ++ name ∷ [] ≡ take (i + 1) names = ap (λ (one : List ℕ). take i names ++ one ∷ []) is ∙ sym (take_more names i [] below) in
    record {
      opened =
          subst (λ (these : List (List ℕ)). AreOpened history fault_count these new.faults old new c.args.stores.now.items c.push_reserved.new.self.items) front
          (subst (λ (these : List _). AreOpened history fault_count (take i names ++ name ∷ []) new.faults old new c.args.stores.now.items these) (sym c.push_reserved.ensures.items) more);
      is_open = ap (λ (state : BenchState). state.is_open) c.in_ok-store.ensures.lent ∙ c.loop-name.invariant.is_open;
      places = omega (arith, c.push_reserved.ensures.len, c.push_reserved.ensures.capacity, c.loop-name.invariant.places);
    }

use Rattle.std.proofs.Common.{◌≡◌, length, map, arith}
use Rattle.std.specs.Prelude.{string_bytes}
use Rattle.std.proofs.lemmas.List.{length-map}
use Rattle.nv_store.specs.MemStore.{store_now}
use Rattle.nv_bench.proofs.Lists.{named_stores-one}
use Rattle.nv_bench.proofs.StoreLaws.{now_of_first}
use Rattle.nv_bench.proofs.bench_stores.BenchStores.add.Goals as goal

pub returns-clause-stores : goal.returns-clause-stores
returns-clause-stores c =
    let names = c.reserve.new.self.names.items in
    let stores = c.reserve.new.self.stores.items in
    let long : length (map string_bytes names) ≡ length (map store_now stores) = let same = c.reserve.new.self.matched in omega (arith, length-map names string_bytes, length-map stores store_now) in
    named_stores-one string_bytes store_now names c.push_reserved.new.self.items stores c.push_reserved-2.new.self.items c.in_ok-name.name c.in_ok-store.store _ _ long
    c.push_reserved.ensures.items c.push_reserved-2.ensures.items c.in_ok-name.ensures.ok (now_of_first _ _ _ c.in_ok-store.ensures.history) c.in_ok-reserve.ensures.stores

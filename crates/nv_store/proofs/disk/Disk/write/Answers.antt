use Rattle.std.proofs.lemmas.Bool.Decides.{nat_tests}
use Rattle.std.proofs.Common.{◌≡◌, ◌==◌, ◌<◌, Bool, true, false, length, List, [], ℕ, refl, sym, ap, subst, ◌∙◌, arith, inl}
use Rattle.std.proofs.lemmas.List.{nil_from_length}
use Rattle.nv_plain.specs.Files.{overwritten}
use Rattle.nv_plain.proofs.FileLemmas.{length-overwritten}
use Rattle.nv_store.specs.Store.{marked}
use Rattle.nv_store.specs.Steps.{Write, after_store_step}
use Rattle.nv_store.specs.Disk.{disk_store}
use Rattle.nv_store.specs.Spans.{LieWithin}
use Rattle.nv_store.proofs.Spans.{marked_within}
use Rattle.nv_store.proofs.StoreLaws.{whole_same, whole_after_step, write_nothing}
use Rattle.nv_store.proofs.disk.Disk.write.Goals as goal

some_bytes : (bytes : List ℕ) (empty : Bool) → empty ≡ false → empty ≡ (length bytes == 0) → 0 < length bytes
some_bytes bytes empty is test = grind (arith, nat_tests)

no_bytes : (bytes : List ℕ) (empty : Bool) → empty ≡ true → empty ≡ (length bytes == 0) → length bytes ≡ 0
no_bytes bytes empty is test = grind (arith, nat_tests)

pub invariant_of-self : goal.invariant_of-self
invariant_of-self c =
    let disk = c.args.self.now in
    let store = disk_store disk in
    let at = c.args.at in
    let bytes = c.args.bytes.now in
    let some : 0 < length bytes = some_bytes bytes c.is_empty.result c.if-not-is_empty.true c.is_empty.ensures in
    let len = length-overwritten store.seen bytes at some in
    let flags : c.flag.new.flags.items ≡ marked at (length bytes) (length (overwritten store.seen at bytes)) store.unsynced =
    c.flag.ensures ∙ ap (λ n. marked at (length bytes) n store.unsynced) (omega (arith, len, disk.whole.flags)) in
    let room = c.requires some in
    record {
      whole = whole_same (after_store_step (Write at bytes) store) _ c.overwrite.ensures refl flags (whole_after_step (Write at bytes) store disk.whole);
      span =
          subst (LieWithin c.min-self.result c.max-self.result) (sym flags)
          (marked_within disk.from disk.to c.min-self.result c.max-self.result at (length bytes) (length (overwritten store.seen at bytes)) store.unsynced
          (omega arith) (omega arith) (omega arith) (inl (omega arith)) disk.span);
      room = omega (arith, len, ap length c.overwrite.ensures, c.overwrite.new.bytes.ok.0, room.durable, disk.room, disk.seen.ok.0);
    }

pub returns-else-not-is_empty : goal.returns-else-not-is_empty
returns-else-not-is_empty c =
    let store = disk_store c.args.self.now in
    let none : c.args.bytes.now ≡ [] = nil_from_length c.args.bytes.now (no_bytes c.args.bytes.now c.is_empty.result c.if-not-is_empty.false c.is_empty.ensures) in
    sym (ap (λ bytes. after_store_step (Write c.args.at bytes) store) none ∙ write_nothing c.args.at store c.args.self.now.whole)

use Rattle.std.proofs.Common.{◌≡◌, ◌+◌, ◌≤◌, ◌⊎◌, Bool, List, length, refl, sym, ap, subst, ◌∙◌, arith, inl, inr}
use Rattle.std.proofs.lemmas.Bool.{cases_lt}
use Rattle.std.proofs.lemmas.List.{with_items_is}
use Rattle.nv_store.specs.Store.{Store, marked}
use Rattle.nv_store.specs.Disk.{disk_store}
use Rattle.nv_store.specs.Torn.{with_marks}
use Rattle.nv_store.specs.Spans.{LieWithin}
use Rattle.nv_store.proofs.Flags.{length-marked}
use Rattle.nv_store.proofs.Spans.{marked_within}
use Rattle.nv_store.proofs.StoreLaws.{whole_same, whole_torn, marks_are_torn}
use Rattle.nv_store.proofs.disk.Disk.mark.Goals as goal

pub invariant_of-self : goal.invariant_of-self
invariant_of-self c =
    let disk = c.args.self.now in
    let store = disk_store disk in
    let marks = with_marks c.args.at c.args.count store in
    let now : c.mark.new.flags ≡ marks.unsynced =
    c.mark.ensures
    ∙ ap (λ (flags : List Bool). marked c.args.at c.args.count (length flags) flags) c.deref_mut.ensures.value
    ∙ ap (λ len. marked c.args.at c.args.count len store.unsynced) disk.whole.flags in
    let back = with_items_is disk.unsynced c.mark.new.flags (omega (arith, c.mark.auto.flags, c.deref_mut.ensures.len)) in
    let long : length c.mark.new.flags ≡ length store.seen = ap length now ∙ length-marked c.args.at c.args.count (length store.seen) store.unsynced in
    let ends : (c.args.at + c.args.count ≤ c.max-self.result) ⊎ (length store.seen ≤ c.max-self.result) =
    elim (cases_lt (c.args.at + c.args.count) (length store.seen)) [
      | inl inside ↦ inl (omega arith)
      | inr past ↦ inr (omega arith)
    ] in
    record {
      whole = whole_same marks _ refl refl (back ∙ now) (whole_torn _ _ store marks disk.whole (marks_are_torn c.args.at c.args.count store));
      span =
          subst (LieWithin c.min-self.result c.max-self.result) (sym (back ∙ now))
          (marked_within disk.from disk.to c.min-self.result c.max-self.result c.args.at c.args.count (length store.seen) store.unsynced
          (omega arith) (omega arith) (omega arith) ends disk.span);
      room = disk.room;
    }

pub returns : goal.returns
returns c =
    let disk = c.args.self.now in
    let store = disk_store disk in
    let now : c.mark.new.flags ≡ (with_marks c.args.at c.args.count store).unsynced =
    c.mark.ensures
    ∙ ap (λ (flags : List Bool). marked c.args.at c.args.count (length flags) flags) c.deref_mut.ensures.value
    ∙ ap (λ len. marked c.args.at c.args.count len store.unsynced) disk.whole.flags in
    let back = with_items_is disk.unsynced c.mark.new.flags (omega (arith, c.mark.auto.flags, c.deref_mut.ensures.len)) in
    ap (λ flags. let s : Store = record { seen = store.seen; durable = store.durable; unsynced = flags } in s) (back ∙ now)

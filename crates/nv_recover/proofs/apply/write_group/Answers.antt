use Rattle.std.proofs.Common.{◌≡◌, ◌+◌, List, map, refl, sym, ◌∙◌, subst, arith}
use Rattle.nv_pmem.specs.Rows.{RowTells, row_words}
use Rattle.nv_pmem.specs.Steps as lines
use Rattle.nv_pmem.specs.Limits.{entry_lines}
use Rattle.nv_pmem.proofs.ReadLaws.{only_read_none, only_read_more}
use Rattle.nv_entry.proofs.Slots.{slots_still}
use Rattle.nv_plain.specs.Images.{Image}
use Rattle.nv_plain.specs.Recovered.{with_entry}
use Rattle.nv_store.specs.Steps.{StoreHistory}
use Rattle.nv_store.specs.Store.{Store}
use Rattle.nv_recover.specs.Applying.{AcrossTells, IsGroupOf, StaysAlike}
use Rattle.nv_recover.specs.Standing.{files_of}
use Rattle.nv_recover.proofs.ApplyLaws.{alike_none}
use Rattle.nv_recover.proofs.Entries.{unwritten, group_tells_number, GroupSoFar, group_begun, group_all, entry_throughout}
use Rattle.nv_recover.proofs.GroupLaws.{one_more}
use Rattle.nv_recover.proofs.RowMoments.{across_still}
use Rattle.nv_recover.proofs.StoreRows.{across_tells}
use Rattle.nv_recover.proofs.apply.write_group.Goals as goal

pub loop-number-init : goal.loop-number-init
loop-number-init g c =
    let parts : List lines.PartHistory = map g.L.Lines.history c.args.parts.now in
    let stores : List StoreHistory = map g.B.Backing.history c.args.stores.now in
    record {
      read = only_read_none g.L.Lines.history g.L.Lines.room g.L.Lines.device c.args.parts.now;
      moments = across_still parts stores StaysAlike (unwritten parts stores StaysAlike alike_none);
      written = unwritten parts stores (GroupSoFar c.args.group.leader c.args.group.leader) (group_begun c.args.group.leader);
      tells = λ tell. tell;
      region_faults = refl;
      store_faults = refl;
      devices = refl;
    }

pub write_entry-requires-clause-lines : goal.write_entry-requires-clause-lines
write_entry-requires-clause-lines g c =
    slots_still g.L.Lines.room (entry_lines c.args.bounds.now.page) c.args.bounds.now.entries c.args.parts.now c.loop-number.parts c.loop-number.invariant.read.rooms c.requires.lines

pub write_entry-requires-clause-number : goal.write_entry-requires-clause-number
write_entry-requires-clause-number g c =
    let Are : List lines.PartHistory → Type 0 = λ row. RowTells row (λ parts. IsGroupOf (row_words parts) c.args.group) in
    group_tells_number (map g.L.Lines.history c.loop-number.parts) c.args.group c.loop-number.number
    (omega arith) (omega (arith, c.saturating_add-number-end.ensures))
    (subst Are (sym c.loop-number.invariant.read.histories) c.requires.group)

pub returns-in_err-write_entry-clause-read : goal.returns-in_err-write_entry-clause-read
returns-in_err-write_entry-clause-read g c = only_read_more c.loop-number.invariant.read c.write_entry.ensures.read

pub returns-in_err-write_entry-clause-moments : goal.returns-in_err-write_entry-clause-moments
returns-in_err-write_entry-clause-moments g c =
    let old : List StoreHistory = map g.B.Backing.history c.args.stores.now in
    let between : List StoreHistory = map g.B.Backing.history c.loop-number.stores in
    let new : List StoreHistory = map g.B.Backing.history c.write_entry.new.stores in
    let Step : List lines.PartHistory → Type 0 = λ parts. AcrossTells parts between new StaysAlike in
    entry_throughout (map g.L.Lines.history c.args.parts.now) old between new c.loop-number.invariant.tells c.loop-number.invariant.moments c.write_entry.ensures.one
    (subst Step c.loop-number.invariant.read.histories c.write_entry.ensures.alike)

pub loop-number-preserved : goal.loop-number-preserved
loop-number-preserved g c =
    let parts : List lines.PartHistory = map g.L.Lines.history c.args.parts.now in
    let old : List StoreHistory = map g.B.Backing.history c.args.stores.now in
    let between : List StoreHistory = map g.B.Backing.history c.loop-number.stores in
    let new : List StoreHistory = map g.B.Backing.history c.write_entry.new.stores in
    let leader = c.args.group.leader in
    let number = c.loop-number.number in
    let Next : Image → List Store → List Store → Type 0 = λ image was now. files_of now ≡ with_entry image (files_of was) number in
    let Alike : List lines.PartHistory → Type 0 = λ parts. AcrossTells parts between new StaysAlike in
    let Wrote : List lines.PartHistory → Type 0 = λ parts. AcrossTells parts between new Next in
    record {
      read = only_read_more c.loop-number.invariant.read c.write_entry.ensures.read;
      moments =
          entry_throughout parts old between new c.loop-number.invariant.tells c.loop-number.invariant.moments c.write_entry.ensures.one
          (subst Alike c.loop-number.invariant.read.histories c.write_entry.ensures.alike);
      written =
          across_tells parts old between new (GroupSoFar leader number) Next (GroupSoFar leader (number + 1)) c.loop-number.invariant.tells
          (λ image was then now so_far next. one_more image (files_of was) (files_of then) (files_of now) leader number (omega arith) so_far next)
          c.loop-number.invariant.written (subst Wrote c.loop-number.invariant.read.histories c.in_ok-write_entry.ensures.written);
      tells = λ tell. c.write_entry.ensures.tells (c.loop-number.invariant.tells tell);
      region_faults = c.in_ok-write_entry.ensures.region_cause ∙ c.loop-number.invariant.region_faults;
      store_faults = c.in_ok-write_entry.ensures.store_cause ∙ c.loop-number.invariant.store_faults;
      devices = c.write_entry.ensures.devices ∙ c.loop-number.invariant.devices;
    }

pub returns-clause-written : goal.returns-clause-written
returns-clause-written g c =
    group_all (map g.L.Lines.history c.args.parts.now) (map g.B.Backing.history c.args.stores.now) (map g.B.Backing.history c.loop-number.stores)
    c.args.group c.loop-number.number (λ small. omega (arith, c.saturating_add-number-end.ensures)) c.requires.group c.loop-number.invariant.written

use Rattle.std.proofs.Common.{◌≡◌, ◌+◌, List, map, get_or, refl, sym, ◌∙◌, subst, arith}
use Rattle.std.specs.Prelude.{fold}
use Rattle.std.specs.List.{range_with_len}
use Rattle.nv_pmem.specs.Rows.{RowTells, row_words}
use Rattle.nv_pmem.specs.Steps as lines
use Rattle.nv_pmem.specs.Limits.{entry_lines}
use Rattle.nv_pmem.proofs.ReadLaws.{only_read_none, only_read_more}
use Rattle.nv_entry.proofs.Slots.{slots_still}
use Rattle.nv_plain.specs.Images.{Image}
use Rattle.nv_plain.specs.Recovered.{with_entry}
use Rattle.nv_store.specs.Steps.{StoreHistory}
use Rattle.nv_store.specs.Store.{Store}
use Rattle.nv_recover.specs.Applying.{AcrossTells, AcrossThroughout, StaysAlike}
use Rattle.nv_recover.specs.Groups.{AreGroups}
use Rattle.nv_recover.specs.Standing.{files_of}
use Rattle.nv_recover.specs.declared.group.Group.{Group}
use Rattle.nv_recover.proofs.ApplyLaws.{alike_none}
use Rattle.nv_recover.proofs.Entries.{unwritten, groups_tell_group, GroupsSoFar, groups_all, alike_throughout, quiet_alike}
use Rattle.nv_recover.proofs.GroupLaws.{group_more}
use Rattle.nv_recover.proofs.RowMoments.{across_still}
use Rattle.nv_recover.proofs.StoreRows.{across_tells}
use Rattle.nv_recover.proofs.apply.write_groups.Goals as goal

pub loop-group-init : goal.loop-group-init
loop-group-init g c =
    let parts : List lines.PartHistory = map g.L.Lines.history c.args.parts.now in
    let stores : List StoreHistory = map g.B.Backing.history c.args.stores.now in
    record {
      read = only_read_none g.L.Lines.history g.L.Lines.room g.L.Lines.device c.args.parts.now;
      moments = across_still parts stores StaysAlike (unwritten parts stores StaysAlike alike_none);
      written = unwritten parts stores (GroupsSoFar c.args.groups.now 0) (λ image was. refl);
      tells = λ tell. tell;
      region_faults = refl;
      store_faults = refl;
      devices = refl;
    }

pub write_group-requires-clause-lines : goal.write_group-requires-clause-lines
write_group-requires-clause-lines g c =
    slots_still g.L.Lines.room (entry_lines c.args.bounds.now.page) c.args.bounds.now.entries c.args.parts.now c.loop-group.parts c.loop-group.invariant.read.rooms c.requires.lines

pub write_group-requires-clause-group : goal.write_group-requires-clause-group
write_group-requires-clause-group g c =
    let none : Group = record { leader = 0; count = 0 } in
    let Are : List lines.PartHistory → Type 0 = λ row. RowTells row (λ parts. AreGroups (row_words parts) c.args.groups.now) in
    groups_tell_group (map g.L.Lines.history c.loop-group.parts) c.args.groups.now c.loop-group.group-index none (omega arith)
    (subst Are (sym c.loop-group.invariant.read.histories) c.requires.groups)

pub returns-in_err-write_group-clause-read : goal.returns-in_err-write_group-clause-read
returns-in_err-write_group-clause-read g c = only_read_more c.loop-group.invariant.read c.write_group.ensures.read

pub returns-in_err-write_group-clause-moments : goal.returns-in_err-write_group-clause-moments
returns-in_err-write_group-clause-moments g c =
    let parts : List lines.PartHistory = map g.L.Lines.history c.args.parts.now in
    let old : List StoreHistory = map g.B.Backing.history c.args.stores.now in
    let between : List StoreHistory = map g.B.Backing.history c.loop-group.stores in
    let new : List StoreHistory = map g.B.Backing.history c.write_group.new.stores in
    let Step : List lines.PartHistory → Type 0 = λ parts. AcrossThroughout parts between new StaysAlike in
    quiet_alike parts old new c.requires.quiet
    (alike_throughout parts old between new c.loop-group.invariant.tells c.loop-group.invariant.moments
    (subst Step c.loop-group.invariant.read.histories c.write_group.ensures.moments))

pub loop-group-preserved : goal.loop-group-preserved
loop-group-preserved g c =
    let parts : List lines.PartHistory = map g.L.Lines.history c.args.parts.now in
    let old : List StoreHistory = map g.B.Backing.history c.args.stores.now in
    let between : List StoreHistory = map g.B.Backing.history c.loop-group.stores in
    let new : List StoreHistory = map g.B.Backing.history c.write_group.new.stores in
    let groups = c.args.groups.now in
    let i = c.loop-group.group-index in
    let none : Group = record { leader = 0; count = 0 } in
    let Next : Image → List Store → List Store → Type 0 = λ image was now.
    files_of now ≡ fold (with_entry image) (files_of was) (range_with_len (get_or groups i none).leader (get_or groups i none).count) in
    let Alike : List lines.PartHistory → Type 0 = λ parts. AcrossThroughout parts between new StaysAlike in
    let Wrote : List lines.PartHistory → Type 0 = λ parts. AcrossTells parts between new Next in
    record {
      read = only_read_more c.loop-group.invariant.read c.write_group.ensures.read;
      moments =
          alike_throughout parts old between new c.loop-group.invariant.tells c.loop-group.invariant.moments
          (subst Alike c.loop-group.invariant.read.histories c.write_group.ensures.moments);
      written =
          across_tells parts old between new (GroupsSoFar groups i) Next (GroupsSoFar groups (i + 1)) c.loop-group.invariant.tells
          (λ image was then now so_far next. group_more image (files_of was) (files_of then) (files_of now) groups i none (omega arith) so_far next)
          c.loop-group.invariant.written (subst Wrote c.loop-group.invariant.read.histories c.in_ok-write_group.ensures.written);
      tells = λ tell. c.write_group.ensures.tells (c.loop-group.invariant.tells tell);
      region_faults = c.in_ok-write_group.ensures.region_cause ∙ c.loop-group.invariant.region_faults;
      store_faults = c.in_ok-write_group.ensures.store_cause ∙ c.loop-group.invariant.store_faults;
      devices = c.write_group.ensures.devices ∙ c.loop-group.invariant.devices;
    }

pub returns-clause-moments : goal.returns-clause-moments
returns-clause-moments g c =
    quiet_alike (map g.L.Lines.history c.args.parts.now) (map g.B.Backing.history c.args.stores.now) (map g.B.Backing.history c.loop-group.stores)
    c.requires.quiet c.loop-group.invariant.moments

pub returns-clause-written : goal.returns-clause-written
returns-clause-written g c =
    groups_all (map g.L.Lines.history c.args.parts.now) (map g.B.Backing.history c.args.stores.now) (map g.B.Backing.history c.loop-group.stores)
    c.args.groups.now c.loop-group.group-index (omega arith) c.requires.groups c.loop-group.invariant.written

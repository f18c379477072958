-- What the steps of a group say of the parts, which were lent as a slice.
use Rattle.std.proofs.Common.{◌≡◌, map, refl, arith}
use Rattle.std.specs.Prelude.{All, OnOk, sum_by}
use Rattle.std.proofs.lemmas.Result.{on_ok_weaker}
use Rattle.nv_plain.specs.Faults.{HasCause}
use Rattle.nv_pmem.specs.Calls.{RowCalls, seen_of}
use Rattle.nv_pmem.specs.Rows.{DidRow, DidSomeRow}
use Rattle.nv_pmem.proofs.OneOfRow.{lent}
use Rattle.nv_entry.specs.Group.{group_steps, IsReady}
use Rattle.nv_entry.proofs.GroupLaws.{AreBegun, parts_moments, parts_others, parts_whole, parts_hold, parts_quiet}
use Rattle.nv_entry.proofs.group.commit_group.Goals as goal

pub returns : goal.returns
returns g c =
    let parts = c.args.parts.now in
    let page = c.args.page in
    let first = c.args.first in
    let file = c.args.file in
    let at = c.args.at in
    let bytes = c.args.bytes.now in
    let seen = seen_of g.L.Lines.history g.L.Lines.room g.L.Lines.fault_count in
    let back = lent parts.items c.deref_mut.result.now c.write_group.new.parts parts.len c.deref_mut.ensures.value (omega (arith, parts.ok.0)) c.write_group.auto.parts in
    let begun = back (λ old new. DidSomeRow (group_steps page first file at bytes) (map g.L.Lines.history old) (map g.L.Lines.history new)) c.write_group.ensures.begun in
    let ready : AreBegun g.L.Lines.history g.L.Lines.room page at bytes parts.items parts.len = record {
      told = g.met.L.Lines.told_lines;
      is_page = c.requires.page;
      are = λ i. omega (arith, c.type_inv.bytes i);
      some = c.requires.some;
      pieces = c.requires.pieces;
      long = omega (arith, parts.ok.0);
      ready = c.requires.ready;
    } in
    let done = back (λ old new. OnOk c.write_group.result (DidRow (group_steps page first file at bytes) (map g.L.Lines.history old) (map g.L.Lines.history new))) c.write_group.ensures.done in
    record {
      begun = begun;
      done = done;
      calls = back (λ old new. RowCalls (group_steps page first file at bytes) (map seen old) (map seen new) c.write_group.result) c.write_group.ensures.calls;
      moments = λ uncommitted.
          parts_moments g.L.Lines.history g.L.Lines.room page first file at bytes parts.items ready uncommitted begun;
      others =
          parts_others g.L.Lines.history g.L.Lines.room page first file at bytes parts.items ready begun;
      whole = λ uncommitted.
          on_ok_weaker c.write_group.result
          (parts_whole g.L.Lines.history g.L.Lines.room page first file at bytes parts.items ready uncommitted)
          done;
      quiet =
          on_ok_weaker c.write_group.result
          (parts_quiet g.L.Lines.history g.L.Lines.room page first file at bytes parts.items ready)
          done;
      holds = λ uncommitted.
          on_ok_weaker c.write_group.result
          (parts_hold g.L.Lines.history g.L.Lines.room page first file at bytes parts.items ready uncommitted)
          done;
      ready = back (λ old new. OnOk c.write_group.result (All (λ part. IsReady page (g.L.Lines.room part)) new)) c.write_group.ensures.ready;
      lines = back (λ old new. map (λ part. (g.L.Lines.room part).lines) new ≡ map (λ part. (g.L.Lines.room part).lines) old) c.write_group.ensures.lines;
      cause = back (λ old new. HasCause (sum_by g.L.Lines.fault_count old) (sum_by g.L.Lines.fault_count new) c.write_group.result) c.write_group.ensures.cause;
      devices = back (λ old new. map g.L.Lines.device new ≡ map g.L.Lines.device old) c.write_group.ensures.devices;
      memory = refl;
    }

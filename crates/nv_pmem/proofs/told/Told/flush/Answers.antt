use Rattle.std.proofs.lemmas.List.{get_or_read}
use Rattle.nv_pmem.specs.Part.{blank_line}
use Rattle.nv_pmem.proofs.Rooms.{keeps_flushed, freed_flushed}
use Rattle.nv_pmem.proofs.told.Told.flush.Goals as goal

pub returns-clause-room : goal.returns-clause-room
returns-clause-room c =
    let lines = c.args.self.now.lines.items in
    let is = get_or_read lines c.args.line c.index_mut.result.now c.requires c.index_mut.ensures.value blank_line in
    rw (c.flush.ensures, is) (keeps_flushed lines c.args.line c.requires)

pub returns-clause-flushed : goal.returns-clause-flushed
returns-clause-flushed c =
    let lines = c.args.self.now.lines.items in
    let is = get_or_read lines c.args.line c.index_mut.result.now c.requires c.index_mut.ensures.value blank_line in
    rw (c.flush.ensures, is) (freed_flushed lines c.args.line c.requires)

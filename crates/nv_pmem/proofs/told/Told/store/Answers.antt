use Rattle.std.proofs.Common.{◌<◌, length, sym, subst}
use Rattle.std.proofs.lemmas.List.{get_or_read}
use Rattle.nv_pmem.specs.Part.{Line, blank_line, word_of}
use Rattle.nv_pmem.proofs.Rooms.{takes_stored}
use Rattle.nv_pmem.proofs.told.Told.store.Goals as goal

pub store-requires-clause-spare : goal.store-requires-clause-spare
store-requires-clause-spare c =
    let lines = c.args.self.now.lines.items in
    let is = get_or_read lines c.args.line c.index_mut.result.now c.requires.line c.index_mut.ensures.value blank_line in
    let Spare : Line → Type 0 = λ line. length (word_of line c.args.word).later < 15 in
    subst Spare (sym is) c.requires.spare

pub returns-clause-room : goal.returns-clause-room
returns-clause-room c =
    let lines = c.args.self.now.lines.items in
    let is = get_or_read lines c.args.line c.index_mut.result.now c.requires.line c.index_mut.ensures.value blank_line in
    rw (c.store.ensures, is) (takes_stored lines c.args.line c.args.word c.args.value c.requires.line)

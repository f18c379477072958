use Rattle.std.proofs.Common.{map, take, arith}
use Rattle.nv_recover.proofs.ApplyLaws.{alike_none}
use Rattle.nv_recover.proofs.Entries.{unwritten, size_within, file_there, entry_alike, entry_written}
use Rattle.nv_recover.specs.Applying.{StaysAlike}
use Rattle.nv_recover.proofs.apply.write_entry.Goals as goal

pub load_piece-requires-clause-size : goal.load_piece-requires-clause-size
load_piece-requires-clause-size g c =
    size_within (map g.L.Lines.history c.args.parts.now) c.args.bounds.now c.args.number c.requires.header c.requires.number

pub returns-in_err-head-clause-alike : goal.returns-in_err-head-clause-alike
returns-in_err-head-clause-alike g c =
    unwritten (map g.L.Lines.history c.args.parts.now) (map g.B.Backing.history c.args.stores.now) StaysAlike alike_none

pub returns-then-file-stores-clause-alike : goal.returns-then-file-stores-clause-alike
returns-then-file-stores-clause-alike g c =
    unwritten (map g.L.Lines.history c.args.parts.now) (map g.B.Backing.history c.args.stores.now) StaysAlike alike_none

pub returns-then-file-stores-clause-bad : goal.returns-then-file-stores-clause-bad
returns-then-file-stores-clause-bad g c = λ other is.
    let head = c.in_ok-head.head in
    file_there (map g.L.Lines.history c.args.parts.now) c.args.bounds.now c.args.number head.file head.at (take head.size c.load_piece.new.page)
    (omega arith) c.requires.header c.requires.number c.in_ok-head.ensures.piece

pub returns-in-Ok-clause-alike : goal.returns-in-Ok-clause-alike
returns-in-Ok-clause-alike g c =
    let head = c.in_ok-head.head in
    entry_alike g.B.Backing.history g.met.B.Backing.told_whole (map g.L.Lines.history c.args.parts.now) c.args.stores.now c.write_piece.new.stores
    c.args.number head.file head.at (take head.size c.load_piece.new.page) (omega arith) c.requires.number c.in_ok-head.ensures.piece c.write_piece.ensures.torn

pub returns-in-Ok-clause-written : goal.returns-in-Ok-clause-written
returns-in-Ok-clause-written g c =
    let head = c.in_ok-head.head in
    entry_written g.B.Backing.history g.met.B.Backing.told_whole (map g.L.Lines.history c.args.parts.now) c.args.stores.now c.write_piece.new.stores
    c.args.number head.file head.at (take head.size c.load_piece.new.page) (omega arith) c.requires.number c.in_ok-head.ensures.piece c.in-Ok.ensures.done

pub returns-in-Err-Fault-clause-alike : goal.returns-in-Err-Fault-clause-alike
returns-in-Err-Fault-clause-alike g c =
    let head = c.in_ok-head.head in
    entry_alike g.B.Backing.history g.met.B.Backing.told_whole (map g.L.Lines.history c.args.parts.now) c.args.stores.now c.write_piece.new.stores
    c.args.number head.file head.at (take head.size c.load_piece.new.page) (omega arith) c.requires.number c.in_ok-head.ensures.piece c.write_piece.ensures.torn

pub returns-in-Err-NoMemory-clause-alike : goal.returns-in-Err-NoMemory-clause-alike
returns-in-Err-NoMemory-clause-alike g c =
    let head = c.in_ok-head.head in
    entry_alike g.B.Backing.history g.met.B.Backing.told_whole (map g.L.Lines.history c.args.parts.now) c.args.stores.now c.write_piece.new.stores
    c.args.number head.file head.at (take head.size c.load_piece.new.page) (omega arith) c.requires.number c.in_ok-head.ensures.piece c.write_piece.ensures.torn

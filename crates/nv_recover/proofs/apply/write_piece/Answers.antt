use Rattle.std.proofs.Common.{get_or}
use Rattle.std.proofs.Math.Seq.{map-set_same}
use Rattle.nv_recover.proofs.StoreRows.{row_torn, row_written_ok, row_goes_on, row_wrote_one, wrote_tells}
use Rattle.nv_recover.proofs.apply.write_piece.Goals as goal

pub returns-clause-one : goal.returns-clause-one
returns-clause-one g c =
    row_wrote_one g.B.Backing.history c.args.stores.now c.args.file c.index-stores-file.result c.pwrite.new.self c.requires
    c.pwrite.result c.args.at c.args.bytes.now c.pwrite.ensures.done c.pwrite.ensures.failed

pub returns-clause-torn : goal.returns-clause-torn
returns-clause-torn g c =
    row_torn g.B.Backing.history c.args.stores.now c.args.file c.index-stores-file.result c.pwrite.new.self c.requires
    c.pwrite.result c.args.at c.args.bytes.now c.pwrite.ensures.done c.pwrite.ensures.failed

pub returns-clause-done : goal.returns-clause-done
returns-clause-done g c =
    row_written_ok g.B.Backing.history c.args.stores.now c.args.file c.index-stores-file.result c.pwrite.new.self c.requires
    c.pwrite.result c.args.at c.args.bytes.now c.pwrite.ensures.done

pub returns-clause-tells : goal.returns-clause-tells
returns-clause-tells g c =
    row_goes_on g.B.Backing.history c.args.stores.now c.args.file c.index-stores-file.result c.pwrite.new.self c.requires
    (wrote_tells c.pwrite.result c.args.at c.args.bytes.now
    (g.B.Backing.history (get_or c.args.stores.now c.args.file c.index-stores-file.result)) (g.B.Backing.history c.pwrite.new.self)
    c.pwrite.ensures.done c.pwrite.ensures.failed)

pub returns-clause-devices : goal.returns-clause-devices
returns-clause-devices g c =
    map-set_same g.B.Backing.device c.args.stores.now c.args.file c.pwrite.new.self c.index-stores-file.result c.pwrite.ensures.device

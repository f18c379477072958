-- The calls of the move are due one after another.
use Rattle.std.proofs.Common.{subst}
use Rattle.nv_pages.specs.DeviceCalls.{HasMovedTail}
use Rattle.nv_clean.specs.Cleaning.{CleanState}
use Rattle.nv_clean.proofs.RetireLaws.{header_slot_is, header_slot_once, tail_failed, tail_moved}
use Rattle.nv_clean.proofs.batch.CleanMachine.move_tail.Goals as goal

pub move_header_tail-requires-clause-owns_slots : goal.move_header_tail-requires-clause-owns_slots
move_header_tail-requires-clause-owns_slots g c = header_slot_once c.args.self.now c.requires.synced.0 c.requires.synced.1 c.args.pass.now c.requires.synced.2

pub move_header_tail-requires-clause-part : goal.move_header_tail-requires-clause-part
move_header_tail-requires-clause-part g c = header_slot_is c.args.self.now c.requires.synced.0 c.requires.synced.1 c.args.pass.now c.requires.synced.2

pub returns-clause-moved : goal.returns-clause-moved
returns-clause-moved g c =
    tail_moved c.args.self.now c.args.pass.now c.move_header_tail.new.pass c.move_header_tail.result
    (subst (λ (m : CleanState). HasMovedTail m.batch.reached c.move_header_tail.result c.args.pass.now c.move_header_tail.new.pass) c.self.view_is c.move_header_tail.ensures) c.tail_calls_are_due.ensures

pub returns-clause-failed : goal.returns-clause-failed
returns-clause-failed g c =
    tail_failed c.args.self.now c.args.pass.now c.move_header_tail.new.pass c.move_header_tail.result
    (subst (λ (m : CleanState). HasMovedTail m.batch.reached c.move_header_tail.result c.args.pass.now c.move_header_tail.new.pass) c.self.view_is c.move_header_tail.ensures) c.tail_calls_are_due.ensures

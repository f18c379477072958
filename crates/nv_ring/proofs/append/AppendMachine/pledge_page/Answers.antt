-- The page is owned once, and what its piece leaves there is what the pledge asks for.
use Rattle.nv_ring.specs.Appends.{append_call_of}
use Rattle.nv_ring.proofs.PledgeLaws.{own_page, slot_once, slot_room, pledge_due, between_altered}
use Rattle.nv_ring.proofs.append.AppendMachine.pledge_page.Goals as goal

pub patch-requires-clause-owns_slots : goal.patch-requires-clause-owns_slots
patch-requires-clause-owns_slots g c =
    let m = c.args.self in
    let pass = c.args.pass.now in
    slot_once (append_call_of m) _ pass c.requires.before (own_page pass.view.opened.sizes m c.args.done c.requires.fits c.requires.own)

pub patch-requires-clause-room : goal.patch-requires-clause-room
patch-requires-clause-room g c =
    let m = c.args.self in
    let pass = c.args.pass.now in
    slot_room (append_call_of m) _ pass c.requires.before (own_page pass.view.opened.sizes m c.args.done c.requires.fits c.requires.own)

pub perform_after-requires-clause-due : goal.perform_after-requires-clause-due
perform_after-requires-clause-due g c = pledge_due (append_call_of c.args.self) _ c.args.pass.now c.patch.new.pass c.requires.before c.patch.ensures

pub returns-clause-pledged : goal.returns-clause-pledged
returns-clause-pledged g c = record { before = c.patch.new.pass; between = between_altered _ c.args.pass.now c.patch.new.pass c.patch.ensures; stepped = c.perform_after.ensures.stepped.0; well = c.perform_after.ensures.stepped.1 }

-- The list is as long as it was.
use Rattle.std.proofs.Common.{◌≡◌, List, ℕ, length, sym, subst, rules}
use Rattle.nv_calls.specs.reads.ReadMachines.{IsReadUnderWay, ReadGoes}
use Rattle.nv_schedule.proofs.turns.HandLaws.{laid_whole}
use Rattle.nv_schedule.proofs.hand.ReadAtHand.advance.Goals as goal

pub returns-clause-goes : goal.returns-clause-goes
returns-clause-goes g c = λ begun way.
    let size : length c.advance.new.list ≡ length c.args.self.now.list.items = search rules in
    let len : c.args.self.now.list.len ≡ length c.args.self.now.list.items = search rules in
    subst (λ list. ReadGoes c.args.mount.now.fds begun c.advance.new.self list c.advance.new.pass c.advance.result)
    (sym (laid_whole c.args.self.now.list.len c.args.self.now.list.items c.advance.new.list len size)) (c.advance.ensures.goes begun (subst (λ (list : List ℕ). IsReadUnderWay c.args.mount.now.fds c.args.self.now.machine list begun c.args.pass.now) (sym c.as_mut_slice.ensures.value) way))

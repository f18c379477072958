-- It goes on where its front is over.
use Rattle.std.proofs.Common.{◌≤◌, ◌^◌, refl, sym, ap, subst}
use Rattle.nv_op.specs.Ops.{call_asked}
use Rattle.nv_mirror.proofs.CellLaws.{last_low}
use Rattle.nv_ring.proofs.WaysLaws.{draw_way}
use Rattle.nv_mirror.specs.Fronts.{front_call_of}
use Rattle.nv_ring.proofs.numbers.DrawMachine.behind.Goals as goal

pub returns-clause-way : goal.returns-clause-way
returns-clause-way c start now way =
    draw_way c.args.front _ start now c.requires.passed
    (record { call = ap call_asked (sym c.in-Write.is); write = c.requires.write; page = refl; pages = refl; sized = refl; length = refl })
    refl refl (subst (λ n. n ≤ 2 ^ 50) (sym c.requires.fits.last) (last_low _ (front_call_of c.args.front) c.args.layout.limits c.requires.fits.allowed)) way

pub returns-clause-begins : goal.returns-clause-begins
returns-clause-begins c now = refl

use Rattle.nv_mirror.proofs.load.LoadMachine.make_next.Goals as goal

pub returns-in_default : goal.returns-in_default
returns-in_default g c =
    record { board = c.step.ensures.board; one = c.step.ensures.one; falls = c.step.ensures.falls; others = c.step.ensures.others; way = λ start way. c.step.ensures.way c.args.room.now start way }

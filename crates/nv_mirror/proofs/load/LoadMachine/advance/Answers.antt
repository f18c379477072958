-- Each step tells why the page isn't loaded, if it isn't; and where it is, its bytes are those in the room.
use Rattle.nv_mirror.proofs.LoadAnswerLaws.{run_on}
use Rattle.nv_mirror.proofs.LoadedLaws.{has_loaded}
use Rattle.nv_mirror.proofs.load.LoadMachine.advance.Goals as goal

pub returns-clause-answer : goal.returns-clause-answer
returns-clause-answer g c first began run =
    run_on first c.args.self.now c.make_next.new.self began c.args.pass.now c.make_next.new.pass run c.requires.open c.make_next.ensures.one c.make_next.ensures.others

pub returns-clause-loaded : goal.returns-clause-loaded
returns-clause-loaded g c at =
    has_loaded c.make_next.new.self c.make_next.new.room c.requires.way.0 c.make_next.new.pass at (c.make_next.ensures.way c.requires.way.0 c.requires.way.1)
    c.runs_keep_content.ensures.runs c.sees_a_run.ensures.mount c.sees_a_run.ensures.run

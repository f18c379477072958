-- The sessions' type names this mount.
use Rattle.nv_session.proofs.first.FirstSession.run.Given as goal

abbrev pub ghosts-do_all : goal.ghosts-do_all
ghosts-do_all g a = record { mount = a.mount.now }

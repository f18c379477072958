-- The outcome is that of the run, and pass 0 has closed the mount behind it.
use Rattle.nv_runner.proofs.running.run_calls.Goals as goal

pub returns : goal.returns
returns g c = record {
  ran = (c.run_out-ran.new.pass, c.run_out-ran.ensures.outcome c.tell.result c.tell.ensures, c.close_alone-closed.ensures.closed, c.close_alone-closed.ensures.told);
}

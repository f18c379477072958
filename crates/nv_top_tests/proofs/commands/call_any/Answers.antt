use Rattle.nv_bench.specs.MemBench.{mem_state}
use Rattle.nv_top.proofs.TestBenches.{is_free}
use Rattle.nv_top_tests.proofs.commands.call_any.Goals as goal

pub returns-in_err-to_vec-clause-closed : goal.returns-in_err-to_vec-clause-closed
returns-in_err-to_vec-clause-closed g c =
    (is_free _ _ (mem_state c.args.bench.now) (mem_state c.nv_main-status.new.bench) c.requires.closed c.requires.home c.nv_main-status.ensures.came.2.back c.nv_main-status.ensures.came.2.command).closed

pub returns-in_err-to_vec-clause-home : goal.returns-in_err-to_vec-clause-home
returns-in_err-to_vec-clause-home g c =
    (is_free _ _ (mem_state c.args.bench.now) (mem_state c.nv_main-status.new.bench) c.requires.closed c.requires.home c.nv_main-status.ensures.came.2.back c.nv_main-status.ensures.came.2.command).home

pub returns-in_err-to_vec-clause-arms : goal.returns-in_err-to_vec-clause-arms
returns-in_err-to_vec-clause-arms g c =
    (is_free _ _ (mem_state c.args.bench.now) (mem_state c.nv_main-status.new.bench) c.requires.closed c.requires.home c.nv_main-status.ensures.came.2.back c.nv_main-status.ensures.came.2.command).arms

pub returns-clause-closed : goal.returns-clause-closed
returns-clause-closed g c =
    (is_free _ _ (mem_state c.args.bench.now) (mem_state c.nv_main-status.new.bench) c.requires.closed c.requires.home c.nv_main-status.ensures.came.2.back c.nv_main-status.ensures.came.2.command).closed

pub returns-clause-home : goal.returns-clause-home
returns-clause-home g c =
    (is_free _ _ (mem_state c.args.bench.now) (mem_state c.nv_main-status.new.bench) c.requires.closed c.requires.home c.nv_main-status.ensures.came.2.back c.nv_main-status.ensures.came.2.command).home

pub returns-clause-arms : goal.returns-clause-arms
returns-clause-arms g c =
    (is_free _ _ (mem_state c.args.bench.now) (mem_state c.nv_main-status.new.bench) c.requires.closed c.requires.home c.nv_main-status.ensures.came.2.back c.nv_main-status.ensures.came.2.command).arms

-- What each did, all did.
use Rattle.nv_runner.proofs.ServedLaws.{all_did_all, all_did_serve, all_still_ready, threads_stay}
use Rattle.nv_runner.proofs.crew.serve_all.Goals as goal

pub returns-clause-threads : goal.returns-clause-threads
returns-clause-threads g c = threads_stay c.args.mount.now c.args.batch c.args.workers.now c.serve_each.new.workers c.serve_each.ensures.count c.serve_each.ensures.each

pub returns-clause-ready : goal.returns-clause-ready
returns-clause-ready g c = all_still_ready c.args.mount.now c.args.batch c.args.workers.now c.serve_each.new.workers c.serve_each.ensures.count c.serve_each.ensures.each

pub returns-clause-served : goal.returns-clause-served
returns-clause-served g c =
    λ ended calls is share. all_did_serve c.args.mount.now c.args.batch ended calls c.args.workers.now c.serve_each.new.workers c.serve_each.ensures.count c.serve_each.ensures.each is share

pub returns-clause-all : goal.returns-clause-all
returns-clause-all g c = λ calls share. all_did_all c.args.mount.now c.args.batch calls c.args.workers.now c.serve_each.new.workers c.serve_each.ensures.count c.serve_each.ensures.each share

use Rattle.std.proofs.Common.{refl}
use Rattle.nv_cache.proofs.WaysLaws.{load_fits, load_missed}
use Rattle.nv_cache.proofs.search.SearchMachine.load.Goals as goal

pub returns-clause-way : goal.returns-clause-way
returns-clause-way c room start now way =
    c.begins.ensures.way room start now (load_fits now.view.opened.sizes c.args.self way.fits) refl (load_missed c.args.self start now c.requires.over way)

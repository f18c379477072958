-- Where memory is wanting some are left.
use Rattle.std.proofs.Common.{arith}
use Rattle.nv_pages.proofs.StoreLaws.{on_err}
use Rattle.nv_load.proofs.StockLaws.{stock_some}
use Rattle.nv_load.proofs.stock.Stock.take.Goals as goal

pub returns-in_err-round-clause-memory : goal.returns-in_err-round-clause-memory
returns-in_err-round-clause-memory c =
    let stock = c.args.self.now in
    on_err c.from_residual.result _ (stock_some stock.threads stock.thread stock.words stock.left stock.line (let some = c.if-self-eq0.false in omega (arith, some)))

-- The next call is drawn, or a fill.
use Rattle.std.proofs.Common.{◌+◌, ◌-◌, ◌∷◌, sym, ap, ◌∙◌}
use Rattle.nv_load.proofs.StockLaws.{in_line, stock_drawn, stock_filled}
use Rattle.nv_load.specs.Stocks.{stock_list}
use Rattle.nv_load.proofs.stock.next_call.Goals as goal

pub returns-in_ok-call-in-None-clause-next : goal.returns-in_ok-call-in-None-clause-next
returns-in_ok-call-in-None-clause-next c = λ line.
    let threads = c.args.threads in
    let thread = c.args.thread in
    let left = c.args.left in
    let none = c.in-None.is in
    ap (λ words. stock_list threads thread words left line) none
    ∙ stock_filled threads thread left line c.in_ok-call-in-None.call c.requires.left (c.requires.fills none) c.in_ok-call-in-None.ensures
    ∙ ap (λ words. in_line line 0 thread c.in_ok-call-in-None.call ∷ stock_list threads thread words (left - 1) (line + 1)) (sym none)

pub returns-in_ok-call-in-Some-clause-next : goal.returns-in_ok-call-in-Some-clause-next
returns-in_ok-call-in-Some-clause-next c = λ line.
    let threads = c.args.threads in
    let thread = c.args.thread in
    let left = c.args.left in
    ap (λ words. stock_list threads thread words left line) c.in-Some.is
    ∙ stock_drawn threads thread left line c.in-Some.words c.draw_call.new.words c.in_ok-call-in-Some.call c.requires.left c.in_ok-call-in-Some.ensures.drawn c.in_ok-call-in-Some.ensures.after

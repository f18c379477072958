use Rattle.std.proofs.Common.{◌≡◌, ◌++◌, ◌+◌, ◌∷◌, [], List, drop, get_or, ap, ◌∙◌, sym}
use Rattle.std.proofs.lemmas.List.{drop_all, append-nil}
use Rattle.nv_look.specs.Rows.{row_start, row_end}
use Rattle.nv_look.specs.Texts.{hole_text, log_text, row_text}
use Rattle.nv_look.specs.declared.listing.Row.{Row}
use Rattle.nv_look.specs.declared.listing.Row.TheVariants.{Group}
use Rattle.nv_look.proofs.TextLemmas.{drop-or, goes_on}
use Rattle.nv_look.proofs.showing.push_log.Goals as goal

pub loop-row-preserved : goal.loop-row-preserved
loop-row-preserved c =
    let rows = c.args.rows.now in
    let i = c.loop-row.row-index in
    let row : Row = get_or rows i (Group 0 0 0 0 0) in
    let from = c.loop-row.from in
    let next : drop i rows ≡ row ∷ drop (i + 1) rows = drop-or rows i (Group 0 0 0 0 0) c.loop-row-test.true in
    let rest = log_text (row_end row) (drop (i + 1) rows) in
    let all = c.args.text.now.items ++ log_text c.args.tail rows in
    ap (λ e. c.push_row.new.text.items ++ log_text e (drop (i + 1) rows)) c.end-from.ensures
    ∙ goes_on c.push_hole.new.text.items (row_text row) rest all c.push_row.new.text.items c.in_ok-push_row.ensures
    (goes_on c.loop-row.text.items (hole_text from (row_start row)) (row_text row ++ rest) all c.push_hole.new.text.items
    (c.in_ok-push_hole.ensures ∙ ap (λ to. c.loop-row.text.items ++ hole_text from to) c.start.ensures)
    (ap (λ (these : List Row). c.loop-row.text.items ++ log_text from these) (sym next) ∙ c.loop-row.invariant))

pub returns : goal.returns
returns c =
    let done : drop c.loop-row.row-index c.args.rows.now ≡ [] = drop_all c.loop-row.row-index c.args.rows.now c.loop-row-test.false in
    let rest : log_text c.loop-row.from (drop c.loop-row.row-index c.args.rows.now) ≡ [] =
    ap (λ (rows : List Row). log_text c.loop-row.from rows) done in
    sym (append-nil c.loop-row.text.items) ∙ ap (λ l. c.loop-row.text.items ++ l) (sym rest) ∙ c.loop-row.invariant

use Rattle.std.proofs.Common.{List, ℕ, ◌++◌, ◌∙◌, ap}
use Rattle.std.specs.Prelude.{codes}
use Rattle.nv_top.specs.Shows.{count_text, load_text, summary_text}
use Rattle.nv_top.proofs.summary.summary_text_of.Goals as goal

pub returns : goal.returns
unfolding summary_text
returns c =
    let summary = c.args.summary in
    let behind : List ℕ → List ℕ → List ℕ = λ line text. text ++ line in
    c.in_ok-push_count-4.ensures
    ∙ ap (behind (count_text (codes "sum") summary.sum))
    (c.in_ok-push_count-3.ensures
    ∙ ap (behind (count_text (codes "read") summary.read))
    (c.in_ok-push_count-2.ensures
    ∙ ap (behind (count_text (codes "written") summary.written))
    (c.in_ok-push_count.ensures ∙ ap (behind (count_text (codes "placed") summary.placed)) (c.in_ok-push_load.ensures ∙ ap (behind (load_text c.args.load)) c.new-text.ensures.items))))

use Rattle.std.proofs.Common.{◌++◌, ◌∙◌, List, ap}
use Rattle.nv_look.specs.Texts.{walk_end_text, files_text, log_text, look_text, names_text, walk_region_text}
use Rattle.nv_look.specs.declared.listing.Row.{Row}
use Rattle.nv_look.proofs.TextLemmas.{five_pieces}
use Rattle.nv_look.proofs.showing.show.Goals as goal

pub returns : goal.returns
unfolding look_text
returns c =
    let head = c.args.head.now in
    let rows : List Row = c.args.listing.now in
    let files = c.args.files.now in
    c.from_vec.ensures
    ∙ five_pieces (walk_region_text head) (names_text 0 head.names) (log_text head.tail rows) (files_text head.names files) (walk_end_text rows)
    c.push_region.new.text.items c.push_names.new.text.items c.push_log.new.text.items c.push_files.new.text.items c.push_end.new.text.items
    (c.in_ok-push_region.ensures ∙ ap (λ t. t ++ walk_region_text head) c.new-text.ensures.items)
    (c.in_ok-push_names.ensures ∙ ap (λ names. c.push_region.new.text.items ++ names_text 0 names) c.as_slice.ensures)
    (c.in_ok-push_log.ensures ∙ ap (λ (these : List Row). c.push_names.new.text.items ++ log_text head.tail these) c.as_slice-rows.ensures.rows)
    (c.in_ok-push_files.ensures ∙ ap (λ names. c.push_log.new.text.items ++ files_text names files) c.as_slice-2.ensures)
    (c.in_ok-push_end.ensures ∙ ap (λ (these : List Row). c.push_files.new.text.items ++ walk_end_text these) c.as_slice-rows.ensures.rows)

use Rattle.nv_top.proofs.ShownLemmas.{shown_is_not_refused}
use Rattle.nv_top.proofs.UnrefusedLemmas.{region_allowed}
use Rattle.nv_top.proofs.laws.a_refused_region_shows_nothing.Goals as goal

pub returns : goal.returns
returns c =
    let good_so = c.images_stand_for_files.ensures.good in
    let read_so = c.a_header_has_one_answer.ensures.not_unread in
    record { shown = shown_is_not_refused good_so read_so; bad = λ parts why refused good. region_allowed read_so parts good.readable good.long good_so good.fits why refused }

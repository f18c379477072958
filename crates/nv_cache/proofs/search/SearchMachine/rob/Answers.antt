-- The victim and the page are two pages of the mount, and each is owned once.
use Rattle.std.proofs.Common.{◌≡◌, ◌<◌, ap, subst, ◌∙◌}
use Rattle.nv_core.specs.state.Passes.{times}
use Rattle.nv_core.specs.state.Words.{PAGE, page_total}
use Rattle.nv_table.specs.state.Opened.{Opened}
use Rattle.nv_table.specs.state.Views.{slot_times}
use Rattle.nv_pages.specs.PageWork.{page_slot}
use Rattle.nv_mirror.specs.Controls.{MirroredControl}
use Rattle.nv_cache.specs.Searches.{FitsAt, search_owned_at}
use Rattle.nv_cache.proofs.SearchFacts.{page_low, page_once_still, slot_once, victim_apart, victim_once}
use Rattle.nv_cache.proofs.search.SearchMachine.rob.Goals as goal

pub move_buffer-requires-clause-page : goal.move_buffer-requires-clause-page
move_buffer-requires-clause-page g c =
    let m = c.args.self in
    subst (λ (o : Opened). m.page < page_total o.sizes) c.requires.board.same_mount (page_low c.args.pass.now.view.opened.sizes m c.requires.way.1.fits)

pub move_buffer-requires-clause-apart : goal.move_buffer-requires-clause-apart
move_buffer-requires-clause-apart g c =
    let m = c.args.self in
    let sizes = c.args.pass.now.view.opened.sizes in
    let fits = c.requires.way.1.fits in
    victim_apart sizes m fits c.in-GiveVictim.victim (subst (FitsAt sizes m) c.in-GiveVictim.is fits.stands).1

pub move_buffer-requires-clause-owns_slots_victim : goal.move_buffer-requires-clause-owns_slots_victim
move_buffer-requires-clause-owns_slots_victim g c =
    let m = c.args.self in
    let pass = c.args.pass.now in
    let sizes = pass.view.opened.sizes in
    let way = c.requires.way.1 in
    let victim = c.in-GiveVictim.victim in
    let at = (subst (FitsAt sizes m) c.in-GiveVictim.is way.fits.stands).1 in
    subst (λ (o : Opened). slot_times (page_slot o.sizes victim) pass.now ≡ 1) c.requires.board.same_mount
    (slot_once pass victim way.called.still way.called.left at.0
    (ap (λ (s : MirroredControl). times (PAGE victim) s.owned) way.called.mirrors ∙ ap (λ control. times (PAGE victim) (search_owned_at m control)) c.in-GiveVictim.is ∙ victim_once sizes m way.fits victim at))

pub move_buffer-requires-clause-owns_slots_page : goal.move_buffer-requires-clause-owns_slots_page
move_buffer-requires-clause-owns_slots_page g c =
    let m = c.args.self in
    let pass = c.args.pass.now in
    let sizes = pass.view.opened.sizes in
    let way = c.requires.way.1 in
    let at = (subst (FitsAt sizes m) c.in-GiveVictim.is way.fits.stands).1 in
    subst (λ (o : Opened). slot_times (page_slot o.sizes m.page) pass.now ≡ 1) c.requires.board.same_mount
    (slot_once pass m.page way.called.still way.called.left (page_low sizes m way.fits)
    (ap (λ (s : MirroredControl). times (PAGE m.page) s.owned) way.called.mirrors ∙ ap (λ control. times (PAGE m.page) (search_owned_at m control)) c.in-GiveVictim.is ∙ page_once_still sizes m way.fits c.in-GiveVictim.victim at))

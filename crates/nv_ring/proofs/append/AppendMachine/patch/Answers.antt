-- The piece lies in one page, and the buffer has room for a page.
use Rattle.std.proofs.Common.{◌≡◌, ◌+◌, ◌<◌, sym, ap, subst, ◌∙◌, arith}
use Rattle.std.specs.Prelude.{length, Some}
use Rattle.nv_plain.specs.Pieces.{pages_touched}
use Rattle.nv_core.specs.state.Passes.{IsOneOf}
use Rattle.nv_core.specs.state.Values.{ABuffer}
use Rattle.nv_core.specs.state.Words.{Sizes, page_total}
use Rattle.nv_table.specs.state.Keys.{sizes_of}
use Rattle.nv_table.specs.state.Opened.{Opened}
use Rattle.nv_pages.specs.PageWork.{page_slot}
use Rattle.nv_ring.proofs.PledgeLaws.{own_page, piece_room, laid_so}
use Rattle.nv_ring.proofs.append.AppendMachine.patch.Goals as goal

pub patch_page-requires-clause-page : goal.patch_page-requires-clause-page
patch_page-requires-clause-page g c =
    let m = c.args.self in
    subst (λ (o : Opened). m.page + c.args.done < page_total o.sizes) c.requires.board.same_mount (own_page c.args.pass.now.view.opened.sizes m c.args.done c.requires.fits c.requires.own)

pub patch_page-requires-clause-room : goal.patch_page-requires-clause-room
patch_page-requires-clause-room g c buffer one =
    let m = c.args.self in
    let layout = c.layout-layout.result in
    let piece = c.cut-piece.result in
    let pages = c.requires.fits.pages in let own = c.requires.own in let least = layout.limits.least_page in
    let same : sizes_of layout ≡ c.args.pass.now.view.opened.sizes = c.layout-layout.ensures ∙ ap (λ (o : Opened). o.sizes) (sym c.requires.board.same_mount) in
    let page : layout.page ≡ c.args.pass.now.view.opened.sizes.page = ap (λ (s : Sizes). s.page) same in
    let room = c.requires.room buffer (subst (λ (o : Opened). IsOneOf c.args.pass.now.now (page_slot o.sizes (m.page + c.args.done), ABuffer (Some buffer))) (sym c.requires.board.same_mount) one) in
    let within = piece_room m.bytes.now m.at layout.page c.args.done piece.at piece.from piece.size (omega (arith, least)) c.requires.fits.some
    (subst (λ n. c.args.done < n) (pages ∙ ap (λ p. pages_touched m.at (length m.bytes.now) p) (sym page)) own)
    c.cut-piece.ensures.at c.cut-piece.ensures.size in
    omega (arith, within, room, page)

pub returns : goal.returns
returns g c =
    let m = c.args.self in
    let same = c.layout-layout.ensures ∙ ap (λ (o : Opened). o.sizes) (sym c.requires.board.same_mount) in
    laid_so c.args.pass.now.view.opened.sizes m c.args.done c.requires.fits c.args.pass.now c.patch_page.new.pass c.layout-layout.result.page c.cut-piece.result.at c.cut-piece.result.from c.cut-piece.result.size
    (ap (λ (s : Sizes). s.page) same) c.cut-piece.ensures.at c.cut-piece.ensures.from c.cut-piece.ensures.size c.patch_page.ensures

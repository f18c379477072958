-- The page's bytes are in the room, and come behind those that are in the list.
use Rattle.std.proofs.Common.{◌≡◌, ◌+◌, ◌%◌, ◌≤◌, ◌++◌, take, sym, ap, subst, ◌∙◌, arith}
use Rattle.nv_plain.specs.Files.{bytes_at}
use Rattle.nv_core.specs.state.Words.{Sizes}
use Rattle.nv_core.specs.state.Passes.{covered}
use Rattle.nv_table.specs.state.Keys.{sizes_of}
use Rattle.nv_mirror.specs.Visits.{Fits, IsUnderWay, page_piece, visit_call_of, visits_next}
use Rattle.nv_mirror.proofs.PieceReadLaws.{some_byte}
use Rattle.nv_mirror.proofs.VisitWays.{passed_on, piece_inside, piece_most}
use Rattle.nv_mirror.proofs.visit.VisitMachine.pass_page.Goals as goal

pub put_part-requires-clause-inside : goal.put_part-requires-clause-inside
put_part-requires-clause-inside c =
    let m = c.args.self in
    let sizes = c.requires.carries.0.view.opened.sizes in
    let same : sizes_of c.args.layout ≡ sizes = sym c.requires.carries.1 in
    let inside = piece_inside m c.args.room.now c.args.list.now c.requires.carries.0 c.requires.carries.2 (some_byte c.args.layout.limits same) in
    let at = c.part_of-from.ensures.at ∙ ap (λ (s : Sizes). (page_piece s (visit_call_of m) m.length m.page).at % s.page) same in
    let size = c.part_of-from.ensures.size ∙ ap (λ (s : Sizes). (page_piece s (visit_call_of m) m.length m.page).size) same in
    let room = c.requires.room ∙ ap (λ (s : Sizes). s.page) same in
    omega (arith, inside, at, size, room)

pub put_part-requires-clause-room : goal.put_part-requires-clause-room
put_part-requires-clause-room c =
    let m = c.args.self in
    let sizes = c.requires.carries.0.view.opened.sizes in
    let same : sizes_of c.args.layout ≡ sizes = sym c.requires.carries.1 in
    let most = piece_most m c.args.room.now c.args.list.now c.requires.carries.0 c.requires.carries.2 (some_byte c.args.layout.limits same) in
    let inside = subst (λ (s : Sizes). (page_piece s (visit_call_of m) m.length m.page).from + c.part_of-from.result.1 ≤ covered (visit_call_of m) m.length) same c.part_of-from.ensures.inside in
    let few : covered (visit_call_of m) m.length ≤ m.len = omega arith in
    let room = c.requires.carries.2.room in
    omega (arith, most, inside, few, room)

pub returns-clause-way : goal.returns-clause-way
returns-clause-way c load start now same_sizes is at way carries =
    let m = c.args.self in
    let sizes = now.view.opened.sizes in
    let same : sizes_of c.args.layout ≡ sizes = sym same_sizes in
    let begins = c.part_of-from.ensures.at ∙ ap (λ (s : Sizes). (page_piece s (visit_call_of m) m.length m.page).at % s.page) same in
    let size = c.part_of-from.ensures.size ∙ ap (λ (s : Sizes). (page_piece s (visit_call_of m) m.length m.page).size) same in
    subst (λ n. IsUnderWay (visits_next m n) c.put_part.new.list start now) (sym size)
    (passed_on m c.args.room.now c.args.list.now now carries (some_byte c.args.layout.limits same) start (subst (λ s. Fits s m) same c.requires.fits) load is at way (c.requires.room ∙ ap (λ (s : Sizes). s.page) same)
    c.put_part.new.list c.put_part.ensures.0 c.put_part.auto.list
    (c.put_part.ensures.1 ∙ ap (λ n. take m.copied c.args.list.now ++ (bytes_at c.args.room.now n c.part_of-from.result.1 ++ c.put_part.ensures.0)) begins
    ∙ ap (λ n. take m.copied c.args.list.now ++ (bytes_at c.args.room.now ((page_piece sizes (visit_call_of m) m.length m.page).at % sizes.page) n ++ c.put_part.ensures.0)) size))

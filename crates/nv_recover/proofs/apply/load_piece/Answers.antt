use Rattle.std.proofs.Common.{◌≡◌, ℕ, ◌+◌, ◌%◌, ◌<◌, ◌≤◌, List, [], length, map, slice_index_or, Option, Some, None, sym, subst, arith}
use Rattle.std.proofs.lemmas.List.{length-map, get_or-map}
use Rattle.std.specs.Prelude.{MatchOption}
use Rattle.nv_plain.specs.Images.{entry_of}
use Rattle.nv_pmem.specs.Moments.{Tells}
use Rattle.nv_pmem.specs.Steps.{PartHistory}
use Rattle.nv_pmem.proofs.ReadLaws.{only_read_one}
use Rattle.nv_entry.specs.declared.piece.PieceHead.{PieceHead}
use Rattle.nv_entry.specs.Reading.{head_of, IsFilled}
use Rattle.nv_entry.proofs.Slots.{slot_lines}
use Rattle.nv_recover.proofs.Pieces.{slot_piece, slot_too_long, lines_of_page}
use Rattle.nv_pmem.specs.Limits.{entry_lines}
use Rattle.nv_pmem.specs.Part.{part_word}
use Rattle.nv_recover.proofs.apply.load_piece.Goals as goal

pub load_fitting-requires : goal.load_fitting-requires
load_fitting-requires g c =
    let bounds = c.args.bounds.now in
    let below : c.args.number % bounds.entries < bounds.entries = omega arith in
    let inside : 1 + c.args.number % bounds.entries < length c.args.parts.now = omega arith in
    let page = lines_of_page bounds.page bounds.page_in_limits in
    let enough = slot_lines g.L.Lines.room (entry_lines bounds.page) bounds.entries c.args.parts.now (c.args.number % bounds.entries) c.index-parts-slot.result below inside c.requires.lines in
    record { lines = omega (arith, page, enough, c.requires.page) }

pub returns-in_err-head-clause-read : goal.returns-in_err-head-clause-read
returns-in_err-head-clause-read g c =
    only_read_one g.L.Lines.history g.L.Lines.room g.L.Lines.device c.args.parts.now (1 + c.args.number % c.args.bounds.now.entries) c.load_fitting.new.part
    c.index-parts-slot.result (omega arith) c.load_fitting.ensures.history c.load_fitting.ensures.room c.load_fitting.ensures.device

pub returns-in-Some-clause-read : goal.returns-in-Some-clause-read
returns-in-Some-clause-read g c =
    only_read_one g.L.Lines.history g.L.Lines.room g.L.Lines.device c.args.parts.now (1 + c.args.number % c.args.bounds.now.entries) c.load_fitting.new.part
    c.index-parts-slot.result (omega arith) c.load_fitting.ensures.history c.load_fitting.ensures.room c.load_fitting.ensures.device

pub returns-in-None-clause-read : goal.returns-in-None-clause-read
returns-in-None-clause-read g c =
    only_read_one g.L.Lines.history g.L.Lines.room g.L.Lines.device c.args.parts.now (1 + c.args.number % c.args.bounds.now.entries) c.load_fitting.new.part
    c.index-parts-slot.result (omega arith) c.load_fitting.ensures.history c.load_fitting.ensures.room c.load_fitting.ensures.device

pub returns-in-Some-clause-piece : goal.returns-in-Some-clause-piece
returns-in-Some-clause-piece g c =
    let row : List PartHistory = map g.L.Lines.history c.args.parts.now in
    let slot = 1 + c.args.number % c.args.bounds.now.entries in
    let head = c.in-Some.head in
    let inside : slot < length c.args.parts.now = omega arith in
    let Said : Option PieceHead → PartHistory → Type 0 = λ found history. Tells history (λ now. MatchOption found
    (length c.args.page.now < (entry_of (part_word now)).size)
    (λ head. (head ≡ head_of now) × IsFilled now head.size c.args.page.now c.load_fitting.new.page)) in
    let Short : Option PieceHead → Type 0 = λ found. MatchOption found (Unit {0}) (λ head. head.size ≤ length c.args.page.now) in
    slot_piece row c.args.bounds.now c.args.number (omega (arith, length-map c.args.parts.now g.L.Lines.history)) c.requires.header head c.args.page.now c.load_fitting.new.page
    c.load_fitting.auto.page (subst Short c.in-Some.is c.in_ok-head.ensures.size)
    (subst (Said (Some head)) (sym (get_or-map g.L.Lines.history c.args.parts.now slot c.index-parts-slot.result [] inside))
    (subst (λ (found : Option PieceHead). Said found (g.L.Lines.history (slice_index_or c.args.parts.now slot c.index-parts-slot.result))) c.in-Some.is c.in_ok-head.ensures.piece))

pub returns-in-None-clause-bad : goal.returns-in-None-clause-bad
returns-in-None-clause-bad g c = λ other is.
    let row : List PartHistory = map g.L.Lines.history c.args.parts.now in
    let slot = 1 + c.args.number % c.args.bounds.now.entries in
    let inside : slot < length c.args.parts.now = omega arith in
    let Said : Option PieceHead → PartHistory → Type 0 = λ found history. Tells history (λ now. MatchOption found
    (length c.args.page.now < (entry_of (part_word now)).size)
    (λ head. (head ≡ head_of now) × IsFilled now head.size c.args.page.now c.load_fitting.new.page)) in
    let Long : ℕ → Type 0 = λ limit. Tells (slice_index_or row slot []) (λ now. limit < (entry_of (part_word now)).size) in
    slot_too_long row c.args.bounds.now c.args.number (omega (arith, length-map c.args.parts.now g.L.Lines.history)) c.requires.header
    c.args.bounds.now.page c.requires.size
    (subst Long c.requires.page
    (subst (Said None) (sym (get_or-map g.L.Lines.history c.args.parts.now slot c.index-parts-slot.result [] inside))
    (subst (λ (found : Option PieceHead). Said found (g.L.Lines.history (slice_index_or c.args.parts.now slot c.index-parts-slot.result))) c.in-None.is c.in_ok-head.ensures.piece)))

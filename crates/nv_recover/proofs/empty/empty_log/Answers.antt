use Rattle.std.proofs.Common.{◌<◌, ◌≤◌, List, length, get_or, map, slice_set, refl, arith}
use Rattle.std.proofs.lemmas.Result.{on_ok_weaker}
use Rattle.nv_plain.specs.Layouts.{layout_of}
use Rattle.nv_pmem.specs.Rows.{InEachRowImage, row_words}
use Rattle.nv_pmem.specs.Steps.{PartHistory}
use Rattle.nv_header.proofs.InRow.{has_parts_set, stays_settled}
use Rattle.nv_recover.specs.Alike.{SayTheSame}
use Rattle.nv_recover.proofs.EmptyParts.{MayBeMoved, moved_moments, stored_tail}
use Rattle.nv_recover.proofs.EmptyRows.{devices_tell}
use Rattle.nv_recover.proofs.MoveRows.{can_after, moving_throughout, rest_rows, same_then, same_alone}
use Rattle.nv_recover.proofs.RoomLaws.{parts_count, parts_set, parts_stay, tail_line}
use Rattle.nv_recover.proofs.RowMoments.{rows_last}
use Rattle.nv_recover.proofs.Present.{both_moments, some_tells, on_both}
use Rattle.nv_recover.proofs.empty.empty_log.Goals as goal

pub returns-in_err-clear_words-clause-moments : goal.returns-in_err-clear_words-clause-moments
returns-in_err-clear_words-clause-moments g c names reads =
    same_alone c.args.bounds.now.version c.args.bounds.now.page c.args.bounds.now.entries names c.args.next (map g.L.Lines.history c.args.parts.now) (map g.L.Lines.history c.clear_words.new.parts)
    c.clear_words.ensures.moments

pub move_tail-requires-clause-lines : goal.move_tail-requires-clause-lines
move_tail-requires-clause-lines g c =
    (tail_line g.L.Lines.room c.args.bounds.now.page c.args.bounds.now.entries c.args.bounds.now.version c.clear_words.new.parts c.index-parts-0.result c.in_ok-clear_words.ensures.parts).0

pub move_tail-requires-clause-spare : goal.move_tail-requires-clause-spare
move_tail-requires-clause-spare g c =
    (tail_line g.L.Lines.room c.args.bounds.now.page c.args.bounds.now.entries c.args.bounds.now.version c.clear_words.new.parts c.index-parts-0.result c.in_ok-clear_words.ensures.parts).1

pub returns-clause-moments : goal.returns-clause-moments
returns-clause-moments g c names reads =
    let bounds = c.args.bounds.now in
    let parts = c.clear_words.new.parts in
    let cleared = c.in_ok-clear_words.ensures in
    let inside : 1 ≤ length parts = omega (arith, parts_count g.L.Lines.room bounds.page bounds.entries parts cleared.parts) in
    let was = get_or parts 0 c.index-parts-0.result in
    let old : List PartHistory = map g.L.Lines.history c.args.parts.now in
    let between : List PartHistory = map g.L.Lines.history parts in
    let same = rows_last old between (λ was. InEachRowImage (SayTheSame (row_words was))) cleared.moments in
    same_then bounds.version bounds.page bounds.entries names c.args.next old between (map g.L.Lines.history (slice_set parts 0 c.move_tail.new.header)) cleared.tells.0 cleared.moments
    (moving_throughout g.L.Lines.history bounds.version bounds.page bounds.entries names bounds.tail c.args.next parts was c.move_tail.new.header c.index-parts-0.result inside
    refl c.requires.from_tail c.requires.number
    (can_after bounds.version bounds.page bounds.entries names bounds.tail c.args.next old between cleared.tells.1 same cleared.quiet cleared.cleared c.requires.none reads)
    (moved_moments c.args.next (g.L.Lines.history was) (g.L.Lines.history c.move_tail.new.header) c.move_tail.ensures.moments))

pub returns-clause-tells : goal.returns-clause-tells
returns-clause-tells g c =
    let parts = c.clear_words.new.parts in
    let inside : 0 < length parts = omega (arith, parts_count g.L.Lines.room c.args.bounds.now.page c.args.bounds.now.entries parts c.in_ok-clear_words.ensures.parts) in
    let before = c.in_ok-clear_words.ensures.tells in
    let more = devices_tell g.L.Lines.history parts 0 (get_or parts 0 c.index-parts-0.result) c.move_tail.new.header c.index-parts-0.result inside refl
    (some_tells c.move_tail.ensures.begun) in
    (λ all. more.0 (before.0 all), λ all. before.1 (more.1 all))

pub returns-clause-rest : goal.returns-clause-rest
returns-clause-rest g c =
    let bounds = c.args.bounds.now in
    let parts = c.clear_words.new.parts in
    let d = c.index-parts-0.result in
    let new = c.move_tail.new.header in
    let cleared = c.in_ok-clear_words.ensures in
    let inside : 0 < length parts = omega (arith, parts_count g.L.Lines.room bounds.page bounds.entries parts cleared.parts) in
    let was = get_or parts 0 d in
    let old : List PartHistory = map g.L.Lines.history c.args.parts.now in
    let between : List PartHistory = map g.L.Lines.history parts in
    let more = devices_tell g.L.Lines.history parts 0 was new d inside refl (some_tells c.move_tail.ensures.begun) in
    let same = rows_last old between (λ was. InEachRowImage (SayTheSame (row_words was))) cleared.moments in
    on_both c.move_tail.result
    (λ moved quiet names reads.
    rest_rows g.L.Lines.history bounds.version bounds.page bounds.entries names bounds.tail c.args.next parts was new d inside refl c.requires.from_tail c.requires.number more.1
    (can_after bounds.version bounds.page bounds.entries names bounds.tail c.args.next old between cleared.tells.1 same cleared.quiet cleared.cleared c.requires.none reads)
    (both_moments (g.L.Lines.history was) (g.L.Lines.history new) (MayBeMoved c.args.next)
    (moved_moments c.args.next (g.L.Lines.history was) (g.L.Lines.history new) c.move_tail.ensures.moments))
    (stored_tail c.args.next (g.L.Lines.history was) (g.L.Lines.history new) moved quiet))
    c.move_tail.ensures.moved c.move_tail.ensures.quiet

pub returns-clause-parts : goal.returns-clause-parts
returns-clause-parts g c =
    let bounds = c.args.bounds.now in
    let parts = c.clear_words.new.parts in
    let d = c.index-parts-0.result in
    let inside : 0 < length parts = omega (arith, parts_count g.L.Lines.room bounds.page bounds.entries parts c.in_ok-clear_words.ensures.parts) in
    on_ok_weaker c.move_tail.result
    (λ settled. has_parts_set g.L.Lines.room (layout_of bounds.version) bounds.page bounds.entries parts 0 (get_or parts 0 d) c.move_tail.new.header d inside refl
    (stays_settled 1 1 c.move_tail.ensures.room settled) c.in_ok-clear_words.ensures.parts)
    c.move_tail.ensures.settled

pub returns-clause-rooms : goal.returns-clause-rooms
returns-clause-rooms g c =
    let bounds = c.args.bounds.now in
    let parts = c.clear_words.new.parts in
    let d = c.index-parts-0.result in
    let inside : 0 < length parts = omega (arith, parts_count g.L.Lines.room bounds.page bounds.entries parts c.in_ok-clear_words.ensures.parts) in
    on_ok_weaker c.move_tail.result
    (λ settled. parts_stay c.in_ok-clear_words.ensures.rooms
    (parts_set g.L.Lines.room parts 0 (get_or parts 0 d) c.move_tail.new.header d inside refl (stays_settled 1 1 c.move_tail.ensures.room settled)))
    c.move_tail.ensures.settled

use Rattle.std.proofs.Common.{◌≡◌, ◌+◌, List, length, get_or, map, refl, ◌∙◌, subst, arith}
use Rattle.std.proofs.Math.Seq.{map-set_same}
use Rattle.std.proofs.lemmas.List.{length-map}
use Rattle.nv_plain.specs.Layouts.{layout_of}
use Rattle.nv_pmem.specs.Rows.{InEachRowImage, row_words}
use Rattle.nv_pmem.specs.Steps.{PartHistory}
use Rattle.nv_pmem.proofs.OneOfRow.{same_sum_in_row}
use Rattle.nv_header.proofs.InRow.{has_parts_set}
use Rattle.nv_recover.specs.Alike.{SayTheSame}
use Rattle.nv_recover.specs.Emptying.{MayBeTrimmed}
use Rattle.nv_recover.proofs.EmptyRows.{AreClearedTo, cleared_none, clearing_throughout, devices_tell, devices_more, cleared_rows, further_same, small_rows, rows_same, rows_quiet, rows_none_above}
use Rattle.nv_recover.proofs.RoomLaws.{entry_inside, entry_line, parts_set, parts_stay}
use Rattle.nv_recover.proofs.RowMoments.{rows_still}
use Rattle.nv_recover.proofs.Present.{both_moments}
use Rattle.nv_recover.proofs.empty.clear_words.Goals as goal

pub loop-entry-init : goal.loop-entry-init
loop-entry-init g c = record {
  done = cleared_none (c.args.bounds.now.tail + c.args.bounds.now.entries) (map g.L.Lines.history c.args.parts.now);
  moments =
      let row : List PartHistory = map g.L.Lines.history c.args.parts.now in
      let most = c.args.bounds.now.tail + c.args.bounds.now.entries in
      rows_still row (λ was. InEachRowImage (SayTheSame (row_words was)))
      (rows_same c.args.bounds.now (length row) row row c.requires.quiet c.requires.header (cleared_rows most 0 (length row) row row (cleared_none most row) refl));
  parts = c.requires.parts;
  rooms = λ layout page entries has. has;
  further = refl;
  lines = refl;
  cause = refl;
  devices = refl;
}

pub clear_word-requires-clause-line : goal.clear_word-requires-clause-line
clear_word-requires-clause-line g c =
    (entry_line g.L.Lines.room c.args.bounds.now.page c.args.bounds.now.entries c.args.bounds.now.version c.loop-entry.parts c.loop-entry.entry c.index-parts-entry.result
    c.loop-entry.invariant.parts (omega arith)).0

pub clear_word-requires-clause-spare : goal.clear_word-requires-clause-spare
clear_word-requires-clause-spare g c =
    (entry_line g.L.Lines.room c.args.bounds.now.page c.args.bounds.now.entries c.args.bounds.now.version c.loop-entry.parts c.loop-entry.entry c.index-parts-entry.result
    c.loop-entry.invariant.parts (omega arith)).1

pub returns-in_err-clear_word-clause-moments : goal.returns-in_err-clear_word-clause-moments
returns-in_err-clear_word-clause-moments g c =
    let inside = entry_inside g.L.Lines.room c.args.bounds.now.page c.args.bounds.now.entries c.loop-entry.parts c.loop-entry.entry c.loop-entry.invariant.parts (omega arith) in
    clearing_throughout g.L.Lines.history c.args.bounds.now c.loop-entry.entry (map g.L.Lines.history c.args.parts.now) c.loop-entry.parts
    (get_or c.loop-entry.parts (1 + c.loop-entry.entry) c.index-parts-entry.result) c.clear_word.new.part c.index-parts-entry.result
    c.requires.quiet c.requires.header c.loop-entry.invariant.done inside refl c.clear_word.ensures.moments c.loop-entry.invariant.moments

pub returns-in_err-clear_word-clause-further : goal.returns-in_err-clear_word-clause-further
returns-in_err-clear_word-clause-further g c =
    further_same g.L.Lines.history c.loop-entry.parts (1 + c.loop-entry.entry) (1 + c.args.bounds.now.entries) c.clear_word.new.part (omega arith)
    ∙ c.loop-entry.invariant.further

pub returns-in_err-clear_word-clause-lines : goal.returns-in_err-clear_word-clause-lines
returns-in_err-clear_word-clause-lines g c =
    map-set_same (λ part. (g.L.Lines.room part).lines) c.loop-entry.parts (1 + c.loop-entry.entry) c.clear_word.new.part c.index-parts-entry.result c.clear_word.ensures.lines
    ∙ c.loop-entry.invariant.lines

pub returns-in_err-clear_word-clause-devices : goal.returns-in_err-clear_word-clause-devices
returns-in_err-clear_word-clause-devices g c =
    map-set_same g.L.Lines.device c.loop-entry.parts (1 + c.loop-entry.entry) c.clear_word.new.part c.index-parts-entry.result c.clear_word.ensures.device
    ∙ c.loop-entry.invariant.devices

pub returns-in_err-clear_word-clause-tells : goal.returns-in_err-clear_word-clause-tells
returns-in_err-clear_word-clause-tells g c =
    let inside = entry_inside g.L.Lines.room c.args.bounds.now.page c.args.bounds.now.entries c.loop-entry.parts c.loop-entry.entry c.loop-entry.invariant.parts (omega arith) in
    let more = devices_tell g.L.Lines.history c.loop-entry.parts (1 + c.loop-entry.entry) _ c.clear_word.new.part c.index-parts-entry.result inside refl c.clear_word.ensures.tells in
    let before = c.loop-entry.invariant.done.tells in
    (λ all. more.0 (before.0 all), λ all. before.1 (more.1 all))

pub loop-entry-preserved : goal.loop-entry-preserved
loop-entry-preserved g c =
    let i = 1 + c.loop-entry.entry in
    let most = c.args.bounds.now.tail + c.args.bounds.now.entries in
    let parts = c.loop-entry.parts in
    let d = c.index-parts-entry.result in
    let was = get_or parts i d in
    let new = c.clear_word.new.part in
    let old : List PartHistory = map g.L.Lines.history c.args.parts.now in
    let inside = entry_inside g.L.Lines.room c.args.bounds.now.page c.args.bounds.now.entries parts c.loop-entry.entry c.loop-entry.invariant.parts (omega arith) in
    record {
      done =
          devices_more g.L.Lines.history most c.loop-entry.entry old parts was new d c.loop-entry.invariant.done inside refl
          (both_moments (g.L.Lines.history was) (g.L.Lines.history new) (MayBeTrimmed most) c.clear_word.ensures.moments)
          c.in_ok-clear_word.ensures.cleared c.clear_word.ensures.tells;
      moments =
          clearing_throughout g.L.Lines.history c.args.bounds.now c.loop-entry.entry old parts was new d c.requires.quiet c.requires.header
          c.loop-entry.invariant.done inside refl c.clear_word.ensures.moments c.loop-entry.invariant.moments;
      parts =
          has_parts_set g.L.Lines.room (layout_of c.args.bounds.now.version) c.args.bounds.now.page c.args.bounds.now.entries parts i was new d inside refl
          c.in_ok-clear_word.ensures.room c.loop-entry.invariant.parts;
      rooms =
          parts_stay c.loop-entry.invariant.rooms
          (parts_set g.L.Lines.room parts i was new d inside refl c.in_ok-clear_word.ensures.room);
      further = further_same g.L.Lines.history parts i (1 + c.args.bounds.now.entries) new (omega arith) ∙ c.loop-entry.invariant.further;
      lines = map-set_same (λ part. (g.L.Lines.room part).lines) parts i new d c.clear_word.ensures.lines ∙ c.loop-entry.invariant.lines;
      cause = same_sum_in_row g.L.Lines.fault_count parts i was new d inside refl c.in_ok-clear_word.ensures.cause ∙ c.loop-entry.invariant.cause;
      devices = map-set_same g.L.Lines.device parts i new d c.clear_word.ensures.device ∙ c.loop-entry.invariant.devices;
    }

pub returns-clause-cleared : goal.returns-clause-cleared
returns-clause-cleared g c =
    let bounds = c.args.bounds.now in
    let old : List PartHistory = map g.L.Lines.history c.args.parts.now in
    let new : List PartHistory = map g.L.Lines.history c.loop-entry.parts in
    let At : _ → Type 0 = λ count. AreClearedTo (bounds.tail + bounds.entries) count old new in
    let count : c.loop-entry.entry ≡ bounds.entries = omega arith in
    rows_none_above bounds (length old) old new
    (omega (arith, c.requires.parts.count, length-map c.args.parts.now g.L.Lines.history, length-map c.args.parts.now g.L.Lines.room))
    c.loop-entry.invariant.done.tells.1 c.requires.quiet c.requires.header
    (small_rows (bounds.tail + bounds.entries) bounds.entries old new (subst At count c.loop-entry.invariant.done))

pub returns-clause-quiet : goal.returns-clause-quiet
returns-clause-quiet g c =
    let bounds = c.args.bounds.now in
    let old : List PartHistory = map g.L.Lines.history c.args.parts.now in
    let new : List PartHistory = map g.L.Lines.history c.loop-entry.parts in
    let At : _ → Type 0 = λ count. AreClearedTo (bounds.tail + bounds.entries) count old new in
    let count : c.loop-entry.entry ≡ bounds.entries = omega arith in
    rows_quiet (bounds.tail + bounds.entries) bounds.entries (length old) old new c.loop-entry.invariant.done.tells.1 c.requires.quiet
    (small_rows (bounds.tail + bounds.entries) bounds.entries old new (subst At count c.loop-entry.invariant.done))

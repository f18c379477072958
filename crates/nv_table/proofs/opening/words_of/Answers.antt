use Rattle.std.proofs.Common.{◌+◌, refl, subst, arith}
use Rattle.nv_core.specs.state.Words.{first_page_word}
use Rattle.nv_table.specs.state.Keys.{sizes_of}
use Rattle.nv_table.proofs.ends.OpeningWordLaws.{AreFirst, file_first, entry_first, hint_first, page_first, all_first}
use Rattle.nv_table.proofs.opening.words_of.Goals as goal

pub loop-length-preserved : goal.loop-length-preserved
loop-length-preserved c =
    file_first (sizes_of c.args.layout) c.args.next c.args.lengths.now c.loop-length.length-index _ c.loop-length.words.items c.push.new.self.items c.push-in-loop-length.new.self.items
    c.push-in-loop-length-2.new.self.items (omega arith) c.loop-length.invariant refl c.in_ok-push.ensures.items c.in_ok-push-2.ensures.items c.in_ok-push-3.ensures.items

pub loop-entry-preserved : goal.loop-entry-preserved
loop-entry-preserved c =
    entry_first (sizes_of c.args.layout) c.args.next c.args.lengths.now c.loop-entry._entry c.loop-entry.words.items c.push-in-loop-entry.new.self.items
    (omega arith) c.loop-entry.invariant c.in_ok-push-4.ensures.items

pub loop-buffer-preserved : goal.loop-buffer-preserved
loop-buffer-preserved c =
    hint_first (sizes_of c.args.layout) c.args.next c.args.lengths.now c.loop-buffer.buffer c.loop-buffer.words.items c.push-in-loop-buffer.new.self.items
    (omega arith) c.loop-buffer.invariant c.in_ok-push-5.ensures.items

pub loop-word-init : goal.loop-word-init
loop-word-init c =
    subst (λ many. AreFirst (sizes_of c.args.layout) c.args.next c.args.lengths.now many c.loop-buffer.words.items) (omega arith) c.loop-buffer.invariant

pub loop-word-preserved : goal.loop-word-preserved
loop-word-preserved c =
    page_first (sizes_of c.args.layout) c.args.next c.args.lengths.now c.loop-word._word c.loop-word.words.items c.push-in-loop-word.new.self.items
    c.loop-word.invariant c.in_ok-push-6.ensures.items

pub returns : goal.returns
returns c =
    all_first (sizes_of c.args.layout) c.args.next c.args.lengths.now (first_page_word (sizes_of c.args.layout) + c.loop-word._word) c.loop-word.words.items
    (omega arith) c.loop-word.invariant

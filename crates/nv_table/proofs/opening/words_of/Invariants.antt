use Rattle.std.proofs.Common.{◌+◌, ◌*◌}
use Rattle.nv_core.specs.state.Words.{first_page_word}
use Rattle.nv_table.specs.state.Keys.{sizes_of}
use Rattle.nv_table.proofs.ends.OpeningWordLaws.{AreFirst}
use Rattle.nv_table.proofs.opening.words_of.Given as goal

abbrev pub invariant-loop-length : goal.invariant-loop-length
invariant-loop-length l = AreFirst (sizes_of l.fn.layout) l.fn.next l.fn.lengths (7 + 3 * l.length-index) l.words.items

abbrev pub invariant-loop-entry : goal.invariant-loop-entry
invariant-loop-entry l = AreFirst (sizes_of l.fn.layout) l.fn.next l.fn.lengths (7 + 3 * l.fn.layout.files + l._entry) l.words.items

abbrev pub invariant-loop-buffer : goal.invariant-loop-buffer
invariant-loop-buffer l = AreFirst (sizes_of l.fn.layout) l.fn.next l.fn.lengths (7 + 3 * l.fn.layout.files + l.fn.layout.entries + l.buffer) l.words.items

abbrev pub invariant-loop-word : goal.invariant-loop-word
invariant-loop-word l = AreFirst (sizes_of l.fn.layout) l.fn.next l.fn.lengths (first_page_word (sizes_of l.fn.layout) + l._word) l.words.items

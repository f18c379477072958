use Rattle.std.proofs.Common.{◌≡◌, ℕ, ◌++◌, map, take, drop, ◌<◌, ◌≤◌, length, slice_set, ap, ◌∙◌, arith}
use Rattle.std.proofs.lemmas.List.{get_or_default}
use Rattle.std.proofs.lemmas.List.Edits.{map_over_more}
use Rattle.nv_pmem.specs.MemLine.{held_line}
use Rattle.nv_pmem.specs.Part.{Line, settled_word, word_of, fenced_word, fenced}
use Rattle.nv_pmem.proofs.HeldLines.{length-held, length-so_far, all_words, holds_unmarked, none_behind_fence}
use Rattle.nv_pmem.proofs.mem_line.MemLine.fence_words.Goals as goal

pub loop-at-preserved : goal.loop-at-preserved
loop-at-preserved c =
    let rows = c.self.inside in
    let words = held_line rows.oldest rows.counts rows.marks rows.later in
    let inside : c.loop-at.at < length words = omega (arith, c.loop-at-test.true, length-held rows.oldest rows.counts rows.marks rows.later) in
    let there : c.loop-at.at < length c.loop-at.self = omega (arith, inside, length-so_far fenced_word words c.loop-at.self c.loop-at.at c.loop-at.invariant) in
    c.put.ensures ∙ ap (slice_set c.loop-at.self c.loop-at.at) c.fence.ensures
    ∙ map_over_more fenced_word words c.loop-at.self c.loop-at.at c.word-word.result inside c.loop-at.invariant
    (c.word-word.ensures ∙ get_or_default c.loop-at.self c.loop-at.at (settled_word 0) c.word-word.result there)

-- the words after the loop
after_loop : (words now : Line) (at : ℕ) → length words ≡ 8 → 8 ≤ at → now ≡ map fenced_word (take at words) ++ drop at words → now ≡ map fenced_word words
after_loop words now at long over so_far = all_words fenced_word words now at so_far (omega arith)

pub invariant_of-self-2 : goal.invariant_of-self-2
invariant_of-self-2 c =
    let rows = c.self.inside in
    let now = c.self-2.inside in
    let words = held_line rows.oldest rows.counts rows.marks rows.later in
    let after = after_loop words c.loop-at.self c.loop-at.at (length-held rows.oldest rows.counts rows.marks rows.later) c.loop-at-test.false c.loop-at.invariant in
    holds_unmarked now.is_flushed now.is_behind now.newest now.oldest now.counts now.marks now.later c.self-2.invariant
    (λ k. ap (λ (line : Line). (word_of line k).flushed) (c.self-2.view_is ∙ after) ∙ none_behind_fence words k)

pub returns : goal.returns
unfolding fenced
returns c =
    let rows = c.self.inside in
    let words = held_line rows.oldest rows.counts rows.marks rows.later in
    c.self-2.view_is
    ∙ after_loop words c.loop-at.self c.loop-at.at (length-held rows.oldest rows.counts rows.marks rows.later) c.loop-at-test.false c.loop-at.invariant
    ∙ ap (map fenced_word) c.self.view_is

use Rattle.std.proofs.Common.{◌≡◌, ◌+◌, ◌<◌, ◌≤◌, length, ap, sym, subst, ◌∙◌, arith}
use Rattle.std.proofs.lemmas.List.{get_or_default}
use Rattle.nv_pmem.specs.Draws.{Draws}
use Rattle.nv_pmem.specs.MemLine.{held_line}
use Rattle.nv_pmem.specs.Part.{Word, Line, settled_word, word_of}
use Rattle.nv_pmem.specs.Picked.{picked_from, picked_line}
use Rattle.nv_pmem.proofs.HeldLines.{length-held, holds_unmarked, none_picked, picked_unnoted}
use Rattle.nv_pmem.proofs.PickedLaws.{PicksWords, words_none, words_more, words_all, length-words}
use Rattle.nv_pmem.proofs.mem_line.MemLine.lose_power.Goals as goal

pub loop-at-init : goal.loop-at-init
loop-at-init c = words_none c.args.picker.now (held_line c.self.inside.oldest c.self.inside.counts c.self.inside.marks c.self.inside.later)

pub put-requires-clause-unflushed : goal.put-requires-clause-unflushed
put-requires-clause-unflushed c =
    ap (λ (both : Word × Draws). both.0.flushed) c.lose_power.ensures ∙ picked_unnoted c.loop-at.picker c.loop-at.at c.word-word.result

pub loop-at-preserved : goal.loop-at-preserved
loop-at-preserved c =
    let rows = c.self.inside in
    let words = held_line rows.oldest rows.counts rows.marks rows.later in
    let inside : c.loop-at.at < length words = omega (arith, c.loop-at-test.true, length-held rows.oldest rows.counts rows.marks rows.later) in
    let there : c.loop-at.at < length c.loop-at.self = omega (arith, inside, length-words c.args.picker.now words c.loop-at.at c.loop-at.self c.loop-at.picker c.loop-at.invariant) in
    let Picks : Line → Type 0 = λ line. PicksWords c.args.picker.now words (c.loop-at.at + 1) line c.lose_power.new.picker in
    subst Picks (sym c.put.ensures) (
    words_more c.args.picker.now words c.loop-at.at c.loop-at.self c.loop-at.picker c.word-word.result c.lose_power.new.self c.lose_power.new.picker inside c.loop-at.invariant
    (c.word-word.ensures ∙ get_or_default c.loop-at.self c.loop-at.at (settled_word 0) c.word-word.result there)
    c.lose_power.ensures
    )

pub invariant_of-self-2 : goal.invariant_of-self-2
unfolding picked_line
invariant_of-self-2 c =
    let rows = c.self.inside in
    let now = c.self-2.inside in
    let words = held_line rows.oldest rows.counts rows.marks rows.later in
    let over : length words ≤ c.loop-at.at = omega (arith, c.loop-at-test.false, length-held rows.oldest rows.counts rows.marks rows.later) in
    let after : c.loop-at.self ≡ (picked_from c.args.picker.now 0 words).0 = ap (λ (both : Line × Draws). both.0) (words_all c.args.picker.now words c.loop-at.at c.loop-at.self c.loop-at.picker over c.loop-at.invariant) in
    holds_unmarked now.is_flushed now.is_behind now.newest now.oldest now.counts now.marks now.later c.self-2.invariant
    (λ k. ap (λ (line : Line). (word_of line k).flushed) (c.self-2.view_is ∙ after) ∙ none_picked c.args.picker.now 0 words k)

pub returns : goal.returns
returns c =
    let rows = c.self.inside in
    let words = held_line rows.oldest rows.counts rows.marks rows.later in
    let over : length words ≤ c.loop-at.at = omega (arith, c.loop-at-test.false, length-held rows.oldest rows.counts rows.marks rows.later) in
    ap (λ (line : Line). let both : Line × Draws = (line, c.loop-at.picker) in both) c.self-2.view_is
    ∙ words_all c.args.picker.now words c.loop-at.at c.loop-at.self c.loop-at.picker over c.loop-at.invariant
    ∙ ap (picked_line c.args.picker.now) c.self.view_is

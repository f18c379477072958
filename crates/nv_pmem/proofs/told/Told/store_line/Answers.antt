use Rattle.std.proofs.Common.{◌≡◌, ℕ, ◌+◌, ◌<◌, ◌≤◌, [], ◌∷◌, length, refl, sym, ap, subst, ◌∙◌, arith}
use Rattle.std.proofs.lemmas.List.FromFn.{map-range_with_len_more}
use Rattle.nv_pmem.specs.Part.{Part, word_of, line_of}
use Rattle.nv_pmem.specs.Room.{Takes}
use Rattle.nv_pmem.specs.Runs.{run, grown}
use Rattle.nv_pmem.specs.Steps.{LineStep, StoreWord, PartHistory, after_line_step, word_in, line_stores}
use Rattle.nv_pmem.specs.Told.{room_of}
use Rattle.nv_pmem.proofs.LineLaws.{length-after_steps}
use Rattle.nv_pmem.proofs.LineRooms.{front_stores, unstored_after, takes_front}
use Rattle.nv_pmem.proofs.Rooms.{most_at}
use Rattle.nv_pmem.proofs.StepLaws.{run-append}
use Rattle.nv_pmem.proofs.told.Told.store_line.Goals as goal

one_more : {S : Type 0} (after : LineStep → S → S) (line : ℕ) (value : ℕ → ℕ) (n : ℕ) (old now new : S) → now ≡ run after (front_stores line value n) old → new ≡ after (StoreWord line n (value n)) now
    → new ≡ run after (front_stores line value (n + 1)) old
unfolding run
one_more after line value n old now new so_far one =
    rw (map-range_with_len_more (λ word. StoreWord line word (value word)) 0 n n (omega arith), run-append after (front_stores line value n) (StoreWord line n (value n) ∷ []) old) cc

-- the present lines after a step
now_after : (step : LineStep) (now new : Part) (past rest : PartHistory) → new ∷ rest ≡ grown after_line_step step (now ∷ past) → new ≡ after_line_step step now
now_after step now new past rest is = cc

-- a word that isn't stored yet can take a value
spare_left : (line : ℕ) (value : ℕ → ℕ) (part now : Part) (word : ℕ) → line < length part → 1 ≤ (room_of part).spare line → now ≡ run after_line_step (front_stores line value word) part → length (word_of (line_of now line) word).later < 15
spare_left line value part now word inside spare is =
    let same = ap (λ (these : Part). length (word_of (line_of these line) word).later) is ∙ ap (λ one. length one.later) (unstored_after line value part inside word word (omega arith)) in
    omega (arith, same, spare, most_at (line_of part line) word)

pub loop-word-init : goal.loop-word-init
unfolding run
loop-word-init c = record { history = refl; now = refl }

pub store-requires-clause-line : goal.store-requires-clause-line
store-requires-clause-line c =
    omega (arith, c.requires.line, ap length c.loop-word.invariant.now, length-after_steps (front_stores c.args.line (word_in c.args.bytes.now) c.loop-word.word) c.args.self.now.lines.items)

pub store-requires-clause-spare : goal.store-requires-clause-spare
store-requires-clause-spare c =
    spare_left c.args.line (word_in c.args.bytes.now) c.args.self.now.lines.items c.loop-word.self.lines.items c.loop-word.word c.requires.line c.requires.spare c.loop-word.invariant.now

pub loop-word-preserved : goal.loop-word-preserved
loop-word-preserved c = record {
  history = one_more (grown after_line_step) c.args.line (word_in c.args.bytes.now) _ _ _ _ c.loop-word.invariant.history (rw (← c.word_of_bytes.ensures) c.store.ensures.history);
  now = one_more after_line_step c.args.line (word_in c.args.bytes.now) _ _ _ _ c.loop-word.invariant.now
      (rw (← c.word_of_bytes.ensures) (now_after (StoreWord c.args.line c.loop-word.word c.word_of_bytes.result) _ _ _ _ c.store.ensures.history));
}

pub returns : goal.returns
unfolding line_stores
returns c =
    let n : c.loop-word.word ≡ 8 = omega arith in
    let at_end = rw n at c.loop-word.invariant in
    let lines = c.args.self.now.lines.items in
    let To : Part → Type 0 = λ these. Takes 1 c.args.line (room_of lines) (room_of these) in
    record {
      history = at_end.history;
      room = subst To (sym at_end.now) (takes_front c.args.line (word_in c.args.bytes.now) lines c.requires.line 8);
    }

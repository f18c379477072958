-- The lines of lives in turn: how each is put behind those before it, and the text of all.
use Rattle.std.proofs.Common.{◌≡◌, ◌≤◌, ℕ, ◌+◌, Bool, true, List, [], ◌∷◌, ◌++◌, length, map, refl, sym, ap, subst, ◌∙◌, append_assoc, append-nil, arith}
use Rattle.std.specs.List.Sorted.{IsNonDecreasingBy, IsPermutation}
use Rattle.std.specs.Prelude.{codes, decimal}
use Rattle.std.proofs.lemmas.List.{length-append, length-map, map-append}
use Rattle.nv_trace.specs.Report.{call_fields, end_text, fate_text, history_text, line_text, open_text, reply_text, spaced}
use Rattle.nv_runner.specs.Histories.{PlacedCall}
use Rattle.nv_runner.specs.Reports.{OpenCall, Report, ShownRefusal, history_lines, refused_lines}
use Rattle.nv_top.specs.LifeLines.{AreByLine, AreKeptLives, AreLinesOf, HaveALineEach, IsTextOfLives, KeepALineEach, Numbered, line_kept, line_shown, texts_of}
use Rattle.nv_top.specs.Reports.{crash_text, ended_lines, file_lines, lives_text, open_in_lives, open_lines, placed_in_lives, refused_in_lives}
use Rattle.nv_top.specs.declared.life.LifeLines.{LifeLines}
use Rattle.nv_top.specs.declared.life.LivesShown.{LivesShown}
use Rattle.nv_top.proofs.FollowedLemmas.{falls_before, ordered}

-- ---- a line each

line_some : (words : List (List ℕ)) → 1 ≤ length (line_text words)
line_some words = omega (arith, length-append (spaced words) (10 ∷ []))

history_each : (place : ℕ) (history : List PlacedCall) → length history ≤ length (history_lines place history)
unfolding history_text
history_each place [] = omega arith
history_each place (first ∷ later) =
    let text = history_text place first.call.thread first.call.call first.reply in
    omega (arith, length-append text (history_lines (place + 1) later), line_some (decimal place ∷ decimal first.call.thread ∷ spaced (call_fields first.call.call) ∷ codes "=" ∷ reply_text first.reply ∷ []), history_each (place + 1) later)

open_each : (open_calls : List OpenCall) → length open_calls ≤ length (open_lines open_calls)
unfolding open_text
open_each [] = omega arith
open_each (first ∷ later) =
    let text = open_text first.call.thread first.call.call first.fate in
    omega (arith, length-append text (open_lines later), line_some (codes "open" ∷ decimal first.call.thread ∷ (spaced (call_fields first.call.call) ++ codes ":") ∷ fate_text first.fate ∷ []), open_each later)

-- a life's lines are as many as the calls that it counts
pub have_a_line_each : (place : ℕ) (last : Bool) (report : Report) (lines : LifeLines) → AreLinesOf place last report lines → HaveALineEach lines
have_a_line_each place last report lines are = record {
  placed = omega (arith, are.placed, ap length are.history, history_each place report.history);
  opened = omega (arith, are.opened, ap length are.open_calls, open_each report.open_calls);
}

-- and so they are behind those that are kept
pub keep_a_line_each : (kept more : LivesShown) (lines : LifeLines) → KeepALineEach kept → HaveALineEach lines → more.placed ≡ kept.placed + lines.placed → more.opened ≡ kept.opened + lines.opened
    → more.text.items ≡ kept.text.items ++ lines.history.items ++ lines.open_lines.items ++ crash_text → KeepALineEach more
keep_a_line_each kept more lines keep have placed opened text =
    let long : length more.text.items ≡ length kept.text.items + (length lines.history.items + (length lines.open_lines.items + length crash_text)) =
    ap length text
    ∙ length-append (kept.text.items ++ lines.history.items ++ lines.open_lines.items) crash_text
    ∙ ap (λ n. n + length crash_text) (length-append (kept.text.items ++ lines.history.items) lines.open_lines.items ∙ ap (λ n. n + length lines.open_lines.items) (length-append kept.text.items lines.history.items))
    ∙ omega arith in
    record { placed = omega (arith, long, placed, keep.placed, have.placed); opened = omega (arith, long, opened, keep.opened, have.opened) }

-- ---- one more life

placed_more : (ended : List Report) (life : Report) → placed_in_lives (ended ++ life ∷ []) ≡ placed_in_lives ended + length life.history
placed_more [] life = omega arith
placed_more (first ∷ ended) life = let rest = placed_more ended life in omega (arith, rest)

opened_more : (ended : List Report) (life : Report) → open_in_lives (ended ++ life ∷ []) ≡ open_in_lives ended + length life.open_calls
opened_more [] life = omega arith
opened_more (first ∷ ended) life = let rest = opened_more ended life in omega (arith, rest)

refused_more : (ended : List Report) (life : Report) → refused_in_lives (ended ++ life ∷ []) ≡ refused_in_lives ended ++ life.refused
refused_more [] life = append-nil life.refused
refused_more (first ∷ ended) life = ap (λ rest. first.refused ++ rest) (refused_more ended life) ∙ sym (append_assoc first.refused (refused_in_lives ended) life.refused)

lines_more : (place : ℕ) (ended : List Report) (life : Report)
    → ended_lines place (ended ++ life ∷ []) ≡ ended_lines place ended ++ history_lines (place + placed_in_lives ended) life.history ++ open_lines life.open_calls ++ crash_text
lines_more place [] life =
    append-nil (history_lines place life.history ++ open_lines life.open_calls ++ crash_text)
    ∙ ap (λ place. history_lines place life.history ++ open_lines life.open_calls ++ crash_text) (omega arith)
lines_more place (first ∷ ended) life =
    let before = history_lines place first.history ++ open_lines first.open_calls ++ crash_text in
    let next = place + length first.history in
    let rest = ended_lines next ended in
    let history = history_lines (next + placed_in_lives ended) life.history in
    let left = open_lines life.open_calls in
    ap (λ rest. before ++ rest) (lines_more next ended life)
    ∙ sym (append_assoc before (rest ++ history ++ left) crash_text)
    ∙ ap (λ text. text ++ crash_text) (sym (append_assoc before (rest ++ history) left) ∙ ap (λ text. text ++ left) (sym (append_assoc before rest history)))
    ∙ ap (λ place. before ++ rest ++ history_lines place life.history ++ left ++ crash_text) (omega arith)

pub kept_more : (kept more : LivesShown) (lines : LifeLines) (last : Bool) (ended : List Report) (life : Report) → AreKeptLives kept ended → AreLinesOf kept.placed last life lines
    → more.placed ≡ kept.placed + lines.placed → more.text.items ≡ kept.text.items ++ lines.history.items ++ lines.open_lines.items ++ crash_text
    → map line_kept more.refused.items ≡ map line_kept kept.refused.items ++ map line_kept lines.refused.items → more.opened ≡ kept.opened + lines.opened → AreKeptLives more (ended ++ life ∷ [])
kept_more kept more lines last ended life are of placed text refused opened =
    let shown = are.text in
    record {
      placed = let here = are.placed in let this = of.placed in let all = placed_more ended life in omega (arith, placed, here, this, all);
      text = text ∙ ap (λ before. before ++ lines.history.items ++ lines.open_lines.items ++ crash_text) are.text
          ∙ ap (λ here. ended_lines 0 ended ++ here ++ lines.open_lines.items ++ crash_text) of.history
          ∙ ap (λ left. ended_lines 0 ended ++ history_lines kept.placed life.history ++ left ++ crash_text) of.open_calls
          ∙ ap (λ place. ended_lines 0 ended ++ history_lines place life.history ++ open_lines life.open_calls ++ crash_text) (let here = are.placed in omega (arith, here))
          ∙ sym (lines_more 0 ended life);
      refused = refused ∙ ap (λ before. before ++ map line_kept lines.refused.items) are.refused ∙ ap (λ these. map line_shown (refused_in_lives ended) ++ these) of.refused
          ∙ sym (map-append line_shown (refused_in_lives ended) life.refused) ∙ ap (map line_shown) (sym (refused_more ended life));
      opened = let here = are.opened in let this = of.opened in let all = opened_more ended life in omega (arith, opened, here, this, all);
    }

-- ---- the text

texts_are : (refused : List ShownRefusal) → refused_lines refused ≡ texts_of (map line_shown refused)
texts_are [] = refl
texts_are (first ∷ rest) = ap (λ text. (line_shown first).text ++ text) (texts_are rest)

pub text_of_lives : (kept : LivesShown) (lines : LifeLines) (all sorted : List Numbered) (text : List ℕ) → all ≡ map line_kept kept.refused.items ++ map line_kept lines.refused.items → AreByLine all sorted
    → text ≡ kept.text.items ++ lines.history.items ++ texts_of sorted ++ lines.open_lines.items ++ lines.files.items ++ end_text (kept.placed + lines.placed) (length sorted) (kept.opened + lines.opened)
    → (ended : List Report) (last : Report) → AreKeptLives kept ended → AreLinesOf kept.placed true last lines → IsTextOfLives ended last text
unfolding lives_text
text_of_lives kept lines all sorted text all_is by text_is ended last are of =
    let these = refused_in_lives ended ++ last.refused in
    let here : all ≡ map line_shown these =
    all_is ∙ ap (λ before. before ++ map line_kept lines.refused.items) are.refused ∙ ap (λ more. map line_shown (refused_in_lives ended) ++ more) of.refused ∙ sym (map-append line_shown (refused_in_lives ended) last.refused) in
    let order = ordered line_shown these sorted (subst (λ l. IsPermutation l sorted) here by.all) in
    let refused = order.0 in
    let many : length sorted ≡ length refused = ap length order.2 ∙ length-map refused line_shown in
    let before = ended_lines 0 ended in
    let placed = placed_in_lives ended in
    let history = history_lines placed last.history in
    let said = refused_lines refused in
    let left = open_lines last.open_calls in
    record {
      refused = refused;
      all = order.1;
      by_line = falls_before line_shown (λ (line : Numbered). line.line) refused (subst (IsNonDecreasingBy (λ (line : Numbered). line.line)) order.2 by.by_line);
      text_is = text_is
          ∙ ap (λ t. t ++ lines.history.items ++ texts_of sorted ++ lines.open_lines.items ++ lines.files.items ++ end_text (kept.placed + lines.placed) (length sorted) (kept.opened + lines.opened)) are.text
          ∙ ap (λ t. before ++ t ++ texts_of sorted ++ lines.open_lines.items ++ lines.files.items ++ end_text (kept.placed + lines.placed) (length sorted) (kept.opened + lines.opened)) (of.history ∙ ap (λ place. history_lines place last.history) are.placed)
          ∙ ap (λ t. before ++ history ++ t ++ lines.open_lines.items ++ lines.files.items ++ end_text (kept.placed + lines.placed) (length sorted) (kept.opened + lines.opened)) (ap texts_of order.2 ∙ sym (texts_are refused))
          ∙ ap (λ t. before ++ history ++ said ++ t ++ lines.files.items ++ end_text (kept.placed + lines.placed) (length sorted) (kept.opened + lines.opened)) of.open_calls
          ∙ ap (λ t. before ++ history ++ said ++ left ++ t ++ end_text (kept.placed + lines.placed) (length sorted) (kept.opened + lines.opened)) (of.files refl)
          ∙ ap (λ n. before ++ history ++ said ++ left ++ file_lines last.files ++ end_text n (length sorted) (kept.opened + lines.opened)) (let a = are.placed in let b = of.placed in omega (arith, a, b))
          ∙ ap (λ n. before ++ history ++ said ++ left ++ file_lines last.files ++ end_text (placed + length last.history) n (kept.opened + lines.opened)) many
          ∙ ap (λ n. before ++ history ++ said ++ left ++ file_lines last.files ++ end_text (placed + length last.history) (length refused) n) (let a = are.opened in let b = of.opened in omega (arith, a, b));
    }

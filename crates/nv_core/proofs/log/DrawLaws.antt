-- Draws: what one leaves. One that is won raises HEAD by the entries of its write, which were free, and are a group of their own.
use Rattle.std.proofs.Common.{◌≡◌, ◌⊎◌, ℕ, ◌+◌, ◌<◌, ◌≤◌, ◌==◌, nat_le, nat_lt, Bool, true, false, if◌then◌else◌, inl, inr, refl, sym, ap, subst, ◌∙◌, arith}
use Rattle.std.proofs.lemmas.Bool.{cases_lt, leb-true, and_from, and_parts, le-leb, lt-ltb}
use Rattle.nv_core.specs.state.Words.{Sizes, HEAD, free}
use Rattle.nv_core.specs.state.Passes.{SeizeEntry, Pass, IsAmong, IsUnseized, is_write, page_count}
use Rattle.nv_core.specs.steps.Ops.{Draw}
use Rattle.nv_core.specs.steps.ControlSteps.{leaving}
use Rattle.nv_core.specs.steps.Order.{Values}
use Rattle.nv_core.specs.state.Core.{Core, changed_pass, after_step}
use Rattle.nv_core.proofs.steps.ByKind.{FoundEnabledByKind}
use Rattle.nv_core.specs.invariant.ControlFacts.{FactsAt, HasDrawn, IsSmall, LogHasRoom}
use Rattle.nv_core.specs.invariant.Ownership.{is_among}
use Rattle.nv_core.specs.invariant.LogWindow.{InWindow, HasUnseized, entry_word_at}
use Rattle.nv_core.specs.log.Groups.{Group, Log, group_of, with_group, log_stepped}
use Rattle.nv_core.specs.invariant.Sound.{Sound}
use Rattle.nv_core.proofs.state.Changes.{number_here, word_here}
use Rattle.nv_core.proofs.state.Choices.{if_both, when_true, when_false}
use Rattle.nv_core.proofs.state.PageLaws.{write_pages}
use Rattle.nv_core.proofs.invariant.KeepsWindow.{window_step}

-- the group that a pass draws from a number on
abbrev pub drawn_group : Sizes → Pass → (found : ℕ) → Group
drawn_group sizes pass found = record { call = pass.call; first = found; entries = page_count sizes pass.call }

among_true : (from end n : ℕ) → from ≤ n → n < end → is_among from end n ≡ true
among_true from end n low high = and_from (nat_le from n) (nat_lt n end) (le-leb from n low) (lt-ltb n end high)

among_below : (from end n : ℕ) → n < from → is_among from end n ≡ false
among_below from end n less = go (is_among from end n) refl
  where
    go : (b : Bool) → is_among from end n ≡ b → is_among from end n ≡ false
    go true e = absurd (let x = leb-true from n (and_parts (nat_le from n) (nat_lt n end) e).0 in omega (arith, x))
    go false e = e

-- What a draw leaves that is won.
pub record WonDraw (sizes : Sizes) (log : Log) (by : ℕ) (core : Core) (found : ℕ) : Type 0 where
  pub head : (after_step sizes by Draw found core).words HEAD ≡ core.words HEAD + page_count sizes (core.passes by).call
  pub at : (is_write (core.passes by).call ≡ true) × IsSmall sizes (core.passes by) × LogHasRoom sizes (core.passes by)
  pub drawn : HasDrawn sizes (core.passes by).call (page_count sizes (core.passes by).call)
  -- a number of the window was of it before, or is of the new group
  pub split : (n : ℕ) → InWindow (after_step sizes by Draw found core) n → InWindow core n ⊎ IsAmong found (page_count sizes (core.passes by).call) n
  pub old : (n : ℕ) → n < core.words HEAD → (with_group (drawn_group sizes (core.passes by) found) log).group n ≡ log.group n
  pub new : (n : ℕ) → IsAmong found (page_count sizes (core.passes by).call) n → (with_group (drawn_group sizes (core.passes by) found) log).group n ≡ drawn_group sizes (core.passes by) found
  -- where the pass stands, and what it has drawn
  pub control : (changed_pass sizes by core Draw found).control ≡ SeizeEntry found
  pub from : (changed_pass sizes by core Draw found).first ≡ found
  pub many : (changed_pass sizes by core Draw found).entries ≡ page_count sizes (core.passes by).call
  pub this : group_of (changed_pass sizes by core Draw found) ≡ drawn_group sizes (core.passes by) found
  pub were_free : (n : ℕ) → IsAmong found (page_count sizes (core.passes by).call) n → entry_word_at sizes core n ≡ free

pub won_draw : (sizes : Sizes) (first : Values) (log : Log) (by : ℕ) (core : Core) (found : ℕ) → Sound sizes first core → FoundEnabledByKind sizes by core Draw found → (found == (core.passes by).head) ≡ true → WonDraw sizes log by core found
won_draw sizes first log by core found sound may e = record {
  head = head;
  at = at;
  drawn = record { write = at.0; many = refl; some = write_pages sizes (core.passes by).call at.0 };
  split = λ n is. elim (cases_lt n (core.words HEAD)) [
    | inl less ↦ inl (is.0, less)
    | inr more ↦ inr (let f = may.is in let h = is.1 in (omega (arith, more, f), omega (arith, h, head, f)))
  ];
  old = λ n less. when_false (is_among found (found + page_count sizes (core.passes by).call) n) (drawn_group sizes (core.passes by) found) (log.group n)
      (among_below found (found + page_count sizes (core.passes by).call) n (let f = may.is in omega (arith, f, less)));
  new = λ n is. when_true (is_among found (found + page_count sizes (core.passes by).call) n) (drawn_group sizes (core.passes by) found) (log.group n)
      (among_true found (found + page_count sizes (core.passes by).call) n is.0 is.1);
  control = control;
  from = from;
  many = many;
  this = ap (λ b. record { call = (core.passes by).call; first = if b then found else (core.passes by).first; entries = if b then page_count sizes (core.passes by).call else (core.passes by).entries }) e;
  were_free = λ n is. (window_step sizes first by core Draw found sound may).unseized_is by n
      (subst (λ p. HasUnseized p n) (sym (number_here core.passes by (changed_pass sizes by core Draw found)))
      (subst (λ s. IsUnseized s (changed_pass sizes by core Draw found).first (changed_pass sizes by core Draw found).entries n) (sym control)
      (is.0, subst (λ f. n < f + (changed_pass sizes by core Draw found).entries) (sym from) (subst (λ c. n < found + c) (sym many) is.1))));
}
  where
    head : (after_step sizes by Draw found core).words HEAD ≡ core.words HEAD + page_count sizes (core.passes by).call
    head = word_here core.words HEAD _ ∙ when_true (found == (core.passes by).head) (found + page_count sizes (core.passes by).call) found e ∙ ap (λ f. f + page_count sizes (core.passes by).call) (sym may.is)

    at : (is_write (core.passes by).call ≡ true) × IsSmall sizes (core.passes by) × LogHasRoom sizes (core.passes by)
    at = subst (FactsAt sizes (core.passes by)) may.may (sound.control_facts by).at

    control : (changed_pass sizes by core Draw found).control ≡ SeizeEntry found
    control = when_true (found == (core.passes by).head) (SeizeEntry found) (leaving (core.passes by).owned) e

    from : (changed_pass sizes by core Draw found).first ≡ found
    from = when_true (found == (core.passes by).head) found (core.passes by).first e

    many : (changed_pass sizes by core Draw found).entries ≡ page_count sizes (core.passes by).call
    many = when_true (found == (core.passes by).head) (page_count sizes (core.passes by).call) (core.passes by).entries e

-- one that is lost leaves HEAD
pub lost_head : (sizes : Sizes) (by : ℕ) (core : Core) (found : ℕ) → FoundEnabledByKind sizes by core Draw found → (found == (core.passes by).head) ≡ false → (after_step sizes by Draw found core).words HEAD ≡ core.words HEAD
lost_head sizes by core found may e = word_here core.words HEAD _ ∙ when_false (found == (core.passes by).head) (found + page_count sizes (core.passes by).call) found e ∙ sym may.is

-- below HEAD the groups stay
pub draw_below : (sizes : Sizes) (log : Log) (by : ℕ) (core : Core) (found : ℕ) → FoundEnabledByKind sizes by core Draw found → (n : ℕ) → n < core.words HEAD → (log_stepped sizes (core.passes by) Draw found log).group n ≡ log.group n
draw_below sizes log by core found may n less = if_both (λ (l : Log). l.group n ≡ log.group n) (found == (core.passes by).head) (with_group (drawn_group sizes (core.passes by) found) log) log
    (λ _. when_false (is_among found (found + page_count sizes (core.passes by).call) n) (drawn_group sizes (core.passes by) found) (log.group n)
    (among_below found (found + page_count sizes (core.passes by).call) n (let f = may.is in omega (arith, f, less)))) (λ _. refl)

-- what a draw adds to the window was free
pub drawn_free : (sizes : Sizes) (first : Values) (log : Log) (by : ℕ) (core : Core) (found : ℕ) → Sound sizes first core → FoundEnabledByKind sizes by core Draw found → (n : ℕ) → core.words HEAD ≤ n → n < (after_step sizes by Draw found core).words HEAD → entry_word_at sizes core n ≡ free
drawn_free sizes first log by core found sound may n low high = go (found == (core.passes by).head) refl
  where
    go : (b : Bool) → (found == (core.passes by).head) ≡ b → entry_word_at sizes core n ≡ free
    go false e = absurd (let h = lost_head sizes by core found may e in omega (arith, h, low, high))
    go true e = let draw = won_draw sizes first log by core found sound may e in
        draw.were_free n (let f = may.is in (omega (arith, f, low), let h = draw.head in omega (arith, f, h, high)))

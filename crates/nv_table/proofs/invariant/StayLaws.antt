-- Stays: a cell that is no word of the mount keeps what it kept at opening.
use Rattle.std.proofs.Common.{◌≡◌, ℕ, List, [], ◌∷◌, ◌++◌, inl, inr, sym, ap, subst, ◌∙◌, append_assoc, append-nil}
use Rattle.std.proofs.lemmas.Bool.{cases_eq}
use Rattle.nv_core.specs.state.Words.{Word, IsWord}
use Rattle.nv_core.specs.state.Passes.{times}
use Rattle.nv_core.specs.state.Core.{Core}
use Rattle.nv_core.specs.steps.Events.{Event, after_event}
use Rattle.nv_core.specs.steps.Opening.{IsMount, opening}
use Rattle.nv_core.specs.invariant.InvariantLaws.{RunsAreSound}
use Rattle.nv_core.specs.steps.Frames.{EventsLeaveOthers, StepsAreOnWords}
use Rattle.nv_core.proofs.steps.RunLaws.{run_parts}
use Rattle.nv_table.specs.state.Opened.{Opened, mount_of, IsRunOf, state_of}
use Rattle.nv_table.proofs.invariant.Going.{after_one}
use Rattle.nv_table.proofs.passes.LeftLaws.{owned_are_words}

module _ (sound : RunsAreSound) (others : EventsLeaveOthers) (words : StepsAreOnWords) (opened : Opened) (mount : IsMount (mount_of opened)) (cell : Word) (none : IsWord opened.sizes cell → ⊥) where
  -- no pass owns it
  in_no_owned : (run : List Event) → IsRunOf opened run → (number : ℕ) → times cell ((state_of opened run).passes number).owned ≡ 0
  in_no_owned run is_run number = elim (cases_eq (times cell ((state_of opened run).passes number).owned) 0) [
    | inl bare ↦ bare
    | inr some ↦ absurd (none (owned_are_words words (mount_of opened) run mount is_run number cell some))
  ]

  pub stays : (before more : List Event) → IsRunOf opened (before ++ more) → (state_of opened (before ++ more)).values cell ≡ (state_of opened before).values cell
  stays before [] run = ap (λ events. (state_of opened events).values cell) (append-nil before)
  stays before (event ∷ later) run =
      let parts = run_parts opened.sizes (opening (mount_of opened)) before (event ∷ later) run in
      let one : (after_event opened.sizes event (state_of opened before)).values cell ≡ (state_of opened before).values cell =
      (others opened.sizes (mount_of opened).values (state_of opened before) event (sound (mount_of opened) before mount parts.0) parts.1.0).values cell (in_no_owned before parts.0 event.by) in
      ap (λ events. (state_of opened events).values cell) (sym (append_assoc before (event ∷ []) later))
      ∙ stays (before ++ event ∷ []) later (subst (IsRunOf opened) (sym (append_assoc before (event ∷ []) later)) run)
      ∙ ap (λ (c : Core). c.values cell) (after_one opened before event)
      ∙ one

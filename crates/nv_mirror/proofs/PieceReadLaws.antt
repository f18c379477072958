-- Piece reads: the read of the piece of an entry that a read holds, and what follows it.
use Rattle.std.proofs.Common.{◌≡◌, ℕ, ◌<◌, ◌≤◌, ◌==◌, ◌&&◌, nat_le, true, false, List, [], refl, sym, ap, subst, ◌∙◌, arith, eqb-true}
use Rattle.std.specs.Prelude.{Option, Some, None}
use Rattle.std.proofs.lemmas.Bool.{and_parts}
use Rattle.std.proofs.lemmas.Nat.{mod_below}
use Rattle.std.proofs.Math.Nat.{mod-le}
use Rattle.nv_plain.specs.Faults.{Rose}
use Rattle.nv_plain.specs.Images.{entry_of, data_of}
use Rattle.nv_pmem.specs.Part.{Part, part_word}
use Rattle.nv_core.specs.state.Words.{Sizes, Word, ENTRY, held, kind_of, page_of, was_readied, is_entry_of, slot_of_entry}
use Rattle.nv_core.specs.state.Values.{Value, Bare, APart, AStore, ABuffer, PieceRead, PageRead, CallEnding, Made, Failed, called, faults_of}
use Rattle.nv_core.specs.state.Passes.{ReadPiece, IsOneOf, times}
use Rattle.nv_core.specs.steps.Ops.{Return, Stop}
use Rattle.nv_core.specs.log.FittingPieces.{HeldPiecesFit}
use Rattle.nv_core.specs.invariant.InvariantLaws.{RunsAreSound}
use Rattle.nv_core.specs.invariant.Loaded.{LooksSound}
use Rattle.nv_core.specs.invariant.LogWindow.{InWindow, entry_word_at}
use Rattle.nv_core.specs.steps.Opening.{IsMount}
use Rattle.nv_core.specs.invariant.Rooms.{KeepsReady}
use Rattle.nv_core.specs.invariant.Sound.{Sound}
use Rattle.nv_core.specs.state.Core.{Core, control_worked, with_value}
use Rattle.nv_core.specs.steps.Order.{CallEnabled, CallMayEnd, CallMayLeave, IsFailing, CallDue, SaysPieceOf, SaysPiece}
use Rattle.nv_core.proofs.state.Changes.{by_word}
use Rattle.nv_table.specs.passes.PassesMade.{IsShownStill}
use Rattle.nv_table.specs.state.Limits.{MountIsWithinLimits}
use Rattle.nv_table.specs.state.Opened.{mount_of, IsRunOf, state_of}
use Rattle.nv_table.specs.state.Views.{pass_of, values_of, still_owned, slot_times, OwnsSlots}
use Rattle.nv_table.specs.state.States.{PassState}
use Rattle.nv_table.specs.steps.CallSteps.{Precondition}
use Rattle.nv_table.proofs.steps.OwnedSlotLaws.{owns_slots_kept}
use Rattle.nv_table.proofs.state.LayoutLaws.{cell_there}
use Rattle.nv_pages.specs.Altered.{IsAltered}
use Rattle.nv_pages.specs.PageWork.{OfKept, HasFailedCall, IsReadable, entry_slot}
use Rattle.nv_mirror.specs.PieceReads.{piece_read, HasFailedPieceRead}
use Rattle.nv_mirror.proofs.OwnedLaws.{slot_still_owned}
use Rattle.nv_core.proofs.steps.NextSteps.{steps_are_next}
use Rattle.nv_table.specs.steps.SeatSteps.{values_before, pass_before}

-- ---- the part of an entry that a read holds

-- an entry that is held was made ready
held_readied : (page word : ℕ) → is_entry_of held page word ≡ true → was_readied word ≡ true
held_readied page word is =
    let kind : kind_of word ≡ held = eqb-true (kind_of word) held (and_parts (kind_of word == held) (page_of word == page) is).0 in
    ap (λ k. nat_le 2 k && nat_le k 4) kind

module _ (sound : RunsAreSound) (fit : HeldPiecesFit) (now : PassState) (page number : ℕ) (mount : IsMount (mount_of now.view.opened)) (run : IsRunOf now.view.opened now.view.run)
    (some_entry : 0 < now.view.opened.sizes.entries) (some_byte : 1 ≤ now.view.opened.sizes.page) (stands : (pass_of now.view).control ≡ ReadPiece page number) where
  abbrev core : Core
  core = state_of now.view.opened now.view.run

  core_sound : Sound now.view.opened.sizes (mount_of now.view.opened).values core
  core_sound = sound (mount_of now.view.opened) now.view.run mount run

  -- it has an entry's lines, and says a piece that lies in one page
  pub readable : IsReadable now.view.opened.sizes (values_of now.view (ENTRY (slot_of_entry now.view.opened.sizes number)))
  readable =
      let looks : InWindow core number × (is_entry_of held page (entry_word_at now.view.opened.sizes core number) ≡ true) =
      subst (LooksSound now.view.opened.sizes core (pass_of now.view).pages) stands (core_sound.loaded.looks now.view.number) in (
        core_sound.rooms.ready (slot_of_entry now.view.opened.sizes number) (mod_below number now.view.opened.sizes.entries some_entry) (held_readied page (entry_word_at now.view.opened.sizes core number) looks.1),
        fit (mount_of now.view.opened) now.view.run now.view.number page number mount some_byte run stands,
      )

-- ---- its slot

-- where it is owned once, so is its slot
pub slot_held : (now : PassState) (number : ℕ) → IsShownStill now → (pass_of now.view).left ≡ [] → 0 < now.view.opened.sizes.entries
    → times (ENTRY (slot_of_entry now.view.opened.sizes number)) (pass_of now.view).owned ≡ 1 → slot_times (entry_slot now.view.opened.sizes number) now.now ≡ 1
slot_held now number still left some once =
    let sizes = now.view.opened.sizes in
    let there = cell_there sizes (ENTRY (slot_of_entry sizes number)) (entry_slot sizes number) (mod_below number sizes.entries some) refl in
    slot_still_owned now (entry_slot sizes number) (ENTRY (slot_of_entry sizes number)) still left there.0 there.1 ∙ once

-- and holds what the cell keeps
pub slot_keeps : (now : PassState) (number : ℕ) → IsShownStill now → 0 < now.view.opened.sizes.entries → (value : Value) → IsOneOf now.now (entry_slot now.view.opened.sizes number, value)
    → value ≡ values_of now.view (ENTRY (slot_of_entry now.view.opened.sizes number))
slot_keeps now number still some value one =
    let sizes = now.view.opened.sizes in
    let there = cell_there sizes (ENTRY (slot_of_entry sizes number)) (entry_slot sizes number) (mod_below number sizes.entries some) refl in
    still.shows (entry_slot sizes number) value one ∙ ap (values_of now.view) there.1

-- ---- what the read of a piece leaves of its cell

called_made : (at : ℕ) (bytes : List ℕ) (value : Value) → called (PieceRead at bytes) Made value ≡ value
called_made at bytes Bare = refl
called_made at bytes (APart device spares) = refl
called_made at bytes (AStore device) = refl
called_made at bytes (ABuffer buffer) = refl

called_failed : (at faults : ℕ) (bytes : List ℕ) (value : Value) → called (PieceRead at bytes) (Failed false faults) value ≡ called (PageRead 0 []) (Failed false faults) value
called_failed at faults bytes Bare = refl
called_failed at faults bytes (APart device spares) = refl
called_failed at faults bytes (AStore device) = refl
called_failed at faults bytes (ABuffer buffer) = refl

may_leave : (at : ℕ) (bytes : List ℕ) (value : Value) → CallMayLeave value (PieceRead at bytes) Made
may_leave at bytes Bare = tt
may_leave at bytes (APart device spares) = tt
may_leave at bytes (AStore device) = tt
may_leave at bytes (ABuffer buffer) = tt

may_leave_failed : (at faults : ℕ) (bytes : List ℕ) (value : Value) → CallMayLeave value (PieceRead at bytes) (Failed false faults)
may_leave_failed at faults bytes Bare = tt
may_leave_failed at faults bytes (APart device spares) = tt
may_leave_failed at faults bytes (AStore device) = tt
may_leave_failed at faults bytes (ABuffer buffer) = tt

may_end : (value : Value) → CallMayEnd value Made
may_end Bare = tt
may_end (APart device spares) = tt
may_end (AStore device) = tt
may_end (ABuffer buffer) = tt

may_fail : (sizes : Sizes) (faults : ℕ) (value : Value) → KeepsReady sizes value → Rose (faults_of value) faults → CallMayEnd value (Failed false faults)
may_fail sizes faults Bare ready rose = absurd ready
may_fail sizes faults (APart device spares) ready rose = rose
may_fail sizes faults (AStore device) ready rose = absurd ready
may_fail sizes faults (ABuffer buffer) ready rose = absurd ready

-- a part says some piece, whatever it tells
pub record SomePiece (sizes : Sizes) (value : Value) : Type 0 where
  pub at : ℕ
  pub bytes : List ℕ
  pub says : SaysPieceOf sizes at bytes value

some_piece : (sizes : Sizes) (value : Value) → KeepsReady sizes value → SomePiece sizes value
some_piece sizes Bare ready = absurd ready
some_piece sizes (APart device spares) ready = go device.told refl
  where
    go : (told : Option Part) → device.told ≡ told → SomePiece sizes (APart device spares)
    go None is = record { at = 0; bytes = []; says = subst (SaysPiece sizes 0 []) (sym is) (let low = mod-le 0 sizes.page in omega (arith, low)) }
    go (Some part) is = record {
      at = (entry_of (part_word part)).at;
      bytes = data_of (part_word part) (entry_of (part_word part)).size;
      says = subst (SaysPiece sizes (entry_of (part_word part)).at (data_of (part_word part) (entry_of (part_word part)).size)) (sym is) (refl, refl);
    }
some_piece sizes (AStore device) ready = absurd ready
some_piece sizes (ABuffer buffer) ready = absurd ready

-- ---- the view of a pass that has made a device call

-- it sees what it saw
pub to_mid : (old mid : PassState) → mid.view ≡ old.view → (D : PassState → Type 0) → D (record mid { view = old.view }) → D mid
to_mid old mid same D there = subst (λ view. D (record mid { view = view })) (sym same) there

-- ---- when the next step is due

module _ (now mid : PassState) (page number : ℕ) (still : IsShownStill now) (left : (pass_of now.view).left ≡ []) (stands : (pass_of now.view).control ≡ ReadPiece page number)
    (once : times (ENTRY (slot_of_entry now.view.opened.sizes number)) (pass_of now.view).owned ≡ 1) where
  abbrev cell : Word
  cell = ENTRY (slot_of_entry now.view.opened.sizes number)

  abbrev value : Value
  value = values_of now.view cell

  abbrev before : PassState
  before = record mid { view = now.view }

  -- the read of the piece may come
  may_work : (at : ℕ) (bytes : List ℕ) (ending : CallEnding) → SaysPieceOf now.view.opened.sizes at bytes value → CallMayEnd value ending → CallMayLeave value (PieceRead at bytes) ending
      → CallEnabled now.view.opened.sizes (values_of now.view) (pass_of now.view) record { cell = cell; job = PieceRead at bytes; ending = ending }
  may_work at bytes ending says ends leaves = record {
    due = subst (CallDue now.view.opened.sizes (values_of now.view) (pass_of now.view) record { cell = cell; job = PieceRead at bytes; ending = ending }) (sym stands)
        record { at = at; bytes = bytes; cell = refl; job = refl; says = says };
    ends = ends;
    leaves = leaves;
    here = once;
  }

  -- where it went well, the entry is returned
  pub return_due : (at : ℕ) (bytes : List ℕ) → IsAltered (λ kept. kept) now mid → OfKept now (λ kept. SaysPieceOf now.view.opened.sizes at bytes (kept cell))
      → (due : Precondition mid None (Return number)) × (due.works ≡ piece_read mid.view.opened.sizes number at bytes Made)
  return_due at bytes altered says =
      to_mid now mid altered.view (λ (state : PassState). (due : Precondition state None (Return number)) × (due.works ≡ piece_read state.view.opened.sizes number at bytes Made)) (
        record {
          works = piece_read now.view.opened.sizes number at bytes Made;
          due = (may_work at bytes Made (says (values_of now.view) (still_owned (pass_of now.view)) still) (may_end value) (may_leave at bytes value), tt);
          begins = tt;
          may = steps_are_next now.view.opened.sizes (values_before now.view (piece_read now.view.opened.sizes number at bytes Made)) (pass_before now.view None (piece_read now.view.opened.sizes number at bytes Made)) (Return number) ((page, false, ap (λ s. control_worked now.view.opened.sizes (pass_of now.view) Made s) stands));
          staying = left;
          holds = owns_slots_kept now.view.opened.sizes (λ v. v) (values_of now.view) (with_value (values_of now.view) cell (called (PieceRead at bytes) Made value)) (still_owned (pass_of now.view)) mid.now
              (λ other held. by_word (λ c v. v ≡ values_of now.view c) (values_of now.view) cell (called (PieceRead at bytes) Made value) (called_made at bytes value) (λ c ne. refl) other)
              (altered.owns_slots (values_of now.view) (still_owned (pass_of now.view)) still);
        },
        refl,
      )

  -- where it failed, STOP is set
  pub stop_due : KeepsReady now.view.opened.sizes value → HasFailedCall cell now mid → (due : Precondition mid None Stop) × HasFailedPieceRead due.works
  stop_due ready failed =
      let piece = some_piece now.view.opened.sizes value ready in
      let faults = failed.faults in
      to_mid now mid failed.altered.view (λ (state : PassState). (due : Precondition state None Stop) × HasFailedPieceRead due.works) (
        record {
          works = piece_read now.view.opened.sizes number piece.at piece.bytes (Failed false faults);
          due = (
            may_work piece.at piece.bytes (Failed false faults) piece.says
                (may_fail now.view.opened.sizes faults value ready (failed.rose (values_of now.view) (still_owned (pass_of now.view)) still)) (may_leave_failed piece.at faults piece.bytes value),
            tt,
          );
          begins = tt;
          may = steps_are_next now.view.opened.sizes (values_before now.view (piece_read now.view.opened.sizes number piece.at piece.bytes (Failed false faults))) (pass_before now.view None (piece_read now.view.opened.sizes number piece.at piece.bytes (Failed false faults))) Stop (subst IsFailing (sym (ap (λ s. control_worked now.view.opened.sizes (pass_of now.view) (Failed false faults) s) stands)) tt);
          staying = left;
          holds = subst (λ v. OwnsSlots now.view.opened.sizes (λ one. one) (with_value (values_of now.view) cell v) (still_owned (pass_of now.view)) mid.now) (sym (called_failed piece.at faults piece.bytes value))
              (failed.altered.owns_slots (values_of now.view) (still_owned (pass_of now.view)) still);
        },
        record { slot = slot_of_entry now.view.opened.sizes number; at = piece.at; bytes = piece.bytes; faults = faults; is = refl },
      )

-- ---- the mount, by a layout

pub some_byte : {layout sizes : Sizes} → MountIsWithinLimits layout → layout ≡ sizes → 1 ≤ sizes.page
some_byte limits same = let least = limits.least_page in subst (λ (s : Sizes). 1 ≤ s.page) same (omega (arith, least))

pub some_entry : {layout sizes : Sizes} → MountIsWithinLimits layout → layout ≡ sizes → 0 < sizes.entries
some_entry limits same = let least = limits.least_entries in subst (λ (s : Sizes). 0 < s.entries) same (omega (arith, least))

-- Altered cells: what exchanges of slots make of what the cells keep.
use Rattle.std.proofs.Common.{◌≡◌, ◌≢◌, ◌⊎◌, ℕ, ◌<◌, Bool, true, false, if◌then◌else◌, List, inl, inr, refl, sym, ap, ap₂, subst, ◌∙◌, arith}
use Rattle.std.proofs.lemmas.Bool.{cases_eq}
use Rattle.nv_core.specs.state.Words.{Sizes, Word, STORE, PAGE, page_total, same}
use Rattle.nv_core.specs.state.Values.{Value, Bare, emptied, received}
use Rattle.nv_core.specs.state.Passes.{IsOneOf}
use Rattle.nv_core.specs.steps.Order.{Values}
use Rattle.nv_core.specs.state.Core.{with_value}
use Rattle.nv_core.proofs.state.Changes.{same_true, by_word, word_here, word_else}
use Rattle.nv_table.specs.steps.Exchanges.{IsExchanged, Exchanges}
use Rattle.nv_table.specs.state.Layout.{slot_total, cell_of}
use Rattle.nv_table.specs.state.Views.{OwnsSlots}
use Rattle.nv_table.specs.state.States.{BoardState, PassState, IsOf}
use Rattle.nv_table.proofs.steps.OwnedSlotLaws.{cells_apart, owns_slots_kept}
use Rattle.nv_table.proofs.state.LayoutLaws.{cell_there}
use Rattle.nv_pages.specs.Altered.{IsAltered}
use Rattle.nv_pages.specs.PageWork.{OfKept, page_slot, store_slot}

-- ---- the cells of slots

pub at_page : (board : BoardState) (pass : PassState) (page slot : ℕ) → IsOf board pass → page < page_total board.opened.sizes → slot ≡ page_slot board.opened.sizes page
    → cell_of pass.view.opened.sizes slot ≡ PAGE page
at_page board pass page slot of less is =
    ap₂ (λ opened s. cell_of opened.sizes s) of.same_mount is ∙ (cell_there board.opened.sizes (PAGE page) (page_slot board.opened.sizes page) less refl).1

pub at_store : (board : BoardState) (pass : PassState) (file slot : ℕ) → IsOf board pass → file < board.opened.sizes.files → slot ≡ store_slot board.opened.sizes file
    → cell_of pass.view.opened.sizes slot ≡ STORE file
at_store board pass file slot of less is =
    ap₂ (λ opened s. cell_of opened.sizes s) of.same_mount is ∙ (cell_there board.opened.sizes (STORE file) (store_slot board.opened.sizes file) less refl).1

-- ---- one slot

-- the cell of a slot that gets something else keeps that
module _ (sizes : Sizes) (slot : ℕ) (out into : Value) (old new : List (ℕ × Value)) (is : IsExchanged slot out into old new)
    (kept : Values) (cells : List Word) (owns_slots : OwnsSlots sizes (λ value. value) kept cells old) where
  low : slot < slot_total sizes
  low = owns_slots.within slot out is.was

  within_at : (other : ℕ) (value : Value) → IsOneOf new (other, value) → ((other ≡ slot) ⊎ (other ≢ slot)) → other < slot_total sizes
  within_at other value one (inl at) = omega (arith, at, low)
  within_at other value one (inr ne) = owns_slots.within other value (is.others other value ne one)

  shows_at : (other : ℕ) (value : Value) → IsOneOf new (other, value) → ((other ≡ slot) ⊎ (other ≢ slot)) → value ≡ with_value kept (cell_of sizes slot) into (cell_of sizes other)
  shows_at other value one (inl at) =
      is.here value (subst (λ n. IsOneOf new (n, value)) at one)
      ∙ subst (λ n. into ≡ with_value kept (cell_of sizes slot) into (cell_of sizes n)) (sym at) (sym (word_here kept (cell_of sizes slot) into))
  shows_at other value one (inr ne) =
      let there = is.others other value ne one in
      owns_slots.shows other value there
      ∙ sym (word_else kept (cell_of sizes slot) into (cell_of sizes other) (cells_apart sizes other slot (owns_slots.within other value there) low ne))

  owns_slots_exchanged : OwnsSlots sizes (λ value. value) (with_value kept (cell_of sizes slot) into) cells new
  owns_slots_exchanged = record {
    within = λ other value one. within_at other value one (cases_eq other slot);
    each = λ other below. is.times_same other ∙ owns_slots.each other below;
    shows = λ other value one. shows_at other value one (cases_eq other slot);
  }

module _ (old new : PassState) (slot : ℕ) (cell : Word) (out into : Value) (at : cell_of old.view.opened.sizes slot ≡ cell) (is : Exchanges slot out into old new) where
  pub altered_one : IsAltered (λ kept. with_value kept cell into) old new
  altered_one = record {
    table = is.table;
    view = is.view;
    spare = is.spare;
    owns_slots = λ kept cells owns_slots.
        subst (λ c. OwnsSlots old.view.opened.sizes (λ value. value) (with_value kept c into) cells new.now) at
        (owns_slots_exchanged old.view.opened.sizes slot out into old.now new.now is.slots kept cells owns_slots);
  }

  -- what came out is what the cell kept
  pub was_kept : OfKept old (λ kept. out ≡ kept cell)
  was_kept kept cells owns_slots = owns_slots.shows slot out is.slots.was ∙ ap kept at

-- ---- changes of what is kept

-- one after another
pub altered_then : (first next : Values → Values) (old mid new : PassState) → IsAltered first old mid → IsAltered next mid new → IsAltered (λ kept. next (first kept)) old new
altered_then first next old mid new one other = record {
  table = other.table ∙ one.table;
  view = other.view ∙ one.view;
  spare = other.spare ∙ one.spare;
  owns_slots = λ kept cells owns_slots.
      subst (λ sizes. OwnsSlots sizes (λ value. value) (first kept) cells mid.now → OwnsSlots sizes (λ value. value) (next (first kept)) cells new.now)
      (ap (λ view. view.opened.sizes) one.view) (other.owns_slots (first kept) cells) (one.owns_slots kept cells owns_slots);
}

-- a change that makes the same of each cell
pub altered_as : (change other : Values → Values) (old new : PassState) → IsAltered change old new
    → OfKept old (λ kept. (cell : Word) → other kept cell ≡ change kept cell) → IsAltered other old new
altered_as change other old new is alike = record {
  table = is.table;
  view = is.view;
  spare = is.spare;
  owns_slots = λ kept cells owns_slots.
      owns_slots_kept old.view.opened.sizes (λ value. value) (change kept) (other kept) cells new.now (λ cell some. alike kept cells owns_slots cell) (is.owns_slots kept cells owns_slots);
}

-- ---- out of a slot, and back into it

module _ (old mid new : PassState) (slot : ℕ) (cell : Word) (out into : Value) (at : cell_of old.view.opened.sizes slot ≡ cell)
    (away : Exchanges slot out Bare old mid) (back : Exchanges slot Bare into mid new) where
  at_mid : cell_of mid.view.opened.sizes slot ≡ cell
  at_mid = ap (λ view. cell_of view.opened.sizes slot) away.view ∙ at

  over : (b : Bool) (kept : Value) → (if b then into else kept) ≡ (if b then into else (if b then Bare else kept))
  over true kept = refl
  over false kept = refl

  pub altered_back : IsAltered (λ kept. with_value kept cell into) old new
  altered_back =
      altered_as (λ kept. with_value (with_value kept cell Bare) cell into) (λ kept. with_value kept cell into) old new
      (altered_then (λ kept. with_value kept cell Bare) (λ kept. with_value kept cell into) old mid new
      (altered_one old mid slot cell out Bare at away) (altered_one mid new slot cell Bare into at_mid back))
      (λ kept cells owns_slots other. over (same other cell) (kept other))

  -- the cell's value is changed
  pub altered_by : (change : Value → Value) → into ≡ change out → IsAltered (λ kept. with_value kept cell (change (kept cell))) old new
  altered_by change is =
      altered_as (λ kept. with_value kept cell into) (λ kept. with_value kept cell (change (kept cell))) old new altered_back
      (λ kept cells owns_slots other. ap (λ value. with_value kept cell value other) (sym (is ∙ ap change (was_kept old mid slot cell out Bare at away kept cells owns_slots))))

  -- it is the same again
  pub altered_same : into ≡ out → IsAltered (λ kept. kept) old new
  altered_same is =
      altered_as (λ kept. with_value kept cell into) (λ kept. kept) old new altered_back
      (λ kept cells owns_slots. by_word (λ other value. kept other ≡ value) kept cell into (sym (is ∙ was_kept old mid slot cell out Bare at away kept cells owns_slots)) (λ other ne. refl))

-- ---- out of two slots, and back into both

module _ (old first second third new : PassState) (slot other : ℕ) (victim page : Word) (out into out_page into_page : Value)
    (at : cell_of old.view.opened.sizes slot ≡ victim) (at_page : cell_of old.view.opened.sizes other ≡ page) (apart : victim ≢ page)
    (away : Exchanges slot out Bare old first) (away_page : Exchanges other out_page Bare first second)
    (back : Exchanges slot Bare into second third) (back_page : Exchanges other Bare into_page third new) where
  at_later : (state : PassState) → state.view ≡ old.view → (one : ℕ) (cell : Word) → cell_of old.view.opened.sizes one ≡ cell → cell_of state.view.opened.sizes one ≡ cell
  at_later state is one cell there = ap (λ view. cell_of view.opened.sizes one) is ∙ there

  one_out : IsAltered (λ kept. with_value kept victim Bare) old first
  one_out = altered_one old first slot victim out Bare at away

  both_out : IsAltered (λ kept. with_value (with_value kept victim Bare) page Bare) old second
  both_out =
      altered_then (λ kept. with_value kept victim Bare) (λ kept. with_value kept page Bare) old first second one_out
      (altered_one first second other page out_page Bare (at_later first one_out.view other page at_page) away_page)

  one_back : IsAltered (λ kept. with_value (with_value (with_value kept victim Bare) page Bare) victim into) old third
  one_back =
      altered_then (λ kept. with_value (with_value kept victim Bare) page Bare) (λ kept. with_value kept victim into) old second third both_out
      (altered_one second third slot victim Bare into (at_later second both_out.view slot victim at) back)

  both_back : IsAltered (λ kept. with_value (with_value (with_value (with_value kept victim Bare) page Bare) victim into) page into_page) old new
  both_back =
      altered_then (λ kept. with_value (with_value (with_value kept victim Bare) page Bare) victim into) (λ kept. with_value kept page into_page) old third new one_back
      (altered_one third new other page Bare into_page (at_later third one_back.view other page at_page) back_page)

  -- neither cell's first change is left
  over_both : (kept : Values) (cell : Word)
      → with_value (with_value kept page into_page) victim into cell ≡ with_value (with_value (with_value (with_value kept victim Bare) page Bare) victim into) page into_page cell
  over_both kept cell = go (same cell victim) (same cell page) refl refl
    where
      go : (b c : Bool) → same cell victim ≡ b → same cell page ≡ c
          → (if b then into else (if c then into_page else kept cell)) ≡ (if c then into_page else (if b then into else (if c then Bare else (if b then Bare else kept cell))))
      go true true is is_page = absurd (apart (sym (same_true cell victim is) ∙ same_true cell page is_page))
      go true false is is_page = refl
      go false true is is_page = refl
      go false false is is_page = refl

  pub altered_both : IsAltered (λ kept. with_value (with_value kept page into_page) victim into) old new
  altered_both =
      altered_as (λ kept. with_value (with_value (with_value (with_value kept victim Bare) page Bare) victim into) page into_page)
      (λ kept. with_value (with_value kept page into_page) victim into) old new both_back (λ kept cells owns_slots. over_both kept)

  victim_was : OfKept old (λ kept. out ≡ kept victim)
  victim_was = was_kept old first slot victim out Bare at away

  page_was : OfKept old (λ kept. out_page ≡ kept page)
  page_was kept cells owns_slots =
      was_kept first second other page out_page Bare (at_later first one_out.view other page at_page) away_page (with_value kept victim Bare) cells
      (subst (λ view. OwnsSlots view.opened.sizes (λ value. value) (with_value kept victim Bare) cells first.now) (sym one_out.view) (one_out.owns_slots kept cells owns_slots))
      ∙ word_else kept victim Bare page (λ is. apart (sym is))

  -- what was made of both is made of what they kept
  pub received_was : (value : Value) → value ≡ received out out_page → OfKept old (λ kept. value ≡ received (kept victim) (kept page))
  received_was value is kept cells owns_slots = is ∙ ap₂ received (victim_was kept cells owns_slots) (page_was kept cells owns_slots)

  -- the page's cell gets the victim's buffer
  pub altered_robbed : into ≡ emptied out → into_page ≡ received out out_page
      → IsAltered (λ kept. with_value (with_value kept page (received (kept victim) (kept page))) victim (emptied (kept victim))) old new
  altered_robbed is is_page =
      altered_as (λ kept. with_value (with_value kept page into_page) victim into)
      (λ kept. with_value (with_value kept page (received (kept victim) (kept page))) victim (emptied (kept victim))) old new altered_both
      (λ kept cells owns_slots cell.
      ap₂ (λ given left. with_value (with_value kept page given) victim left cell) (sym (received_was into_page is_page kept cells owns_slots))
      (sym (is ∙ ap emptied (victim_was kept cells owns_slots))))

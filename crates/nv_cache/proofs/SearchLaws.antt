-- Searches: the steps of a search for a buffer are the core's.
use Rattle.std.proofs.Common.{◌≡◌, ◌≢◌, ℕ, ◌+◌, ◌*◌, ◌%◌, ◌<◌, ◌≤◌, ◌==◌, ◌&&◌, nat_lt, Bool, true, false, if◌then◌else◌, List, [], inl, refl, sym, ap, ap₂, subst, ◌∙◌, arith, ◌++◌}
use Rattle.std.specs.Prelude.{Option, Some, None}
use Rattle.std.proofs.lemmas.Bool.{lt-ltb, ltb-true, ltb-false}
use Rattle.std.proofs.lemmas.Nat.{mod_below}
use Rattle.nv_plain.specs.Histories.{Answered}
use Rattle.nv_core.specs.invariant.InvariantLaws.{RunsAreSound}
use Rattle.nv_core.specs.invariant.Ownership.{is_among, one_if}
use Rattle.nv_core.specs.state.Core.{values_given, values_stepped, with_value}
use Rattle.nv_core.specs.state.Passes.{Pass, Searching, end_page, end_read, first_page, times, pages_of}
use Rattle.nv_core.specs.state.Passes as core
use Rattle.nv_core.specs.state.Values.{lacks_buffer, received}
use Rattle.nv_core.specs.state.Words.{Sizes, Word, HINT, PAGE, DIRTY, page_total}
use Rattle.nv_core.specs.steps.Opening.{IsMount}
use Rattle.nv_core.specs.steps.Ops.{Op as CoreOp, Load, Take, Give, Turn, Hint, Comes, Stays, moved}
use Rattle.nv_core.specs.steps.Order.{Values, Enabled, miss, next_step, step_at}
use Rattle.nv_core.specs.steps.PassSteps.{stepped, pages_after}
use Rattle.nv_core.specs.steps.StepKinds.{JustNow}
use Rattle.nv_core.proofs.state.Changes.{word_here, word_else}
use Rattle.nv_core.proofs.steps.NextSteps.{steps_are_next}
use Rattle.nv_table.specs.state.Opened.{Opened, mount_of, IsRunOf}
use Rattle.nv_table.specs.state.States.{PassState}
use Rattle.nv_table.specs.state.Views.{PassView, OwnsSlots, pass_of, values_of, still_owned}
use Rattle.nv_table.specs.steps.CallSteps.{Precondition}
use Rattle.nv_table.specs.steps.StepContracts.{Postcondition}
use Rattle.nv_table.proofs.steps.CallLaws.{IsCallFree}
use Rattle.nv_table.proofs.steps.CallOps.{found_in, load_on}
use Rattle.nv_pages.specs.Altered.{IsAltered}
use Rattle.nv_pages.specs.PageWork.{robbed}
use Rattle.nv_op.specs.Ops.{Fits as OpFits, core_op_of}
use Rattle.nv_mirror.specs.Controls.{MirroredControl, control_mirror, InCall}
use Rattle.nv_mirror.specs.PassSteps.{HasTaken, IsBetweenSteps, if_own}
use Rattle.nv_mirror.specs.declared.answers.Refusal.{Refusal}
use Rattle.nv_mirror.proofs.PageLaws.{without_first}
use Rattle.nv_mirror.proofs.CellLaws.{page_is}
use Rattle.nv_cache.specs.declared.search.SearchControl.{SearchControl}
use Rattle.nv_cache.specs.declared.search.SearchControl.TheVariants.{Found, NotFound}
use Rattle.nv_cache.specs.declared.search.SearchControl.TheVariants as searches
use Rattle.nv_cache.specs.declared.search.SearchMachine.{SearchMachine}
use Rattle.nv_cache.specs.Searches.{Fits, FitsAt, IsInCall, IsOpen, IsSameBut, IsUnderWay, IsVictim, KnowsAt, LacksAt, again, locks, search_after_at, search_call_of, search_control_at, search_mirror_at, search_op_at, search_owned_at, turned, values_moved_at}
use Rattle.nv_cache.specs.Tries.{plain_step}
use Rattle.nv_cache.proofs.SearchFacts.{lacking_invalid, lacks_no_more, page_once, page_once_still, victim_apart}
use Rattle.nv_cache.proofs.StepLaws.{call_on, history_before, kept_there, opened_there, pass_there, taken_there, call_here}
use Rattle.nv_core.specs.invariant.CleanerOwnership.{count_in}
use Rattle.nv_core.specs.invariant.ControlFacts.{ControlFacts, PagesAt}
use Rattle.nv_core.specs.steps.ControlSteps.{hinted}
use Rattle.nv_core.proofs.invariant.PageLists.{pages_among}
use Rattle.nv_table.specs.steps.SeatSteps.{events, act_of}

-- its operations say nothing of the pass
pub search_fits : (sizes : Sizes) (pass : Pass) (m : SearchMachine) (control : SearchControl) → OpFits sizes None pass (search_op_at m control)
search_fits sizes pass m (searches.Begin from) = tt
search_fits sizes pass m (searches.TurnHand given) = tt
search_fits sizes pass m (searches.LoadHint buffer) = tt
search_fits sizes pass m (searches.TakeVictim buffer victim) = tt
search_fits sizes pass m (searches.GiveVictim buffer victim) = tt
search_fits sizes pass m (searches.SetHint buffer) = tt
search_fits sizes pass m (Found buffer) = tt
search_fits sizes pass m (NotFound given) = tt

-- ---- when the steps are due

-- a page that lacks a buffer is missed, while there are tries
turns : (sizes : Sizes) (values : Values) (page tries : ℕ) → lacks_buffer (values (PAGE page)) ≡ true → tries < 2 * sizes.buffers → miss sizes values page tries ≡ Turn page
turns sizes values page tries lacks few = ap₂ (λ a b. if a && b then Turn page else Load (DIRTY page)) lacks (lt-ltb tries (2 * sizes.buffers) few)

module _ (m : SearchMachine) (start now : PassState) (fits : Fits now.view.opened.sizes m) where
  abbrev here : Sizes
  here = now.view.opened.sizes

  abbrev kept : Values
  kept = values_of now.view

  abbrev was : Pass
  was = pass_of now.view

  pub is_open_free : (control : SearchControl) → IsOpen control → IsInCall m control start now → IsCallFree was.control
  is_open_free (searches.Begin from) runs called = subst (λ (c : MirroredControl). IsCallFree c.control) (sym called.mirrors) (λ sizes values pass work due. due)
  is_open_free (searches.TurnHand given) runs called = subst (λ (c : MirroredControl). IsCallFree c.control) (sym called.mirrors) (λ sizes values pass work due. due)
  is_open_free (searches.LoadHint buffer) runs called = subst (λ (c : MirroredControl). IsCallFree c.control) (sym called.mirrors) (λ sizes values pass work due. due)
  is_open_free (searches.TakeVictim buffer victim) runs called = subst (λ (c : MirroredControl). IsCallFree c.control) (sym called.mirrors) (λ sizes values pass work due. due)
  is_open_free (searches.GiveVictim buffer victim) runs called = subst (λ (c : MirroredControl). IsCallFree c.control) (sym called.mirrors) (λ sizes values pass work due. due)
  is_open_free (searches.SetHint buffer) runs called = subst (λ (c : MirroredControl). IsCallFree c.control) (sym called.mirrors) (λ sizes values pass work due. due)
  is_open_free (Found buffer) runs called = absurd runs
  is_open_free (NotFound given) runs called = absurd runs

  stands : (control : SearchControl) → IsInCall m control start now → next_step here kept was ≡ step_at here kept was (search_control_at m control)
  stands control called = ap (λ (c : MirroredControl). step_at here kept was c.control) called.mirrors

  -- the table of steps has its operation
  next : (control : SearchControl) → IsOpen control → FitsAt here m control → KnowsAt kept m control → IsInCall m control start now → Enabled here kept was (core_op_of now.view (search_op_at m control))
  next (searches.Begin from) runs at knows called =
      steps_are_next here kept was (Turn m.page) record {
        tries = 0;
        miss = JustNow from record {
          control = ap (λ (c : MirroredControl). c.control) called.mirrors;
          later = at.0;
          within = subst (λ (c : MirroredControl). m.page < end_read here c.call c.length) (sym called.mirrors) fits.within;
          passed = knows.0;
          missed = lacking_invalid (kept (PAGE m.page)) knows.1;
        } refl;
        lacks = knows.1;
        few = let some = at.2 in omega (arith, some);
      }
  next (searches.TurnHand None) runs at knows called = inl (stands (searches.TurnHand None) called ∙ ap Some (turns here kept m.page m.tries knows at))
  next (searches.TurnHand (Some buffer)) runs at knows called =
      inl (stands (searches.TurnHand (Some buffer)) called ∙ ap (λ b. Some (if b then miss here kept m.page m.tries else Hint buffer m.page)) knows ∙ ap Some (turns here kept m.page m.tries knows at))
  next (searches.LoadHint buffer) runs at knows called = inl (stands (searches.LoadHint buffer) called)
  next (searches.TakeVictim buffer victim) runs at knows called = inl (stands (searches.TakeVictim buffer victim) called)
  next (searches.GiveVictim buffer victim) runs at knows called = inl (stands (searches.GiveVictim buffer victim) called)
  next (searches.SetHint buffer) runs at knows called =
      inl (stands (searches.SetHint buffer) called ∙ ap (λ b. Some (if b then miss here kept m.page m.tries else Hint buffer m.page)) (ap lacks_buffer knows.1))
  next (Found buffer) runs at knows called = absurd runs
  next (NotFound given) runs at knows called = absurd runs

  -- and leaves what the cells keep, but for the buffer of a victim
  pub leaves : (control : SearchControl) → IsOpen control → IsInCall m control start now → values_stepped here was (core_op_of now.view (search_op_at m control)) kept ≡ values_moved_at m control kept
  leaves (searches.Begin from) runs called = refl
  leaves (searches.TurnHand given) runs called = refl
  leaves (searches.LoadHint buffer) runs called = refl
  leaves (searches.TakeVictim buffer victim) runs called = refl
  leaves (searches.GiveVictim buffer victim) runs called = ap (λ (c : MirroredControl). values_given was c.control kept) called.mirrors
  leaves (searches.SetHint buffer) runs called = refl
  leaves (Found buffer) runs called = absurd runs
  leaves (NotFound given) runs called = absurd runs

  pub search_due : (control : SearchControl) → IsOpen control → FitsAt here m control → KnowsAt kept m control → IsInCall m control start now → (before : PassState) → IsAltered (values_moved_at m control) now before
      → Precondition before None (core_op_of before.view (search_op_at m control))
  search_due control runs at knows called before altered =
      subst (λ (view : PassView). Precondition (record before { view = view }) None (core_op_of view (search_op_at m control))) (sym altered.view) record {
        works = [];
        due = tt;
        begins = tt;
        may = next control runs at knows called;
        staying = called.left;
        holds = subst (λ values. OwnsSlots here (λ value. value) values (still_owned was) before.now) (sym (leaves control runs called)) (altered.owns_slots kept (still_owned was) called.still);
      }

pub between_altered : (change : Values → Values) (old new : PassState) → IsAltered change old new → IsBetweenSteps old new
between_altered change old new is = record { table = is.table; view = is.view; spare = is.spare }

-- ---- what a step leaves

is_same_but : (sizes : Sizes) (number : ℕ) (history : List Answered) (view : PassView) (m : SearchMachine) (control : SearchControl) (found : ℕ) (pass : Pass) → IsOpen control → pass.control ≡ search_control_at m control
    → IsSameBut pass (stepped sizes number history (core_op_of view (search_op_at m control)) found pass)
is_same_but sizes number history view m (searches.Begin from) found pass runs stands = refl
is_same_but sizes number history view m (searches.TurnHand given) found pass runs stands = refl
is_same_but sizes number history view m (searches.LoadHint buffer) found pass runs stands = refl
is_same_but sizes number history view m (searches.TakeVictim buffer victim) found pass runs stands =
    ap (λ s. record (stepped sizes number history (Take (PAGE victim)) found pass) { pages = pages_after pass (Take (PAGE victim)) found s }) stands
is_same_but sizes number history view m (searches.GiveVictim buffer victim) found pass runs stands = refl
is_same_but sizes number history view m (searches.SetHint buffer) found pass runs stands = refl
is_same_but sizes number history view m (Found buffer) found pass runs stands = absurd runs
is_same_but sizes number history view m (NotFound given) found pass runs stands = absurd runs

-- the page, and a victim that is held, are among the owned cells
pub page_there : (sizes : Sizes) (m : SearchMachine) (control : SearchControl) → Fits sizes m → FitsAt sizes m control → times (PAGE m.page) (search_owned_at m control) ≢ 0
page_there sizes m (searches.GiveVictim buffer victim) fits at none = let once = page_once_still sizes m fits victim at.1 in omega (arith, once, none)
page_there sizes m (searches.Begin from) fits at none = let once = page_once sizes m fits in omega (arith, once, none)
page_there sizes m (searches.TurnHand given) fits at none = let once = page_once sizes m fits in omega (arith, once, none)
page_there sizes m (searches.LoadHint buffer) fits at none = let once = page_once sizes m fits in omega (arith, once, none)
page_there sizes m (searches.TakeVictim buffer victim) fits at none = let once = page_once sizes m fits in omega (arith, once, none)
page_there sizes m (searches.SetHint buffer) fits at none = let once = page_once sizes m fits in omega (arith, once, none)
page_there sizes m (Found buffer) fits at none = let once = page_once sizes m fits in omega (arith, once, none)
page_there sizes m (NotFound given) fits at none = let once = page_once sizes m fits in omega (arith, once, none)

-- the page has the victim's buffer then
pub robbed_here : (victim page : ℕ) (values : Values) → victim ≢ page → robbed victim page values (PAGE page) ≡ received (values (PAGE victim)) (values (PAGE page))
robbed_here victim page values apart =
    word_else (with_value values (PAGE page) (received (values (PAGE victim)) (values (PAGE page)))) (PAGE victim) _ (PAGE page) (λ e. apart (sym (page_is e)))
    ∙ word_here values (PAGE page) (received (values (PAGE victim)) (values (PAGE page)))

module _ (m : SearchMachine) (start now before new : PassState) (found : ℕ) (fits : Fits now.view.opened.sizes m) (between : IsBetweenSteps now before) where
  abbrev sizes_now : Sizes
  sizes_now = now.view.opened.sizes

  abbrev values_now : Values
  values_now = values_of now.view

  abbrev pass_now : Pass
  pass_now = pass_of now.view

  abbrev made : SearchControl → CoreOp
  made control = core_op_of before.view (search_op_at m control)

  module _ (control : SearchControl) (runs : IsOpen control) (at : FitsAt sizes_now m control) (called : IsInCall m control start now) (step : Postcondition before None (core_op_of before.view (search_op_at m control)) found new) where
    is_free : IsCallFree pass_now.control
    is_free = is_open_free m start now fits control runs called

    pub same_but : IsSameBut pass_now (pass_of new.view)
    same_but =
        subst (IsSameBut pass_now) (sym (pass_there now before new (made control) found between step is_free))
        (is_same_but sizes_now before.view.number (history_before now before new (made control) found between step is_free) before.view m control found pass_now runs (ap (λ (c : MirroredControl). c.control) called.mirrors))

    pub moves : (cell : Word) → times cell pass_now.owned ≢ 0 → values_of new.view cell ≡ values_moved_at m control values_now cell
    moves cell some =
        kept_there now before new (made control) found between step is_free cell some
        ∙ ap (λ (v : PassView). values_stepped sizes_now pass_now (core_op_of v (search_op_at m control)) values_now cell) between.view
        ∙ ap (λ values. values cell) (leaves m start now fits control runs called)

    pub moves_page : values_of new.view (PAGE m.page) ≡ values_moved_at m control values_now (PAGE m.page)
    moves_page = moves (PAGE m.page) (subst (λ (c : MirroredControl). times (PAGE m.page) c.owned ≢ 0) (sym called.mirrors) (page_there sizes_now m control fits at))

    pub opened : new.view.opened ≡ now.view.opened
    opened = opened_there now before new (made control) found between step is_free

    pub taken : HasTaken (plain_step (core_op_of now.view (search_op_at m control)) found) now new
    taken = subst (λ (v : PassView). HasTaken (plain_step (core_op_of v (search_op_at m control)) found) now new) between.view (taken_there now before new (made control) found between step is_free)

    -- it fits at another control state
    fits_then : (tries : ℕ) (then_ : SearchControl) → tries ≤ 2 * sizes_now.buffers → FitsAt sizes_now (record m { tries = tries; control = then_ }) then_ → Fits new.view.opened.sizes (record m { tries = tries; control = then_ })
    fits_then tries then_ low stands =
        subst (λ (o : Opened). Fits o.sizes (record m { tries = tries; control = then_ })) (sym opened)
        record { allowed = fits.allowed; first = fits.first; pages = fits.pages; own = fits.own; within = fits.within; tries = low; stands = stands }

  -- ---- where it goes on

  module _ (control : SearchControl) (runs : IsOpen control) (at : FitsAt sizes_now m control) (called : IsInCall m control start now) (step : Postcondition before None (core_op_of before.view (search_op_at m control)) found new) where
    -- a try begins
    turned_way : m.tries < 2 * sizes_now.buffers → lacks_buffer (values_of new.view (PAGE m.page)) ≡ true → IsInCall (turned sizes_now m found) (searches.LoadHint (found % sizes_now.buffers)) start new → IsUnderWay (turned sizes_now m found) start new
    turned_way few lacks then_ = record {
      fits = fits_then control runs at called step (m.tries + 1) (searches.LoadHint (found % sizes_now.buffers)) (omega (arith, few)) (mod_below found sizes_now.buffers (omega (arith, few)));
      knows = lacks;
      called = then_;
    }

    -- a try is over, and found nothing
    again_way : (given : Option ℕ) → lacks_buffer (values_of new.view (PAGE m.page)) ≡ true → IsInCall m (searches.TurnHand given) start new → (more : Bool) → nat_lt m.tries (2 * sizes_now.buffers) ≡ more
        → IsUnderWay (record m { control = if more then searches.TurnHand given else NotFound given }) start new
    again_way given lacks then_ true few = record {
      fits = fits_then control runs at called step m.tries (searches.TurnHand given) fits.tries (ltb-true m.tries (2 * sizes_now.buffers) few);
      knows = lacks;
      called = then_;
    }
    again_way given lacks then_ false enough = record {
      fits = fits_then control runs at called step m.tries (NotFound given) fits.tries (let low = fits.tries in let high = ltb-false m.tries (2 * sizes_now.buffers) enough in omega (arith, low, high));
      knows = lacks;
      called = then_;
    }

    -- it goes on in its try
    on_way : (then_ : SearchControl) → FitsAt sizes_now (record m { control = then_ }) then_ → KnowsAt (values_of new.view) m then_ → IsInCall m then_ start new → IsUnderWay (record m { control = then_ }) start new
    on_way then_ stands knows on = record { fits = fits_then control runs at called step m.tries then_ fits.tries stands; knows = knows; called = on }

  -- ---- the HINT of a buffer

  module _ (buffer : ℕ) (low : buffer < sizes_now.buffers) (lacks : lacks_buffer (values_now (PAGE m.page)) ≡ true) (called : IsInCall m (searches.LoadHint buffer) start now) (step : Postcondition before None (Load (HINT buffer)) found new) where
    hint_then : (search : core.Search) → (if count_in (pass_of now.view).pages found == 0 then core.TakeVictim buffer found else core.NotFound) ≡ search
        → InCall control_mirror (search_call_of m) None (record (search_mirror_at m (searches.LoadHint buffer)) { control = Searching m.page m.tries search }) None None start new
    hint_then search is =
        call_here now before new (Load (HINT buffer)) found between step (is_open_free m start now fits (searches.LoadHint buffer) tt called) (search_call_of m) (search_mirror_at m (searches.LoadHint buffer)) _ start called
        (λ number history. ap (λ s. record (search_mirror_at m (searches.LoadHint buffer)) { control = Searching m.page m.tries s }) is)
        (λ pass. refl) refl refl refl (λ sizes number history pass. refl) (λ pass number. refl)

    -- it names a page of the mount
    hint_low : RunsAreSound → IsMount (mount_of before.view.opened) → found < page_total sizes_now
    hint_low sound mount =
        let at = found_in sound before new None (Load (HINT buffer)) found (HINT buffer) (λ n. n) mount (load_on before.view.opened.sizes (HINT buffer)) step in
        subst (λ (v : PassView). found < page_total v.opened.sizes) between.view
        (subst (λ n. n < page_total before.view.opened.sizes) at.word_is (at.sound.searches.hints buffer (subst (λ (v : PassView). buffer < v.opened.sizes.buffers) (sym between.view) low)))

    -- the pass has taken all pages of its call
    hint_pages : RunsAreSound → IsMount (mount_of before.view.opened) → (pass_of now.view).pages ≡ pages_of sizes_now (search_call_of m)
    hint_pages sound mount =
        let run : IsRunOf before.view.opened (step.steps.run ++ events before.view.number step.works (act_of None (Load (HINT buffer)) found)) = step.steps.is_run in
        let facts : ControlFacts before.view.opened.sizes (pass_of new.view) =
        subst (λ (v : PassView). ControlFacts before.view.opened.sizes (pass_of v)) (sym step.steps.is) ((sound (mount_of before.view.opened) (step.steps.run ++ events before.view.number step.works (act_of None (Load (HINT buffer)) found)) mount run).control_facts before.view.number) in
        let there = subst (λ p. PagesAt before.view.opened.sizes p p.control) (pass_there now before new (Load (HINT buffer)) found between step (is_open_free m start now fits (searches.LoadHint buffer) tt called)) facts.pages in
        let stands = ap (λ (c : MirroredControl). c.control) called.mirrors in
        let all = subst (λ c. PagesAt before.view.opened.sizes (stepped now.view.opened.sizes before.view.number (history_before now before new (Load (HINT buffer)) found between step (is_open_free m start now fits (searches.LoadHint buffer) tt called)) (Load (HINT buffer)) found (pass_of now.view)) (hinted (pass_of now.view).pages buffer found c)) stands there in
        all ∙ ap₂ pages_of (ap (λ (v : PassView). v.opened.sizes) between.view) (ap (λ (c : MirroredControl). c.call) called.mirrors)

    hint_on : RunsAreSound → IsMount (mount_of before.view.opened) → (own : Bool) → is_among m.first (m.first + m.pages) found ≡ own → IsUnderWay (if own then again sizes_now m None else record m { control = searches.TakeVictim buffer found }) start new
    hint_on sound mount own is =
        let page = moves_page (searches.LoadHint buffer) tt low called step in
        let among : is_among (first_page sizes_now (search_call_of m)) (end_page sizes_now (search_call_of m)) found ≡ own = sym (ap₂ (λ first pages. is_among first (first + pages) found) fits.first fits.pages) ∙ is in
        let counted : count_in (pass_of now.view).pages found ≡ one_if own = pages_among sizes_now (search_call_of m) (pass_of now.view).pages (hint_pages sound mount) found ∙ ap one_if among in
        by own is (hint_then _ (ap (λ n. if n == 0 then core.TakeVictim buffer found else core.NotFound) counted ∙ choice own)) (ap lacks_buffer page ∙ lacks)
      where
        choice : (own : Bool) → (if one_if own == 0 then core.TakeVictim buffer found else core.NotFound) ≡ (if own then core.NotFound else core.TakeVictim buffer found)
        choice true = refl
        choice false = refl

        by : (own : Bool) → is_among m.first (m.first + m.pages) found ≡ own
            → InCall control_mirror (search_call_of m) None (record (search_mirror_at m (searches.LoadHint buffer)) { control = Searching m.page m.tries (if own then core.NotFound else core.TakeVictim buffer found) }) None None start new
            → lacks_buffer (values_of new.view (PAGE m.page)) ≡ true → IsUnderWay (if own then again sizes_now m None else record m { control = searches.TakeVictim buffer found }) start new
        by true is then_ lacks = again_way (searches.LoadHint buffer) tt low called step None lacks then_ (nat_lt m.tries (2 * sizes_now.buffers)) refl
        by false is then_ lacks = on_way (searches.LoadHint buffer) tt low called step (searches.TakeVictim buffer found) (low, (hint_low sound mount, is)) lacks then_

  -- ---- the lock of a victim

  module _ (buffer victim : ℕ) (at : (buffer < sizes_now.buffers) × IsVictim sizes_now m victim) (lacks : lacks_buffer (values_now (PAGE m.page)) ≡ true) (called : IsInCall m (searches.TakeVictim buffer victim) start now) (step : Postcondition before None (Take (PAGE victim)) found new) where
    -- it refuses nothing where it is held
    take_refuses : (b : Bool) → (refusal : Option Refusal) → (if b then None else if_own sizes_now (search_call_of m) victim refusal) ≡ None
    take_refuses true refusal = refl
    take_refuses false refusal = ap (λ own. if own then refusal else None) (sym (ap₂ (λ first pages. is_among first (first + pages) victim) fits.first fits.pages) ∙ at.1.1)

    take_then : (b : Bool) → (found == 0) ≡ b
        → InCall control_mirror (search_call_of m) None
        (record (search_mirror_at m (searches.TakeVictim buffer victim)) { control = if b then Searching m.page m.tries (core.GiveVictim buffer victim) else Searching m.page m.tries core.NotFound; owned = moved (if b then Comes (PAGE victim) else Stays) (locks m) })
        None None start new
    take_then b is =
        call_on now before new (Take (PAGE victim)) found between step (is_open_free m start now fits (searches.TakeVictim buffer victim) tt called) (search_call_of m) (search_mirror_at m (searches.TakeVictim buffer victim)) _ start called
        (λ pass number history. ap (λ b. record (search_mirror_at m (searches.TakeVictim buffer victim)) { control = if b then Searching m.page m.tries (core.GiveVictim buffer victim) else Searching m.page m.tries core.NotFound; owned = moved (if b then Comes (PAGE victim) else Stays) (locks m) }) is)
        (λ pass. refl) (take_refuses (found == 0) _) refl refl (λ sizes number history pass. refl) (λ pass number. refl)

    take_on : (b : Bool) → (found == 0) ≡ b → IsUnderWay (if b then record m { control = searches.GiveVictim buffer victim } else again sizes_now m None) start new
    take_on true is =
        on_way (searches.TakeVictim buffer victim) tt at called step (searches.GiveVictim buffer victim) at
        (ap lacks_buffer (moves_page (searches.TakeVictim buffer victim) tt at called step) ∙ lacks) (take_then true is)
    take_on false is =
        again_way (searches.TakeVictim buffer victim) tt at called step None
        (ap lacks_buffer (moves_page (searches.TakeVictim buffer victim) tt at called step) ∙ lacks) (take_then false is) (nat_lt m.tries (2 * sizes_now.buffers)) refl

  -- ---- the buffer of a victim

  module _ (buffer victim : ℕ) (at : (buffer < sizes_now.buffers) × IsVictim sizes_now m victim) (lacks : lacks_buffer (values_now (PAGE m.page)) ≡ true) (called : IsInCall m (searches.GiveVictim buffer victim) start now) (step : Postcondition before None (Give (PAGE victim)) found new) where
    give_then : IsInCall m (searches.SetHint buffer) start new
    give_then =
        call_on now before new (Give (PAGE victim)) found between step (is_open_free m start now fits (searches.GiveVictim buffer victim) tt called) (search_call_of m) (search_mirror_at m (searches.GiveVictim buffer victim)) _ start called
        (λ pass number history. ap (λ owned. record (search_mirror_at m (searches.SetHint buffer)) { owned = owned }) (without_first (PAGE victim) (locks m)))
        (λ pass. refl) refl refl refl (λ sizes number history pass. refl) (λ pass number. refl)

    pub received_there : values_of new.view (PAGE m.page) ≡ received (values_now (PAGE victim)) (values_now (PAGE m.page))
    received_there = moves_page (searches.GiveVictim buffer victim) tt at called step ∙ robbed_here victim m.page values_now (victim_apart sizes_now m fits victim at.1)

    give_on : (b : Bool) → lacks_buffer (values_of new.view (PAGE m.page)) ≡ b → IsUnderWay (if b then again sizes_now m (Some buffer) else record m { control = searches.SetHint buffer }) start new
    give_on true is = again_way (searches.GiveVictim buffer victim) tt at called step (Some buffer) is give_then (nat_lt m.tries (2 * sizes_now.buffers)) refl
    give_on false is =
        let has = lacks_no_more (values_now (PAGE victim)) (values_now (PAGE m.page)) lacks (sym (ap lacks_buffer received_there) ∙ is) in
        on_way (searches.GiveVictim buffer victim) tt at called step (searches.SetHint buffer) at.0 (_, received_there ∙ has.moved) give_then

  pub search_on : RunsAreSound → IsMount (mount_of before.view.opened) → (control : SearchControl) → IsOpen control → FitsAt sizes_now m control → KnowsAt values_now m control → (called : IsInCall m control start now)
      → (step : Postcondition before None (core_op_of before.view (search_op_at m control)) found new) → IsUnderWay (search_after_at sizes_now m control found (lacks_buffer (values_of new.view (PAGE m.page)))) start new
  search_on sound mount (searches.Begin from) runs at knows called step =
      turned_way (searches.Begin from) tt at called step (let none = at.1 in let some = at.2 in omega (arith, none, some)) (ap lacks_buffer (moves_page (searches.Begin from) tt at called step) ∙ knows.1)
      (call_on now before new (Turn m.page) found between step (is_open_free m start now fits (searches.Begin from) tt called) (search_call_of m) (search_mirror_at m (searches.Begin from)) _ start called
      (λ pass number history. ap (λ n. record (search_mirror_at m (searches.Begin from)) { control = Searching m.page (n + 1) (core.LoadHint (found % sizes_now.buffers)) }) (sym at.1))
      (λ pass. refl) refl refl refl (λ sizes number history pass. refl) (λ pass number. refl))
  search_on sound mount (searches.TurnHand given) runs at knows called step =
      turned_way (searches.TurnHand given) tt at called step at (ap lacks_buffer (moves_page (searches.TurnHand given) tt at called step) ∙ knows)
      (call_on now before new (Turn m.page) found between step (is_open_free m start now fits (searches.TurnHand given) tt called) (search_call_of m) (search_mirror_at m (searches.TurnHand given)) _ start called
      (λ pass number history. refl) (λ pass. refl) refl refl refl (λ sizes number history pass. refl) (λ pass number. refl))
  search_on sound mount (searches.LoadHint buffer) runs at knows called step = hint_on buffer at knows called step sound mount (is_among m.first (m.first + m.pages) found) refl
  search_on sound mount (searches.TakeVictim buffer victim) runs at knows called step = take_on buffer victim at knows called step (found == 0) refl
  search_on sound mount (searches.GiveVictim buffer victim) runs at knows called step = give_on buffer victim at knows called step (lacks_buffer (values_of new.view (PAGE m.page))) refl
  search_on sound mount (searches.SetHint buffer) runs at knows called step =
      on_way (searches.SetHint buffer) tt at called step (Found buffer) at (knows.0, moves_page (searches.SetHint buffer) tt at called step ∙ knows.1)
      (call_on now before new (Hint buffer m.page) found between step (is_open_free m start now fits (searches.SetHint buffer) tt called) (search_call_of m) (search_mirror_at m (searches.SetHint buffer)) _ start called
      (λ pass number history. refl) (λ pass. refl) refl refl refl (λ sizes number history pass. refl) (λ pass number. refl))
  search_on sound mount (Found buffer) runs at knows called step = absurd runs
  search_on sound mount (NotFound given) runs at knows called step = absurd runs

  -- ---- what its tries have found

  -- the bool that is told of the page is the one that the step leaves
  pub lacks_so : (control : SearchControl) → IsOpen control → FitsAt sizes_now m control → (called : IsInCall m control start now) → (step : Postcondition before None (core_op_of before.view (search_op_at m control)) found new)
      → (lacks : Bool) → LacksAt m control lacks now → (sizes : Sizes) → search_after_at sizes m control found lacks ≡ search_after_at sizes m control found (lacks_buffer (values_of new.view (PAGE m.page)))
  lacks_so (searches.Begin from) runs at called step lacks of sizes = refl
  lacks_so (searches.TurnHand given) runs at called step lacks of sizes = refl
  lacks_so (searches.LoadHint buffer) runs at called step lacks of sizes = refl
  lacks_so (searches.TakeVictim buffer victim) runs at called step lacks of sizes = refl
  lacks_so (searches.GiveVictim buffer victim) runs at called step lacks of sizes =
      ap (search_after_at sizes m (searches.GiveVictim buffer victim) found)
      (of values_now (still_owned pass_now) called.still
      ∙ sym (ap lacks_buffer (moves_page (searches.GiveVictim buffer victim) tt at called step ∙ robbed_here victim m.page values_now (victim_apart sizes_now m fits victim at.1))))
  lacks_so (searches.SetHint buffer) runs at called step lacks of sizes = refl
  lacks_so (Found buffer) runs at called step lacks of sizes = absurd runs
  lacks_so (NotFound given) runs at called step lacks of sizes = absurd runs

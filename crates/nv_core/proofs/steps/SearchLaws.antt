-- Searches, by their steps: where a pass stands at each, and where then.
use Rattle.std.proofs.Common.{◌≡◌, ℕ, ◌+◌, ◌==◌, if◌then◌else◌, inl, inr, sym, subst}
use Rattle.nv_core.specs.state.Words.{Sizes, HINT, PAGE}
use Rattle.nv_core.specs.state.Passes.{Control, TakePage, LoadLength, VisitPage, Search, LoadHint, TakeVictim, GiveVictim, VictimGiven, NotFound, Searching, Pass, end_page}
use Rattle.nv_core.specs.steps.Ops.{Take}
use Rattle.nv_core.specs.steps.ControlSteps.{control_after, after_load, after_page, refused, hinted, leaving}
use Rattle.nv_core.specs.invariant.CleanerOwnership.{count_in}
use Rattle.nv_core.specs.steps.Order.{Values}
use Rattle.nv_core.specs.steps.StepKinds.{IsMiss, JustNow, AfterTries, MayTurn, MayLookUp, IsHinting, IsSeeking, MayHint, MayTake}

-- what holds of a read that looks at a page, and of one in its search, holds of one that has missed a page
pub missed_at : (P : Control → Type 0) (sizes : Sizes) (values : Values) (pass : Pass) (page tries : ℕ) → ((from : ℕ) → P (VisitPage from)) → ((search : Search) → P (Searching page tries search))
    → IsMiss sizes values pass page tries → P pass.control
missed_at P sizes values pass page tries first again (JustNow from miss none) = subst P (sym miss.control) (first from)
missed_at P sizes values pass page tries first again (AfterTries search is over) = subst P (sym is) (again search)

pub turned_at : (P : Control → Type 0) (sizes : Sizes) (values : Values) (pass : Pass) (page : ℕ) → ((from : ℕ) → P (VisitPage from)) → ((tries : ℕ) (search : Search) → P (Searching page tries search))
    → MayTurn sizes values pass page → P pass.control
turned_at P sizes values pass page first again may = missed_at P sizes values pass page may.tries first (again may.tries) may.miss

pub looked_at : (P : Control → Type 0) (sizes : Sizes) (values : Values) (pass : Pass) (page : ℕ) → ((from : ℕ) → P (VisitPage from)) → ((tries : ℕ) (search : Search) → P (Searching page tries search))
    → MayLookUp sizes values pass page → P pass.control
looked_at P sizes values pass page first again may = missed_at P sizes values pass page may.tries first (again may.tries) may.miss

pub hinting_at : (P : Control → Type 0) (pass : Pass) (buffer : ℕ) → ((page tries : ℕ) → P (Searching page tries (LoadHint buffer))) → IsHinting pass.control buffer → P pass.control
hinting_at P pass buffer all may = subst P (sym may.is) (all may.page may.tries)

pub hinting_next : (P : Control → Type 0) (sizes : Sizes) (pass : Pass) (buffer found : ℕ) (may : IsHinting pass.control buffer)
    → P (Searching may.page may.tries (if count_in pass.pages found == 0 then TakeVictim buffer found else NotFound)) → P (after_load sizes pass (HINT buffer) found)
hinting_next P sizes pass buffer found may all = subst (λ s. P (hinted pass.pages buffer found s)) (sym may.is) all

-- a page's lock is tried: of the call's next page, or of a victim
pub tried_at : (P : Control → Type 0) (pass : Pass) (page : ℕ) → P (TakePage page) → ((missed tries buffer : ℕ) → P (Searching missed tries (TakeVictim buffer page))) → MayTake pass (PAGE page) → P pass.control
tried_at P pass page own other (inl at) = subst P (sym at) own
tried_at P pass page own other (inr may) = subst P (sym may.is) (other may.page may.tries may.buffer)

pub tried_next : (P : Control → Type 0) (sizes : Sizes) (pass : Pass) (page found : ℕ)
    → (pass.control ≡ TakePage page → P (if found == 0 then (if page + 1 == end_page sizes pass.call then LoadLength else TakePage (page + 1)) else leaving pass.owned))
    → ((may : IsSeeking pass.control page) → P (if found == 0 then Searching may.page may.tries (GiveVictim may.buffer page) else Searching may.page may.tries NotFound))
    → MayTake pass (PAGE page) → P (control_after sizes pass (Take (PAGE page)) found)
tried_next P sizes pass page found own other (inl at) = subst (λ s. P (if found == 0 then after_page sizes pass.call page s else refused pass.owned (PAGE page) s)) (sym at) (own at)
tried_next P sizes pass page found own other (inr may) = subst (λ s. P (if found == 0 then after_page sizes pass.call page s else refused pass.owned (PAGE page) s)) (sym may.is) (other may)

pub hinted_at : (P : Control → Type 0) (values : Values) (pass : Pass) (buffer page : ℕ) → ((tries : ℕ) → P (Searching page tries (VictimGiven buffer))) → MayHint values pass.control buffer page → P pass.control
hinted_at P values pass buffer page all may = subst P (sym may.is) (all may.tries)

-- Going: what one more event leaves of what is known of a run.
use Rattle.std.proofs.Common.{◌≡◌, ◌≢◌, ℕ, ◌≤◌, if◌then◌else◌, List, [], ◌∷◌, ◌++◌, sym, ap, subst, ◌∙◌, arith, ne_eqb}
use Rattle.nv_core.specs.steps.Events.{Event, EventEnabled, after_event, own}
use Rattle.nv_core.specs.steps.Opening.{IsMount, opening}
use Rattle.nv_core.specs.steps.Frames.{OwnEventsTell, StaysKnown}
use Rattle.nv_core.proofs.steps.RunLaws.{run_both, after_parts}
use Rattle.nv_table.specs.state.Opened.{Opened, mount_of, IsRunOf, state_of}
use Rattle.nv_table.specs.state.Views.{Past, SeesAll}
use Rattle.nv_table.specs.invariant.TableInvariant.{IsTakenInWhole}
use Rattle.nv_table.proofs.state.ViewLaws.{own_both, own_none, sees_on}

-- ---- a pass's own events

-- another pass's event is none of them
pub own_else : (number : ℕ) (event : Event) → event.by ≢ number → own number (event ∷ []) ≡ []
own_else number event ne = ap (λ b. if b then event ∷ [] else []) (ne_eqb event.by number ne)

pub own_more : (number : ℕ) (run : List Event) (event : Event) → event.by ≢ number → own number run ≡ [] → own number (run ++ event ∷ []) ≡ []
own_more number run event ne none = own_none number run (event ∷ []) none (own_else number event ne)

-- the end of a run has none where the run has none
empty_end : {T : Type 0} (one other : List T) → one ++ other ≡ [] → other ≡ []
empty_end [] other e = e
empty_end (first ∷ one) other e = absurd cc

pub own_end : (number : ℕ) (seen rest run : List Event) → run ≡ seen ++ rest → own number run ≡ [] → own number rest ≡ []
own_end number seen rest run e none = empty_end (own number seen) (own number rest) (sym (own_both number seen rest) ∙ sym (ap (own number) e) ∙ none)

pub sees_more : (number : ℕ) (seen run : List Event) (event : Event) → event.by ≢ number → SeesAll number seen run → SeesAll number seen (run ++ event ∷ [])
sees_more number seen run event ne all = sees_on number seen run (event ∷ []) (own_else number event ne) all

-- ---- those that were taken in

pub over_more : (opened : Opened) (run : List Event) (seated : ℕ) (past : Past) (event : Event) → event.by ≢ past.number → IsTakenInWhole opened run seated past → IsTakenInWhole opened (run ++ event ∷ []) seated past
over_more opened run seated past event ne over = record { some = over.some; within = over.within; all = sees_more past.number past.run run event ne over.all; made = over.made; bare = over.bare }

pub over_wider : (opened : Opened) (run : List Event) (seated more : ℕ) (past : Past) → seated ≤ more → IsTakenInWhole opened run seated past → IsTakenInWhole opened run more past
over_wider opened run seated more past wider over = record { some = over.some; within = let w = over.within in omega (arith, w); all = over.all; made = over.made; bare = over.bare }

-- ---- states

pub after_one : (opened : Opened) (run : List Event) (event : Event) → state_of opened (run ++ event ∷ []) ≡ after_event opened.sizes event (state_of opened run)
after_one opened run event = after_parts opened.sizes (opening (mount_of opened)) run (event ∷ [])

pub run_one : (opened : Opened) (run : List Event) (event : Event) → IsRunOf opened run → EventEnabled opened.sizes event (state_of opened run) → IsRunOf opened (run ++ event ∷ [])
run_one opened run event is come = run_both opened.sizes (opening (mount_of opened)) run (event ∷ []) is (come, tt)

-- what is known of a pass, be it taken in or not, by its own events
pub told_of : OwnEventsTell → (opened : Opened) (number : ℕ) (seen run : List Event) → IsMount (mount_of opened) → IsRunOf opened run → SeesAll number seen run → number ≤ (state_of opened seen).made
    → StaysKnown number (state_of opened seen) (state_of opened run)
told_of law opened number seen run mount is all made =
    subst (λ whole. StaysKnown number (state_of opened seen) (state_of opened whole)) (sym all.goes_on)
    (law (mount_of opened) number seen all.rest mount (subst (IsRunOf opened) all.goes_on is) made all.quiet)

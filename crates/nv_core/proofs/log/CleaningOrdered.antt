-- What a step of a cleaner has before it, by what its control state says.
use Rattle.std.proofs.Common.{◌≡◌, ◌+◌, ◌<◌, length, sym, ap, subst, ◌∙◌, arith}
use Rattle.nv_core.specs.state.Cleaner.{CleanEntry, SubtractDirty, MoveHeaderTail, FreeEntry, Clean, Subtract, Free}
use Rattle.nv_core.specs.state.Passes.{Cleaning}
use Rattle.nv_core.specs.invariant.ControlFacts.{FactsAt}
use Rattle.nv_core.specs.content.PagesAfter.{file_of_page}
use Rattle.nv_core.specs.log.Pieces.{page_of_number}
use Rattle.nv_core.specs.log.Retiring.{IsWrittenBack, IsSynced, TailsAt}
use Rattle.nv_core.specs.log.CleaningOrder.{NoCleanBeforeTheStore, NoSubtractBeforeTheClean, NoMoveBeforeTheSync, NoFreeBeforeTheTail}
use Rattle.nv_core.proofs.steps.CleanerOps.{tending, frees_hand}
use Rattle.nv_core.proofs.steps.ByKind.{find_kind}
use Rattle.nv_core.proofs.steps.NextSteps.{next_steps_may_come}
use Rattle.nv_core.specs.steps.Ops.{ByCleaner}

pub no_clean_before_the_store : NoCleanBeforeTheStore
no_clean_before_the_store sizes first opened tails log placed core by number found sound content may =
    let t = tending sizes (core.passes by) (Clean number) tt (next_steps_may_come sizes core.values (core.passes by) (ByCleaner (Clean number)) may.may) in
    let here : (core.passes by).control ≡ Cleaning t.batch (CleanEntry t.made.0) = t.control ∙ ap (Cleaning t.batch) t.made.1 in
    let inside : t.made.0 < length t.batch.pages = subst (FactsAt sizes (core.passes by)) here (sound.control_facts by).at in
    let at = t.made.2 in
    content.retired.written by number (subst (λ s. IsWrittenBack s number) (sym here) (omega (arith, at), omega (arith, at, inside)))

pub no_subtract_before_the_clean : NoSubtractBeforeTheClean
no_subtract_before_the_clean sizes first core by page found sound may =
    let t = tending sizes (core.passes by) (Subtract page) tt (next_steps_may_come sizes core.values (core.passes by) (ByCleaner (Subtract page)) may.may) in
    let here : (core.passes by).control ≡ Cleaning t.batch (SubtractDirty t.made.0) = t.control ∙ ap (Cleaning t.batch) t.made.1 in
    let inside : t.made.0 < length t.batch.pages = subst (FactsAt sizes (core.passes by)) here (sound.control_facts by).at in
    let looked = (sound.grouped.progress.each by t.batch (SubtractDirty t.made.0) here tt).looked t.made.0 inside in
    (t.batch.reached + t.made.0, record { within = looked.within; kind = looked.kind; page_is = looked.page ∙ sym t.made.2 })

pub no_move_before_the_sync : NoMoveBeforeTheSync
no_move_before_the_sync sizes first opened tails log placed core by calls number batch store content at low high told =
    content.retired.synced by (file_of_page sizes (page_of_number sizes (log.group number) number)) store
    (subst (λ s. IsSynced s (file_of_page sizes (page_of_number sizes (log.group number) number))) (sym at) ((content.progress.each by batch (MoveHeaderTail calls) at tt).stores number low high)) told

pub no_free_before_the_tail : NoFreeBeforeTheTail
no_free_before_the_tail sizes first opened tails log placed core by number found sound content may =
    let hand = frees_hand sizes first core sound by found number (find_kind sizes by core (ByCleaner (Free number)) found may) in
    let at : TailsAt tails (Cleaning hand.batch (FreeEntry number)) = subst (TailsAt tails) hand.control (content.retired.at by) in
    let least = at.0 in let high = hand.high in (omega (arith, least, high), at.1)

-- Alone: pass 0 is alone again when it has taken in the pass that it made.
use Rattle.std.proofs.Common.{◌≡◌, ◌+◌, length, sym, ap, ◌∙◌}
use Rattle.nv_table.specs.invariant.Idle.{IsIdle, IsLater}
use Rattle.nv_table.specs.passes.Alone.{IsAlone}
use Rattle.nv_table.specs.passes.PassesMade.{IsSplit, IsTakenIn}
use Rattle.nv_table.specs.state.States.{PassState}
use Rattle.nv_table.specs.state.Views.{PassView}
use Rattle.nv_table.proofs.steps.CallLaws.{split_made, taken_ended, taken_made}

-- it stays so through calls of its own
pub alone_on : (old new : PassState) → IsLater old new → IsIdle new → IsAlone old.view → IsAlone new.view
alone_on old new later idle alone = record {
  zero = later.number ∙ alone.zero;
  all = ap length later.ended ∙ alone.all ∙ sym (later.made alone.zero);
  free = idle.taken;
}

-- and is so when the other pass is in again
pub alone_again : (old split kept new other back : PassState) → IsAlone old.view → IsSplit old split other → IsLater split kept → IsTakenIn kept back new → IsIdle new → IsAlone new.view
alone_again old split kept new other back alone made later taken idle =
    let split_zero : split.view.number ≡ 0 = ap (λ (p : PassState). p.view.number) made.parent_is ∙ ap (λ (v : PassView). v.number) made.made.is ∙ alone.zero in
    let kept_zero : kept.view.number ≡ 0 = later.number ∙ split_zero in
    let split_ended = ap (λ (p : PassState). length p.view.ended) made.parent_is ∙ ap (λ (v : PassView). length v.ended) made.made.is in
    record {
      zero = ap (λ (p : PassState). p.view.number) taken.is ∙ ap (λ (v : PassView). v.number) taken.taken.is ∙ kept_zero;
      all = taken_ended kept back new taken ∙ ap (λ n. n + 1) (ap length later.ended ∙ split_ended ∙ alone.all)
          ∙ sym (taken_made kept back new taken kept_zero ∙ later.made split_zero ∙ split_made old split other made alone.zero);
      free = idle.taken;
    }

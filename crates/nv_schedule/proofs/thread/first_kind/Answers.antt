-- A vectored call's first step is that of the call that it is made as.
use Rattle.std.proofs.Common.{ℕ, ◌==◌, List, length, not, nat_lt, sym, ap, ◌∙◌}
use Rattle.std.specs.List.{concat, list_any, sum}
use Rattle.nv_schedule.specs.Hands.{kind_at_first}
use Rattle.nv_schedule.proofs.FirstKindLaws.{some_bytes, some_len}
use Rattle.nv_schedule.proofs.thread.first_kind.Goals as goal

pub returns-in-Preadv : goal.returns-in-Preadv
returns-in-Preadv c =
    let lens = c.in-Preadv.lens in
    c.moved_kind.ensures (sum lens) (c.has_some.ensures ∙ ap (list_any (λ (len : ℕ). nat_lt 0 len)) c.as_slice.ensures.lens ∙ some_len lens) ∙ sym (ap kind_at_first c.in-Preadv.is)

pub returns-in-Pwritev : goal.returns-in-Pwritev
returns-in-Pwritev c =
    let parts = c.in-Pwritev.parts in
    c.moved_kind-in-Pwritev.ensures (length (concat parts)) (c.has_bytes.ensures ∙ ap (list_any (λ (part : List ℕ). not (length part == 0))) c.as_slice-in-Pwritev.ensures.parts ∙ some_bytes parts) ∙ sym (ap kind_at_first c.in-Pwritev.is)

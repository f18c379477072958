use Rattle.nv_calls.proofs.reads.AloneLaws.{no_made_read_is_busy, no_read_is_busy}
use Rattle.nv_calls.proofs.alone.a_read_alone_is_not_busy.Goals as goal

pub returns : goal.returns
returns c =
    let alone = c.a_pass_alone_is_not_refused.ensures.alone in
    let locks = c.a_pass_alone_is_not_refused.ensures.locks in
    record { made = no_made_read_is_busy alone locks; reads = no_read_is_busy alone locks }

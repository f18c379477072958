use Rattle.nv_core.proofs.content.KeepsContent.{opening_has_content, events_keep_content, runs_keep_content as runs_keep_content_all}
use Rattle.nv_core.proofs.content_laws.runs_keep_content.Goals as goal

pub returns : goal.returns
returns c =
    let plain = c.files_follow_calls.ensures in
    let laws = c.parts_follow_calls.ensures in
    record { opening = opening_has_content; events = events_keep_content plain laws; runs = runs_keep_content_all plain laws }

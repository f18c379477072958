use Rattle.nv_core.proofs.content.PatchLaws.{pages_are_patched as pages_are_patched_all}
use Rattle.nv_core.proofs.content_laws.pages_are_patched.Goals as goal

pub returns : goal.returns
returns c = pages_are_patched_all c.files_follow_calls.ensures

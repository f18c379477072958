-- Calls as made leave and reply what the calls do.
use Rattle.std.proofs.Common.{◌≡◌, List, [], ◌∷◌, ◌++◌, refl, ap, ◌∙◌}
use Rattle.nv_plain.specs.declared.call.FileCall.{FileCall}
use Rattle.nv_plain.specs.declared.call.FileCall.TheVariants.{Read, Write, Readv, Writev, Sync}
use Rattle.nv_plain.specs.Files.{Files}
use Rattle.nv_plain.specs.Calls.{files_after}
use Rattle.nv_plain.specs.Histories.{Answered, after}
use Rattle.nv_plain.specs.Made.{as_made, IsMadeRight, after_calls, each_made, made_calls}

pub made_right : (call : FileCall) (files : Files) → IsMadeRight call files
made_right (Read file at len) files = record { leaves = refl; replies = refl; within = λ is. is }
made_right (Write file at bytes) files = record { leaves = refl; replies = refl; within = λ is. is }
made_right (Readv file at lens) files = record { leaves = refl; replies = refl; within = λ is. is }
made_right (Writev file at parts) files = record { leaves = refl; replies = refl; within = λ is. is }
made_right (Sync file) files = record { leaves = refl; replies = refl; within = λ is. is }

pub made_alike : (call : FileCall) (files other : Files) → as_made files call ≡ as_made other call
made_alike (Read file at len) files other = refl
made_alike (Write file at bytes) files other = refl
made_alike (Readv file at lens) files other = refl
made_alike (Writev file at parts) files other = refl
made_alike (Sync file) files other = refl

pub history_made_right : (history : List Answered) (files : Files) → after_calls (made_calls files history) files ≡ after history files
history_made_right [] files = refl
history_made_right (answered ∷ later) files =
    let here = (made_right answered.call files).leaves in
    ap (after_calls (made_calls (files_after answered.call files) later)) here
    ∙ history_made_right later (files_after answered.call files)

pub each_made-push : (make : Files → FileCall → FileCall) (earlier : List Answered) (answered : Answered) (files : Files)
    → each_made make files (earlier ++ answered ∷ []) ≡ each_made make files earlier ++ make (after earlier files) answered.call ∷ []
each_made-push make [] answered files = refl
each_made-push make (first ∷ later) answered files =
    ap (λ calls. make files first.call ∷ calls) (each_made-push make later answered (files_after first.call files))

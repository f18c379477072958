-- Histories, one after another.
use Rattle.std.proofs.Common.{◌≡◌, List, [], ◌∷◌, ◌++◌, length, refl, ◌∙◌}
use Rattle.std.proofs.lemmas.List.{length-set}
use Rattle.nv_plain.specs.declared.call.FileCall.{FileCall}
use Rattle.nv_plain.specs.declared.call.FileCall.TheVariants.{Read, Write, Readv, Writev, Sync}
use Rattle.nv_plain.specs.Files.{Files}
use Rattle.nv_plain.specs.Calls.{reply_of, files_after}
use Rattle.nv_plain.specs.Histories.{Answered, after, IsLegal}

pub after-append : (h k : List Answered) (files : Files) → after (h ++ k) files ≡ after k (after h files)
after-append [] k files = refl
after-append (answered ∷ later) k files = after-append later k (files_after answered.call files)

pub IsLegal-append : (h k : List Answered) (files : Files) → IsLegal h files → IsLegal k (after h files) → IsLegal (h ++ k) files
IsLegal-append [] k files first second = second
IsLegal-append (answered ∷ later) k files first second =
    (first.0, IsLegal-append later k (files_after answered.call files) first.1 second)

-- one more call, with the reply that it has on the files so far
pub IsLegal-push : (h : List Answered) (answered : Answered) (files : Files) → IsLegal h files → answered.reply ≡ reply_of answered.call (after h files) → IsLegal (h ++ answered ∷ []) files
IsLegal-push h answered files first reply = IsLegal-append h (answered ∷ []) files first (reply, tt)

-- and back: both parts of a legal history are legal
pub IsLegal-front : (h k : List Answered) (files : Files) → IsLegal (h ++ k) files → IsLegal h files
IsLegal-front [] k files whole = tt
IsLegal-front (answered ∷ later) k files whole = (whole.0, IsLegal-front later k (files_after answered.call files) whole.1)

pub IsLegal-back : (h k : List Answered) (files : Files) → IsLegal (h ++ k) files → IsLegal k (after h files)
IsLegal-back [] k files whole = whole
IsLegal-back (answered ∷ later) k files whole = IsLegal-back later k (files_after answered.call files) whole.1

-- a call keeps the number of files
pub length-files_after : (call : FileCall) (files : Files) → length (files_after call files).contents ≡ length files.contents
length-files_after (Read file at len) files = refl
length-files_after (Write file at bytes) files = length-set files.contents file _
length-files_after (Readv file at lens) files = refl
length-files_after (Writev file at parts) files = length-set files.contents file _
length-files_after (Sync file) files = refl

pub length-after : (h : List Answered) (files : Files) → length (after h files).contents ≡ length files.contents
length-after [] files = refl
length-after (answered ∷ later) files =
    length-after later (files_after answered.call files) ∙ length-files_after answered.call files

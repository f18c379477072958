-- Calls as made: the plain call that a call is made as, and what it answers by that.
use Rattle.std.specs.Prelude.{◌≡◌, ℕ, List, [], ◌∷◌, ◌++◌}
use Rattle.std.specs.List.{concat, sum}
use Rattle.nv_plain.specs.declared.call.FileCall.{FileCall}
use Rattle.nv_plain.specs.declared.call.FileCall.TheVariants.{Read, Write, Readv, Writev, Sync}
use Rattle.nv_plain.specs.declared.call.Reply.{Reply}
use Rattle.nv_plain.specs.declared.call.Reply.TheVariants.{Bytes, Parts}
use Rattle.nv_plain.specs.Files.{Files}
use Rattle.nv_plain.specs.Calls.{filled, reply_of, files_after, IsWithin}
use Rattle.nv_plain.specs.Histories.{Answered, after}

-- ---- one call

-- The plain call that a call is made as on these files: a read, a write or a sync that names the bytes of its file itself. A vectored
-- read is made as one of the sum of its lengths, and a vectored write as one of its parts joined in order.
abbrev pub as_made : Files → FileCall → FileCall
as_made files (Read file at len) = Read file at len
as_made files (Write file at bytes) = Write file at bytes
as_made files (Readv file at lens) = Read file at (sum lens)
as_made files (Writev file at parts) = Write file at (concat parts)
as_made files (Sync file) = Sync file

-- what parts of these lengths get of the bytes that a reply gives
abbrev pub in_parts : (lens : List ℕ) → Reply → Reply
in_parts lens (Bytes bytes) = Parts (filled lens bytes)
in_parts lens reply = reply

-- what a call replies, where the plain call that it is made as replies this
abbrev pub reply_from : FileCall → Reply → Reply
reply_from (Read file at len) reply = reply
reply_from (Write file at bytes) reply = reply
reply_from (Readv file at lens) reply = in_parts lens reply
reply_from (Writev file at parts) reply = reply
reply_from (Sync file) reply = reply

-- A call leaves the files that its plain call leaves, replies by what that one replies, and is within the files where that one is.
pub record IsMadeRight (call : FileCall) (files : Files) : Type 0 where
  pub leaves : files_after (as_made files call) files ≡ files_after call files
  pub replies : reply_from call (reply_of (as_made files call) files) ≡ reply_of call files
  pub within : IsWithin call files → IsWithin (as_made files call) files

abbrev pub CallsAreMadeRight : Type 0
CallsAreMadeRight = (call : FileCall) (files : Files) → IsMadeRight call files

-- A plain call is made as itself.
pub record PlainCallsAreThemselves : Type 0 where
  pub read : (files : Files) (file at len : ℕ) → as_made files (Read file at len) ≡ Read file at len
  pub write : (files : Files) (file at : ℕ) (bytes : List ℕ) → as_made files (Write file at bytes) ≡ Write file at bytes
  pub sync : (files : Files) (file : ℕ) → as_made files (Sync file) ≡ Sync file

-- What a call is made as is the same on all files: it is known before any of them is looked at.
abbrev pub CallsAreMadeAlike : Type 0
CallsAreMadeAlike = (call : FileCall) (files other : Files) → as_made files call ≡ as_made other call

-- ---- some calls, and a history

-- the files after some calls, the first of them first
abbrev pub after_calls : List FileCall → Files → Files
after_calls [] files = files
after_calls (call ∷ later) files = after_calls later (files_after call files)

-- what is made of the calls of a history, each on the files that the earlier calls leave
abbrev pub each_made : (Files → FileCall → FileCall) → Files → List Answered → List FileCall
each_made make files [] = []
each_made make files (answered ∷ later) = make files answered.call ∷ each_made make (files_after answered.call files) later

-- the calls of a history as they were made
abbrev pub made_calls : Files → List Answered → List FileCall
made_calls files history = each_made as_made files history

-- The files after a history are those after its calls as they were made.
abbrev pub HistoriesAreMadeRight : Type 0
HistoriesAreMadeRight = (history : List Answered) (files : Files) → after_calls (made_calls files history) files ≡ after history files

-- One more call is made on the files that the earlier calls leave, whatever is made of calls.
abbrev pub MadeCallsGoOn : Type 0
MadeCallsGoOn =
    (make : Files → FileCall → FileCall) (earlier : List Answered) (answered : Answered) (files : Files)
    → each_made make files (earlier ++ answered ∷ []) ≡ each_made make files earlier ++ make (after earlier files) answered.call ∷ []

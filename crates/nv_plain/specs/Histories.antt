-- Histories of calls on plain files.
use Rattle.std.specs.Prelude.{◌≡◌, ◌↔◌, ℕ, List, [], ◌∷◌, ◌++◌, length}
use Rattle.nv_plain.specs.declared.call.FileCall.{FileCall}
use Rattle.nv_plain.specs.declared.call.Reply.{Reply}
use Rattle.nv_plain.specs.Files.{Files}
use Rattle.nv_plain.specs.Calls.{reply_of, files_after}

-- who called, what, and what it was answered
pub record Answered : Type 0 where
  pub caller : ℕ
  pub call : FileCall
  pub reply : Reply

-- the files after the calls of a history, the first of them first
abbrev pub after : List Answered → Files → Files
after [] files = files
after (answered ∷ later) files = after later (files_after answered.call files)

-- each reply is the one that the call has on the files which the earlier calls leave
abbrev pub IsLegal : List Answered → Files → Type 0
IsLegal [] files = Unit {0}
IsLegal (answered ∷ later) files =
    (answered.reply ≡ reply_of answered.call files) × IsLegal later (files_after answered.call files)

-- One more call, at the end of a history: it acts on the files that the earlier calls leave.
abbrev pub GoesOnFrom : Type 0
GoesOnFrom =
    (earlier : List Answered) (answered : Answered) (files : Files)
    → after (earlier ++ answered ∷ []) files ≡ files_after answered.call (after earlier files)

-- One more call keeps a history legal where its reply is the one that the call has on those files, and nowhere else.
abbrev pub GoesOnLegally : Type 0
GoesOnLegally =
    (earlier : List Answered) (answered : Answered) (files : Files)
    → IsLegal (earlier ++ answered ∷ []) files
    ↔ (IsLegal earlier files × (answered.reply ≡ reply_of answered.call (after earlier files)))

-- No call makes a file or takes one away.
abbrev pub HistoryKeepsFiles : Type 0
HistoryKeepsFiles = (history : List Answered) (files : Files) → length (after history files).contents ≡ length files.contents

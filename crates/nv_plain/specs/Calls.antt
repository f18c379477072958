-- What a call on plain files answers, and the files that it leaves.
use Rattle.std.specs.Prelude.{ℕ, ◌+◌, ◌^◌, ◌<◌, ◌≤◌, List, [], ◌∷◌, length, take, drop}
use Rattle.std.specs.List.{concat, sum}
use Rattle.nv_plain.specs.declared.call.FileCall.{FileCall}
use Rattle.nv_plain.specs.declared.call.FileCall.TheVariants.{Read, Write, Readv, Writev, Sync}
use Rattle.nv_plain.specs.declared.call.Reply.{Reply}
use Rattle.nv_plain.specs.declared.call.Reply.TheVariants.{Bytes, Parts, Count, Done}
use Rattle.nv_plain.specs.Files.{Files, contents_of, with_contents, bytes_at, overwritten}

-- a call's reply, and the files after it
pub record Outcome : Type 0 where
  pub reply : Reply
  pub files : Files

-- What parts of these lengths get of some bytes: they are filled in order, each to its end before the next.
abbrev pub filled : (lens bytes : List ℕ) → List (List ℕ)
filled [] bytes = []
filled (len ∷ lens) bytes = take len bytes ∷ filled lens (drop len bytes)

-- The meaning of a call: a read replies with bytes, a write with how many it wrote, and a sync has nothing to do. A vectored read
-- is one of the sum of its lengths, and a vectored write one of its parts joined in order.
abbrev pub outcome_of : FileCall → Files → Outcome
outcome_of (Read file at len) files = record { reply = Bytes (bytes_at (contents_of files file) at len); files = files }
outcome_of (Write file at bytes) files =
    record { reply = Count (length bytes); files = with_contents files file (overwritten (contents_of files file) at bytes) }
outcome_of (Readv file at lens) files = record { reply = Parts (filled lens (bytes_at (contents_of files file) at (sum lens))); files = files }
outcome_of (Writev file at parts) files =
    record { reply = Count (length (concat parts)); files = with_contents files file (overwritten (contents_of files file) at (concat parts)) }
outcome_of (Sync file) files = record { reply = Done; files = files }

-- the reply of a call on these files
abbrev pub reply_of : FileCall → Files → Reply
reply_of call files = (outcome_of call files).reply

-- the files after a call
abbrev pub files_after : FileCall → Files → Files
files_after call files = (outcome_of call files).files

-- the call's file is there, and it touches no byte at or above 2 ^ 60
abbrev pub IsWithin : FileCall → Files → Type 0
IsWithin (Read file at len) files = (file < length files.contents) × (at + len ≤ 2 ^ 60)
IsWithin (Write file at bytes) files = (file < length files.contents) × (at + length bytes ≤ 2 ^ 60)
IsWithin (Readv file at lens) files = (file < length files.contents) × (at + sum lens ≤ 2 ^ 60)
IsWithin (Writev file at parts) files = (file < length files.contents) × (at + length (concat parts) ≤ 2 ^ 60)
IsWithin (Sync file) files = file < length files.contents

-- the call may take memory: a read copies bytes, a write may make its file longer, and a vectored one joins its parts
abbrev pub MayTakeMemory : FileCall → Files → Type 0
MayTakeMemory (Read file at len) files = Unit {0}
MayTakeMemory (Write file at bytes) files =
    length (contents_of files file) < length (overwritten (contents_of files file) at bytes)
MayTakeMemory (Readv file at lens) files = Unit {0}
MayTakeMemory (Writev file at parts) files = Unit {0}
MayTakeMemory (Sync file) files = ⊥

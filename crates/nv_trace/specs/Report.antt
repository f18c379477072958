-- The report's lines.
use Rattle.std.specs.Prelude.{ℕ, List, [], ◌∷◌, ◌++◌, length, map, codes}
use Rattle.std.specs.List.{flat_map}
use Rattle.std.specs.Fmt.{decimal}
use Rattle.hex.specs.Hex.{encode_lower}
use Rattle.nv_plain.specs.declared.call.Reply.{Reply}
use Rattle.nv_plain.specs.declared.call.Reply.TheVariants.{Bytes, Parts, Count, Done}
use Rattle.nv_trace.specs.declared.trace_call.TraceCall.{TraceCall}
use Rattle.nv_trace.specs.declared.trace_call.TraceCall.TheVariants.{Pread, Pwrite, Preadv, Pwritev, Fsync}
use Rattle.nv_trace.specs.declared.report.Refusal.{Refusal}
use Rattle.nv_trace.specs.declared.report.Refusal.TheVariants.{BadDescriptor, TooFar, TooLong, Stopped, Spent, Again, RegionFault, StoreFault}
use Rattle.nv_trace.specs.declared.report.Fate.{Fate}
use Rattle.nv_trace.specs.declared.report.Fate.TheVariants.{Kept, Lost, Unanswered}

-- some fields, a space between each two
abbrev pub spaced : List (List ℕ) → List ℕ
spaced [] = []
spaced (field ∷ []) = field
spaced (field ∷ next ∷ rest) = field ++ 32 ∷ spaced (next ∷ rest)

-- some texts, a comma between each two
abbrev pub listed : List (List ℕ) → List ℕ
listed [] = []
listed (text ∷ rest) = text ++ flat_map (λ more. 44 ∷ more) rest

-- a line feed behind
abbrev pub line_text : List (List ℕ) → List ℕ
line_text fields = spaced fields ++ 10 ∷ []

-- bytes in lower case hexadecimal; `-` for none
abbrev pub hex_text : List ℕ → List ℕ
hex_text [] = codes "-"
hex_text (byte ∷ bytes) = encode_lower (byte ∷ bytes)

-- the fields of a call
abbrev pub call_fields : TraceCall → List (List ℕ)
call_fields (Pread fd at len) = codes "pread" ∷ decimal fd ∷ decimal at ∷ decimal len ∷ []
call_fields (Pwrite fd at bytes) = codes "pwrite" ∷ decimal fd ∷ decimal at ∷ decimal (length bytes) ∷ []
call_fields (Preadv fd at lens) = codes "preadv" ∷ decimal fd ∷ decimal at ∷ listed (map decimal lens) ∷ []
call_fields (Pwritev fd at parts) = codes "pwritev" ∷ decimal fd ∷ decimal at ∷ listed (map (λ part. decimal (length part)) parts) ∷ []
call_fields (Fsync fd) = codes "fsync" ∷ decimal fd ∷ []

abbrev pub reply_text : Reply → List ℕ
reply_text (Bytes bytes) = hex_text bytes
reply_text (Parts parts) = listed (map hex_text parts)
reply_text (Count count) = decimal count
reply_text Done = codes "0"

-- `PLACE T CALL = REPLY`
unfoldable pub history_text : (place thread : ℕ) → TraceCall → Reply → List ℕ
history_text place thread call reply =
    line_text (decimal place ∷ decimal thread ∷ spaced (call_fields call) ∷ codes "=" ∷ reply_text reply ∷ [])

abbrev pub refusal_text : Refusal → List ℕ
refusal_text BadDescriptor = codes "bad descriptor"
refusal_text TooFar = codes "too far"
refusal_text TooLong = codes "too long"
refusal_text Stopped = codes "stopped"
refusal_text (Spent found) = spaced (codes "spent" ∷ decimal found ∷ [])
refusal_text (Again head tail) = spaced (codes "again" ∷ decimal head ∷ decimal tail ∷ [])
refusal_text RegionFault = codes "region fault"
refusal_text StoreFault = codes "store fault"

-- `refused T CALL: TEXT`
unfoldable pub refused_text : (thread : ℕ) → TraceCall → Refusal → List ℕ
refused_text thread call refusal =
    line_text (codes "refused" ∷ decimal thread ∷ (spaced (call_fields call) ++ codes ":") ∷ refusal_text refusal ∷ [])

abbrev pub fate_text : Fate → List ℕ
fate_text Kept = codes "kept"
fate_text Lost = codes "lost"
fate_text Unanswered = codes "unanswered"

-- `open T CALL: FATE`
unfoldable pub open_text : (thread : ℕ) → TraceCall → Fate → List ℕ
open_text thread call fate =
    line_text (codes "open" ∷ decimal thread ∷ (spaced (call_fields call) ++ codes ":") ∷ fate_text fate ∷ [])

-- `recovered FIRST NEXT GROUPS`
unfoldable pub recovered_text : (first next groups : ℕ) → List ℕ
recovered_text first next groups =
    line_text (codes "recovered" ∷ decimal first ∷ decimal next ∷ decimal groups ∷ [])

-- `file NAME LEN HEX`
unfoldable pub file_text : (name bytes : List ℕ) → List ℕ
file_text name bytes = line_text (codes "file" ∷ name ∷ decimal (length bytes) ∷ hex_text bytes ∷ [])

-- `end PLACED REFUSED OPEN`
unfoldable pub end_text : (placed refused open_calls : ℕ) → List ℕ
end_text placed refused open_calls =
    line_text (codes "end" ∷ decimal placed ∷ decimal refused ∷ decimal open_calls ∷ [])

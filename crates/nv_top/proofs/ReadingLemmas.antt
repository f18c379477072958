-- The text of a report is read back: its lines, and the fields of each.
use Rattle.std.proofs.Common.{◌≡◌, ◌≢◌, ℕ, zero, suc, ◌+◌, ◌/◌, ◌%◌, ◌<◌, Bool, true, false, not, ◌&&◌, cond, eqb, ltb, List, [], ◌∷◌, ◌++◌, length, map, get_or, refl, sym, ap, ◌∙◌, append_assoc, append-nil, true≢false, arith, eq-eqb, ne_eqb}
use Rattle.std.specs.Prelude.{All, codes}
use Rattle.std.specs.List.{flat_map, list_all, AllByRecursion as Each}
use Rattle.std.specs.Fmt.{decimal, digits, digits_onto, digit_glyph}
use Rattle.std.proofs.lemmas.Bool.{and_parts}
use Rattle.std.proofs.lemmas.List.Elements.{recursion_from_All}
use Rattle.std.proofs.lemmas.List.Concat.{flat_map-append}
use Rattle.hex.specs.Hex.{encode_with, lower_digits}
use Rattle.nv_plain.specs.declared.call.Reply.{Reply}
use Rattle.nv_plain.specs.declared.call.Reply.TheVariants.{Bytes, Parts, Count, Done}
use Rattle.nv_trace.specs.declared.trace_call.TraceCall.{TraceCall}
use Rattle.nv_trace.specs.declared.trace_call.TraceCall.TheVariants.{Pread, Pwrite, Preadv, Pwritev, Fsync}
use Rattle.nv_trace.specs.declared.report.Fate.{Fate}
use Rattle.nv_trace.specs.declared.report.Fate.TheVariants.{Kept, Lost, Unanswered}
use Rattle.nv_trace.specs.declared.report.Refusal.{Refusal}
use Rattle.nv_trace.specs.declared.report.Refusal.TheVariants.{BadDescriptor, TooFar, TooLong, Stopped, Spent, Again, RegionFault, StoreFault}
use Rattle.nv_trace.specs.Lines.{onto_first, parts_between, but_last, fields_of, ended_lines}
use Rattle.nv_trace.specs.Report.{spaced, line_text, hex_text, listed, call_fields, reply_text, refusal_text, fate_text, history_text, refused_text, open_text, recovered_text, file_text, end_text}
use Rattle.nv_runner.specs.Histories.{PlacedCall}
use Rattle.nv_runner.specs.Reports.{NamedFile, OpenCall, Report, ShownRefusal, history_lines, refused_lines}
use Rattle.nv_top.specs.Reports.{RecoveryReport, crash_text, ended_lines as ended_text_lines, file_lines, lives_text, open_in_lives, open_lines, placed_in_lives, recovery_text, report_text}
use Rattle.nv_top.specs.Readings.{behind_last, refusal_fields, placed_fields, history_listing, refused_fields, open_fields, recovered_fields, file_fields, end_fields, ended_listing, listing, lives_end_fields, lives_listing, recovery_listing, IsPlainByte, HavePlainNames}

abbrev IsPlain : List ℕ → Type 0
IsPlain text = Each IsPlainByte text

-- a line has some fields, all plain
abbrev IsLine : List (List ℕ) → Type 0
IsLine [] = ⊥
IsLine (field ∷ rest) = IsPlain field × Each IsPlain rest

-- ---- parts

abbrev IsWithout : ℕ → List ℕ → Type 0
IsWithout separator text = Each (λ byte. byte ≢ separator) text

-- what has no separator is a part, with another behind it or as the last
parts_first : (separator : ℕ) (part rest : List ℕ) → IsWithout separator part → parts_between separator (part ++ separator ∷ rest) ≡ part ∷ parts_between separator rest
unfolding parts_between
parts_first separator [] rest none =
    ap (λ test. cond test ([] ∷ parts_between separator rest) (onto_first separator (parts_between separator rest))) (eq-eqb separator separator refl)
parts_first separator (byte ∷ part) rest none =
    ap (λ test. cond test ([] ∷ parts_between separator (part ++ separator ∷ rest)) (onto_first byte (parts_between separator (part ++ separator ∷ rest)))) (ne_eqb byte separator none.0)
    ∙ ap (onto_first byte) (parts_first separator part rest none.1)

parts_alone : (separator : ℕ) (part : List ℕ) → IsWithout separator part → parts_between separator part ≡ part ∷ []
unfolding parts_between
parts_alone separator [] none = refl
parts_alone separator (byte ∷ part) none =
    ap (λ test. cond test ([] ∷ parts_between separator part) (onto_first byte (parts_between separator part))) (ne_eqb byte separator none.0)
    ∙ ap (onto_first byte) (parts_alone separator part none.1)

parts_none : (separator : ℕ) → parts_between separator [] ≡ [] ∷ []
unfolding parts_between
parts_none separator = refl

but_last-push : (parts : List (List ℕ)) (last : List ℕ) → but_last (parts ++ last ∷ []) ≡ parts
but_last-push [] last = refl
but_last-push (first ∷ []) last = refl
but_last-push (first ∷ second ∷ rest) last = ap (λ parts. first ∷ parts) (but_last-push (second ∷ rest) last)

-- ---- plain text

without_space : (text : List ℕ) → IsPlain text → IsWithout 32 text
without_space [] plain = tt
without_space (byte ∷ text) plain = (plain.0.0, without_space text plain.1)

without_feed : (text : List ℕ) → IsPlain text → IsWithout 10 text
without_feed [] plain = tt
without_feed (byte ∷ text) plain = (plain.0.1, without_feed text plain.1)

each-append : {X : Type 0} (P : X → Type 0) (front back : List X) → Each P front → Each P back → Each P (front ++ back)
each-append P [] back p q = q
each-append P (x ∷ front) back p q = (p.0, each-append P front back p.1 q)

-- ---- a line and its fields

spaced_without_feed : (fields : List (List ℕ)) → Each IsPlain fields → IsWithout 10 (spaced fields)
spaced_without_feed [] plain = tt
spaced_without_feed (field ∷ []) plain = without_feed field plain.0
spaced_without_feed (field ∷ next ∷ rest) plain =
    each-append (λ byte. byte ≢ 10) field (32 ∷ spaced (next ∷ rest)) (without_feed field plain.0) ((omega arith), spaced_without_feed (next ∷ rest) plain.1)

spaced_read : (field : List ℕ) (rest : List (List ℕ)) → IsPlain field → Each IsPlain rest → fields_of (spaced (field ∷ rest)) ≡ field ∷ rest
spaced_read field [] p q = parts_alone 32 field (without_space field p)
spaced_read field (next ∷ rest) p q =
    parts_first 32 field (spaced (next ∷ rest)) (without_space field p) ∙ ap (λ fields. field ∷ fields) (spaced_read next rest q.0 q.1)

line_read : (fields : List (List ℕ)) → IsLine fields → fields_of (spaced fields) ≡ fields
line_read [] h = absurd h
line_read (field ∷ rest) h = spaced_read field rest h.0 h.1

line_without_feed : (fields : List (List ℕ)) → IsLine fields → IsWithout 10 (spaced fields)
line_without_feed [] h = absurd h
line_without_feed (field ∷ rest) h = spaced_without_feed (field ∷ rest) h

-- ---- a text and its lines

-- the text of some lines
abbrev lines_text : List (List (List ℕ)) → List ℕ
lines_text lines = flat_map line_text lines

-- each line's feed ends a part, and nothing is behind the last
parts_of_lines : (lines : List (List (List ℕ))) → Each IsLine lines → parts_between 10 (lines_text lines) ≡ map spaced lines ++ [] ∷ []
parts_of_lines [] h = parts_none 10
parts_of_lines (line ∷ lines) h =
    ap (parts_between 10) (append_assoc (spaced line) (10 ∷ []) (lines_text lines))
    ∙ parts_first 10 (spaced line) (lines_text lines) (line_without_feed line h.0)
    ∙ ap (λ parts. spaced line ∷ parts) (parts_of_lines lines h.1)

lines_read : (lines : List (List (List ℕ))) → Each IsLine lines → map fields_of (map spaced lines) ≡ lines
lines_read [] h = refl
lines_read (line ∷ lines) h =
    ap (λ fields. fields ∷ map fields_of (map spaced lines)) (line_read line h.0) ∙ ap (λ rest. line ∷ rest) (lines_read lines h.1)

text_read : (lines : List (List (List ℕ))) → Each IsLine lines → map fields_of (ended_lines (lines_text lines)) ≡ lines
text_read lines h =
    ap (λ parts. map fields_of (but_last parts)) (parts_of_lines lines h)
    ∙ ap (map fields_of) (but_last-push (map spaced lines) [])
    ∙ lines_read lines h

-- ---- each line's text is that of its fields

placed_line : (place thread : ℕ) (call : TraceCall) (reply : Reply) → history_text place thread call reply ≡ line_text (decimal place ∷ decimal thread ∷ (call_fields call ++ codes "=" ∷ reply_text reply ∷ []))
unfolding history_text
placed_line place thread (Pread fd at len) reply = simp append_assoc
placed_line place thread (Pwrite fd at bytes) reply = simp append_assoc
placed_line place thread (Preadv fd at lens) reply = simp append_assoc
placed_line place thread (Pwritev fd at parts) reply = simp append_assoc
placed_line place thread (Fsync fd) reply = simp append_assoc

-- the words of a refusal, behind another field
refusal_line : (field : List ℕ) (refusal : Refusal) → spaced (field ∷ refusal_fields refusal) ≡ field ++ 32 ∷ refusal_text refusal
refusal_line field BadDescriptor = refl
refusal_line field TooFar = refl
refusal_line field TooLong = refl
refusal_line field Stopped = refl
refusal_line field (Spent found) = refl
refusal_line field (Again head tail) = refl
refusal_line field RegionFault = refl
refusal_line field StoreFault = refl

-- fields with the same text, behind others
spaced_same : (front : List (List ℕ)) (field : List ℕ) (some other : List (List ℕ)) → spaced (field ∷ some) ≡ spaced (field ∷ other) → spaced (front ++ field ∷ some) ≡ spaced (front ++ field ∷ other)
spaced_same [] field some other same = same
spaced_same (first ∷ []) field some other same = ap (λ text. first ++ 32 ∷ text) same
spaced_same (first ∷ second ∷ rest) field some other same = ap (λ text. first ++ 32 ∷ text) (spaced_same (second ∷ rest) field some other same)

-- a call, and a text behind a colon
call_line : (word : List ℕ) (thread : ℕ) (call : TraceCall) (text : List ℕ)
    → line_text (word ∷ decimal thread ∷ (spaced (call_fields call) ++ codes ":") ∷ text ∷ []) ≡ line_text (word ∷ decimal thread ∷ (behind_last (call_fields call) (codes ":") ++ text ∷ []))
call_line word thread (Pread fd at len) text = simp append_assoc
call_line word thread (Pwrite fd at bytes) text = simp append_assoc
call_line word thread (Preadv fd at lens) text = simp append_assoc
call_line word thread (Pwritev fd at parts) text = simp append_assoc
call_line word thread (Fsync fd) text = simp append_assoc

refused_line : (thread : ℕ) (call : TraceCall) (refusal : Refusal) → refused_text thread call refusal ≡ line_text (codes "refused" ∷ decimal thread ∷ (behind_last (call_fields call) (codes ":") ++ refusal_fields refusal))
unfolding refused_text
refused_line thread call refusal =
    call_line (codes "refused") thread call (refusal_text refusal) ∙ ap (λ text. text ++ 10 ∷ []) (words call)
  where
    words : (call : TraceCall)
        → spaced (codes "refused" ∷ decimal thread ∷ (behind_last (call_fields call) (codes ":") ++ refusal_text refusal ∷ []))
        ≡ spaced (codes "refused" ∷ decimal thread ∷ (behind_last (call_fields call) (codes ":") ++ refusal_fields refusal))
    words (Pread fd at len) =
        spaced_same (codes "refused" ∷ decimal thread ∷ codes "pread" ∷ decimal fd ∷ decimal at ∷ []) (decimal len ++ codes ":")
        (refusal_text refusal ∷ []) (refusal_fields refusal) (sym (refusal_line (decimal len ++ codes ":") refusal))
    words (Pwrite fd at bytes) =
        spaced_same (codes "refused" ∷ decimal thread ∷ codes "pwrite" ∷ decimal fd ∷ decimal at ∷ []) (decimal (length bytes) ++ codes ":")
        (refusal_text refusal ∷ []) (refusal_fields refusal) (sym (refusal_line (decimal (length bytes) ++ codes ":") refusal))
    words (Preadv fd at lens) =
        let listing = listed (map decimal lens) in
        spaced_same (codes "refused" ∷ decimal thread ∷ codes "preadv" ∷ decimal fd ∷ decimal at ∷ []) (listing ++ codes ":")
        (refusal_text refusal ∷ []) (refusal_fields refusal) (sym (refusal_line (listing ++ codes ":") refusal))
    words (Pwritev fd at parts) =
        let listing = listed (map (λ part. decimal (length part)) parts) in
        spaced_same (codes "refused" ∷ decimal thread ∷ codes "pwritev" ∷ decimal fd ∷ decimal at ∷ []) (listing ++ codes ":")
        (refusal_text refusal ∷ []) (refusal_fields refusal) (sym (refusal_line (listing ++ codes ":") refusal))
    words (Fsync fd) =
        spaced_same (codes "refused" ∷ decimal thread ∷ codes "fsync" ∷ []) (decimal fd ++ codes ":")
        (refusal_text refusal ∷ []) (refusal_fields refusal) (sym (refusal_line (decimal fd ++ codes ":") refusal))

left_line : (thread : ℕ) (call : TraceCall) (fate : Fate) → open_text thread call fate ≡ line_text (codes "open" ∷ decimal thread ∷ (behind_last (call_fields call) (codes ":") ++ fate_text fate ∷ []))
unfolding open_text
left_line thread call fate = call_line (codes "open") thread call (fate_text fate)

history_text_is : (place : ℕ) (history : List PlacedCall) → history_lines place history ≡ lines_text (history_listing place history)
history_text_is place [] = refl
history_text_is place (placed ∷ later) =
    ap (λ text. text ++ history_lines (place + 1) later) (placed_line place placed.call.thread placed.call.call placed.reply)
    ∙ ap (λ text. line_text (placed_fields place placed) ++ text) (history_text_is (place + 1) later)

refused_text_is : (refused : List ShownRefusal) → refused_lines refused ≡ lines_text (map refused_fields refused)
refused_text_is [] = refl
refused_text_is (first ∷ rest) =
    ap (λ text. text ++ refused_lines rest) (refused_line first.call.thread first.call.call first.refusal)
    ∙ ap (λ text. line_text (refused_fields first) ++ text) (refused_text_is rest)

open_text_is : (open_calls : List OpenCall) → open_lines open_calls ≡ lines_text (map open_fields open_calls)
open_text_is [] = refl
open_text_is (first ∷ rest) =
    ap (λ text. text ++ open_lines rest) (left_line first.call.thread first.call.call first.fate)
    ∙ ap (λ text. line_text (open_fields first) ++ text) (open_text_is rest)

file_text_is : (files : List NamedFile) → file_lines files ≡ lines_text (map file_fields files)
unfolding file_text
file_text_is [] = refl
file_text_is (file ∷ files) = ap (λ text. line_text (file_fields file) ++ text) (file_text_is files)

lines_text-five : (ws xs ys zs : List (List (List ℕ))) (last : List (List ℕ)) → lines_text (ws ++ xs ++ ys ++ zs ++ last ∷ []) ≡ lines_text ws ++ lines_text xs ++ lines_text ys ++ lines_text zs ++ line_text last
lines_text-five ws xs ys zs last =
    flat_map-append line_text (ws ++ xs ++ ys ++ zs) (last ∷ [])
    ∙ ap (λ text. lines_text (ws ++ xs ++ ys ++ zs) ++ text) (append-nil (line_text last))
    ∙ ap (λ text. text ++ line_text last) (flat_map-append line_text (ws ++ xs ++ ys) zs)
    ∙ ap (λ text. text ++ lines_text zs ++ line_text last) (flat_map-append line_text (ws ++ xs) ys)
    ∙ ap (λ text. text ++ lines_text ys ++ lines_text zs ++ line_text last) (flat_map-append line_text ws xs)

report_text_is : (report : Report) → report_text report ≡ lines_text (listing report)
unfolding report_text end_text
report_text_is report =
    let placed = history_listing 0 report.history in
    let refused = map refused_fields report.refused in
    let left = map open_fields report.open_calls in
    let files = map file_fields report.files in
    let last = end_fields report in
    ap (λ text. text ++ refused_lines report.refused ++ open_lines report.open_calls ++ file_lines report.files ++ line_text last) (history_text_is 0 report.history)
    ∙ ap (λ text. lines_text placed ++ text ++ open_lines report.open_calls ++ file_lines report.files ++ line_text last) (refused_text_is report.refused)
    ∙ ap (λ text. lines_text placed ++ lines_text refused ++ text ++ file_lines report.files ++ line_text last) (open_text_is report.open_calls)
    ∙ ap (λ text. lines_text placed ++ lines_text refused ++ lines_text left ++ text ++ line_text last) (file_text_is report.files)
    ∙ sym (lines_text-five placed refused left files last)

lines_text-four : (ws xs : List (List (List ℕ))) (one : List (List ℕ)) (rest : List (List (List ℕ))) → lines_text (ws ++ xs ++ one ∷ rest) ≡ lines_text ws ++ lines_text xs ++ line_text one ++ lines_text rest
lines_text-four ws xs one rest =
    flat_map-append line_text (ws ++ xs) (one ∷ rest) ∙ ap (λ text. text ++ (line_text one ++ lines_text rest)) (flat_map-append line_text ws xs)
    ∙ sym (append_assoc (lines_text ws ++ lines_text xs) (line_text one) (lines_text rest))

ended_text_is : (place : ℕ) (ended : List Report) → ended_text_lines place ended ≡ lines_text (ended_listing place ended)
unfolding crash_text
ended_text_is place [] = refl
ended_text_is place (life ∷ later) =
    let placed = history_listing place life.history in
    let left = map open_fields life.open_calls in
    let rest = ended_listing (place + length life.history) later in
    ap (λ text. text ++ open_lines life.open_calls ++ crash_text ++ ended_text_lines (place + length life.history) later) (history_text_is place life.history)
    ∙ ap (λ text. lines_text placed ++ text ++ crash_text ++ ended_text_lines (place + length life.history) later) (open_text_is life.open_calls)
    ∙ ap (λ text. lines_text placed ++ lines_text left ++ crash_text ++ text) (ended_text_is (place + length life.history) later)
    ∙ sym (lines_text-four placed left (codes "crash" ∷ []) rest)

lives_text_is : (ended : List Report) (refused : List ShownRefusal) (last : Report) → lives_text ended refused last ≡ lines_text (lives_listing ended refused last)
unfolding lives_text end_text
lives_text_is ended refused last =
    let before = ended_listing 0 ended in
    let placed = history_listing (placed_in_lives ended) last.history in
    let said = map refused_fields refused in
    let left = map open_fields last.open_calls in
    let files = map file_fields last.files in
    let end = lives_end_fields ended refused last in
    ap (λ text. text ++ history_lines (placed_in_lives ended) last.history ++ refused_lines refused ++ open_lines last.open_calls ++ file_lines last.files ++ line_text end) (ended_text_is 0 ended)
    ∙ ap (λ text. lines_text before ++ text ++ refused_lines refused ++ open_lines last.open_calls ++ file_lines last.files ++ line_text end) (history_text_is (placed_in_lives ended) last.history)
    ∙ ap (λ text. lines_text before ++ lines_text placed ++ text ++ open_lines last.open_calls ++ file_lines last.files ++ line_text end) (refused_text_is refused)
    ∙ ap (λ text. lines_text before ++ lines_text placed ++ lines_text said ++ text ++ file_lines last.files ++ line_text end) (open_text_is last.open_calls)
    ∙ ap (λ text. lines_text before ++ lines_text placed ++ lines_text said ++ lines_text left ++ text ++ line_text end) (file_text_is last.files)
    ∙ ap (λ text. text ++ lines_text said ++ lines_text left ++ lines_text files ++ line_text end) (sym (flat_map-append line_text before placed))
    ∙ sym (lines_text-five (before ++ placed) said left files end)

recovery_text_is : (report : RecoveryReport) → recovery_text report ≡ lines_text (recovery_listing report)
unfolding recovery_text recovered_text
recovery_text_is report = ap (λ text. line_text (recovered_fields report) ++ text) (file_text_is report.files)

-- ---- the fields of a report are plain

-- a plain byte, as a test
abbrev is_plain_byte : ℕ → Bool
is_plain_byte byte = not (eqb byte 32) && not (eqb byte 10)

not_equal : (byte other : ℕ) → not (eqb byte other) ≡ true → byte ≢ other
not_equal byte other test same = true≢false (sym test ∙ ap not (eq-eqb byte other same))

-- a word passes by computation
word : (text : List ℕ) → list_all is_plain_byte text ≡ true → IsPlain text
word [] test = tt
word (byte ∷ text) test =
    let parts = and_parts (is_plain_byte byte) (list_all is_plain_byte text) test in
    let here = and_parts (not (eqb byte 32)) (not (eqb byte 10)) parts.0 in
    ((not_equal byte 32 here.0, not_equal byte 10 here.1), word text parts.1)

plain_sum : (low digit : ℕ) → 32 < low → IsPlainByte (low + digit)
plain_sum low digit h = ((λ e. omega arith), (λ e. omega arith))

glyph_plain : (test upper : Bool) (digit : ℕ) → IsPlainByte (cond test (48 + digit) (cond upper (55 + digit) (87 + digit)))
glyph_plain true upper digit = plain_sum 48 digit (omega arith)
glyph_plain false true digit = plain_sum 55 digit (omega arith)
glyph_plain false false digit = plain_sum 87 digit (omega arith)

either_plain : (test : Bool) (some other : List ℕ) → IsPlain some → IsPlain other → IsPlain (cond test some other)
either_plain true some other p q = p
either_plain false some other p q = q

-- whatever the number: no bound is needed
digits_onto_plain : (most base number : ℕ) (behind : List ℕ) → IsPlain behind → IsPlain (digits_onto most base false number behind)
digits_onto_plain zero base number behind plain = plain
digits_onto_plain (suc most) base number behind plain =
    let more : IsPlain (digit_glyph false (number % base) ∷ behind) = (glyph_plain (ltb (number % base) 10) false (number % base), plain) in
    either_plain (eqb (number / base) 0) _ _ more (digits_onto_plain most base (number / base) (digit_glyph false (number % base) ∷ behind) more)

decimal_plain : (number : ℕ) → IsPlain (decimal number)
unfolding digits
decimal_plain number = digits_onto_plain 64 10 number [] tt

-- past the end of the text the byte read is 0, which is plain too
plain_at : (text : List ℕ) → IsPlain text → (i : ℕ) → IsPlainByte (get_or text i 0)
plain_at [] plain i = ((λ e. omega arith), (λ e. omega arith))
plain_at (byte ∷ text) plain zero = plain.0
plain_at (byte ∷ text) plain (suc i) = plain_at text plain.1 i

encode_plain : (table bytes : List ℕ) → IsPlain table → IsPlain (encode_with table bytes)
unfolding encode_with
encode_plain table [] plain = tt
encode_plain table (byte ∷ bytes) plain = (plain_at table plain (byte / 16), (plain_at table plain (byte % 16), encode_plain table bytes plain))

hex_plain : (bytes : List ℕ) → IsPlain (hex_text bytes)
hex_plain [] = word (codes "-") refl
hex_plain (byte ∷ bytes) = encode_plain lower_digits (byte ∷ bytes) (word lower_digits refl)

listed_plain : {X : Type 0} (text : X → List ℕ) → ((x : X) → IsPlain (text x)) → (xs : List X) → IsPlain (listed (map text xs))
listed_plain text plain [] = tt
listed_plain {X = X} text plain (x ∷ xs) = each-append IsPlainByte (text x) _ (plain x) (more_plain xs)
  where
    more_plain : (rest : List X) → IsPlain (flat_map (λ more. 44 ∷ more) (map text rest))
    more_plain [] = tt
    more_plain (one ∷ rest) = (((λ e. omega (arith, e)), (λ e. omega (arith, e))), each-append IsPlainByte (text one) _ (plain one) (more_plain rest))

reply_plain : (reply : Reply) → IsPlain (reply_text reply)
reply_plain (Bytes bytes) = hex_plain bytes
reply_plain (Parts parts) = listed_plain hex_text hex_plain parts
reply_plain (Count count) = decimal_plain count
reply_plain Done = word (codes "0") refl

call_plain : (call : TraceCall) → Each IsPlain (call_fields call)
call_plain (Pread fd at len) = (word (codes "pread") refl, (decimal_plain fd, (decimal_plain at, (decimal_plain len, tt))))
call_plain (Pwrite fd at bytes) = (word (codes "pwrite") refl, (decimal_plain fd, (decimal_plain at, (decimal_plain (length bytes), tt))))
call_plain (Preadv fd at lens) = (word (codes "preadv") refl, (decimal_plain fd, (decimal_plain at, (listed_plain decimal decimal_plain lens, tt))))
call_plain (Pwritev fd at parts) =
    (word (codes "pwritev") refl, (decimal_plain fd, (decimal_plain at, (listed_plain (λ (part : List ℕ). decimal (length part)) (λ part. decimal_plain (length part)) parts, tt))))
call_plain (Fsync fd) = (word (codes "fsync") refl, (decimal_plain fd, tt))

behind_plain : (fields : List (List ℕ)) (text : List ℕ) → Each IsPlain fields → IsPlain text → Each IsPlain (behind_last fields text)
behind_plain [] text p q = tt
behind_plain (last ∷ []) text p q = (each-append IsPlainByte last text p.0 q, tt)
behind_plain (first ∷ second ∷ rest) text p q = (p.0, behind_plain (second ∷ rest) text p.1 q)

refusal_plain : (refusal : Refusal) → Each IsPlain (refusal_fields refusal)
refusal_plain BadDescriptor = (word (codes "bad") refl, (word (codes "descriptor") refl, tt))
refusal_plain TooFar = (word (codes "too") refl, (word (codes "far") refl, tt))
refusal_plain TooLong = (word (codes "too") refl, (word (codes "long") refl, tt))
refusal_plain Stopped = (word (codes "stopped") refl, tt)
refusal_plain (Spent found) = (word (codes "spent") refl, (decimal_plain found, tt))
refusal_plain (Again head tail) = (word (codes "again") refl, (decimal_plain head, (decimal_plain tail, tt)))
refusal_plain RegionFault = (word (codes "region") refl, (word (codes "fault") refl, tt))
refusal_plain StoreFault = (word (codes "store") refl, (word (codes "fault") refl, tt))

fate_plain : (fate : Fate) → IsPlain (fate_text fate)
fate_plain Kept = word (codes "kept") refl
fate_plain Lost = word (codes "lost") refl
fate_plain Unanswered = word (codes "unanswered") refl

placed_plain : (place : ℕ) (placed : PlacedCall) → IsLine (placed_fields place placed)
placed_plain place placed = (
  decimal_plain place,
  (
    decimal_plain placed.call.thread,
    each-append IsPlain (call_fields placed.call.call) (codes "=" ∷ reply_text placed.reply ∷ []) (call_plain placed.call.call)
        (word (codes "=") refl, (reply_plain placed.reply, tt)),
  ),
)

refused_plain : (refused : ShownRefusal) → IsLine (refused_fields refused)
refused_plain refused = (
  word (codes "refused") refl,
  (
    decimal_plain refused.call.thread,
    each-append IsPlain (behind_last (call_fields refused.call.call) (codes ":")) (refusal_fields refused.refusal)
        (behind_plain (call_fields refused.call.call) (codes ":") (call_plain refused.call.call) (word (codes ":") refl))
        (refusal_plain refused.refusal),
  ),
)

open_plain : (o : OpenCall) → IsLine (open_fields o)
open_plain o = (
  word (codes "open") refl,
  (
    decimal_plain o.call.thread,
    each-append IsPlain (behind_last (call_fields o.call.call) (codes ":")) (fate_text o.fate ∷ [])
        (behind_plain (call_fields o.call.call) (codes ":") (call_plain o.call.call) (word (codes ":") refl))
        (fate_plain o.fate, tt),
  ),
)

recovered_plain : (report : RecoveryReport) → IsLine (recovered_fields report)
recovered_plain report =
    (word (codes "recovered") refl, (decimal_plain report.first, (decimal_plain report.next, (decimal_plain report.groups, tt))))

file_plain : (file : NamedFile) → IsPlain file.name → IsLine (file_fields file)
file_plain file plain = (word (codes "file") refl, (plain, (decimal_plain (length file.bytes), (hex_plain file.bytes, tt))))

end_plain : (report : Report) → IsLine (end_fields report)
end_plain report =
    (word (codes "end") refl, (decimal_plain (length report.history), (decimal_plain (length report.refused), (decimal_plain (length report.open_calls), tt))))

history_plain : (place : ℕ) (history : List PlacedCall) → Each IsLine (history_listing place history)
history_plain place [] = tt
history_plain place (placed ∷ later) = (placed_plain place placed, history_plain (place + 1) later)

all_refused_plain : (refused : List ShownRefusal) → Each IsLine (map refused_fields refused)
all_refused_plain [] = tt
all_refused_plain (first ∷ rest) = (refused_plain first, all_refused_plain rest)

all_open_plain : (open_calls : List OpenCall) → Each IsLine (map open_fields open_calls)
all_open_plain [] = tt
all_open_plain (first ∷ rest) = (open_plain first, all_open_plain rest)

all_files_plain : (files : List NamedFile) → Each (λ (file : NamedFile). All IsPlainByte file.name) files → Each IsLine (map file_fields files)
all_files_plain [] plain = tt
all_files_plain (file ∷ files) plain = (file_plain file (recursion_from_All IsPlainByte file.name plain.0), all_files_plain files plain.1)

files_plain : (files : List NamedFile) → HavePlainNames files → Each IsLine (map file_fields files)
files_plain files plain =
    all_files_plain files (recursion_from_All (λ (file : NamedFile). All IsPlainByte file.name) files plain)

listing_plain : (report : Report) → HavePlainNames report.files → Each IsLine (listing report)
listing_plain report plain =
    let placed = history_listing 0 report.history in
    let refused = map refused_fields report.refused in
    let left = map open_fields report.open_calls in
    let files = map file_fields report.files in
    each-append IsLine (placed ++ refused ++ left ++ files) (end_fields report ∷ [])
    (each-append IsLine (placed ++ refused ++ left) files
    (each-append IsLine (placed ++ refused) left
    (each-append IsLine placed refused (history_plain 0 report.history) (all_refused_plain report.refused)) (all_open_plain report.open_calls))
    (files_plain report.files plain))
    (end_plain report, tt)

ended_plain : (place : ℕ) (ended : List Report) → Each IsLine (ended_listing place ended)
ended_plain place [] = tt
ended_plain place (life ∷ later) =
    let placed = history_listing place life.history in
    let left = map open_fields life.open_calls in
    each-append IsLine (placed ++ left) ((codes "crash" ∷ []) ∷ ended_listing (place + length life.history) later)
    (each-append IsLine placed left (history_plain place life.history) (all_open_plain life.open_calls))
    ((word (codes "crash") refl, tt), ended_plain (place + length life.history) later)

lives_end_plain : (ended : List Report) (refused : List ShownRefusal) (last : Report) → IsLine (lives_end_fields ended refused last)
lives_end_plain ended refused last =
    (word (codes "end") refl, (decimal_plain (placed_in_lives ended + length last.history), (decimal_plain (length refused), (decimal_plain (open_in_lives ended + length last.open_calls), tt))))

lives_plain : (ended : List Report) (refused : List ShownRefusal) (last : Report) → HavePlainNames last.files → Each IsLine (lives_listing ended refused last)
lives_plain ended refused last plain =
    let placed = history_listing (placed_in_lives ended) last.history in
    let said = map refused_fields refused in
    let left = map open_fields last.open_calls in
    let files = map file_fields last.files in
    let end = lives_end_fields ended refused last ∷ [] in
    let before = ended_listing 0 ended in
    each-append IsLine (before ++ placed ++ said ++ left ++ files) end
    (each-append IsLine (before ++ placed ++ said ++ left) files
    (each-append IsLine (before ++ placed ++ said) left
    (each-append IsLine (before ++ placed) said
    (each-append IsLine before placed (ended_plain 0 ended) (history_plain (placed_in_lives ended) last.history)) (all_refused_plain refused)) (all_open_plain last.open_calls))
    (files_plain last.files plain))
    (lives_end_plain ended refused last, tt)

-- ---- the text of a report is read back

report_read : (report : Report) → HavePlainNames report.files → map fields_of (ended_lines (report_text report)) ≡ listing report
report_read report plain =
    ap (λ text. map fields_of (ended_lines text)) (report_text_is report) ∙ text_read (listing report) (listing_plain report plain)

pub one_reading : (report other : Report) → HavePlainNames report.files → HavePlainNames other.files → report_text report ≡ report_text other → listing report ≡ listing other
one_reading report other p q same =
    sym (report_read report p) ∙ (ap (λ text. map fields_of (ended_lines text)) same ∙ report_read other q)

lives_read : (ended : List Report) (refused : List ShownRefusal) (last : Report) → HavePlainNames last.files → map fields_of (ended_lines (lives_text ended refused last)) ≡ lives_listing ended refused last
lives_read ended refused last plain =
    ap (λ text. map fields_of (ended_lines text)) (lives_text_is ended refused last) ∙ text_read (lives_listing ended refused last) (lives_plain ended refused last plain)

pub one_lives_reading : (ended others : List Report) (refused rejected : List ShownRefusal) (last final : Report) → HavePlainNames last.files → HavePlainNames final.files
    → lives_text ended refused last ≡ lives_text others rejected final → lives_listing ended refused last ≡ lives_listing others rejected final
one_lives_reading ended others refused rejected last final p q same =
    sym (lives_read ended refused last p) ∙ (ap (λ text. map fields_of (ended_lines text)) same ∙ lives_read others rejected final q)

recovery_read : (report : RecoveryReport) → HavePlainNames report.files → map fields_of (ended_lines (recovery_text report)) ≡ recovery_listing report
recovery_read report plain =
    ap (λ text. map fields_of (ended_lines text)) (recovery_text_is report)
    ∙ text_read (recovery_listing report) (recovered_plain report, files_plain report.files plain)

pub one_recovery_reading : (report other : RecoveryReport) → HavePlainNames report.files → HavePlainNames other.files → recovery_text report ≡ recovery_text other → recovery_listing report ≡ recovery_listing other
one_recovery_reading report other p q same =
    sym (recovery_read report p) ∙ (ap (λ text. map fields_of (ended_lines text)) same ∙ recovery_read other q)

-- What the fields of a line have to be, and what must have come before, where they say something.
use Rattle.std.proofs.Common.{◌≡◌, ℕ, Bool, true, false, ◌&&◌, ◌==◌, cond, leb, ltb, not, List, [], ◌∷◌, codes, length, Result, Ok, Err, refl}
use Rattle.std.specs.Prelude.{IfOk}
use Rattle.std.specs.List.{list_any}
use Rattle.nv_plain.specs.Layouts.{mount_layout}
use Rattle.nv_plain.specs.Names.{is_name}
use Rattle.nv_plain.specs.declared.mode.Mode.{Mode}
use Rattle.nv_trace.specs.Grammar.{and_then, mode_of, most_descriptors, most_files, says}
use Rattle.nv_trace.specs.Forms.{has_rounds}
use Rattle.nv_trace.specs.Said.{fill_of, is_keyword, made_by, new_descriptor, new_name, read_of, said, said_by, said_file, said_place, sync_of, thread_of, turn_of, vectored_read_of, vectored_write_of, write_of}
use Rattle.nv_trace.specs.Traced.{Traced, has_begun}
use Rattle.nv_trace.specs.declared.bad_line.Why.{Why}
use Rattle.nv_trace.specs.declared.bad_line.Why.TheVariants.{Form as BadForm, Late, Many, Name as BadName, Repeat}
use Rattle.nv_trace.specs.declared.statement.Statement.{Statement}
use Rattle.nv_trace.specs.declared.statement.Statement.TheVariants.{File, Opened, Call, Round}
use Rattle.nv_trace.specs.declared.trace_call.TraceCall.{TraceCall}

pub if_cond : {A : Type 0} (test : Bool) (a b : Result A Why) (P : A → Type 0) → (test ≡ true → IfOk a P) → (test ≡ false → IfOk b P) → IfOk (cond test a b) P
if_cond true a b P p q = p refl
if_cond false a b P p q = q refl

pub then_ok : {A B : Type 0} (f : A → Result B Why) (read : Result A Why) (P : B → Type 0) → IfOk read (λ a. IfOk (f a) P) → IfOk (and_then f read) P
then_ok f (Ok a) P p = p
then_ok f (Err why) P p = tt

pub always : {A : Type 0} (read : Result A Why) (P : A → Type 0) → ((a : A) → P a) → IfOk read P
always (Ok a) P p = p a
always (Err why) P p = tt

and_left : (a b : Bool) → (a && b) ≡ true → a ≡ true
and_left true b both = refl
and_left false b both = both

-- a statement declares only where nothing has begun, and ends a round only as that word alone
abbrev pub FitsAs : Traced → List (List ℕ) → Statement → Type 0
FitsAs trace fields (File name) = has_begun trace ≡ false
FitsAs trace fields (Opened descriptor) = has_begun trace ≡ false
FitsAs trace fields (Call thread call) = Unit {0}
FitsAs trace fields Round = (word : List ℕ) × (fields ≡ word ∷ []) × (says word (codes "round") ≡ true)

module _ (trace : Traced) (fields : List (List ℕ)) where
  call_fits : (thread : Result ℕ Why) (called : Result TraceCall Why) → IfOk (and_then (λ thread. and_then (λ call. Ok (Call thread call)) called) thread) (FitsAs trace fields)
  call_fits (Ok thread) (Ok call) = tt
  call_fits (Ok thread) (Err why) = tt
  call_fits (Err why) called = tt

  called_fits : (test : Bool) (thread : Result ℕ Why) (called : Result TraceCall Why) (other : Result Statement Why) → IfOk other (FitsAs trace fields)
      → IfOk (cond test (and_then (λ thread. and_then (λ call. Ok (Call thread call)) called) thread) other) (FitsAs trace fields)
  called_fits true thread called other fits = call_fits thread called
  called_fits false thread called other fits = fits

  abbrev behind_late : List ℕ → Result (List ℕ) Why
  behind_late name =
      cond (leb most_files (length trace.names)) (Err Many)
      (cond (not (is_name mount_layout.name_limit name)) (Err BadName) (cond (ltb (said_place name trace.names) (length trace.names)) (Err Repeat) (Ok name)))

  name_fits : (name : List ℕ) → IfOk (new_name trace name) (λ _. has_begun trace ≡ false)
  unfolding new_name
  name_fits name = if_cond (has_begun trace) (Err Late) (behind_late name) (λ _. has_begun trace ≡ false) (λ _. tt) (λ early. always (behind_late name) (λ _. has_begun trace ≡ false) (λ _. early))

  file_fits : (name : List ℕ) → IfOk (and_then (λ name. Ok (File name)) (new_name trace name)) (FitsAs trace fields)
  file_fits name = then_ok (λ name. Ok (File name)) (new_name trace name) (FitsAs trace fields) (name_fits name)

  mode_fits : (file : ℕ) (mode : Result Mode Why) → has_begun trace ≡ false → IfOk (and_then (λ mode. Ok (Opened (record { file = file; mode = mode }))) mode) (FitsAs trace fields)
  mode_fits file (Ok mode) early = early
  mode_fits file (Err why) early = tt

  declared_fits : (turn file : Result ℕ Why) (mode : Result Mode Why) → has_begun trace ≡ false
      → IfOk (and_then (λ _. and_then (λ file. and_then (λ mode. Ok (Opened (record { file = file; mode = mode }))) mode) file) turn) (FitsAs trace fields)
  declared_fits (Ok turn) (Ok file) mode early = mode_fits file mode early
  declared_fits (Ok turn) (Err why) mode early = tt
  declared_fits (Err why) file mode early = tt

  opened_fits : (number name mode : List ℕ) → IfOk (new_descriptor trace number name mode) (FitsAs trace fields)
  unfolding new_descriptor
  opened_fits number name mode =
      let opened : Result Statement Why = and_then (λ _. and_then (λ file. and_then (λ mode. Ok (Opened (record { file = file; mode = mode }))) (mode_of mode)) (said_file trace name)) (turn_of trace number) in
      if_cond (has_begun trace) (Err Late) (cond (leb most_descriptors (length trace.descriptors)) (Err Many) opened) (FitsAs trace fields) (λ _. tt)
      (λ early. if_cond (leb most_descriptors (length trace.descriptors)) (Err Many) opened (FitsAs trace fields) (λ _. tt)
      (λ _. declared_fits (turn_of trace number) (said_file trace name) (mode_of mode) early))

by_fits : (trace : Traced) (fields : List (List ℕ)) → IfOk (said_by trace fields) (FitsAs trace fields)
unfolding said_by
by_fits trace [] = tt
by_fits trace (word ∷ []) =
    if_cond (says word (codes "round") && has_rounds trace.form) (Ok Round) (Err BadForm) (FitsAs trace (word ∷ [])) (λ both. (word, refl, and_left (says word (codes "round")) (has_rounds trace.form) both)) (λ _. tt)
by_fits trace (word ∷ name ∷ []) =
    if_cond (says word (codes "file")) (and_then (λ name. Ok (File name)) (new_name trace name)) (Err BadForm) (FitsAs trace (word ∷ name ∷ [])) (λ _. file_fits trace (word ∷ name ∷ []) name) (λ _. tt)
by_fits trace (thread ∷ word ∷ fd ∷ []) =
    if_cond (not (is_keyword thread) && says word (codes "fsync")) (made_by trace thread (sync_of trace fd)) (Err BadForm) (FitsAs trace (thread ∷ word ∷ fd ∷ []))
    (λ _. call_fits trace (thread ∷ word ∷ fd ∷ []) (thread_of trace thread) (sync_of trace fd)) (λ _. tt)
by_fits trace (word ∷ number ∷ name ∷ mode ∷ []) =
    if_cond (says word (codes "fd")) (new_descriptor trace number name mode) (Err BadForm) (FitsAs trace (word ∷ number ∷ name ∷ mode ∷ []))
    (λ _. opened_fits trace (word ∷ number ∷ name ∷ mode ∷ []) number name mode) (λ _. tt)
by_fits trace (thread ∷ word ∷ fd ∷ at ∷ last ∷ []) =
    let fields : List (List ℕ) = thread ∷ word ∷ fd ∷ at ∷ last ∷ [] in
    let vectored_read : Result Statement Why = cond (says word (codes "preadv")) (made_by trace thread (vectored_read_of trace fd at last)) (Err BadForm) in
    let vectored_write : Result Statement Why = cond (says word (codes "pwritev")) (made_by trace thread (vectored_write_of trace fd at last)) vectored_read in
    let read : Result Statement Why = cond (says word (codes "pread")) (made_by trace thread (read_of trace fd at last)) vectored_write in
    let write : Result Statement Why = cond (says word (codes "pwrite")) (made_by trace thread (write_of trace fd at last)) read in
    if_cond (is_keyword thread) (Err BadForm) write (FitsAs trace fields) (λ _. tt)
    (λ _. called_fits trace fields (says word (codes "pwrite")) (thread_of trace thread) (write_of trace fd at last) read
    (called_fits trace fields (says word (codes "pread")) (thread_of trace thread) (read_of trace fd at last) vectored_write
    (called_fits trace fields (says word (codes "pwritev")) (thread_of trace thread) (vectored_write_of trace fd at last) vectored_read
    (called_fits trace fields (says word (codes "preadv")) (thread_of trace thread) (vectored_read_of trace fd at last) (Err BadForm) tt))))
by_fits trace (thread ∷ word ∷ fd ∷ at ∷ len ∷ byte ∷ []) =
    let fields : List (List ℕ) = thread ∷ word ∷ fd ∷ at ∷ len ∷ byte ∷ [] in
    if_cond (not (is_keyword thread) && says word (codes "pfill")) (made_by trace thread (fill_of trace fd at len byte)) (Err BadForm) (FitsAs trace fields)
    (λ _. call_fits trace fields (thread_of trace thread) (fill_of trace fd at len byte)) (λ _. tt)
by_fits trace (one ∷ two ∷ three ∷ four ∷ five ∷ six ∷ seven ∷ more) = tt

pub said_fits : (trace : Traced) (fields : List (List ℕ)) → IfOk (said trace fields) (FitsAs trace fields)
unfolding said
said_fits trace fields = if_cond (list_any (λ field. length field == 0) fields) (Err BadForm) (said_by trace fields) (FitsAs trace fields) (λ _. tt) (λ _. by_fits trace fields)

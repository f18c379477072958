-- A trace keeps its shape when a statement that may follow is taken.
use Rattle.std.proofs.Common.{◌≡◌, ◌≢◌, ◌<◌, ◌≤◌, ◌-◌, ◌^◌, ℕ, Bool, true, false, not, nat_eq, List, [], ◌∷◌, ◌++◌, length, get_or, inl, inr, refl, sym, ap, ◌∙◌, arith, eq-eqb, true≢false, ◌&&◌}
use Rattle.std.specs.Prelude.{All}
use Rattle.std.specs.List.{slice_index_or}
use Rattle.std.proofs.lemmas.Bool.{cases_lt}
use Rattle.std.proofs.lemmas.List.{length-append, get_or_append_left, get_or_push}
use Rattle.std.proofs.lemmas.List.Elements.{All-append, All-cons, All-nil, All-push}
use Rattle.std.proofs.lemmas.List.Sorted.{IsNonDecreasingBy-push}
use Rattle.std.proofs.lemmas.List.Sums.{prefix_len-le-length, prefix_len_passes}
use lib.Pointwise.{pointwise}
use Rattle.nv_plain.specs.Layouts.{mount_layout}
use Rattle.nv_plain.specs.Names.{is_name}
use Rattle.nv_trace.specs.Forms.{has_rounds, has_steps}
use Rattle.nv_trace.specs.Grammar.{last_thread}
use Rattle.nv_trace.specs.Said.{said_place}
use Rattle.nv_trace.specs.Shape.{IsCallWithin, IsLineTokenWithin, IsWellFormed, MayFollow}
use Rattle.nv_trace.specs.Streams.{counted}
use Rattle.nv_trace.specs.Traced.{Traced, lives_in}
use Rattle.nv_trace.proofs.Joined.{lives_within}
use Rattle.nv_trace.specs.Reading.{with_statement, with_tokens}
use Rattle.nv_trace.specs.declared.statement.Statement.{Statement}
use Rattle.nv_trace.specs.declared.statement.Statement.TheVariants.{File, Opened, Call, Round}
use Rattle.nv_trace.specs.declared.trace.Descriptor.{Descriptor}
use Rattle.nv_trace.specs.declared.token.LineToken.{LineToken}
use Rattle.nv_trace.specs.declared.trace_call.TracedCall.{TracedCall}
use Rattle.nv_trace.specs.declared.trace_call.TraceCall.{TraceCall}
use Rattle.nv_trace.specs.declared.trace_call.TraceCall.TheVariants.{Pread, Pwrite, Preadv, Pwritev, Fsync}

pub place_within : (name : List ℕ) (names : List (List ℕ)) → said_place name names ≤ length names
place_within name names = prefix_len-le-length (λ known. not (pointwise nat_eq known name)) names

same_name : (name : List ℕ) → pointwise nat_eq name name ≡ true
same_name [] = refl
same_name (byte ∷ name) = both_true (nat_eq byte byte) (pointwise nat_eq name name) (eq-eqb byte byte refl) (same_name name)
  where
    both_true : (a b : Bool) → a ≡ true → b ≡ true → (a && b) ≡ true
    both_true true b e f = f
    both_true false b e f = cc

one : {X : Type 0} (P : X → Type 0) (x : X) → P x → All P (x ∷ [])
one P x here = All-cons P x [] here (All-nil P)

not_true : (test : Bool) → not test ≡ true → test ≡ false
not_true true e = absurd (true≢false (sym e))
not_true false e = refl

-- a name that is found nowhere differs from all
new_name : (name : List ℕ) (names : List (List ℕ)) → said_place name names ≡ length names → (i : ℕ) → i < length names → slice_index_or names i [] ≢ name
new_name name names none i inside same =
    true≢false (sym (same_name name) ∙ ap (λ known. pointwise nat_eq known name) (sym same) ∙ not_true (pointwise nat_eq (slice_index_or names i []) name) (prefix_len_passes (λ known. not (pointwise nat_eq known name)) names i [] (omega arith)))

with_name : (trace : Traced) (name : List ℕ) → MayFollow trace (File name) → IsWellFormed trace → IsWellFormed (record trace { names = trace.names ++ name ∷ [] })
with_name trace name may is =
    let names = trace.names in
    let long = length-append names (name ∷ []) in
    record {
      names = omega (arith, may.0, long);
      allowed = All-append (λ name. is_name mount_layout.name_limit name ≡ true) names (name ∷ []) is.allowed (one (λ name. is_name mount_layout.name_limit name ≡ true) name may.1);
      distinct = λ i j before inside same. elim (cases_lt j (length names)) [
        | inl earlier ↦ is.distinct i j before earlier (sym (get_or_append_left names (name ∷ []) [] i (omega arith)) ∙ same ∙ get_or_append_left names (name ∷ []) [] j earlier)
        | inr past ↦ new_name name names may.2 i (omega arith) (sym (get_or_append_left names (name ∷ []) [] i (omega arith)) ∙ same ∙ get_or_push names name [] j (omega arith))
      ];
      descriptors = is.descriptors;
      files = λ k d inside. omega (arith, long, is.files k d inside);
      calls = is.calls;
      threads = is.threads;
      rounds = is.rounds;
      round_order = is.round_order;
      no_rounds = is.no_rounds;
      tokens = is.tokens;
      no_tokens = is.no_tokens;
      lives = is.lives;
      no_lives = is.no_lives;
    }

within_more : (count more : ℕ) (call : TraceCall) → count ≤ more → IsCallWithin count call → IsCallWithin more call
within_more count more (Pread fd at len) few within = (omega (arith, within.0), within.1, within.2)
within_more count more (Pwrite fd at bytes) few within = (omega (arith, within.0), within.1, within.2)
within_more count more (Preadv fd at lens) few within = (omega (arith, within.0), within.1, within.2, within.3)
within_more count more (Pwritev fd at parts) few within = (omega (arith, within.0), within.1, within.2, within.3)
within_more count more (Fsync fd) few within = omega arith

with_descriptor : (trace : Traced) (descriptor : Descriptor) → MayFollow trace (Opened descriptor) → IsWellFormed trace
    → IsWellFormed (record trace { descriptors = trace.descriptors ++ descriptor ∷ [] })
with_descriptor trace descriptor may is =
    let long = length-append trace.descriptors (descriptor ∷ []) in
    record {
      names = is.names;
      allowed = is.allowed;
      distinct = is.distinct;
      descriptors = omega (arith, may.0, long);
      files = All-append (λ descriptor. descriptor.file < length trace.names) trace.descriptors (descriptor ∷ []) is.files (one (λ descriptor. descriptor.file < length trace.names) descriptor may.1);
      calls = λ k d inside. within_more (length trace.descriptors) (length (trace.descriptors ++ descriptor ∷ [])) (get_or trace.calls k d).call (omega (arith, long)) (is.calls k d inside);
      threads = is.threads;
      rounds = is.rounds;
      round_order = is.round_order;
      no_rounds = is.no_rounds;
      tokens = is.tokens;
      no_tokens = is.no_tokens;
      lives = is.lives;
      no_lives = is.no_lives;
    }

with_call : (trace : Traced) (traced : TracedCall) → IsCallWithin (length trace.descriptors) traced.call → traced.thread ≤ last_thread → traced.round ≡ trace.rounds → IsWellFormed trace
    → IsWellFormed (record trace { calls = trace.calls ++ traced ∷ [] })
with_call trace traced within thread round is = record {
  names = is.names;
  allowed = is.allowed;
  distinct = is.distinct;
  descriptors = is.descriptors;
  files = is.files;
  calls = All-push (λ traced. IsCallWithin (length trace.descriptors) traced.call) trace.calls traced is.calls within;
  threads = All-push (λ traced. traced.thread ≤ last_thread) trace.calls traced is.threads thread;
  rounds = All-push (λ traced. traced.round ≤ trace.rounds) trace.calls traced is.rounds (omega (arith, round));
  round_order = IsNonDecreasingBy-push (λ traced. traced.round) trace.calls traced is.round_order (λ d some. omega (arith, round, is.rounds (length trace.calls - 1) d (omega arith)));
  no_rounds = is.no_rounds;
  tokens = is.tokens;
  no_tokens = is.no_tokens;
  lives = is.lives;
  no_lives = is.no_lives;
}

with_round : (trace : Traced) (rounds : ℕ) → has_rounds trace.form ≡ true → trace.rounds ≤ rounds → IsWellFormed trace → IsWellFormed (record trace { rounds = rounds })
with_round trace rounds has more is = record {
  names = is.names;
  allowed = is.allowed;
  distinct = is.distinct;
  descriptors = is.descriptors;
  files = is.files;
  calls = is.calls;
  threads = is.threads;
  rounds = λ k d inside. omega (arith, more, is.rounds k d inside);
  round_order = is.round_order;
  no_rounds = λ none. absurd (true≢false (sym has ∙ none));
  tokens = is.tokens;
  no_tokens = is.no_tokens;
  lives = is.lives;
  no_lives = is.no_lives;
}

-- a statement that may follow leaves a trace well formed, whose rounds are a u64
pub goes_on : (trace : Traced) (number : ℕ) (statement : Statement) → MayFollow trace statement → trace.rounds < 2 ^ 64 → IsWellFormed trace → IsWellFormed (with_statement trace number statement)
goes_on trace number (File name) may few is = with_name trace name may is
goes_on trace number (Opened descriptor) may few is = with_descriptor trace descriptor may is
goes_on trace number (Call thread call) may few is = with_call trace (record { line = number; round = trace.rounds; thread = thread; call = call }) may.1 may.0 refl is
goes_on trace number Round may few is = with_round trace (counted trace.rounds) may (omega (arith, few)) is

-- and so do tokens, where the form has them
pub tokens_go_on : (trace : Traced) (tokens : List LineToken) → has_steps trace.form ≡ true → All IsLineTokenWithin tokens → IsWellFormed trace → IsWellFormed (with_tokens trace tokens)
tokens_go_on trace tokens has within is = record {
  names = is.names;
  allowed = is.allowed;
  distinct = is.distinct;
  descriptors = is.descriptors;
  files = is.files;
  calls = is.calls;
  threads = is.threads;
  rounds = is.rounds;
  round_order = is.round_order;
  no_rounds = is.no_rounds;
  tokens = (lives_within (lives_in trace) tokens within (is.lives, is.tokens)).1;
  no_tokens = λ none. absurd (true≢false (sym has ∙ none));
  lives = (lives_within (lives_in trace) tokens within (is.lives, is.tokens)).0;
  no_lives = λ none. absurd (true≢false (sym has ∙ none));
}

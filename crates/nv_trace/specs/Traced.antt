-- A trace: what its lines have said so far.
use Rattle.std.specs.Prelude.{ℕ, ◌+◌, ◌||◌, nat_lt, max, Bool, List, [], length, map, sum_by, fold}
use Rattle.nv_trace.specs.Lives.{TracedLife, TracedLives}
use Rattle.nv_trace.specs.declared.trace.Form.{Form}
use Rattle.nv_trace.specs.declared.trace.Descriptor.{Descriptor}
use Rattle.nv_trace.specs.declared.token.Token.{Token}
use Rattle.nv_trace.specs.declared.trace_call.TracedCall.{TracedCall}

pub record Traced : Type 0 where
  -- what it is read for
  pub form : Form
  -- the files' names
  pub names : List (List ℕ)
  -- the descriptors, each a file by its place among the names, and a mode
  pub descriptors : List Descriptor
  -- the calls, in the order of their lines
  pub calls : List TracedCall
  -- how many `round` lines there were
  pub rounds : ℕ
  -- the lives of its `steps` lines that a crash ends, in their order
  pub lives : List TracedLife
  -- the tokens of the last life: those behind the last crash, in their order
  pub tokens : List Token

abbrev pub empty_trace : Form → Traced
empty_trace form = record { form = form; names = []; descriptors = []; calls = []; rounds = 0; lives = []; tokens = [] }

-- whether a `steps` line has come: each has a token
abbrev pub has_tokens : Traced → Bool
has_tokens trace = nat_lt 0 (length trace.lives) || nat_lt 0 (length trace.tokens)

-- all its lives
abbrev pub lives_in : Traced → TracedLives
lives_in trace = record { ended = trace.lives; tokens = trace.tokens }

-- how many tokens its lives have, but for the crashes
abbrev pub token_count : Traced → ℕ
token_count trace = sum_by (λ life. length life.tokens) trace.lives + length trace.tokens

-- whether a line has come that declares nothing: a call, a `round` or a `steps` line
abbrev pub has_begun : Traced → Bool
has_begun trace = nat_lt 0 (length trace.calls) || nat_lt 0 trace.rounds || has_tokens trace

-- the numbers of its calls' lines
abbrev pub lines_in : Traced → List ℕ
lines_in trace = map (λ traced. traced.line) trace.calls

-- so many threads that this call's is among them too
abbrev pub with_thread : ℕ → TracedCall → ℕ
with_thread count traced = max count (traced.thread + 1)

-- how many threads make its calls: one more than the largest of their numbers, and at least one
abbrev pub thread_count : Traced → ℕ
thread_count trace = fold with_thread 1 trace.calls

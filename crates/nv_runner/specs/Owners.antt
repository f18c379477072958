-- Owners: the calls that owners of calls have left, and those that were made.
use Rattle.std.specs.Prelude.{◌≡◌, ℕ, ◌+◌, ◌<◌, List, [], ◌∷◌, length, Option, Some, None, vec_capacity}
use Rattle.nv_trace.specs.declared.trace_call.TracedCall.{TracedCall}
use Rattle.nv_runner.specs.Lists.{MadeCall, made_calls}
use Rattle.nv_runner.specs.Shifts.{calls_of_thread}
use Rattle.nv_runner.specs.declared.call_list.CallList.{CallList}

-- what an owner has, where there is one
abbrev pub if_owner : {X Y : Type 0} → (X → List Y) → Option X → List Y
if_owner list None = []
if_owner list (Some owner) = list owner

-- Of some calls these are the shares of the threads from one on, each of its own calls.
abbrev pub AreShares : (calls : List TracedCall) → (thread : ℕ) → (shares : List (List TracedCall)) → Type 0
AreShares calls thread [] = Unit {0}
AreShares calls thread (share ∷ later) = (share ≡ calls_of_thread thread calls) × AreShares calls (thread + 1) later

-- ---- a list

-- some calls of a trace begin with one of a thread's, if there are any
abbrev pub IsAtOwn : (thread : ℕ) → List TracedCall → Type 0
IsAtOwn thread [] = Unit {0}
IsAtOwn thread (call ∷ later) = call.thread ≡ thread

abbrev pub list_made : CallList → List MadeCall
list_made list = made_calls list.answered.items

abbrev pub list_left : CallList → List TracedCall
list_left list = calls_of_thread list.thread list.rest.now

-- Its first call is the thread's, and there is room for one more answer.
pub record IsListReady (list : CallList) : Type 0 where
  pub call : TracedCall
  pub later : List TracedCall
  pub rest : list.rest.now ≡ call ∷ later
  pub own : call.thread ≡ list.thread
  pub room : length list.answered.items < vec_capacity list.answered

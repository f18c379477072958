-- Fetched: in every run the pages that a read has fetched lie below the one at which it is.
use Rattle.std.proofs.Common.{◌≡◌, ℕ, ◌+◌, ◌^◌, ◌<◌, ◌≤◌, ◌==◌, nat_lt, nat_le, not, ◌&&◌, Bool, true, false, if◌then◌else◌, List, [], ◌∷◌, length, inl, inr, refl, sym, ap, subst, ◌∙◌, arith, ne_eqb}
use Rattle.std.specs.Prelude.{Option, Some, None}
use Rattle.nv_plain.specs.declared.call.FileCall.{FileCall}
use Rattle.nv_core.specs.state.Words.{Sizes, Word, STOP, ORDER, HEAD, TAIL, LENGTH, SIZE, STORE, ENTRY, HINT, PAGE, CLEANUP, DIRTY, ready, is_entry_of, slot_of_entry}
use Rattle.nv_core.specs.state.Values.{CallEnding, Made, Failed, Refused, bytes_in}
use Rattle.nv_core.specs.state.Passes.{Control, Idle, TakePage, LoadLength, TakeSize, LoadStop, LoadOrder, VisitPage, TakeCleanup, TakeStore, ReadStore, GiveStore, GiveVictim, NotFound, Searching, ReadLoadHead, ReadLoadTail, LoadEntry, HoldEntry, ReadPiece, ReturnEntry, GiveCleanup, WriteLoadHead, WriteLoadTail, DrawNumbers, SeizeEntry, CommitGroup, PledgePage, ReadyEntry, TakePlace, GrowLength, GiveSize, GivePage, GiveBack, SetStopAfterRead, SetStopAfterPiece, SetStopAfterCommit, BreakEntry, Cleaning, Pass, is_write, is_read, page_count, first_page, end_page, without, plain_call}
use Rattle.nv_core.specs.steps.Ops.{Op, Load, Take, Give, Place, Stop, Draw, Seize, Pledge, Ready, Grow, Break, Turn, Hint, Hold, Return, ByCleaner, Split, PutBack, Join, cleaner_move, moved}
use Rattle.nv_core.specs.steps.ControlSteps.{control_after, after_load, after_give, after_stop, after_head, after_tail, after_look, after_hold, after_return, scanning, leaving, giving, ending, ordered, copying, exceeds}
use Rattle.nv_core.specs.steps.PassSteps.{begun}
use Rattle.nv_core.specs.steps.Order.{Values, Work, CallEnabled, CallDue, IsFailing, page_bytes, commit_steps}
use Rattle.nv_core.specs.steps.StepKinds.{MayLoad, MayTake, MayGive, IsMiss, JustNow, AfterTries, EnabledByKind}
use Rattle.nv_core.specs.state.Core.{Core, changes, changed_pass, after_step, after_begin, after_work, worked, control_worked, fetched_worked}
use Rattle.nv_core.specs.steps.Events.{Act, BeginsCall, TakesStep, CallsDevice, Event, StepEnabled, ActEnabled, after_act, after_event, after_run, IsRun}
use Rattle.nv_core.specs.steps.Opening.{opening}
use Rattle.nv_core.proofs.state.Changes.{by_number}
use Rattle.nv_core.proofs.steps.SearchLaws.{hinting_next, tried_next}
use Rattle.nv_core.proofs.steps.CleanerControls.{tended_to, of_cleaner_worked}
use Rattle.nv_table.specs.state.Opened.{Opened, mount_of, IsRunOf, state_of}
use Rattle.nv_core.proofs.steps.NextSteps.{next_steps_may_come}

-- no page from one on is among those that a read has fetched
abbrev pub AreBelow : List (ℕ × List ℕ) → (page : ℕ) → Type 0
AreBelow [] page = Unit {0}
AreBelow (one ∷ rest) page = (one.0 < page) × AreBelow rest page

pub below_more : (fetched : List (ℕ × List ℕ)) (page next : ℕ) → page ≤ next → AreBelow fetched page → AreBelow fetched next
below_more [] page next less below = tt
below_more (one ∷ rest) page next less below = let low = below.0 in (omega (arith, low, less), below_more rest page next less below.1)

-- so what a read has of such a page is what the page's buffer has
pub bytes_above : (fetched : List (ℕ × List ℕ)) (values : Values) (from page : ℕ) → AreBelow fetched from → from ≤ page → page_bytes fetched values page ≡ bytes_in (values (PAGE page))
bytes_above [] values from page below less = refl
bytes_above (one ∷ rest) values from page below less =
    ap (λ b. if b then one.1 else page_bytes rest values page) (ne_eqb one.0 page (λ e. let low = below.0 in omega (arith, e, low, less))) ∙ bytes_above rest values from page below.1 less

-- ---- cases

if_both : {T : Type 0} (P : T → Type 0) (b : Bool) (one other : T) → (b ≡ true → P one) → (b ≡ false → P other) → P (if b then one else other)
if_both P true one other so not_so = so refl
if_both P false one other so not_so = not_so refl

leaving_both : (P : Control → Type 0) (owned : List Word) → P Idle → P GiveBack → P (leaving owned)
leaving_both P [] none some = none
leaving_both P (first ∷ rest) none some = some

-- ---- by where a pass stands

-- the page from which on a read has fetched none
abbrev pub load_head : Control → Option ℕ
load_head (TakePage page) = Some 0
load_head LoadLength = Some 0
load_head TakeSize = Some 0
load_head LoadStop = Some 0
load_head LoadOrder = Some 0
load_head (VisitPage page) = Some page
load_head (TakeCleanup page) = Some page
load_head (TakeStore page dirty) = Some page
load_head (ReadStore page dirty) = Some page
load_head (Searching page tries search) = Some page
load_head (GiveStore page dirty) = Some (page + 1)
load_head (ReadLoadHead page) = Some (page + 1)
load_head (ReadLoadTail page) = Some (page + 1)
load_head (LoadEntry page number) = Some (page + 1)
load_head (HoldEntry page number) = Some (page + 1)
load_head (ReadPiece page number) = Some (page + 1)
load_head (ReturnEntry page number failed) = Some (page + 1)
load_head (SetStopAfterPiece page number) = Some (page + 1)
load_head (GiveCleanup page) = Some (page + 1)
load_head control = None

abbrev pub IsBelow : List (ℕ × List ℕ) → Option ℕ → Type 0
IsBelow fetched None = Unit {0}
IsBelow fetched (Some page) = AreBelow fetched page

-- ---- the steps of a pass

module _ (sizes : Sizes) (values : Values) (pass : Pass) where
  abbrev P : Control → Type 0
  P control = IsBelow pass.fetched (load_head control)

  to_leaving : (owned : List Word) → P (leaving owned)
  to_leaving owned = leaving_both P owned tt tt

  to_giving : P (giving sizes pass.call)
  to_giving = if_both P (page_count sizes pass.call == 0) Idle (GivePage (first_page sizes pass.call)) (λ _. tt) (λ _. tt)

  to_ending : P (ending sizes pass)
  to_ending = if_both P pass.sized GiveSize (giving sizes pass.call) (λ _. tt) (λ _. to_giving)

  to_scanning : (page number : ℕ) → AreBelow pass.fetched (page + 1) → P (scanning pass page number)
  to_scanning page number is = if_both P (nat_lt number pass.head) (LoadEntry page number) (GiveCleanup page) (λ _. is) (λ _. is)

  to_ordered : AreBelow pass.fetched 0 → P (ordered sizes pass.call)
  to_ordered is = if_both P (is_write pass.call) WriteLoadHead (if is_read pass.call then VisitPage (first_page sizes pass.call) else TakePlace) (λ _. tt)
      (λ _. if_both P (is_read pass.call) (VisitPage (first_page sizes pass.call)) TakePlace (λ _. below_more pass.fetched 0 (first_page sizes pass.call) (omega arith) is) (λ _. tt))

  -- a page that it has missed
  missed_below : (page tries : ℕ) → IsMiss sizes values pass page tries → P pass.control → AreBelow pass.fetched page
  missed_below page tries (JustNow from missed zero) is = below_more pass.fetched from page missed.later (subst P missed.control is)
  missed_below page tries (AfterTries search at over) is = subst P at is

  to_loaded : (word : Word) (found : ℕ) → MayLoad sizes values pass word → P pass.control → P (after_load sizes pass word found)
  to_loaded (LENGTH file) found may is = let here : AreBelow pass.fetched 0 = subst P may.0 is in if_both P (exceeds pass found && not pass.sized) TakeSize LoadStop (λ _. here) (λ _. here)
  to_loaded STOP found may is = if_both P (found == 0) LoadOrder (leaving pass.owned) (λ _. subst P may is) (λ _. to_leaving pass.owned)
  to_loaded ORDER found may is = if_both P (nat_lt found (2 ^ 60)) (ordered sizes pass.call) (leaving pass.owned) (λ _. to_ordered (subst P may is)) (λ _. to_leaving pass.owned)
  to_loaded HEAD found may is = elim may [
    | inl at ↦ subst (λ s. P (after_head sizes pass found s)) (sym at)
        (if_both P (nat_le (found + page_count sizes pass.call) (2 ^ 60)) WriteLoadTail (leaving pass.owned) (λ _. tt) (λ _. to_leaving pass.owned))
    | inr at ↦ subst (λ s. P (after_head sizes pass found s)) (sym at.1) (subst P at.1 is)
  ]
  to_loaded TAIL found may is = elim may [
    | inl at ↦ subst (λ s. P (after_tail sizes pass found s)) (sym at)
        (if_both P (nat_le (pass.head + page_count sizes pass.call) (found + sizes.entries)) DrawNumbers (leaving pass.owned) (λ _. tt) (λ _. to_leaving pass.owned))
    | inr at ↦ subst (λ s. P (after_tail sizes pass found s)) (sym at.1) (to_scanning at.0 found (subst P at.1 is))
  ]
  to_loaded (ENTRY slot) found may is =
      let here : AreBelow pass.fetched (may.0 + 1) = subst P may.2 is in
      subst (λ s. P (after_look pass found s)) (sym may.2)
      (if_both P (is_entry_of ready may.0 found) (HoldEntry may.0 may.1) (scanning pass may.0 (may.1 + 1)) (λ _. here) (λ _. to_scanning may.0 (may.1 + 1) here))
  to_loaded (DIRTY page) found may is = let here = missed_below page may.tries may.miss is in if_both P (found == 0) (TakeStore page false) (TakeCleanup page) (λ _. here) (λ _. here)
  to_loaded (HINT buffer) found may is = hinting_next P sizes pass buffer found may (subst P may.is is)
  to_loaded word found may is = absurd may

  to_taken : (cell : Word) (found : ℕ) → MayTake pass cell → P pass.control → P (control_after sizes pass (Take cell) found)
  to_taken (PAGE page) found may is = tried_next P sizes pass page found
      (λ at. if_both P (found == 0) (if page + 1 == end_page sizes pass.call then LoadLength else TakePage (page + 1)) (leaving pass.owned)
      (λ _. if_both P (page + 1 == end_page sizes pass.call) LoadLength (TakePage (page + 1)) (λ _. subst P at is) (λ _. subst P at is)) (λ _. to_leaving pass.owned))
      (λ s. if_both P (found == 0) (Searching s.page s.tries (GiveVictim s.buffer page)) (Searching s.page s.tries NotFound) (λ _. subst P s.is is) (λ _. subst P s.is is))
      may
  to_taken (SIZE file) found may is = if_both P (found == 0) LoadLength (leaving pass.owned) (λ _. subst P may.0 is) (λ _. to_leaving pass.owned)
  to_taken (STORE file) found may is = if_both P (found == 0) (copying pass.control) (leaving pass.owned)
      (λ _. subst (λ s. P (copying s)) (sym may.2) (subst P may.2 is)) (λ _. to_leaving pass.owned)
  to_taken (CLEANUP page) found may is = if_both P (found == 0) (TakeStore page true) (leaving pass.owned) (λ _. subst P may is) (λ _. to_leaving pass.owned)
  to_taken cell found may is = absurd may

  to_given : (cell : Word) (control : Control) → MayGive pass cell control → P control → P (after_give sizes pass cell control)
  to_given (SIZE file) GiveSize back is = to_giving
  to_given (PAGE page) (GivePage next) back is = if_both P (next + 1 == end_page sizes pass.call) Idle (GivePage (next + 1)) (λ _. tt) (λ _. tt)
  to_given (STORE file) (GiveStore page dirty) back is = if_both P dirty (ReadLoadHead page) (VisitPage (page + 1)) (λ _. is) (λ _. is)
  to_given (CLEANUP page) (GiveCleanup next) back is = is
  to_given (PAGE page) (Searching missed tries (GiveVictim buffer victim)) back is = is
  to_given cell GiveBack back is = to_leaving (without cell pass.owned)
  to_given cell control back is = absurd back

  to_stopped : (control : Control) → IsFailing control → P control → P (after_stop pass control)
  to_stopped (SetStopAfterRead page dirty) may is = to_leaving pass.owned
  to_stopped (SetStopAfterPiece page number) may is = is
  to_stopped SetStopAfterCommit may is = tt
  to_stopped control may is = absurd may

  below_step : (found : ℕ) (op : Op) → EnabledByKind sizes values pass op → P pass.control → P (control_after sizes pass op found)
  below_step found (Load word) may is = to_loaded word found may is
  below_step found (Take cell) may is = to_taken cell found may is
  below_step found (Give cell) may is = to_given cell pass.control may is
  below_step found (Place reply) may is = if_both P (is_write pass.call && exceeds pass pass.length) GrowLength (ending sizes pass) (λ _. tt) (λ _. to_ending)
  below_step found Stop may is = to_stopped pass.control may is
  below_step found (Ready number) may is =
      if_both P (number == pass.first) TakePlace (ReadyEntry (if number + 1 == pass.first + pass.entries then pass.first else number + 1)) (λ _. tt) (λ _. tt)
  below_step found Grow may is = to_ending
  below_step found (Break number) may is = if_both P (number + 1 == pass.first + pass.entries) (leaving (without (ENTRY (slot_of_entry sizes number)) pass.owned)) (BreakEntry (number + 1))
      (λ _. to_leaving (without (ENTRY (slot_of_entry sizes number)) pass.owned)) (λ _. tt)
  below_step found (ByCleaner cleaner_op) may is = tended_to P tt (λ batch inner. tt) sizes pass (moved (cleaner_move sizes cleaner_op found) pass.owned) cleaner_op found pass.control may
  below_step found (Hold number) may is = subst (λ s. P (after_hold s)) (sym may.1) (subst P may.1 is)
  below_step found (Return number) may is =
      let here : AreBelow pass.fetched (may.0 + 1) = subst P may.2 is in
      subst (λ s. P (after_return sizes pass s)) (sym may.2)
      (if_both P may.1 (leaving (without (ENTRY (slot_of_entry sizes number)) pass.owned)) (scanning pass may.0 (number + 1)) (λ _. to_leaving (without (ENTRY (slot_of_entry sizes number)) pass.owned))
      (λ _. to_scanning may.0 (number + 1) here))
  below_step found (Turn page) may is = missed_below page may.tries may.miss is
  below_step found (Hint buffer page) may is = subst P may.is is
  below_step found Draw may is = if_both P (found == pass.head) (SeizeEntry found) (leaving pass.owned) (λ _. tt) (λ _. to_leaving pass.owned)
  below_step found (Seize number) may is = if_both P (number + 1 == pass.first + pass.entries) (CommitGroup 0) (SeizeEntry (number + 1)) (λ _. tt) (λ _. tt)
  below_step found (Pledge page) may is =
      if_both P (page + 1 == end_page sizes pass.call) (ReadyEntry (if pass.entries == 1 then pass.first else pass.first + 1)) (PledgePage (page + 1)) (λ _. tt) (λ _. tt)
  below_step found op may is = absurd may

-- ---- the passes of a core

abbrev IsBelowAt : Pass → Type 0
IsBelowAt pass = IsBelow pass.fetched (load_head pass.control)

below_here : (sizes : Sizes) (by : ℕ) (core : Core) (found : ℕ) (op : Op) → StepEnabled sizes by core op → IsBelowAt (core.passes by) → IsBelowAt (changed_pass sizes by core op found)
below_here sizes by core found Split may is = tt
below_here sizes by core found (PutBack cell) may is = is
below_here sizes by core found (Join number) may is = is
below_here sizes by core found op may is = below_step sizes core.values (core.passes by) found op (next_steps_may_come sizes core.values (core.passes by) op may) is

below_work : (sizes : Sizes) (values : Values) (pass : Pass) (work : Work) (how : CallEnding) (control : Control) → CallDue sizes values pass work control → IsBelow pass.fetched (load_head control)
    → IsBelow (fetched_worked sizes pass work.job how control) (load_head (control_worked sizes pass how control))
below_work sizes values pass work Made (CommitGroup calls) due is =
    if_both (λ s. IsBelow (fetched_worked sizes pass work.job Made (CommitGroup calls)) (load_head s)) (calls + 1 == length (commit_steps sizes pass pass.call)) (PledgePage (first_page sizes pass.call)) (CommitGroup (calls + 1)) (λ _. tt) (λ _. tt)
below_work sizes values pass work (Failed came faults) (CommitGroup calls) due is = tt
below_work sizes values pass work Refused (CommitGroup calls) due is = tt
below_work sizes values pass work Made (ReadStore page dirty) due is =
    subst (λ job. IsBelow (fetched_worked sizes pass job Made (ReadStore page dirty)) (Some (page + 1))) (sym due.job) (omega arith, below_more pass.fetched page (page + 1) (omega arith) is)
below_work sizes values pass work (Failed came faults) (ReadStore page dirty) due is = tt
below_work sizes values pass work Refused (ReadStore page dirty) due is = subst (λ job. IsBelow (fetched_worked sizes pass job Refused (ReadStore page dirty)) (Some page)) (sym due.job) is
below_work sizes values pass work Made (ReadPiece page number) due is =
    subst (λ job. IsBelow (fetched_worked sizes pass job Made (ReadPiece page number)) (Some (page + 1))) (sym due.job) (omega arith, is)
below_work sizes values pass work (Failed came faults) (ReadPiece page number) due is =
    subst (λ job. IsBelow (fetched_worked sizes pass job (Failed came faults) (ReadPiece page number)) (Some (page + 1))) (sym due.job) is
below_work sizes values pass work Refused (ReadPiece page number) due is = subst (λ job. IsBelow (fetched_worked sizes pass job Refused (ReadPiece page number)) (Some (page + 1))) (sym due.job) is
below_work sizes values pass work Made (Cleaning batch inner) due is =
    of_cleaner_worked (λ s. IsBelow (fetched_worked sizes pass work.job Made (Cleaning batch inner)) (load_head s)) tt (λ b s. tt) batch Made inner
below_work sizes values pass work (Failed came faults) (Cleaning batch inner) due is =
    of_cleaner_worked (λ s. IsBelow (fetched_worked sizes pass work.job (Failed came faults) (Cleaning batch inner)) (load_head s)) tt (λ b s. tt) batch (Failed came faults) inner
below_work sizes values pass work Refused (Cleaning batch inner) due is =
    of_cleaner_worked (λ s. IsBelow (fetched_worked sizes pass work.job Refused (Cleaning batch inner)) (load_head s)) tt (λ b s. tt) batch Refused inner
below_work sizes values pass work how control due is = absurd due

-- ---- runs

abbrev AllBelow : Core → Type 0
AllBelow core = (number : ℕ) → IsBelowAt (core.passes number)

all_step : (sizes : Sizes) (by : ℕ) (core : Core) (op : Op) (found : ℕ) → StepEnabled sizes by core op → AllBelow core → AllBelow (after_step sizes by op found core)
all_step sizes by core op found may is =
    by_number (λ n p. IsBelowAt p) core.passes (changes by core.made op) (changed_pass sizes by core op found) (below_here sizes by core found op may (is by)) (λ n ne. is n)

all_begin : (sizes : Sizes) (by : ℕ) (core : Core) (call : FileCall) → AllBelow core → AllBelow (after_begin sizes by call core)
all_begin sizes by core call is =
    by_number (λ n p. IsBelowAt p) core.passes by (begun sizes call (core.passes by))
    (if_both (λ s. IsBelow [] (load_head s)) (page_count sizes (plain_call call) == 0) LoadStop (TakePage (first_page sizes (plain_call call))) (λ _. tt) (λ _. tt)) (λ n ne. is n)

all_work : (sizes : Sizes) (by : ℕ) (core : Core) (work : Work) → CallEnabled sizes core.values (core.passes by) work → AllBelow core → AllBelow (after_work sizes by work core)
all_work sizes by core work may is =
    by_number (λ n p. IsBelowAt p) core.passes by (worked sizes work (core.passes by))
    (below_work sizes core.values (core.passes by) work work.ending (core.passes by).control may.due (is by)) (λ n ne. is n)

all_act : (sizes : Sizes) (by : ℕ) (core : Core) (act : Act) → ActEnabled sizes by core act → AllBelow core → AllBelow (after_act sizes by act core)
all_act sizes by core (BeginsCall call op found) may is = all_step sizes by (after_begin sizes by call core) op found may.1.may (all_begin sizes by core call is)
all_act sizes by core (TakesStep op found) may is = all_step sizes by core op found may.may is
all_act sizes by core (CallsDevice work) may is = all_work sizes by core work may is

all_run : (sizes : Sizes) (events : List Event) (core : Core) → IsRun sizes core events → AllBelow core → AllBelow (after_run sizes core events)
all_run sizes [] core run is = is
all_run sizes (event ∷ later) core run is = all_run sizes later (after_event sizes event core) run.1 (all_act sizes event.by core event.act run.0.act is)

-- so it is of each pass of a mount
pub fetched_below : (opened : Opened) (run : List Event) (number : ℕ) → IsRunOf opened run → IsBelow ((state_of opened run).passes number).fetched (load_head ((state_of opened run).passes number).control)
fetched_below opened run number is_run = all_run opened.sizes run (opening (mount_of opened)) is_run (λ n. tt) number

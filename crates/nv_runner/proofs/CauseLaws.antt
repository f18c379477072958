-- Causes: what a report shows of why the calls of a run were refused.
use Rattle.std.proofs.Common.{if◌then◌else◌, ◌≡◌, ℕ, ◌+◌, ◌*◌, ◌^◌, ◌<◌, ◌≤◌, List, [], ◌∷◌, ◌++◌, cond, length, map, true, false, inl, inr, refl, sym, ap, subst, ◌∙◌, arith}
use Rattle.std.specs.Prelude.{Bool, nat_lt, min, Option, Some, None, option_map, is_some, MatchOption, ⊤, IsPermutation}
use Rattle.std.specs.List.{concat, slice_get, sum}
use Rattle.std.proofs.lemmas.List.{length-map}
use Rattle.std.proofs.lemmas.Option.{none-some, slice_get-get_or, slice_get-map}
use Rattle.nv_plain.specs.Layouts.{mount_layout}
use Rattle.nv_plain.specs.Modes.{can_read, can_write}
use Rattle.nv_plain.specs.Pieces.{pages_touched}
use Rattle.nv_plain.specs.declared.mode.Mode.{Mode}
use Rattle.nv_plain.specs.declared.mode.Mode.TheVariants.{R}
use Rattle.nv_core.specs.state.Words.{Sizes, ORDER, HEAD, TAIL}
use Rattle.nv_table.specs.state.Opened.{Opened}
use Rattle.nv_table.specs.state.States.{PassState}
use Rattle.nv_mount.specs.declared.fds.Fd.{Fd}
use Rattle.nv_mirror.specs.declared.answers.Refusal as mirror
use Rattle.nv_mirror.specs.declared.answers.Refusal.TheVariants as why
use Rattle.nv_calls.specs.calls.EarlyRefusals.{early_fd_refusal, early_range_refusal, early_refusal}
use Rattle.nv_calls.specs.fsync.SyncRuns.{file_of_fd}
use Rattle.nv_calls.specs.histories.Heeds.{HasSeenStop}
use Rattle.nv_trace.specs.Shape.{IsCallWithin}
use Rattle.nv_trace.specs.Traced.{Traced}
use Rattle.nv_trace.specs.declared.report.Refusal.{Refusal}
use Rattle.nv_trace.specs.declared.report.Refusal.TheVariants.{BadDescriptor, TooFar, TooLong}
use Rattle.nv_trace.specs.declared.trace.Descriptor.{Descriptor}
use Rattle.nv_trace.specs.declared.trace_call.TraceCall.{TraceCall}
use Rattle.nv_trace.specs.declared.trace_call.TraceCall.TheVariants.{Pread, Pwrite, Preadv, Pwritev, Fsync}
use Rattle.nv_trace.specs.declared.trace_call.TracedCall.{TracedCall}
use Rattle.nv_runner.specs.Entries.{entries_of_calls, entries_taken}
use Rattle.nv_runner.specs.declared.plan.Plan.{Plan}
use Rattle.nv_runner.specs.EndedRuns.{batch_of}
use Rattle.nv_runner.specs.Faithful.{Basis, RunSizes, IsAllowedRefusal, RetiresNothing, WasRefused, barred, barred_by, descriptor_at, descriptors_in, not_later, placed_in}
use Rattle.nv_runner.specs.FaithfulRuns.{IsMountOf, as_fd, shown_refusal}
use Rattle.nv_runner.specs.Histories.{PlacedCall}
use Rattle.nv_runner.specs.Lists.{MadeCall}
use Rattle.nv_runner.specs.Refusals.{HasCause, IsCause, early_of_call, unless_file, word_seen}
use Rattle.nv_runner.specs.RunRefusals.{calls_that_drew}
use Rattle.nv_runner.specs.Sorted.{OpenedCall, RefusedCall, opened_made, placed_made, refused_made}
use Rattle.nv_runner.proofs.draws.DrawnSums.{drew, drew_all, drew_before, drew_total}
use Rattle.nv_runner.proofs.histories.HistorySums.{added_moved}

-- ---- what bars a call

-- what bars it, as a report shows it
abbrev pub shown_bar : Option mirror.Refusal → Option Refusal
shown_bar None = None
shown_bar (Some refusal) = shown_refusal refusal

bar_cond : (far long : Bool) → shown_bar (cond far (Some why.TooFar) (cond long (Some why.TooLong) None)) ≡ cond far (Some TooFar) (cond long (Some TooLong) None)
bar_cond true long = refl
bar_cond false true = refl
bar_cond false false = refl

allow_cond : (may : Bool) (early : Option mirror.Refusal) (bar : Option Refusal) → shown_bar early ≡ bar → shown_bar (cond may early (Some why.BadFd)) ≡ cond may bar (Some BadDescriptor)
allow_cond true early bar same = same
allow_cond false early bar same = refl

-- a range is barred alike
range_bar : (sizes : RunSizes) (core : Sizes) (at len : ℕ) → sizes.page ≡ core.page → sizes.entries ≡ core.entries → sizes.pages ≡ core.pages
    → shown_bar (early_range_refusal core at len) ≡ barred_by sizes (min mount_layout.group_limit sizes.entries) at len
range_bar sizes core at len page entries pages =
    bar_cond (nat_lt (core.page * core.pages) (at + len)) (nat_lt (min mount_layout.group_limit core.entries) (pages_touched at len core.page))
    ∙ ap (λ p. barred_by (record { page = p; entries = core.entries; pages = core.pages }) (min mount_layout.group_limit core.entries) at len) (sym page)
    ∙ ap (λ e. barred_by (record { page = sizes.page; entries = e; pages = core.pages }) (min mount_layout.group_limit e) at len) (sym entries)
    ∙ ap (λ p. barred_by (record { page = sizes.page; entries = sizes.entries; pages = p }) (min mount_layout.group_limit sizes.entries) at len) (sym pages)

-- a descriptor of the mount is the one of the trace
there : (descriptors : List Descriptor) (fd : ℕ) → fd < length descriptors → slice_get (map as_fd descriptors) fd ≡ Some (as_fd (descriptor_at descriptors fd))
there descriptors fd within =
    slice_get-map as_fd descriptors fd ∙ ap (λ (o : Option Descriptor). option_map as_fd o) (slice_get-get_or descriptors fd (record { file = 0; mode = R }) within)

module _ (basis : Basis) (trace : Traced) (opened : Opened) (fds : List Fd) (is : IsMountOf basis trace opened fds) where
  abbrev descriptors : List Descriptor
  descriptors = descriptors_in basis.names trace

  fd_there : (fd : ℕ) → fd < length trace.descriptors → slice_get fds fd ≡ Some (as_fd (descriptor_at descriptors fd))
  fd_there fd within =
      ap (λ (l : List Fd). slice_get l fd) is.fds_are ∙ there descriptors fd (omega (arith, within, length-map trace.descriptors (placed_in basis.names trace)))

  range_alike : (at len : ℕ) → shown_bar (early_range_refusal opened.sizes at len) ≡ barred_by basis.sizes (min mount_layout.group_limit basis.sizes.entries) at len
  range_alike at len = range_bar basis.sizes opened.sizes at len is.page is.entries is.pages

  -- what bars a call that moves so many bytes
  moved_bar : (may : Mode → Bool) (fd at len : ℕ) → fd < length trace.descriptors
      → shown_bar (early_refusal may opened.sizes fds fd at len) ≡ (if may (descriptor_at descriptors fd).mode then barred_by basis.sizes (min mount_layout.group_limit basis.sizes.entries) at len else Some BadDescriptor)
  moved_bar may fd at len within =
      ap (λ (o : Option Fd). shown_bar (early_fd_refusal may opened.sizes o at len)) (fd_there fd within)
      ∙ allow_cond (may (descriptor_at descriptors fd).mode) (early_range_refusal opened.sizes at len) (barred_by basis.sizes (min mount_layout.group_limit basis.sizes.entries) at len) (range_alike at len)

  -- what bars a call bars it in the report
  pub bar_is : (call : TraceCall) → IsCallWithin (length trace.descriptors) call → shown_bar (early_of_call opened.sizes fds call) ≡ barred basis.sizes descriptors call
  bar_is (Pread fd at len) within = moved_bar can_read fd at len within.0
  bar_is (Pwrite fd at bytes) within = moved_bar can_write fd at (length bytes) within.0
  bar_is (Preadv fd at lens) within = moved_bar can_read fd at (sum lens) within.0
  bar_is (Pwritev fd at parts) within = moved_bar can_write fd at (length (concat parts)) within.0
  bar_is (Fsync fd) within = ap (λ (o : Option Fd). shown_bar (unless_file (option_map (λ (f : Fd). f.file) o))) (fd_there fd within)

  -- entries are counted alike
  pub taken_is : (call : TraceCall) → entries_taken opened.sizes.page call ≡ entries_taken basis.sizes.page call
  taken_is call = ap (λ page. entries_taken page call) (sym is.page)

  pub entries_alike : (calls : List TracedCall) → entries_of_calls opened.sizes.page calls ≡ entries_of_calls basis.sizes.page calls
  entries_alike calls = ap (λ page. entries_of_calls page calls) (sym is.page)

-- ---- the calls that drew

drawn_open : (left : List OpenedCall) → calls_that_drew (map opened_made left) ≡ map (λ (o : OpenedCall). o.call) left
drawn_open [] = refl
drawn_open (o ∷ left) = ap (λ (l : List TracedCall). o.call ∷ l) (drawn_open left)

drawn_refused : (refused : List RefusedCall) (left : List OpenedCall) → calls_that_drew (map refused_made refused ++ map opened_made left) ≡ map (λ (o : OpenedCall). o.call) left
drawn_refused [] left = drawn_open left
drawn_refused (r ∷ refused) left = drawn_refused refused left

pub drawn_listed : (placed : List PlacedCall) (refused : List RefusedCall) (left : List OpenedCall)
    → calls_that_drew (map placed_made placed ++ map refused_made refused ++ map opened_made left) ≡ map (λ (p : PlacedCall). p.call) placed ++ map (λ (o : OpenedCall). o.call) left
drawn_listed [] refused left = drawn_refused refused left
drawn_listed (p ∷ placed) refused left = ap (λ (l : List TracedCall). p.call ∷ l) (drawn_listed placed refused left)

-- what they drew that don't come later than one, in whatever order they are listed
pub drawn_before : (sizes : Sizes) (call : TracedCall) (made : List MadeCall) (placed : List PlacedCall) (refused : List RefusedCall) (left : List OpenedCall)
    → IsPermutation made (map placed_made placed ++ map refused_made refused ++ map opened_made left)
    → entries_of_calls sizes.page (not_later call (calls_that_drew made)) ≡ entries_of_calls sizes.page (not_later call (map (λ (p : PlacedCall). p.call) placed ++ map (λ (o : OpenedCall). o.call) left))
drawn_before sizes call made placed refused left listed =
    let each = map placed_made placed ++ map refused_made refused ++ map opened_made left in
    sym (drew_all sizes call made) ∙ added_moved (drew_before sizes call) made each listed ∙ drew_all sizes call each
    ∙ ap (λ (l : List TracedCall). entries_of_calls sizes.page (not_later call l)) (drawn_listed placed refused left)

-- and what all drew
pub drawn_in_all : (sizes : Sizes) (made : List MadeCall) (placed : List PlacedCall) (refused : List RefusedCall) (left : List OpenedCall)
    → IsPermutation made (map placed_made placed ++ map refused_made refused ++ map opened_made left)
    → entries_of_calls sizes.page (calls_that_drew made) ≡ entries_of_calls sizes.page (map (λ (p : PlacedCall). p.call) placed ++ map (λ (o : OpenedCall). o.call) left)
drawn_in_all sizes made placed refused left listed =
    let each = map placed_made placed ++ map refused_made refused ++ map opened_made left in
    sym (drew_total sizes made) ∙ added_moved (drew sizes) made each listed ∙ drew_total sizes each ∙ ap (λ (l : List TracedCall). entries_of_calls sizes.page l) (drawn_listed placed refused left)

-- ---- what bars a call is shown

-- What is so of these three refusals is so of what bars a call, where something does.
module _ (P : mirror.Refusal → Type 0) (bad : P why.BadFd) (far : P why.TooFar) (long : P why.TooLong) where
  abbrev HasSuch : Option mirror.Refusal → Type 0
  HasSuch early = MatchOption early ⊤ P

  range_such : (is_far is_long : Bool) → HasSuch (cond is_far (Some why.TooFar) (cond is_long (Some why.TooLong) None))
  range_such true is_long = far
  range_such false true = long
  range_such false false = tt

  allowed_such : (may : Bool) (early : Option mirror.Refusal) → HasSuch early → HasSuch (cond may early (Some why.BadFd))
  allowed_such true early such = such
  allowed_such false early such = bad

  fd_such : (may : Mode → Bool) (sizes : Sizes) (fd : Option Fd) (at len : ℕ) → HasSuch (early_fd_refusal may sizes fd at len)
  fd_such may sizes None at len = bad
  fd_such may sizes (Some one) at len =
      allowed_such (may one.mode) (early_range_refusal sizes at len) (range_such (nat_lt (sizes.page * sizes.pages) (at + len)) (nat_lt (min mount_layout.group_limit sizes.entries) (pages_touched at len sizes.page)))

  file_such : (file : Option ℕ) → HasSuch (unless_file file)
  file_such None = bad
  file_such (Some file) = tt

  pub early_such : (sizes : Sizes) (fds : List Fd) (call : TraceCall) → HasSuch (early_of_call sizes fds call)
  early_such sizes fds (Pread fd at len) = fd_such can_read sizes (slice_get fds fd) at len
  early_such sizes fds (Pwrite fd at bytes) = fd_such can_write sizes (slice_get fds fd) at (length bytes)
  early_such sizes fds (Preadv fd at lens) = fd_such can_read sizes (slice_get fds fd) at (sum lens)
  early_such sizes fds (Pwritev fd at parts) = fd_such can_write sizes (slice_get fds fd) at (length (concat parts))
  early_such sizes fds (Fsync fd) = file_such (file_of_fd fds fd)

-- where there is a refusal it is one that is shown
abbrev HasShown : Option mirror.Refusal → Type 0
HasShown early = MatchOption early ⊤ (λ refusal. is_some (shown_refusal refusal) ≡ true)

early_shown : (sizes : Sizes) (fds : List Fd) (call : TraceCall) → HasShown (early_of_call sizes fds call)
early_shown = early_such (λ refusal. is_some (shown_refusal refusal) ≡ true) refl refl refl

-- ---- a refusal

-- what is known where a call was refused: of the words that its pass had seen, and of STOP
pub record StoodSo (failed : Type 0) (basis : Basis) (worker : Option ℕ) (drew : List TracedCall) (call : TracedCall) (now : PassState) : Type 0 where
  pub stopped : HasSeenStop now → failed
  pub order : word_seen now ORDER < 2 ^ 60
  pub head : word_seen now HEAD ≤ basis.next + entries_of_calls basis.sizes.page (not_later call drew)
  pub tail : worker ≡ None → word_seen now TAIL ≡ basis.next

pub no_batch : (plan : Plan) → plan.worker ≡ false → batch_of plan ≡ None
no_batch plan off = ap (λ b. cond b (Some plan.batch) None) off

no_worker : (plan : Plan) → batch_of plan ≡ None → plan.worker ≡ false
no_worker plan none = by plan.worker none
  where
    by : (b : Bool) → cond b (Some plan.batch) None ≡ None → b ≡ false
    by false is = refl
    by true is = absurd (none-some plan.batch (sym is))

module _ (failed : Type 0) (basis : Basis) (trace : Traced) (opened : Opened) (fds : List Fd) (is : IsMountOf basis trace opened fds) (plan : Plan) (drew : List TracedCall) where
  -- it is shown with its cause
  why_shown : (call : TracedCall) (now : PassState) → now.view.opened ≡ opened → StoodSo failed basis (batch_of plan) drew call now → (refusal : mirror.Refusal)
      → IsCause opened.sizes (batch_of plan) call.call now refusal → MatchOption (shown_refusal refusal) ⊥ (λ shown. WasRefused failed (RetiresNothing plan.worker basis) basis drew call shown)
  why_shown call now same stood why.BadFd cause = cause
  why_shown call now same stood why.TooFar cause = cause
  why_shown call now same stood why.TooLong cause = cause
  why_shown call now same stood (why.Busy cell) cause = cause
  why_shown call now same stood (why.Raced seen found) cause = cause
  why_shown call now same stood why.Stopped cause = stood.stopped cause
  why_shown call now same stood (why.Spent found) (inl place) = absurd (let low = stood.order in let high = place.spent in let most = place.most in omega arith)
  why_shown call now same stood (why.Spent found) (inr numbers) =
      let taken = taken_is basis trace opened fds is call.call in
      let takes = numbers.takes in let spent = numbers.spent in let most = numbers.most in let head = stood.head in
      record { takes = omega arith; spent = omega arith; drawn = omega arith }
  why_shown call now same stood (why.Again head tail) cause =
      let taken = taken_is basis trace opened fds is call.call in
      let takes = cause.1.takes in let full = cause.1.full in let most = cause.1.head_most in let bound = stood.head in
      let least = cause.1.tail_least in let tail_most = cause.1.tail_most in let retired = stood.tail cause.0 in
      let first = ap (λ (o : Opened). o.next) same in let next = is.next in let entries = is.entries in
      record { takes = omega arith; retired = (no_worker plan cause.0, omega arith); full = omega arith; drawn = omega arith }
  why_shown call now same stood why.RegionFault cause = (cause.0, stood.stopped cause.1)
  why_shown call now same stood why.StoreFault cause = (cause.0, stood.stopped cause.1)

  shown_some : (shown : Option Refusal) (W : Refusal → Type 0) → MatchOption shown ⊥ W → is_some shown ≡ true
  shown_some None W none = absurd none
  shown_some (Some refusal) W some = refl

  -- one that has a cause is shown
  pub is_shown : (call : TracedCall) (now : PassState) → now.view.opened ≡ opened → StoodSo failed basis (batch_of plan) drew call now → (refusal : mirror.Refusal)
      → HasCause fds (batch_of plan) call.call now refusal → is_some (shown_refusal refusal) ≡ true
  is_shown call now same stood refusal cause =
      by (early_of_call opened.sizes fds call.call) (early_shown opened.sizes fds call.call)
      (subst (λ (o : Opened). MatchOption (early_of_call o.sizes fds call.call) (IsCause o.sizes (batch_of plan) call.call now refusal) (λ bar. refusal ≡ bar)) same cause)
    where
      by : (early : Option mirror.Refusal) → HasShown early → MatchOption early (IsCause opened.sizes (batch_of plan) call.call now refusal) (λ bar. refusal ≡ bar) → is_some (shown_refusal refusal) ≡ true
      by None none cause = shown_some (shown_refusal refusal) (λ shown. WasRefused failed (RetiresNothing plan.worker basis) basis drew call shown) (why_shown call now same stood refusal cause)
      by (Some bar) shown cause = ap (λ (r : mirror.Refusal). is_some (shown_refusal r)) cause ∙ shown

  -- and allowed
  pub is_allowed_so : (call : TracedCall) (now : PassState) → now.view.opened ≡ opened → IsCallWithin (length trace.descriptors) call.call → StoodSo failed basis (batch_of plan) drew call now
      → (refusal : mirror.Refusal) (shown : Refusal) → shown_refusal refusal ≡ Some shown → HasCause fds (batch_of plan) call.call now refusal
      → IsAllowedRefusal failed (RetiresNothing plan.worker basis) basis (descriptors_in basis.names trace) drew call shown
  is_allowed_so call now same within stood refusal shown shows cause =
      subst (λ (bar : Option Refusal). MatchOption bar (WasRefused failed (RetiresNothing plan.worker basis) basis drew call shown) (λ cause. shown ≡ cause)) (bar_is basis trace opened fds is call.call within)
      (by (early_of_call opened.sizes fds call.call)
      (subst (λ (o : Opened). MatchOption (early_of_call o.sizes fds call.call) (IsCause o.sizes (batch_of plan) call.call now refusal) (λ bar. refusal ≡ bar)) same cause))
    where
      by : (early : Option mirror.Refusal) → MatchOption early (IsCause opened.sizes (batch_of plan) call.call now refusal) (λ bar. refusal ≡ bar)
          → MatchOption (shown_bar early) (WasRefused failed (RetiresNothing plan.worker basis) basis drew call shown) (λ cause. shown ≡ cause)
      by None cause =
          subst (λ (o : Option Refusal). MatchOption o ⊥ (λ s. WasRefused failed (RetiresNothing plan.worker basis) basis drew call s)) shows (why_shown call now same stood refusal cause)
      by (Some bar) cause =
          subst (λ (o : Option Refusal). MatchOption o (WasRefused failed (RetiresNothing plan.worker basis) basis drew call shown) (λ cause. shown ≡ cause)) (sym shows ∙ ap shown_refusal cause) refl

-- Clean steps: what a step of a batch tells of its kind, and of why the batch cleaned nothing.
use Rattle.std.proofs.Common.{◌≡◌, ℕ, Bool, true, false, if◌then◌else◌, List, [], ◌∷◌, refl, sym, ap, subst, ◌∙◌}
use Rattle.std.specs.Prelude.{Option, Some, None, ◌||◌, ◌==◌, ◌&&◌, not, nat_lt}
use Rattle.nv_core.specs.state.Words.{Sizes, Word, HEADER, STORE, CLEANER, CLEANUP, is_lock, place}
use Rattle.nv_core.specs.state.Cleaner.{Batch, CleanerOp as CoreCleanerOp, TakeCleaner}
use Rattle.nv_core.specs.state.Cleaner as cleaner
use Rattle.nv_core.specs.steps.CleanerSteps.{group_file, group_page, last_taken, may_pass, next_cleaner_op}
use Rattle.nv_op.specs.declared.kinds.Kind.{Kind}
use Rattle.nv_op.specs.declared.kinds.Kind.TheVariants.{Give}
use Rattle.nv_op.specs.Kinds.{kind_of_cleaner_op}
use Rattle.nv_table.specs.state.States.{PassState}
use Rattle.nv_clean.specs.declared.batch.CleanControl.{CleanControl}
use Rattle.nv_clean.specs.declared.batch.CleanControl.TheVariants as cleans
use Rattle.nv_clean.specs.declared.batch.CleanRefusal.{CleanRefusal}
use Rattle.nv_clean.specs.declared.batch.CleanRefusal.TheVariants.{Idle, Busy, Stopped, RegionFault, StoreFault, NoMemory}
use Rattle.nv_clean.specs.Cleaning.{CallsDevices, CleanState, ComesBehind, IsEnd, IsPlain, calls_refusal, inner_at}
use Rattle.nv_clean.specs.CleanSteps.{HasMadeOne, HasSteppedBehind, clean_kind, first_refusal, is_fault, kind_at, refusal_at, refusal_then, unless_free}

-- ---- whether a device has failed

or_false : (b : Bool) → b ≡ (b || false)
or_false true = refl
or_false false = refl

or_true : (b : Bool) → true ≡ (b || true)
or_true true = refl
or_true false = refl

either_kept : {T : Type 0} (P : T → Bool) (b : Bool) (one other : T) (is : Bool) → P one ≡ is → P other ≡ is → P (if b then one else other) ≡ is
either_kept P true one other is so not_so = so
either_kept P false one other is so not_so = not_so

-- the first reason stays, so a fault does
first_kept : (batch : Batch) (was : Option CleanRefusal) (refusal : CleanRefusal) → is_fault (Some refusal) ≡ false → is_fault (first_refusal batch was refusal) ≡ is_fault was
first_kept batch None refusal none = either_kept is_fault (batch.reached == batch.tail) (Some refusal) None false none refl
first_kept batch (Some one) refusal none = refl

free_kept : (batch : Batch) (was : Option CleanRefusal) (found cell : ℕ) → is_fault (unless_free batch was found cell) ≡ is_fault was
free_kept batch was found cell = either_kept is_fault (found == 0) was (first_refusal batch was (Busy cell)) (is_fault was) refl (first_kept batch was (Busy cell) refl)

fault_at : (sizes : Sizes) (batch : Batch) (was : Option CleanRefusal) (control : CleanControl) (found : ℕ) → is_fault (refusal_at sizes batch was control found) ≡ is_fault was
fault_at sizes batch was cleans.Begin found = free_kept batch was found (place sizes CLEANER)
fault_at sizes batch was cleans.TakeHeader found = free_kept batch was found (place sizes HEADER)
fault_at sizes batch was cleans.LoadStop found = either_kept is_fault (found == 0) was (first_refusal batch was Stopped) (is_fault was) refl (first_kept batch was Stopped refl)
fault_at sizes batch was cleans.LoadHead found =
    either_kept is_fault (nat_lt batch.reached found) was (first_refusal batch was (Idle batch.tail)) (is_fault was) refl (first_kept batch was (Idle batch.tail) refl)
fault_at sizes batch was (cleans.LoadEntry at) found =
    either_kept is_fault (at == 0 && not (may_pass batch found)) (first_refusal batch was (Idle batch.tail)) was (is_fault was) (first_kept batch was (Idle batch.tail) refl) refl
fault_at sizes batch was (cleans.TakeCleanup at) found = free_kept batch was found (place sizes (CLEANUP (group_page batch at)))
fault_at sizes batch was cleans.TakeStore found = free_kept batch was found (place sizes (STORE (group_file sizes batch)))
fault_at sizes batch was control found = refl

fault_then : (sizes : Sizes) (m : CleanState) (calls : Option CleanRefusal) (found : ℕ) → is_fault (refusal_then sizes m calls found) ≡ (is_fault m.refusal || is_fault calls)
fault_then sizes m None found = fault_at sizes m.batch m.refusal m.control found ∙ or_false (is_fault m.refusal)
fault_then sizes m (Some RegionFault) found = or_true (is_fault m.refusal)
fault_then sizes m (Some StoreFault) found = or_true (is_fault m.refusal)
fault_then sizes m (Some NoMemory) found = first_kept m.batch m.refusal NoMemory refl ∙ or_false (is_fault m.refusal)
fault_then sizes m (Some Stopped) found = first_kept m.batch m.refusal Stopped refl ∙ or_false (is_fault m.refusal)
fault_then sizes m (Some (Idle at)) found = first_kept m.batch m.refusal (Idle at) refl ∙ or_false (is_fault m.refusal)
fault_then sizes m (Some (Busy cell)) found = first_kept m.batch m.refusal (Busy cell) refl ∙ or_false (is_fault m.refusal)

-- what comes behind device calls says nothing of it
pub behind_silent : (sizes : Sizes) (batch : Batch) (was : Option CleanRefusal) (control : CleanControl) (found : ℕ) → ComesBehind control → refusal_at sizes batch was control found ≡ was
behind_silent sizes batch was (cleans.HoldEntry at) found comes = refl
behind_silent sizes batch was (cleans.CleanEntry at) found comes = refl
behind_silent sizes batch was (cleans.ReturnEntry at end) found comes = refl
behind_silent sizes batch was (cleans.FreeEntry number) found comes = refl
behind_silent sizes batch was control found comes = absurd comes

-- nor does it say anything before them
pub calls_silent : (sizes : Sizes) (batch : Batch) (was : Option CleanRefusal) (control : CleanControl) (found : ℕ) → CallsDevices control → refusal_at sizes batch was control found ≡ was
calls_silent sizes batch was (cleans.WriteBack at) found calls = refl
calls_silent sizes batch was cleans.Retire found calls = refl
calls_silent sizes batch was control found calls = absurd calls

-- ---- a step

pub has_made : (sizes : Sizes) (m next : CleanState) (old new : PassState) (kind : Kind) (refusal : Option CleanRefusal) → (one : HasSteppedBehind kind refusal old new) → (refusal ≡ None → kind ≡ clean_kind m)
    → next.refusal ≡ refusal_then sizes m refusal one.step.found → (m.control ≡ cleans.Begin → one.op ≡ TakeCleaner m.batch.most) → (IsEnd m.control → next.batch ≡ m.batch) → HasMadeOne sizes m next old new
has_made sizes m next old new kind refusal one of_kind told begins ends =
    let same = ap (λ calls. refusal_then sizes m calls one.step.found) (sym one.refused) in
    record {
      step = one.step;
      taken = one.taken;
      opens = one.opens;
      op = one.op;
      op_is = one.op_is;
      begins = begins;
      kind = λ well. one.kind_is ∙ of_kind (sym one.refused ∙ well);
      refusal = told ∙ same;
      fault = ap is_fault (told ∙ same) ∙ fault_then sizes m (calls_refusal one.step.works) one.step.found;
      ends = ends;
    }

no_begin : (control : CleanControl) → CallsDevices control → control ≡ cleans.Begin → ⊥
no_begin control calls is = subst CallsDevices is calls

no_end : (control : CleanControl) → CallsDevices control → IsEnd control → ⊥
no_end (cleans.WriteBack at) calls ends = ends
no_end cleans.Retire calls ends = ends
no_end control calls ends = calls

-- behind device calls that ended so
pub made_behind : (sizes : Sizes) (m next : CleanState) (old new : PassState) (kind : Kind) (refusal : Option CleanRefusal) → CallsDevices m.control → HasSteppedBehind kind refusal old new → (refusal ≡ None → kind ≡ clean_kind m)
    → ((found : ℕ) → next.refusal ≡ refusal_then sizes m refusal found) → HasMadeOne sizes m next old new
made_behind sizes m next old new kind refusal calls one of_kind told =
    has_made sizes m next old new kind refusal one of_kind (told one.step.found) (λ is. absurd (no_begin m.control calls is)) (λ is. absurd (no_end m.control calls is))

-- ---- its kind

IsOfKind : Kind → Option CoreCleanerOp → Type 0
IsOfKind kind None = Unit {0}
IsOfKind kind (Some op) = kind_of_cleaner_op op ≡ kind

module _ (sizes : Sizes) (owned : List Word) (batch : Batch) where
  last_given : (cells : List Word) → IsOfKind Give (last_taken cells)
  unfolding IsOfKind
  last_given [] = tt
  last_given (cell ∷ rest) = go (is_lock cell)
    where
      go : (b : Bool) → IsOfKind Give (if b then Some (cleaner.Give cell) else None)
      go true = refl
      go false = tt

  of_kind : (control : CleanControl) → IsPlain control → IsOfKind (kind_at batch control) (next_cleaner_op sizes owned batch (inner_at sizes batch control))
  unfolding IsOfKind
  of_kind cleans.TakeHeader plain = refl
  of_kind cleans.LoadStop plain = refl
  of_kind cleans.LoadTail plain = refl
  of_kind cleans.LoadHead plain = refl
  of_kind (cleans.LoadEntry i) plain = refl
  of_kind (cleans.TakeCleanup i) plain = refl
  of_kind cleans.TakeStore plain = refl
  of_kind (cleans.HoldEntry i) plain = refl
  of_kind (cleans.CleanEntry i) plain = refl
  of_kind (cleans.SubtractDirty i) plain = refl
  of_kind (cleans.GiveCleanup i) plain = refl
  of_kind (cleans.ReturnEntry i end) plain = refl
  of_kind (cleans.ReturnFailed i end) plain = refl
  of_kind (cleans.UndoCleanup i) plain = refl
  of_kind (cleans.FreeEntry number) plain = refl
  of_kind cleans.AdvanceTail plain = refl
  of_kind (cleans.GiveStore file) plain = refl
  of_kind cleans.GiveHeader plain = refl
  of_kind cleans.GiveCleaner plain = refl
  of_kind cleans.GiveBack plain = last_given owned
  of_kind cleans.Begin plain = absurd plain
  of_kind (cleans.WriteBack i) plain = absurd plain
  of_kind cleans.Retire plain = absurd plain
  of_kind cleans.Over plain = absurd plain

  pub next_kind_is : (control : CleanControl) → IsPlain control → (op : CoreCleanerOp) → next_cleaner_op sizes owned batch (inner_at sizes batch control) ≡ Some op → kind_of_cleaner_op op ≡ kind_at batch control
  unfolding IsOfKind
  next_kind_is control plain op next = subst (IsOfKind (kind_at batch control)) next (of_kind control plain)

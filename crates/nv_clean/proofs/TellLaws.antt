-- Tells: what the steps of a batch have come to, by where it stands.
use Rattle.std.proofs.Common.{◌≡◌, ◌≢◌, ◌⊎◌, inl, inr, ℕ, zero, suc, ◌+◌, ◌-◌, ◌<◌, ◌==◌, nat_lt, nat_le, Bool, true, false, not, ◌&&◌, ◌||◌, if◌then◌else◌, List, [], ◌∷◌, length, refl, sym, ap, ap₂, subst, ◌∙◌, arith, eq-eqb, eqb-true, ne_eqb}
use Rattle.std.specs.Prelude.{Option, Some, None, is_some}
use Rattle.std.proofs.lemmas.Bool.{lt-ltb}
use Rattle.nv_plain.specs.declared.call.FileCall.{FileCall}
use Rattle.nv_core.specs.state.Words.{Sizes, Word, STOP, HEAD, TAIL, CLEANER, HEADER, STORE, ENTRY, CLEANUP, is_lock, kind_of, place, ready, slot_of_entry}
use Rattle.nv_core.specs.state.Cleaner.{Batch, CleanerControl, TakeHeader, LoadTail, LoadHead, WriteBack, CleanEntry, SubtractDirty, RefusedReturnEntry, FailedReturnEntry, RefusedGiveCleanup, SyncStores, MoveHeaderTail, FreeEntry, AdvanceTail, GiveStores, GiveHeader, GiveCleaner, SetStop, CleanerOp, TakeCleaner, Clean, Subtract, Free, MoveTail}
use Rattle.nv_core.specs.state.Cleaner as cleaner
use Rattle.nv_core.specs.state.Core.{Core}
use Rattle.nv_core.specs.state.Passes.{Control, Idle, Cleaning}
use Rattle.nv_core.specs.steps.CleanerSteps.{after_cleaner_op, batch_with_page, closed, claimed, count_of, discharging, each_next, finishing, group_file, group_page, holds_store, last_taken, may_pass, next_cleaner_op, next_group, retreating, rising_files, surveyed, surveying, syncing, withdrawing}
use Rattle.nv_core.specs.steps.Ops.{ByCleaner}
use Rattle.nv_core.specs.steps.Order.{Values, Work}
use Rattle.nv_core.specs.invariant.ControlFacts.{CleanerFactsAt, FactsAt}
use Rattle.nv_core.specs.invariant.LogWindow.{InWindow}
use Rattle.nv_core.specs.invariant.Sound.{Sound}
use Rattle.nv_core.specs.log.Progress.{HasLoadedTail, IsBatchUnderWay, IsBeforeTail}
use Rattle.nv_core.proofs.invariant.CleanerLocks.{cleaner_op_is}
use Rattle.nv_core.proofs.state.Choices.{if_both}
use Rattle.nv_core.proofs.state.SlotLaws.{apart}
use Rattle.nv_mirror.specs.PassSteps.{PassStep, either_of}
use Rattle.nv_clean.specs.declared.batch.CleanRefusal.{CleanRefusal}
use Rattle.nv_clean.specs.declared.batch.CleanRefusal.TheVariants as refusals
use Rattle.nv_clean.specs.Answers.{cleans_in, is_clean, is_retiring, refusal_in, refused_by, retired_by, retired_in, retires_in, tail_by, tail_in, unless_cleaned}
use Rattle.nv_clean.specs.CleanSteps.{is_fault}
use Rattle.nv_clean.specs.Cleaning.{calls_refusal}

-- ---- what is told

-- of some steps: TAIL as they loaded it, whether they cleaned an entry, whether they refused their batch, how far they moved TAIL, and whether they freed an entry
pub record TellsBy (tail : ℕ) (steps : List PassStep) (sizes : Sizes) (cleaned refused : Bool) (retired : Option ℕ) (freed : Bool) : Type 0 where
  pub tail_is : tail_in steps ≡ tail
  pub cleaned_is : cleans_in steps ≡ cleaned
  pub refused_is : is_some (refusal_in sizes steps) ≡ refused
  pub retired_is : retired_in steps ≡ retired
  pub freed_is : retires_in steps ≡ freed

-- the first group is behind it
abbrev pub has_passed : Batch → Bool
has_passed batch = not (batch.reached == batch.tail)

abbrev pub cleaned_at : Batch → CleanerControl → Bool
cleaned_at batch (CleanEntry i) = nat_lt 0 i || has_passed batch
cleaned_at batch (SubtractDirty i) = true
cleaned_at batch (cleaner.GiveCleanup i) = true
cleaned_at batch inner = has_passed batch

abbrev pub refused_at : Batch → CleanerControl → Bool
refused_at batch (RefusedReturnEntry i end) = nat_lt 0 i && batch.reached == batch.tail
refused_at batch (RefusedGiveCleanup i) = batch.reached == batch.tail
refused_at batch (FailedReturnEntry i end) = true
refused_at batch cleaner.GiveBack = true
refused_at batch inner = false

abbrev pub retired_at : Batch → CleanerControl → Option ℕ
retired_at batch (GiveStores files) = Some (batch.reached - batch.tail)
retired_at batch GiveHeader = Some (batch.reached - batch.tail)
retired_at batch GiveCleaner = Some (batch.reached - batch.tail)
retired_at batch inner = None

abbrev pub freed_at : Batch → CleanerControl → Bool
freed_at batch (FreeEntry number) = nat_lt batch.tail number
freed_at batch AdvanceTail = true
freed_at batch (GiveStores files) = true
freed_at batch GiveHeader = true
freed_at batch GiveCleaner = true
freed_at batch inner = false

-- it has cleaned nothing yet, or something
abbrev pub HasReached : Batch → CleanerControl → Type 0
HasReached batch LoadHead = batch.reached ≡ batch.tail
HasReached batch (GiveStores files) = batch.tail < batch.reached
HasReached batch GiveHeader = batch.tail < batch.reached
HasReached batch GiveCleaner = batch.tail < batch.reached
HasReached batch inner = Unit {0}

abbrev pub TellsAt : Sizes → Batch → CleanerControl → List PassStep → Type 0
TellsAt sizes batch inner steps =
    TellsBy batch.tail steps sizes (cleaned_at batch inner) (refused_at batch inner) (retired_at batch inner) (freed_at batch inner) × HasReached batch inner

-- a batch that is over was refused, or has retired something
pub record HasRetired (sizes : Sizes) (steps : List PassStep) : Type 0 where
  pub count : ℕ
  pub some : 0 < count
  pub told : (is_some (refusal_in sizes steps) ≡ false) × (retired_in steps ≡ Some count) × (retires_in steps ≡ true)

abbrev pub WasRefused : Sizes → List PassStep → Type 0
WasRefused sizes steps = (is_some (refusal_in sizes steps) ≡ true) × (retired_in steps ≡ None) × (retires_in steps ≡ false)

-- what came of the device calls since its last step
abbrev pub PendingAt : CleanerControl → Option CleanRefusal → Type 0
PendingAt (SetStop held) pending = is_fault pending ≡ true
PendingAt (RefusedReturnEntry i end) pending = ((i ≡ 0) → pending ≡ Some refusals.NoMemory) × ((i ≢ 0) → pending ≡ None)
PendingAt inner pending = pending ≡ None

-- what its steps have told, and what came of the device calls since
abbrev pub Amid : Sizes → Control → List PassStep → (pending : Option CleanRefusal) → Type 0
Amid sizes (Cleaning batch inner) steps pending = TellsAt sizes batch inner steps × PendingAt inner pending
Amid sizes Idle steps pending = (WasRefused sizes steps ⊎ HasRetired sizes steps) × (pending ≡ None)
Amid sizes control steps pending = ⊥

abbrev pub Tells : Sizes → Control → List PassStep → Type 0
Tells sizes control steps = Amid sizes control steps None

-- ---- one step more

pub either_none : {T : Type 0} (one : Option T) → either_of one None ≡ one
either_none (Some value) = refl
either_none None = refl

either_free : {T : Type 0} (one other : Option T) → is_some one ≡ false → is_some (either_of one other) ≡ is_some other
either_free (Some value) other none = absurd (cc)
either_free None other none = refl

pub unless_none : (cleaned : Bool) → unless_cleaned cleaned None ≡ None
unless_none true = refl
unless_none false = refl

passed_so : (b : Bool) (refusal : CleanRefusal) → is_some (unless_cleaned (not b) (Some refusal)) ≡ b
passed_so true refusal = refl
passed_so false refusal = refl

fault_some : (pending : Option CleanRefusal) → is_fault pending ≡ true → is_some pending ≡ true
fault_some (Some refusal) fault = refl
fault_some None fault = absurd (cc)

some_none : (one : Option CleanRefusal) → one ≡ None → is_some one ≡ false
some_none one none = ap is_some none

module _ (sizes : Sizes) (steps : List PassStep) (s : PassStep) where
  abbrev refuses : Option CleanRefusal
  refuses = refused_by sizes (cleans_in steps) (tail_in steps) s.works s.op s.found

  -- by which nothing is told
  quiet : (tail : ℕ) (c r f : Bool) (ret : Option ℕ) → TellsBy tail steps sizes c r ret f → tail_by s.op s.found (tail_in steps) ≡ tail_in steps → is_clean s.op ≡ false → refuses ≡ None → retired_by s.op (tail_in steps) ≡ None → is_retiring s.op ≡ false
      → TellsBy tail (s ∷ steps) sizes c r ret f
  quiet tail c r f ret t same unclean unrefused unretired unfreed = record {
    tail_is = same ∙ t.tail_is;
    cleaned_is = ap (λ b. b || cleans_in steps) unclean ∙ t.cleaned_is;
    refused_is = ap (λ o. is_some (either_of (refusal_in sizes steps) o)) unrefused ∙ ap is_some (either_none (refusal_in sizes steps)) ∙ t.refused_is;
    retired_is = ap (either_of (retired_in steps)) unretired ∙ either_none (retired_in steps) ∙ t.retired_is;
    freed_is = ap (λ b. b || retires_in steps) unfreed ∙ t.freed_is;
  }

  -- by which it may be refused
  refusing : (tail : ℕ) (c f r : Bool) (ret : Option ℕ) → TellsBy tail steps sizes c false ret f → tail_by s.op s.found (tail_in steps) ≡ tail_in steps → is_clean s.op ≡ false → is_some refuses ≡ r → retired_by s.op (tail_in steps) ≡ None → is_retiring s.op ≡ false
      → TellsBy tail (s ∷ steps) sizes c r ret f
  refusing tail c f r ret t same unclean refused unretired unfreed = record {
    tail_is = same ∙ t.tail_is;
    cleaned_is = ap (λ b. b || cleans_in steps) unclean ∙ t.cleaned_is;
    refused_is = either_free (refusal_in sizes steps) refuses t.refused_is ∙ refused;
    retired_is = ap (either_of (retired_in steps)) unretired ∙ either_none (retired_in steps) ∙ t.retired_is;
    freed_is = ap (λ b. b || retires_in steps) unfreed ∙ t.freed_is;
  }

-- ---- where it goes on

module _ (sizes : Sizes) (steps : List PassStep) where
  abbrev Goes : Batch → (refused : Bool) → Type 0
  Goes batch refused = TellsBy batch.tail steps sizes (has_passed batch) refused None false

  tells_withdrawing : (owned : List Word) (batch : Batch) → Goes batch true → Tells sizes (withdrawing owned batch) steps
  tells_withdrawing [] batch t = (inl (t.refused_is, t.retired_is, t.freed_is), refl)
  tells_withdrawing (cell ∷ rest) batch t = ((t, tt), refl)

  tells_syncing : (batch : Batch) (files : List ℕ) → Goes batch false → Tells sizes (syncing batch files) steps
  tells_syncing batch [] t = ((t, tt), refl)
  tells_syncing batch (file ∷ rest) t = ((t, tt), refl)

  tells_finishing : (owned : List Word) (batch : Batch) → Goes batch (batch.reached == batch.tail) → Tells sizes (finishing sizes owned batch) steps
  tells_finishing owned batch t = if_both (λ c. Tells sizes c steps) (batch.reached == batch.tail) (withdrawing owned (closed batch)) (syncing (closed batch) (rising_files sizes batch))
      (λ e. tells_withdrawing owned (closed batch) (subst (Goes batch) e t)) (λ e. tells_syncing (closed batch) (rising_files sizes batch) (subst (Goes batch) e t))

  tells_surveying : (owned : List Word) (batch : Batch) → (nat_lt batch.reached batch.head ≡ true → Goes batch false) → (nat_lt batch.reached batch.head ≡ false → Goes batch (batch.reached == batch.tail)) → Tells sizes (surveying sizes owned batch) steps
  tells_surveying owned batch on ends = if_both (λ c. Tells sizes c steps) (nat_lt batch.reached batch.head) (Cleaning batch (cleaner.LoadEntry 0)) (finishing sizes owned batch)
      (λ e. ((on e, tt), refl)) (λ e. tells_finishing owned batch (ends e))

  tells_retreating : (owned : List Word) (batch : Batch) (i : ℕ) → Goes batch (batch.reached == batch.tail) → Tells sizes (retreating sizes owned batch i) steps
  tells_retreating owned batch i t = if_both (λ c. Tells sizes c steps) (i == 0) (finishing sizes owned batch) (Cleaning batch (RefusedGiveCleanup (i - 1)))
      (λ e. tells_finishing owned batch t) (λ e. ((t, tt), refl))

  tells_each : (batch : Batch) (i : ℕ) (inner : CleanerControl) (last : Control) → Tells sizes (Cleaning batch inner) steps → Tells sizes last steps → Tells sizes (each_next batch i inner last) steps
  tells_each batch i inner last here there = if_both (λ c. Tells sizes c steps) (i + 1 == length batch.pages) last (Cleaning batch inner) (λ e. there) (λ e. here)

  tells_discharging : (batch : Batch) (files : List ℕ) → TellsBy batch.tail steps sizes (has_passed batch) false (Some (batch.reached - batch.tail)) true → batch.tail < batch.reached → Tells sizes (discharging batch files) steps
  tells_discharging batch [] t some = ((t, some), refl)
  tells_discharging batch (file ∷ rest) t some = ((t, some), refl)

-- what was taken last is given back
pub last_give : (cells : List Word) (op : CleanerOp) → last_taken cells ≡ Some op → (cell : Word) × (op ≡ cleaner.Give cell)
last_give [] op next = absurd (cc)
last_give (cell ∷ rest) op next = go (is_lock cell) next
  where
    go : (b : Bool) → (if b then Some (cleaner.Give cell) else None) ≡ Some op → (one : Word) × (op ≡ cleaner.Give one)
    go true is = (cell, cleaner_op_is (cleaner.Give cell) op is)
    go false is = absurd (cc)

pub above : (i : ℕ) → nat_lt 0 (i + 1) ≡ true
above i = lt-ltb 0 (i + 1) (omega arith)

-- ---- a step

module _ (sizes : Sizes) (first : Values) (core : Core) (by : ℕ) (sound : Sound sizes first core) (batch : Batch) (steps : List PassStep) (opens : Option FileCall) (works : List Work) (found : ℕ) (owned : List Word) where
  abbrev Is : CleanerControl → Type 0
  Is inner = (core.passes by).control ≡ Cleaning batch inner

  facts : (inner : CleanerControl) → Is inner → CleanerFactsAt batch (core.passes by).owned inner
  facts inner at = subst (FactsAt sizes (core.passes by)) at (sound.control_facts by).at

  way : (inner : CleanerControl) → Is inner → HasLoadedTail inner → IsBatchUnderWay sizes sound.grouped.log core batch inner
  way inner at loaded = sound.grouped.progress.each by batch inner at loaded

  -- its batch is new before it loads TAIL
  pub unpassed : (inner : CleanerControl) → Is inner → IsBeforeTail inner → has_passed batch ≡ false
  unpassed inner at before = ap has_passed (sound.grouped.progress.fresh by batch inner at before)

  abbrev step : CleanerOp → PassStep
  step op = record { opens = opens; works = works; op = ByCleaner op; found = found }

  abbrev Then : Control → CleanerOp → Type 0
  Then control op = Tells sizes control (step op ∷ steps)

  plainly : (op : CleanerOp) (tail : ℕ) (c r f : Bool) (ret : Option ℕ) → TellsBy tail steps sizes c r ret f → tail_by (ByCleaner op) found (tail_in steps) ≡ tail_in steps → is_clean (ByCleaner op) ≡ false
      → refused_by sizes (cleans_in steps) (tail_in steps) works (ByCleaner op) found ≡ None → retired_by (ByCleaner op) (tail_in steps) ≡ None → is_retiring (ByCleaner op) ≡ false → TellsBy tail (step op ∷ steps) sizes c r ret f
  plainly op = quiet sizes steps (step op)

  -- a lock, of the front or of a group
  claims : (cell : Word) (taken : Control) → Goes sizes steps batch false → (Goes sizes (step (cleaner.Take cell) ∷ steps) batch false → Then taken (cleaner.Take cell))
      → (back : Control) → (Goes sizes (step (cleaner.Take cell) ∷ steps) batch (batch.reached == batch.tail) → Then back (cleaner.Take cell)) → Then (if found == 0 then taken else back) (cleaner.Take cell)
  claims cell taken t on back ends = if_both (λ c. Then c (cleaner.Take cell)) (found == 0) taken back
      (λ e. on (plainly (cleaner.Take cell) batch.tail (has_passed batch) false false None t refl refl (ap (λ b. unless_cleaned (cleans_in steps) (if b then None else Some (refusals.Busy (place sizes cell)))) e ∙ unless_none (cleans_in steps)) refl refl))
      (λ e. ends (refusing sizes steps (step (cleaner.Take cell)) batch.tail (has_passed batch) false (batch.reached == batch.tail) None t refl refl
      (ap (λ b. is_some (unless_cleaned (cleans_in steps) (if b then None else Some (refusals.Busy (place sizes cell))))) e ∙ ap (λ b. is_some (unless_cleaned b (Some (refusals.Busy (place sizes cell))))) t.cleaned_is ∙ passed_so (batch.reached == batch.tail) (refusals.Busy (place sizes cell))) refl refl))

  -- where it has moved TAIL, and gives its locks back
  gives : (cell : Word) → TellsBy batch.tail steps sizes (has_passed batch) false (Some (batch.reached - batch.tail)) true
      → TellsBy batch.tail (step (cleaner.Give cell) ∷ steps) sizes (has_passed batch) false (Some (batch.reached - batch.tail)) true
  gives cell t = plainly (cleaner.Give cell) batch.tail (has_passed batch) false true (Some (batch.reached - batch.tail)) t refl refl refl refl refl

  -- the next number of a group lies elsewhere than the tail
  pub elsewhere : (i : ℕ) → Is (cleaner.LoadEntry (suc i)) → batch.reached ≡ batch.tail → (slot_of_entry sizes (batch.reached + suc i) == slot_of_entry sizes batch.tail) ≡ false
  elsewhere i at start =
      let f = facts (cleaner.LoadEntry (suc i)) at in let long = f.0 in let less = f.1 in
      let w = way (cleaner.LoadEntry (suc i)) at tt in
      let some : 0 < length batch.pages = omega (arith, long) in
      let there : InWindow core (batch.reached + 0) = (w.looked 0 some).within in
      let same_number : batch.reached + 0 ≡ batch.reached = omega arith in
      let within : InWindow core batch.reached = subst (InWindow core) same_number there in
      let group = sound.grouped.groups.each batch.reached within in
      let high = group.high in let leads = w.leads within in let count = w.count some in let room = sound.window.room in let tail = w.tail in
      ne_eqb _ _ (λ e. apart sizes.entries batch.tail (batch.reached + suc i) (omega (arith, start)) (omega (arith, start, less, count, leads, high, room, tail)) (sym e))

  module _ (i : ℕ) (t : Goes sizes steps batch false) where
    abbrev slot : ℕ
    slot = slot_of_entry sizes (batch.reached + i)

    abbrev look : CleanerOp
    look = cleaner.Load (ENTRY slot)

    -- what an ENTRY of the first group refuses
    abbrev entry_refuses : (here loaded : Bool) → Option CleanRefusal
    entry_refuses here loaded = if here && not loaded then Some (refusals.Idle (tail_in steps)) else None

    abbrev LooksAt : Bool → Type 0
    LooksAt ends = Then (if ends then finishing sizes owned batch else surveyed (batch_with_page batch i found) i) look

    looked_on : refused_by sizes (cleans_in steps) (tail_in steps) works (ByCleaner look) found ≡ None → LooksAt false
    looked_on none =
        let t_then : TellsBy batch.tail (step look ∷ steps) sizes (has_passed batch) false None false = plainly look batch.tail (has_passed batch) false false None t refl refl none refl refl in
        if_both (λ control. Then control look) (nat_lt (i + 1) (batch_with_page batch i found).count) (Cleaning (batch_with_page batch i found) (cleaner.LoadEntry (i + 1))) (Cleaning (batch_with_page batch i found) (cleaner.TakeCleanup 0))
        (λ e. ((t_then, tt), refl)) (λ e. ((t_then, tt), refl))

    -- in a later group
    looks_later : (batch.reached == batch.tail) ≡ false → (ends : Bool) → LooksAt ends
    looks_later later ends =
        let none : refused_by sizes (cleans_in steps) (tail_in steps) works (ByCleaner look) found ≡ None =
        ap (λ b. unless_cleaned b (entry_refuses (slot == slot_of_entry sizes (tail_in steps)) (kind_of found == ready))) (t.cleaned_is ∙ ap not later) in
        by_end none ends
      where
        by_end : refused_by sizes (cleans_in steps) (tail_in steps) works (ByCleaner look) found ≡ None → (ends : Bool) → LooksAt ends
        by_end none true = tells_finishing sizes (step look ∷ steps) owned batch (subst (Goes sizes (step look ∷ steps) batch) (sym later) (plainly look batch.tail (has_passed batch) false false None t refl refl none refl refl))
        by_end none false = looked_on none

    module _ (now_first : (batch.reached == batch.tail) ≡ true) where
      first_is : batch.reached ≡ batch.tail
      first_is = eqb-true batch.reached batch.tail now_first

      pub passes_by_kind : (k : Bool) → (kind_of found == ready) ≡ k → may_pass batch found ≡ k
      passes_by_kind true is = ap₂ (λ k b. k && (b || nat_le (batch.reached + count_of found) (batch.tail + batch.most))) is now_first
      passes_by_kind false is = ap (λ k. k && (batch.reached == batch.tail || nat_le (batch.reached + count_of found) (batch.tail + batch.most))) is

      -- at the leader, which is the tail's
      looks_first : (i == 0) ≡ true → (k : Bool) → (kind_of found == ready) ≡ k → LooksAt (not k)
      looks_first leader = by_kind
        where
          same_number : batch.reached + i ≡ batch.tail
          same_number = let none = eqb-true i 0 leader in let e = first_is in omega (arith, none, e)

          here : (slot == slot_of_entry sizes (tail_in steps)) ≡ true
          here = eq-eqb slot (slot_of_entry sizes (tail_in steps)) (ap (slot_of_entry sizes) (same_number ∙ sym t.tail_is))

          by_kind : (k : Bool) → (kind_of found == ready) ≡ k → LooksAt (not k)
          by_kind true is = looked_on (ap₂ (λ h k. unless_cleaned (cleans_in steps) (entry_refuses h k)) here is ∙ unless_none (cleans_in steps))
          by_kind false is =
              tells_finishing sizes (step look ∷ steps) owned batch
              (refusing sizes steps (step look) batch.tail (has_passed batch) false (batch.reached == batch.tail) None t refl refl
              (ap₂ (λ h k. is_some (unless_cleaned (cleans_in steps) (entry_refuses h k))) here is
              ∙ ap (λ b. is_some (unless_cleaned b (Some (refusals.Idle (tail_in steps))))) t.cleaned_is ∙ passed_so (batch.reached == batch.tail) (refusals.Idle (tail_in steps))) refl refl)

      -- and at a follower
      looks_behind : (slot_of_entry sizes (batch.reached + i) == slot_of_entry sizes batch.tail) ≡ false → LooksAt false
      looks_behind far =
          looked_on (ap (λ h. unless_cleaned (cleans_in steps) (entry_refuses h (kind_of found == ready))) (ap (λ tail. slot == slot_of_entry sizes tail) t.tail_is ∙ far) ∙ unless_none (cleans_in steps))

    looks : (batch.reached ≡ batch.tail → (i == 0) ≡ false → (slot_of_entry sizes (batch.reached + i) == slot_of_entry sizes batch.tail) ≡ false) → LooksAt (i == 0 && not (may_pass batch found))
    looks far = by_first (batch.reached == batch.tail) refl
      where
        by_place : (now_first : (batch.reached == batch.tail) ≡ true) (b : Bool) → (i == 0) ≡ b → LooksAt (b && not (may_pass batch found))
        by_place now_first true leader = subst (λ k. LooksAt (not k)) (sym (passes_by_kind now_first (kind_of found == ready) refl)) (looks_first now_first leader (kind_of found == ready) refl)
        by_place now_first false other = looks_behind now_first (far (first_is now_first) other)

        by_first : (b : Bool) → (batch.reached == batch.tail) ≡ b → LooksAt (i == 0 && not (may_pass batch found))
        by_first true now_first = by_place now_first (i == 0) refl
        by_first false later = looks_later later (i == 0 && not (may_pass batch found))

  -- an entry of a group that can't be cleaned is returned, for want of memory
  returns : (i end : ℕ) → TellsBy batch.tail steps sizes (has_passed batch) (nat_lt 0 i && batch.reached == batch.tail) None false → PendingAt (RefusedReturnEntry i end) (calls_refusal works)
      → Goes sizes (step (cleaner.Return (batch.reached + i)) ∷ steps) batch (batch.reached == batch.tail)
  returns i end t pending = by_place (i == 0) refl
    where
      some_so : (o : Option CleanRefusal) → is_some o ≡ true → (b : Bool) → is_some (unless_cleaned (not b) o) ≡ b
      some_so o is true = is
      some_so o is false = refl

      by_place : (b : Bool) → (i == 0) ≡ b → Goes sizes (step (cleaner.Return (batch.reached + i)) ∷ steps) batch (batch.reached == batch.tail)
      by_place true is =
          let none = eqb-true i 0 is in
          refusing sizes steps (step (cleaner.Return (batch.reached + i))) batch.tail (has_passed batch) false (batch.reached == batch.tail) None
          (subst (λ r. TellsBy batch.tail steps sizes (has_passed batch) r None false) (ap (λ n. nat_lt 0 n && batch.reached == batch.tail) none) t) refl refl
          (ap (λ b. is_some (unless_cleaned b (calls_refusal works))) t.cleaned_is ∙ some_so (calls_refusal works) (ap is_some (pending.0 none)) (batch.reached == batch.tail)) refl refl
      by_place false is =
          let some : i ≢ 0 = λ none. no_zero none is in
          plainly (cleaner.Return (batch.reached + i)) batch.tail (has_passed batch) (batch.reached == batch.tail) false None
          (subst (λ r. TellsBy batch.tail steps sizes (has_passed batch) r None false) (ap (λ b. b && batch.reached == batch.tail) (lt-ltb 0 i (omega (arith, some)))) t) refl refl
          (ap (unless_cleaned (cleans_in steps)) (pending.1 some) ∙ unless_none (cleans_in steps)) refl refl
        where
          no_zero : i ≡ 0 → (i == 0) ≡ false → ⊥
          no_zero none is_not = let e = eq-eqb i 0 none in clash (sym e ∙ is_not)
            where
              clash : ◌≡◌ {A = Bool} true false → ⊥
              clash e = cc

  -- the batch goes on with its next group
  passes : (i : ℕ) → Is (cleaner.GiveCleanup i) → has_passed (next_group batch) ≡ true
  passes i at =
      let within : i < length batch.pages = facts (cleaner.GiveCleanup i) at in
      let low = (way (cleaner.GiveCleanup i) at tt).low in
      ap not (ne_eqb (batch.reached + length batch.pages) batch.tail (λ e. omega (arith, within, low, e)))

  abbrev pub Comes : CleanerControl → Type 0
  Comes inner = (op : CleanerOp) → next_cleaner_op sizes (core.passes by).owned batch inner ≡ Some op → Then (after_cleaner_op sizes owned batch inner found) op

  by_op : (inner : CleanerControl) (one : CleanerOp) → Then (after_cleaner_op sizes owned batch inner found) one → (op : CleanerOp) → Some one ≡ Some op → Then (after_cleaner_op sizes owned batch inner found) op
  by_op inner one is op next = subst (Then (after_cleaner_op sizes owned batch inner found)) (sym (cleaner_op_is one op next)) is

  pub tells_on : (inner : CleanerControl) → Is inner → TellsAt sizes batch inner steps → PendingAt inner (calls_refusal works) → Comes inner
  tells_on TakeHeader at t pending op next =
      let none = unpassed TakeHeader at tt in
      by_op TakeHeader (cleaner.Take HEADER)
      (claims HEADER (Cleaning batch cleaner.LoadStop) t.0 (λ goes. ((goes, tt), refl)) (withdrawing owned batch)
      (λ goes. tells_withdrawing sizes (step (cleaner.Take HEADER) ∷ steps) owned batch (subst (Goes sizes (step (cleaner.Take HEADER) ∷ steps) batch) (not_false (batch.reached == batch.tail) none) goes))) op next
    where
      not_false : (b : Bool) → not b ≡ false → b ≡ true
      not_false true is = refl
      not_false false is = absurd (cc)
  tells_on cleaner.LoadStop at t pending op next =
      by_op cleaner.LoadStop (cleaner.Load STOP)
      (if_both (λ control. Then control (cleaner.Load STOP)) (found == 0) (Cleaning batch LoadTail) (withdrawing owned batch)
      (λ e. ((plainly (cleaner.Load STOP) batch.tail (has_passed batch) false false None t.0 refl refl (ap (λ b. if b then None else Some refusals.Stopped) e) refl refl, tt), refl))
      (λ e. tells_withdrawing sizes (step (cleaner.Load STOP) ∷ steps) owned batch
      (refusing sizes steps (step (cleaner.Load STOP)) batch.tail (has_passed batch) false true None t.0 refl refl (ap (λ b. is_some (if b then None else Some refusals.Stopped)) e) refl refl))) op next
  tells_on LoadTail at t pending op next =
      let none = unpassed LoadTail at tt in
      by_op LoadTail (cleaner.Load TAIL) (
        (
          record {
            tail_is = refl;
            cleaned_is = t.0.cleaned_is ∙ none ∙ sym (ap not (eq-eqb found found refl));
            refused_is = ap is_some (either_none (refusal_in sizes steps)) ∙ t.0.refused_is;
            retired_is = either_none (retired_in steps) ∙ t.0.retired_is;
            freed_is = t.0.freed_is;
          },
          refl,
        ),
        refl,
      ) op next
  tells_on LoadHead at t pending op next =
      by_op LoadHead (cleaner.Load HEAD)
      (tells_surveying sizes (step (cleaner.Load HEAD) ∷ steps) owned (record batch { head = found })
      (λ e. plainly (cleaner.Load HEAD) batch.tail (has_passed batch) false false None t.0 refl refl (ap (λ b. if b then None else Some (refusals.Idle (tail_in steps))) (ap (λ n. nat_lt n found) (t.0.tail_is ∙ sym t.1) ∙ e)) refl refl)
      (λ e. refusing sizes steps (step (cleaner.Load HEAD)) batch.tail (has_passed batch) false (batch.reached == batch.tail) None t.0 refl refl
      (ap (λ b. is_some (if b then None else Some (refusals.Idle (tail_in steps)))) (ap (λ n. nat_lt n found) (t.0.tail_is ∙ sym t.1) ∙ e) ∙ sym (eq-eqb batch.reached batch.tail t.1)) refl refl)) op next
  tells_on (cleaner.LoadEntry zero) at t pending op next =
      by_op (cleaner.LoadEntry zero) (cleaner.Load (ENTRY (slot_of_entry sizes (batch.reached + zero)))) (looks zero t.0 (λ start never. absurd (cc))) op next
  tells_on (cleaner.LoadEntry (suc i)) at t pending op next =
      by_op (cleaner.LoadEntry (suc i)) (cleaner.Load (ENTRY (slot_of_entry sizes (batch.reached + suc i)))) (looks (suc i) t.0 (λ start other. elsewhere i at start)) op next
  tells_on (cleaner.TakeCleanup i) at t pending op next =
      let cell = CLEANUP (group_page batch i) in
      by_op (cleaner.TakeCleanup i) (cleaner.Take cell)
      (claims cell (each_next batch i (cleaner.TakeCleanup (i + 1)) (claimed sizes batch)) t.0
      (λ goes. tells_each sizes (step (cleaner.Take cell) ∷ steps) batch i (cleaner.TakeCleanup (i + 1)) (claimed sizes batch) ((goes, tt), refl)
      (if_both (λ control. Then control (cleaner.Take cell)) (holds_store batch (group_file sizes batch)) (Cleaning batch (cleaner.HoldEntry 0)) (Cleaning batch cleaner.TakeStore) (λ e. ((goes, tt), refl)) (λ e. ((goes, tt), refl))))
      (retreating sizes owned batch i) (tells_retreating sizes (step (cleaner.Take cell) ∷ steps) owned batch i)) op next
  tells_on cleaner.TakeStore at t pending op next =
      let cell = STORE (group_file sizes batch) in
      by_op cleaner.TakeStore (cleaner.Take cell)
      (claims cell (Cleaning (record batch { files = group_file sizes batch ∷ batch.files }) (cleaner.HoldEntry 0)) t.0 (λ goes. ((goes, tt), refl))
      (retreating sizes owned batch (length batch.pages)) (tells_retreating sizes (step (cleaner.Take cell) ∷ steps) owned batch (length batch.pages))) op next
  tells_on (cleaner.HoldEntry i) at t pending op next =
      by_op (cleaner.HoldEntry i) (cleaner.Hold (batch.reached + i)) ((plainly (cleaner.Hold (batch.reached + i)) batch.tail (has_passed batch) false false None t.0 refl refl refl refl refl, tt), refl) op next
  tells_on (cleaner.ReadPiece i) at t pending op next = absurd (cc)
  tells_on (WriteBack i) at t pending op next = absurd (cc)
  tells_on (CleanEntry i) at t pending op next =
      let then_told : TellsBy batch.tail (step (Clean (batch.reached + i)) ∷ steps) sizes true false None false = record {
        tail_is = t.0.tail_is;
        cleaned_is = refl;
        refused_is = ap is_some (either_none (refusal_in sizes steps)) ∙ t.0.refused_is;
        retired_is = either_none (retired_in steps) ∙ t.0.retired_is;
        freed_is = t.0.freed_is;
      } in
      by_op (CleanEntry i) (Clean (batch.reached + i))
      (tells_each sizes (step (Clean (batch.reached + i)) ∷ steps) batch i (CleanEntry (i + 1)) (Cleaning batch (SubtractDirty 0))
      ((subst (λ b. TellsBy batch.tail (step (Clean (batch.reached + i)) ∷ steps) sizes (b || has_passed batch) false None false) (sym (above i)) then_told, tt), refl) ((then_told, tt), refl)) op next
  tells_on (SubtractDirty i) at t pending op next =
      let then_told = plainly (Subtract (group_page batch i)) batch.tail true false false None t.0 refl refl refl refl refl in
      by_op (SubtractDirty i) (Subtract (group_page batch i))
      (tells_each sizes (step (Subtract (group_page batch i)) ∷ steps) batch i (SubtractDirty (i + 1)) (Cleaning batch (cleaner.GiveCleanup 0)) ((then_told, tt), refl) ((then_told, tt), refl)) op next
  tells_on (cleaner.GiveCleanup i) at t pending op next =
      let cell = CLEANUP (group_page batch i) in
      let then_told : TellsBy batch.tail (step (cleaner.Give cell) ∷ steps) sizes true false None false = plainly (cleaner.Give cell) batch.tail true false false None t.0 refl refl refl refl refl in
      let passed : TellsBy batch.tail (step (cleaner.Give cell) ∷ steps) sizes (has_passed (next_group batch)) false None false = subst (λ c. TellsBy batch.tail (step (cleaner.Give cell) ∷ steps) sizes c false None false) (sym (passes i at)) then_told in
      by_op (cleaner.GiveCleanup i) (cleaner.Give cell)
      (tells_each sizes (step (cleaner.Give cell) ∷ steps) batch i (cleaner.GiveCleanup (i + 1)) (surveying sizes owned (next_group batch)) ((then_told, tt), refl)
      (tells_surveying sizes (step (cleaner.Give cell) ∷ steps) owned (next_group batch) (λ e. passed) (λ e. subst (Goes sizes (step (cleaner.Give cell) ∷ steps) (next_group batch)) (sym (not_true ((next_group batch).reached == batch.tail) (passes i at))) passed))) op next
    where
      not_true : (b : Bool) → not b ≡ true → b ≡ false
      not_true true is = absurd (cc)
      not_true false is = refl
  tells_on (RefusedReturnEntry i end) at t pending op next =
      let goes = returns i end t.0 pending in
      by_op (RefusedReturnEntry i end) (cleaner.Return (batch.reached + i))
      (if_both (λ control. Then control (cleaner.Return (batch.reached + i))) (i + 1 == end) (retreating sizes owned batch (length batch.pages)) (Cleaning batch (RefusedReturnEntry (i + 1) end))
      (λ e. tells_retreating sizes (step (cleaner.Return (batch.reached + i)) ∷ steps) owned batch (length batch.pages) goes)
      (λ e. ((subst (λ b. TellsBy batch.tail (step (cleaner.Return (batch.reached + i)) ∷ steps) sizes (has_passed batch) (b && batch.reached == batch.tail) None false) (sym (above i)) goes, tt), (λ none. absurd (omega (arith, none)), λ some. refl)))) op next
  tells_on (FailedReturnEntry i end) at t pending op next =
      let goes = plainly (cleaner.Return (batch.reached + i)) batch.tail (has_passed batch) true false None t.0 refl refl (ap (unless_cleaned (cleans_in steps)) pending ∙ unless_none (cleans_in steps)) refl refl in
      by_op (FailedReturnEntry i end) (cleaner.Return (batch.reached + i))
      (if_both (λ control. Then control (cleaner.Return (batch.reached + i))) (i + 1 == end) (withdrawing owned batch) (Cleaning batch (FailedReturnEntry (i + 1) end))
      (λ e. tells_withdrawing sizes (step (cleaner.Return (batch.reached + i)) ∷ steps) owned batch goes) (λ e. ((goes, tt), refl))) op next
  tells_on (RefusedGiveCleanup i) at t pending op next =
      let cell = CLEANUP (group_page batch i) in
      by_op (RefusedGiveCleanup i) (cleaner.Give cell)
      (tells_retreating sizes (step (cleaner.Give cell) ∷ steps) owned batch i (plainly (cleaner.Give cell) batch.tail (has_passed batch) (batch.reached == batch.tail) false None t.0 refl refl refl refl refl)) op next
  tells_on (SyncStores files) at t pending op next = absurd (cc)
  tells_on (MoveHeaderTail count) at t pending op next = absurd (cc)
  tells_on (FreeEntry number) at t pending op next =
      let f = facts (FreeEntry number) at in let low = f.0 in
      let then_told : TellsBy batch.tail (step (Free number) ∷ steps) sizes (has_passed batch) false None true = record {
        tail_is = t.0.tail_is;
        cleaned_is = t.0.cleaned_is;
        refused_is = ap is_some (either_none (refusal_in sizes steps)) ∙ t.0.refused_is;
        retired_is = either_none (retired_in steps) ∙ t.0.retired_is;
        freed_is = refl;
      } in
      by_op (FreeEntry number) (Free number)
      (if_both (λ control. Then control (Free number)) (number + 1 == batch.reached) (Cleaning batch AdvanceTail) (Cleaning batch (FreeEntry (number + 1))) (λ e. ((then_told, tt), refl))
      (λ e. ((subst (TellsBy batch.tail (step (Free number) ∷ steps) sizes (has_passed batch) false None) (sym (lt-ltb batch.tail (number + 1) (omega (arith, low)))) then_told, tt), refl))) op next
  tells_on AdvanceTail at t pending op next =
      by_op AdvanceTail (MoveTail batch.reached)
      (tells_discharging sizes (step (MoveTail batch.reached) ∷ steps) batch (rising_files sizes batch)
      record {
        tail_is = t.0.tail_is;
        cleaned_is = t.0.cleaned_is;
        refused_is = ap is_some (either_none (refusal_in sizes steps)) ∙ t.0.refused_is;
        retired_is = ap (λ o. either_of o (Some (batch.reached - tail_in steps))) t.0.retired_is ∙ ap (λ n. Some (batch.reached - n)) t.0.tail_is;
        freed_is = refl;
      } (facts AdvanceTail at)) op next
  tells_on (GiveStores []) at t pending op next = absurd (cc)
  tells_on (GiveStores (file ∷ rest)) at t pending op next =
      by_op (GiveStores (file ∷ rest)) (cleaner.Give (STORE file)) (tells_discharging sizes (step (cleaner.Give (STORE file)) ∷ steps) batch rest (gives (STORE file) t.0) t.1) op next
  tells_on GiveHeader at t pending op next = by_op GiveHeader (cleaner.Give HEADER) ((gives HEADER t.0, t.1), refl) op next
  tells_on GiveCleaner at t pending op next =
      let goes = gives CLEANER t.0 in let some = t.1 in
      by_op GiveCleaner (cleaner.Give CLEANER) (inr record { count = batch.reached - batch.tail; some = omega (arith, some); told = (goes.refused_is, goes.retired_is, goes.freed_is) }, refl) op next
  tells_on (SetStop held) at t pending op next =
      let goes = refusing sizes steps (step cleaner.Stop) batch.tail (has_passed batch) false true None t.0 refl refl (fault_some (calls_refusal works) pending) refl refl in
      by_op (SetStop held) cleaner.Stop
      (if_both (λ control. Then control cleaner.Stop) (held == 0) (withdrawing owned batch) (Cleaning batch (FailedReturnEntry 0 held))
      (λ e. tells_withdrawing sizes (step cleaner.Stop ∷ steps) owned batch goes) (λ e. ((goes, tt), refl))) op next
  tells_on cleaner.GiveBack at t pending op next =
      let gave = last_give (core.passes by).owned op next in
      subst (Then (withdrawing owned batch)) (sym gave.1)
      (tells_withdrawing sizes (step (cleaner.Give gave.0) ∷ steps) owned batch (plainly (cleaner.Give gave.0) batch.tail (has_passed batch) true false None t.0 refl refl refl refl refl))

-- The header's part has room where no cleaner moves its tail, and comes to have it by a move: each event keeps this.
use Rattle.std.proofs.Common.{◌≡◌, ◌≢◌, ◌⊎◌, ℕ, zero, suc, ◌+◌, ◌≤◌, ◌==◌, Bool, false, List, [], ◌∷◌, length, drop, drop-cons, inl, inr, refl, sym, ap, subst, ◌∙◌, arith}
use Rattle.std.specs.Prelude.{Some, None}
use Rattle.std.proofs.Math.Numerals.{add-one}
use Rattle.std.proofs.lemmas.Bool.{eqb-true, cases_eq}
use Rattle.std.proofs.lemmas.List.{drop_all}
use Rattle.nv_plain.specs.Layouts.{mount_layout}
use Rattle.nv_plain.specs.declared.call.FileCall.{FileCall}
use Rattle.nv_pmem.specs.Room.{Room}
use Rattle.nv_pmem.specs.RoomSteps.{EndWith}
use Rattle.nv_pmem.specs.Steps.{LineStep, durable_store}
use Rattle.nv_header.specs.HeaderSteps.{tail_steps}
use Rattle.nv_header.specs.Regions.{IsRoomy}
use Rattle.nv_core.specs.state.Words.{Sizes, Word, STOP, HEADER, STORE, ENTRY, slot_of_entry}
use Rattle.nv_core.specs.state.Cleaner.{Batch, CleanerControl, TakeHeader, LoadTail, WriteBack, CleanEntry, FailedReturnEntry, SyncStores, MoveHeaderTail, FreeEntry, AdvanceTail, GiveStores, GiveHeader, GiveCleaner, SetStop, CleanerOp}
use Rattle.nv_core.specs.state.Cleaner as cleaner
use Rattle.nv_core.specs.steps.CleanerSteps.{next_cleaner_op, after_cleaner_op, after_cleaner_work, withdrawing, discharging, rising_files, cleaner_word, new_batch, group_file}
use Rattle.nv_core.specs.state.Spares.{Spares, room_of_spares}
use Rattle.nv_core.specs.state.Values.{Value, Bare, APart, AStore, ABuffer, PartStep, CallEnding, Made, Failed, Refused, called}
use Rattle.nv_core.specs.state.Passes.{Control, Idle, TakePage, LoadStop, CommitGroup, ReadStore, ReadPiece, PledgePage, Cleaning, Pass, page_count, first_page, file_of, plain_call}
use Rattle.nv_core.specs.steps.Ops.{Op, Stop, ByCleaner, Split, PutBack, Join, cleaner_move, moved}
use Rattle.nv_core.specs.steps.ControlSteps.{control_after, after_by_cleaner}
use Rattle.nv_core.specs.steps.PassSteps.{begun}
use Rattle.nv_core.specs.steps.Order.{Values, Work, CallEnabled, CallMayLeave, CallDue, CleanerCallDue, IsTailCall, commit_steps}
use Rattle.nv_core.specs.steps.StepKinds.{CleanerEnabled}
use Rattle.nv_core.specs.state.Core.{Core, with_value, changes, changed_pass, after_step, after_begin, after_work, worked, control_worked, values_worked}
use Rattle.nv_core.specs.steps.Events.{CallMayBegin}
use Rattle.nv_core.proofs.steps.ByKind.{FoundEnabledByKind}
use Rattle.nv_core.specs.invariant.ControlFacts.{has_call}
use Rattle.nv_core.specs.invariant.Rooms.{EndsRoomy, KeepsRoomy, IsMoving, IsUnmoved, MovesRoomy, Rooms}
use Rattle.nv_core.specs.invariant.Sound.{Sound}
use Rattle.nv_core.proofs.state.Changes.{by_number, word_here, word_else, number_here, differ}
use Rattle.nv_core.proofs.state.Choices.{if_both, not_both, step_idle}
use Rattle.nv_core.proofs.steps.WordLaws.{untouched}
use Rattle.nv_core.proofs.log.KeepsHeader.{header_stepped, header_read}
use Rattle.nv_core.proofs.log.KeepsProgress.{IsCall, step_call}
use Rattle.nv_core.proofs.log.CleanerGoes.{IsSweeping, one_cleaner}
use Rattle.nv_core.proofs.steps.CleanerLands.{IsLanding, lands}
use Rattle.nv_core.proofs.invariant.ControlFactLaws.{worked_control}
use Rattle.nv_core.proofs.steps.CleanerControls.{tended}

-- a header's part with room has it again once its tail is moved
tails_end_roomy : (tail : ℕ) (room : Room) → IsRoomy mount_layout.header_lines room → EndWith (IsRoomy mount_layout.header_lines) (tail_steps tail) room
unfolding durable_store
tails_end_roomy tail room roomy = λ stored take flushed flush now fence. record {
  there = let a = roomy.there in let b = take.lines in let c = flush.0.lines in let d = fence.0.lines in omega (arith, a, b, c, d);
  spare = λ line below. elim (cases_eq line 1) [
    | inl same ↦ subst (λ n. 15 ≤ now.spare n) (sym same) (let a = flush.1 in let b = fence.1.spare 1 in omega (arith, a, b))
    | inr ne ↦ (let a = roomy.spare line below in let b = take.other_spare line ne in let c = flush.0.spare line in let d = fence.0.spare line in omega (arith, a, b, c, d))
  ];
}

all_to_come : (tail : ℕ) (value : Value) → KeepsRoomy value → EndsRoomy (tail_steps tail) value
all_to_come tail (APart device spares) is = tails_end_roomy tail (room_of_spares spares) is
all_to_come tail value is = absurd is

none_to_come : (value : Value) → EndsRoomy [] value → KeepsRoomy value
none_to_come (APart device spares) is = is
none_to_come value is = absurd is

-- one of its device calls comes
one_comes : (step : LineStep) (left : Spares) (steps : List LineStep) (value : Value) → EndsRoomy (step ∷ steps) value → CallMayLeave value (PartStep step left) Made → EndsRoomy steps (called (PartStep step left) Made value)
one_comes step left steps (APart device before) is leaves = is (room_of_spares left) leaves
one_comes step left steps Bare is leaves = absurd is
one_comes step left steps (AStore device) is leaves = absurd is
one_comes step left steps (ABuffer buffer) is leaves = absurd is

pub none_refused : (step : LineStep) (left : Spares) (value : Value) → CallMayLeave value (PartStep step left) Refused → ⊥
none_refused step left (APart device before) leaves = leaves
none_refused step left Bare leaves = leaves
none_refused step left (AStore device) leaves = leaves
none_refused step left (ABuffer buffer) leaves = leaves

-- ---- what a control state owes

call_moves : (control : Control) (value : Value) → IsCall control → MovesRoomy control value
call_moves (Cleaning batch inner) value call = absurd call
call_moves control value call = tt

moving_calls : (control : Control) → IsMoving control → has_call control ≡ false
moving_calls (Cleaning batch inner) is = refl
moving_calls control is = absurd is

-- one that is still to move the tail, or has given that up
roomy_moves : (batch : Batch) (value : Value) (inner : CleanerControl) → IsLanding inner → KeepsRoomy value → MovesRoomy (Cleaning batch inner) value
roomy_moves batch value (MoveHeaderTail zero) lands is = λ _. is
roomy_moves batch value (MoveHeaderTail (suc calls)) lands is = absurd lands
roomy_moves batch value inner lands is = λ _. is

withdrawn_moves : (owned : List Word) (batch : Batch) (value : Value) → MovesRoomy (withdrawing owned batch) value
withdrawn_moves [] batch value = tt
withdrawn_moves (cell ∷ rest) batch value = λ f. absurd f

discharged_moves : (batch : Batch) (files : List ℕ) (value : Value) → MovesRoomy (discharging batch files) value
discharged_moves batch [] value = λ f. absurd f
discharged_moves batch (file ∷ rest) value = λ f. absurd f

-- after a cleaner's step
cleaner_op_moves : (sizes : Sizes) (old owned : List Word) (batch : Batch) (inner : CleanerControl) (cleaner_op : CleanerOp) (found : ℕ) (value : Value) → next_cleaner_op sizes old batch inner ≡ Some cleaner_op → (inner ≡ cleaner.LoadStop → found ≡ 0 → KeepsRoomy value)
    → MovesRoomy (Cleaning batch inner) value → MovesRoomy (after_cleaner_op sizes owned batch inner found) value
cleaner_op_moves sizes old owned batch TakeHeader cleaner_op found value e new was = if_both (λ s. MovesRoomy s value) (found == 0) (Cleaning batch cleaner.LoadStop) (withdrawing owned batch) (λ _ f. absurd f) (λ _. withdrawn_moves owned batch value)
cleaner_op_moves sizes old owned batch cleaner.LoadStop cleaner_op found value e new was = if_both (λ s. MovesRoomy s value) (found == 0) (Cleaning batch LoadTail) (withdrawing owned batch) (λ z _. new refl (eqb-true found 0 z)) (λ _. withdrawn_moves owned batch value)
cleaner_op_moves sizes old owned batch (FailedReturnEntry i end) cleaner_op found value e new was = if_both (λ s. MovesRoomy s value) (i + 1 == end) (withdrawing owned batch) (Cleaning batch (FailedReturnEntry (i + 1) end)) (λ _. withdrawn_moves owned batch value) (λ _ f. absurd f)
cleaner_op_moves sizes old owned batch (FreeEntry number) cleaner_op found value e new was = if_both (λ s. MovesRoomy s value) (number + 1 == batch.reached) (Cleaning batch AdvanceTail) (Cleaning batch (FreeEntry (number + 1))) (λ _ f. absurd f) (λ _ f. absurd f)
cleaner_op_moves sizes old owned batch AdvanceTail cleaner_op found value e new was = discharged_moves batch (rising_files sizes batch) value
cleaner_op_moves sizes old owned batch (GiveStores []) cleaner_op found value e new was = λ f. absurd f
cleaner_op_moves sizes old owned batch (GiveStores (file ∷ rest)) cleaner_op found value e new was = discharged_moves batch rest value
cleaner_op_moves sizes old owned batch GiveHeader cleaner_op found value e new was = λ f. absurd f
cleaner_op_moves sizes old owned batch GiveCleaner cleaner_op found value e new was = tt
cleaner_op_moves sizes old owned batch (SetStop n) cleaner_op found value e new was = if_both (λ s. MovesRoomy s value) (n == 0) (withdrawing owned batch) (Cleaning batch (FailedReturnEntry 0 n)) (λ _. withdrawn_moves owned batch value) (λ _ f. absurd f)
cleaner_op_moves sizes old owned batch cleaner.GiveBack cleaner_op found value e new was = withdrawn_moves owned batch value
cleaner_op_moves sizes old owned batch (MoveHeaderTail calls) cleaner_op found value e new was = absurd (none_next e)
  where
    none_next : {T : Type 0} {cleaner_op : T} → None ≡ Some cleaner_op → ⊥
    none_next e = cc
cleaner_op_moves sizes old owned batch inner cleaner_op found value e new was = lands (λ s. MovesRoomy s value) tt (λ b s landing. roomy_moves b value s landing (was tt)) sizes old owned batch inner cleaner_op found e

-- ---- a step

module _ (sizes : Sizes) (first : Values) (by : ℕ) (core : Core) (found : ℕ) (sound : Sound sizes first core) where
  stop_on : (op : Op) → FoundEnabledByKind sizes by core op found → core.words STOP ≡ 1 → (after_step sizes by op found core).words STOP ≡ 1
  stop_on Stop may one = word_here core.words STOP 1
  stop_on (ByCleaner cleaner.Stop) may one = word_here core.words STOP 1
  stop_on (ByCleaner cleaner_op) may one = untouched sizes by core (ByCleaner cleaner_op) found may STOP refl ∙ one
  stop_on op may one = untouched sizes by core op found may STOP refl ∙ one

  -- a cleaner that moved the tail still does, or has set STOP
  tended_still : (cleaner_op : CleanerOp) (control : Control) → (core.passes by).control ≡ control → CleanerEnabled sizes (core.passes by) cleaner_op control → FoundEnabledByKind sizes by core (ByCleaner cleaner_op) found → IsMoving control → (after_step sizes by (ByCleaner cleaner_op) found core).words STOP ≡ 1
  tended_still cleaner_op control at cleaner_step may is = tended (λ c s. (core.passes by).control ≡ s → IsMoving s → (after_step sizes by (ByCleaner c) found core).words STOP ≡ 1) sizes (core.passes by) cleaner_op control cleaner_step
      (λ most at is. absurd is) (λ batch inner e at is. go batch inner e is) at is
    where
      go : (batch : Batch) (inner : CleanerControl) → next_cleaner_op sizes (core.passes by).owned batch inner ≡ Some cleaner_op → IsMoving (Cleaning batch inner) → (after_step sizes by (ByCleaner cleaner_op) found core).words STOP ≡ 1
      go batch (MoveHeaderTail (suc calls)) e is = absurd (none_next e)
        where
          none_next : {T : Type 0} {cleaner_op : T} → None ≡ Some cleaner_op → ⊥
          none_next e = cc
      go batch (SetStop n) e is = subst (λ c. (after_step sizes by (ByCleaner c) found core).words STOP ≡ 1) (some_same cleaner.Stop cleaner_op e) (word_here core.words STOP 1)
        where
          some_same : (one other : CleanerOp) → Some one ≡ Some other → one ≡ other
          some_same one other e = cc
      go batch inner e is = absurd is

  moving_here : (op : Op) → FoundEnabledByKind sizes by core op found → IsMoving (core.passes (changes by core.made op)).control → IsMoving (changed_pass sizes by core op found).control ⊎ ((after_step sizes by op found core).words STOP ≡ 1)
  moving_here Split may is = absurd (subst IsMoving (sound.numbers.unborn (core.made + 1) (omega arith)).idle is)
  moving_here (PutBack cell) may is = inl is
  moving_here (Join number) may is = inl is
  moving_here (ByCleaner cleaner_op) may is = inr (tended_still cleaner_op (core.passes by).control refl may.may may is)
  moving_here op may is = absurd (not_both (step_idle sizes core.values (core.passes by) op may.may) (moving_calls (core.passes by).control is))

  moving_still : (op : Op) → FoundEnabledByKind sizes by core op found → (n : ℕ) → IsMoving (core.passes n).control → IsMoving ((after_step sizes by op found core).passes n).control ⊎ ((after_step sizes by op found core).words STOP ≡ 1)
  moving_still op may = by_number (λ n (p : Pass). IsMoving (core.passes n).control → IsMoving p.control ⊎ ((after_step sizes by op found core).words STOP ≡ 1)) core.passes (changes by core.made op) (changed_pass sizes by core op found)
      (moving_here op may) (λ n ne is. inl is)

  pub header_room_step : (op : Op) → FoundEnabledByKind sizes by core op found → (after_step sizes by op found core).words STOP ≡ 0 → ((n : ℕ) → IsMoving ((after_step sizes by op found core).passes n).control → ⊥) → KeepsRoomy ((after_step sizes by op found core).values HEADER)
  header_room_step op may zero_ none = subst KeepsRoomy (sym (header_stepped sizes (core.passes by) op core.values))
      (sound.rooms.header (let bit = sound.stop.bit in was_zero (core.words STOP) bit (λ one. let o = stop_on op may one in omega (arith, o, zero_)))
      (λ n is. elim (moving_still op may n is) [ inl on ↦ none n on | inr one ↦ omega (arith, one, zero_) ]))
    where
      was_zero : (n : ℕ) → n ≤ 1 → n ≢ 1 → n ≡ 0
      was_zero n bit ne = omega (arith, bit, ne)

  -- a cleaner that finds STOP at 0 finds the header's part with room
  found_roomy : (batch : Batch) → (core.passes by).control ≡ Cleaning batch cleaner.LoadStop → core.words STOP ≡ 0 → KeepsRoomy (core.values HEADER)
  found_roomy batch at zero_ = sound.rooms.header zero_ (λ n. go n (core.passes n).control refl)
    where
      no_other : (n : ℕ) (b : Batch) (s : CleanerControl) → (core.passes n).control ≡ Cleaning b s → IsSweeping s → IsMoving (Cleaning b s) → ⊥
      no_other n b s e sweeping is = subst IsMoving (sym e ∙ ap (λ k. (core.passes k).control) (one_cleaner sizes first core sound n by b batch s cleaner.LoadStop e at sweeping tt) ∙ at) is

      go : (n : ℕ) (control : Control) → (core.passes n).control ≡ control → IsMoving control → ⊥
      go n (Cleaning b (MoveHeaderTail (suc calls))) e is = no_other n b (MoveHeaderTail (suc calls)) e tt is
      go n (Cleaning b (SetStop m)) e is = no_other n b (SetStop m) e tt is
      go n control e is = is

  tended_moves : (cleaner_op : CleanerOp) (control : Control) → (core.passes by).control ≡ control → CleanerEnabled sizes (core.passes by) cleaner_op control → FoundEnabledByKind sizes by core (ByCleaner cleaner_op) found
      → MovesRoomy (after_by_cleaner sizes (moved (cleaner_move sizes cleaner_op found) (core.passes by).owned) cleaner_op found control) (core.values HEADER)
  tended_moves cleaner_op control at cleaner_step may = tended (λ c s. (core.passes by).control ≡ s → FoundEnabledByKind sizes by core (ByCleaner c) found → MovesRoomy (after_by_cleaner sizes (moved (cleaner_move sizes c found) (core.passes by).owned) c found s) (core.values HEADER))
      sizes (core.passes by) cleaner_op control cleaner_step
      (λ most at may. if_both (λ s. MovesRoomy s (core.values HEADER)) (found == 0) (Cleaning (new_batch most) TakeHeader) Idle (λ _ f. absurd f) (λ _. tt))
      (λ batch inner e at may. cleaner_op_moves sizes (core.passes by).owned (moved (cleaner_move sizes cleaner_op found) (core.passes by).owned) batch inner cleaner_op found (core.values HEADER) e
      (λ mind zero_. found_roomy batch (at ∙ ap (Cleaning batch) mind) (stop_found batch inner cleaner_op e mind may ∙ zero_)) (subst (λ s. MovesRoomy s (core.values HEADER)) at (sound.rooms.moving by)))
      at may
    where
      some_same : (one other : CleanerOp) → Some one ≡ Some other → one ≡ other
      some_same one other e = cc

      stop_found : (batch : Batch) (inner : CleanerControl) (cleaner_op : CleanerOp) → next_cleaner_op sizes (core.passes by).owned batch inner ≡ Some cleaner_op → inner ≡ cleaner.LoadStop → FoundEnabledByKind sizes by core (ByCleaner cleaner_op) found → core.words STOP ≡ found
      stop_found batch inner cleaner_op e mind may = ap (λ c. core.words (cleaner_word sizes c)) (some_same (cleaner.Load STOP) cleaner_op (sym (ap (next_cleaner_op sizes (core.passes by).owned batch) mind) ∙ e)) ∙ may.is

  moves_here : (op : Op) → FoundEnabledByKind sizes by core op found → MovesRoomy (changed_pass sizes by core op found).control (core.values HEADER)
  moves_here Split may = tt
  moves_here (PutBack cell) may = sound.rooms.moving by
  moves_here (Join number) may = sound.rooms.moving by
  moves_here (ByCleaner cleaner_op) may = tended_moves cleaner_op (core.passes by).control refl may.may may
  moves_here op may = call_moves (control_after sizes (core.passes by) op found) (core.values HEADER) (step_call sizes core.values (core.passes by) op found (λ f. f) may.may)

  pub moving_room_step : (op : Op) → FoundEnabledByKind sizes by core op found → (n : ℕ) → MovesRoomy ((after_step sizes by op found core).passes n).control ((after_step sizes by op found core).values HEADER)
  moving_room_step op may n = subst (MovesRoomy ((after_step sizes by op found core).passes n).control) (sym (header_stepped sizes (core.passes by) op core.values))
      (by_number (λ n (p : Pass). MovesRoomy p.control (core.values HEADER)) core.passes (changes by core.made op) (changed_pass sizes by core op found) (moves_here op may) (λ n ne. sound.rooms.moving n) n)

-- ---- a call that begins

pub header_room_begin : (sizes : Sizes) (by : ℕ) (core : Core) (call : FileCall) → Rooms sizes core → CallMayBegin sizes call (core.passes by) → core.words STOP ≡ 0 → ((n : ℕ) → IsMoving ((after_begin sizes by call core).passes n).control → ⊥) → KeepsRoomy (core.values HEADER)
header_room_begin sizes by core call rooms may zero_ none = rooms.header zero_ (λ n is. none n (still n is))
  where
    still : (n : ℕ) → IsMoving (core.passes n).control → IsMoving ((after_begin sizes by call core).passes n).control
    still = by_number (λ n (p : Pass). IsMoving (core.passes n).control → IsMoving p.control) core.passes by (begun sizes call (core.passes by)) (λ is. absurd (subst IsMoving may.idle is)) (λ n ne is. is)

pub moving_room_begin : (sizes : Sizes) (by : ℕ) (core : Core) (call : FileCall) → Rooms sizes core → (n : ℕ) → MovesRoomy ((after_begin sizes by call core).passes n).control (core.values HEADER)
moving_room_begin sizes by core call rooms = by_number (λ n (p : Pass). MovesRoomy p.control (core.values HEADER)) core.passes by (begun sizes call (core.passes by))
    (if_both (λ s. MovesRoomy s (core.values HEADER)) (page_count sizes (plain_call call) == 0) LoadStop (TakePage (first_page sizes (plain_call call))) (λ _. tt) (λ _. tt)) (λ n ne. rooms.moving n)

-- ---- a device call

pub header_worked : (pass : Pass) (work : Work) (values : Values) → HEADER ≢ work.cell → values_worked pass work values HEADER ≡ values HEADER
header_worked pass work values ne =
    header_read pass.units work.job work.ending pass.control (with_called pass work values)
    ∙ word_else values work.cell (called work.job work.ending (values work.cell)) HEADER ne
  where
    with_called : Pass → Work → Values → Values
    with_called pass work values = with_value values work.cell (called work.job work.ending (values work.cell))

module _ (sizes : Sizes) (first : Values) (by : ℕ) (core : Core) (work : Work) (sound : Sound sizes first core) (may : CallEnabled sizes core.values (core.passes by) work) where
  abbrev now : Core
  now = after_work sizes by work core

  abbrev HasHeader : Type 0
  HasHeader = (core.words STOP ≡ 0 → ((n : ℕ) → IsMoving ((after_work sizes by work core).passes n).control → ⊥) → KeepsRoomy ((after_work sizes by work core).values HEADER))
      × ((n : ℕ) → MovesRoomy ((after_work sizes by work core).passes n).control ((after_work sizes by work core).values HEADER))

  -- one on another part or a store
  elsewhere : HEADER ≢ work.cell → (IsMoving (core.passes by).control → ⊥) → MovesRoomy (worked sizes work (core.passes by)).control (core.values HEADER) → HasHeader
  elsewhere ne still here = (
    λ zero_ none. subst KeepsRoomy (sym same) (sound.rooms.header zero_ (λ n is. none n (on n is))),
    λ n. subst (MovesRoomy ((after_work sizes by work core).passes n).control) (sym same) (by_number (λ n (p : Pass). MovesRoomy p.control (core.values HEADER)) core.passes by (worked sizes work (core.passes by)) here (λ n ne. sound.rooms.moving n) n),
  )
    where
      same : (after_work sizes by work core).values HEADER ≡ core.values HEADER
      same = header_worked (core.passes by) work core.values ne

      on : (n : ℕ) → IsMoving (core.passes n).control → IsMoving ((after_work sizes by work core).passes n).control
      on = by_number (λ n (p : Pass). IsMoving (core.passes n).control → IsMoving p.control) core.passes by (worked sizes work (core.passes by)) (λ is. absurd (still is)) (λ n ne is. is)

  -- no other cleaner has found STOP at 0
  others : (batch : Batch) (inner : CleanerControl) → (core.passes by).control ≡ Cleaning batch inner → IsSweeping inner → (value : Value) (n : ℕ) → n ≢ by → (control : Control) → (core.passes n).control ≡ control → MovesRoomy control value
  others batch inner at sweeping value n ne (Cleaning b cleaner.GiveBack) e = λ f. absurd f
  others batch inner at sweeping value n ne (Cleaning b s) e = absurd (ne (one_cleaner sizes first core sound n by b batch s inner e at tt sweeping))
  others batch inner at sweeping value n ne control e = tt

  module _ (batch : Batch) (calls : ℕ) (at : (core.passes by).control ≡ Cleaning batch (MoveHeaderTail calls)) (due : IsTailCall batch.reached calls work) where
    value_now : (after_work sizes by work core).values HEADER ≡ called (PartStep due.step due.spares) work.ending (core.values HEADER)
    value_now = header_read (core.passes by).units work.job work.ending (core.passes by).control (with_value core.values work.cell (called work.job work.ending (core.values work.cell)))
        ∙ ap (λ c. with_value core.values c (called work.job work.ending (core.values c)) HEADER) due.cell ∙ word_here core.values HEADER (called work.job work.ending (core.values HEADER)) ∙ ap (λ j. called j work.ending (core.values HEADER)) due.job

    leaves : CallMayLeave (core.values HEADER) (PartStep due.step due.spares) work.ending
    leaves = subst (λ c. CallMayLeave (core.values c) (PartStep due.step due.spares) work.ending) due.cell (subst (λ j. CallMayLeave (core.values work.cell) j work.ending) due.job may.leaves)

    before_call : EndsRoomy (drop calls (tail_steps batch.reached)) (core.values HEADER)
    before_call = go calls at
      where
        go : (calls : ℕ) → (core.passes by).control ≡ Cleaning batch (MoveHeaderTail calls) → EndsRoomy (drop calls (tail_steps batch.reached)) (core.values HEADER)
        go zero at = let was : IsUnmoved (MoveHeaderTail zero) → KeepsRoomy (core.values HEADER) = subst (λ s. MovesRoomy s (core.values HEADER)) at (sound.rooms.moving by) in all_to_come batch.reached (core.values HEADER) (was tt)
        go (suc calls) at = subst (λ s. MovesRoomy s (core.values HEADER)) at (sound.rooms.moving by)

    after_call : work.ending ≡ Made → EndsRoomy (drop (suc calls) (tail_steps batch.reached)) ((after_work sizes by work core).values HEADER)
    after_call made = subst (EndsRoomy (drop (suc calls) (tail_steps batch.reached))) (sym (value_now ∙ ap (λ how. called (PartStep due.step due.spares) how (core.values HEADER)) made))
        (one_comes due.step due.spares (drop (suc calls) (tail_steps batch.reached)) (core.values HEADER)
        (subst (λ list. EndsRoomy list (core.values HEADER)) (drop-cons (tail_steps batch.reached) calls due.step due.there ∙ ap (λ step. step ∷ drop (suc calls) (tail_steps batch.reached)) due.at) before_call)
        (subst (CallMayLeave (core.values HEADER) (PartStep due.step due.spares)) made leaves))

    -- where the cleaner stands then
    after_control : (how : CallEnding) → work.ending ≡ how → ((core.words STOP ≡ 0 → (IsMoving (after_cleaner_work batch how (MoveHeaderTail calls)) → ⊥) → KeepsRoomy ((after_work sizes by work core).values HEADER))
        × MovesRoomy (after_cleaner_work batch how (MoveHeaderTail calls)) ((after_work sizes by work core).values HEADER))
    after_control Made made = if_both (λ s. (core.words STOP ≡ 0 → (IsMoving s → ⊥) → KeepsRoomy ((after_work sizes by work core).values HEADER)) × MovesRoomy s ((after_work sizes by work core).values HEADER))
        (calls + 1 == length (tail_steps batch.reached)) (Cleaning batch (FreeEntry batch.tail)) (Cleaning batch (MoveHeaderTail (calls + 1)))
        (λ last. (
          λ _ _. none_to_come ((after_work sizes by work core).values HEADER) (subst (λ list. EndsRoomy list ((after_work sizes by work core).values HEADER))
              (drop_all (suc calls) (tail_steps batch.reached) (let l = eqb-true (calls + 1) (length (tail_steps batch.reached)) last in omega (arith, l))) (after_call made)),
          λ f. absurd f,
        ))
        (λ _. subst (λ n. (core.words STOP ≡ 0 → (IsMoving (Cleaning batch (MoveHeaderTail n)) → ⊥) → KeepsRoomy ((after_work sizes by work core).values HEADER)) × MovesRoomy (Cleaning batch (MoveHeaderTail n)) ((after_work sizes by work core).values HEADER))
        (sym (add-one calls)) (λ _ none. absurd (none tt), after_call made))
    after_control (Failed came faults) made = (λ _ none. absurd (none tt), λ f. absurd f)
    after_control Refused made = absurd (none_refused due.step due.spares (core.values HEADER) (subst (CallMayLeave (core.values HEADER) (PartStep due.step due.spares)) made leaves))

    moves_tail : HasHeader
    moves_tail = (
      λ zero_ none. stands.0 zero_ (λ is. none by (subst (λ (p : Pass). IsMoving p.control) (sym (number_here core.passes by (worked sizes work (core.passes by)))) (subst IsMoving (sym control_now) is))),
      by_number (λ n (p : Pass). MovesRoomy p.control ((after_work sizes by work core).values HEADER)) core.passes by (worked sizes work (core.passes by)) (subst (λ s. MovesRoomy s ((after_work sizes by work core).values HEADER)) (sym control_now) stands.1)
          (λ n ne. others batch (MoveHeaderTail calls) at tt ((after_work sizes by work core).values HEADER) n ne (core.passes n).control refl),
    )
      where
        stands : (core.words STOP ≡ 0 → (IsMoving (after_cleaner_work batch work.ending (MoveHeaderTail calls)) → ⊥) → KeepsRoomy ((after_work sizes by work core).values HEADER))
            × MovesRoomy (after_cleaner_work batch work.ending (MoveHeaderTail calls)) ((after_work sizes by work core).values HEADER)
        stands = after_control work.ending refl

        control_now : control_worked sizes (core.passes by) work.ending (core.passes by).control ≡ after_cleaner_work batch work.ending (MoveHeaderTail calls)
        control_now = ap (control_worked sizes (core.passes by) work.ending) at ∙ worked_control sizes (core.passes by) batch work.ending (MoveHeaderTail calls)

  -- a cleaner's other device calls
  of_cleaner_moves : (batch : Batch) (how : CallEnding) (inner : CleanerControl) (value : Value) → (KeepsRoomy value) → CleanerCallDue sizes core.values batch work inner → ((calls : ℕ) → inner ≢ MoveHeaderTail calls) → MovesRoomy (after_cleaner_work batch how inner) value
  of_cleaner_moves batch Made (cleaner.ReadPiece i) value is due other = λ _. is
  of_cleaner_moves batch Made (WriteBack i) value is due other = if_both (λ s. MovesRoomy s value) (i + 1 == length batch.pages) (Cleaning batch (CleanEntry 0)) (Cleaning batch (cleaner.HoldEntry (i + 1))) (λ _ _. is) (λ _ _. is)
  of_cleaner_moves batch Made (SyncStores (file ∷ [])) value is due other = λ _. is
  of_cleaner_moves batch Made (SyncStores (file ∷ (next ∷ rest))) value is due other = λ _. is
  of_cleaner_moves batch (Failed came faults) (cleaner.ReadPiece i) value is due other = λ f. absurd f
  of_cleaner_moves batch (Failed came faults) (WriteBack i) value is due other = λ f. absurd f
  of_cleaner_moves batch (Failed came faults) (SyncStores (file ∷ rest)) value is due other = λ f. absurd f
  of_cleaner_moves batch Refused (cleaner.ReadPiece i) value is due other = λ _. is
  of_cleaner_moves batch Refused (WriteBack i) value is due other = λ _. is
  of_cleaner_moves batch Refused (SyncStores (file ∷ rest)) value is due other = λ _. is
  of_cleaner_moves batch how (MoveHeaderTail calls) value is due other = absurd (other calls refl)
  of_cleaner_moves batch how inner value is due other = absurd due

  header_room_work : HasHeader
  header_room_work = go (core.passes by).control refl may.due
    where
      here : (control : Control) → (core.passes by).control ≡ control → MovesRoomy (control_worked sizes (core.passes by) work.ending control) (core.values HEADER) → MovesRoomy (worked sizes work (core.passes by)).control (core.values HEADER)
      here control at is = subst (λ s. MovesRoomy (control_worked sizes (core.passes by) work.ending s) (core.values HEADER)) (sym at) is

      still : (control : Control) → (core.passes by).control ≡ control → (IsMoving control → ⊥) → IsMoving (core.passes by).control → ⊥
      still control at none is = none (subst IsMoving at is)

      committed : (how : CallEnding) (calls : ℕ) → MovesRoomy (control_worked sizes (core.passes by) how (CommitGroup calls)) (core.values HEADER)
      committed Made calls = if_both (λ s. MovesRoomy s (core.values HEADER)) (calls + 1 == length (commit_steps sizes (core.passes by) (core.passes by).call)) (PledgePage (first_page sizes (core.passes by).call)) (CommitGroup (calls + 1)) (λ _. tt) (λ _. tt)
      committed (Failed came faults) calls = tt
      committed Refused calls = tt

      copied : (how : CallEnding) (page : ℕ) (dirty : Bool) → MovesRoomy (control_worked sizes (core.passes by) how (ReadStore page dirty)) (core.values HEADER)
      copied Made page dirty = tt
      copied (Failed came faults) page dirty = tt
      copied Refused page dirty = tt

      patched : (how : CallEnding) (page number : ℕ) → MovesRoomy (control_worked sizes (core.passes by) how (ReadPiece page number)) (core.values HEADER)
      patched Made page number = tt
      patched (Failed came faults) page number = tt
      patched Refused page number = tt

      of_cleaner : (batch : Batch) (inner : CleanerControl) → (core.passes by).control ≡ Cleaning batch inner → IsUnmoved inner → (MovesRoomy (Cleaning batch inner) (core.values HEADER) → KeepsRoomy (core.values HEADER)) → CleanerCallDue sizes core.values batch work inner
          → ((calls : ℕ) → inner ≢ MoveHeaderTail calls) → HEADER ≢ work.cell → (IsMoving (Cleaning batch inner) → ⊥) → HasHeader
      of_cleaner batch inner at unmoved was due other ne none = elsewhere ne (still (Cleaning batch inner) at none)
          (here (Cleaning batch inner) at (subst (λ s. MovesRoomy s (core.values HEADER)) (sym (worked_control sizes (core.passes by) batch work.ending inner))
          (of_cleaner_moves batch work.ending inner (core.values HEADER) (was (subst (λ s. MovesRoomy s (core.values HEADER)) at (sound.rooms.moving by))) due other)))

      at_entry : (slot : ℕ) → work.cell ≡ ENTRY slot → HEADER ≢ work.cell
      at_entry slot cell e = differ HEADER (ENTRY slot) refl (e ∙ cell)

      at_store : (file : ℕ) → work.cell ≡ STORE file → HEADER ≢ work.cell
      at_store file cell e = differ HEADER (STORE file) refl (e ∙ cell)

      tidy : (batch : Batch) (inner : CleanerControl) → (core.passes by).control ≡ Cleaning batch inner → CleanerCallDue sizes core.values batch work inner → HasHeader
      tidy batch (cleaner.ReadPiece i) at due = of_cleaner batch (cleaner.ReadPiece i) at tt (λ w. w tt) due (λ calls e. cc) (at_entry (slot_of_entry sizes (batch.reached + i)) due.cell) (λ f. f)
      tidy batch (WriteBack i) at due = of_cleaner batch (WriteBack i) at tt (λ w. w tt) due (λ calls e. cc) (at_store (group_file sizes batch) due.cell) (λ f. f)
      tidy batch (SyncStores (file ∷ rest)) at due = of_cleaner batch (SyncStores (file ∷ rest)) at tt (λ w. w tt) due (λ calls e. cc) (at_store file due.0) (λ f. f)
      tidy batch (MoveHeaderTail calls) at due = moves_tail batch calls at due
      tidy batch inner at due = absurd due

      go : (control : Control) → (core.passes by).control ≡ control → CallDue sizes core.values (core.passes by) work control → HasHeader
      go (CommitGroup calls) at due = elsewhere (at_entry (slot_of_entry sizes ((core.passes by).first + due.row.part)) due.cell) (still (CommitGroup calls) at (λ f. f)) (here (CommitGroup calls) at (committed work.ending calls))
      go (ReadStore page dirty) at due = elsewhere (at_store (file_of (core.passes by).call) due.cell) (still (ReadStore page dirty) at (λ f. f)) (here (ReadStore page dirty) at (copied work.ending page dirty))
      go (ReadPiece page number) at due = elsewhere (at_entry (slot_of_entry sizes number) due.cell) (still (ReadPiece page number) at (λ f. f)) (here (ReadPiece page number) at (patched work.ending page number))
      go (Cleaning batch inner) at due = tidy batch inner at due
      go control at due = absurd due

  pub header_work_room : core.words STOP ≡ 0 → ((n : ℕ) → IsMoving ((after_work sizes by work core).passes n).control → ⊥) → KeepsRoomy ((after_work sizes by work core).values HEADER)
  header_work_room = header_room_work.0

  pub moving_work_room : (n : ℕ) → MovesRoomy ((after_work sizes by work core).passes n).control ((after_work sizes by work core).values HEADER)
  moving_work_room = header_room_work.1

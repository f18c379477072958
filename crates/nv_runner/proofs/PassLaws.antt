-- Passes: what pass 0 tells of those that it makes and takes in between two calls.
use Rattle.std.proofs.Common.{◌≡◌, ℕ, ◌≤◌, List, [], ◌∷◌, ◌++◌, length, inr, refl, sym, ap, subst, ◌∙◌, arith, append_assoc, append-nil}
use Rattle.nv_plain.specs.Histories.{Answered}
use Rattle.nv_core.specs.state.Words.{Word}
use Rattle.nv_core.specs.state.Passes.{IsOneOf, Pass, times}
use Rattle.nv_core.specs.state.Core.{Core, newcomer}
use Rattle.nv_core.specs.steps.Ops.{Op, PutBack, Split, Join}
use Rattle.nv_core.specs.steps.Events.{TakesStep, Event, after_event}
use Rattle.nv_core.specs.steps.Frames.{NewcomersCover, OwnEventsTell, StaysKnown}
use Rattle.nv_core.specs.steps.Opening.{IsMount, opening}
use Rattle.nv_core.specs.invariant.InvariantLaws.{RunsAreSound}
use Rattle.nv_core.specs.invariant.OneHistory.{IsPrefix}
use Rattle.nv_core.specs.invariant.Sound.{Sound}
use Rattle.nv_core.proofs.steps.RunLaws.{run_parts}
use Rattle.nv_core.proofs.invariant.KeepsHistory.{begins_more}
use Rattle.nv_table.specs.invariant.BetweenSteps.{KnowsTaken}
use Rattle.nv_table.specs.invariant.Idle.{IsIdle}
use Rattle.nv_table.specs.passes.PassesMade.{IsSplit, IsTakenIn, PutsBack}
use Rattle.nv_table.specs.passes.Seats.{PassingTells, child, joined, past_of}
use Rattle.nv_table.specs.state.Opened.{Opened, IsRunOf, mount_of, state_of}
use Rattle.nv_table.specs.state.States.{BoardState, IsOf, PassState}
use Rattle.nv_table.specs.state.Views.{AreDistinctNumbers, Past, PassView, SeesAll, numbers, pass_of, past_pass}
use Rattle.nv_table.proofs.invariant.Going.{after_one, told_of}
use Rattle.nv_table.proofs.passes.BetweenLaws.{distinct_run}
use Rattle.nv_table.proofs.steps.CallLaws.{child_number}
use Rattle.nv_table.proofs.steps.TakenLaws.{behind_on}
use Rattle.nv_mirror.specs.Answers.{IsUnplaced}
use Rattle.nv_calls.specs.histories.Faults.{open_in, open_writes}
use Rattle.nv_runner.specs.Workers.{IsNewcomer, IsZeroStill}
use Rattle.nv_runner.proofs.NewcomerLaws.{join_makes, joins_go_on, makes_both, makes_none, newcomers_are_unborn, newcomers_begin_behind, split_makes, splits_go_on}
use Rattle.nv_runner.proofs.ShiftRuns.{on_none}
use Rattle.nv_runner.proofs.TryLaws.{on_both}
use Rattle.nv_runner.proofs.histories.HistoryMembers.{one_mapped}

-- ---- first parts

-- of two first parts of a list the shorter is one of the longer
pub shorter_begins : {T : Type 0} (one other whole : List T) → IsPrefix one whole → IsPrefix other whole → length one ≤ length other → IsPrefix one other
shorter_begins [] other whole begins begins_other short = (other, refl)
shorter_begins (x ∷ one) [] whole begins begins_other short = absurd (omega arith)
shorter_begins (x ∷ one) (y ∷ other) [] begins begins_other short = absurd (omega (arith, ap length begins.1))
shorter_begins (x ∷ one) (y ∷ other) (z ∷ whole) begins begins_other short =
    let here : z ∷ whole ≡ x ∷ (one ++ begins.0) = begins.1 in
    let there : z ∷ whole ≡ y ∷ (other ++ begins_other.0) = begins_other.1 in
    let head : y ≡ x = cc in
    let tail : whole ≡ one ++ begins.0 = cc in
    let tail_other : whole ≡ other ++ begins_other.0 = cc in
    let more = shorter_begins one other whole (begins.0, tail) (begins_other.0, tail_other) (omega arith) in
    (more.0, ap (λ h. h ∷ other) head ∙ ap (λ l. x ∷ l) more.1)

-- ---- a step between passes places nothing

step_unplaced : (old new : PassView) (op : Op) (found : ℕ) → PassingTells old op found new → IsUnplaced old new
step_unplaced old new op found passed = record { seen = ap (λ (p : Pass). p.seen) passed.pass; mine = ap (λ (p : Pass). p.mine) passed.pass }

pub split_unplaced : (old new other : PassState) → IsSplit old new other → IsUnplaced old.view new.view
split_unplaced old new other is =
    let step = step_unplaced old.view is.middle Split is.found is.made in
    record {
      seen = ap (λ (p : PassState). (pass_of p.view).seen) is.parent_is ∙ step.seen;
      mine = ap (λ (p : PassState). (pass_of p.view).mine) is.parent_is ∙ step.mine;
    }

pub join_unplaced : (old other new : PassState) → IsTakenIn old other new → IsUnplaced old.view new.view
join_unplaced old other new is =
    let step = step_unplaced (joined old.view is.last) is.view (Join other.view.number) is.found is.taken in
    record {
      seen = ap (λ (p : PassState). (pass_of p.view).seen) is.is ∙ step.seen;
      mine = ap (λ (p : PassState). (pass_of p.view).mine) is.is ∙ step.mine;
    }

-- ---- a pass that is taken in between two calls

-- it puts nothing back
puts_nothing : OwnEventsTell → (cells : List (Word × ℕ)) (old last : PassView) → IsMount (mount_of old.opened) → (pass_of old).owned ≡ [] → (pass_of old).left ≡ [] → PutsBack cells old last → last ≡ old
puts_nothing own [] old last mount owned left back = back
puts_nothing own (one ∷ rest) old last mount owned left back =
    let passed : PassingTells old (PutBack one.0) one.1 back.0 = back.1 in
    let event : Event = record { by = old.number; act = TakesStep (PutBack one.0) one.1 } in
    let parts = run_parts old.opened.sizes (opening (mount_of old.opened)) passed.run (event ∷ []) passed.is_run in
    let stays : StaysKnown old.number (state_of old.opened old.run) (state_of old.opened passed.run) = told_of own old.opened old.number old.run passed.run mount parts.0 passed.knew.all passed.knew.made in
    let owned_then : ((state_of old.opened passed.run).passes old.number).owned ≡ [] = ap (λ (p : Pass). p.owned) stays.pass ∙ owned in
    let left_then : ((state_of old.opened passed.run).passes old.number).left ≡ [] = ap (λ (p : Pass). p.left) stays.pass ∙ left in
    absurd (parts.1.0.act.may (ap (times one.0) owned_then ∙ sym (ap (times one.0) left_then)))

-- it stands first among those that pass 0 has taken in
pub taken_first : OwnEventsTell → (old other new : PassState) → IsMount (mount_of other.view.opened) → IsIdle other → IsTakenIn old other new → new.view.ended ≡ past_of other.view ∷ old.view.ended
taken_first own old other new mount idle is =
    ap (λ (p : PassState). p.view.ended) is.is ∙ ap (λ (v : PassView). v.ended) is.taken.is
    ∙ ap (λ (v : PassView). past_of v ∷ old.view.ended) (puts_nothing own is.cells other.view is.last mount idle.owned idle.left is.back)

pub taken_mount : (old other new : PassState) → IsTakenIn old other new → new.view.opened ≡ old.view.opened
taken_mount old other new is = ap (λ (p : PassState). p.view.opened) is.is ∙ ap (λ (v : PassView). v.opened) is.taken.is

-- ---- a pass that is made between two calls

pub split_ended : (old new other : PassState) → IsSplit old new other → new.view.ended ≡ old.view.ended
split_ended old new other is = ap (λ (p : PassState). p.view.ended) is.parent_is ∙ ap (λ (v : PassView). v.ended) is.made.is

module _ (own : OwnEventsTell) (covers : NewcomersCover) (sound : RunsAreSound) (old new other : PassState) (mount : IsMount (mount_of old.view.opened))
    (zero : old.view.number ≡ 0) (knows : KnowsTaken old.view) (is : IsSplit old new other) where
  abbrev opened : Opened
  opened = old.view.opened

  abbrev before : Core
  before = state_of opened is.made.run

  abbrev event : Event
  event = record { by = old.view.number; act = TakesStep Split is.found }

  is_run_before : IsRunOf opened is.made.run
  is_run_before = (run_parts opened.sizes (opening (mount_of opened)) is.made.run (event ∷ []) is.made.is_run).0

  other_is : pass_of other.view ≡ newcomer before
  other_is = ap (λ (p : PassState). pass_of p.view) is.child_is ∙ is.fresh

  -- one that pass 0 had taken in is as it was, and counts among them
  still_there : (past : Past) → IsOneOf old.view.ended past → StaysKnown past.number (state_of opened past.run) before
  still_there past one =
      let sees : SeesAll past.number past.run is.made.run = behind_on old.view is.made.run knows is_run_before (is.made.knew.all.rest, is.made.knew.all.goes_on) past one in
      told_of own opened past.number past.run is.made.run mount is_run_before sees (knows.made past one)

  counts : (past : Past) → IsOneOf old.view.ended past → IsOneOf before.ended past.number
  counts past one =
      let zero_stays = told_of own opened old.view.number old.view.run is.made.run mount is_run_before is.made.knew.all is.made.knew.made in
      subst (λ (l : List ℕ). IsOneOf l past.number) (sym (zero_stays.ended zero ∙ knows.same)) (one_mapped (λ (p : Past). p.number) old.view.ended past one)

  -- what it has seen, and the new pass, lies in one history
  after : Core
  after = after_event opened.sizes event before

  abbrev history : List Answered
  history = (state_of opened (is.made.run ++ event ∷ [])).history

  sound_then : Sound opened.sizes (mount_of opened).values (state_of opened (is.made.run ++ event ∷ []))
  sound_then = sound (mount_of opened) (is.made.run ++ event ∷ []) mount is.made.is_run

  seen_then : IsPrefix (pass_of other.view).seen history
  seen_then =
      let made : other.view ≡ child is.middle = ap (λ (p : PassState). p.view) is.child_is in
      subst (λ (v : PassView). IsPrefix (pass_of v).seen history) (sym made)
      (subst (λ (v : PassView). IsPrefix (pass_of (child v)).seen history) (sym is.made.is)
      (sound_then.history.seen ((state_of opened (is.made.run ++ event ∷ [])).made)))

  history_on : IsPrefix before.history history
  history_on = subst (λ (c : Core). IsPrefix before.history c.history) (sym (after_one opened is.made.run event)) (begins_more before.history before.history _ ([], sym (append-nil before.history)))

  past_seen : (past : Past) → IsOneOf old.view.ended past → IsPrefix (past_pass opened past).seen history
  past_seen past one =
      let there = (sound (mount_of opened) is.made.run mount is_run_before).history.seen past.number in
      let same : (before.passes past.number).seen ≡ (past_pass opened past).seen = ap (λ (p : Pass). p.seen) (still_there past one).pass in
      let on = subst (λ l. IsPrefix l before.history) same there in
      (on.0 ++ history_on.0, history_on.1 ∙ ap (λ l. l ++ history_on.0) on.1 ∙ append_assoc (past_pass opened past).seen on.0 history_on.0)

  pub split_newcomer : IsNewcomer opened old.view.ended other
  split_newcomer = record {
    mount = ap (λ (p : PassState). p.view.opened) is.child_is ∙ ap (λ (v : PassView). v.opened) is.made.is;
    other = λ none. let some = child_number old new other is zero in omega (arith, some, none);
    fresh = ap (λ (p : Pass). p.mine) other_is;
    unborn = newcomers_are_unborn old new other is;
    unfailed = ap (λ (p : Pass). open_in p.faulted) other_is;
    behind = newcomers_begin_behind old new other knows is;
    seen = λ past one.
        let covered = covers before past.number (inr (counts past one)) in
        let same = ap (λ (p : Pass). p.seen) (still_there past one).pass in
        shorter_begins (past_pass opened past).seen (pass_of other.view).seen history (past_seen past one) seen_then
        (subst (λ l. length l ≤ length (pass_of other.view).seen) same (subst (λ (p : Pass). length (before.passes past.number).seen ≤ length p.seen) (sym other_is) covered.seen));
  }

-- ---- pass 0 stays of its board, and so is a new pass

pub split_of : (board : BoardState) (old new other : PassState) → IsSplit old new other → IsOf board old → IsOf board new
split_of board old new other is of = record {
  same_table = ap (λ (p : PassState). p.table) is.parent_is ∙ of.same_table;
  same_mount = ap (λ (p : PassState). p.view.opened) is.parent_is ∙ ap (λ (v : PassView). v.opened) is.made.is ∙ of.same_mount;
}

pub split_number : (old new other : PassState) → IsSplit old new other → new.view.number ≡ old.view.number
split_number old new other is = ap (λ (p : PassState). p.view.number) is.parent_is ∙ ap (λ (v : PassView). v.number) is.made.is

pub child_of : (board : BoardState) (old new other : PassState) → IsSplit old new other → IsOf board old → IsOf board other
child_of board old new other is of = record {
  same_table = ap (λ (p : PassState). p.table) is.child_is ∙ of.same_table;
  same_mount = ap (λ (p : PassState). p.view.opened) is.child_is ∙ ap (λ (v : PassView). v.opened) is.made.is ∙ of.same_mount;
}

pub join_of : (board : BoardState) (old other new : PassState) → IsTakenIn old other new → IsOf board old → IsOf board new
join_of board old other new is of = record {
  same_table = ap (λ (p : PassState). p.table) is.is ∙ of.same_table;
  same_mount = taken_mount old other new is ∙ of.same_mount;
}

pub join_number : (old other new : PassState) → IsTakenIn old other new → new.view.number ≡ old.view.number
join_number old other new is = ap (λ (p : PassState). p.view.number) is.is ∙ ap (λ (v : PassView). v.number) is.taken.is

-- ---- pass 0 meanwhile

pub unplaced_on : (old middle new : PassView) → IsUnplaced old middle → IsUnplaced middle new → IsUnplaced old new
unplaced_on old middle new one more = record { seen = more.seen ∙ one.seen; mine = more.mine ∙ one.mine }

pub still_on : (old middle new : PassState) → IsZeroStill old middle → IsZeroStill middle new → IsZeroStill old new
still_on old middle new one more = record { number = more.number ∙ one.number; makes = makes_both old middle new one.number one.makes more.makes; opens = more.opens ∙ one.opens; on = λ worker. on_both worker 0 0 old middle new one.number (one.on worker) (more.on worker); unplaced = unplaced_on old.view middle.view new.view one.unplaced more.unplaced; spare = more.spare ∙ one.spare }

-- by nothing
pub still_same : (old new : PassState) → new ≡ old → IsZeroStill old new
still_same old new same = record {
  number = ap (λ (p : PassState). p.view.number) same;
  makes = makes_none old new same;
  on = λ worker. on_none worker old new same;
  opens = ap open_writes same;
  unplaced = record { seen = ap (λ (p : PassState). (pass_of p.view).seen) same; mine = ap (λ (p : PassState). (pass_of p.view).mine) same };
  spare = ap (λ (p : PassState). p.spare) same;
}

-- by making a pass, and by taking one in
pub split_still : (old new other : PassState) → IsSplit old new other → IsZeroStill old new
split_still old new other is = record {
  number = split_number old new other is;
  makes = split_makes old new other is;
  on = λ worker. splits_go_on worker old new other is;
  opens = ap (λ (p : PassState). open_in (pass_of p.view).faulted) is.parent_is ∙ ap (λ (p : Pass). open_in p.faulted) is.made.pass;
  unplaced = record {
    seen = ap (λ (p : PassState). (pass_of p.view).seen) is.parent_is ∙ ap (λ (p : Pass). p.seen) is.made.pass;
    mine = ap (λ (p : PassState). (pass_of p.view).mine) is.parent_is ∙ ap (λ (p : Pass). p.mine) is.made.pass;
  };
  spare = ap (λ (p : PassState). p.spare) is.parent_is;
}

pub join_still : (old other new : PassState) → IsTakenIn old other new → IsZeroStill old new
join_still old other new is = record {
  number = join_number old other new is;
  makes = join_makes old other new is;
  on = λ worker. joins_go_on worker old other new is;
  opens = ap (λ (p : PassState). open_in (pass_of p.view).faulted) is.is ∙ ap (λ (p : Pass). open_in p.faulted) is.taken.pass;
  unplaced = record {
    seen = ap (λ (p : PassState). (pass_of p.view).seen) is.is ∙ ap (λ (p : Pass). p.seen) is.taken.pass;
    mine = ap (λ (p : PassState). (pass_of p.view).mine) is.is ∙ ap (λ (p : Pass). p.mine) is.taken.pass;
  };
  spare = ap (λ (p : PassState). p.spare) is.is;
}

-- ---- those that were taken in

-- no two have one number
pub distinct_taken : (view : PassView) → IsRunOf view.opened view.run → KnowsTaken view → AreDistinctNumbers (numbers view.ended)
distinct_taken view run knows = subst AreDistinctNumbers knows.same (distinct_run view.opened.sizes (opening (mount_of view.opened)) view.run run tt)

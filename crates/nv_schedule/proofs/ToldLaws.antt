-- Told: what the history of the closed mount has of each caller.
use Rattle.std.proofs.Common.{◌≡◌, ℕ, Bool, true, false, List, [], ◌∷◌, ◌++◌, length, refl, sym, ap, subst, ◌∙◌, append_assoc}
use Rattle.std.specs.Prelude.{Option, Some, None}
use Rattle.std.proofs.lemmas.List.{append-nil}
use Rattle.nv_plain.specs.Histories.{Answered}
use Rattle.nv_plain.specs.declared.call.Reply.{Reply}
use Rattle.nv_core.specs.invariant.OneHistory.{IsPrefix, calls_by}
use Rattle.nv_core.specs.state.Passes.{IsOneOf, Pass}
use Rattle.nv_core.specs.state.Words.{Word}
use Rattle.nv_core.specs.steps.Opening.{IsMount}
use Rattle.nv_table.proofs.passes.BetweenLaws.{puts_opened}
use Rattle.nv_table.specs.invariant.Drawn.{drawn_by}
use Rattle.nv_table.specs.invariant.Idle.{IsIdle}
use Rattle.nv_table.specs.passes.PassesMade.{PutsBack}
use Rattle.nv_table.specs.passes.Seats.{past_of}
use Rattle.nv_table.specs.state.Opened.{Opened, mount_of}
use Rattle.nv_table.specs.state.States.{PassState}
use Rattle.nv_table.specs.state.Views.{Past, PassView, pass_of, past_pass}
use Rattle.nv_clean.specs.Cleaning.{CleanState}
use Rattle.nv_clean.specs.declared.batch.CleanRefusal.{CleanRefusal}
use Rattle.nv_clean.specs.declared.clean.Cleaned.{Cleaned}
use Rattle.nv_mount.specs.OneHistories.{HasOneHistory}
use Rattle.nv_mount.specs.WholeRuns.{history_then}
use Rattle.nv_mount.specs.declared.fds.Fd.{Fd}
use Rattle.nv_mirror.specs.Answers.{IsUnplaced}
use Rattle.nv_mirror.specs.PassSteps.{either_of}
use Rattle.nv_mirror.specs.declared.answers.Done.{Done}
use Rattle.nv_runner.proofs.ListLaws.{made_mine, made_stand}
use Rattle.nv_runner.specs.Lists.{MadeCall, Stand, StandsAs, as_placed, placed, placed_by, placed_on}
use Rattle.nv_trace.specs.declared.trace_call.TracedCall.{TracedCall}
use Rattle.nv_runner.specs.declared.answer.Answer.{Answer}
use Rattle.nv_runner.specs.declared.answer.Answer.TheVariants.{Placed, Refused, Open}
use Rattle.nv_trace.specs.declared.trace_call.TraceCall.{TraceCall}
use Rattle.nv_schedule.specs.Callers.{AreBatches, IsAtBatch, IsAtCall, ThreadHasCome, ThreadState}
use Rattle.nv_schedule.specs.Scheduled.{IsTakenAsItStood}
use Rattle.nv_schedule.specs.Listed.{has_drawn_at_hand, listed_as, listed_of, listed_present, open_answer, placed_answer, placed_at_hand, reply_at_hand, told_present}
use Rattle.nv_schedule.specs.Told.{AreToldOf, IsToldOf, IsToldOfWork}
use Rattle.nv_schedule.specs.Turns.{CallerState, HasCome}
use Rattle.nv_schedule.specs.declared.caller.Work.{Work}
use Rattle.nv_schedule.specs.declared.caller.Work.TheVariants.{Calls, Batches}
use Rattle.nv_schedule.specs.declared.hand.Hand.{Hand}
use Rattle.nv_schedule.proofs.AnswerLaws.{CallLaws, IsSince, all_answered, tried_since}
use Rattle.nv_schedule.proofs.EndLaws.{puts_mine, stood_number}
use Rattle.nv_schedule.proofs.turns.WayLaws.{HasPlaceAlready, IsPresentTold, of_trying}
use Rattle.std.specs.Prelude.{Result}

-- ---- the present call

begins_on : (xs ys zs : List Answered) → IsPrefix xs ys → IsPrefix ys zs → IsPrefix xs zs
begins_on xs ys zs a b = (a.0 ++ b.0, b.1 ∙ ap (λ l. l ++ b.0) a.1 ∙ append_assoc xs a.0 b.0)

-- what a pass has called since its last answer, as these calls that are listed
pub record HasPresent (fds : List Fd) (number : ℕ) (more : List MadeCall) (last now : PassState) : Type 0 where
  pub mine : (pass_of now.view).mine ≡ (pass_of last.view).mine ++ placed fds number more
  pub stand : (history : List Answered) → IsPrefix (pass_of now.view).seen history → Stand fds number (pass_of last.view).seen more history

none_present : (fds : List Fd) (number : ℕ) (last now : PassState) → IsUnplaced last.view now.view → HasPresent fds number [] last now
none_present fds number last now still = record {
  mine = still.mine ∙ sym (append-nil (pass_of last.view).mine);
  stand = λ history seen. subst (λ (l : List Answered). IsPrefix l history) still.seen seen;
}

open_present : (fds : List Fd) (number : ℕ) (call : TracedCall) (first : ℕ) (last now : PassState) → IsUnplaced last.view now.view → HasPresent fds number (record { call = call; answer = Open first } ∷ []) last now
open_present fds number call first last now still = record { mine = (none_present fds number last now still).mine; stand = (none_present fds number last now still).stand }

-- where it has no place it is listed as open, or not at all
unplaced_present : (fds : List Fd) (number : ℕ) (call : TracedCall) (has_drawn : Bool) (drawn : Option ℕ) (last now : PassState) → IsUnplaced last.view now.view
    → HasPresent fds number (listed_as call (open_answer has_drawn drawn)) last now
unplaced_present fds number call true (Some first) last now still = open_present fds number call first last now still
unplaced_present fds number call true None last now still = none_present fds number last now still
unplaced_present fds number call false drawn last now still = none_present fds number last now still

module _ (fds : List Fd) (number : ℕ) (call : TracedCall) (last start now : PassState) (before : IsSince last start) (same : last.view.number ≡ number) where
  placed_present : (reply : Reply) (place : ℕ) → HasPlaceAlready fds call.call reply place start now → HasPresent fds number (record { call = call; answer = Placed place reply } ∷ []) last now
  placed_present reply place has =
      let one : Answered = as_placed number call.call has.file reply in
      let is : ◌≡◌ {A = Answered} (as_placed start.view.number call.call has.file reply) one = ap (λ n. as_placed n call.call has.file reply) (before.later.number ∙ same) in
      let begins : IsPrefix (pass_of last.view).seen has.placed.before = subst (λ (l : List Answered). IsPrefix l has.placed.before) before.unplaced.seen has.placed.begins in
      let upto : (pass_of now.view).seen ≡ ((pass_of last.view).seen ++ begins.0) ++ one ∷ [] =
      has.placed.seen ∙ ap (λ (a : Answered). has.placed.before ++ a ∷ []) is ∙ ap (λ (l : List Answered). l ++ one ∷ []) begins.1 in
      record {
        mine = has.placed.mine ∙ ap (λ (a : Answered). (pass_of start.view).mine ++ a ∷ []) is ∙ ap (λ (l : List Answered). l ++ one ∷ []) before.unplaced.mine
            ∙ ap (λ file. (pass_of last.view).mine ++ (placed_on file number call.call reply ++ [])) (sym has.file_is);
        stand = λ history seen. (
          (pass_of now.view).seen,
          record { file = has.file; file_is = has.file_is; between = begins.0; at = has.placed.at ∙ ap length begins.1; upto_is = upto },
          seen,
        );
      }

  under_way : (reply : ℕ → Reply) (done : Option Done) (has_drawn : Bool) (drawn : Option ℕ) → IsPresentTold fds call.call reply done start now
      → HasPresent fds number (listed_as call (either_of (placed_answer done reply) (open_answer has_drawn drawn))) last now
  under_way reply None has_drawn drawn still =
      unplaced_present fds number call has_drawn drawn last now (record { seen = still.seen ∙ before.unplaced.seen; mine = still.mine ∙ before.unplaced.mine })
  under_way reply (Some done) has_drawn drawn has = placed_present (reply done.len) done.place has

present_at : CallLaws → (fds : List Fd) (number : ℕ) (left : List TracedCall) (hand : Option Hand) (drawn : Option ℕ) (last now : PassState) → IsMount (mount_of last.view.opened) → last.view.number ≡ number
    → IsAtCall fds left hand last now → HasPresent fds number (listed_present left (told_present hand drawn)) last now
present_at laws fds number [] hand drawn last now mount same at = none_present fds number last now (subst (λ (p : PassState). IsUnplaced last.view p.view) (sym at.1) (record { seen = refl; mine = refl }))
present_at laws fds number (call ∷ later) None drawn last now mount same at = none_present fds number last now (tried_since laws fds call.call last now mount at.0).unplaced
present_at laws fds number (call ∷ later) (Some hand) drawn last now mount same at =
    under_way fds number call last at.0 now (tried_since laws fds call.call last at.0 mount at.1) same (reply_at_hand hand) (placed_at_hand hand) (has_drawn_at_hand hand) drawn (of_trying fds call.call hand at.0 now at.2).told

-- ---- behind the answered ones

placed_both : (fds : List Fd) (number : ℕ) (made more : List MadeCall) → placed fds number (made ++ more) ≡ placed fds number made ++ placed fds number more
placed_both fds number [] more = refl
placed_both fds number (m ∷ later) more =
    ap (λ (l : List Answered). placed_by fds number m.call.call m.answer ++ l) (placed_both fds number later more)
    ∙ sym (append_assoc (placed_by fds number m.call.call m.answer) (placed fds number later) (placed fds number more))

-- what stands behind more stands behind less
behind_less : (fds : List Fd) (number : ℕ) (less seen : List Answered) (call : TraceCall) (answer : Answer) (later : List MadeCall) (history : List Answered) → IsPrefix less seen
    → (Stand fds number seen later history → Stand fds number less later history) → StandsAs fds number seen call answer (λ upto. Stand fds number upto later history)
    → StandsAs fds number less call answer (λ upto. Stand fds number upto later history)
behind_less fds number less seen call (Placed place reply) later history begins rest stand =
    let whole : seen ++ stand.1.between ≡ less ++ (begins.0 ++ stand.1.between) = ap (λ (l : List Answered). l ++ stand.1.between) begins.1 ∙ append_assoc less begins.0 stand.1.between in (
      stand.0,
      record {
        file = stand.1.file;
        file_is = stand.1.file_is;
        between = begins.0 ++ stand.1.between;
        at = stand.1.at ∙ ap length whole;
        upto_is = stand.1.upto_is ∙ ap (λ (l : List Answered). l ++ as_placed number call stand.1.file reply ∷ []) whole;
      },
      stand.2,
    )
behind_less fds number less seen call (Refused refusal) later history begins rest stand = rest stand
behind_less fds number less seen call (Open first) later history begins rest stand = rest stand

stand_less : (fds : List Fd) (number : ℕ) (less seen : List Answered) (more : List MadeCall) (history : List Answered) → IsPrefix less seen → Stand fds number seen more history → Stand fds number less more history
stand_less fds number less seen [] history begins stand = begins_on less seen history begins stand
stand_less fds number less seen (m ∷ later) history begins stand =
    behind_less fds number less seen m.call.call m.answer later history begins (stand_less fds number less seen later history begins) stand

-- Some stand up to where others stand from.
one_and_more : (fds : List Fd) (number : ℕ) (seen : List Answered) (call : TraceCall) (answer : Answer) (later more : List MadeCall) (middle history : List Answered)
    → ((upto : List Answered) → Stand fds number upto later middle → Stand fds number upto (later ++ more) history) → StandsAs fds number seen call answer (λ upto. Stand fds number upto later middle)
    → StandsAs fds number seen call answer (λ upto. Stand fds number upto (later ++ more) history)
one_and_more fds number seen call (Placed place reply) later more middle history rest stand = (stand.0, stand.1, rest stand.0 stand.2)
one_and_more fds number seen call (Refused refusal) later more middle history rest stand = rest seen stand
one_and_more fds number seen call (Open first) later more middle history rest stand = rest seen stand

stand_both : (fds : List Fd) (number : ℕ) (seen : List Answered) (made more : List MadeCall) (middle history : List Answered) → Stand fds number seen made middle → Stand fds number middle more history
    → Stand fds number seen (made ++ more) history
stand_both fds number seen [] more middle history stand then_ = stand_less fds number seen middle more history stand then_
stand_both fds number seen (m ∷ later) more middle history stand then_ =
    one_and_more fds number seen m.call.call m.answer later more middle history (λ upto behind. stand_both fds number upto later more middle history behind then_) stand

-- ---- a pass that was taken in as it stood

puts_seen : (cells : List (Word × ℕ)) (old last : PassView) → PutsBack cells old last → (pass_of last).seen ≡ (pass_of old).seen
puts_seen [] old last same = ap (λ (v : PassView). (pass_of v).seen) same
puts_seen (one ∷ rest) old last back = puts_seen rest back.0 last back.2 ∙ ap (λ (p : Pass). p.seen) back.1.pass

pub past_is : (opened : Opened) (pass : PassState) (past : Past) → pass.view.opened ≡ opened → (stood : IsTakenAsItStood pass past) → past_pass opened past ≡ pass_of stood.last
past_is opened pass past same stood =
    ap (past_pass opened) stood.is ∙ ap (λ (o : Opened). past_pass o (past_of stood.last)) (sym same ∙ sym (puts_opened stood.cells pass.view stood.last stood.back))

module _ (view : PassView) (placed_count : ℕ) (history : HasOneHistory view placed_count) (pass : PassState) (past : Past) (same : pass.view.opened ≡ view.opened) (stood : IsTakenAsItStood pass past) (one : IsOneOf view.ended past) where
  pub history_mine : calls_by pass.view.number (history_then view) ≡ (pass_of pass.view).mine
  history_mine =
      subst (λ n. calls_by n (history_then view) ≡ (pass_of pass.view).mine) (stood_number pass past stood)
      (history.joined past one ∙ ap (λ (p : Pass). p.mine) (past_is view.opened pass past same stood) ∙ puts_mine stood.cells pass.view stood.last stood.back)

  pub history_seen : IsPrefix (pass_of pass.view).seen (history_then view)
  history_seen =
      subst (λ (l : List Answered). IsPrefix l (history_then view)) (ap (λ (p : Pass). p.seen) (past_is view.opened pass past same stood) ∙ puts_seen stood.cells pass.view stood.last stood.back)
      (history.seen_joined past one)

-- ---- a thread

thread_told : CallLaws → (fds : List Fd) (thread : ThreadState) (drawn : Option ℕ) (start now : PassState) (history : List Answered) → IsMount (mount_of start.view.opened) → IsIdle start → (pass_of start.view).mine ≡ []
    → ThreadHasCome fds thread start now → calls_by start.view.number history ≡ (pass_of now.view).mine → IsPrefix (pass_of now.view).seen history
    → AreToldOf fds start.view.number thread.made (listed_of thread drawn) start history
thread_told laws fds thread drawn start now history mount idle none come mine seen =
    let number = start.view.number in
    let all = all_answered laws fds thread.made start come.last mount idle come.made in
    let more = listed_present thread.left (told_present thread.hand drawn) in
    let present = present_at laws fds number thread.left thread.hand drawn come.last now (subst (λ (o : Opened). IsMount (mount_of o)) (sym all.opened) mount) all.number come.at in
    record {
      last = come.last;
      made = all.each;
      stand = stand_both fds number (pass_of start.view).seen thread.made more (pass_of come.last.view).seen history
          (made_stand fds None thread.made start come.last all.each (pass_of come.last.view).seen ([], sym (append-nil (pass_of come.last.view).seen))) (present.stand history seen);
      own =
          mine ∙ present.mine
          ∙ ap (λ (l : List Answered). l ++ placed fds number more) (made_mine fds None thread.made start come.last all.each ∙ ap (λ (l : List Answered). l ++ placed fds number thread.made) none)
          ∙ sym (placed_both fds number thread.made more);
    }

-- ---- a cleaner

batches_mine : (most : ℕ) (results : List (Result Cleaned CleanRefusal)) (start now : PassState) → AreBatches most results start now → (pass_of now.view).mine ≡ (pass_of start.view).mine
batches_mine most [] start now same = ap (λ (p : PassState). (pass_of p.view).mine) same
batches_mine most (last ∷ earlier) start now are = are.2.kept.mine ∙ batches_mine most earlier start are.0 are.1

batch_mine : (most : ℕ) (machine : Option CleanState) (last now : PassState) → IsAtBatch most machine last now → (pass_of now.view).mine ≡ (pass_of last.view).mine
batch_mine most None last now at = ap (λ (p : PassState). (pass_of p.view).mine) at.0
batch_mine most (Some machine) last now at = at.1.way.called.unplaced.mine

-- ---- of any caller

work_told : CallLaws → (fds : List Fd) (work : Work) (start now : PassState) (history : List Answered) → IsMount (mount_of start.view.opened) → IsIdle start → (pass_of start.view).mine ≡ [] → HasCome fds work start now
    → calls_by start.view.number history ≡ (pass_of now.view).mine → IsPrefix (pass_of now.view).seen history → IsToldOfWork fds start.view.number work now start history
work_told laws fds (Calls thread) start now history mount idle none come mine seen = thread_told laws fds thread (drawn_by now.view) start now history mount idle none come mine seen
work_told laws fds (Batches cleaner) start now history mount idle none come mine seen =
    mine ∙ batch_mine cleaner.most cleaner.machine come.last now come.at ∙ batches_mine cleaner.most come.results start come.last come.batches ∙ none

pub caller_told : CallLaws → (fds : List Fd) (caller : CallerState) (start : PassState) (history : List Answered) → IsMount (mount_of start.view.opened) → IsIdle start → (pass_of start.view).mine ≡ []
    → HasCome fds caller.work start caller.pass → calls_by start.view.number history ≡ (pass_of caller.pass.view).mine → IsPrefix (pass_of caller.pass.view).seen history → IsToldOf fds start.view.number caller start history
caller_told laws fds caller start history mount idle none come mine seen = work_told laws fds caller.work start caller.pass history mount idle none come mine seen

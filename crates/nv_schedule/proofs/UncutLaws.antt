-- Uncut: as long as no cut is reached none of the events of a schedule is a device call that failed, but for the last one where it meets a fault.
use Rattle.std.proofs.Common.{◌≡◌, ℕ, ◌||◌, Bool, true, false, List, [], ◌∷◌, ◌++◌, refl, sym, ap, ◌∙◌}
use Rattle.std.proofs.lemmas.Bool.{true≢false}
use Rattle.nv_core.specs.steps.Events.{Event}
use Rattle.nv_mount.specs.declared.fds.Fd.{Fd}
use Rattle.nv_schedule.specs.Cuts.{cut_behind}
use Rattle.nv_schedule.specs.Faults.{has_failed, some_fails}
use Rattle.nv_schedule.specs.Following.{FallShort, Follows, GoesTo, MeetsFault, all_events, next_at}
use Rattle.nv_schedule.specs.Reaches.{is_there, place_of}
use Rattle.nv_schedule.specs.Turns.{CallerState}
use Rattle.nv_schedule.proofs.CutLaws.{uncut_before}
use Rattle.nv_schedule.proofs.FollowLaws.{all_events_on}
use Rattle.nv_trace.specs.declared.token.Reach.{Reach}
use Rattle.nv_trace.specs.declared.token.Token.{Token}
use Rattle.nv_trace.specs.declared.token.Token.TheVariants.{Advance, Cut}

-- ---- of two runs of events

or_same : (b c d : Bool) → (b || c) || d ≡ b || (c || d)
or_same true c d = refl
or_same false c d = refl

or_true : (b : Bool) → b || true ≡ true
or_true true = refl
or_true false = refl

both_fail : (xs ys : List Event) → some_fails (xs ++ ys) ≡ some_fails xs || some_fails ys
both_fail [] ys = refl
both_fail (x ∷ xs) ys = ap (λ b. has_failed x.act || b) (both_fail xs ys) ∙ sym (or_same (has_failed x.act) (some_fails xs) (some_fails ys))

none_fails : (xs ys : List Event) → some_fails xs ≡ false → some_fails ys ≡ false → some_fails (xs ++ ys) ≡ false
none_fails xs ys one other = both_fail xs ys ∙ ap (λ b. b || some_fails ys) one ∙ other

last_fails : (xs ys : List Event) → some_fails ys ≡ true → some_fails (xs ++ ys) ≡ true
last_fails xs ys failed = both_fail xs ys ∙ ap (λ b. some_fails xs || b) failed ∙ or_true (some_fails xs)

-- ---- of tokens

short_whole : (fds : List Fd) (reach : Reach) (place : ℕ) (callers : List CallerState) (advances : List (List Event)) (then_ : List CallerState) → FallShort fds false reach place callers advances then_ → some_fails (all_events advances) ≡ false
short_whole fds reach place callers [] then_ same = refl
short_whole fds reach place callers (made ∷ later) then_ fell = none_fails made (all_events later) fell.3 (short_whole fds reach place fell.1 later then_ fell.5)

token_whole : (fds : List Fd) (reach : Reach) (place : ℕ) (callers : List CallerState) (advances : List (List Event)) (then_ : List CallerState) (there : Bool) → GoesTo there fds false reach place callers advances then_
    → some_fails (all_events advances) ≡ false
token_whole fds reach place callers advances then_ true goes = ap (λ l. some_fails (all_events l)) goes.0
token_whole fds reach place callers advances then_ false goes =
    let come = goes.0 in
    ap some_fails (ap all_events come.all ∙ all_events_on come.short come.last)
    ∙ none_fails (all_events come.short) come.last (short_whole fds reach place callers come.short come.middle come.fell) come.whole

pub schedule_whole : (fds : List Fd) (tokens : List Token) (callers : List CallerState) (trail : List Event) (then_ : List CallerState) → Follows fds false tokens callers trail then_ → cut_behind false tokens ≡ false → some_fails trail ≡ false
schedule_whole fds [] callers trail then_ nothing uncut = ap some_fails nothing.0
schedule_whole fds (Cut number ∷ later) callers trail then_ follows uncut = absurd (true≢false (uncut_before true later uncut))
schedule_whole fds (Advance turn reach ∷ later) callers trail then_ follows uncut =
    ap some_fails follows.4
    ∙ none_fails (all_events follows.0) follows.2 (token_whole fds reach (place_of turn) callers follows.0 follows.1 (is_there reach (next_at callers (place_of turn))) follows.3)
    (schedule_whole fds later follows.1 follows.2 then_ follows.5 uncut)

pub fault_met : (fds : List Fd) (tokens : List Token) (callers : List CallerState) (trail : List Event) (then_ : List CallerState) → MeetsFault fds false tokens callers trail then_ → some_fails trail ≡ true
fault_met fds tokens callers trail then_ met =
    let fails = met.fails in
    ap some_fails met.trail_is
    ∙ last_fails met.first (all_events met.advances) (ap some_fails (ap all_events fails.all ∙ all_events_on fails.short fails.last) ∙ last_fails (all_events fails.short) fails.last fails.failed)

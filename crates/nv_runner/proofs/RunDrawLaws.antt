-- Run draws: the calls of a whole run drew their numbers in a row.
use Rattle.std.proofs.Common.{◌≡◌, ◌≢◌, ◌⊎◌, ℕ, ◌+◌, ◌<◌, ◌≤◌, true, List, [], ◌∷◌, ◌++◌, length, map, filter, inl, inr, refl, sym, ap, subst, ◌∙◌, arith, length-append}
use Rattle.std.specs.Prelude.{IsPermutation, Option}
use Rattle.std.specs.List.{flat_map}
use Rattle.std.proofs.lemmas.Bool.{cases_eq}
use Rattle.std.proofs.lemmas.List.{map-append}
use Rattle.std.proofs.lemmas.List.Sorted.{IsPermutation-map, IsPermutation-sym, IsPermutation-trans}
use Rattle.nv_core.specs.state.Passes.{IsOneOf}
use Rattle.nv_core.specs.state.Words.{Sizes, HEAD}
use Rattle.nv_core.specs.steps.Events.{Event}
use Rattle.nv_core.specs.steps.Opening.{IsMount, opening}
use Rattle.nv_core.specs.invariant.Draws.{RunsCountDraws, UnmadeHaveDrawnNothing, drawn_of}
use Rattle.nv_core.specs.invariant.OneHistory.{IsPrefix}
use Rattle.nv_core.proofs.steps.RunLaws.{run_parts}
use Rattle.nv_table.specs.passes.Seats.{past_of}
use Rattle.nv_table.specs.state.Opened.{IsRunOf, Opened, mount_of, state_of}
use Rattle.nv_table.specs.state.States.{PassState}
use Rattle.nv_table.specs.state.Views.{AreDistinctNumbers, numbers, pass_of}
use Rattle.nv_mount.specs.declared.fds.Fd.{Fd}
use Rattle.nv_trace.specs.declared.trace_call.TracedCall.{TracedCall}
use Rattle.nv_runner.specs.Entries.{entries_taken}
use Rattle.nv_runner.specs.declared.answer.Answer.TheVariants.{Open}
use Rattle.nv_runner.specs.DrawnNumbers.{DrawnCall}
use Rattle.nv_runner.specs.Histories.{ComesBefore, KeepOrder, RoundsRise}
use Rattle.nv_runner.specs.Lists.{MadeCall, calls_made}
use Rattle.nv_runner.specs.RunNumbers.{HaveDrawn}
use Rattle.nv_runner.specs.RunRefusals.{IsRunOfPasses, calls_that_drew}
use Rattle.nv_runner.specs.Runs.{has_drawn}
use Rattle.nv_runner.specs.Shifts.{AreInOrder, ComesBehind, HasRun, Shift}
use Rattle.nv_runner.proofs.draws.DrawOrder.{AreOrdered, call_of, drawing_each, drawing_timed, drew_of_those, drew_so, in_a_row, in_time, keep_order, number_told, numbered, numbered_calls, of_kept, one_drawing, one_kept, takes_by, time_moved, time_rises}
use Rattle.nv_runner.proofs.draws.DrawTimes.{DrewAt, IsTimedShift, Timed, drew_by, timed_shift}
use Rattle.nv_runner.proofs.draws.DrawnSums.{listed_total, total_listed}
use Rattle.nv_runner.proofs.histories.HistoryMembers.{of_one, one_either, one_mapped, one_moved, one_of_mapped}
use Rattle.nv_runner.proofs.histories.HistorySums.{added, added_append, added_mapped, added_moved}
use Rattle.nv_runner.proofs.OpenRunLaws.{flat_moved}
use Rattle.nv_runner.proofs.RefusalWords.{WordLaws}
use Rattle.nv_runner.proofs.RunRefusalLaws.{call_there, made_there, nobody_there, sees_all, shift_is}
use Rattle.nv_runner.proofs.ShiftRuns.{DrawnLaws, drawn, drawn_absent, drawn_less}

module _ (words : WordLaws) (counts : RunsCountDraws) (draws : DrawnLaws) (unmade : UnmadeHaveDrawnNothing) (fds : List Fd) (worker : Option ℕ) (made : List MadeCall) (zero : PassState) (run : HasRun fds worker made zero)
    (mount : IsMount (mount_of zero.view.opened)) (whole : IsRunOfPasses zero.view) (distinct : AreDistinctNumbers (numbers zero.view.ended)) (idle : drawn_of zero.view.opened.sizes (pass_of zero.view) ≡ 0)
    (rise : RoundsRise (calls_made made)) where
  abbrev opened : Opened
  opened = zero.view.opened

  abbrev sizes : Sizes
  sizes = opened.sizes

  abbrev all : List Event
  all = zero.view.run

  abbrev TimedShift : Shift → Type 0
  TimedShift shift = IsTimedShift words draws opened mount all whole.is_run shift

  abbrev drawn_then : (number : ℕ) → (run : List Event) → ℕ
  drawn_then number run = drawn draws opened mount number run

  times_of : (shift : Shift) → IsOneOf run.shifts shift → TimedShift shift
  times_of shift there =
      timed_shift words draws opened mount all whole.is_run fds worker shift (shift_is words counts draws fds worker made zero run mount whole shift there) (sees_all words counts draws fds worker made zero run mount whole shift there)

  rises : (shift other : Shift) → IsOneOf run.shifts shift → IsOneOf run.shifts other → (a b : MadeCall) → IsOneOf shift.made a → IsOneOf other.made b → a.call.line < b.call.line → b.call.round < a.call.round → ⊥
  rises shift other there other_there a b one one_other less later =
      let of_made : (s : Shift) → IsOneOf run.shifts s → (m : MadeCall) → IsOneOf s.made m → IsOneOf (calls_made made) m.call = λ s in_run m in_shift.
      call_there words counts draws fds worker made zero run mount whole m (made_there words counts draws fds worker made zero run mount whole s m in_run in_shift) in
      rise a.call b.call (of_made shift there a one) (of_made other other_there b one_other) less later

  -- ---- all calls, each with its time

  abbrev timed_all : (shifts : List Shift) → ((s : Shift) → IsOneOf shifts s → TimedShift s) → List Timed
  timed_all [] times = []
  timed_all (first ∷ rest) times = (times first (inl refl)).timed ++ timed_all rest (λ s there. times s (inr there))

  -- the shift of one of them
  record IsFrom (shifts : List Shift) (t : Timed) : Type 0 where
    shift : Shift
    there : IsOneOf shifts shift
    call : IsOneOf shift.made t.made
    least : length shift.start.view.run ≤ t.time
    most : has_drawn t.made.answer ≡ true → t.time < length shift.now.view.run

  abbrev from_shift : (shifts : List Shift) (times : (s : Shift) → IsOneOf shifts s → TimedShift s) (shift : Shift) (there : IsOneOf shifts shift) (t : Timed) → IsOneOf (times shift there).timed t → IsFrom shifts t
  from_shift shifts times shift there t one =
      let is = times shift there in
      let inside = is.inside t one in
      record { shift = shift; there = there; call = subst (λ l. IsOneOf l t.made) is.are (one_mapped (λ (t : Timed). t.made) is.timed t one); least = inside.0; most = inside.1 }

  further : (first : Shift) (rest : List Shift) (t : Timed) → IsFrom rest t → IsFrom (first ∷ rest) t
  further first rest t from = record { shift = from.shift; there = inr from.there; call = from.call; least = from.least; most = from.most }

  from_all : (shifts : List Shift) (times : (s : Shift) → IsOneOf shifts s → TimedShift s) (t : Timed) → IsOneOf (timed_all shifts times) t → IsFrom shifts t
  from_all [] times t one = absurd one
  from_all (first ∷ rest) times t one = elim (one_either (times first (inl refl)).timed (timed_all rest (λ s there. times s (inr there))) t one) [
    | inl here ↦ from_shift (first ∷ rest) times first (inl refl) t here
    | inr later ↦ further first rest t (from_all rest (λ s there. times s (inr there)) t later)
  ]

  all_are : (shifts : List Shift) (times : (s : Shift) → IsOneOf shifts s → TimedShift s) → map (λ (t : Timed). t.made) (timed_all shifts times) ≡ flat_map (λ (s : Shift). s.made) shifts
  all_are [] times = refl
  all_are (first ∷ rest) times =
      let more = timed_all rest (λ s there. times s (inr there)) in
      map-append (λ (t : Timed). t.made) (times first (inl refl)).timed more
      ∙ ap (λ l. l ++ map (λ (t : Timed). t.made) more) (times first (inl refl)).are ∙ ap (λ l. first.made ++ l) (all_are rest (λ s there. times s (inr there)))

  all_told : (shifts : List Shift) (times : (s : Shift) → IsOneOf shifts s → TimedShift s) (t : Timed) → IsOneOf (timed_all shifts times) t → (found : ℕ) → t.made.answer ≡ Open found
      → DrewAt words draws opened mount all whole.is_run t.time (entries_taken sizes.page t.made.call.call) found
  all_told [] times t one found is_open = absurd one
  all_told (first ∷ rest) times t one found is_open = elim (one_either (times first (inl refl)).timed (timed_all rest (λ s there. times s (inr there))) t one) [
    | inl here ↦ (times first (inl refl)).told t here found is_open
    | inr later ↦ all_told rest (λ s there. times s (inr there)) t later found is_open
  ]

  all_sum : (shifts : List Shift) (times : (s : Shift) → IsOneOf shifts s → TimedShift s) (other : List Event) → IsPrefix other all
      → added (λ (s : Shift). drawn_then s.now.view.number other) shifts ≡ added (drew_by sizes (length other)) (timed_all shifts times)
  all_sum [] times other lies = refl
  all_sum (first ∷ rest) times other lies =
      let here = (times first (inl refl)).sums other lies in
      let later = all_sum rest (λ s there. times s (inr there)) other lies in
      let joined = added_append (drew_by sizes (length other)) (times first (inl refl)).timed (timed_all rest (λ s there. times s (inr there))) in
      omega (arith, here, later, joined)

  -- ---- in order

  -- a call of a shift, and one of a shift behind which it comes
  behind_it : (later earlier : Shift) (a b : Timed) → ComesBehind later earlier → IsOneOf run.shifts later → IsOneOf run.shifts earlier → IsOneOf later.made a.made → IsOneOf earlier.made b.made
      → length later.start.view.run ≤ a.time → b.time < length earlier.now.view.run
      → (ComesBefore a.made.call b.made.call → ⊥) × (ComesBefore b.made.call a.made.call → b.time < a.time)
  behind_it later earlier a b behind in_run other_in one other least most = go (behind a.made b.made one other)
    where
      go : ((b.made.call.round < a.made.call.round) × IsPrefix (pass_of earlier.now.view).seen (pass_of later.start.view).seen × IsPrefix earlier.now.view.run later.start.view.run) ⊎ ((a.made.call.round ≡ b.made.call.round) × (a.made.call.thread ≢ b.made.call.thread))
          → (ComesBefore a.made.call b.made.call → ⊥) × (ComesBefore b.made.call a.made.call → b.time < a.time)
      go (inl is) = (
        λ comes. elim comes [
          | inl round ↦ (let less = is.0 in omega (arith, round, less))
          | inr line ↦ rises later earlier in_run other_in a.made b.made one other line.1 is.0
        ],
        λ comes. (let whole = ap (λ l. length l) is.2.1 in let joined = length-append earlier.now.view.run is.2.0 in omega (arith, least, most, whole, joined)),
      )
      go (inr is) = (
        λ comes. elim comes [
          | inl round ↦ (let same = is.0 in omega (arith, round, same))
          | inr line ↦ is.1 line.0
        ],
        λ comes. absurd (elim comes [
          | inl round ↦ (let same = is.0 in omega (arith, round, same))
          | inr line ↦ is.1 (sym line.0)
        ]),
      )

  abbrev AreOrderedSo : List Timed → Type 0
  AreOrderedSo xs = (a b : Timed) → IsOneOf xs a → IsOneOf xs b → has_drawn a.made.answer ≡ true → has_drawn b.made.answer ≡ true → ComesBefore a.made.call b.made.call → a.time < b.time

  all_ordered : (shifts : List Shift) (times : (s : Shift) → IsOneOf shifts s → TimedShift s) → ((s : Shift) → IsOneOf shifts s → IsOneOf run.shifts s) → AreInOrder shifts → AreOrderedSo (timed_all shifts times)
  all_ordered [] times in_run order a b one other drawn_a drawn_b comes = absurd one
  all_ordered (first ∷ rest) times in_run order a b one other drawn_a drawn_b comes =
      elim (one_either here.timed more a one) [
        | inl here_a ↦ elim (one_either here.timed more b other) [
          | inl here_b ↦ here.ordered (λ c d in_c in_d. rises first first (in_run first (inl refl)) (in_run first (inl refl)) c d in_c in_d) a b here_a here_b drawn_a comes
          | inr later_b ↦ (
              let from_a = from_shift (first ∷ rest) times first (inl refl) a here_a in
              let from_b = from_all rest (λ s there. times s (inr there)) b later_b in
              absurd ((apart a b here_a later_b from_b drawn_b).0 comes)
              )
        ]
        | inr later_a ↦ elim (one_either here.timed more b other) [
          | inl here_b ↦ (let from_a = from_all rest (λ s there. times s (inr there)) a later_a in (apart b a here_b later_a from_a drawn_a).1 comes)
          | inr later_b ↦ all_ordered rest (λ s there. times s (inr there)) (λ s there. in_run s (inr there)) order.1 a b later_a later_b drawn_a drawn_b comes
        ]
      ]
    where
      here : TimedShift first
      here = times first (inl refl)

      more : List Timed
      more = timed_all rest (λ s there. times s (inr there))

      apart : (c d : Timed) → IsOneOf here.timed c → IsOneOf more d → (from : IsFrom rest d) → has_drawn d.made.answer ≡ true
          → (ComesBefore c.made.call d.made.call → ⊥) × (ComesBefore d.made.call c.made.call → d.time < c.time)
      apart c d here_c later_d from drawn_d =
          let from_c = from_shift (first ∷ rest) times first (inl refl) c here_c in
          behind_it first from.shift c d (of_one (ComesBehind first) rest from.shift order.0 from.there) (in_run first (inl refl)) (in_run from.shift (inr from.there)) from_c.call from.call from_c.least (from.most drawn_d)

  -- ---- HEAD

  -- passes of no shift have drawn nothing
  absent_none : (other : List Event) → IsPrefix other all → (number : ℕ) → (IsOneOf (map (λ (s : Shift). s.now.view.number) run.shifts) number → ⊥) → drawn_then number other ≡ 0
  absent_none other lies number absent = elim (cases_eq number zero.view.number) [
    | inl same ↦ (let grown = drawn_less draws opened mount zero.view.number other all lies whole.is_run in let at_zero = ap (λ n. drawn_then n other) same in omega (arith, grown, at_zero, idle))
    | inr ne ↦ drawn_absent draws opened mount number other all lies whole.is_run
        (nobody_there words counts draws fds worker made zero run mount whole number ne
        (λ s s_there same. absent (subst (IsOneOf (map (λ (s : Shift). s.now.view.number) run.shifts)) same (one_mapped (λ (s : Shift). s.now.view.number) run.shifts s s_there))))
  ]

  mapped_twice : (shifts : List Shift) → numbers (map (λ (s : Shift). past_of s.now.view) shifts) ≡ map (λ (s : Shift). s.now.view.number) shifts
  mapped_twice [] = refl
  mapped_twice (first ∷ rest) = ap (λ l. first.now.view.number ∷ l) (mapped_twice rest)

  abbrev times : List Timed
  times = timed_all run.shifts times_of

  -- it counts what the calls had drawn
  head_is : (other : List Event) → IsPrefix other all → (state_of opened other).words HEAD ≡ opened.next + added (drew_by sizes (length other)) times
  head_is other lies =
      let other_run = (run_parts sizes (opening (mount_of opened)) other lies.0 (subst (IsRunOf opened) lies.1 whole.is_run)).0 in
      let shift_number : Shift → ℕ = λ s. s.now.view.number in
      let listed = map shift_number run.shifts in
      let counted = counts (mount_of opened) other mount other_run in
      let value : ℕ → ℕ = λ n. drawn_then n other in
      let made_then = (state_of opened other).made + 1 in
      let names : numbers zero.view.ended ≡ listed = ap numbers (sym run.pasts) ∙ mapped_twice run.shifts in
      let most = total_listed listed made_then value (absent_none other lies) in
      let least = listed_total listed made_then value (subst AreDistinctNumbers names distinct) (λ n past. unmade (mount_of opened) n other mount other_run (omega (arith, past))) in
      let by_shift = added_mapped value shift_number run.shifts in
      let sum = all_sum run.shifts times_of other lies in
      omega (arith, counted, most, least, by_shift, sum)

  -- ---- the order

  abbrev those : List Timed
  those = filter drew_so times

  abbrev order : List Timed
  order = in_time those

  back : (t : Timed) → IsOneOf order t → IsOneOf times t × (drew_so t ≡ true)
  back t one = of_kept times t (one_moved order those t (IsPermutation-sym those order (time_moved those)) one)

  ordered : AreOrdered order
  ordered a b one other comes =
      let of_a = back a one in
      let of_b = back b other in
      all_ordered run.shifts times_of (λ s there. there) run.in_order a b of_a.0 of_b.0 of_a.1 of_b.1 comes

  -- what those had drawn when so many events had come
  those_drew : (count : ℕ) → added (drew_by sizes count) times ≡ added (takes_by (entries_taken sizes.page) count) order
  those_drew count = drew_of_those sizes count times ∙ added_moved (takes_by (entries_taken sizes.page) count) those order (time_moved those)

  told : (call : TracedCall) (number : ℕ) → IsOneOf made (record { call = call; answer = Open number }) → IsOneOf (numbered (entries_taken sizes.page) opened.next order) (record { call = call; number = number })
  told call number one =
      let m : MadeCall = record { call = call; answer = Open number } in
      let flat = flat_map (λ (s : Shift). s.made) run.shifts in
      let from = one_of_mapped (λ (t : Timed). t.made) times m (subst (λ l. IsOneOf l m) (sym (all_are run.shifts times_of)) (one_moved made flat m run.listed one)) in
      let t = from.0 in
      let is_open : t.made.answer ≡ Open number = ap (λ (m : MadeCall). m.answer) from.2 in
      let at = all_told run.shifts times_of t from.1 number is_open in
      let there = one_moved those order t (time_moved those) (one_kept times t from.1 (ap has_drawn is_open)) in
      let then_is = head_is at.run at.lies in
      let next_is = head_is at.next at.next_lies in
      let head = at.head in
      let next_head = at.next_head in
      let long = ap (λ count. added (drew_by sizes count) times) at.long in
      let next_long = ap (λ count. added (drew_by sizes count) times) at.next_long in
      let those_then = those_drew t.time in
      let those_next = those_drew (t.time + 1) in
      subst (λ (c : TracedCall). IsOneOf (numbered (entries_taken sizes.page) opened.next order) (record { call = c; number = number })) (ap (λ (m : MadeCall). m.call) from.2)
      (number_told (entries_taken sizes.page) opened.next number order t there (time_rises those) (omega (arith, head, then_is, long, those_then)) (omega (arith, next_head, next_is, next_long, those_next)))

  pub have_drawn : HaveDrawn sizes opened.next made
  have_drawn =
      let taken = entries_taken sizes.page in
      let flat = flat_map (λ (s : Shift). s.made) run.shifts in
      let drawn_calls = numbered taken opened.next order in
      let calls : map (λ (d : DrawnCall). d.call) drawn_calls ≡ map call_of order = numbered_calls taken opened.next order in
      let flat_drew : calls_that_drew flat ≡ map call_of those = ap calls_that_drew (sym (all_are run.shifts times_of)) ∙ drawing_timed times in
      let moved : IsPermutation (calls_that_drew made) (calls_that_drew flat) =
      subst (λ l. IsPermutation l (calls_that_drew flat)) (sym (drawing_each made)) (subst (λ l. IsPermutation (flat_map one_drawing made) l) (sym (drawing_each flat)) (flat_moved one_drawing made flat run.listed)) in
      record {
        drew = record {
          drawn = drawn_calls;
          each_once = subst (λ l. IsPermutation (calls_that_drew made) l) (sym calls)
              (IsPermutation-trans (calls_that_drew made) (map call_of those) (map call_of order) (subst (λ l. IsPermutation (calls_that_drew made) l) flat_drew moved) (IsPermutation-map call_of those order (time_moved those)));
          in_order = subst KeepOrder (sym calls) (keep_order order (time_rises those) ordered);
          row = in_a_row taken opened.next order;
        };
        told = told;
      }

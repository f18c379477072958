-- Draw times: when each call of a pass drew, and what that says of the pass at any time.
use Rattle.std.proofs.Common.{◌≡◌, ◌⊎◌, ℕ, suc, ◌+◌, ◌<◌, ◌≤◌, nat_lt, Bool, true, false, List, [], ◌∷◌, ◌++◌, length, map, inl, inr, refl, sym, ap, subst, ◌∙◌, arith, length-append}
use Rattle.std.specs.Prelude.{Option}
use Rattle.std.specs.List.{AllPairs}
use Rattle.std.proofs.lemmas.Bool.{cases_lt, le-ltb, lt-ltb}
use Rattle.std.proofs.lemmas.List.Kept.{AllPairs-from_increasing}
use Rattle.nv_core.specs.state.Passes.{IsOneOf, Pass}
use Rattle.nv_core.specs.state.Words.{Sizes}
use Rattle.nv_core.specs.steps.Events.{Event}
use Rattle.nv_core.specs.steps.Opening.{IsMount}
use Rattle.nv_core.specs.invariant.Draws.{placed_entries}
use Rattle.nv_core.specs.invariant.OneHistory.{IsPrefix}
use Rattle.nv_core.proofs.invariant.HistoryLaws.{begins_all}
use Rattle.nv_table.specs.state.Opened.{Opened, IsRunOf, mount_of}
use Rattle.nv_table.specs.state.States.{PassState}
use Rattle.nv_table.specs.state.Views.{SeesAll}
use Rattle.nv_mount.specs.declared.fds.Fd.{Fd}
use Rattle.nv_calls.specs.histories.Faults.{open_in}
use Rattle.nv_trace.specs.declared.trace_call.TracedCall.{TracedCall}
use Rattle.nv_runner.specs.Entries.{entries_taken}
use Rattle.nv_runner.specs.declared.answer.Answer.TheVariants.{Open}
use Rattle.nv_runner.specs.Histories.{ComesBefore}
use Rattle.nv_runner.specs.Lists.{AreMade, MadeCall}
use Rattle.nv_runner.specs.Runs.{entries_if, has_drawn}
use Rattle.nv_runner.specs.Shifts.{IsShift, Shift}
use Rattle.nv_runner.proofs.draws.DrawMoments.{IsBare, IsTimed, drawn_at, head_at, part_less, pass_at, stands_at, timed}
use Rattle.nv_runner.proofs.draws.DrawSteps.{opened_entries}
use Rattle.nv_runner.proofs.draws.DrawnSums.{drew}
use Rattle.nv_runner.proofs.histories.HistoryMembers.{contained, one_mapped}
use Rattle.nv_runner.proofs.histories.HistorySums.{added, added_none}
use Rattle.nv_runner.proofs.RefusalWords.{WordLaws}
use Rattle.nv_runner.proofs.ShiftRuns.{DrawnLaws, chain, drawn_here, drawn_less, shift_draws}

-- a call, and when it drew, as how many events had come
pub record Timed : Type 0 where
  pub made : MadeCall
  pub time : ℕ

-- what it had drawn when so many had
abbrev pub drew_by : Sizes → (count : ℕ) → Timed → ℕ
drew_by sizes count t = entries_if (nat_lt t.time count) (drew sizes t.made)

pub drew_early : (sizes : Sizes) (count : ℕ) (t : Timed) → t.time < count → drew_by sizes count t ≡ drew sizes t.made
drew_early sizes count t early = ap (λ b. entries_if b (drew sizes t.made)) (lt-ltb t.time count early)

pub drew_late : (sizes : Sizes) (count : ℕ) (t : Timed) → count ≤ t.time → drew_by sizes count t ≡ 0
drew_late sizes count t late = ap (λ b. entries_if b (drew sizes t.made)) (le-ltb t.time count late)

-- a call that has not drawn has drawn nothing at any time
drew_never : (sizes : Sizes) (count : ℕ) (t : Timed) → has_drawn t.made.answer ≡ false → (drew_by sizes count t ≡ 0) × (drew sizes t.made ≡ 0)
drew_never sizes count t none = let zero : drew sizes t.made ≡ 0 = ap (λ b. entries_if b (entries_taken sizes.page t.made.call.call)) none in (ap (entries_if (nat_lt t.time count)) zero ∙ nothing (nat_lt t.time count), zero)
  where
    nothing : (b : Bool) → entries_if b 0 ≡ 0
    nothing true = refl
    nothing false = refl

bool_is : (b : Bool) → (b ≡ true) ⊎ (b ≡ false)
bool_is true = inl refl
bool_is false = inr refl

-- the first of some calls whose lines rise
line_first : (first : MadeCall) (later : List MadeCall) (m : MadeCall) → AllPairs (λ (x y : ℕ). x < y) (map (λ (c : MadeCall). c.call.line) (first ∷ later)) → IsOneOf later m → first.call.line < m.call.line
line_first first later m pairs one =
    let line : MadeCall → ℕ = λ c. c.call.line in
    let there = contained (map line later) m.call.line (one_mapped line later m one) in
    let within = there.1 in
    let up = pairs 0 (suc there.0) m.call.line (omega arith) (omega (arith, within)) in
    subst (λ l. first.call.line < l) there.2 up

-- no call comes before itself
not_itself : (call : TracedCall) → ComesBefore call call → ⊥
not_itself call (inl less) = omega (arith, less)
not_itself call (inr less) = let line = less.1 in omega (arith, line)

module _ (words : WordLaws) (draws : DrawnLaws) (opened : Opened) (mount : IsMount (mount_of opened)) (all : List Event) (is_run : IsRunOf opened all) where
  abbrev sizes : Sizes
  sizes = opened.sizes

  abbrev drawn_then : (number : ℕ) → (run : List Event) → ℕ
  drawn_then number run = drawn_at words draws opened mount all is_run number run

  -- HEAD was this number when so many events had come, and one event later that with so many entries
  pub record DrewAt (time many found : ℕ) : Type 0 where
    pub run : List Event
    pub lies : IsPrefix run all
    pub long : length run ≡ time
    pub head : found ≡ head_at words draws opened mount all is_run run
    pub next : List Event
    pub next_lies : IsPrefix next all
    pub next_long : length next ≡ time + 1
    pub next_head : head_at words draws opened mount all is_run next ≡ found + many

  -- Some calls of a pass, from one first part of the run to another, each with its time; at each time between the pass had drawn what these had. They drew in the order in which they were made.
  pub record AreTimed (number : ℕ) (made : List MadeCall) (from to : List Event) : Type 0 where
    pub timed : List Timed
    pub are : map (λ t. t.made) timed ≡ made
    pub inside : (t : Timed) → IsOneOf timed t → (length from ≤ t.time) × (has_drawn t.made.answer ≡ true → t.time < length to)
    pub sums : (other : List Event) → IsPrefix other all → length from ≤ length other → drawn_then number other ≤ drawn_then number to
        → drawn_then number other ≡ drawn_then number from + added (drew_by sizes (length other)) timed
    pub told : (t : Timed) → IsOneOf timed t → (found : ℕ) → t.made.answer ≡ Open found → DrewAt t.time (entries_taken sizes.page t.made.call.call) found
    pub ordered : AllPairs (λ (x y : ℕ). x < y) (map (λ (m : MadeCall). m.call.line) made)
        → ((a b : MadeCall) → IsOneOf made a → IsOneOf made b → a.call.line < b.call.line → b.call.round < a.call.round → ⊥)
        → (a b : Timed) → IsOneOf timed a → IsOneOf timed b → has_drawn a.made.answer ≡ true → ComesBefore a.made.call b.made.call → a.time < b.time

  -- a timed call's call
  made_there : (number : ℕ) (made : List MadeCall) (from to : List Event) (are : AreTimed number made from to) (t : Timed) → IsOneOf are.timed t → IsOneOf made t.made
  made_there number made from to are t one = subst (λ l. IsOneOf l t.made) are.are (one_mapped (λ (t : Timed). t.made) are.timed t one)

  module _ (fds : List Fd) (worker : Option ℕ) (number : ℕ) where
    one_more : (m : MadeCall) (later : List MadeCall) (start middle last : PassState) → length start.view.run ≤ length middle.view.run → length middle.view.run ≤ length last.view.run → IsPrefix start.view.run all → IsPrefix middle.view.run all
        → IsTimed words draws opened mount all is_run number start middle m.call.call m.answer → AreTimed number later middle.view.run last.view.run → AreTimed number (m ∷ later) start.view.run last.view.run
    one_more m later start middle last short shorter start_lies middle_lies is rest = record {
      timed = t ∷ rest.timed;
      are = ap (λ l. m ∷ l) rest.are;
      inside = inside;
      sums = sums;
      told = told;
      ordered = ordered;
    }
      where
        t : Timed
        t = record { made = m; time = length is.moment.run }

        drawn_m : drawn_then number middle.view.run ≡ drawn_then number start.view.run + drew sizes m
        drawn_m = is.drew

        inside : (u : Timed) → IsOneOf (t ∷ rest.timed) u → (length start.view.run ≤ u.time) × (has_drawn u.made.answer ≡ true → u.time < length last.view.run)
        inside u (inl same) = subst (λ (u : Timed). (length start.view.run ≤ u.time) × (has_drawn u.made.answer ≡ true → u.time < length last.view.run)) (sym same)
            (is.moment.least, λ drawn_so. (let most = is.moment.most drawn_so in omega (arith, most, shorter)))
        inside u (inr one) = let there = rest.inside u one in ((let least = there.0 in omega (arith, least, short)), there.1)

        told : (u : Timed) → IsOneOf (t ∷ rest.timed) u → (found : ℕ) → u.made.answer ≡ Open found → DrewAt u.time (entries_taken sizes.page u.made.call.call) found
        told u (inl same) found is_open =
            let at = is.moment.told found (ap (λ (u : Timed). u.made.answer) (sym same) ∙ is_open) in
            subst (λ (u : Timed). DrewAt u.time (entries_taken sizes.page u.made.call.call) found) (sym same)
            (record { run = is.moment.run; lies = is.moment.lies; long = refl; head = at.0; next = at.1.0; next_lies = at.1.1; next_long = at.1.2; next_head = at.1.3 })
        told u (inr one) found is_open = rest.told u one found is_open

        -- when so many events had come as at the middle, or fewer, no later call had drawn
        none_later : (other : List Event) → length other ≤ length middle.view.run → added (drew_by sizes (length other)) rest.timed ≡ 0
        none_later other few = added_none (drew_by sizes (length other)) rest.timed (λ u one. (let least = (rest.inside u one).0 in drew_late sizes (length other) u (omega (arith, least, few))))

        sums : (other : List Event) → IsPrefix other all → length start.view.run ≤ length other → drawn_then number other ≤ drawn_then number last.view.run
            → drawn_then number other ≡ drawn_then number start.view.run + added (drew_by sizes (length other)) (t ∷ rest.timed)
        sums other lies least most = elim (cases_lt (length middle.view.run) (length other)) [
          | inl behind ↦ (
              let later_sum = rest.sums other lies (omega (arith, behind)) most in
              let drawn_now = drawn_m in
              let counted = counted_behind other behind in
              omega (arith, later_sum, drawn_now, counted)
              )
          | inr before ↦ (
              let none = none_later other before in
              let up = part_less words draws opened mount all is_run number start.view.run other start_lies lies least in
              let down = part_less words draws opened mount all is_run number other middle.view.run lies middle_lies before in
              let drawn_now = drawn_m in
              elim (cases_lt t.time (length other)) [
                | inl early ↦ (let high = is.moment.high other lies early in let counts = drew_early sizes (length other) t early in omega (arith, none, up, down, drawn_now, high, counts))
                | inr late ↦ (let low = is.moment.low other lies late in let counts = drew_late sizes (length other) t late in omega (arith, none, up, low, counts))
              ]
              )
        ]
          where
            counted_behind : (other : List Event) → length middle.view.run < length other → drew_by sizes (length other) t ≡ drew sizes m
            counted_behind other behind = elim (bool_is (has_drawn m.answer)) [
              | inl drawn_so ↦ (let most = is.moment.most drawn_so in drew_early sizes (length other) t (omega (arith, most, behind)))
              | inr none ↦ (let never = drew_never sizes (length other) t none in never.0 ∙ sym never.1)
            ]

        ordered : AllPairs (λ (x y : ℕ). x < y) (map (λ (m : MadeCall). m.call.line) (m ∷ later))
            → ((a b : MadeCall) → IsOneOf (m ∷ later) a → IsOneOf (m ∷ later) b → a.call.line < b.call.line → b.call.round < a.call.round → ⊥)
            → (a b : Timed) → IsOneOf (t ∷ rest.timed) a → IsOneOf (t ∷ rest.timed) b → has_drawn a.made.answer ≡ true → ComesBefore a.made.call b.made.call → a.time < b.time
        ordered pairs rise a b (inl is_a) (inl is_b) drawn_so comes =
            absurd (not_itself m.call (subst (λ (u : Timed). ComesBefore m.call u.made.call) is_b (subst (λ (u : Timed). ComesBefore u.made.call b.made.call) is_a comes)))
        ordered pairs rise a b (inl is_a) (inr one) drawn_so comes =
            let least = (rest.inside b one).0 in
            let most = is.moment.most (ap (λ (u : Timed). has_drawn u.made.answer) (sym is_a) ∙ drawn_so) in
            let same = ap (λ (u : Timed). u.time) is_a in
            omega (arith, least, most, same)
        ordered pairs rise a b (inr one) (inl is_b) drawn_so comes =
            let there = made_there number later middle.view.run last.view.run rest a one in
            let line = line_first m later a.made pairs there in
            let After : TracedCall → Type 0 = λ call. ComesBefore a.made.call call in
            absurd (backwards line (subst After (ap (λ (u : Timed). u.made.call) is_b) comes) (rise m a.made (inl refl) (inr there)))
          where
            backwards : m.call.line < a.made.call.line → ComesBefore a.made.call m.call → (m.call.line < a.made.call.line → a.made.call.round < m.call.round → ⊥) → ⊥
            backwards line (inl round) none = none line round
            backwards line (inr below) none = let less = below.1 in omega (arith, line, less)
        ordered pairs rise a b (inr one) (inr other) drawn_so comes =
            rest.ordered (λ i j d less within. pairs (suc i) (suc j) d (omega (arith, less)) (omega (arith, within))) (λ c d here there. rise c d (inr here) (inr there)) a b one other drawn_so comes

    pub calls_timed : (made : List MadeCall) (start last : PassState) → AreMade fds worker made start last → start.view.opened ≡ opened → start.view.number ≡ number → IsPrefix last.view.run all
        → IsBare words draws opened mount all is_run number start.view.run → AreTimed number made start.view.run last.view.run
    calls_timed [] start last all_made same number_is lies bare =
        let still : last.view.run ≡ start.view.run = ap (λ (p : PassState). p.view.run) all_made in
        record {
          timed = [];
          are = refl;
          inside = λ t one. absurd one;
          sums = λ other other_lies least most.
              let up = part_less words draws opened mount all is_run number start.view.run other (subst (λ r. IsPrefix r all) still lies) other_lies least in
              let there = ap (drawn_then number) still in
              omega (arith, most, up, there);
          told = λ t one found is_open. absurd one;
          ordered = λ pairs rise a b one other drawn_so comes. absurd one;
        }
    calls_timed (m ∷ later) start last all_made same number_is lies bare =
        let middle = all_made.0 in
        let told = all_made.1 in
        let then_same : middle.view.opened ≡ opened = told.opened ∙ same in
        let then_number : middle.view.number ≡ number = told.later.number ∙ number_is in
        let rest_on = (chain fds worker sizes later middle last (ap (λ (o : Opened). o.sizes) then_same) all_made.2).on in
        let middle_lies = begins_all middle.view.run last.view.run all (rest_on.more, rest_on.run) lies in
        let start_lies = begins_all start.view.run middle.view.run all (told.on.more, told.on.run) middle_lies in
        let is = timed words draws opened mount all is_run fds worker number m.call.call start middle m.answer told same number_is middle_lies bare in
        one_more m later start middle last (no_longer start.view.run middle.view.run told.on.more told.on.run) (no_longer middle.view.run last.view.run rest_on.more rest_on.run) start_lies middle_lies is
        (calls_timed later middle last all_made.2 then_same then_number lies is.bare)
      where
        no_longer : (one other more : List Event) → other ≡ one ++ more → length one ≤ length other
        no_longer one other more goes_on = let whole = ap (λ l. length l) goes_on in let joined = length-append one more in omega (arith, whole, joined)

  -- ---- a shift

  -- its calls, each with its time, and at each time what its pass had drawn
  pub record IsTimedShift (shift : Shift) : Type 0 where
    pub timed : List Timed
    pub are : map (λ t. t.made) timed ≡ shift.made
    pub inside : (t : Timed) → IsOneOf timed t → (length shift.start.view.run ≤ t.time) × (has_drawn t.made.answer ≡ true → t.time < length shift.now.view.run)
    pub sums : (other : List Event) → IsPrefix other all → drawn_then shift.now.view.number other ≡ added (drew_by sizes (length other)) timed
    pub told : (t : Timed) → IsOneOf timed t → (found : ℕ) → t.made.answer ≡ Open found → DrewAt t.time (entries_taken sizes.page t.made.call.call) found
    pub ordered : ((a b : MadeCall) → IsOneOf shift.made a → IsOneOf shift.made b → a.call.line < b.call.line → b.call.round < a.call.round → ⊥)
        → (a b : Timed) → IsOneOf timed a → IsOneOf timed b → has_drawn a.made.answer ≡ true → ComesBefore a.made.call b.made.call → a.time < b.time

  pub timed_shift : (fds : List Fd) (worker : Option ℕ) (shift : Shift) → IsShift fds worker opened shift → SeesAll shift.now.view.number shift.now.view.run all → IsTimedShift shift
  timed_shift fds worker shift is sees =
      let number = shift.now.view.number in
      let start = shift.start in
      let from = start.view.run in
      let to = is.last.view.run in
      let draws_so = shift_draws draws opened mount fds worker shift all is sees is_run in
      let begins = draws_so.begins in
      let ends = draws_so.ends in
      let made = chain fds worker sizes shift.made start is.last (ap (λ (o : Opened). o.sizes) is.mount) is.made in
      let last_opened : is.last.view.opened ≡ opened = made.opened ∙ is.mount in
      let last_number : is.last.view.number ≡ number = made.number ∙ sym is.number in
      let now_lies : IsPrefix shift.now.view.run all = (sees.rest, sees.goes_on) in
      let last_lies : IsPrefix to all = begins_all to shift.now.view.run all (is.on.more, is.on.run) now_lies in
      let start_at = stands_at words draws opened mount all is_run number start is.mount (sym is.number) in
      let placed : placed_entries sizes (pass_at words draws opened mount all is_run number from).mine ≡ 0 = ap (λ (p : Pass). placed_entries sizes p.mine) (sym start_at) ∙ ap (placed_entries sizes) is.fresh in
      let faulted = ap (λ (p : Pass). opened_entries sizes (open_in p.faulted)) (sym start_at) ∙ ap (opened_entries sizes) is.unfailed in
      let are = calls_timed fds worker number shift.made start is.last is.made is.mount (sym is.number) last_lies (omega (arith, placed, faulted, begins)) in
      let started = drawn_here draws opened mount start is.mount in
      let came = drawn_here draws opened mount is.last last_opened in
      let started_so = ap (λ n. drawn_then n from) (sym is.number) in
      let came_so = ap (λ n. drawn_then n to) last_number in
      let chained = made.on.drawn in
      record {
        timed = are.timed;
        are = are.are;
        inside = λ t one.
            let there = are.inside t one in
            let joined = ap (λ l. length l) is.on.run ∙ length-append to is.on.more in
            (there.0, λ drawn_so. (let most = there.1 drawn_so in omega (arith, most, joined)));
        sums = λ other lies. elim (cases_lt (length other) (length from)) [
          | inl before ↦ (
              let none = added_none (drew_by sizes (length other)) are.timed (λ u one. (let least = (are.inside u one).0 in drew_late sizes (length other) u (omega (arith, least, before)))) in
              let less = part_less words draws opened mount all is_run number other from lies draws_so.lies (omega (arith, before)) in
              omega (arith, none, less, begins)
              )
          | inr least ↦ (
              let most = drawn_less draws opened mount number other all lies is_run in
              let sum = are.sums other lies least (omega (arith, most, ends, started, came, started_so, came_so, chained)) in
              omega (arith, sum, begins)
              )
        ];
        told = are.told;
        ordered = λ rise a b one other drawn_so comes. are.ordered (AllPairs-from_increasing (map (λ (m : MadeCall). m.call.line) shift.made) is.in_lines) rise a b one other drawn_so comes;
      }

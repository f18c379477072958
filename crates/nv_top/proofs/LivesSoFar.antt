-- Lives so far: what those that crashes have ended made of a bench, one behind the other, and what comes of all where the next one is stopped.
use Rattle.std.proofs.Common.{◌≡◌, ℕ, ◌+◌, ◌≤◌, ◌<◌, ◌^◌, List, [], ◌∷◌, ◌++◌, length, map, sum_by, Option, Some, None, Result, Ok, Err, All, false, drop, inl, inr, refl, sym, ap, subst, ◌∙◌, append_assoc, arith}
use Rattle.std.specs.Prelude.{IfErr, IfSome, slice_index_or}
use Rattle.std.specs.Result.{IsErrAnd}
use Rattle.std.specs.Global.{Vec}
use Rattle.std.proofs.lemmas.List.{append-nil, map-append}
use Rattle.std.proofs.lemmas.List.Elements.{All-nil, All-tail}
use Rattle.std.proofs.lemmas.List.Sums.{sum_by-cons}
use Rattle.nv_plain.specs.Faults.{Rose}
use Rattle.nv_plain.specs.Layouts.{mount_layout}
use Rattle.nv_pmem.specs.Rows.{row_words}
use Rattle.nv_pmem.specs.declared.picker.Pick.{Pick}
use Rattle.nv_bench.specs.Benches.{BenchState, armed_with, left_last}
use Rattle.nv_bench.specs.Holding.{Holding, IsQuietHolding}
use Rattle.nv_bench.specs.Naming.{HasDistinctStores}
use Rattle.nv_open.specs.Adding.{all_names}
use Rattle.nv_open.specs.Begun.{HasTooMany}
use Rattle.nv_open.specs.Held.{header_names}
use Rattle.nv_open.specs.Unopened.{IsGood}
use Rattle.nv_open.specs.declared.error.Refusal.{Refusal}
use Rattle.nv_open.specs.declared.error.Refusal.TheVariants.{Truncated, BadMagic, BadVersion, BadGeometry, BadName, BadEntry, TooManyFiles}
use Rattle.nv_schedule.specs.Cuts.{armed_by, cuts_of}
use Rattle.nv_trace.specs.Lives.{TracedLife}
use Rattle.nv_trace.specs.Shape.{IsTokenWithin}
use Rattle.nv_trace.specs.Reading.{largest_input}
use Rattle.nv_trace.specs.Traced.{Traced, token_count}
use Rattle.nv_trace.specs.declared.token.Token.{Token}
use Rattle.nv_trace.specs.declared.token.Token.TheVariants.{Advance, Cut}
use Rattle.nv_trace.specs.declared.trace_call.TracedCall.{TracedCall}
use Rattle.nv_runner.specs.Faithful.{listed_calls}
use Rattle.nv_runner.specs.Reports.{Report}
use Rattle.nv_runner.specs.Shifts.{calls_of_thread}
use Rattle.nv_top.specs.Commands.{IsNotRun}
use Rattle.nv_top.specs.Followed.{HasFollowed, HasUsedTurnsOn}
use Rattle.nv_top.specs.Headline.{IsRunRefused, RefusedIsNotGood, expected_faults}
use Rattle.nv_top.specs.LifeLines.{AreKeptLives, AreLinesOf, IsTextOfLives, KeepALineEach}
use Rattle.nv_top.specs.LifeOver.{AreLivesOver, IsLifeEnded, IsLifeStopped}
use Rattle.nv_top.specs.LifeRows.{ArePickedSome, HasEnded, HaveEnded, OfNextLife, ShowsLives, all_tokens, pick_next, picked_behind, picks_of, tokens_next, tokens_of_lives, trace_of, with_pick}
use Rattle.nv_top.specs.Lives.{LeavesRun, TellsNothing}
use Rattle.nv_top.specs.Ready.{IsAtHome, IsReady, IsRunnable}
use Rattle.nv_top.specs.Scheduling.{IsArmedAt, IsArmedAtSome}
use Rattle.nv_top.specs.Stopping.{IsAllBack, IsOff, IsOffOnce, StopSettles}
use Rattle.nv_top.specs.declared.ending.Stop.{Stop}
use Rattle.nv_top.specs.declared.ending.Stop.TheVariants.{Region}
use Rattle.nv_top.specs.declared.life.LifeLines.{LifeLines}
use Rattle.nv_top.specs.declared.life.LivesShown.{LivesShown}
use Rattle.nv_words.specs.declared.words.RunOptions.{RunOptions}
use Rattle.nv_top.proofs.AcceptedLemmas.{ended_good, not_blank, own_image}
use Rattle.nv_top.proofs.CommandLemmas.{if_told, told_at}
use Rattle.nv_top.proofs.CountLemmas.{are_left, no_front}
use Rattle.nv_top.proofs.HeadlineLemmas.{home_distinct}
use Rattle.nv_top.proofs.LifeRowLemmas.{ended_more}
use Rattle.nv_top.proofs.NextLemmas.{rests_quiet}
use Rattle.nv_top.proofs.RowNameLemmas.{same_names}
use Rattle.nv_top.proofs.SchedulingLemmas.{same_armed, same_arms}
use Rattle.nv_top.proofs.ShownLemmas.{rested_few}
use Rattle.nv_top.proofs.StoppingLemmas.{names_read}

-- ---- cuts

armed_joined : (first then_ : List ℕ) (bench : BenchState) → armed_by (first ++ then_) bench ≡ armed_by then_ (armed_by first bench)
armed_joined [] then_ bench = refl
armed_joined (number ∷ first) then_ bench = armed_joined first then_ (armed_with number bench)

cuts_joined : (first then_ : List Token) → cuts_of (first ++ then_) ≡ cuts_of first ++ cuts_of then_
cuts_joined [] then_ = refl
cuts_joined (Cut number ∷ first) then_ = ap (λ cuts. number ∷ cuts) (cuts_joined first then_)
cuts_joined (Advance turn reach ∷ first) then_ = cuts_joined first then_

cuts_few : (tokens : List Token) → length (cuts_of tokens) ≤ length tokens
cuts_few [] = omega arith
cuts_few (Cut number ∷ tokens) = omega (arith, cuts_few tokens)
cuts_few (Advance turn reach ∷ tokens) = omega (arith, cuts_few tokens)

arms_more : (numbers : List ℕ) (bench : BenchState) → (armed_by numbers bench).arms ≡ bench.arms + length numbers
arms_more [] bench = omega arith
arms_more (number ∷ numbers) bench = omega (arith, arms_more numbers (armed_with number bench))

pub armed_few : (tokens : List Token) (old new : BenchState) → IsArmedAt tokens old new → new.arms ≤ old.arms + length tokens
armed_few tokens old new armed = omega (arith, armed.0, arms_more (cuts_of tokens) old, cuts_few tokens)

pub both_armed : (first then_ : List Token) (old mid new : BenchState) → IsArmedAt first old mid → IsArmedAt then_ mid new → IsArmedAt (first ++ then_) old new
both_armed first then_ old mid new one other =
    let here = armed_by (cuts_of first) old in
    let all : armed_by (cuts_of (first ++ then_)) old ≡ armed_by (cuts_of then_) here = ap (λ cuts. armed_by cuts old) (cuts_joined first then_) ∙ armed_joined (cuts_of first) (cuts_of then_) old in (
      other.0 ∙ same_arms (cuts_of then_) mid here one.0 ∙ sym (ap (λ (s : BenchState). s.arms) all),
      other.1 ∙ same_armed (cuts_of then_) mid here one.1 ∙ sym (ap (λ (s : BenchState). s.armed) all),
    )

-- some first ones of tokens, and of those behind them none
pub some_armed : (first then_ later : List Token) (old mid new : BenchState) → IsArmedAt first old mid → IsArmedAtSome then_ mid new → IsArmedAtSome (first ++ then_ ++ later) old new
some_armed first then_ later old mid new one other = (
  first ++ other.0,
  other.1 ++ later,
  ap (λ tokens. (first ++ tokens) ++ later) other.2 ∙ ap (λ tokens. tokens ++ later) (sym (append_assoc first other.0 other.1)) ∙ append_assoc (first ++ other.0) other.1 later,
  both_armed first other.0 old mid new one other.3,
)

tokens_joined : (first later : List TracedLife) → tokens_of_lives (first ++ later) ≡ tokens_of_lives first ++ tokens_of_lives later
tokens_joined [] later = refl
tokens_joined (life ∷ first) later = ap (λ tokens. life.tokens ++ tokens) (tokens_joined first later) ∙ sym (append_assoc life.tokens (tokens_of_lives first) (tokens_of_lives later))

-- the tokens behind those of the next life
abbrev tokens_after : Traced → List TracedLife → List Token
tokens_after trace [] = []
tokens_after trace (life ∷ later) = tokens_of_lives later ++ trace.tokens

tokens_from : (trace : Traced) (later : List TracedLife) → tokens_of_lives later ++ trace.tokens ≡ tokens_next trace later ++ tokens_after trace later
tokens_from trace [] = sym (append-nil trace.tokens)
tokens_from trace (life ∷ later) = append_assoc life.tokens (tokens_of_lives later) trace.tokens

-- where none of two lists of tokens is a cut, none of each is
no_back : {X : Type 0} (xs ys : List X) → xs ++ ys ≡ [] → ys ≡ []
no_back [] ys none = none
no_back (x ∷ xs) ys none = cc

uncut_first : (first then_ : List Token) → cuts_of (first ++ then_) ≡ [] → cuts_of first ≡ []
uncut_first first then_ none = no_front (cuts_of first) (cuts_of then_) (sym (cuts_joined first then_) ∙ none)

uncut_then : (first then_ : List Token) → cuts_of (first ++ then_) ≡ [] → cuts_of then_ ≡ []
uncut_then first then_ none = no_back (cuts_of first) (cuts_of then_) (sym (cuts_joined first then_) ∙ none)

-- ---- picks

abbrev pick_of : TracedLife → Pick
pick_of life = life.pick

picked_joined : (first : List Pick) (pick : Pick) (before : List Pick) → picked_behind (first ++ pick ∷ []) before ≡ pick ∷ picked_behind first before
picked_joined [] pick before = refl
picked_joined (one ∷ first) pick before = picked_joined first pick (one ∷ before)

abbrev picks_after : RunOptions → List TracedLife → List Pick
picks_after options [] = []
picks_after options (life ∷ later) = map pick_of later ++ options.image ∷ []

picks_from : (options : RunOptions) (trace : Traced) (first later : List TracedLife) → trace.lives ≡ first ++ later → picks_of options trace ≡ map pick_of first ++ pick_next options later ∷ picks_after options later
picks_from options trace first later are =
    ap (λ lives. map pick_of lives ++ options.image ∷ []) are ∙ ap (λ picks. picks ++ options.image ∷ []) (map-append pick_of first later) ∙ append_assoc (map pick_of first) (map pick_of later) (options.image ∷ [])
    ∙ ap (λ picks. map pick_of first ++ picks) (by later)
  where
    by : (later : List TracedLife) → map pick_of later ++ options.image ∷ [] ≡ pick_next options later ∷ picks_after options later
    by [] = refl
    by (life ∷ later) = refl

-- ---- lives that crashes ended

-- what the last of them left is told
ended_tells : (options : RunOptions) (trace : Traced) (lives : List TracedLife) (calls left : List TracedCall) (old new : BenchState) (was now : Holding) (reports : List Report)
    → HaveEnded options trace lives calls left old new was now reports → old.told ≡ Some was → new.told ≡ Some now
ended_tells options trace [] calls left old new was now reports (calls_are, same, holds, none) told = ap (λ (s : BenchState). s.told) same ∙ told ∙ ap (λ (h : Holding). Some h) (sym holds)
ended_tells options trace (life ∷ later) calls left old new was now reports (behind, then_, held, rest, one, are, ended) told = ended_tells options trace later behind left then_ new held now rest ended one.tells

-- The region that they leave has all names that are wanted, and no more than a mount may have.
record HasAllNames (wanted : List (List ℕ)) (now : Holding) : Type 0 where
  names : List (List ℕ)
  are : header_names now.parts ≡ names
  again : all_names names wanted ≡ names
  few : length names ≤ mount_layout.file_limit

some_holding : {one other : Holding} → Some one ≡ Some other → one ≡ other
some_holding {one} {other} is = cc

ended_names : (options : RunOptions) (trace : Traced) (life : TracedLife) (later : List TracedLife) (calls left : List TracedCall) (old new : BenchState) (was now : Holding) (reports : List Report)
    → HaveEnded options trace (life ∷ later) calls left old new was now reports → HasAllNames trace.names now
ended_names options trace life [] calls left old new was now reports (behind, then_, held, rest, one, are, (calls_are, same, holds, none)) =
    let basis = one.followed.basis in
    let rests = one.followed.scheduled.left.lost.rests in
    let empty = rests.rests.rest.empty (row_words rests.now.parts) (own_image rests.now.parts) in
    let here : rests.now ≡ now = some_holding (sym rests.told_is ∙ one.tells) ∙ sym holds in
    subst (HasAllNames trace.names) here (record {
      names = basis.names;
      are = names_read rests.now.parts empty.header.readable ∙ empty.header.names_are;
      again = ap (λ names. all_names names trace.names) one.followed.begun.names_are ∙ same_names one.followed.begun.known trace.names ∙ sym one.followed.begun.names_are;
      few = rested_few _ _ _ basis.names rests.now.parts rests.rests.rest;
    })
ended_names options trace life (next ∷ later) calls left old new was now reports (behind, then_, held, rest, one, are, ended) = ended_names options trace next later behind left then_ new held now rest ended

-- So the next one isn't refused.
never_again : RefusedIsNotGood → (options asked : RunOptions) (trace : Traced) (life : TracedLife) (later : List TracedLife) (calls left : List TracedCall) (old new : BenchState) (was now : Holding) (reports : List Report)
    → HaveEnded options trace (life ∷ later) calls left old new was now reports → (why : Refusal) → IsNotRun asked now trace.names why → ⊥
never_again bad_so options asked trace life later calls left old new was now reports ended why refused = by why refused
  where
    good : IsGood now.parts
    good = ended_good options trace life later calls left old new was now reports ended

    bytes_allowed : (why : Refusal) → ¬ (why ≡ TooManyFiles) → IsNotRun asked now trace.names why → ⊥
    bytes_allowed why other refused = bad_so now.parts why (refused.not_opened.not_blank other).1 good

    by : (why : Refusal) → IsNotRun asked now trace.names why → ⊥
    by (Truncated found most) refused = bytes_allowed (Truncated found most) (λ same. cc) refused
    by BadMagic refused = bytes_allowed BadMagic (λ same. cc) refused
    by (BadVersion found) refused = bytes_allowed (BadVersion found) (λ same. cc) refused
    by (BadGeometry field found) refused = bytes_allowed (BadGeometry field found) (λ same. cc) refused
    by (BadName i) refused = bytes_allowed (BadName i) (λ same. cc) refused
    by (BadEntry number) refused = bytes_allowed (BadEntry number) (λ same. cc) refused
    by TooManyFiles refused =
        let many : HasTooMany now.parts refused.geometry trace.names = refused.not_opened.many refl in
        let named = ended_names options trace life later calls left old new was now reports ended in
        let known : many.known ≡ named.names = (many.begun.kept (not_blank now.parts good)).recovered.names_are ∙ named.are in
        omega (arith, many.many, named.few, ap length (ap (λ names. all_names names trace.names) known ∙ named.again))

-- ---- one life

-- what power left stands beside its pick
pub left_beside : (pick : Pick) (old new : BenchState) (power : Holding) → IsOff pick old new → left_last new ≡ Some power → new.lefts ≡ Some power ∷ old.lefts
left_beside pick old new power off left = off.lefts ∙ ap (λ power. power ∷ old.lefts) (sym (ap (λ lefts. slice_index_or lefts 0 None) off.lefts) ∙ left)

-- a bench is quiet behind a life, or tells nothing
quiet_behind : (old new : BenchState) → IfSome old.told IsQuietHolding → (old.told ≡ None → new.told ≡ None) → ((was : Holding) → old.told ≡ Some was → IsQuietHolding was → IfSome new.told IsQuietHolding) → IfSome new.told IsQuietHolding
quiet_behind old new still silent behind = by old.told refl still
  where
    by : (told : Option Holding) → old.told ≡ told → IfSome told IsQuietHolding → IfSome new.told IsQuietHolding
    by None is quiet = subst (λ told. IfSome told IsQuietHolding) (sym (silent is)) tt
    by (Some was) is quiet = behind was is quiet

module _ (options : RunOptions) (trace : Traced) (life : TracedLife) (left : Traced) (old new : BenchState) (kept more : LivesShown) (lines : LifeLines) where
  abbrev Here : Holding → Type 0
  Here was = (followed : HasFollowed (Rose old.faults new.faults) (with_pick life.pick options) old.picked was new (trace_of trace trace.calls life.tokens)) × AreLinesOf kept.placed false followed.scheduled.report lines

  abbrev Ended : Holding → Type 0
  Ended was = (now : Holding) × (one : HasEnded options trace life trace.calls left.calls old new was now)
      × ((before : List Report) → AreKeptLives kept before → AreKeptLives more (before ++ one.followed.scheduled.report ∷ []))

  -- it was followed to its end, and its calls were dropped
  pub life_ended : IsRunnable trace → IfSome old.told IsQuietHolding → IsAllBack new → (old.told ≡ None → new.told ≡ None) → IsOff life.pick old new → IsArmedAt life.tokens old new → new.faults ≡ expected_faults old new
      → old.settled ≤ new.settled → old.faults ≤ new.faults → (cuts_of life.tokens ≡ [] → new.faults ≡ old.faults) → left ≡ record trace { calls = left.calls } → IsRunnable left
      → ((thread : ℕ) → calls_of_thread thread left.calls ≡ drop (slice_index_or lines.listed thread 0) (calls_of_thread thread trace.calls)) → HasDistinctStores new → KeepALineEach more
      → ((ended : List Report) (report : Report) → AreKeptLives kept ended → AreLinesOf kept.placed false report lines → AreKeptLives more (ended ++ report ∷ []))
      → IfSome old.told (λ was. (followed : HasFollowed (Rose old.faults new.faults) (with_pick life.pick options) old.picked was new (trace_of trace trace.calls life.tokens)) × AreLinesOf kept.placed false followed.scheduled.report lines)
      → IsLifeEnded options trace life left old new kept more
  life_ended whole still back silent off armed counts settles never_falls uncut rest runnable dropped named each more_so followed =
      let home = ap (λ (s : BenchState). s.lent) back in
      record {
        armed = armed;
        off = off;
        at_home = record {
          closed = ap (λ (s : BenchState). s.is_open) back;
          home = home;
          quiet = quiet_behind old new still silent (λ was told quiet. let this = told_at old.told Here was told followed in rests_quiet this.0.basis.names was quiet this.0.scheduled.left.lost.rests);
        };
        counts = counts;
        settles = settles;
        never_falls = never_falls;
        uncut = uncut;
        rest = rest;
        runnable = runnable;
        each = each;
        ended = if_told old.told Ended (λ was told.
            let this = told_at old.told Here was told followed in
            let scheduled = this.0.scheduled in
            let now = scheduled.left.lost.rests.now in
            let tells = scheduled.left.lost.rests.told_is in (
              now,
              record {
                followed = this.0;
                armed = armed;
                left_so = left_beside life.pick old new scheduled.left.lost.power off scheduled.left.lost.power_left;
                no_less = never_falls;
                uncut = uncut;
                tells = tells;
                own = home_distinct new now named tells home;
                not_begun = are_left trace.calls (listed_calls scheduled.report) left.calls lines.listed scheduled.faithful.made this.1.listed (let few = whole.few in omega (arith, few)) whole.well_formed.threads dropped runnable.lines;
              },
              λ before are. more_so before scheduled.report are this.1,
            ));
      }

-- ---- so far

-- Some first lives of a trace were ended by crashes on a bench, which is ready for the next one, and these are to come; the trace has the calls that none has begun, and this is kept of them.
pub record AreSoFar (options : RunOptions) (trace : Traced) (old : BenchState) (later : List TracedLife) (mid : BenchState) (now : Traced) (kept : LivesShown) : Type 0 where
  pub first : List TracedLife
  pub lives_are : trace.lives ≡ first ++ later
  pub now_is : now ≡ trace_of trace now.calls trace.tokens
  pub runnable : IsRunnable now
  pub within : All (λ (life : TracedLife). All IsTokenWithin life.tokens) later
  pub room : mid.arms + (sum_by (λ (life : TracedLife). length life.tokens) later + length trace.tokens) < 2 ^ 64
  pub at_home : IsAtHome mid
  pub armed : IsArmedAt (tokens_of_lives first) old mid
  pub picked : mid.picked ≡ picked_behind (map pick_of first) old.picked
  pub counts : mid.faults ≡ expected_faults old mid
  pub never_falls : old.faults ≤ mid.faults
  pub uncut : cuts_of (tokens_of_lives first) ≡ [] → mid.faults ≡ old.faults
  pub each : KeepALineEach kept
  pub ended : IfSome old.told (λ was. (here : Holding) × (reports : List Report) × HaveEnded options trace first trace.calls now.calls old mid was here reports × AreKeptLives kept reports)

-- before the first one
pub none_yet : (options : RunOptions) (trace : Traced) (old : BenchState) (rest : List TracedLife) (now : Traced) (kept : LivesShown) → IsReady old → IsRunnable trace → token_count trace + length trace.lives ≤ largest_input → rest ≡ trace.lives
    → now ≡ record trace { lives = [] } → AreKeptLives kept [] → KeepALineEach kept → AreSoFar options trace old rest old now kept
none_yet options trace old rest now kept ready whole few all is none each =
    let formed = whole.well_formed in
    let own : IsRunnable (record trace { lives = [] }) = record {
      well_formed = record {
        names = formed.names;
        allowed = formed.allowed;
        distinct = formed.distinct;
        descriptors = formed.descriptors;
        files = formed.files;
        calls = formed.calls;
        threads = formed.threads;
        rounds = formed.rounds;
        round_order = formed.round_order;
        no_rounds = formed.no_rounds;
        tokens = formed.tokens;
        no_tokens = formed.no_tokens;
        lives = All-nil (λ (life : TracedLife). All IsTokenWithin life.tokens);
        no_lives = λ none. refl;
      };
      lines = whole.lines;
      few = whole.few;
    } in
    record {
      first = [];
      lives_are = sym all;
      now_is = is ∙ ap (λ (calls : List TracedCall). record trace { calls = calls; lives = [] }) (sym (ap (λ (t : Traced). t.calls) is));
      runnable = subst IsRunnable (sym is) own;
      within = subst (All (λ (life : TracedLife). All IsTokenWithin life.tokens)) (sym all) formed.lives;
      room = let arms = ready.arms in omega (arith, arms, few, ap (sum_by (λ (life : TracedLife). length life.tokens)) all);
      at_home = ready.at_home;
      armed = (refl, refl);
      picked = refl;
      counts = let settled = ready.settled in omega (arith, settled);
      never_falls = omega arith;
      uncut = λ none. refl;
      each = each;
      ended = if_told old.told (λ was. (here : Holding) × (reports : List Report) × HaveEnded options trace [] trace.calls now.calls old old was here reports × AreKeptLives kept reports)
          (λ was told. (was, [], (ap (λ (t : Traced). t.calls) is, refl, refl, refl), none));
    }

-- one more
module _ (options : RunOptions) (trace : Traced) (old : BenchState) (life : TracedLife) (later : List TracedLife) (mid new : BenchState) (now left : Traced) (kept more : LivesShown)
    (so : AreSoFar options trace old (life ∷ later) mid now kept) (over : IsLifeEnded options now life left mid new kept more) where
  abbrev all : List TracedLife
  all = so.first ++ life ∷ []

  -- the life, and what is kept with it
  abbrev KeptThen : (here held : Holding) → List Report → Traced → Type 0
  KeptThen here held before now_too = (one : HasEnded options now_too life now.calls left.calls mid new here held) × AreKeptLives more (before ++ one.followed.scheduled.report ∷ [])

  abbrev EndedThen : Holding → Type 0
  EndedThen was = (here : Holding) × (reports : List Report) × HaveEnded options trace all trace.calls left.calls old new was here reports × AreKeptLives more reports

  abbrev EndedHere : Holding → Type 0
  EndedHere was = (here : Holding) × (reports : List Report) × HaveEnded options trace so.first trace.calls now.calls old mid was here reports × AreKeptLives kept reports

  abbrev NextIs : Holding → Type 0
  NextIs here = (held : Holding) × (one : HasEnded options now life now.calls left.calls mid new here held) × ((before : List Report) → AreKeptLives kept before → AreKeptLives more (before ++ one.followed.scheduled.report ∷ []))

  pub so_far_more : AreSoFar options trace old later new left more
  so_far_more = record {
    first = all;
    lives_are = so.lives_are ∙ sym (append_assoc so.first (life ∷ []) later);
    now_is = over.rest ∙ ap (λ (one : Traced). record one { calls = left.calls }) so.now_is;
    runnable = over.runnable;
    within = All-tail (λ (life : TracedLife). All IsTokenWithin life.tokens) life later so.within;
    room = omega (arith, so.room, armed_few life.tokens mid new over.armed, sum_by-cons (λ (life : TracedLife). length life.tokens) life later);
    at_home = over.at_home;
    armed = subst (λ tokens. IsArmedAt tokens old new) (sym (tokens_joined so.first (life ∷ []) ∙ ap (λ tokens. tokens_of_lives so.first ++ tokens) (append-nil life.tokens)))
        (both_armed (tokens_of_lives so.first) life.tokens old mid new so.armed over.armed);
    picked = over.off.picked ∙ ap (λ picks. life.pick ∷ picks) so.picked ∙ sym (picked_joined (map pick_of so.first) life.pick old.picked) ∙ ap (λ picks. picked_behind picks old.picked) (sym (map-append pick_of so.first (life ∷ [])));
    counts = omega (arith, over.counts, over.settles, so.counts);
    never_falls = omega (arith, so.never_falls, over.never_falls);
    uncut = λ none.
        let all_cuts : cuts_of (tokens_of_lives so.first ++ life.tokens) ≡ [] =
        ap cuts_of (sym (tokens_joined so.first (life ∷ []) ∙ ap (λ tokens. tokens_of_lives so.first ++ tokens) (append-nil life.tokens))) ∙ none in
        over.uncut (uncut_then (tokens_of_lives so.first) life.tokens all_cuts) ∙ so.uncut (uncut_first (tokens_of_lives so.first) life.tokens all_cuts);
    each = over.each;
    ended = if_told old.told EndedThen (λ was told.
        let before = told_at old.told EndedHere was told so.ended in
        let next = told_at mid.told NextIs before.0 (ended_tells options trace so.first trace.calls now.calls old mid was before.0 before.1 before.2 told) over.ended in
        let one = subst (KeptThen before.0 next.0 before.1) so.now_is (next.1, next.2 before.1 before.3) in
        let this : HasEnded options trace life now.calls left.calls mid new before.0 next.0 = record {
          followed = one.0.followed;
          armed = one.0.armed;
          left_so = one.0.left_so;
          no_less = one.0.no_less;
          uncut = one.0.uncut;
          tells = one.0.tells;
          own = one.0.own;
          not_begun = one.0.not_begun;
        } in
        (next.0, before.1 ++ this.followed.scheduled.report ∷ [], ended_more options trace so.first life trace.calls now.calls left.calls old mid new was before.0 next.0 before.1 before.2 this, one.1));
  }

-- ---- what comes of all

-- an error that is this stop has what the stop has
pub err_so : {T : Type 0} (result : Result T Stop) (stop : Stop) (P : Stop → Type 0) → IsErrAnd result (λ error. error ≡ stop) → P stop → IfErr result P
err_so (Ok value) stop P is holds = tt
err_so (Err error) stop P is holds = subst P (sym is) holds

no_more : {X : Type 0} (xs : List X) (count : ℕ) → count ≡ length xs → count ≡ 0 → xs ≡ []
no_more [] count is none = refl
no_more (x ∷ xs) count is none = absurd (omega (arith, is, none))

-- no life is left
pub so_far_all : (options : RunOptions) (trace : Traced) (old : BenchState) (later : List TracedLife) (count : ℕ) (mid : BenchState) (now : Traced) (kept : LivesShown) → count ≡ length later → count ≡ 0 → AreSoFar options trace old later mid now kept
    → AreSoFar options trace old [] mid now kept
so_far_all options trace old later count mid now kept is none so = subst (λ later. AreSoFar options trace old later mid now kept) (no_more later count is none) so

-- the counts of faults that a stop is told by: those of the next life, or of all
expected_so : (options : RunOptions) (trace : Traced) (old mid new : BenchState) (later : List TracedLife) (now : Traced) (kept : LivesShown) → AreSoFar options trace old later mid now kept → mid.settled ≤ new.settled
    → expected_faults mid new ≡ expected_faults old new
expected_so options trace old mid new later now kept so settles = omega (arith, so.counts, settles)

abbrev as_came : Stop → Result (Vec ℕ) Stop
as_came stop = Err stop

same_stop : {one other : Stop} → as_came one ≡ as_came other → one ≡ other
same_stop {one} {other} is = cc

-- of the next life, and of all
module _ (options : RunOptions) (trace : Traced) (old : BenchState) (later : List TracedLife) (mid new : BenchState) (now : Traced) (kept : LivesShown) (so : AreSoFar options trace old later mid now kept) where
  abbrev Before : Holding → Type 0
  Before was = (here : Holding) × (reports : List Report) × HaveEnded options trace so.first trace.calls now.calls old mid was here reports × AreKeptLives kept reports

  -- what is so of it on what the bench told before it is so of the next of all
  next_so : (IsSo : RunOptions → (mid : BenchState) → (was : Holding) → Traced → Type 0) → IsOffOnce (pick_next options later) mid new → old.faults ≤ mid.faults → mid.faults ≤ new.faults
      → IfSome mid.told (λ here. IsSo (with_pick (pick_next options later) options) mid here (trace_of trace now.calls (tokens_next trace later))) → IfSome old.told (λ was. OfNextLife IsSo options old new was trace)
  next_so IsSo off falls_not no_less is = if_told old.told (λ was. OfNextLife IsSo options old new was trace) (λ was told.
      let before = told_at old.told Before was told so.ended in
      record {
        first = so.first;
        later = later;
        lives_are = so.lives_are;
        left = now.calls;
        mid = mid;
        here = before.0;
        reports = before.1;
        ended = before.2;
        off = off;
        no_less = no_less;
        next = told_at mid.told (λ here. IsSo (with_pick (pick_next options later) options) mid here (trace_of trace now.calls (tokens_next trace later))) before.0
            (ended_tells options trace so.first trace.calls now.calls old mid was before.0 before.1 before.2 told) is;
      })

  picked_some : IsOffOnce (pick_next options later) mid new → ArePickedSome (picks_of options trace) old new
  picked_some (inl off) = (
    map pick_of so.first ++ pick_next options later ∷ [],
    picks_after options later,
    picks_from options trace so.first later so.lives_are ∙ sym (append_assoc (map pick_of so.first) (pick_next options later ∷ []) (picks_after options later)),
    off.picked ∙ ap (λ picks. pick_next options later ∷ picks) so.picked ∙ sym (picked_joined (map pick_of so.first) (pick_next options later) old.picked),
  )
  picked_some (inr (picked, lefts)) = (map pick_of so.first, pick_next options later ∷ picks_after options later, picks_from options trace so.first later so.lives_are, picked ∙ so.picked)

  tokens_are : all_tokens trace ≡ tokens_of_lives so.first ++ tokens_next trace later ++ tokens_after trace later
  tokens_are =
      ap (λ lives. tokens_of_lives lives ++ trace.tokens) so.lives_are ∙ ap (λ tokens. tokens ++ trace.tokens) (tokens_joined so.first later) ∙ append_assoc (tokens_of_lives so.first) (tokens_of_lives later) trace.tokens
      ∙ ap (λ tokens. tokens_of_lives so.first ++ tokens) (tokens_from trace later) ∙ sym (append_assoc (tokens_of_lives so.first) (tokens_next trace later) (tokens_after trace later))

  -- The next one was stopped.
  module _ (bad_so : RefusedIsNotGood) (whole : IsRunnable trace) (stop : Stop) (over : IsLifeStopped (with_pick (pick_next options later) options) (trace_of trace now.calls (tokens_next trace later)) mid new stop) where
    abbrev Refused : Refusal → BenchState → Holding → Type 0
    Refused why bench was = IsRunRefused options was trace.names bench new why × (new.picked ≡ bench.picked)

    -- by its region only the first one is
    first_alone : (first : List TracedLife) (was here : Holding) (reports : List Report) → HaveEnded options trace first trace.calls now.calls old mid was here reports → (why : Refusal) → IsNotRun (with_pick (pick_next options later) options) here trace.names why
        → (here ≡ was) × (mid ≡ old)
    first_alone [] was here reports (calls_are, same, holds, none) why refused = (holds, same)
    first_alone (life ∷ first) was here reports ended why refused = absurd (never_again bad_so options (with_pick (pick_next options later) options) trace life first trace.calls now.calls old mid was here reports ended why refused)

    -- what was refused then is so of the bench before all
    at_first : (why : Refusal) → stop ≡ Region why → (P : BenchState → Holding → Type 0) → ((here : Holding) → mid.told ≡ Some here → P mid here) → IfSome old.told (P old)
    at_first why is P holds = if_told old.told (P old) (λ was told.
        let before = told_at old.told Before was told so.ended in
        let tells = ended_tells options trace so.first trace.calls now.calls old mid was before.0 before.1 before.2 told in
        let refused = told_at mid.told (λ here. IsRunRefused (with_pick (pick_next options later) options) here trace.names mid new why × (new.picked ≡ mid.picked)) before.0 tells (over.refused why is) in
        let same = first_alone so.first was before.0 before.1 before.2 why refused.0.not_run in
        subst (λ bench. P bench was) same.1 (subst (P mid) same.0 (holds before.0 tells)))

    refused_so : (why : Refusal) (here : Holding) → IsRunRefused (with_pick (pick_next options later) options) here trace.names mid new why × (new.picked ≡ mid.picked) → Refused why mid here
    refused_so why here (refused, unpowered) = (
      record {
        not_run = record { geometry = refused.not_run.geometry; page_is = refused.not_run.page_is; entries_are = refused.not_run.entries_are; not_opened = refused.not_run.not_opened };
        unwritten = refused.unwritten;
        rests = λ many. let rests = refused.rests many in record { geometry = rests.geometry; page_is = rests.page_is; entries_are = rests.entries_are; rests = rests.rests };
      },
      unpowered,
    )

    pub stopped_over : AreLivesOver options trace old new (Err stop)
    stopped_over = record {
      runnable = whole;
      back = over.back;
      cuts = subst (λ tokens. IsArmedAtSome tokens old new) (sym tokens_are) (some_armed (tokens_of_lives so.first) (tokens_next trace later) (tokens_after trace later) old mid new so.armed over.cuts);
      all_cuts = tt;
      picked = picked_some over.off;
      all_picked = tt;
      cause = subst (λ count. StopSettles count new.faults stop) (expected_so options trace old mid new later now kept so over.settles) over.cause;
      never_falls = omega (arith, so.never_falls, over.never_falls);
      uncut = tt;
      turns = λ is. (
        map pick_of so.first,
        pick_next options later,
        picks_after options later,
        picks_from options trace so.first later so.lives_are,
        over.turns (same_stop is) ∙ ap (λ picks. pick_next options later ∷ picks) so.picked,
      );
      used = λ is. next_so (λ options mid here life. HasUsedTurnsOn options mid new here life) over.off so.never_falls over.never_falls (over.used (same_stop is));
      life = next_so (λ options mid here life. LeavesRun TellsNothing options here life [] new.told) over.off so.never_falls over.never_falls over.life;
      followed = tt;
      refused = λ why is. at_first why (same_stop is) (Refused why) (λ here tells.
          refused_so why here (told_at mid.told (λ here. IsRunRefused (with_pick (pick_next options later) options) here trace.names mid new why × (new.picked ≡ mid.picked)) here tells (over.refused why (same_stop is))));
      unarmed = λ why is. at_first why (same_stop is) (λ bench was. new.arms ≡ bench.arms) (λ here tells. told_at mid.told (λ here. new.arms ≡ mid.arms) here tells (over.unarmed why (same_stop is)));
    }

-- The last life was followed to its end, and its report is told behind those before it.
module _ (options : RunOptions) (trace : Traced) (old mid new : BenchState) (now : Traced) (kept : LivesShown) (so : AreSoFar options trace old [] mid now kept) (text : Vec ℕ) where
  abbrev Last : Holding → Traced → Type 0
  Last here now = (last : HasFollowed (Rose mid.faults new.faults) options mid.picked here new now) × ((ended : List Report) → AreKeptLives kept ended → IsTextOfLives ended last.scheduled.report text.items)

  abbrev Leaves : Traced → Type 0
  Leaves now = IfSome mid.told (λ here. LeavesRun TellsNothing options here now [] new.told)

  abbrev EndedBefore : Holding → Type 0
  EndedBefore was = (here : Holding) × (reports : List Report) × HaveEnded options trace so.first trace.calls now.calls old mid was here reports × AreKeptLives kept reports

  all_lives : trace.lives ≡ so.first
  all_lives = so.lives_are ∙ append-nil so.first

  pub shown_over : IsRunnable trace → IsAllBack new → IsArmedAt now.tokens mid new → IsOff options.image mid new → new.faults ≡ expected_faults mid new → mid.settled ≤ new.settled → mid.faults ≤ new.faults
      → (cuts_of now.tokens ≡ [] → new.faults ≡ mid.faults) → IfSome mid.told (λ here. LeavesRun TellsNothing options here now [] new.told)
      → IfSome mid.told (λ here. (last : HasFollowed (Rose mid.faults new.faults) options mid.picked here new now) × ((ended : List Report) → AreKeptLives kept ended → IsTextOfLives ended last.scheduled.report text.items))
      → AreLivesOver options trace old new (Ok text)
  shown_over whole back armed off counts settles no_less uncut life followed =
      let here : IsArmedAt trace.tokens mid new = subst (λ (tokens : List Token). IsArmedAt tokens mid new) (ap (λ (t : Traced). t.tokens) so.now_is) armed in
      let whole_here : cuts_of trace.tokens ≡ [] → new.faults ≡ mid.faults = subst (λ (tokens : List Token). cuts_of tokens ≡ [] → new.faults ≡ mid.faults) (ap (λ (t : Traced). t.tokens) so.now_is) uncut in
      let cut : IsArmedAt (all_tokens trace) old new =
      subst (λ tokens. IsArmedAt tokens old new) (ap (λ lives. tokens_of_lives lives ++ trace.tokens) (sym all_lives)) (both_armed (tokens_of_lives so.first) trace.tokens old mid new so.armed here) in
      record {
        runnable = whole;
        back = back;
        cuts = (all_tokens trace, [], sym (append-nil (all_tokens trace)), cut);
        all_cuts = cut;
        picked = picked_some options trace old [] mid new now kept so (inl off);
        all_picked = off.picked ∙ ap (λ picks. options.image ∷ picks) so.picked ∙ sym (picked_joined (map pick_of so.first) options.image old.picked)
            ∙ ap (λ lives. picked_behind (map pick_of lives ++ options.image ∷ []) old.picked) (sym all_lives);
        cause = counts ∙ expected_so options trace old mid new [] now kept so settles;
        never_falls = omega (arith, so.never_falls, no_less);
        uncut = λ none.
            let all_cuts : cuts_of (tokens_of_lives so.first ++ trace.tokens) ≡ [] = ap (λ lives. cuts_of (tokens_of_lives lives ++ trace.tokens)) (sym all_lives) ∙ none in
            whole_here (uncut_then (tokens_of_lives so.first) trace.tokens all_cuts) ∙ so.uncut (uncut_first (tokens_of_lives so.first) trace.tokens all_cuts);
        turns = λ is. cc;
        used = λ is. cc;
        life = next_so options trace old [] mid new now kept so (λ options mid here life. LeavesRun TellsNothing options here life [] new.told) (inl off) so.never_falls no_less (subst Leaves so.now_is life);
        followed = if_told old.told (λ was. ShowsLives options old new was trace text.items) (λ was told.
            let before = told_at old.told EndedBefore was told so.ended in
            let tells = ended_tells options trace so.first trace.calls now.calls old mid was before.0 before.1 before.2 told in
            let last = subst (Last before.0) so.now_is (told_at mid.told (λ here. Last here now) before.0 tells followed) in
            record {
              left = now.calls;
              mid = mid;
              here = before.0;
              reports = before.1;
              ended = subst (λ lives. HaveEnded options trace lives trace.calls now.calls old mid was before.0 before.1) (sym all_lives) before.2;
              last = last.0;
              armed = here;
              left_so = left_beside options.image mid new last.0.scheduled.left.lost.power off last.0.scheduled.left.lost.power_left;
              no_less = no_less;
              uncut = whole_here;
              text_is = last.1 before.1 before.3;
            });
        refused = λ why is. cc;
        unarmed = λ why is. cc;
      }

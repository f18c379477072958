-- What is shown of a region: it isn't refused.
use Rattle.std.proofs.Common.{◌∷◌, ◌≡◌, ℕ, ◌≤◌, Bool, true, false, List, [], Option, Some, None, length, refl, sym, ap, subst, ◌∙◌, arith, slice_index_or}
use Rattle.std.specs.List.{range_with_len}
use Rattle.std.proofs.lemmas.List.{length-map}
use Rattle.std.proofs.lemmas.List.FromFn.{length-range_with_len}
use Rattle.nv_plain.specs.Images.{Image, header_of, name_of}
use Rattle.nv_plain.specs.Faults.{Rose}
use Rattle.nv_plain.specs.Layouts.{Layout, mount_layout}
use Rattle.nv_plain.proofs.OwnLayouts.{layout_is}
use Rattle.nv_open.specs.Looking.{ShowsRegion}
use Rattle.nv_open.specs.Refusals.{CanBeRead, head_image, header_part}
use Rattle.nv_pmem.specs.Part.{Part}
use Rattle.nv_pmem.specs.Rows.{row_words}
use Rattle.nv_pmem.specs.declared.geometry.Geometry.{Geometry}
use Rattle.nv_pmem.proofs.ImageLaws.{image_of_now}
use Rattle.nv_pmem.specs.declared.picker.Pick.{Pick}
use Rattle.nv_bench.specs.Benches.{BenchState}
use Rattle.nv_bench.specs.Holding.{Holding}
use Rattle.nv_bench.specs.Opening.{is_blank}
use Rattle.nv_header.specs.Heads.{IsHead, first_names}
use Rattle.nv_header.specs.Unread.{HeadIsNotUnread}
use Rattle.nv_header.specs.Regions.{IsAtRest}
use Rattle.nv_recover.specs.Groups.{FittingHasNoBad}
use Rattle.nv_open.specs.Adding.{all_names}
use Rattle.nv_open.specs.Begun.{HasTooMany, IsOpeningBegun}
use Rattle.nv_open.specs.declared.error.Refusal.{Refusal}
use Rattle.nv_open.specs.declared.error.Refusal.TheVariants.{Truncated, BadMagic, BadVersion, BadGeometry, BadName, BadEntry, TooManyFiles}
use Rattle.nv_trace.specs.Reading.{Whole}
use Rattle.nv_trace.specs.Traced.{Traced}
use Rattle.nv_trace.specs.Lives.{TracedLife}
use Rattle.nv_trace.specs.declared.trace_call.TracedCall.{TracedCall}
use Rattle.nv_runner.specs.Faithful.{Basis}
use Rattle.nv_load.specs.Generated.{generated}
use Rattle.nv_top.specs.Commands.{HasLooked, HasRunOn, IsBasis, IsNotRun, IsNotShown}
use Rattle.nv_top.specs.Followed.{HasFollowed}
use Rattle.nv_top.specs.LifeRows.{HaveEnded, trace_of, with_pick}
use Rattle.nv_runner.specs.Reports.{Report as AnyReport}
use Rattle.nv_top.specs.Headline.{HasRefusal, IsShown, IsShownOf, ShownIsNotRefused}
use Rattle.nv_top.specs.Loads.{load_options}
use Rattle.nv_top.specs.Stopping.{next_in}
use Rattle.nv_top.specs.declared.show.Show.{Show}
use Rattle.nv_top.specs.declared.show.Show.TheVariants.{Report, Summary}
use Rattle.nv_words.specs.declared.words.Command.TheVariants.{Run, Sched, Recover, Look, Gen}
use Rattle.nv_words.specs.declared.words.RunOptions.{RunOptions}
use Rattle.nv_top.proofs.UnrefusedLemmas.{header_allowed, region_allowed}

-- ---- names

first_many : (image : Image) (count : ℕ) → length (first_names mount_layout image count) ≡ count
unfolding first_names
first_many image count = length-map (range_with_len 0 count) (name_of mount_layout image) ∙ length-range_with_len 0 count

-- a region at rest has no more names than a header may have
pub rested_few : (page entries next : ℕ) (names : List (List ℕ)) (parts : List Part) → IsAtRest mount_layout page entries names next parts → length names ≤ mount_layout.file_limit
rested_few page entries next names parts rest =
    let image = row_words parts in
    let empty = rest.empty image (record { each = λ i. image_of_now (slice_index_or parts i []) }) in
    let files = empty.header.readable.fields.files in
    let many = first_many image (header_of image).files in
    subst (λ (names : List (List ℕ)). length names ≤ mount_layout.file_limit) empty.header.names_are (omega (arith, many, files))

-- ---- a run

-- two readings of one input are the same trace
one_trace : {one other : Traced} → Whole one ≡ Whole other → one ≡ other
one_trace {one} {other} is = cc

-- an opening begins with the same names, whatever is wanted of it
begun_known : {one two : Geometry} {page entries next page_too entries_too next_too : ℕ} (parts : List Part) (known other : List (List ℕ)) (blank : Bool) → is_blank parts ≡ blank
    → IsOpeningBegun parts one page entries known next → IsOpeningBegun parts two page_too entries_too other next_too → known ≡ other
begun_known parts known other true is first second = (first.formatted is).names_are ∙ sym (second.formatted is).names_are
begun_known parts known other false is first second = (first.kept is).recovered.names_are ∙ sym (second.kept is).recovered.names_are

module _ (good_so : FittingHasNoBad) (read_so : HeadIsNotUnread) where
  -- a run that began, with no more names than a header may have, wasn't refused
  begun_allowed : (options : RunOptions) (holding : Holding) (wanted : List (List ℕ)) (basis : Basis) → IsBasis options holding wanted basis → length basis.names ≤ mount_layout.file_limit
      → (why : Refusal) → ¬ (IsNotRun options holding wanted why)
  begun_allowed options holding wanted basis is few why refused = by why refused where
    opened_allowed : (why : Refusal) → ¬ (why ≡ TooManyFiles) → IsNotRun options holding wanted why → ⊥
    opened_allowed why other refused =
        let both = refused.not_opened.not_blank other in
        let kept = (is.begun.kept both.0).recovered in
        region_allowed read_so holding.parts kept.readable kept.long good_so kept.log.fits why both.1

    by : (why : Refusal) → IsNotRun options holding wanted why → ⊥
    by (Truncated found most) refused = opened_allowed (Truncated found most) (λ same. cc) refused
    by BadMagic refused = opened_allowed BadMagic (λ same. cc) refused
    by (BadVersion found) refused = opened_allowed (BadVersion found) (λ same. cc) refused
    by (BadGeometry field found) refused = opened_allowed (BadGeometry field found) (λ same. cc) refused
    by (BadName i) refused = opened_allowed (BadName i) (λ same. cc) refused
    by (BadEntry number) refused = opened_allowed (BadEntry number) (λ same. cc) refused
    by TooManyFiles refused =
        let many : HasTooMany holding.parts refused.geometry wanted = refused.not_opened.many refl in
        let known = begun_known holding.parts is.known many.known (is_blank holding.parts) refl is.begun many.begun in
        let names = ap length (is.names_are ∙ ap (λ known. all_names known wanted) known) in
        let more = many.many in
        omega (arith, names, few, more)

  ran_allowed : (show : Show) (options : RunOptions) (holding : Holding) (told : Option Holding) (trace : Traced) (text : List ℕ) → HasRunOn show options holding told trace text
      → (why : Refusal) → ¬ (IsNotRun options holding trace.names why)
  ran_allowed show options holding told trace text ran =
      let left = ran.left.left in
      begun_allowed options holding trace.names ran.basis ran.begun (rested_few left.page left.entries left.next ran.basis.names ran.left.now.parts left.rest)

  run_allowed : (stop : Option ℕ) (options : RunOptions) (old new : BenchState) (holding : Holding) (trace : Traced) (text : List ℕ) → IsShownOf stop options old new holding trace text
      → (why : Refusal) → ¬ (IsNotRun options holding trace.names why)
  run_allowed None options old new holding trace text ran = ran_allowed Report options holding new.told trace text ran
  run_allowed (Some k) options old new holding trace text run =
      let rests = run.stopped.left.lost.rests in
      begun_allowed options holding trace.names run.basis run.begun
      (rested_few run.basis.sizes.page run.basis.sizes.entries (next_in run.stopped.left.lost.power.parts run.basis.files) run.basis.names rests.now.parts rests.rests.rest)

  -- a schedule that was followed wasn't either
  followed_allowed : (failed : Type 0) (options : RunOptions) (before : List Pick) (holding : Holding) (bench : BenchState) (trace : Traced) → HasFollowed failed options before holding bench trace
      → (why : Refusal) → ¬ (IsNotRun options holding trace.names why)
  followed_allowed failed options before holding bench trace shown =
      let basis = shown.basis in
      let rests = shown.scheduled.left.lost.rests in
      begun_allowed options holding trace.names basis shown.begun
      (rested_few basis.sizes.page basis.sizes.entries (next_in shown.scheduled.left.lost.power.parts basis.files) basis.names rests.now.parts rests.rests.rest)

  -- nor were lives in turn
  lives_allowed : (options : RunOptions) (trace : Traced) (lives : List TracedLife) (calls left : List TracedCall) (old mid new : BenchState) (was here : Holding) (reports : List AnyReport)
      → HaveEnded options trace lives calls left old mid was here reports → HasFollowed (Rose mid.faults new.faults) options mid.picked here new (trace_of trace left trace.tokens)
      → (why : Refusal) → ¬ (IsNotRun options was trace.names why)
  lives_allowed options trace [] calls left old mid new was here reports (calls_are, same, holds, none) last why refused =
      followed_allowed (Rose mid.faults new.faults) options mid.picked here new (trace_of trace left trace.tokens) last why (subst (λ (holding : Holding). IsNotRun options holding trace.names why) (sym holds) refused)
  lives_allowed options trace (life ∷ later) calls left old mid new was here reports (behind, then_, held, rest, one, are, ended) last why refused =
      followed_allowed (Rose old.faults then_.faults) (with_pick life.pick options) old.picked was then_ (trace_of trace calls life.tokens) one.followed why
      (record { geometry = refused.geometry; page_is = refused.page_is; entries_are = refused.entries_are; not_opened = refused.not_opened })

  -- ---- a look

  -- the header of a region that is shown can be read, as one of its own version
  shown_readable : (parts : List Part) (files : List (List ℕ)) (text : List ℕ) → ShowsRegion parts files text → CanBeRead parts
  shown_readable parts files text shown =
      subst (λ (layout : Layout). IsHead layout (length (header_part parts)) (head_image parts))
      (sym (layout_is shown.head.version (head_image parts) shown.says.readable.fields.version_is)) shown.says.readable

  look_allowed : (files : Bool) (holding : Holding) (text : List ℕ) → HasLooked files holding text → (why : Refusal) → ¬ (IsNotShown files holding why)
  look_allowed false holding text shown why refused = header_allowed read_so holding.parts (shown_readable holding.parts [] text shown) shown.long why refused.1 refused.0
  look_allowed true holding text shown why refused = region_allowed read_so holding.parts (shown_readable holding.parts _ text shown.shown) shown.shown.long good_so shown.fits why refused

  -- ---- a command

  pub shown_is_not_refused : ShownIsNotRefused
  shown_is_not_refused (Run options) input old new holding text has shown why refused =
      let Shown : Option (List ℕ) → Type 0 = λ input. IsShown (Run options) input old new holding text in
      let Refused : Option (List ℕ) → Type 0 = λ input. HasRefusal (Run options) input holding why in
      let report = subst Shown has.1 shown in
      let cause = subst Refused has.1 refused in
      let same : cause.0 ≡ report.0 = one_trace (sym cause.1 ∙ report.1) in
      run_allowed options.stop options old new holding report.0 text report.2 why (subst (λ (trace : Traced). IsNotRun options holding trace.names why) same cause.2)
  shown_is_not_refused (Sched options) input old new holding text has shown why refused =
      let Shown : Option (List ℕ) → Type 0 = λ input. IsShown (Sched options) input old new holding text in
      let Refused : Option (List ℕ) → Type 0 = λ input. HasRefusal (Sched options) input holding why in
      let report = subst Shown has.1 shown in
      let cause = subst Refused has.1 refused in
      let same : cause.0 ≡ report.0 = one_trace (sym cause.1 ∙ report.1) in
      let all = report.2 in
      lives_allowed options report.0 report.0.lives report.0.calls all.left old all.mid new holding all.here all.reports all.ended all.last why (subst (λ (trace : Traced). IsNotRun options holding trace.names why) same cause.2)
  shown_is_not_refused Recover input old new holding text has shown why refused = region_allowed read_so holding.parts shown.readable shown.long good_so shown.fits why refused
  shown_is_not_refused (Look files) input old new holding text has shown why refused = look_allowed files holding text shown why refused
  shown_is_not_refused (Gen load) input old new holding text has shown why refused = ran_allowed (Summary load) load_options holding new.told (generated load) text shown.ran why refused

-- Next commands: by what each leaves of a bench.
use Rattle.std.proofs.Common.{◌≡◌, ℕ, ◌<◌, ◌≤◌, ◌==◌, ◌^◌, slice_index_or, All, Bool, true, false, List, [], ◌∷◌, ◌++◌, Option, Some, None, inl, inr, refl, sym, ap, subst, ◌∙◌, arith}
use Rattle.std.specs.Prelude.{IfSome}
use Rattle.std.proofs.lemmas.List.Elements.{All-nil, All-cons, All-head, All-tail, All-append}
use Rattle.nv_open.specs.Refusals.{head_image}
use Rattle.nv_plain.specs.Images.{version_in}
use Rattle.nv_plain.specs.Files.{Files}
use Rattle.nv_plain.specs.Layouts.{layout_of, mount_version}
use Rattle.nv_plain.specs.declared.limits.Version.{Version}
use Rattle.nv_open.proofs.Versions.{empty_names}
use Rattle.nv_plain.specs.Recovered.{next_after, recovered}
use Rattle.nv_pmem.specs.Rows.{row_words}
use Rattle.nv_pmem.proofs.ImageLaws.{image_of_now}
use Rattle.nv_pmem.specs.declared.picker.Pick.{Pick}
use Rattle.nv_bench.specs.Opening.{is_blank}
use Rattle.nv_header.specs.Regions.{IsAtRest}
use Rattle.nv_open.specs.Adding.{all_names}
use Rattle.nv_open.specs.Held.{header_names}
use Rattle.nv_open.proofs.Stands.{names_read}
use Rattle.nv_recover.proofs.AlikeLaws.{no_commit}
use Rattle.nv_recover.proofs.EmptyLaws.{empty_none}
use Rattle.nv_store.specs.Store.{IsQuietStore, Store}
use Rattle.nv_bench.specs.Benches.{BenchState}
use Rattle.nv_bench.specs.Holding.{Holding, IsQuietHolding, NamedStore, named_stores}
use Rattle.nv_open.specs.Lending.{stores_named, without_stores}
use Rattle.nv_open.specs.Looking.{names_until, told_by}
use Rattle.nv_open.proofs.Homes.{kept_in_all}
use Rattle.nv_open.proofs.Returns.{named_quiet}
use Rattle.nv_recover.specs.Standing.{AreQuietStores}
use Rattle.nv_top.specs.Commands.{IsBasis, IsGivenBack, IsLookedAt}
use Rattle.nv_top.specs.Headline.{IsLeftAfter, IsShown, IsShownOf, expected_faults}
use Rattle.nv_top.specs.Leaving.{Leaves}
use Rattle.nv_top.specs.LifeRows.{HaveEnded}
use Rattle.nv_top.specs.NextCommands.{BeginsAt, IsReady, NextBeginsBehind, NextBeginsBehindRecovery, NextBeginsBehindSchedule, NextBeginsBehindStop, NextIsReady}
use Rattle.nv_top.specs.Stopping.{IsAllBack, IsPoweredBack, RestsWith, next_in}
use Rattle.nv_words.specs.declared.words.Command.TheVariants.{Run, Sched, Recover, Look, Gen}
use Rattle.nv_top.proofs.CommandLemmas.{told_at}
use Rattle.nv_trace.specs.Traced.{Traced}
use Rattle.nv_trace.specs.Lives.{TracedLife}
use Rattle.nv_trace.specs.declared.trace_call.TracedCall.{TracedCall}
use Rattle.nv_words.specs.declared.words.RunOptions.{RunOptions}
use Rattle.nv_runner.specs.Faithful.{Basis}
use Rattle.nv_runner.specs.Reports.{Report}

abbrev Still : List NamedStore → Type 0
Still stores = All (λ (named : NamedStore). IsQuietStore named.store) stores

named_still : (names : List (List ℕ)) (disks : List Store) → AreQuietStores disks → Still (named_stores names disks)
named_still [] disks quiet = All-nil (λ (named : NamedStore). IsQuietStore named.store)
named_still (name ∷ names) [] quiet = All-nil (λ (named : NamedStore). IsQuietStore named.store)
named_still (name ∷ names) (store ∷ disks) quiet =
    All-cons (λ (named : NamedStore). IsQuietStore named.store) (record { name = name; store = store }) (named_stores names disks) (All-head IsQuietStore store disks quiet)
    (named_still names disks (All-tail IsQuietStore store disks quiet))

both_still : (others : List NamedStore) (names : List (List ℕ)) (disks : List Store) (stores : List NamedStore) → stores ≡ others ++ named_stores names disks → Still others → AreQuietStores disks → Still stores
both_still others names disks stores are still quiet =
    subst Still (sym are) (All-append (λ (named : NamedStore). IsQuietStore named.store) others (named_stores names disks) still (named_still names disks quiet))

told_quiet : (told : Option Holding) (now : Holding) → told ≡ Some now → IsQuietHolding now → IfSome told IsQuietHolding
told_quiet told now is quiet = subst (λ (one : Option Holding). IfSome one IsQuietHolding) (sym is) quiet

left_quiet : {version : _} {want : _} {names : List (List ℕ)} {files : _} {was : Holding} {told : Option Holding} → IsQuietHolding was → Leaves version want names files was told → IfSome told IsQuietHolding
left_quiet {version} {want} {names} {files} {was} {told} quiet leaves =
    told_quiet told leaves.now leaves.told_is (record {
      parts = leaves.left.rest.quiet;
      stores = both_still (without_stores names was.stores) names leaves.left.disks leaves.now.stores leaves.left.stores_are
          (kept_in_all (λ (named : NamedStore). IsQuietStore named.store) names was.stores quiet.stores) leaves.left.synced;
    })

pub rests_quiet : {version : _} {page entries next many : ℕ} {files : _} {told : Option Holding} (names : List (List ℕ)) (was : Holding) → IsQuietHolding was
    → RestsWith version page entries names next files many (without_stores names was.stores) told → IfSome told IsQuietHolding
rests_quiet {version} {page} {entries} {next} {many} {files} {told} names was quiet rests =
    told_quiet told rests.now rests.told_is (record {
      parts = rests.rests.rest.quiet;
      stores = both_still (without_stores names was.stores) names rests.rests.held rests.now.stores rests.rests.stores_are
          (kept_in_all (λ (named : NamedStore). IsQuietStore named.store) names was.stores quiet.stores) rests.rests.durable;
    })

module _ (old new : BenchState) (holding : Holding) (ready : IsReady old) (told : old.told ≡ Some holding) (room : new.arms < 2 ^ 63) (counts : new.faults ≡ expected_faults old new) where
  was_quiet : IsQuietHolding holding
  was_quiet = told_at old.told IsQuietHolding holding told ready.quiet

  settled_low : new.settled ≤ new.faults
  settled_low = omega (arith, counts)

  given_ready : IsGivenBack old new → IfSome new.told IsQuietHolding → IsReady new
  given_ready back quiet = record {
    closed = ap (λ (s : BenchState). s.is_open) back ∙ ready.closed;
    home = ap (λ (s : BenchState). s.lent) back ∙ ready.home;
    quiet = quiet;
    arms = room;
    settled = settled_low;
  }

  powered_ready : (k : ℕ) → IsPoweredBack k old new → IfSome new.told IsQuietHolding → IsReady new
  powered_ready k back quiet = record {
    closed = ap (λ (s : BenchState). s.is_open) back;
    home = ap (λ (s : BenchState). s.lent) back;
    quiet = quiet;
    arms = room;
    settled = settled_low;
  }

  schedule_ready : IsAllBack new → IfSome new.told IsQuietHolding → IsReady new
  schedule_ready back quiet = record {
    closed = ap (λ (s : BenchState). s.is_open) back;
    home = ap (λ (s : BenchState). s.lent) back;
    quiet = quiet;
    arms = room;
    settled = settled_low;
  }

  look_ready : (files : Bool) → IsLookedAt files old new → IsReady new
  look_ready false left = record {
    closed = ap (λ (s : BenchState). s.is_open) left ∙ ready.closed;
    home = ap (λ (s : BenchState). s.lent) left ∙ ready.home;
    quiet = subst (λ (one : Option Holding). IfSome one IsQuietHolding) (sym (ap (λ (s : BenchState). s.told) left)) ready.quiet;
    arms = room;
    settled = settled_low;
  }
  look_ready true left =
      let names = names_until left.1.0 holding.parts in
      let given = stores_named names holding.stores in
      let now : Holding = record { parts = holding.parts; stores = without_stores names holding.stores ++ named_stores names given } in
      given_ready left.0
      (told_quiet new.told now (left.1.1 ∙ ap (told_by (names_until left.1.0)) told)
      (record {
        parts = was_quiet.parts;
        stores = both_still (without_stores names holding.stores) names given now.stores refl (kept_in_all (λ (named : NamedStore). IsQuietStore named.store) names holding.stores was_quiet.stores)
            (named_quiet names holding.stores was_quiet.stores);
      }))

run_quiet : (stop : Option ℕ) (options : _) (old new : BenchState) (holding : Holding) (trace : Traced) (text : List ℕ) → IsQuietHolding holding → IsShownOf stop options old new holding trace text → IfSome new.told IsQuietHolding
run_quiet None options old new holding trace text quiet shown = left_quiet quiet shown.left
run_quiet (Some k) options old new holding trace text quiet shown = rests_quiet shown.basis.names holding quiet shown.stopped.left.lost.rests

run_ready : (stop : Option ℕ) (pick : Pick) (old new : BenchState) (holding : Holding) → IsReady old → old.told ≡ Some holding → new.arms < 2 ^ 63 → new.faults ≡ expected_faults old new → IsLeftAfter stop pick old new → IfSome new.told IsQuietHolding → IsReady new
run_ready None pick old new holding ready told room counts left quiet = given_ready old new holding ready told room counts left quiet
run_ready (Some k) pick old new holding ready told room counts (inl left, picked) quiet = powered_ready old new holding ready told room counts k left quiet
run_ready (Some k) pick old new holding ready told room counts (inr left, picked) quiet = given_ready old new holding ready told room counts left quiet

-- behind lives that crashes ended
pub ended_quiet : (options : RunOptions) (trace : Traced) (lives : List TracedLife) (calls left : List TracedCall) (old new : BenchState) (was now : Holding) (reports : List Report)
    → HaveEnded options trace lives calls left old new was now reports → IsQuietHolding was → IsQuietHolding now
ended_quiet options trace [] calls left old new was now reports (calls_are, same, holds, none) quiet = subst IsQuietHolding (sym holds) quiet
ended_quiet options trace (life ∷ later) calls left old new was now reports (behind, then_, held, rest, one, are, ended) quiet =
    ended_quiet options trace later behind left then_ new held now rest ended
    (told_at then_.told IsQuietHolding held one.tells (rests_quiet one.followed.basis.names was quiet one.followed.scheduled.left.lost.rests))

pub next_is_ready : NextIsReady
next_is_ready (Run options) input old new holding text ready told room has left counts shown =
    let Shown : Option (List ℕ) → Type 0 = λ input. IsShown (Run options) input old new holding text in
    let report = subst Shown has.1 shown in
    run_ready options.stop options.image old new holding ready told room counts left
    (run_quiet options.stop options old new holding report.0 text (told_at old.told IsQuietHolding holding told ready.quiet) report.2)
next_is_ready (Sched options) input old new holding text ready told room has left counts shown =
    let Shown : Option (List ℕ) → Type 0 = λ input. IsShown (Sched options) input old new holding text in
    let report = subst Shown has.1 shown in
    let shown = report.2 in
    let quiet = ended_quiet options report.0 report.0.lives report.0.calls shown.left old shown.mid holding shown.here shown.reports shown.ended (told_at old.told IsQuietHolding holding told ready.quiet) in
    schedule_ready old new holding ready told room counts left
    (rests_quiet shown.last.basis.names shown.here quiet shown.last.scheduled.left.lost.rests)
next_is_ready Recover input old new holding text ready told room has left counts shown =
    given_ready old new holding ready told room counts left (left_quiet (told_at old.told IsQuietHolding holding told ready.quiet) shown.left)
next_is_ready (Look files) input old new holding text ready told room has left counts shown = look_ready old new holding ready told room counts files left
next_is_ready (Gen load) input old new holding text ready told room has left counts shown =
    given_ready old new holding ready told room counts left (left_quiet (told_at old.told IsQuietHolding holding told ready.quiet) shown.ran.left)

-- ---- where the next run begins

-- over a region at rest it begins with the sizes and at the number of that
begins_at : (version : Version) (page entries next : ℕ) (names : List (List ℕ)) (now : Holding) (later : RunOptions) (wanted : List (List ℕ)) (basis : Basis) → IsAtRest (layout_of version) page entries names next now.parts → IsBasis later now wanted basis
    → BeginsAt page entries next basis × (basis.names ≡ all_names names wanted)
begins_at version page entries next names now later wanted basis rest begins =
    let image = row_words now.parts in
    let empty = rest.empty image (record { each = λ i. image_of_now (slice_index_or now.parts i []) }) in
    let none = empty_none page entries names next image empty in
    let blank : is_blank now.parts ≡ false = ap (λ (magic : ℕ). magic == 0) empty.header.readable.fields.magic in
    let kept = (begins.begun.kept blank).recovered in
    let files : Files = record { contents = [] } in
    let known : begins.known ≡ names = kept.names_are ∙ names_read now.parts ∙ empty_names version page entries names next image empty in
    let goes_on : (recovered image files).next ≡ next = ap (next_after image) (no_commit image none) ∙ empty.header.tail_is in (
      record { page_is = kept.page_is ∙ empty.header.page_is; entries_is = kept.entries_is ∙ empty.header.entries_is; next_is = kept.next_is ∙ kept.log.next files ∙ goes_on },
      begins.names_are ∙ ap (λ known. all_names known wanted) known,
    )

pub next_begins_behind : NextBeginsBehind
next_begins_behind show options later holding told trace text ran wanted basis second =
    let left = ran.left.left in
    let (at, names) = begins_at mount_version left.page left.entries left.next ran.basis.names ran.left.now later wanted basis left.rest second in
    record { page = at.page_is ∙ ran.page_is; entries = at.entries_is ∙ ran.entries_is; names = names; next = at.next_is ∙ ran.next_is }

pub next_begins_behind_stop : NextBeginsBehindStop
next_begins_behind_stop options later old new holding trace text run wanted basis second =
    let rests = run.stopped.left.lost.rests in
    (begins_at mount_version run.basis.sizes.page run.basis.sizes.entries (next_in run.stopped.left.lost.power.parts run.basis.files) run.basis.names rests.now later wanted basis rests.rests.rest second).0

pub next_begins_behind_schedule : NextBeginsBehindSchedule
next_begins_behind_schedule options later old new holding trace run wanted basis second =
    let rests = run.scheduled.left.lost.rests in
    (begins_at mount_version run.basis.sizes.page run.basis.sizes.entries (next_in run.scheduled.left.lost.power.parts run.basis.files) run.basis.names rests.now later wanted basis rests.rests.rest second).0

pub next_begins_behind_recovery : NextBeginsBehindRecovery
next_begins_behind_recovery later holding told text recovered wanted basis second =
    let left = recovered.left.left in
    let at = (begins_at (version_in (head_image holding.parts)) left.page left.entries left.next (header_names holding.parts) recovered.left.now later wanted basis left.rest second).0 in
    record { page_is = at.page_is ∙ recovered.page_is; entries_is = at.entries_is ∙ recovered.entries_is; next_is = at.next_is ∙ recovered.next_is }

-- What a command leaves of a region that was blank or good: it is so again, once power went off.
use Rattle.std.proofs.Common.{◌≡◌, ◌⊎◌, ℕ, ◌≤◌, Bool, true, false, List, [], ◌∷◌, ◌++◌, Option, Some, None, Ok, Err, length, map, inl, inr, refl, sym, ap, subst, ◌∙◌, ◌==◌, arith}
use Rattle.std.specs.Global.{Vec}
use Rattle.std.specs.Prelude.{IfOk, IfSome, IsOk, is_ok, slice_index_or}
use Rattle.std.proofs.lemmas.Bool.{eqb-true, true≢false}
use Rattle.nv_open.specs.Refusals.{head_layout}
use Rattle.nv_open.specs.Unopened.{HasHeader}
use Rattle.nv_open.specs.Refusals.{AreLong}
use Rattle.nv_plain.specs.Faults.{Rose}
use Rattle.nv_plain.specs.Files.{Files}
use Rattle.nv_plain.specs.Images.{Image, header_of, layout_in, version_in}
use Rattle.nv_plain.specs.Layouts.{Layout, layout_of, mount_layout, mount_version}
use Rattle.nv_plain.specs.declared.limits.Version.{Version}
use Rattle.nv_plain.proofs.OwnLayouts.{layout_is, layout_same}
use Rattle.nv_plain.specs.Recovered.{Fits, IsBlank}
use Rattle.nv_pmem.specs.Draws.{draws_of}
use Rattle.nv_pmem.specs.Laws.{QuietPartHasOneImage}
use Rattle.nv_pmem.specs.Part.{Part}
use Rattle.nv_pmem.specs.Rows.{IsRowImage, row_words}
use Rattle.nv_pmem.specs.declared.geometry.Geometry.{Geometry}
use Rattle.nv_pmem.specs.declared.picker.Pick.{Pick}
use Rattle.nv_pmem.proofs.ImageLaws.{image_of_now}
use Rattle.nv_store.specs.Store.{Store}
use Rattle.nv_bench.specs.Benches.{BenchState}
use Rattle.nv_bench.specs.Holding.{Holding, IsQuietHolding, NamedStore}
use Rattle.nv_bench.specs.Laws.{AreWholeStores, PowerLeavesAnImage}
use Rattle.nv_bench.specs.Opening.{is_blank, opened}
use Rattle.nv_bench.specs.Powered.{powered}
use Rattle.nv_header.specs.Heads.{IsHead}
use Rattle.nv_header.specs.Needs.{HasLines, header_lines_in}
use Rattle.nv_header.specs.Regions.{IsAtRest}
use Rattle.nv_recover.specs.Standing.{AreStoreImages}
use Rattle.nv_recover.proofs.AlikeLaws.{empty_fits, fits_own}
use Rattle.nv_recover.proofs.EmptyLaws.{empty_none}
use Rattle.nv_open.specs.Held.{header_names}
use Rattle.nv_open.specs.Lending.{stores_named}
use Rattle.nv_open.specs.Looking.{names_until, told_by}
use Rattle.nv_open.specs.Refusals.{CanBeRead, head_image, header_part, rooms_of}
use Rattle.nv_open.specs.Unopened.{InEachImage, IsGood, IsUntouched, StandForFiles, StandsAsBefore, StandsOpening, TellsOf, entries_known, line_counts, names_in, page_known}
use Rattle.nv_open.proofs.LineCounts.{long_alike}
use Rattle.nv_open.proofs.Partly.{blank_entries, blank_page, kept_entries, kept_page}
use Rattle.nv_open.proofs.PartlyBack.{known_entries, known_page}
use Rattle.nv_open.proofs.Sized.{blank_stays, either_long, long_opened, mount_long}
use Rattle.nv_open.proofs.Stands.{durable_images}
use Rattle.nv_open.proofs.Versions.{own_layout}
use Rattle.nv_top.proofs.LineLemmas.{head_layout_is}
use Rattle.nv_trace.specs.Traced.{Traced}
use Rattle.nv_trace.specs.Lives.{TracedLife}
use Rattle.nv_trace.specs.declared.trace_call.TracedCall.{TracedCall}
use Rattle.nv_trace.specs.declared.trace.Form.{Form}
use Rattle.nv_trace.specs.declared.trace.Form.TheVariants as forms
use Rattle.nv_runner.specs.ToldRounds.{TellsRounds}
use Rattle.nv_runner.specs.Faithful.{Basis}
use Rattle.nv_runner.specs.Histories.{PlacedCall}
use Rattle.nv_runner.specs.Lives.{RecoversBehind}
use Rattle.nv_load.specs.Generated.{generated}
use Rattle.nv_top.specs.Accepted.{IsAcceptedBehindPower, IsBlankOrGood, HasMadeRegion, NextIsAccepted, WhatIsMadeIsGood}
use Rattle.nv_top.specs.Commands.{IsBasis, IsLookedAt}
use Rattle.nv_top.specs.Endings.{OfRead}
use Rattle.nv_top.specs.Headline.{IsShown, IsShownOf, LeavesLife, UsesTurns}
use Rattle.nv_top.specs.LifeRows.{HaveEnded, LeaveLives, pick_next, tokens_next, trace_of, with_pick}
use Rattle.nv_top.specs.Leaving.{Leaves}
use Rattle.nv_top.specs.Lives.{LeavesRecovery, LeavesRun, TellsNothing}
use Rattle.nv_top.specs.Loads.{load_options}
use Rattle.nv_top.specs.Ready.{IsReady}
use Rattle.nv_top.specs.Reported.{HasReported}
use Rattle.nv_runner.specs.Reports.{Report, history_lines}
use Rattle.nv_top.specs.Rounds.{OfRounds}
use Rattle.nv_top.specs.Said.{Outcome}
use Rattle.nv_top.specs.Stopping.{RestsWith}
use Rattle.nv_top.specs.declared.ending.Stop.TheVariants.{Turns}
use Rattle.nv_words.specs.declared.words.Command.{Command}
use Rattle.nv_words.specs.declared.words.Command.TheVariants.{Run, Sched, Recover, Look, Gen}
use Rattle.nv_words.specs.declared.words.RunOptions.{RunOptions}
use Rattle.nv_top.proofs.CommandLemmas.{told_at}
use Rattle.nv_top.proofs.LifeLemmas.{all_whole, one_image}
use Rattle.nv_top.proofs.NextLemmas.{ended_quiet}
use Rattle.nv_top.proofs.PoweredHomes.{powered_lines}

-- what is so of each trace that is read so
of_read : (form : Form) (input : Option (List ℕ)) (P : Traced → Type 0) (Q : Type 0) → ((trace : Traced) → P trace → Q) → OfRead form input P → Q
of_read form None P Q each read = each read.0 read.3
of_read form (Some input) P Q each read = each read.0 read.2

-- ---- what is read of parts

-- the header's part has the header's lines
first_long : (layout : Layout) (parts : List Part) → layout.header_lines ≤ header_lines_in (rooms_of parts) → layout.header_lines ≤ length (header_part parts)
first_long layout [] enough = enough
first_long layout (part ∷ parts) enough = enough

-- a header that can be read of the parts' words can be read of its part, where that has its lines
read_of : (parts : List Part) → HasHeader parts → (head_layout parts).header_lines ≤ length (header_part parts) → CanBeRead parts
read_of parts read long =
    let lines = length (header_part parts) in
    let same = head_layout_is parts in
    let whole : IsHead (layout_in (row_words parts)) lines (head_image parts) =
    record {
      long_enough = subst (λ (layout : Layout). layout.header_lines ≤ lines) same long;
      fields = read.fields;
      names = λ i below. let good = read.names i below in record { whole = good.whole; new = good.new };
    } in
    subst (λ (layout : Layout). IsHead layout lines (head_image parts)) (sym same) whole

-- and the other way round
head_of : (parts : List Part) → CanBeRead parts → HasHeader parts
head_of parts read =
    let own = head_layout parts in
    let whole : IsHead own own.header_lines (row_words parts) =
    record { long_enough = omega arith; fields = read.fields; names = λ i below. let good = read.names i below in record { whole = good.whole; new = good.new } } in
    subst (λ (layout : Layout). IsHead layout layout.header_lines (row_words parts)) (head_layout_is parts) whole

blank_is : (parts : List Part) → is_blank parts ≡ true → IsBlank (row_words parts)
blank_is parts is = eqb-true (header_of (row_words parts)).magic 0 is

-- a good region isn't blank
pub not_blank : (parts : List Part) → IsGood parts → is_blank parts ≡ false
not_blank parts good = go (is_blank parts) refl
  where
    go : (b : Bool) → is_blank parts ≡ b → b ≡ false
    go true e = absurd (let blank = blank_is parts e in let magic = good.readable.fields.magic in omega (arith, blank, magic))
    go false e = refl

-- a region is good whose header can be read of its words, and which has the lines that this says and whole groups
good_of : (parts : List Part) → HasHeader parts → Fits (layout_in (row_words parts)) (row_words parts) → AreLong parts → IsGood parts
good_of parts read fits long = record { readable = read_of parts read (first_long (head_layout parts) parts long.header); long = long; fits = fits }

-- a header that can be read as one of a version is one of its own
own_header : (version : Version) (parts : List Part) → IsHead (layout_of version) (layout_of version).header_lines (row_words parts) → HasHeader parts
own_header version parts read =
    subst (λ (layout : Layout). IsHead layout layout.header_lines (row_words parts)) (sym (layout_is version (row_words parts) read.fields.version_is)) read

-- it has the lines that its header says, where it has those of these sizes, and the header says these
sizes_long : (page entries : ℕ) (parts : List Part) → (header_of (head_image parts)).page ≡ page → (header_of (head_image parts)).entries ≡ entries → HasLines (head_layout parts) page entries (rooms_of parts) → AreLong parts
sizes_long page entries parts page_is entries_are long =
    subst (λ n. HasLines (head_layout parts) n (header_of (head_image parts)).entries (rooms_of parts)) (sym page_is) (subst (λ n. HasLines (head_layout parts) page n (rooms_of parts)) (sym entries_are) long)

-- the parts of a region at its opening have the lines of its sizes
known_long : (geometry : Geometry) (parts : List Part) → IsBlankOrGood parts → HasLines mount_layout (page_known parts geometry) (entries_known parts geometry) (rooms_of (opened (Some geometry) parts))
known_long geometry parts sound =
    let made = opened (Some geometry) parts in
    elim sound [
      | inl blank ↦
          subst (λ n. HasLines mount_layout n (entries_known parts geometry) (rooms_of made)) (sym (blank_page parts geometry blank))
          (subst (λ n. HasLines mount_layout geometry.page n (rooms_of made)) (sym (blank_entries parts geometry blank)) ((long_opened geometry parts).blank (blank_stays geometry parts ∙ blank)))
      | inr good ↦
          let kept = not_blank parts good in
          subst (λ n. HasLines mount_layout n (entries_known parts geometry) (rooms_of made)) (sym (kept_page parts geometry kept))
          (subst (λ n. HasLines mount_layout (header_of (head_image parts)).page n (rooms_of made)) (sym (kept_entries parts geometry kept)) (mount_long geometry parts kept good.readable good.long))
    ]

-- ---- what is left, whatever power leaves of it

module _ (one_so : QuietPartHasOneImage) (power_so : PowerLeavesAnImage) (was : Holding) (sound : IsBlankOrGood was.parts) (still : IsQuietHolding was) where
  abbrev Accepts : Holding → Type 0
  Accepts now = AreWholeStores now → IsAcceptedBehindPower (is_blank was.parts ≡ true) now

  blank_or : (parts : List Part) → IsBlank (row_words parts) → is_blank was.parts ≡ true → IsGood parts ⊎ ((is_blank parts ≡ true) × (is_blank was.parts ≡ true))
  blank_or parts blank so = inr (ap (λ (n : ℕ). n == 0) blank, so)

  stands : StandForFiles was.parts
  stands = record {
    readable = λ not. elim sound [ inl blank ↦ absurd (true≢false (sym blank ∙ not)) | inr good ↦ head_of was.parts good.readable ];
    fits = λ not. elim sound [ inl blank ↦ absurd (true≢false (sym blank ∙ not)) | inr good ↦ good.fits ];
  }

  -- an image of the stores of some names
  bytes_of : (names : List (List ℕ)) (now : Holding) → AreWholeStores now → (bytes : Files) × AreStoreImages (stores_named names now.stores) bytes
  bytes_of names now whole =
      (record { contents = map (λ (store : Store). store.durable) (stores_named names now.stores) }, durable_images (stores_named names now.stores) (all_whole names now.stores whole))

  image_of : (now : Holding) → AreWholeStores now → (pick : Pick) → IsRowImage now.parts (row_words (powered pick now).parts)
  image_of now whole pick = (power_so pick now whole).0.parts

  -- the lines of what power leaves, where these have them
  lines_left : (layout : Layout) (now : Holding) (pick : Pick) (page entries : ℕ) (others : List Part) → line_counts now.parts ≡ line_counts others → HasLines layout page entries (rooms_of others)
      → HasLines layout page entries (rooms_of (powered pick now).parts)
  lines_left layout now pick page entries others same = long_alike layout page entries others (powered pick now).parts (sym (powered_lines (draws_of pick) now.parts ∙ same))

  -- those of what an opening gave out, whatever version the region has then
  opened_left : (geometry : Geometry) (now : Holding) (pick : Pick) → line_counts now.parts ≡ line_counts (opened (Some geometry) was.parts)
      → HasLines (head_layout (powered pick now).parts) (page_known was.parts geometry) (entries_known was.parts geometry) (rooms_of (powered pick now).parts)
  opened_left geometry now pick same =
      subst (λ (layout : Layout). HasLines layout (page_known was.parts geometry) (entries_known was.parts geometry) (rooms_of (powered pick now).parts)) (sym (own_layout (head_image (powered pick now).parts)))
      (either_long (version_in (head_image (powered pick now).parts)) (page_known was.parts geometry) (entries_known was.parts geometry) (rooms_of (powered pick now).parts)
      (lines_left mount_layout now pick (page_known was.parts geometry) (entries_known was.parts geometry) (opened (Some geometry) was.parts) same (known_long geometry was.parts sound)))

  opening_left : (geometry : Geometry) (wanted : List (List ℕ)) (now : Holding) → StandsOpening (line_counts (opened (Some geometry) was.parts)) geometry was wanted now → Accepts now
  opening_left geometry wanted now stands whole pick =
      let parts = (powered pick now).parts in
      let image = row_words parts in
      let bytes = bytes_of (names_in image) now whole in
      elim (stands.images image bytes.0 (image_of now whole pick) bytes.1) [
        | inl blank ↦ blank_or parts blank.1 blank.0
        | inr some ↦ inl (good_of parts some.readable some.stands.fits (sizes_long (page_known was.parts geometry) (entries_known was.parts geometry) parts some.page_is some.entries_is
            (opened_left geometry now pick stands.rest.lines_are)))
      ]

  lived_left : (options : RunOptions) (trace : Traced) (basis : Basis) (begun : IsBasis options was trace.names basis) (history : List PlacedCall) (now : Holding) → InEachImage (RecoversBehind basis trace history) now
      → line_counts now.parts ≡ line_counts (opened (Some begun.geometry) was.parts) → Accepts now
  lived_left options trace basis begun history now images counted whole pick =
      let parts = (powered pick now).parts in
      let image = row_words parts in
      let bytes = bytes_of (names_in image) now whole in
      let behind = images image bytes.0 (image_of now whole pick) bytes.1 in
      let geometry = begun.geometry in
      inl (good_of parts (own_header mount_version parts behind.readable) (fits_own mount_version image behind.readable.fields.version_is behind.fits) (sizes_long (page_known was.parts geometry) (entries_known was.parts geometry) parts
      (behind.page_is ∙ sym (known_page was.parts geometry basis.sizes.page basis.sizes.entries begun.known basis.next begun.begun))
      (behind.entries_is ∙ sym (known_entries was.parts geometry basis.sizes.page basis.sizes.entries begun.known basis.next begun.begun))
      (opened_left geometry now pick counted)))

  recovery_left : IsGood was.parts → (now : Holding) → StandsAsBefore was now → Accepts now
  recovery_left good now before whole pick =
      let parts = (powered pick now).parts in
      let bytes = bytes_of (header_names was.parts) now whole in
      let takes = before.stands (row_words parts) bytes.0 (image_of now whole pick) bytes.1 in
      let header = header_of (head_image was.parts) in
      let same : head_layout parts ≡ head_layout was.parts = head_layout_is parts ∙ layout_same (row_words was.parts) (row_words parts) takes.header.version ∙ sym (head_layout_is was.parts) in
      inl (good_of parts takes.header.readable (takes.files good.fits).fits (sizes_long header.page header.entries parts takes.header.page takes.header.entries
      (subst (λ (layout : Layout). HasLines layout header.page header.entries (rooms_of parts)) (sym same)
      (lines_left (head_layout was.parts) now pick header.page header.entries was.parts before.rest.lines_are good.long))))

  -- the same parts
  same_left : (now : Holding) → now.parts ≡ was.parts → Accepts now
  same_left now same whole pick =
      let parts = (powered pick now).parts in
      let image : row_words parts ≡ row_words was.parts = one_image one_so was.parts (row_words parts) still.parts (subst (λ p. IsRowImage p (row_words parts)) same (image_of now whole pick)) in
      let header = header_of (head_image was.parts) in
      elim sound [
        | inl blank ↦ blank_or parts (subst IsBlank (sym image) (blank_is was.parts blank)) blank
        | inr good ↦ inl (good_of parts (subst (λ (one : Image). IsHead (layout_in one) (layout_in one).header_lines one) (sym image) (head_of was.parts good.readable)) (subst (λ (one : Image). Fits (layout_in one) one) (sym image) good.fits)
            (sizes_long header.page header.entries parts (ap (λ (one : Image). (header_of one).page) image) (ap (λ (one : Image). (header_of one).entries) image)
            (subst (λ (layout : Layout). HasLines layout header.page header.entries (rooms_of parts)) (head_layout_is was.parts ∙ ap layout_in (sym image) ∙ sym (head_layout_is parts)) (lines_left (head_layout was.parts) now pick header.page header.entries was.parts (ap line_counts same) good.long))))
      ]

  -- ---- what a command tells

  module _ (here : Holding) (told : Option Holding) (told_is : told ≡ Some here) where
    told_so : (P : Holding → Type 0) (tells : TellsOf P told) → ((now : Holding) → P now → Accepts now) → Accepts here
    told_so P tells each = subst Accepts (same (sym tells.told_is ∙ told_is)) (each tells.now tells.is_so)
      where
        same : {x y : Holding} → Some x ≡ Some y → x ≡ y
        same {x} {y} is = cc

    same_told : told ≡ Some was → Accepts here
    same_told is = same_left here (ap (λ (h : Holding). h.parts) (same (sym told_is ∙ is)))
      where
        same : {x y : Holding} → Some x ≡ Some y → x ≡ y
        same {x} {y} is = cc

    run_left : {Tells : Basis → Traced → (shown later : List PlacedCall) → Type 0} (options : RunOptions) (trace : Traced) (shown : List PlacedCall) → LeavesRun Tells options was trace shown told → Accepts here
    run_left options trace shown run = elim (run.stands stands) [
      | inl none ↦ elim none.1 [
        | inl same ↦ same_told same
        | inr made ↦ told_so _ made.left (λ now is. opening_left made.geometry trace.names now is)
      ]
      | inr lived ↦ told_so _ lived.lived.images (λ now is. lived_left options trace lived.basis lived.begun lived.lived.history now is.0 is.1.lines_are)
    ]

    recovered_left : LeavesRecovery was told → Accepts here
    recovered_left leaves = elim sound [
      | inr good ↦ told_so (StandsAsBefore was) (leaves.stands (head_of was.parts good.readable)) (recovery_left good)
      | inl blank ↦ told_so (IsUntouched was) (leaves.untouched (λ good. true≢false (sym blank ∙ not_blank was.parts good))) (λ now is. same_left now (ap (λ (h : Holding). h.parts) is.now_is))
    ]

    trace_left : (Tells : Basis → Traced → (shown later : List PlacedCall) → Type 0) (options : RunOptions) (shown : List PlacedCall) (form : Form) (input : Option (List ℕ)) → OfRead form input (λ trace. LeavesRun Tells options was trace shown told) → Accepts here
    trace_left Tells options shown form input run = of_read form input _ (Accepts here) (λ trace leaves. run_left options trace shown leaves) run

    rounds_left : (Tells : Basis → Traced → (shown later : List PlacedCall) → Type 0) (options : RunOptions) (shown : List PlacedCall) (input : Option (List ℕ)) → OfRounds input (λ trace. LeavesRun Tells options was trace shown told) → Accepts here
    rounds_left Tells options shown None run = trace_left Tells options shown forms.Run None run
    rounds_left Tells options shown (Some input) run = trace_left Tells options shown forms.Run (Some run.0) run.2

some_parts : (one other : Holding) → Some one ≡ Some other → one.parts ≡ other.parts
some_parts one other is = ap (λ (h : Holding). h.parts) (same is)
  where
    same : Some one ≡ Some other → one ≡ other
    same is = cc

looked : (files : Bool) (old new : BenchState) (was here : Holding) → IsLookedAt files old new → old.told ≡ Some was → new.told ≡ Some here → here.parts ≡ was.parts
looked false old new was here is told_was told_here = some_parts here was (sym told_here ∙ ap (λ (s : BenchState). s.told) is ∙ told_was)
looked true old new was here is told_was told_here = some_parts here _ (sym told_here ∙ is.1.1 ∙ ap (told_by (names_until is.1.0)) told_was)

-- ---- what is made is good

-- the words of parts are an image of them
pub own_image : (parts : List Part) → IsRowImage parts (row_words parts)
own_image parts = record { each = λ i. image_of_now (slice_index_or parts i []) }

rest_good : (version : Version) (page entries next : ℕ) (names : List (List ℕ)) (parts : List Part) → IsAtRest (layout_of version) page entries names next parts → HasLines (layout_of version) page entries (rooms_of parts)
    → IsGood parts
rest_good version page entries next names parts rest long =
    let empty = rest.empty (row_words parts) (own_image parts) in
    let header = empty.header in
    let own : head_layout parts ≡ layout_of version = head_layout_is parts ∙ layout_is version (row_words parts) header.readable.fields.version_is in
    let all : AreLong parts = sizes_long page entries parts header.page_is header.entries_is (subst (λ (layout : Layout). HasLines layout page entries (rooms_of parts)) (sym own) long) in
    record {
      readable = read_of parts (own_header version parts header.readable) (first_long (head_layout parts) parts all.header);
      long = all;
      fits = empty_fits (layout_in (row_words parts)) (row_words parts) (empty_none page entries names next (row_words parts) empty);
    }

same_parts : (now here : Holding) (told : Option Holding) → told ≡ Some now → told ≡ Some here → IsGood now.parts → IsGood here.parts
same_parts now here told one other good = subst (λ (h : Holding). IsGood h.parts) (same (sym one ∙ other)) good
  where
    same : Some now ≡ Some here → now ≡ here
    same is = cc

module _ (here : Holding) (told : Option Holding) (told_is : told ≡ Some here) where
  leaves_good : {version : Version} {want : Option Geometry} {names : List (List ℕ)} {files : Files} {was : Holding} → Leaves version want names files was told → IsGood here.parts
  leaves_good {version} {want} {names} {files} {was} leaves =
      let left = leaves.left in
      same_parts leaves.now here told leaves.told_is told_is (rest_good version left.page left.entries left.next names leaves.now.parts left.rest left.long)

  rests_good : {version : Version} {page entries next many : ℕ} {names : List (List ℕ)} {files : Files} {others : List NamedStore} → RestsWith version page entries names next files many others told → IsGood here.parts
  rests_good {version} {page} {entries} {next} {many} {names} {files} {others} rests = same_parts rests.now here told rests.told_is told_is (rest_good version page entries next names rests.now.parts rests.rests.rest rests.long)

-- lives that crashes ended left it so
pub ended_good : (options : RunOptions) (trace : Traced) (life : TracedLife) (later : List TracedLife) (calls left : List TracedCall) (old new : BenchState) (was now : Holding) (reports : List Report)
    → HaveEnded options trace (life ∷ later) calls left old new was now reports → IsGood now.parts
ended_good options trace life [] calls left old new was now reports (behind, then_, held, rest, one, are, (calls_are, same, holds, none)) =
    subst (λ (holding : Holding). IsGood holding.parts) (sym holds) (rests_good held then_.told one.tells one.followed.scheduled.left.lost.rests)
ended_good options trace life (next ∷ later) calls left old new was now reports (behind, then_, held, rest, one, are, ended) =
    ended_good options trace next later behind left then_ new held now rest ended

-- by the command
module _ (one_so : QuietPartHasOneImage) (power_so : PowerLeavesAnImage) (given left : Option (List ℕ)) (before now : ℕ) (old new : BenchState) (shown : List PlacedCall) (result : Outcome) (was here : Holding)
    (ready : IsReady old) (told_was : old.told ≡ Some was) (told_here : new.told ≡ Some here) (whole : AreWholeStores here) (sound : IsBlankOrGood was.parts) where
  still_was : IsQuietHolding was
  still_was = told_at old.told IsQuietHolding was told_was ready.at_home.quiet

  -- behind some lives that crashes ended the region is good, where there was one, and the next one leaves it so
  lives_left : (options : RunOptions) (trace : Traced) → LeaveLives options old new was trace → IsAcceptedBehindPower (is_blank was.parts ≡ true) here
  lives_left options trace leaves = by leaves.first leaves.ended
    where
      next : RunOptions
      next = with_pick (pick_next options leaves.later) options

      life : Traced
      life = trace_of trace leaves.left (tokens_next trace leaves.later)

      by : (first : List TracedLife) → HaveEnded options trace first trace.calls leaves.left old leaves.mid was leaves.here leaves.reports → IsAcceptedBehindPower (is_blank was.parts ≡ true) here
      by [] (calls_are, same, holds, none) =
          run_left one_so power_so was sound still_was here new.told told_here next life [] (subst (λ (one : Holding). LeavesRun TellsNothing next one life [] new.told) holds leaves.next) whole
      by (one ∷ later) ended =
          let good = ended_good options trace one later trace.calls leaves.left old leaves.mid was leaves.here leaves.reports ended in
          let quiet = ended_quiet options trace (one ∷ later) trace.calls leaves.left old leaves.mid was leaves.here leaves.reports ended still_was in
          λ pick. elim (run_left one_so power_so leaves.here (inr good) quiet here new.told told_here next life [] leaves.next whole pick) [
            | inl stays ↦ inl stays
            | inr blank ↦ absurd (true≢false (sym blank.1 ∙ not_blank leaves.here.parts good))
          ]

  by_command : (command : Command) → HasReported (Some command) given left before now old new shown result → IsAcceptedBehindPower (is_blank was.parts ≡ true) here
  by_command (Run options) came = elim (told_at old.told (λ was. LeavesLife (Rose old.faults new.faults) (Run options) given old new was shown) was told_was (came.life (Run options) refl)) [
    | inl same ↦ same_told one_so power_so was sound still_was here new.told told_here same.1 whole
    | inr run ↦ elim run [
      | inl all ↦ trace_left one_so power_so was sound still_was here new.told told_here (TellsRounds (Rose old.faults new.faults) options.worker) options shown forms.Run given all whole
      | inr rounds ↦ rounds_left one_so power_so was sound still_was here new.told told_here (TellsRounds (Rose old.faults new.faults) options.worker) options shown given rounds whole
    ]
  ]
  by_command (Sched options) came = elim (told_at old.told (λ was. LeavesLife (Rose old.faults new.faults) (Sched options) given old new was shown) was told_was (came.life (Sched options) refl)) [
    | inl same ↦ same_told one_so power_so was sound still_was here new.told told_here same whole
    | inr run ↦ of_read forms.Sched given _ (IsAcceptedBehindPower (is_blank was.parts ≡ true) here) (λ trace leaves. lives_left options trace leaves) run
  ]
  by_command Recover came = recovered_left one_so power_so was sound still_was here new.told told_here (told_at old.told _ was told_was (came.life Recover refl)) whole
  by_command (Look files) came = same_left one_so power_so was sound still_was here (looked files old new was here (came.back (Look files) refl) told_was told_here) whole
  by_command (Gen load) came = run_left one_so power_so was sound still_was here new.told told_here load_options (generated load) [] (told_at old.told _ was told_was (came.life (Gen load) refl)) whole

pub next_is_accepted : QuietPartHasOneImage → PowerLeavesAnImage → NextIsAccepted
next_is_accepted one_so power_so command given left before now old new shown result was here came ready told_was told_here whole sound =
    by_command one_so power_so given left before now old new shown result was here ready told_was told_here whole sound command came

-- ---- what is shown is good

module _ (given left : Option (List ℕ)) (before now : ℕ) (old new : BenchState) (shown : List PlacedCall) (result : Outcome) (was here : Holding) (told_was : old.told ≡ Some was) (told_here : new.told ≡ Some here) where
  abbrev Came : Command → Type 0
  Came command = HasReported (Some command) given left before now old new shown result

  shown_run : (options : RunOptions) (stop : Option ℕ) (trace : Traced) (text : List ℕ) → IsShownOf stop options old new was trace text → IsGood here.parts
  shown_run options None trace text shown = leaves_good here new.told told_here shown.left
  shown_run options (Some k) trace text shown = rests_good here new.told told_here shown.stopped.left.lost.rests

  shown_good : (command : Command) (text : List ℕ) → HasMadeRegion command result → IsShown command given old new was text → IsGood here.parts
  shown_good (Run options) text made shows = of_read forms.Run given _ (IsGood here.parts) (λ trace run. shown_run options options.stop trace text run) shows
  shown_good (Sched options) text made shows = of_read forms.Sched given _ (IsGood here.parts) (λ trace run. rests_good here new.told told_here run.last.scheduled.left.lost.rests) shows
  shown_good Recover text made shows = leaves_good here new.told told_here shows.left
  shown_good (Look files) text made shows = absurd made
  shown_good (Gen load) text made shows = leaves_good here new.told told_here shows.ran.left

  shown_ok : (command : Command) → Came command → HasMadeRegion command result → (text : Vec ℕ) → result ≡ Ok text → IsGood here.parts
  shown_ok command came made text is =
      let Shows : Outcome → Type 0 = λ outcome. IfOk outcome (λ text. (command_too : Command) → Some command ≡ Some command_too → IfSome old.told (λ holding. IsShown command_too given old new holding (history_lines 0 shown ++ text.items))) in
      shown_good command (history_lines 0 shown ++ text.items) made (told_at old.told (λ holding. IsShown command given old new holding (history_lines 0 shown ++ text.items)) was told_was (subst Shows is came.report command refl))

  turns_good : (command : Command) → Came command → result ≡ Err Turns → IsGood here.parts
  turns_good command came is =
      let turns = came.turns is in
      of_read forms.Sched given _ (IsGood here.parts) (λ trace used. rests_good here new.told told_here used.next.used.left.lost.rests)
      (told_at old.told (UsesTurns turns.0 given old new) was told_was (came.turns_used is turns.0 turns.1))

  ok_or_turns : (command : Command) → Came command → HasMadeRegion command result → IsOk result ⊎ (result ≡ Err Turns) → IsGood here.parts
  ok_or_turns command came made (inr turns) = turns_good command came turns
  ok_or_turns command came made (inl ok) = go result refl
    where
      go : (outcome : Outcome) → result ≡ outcome → IsGood here.parts
      go (Ok text) e = shown_ok command came made text e
      go (Err stop) e = absurd (true≢false (sym ok ∙ ap (λ (o : Outcome). is_ok o) e))

  made_good : (command : Command) → Came command → HasMadeRegion command result → IsGood here.parts
  made_good (Look files) came made = absurd made
  made_good (Run options) came made = ok_or_turns (Run options) came made made
  made_good (Sched options) came made = ok_or_turns (Sched options) came made made
  made_good Recover came made = ok_or_turns Recover came made made
  made_good (Gen load) came made = ok_or_turns (Gen load) came made made

pub what_is_made_is_good : WhatIsMadeIsGood
what_is_made_is_good command given left before now old new shown result was here came told_was told_here made = made_good given left before now old new shown result was here told_was told_here command came made
